-- A system type in which nothing is broken: its bodies are typed, and the rules and the meaning
-- agree about it.
use Rattle.std.proofs.Common.{◌≡◌, ◌<◌, ◌≤◌, ap₂, inl, inr, ℕ, zero, suc, ◌+◌, true, false, List, [], ◌∷◌, ◌++◌, Some, None, if◌then◌else◌, get_or, slice_get, length, take, drop, refl, ap, sym, subst, ◌∙◌, arith, append-nil, length-append, codes}
use Rattle.std.proofs.lemmas.Bool.{true≢false}
use Rattle.std.proofs.Math.Seq.{get_or-append_seam}
use Rattle.cp_model.specs.Syntax as s
use Rattle.cp_model.specs.Abstract as a
use Rattle.cp_model.specs.Erase as erase
use Rattle.cp_model.specs.declared.tree.Identifier.{Identifier}
use Rattle.cp_model.specs.declared.rules.Entity.TheVariants as entity
use Rattle.cp_model.specs.declared.rules.Structure.TheVariants as structure
use Rattle.cp_model.specs.declared.rules.Member.{Member}
use Rattle.cp_model.specs.declared.rules.Member.TheVariants as member
use Rattle.cp_model.specs.declared.rules.TypeRow.{TypeRow}
use Rattle.cp_model.specs.declared.rules.SystemRow.{SystemRow}
use Rattle.cp_model.specs.declared.rules.Standard.TheVariants as standard
use Rattle.cp_model.specs.declared.rules.Part.TheVariants as part
use Rattle.cp_model.specs.RulesEnvironment.{Environment, Members as MemberList, Names, Text, c1_declared, declare, is_process, no_system, parameters_from, queue_row, row_of, system_in, system_row, with_names}
use Rattle.cp_model.specs.RulesTypes.{cap_words, word_limit}
use Rattle.cp_model.specs.RulesNeeds.{need_statements}
use Rattle.cp_model.specs.RulesStatements.{statements}
use Rattle.cp_model.specs.RulesDeclarations.{Declared, Heading, Variables, heading, routines, variables, declare_each}
use Rattle.cp_model.specs.Rules.{define_system, routine_members, variable_position}
use Rattle.cp_model.specs.Types.{ComponentOf, GlobalScope, Members, ResolvedType}
use Rattle.cp_model.specs.Declarations.{reported_members}
use Rattle.cp_model.specs.Names.{lookup}
use Rattle.cp_law_typing.specs.Declared.{Each, SystemParameter, SystemVariable}
use Rattle.cp_law_typing.specs.Words.{words as type_words}
use Rattle.cp_law_typing.specs.Needs.{owner_words, statement_need}
use Rattle.cp_law_typing.specs.WellTyped.{Later}
use Rattle.cp_law_typing.proofs.VariableKinds.{system_parameters, system_variables}
use Rattle.cp_law_typing.proofs.Owners.{counted_elsewhere}
use Rattle.cp_law_typing.proofs.Names.{AllDistinct, keys, keys-append, lookup_first, none_has}
use Rattle.cp_model.proofs.Judging.{first_empty, rest_empty}
use Rattle.cp_law_typing.proofs.TypeRows.{grows_by, tables_added}
use Rattle.cp_law_typing.proofs.TableMeanings.{Grows, HeadingAs, NamesAs, ParametersAs, RoutineOf, SystemAs, Tables, TypeAt, Types, grows_on, grows_same, heading_kept, parameters_kept, routine_of_kept, slice_first, slice_last, slice_seam}
use Rattle.cp_law_typing.proofs.Visible.{some_same}
use Rattle.cp_law_typing.proofs.DeclaredVariables.{VariablesMade, variables_made}
use Rattle.cp_law_typing.proofs.DeclaredNames.{each_declared, names_of, declare_new, declared_new, names_local, names_more, tables_grown, tables_same}
use Rattle.cp_law_typing.proofs.Headings.{HeadingMade, heading_made}
use Rattle.cp_law_typing.proofs.ComponentScopes.{RoutinesMade, taken_behind}
use Rattle.cp_law_typing.proofs.RoutineNames.{all_distinct}
use Rattle.cp_law_typing.proofs.Members.{members_of, rows_length}
use Rattle.cp_law_typing.proofs.TypeOrder.{AllBefore, ParametersBefore, all_before, one_before}
use Rattle.cp_law_typing.proofs.Stages.{Defined, KeepsRest, SchedulingState, SystemTyped, later_on, later_same, last_found, typed_later, outer_more, first_there, not_first, stage_named, type_later}
use Rattle.cp_law_typing.proofs.MemberNames.{all_by_value, member_known}
use Rattle.cp_law_typing.proofs.SystemWords.{Counted, class_fits, owner_fits}
use Rattle.cp_law_typing.proofs.ComponentBodies.{Opened, Inside, open_scope, bodies_typed, body_need, routines_all}

-- ---- a definition of a system type

module _ (env : Environment) (g : GlobalScope) (rs : Types) (ys : List a.System) (x : Identifier) (y : s.System) (stage : SchedulingState env g rs ys)
    (sound : (define_system env x y).violations ≡ []) where
  abbrev G : GlobalScope → Type 0
  G = Later g

  abbrev named : Environment
  named = declare x entity.UnfinishedType env

  abbrev head : Heading
  head = heading named (Some y.sort) false y.parameters

  abbrev outside : Environment
  outside = record named { parameters = env.parameters ++ head.rows; region = record { sort = y.sort; part = part.Body } }

  abbrev inside : Environment
  inside = (declare_each outside head.bound).env

  abbrev own : Variables
  own = variables inside (variable_position y.sort) y.variables

  abbrev behind : Declared
  behind = routines own.env y.sort y.routines

  four : c1_declared env x ++ head.violations ++ own.violations ++ behind.violations ≡ []
  four = first_empty _ (statements behind.env y.body.list) sound

  three : c1_declared env x ++ head.violations ++ own.violations ≡ []
  three = first_empty _ behind.violations four

  two : c1_declared env x ++ head.violations ≡ []
  two = first_empty _ own.violations three

  none : lookup x.name env.names ≡ None
  none = declared_new env x (first_empty (c1_declared env x) _ two)

  abbrev named_names : Names
  named_names = env.names ++ (x.name, entity.UnfinishedType) ∷ []

  named_is : named ≡ with_names named_names env
  named_is = declare_new env x entity.UnfinishedType none

  names_named : NamesAs G rs named.names
  names_named = subst (λ e. NamesAs G rs e.names) (sym named_is) (names_more G rs env.names x.name entity.UnfinishedType stage.globals tt)

  tables_named : Tables G named rs
  tables_named = subst (λ e. Tables G e rs) (sym named_is) (tables_same G env (with_names named_names env) rs refl refl refl refl refl stage.tables)

  made_head : HeadingMade G named rs (Some y.sort) false y.parameters head
  made_head = heading_made G y.parameters named rs (Some y.sort) false names_named tables_named (rest_empty (c1_declared env x) head.violations two)

  abbrev opened : Environment
  opened = with_names (named.names ++ names_of head.bound) outside

  inside_is : inside ≡ opened
  inside_is = each_declared head.bound outside made_head.new

  grows_outside : Grows named outside rs rs
  grows_outside = grows_by named outside rs rs [] (record {
    types = [];
    types_are = sym (append-nil named.types);
    members = [];
    members_are = sym (append-nil named.members);
    routines = [];
    routines_are = sym (append-nil named.routines);
    systems = [];
    systems_are = sym (append-nil named.systems);
    parameters = head.rows;
    parameters_are = refl;
  }) (sym (append-nil rs))

  names_opened : NamesAs G rs opened.names
  names_opened = names_local G true rs named.names (names_of head.bound) made_head.declared names_named made_head.meets

  tables_opened : Tables G opened rs
  tables_opened = tables_same G outside opened rs refl refl refl refl refl (tables_grown G named outside rs refl grows_outside tables_named)

  distinct_named : AllDistinct (keys named.names)
  distinct_named = subst (λ e. AllDistinct (keys e.names)) (sym named_is)
      (subst AllDistinct (sym (keys-append env.names ((x.name, entity.UnfinishedType) ∷ []))) (all_distinct (keys env.names) (x.name ∷ []) stage.distinct (none_has x.name env.names none, tt)))

  scope_opened : Inside G ys y opened rs
  scope_opened = record {
    outer = named.names;
    bound = names_of head.bound;
    names = refl;
    distinct = subst AllDistinct (sym (keys-append named.names (names_of head.bound))) (all_distinct (keys named.names) (keys (names_of head.bound)) distinct_named made_head.new);
    globals = names_opened;
    outer_as = names_named;
    is_outer = λ z e h. outer_more env.names x.name entity.UnfinishedType stage.is_outer tt z e (sym (ap (λ w. lookup z w.names) named_is) ∙ h);
    clock = ap (λ w. lookup (codes "realtime") w.names) named_is ∙ lookup_first (codes "realtime") env.names ((x.name, entity.UnfinishedType) ∷ []) (entity.Standard standard.Realtime) stage.clock;
    declared = made_head.declared;
    declares = made_head.declares;
    meets = made_head.meets;
    by_value = all_by_value y.sort made_head.declared made_head.written;
    tables = tables_opened;
    systems = stage.systems;
    region = refl;
  }

  scope_inside : Inside G ys y inside rs
  scope_inside = subst (λ e. Inside G ys y e rs) (sym inside_is) scope_opened

  made : VariablesMade G inside rs (variable_position y.sort) y.variables own.env own.words
  made = variables_made G y.variables inside rs (variable_position y.sort) scope_inside.globals scope_inside.tables (rest_empty (c1_declared env x ++ head.violations) own.violations three)

  opened_scope : Opened G ys y (variable_position y.sort) own.env made.more
  opened_scope = open_scope G ys y (variable_position y.sort) inside rs scope_inside made (rest_empty (c1_declared env x ++ head.violations ++ own.violations) behind.violations four)

  routines_sound : behind.violations ≡ []
  routines_sound = rest_empty (c1_declared env x ++ head.violations ++ own.violations) behind.violations four

  body_sound : statements behind.env y.body.list ≡ []
  body_sound = rest_empty (c1_declared env x ++ head.violations ++ own.violations ++ behind.violations) _ sound

  all_made : RoutinesMade G ys (erase.system y) own.env made.more 0 y.routines behind.env
  all_made = routines_all G ys y (variable_position y.sort) own.env made.more opened_scope routines_sound body_sound

  abbrev meaning : a.System
  meaning = erase.system y

  pub type_is_typed : SystemTyped g ys (erase.system y)
  type_is_typed h l = record {
    parameters = subst (Each (SystemParameter h ys meaning.sort)) (sym (made_head.declares h l))
        (system_parameters G ys inside rs scope_inside.tables stage.systems h l y.sort (names_of head.bound) made_head.declared made_head.parameters made_head.written made_head.meets);
    variables = subst (Each (SystemVariable h ys meaning.sort)) (sym (made.declares h l))
        (system_variables G ys own.env made.more made.tables (λ t w i k. stage.systems t w i (made.components t w i k)) h l y.sort made.entries_of made.declared made.placed made.meets);
    bodies = bodies_typed G ys y (variable_position y.sort) own.env made.more opened_scope routines_sound body_sound h l;
  }

  -- ---- what the definition adds

  abbrev place : ℕ
  place = length behind.env.types

  abbrev words : ℕ
  words = cap_words (1 + length head.rows + own.words + (if is_process y.sort then need_statements behind.env y.body.list else 0))

  abbrev row : TypeRow
  row = record { structure = structure.System (length behind.env.systems); words = words; has_queues = false }

  abbrev member_list : MemberList
  member_list = routine_members (drop (length named.names) behind.env.names)

  abbrev system_is : SystemRow
  system_is = record {
    sort = y.sort;
    first = length env.parameters;
    count = length head.rows;
    words = words;
    body_need = need_statements behind.env y.body.list;
    members = length behind.env.members;
  }

  abbrev closed : Environment
  closed = record behind.env {
    names = env.names;
    types = behind.env.types ++ row ∷ [];
    members = behind.env.members ++ member_list ∷ [];
    systems = behind.env.systems ++ system_is ∷ [];
    region = env.region;
  }

  abbrev type : ResolvedType
  type = ComponentOf meaning (reported_members g meaning)

  abbrev after_types : Types
  after_types = all_made.more ++ type ∷ []

  grows_closed : Grows behind.env closed all_made.more after_types
  grows_closed = grows_by behind.env closed all_made.more after_types (type ∷ []) (record {
    types = row ∷ [];
    types_are = refl;
    members = member_list ∷ [];
    members_are = refl;
    routines = [];
    routines_are = sym (append-nil behind.env.routines);
    systems = system_is ∷ [];
    systems_are = refl;
    parameters = [];
    parameters_are = sym (append-nil behind.env.parameters);
  }) refl

  types_inside : inside.types ≡ env.types
  types_inside = ap (λ e. e.types) inside_is ∙ ap (λ e. e.types) named_is

  grows_inside : Grows env inside rs rs
  grows_inside = subst (λ e. Grows env e rs rs) (sym inside_is)
      (grows_on env named opened rs rs rs (omega (arith, ap (λ e. length e.types) named_is))
      (subst (λ e. Grows env e rs rs) (sym named_is) (grows_same env (with_names named_names env) rs refl refl refl refl refl))
      (grows_on named outside opened rs rs rs (omega arith) grows_outside (grows_same outside opened rs refl refl refl refl refl)))

  grows_own : Grows own.env closed made.more after_types
  grows_own = grows_on own.env behind.env closed made.more all_made.more after_types all_made.longer all_made.grows grows_closed

  grows_env : Grows env closed rs after_types
  grows_env = grows_on env inside closed rs rs after_types (omega (arith, ap length types_inside)) grows_inside
      (grows_on inside own.env closed rs made.more after_types made.longer made.grows grows_own)

  parameters_own : own.env.parameters ≡ env.parameters ++ head.rows
  parameters_own = ap (λ e. e.parameters) made.same ∙ ap (λ e. e.parameters) inside_is

  row_there : system_row closed (length behind.env.systems) ≡ system_is
  row_there = get_or-append_seam behind.env.systems system_is [] no_system

  members_there : get_or closed.members (system_row closed (length behind.env.systems)).members [] ≡ member_list
  members_there = ap (λ w. get_or closed.members w.members []) row_there ∙ get_or-append_seam behind.env.members member_list [] []

  own_heading : HeadingAs G own.env made.more (length env.parameters) (length head.rows) meaning.parameters
  own_heading = record {
    variables = made_head.declared;
    declares = made_head.declares;
    within = omega (arith, ap length parameters_own, length-append env.parameters head.rows);
    rows = subst (λ l. ParametersAs made.more l made_head.declared)
        (sym (ap (λ l. take (length head.rows) (drop (length env.parameters) l)) parameters_own ∙ taken_behind G ys meaning env.parameters head.rows))
        (parameters_kept G inside own.env rs made.more made.grows head.rows made_head.declared made_head.rows);
  }

  entry_of : (z : Text) (m : Member) → lookup z member_list ≡ Some m → (r : ℕ) × (m ≡ member.Routine r) × RoutineOf G closed after_types r z meaning
  entry_of z m h =
      let k = member_known G ys meaning behind.env all_made.more (0 + length y.routines) all_made.behind (length named.names) z m h in
      (k.0, k.1, routine_of_kept G behind.env closed all_made.more after_types grows_closed k.0 z meaning k.2)

  members_here : (h : GlobalScope) → G h → reported_members h meaning ≡ members_of made_head.declared made.declared
  members_here h i = ap₂ members_of (made_head.declares h i) (made.declares h i)

  members_same : (h : GlobalScope) → G h → reported_members g meaning ≡ reported_members h meaning
  members_same h i = members_here g (later_same g) ∙ sym (members_here h i)

  own_body_need : (k : ℕ) (h : GlobalScope) → G h → need_statements behind.env y.body.list ≤ word_limit
      → statement_need k h meaning None meaning.body ≤ need_statements behind.env y.body.list
  own_body_need k h i fits = body_need G ys y (variable_position y.sort) own.env made.more opened_scope routines_sound body_sound k h i fits

  counted : (h : GlobalScope) → G h → Counted y h made_head.declared made.declared (length head.rows) own.words
  counted h i = record {
    declares = made_head.declares h i;
    members = members_here h i;
    parameters = made_head.parameters;
    count = rows_length rs head.rows made_head.declared made_head.rows;
    words = made.words h i;
  }

  system_as : SystemAs G closed after_types (length behind.env.systems) meaning
  system_as = record {
    within = omega (arith, length-append behind.env.systems (system_is ∷ []));
    sort = ap (λ w. erase.sort_of w.sort) row_there;
    heading = subst (λ w. HeadingAs G closed after_types w.first w.count meaning.parameters) (sym row_there)
        (heading_kept G own.env closed made.more after_types grows_own (length env.parameters) (length head.rows) meaning.parameters own_heading);
    within_members = subst (λ w. w.members < length closed.members) (sym row_there) (omega (arith, length-append behind.env.members (member_list ∷ [])));
    routines = λ z m h. entry_of z m (sym (ap (lookup z) members_there) ∙ h);
    body_need = λ k h i. subst (λ w. w.body_need ≤ word_limit → statement_need k h meaning None meaning.body ≤ w.body_need) (sym row_there) (own_body_need k h i);
    words = λ k h i. subst (λ w. w.words ≤ word_limit → owner_words k h meaning ≤ w.words) (sym row_there) (owner_fits y h made_head.declared made.declared (length head.rows) own.words (counted h i) (need_statements behind.env y.body.list) k (own_body_need k h i));
  }

  class_words : (h : GlobalScope) → G h → words ≤ word_limit → type_words h type ≤ words
  class_words h i fits =
      subst (λ m. type_words h (ComponentOf meaning m) ≤ words) (sym (members_same h i))
      (class_fits y h made_head.declared made.declared (length head.rows) own.words (counted h i) (need_statements behind.env y.body.list) fits)

  tables_closed : Tables G closed after_types
  tables_closed = tables_added G behind.env closed all_made.more row type all_made.behind.tables refl grows_closed
      (record { structure = system_as; queues = refl; sound = λ h. absurd (true≢false h); words = class_words; reported = members_same })

  abbrev scope_behind : GlobalScope
  scope_behind = record g { types = (x.name, type) ∷ g.types }

  later_behind : Later g scope_behind
  later_behind = type_later x.name type g (stage.seen x.name none).1

  systems_behind : (t : ℕ) (w : a.System) (i : Members) → TypeAt after_types t (ComponentOf w i) → (j : ℕ) × (slice_get (ys ++ meaning ∷ []) j ≡ Some w)
  systems_behind t w i h = elim (slice_last all_made.more type t (ComponentOf w i) h) [
    | inl e ↦
        let k : (j : ℕ) × (slice_get ys j ≡ Some w) = stage.systems t w i (made.components t w i (all_made.components t w i e)) in
        (k.0, slice_first ys (meaning ∷ []) k.0 w k.1)
    | inr e ↦ (length ys, slice_seam ys meaning ∙ ap (λ r. Some (system_in r)) e.1)
  ]
    where
      system_in : ResolvedType → a.System
      system_in (ComponentOf w i) = w
      system_in _ = meaning

  -- the parameters have types that were there before
  earlier_behind : ParametersBefore closed after_types
  earlier_behind t n w i there is = elim (slice_last all_made.more type t (ComponentOf w i) there) [
    | inl e ↦ one_before G env closed rs after_types stage.tables grows_env stage.earlier t n w i (made.components t w i (all_made.components t w i e)) is
    | inr e ↦ new e.0
  ]
    where
      new : t ≡ length all_made.more → AllBefore t (parameters_from closed (system_row closed n).first (system_row closed n).count)
      new at =
          let row_is : row_of closed t ≡ row =
          ap (λ k. row_of closed k) (at ∙ sym all_made.behind.tables.lengths) ∙ get_or-append_seam behind.env.types row [] queue_row in
          let number : length behind.env.systems ≡ n =
          some_same (Some (length behind.env.systems)) (length behind.env.systems) n refl (sym (ap (λ r. system_in r.structure) row_is) ∙ is) in
          let system : system_row closed n ≡ system_is = ap (λ k. system_row closed k) (sym number) ∙ row_there in
          let long : length rs ≤ t =
          omega (arith, at, stage.tables.lengths, ap length types_inside, made.longer, all_made.longer, all_made.behind.tables.lengths) in
          let kept : parameters_from closed (length env.parameters) (length head.rows) ≡ head.rows =
          grows_own.parameters (length env.parameters) (length head.rows) (omega (arith, ap length parameters_own, length-append env.parameters head.rows))
          ∙ ap (λ l. take (length head.rows) (drop (length env.parameters) l)) parameters_own ∙ taken_behind G ys meaning env.parameters head.rows in
          subst (AllBefore t) (sym (ap (λ r. parameters_from closed r.first r.count) system ∙ kept)) (all_before rs t long head.rows made_head.declared made_head.rows)

  keeps_closed : KeepsRest env closed
  keeps_closed =
      let own_is : (own.env.processes ≡ inside.processes) × (own.env.monitors ≡ inside.monitors) = counted_elsewhere y.sort inside own.env made.declared made.counted in
      record {
        region = refl;
        processes = all_made.counted.0 ∙ own_is.0 ∙ ap (λ e. e.processes) inside_is ∙ ap (λ e. e.processes) named_is;
        monitors = all_made.counted.1 ∙ own_is.1 ∙ ap (λ e. e.monitors) inside_is ∙ ap (λ e. e.monitors) named_is;
      }

  stage_behind : SchedulingState (with_names (env.names ++ (x.name, entity.Type place) ∷ []) closed) scope_behind after_types (ys ++ meaning ∷ [])
  stage_behind = stage_named env closed g scope_behind rs after_types ys (ys ++ meaning ∷ []) x.name (entity.Type place) stage tables_closed grows_env systems_behind earlier_behind keeps_closed
      (λ k l. ((λ alone. absurd (true≢false alone), members_same k (later_on g scope_behind k later_behind l)), stage.types k (later_on g scope_behind k later_behind l))) later_behind none tt
      (type, subst (λ n. TypeAt after_types n type) (sym all_made.behind.tables.lengths) (slice_seam all_made.more type), λ k l. l.types x.name type (first_there x.name type g.types))
      (λ z n. (refl, not_first x.name z type g.types n))

  pub system_defined : Defined env g rs ys (a.SystemDef x.name meaning ∷ []) (define_system env x y).env
  system_defined = subst (Defined env g rs ys (a.SystemDef x.name meaning ∷ [])) (sym (declare_new closed x (entity.Type place) none)) (record {
    more = after_types;
    later = later_behind;
    stage = stage_behind;
    typed = λ i w h. only i w h;
    in_order = λ k l. (
      (later_on g scope_behind k later_behind l, type_is_typed g (later_same g), l.types x.name type (first_there x.name type g.types)),
      tt,
    );
    added = record { names = λ z f h. lookup_first z env.names ((x.name, entity.Type place) ∷ []) f h; types = grows_env.types };
    ascend = (
      record {
        row = place;
        is = last_found env.names x.name (entity.Type place) none;
        from = omega (arith, stage.tables.lengths, ap length types_inside, made.longer, all_made.longer);
        below = omega (arith, all_made.behind.tables.lengths, length-append all_made.more (type ∷ []));
      },
      omega (arith, all_made.behind.tables.lengths, length-append all_made.more (type ∷ [])),
    );
  })
    where
      only : (i : ℕ) (w : a.System) → slice_get (meaning ∷ []) i ≡ Some w → SystemTyped scope_behind (ys ++ take i (meaning ∷ [])) w
      only zero w h =
          subst (λ k. SystemTyped scope_behind k w) (sym (append-nil ys))
          (subst (SystemTyped scope_behind ys) (some_same (Some meaning) meaning w refl h) (typed_later g scope_behind ys meaning later_behind type_is_typed))
      only (suc i) w h = absurd (cc)
