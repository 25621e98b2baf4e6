-- Routines: what each adds to its component's scope, and that its body is typed.
use Rattle.std.proofs.Common.{◌≡◌, ◌≤◌, ℕ, zero, suc, ◌+◌, Bool, true, false, List, [], ◌∷◌, ◌++◌, Option, Some, None, if◌then◌else◌, slice_get, find, length, map, take, drop, refl, ap, ap₂, sym, subst, ◌∙◌, arith, append_assoc, append-nil, length-append, bytes_eq, codes, is_some}
use Rattle.std.specs.Option.{option_or}
use Rattle.std.proofs.lemmas.Bool.{true≢false}
use Rattle.std.proofs.Math.Seq.{get_or-append_seam}
use Rattle.cp_model.specs.Syntax as s
use Rattle.cp_model.specs.Abstract as a
use Rattle.cp_model.specs.Erase as erase
use Rattle.cp_model.specs.declared.tree.Identifier.{Identifier}
use Rattle.cp_model.specs.declared.tree.Sort.{Sort}
use Rattle.cp_model.specs.declared.tree.Sort.TheVariants as sort
use Rattle.cp_model.specs.declared.rules.Entity.{Entity}
use Rattle.cp_model.specs.declared.rules.Entity.TheVariants as entity
use Rattle.cp_model.specs.declared.rules.Returns.{Returns}
use Rattle.cp_model.specs.declared.rules.Returns.TheVariants as returns
use Rattle.cp_model.specs.declared.rules.Standard.TheVariants as standard
use Rattle.cp_model.specs.declared.rules.RoutineRow.{RoutineRow}
use Rattle.cp_model.specs.declared.rules.Position.TheVariants as position
use Rattle.cp_model.specs.RulesJudged.{Judged}
use Rattle.cp_model.specs.RulesEnvironment.{Environment, Names, Text, c1_declared, no_routine, routine_of, row_of, with_names}
use Rattle.cp_model.specs.RulesTypes.{cap_words, has_name}
use Rattle.cp_model.specs.RulesNeeds.{need_statements}
use Rattle.cp_model.specs.RulesDeclarations.{Heading, Variables, c5_entry, result_type, result_words, routine}
use Rattle.cp_model.specs.Types.{GlobalScope, or_no_type}
use Rattle.cp_model.specs.Declarations.{declarations, is_component}
use Rattle.cp_model.specs.Locations.{OfProcess, root}
use Rattle.cp_model.specs.Environments.{local_variables, permanent_variables, result_variable}
use Rattle.cp_model.specs.Names.{lookup}
use Rattle.cp_law_typing.specs.Judgement.{IsSimple}
use Rattle.cp_law_typing.specs.Declared.{Distinct, Each, IsData, ResultFits, RoutineParameter, RoutineVariable, is_function}
use Rattle.cp_law_typing.specs.WellTyped.{NoClock, TypedRoutine}
use Rattle.cp_law_typing.specs.Words.{words_of_variables}
use Rattle.cp_law_typing.specs.Needs as needs
use Rattle.cp_law_typing.specs.Needs.{call_need, in_statement, start_need, statement_need}
use Rattle.cp_law_typing.proofs.Distinctness.{distinct_variables, keys_same, local_names_distinct, no_clock, outer_no_local}
use Rattle.cp_law_typing.proofs.VariableKinds.{routine_parameters, routine_variables}
use Rattle.cp_law_typing.proofs.Names.{AllDistinct, bytes_same, keys, keys-append, lookup-append, lookup_has, none_has}
use Rattle.cp_model.proofs.Judging.{first_empty, rest_empty}
use Rattle.cp_law_typing.proofs.TypeRows.{grows_by}
use Rattle.cp_law_typing.proofs.TableMeanings.{Grows, NeedAs, ParametersAs, ReturnsAs, RoutineAs, RowAs, Tables, data_fits, row_data, Types, grows_on, names_kept, parameters_kept, returns_kept, routine_kept}
use Rattle.cp_law_typing.proofs.Bounds.{capped_within}
use Rattle.cp_law_typing.proofs.ExpressionNeeds.{Bounded}
use Rattle.cp_law_typing.proofs.Visible.{some_same}
use Rattle.cp_law_typing.proofs.DeclaredVariables.{VariablesMade, entries_kept, with_variables}
use Rattle.cp_law_typing.proofs.DeclaredNames.{names_of, declare_new, names_more, tables_grown}
use Rattle.cp_law_typing.proofs.Headings.{HeadingMade}
use Rattle.cp_law_typing.proofs.RoutineNames.{all_distinct, routine_found, routine_names, named_once, slice_between}
use Rattle.cp_law_typing.proofs.ComponentScopes.{KnownRoutine, ComponentScope, with_routine, RoutinesMade, taken_behind}
use Rattle.cp_law_typing.proofs.RoutineBodies as first

-- ---- the scope of a component, so far

module _ (G : GlobalScope → Type 0) (ys : List a.System) (y : a.System) where
  module _ (z : Sort) (sort_is : erase.sort_of z ≡ y.sort) (env : Environment) (rs : Types) (k : ℕ) (c : ComponentScope G ys y env rs k) (r : s.Routine)
      (sound : (routine env z r).violations ≡ []) (names_distinct : AllDistinct (routine_names y.routines)) (before after : List a.Routine) (here : y.routines ≡ before ++ erase.routine r ∷ after) (count : length before ≡ k)
      (new_here : has_name r.name.name (map (λ q. q.name) before) ≡ false) where
    -- short names for what `RoutineBodies` defines
    abbrev q : a.Routine
    q = first.q G ys y z sort_is env rs k c r sound

    abbrev named : Environment
    named = first.named G ys y z sort_is env rs k c r sound

    abbrev head : Heading
    head = first.head G ys y z sort_is env rs k c r sound

    abbrev answer : Option (Judged ℕ)
    answer = first.answer G ys y z sort_is env rs k c r sound

    abbrev row : RoutineRow
    row = first.row G ys y z sort_is env rs k c r sound

    abbrev inside : Environment
    inside = first.inside G ys y z sort_is env rs k c r sound

    abbrev locals : Variables
    locals = first.locals G ys y z sort_is env rs k c r sound

    abbrev three : c1_declared env r.name ++ c5_entry z r.entry ++ head.violations ≡ []
    three = first.three G ys y z sort_is env rs k c r sound

    abbrev none : lookup r.name.name env.names ≡ None
    none = first.none G ys y z sort_is env rs k c r sound

    abbrev own : Names
    own = first.own G ys y z sort_is env rs k c r sound

    abbrev made_head : HeadingMade G named rs None (is_some r.result_type) r.parameters head
    made_head = first.made_head G ys y z sort_is env rs k c r sound

    abbrev opened : Environment
    opened = first.opened G ys y z sort_is env rs k c r sound

    abbrev inside_is : inside ≡ opened
    inside_is = first.inside_is G ys y z sort_is env rs k c r sound

    abbrev tables_opened : Tables G opened rs
    tables_opened = first.tables_opened G ys y z sort_is env rs k c r sound

    abbrev made : VariablesMade G inside rs position.RoutineVariable r.variables locals.env locals.words
    made = first.made G ys y z sort_is env rs k c r sound

    abbrev types_inside : inside.types ≡ env.types
    types_inside = first.types_inside G ys y z sort_is env rs k c r sound

    abbrev grows_locals : Grows env locals.env rs made.more
    grows_locals = first.grows_locals G ys y z sort_is env rs k c r sound

    abbrev inner : Names
    inner = first.inner G ys y z sort_is env rs k c r sound

    abbrev names_locals : locals.env.names ≡ env.names ++ inner
    names_locals = first.names_locals G ys y z sort_is env rs k c r sound

    abbrev distinct_locals : AllDistinct (keys locals.env.names)
    distinct_locals = first.distinct_locals G ys y z sort_is env rs k c r sound

    abbrev result_returns : ReturnsAs G rs row.returns q.result
    result_returns = first.result_returns G ys y z sort_is env rs k c r sound

    -- ---- after the routine

    abbrev need : ℕ
    need = cap_words (1 + result_words answer + head.words + locals.words + need_statements locals.env r.body.list)

    abbrev last_row : RoutineRow
    last_row = record row { need = need }

    abbrev n : ℕ
    n = length env.routines

    abbrev closed : Environment
    closed = record locals.env { names = env.names; routines = env.routines ++ last_row ∷ []; region = env.region }

    abbrev new_entry : Names
    new_entry = (r.name.name, entity.Routine n) ∷ []

    abbrev final : Environment
    final = with_names (env.names ++ new_entry) closed

    final_is : (routine env z r).env ≡ final
    final_is = declare_new closed r.name (entity.Routine n) none

    routines_locals : locals.env.routines ≡ env.routines
    routines_locals = ap (λ e. e.routines) made.same ∙ ap (λ e. e.routines) inside_is

    parameters_locals : locals.env.parameters ≡ env.parameters ++ head.rows
    parameters_locals = ap (λ e. e.parameters) made.same ∙ ap (λ e. e.parameters) inside_is

    grows_last : Grows locals.env final made.more made.more
    grows_last = grows_by locals.env final made.more made.more [] (record {
      types = [];
      types_are = sym (append-nil locals.env.types);
      members = [];
      members_are = sym (append-nil locals.env.members);
      routines = last_row ∷ [];
      routines_are = ap (λ l. l ++ last_row ∷ []) (sym routines_locals);
      systems = [];
      systems_are = sym (append-nil locals.env.systems);
      parameters = [];
      parameters_are = sym (append-nil locals.env.parameters);
    }) (sym (append-nil made.more))

    longer_locals : length env.types ≤ length locals.env.types
    longer_locals = omega (arith, made.longer, ap length types_inside)

    grows_final : Grows env final rs made.more
    grows_final = grows_on env locals.env final rs made.more made.more longer_locals grows_locals grows_last

    tables_final : Tables G final made.more
    tables_final = tables_grown G locals.env final made.more refl grows_last made.tables

    own_row : RoutineAs G final made.more last_row q
    own_row = record {
      entry = refl;
      heading = record {
        variables = made_head.declared;
        declares = made_head.declares;
        within = omega (arith, ap length parameters_locals, length-append env.parameters head.rows);
        rows = subst (λ l. ParametersAs made.more l made_head.declared)
            (sym (ap (λ l. take (length head.rows) (drop (length env.parameters) l)) parameters_locals ∙ taken_behind G ys y env.parameters head.rows))
            (parameters_kept G inside locals.env rs made.more made.grows head.rows made_head.declared made_head.rows);
      };
      returns = returns_kept G inside locals.env rs made.more made.grows row.returns q.result result_returns;
    }

    own_need : NeedAs G y need q
    own_need n g i fits =
        let parts : need ≡ 1 + result_words answer + head.words + locals.words + need_statements locals.env r.body.list = capped_within _ fits in
        omega (
          arith,
          fits,
          parts,
          result_same r.result_type,
          ap (needs.parameter_words g) (made_head.declares g i),
          made_head.words g i (omega (arith, fits, parts)),
          ap (words_of_variables g) (made.declares g i),
          made.words g i (omega (arith, fits, parts)),
          deep n (omega (arith, fits, parts)),
        )
      where
        result_same : (o : Option Identifier) → needs.result_words (erase.name_if o) ≡ result_words (result_type head.env o)
        result_same None = refl
        result_same (Some x) = refl

        deep : (n : ℕ) → Bounded (statement_need n g y (Some q) q.body) (need_statements locals.env r.body.list)
        deep zero h = omega arith
        deep (suc m) h = first.body_need G ys y z sort_is env rs k c r sound g i (root (OfProcess 0)) (OfProcess 0) m h

    -- the routine is found by its own name
    own_known : KnownRoutine G ys y final made.more (suc k) r.name.name (entity.Routine n)
    own_known = record {
      number = n;
      within = omega (arith, length-append env.routines (last_row ∷ []));
      is = refl;
      routine = q;
      named = ap (find (λ w. bytes_eq r.name.name w.name)) here ∙ routine_found before after q new_here;
      place = k;
      before = omega arith;
      there = ap (λ l. slice_get l k) here ∙ ap (slice_get (before ++ q ∷ after)) (sym count) ∙ slice_between before after q;
      meets = subst (λ w. RoutineAs G final made.more w q) (sym (get_or-append_seam env.routines last_row [] no_routine)) own_row;
      need = subst (λ w. NeedAs G y w.need q) (sym (get_or-append_seam env.routines last_row [] no_routine)) own_need;
    }

    entry_sort : (o : Option ℕ) → c5_entry z o ≡ [] → is_some o ≡ true → y.sort ≡ a.Process → ⊥
    entry_sort None h e is = true≢false (sym e)
    entry_sort (Some at) h e is = go z (sort_is ∙ is) h
      where
        go : (z : Sort) → erase.sort_of z ≡ a.Process → c5_entry z (Some at) ≡ [] → ⊥
        go sort.Process is h = cc
        go sort.Monitor is h = cc
        go sort.Class is h = cc

    result_fits : (g : GlobalScope) → G g → (w : Returns) (o : Option a.Name) → ReturnsAs G rs w o → ResultFits g o
    result_fits g i returns.Nothing None h = tt
    result_fits g i (returns.Value t) (Some x) h =
        let row : RowAs G env rs (row_of env t) h.0 = c.tables.rows t h.0 h.1 in
        let named : h.0 ≡ or_no_type (lookup x g.types) = sym (ap or_no_type (h.2 g i)) in
        (subst IsSimple named h.3, subst (IsData g) named (data_fits G (row_of env t) h.0 (row_data G env rs (row_of env t) h.0 row (ap is_component h.3.1.is)) g i))
    result_fits g i returns.Nothing (Some x) h = absurd h
    result_fits g i (returns.Value t) None h = absurd h
    result_fits g i (returns.Broken w) o h = absurd h

    function_same : (o : Option Identifier) → is_some o ≡ is_function (erase.name_if o)
    function_same None = refl
    function_same (Some x) = refl

    -- the names that are visible in its body, by their layers
    keys_locals : keys locals.env.names
        ≡ keys c.outer ++ (keys c.parameters ++ (keys c.variables ++ (keys c.routines ++ (r.name.name ∷ (keys (names_of head.bound) ++ keys made.entries_of)))))
    keys_locals =
        ap keys names_locals ∙ keys-append env.names inner
        ∙ ap₂ (λ k l. k ++ (r.name.name ∷ l)) (ap keys c.names ∙ keys-append c.outer _ ∙ ap (λ l. keys c.outer ++ l) (keys-append c.parameters _
        ∙ ap (λ l. keys c.parameters ++ l) (keys-append c.variables c.routines))) (keys-append (names_of head.bound) made.entries_of)
        ∙ append_assoc (keys c.outer) _ _ ∙ ap (λ l. keys c.outer ++ l) (append_assoc (keys c.parameters) _ _ ∙ ap (λ l. keys c.parameters ++ l) (append_assoc (keys c.variables) (keys c.routines) _))

    local_names : (g : GlobalScope) → G g
        → keys (local_variables g q) ≡ keys (names_of head.bound) ++ (keys made.entries_of ++ keys (result_variable g r.name.name q.result))
    local_names g i =
        keys-append (declarations g q.parameters) _ ∙ ap₂ (λ l m. l ++ m) (ap keys (made_head.declares g i) ∙ sym (keys_same true rs (names_of head.bound) made_head.declared made_head.meets))
        (keys-append (declarations g q.variables) _ ∙ ap (λ l. l ++ keys (result_variable g r.name.name q.result))
        (ap keys (made.declares g i) ∙ sym (keys_same false made.more made.entries_of made.declared made.meets)))

    keys_variables : (g : GlobalScope) → G g → keys (local_variables g q ++ permanent_variables g y)
        ≡ (keys (names_of head.bound) ++ (keys made.entries_of ++ keys (result_variable g r.name.name q.result))) ++ (keys c.parameters ++ keys c.variables)
    keys_variables g i =
        keys-append (local_variables g q) (permanent_variables g y)
        ∙ ap₂ (λ l m. l ++ m) (local_names g i)
        (keys-append (declarations g y.parameters) _ ∙ ap₂ (λ l m. l ++ m) (ap keys (c.declares_parameters g i) ∙ sym (keys_same true rs c.parameters c.parameters_declared c.parameters_as))
        (ap keys (c.declares_variables g i) ∙ sym (keys_same false rs c.variables c.variables_declared c.variables_as)))

    locals_distinct : (g : GlobalScope) → G g → Distinct (local_variables g q ++ permanent_variables g y)
    locals_distinct g i =
        distinct_variables (local_variables g q ++ permanent_variables g y)
        (subst AllDistinct (sym (keys_variables g i))
        (local_names_distinct (keys c.outer) (keys c.parameters) (keys c.variables) (keys c.routines) r.name.name (keys (names_of head.bound)) (keys made.entries_of)
        (subst AllDistinct keys_locals distinct_locals) g q.result))

    locals_no_clock : (g : GlobalScope) → G g → NoClock (local_variables g q)
    locals_no_clock g i =
        no_clock (local_variables g q)
        (ap (has_name (codes "realtime")) (local_names g i)
        ∙ outer_no_local (keys c.outer) (keys c.parameters) (keys c.variables) (keys c.routines) r.name.name (keys (names_of head.bound)) (keys made.entries_of)
        (subst AllDistinct keys_locals distinct_locals) (codes "realtime") (lookup_has (codes "realtime") c.outer (entity.Standard standard.Realtime) c.clock) g q.result)

    tables_inside : Tables G inside rs
    tables_inside = subst (λ e. Tables G e rs) (sym inside_is) tables_opened

    routine_typed : (g : GlobalScope) → G g → TypedRoutine g ys y k q
    unfolding own_known
    routine_typed g in_scope = record {
      found = own_known.named;
      alone = λ j w e is. named_once y.routines names_distinct j k w q e own_known.there is;
      entry = entry_sort r.entry (rest_empty (c1_declared env r.name) _ (first_empty (c1_declared env r.name ++ c5_entry z r.entry) head.violations three));
      parameters = subst (λ f. Each (RoutineParameter g f) (declarations g q.parameters)) (function_same r.result_type)
          (subst (Each (RoutineParameter g (is_some r.result_type))) (sym (made_head.declares g in_scope))
          (routine_parameters G ys inside rs tables_inside c.systems g in_scope (is_some r.result_type) (names_of head.bound) made_head.declared made_head.parameters made_head.written made_head.meets));
      variables = subst (Each (RoutineVariable g)) (sym (made.declares g in_scope))
          (routine_variables G ys locals.env made.more made.tables (λ t w i h. c.systems t w i (made.components t w i h)) g in_scope made.entries_of made.declared made.placed made.meets);
      result = result_fits g in_scope row.returns q.result result_returns;
      distinct = locals_distinct g in_scope;
      no_clock = locals_no_clock g in_scope;
      body = λ at o. first.body_typed G ys y z sort_is env rs k c r sound g in_scope at o;
    }

    known_kept : (x : Text) (e : Entity) → KnownRoutine G ys y env rs k x e → KnownRoutine G ys y final made.more (suc k) x e
    known_kept x e h = record {
      number = h.number;
      within = omega (arith, h.within, grows_final.routines_length);
      is = h.is;
      routine = h.routine;
      named = h.named;
      place = h.place;
      before = omega (arith, h.before);
      there = h.there;
      meets = subst (λ w. RoutineAs G final made.more w h.routine) (sym (grows_final.routines h.number h.within))
          (routine_kept G env final rs made.more grows_final (routine_of env h.number) h.routine h.meets);
      need = subst (λ w. NeedAs G y w.need h.routine) (sym (grows_final.routines h.number h.within)) h.need;
    }

    routines_known : (x : Text) (e : Entity) → lookup x (c.routines ++ new_entry) ≡ Some e → KnownRoutine G ys y final made.more (suc k) x e
    routines_known x e h = go (lookup x c.routines) refl (sym (lookup-append x c.routines new_entry) ∙ h)
      where
        last : (b : Bool) → bytes_eq x r.name.name ≡ b → (if b then Some (entity.Routine n) else None) ≡ Some e → KnownRoutine G ys y final made.more (suc k) x e
        last false is h = absurd (cc)
        last true is h =
            subst (λ w. KnownRoutine G ys y final made.more (suc k) w e) (sym (bytes_same x r.name.name is))
            (subst (KnownRoutine G ys y final made.more (suc k) r.name.name) (some_same (Some (entity.Routine n)) (entity.Routine n) e refl h) own_known)

        go : (o : Option Entity) → lookup x c.routines ≡ o → option_or o (if bytes_eq x r.name.name then Some (entity.Routine n) else None) ≡ Some e → KnownRoutine G ys y final made.more (suc k) x e
        go (Some w) is h = known_kept x e (c.routines_as x e (is ∙ h))
        go None is h = last (bytes_eq x r.name.name) refl h

    scope_behind : ComponentScope G ys y final made.more (suc k)
    scope_behind = record {
      outer = c.outer;
      parameters = c.parameters;
      variables = c.variables;
      routines = c.routines ++ new_entry;
      names = ap (λ l. l ++ new_entry) c.names ∙ append_assoc c.outer (c.parameters ++ (c.variables ++ c.routines)) new_entry
          ∙ ap (λ l. c.outer ++ l) (append_assoc c.parameters (c.variables ++ c.routines) new_entry ∙ ap (λ l. c.parameters ++ l) (append_assoc c.variables c.routines new_entry));
      distinct = subst AllDistinct (sym (keys-append env.names new_entry)) (all_distinct (keys env.names) (r.name.name ∷ []) c.distinct (none_has r.name.name env.names none, tt));
      globals = names_more G made.more env.names r.name.name (entity.Routine n) (names_kept G env final rs made.more grows_final env.names c.globals) tt;
      outer_as = names_kept G env final rs made.more grows_final c.outer c.outer_as;
      is_outer = c.is_outer;
      clock = c.clock;
      parameters_declared = c.parameters_declared;
      variables_declared = c.variables_declared;
      declares_parameters = c.declares_parameters;
      declares_variables = c.declares_variables;
      parameters_as = entries_kept G true env final rs made.more grows_final c.parameters c.parameters_declared c.parameters_as;
      variables_as = entries_kept G false env final rs made.more grows_final c.variables c.variables_declared c.variables_as;
      by_value = c.by_value;
      routines_as = routines_known;
      no_routine = c.no_routine;
      tables = tables_final;
      systems = λ t w i h. c.systems t w i (made.components t w i h);
    }

    final_same : final ≡ with_routine G ys y env final
    final_same = ap (λ (e : Environment). record e { names = env.names ++ new_entry; routines = env.routines ++ last_row ∷ []; parameters = locals.env.parameters; region = env.region })
        (made.same ∙ ap (λ e. with_variables G e locals.env) inside_is)

    pub routine_made : RoutinesMade G ys y env rs k (r ∷ []) (routine env z r).env
    routine_made = subst (RoutinesMade G ys y env rs k (r ∷ [])) (sym final_is) (record {
      more = made.more;
      grows = grows_final;
      components = made.components;
      longer = longer_locals;
      behind = subst (ComponentScope G ys y final made.more) (omega arith) scope_behind;
      same = final_same;
      typed = λ i x e g in_scope. only i x e g in_scope;
      counted = (made.counted.0 ∙ ap (λ e. e.processes) inside_is, made.counted.1 ∙ ap (λ e. e.monitors) inside_is);
    })
      where
        only : (i : ℕ) (x : s.Routine) → slice_get (r ∷ []) i ≡ Some x → (g : GlobalScope) → G g → TypedRoutine g ys y (k + i) (erase.routine x)
        only zero x e g in_scope =
            subst (λ w. TypedRoutine g ys y (k + 0) (erase.routine w)) (some_same (Some r) r x refl e)
            (subst (λ j. TypedRoutine g ys y j q) (omega arith) (routine_typed g in_scope))
        only (suc i) x e g in_scope = absurd (cc)
