-- One routine of a component: its heading, its variables, and its body, which is typed and has its need.
use Rattle.std.proofs.Common.{◌≡◌, ℕ, true, false, List, [], ◌∷◌, ◌++◌, Option, None, length, refl, ap, sym, subst, ◌∙◌, arith, append_assoc, append-nil, is_some}
use Rattle.std.proofs.lemmas.Bool.{true≢false}
use Rattle.cp_model.specs.Syntax as s
use Rattle.cp_model.specs.Abstract as a
use Rattle.cp_model.specs.Erase as erase
use Rattle.cp_model.specs.declared.tree.Sort.{Sort}
use Rattle.cp_model.specs.declared.rules.Entity.TheVariants as entity
use Rattle.cp_model.specs.declared.rules.RoutineRow.{RoutineRow}
use Rattle.cp_model.specs.declared.rules.Position.TheVariants as position
use Rattle.cp_model.specs.RulesJudged.{Judged}
use Rattle.cp_model.specs.RulesEnvironment.{Environment, Names, c1_declared, declare, is_in_entry, is_in_routine, no_routine, with_names}
use Rattle.cp_model.specs.RulesNeeds.{need_statements}
use Rattle.cp_model.specs.RulesStatements.{statements}
use Rattle.cp_model.specs.RulesDeclarations.{Heading, Variables, c5_entry, heading, part_of, result_type, result_violations, returns_of, routine, variables, declare_each}
use Rattle.cp_model.specs.Types.{GlobalScope}
use Rattle.cp_model.specs.Locations.{Location, Owner}
use Rattle.cp_model.specs.Environments.{Frame}
use Rattle.cp_model.specs.Names.{lookup}
use Rattle.cp_law_typing.specs.Judgement.{Place, TypedStatement}
use Rattle.cp_law_typing.specs.WellTyped.{routine_place}
use Rattle.cp_law_typing.specs.Needs.{call_need, in_statement, start_need}
use Rattle.cp_law_typing.proofs.Names.{AllDistinct, NewNames, keys, keys-append, none_has}
use Rattle.cp_model.proofs.Judging.{first_empty, rest_empty}
use Rattle.cp_law_typing.proofs.TypeRows.{grows_by}
use Rattle.cp_law_typing.proofs.TableMeanings.{Grows, NamesAs, ReturnsAs, Tables, Types, grows_on, grows_same, returns_kept}
use Rattle.cp_law_typing.proofs.ExpressionNeeds.{Bounded}
use Rattle.cp_law_typing.proofs.StatementNeeds.{statements_bounded}
use Rattle.cp_law_typing.proofs.Visible.{Visible, RegionAs}
use Rattle.cp_law_typing.proofs.Statements.{statements_as}
use Rattle.cp_law_typing.proofs.Layers.{Layers}
use Rattle.cp_law_typing.proofs.LayerNames.{VariablesAs}
use Rattle.cp_law_typing.proofs.Scopes.{LocalNames, Surroundings, inner_names, routine_visible}
use Rattle.cp_law_typing.proofs.DeclaredVariables.{VariablesMade, entries_kept, variables_made}
use Rattle.cp_law_typing.proofs.DeclaredNames.{each_declared, names_of, declare_new, declared_new, names_more, names_local, tables_grown, tables_same}
use Rattle.cp_law_typing.proofs.Headings.{HeadingMade, heading_made}
use Rattle.cp_law_typing.proofs.RoutineNames.{all_distinct}
use Rattle.cp_law_typing.proofs.ComponentScopes.{ComponentScope, layers, placed_alone, parameters_alone, result_as, region_part, entry_part}

module _ (G : GlobalScope → Type 0) (ys : List a.System) (y : a.System) where
  module _ (z : Sort) (sort_is : erase.sort_of z ≡ y.sort) (env : Environment) (rs : Types) (k : ℕ) (c : ComponentScope G ys y env rs k) (r : s.Routine)
      (sound : (routine env z r).violations ≡ []) where
    abbrev pub q : a.Routine
    q = erase.routine r

    abbrev pub named : Environment
    named = declare r.name (entity.UnfinishedRoutine no_routine) env

    abbrev pub head : Heading
    head = heading named None (is_some r.result_type) r.parameters

    abbrev pub answer : Option (Judged ℕ)
    answer = result_type head.env r.result_type

    abbrev pub row : RoutineRow
    row = record { entry = is_some r.entry; first = length env.parameters; count = length head.rows; returns = returns_of answer; need = 0 }

    abbrev pub outside : Environment
    outside = record env { parameters = env.parameters ++ head.rows; region = record { sort = z; part = part_of r.entry } }

    abbrev pub inside : Environment
    inside = (declare_each (declare r.name (entity.UnfinishedRoutine row) outside) head.bound).env

    abbrev pub locals : Variables
    locals = variables inside position.RoutineVariable r.variables

    -- nothing is broken in the parts
    pub five : c1_declared env r.name ++ c5_entry z r.entry ++ head.violations ++ result_violations answer ++ locals.violations ≡ []
    five = first_empty _ (statements locals.env r.body.list) sound

    pub four : c1_declared env r.name ++ c5_entry z r.entry ++ head.violations ++ result_violations answer ≡ []
    four = first_empty _ locals.violations five

    pub three : c1_declared env r.name ++ c5_entry z r.entry ++ head.violations ≡ []
    three = first_empty _ (result_violations answer) four

    pub none : lookup r.name.name env.names ≡ None
    none = declared_new env r.name (first_empty (c1_declared env r.name) _ (first_empty (c1_declared env r.name ++ c5_entry z r.entry) head.violations three))

    abbrev pub own : Names
    own = (r.name.name, entity.UnfinishedRoutine row) ∷ []

    pub named_is : named ≡ with_names (env.names ++ (r.name.name, entity.UnfinishedRoutine no_routine) ∷ []) env
    named_is = declare_new env r.name (entity.UnfinishedRoutine no_routine) none

    pub made_head : HeadingMade G named rs None (is_some r.result_type) r.parameters head
    made_head = heading_made G r.parameters named rs None (is_some r.result_type)
        (subst (λ e. NamesAs G rs e.names) (sym named_is) (names_more G rs env.names r.name.name (entity.UnfinishedRoutine no_routine) c.globals tt))
        (subst (λ e. Tables G e rs) (sym named_is) (tables_same G env (with_names (env.names ++ (r.name.name, entity.UnfinishedRoutine no_routine) ∷ []) env) rs refl refl refl refl refl c.tables))
        (rest_empty (c1_declared env r.name ++ c5_entry z r.entry) head.violations three)

    pub grows_outside : Grows env outside rs rs
    grows_outside = grows_by env outside rs rs [] (record {
      types = [];
      types_are = sym (append-nil env.types);
      members = [];
      members_are = sym (append-nil env.members);
      routines = [];
      routines_are = sym (append-nil env.routines);
      systems = [];
      systems_are = sym (append-nil env.systems);
      parameters = head.rows;
      parameters_are = refl;
    }) (sym (append-nil rs))

    pub new_bound : NewNames (keys (env.names ++ own)) (keys (names_of head.bound))
    new_bound = subst (λ l. NewNames l (keys (names_of head.bound)))
        (ap (λ e. keys e.names) named_is ∙ keys-append env.names ((r.name.name, entity.UnfinishedRoutine no_routine) ∷ []) ∙ sym (keys-append env.names own)) made_head.new

    abbrev pub opened : Environment
    opened = with_names ((env.names ++ own) ++ names_of head.bound) outside

    pub inside_is : inside ≡ opened
    inside_is = ap (λ e. (declare_each e head.bound).env) (declare_new outside r.name (entity.UnfinishedRoutine row) none)
        ∙ each_declared head.bound (with_names (env.names ++ own) outside) new_bound

    pub names_opened : NamesAs G rs opened.names
    names_opened = names_local G true rs (env.names ++ own) (names_of head.bound) made_head.declared
        (names_more G rs env.names r.name.name (entity.UnfinishedRoutine row) c.globals tt) made_head.meets

    pub tables_outside : Tables G outside rs
    tables_outside = tables_grown G env outside rs refl grows_outside c.tables

    pub tables_opened : Tables G opened rs
    tables_opened = tables_same G outside opened rs refl refl refl refl refl tables_outside

    pub made : VariablesMade G inside rs position.RoutineVariable r.variables locals.env locals.words
    made = variables_made G r.variables inside rs position.RoutineVariable (subst (λ e. NamesAs G rs e.names) (sym inside_is) names_opened)
        (subst (λ e. Tables G e rs) (sym inside_is) tables_opened) (rest_empty _ locals.violations five)

    pub grows_opened : Grows env inside rs rs
    grows_opened = subst (λ e. Grows env e rs rs) (sym inside_is)
        (grows_on env outside opened rs rs rs (omega arith) grows_outside (grows_same outside opened rs refl refl refl refl refl))

    pub types_inside : inside.types ≡ env.types
    types_inside = ap (λ e. e.types) inside_is

    pub grows_locals : Grows env locals.env rs made.more
    grows_locals = grows_on env inside locals.env rs rs made.more (omega (arith, ap length types_inside)) grows_opened made.grows

    abbrev pub inner : Names
    inner = (r.name.name, entity.UnfinishedRoutine row) ∷ (names_of head.bound ++ made.entries_of)

    pub names_locals : locals.env.names ≡ env.names ++ inner
    names_locals = made.names_are ∙ ap (λ e. e.names ++ made.entries_of) inside_is ∙ append_assoc (env.names ++ own) (names_of head.bound) made.entries_of
        ∙ append_assoc env.names own (names_of head.bound ++ made.entries_of)

    pub distinct_locals : AllDistinct (keys locals.env.names)
    distinct_locals =
        let one : AllDistinct (keys (env.names ++ own)) =
        subst AllDistinct (sym (keys-append env.names own)) (all_distinct (keys env.names) (r.name.name ∷ []) c.distinct (none_has r.name.name env.names none, tt)) in
        let two : AllDistinct (keys opened.names) =
        subst AllDistinct (sym (keys-append (env.names ++ own) (names_of head.bound))) (all_distinct (keys (env.names ++ own)) (keys (names_of head.bound)) one new_bound) in
        let three : AllDistinct (keys inside.names) = subst (λ e. AllDistinct (keys e.names)) (sym inside_is) two in
        subst AllDistinct (sym (ap keys made.names_are ∙ keys-append inside.names made.entries_of)) (all_distinct (keys inside.names) (keys made.entries_of) three made.new)

    pub result_returns : ReturnsAs G rs row.returns q.result
    result_returns = result_as G ys y head.env rs r.result_type made_head.globals tables_head (rest_empty (c1_declared env r.name ++ c5_entry z r.entry ++ head.violations) _ four)
      where
        tables_head : Tables G head.env rs
        tables_head = subst (λ e. Tables G e rs) (sym made_head.env_is) (tables_same G named (with_names (named.names ++ made_head.hidden) named) rs refl refl refl refl refl
            (subst (λ e. Tables G e rs) (sym named_is) (tables_same G env (with_names (env.names ++ (r.name.name, entity.UnfinishedRoutine no_routine) ∷ []) env) rs refl refl refl refl refl c.tables)))

    pub region_is : locals.env.region ≡ record { sort = z; part = part_of r.entry }
    region_is = ap (λ e. e.region) made.same ∙ ap (λ e. e.region) inside_is

    -- the body
    module _ (g : GlobalScope) (in_scope : G g) (at : Location) (o : Owner) where
      abbrev p : Place
      p = routine_place g ys y k q at o

      abbrev f : Frame
      f = record { owner = o; routine = q }

      local_names : LocalNames G locals.env made.more p f row
      local_names = record {
        parameters = names_of head.bound;
        variables = made.entries_of;
        parameters_as = subst (VariablesAs true made.more (names_of head.bound)) (sym (made_head.declares g in_scope))
            (entries_kept G true inside locals.env rs made.more made.grows (names_of head.bound) made_head.declared made_head.meets);
        variables_as = subst (VariablesAs false made.more made.entries_of) (sym (made.declares g in_scope)) made.meets;
        parameters_alone = λ x v h. parameters_alone G ys y made_head.declared made_head.parameters x v (sym (ap (lookup x) (made_head.declares g in_scope)) ∙ h);
        variables_alone = λ x v h. placed_alone G ys y made.declared made.placed x v (sym (ap (lookup x) (made.declares g in_scope)) ∙ h);
        returns = returns_kept G inside locals.env rs made.more made.grows row.returns q.result result_returns;
      }

      region : RegionAs G locals.env made.more p
      region = record {
        sort = ap (λ w. erase.sort_of w.sort) region_is ∙ sort_is;
        routine = λ h. (f, refl);
        entry = λ h. (f, refl, entry_part G ys y r.entry (sym (ap (λ w. is_in_entry w.part) region_is) ∙ h));
        body = λ h. absurd (true≢false (sym (ap (λ w. is_in_routine w.part) region_is ∙ region_part G ys y r.entry) ∙ h));
      }

      surroundings : Surroundings G locals.env made.more p
      surroundings = record {
        globals = made.globals;
        tables = made.tables;
        systems = λ t w i h. c.systems t w i (made.components t w i h);
        region = region;
      }

      visible : Visible G locals.env made.more p
      unfolding local_names
      visible =
          let l : Layers G locals.env made.more p (inner_names G locals.env made.more p f row local_names) =
          layers G ys y env locals.env rs made.more k inner p c grows_locals in_scope refl refl names_locals distinct_locals in
          routine_visible G locals.env made.more p f refl row local_names l surroundings

      body_sound : statements locals.env r.body.list ≡ []
      body_sound = rest_empty _ (statements locals.env r.body.list) sound

      pub body_typed : TypedStatement p q.body
      body_typed = statements_as G locals.env made.more p visible r.body.list body_sound

      -- the need of the body, counting calls to the given depth
      pub body_need : (n : ℕ) → Bounded (in_statement (call_need n g y) (start_need n g) p.env q.body) (need_statements locals.env r.body.list)
      body_need n = statements_bounded G locals.env made.more p visible n r.body.list body_sound
