-- The routines and the body of a component, after its parameters and variables.
use Rattle.std.proofs.Common.{◌≡◌, ap₂, ℕ, zero, suc, ◌+◌, true, false, List, [], ◌++◌, Some, None, slice_get, length, map, refl, ap, sym, subst, ◌∙◌, arith, append_assoc, append-nil, codes}
use Rattle.std.proofs.lemmas.Bool.{true≢false}
use Rattle.std.proofs.lemmas.List.{length-map}
use Rattle.cp_model.specs.Syntax as s
use Rattle.cp_model.specs.Abstract as a
use Rattle.cp_model.specs.Erase as erase
use Rattle.cp_model.specs.declared.rules.Entity.{Entity}
use Rattle.cp_model.specs.declared.rules.Entity.TheVariants as entity
use Rattle.cp_model.specs.declared.rules.Standard.TheVariants as standard
use Rattle.cp_model.specs.declared.rules.Part.TheVariants as part
use Rattle.cp_model.specs.declared.rules.Position.{Position}
use Rattle.cp_model.specs.RulesEnvironment.{Environment, Names, Text, is_in_entry, is_in_routine}
use Rattle.cp_model.specs.RulesTypes.{has_name}
use Rattle.cp_model.specs.RulesNeeds.{need_statements}
use Rattle.cp_model.specs.RulesStatements.{statements}
use Rattle.cp_model.specs.RulesDeclarations.{Declared, routines, variables}
use Rattle.cp_model.specs.Types.{ComponentOf, GlobalScope, Members}
use Rattle.cp_model.specs.Declarations.{Variable, declarations}
use Rattle.cp_model.specs.Locations.{Location, OfProcess, root}
use Rattle.cp_model.specs.Calls.{routine_named}
use Rattle.cp_model.specs.Environments.{permanent_variables}
use Rattle.cp_model.specs.Names.{lookup}
use Rattle.cp_law_typing.specs.Judgement.{Place, TypedStatement}
use Rattle.cp_law_typing.specs.Declared.{Distinct}
use Rattle.cp_law_typing.specs.WellTyped.{NoClock, TypedBodies, TypedRoutine, body_place}
use Rattle.cp_law_typing.specs.Needs.{statement_need}
use Rattle.cp_law_typing.proofs.Distinctness.{distinct_apart, distinct_first, distinct_last, distinct_variables, has_second, keys_same, no_clock, not_either}
use Rattle.cp_law_typing.proofs.Names.{AllDistinct, NewNames, has_lookup, keys, keys-append, lookup_has, new_is_distinct, there_is_not_new}
use Rattle.cp_law_typing.proofs.TableMeanings.{Declares, NamesAs, Tables, TypeAt, Types, grows_same, names_kept}
use Rattle.cp_law_typing.proofs.Visible.{RegionAs, Visible}
use Rattle.cp_law_typing.proofs.Statements.{statements_as}
use Rattle.cp_law_typing.proofs.Layers.{IsOuter, Layers}
use Rattle.cp_law_typing.proofs.LayerNames.{VariablesAs}
use Rattle.cp_law_typing.proofs.Scopes.{body_visible}
use Rattle.cp_law_typing.proofs.DeclaredVariables.{VariablesMade, entries_kept}
use Rattle.cp_law_typing.proofs.ComponentScopes.{ComponentScope, RoutinesMade, layers}
use Rattle.cp_law_typing.proofs.RoutineNames.{all_distinct, no_routine_named, routine_names}
use Rattle.cp_law_typing.proofs.ExpressionNeeds.{Bounded}
use Rattle.cp_law_typing.proofs.StatementNeeds.{statements_bounded}
use Rattle.cp_law_typing.proofs.MemberNames.{new_fewer, mapped_at}
use Rattle.cp_law_typing.proofs.AllRoutines.{routines_made}
use Rattle.cp_law_typing.proofs.RoutineNames.{routines_new}

-- ---- the bodies of a component

-- the scope after a component's variables have been declared
pub record Opened (G : GlobalScope → Type 0) (ys : List a.System) (y : s.System) (p : Position) (env : Environment) (rs : Types) : Type 0 where
  pub scope : ComponentScope G ys (erase.system y) env rs 0
  pub region : env.region ≡ record { sort = y.sort; part = part.Body }

module _ (G : GlobalScope → Type 0) (ys : List a.System) (y : s.System) (p : Position) (env : Environment) (rs : Types) (o : Opened G ys y p env rs)
    (routines_sound : (routines env y.sort y.routines).violations ≡ []) (body_sound : statements (routines env y.sort y.routines).env y.body.list ≡ []) where
  abbrev all : Declared
  all = routines env y.sort y.routines

  names_alone : AllDistinct (routine_names (erase.system y).routines)
  names_alone = new_is_distinct (keys env.names) (routine_names (map erase.routine y.routines)) (routines_new y.sort y.routines env routines_sound)

  pub routines_all : RoutinesMade G ys (erase.system y) env rs 0 y.routines all.env
  routines_all = routines_made G ys (erase.system y) y.sort refl names_alone y.routines env rs 0 o.scope routines_sound [] refl refl
      (new_fewer (keys env.names) [] (routine_names (map erase.routine y.routines))
      (subst (λ l. NewNames l (routine_names (map erase.routine y.routines))) (sym (append-nil (keys env.names))) (routines_new y.sort y.routines env routines_sound)))

  pub visible_in_body : (g : GlobalScope) → G g → (at : Location) → Visible G all.env routines_all.more (body_place g ys (erase.system y) at)
  visible_in_body g in_scope at =
      let place : Place = body_place g ys (erase.system y) at in
      let m : RoutinesMade G ys (erase.system y) env rs 0 y.routines all.env = routines_all in
      let region_is : all.env.region ≡ record { sort = y.sort; part = part.Body } = ap (λ e. e.region) m.same ∙ o.region in
      let l : Layers G all.env m.more place [] =
      layers G ys (erase.system y) all.env all.env m.more m.more (0 + length y.routines) [] place m.behind (grows_same all.env all.env m.more refl refl refl refl refl) in_scope refl
      (length-map y.routines erase.routine ∙ omega arith) (sym (append-nil all.env.names)) m.behind.distinct in
      let region : RegionAs G all.env m.more place = record {
        sort = ap (λ w. erase.sort_of w.sort) region_is;
        routine = λ h. absurd (true≢false (sym h ∙ ap (λ w. is_in_routine w.part) region_is));
        entry = λ h. absurd (true≢false (sym h ∙ ap (λ w. is_in_entry w.part) region_is));
        body = λ h. refl;
      } in
      body_visible G all.env m.more place refl l (record { globals = m.behind.globals; tables = m.behind.tables; systems = m.behind.systems; region = region })

  body_of : (g : GlobalScope) → G g → (at : Location) → TypedStatement (body_place g ys (erase.system y) at) (erase.statements y.body.list)
  body_of g in_scope at = statements_as G all.env routines_all.more (body_place g ys (erase.system y) at) (visible_in_body g in_scope at) y.body.list body_sound

  -- the need of its body, counting calls to the given depth
  pub body_need : (k : ℕ) (g : GlobalScope) → G g → Bounded (statement_need k g (erase.system y) None (erase.system y).body) (need_statements all.env y.body.list)
  body_need zero g in_scope h = omega arith
  body_need (suc k) g in_scope h =
      statements_bounded G all.env routines_all.more (body_place g ys (erase.system y) (root (OfProcess 0))) (visible_in_body g in_scope (root (OfProcess 0))) k y.body.list body_sound h

  routine_typed : (q : a.Routine) (k : ℕ) → slice_get (erase.system y).routines k ≡ Some q → (g : GlobalScope) → G g → TypedRoutine g ys (erase.system y) k q
  routine_typed q k h g in_scope =
      let x : (r : s.Routine) × (slice_get y.routines k ≡ Some r) × (erase.routine r ≡ q) = mapped_at erase.routine y.routines k q h in
      subst (TypedRoutine g ys (erase.system y) k) x.2
      (subst (λ j. TypedRoutine g ys (erase.system y) j (erase.routine x.0)) (omega arith) (routines_all.typed k x.0 x.1 g in_scope))

  abbrev scope : ComponentScope G ys (erase.system y) env rs 0
  scope = o.scope

  abbrev own_names : List Text
  own_names = keys scope.parameters ++ keys scope.variables

  all_distinct_in : AllDistinct (keys scope.outer ++ (own_names ++ keys scope.routines))
  all_distinct_in = subst AllDistinct
      (ap keys scope.names ∙ keys-append scope.outer _ ∙ ap (λ l. keys scope.outer ++ l) (keys-append scope.parameters _ ∙ ap (λ l. keys scope.parameters ++ l) (keys-append scope.variables scope.routines)
      ∙ sym (append_assoc (keys scope.parameters) (keys scope.variables) (keys scope.routines)))) scope.distinct

  -- the names of its parameters and variables
  member_names : (g : GlobalScope) → G g → keys (permanent_variables g (erase.system y)) ≡ own_names
  member_names g i =
      keys-append (declarations g (erase.system y).parameters) _
      ∙ ap₂ (λ l m. l ++ m) (ap keys (scope.declares_parameters g i) ∙ sym (keys_same true rs scope.parameters scope.parameters_declared scope.parameters_as))
      (ap keys (scope.declares_variables g i) ∙ sym (keys_same false rs scope.variables scope.variables_declared scope.variables_as))

  members_distinct : (g : GlobalScope) → G g → Distinct (permanent_variables g (erase.system y))
  members_distinct g i =
      distinct_variables (permanent_variables g (erase.system y))
      (subst AllDistinct (sym (member_names g i)) (distinct_first own_names (keys scope.routines) (distinct_last (keys scope.outer) (own_names ++ keys scope.routines) all_distinct_in)))

  members_no_clock : (g : GlobalScope) → G g → NoClock (permanent_variables g (erase.system y))
  members_no_clock g i =
      no_clock (permanent_variables g (erase.system y))
      (ap (has_name (codes "realtime")) (member_names g i)
      ∙ (not_either (codes "realtime") own_names (keys scope.routines)
      (distinct_apart (keys scope.outer) (own_names ++ keys scope.routines) all_distinct_in (codes "realtime") (lookup_has (codes "realtime") scope.outer (entity.Standard standard.Realtime) scope.clock))).0)

  -- no routine has the name of a parameter or variable
  members_no_routine : (g : GlobalScope) → G g → (x : Text) (v : Variable) → lookup x (permanent_variables g (erase.system y)) ≡ Some v → routine_named x (erase.system y) ≡ None
  members_no_routine g i x v found =
      let names : Names = scope.outer ++ (scope.parameters ++ scope.variables) in
      let there : has_name x (keys names) ≡ true =
      ap (has_name x) (keys-append scope.outer (scope.parameters ++ scope.variables) ∙ ap (λ l. keys scope.outer ++ l) (keys-append scope.parameters scope.variables))
      ∙ has_second x (keys scope.outer) own_names (ap (has_name x) (sym (member_names g i)) ∙ lookup_has x (permanent_variables g (erase.system y)) v found) in
      let e : (e : Entity) × (lookup x names ≡ Some e) = has_lookup x names there in
      scope.no_routine x e.0 e.1

  pub bodies_typed : (g : GlobalScope) → G g → TypedBodies g ys (erase.system y)
  bodies_typed g i = record {
    distinct = members_distinct g i;
    no_clock = members_no_clock g i;
    no_routine = members_no_routine g i;
    routines = λ k q h. routine_typed q k h g i;
    body = λ at. body_of g i at;
  }

-- ---- the scope after the variables of a component

-- a scope with the parameters of a component
pub record Inside (G : GlobalScope → Type 0) (ys : List a.System) (y : s.System) (env : Environment) (rs : Types) : Type 0 where
  pub outer : Names
  pub bound : Names
  pub names : env.names ≡ outer ++ bound
  pub distinct : AllDistinct (keys env.names)
  pub globals : NamesAs G rs env.names
  pub outer_as : NamesAs G rs outer
  pub is_outer : (x : Text) (e : Entity) → lookup x outer ≡ Some e → IsOuter e
  pub clock : lookup (codes "realtime") outer ≡ Some (entity.Standard standard.Realtime)
  pub declared : List (Text × Variable)
  pub declares : Declares G (map erase.parameter_group y.parameters) declared
  pub meets : VariablesAs true rs bound declared
  pub by_value : (x : Text) (v : Variable) → lookup x declared ≡ Some v → v.by_reference ≡ false
  pub tables : Tables G env rs
  pub systems : (t : ℕ) (w : a.System) (inner : Members) → TypeAt rs t (ComponentOf w inner) → (i : ℕ) × (slice_get ys i ≡ Some w)
  pub region : env.region ≡ record { sort = y.sort; part = part.Body }

pub open_scope : (G : GlobalScope → Type 0) (ys : List a.System) (y : s.System) (p : Position) (env : Environment) (rs : Types) → (c : Inside G ys y env rs)
    → (m : VariablesMade G env rs p y.variables (variables env p y.variables).env (variables env p y.variables).words) → (routines (variables env p y.variables).env y.sort y.routines).violations ≡ []
    → Opened G ys y p (variables env p y.variables).env m.more
open_scope G ys y p env rs c m sound = record {
  scope = record {
    outer = c.outer;
    parameters = c.bound;
    variables = m.entries_of;
    routines = [];
    names = names_are;
    distinct = distinct;
    globals = m.globals;
    outer_as = names_kept G env own rs m.more m.grows c.outer c.outer_as;
    is_outer = c.is_outer;
    clock = c.clock;
    parameters_declared = c.declared;
    variables_declared = m.declared;
    declares_parameters = c.declares;
    declares_variables = m.declares;
    parameters_as = entries_kept G true env own rs m.more m.grows c.bound c.declared c.meets;
    variables_as = m.meets;
    by_value = c.by_value;
    routines_as = λ z e h. absurd (cc);
    no_routine = λ z e h. no_routine_named z (map erase.routine y.routines)
        (there_is_not_new z (keys own.names) (routine_names (map erase.routine y.routines)) (routines_new y.sort y.routines own sound)
        (lookup_has z own.names e (ap (lookup z) bytes_eqs ∙ h)));
    tables = m.tables;
    systems = λ t w i h. c.systems t w i (m.components t w i h);
  };
  region = ap (λ e. e.region) m.same ∙ c.region;
}
  where
    own : Environment
    own = (variables env p y.variables).env

    bytes_eqs : (variables env p y.variables).env.names ≡ c.outer ++ (c.bound ++ m.entries_of)
    bytes_eqs = m.names_are ∙ ap (λ l. l ++ m.entries_of) c.names ∙ append_assoc c.outer c.bound m.entries_of

    names_are : (variables env p y.variables).env.names ≡ c.outer ++ (c.bound ++ (m.entries_of ++ []))
    names_are = bytes_eqs ∙ ap (λ l. c.outer ++ (c.bound ++ l)) (sym (append-nil m.entries_of))

    distinct : AllDistinct (keys (variables env p y.variables).env.names)
    distinct = subst AllDistinct (sym (ap keys m.names_are ∙ keys-append env.names m.entries_of)) (all_distinct (keys env.names) (keys m.entries_of) c.distinct m.new)
