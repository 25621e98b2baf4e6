-- The order of monitors in an accepted text: the type of a monitor variable is written as a name, a
-- later name of a system type has a higher row, and what `init` passes on has a lower row than what
-- it is passed to. So each right that the initial process passes to a monitor is to a monitor whose
-- type was defined earlier.
use Rattle.std.proofs.Common.{◌≡◌, ◌≤◌, ◌⊎◌, inl, inr, ◌+◌, ℕ, Bool, true, false, List, [], ◌∷◌, Option, Some, None, if◌then◌else◌, slice_get, length, map, refl, ap, sym, subst, ◌∙◌, arith, bytes_eq}
use Rattle.std.specs.Option.{option_or}
use Rattle.std.proofs.lemmas.Bool.{true≢false}
use Rattle.cp_model.specs.Syntax as s
use Rattle.cp_model.specs.Abstract as a
use Rattle.cp_model.specs.Erase as erase
use Rattle.cp_model.specs.declared.tree.Sort.{Sort}
use Rattle.cp_model.specs.declared.tree.Sort.TheVariants as sort
use Rattle.cp_model.specs.declared.rules.Access.{Access}
use Rattle.cp_model.specs.declared.rules.Entity.{Entity}
use Rattle.cp_model.specs.declared.rules.Entity.TheVariants as entity
use Rattle.cp_model.specs.declared.rules.Position.TheVariants as position
use Rattle.cp_model.specs.RulesEnvironment.{Environment, Text, declare_if_new}
use Rattle.cp_model.specs.RulesStatements.{statements}
use Rattle.cp_model.specs.RulesDeclarations.{routine, routines}
use Rattle.cp_model.specs.Types.{ArrayOf, ComponentOf, GlobalScope, Members, NoType, Queue, RecordOf, ResolvedType, Simple, standard_scope}
use Rattle.cp_model.specs.Declarations.{declarations, define_all, is_component}
use Rattle.cp_model.specs.Components.{Component, component_named, declared_monitor, is_component_of, process_location, same_sort}
use Rattle.cp_model.specs.Names.{lookup}
use Rattle.cp_model.specs.States.{Setup}
use Rattle.cp_law_typing.specs.Systems.{systems_of}
use Rattle.cp_law_typing.specs.Judgement.{Place}
use Rattle.cp_law_typing.specs.WellTyped.{Later, body_place}
use Rattle.cp_law_typing.specs.PassedRights.{PassesInOrder}
use Rattle.cp_law_typing.specs.TypePlaces.{place_of, type_place}
use Rattle.cp_law_typing.proofs.Names.{lookup-append}
use Rattle.cp_law_typing.proofs.ComponentNames.{IsNamed, is_named}
use Rattle.cp_law_typing.proofs.TableMeanings.{TypeAs, TypeAt, Types}
use Rattle.cp_law_typing.proofs.Visible.{PartAs, Visible, component_of, some_same}
use Rattle.cp_law_typing.proofs.TypeOrder.{Ascend, ParametersBefore, SystemName, all_kept, found_behind, places_ascend}
use Rattle.cp_law_typing.proofs.MonitorPlaces.{monitor_place, written_types}
use Rattle.cp_law_typing.proofs.NamedTypes.{EntryNamed, written_type}
use Rattle.cp_law_typing.proofs.DeclaredVariables.{VariablesMade}
use Rattle.cp_law_typing.proofs.Stages.{SchedulingState, later_same}
use Rattle.cp_law_typing.proofs.ComponentScopes.{RoutinesMade}
use Rattle.cp_law_typing.proofs.ComponentBodies.{Opened, routines_all, visible_in_body}
use Rattle.cp_law_typing.proofs.EarlierRights.{OwnComponents, PlacesFollowRows, statements_earlier}

-- ---- Names behind routines

-- A variable that is found behind routines was found before them.
variable_before : (y : Sort) (qs : List s.Routine) (env : Environment) (x : Text) (t : ℕ) (acc : Access)
    → lookup x (routines env y qs).env.names ≡ Some (entity.Variable t acc) → lookup x env.names ≡ Some (entity.Variable t acc)
variable_before y [] env x t acc h = h
variable_before y (q ∷ qs) env x t acc h = one (length env.routines) (lookup q.name.name env.names) (variable_before y qs (routine env y q).env x t acc h)
  where
    behind : (b : Bool) (o : Option Entity) (k : ℕ) → option_or o (if b then Some (entity.Routine k) else None) ≡ Some (entity.Variable t acc) → o ≡ Some (entity.Variable t acc)
    behind b (Some e) k g = g
    behind true None k g = absurd (cc)
    behind false None k g = absurd (cc)

    one : (k : ℕ) (o : Option Entity) → lookup x (declare_if_new q.name (entity.Routine k) env.names o) ≡ Some (entity.Variable t acc)
        → lookup x env.names ≡ Some (entity.Variable t acc)
    one k None g = behind (bytes_eq x q.name.name) (lookup x env.names) k (sym (lookup-append x env.names ((q.name.name, entity.Routine k) ∷ [])) ∙ g)
    one k (Some e) g = g

component_type : (x : Text) (acc : Access) (r : ResolvedType) (c : Component) → component_of x acc r ≡ Some c → (inner : Members) × (r ≡ ComponentOf c.system inner)
component_type x acc (ComponentOf y inner) c h = (inner, ap (λ z. ComponentOf z inner) (ap system_in h))
  where
    system_in : Option Component → a.System
    system_in None = y
    system_in (Some k) = k.system
component_type x acc (Simple b low high start) c h = absurd (cc)
component_type x acc (ArrayOf low high r) c h = absurd (cc)
component_type x acc (RecordOf ps) c h = absurd (cc)
component_type x acc Queue c h = absurd (cc)
component_type x acc NoType c h = absurd (cc)

-- The standard types are no components.
standard_alone : (x : Text) (y : a.System) (inner : Members) → lookup x standard_scope.types ≡ Some (ComponentOf y inner) → ⊥
standard_alone x y inner h = absurd (go standard_scope.types (refl, (refl, (refl, (refl, tt)))) h)
  where
    AllAlone : List (Text × ResolvedType) → Type 0
    AllAlone [] = Unit {0}
    AllAlone (v ∷ vs) = (is_component v.1 ≡ false) × AllAlone vs

    go : (vs : List (Text × ResolvedType)) → AllAlone vs → lookup x vs ≡ Some (ComponentOf y inner) → ⊥
    go [] a h = absurd (cc)
    go (v ∷ vs) a h = by (bytes_eq x v.0) h (go vs a.1)
      where
        by : (b : Bool) → (if b then Some v.1 else lookup x vs) ≡ Some (ComponentOf y inner) → (lookup x vs ≡ Some (ComponentOf y inner) → ⊥) → ⊥
        by true h rest = true≢false (ap is_component (sym (some_same (Some v.1) v.1 (ComponentOf y inner) refl h)) ∙ a.0)
        by false h rest = rest h

-- ---- The initial process

-- The initial process is a process type without parameters.
abbrev initial_of : s.Tree → s.System
initial_of t = record { sort = sort.Process; parameters = []; variables = t.variables; routines = t.routines; body = t.body }

abbrev definitions_of : s.Tree → List a.Definition
definitions_of t = erase.sections t.sections

abbrev scope_of : s.Tree → GlobalScope
scope_of t = define_all standard_scope (definitions_of t)

module _ (t : s.Tree) (outer : Environment) (rs : Types) (stage : SchedulingState outer (scope_of t) rs (systems_of (definitions_of t)))
    (low high : ℕ) (ascend : Ascend outer.names rs low high (definitions_of t))
    (own : Environment) (total : ℕ) (m : VariablesMade (Later (scope_of t)) outer rs position.InitialVariable t.variables own total)
    (opened : Opened (Later (scope_of t)) (systems_of (definitions_of t)) (initial_of t) position.InitialVariable own m.more)
    (routines_sound : (routines own sort.Process t.routines).violations ≡ [])
    (body_sound : statements (routines own sort.Process t.routines).env t.body.list ≡ []) where
  abbrev ds : List a.Definition
  ds = definitions_of t

  abbrev g : GlobalScope
  g = scope_of t

  abbrev G : GlobalScope → Type 0
  G = Later g

  abbrev ys : List a.System
  ys = systems_of ds

  abbrev setup : Setup
  setup = record { tree = erase.abstract t; inputs = λ p. []; tick = 0 }

  abbrev all : Environment
  all = (routines own sort.Process t.routines).env

  abbrev behind : RoutinesMade G ys (erase.system (initial_of t)) own m.more 0 t.routines all
  behind = routines_all G ys (initial_of t) position.InitialVariable own m.more opened routines_sound body_sound

  abbrev p : Place
  p = body_place g ys (erase.system (initial_of t)) (process_location 1)

  visible : Visible G all behind.more p
  visible = visible_in_body G ys (initial_of t) position.InitialVariable own m.more opened routines_sound body_sound g (later_same g) (process_location 1)

  before : ParametersBefore all behind.more
  before = all_kept G own all m.more behind.more m.tables behind.grows behind.components
      (all_kept G outer own rs m.more stage.tables m.grows m.components stage.earlier)

  own_components : OwnComponents p
  own_components x c named = by c.is_parameter refl
    where
      by : (b : Bool) → c.is_parameter ≡ b → c.is_parameter ≡ false
      by false e = e
      by true e = absurd (cc ((is_named p.env x c named).parameter e))

  -- A monitor variable: the name of its type, and where that is.
  record MonitorRow (x : Text) (row : ℕ) (c : Component) : Type 0 where
    type : Text
    named : SystemName outer.names rs type row
    place : type_place setup (declared_monitor p.env c) ≡ place_of type ds
    within : place_of type ds ≤ length ds

  entry_found : (x : Text) (row : ℕ) (acc : Access) → lookup x all.names ≡ Some (entity.Variable row acc) → lookup x m.entries_of ≡ Some (entity.Variable row acc)
  entry_found x row acc h =
      go (lookup x outer.names) refl (sym (lookup-append x outer.names m.entries_of) ∙ ap (lookup x) (sym m.names_are) ∙ variable_before sort.Process t.routines own x row acc h)
    where
      go : (o : Option Entity) → lookup x outer.names ≡ o → option_or o (lookup x m.entries_of) ≡ Some (entity.Variable row acc) → lookup x m.entries_of ≡ Some (entity.Variable row acc)
      go None is k = k
      go (Some e) is k = absurd (stage.is_outer x (entity.Variable row acc) (is ∙ k))

  monitor_row : (x : Text) (row : ℕ) (acc : Access) (c : Component) → lookup x all.names ≡ Some (entity.Variable row acc) → component_named p.env x ≡ Some c
      → c.system.sort ≡ a.Monitor → MonitorRow x row c
  monitor_row x row acc c h named monitor =
      let q : PartAs G all behind.more p (a.Plain x) row acc = visible.names x (entity.Variable row acc) h in
      let type : (inner : Members) × (q.type ≡ ComponentOf c.system inner) = component_type x acc q.type c (sym q.component ∙ named) in
      let there : TypeAt m.more row (ComponentOf c.system type.0) = behind.components row c.system type.0 (subst (TypeAt behind.more row) type.1 q.there) in
      let written : (te : a.TypeExpression) × (lookup x (written_types (map erase.variable_group t.variables)) ≡ Some te) × EntryNamed outer.names m.more (entity.Variable row acc) te =
      written_type outer.names m.more m.entries_of (written_types (map erase.variable_group t.variables)) x row acc (m.named g (later_same g)) (entry_found x row acc h) in
      let name : (n : Text) × (written.0 ≡ a.TypeName n) × (lookup n outer.names ≡ Some (entity.Type row)) = written.2 c.system type.0 there in
      let early : TypeAt rs row (ComponentOf c.system type.0) = m.components row c.system type.0 there in
      let meant : TypeAs G rs name.0 row = stage.globals name.0 (entity.Type row) name.2 in
      let found : lookup name.0 g.types ≡ Some (ComponentOf c.system type.0) =
      meant.2 g (later_same g) ∙ ap (λ r. Some r) (some_same (slice_get rs row) meant.0 (ComponentOf c.system type.0) meant.1 early) in
      let n : IsNamed p.env x c = is_named p.env x c named in
      record {
        type = name.0;
        named = record { is = name.2; system = c.system; inner = type.0; there = early };
        place = ap (λ z. type_place setup (1 + Rattle.cp_model.specs.Components.count_before a.Monitor z (declarations g (erase.abstract t).initial.variables))) n.name
            ∙ monitor_place setup x name.0 n.variable (ap (is_component_of a.Monitor) n.type ∙ ap (same_sort a.Monitor) monitor) (written.1 ∙ ap (λ e. Some e) name.1) (n.own (own_components x c named));
        within = either name.0 type.0 (found_behind name.0 (ComponentOf c.system type.0) ds standard_scope found);
      }
    where
      either : (n : Text) (inner : Members) → (lookup n standard_scope.types ≡ Some (ComponentOf c.system inner)) ⊎ (place_of n ds ≤ length ds) → place_of n ds ≤ length ds
      either n inner (inl k) = absurd (standard_alone n c.system inner k)
      either n inner (inr k) = k

  follow : PlacesFollowRows (type_place setup) all p
  follow x z row lower b q c e found named monitor other_found other_named other less =
      let r : MonitorRow x row c = monitor_row x row b c found named monitor in
      let l : MonitorRow z lower e = monitor_row z lower q e other_found other_named other in
      omega (arith, r.place, l.place, places_ascend outer.names rs low high ds l.type r.type lower row l.named r.named ascend l.within less)

  pub passes_in_order : PassesInOrder (type_place setup) setup
  passes_in_order = statements_earlier G all behind.more p visible (type_place setup) before own_components follow t.body.list body_sound
