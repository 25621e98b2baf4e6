-- A well-typed text keeps the order of its monitors.
use Rattle.std.proofs.Common.{◌≡◌, ℕ, ◌≤◌, ◌+◌, List, [], Bool, true, false, Option, Some, None, refl, ap, sym, subst, ◌∙◌, inl, inr, arith}
use Rattle.std.specs.Prelude.{slice_get, take}
use Rattle.cp_model.specs.Abstract.{Class, Expressions, Monitor, Name, Process, Routine, Sort, System}
use Rattle.cp_model.specs.Names.{lookup}
use Rattle.cp_model.specs.Types.{ComponentOf, GlobalScope, Members, ResolvedType}
use Rattle.cp_model.specs.Declarations.{Variable, declarations, globals}
use Rattle.cp_model.specs.Environments.{Environment, Frame, local_variables, permanent_variables}
use Rattle.cp_model.specs.Components.{Component, component_named, count_before, declared_monitor, is_component_of, same_sort}
use Rattle.cp_model.specs.Start.{initial_environment}
use Rattle.cp_model.specs.States.{Setup, initial_variables, monitor_count}
use Rattle.cp_law_typing.specs.Declared.{InitialVariable, IsSystem, SystemParameter, SystemVariable, sort_of}
use Rattle.cp_law_typing.specs.Judgement.{Initialises, IsSimple, Place}
use Rattle.cp_law_typing.specs.SoundTypes.{SoundType}
use Rattle.cp_law_typing.specs.WellTyped.{TypedBodies, TypedRoutine, TypedSystem, WellTyped, text_systems}
use Rattle.cp_law_typing.proofs.Facts.{monitors_numbered, taken}
use Rattle.cp_law_typing.specs.TypePlaces.{type_place}
use Rattle.cp_law_gates.specs.InOrder.{Here, InitFits, InitOf, IsOrdered, IsOutermost, Keeps, world}
use Rattle.cp_law_typing.specs.PassedRights.{ItemPassesEarlier}
use Rattle.cp_law_typing.proofs.ComponentNames.{IsNamed, each_found, found_either, is_named}
use Rattle.cp_law_gates.proofs.MonitorCounts.{positive}
use Rattle.cp_law_gates.proofs.Queueless.{Queueless, queue_is_own, routine_queueless}
use Rattle.cp_law_gates.proofs.TypedStatements.{nothing_early, typed_keeps}

module _ (setup : Setup) (W : WellTyped setup) where
  scope : GlobalScope
  scope = globals setup.tree

  of_system : (g : GlobalScope) (before : List System) (t : ResolvedType) (s : System) (inner : Members) → t ≡ ComponentOf s inner → IsSystem g before t → (i : ℕ) × (slice_get before i ≡ Some s)
  of_system g before t s inner e h = let k = subst (IsSystem g before) e h in (k.0, k.1)

  no_data : (t : ResolvedType) (s : System) (inner : Members) → t ≡ ComponentOf s inner → SoundType t → ⊥
  no_data t s inner e h = subst SoundType e h

  no_simple : (t : ResolvedType) (s : System) (inner : Members) → t ≡ ComponentOf s inner → IsSimple t → ⊥
  no_simple t s inner e h = grind (arith, sym e ∙ h.1.is)

  pub initial_bare : (env : Environment) (x : Name) (c : Component) → env.globals ≡ globals setup.tree → env.system ≡ setup.tree.initial → component_named env x ≡ Some c
      → (c.is_parameter ≡ false) × ((i : ℕ) × (slice_get (text_systems setup) i ≡ Some c.system))
  initial_bare env x c ge se is = by c.is_parameter refl
    where
      N : IsNamed env x c
      N = is_named env x c is

      all : declarations env.globals env.system.variables ≡ initial_variables setup
      all i = declarations (ge i) (se i).variables

      none : declarations env.globals env.system.parameters ≡ []
      none = ap (λ (s : System). declarations env.globals s.parameters) se ∙ ap (declarations env.globals) W.initial_parameters

      by : (b : Bool) → c.is_parameter ≡ b → (c.is_parameter ≡ false) × ((i : ℕ) × (slice_get (text_systems setup) i ≡ Some c.system))
      by true e = absurd (grind (arith, sym (N.parameter e) ∙ ap (lookup x) none))
      by false e =
          let V = each_found (λ y. InitialVariable (globals setup.tree) (text_systems setup) ([], y)) (initial_variables setup) x N.variable W.initial_variables (ap (lookup x) (sym all) ∙ N.own e) in (
            e,
            elim V.1 [
              | inl k ↦ absurd (no_data N.variable.type c.system N.inner N.type k.0.0)
              | inr k ↦ of_system (globals setup.tree) (text_systems setup) N.variable.type c.system N.inner N.type k
            ],
          )

  inner_components : (env : Environment) (x : Name) (c : Component) → env.globals ≡ globals setup.tree → (i : ℕ) × (slice_get (text_systems setup) i ≡ Some env.system) → component_named env x ≡ Some c
      → (c.is_parameter ≡ false → c.system.sort ≡ Class) × ((i : ℕ) × (slice_get (text_systems setup) i ≡ Some c.system))
  inner_components env x c ge there is = ((λ e. (own e).0), by c.is_parameter refl)
    where
      N : IsNamed env x c
      N = is_named env x c is

      T : TypedSystem (globals setup.tree) (take there.0 (text_systems setup)) env.system
      T = W.systems there.0 env.system there.1

      before : (i : ℕ) × (slice_get (take there.0 (text_systems setup)) i ≡ Some c.system) → (i : ℕ) × (slice_get (text_systems setup) i ≡ Some c.system)
      before h = (h.0, (taken (text_systems setup) there.0 h.0 c.system h.1).1)

      class_of : Some c.system.sort ≡ Some Class → c.system.sort ≡ Class
      class_of h = Prim.cc

      own : c.is_parameter ≡ false → (c.system.sort ≡ Class) × ((i : ℕ) × (slice_get (text_systems setup) i ≡ Some c.system))
      own e =
          let V = each_found (λ y. SystemVariable (globals setup.tree) (take there.0 (text_systems setup)) env.system.sort ([], y)) (declarations (globals setup.tree) env.system.variables) x N.variable T.variables
          (ap (λ g. lookup x (declarations g env.system.variables)) (sym ge) ∙ N.own e) in
          elim V.1 [
            | inl k ↦ absurd (no_data N.variable.type c.system N.inner N.type k.0.0)
            | inr k ↦ (class_of (ap sort_of (sym N.type) ∙ k.1), before (of_system (globals setup.tree) (take there.0 (text_systems setup)) N.variable.type c.system N.inner N.type k.0))
          ]

      passed : c.is_parameter ≡ true → (i : ℕ) × (slice_get (text_systems setup) i ≡ Some c.system)
      passed e =
          let V = each_found (λ y. SystemParameter (globals setup.tree) (take there.0 (text_systems setup)) env.system.sort ([], y)) (declarations (globals setup.tree) env.system.parameters) x N.variable T.parameters
          (ap (λ g. lookup x (declarations g env.system.parameters)) (sym ge) ∙ N.parameter e) in
          elim V.1 [
            | inl k ↦ absurd (no_simple N.variable.type c.system N.inner N.type k.0)
            | inr k ↦ before (of_system (globals setup.tree) (take there.0 (text_systems setup)) N.variable.type c.system N.inner N.type k.0)
          ]

      by : (b : Bool) → c.is_parameter ≡ b → (i : ℕ) × (slice_get (text_systems setup) i ≡ Some c.system)
      by true e = passed e
      by false e = (own e).1

  no_monitor_outside : Process ≡ Monitor → ⊥
  no_monitor_outside e = grind arith

module _ (setup : Setup) (W : WellTyped setup) where
  abbrev place : ℕ → ℕ
  place = type_place setup

  abbrev Early : Name → Expressions → Type 0
  Early x es = ItemPassesEarlier place (initial_environment setup) (component_named (initial_environment setup) x) es

  -- ---- The initial process

  initial_init : (x : Name) (es : Expressions) (P : Place) → P.env ≡ initial_environment setup → Initialises P x es
      → Early x es → InitOf (world setup) P.env (component_named P.env x) es
  initial_init x es P is I early =
      subst (λ e. InitOf (world setup) e (component_named e x) es) (sym is)
      (subst (λ o. InitOf (world setup) (initial_environment setup) o es) (sym named)
      (I.own, fits I.component.system.sort refl))
    where
      named : component_named (initial_environment setup) x ≡ Some I.component
      named = ap (λ e. component_named e x) (sym is) ∙ I.named

      N : IsNamed (initial_environment setup) x I.component
      N = is_named (initial_environment setup) x I.component named

      numbered : I.component.system.sort ≡ Monitor → declared_monitor (initial_environment setup) I.component ≤ monitor_count setup
      numbered m = subst (λ y. 1 + count_before Monitor y (initial_variables setup) ≤ monitor_count setup) (sym N.name)
          (monitors_numbered setup x N.variable (N.own I.own) (ap (is_component_of Monitor) N.type ∙ ap (same_sort Monitor) m))

      fits : (s : Sort) → I.component.system.sort ≡ s → InitFits s (world setup) (initial_environment setup) I.component es
      fits Class e = tt
      fits Process e = tt
      fits Monitor e = (
        (refl, refl),
        omega arith,
        numbered e,
        subst (λ o. ItemPassesEarlier place (initial_environment setup) o es) named early e,
      )

  -- ---- All environments

  nothing_else : (x : Name) (es : Expressions) → Type 0
  nothing_else x es = Unit {0}

  environment_is : (a b : Environment) → a.globals ≡ b.globals → a.system ≡ b.system → a.component ≡ b.component → a.frame ≡ b.frame → a ≡ b
  environment_is a b g s c f i = record { globals = g i; system = s i; component = c i; frame = f i }

  framed : (f : Frame) → None ≡ Some f → ⊥
  framed f e = grind arith

  class_inits : (P : Place) → P.env.globals ≡ globals setup.tree → (i : ℕ) × (slice_get (text_systems setup) i ≡ Some P.env.system) → (x : Name) (es : Expressions) → Initialises P x es
      → InitOf (world setup) P.env (component_named P.env x) es
  class_inits P ge there x es I =
      subst (λ o. InitOf (world setup) P.env o es) (sym I.named)
      (I.own, subst (λ s. InitFits s (world setup) P.env I.component es) (sym ((inner_components setup W P.env x I.component ge there I.named).0 I.own)) tt)

  bodies : (env : Environment) → Here (world setup) env → env.frame ≡ None → Keeps (world setup) env env.system.body
  bodies env H none = elim H.kind [ inl o ↦ outer o | inr i ↦ inner i ]
    where
      outer : IsOutermost (world setup) env → Keeps (world setup) env env.system.body
      outer o =
          let is : env ≡ initial_environment setup = environment_is env (initial_environment setup) H.scope o.0 o.1 none in
          subst (λ e. Keeps (world setup) e e.system.body) (sym is)
          (typed_keeps (world setup) (Rattle.cp_law_typing.specs.WellTyped.body_place (globals setup.tree) (text_systems setup) setup.tree.initial (Rattle.cp_model.specs.Components.process_location 1))
          Early
          (λ x es I early. initial_init x es (Rattle.cp_law_typing.specs.WellTyped.body_place (globals setup.tree) (text_systems setup) setup.tree.initial (Rattle.cp_model.specs.Components.process_location 1)) refl I early)
          (λ d q m. absurd (no_monitor_outside setup W (sym W.initial_sort ∙ m.0)))
          setup.tree.initial.body (W.initial_bodies.body (Rattle.cp_model.specs.Components.process_location 1)) W.passes)

      inner : (i : ℕ) × (slice_get (text_systems setup) i ≡ Some env.system) → Keeps (world setup) env env.system.body
      inner i =
          let P : Place = Rattle.cp_law_typing.specs.WellTyped.body_place (globals setup.tree) (take i.0 (text_systems setup)) env.system env.component in
          let is : env ≡ P.env = environment_is env P.env H.scope refl refl none in
          subst (λ e. Keeps (world setup) e env.system.body) (sym is)
          (typed_keeps (world setup) P (λ x es. Unit {0})
          (λ x es I early. class_inits P refl i x es I)
          (λ d q m. absurd (framed m.1 m.2))
          env.system.body ((W.systems i.0 env.system i.1).bodies.body env.component) (nothing_early env.system.body))

  direct_in : (i : ℕ) (s : System) → slice_get (text_systems setup) i ≡ Some s → (x : Name) (v : Variable) → lookup x (permanent_variables (globals setup.tree) s) ≡ Some v → v.by_reference ≡ false
  direct_in i s there x v h = elim (found_either (declarations (globals setup.tree) s.parameters) (declarations (globals setup.tree) s.variables) x v h) [
    | inl a ↦ (each_found (λ y. SystemParameter (globals setup.tree) (take i (text_systems setup)) s.sort ([], y)) (declarations (globals setup.tree) s.parameters) x v (W.systems i s there).parameters a).0
    | inr a ↦ (each_found (λ y. SystemVariable (globals setup.tree) (take i (text_systems setup)) s.sort ([], y)) (declarations (globals setup.tree) s.variables) x v (W.systems i s there).variables a).0
  ]

  routines : (env : Environment) (f : Frame) (k : ℕ) → Here (world setup) env → slice_get env.system.routines k ≡ Some f.routine → env.frame ≡ Some f → Keeps (world setup) env f.routine.body
  routines env f k H found running = elim H.kind [ inl o ↦ outer o | inr i ↦ inner i ]
    where
      framed_too : Some f ≡ None → ⊥
      framed_too e = grind arith

      outer : IsOutermost (world setup) env → Keeps (world setup) env f.routine.body
      outer o =
          let P : Place = Rattle.cp_law_typing.specs.WellTyped.routine_place (globals setup.tree) (text_systems setup) setup.tree.initial k f.routine env.component f.owner in
          let is : env ≡ P.env = environment_is env P.env H.scope o.0 refl running in
          let T : TypedRoutine (globals setup.tree) (text_systems setup) setup.tree.initial k f.routine = W.initial_bodies.routines k f.routine (ap (λ (s : System). slice_get s.routines k) (sym o.0) ∙ found) in
          subst (λ e. Keeps (world setup) e f.routine.body) (sym is)
          (typed_keeps (world setup) P (λ x es. Unit {0})
          (λ x es I early. absurd (framed_too I.outside))
          (λ d q m. absurd (no_monitor_outside setup W (sym W.initial_sort ∙ m.0)))
          f.routine.body (T.body env.component f.owner) (nothing_early f.routine.body))

      inner : (i : ℕ) × (slice_get (text_systems setup) i ≡ Some env.system) → Keeps (world setup) env f.routine.body
      inner i =
          let P : Place = Rattle.cp_law_typing.specs.WellTyped.routine_place (globals setup.tree) (take i.0 (text_systems setup)) env.system k f.routine env.component f.owner in
          let is : env ≡ P.env = environment_is env P.env H.scope refl refl running in
          let T : TypedRoutine (globals setup.tree) (take i.0 (text_systems setup)) env.system k f.routine = (W.systems i.0 env.system i.1).bodies.routines k f.routine found in
          subst (λ e. Keeps (world setup) e f.routine.body) (sym is)
          (typed_keeps (world setup) P (λ x es. Unit {0})
          (λ x es I early. absurd (framed_too I.outside))
          (λ d q m. queue_is_own P.env (λ x v h. direct_in i.0 env.system i.1 x v h)
          (λ z x v e h. locals i T z x v e h) d q)
          f.routine.body (T.body env.component f.owner) (nothing_early f.routine.body))
        where
          locals : (i : (i : ℕ) × (slice_get (text_systems setup) i ≡ Some env.system)) → TypedRoutine (globals setup.tree) (take i.0 (text_systems setup)) env.system k f.routine
              → (z : Frame) (x : Name) (v : Variable) → Some (record { owner = f.owner; routine = f.routine }) ≡ Some z → lookup x (local_variables (globals setup.tree) z.routine) ≡ Some v → Queueless v.type
          locals i T z x v e h = routine_queueless (globals setup.tree) (take i.0 (text_systems setup)) env.system k f.routine T x v (ap (λ r. lookup x (local_variables (globals setup.tree) r)) (same e) ∙ h)
            where
              routine_in : Option Frame → Routine
              routine_in None = f.routine
              routine_in (Some y) = y.routine

              same : Some (record { owner = f.owner; routine = f.routine }) ≡ Some z → f.routine ≡ z.routine
              same e = ap routine_in e

  pub text_is_ordered : IsOrdered (world setup)
  text_is_ordered = record {
    zero_first = positive setup;
    initial_bare = initial_bare setup W;
    inner_components = inner_components setup W;
    initial_sort = W.initial_sort;
    bodies = bodies;
    routines = routines;
  }
