-- A compiled call calls the routine that is meant, and its target is the component that is named.
use Rattle.std.proofs.Common.{◌≡◌, ℕ, List, [], ◌∷◌, ◌++◌, if◌then◌else◌, Option, Some, None, refl, ap, sym, subst, ◌∙◌, Bool, true, false, not, filter, arith, bytes_eq}
use Rattle.cp_model.specs.Abstract as a
use Rattle.cp_model.specs.Abstract.{Name, Routine, Sort, System}
use Rattle.cp_model.specs.Names.{lookup}
use Rattle.cp_model.specs.Types.{ComponentOf, Members, base_of_type}
use Rattle.cp_model.specs.Declarations.{Variable, declarations, is_component, reported_members}
use Rattle.cp_model.specs.Environments.{Environment, permanent_variables}
use Rattle.cp_model.specs.Locations.{Location, Owner}
use Rattle.cp_model.specs.Components.{Component, component_named}
use Rattle.cp_model.specs.Calls.{Callee, callee, own_routine, is_local, routine_named}
use Rattle.cp_law_typing.specs.Judgement.{IsFunction, MayBeCalled}
use Rattle.cp_law_typing.specs.StaticTypes.{answer_type}
use Rattle.cp_model_program.specs.Terms.{Argument}
use Rattle.cp_model_program.specs.Programs.{CodeUnit, Program}
use Rattle.cp_model_program.specs.Sites.{Answers, Calls, RightTo, RoutineOf, Site, TargetFor, TargetOf, UnitText, system_of_callee}
use Rattle.cp_model_program.specs.Layout.{activation_words, member, rights}
use Rattle.cp_model_program.specs.Scopes.{Scope, environment, part_start, right_start, target_by, target_of, unit_of}
use Rattle.cp_model_program.proofs.Found.{kept_found, kept_none, not_a_member, right_found, variable_is_member}
use Rattle.cp_law_typing.specs.Declared.{Distinct}
use Rattle.cp_law_typing.proofs.ComponentNames.{IsNamed, is_named}
use Rattle.cp_law_typing.proofs.Names.{bytes_same, lookup_first, lookup_later}
use Rattle.cp_model_program.specs.CodedTerms.{call_of, parameters_of}
use Rattle.cp_model_program.proofs.Room.{room_is}
use Rattle.cp_model_program.proofs.Environments.{environment_at}
use Rattle.cp_model_program.proofs.Representing.{CallFits, Representing, UnitThere, place_at}

-- ---- Names of components

pub name_kept : (env : Environment) (x : Name) (n : Component) → component_named env x ≡ Some n → component_named env n.name ≡ Some n
name_kept env x n h = ap (component_named env) (is_named env x n h).name ∙ h

-- ---- Callees

component_by : (env : Environment) (o : Option Component) (f : Name) (c : Callee) (n : Component)
    → (elim o [ None ↦ None | Some m ↦ elim (routine_named f m.system) [ None ↦ None | Some r ↦ Some (record { routine = r; of = Some m }) ] ]) ≡ Some c → c.of ≡ Some n → o ≡ Some n
component_by env None f c n h is = absurd (cc)
component_by env (Some m) f c n h is = go (routine_named f m.system) h
  where
    go : (q : Option Routine) → (elim q [ None ↦ None | Some r ↦ Some (record { routine = r; of = Some m }) ]) ≡ Some c → Some m ≡ Some n
    go None h = absurd (cc)
    go (Some r) h = ap (λ z. elim z [ None ↦ None | Some y ↦ y.of ]) h ∙ is

abbrev component_in : Option Callee → Option Component
component_in None = None
component_in (Some c) = c.of

own_by : (q : Option Routine) (c : Callee) (n : Component) → (elim q [ None ↦ None | Some r ↦ Some (record { routine = r; of = None }) ]) ≡ Some c → c.of ≡ Some n → ⊥
own_by None c n h is = cc
own_by (Some r) c n h is = cc (ap component_in h, is)

-- the component of a call is found by its own name
pub callee_of : (env : Environment) (d : a.Designator) (c : Callee) (n : Component) → callee env d ≡ Some c → c.of ≡ Some n → component_named env n.name ≡ Some n
callee_of env (a.Plain f) c n h is = absurd (own_by (own_routine (is_local env.globals env.frame f) f env.system) c n h is)
callee_of env (a.Part (a.Plain x) f) c n h is = name_kept env x n (component_by env (component_named env x) f c n h is)
callee_of env (a.Part (a.Part d x) f) c n h is = absurd (cc)
callee_of env (a.Part (a.At d e) f) c n h is = absurd (cc)
callee_of env (a.At d e) c n h is = absurd (cc)

-- ---- Targets

pub distinct_apart : (x : Name) (vs ws : List (Name × Variable)) (v : Variable) → Distinct (vs ++ ws) → lookup x ws ≡ Some v → lookup x vs ≡ None
distinct_apart x [] ws v d h = refl
distinct_apart x (w ∷ vs) ws v d h = go (bytes_eq x w.0) refl (distinct_apart x vs ws v d.1 h)
  where
    go : (b : Bool) → bytes_eq x w.0 ≡ b → lookup x vs ≡ None → (if b then Some w.1 else lookup x vs) ≡ None
    go false is rest = rest
    go true is rest = absurd (cc (lookup_later x vs ws rest, h, ap (λ z. lookup z (vs ++ ws)) (bytes_same x w.0 is), d.0))

distinct_first : (vs ws : List (Name × Variable)) → Distinct (vs ++ ws) → Distinct vs
distinct_first [] ws d = tt
distinct_first (w ∷ vs) ws d = (go (lookup w.0 vs) refl, distinct_first vs ws d.1)
  where
    go : (o : Option Variable) → lookup w.0 vs ≡ o → lookup w.0 vs ≡ None
    go None e = e
    go (Some v) e = absurd (cc (lookup_first w.0 vs ws v e, d.0))

-- a name that is found in the first list is not in the second
distinct_later : (x : Name) (vs ws : List (Name × Variable)) (v : Variable) → Distinct (vs ++ ws) → lookup x vs ≡ Some v → lookup x ws ≡ None
distinct_later x vs ws v d h = go (lookup x ws) refl
  where
    go : (o : Option Variable) → lookup x ws ≡ o → lookup x ws ≡ None
    go None e = e
    go (Some w) e = absurd (cc (distinct_apart x vs ws w d e, h))

-- a variable that is dropped is no longer found
dropped : (x : Name) (keep : Name × Variable → Bool) (vs : List (Name × Variable)) (v : Variable) → Distinct vs → lookup x vs ≡ Some v → ((y : Name) → keep (y, v) ≡ false)
    → lookup x (filter keep vs) ≡ None
dropped x keep [] v d h k = absurd (cc)
dropped x keep (w ∷ vs) v d h k = go (bytes_eq x w.0) refl (keep w) refl (λ g. dropped x keep vs v d.1 g k)
  where
    here : bytes_eq x w.0 ≡ true → w.1 ≡ v
    here e = ap (λ o. elim o [ None ↦ v | Some z ↦ z ]) (sym (ap (λ b. if b then Some w.1 else lookup x vs) e) ∙ h)

    after : bytes_eq x w.0 ≡ false → lookup x vs ≡ Some v
    after e = sym (ap (λ b. if b then Some w.1 else lookup x vs) e) ∙ h

    go : (b : Bool) → bytes_eq x w.0 ≡ b → (c : Bool) → keep w ≡ c → (lookup x vs ≡ Some v → lookup x (filter keep vs) ≡ None)
        → lookup x (if c then w ∷ filter keep vs else filter keep vs) ≡ None
    go true e true f rest = absurd (cc (f, ap (λ z. keep (w.0, z)) (here e), k w.0))
    go true e false f rest = kept_none x keep vs (ap (λ z. lookup z vs) (bytes_same x w.0 e) ∙ d.0)
    go false e true f rest = ap (λ b. if b then Some w.1 else lookup x (filter keep vs)) e ∙ rest (after e)
    go false e false f rest = rest (after e)

module _ (scope : Scope) (at : Location) (o : Owner) (distinct : Distinct (permanent_variables scope.globals scope.system))
    (reported : (x : Name) (v : Variable) (r : System) (inner : Members) → lookup x (declarations scope.globals scope.system.variables) ≡ Some v
    → v.type ≡ ComponentOf r inner → inner ≡ reported_members scope.globals r) where
  abbrev here : Environment
  here = environment_at scope at o

  -- a right is among the rights of its component, and hides no member
  right_there : (x : Name) (n : Component) (k : IsNamed here x n) → n.is_parameter ≡ true
      → (m : ℕ) × RightTo here n m
  right_there x n k is =
      let found : lookup n.name (declarations scope.globals scope.system.parameters) ≡ Some k.variable =
      ap (λ z. lookup z (declarations scope.globals scope.system.parameters)) k.name ∙ k.parameter is in
      let m =
      right_found scope.globals n.name 1 (rights scope.globals scope.system) k.variable
      (kept_found n.name (λ v. is_component v.1.type) (declarations scope.globals scope.system.parameters) k.variable found (λ y. ap is_component k.type)) in (
        m.0,
        record {
          variable = k.variable;
          lies = m.1;
          inner = k.inner;
          type = k.type;
          no_member = not_a_member scope.globals scope.system n.name
              (dropped n.name (λ v. not (is_component v.1.type)) (declarations scope.globals scope.system.parameters) k.variable
              (distinct_first (declarations scope.globals scope.system.parameters) (declarations scope.globals scope.system.variables) distinct) found (λ y. ap (λ t. not (is_component t)) k.type))
              (distinct_later n.name (declarations scope.globals scope.system.parameters) (declarations scope.globals scope.system.variables) k.variable distinct found);
        },
      )

  class_there : (x : Name) (n : Component) (k : IsNamed here x n) → n.is_parameter ≡ false
      → (m : ℕ) × (member scope.globals scope.system n.name ≡ Some (m, ComponentOf n.system (reported_members scope.globals n.system)))
  class_there x n k is =
      let found : lookup n.name (declarations scope.globals scope.system.variables) ≡ Some k.variable =
      ap (λ z. lookup z (declarations scope.globals scope.system.variables)) k.name ∙ k.own is in
      let m = variable_is_member scope.globals scope.system n.name k.variable
      (distinct_apart n.name (declarations scope.globals scope.system.parameters) (declarations scope.globals scope.system.variables) k.variable distinct found) found in
      (m.0, m.1 ∙ ap (λ t. Some (m.0, t)) (k.type ∙ ap (ComponentOf n.system) (reported n.name k.variable n.system k.inner found k.type)))

  target_as : (x : Name) (n : Component) → IsNamed here x n → (s : Sort) → n.system.sort ≡ s → (s ≡ a.Process → ⊥) → (b : Bool) → n.is_parameter ≡ b
      → TargetOf here n s b (target_by (environment scope) n s b)
  target_as x n k a.Class sort some false is =
      let m = class_there x n k is in
      m.1 ∙ ap (λ z. Some (z, ComponentOf n.system (reported_members scope.globals n.system))) (sym (ap part_start m.1))
  target_as x n k a.Class sort some true is =
      let m = right_there x n k is in subst (RightTo here n) (sym (ap right_start m.1.lies)) m.1
  target_as x n k a.Monitor sort some false is = refl
  target_as x n k a.Monitor sort some true is =
      let m = right_there x n k is in subst (RightTo here n) (sym (ap right_start m.1.lies)) m.1
  target_as x n k a.Process sort some b is = absurd (some refl)

  pub named_target : (x : Name) (n : Component) → component_named here x ≡ Some n → (n.system.sort ≡ a.Process → ⊥)
      → TargetFor here (Some n) (target_of (environment scope) (Some n))
  named_target x n h some = target_as x n (is_named here x n h) n.system.sort refl some n.is_parameter refl

-- ---- Calls

module _ (scope : Scope) (program : Program) (texts : List UnitText) (systems : List System) (routines : ℕ) (before : List CodeUnit) (unit : CodeUnit) (at : Location) (o : Owner)
    (standing : Representing scope program texts before systems routines) where
  abbrev env : Environment
  env = environment_at scope at o

  abbrev pub site : Site
  site = record { program = program; texts = texts; env = env; unit = unit; words = scope.words }

  target_represents : (d : a.Designator) (c : Callee) (of : Option Component) → c.of ≡ of → callee env d ≡ Some c → MayBeCalled (place_at scope systems routines at o) c.routine of
      → TargetFor env of (target_of (environment scope) of)
  target_represents d c None is means may = refl
  target_represents d c (Some n) is means may =
      named_target scope at o standing.distinct standing.reported n.name n (callee_of env d c n means is) (standing.no_process at o c.routine n may)

  pub call_represents : (d : a.Designator) (c : Callee) (low : ℕ) (xs : List Argument) → callee env d ≡ Some c → MayBeCalled (place_at scope systems routines at o) c.routine c.of
      → CallFits scope program texts before unit (call_of scope (unit_of scope c) (target_of (environment scope) c.of) xs low)
      → Calls site d c low (call_of scope (unit_of scope c) (target_of (environment scope) c.of) xs low)
  call_represents d c low xs means may fits =
      let there : UnitThere scope.globals program texts before (unit_of scope c) (RoutineOf (system_of_callee env c.of) c.routine) = standing.units at o c.routine c.of (λ n is. callee_of env d c n means is) may in
      let room = fits there.unit there.earlier in
      record {
        means = means;
        target = target_represents d c c.of refl means may;
        runs = record {
          text = there.text room.3;
          unit = there.unit;
          there = there.there;
          fits = record { words = room.0; temps = room.1; frames = room.2 };
          words = refl;
          temps = refl;
        };
      }

  -- a call passes all parameters
  pub call_passes : (d : a.Designator) (c : Callee) (low : ℕ) (xs : List Argument) → callee env d ≡ Some c → MayBeCalled (place_at scope systems routines at o) c.routine c.of
      → CallFits scope program texts before unit (call_of scope (unit_of scope c) (target_of (environment scope) c.of) xs low)
      → parameters_of scope c ≡ declarations scope.globals c.routine.parameters
  call_passes d c low xs means may fits =
      let there : UnitThere scope.globals program texts before (unit_of scope c) (RoutineOf (system_of_callee env c.of) c.routine) = standing.units at o c.routine c.of (λ n is. callee_of env d c n means is) may in
      let room = fits there.unit there.earlier in
      ap (λ b. if b then declarations scope.globals c.routine.parameters else [])
      (room_is (activation_words scope.globals c.routine) (omega (arith, there.room room.3, room.3)))

  pub answers : (c : Callee) → IsFunction c.routine → Answers site c (base_of_type (answer_type scope.globals c.routine.result))
  answers c f = (f.0, f.1, sym (ap (λ t. base_of_type (answer_type scope.globals t)) f.1))
