-- A process or a monitor has no right to a class: only a class is passed one.
use Rattle.std.proofs.Common.{◌≡◌, ◌⊎◌, inl, inr, ℕ, zero, suc, List, [], ◌∷◌, Bool, true, false, Option, Some, refl, ap, sym, subst, ◌∙◌}
use Rattle.std.proofs.lemmas.Bool.{true≢false}
use Rattle.cp_model.specs.Abstract.{Class, Monitor, Name, Process, Sort, System}
use Rattle.cp_model.specs.Components.{is_component_of, same_sort}
use Rattle.cp_model.specs.Declarations.{Variable, declarations, globals, is_component}
use Rattle.cp_model.specs.Report.{components_of}
use Rattle.cp_model.specs.States.{Setup, initial_variables}
use Rattle.cp_model.specs.Types.{ComponentOf, GlobalScope, Members, ResolvedType}
use Rattle.cp_model.proofs.Options.{same_some}
use Rattle.cp_law_typing.specs.Declared.{Each, InitialVariable, IsData, IsSystem, MayBePassed, SystemParameter, sort_of}
use Rattle.cp_law_typing.specs.Judgement.{IsSimple, has_queues}
use Rattle.cp_law_typing.specs.StartValues.{IsIn}
use Rattle.cp_law_typing.specs.SoundTypes.{SoundType}
use Rattle.cp_law_typing.specs.WellTyped.{WellTyped, text_systems}
use Rattle.cp_law_typing.proofs.StartValues.{each_in}
use Rattle.cp_model_program.specs.Layout.{right, rights}
use Rattle.cp_model_program.specs.IsProgramFor.{component_at, component_in, system_of_monitor, system_of_process}
use Rattle.cp_model_machine.specs.Addresses.{Ground, scope}
use Rattle.cp_model_machine.proofs.Finding.{some_is_not_none}
use Rattle.cp_model_machine.proofs.InitOffsets.{of_filter, right_is}

abbrev pub HasNoClassRight : GlobalScope → System → Type 0
HasNoClassRight g s =
    (m : ℕ) (x : Name) (v : Variable) (r : System) (inner : Members) → right g s x ≡ Some (m, v) → v.type ≡ ComponentOf r inner → r.sort ≡ Class → ⊥

abbrev pub NoClassRights : Ground → Type 0
NoClassRights G =
    ((s : System) → system_of_process G.setup G.p ≡ Some s → HasNoClassRight (scope G) s)
    × ((m : ℕ) (s : System) → system_of_monitor G.setup m ≡ Some s → HasNoClassRight (scope G) s)

pub system_at : (vs : List (Name × Variable)) (k : ℕ) (s : System) → component_at vs k ≡ Some s → (v : Name × Variable) × IsIn v vs × (component_in v.1.type ≡ Some s)
system_at [] k s h = absurd (some_is_not_none s (sym h))
system_at (v ∷ vs) zero s h = (v, inl refl, h)
system_at (v ∷ vs) (suc k) s h = let r = system_at vs k s h in (r.0, inr r.1, r.2)

pub is_process : (z : Sort) → same_sort Process z ≡ true → z ≡ Process
is_process Process h = refl
is_process Monitor h = absurd (true≢false (sym h))
is_process Class h = absurd (true≢false (sym h))

sort_same : (z : Sort) → z ≡ Class → (◌≡◌ {A = Option Sort} (Some z) (Some Monitor)) → ⊥
sort_same z e h = by (sym e ∙ same_some z Monitor h)
  where
    is_class : Sort → Bool
    is_class Class = true
    is_class _ = false

    by : Class ≡ Monitor → ⊥
    by q = true≢false (ap is_class q)

no_class : (z : Sort) → same_sort Class z ≡ false → z ≡ Class → ⊥
no_class z h e = true≢false (sym (ap (same_sort Class) e) ∙ h)

-- No parameter of a component that isn't a class is a right to a class.
parameters_without : (g : GlobalScope) (before : List System) (s : System) → same_sort Class s.sort ≡ false → Each (SystemParameter g before s.sort) (declarations g s.parameters) → HasNoClassRight g s
parameters_without g before s other each m x v r inner found type class' =
    by ((each_in (SystemParameter g before s.sort) (declarations g s.parameters) (x, v) each
    (of_filter (λ d. is_component d.1.type) (declarations g s.parameters) (x, v) (right_is 1 (rights g s) x m v found).2).0).1)
  where
    passed : MayBePassed s.sort (sort_of v.type) → ⊥
    passed (inl e) = sort_same r.sort class' (ap sort_of (sym type) ∙ e)
    passed (inr e) = no_class s.sort other e.0

    by : (IsSimple v.type × IsData g v.type) ⊎ (IsSystem g before v.type × MayBePassed s.sort (sort_of v.type)) → ⊥
    by (inl k) = subst SoundType type k.1.0
    by (inr k) = passed k.1

-- What holds of a component whose sort isn't that of classes.
module _ (setup : Setup) (W : WellTyped setup) (z : Sort) (other : (y : Sort) → same_sort z y ≡ true → same_sort Class y ≡ false) where
  declared_without : (k : ℕ) (s : System) → component_at (components_of setup z) k ≡ Some s → HasNoClassRight (globals setup.tree) s
  declared_without k s h = by found.0.1.type (each_in (InitialVariable (globals setup.tree) (text_systems setup)) (initial_variables setup) found.0 W.initial_variables inside.0).1 inside.1 found.2
    where
      found : (v : Name × Variable) × IsIn v (components_of setup z) × (component_in v.1.type ≡ Some s)
      found = system_at (components_of setup z) k s h

      inside : IsIn found.0 (initial_variables setup) × (is_component_of z found.0.1.type ≡ true)
      inside = of_filter (λ v. is_component_of z v.1.type) (initial_variables setup) found.0 found.1

      by : (t : ResolvedType) → (IsData (globals setup.tree) t × (has_queues t ≡ false)) ⊎ IsSystem (globals setup.tree) (text_systems setup) t → is_component_of z t ≡ true → component_in t ≡ Some s
          → HasNoClassRight (globals setup.tree) s
      by (ComponentOf r inner) (inl k) sort is = absurd k.0.0
      by (ComponentOf r inner) (inr k) sort is =
          subst (HasNoClassRight (globals setup.tree)) (same_some r s is) (parameters_without (globals setup.tree) _ r (other r.sort sort) (W.systems k.0 r k.1).parameters)
      by _ k sort is = absurd (some_is_not_none s (sym is))

of_process : (y : Sort) → same_sort Process y ≡ true → same_sort Class y ≡ false
of_process y h = ap (same_sort Class) (is_process y h)

of_monitor : (y : Sort) → same_sort Monitor y ≡ true → same_sort Class y ≡ false
of_monitor Monitor h = refl
of_monitor Process h = absurd (true≢false (sym h))
of_monitor Class h = absurd (true≢false (sym h))

pub process_without : (setup : Setup) → WellTyped setup → (p : ℕ) (s : System) → system_of_process setup p ≡ Some s → HasNoClassRight (globals setup.tree) s
process_without setup W zero s h = absurd (some_is_not_none s (sym h))
process_without setup W (suc zero) s h = subst (HasNoClassRight (globals setup.tree)) (same_some setup.tree.initial s h) none
  where
    none : HasNoClassRight (globals setup.tree) setup.tree.initial
    none m x v r inner found type class' =
        let i = of_filter (λ d. is_component d.1.type) (declarations (globals setup.tree) setup.tree.initial.parameters) (x, v) (right_is 1 (rights (globals setup.tree) setup.tree.initial) x m v found).2 in
        subst (λ gs. IsIn (x, v) (declarations (globals setup.tree) gs)) W.initial_parameters i.0
process_without setup W (suc (suc p)) s h = declared_without setup W Process of_process p s h

monitor_without : (setup : Setup) → WellTyped setup → (m : ℕ) (s : System) → system_of_monitor setup m ≡ Some s → HasNoClassRight (globals setup.tree) s
monitor_without setup W zero s h = absurd (some_is_not_none s (sym h))
monitor_without setup W (suc m) s h = declared_without setup W Monitor of_monitor m s h

pub no_class_rights : (G : Ground) → WellTyped G.setup → NoClassRights G
no_class_rights G W = (process_without G.setup W G.p, monitor_without G.setup W)
