-- The components in a report: their types, and what their words mean.
use Rattle.std.proofs.Common.{◌≡◌, ◌⊎◌, inl, inr, ℕ, zero, suc, ◌+◌, ℤ, Bool, true, false, List, [], ◌∷◌, Option, Some, None, refl, ap, sym, subst, ◌∙◌, arith}
use Rattle.std.specs.Prelude.{filter, if◌then◌else◌, nat_eq, slice_get}
use Rattle.std.proofs.lemmas.Bool.{eq-eqb, true≢false}
use Rattle.cp_model.specs.Abstract.{Name, Sort, System}
use Rattle.cp_model.specs.Components.{is_component_of, monitor_location, process_location}
use Rattle.cp_model.specs.Declarations.{Variable, globals, reported_members}
use Rattle.cp_model.specs.Locations.{ByName, OfProcess, Path, under}
use Rattle.cp_model.specs.Report.{components_of, variable_lines}
use Rattle.cp_model.specs.States.{Setup, initial_variables}
use Rattle.cp_model.specs.Stores.{Store}
use Rattle.cp_model.specs.Types.{ComponentOf, Members, ResolvedType}
use Rattle.cp_model.proofs.Options.{same_some}
use Rattle.cp_law_typing.specs.Declared.{InitialVariable, IsData, IsSystem}
use Rattle.cp_law_typing.specs.Judgement.{has_queues}
use Rattle.cp_law_typing.specs.StartValues.{IsIn}
use Rattle.cp_law_typing.specs.WellTyped.{WellTyped, text_systems}
use Rattle.cp_law_typing.proofs.StartValues.{each_in}
use Rattle.cp_model_program.specs.Layout.{farther, head_words, member_part}
use Rattle.cp_model_program.specs.Programs.{Program}
use Rattle.cp_model_program.specs.IsProgramFor.{IsProgramFor, component_at, component_in, system_of_monitor, system_of_process}
use Rattle.cp_model_program.specs.Starts.{word}
use Rattle.cp_model_machine.specs.Addresses.{Activation, Ground, OwnWords, in_sight, part_of_component, sees}
use Rattle.cp_model_machine.specs.KernelOf.{is_shared, kernel_ground}
use Rattle.cp_model_machine.specs.Means.{CellMeans}
use Rattle.cp_model_machine.specs.PartOf.{DataMeans}
use Rattle.cp_model_machine.specs.Passing.{monitor_start}
use Rattle.cp_model_machine.specs.Reports.{lines_visit, visit_members}
use Rattle.cp_model_machine.proofs.Finding.{some_is_not_none}
use Rattle.cp_model_machine.proofs.Naming.{system_named}
use Rattle.cp_model_machine.proofs.PartLeaves.{NamedMembers}
use Rattle.cp_model_machine.proofs.ReportLines.{member_lines_same}

-- ---- what the types of components are

-- A component of the initial process: its type is that of a system type of the text, with its own
-- members.
pub record IsComponent (setup : Setup) (t : ResolvedType) : Type 0 where
  pub system : System
  pub inner : Members
  pub type : t ≡ ComponentOf system inner
  pub members : inner ≡ reported_members (globals setup.tree) system
  pub named : NamedMembers (reported_members (globals setup.tree) system)

filtered : (z : Sort) (vs : List (Name × Variable)) (j : ℕ) (v : Name × Variable) → slice_get (filter (λ u. is_component_of z u.1.type) vs) j ≡ Some v
    → IsIn v vs × (is_component_of z v.1.type ≡ true)
filtered z [] j v h = absurd (some_is_not_none v (sym h))
filtered z (u ∷ vs) j v h = by (is_component_of z u.1.type) refl j h (λ i q. filtered z vs i v q)
  where
    by : (b : Bool) → is_component_of z u.1.type ≡ b → (i : ℕ) → slice_get (if b then u ∷ filter (λ w. is_component_of z w.1.type) vs else filter (λ w. is_component_of z w.1.type) vs) i ≡ Some v
        → ((k : ℕ) → slice_get (filter (λ w. is_component_of z w.1.type) vs) k ≡ Some v → IsIn v vs × (is_component_of z v.1.type ≡ true))
        → IsIn v (u ∷ vs) × (is_component_of z v.1.type ≡ true)
    by true is zero h go =
        let same : v ≡ u = sym (same_some u v h) in (inl same, ap (λ (w : Name × Variable). is_component_of z w.1.type) same ∙ is)
    by true is (suc i) h go = let r = go i h in (inr r.0, r.1)
    by false is i h go = let r = go i h in (inr r.0, r.1)

pub is_component : (setup : Setup) → WellTyped setup → (z : Sort) (j : ℕ) (v : Name × Variable) → slice_get (components_of setup z) j ≡ Some v → IsComponent setup v.1.type
is_component setup typed z j v h =
    by v.1.type refl f.1 (each_in (InitialVariable (globals setup.tree) (text_systems setup)) (initial_variables setup) v typed.initial_variables f.0).1
  where
    f : IsIn v (initial_variables setup) × (is_component_of z v.1.type ≡ true)
    f = filtered z (initial_variables setup) j v h

    by : (t : ResolvedType) → v.1.type ≡ t → is_component_of z t ≡ true → (IsData (globals setup.tree) t × (has_queues t ≡ false)) ⊎ IsSystem (globals setup.tree) (text_systems setup) t
        → IsComponent setup v.1.type
    by (ComponentOf r inner) is sort (inl q) = absurd q.0.0
    by (ComponentOf r inner) is sort (inr q) = record { system = r; inner = inner; type = is; members = q.2; named = system_named setup typed q.0 r q.1 }
    by _ is sort q = absurd (true≢false (sym sort))

-- The component with this number.
pub component_of : (vs : List (Name × Variable)) (j : ℕ) (v : Name × Variable) → slice_get vs j ≡ Some v → component_at vs j ≡ component_in v.1.type
component_of [] j v h = absurd (some_is_not_none v (sym h))
component_of (u ∷ vs) zero v h = ap (λ o. elim o as (λ z. Option System) [ None ↦ component_in u.1.type | Some w ↦ component_in w.1.type ]) h
component_of (u ∷ vs) (suc j) v h = component_of vs j v h

-- ---- what their words mean

no_farther : (n k : ℕ) → n + k ≡ 0 + n + k
no_farther n k = omega arith

module _ (G : Ground) (store : Store) (ws : List ℤ) (sys : System) (named : NamedMembers (reported_members (globals G.setup.tree) sys)) where
  abbrev ms : Members
  ms = reported_members (globals G.setup.tree) sys

  -- The values of a process whose own words are in sight.
  pub process_values : (xs : List Activation) → G.sight ≡ OwnWords → DataMeans G xs (in_sight G) store ws → system_of_process G.setup G.p ≡ Some sys
      → variable_lines store (process_location G.p) ms ≡ visit_members (globals G.setup.tree) (lines_visit ws) [] (head_words (globals G.setup.tree) sys) ms
  process_values xs sight D is =
      member_lines_same (globals G.setup.tree) store (process_location G.p) ws [] 0 (head_words (globals G.setup.tree) sys) ms named
      (λ x q k u there. subst (λ n. CellMeans u (store (under (process_location G.p) (ByName x ∷ q))) (word ws n)) (far k)
      (D.cells (under (process_location G.p) (ByName x ∷ q)) k u seen (mine x q ∙ there)))
      ∙ ap (λ n. visit_members (globals G.setup.tree) (lines_visit ws) [] n ms) (sym (far (head_words (globals G.setup.tree) sys)))
    where
      far : (k : ℕ) → k ≡ 0 + k
      far k = omega arith

      seen : in_sight G (OfProcess G.p) ≡ true
      seen = ap (λ v. sees v G.p (OfProcess G.p)) sight ∙ eq-eqb G.p G.p refl

      mine : (x : Name) (q : Path) → (if nat_eq G.p G.p then part_of_component (globals G.setup.tree) (system_of_process G.setup G.p) x q else None)
          ≡ member_part (globals G.setup.tree) (head_words (globals G.setup.tree) sys) ms x q
      mine x q =
          ap (λ b. if b then part_of_component (globals G.setup.tree) (system_of_process G.setup G.p) x q else None) (eq-eqb G.p G.p refl)
          ∙ ap (λ o. part_of_component (globals G.setup.tree) o x q) is

module _ (program : Program) (setup : Setup) (F : IsProgramFor program setup) (store : Store) (us : List ℤ) (D : DataMeans (kernel_ground program F.texts setup) [] is_shared store us) where
  pub monitor_values : (n : ℕ) (sys : System) → NamedMembers (reported_members (globals setup.tree) sys) → system_of_monitor setup n ≡ Some sys
      → variable_lines store (monitor_location n) (reported_members (globals setup.tree) sys)
      ≡ visit_members (globals setup.tree) (lines_visit us) [] (monitor_start program n + head_words (globals setup.tree) sys) (reported_members (globals setup.tree) sys)
  monitor_values n sys named is =
      member_lines_same (globals setup.tree) store (monitor_location n) us [] (monitor_start program n) (head_words (globals setup.tree) sys) (reported_members (globals setup.tree) sys) named
      (λ x q k u there. subst (λ i. CellMeans u (store (under (monitor_location n) (ByName x ∷ q))) (word us i)) (sym (no_farther (monitor_start program n) k))
      (D.cells (under (monitor_location n) (ByName x ∷ q)) (0 + monitor_start program n + k) u refl
      (ap (λ o. farther (0 + monitor_start program n) (part_of_component (globals setup.tree) o x q)) is ∙ ap (farther (0 + monitor_start program n)) there)))
