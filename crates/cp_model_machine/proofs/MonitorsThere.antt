-- Where monitors are: their words are among the shared ones, which follow a process's own words,
-- and don't overlap.
use Rattle.std.proofs.Common.{List, None, Some, [], ap, arith, inl, inr, length, suc, sym, zero, ℕ, ◌<◌, ◌∙◌, ◌∷◌, ◌≡◌, ◌≤◌}
use Rattle.cp_model.specs.Abstract.{Monitor, Name, Process, System}
use Rattle.cp_model.specs.Declarations.{Variable}
use Rattle.cp_model.specs.Report.{components_of}
use Rattle.cp_model.specs.States.{Setup, initial_variables, monitor_count, process_count}
use Rattle.cp_model.proofs.ComponentCounts.{counted}
use Rattle.cp_model.proofs.Options.{same_some}
use Rattle.cp_model_program.specs.Layout.{component_words}
use Rattle.cp_model_program.specs.Programs.{Program}
use Rattle.cp_model_program.specs.IsProgramFor.{Apart, MonitorRepresents, IsProgramFor, component_at, system_of_monitor, system_of_process}
use Rattle.cp_model_machine.specs.Addresses.{MonitorsLie, scope}
use Rattle.cp_model_machine.specs.KernelOf.{kernel_ground}
use Rattle.cp_model_machine.specs.Passing.{monitor_start}
use Rattle.cp_model_machine.proofs.Finding.{some_is_not_none}

-- ---- the blocks of monitors

pub there_below : (vs : List (Name × Variable)) (k : ℕ) (s : System) → component_at vs k ≡ Some s → k < length vs
there_below [] k s h = absurd (some_is_not_none s (sym h))
there_below (v ∷ vs) zero s h = omega arith
there_below (v ∷ vs) (suc k) s h = omega (arith, there_below vs k s h)

-- The numbers of monitors and processes are within their counts.
pub monitor_below : (setup : Setup) (m : ℕ) (y : System) → system_of_monitor setup m ≡ Some y → (1 ≤ m) × (m ≤ monitor_count setup)
monitor_below setup zero y h = absurd (some_is_not_none y (sym h))
monitor_below setup (suc m) y h = (omega arith, omega (arith, there_below (components_of setup Monitor) m y h, counted Monitor (initial_variables setup)))

pub process_below : (setup : Setup) (p : ℕ) (y : System) → system_of_process setup p ≡ Some y → (1 ≤ p) × (p ≤ process_count setup)
process_below setup zero y h = absurd (some_is_not_none y (sym h))
process_below setup (suc zero) y h = (omega arith, omega arith)
process_below setup (suc (suc p)) y h = (omega arith, omega (arith, there_below (components_of setup Process) p y h, counted Process (initial_variables setup)))

module _ (program : Program) (setup : Setup) (F : IsProgramFor program setup) where
  pub represents_there : (m : ℕ) (s : System) → system_of_monitor setup m ≡ Some s → MonitorRepresents program F.texts setup m
  represents_there zero s h = absurd (some_is_not_none s (sym h))
  represents_there (suc k) s h =
      F.monitors (suc k) (omega arith) (omega (arith, there_below (components_of setup Monitor) k s h, counted Monitor (initial_variables setup)))

  pub start_is : (m : ℕ) (M : MonitorRepresents program F.texts setup m) → monitor_start program m ≡ M.row.start
  start_is m M = λ i. elim (M.there i) as (λ z. ℕ) [ None ↦ 0 | Some x ↦ x.start ]

  pub system_is : (m : ℕ) (s : System) → system_of_monitor setup m ≡ Some s → (M : MonitorRepresents program F.texts setup m) → M.system ≡ s
  system_is m s h M = same_some M.system s (sym M.is_system ∙ h)

  pub monitors_lie : MonitorsLie program setup
  monitors_lie = record {
    inside = λ m s h.
        let M = represents_there m s h in
        omega (arith, start_is m M, M.words, M.lies, ap (λ z. component_words (scope (kernel_ground program F.texts setup)) z) (system_is m s h M));
    apart = λ m k s r h g differ. moved m k s r h g (F.monitors_apart m k (represents_there m s h) (represents_there k r g) differ);
  }
    where
      moved : (m k : ℕ) (s r : System) (h : system_of_monitor setup m ≡ Some s) (g : system_of_monitor setup k ≡ Some r)
          → Apart (represents_there m s h).row.start (represents_there m s h).row.words (represents_there k r g).row.start (represents_there k r g).row.words
          → Apart (monitor_start program m) (component_words (scope (kernel_ground program F.texts setup)) s) (monitor_start program k) (component_words (scope (kernel_ground program F.texts setup)) r)
      moved m k s r h g (inl q) =
          let M = represents_there m s h in
          let N = represents_there k r g in
          inl (omega (arith, q, start_is m M, start_is k N, M.words, ap (λ z. component_words (scope (kernel_ground program F.texts setup)) z) (system_is m s h M)))
      moved m k s r h g (inr q) =
          let M = represents_there m s h in
          let N = represents_there k r g in
          inr (omega (arith, q, start_is m M, start_is k N, N.words, ap (λ z. component_words (scope (kernel_ground program F.texts setup)) z) (system_is k r g N)))
