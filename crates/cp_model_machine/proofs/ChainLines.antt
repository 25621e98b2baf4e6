-- The chain lines that are read off a machine are those of its state, and so is the report with them.
--
-- Each chain has at most one item more than there are monitors, so it is computed within the number
-- of monitors.
use Rattle.std.proofs.Common.{◌≡◌, ℕ, zero, suc, ◌≤◌, List, [], ◌∷◌, ◌++◌, length, Bool, true, false, Some, refl, ap, ap₂, sym, ◌∙◌, arith}
use Rattle.std.specs.Prelude.{if◌then◌else◌, option_map}
use Rattle.cp_model.specs.Chains as meaning
use Rattle.cp_model.specs.Chains.{IsAskingChain}
use Rattle.cp_model.specs.Report.{Text, chain_line, chain_lines_within, report, with_chain}
use Rattle.cp_model.specs.Rounds.{run}
use Rattle.cp_model.specs.Start.{start}
use Rattle.cp_model.specs.States.{Setup, State, monitor_count, numbers_from, processes}
use Rattle.cp_model.proofs.AskingChains.{report_within_is_report}
use Rattle.cp_model_machine.specs.Chains.{HasReportWithChains, ReportHasChains, RunHasChains, chain, chain_lines, is_asker, machine_chains}
use Rattle.cp_model_machine.specs.InState.{IsIn, NoneFresh}
use Rattle.cp_model_machine.specs.KernelSteps.{stage_of}
use Rattle.cp_model_machine.specs.Machines.{Machine, first_machine, phased_rounds}
use Rattle.cp_model_machine.proofs.MachineStarts.{run_is_calm, run_is_in}
use Rattle.cp_model_machine.proofs.Reporting.{report_is_report}
use Rattle.cp_model_machine.proofs.Waits.{asks_alike, chain_is_chain}

-- A chain is computed within a bound if it has at most one item more.
within : (s : State) (n p : ℕ) (c : List ℕ) → length c ≤ suc n → IsAskingChain s p c → meaning.chain_within n s p ≡ Some c
within s n p [] h i = absurd i
within s n p (q ∷ []) h i = ap (meaning.chain_from n s p) i.1 ∙ ap (λ z. Some (z ∷ [])) (sym i.0)
within s zero p (q ∷ r ∷ rs) h i = absurd (omega (arith, h))
within s (suc n) p (q ∷ r ∷ rs) h i =
    ap (meaning.chain_from (suc n) s p) i.1 ∙ ap (option_map (λ l. p ∷ l)) (within s n r (r ∷ rs) (omega (arith, h)) i.2)
    ∙ ap (λ z. Some (z ∷ r ∷ rs)) (sym i.0)

module _ (m : Machine) (setup : Setup) (s : State) (I : IsIn m setup s) where
  computed : (p : ℕ) → meaning.chain_within (monitor_count setup) s p ≡ Some (chain m.kernel p)
  computed p =
      let C = chain_is_chain m setup s p I in
      within s (monitor_count setup) p C.0.chain C.0.short C.0.is ∙ ap (λ c. Some c) C.1

  lines : (ps : List ℕ) → chain_lines_within (monitor_count setup) s ps ≡ Some (chain_lines m.kernel ps)
  lines [] = refl
  lines (p ∷ ps) =
      ap (λ b. if b then with_chain (meaning.chain_within (monitor_count setup) s p) (chain_lines_within (monitor_count setup) s ps) else chain_lines_within (monitor_count setup) s ps)
      (asks_alike m setup s I p)
      ∙ by (is_asker (stage_of m.kernel.stages p)) (lines ps)
    where
      by : (b : Bool) → chain_lines_within (monitor_count setup) s ps ≡ Some (chain_lines m.kernel ps)
          → (if b then with_chain (meaning.chain_within (monitor_count setup) s p) (chain_lines_within (monitor_count setup) s ps) else chain_lines_within (monitor_count setup) s ps)
          ≡ Some ((if b then chain_line (chain m.kernel p) else []) ++ chain_lines m.kernel ps)
      by true rest = ap₂ with_chain (computed p) rest
      by false rest = rest

  pub has_chains : NoneFresh s → HasReportWithChains m setup s
  has_chains calm =
      let same = ap (option_map (λ (l : Text). report setup s ++ l)) (lines (processes setup))
      ∙ ap (λ n. Some (report setup s ++ chain_lines m.kernel (numbers_from 1 n))) (sym I.part_count)
      ∙ ap (λ t. Some (t ++ machine_chains m)) (sym (report_is_report m setup s I calm)) in
      (same, report_within_is_report (monitor_count setup) setup s _ same)

pub report_has_chains : ReportHasChains
report_has_chains m setup s I calm = has_chains m setup s I calm

pub run_has_chains : RunHasChains
run_has_chains program setup n rounds F =
    has_chains (phased_rounds n (processes setup) rounds (first_machine program setup.tick setup.inputs)) setup (run setup n rounds (start setup))
    (run_is_in program setup n rounds F) (run_is_calm setup n rounds)
