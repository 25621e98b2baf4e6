-- Chains of askers as plain data, and what they are of the state that a machine is in.
use Rattle.std.specs.Prelude.{◌≡◌, ◌++◌, ℕ, zero, suc, Bool, true, false, List, [], ◌∷◌, Option, None, Some, if◌then◌else◌, length}
use Rattle.cp_model.specs.Chains.{holding_process}
use Rattle.cp_model.specs.Report.{IsReportWithChains, Text, chain_line, report_with_chains_within}
use Rattle.cp_model.specs.Rounds.{run}
use Rattle.cp_model.specs.Start.{start}
use Rattle.cp_model.specs.States.{Setup, State, monitor_count, numbers_from, processes}
use Rattle.cp_law_typing.specs.TypePlaces.{type_place}
use Rattle.cp_law_gates.specs.Hierarchy.{EndingChain, Hierarchy}
use Rattle.cp_model_program.specs.Programs.{Program}
use Rattle.cp_model_program.specs.IsProgramFor.{IsProgramFor}
use Rattle.cp_model_machine.specs.InState.{IsIn, NoneFresh}
use Rattle.cp_model_machine.specs.KernelSteps.{Asking, Kernel, SchedulingState, gate_of, stage_of}
use Rattle.cp_model_machine.specs.Machines.{Machine, first_machine, phased_rounds}
use Rattle.cp_model_machine.specs.Reports.{machine_report}

abbrev pub holder_asked : Kernel → SchedulingState → Option ℕ
holder_asked k (Asking m) = holding_process (gate_of k.gates m).holder
holder_asked k _ = None

-- The process for which process `p` waits: the holder of the gate that it asks for.
abbrev pub waits_for : Kernel → ℕ → Option ℕ
waits_for k p = holder_asked k (stage_of k.stages p)

-- At most `n` processes: this one, if any, and then, as long as the last one waits for another,
-- that other one.
abbrev pub chain_within : ℕ → Kernel → Option ℕ → List ℕ
chain_within n k None = []
chain_within zero k (Some p) = []
chain_within (suc n) k (Some p) = p ∷ chain_within n k (waits_for k p)

-- The asking chain from process `p`. No chain has more than one item more than there are monitors,
-- in any state that a machine of an accepted text is in.
abbrev pub chain : Kernel → ℕ → List ℕ
chain k p = chain_within (suc (length k.gates)) k (Some p)

-- ---- Lines

abbrev pub is_asker : SchedulingState → Bool
is_asker (Asking m) = true
is_asker _ = false

-- The line of the chain from process `p`, if it asks for a gate.
abbrev pub chain_line_of : Kernel → ℕ → Text
chain_line_of k p = if is_asker (stage_of k.stages p) then chain_line (chain k p) else []

abbrev pub chain_lines : Kernel → List ℕ → Text
chain_lines k [] = []
chain_lines k (p ∷ ps) = chain_line_of k p ++ chain_lines k ps

-- The chain lines of all processes of a machine, by number.
abbrev pub machine_chains : Machine → Text
machine_chains m = chain_lines m.kernel (numbers_from 1 (length m.parts))

abbrev pub report_with_chains : Setup → Machine → Text
report_with_chains setup m = machine_report setup m ++ machine_chains m

-- ---- Laws

-- These processes are the asking chain from `p`, which ends.
abbrev pub IsChainOf : ℕ → State → ℕ → List ℕ → Type 0
IsChainOf monitors s p ps = (E : EndingChain monitors s p) × (E.chain ≡ ps)

-- The gates of each state that a machine is in make a hierarchy, by the places of the monitors'
-- types in the text.
abbrev pub StatesMakeHierarchies : Type 0
StatesMakeHierarchies =
    (m : Machine) (setup : Setup) (s : State) → IsIn m setup s → Hierarchy (type_place setup) (monitor_count setup) s

-- The chain that is read off the kernel is the asking chain of the state.
abbrev pub ChainIsChain : Type 0
ChainIsChain =
    (m : Machine) (setup : Setup) (s : State) (p : ℕ) → IsIn m setup s → IsChainOf (monitor_count setup) s p (chain m.kernel p)

-- The report with chains that is read off the machine is that of the state. No chain is longer than
-- what is computed within the number of monitors.
abbrev pub HasReportWithChains : Machine → Setup → State → Type 0
HasReportWithChains m setup s =
    (report_with_chains_within (monitor_count setup) setup s ≡ Some (report_with_chains setup m))
    × IsReportWithChains setup s (report_with_chains setup m)

abbrev pub ReportHasChains : Type 0
ReportHasChains = (m : Machine) (setup : Setup) (s : State) → IsIn m setup s → NoneFresh s → HasReportWithChains m setup s

-- So `rounds` rounds after the start, that report is the one of one processor.
abbrev pub RunHasChains : Type 0
RunHasChains =
    (program : Program) (setup : Setup) (n rounds : ℕ) → IsProgramFor program setup
    → HasReportWithChains (phased_rounds n (processes setup) rounds (first_machine program setup.tick setup.inputs)) setup
    (run setup n rounds (start setup))
