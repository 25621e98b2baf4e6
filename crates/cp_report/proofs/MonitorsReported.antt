-- The lines of a monitor.
use Rattle.std.proofs.Common.{◌≡◌, ◌++◌, ℕ, List, ap, ◌∙◌}
use Rattle.std.proofs.lemmas.List.{append_assoc}
use Rattle.cp_model.specs.Abstract.{Name}
use Rattle.cp_model.specs.Declarations.{globals}
use Rattle.cp_model.specs.Report.{Text}
use Rattle.cp_model.specs.States.{Holder, Setup}
use Rattle.cp_model.specs.Types.{ResolvedType}
use Rattle.cp_model_program.specs.Programs.{Program}
use Rattle.cp_model_machine.specs.KernelSteps.{Kernel, gate_of}
use Rattle.cp_model_machine.specs.Machines.{Machine}
use Rattle.cp_model_machine.specs.Passing.{monitor_start}
use Rattle.cp_model_machine.specs.Reports.{lines_visit, monitor_lines, visit_component}
use Rattle.cp_report.specs.Lines.{gate_line_of}

-- The kernel and the program are those of the machine.
pub monitor_reported : (setup : Setup) (m : Machine) (n : ℕ) (x : Name) (t : ResolvedType) (k : Kernel) (program : Program) (holder : Holder) (askers : List ℕ) (start : ℕ) (out mid after : Text)
    → k ≡ m.kernel → program ≡ m.program → holder ≡ (gate_of k.gates n).holder → askers ≡ (gate_of k.gates n).askers → start ≡ monitor_start program n
    → mid ≡ out ++ gate_line_of x holder askers → after ≡ mid ++ visit_component (globals setup.tree) (lines_visit k.shared) start t → after ≡ out ++ monitor_lines setup m n x t
monitor_reported setup m n x t k program holder askers start out mid after kernel runs held asked starts line reported =
    let lines = visit_component (globals setup.tree) (lines_visit k.shared) start t in
    let holder_is = held ∙ ap (λ j. (gate_of j.gates n).holder) kernel in
    let askers_are = asked ∙ ap (λ j. (gate_of j.gates n).askers) kernel in
    let start_is = starts ∙ ap (λ q. monitor_start q n) runs in
    reported
    ∙ (ap (λ z. z ++ lines) line
    ∙ (append_assoc out (gate_line_of x holder askers) lines
    ∙ (λ i. out ++ (gate_line_of x (holder_is i) (askers_are i) ++ visit_component (globals setup.tree) (lines_visit (kernel i).shared) (start_is i) t))))
