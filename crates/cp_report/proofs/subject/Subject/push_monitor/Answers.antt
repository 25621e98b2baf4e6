use Rattle.std.proofs.Common.{rules, ◌≡◌, ◌++◌, ap, sym, ◌∙◌}
use Rattle.std.proofs.lemmas.Result.{on_ok_weaker}
use Rattle.cp_kernel.specs.KernelOf.{kernel_of}
use Rattle.cp_model.specs.Declarations.{globals}
use Rattle.cp_private.specs.States.{holder}
use Rattle.cp_model_machine.specs.KernelSteps.{gate_of}
use Rattle.cp_model_machine.specs.Reports.{lines_visit, visit_component}
use Rattle.cp_program.specs.View as view
use Rattle.cp_inspect.specs.Sinks.{IntoText}
use Rattle.cp_report.specs.Lines.{gate_line_of}
use Rattle.cp_report.specs.Subjects.{machine_in}
use Rattle.cp_report.proofs.MonitorsReported.{monitor_reported}
use Rattle.cp_report.proofs.subject.Subject.push_monitor.Goals as goal

pub returns : goal.returns
returns c =
    on_ok_weaker c.component.result
    (λ reported setup t of represents.
    let m = machine_in c.args.self in
    let n = c.args.number in
    let x = c.args.name.now in
    let out = c.args.out.now.items in
    let k = kernel_of c.kernel.result.now in
    let is = c.kernel.ensures.kernel in
    let line : c.push_gate_line.new.out.items ≡ out ++ gate_line_of x (holder c.gate.result) c.askers-askers.result.now = search rules in
    monitor_reported setup m n x t k (view.program c.program.result.now) (holder c.gate.result) c.askers-askers.result.now c.monitor_start-start.result out c.push_gate_line.new.out.items
    c.component.new.out.items is c.program.ensures (c.gate.ensures.part ∙ sym (ap (λ j. (gate_of j.gates n).holder) is))
    (c.askers-askers.ensures.part ∙ sym (ap (λ j. (gate_of j.gates n).askers) is)) c.monitor_start-start.ensures.start line
    (reported IntoText (globals setup.tree) t of.0 represents
    ∙ ap (λ ws. c.push_gate_line.new.out.items ++ visit_component (globals setup.tree) (lines_visit ws) c.monitor_start-start.result t) c.all_words.ensures))
    c.component.ensures
