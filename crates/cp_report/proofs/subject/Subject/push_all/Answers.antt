use Rattle.std.proofs.Common.{rules, ◌≡◌, ◌++◌}
use Rattle.std.specs.Prelude.{codes}
use Rattle.std.proofs.lemmas.Result.{on_ok_weaker}
use Rattle.cp_model.specs.Abstract.{Process}
use Rattle.cp_model.specs.Declarations.{globals, reported_members}
use Rattle.cp_model.specs.Report.{components_of}
use Rattle.cp_model_program.specs.Layout.{head_words}
use Rattle.cp_model_machine.specs.Reports.{process_lines}
use Rattle.cp_report.specs.Lines.{rounds_line}
use Rattle.cp_report.specs.Subjects.{machine_in}
use Rattle.cp_report.proofs.Initial.{report_reported}
use Rattle.cp_report.proofs.subject.Subject.push_all.Goals as goal

pub returns : goal.returns
returns c =
    on_ok_weaker c.push_monitors.result
    (λ reported setup text is represent of processes.
    let m = machine_in c.args.self in
    let g = globals setup.tree in
    let initial = process_lines setup m 1 (codes "initial") (head_words g setup.tree.initial) (reported_members g setup.tree.initial) in
    let out = c.args.out.now.items in
    let rounds : c.push_rounds.new.out.items ≡ out ++ rounds_line c.rounds.result = search rules in
    report_reported setup m c.rounds.result initial out c.push_rounds.new.out.items c.push_initial.new.out.items c.push_processes.new.out.items c.push_monitors.new.out.items c.rounds.ensures rounds
    (c.in_ok-push_initial.ensures setup text is represent of) (c.in_ok-push_processes.ensures setup (components_of setup Process) of processes) (reported setup of))
    c.push_monitors.ensures
