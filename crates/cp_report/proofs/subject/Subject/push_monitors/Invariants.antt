use Rattle.std.proofs.Common.{◌++◌, drop, map, suc}
use Rattle.cp_model.specs.Abstract.{Monitor}
use Rattle.cp_model.specs.Report.{components_of}
use Rattle.cp_model.specs.States.{Setup}
use Rattle.cp_model_machine.specs.Reports.{monitors_lines}
use Rattle.cp_compile_symbols.specs.Representing.{entry}
use Rattle.cp_report.specs.Subjects.{IsOf, machine_in}
use Rattle.cp_report.proofs.LinesReported.{LinesToReport}
use Rattle.cp_report.proofs.subject.Subject.push_monitors.Given as goal

-- What has been reported and the monitors that are left make up the whole.
abbrev pub invariant-loop-index : goal.invariant-loop-index
invariant-loop-index l =
    (setup : Setup) → IsOf l.self setup
    → LinesToReport l.self.tables.now.types (monitors_lines setup (machine_in l.self)) (suc l.index) (map entry (drop l.index l.self.monitors.now)) l.out.items
    (l.fn.out.items ++ monitors_lines setup (machine_in l.self) 1 (components_of setup Monitor))
