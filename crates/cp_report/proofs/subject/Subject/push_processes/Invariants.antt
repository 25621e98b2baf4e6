use Rattle.std.proofs.Common.{◌++◌, List, drop, map, suc}
use Rattle.cp_model.specs.Abstract.{Name}
use Rattle.cp_model.specs.Declarations.{Variable}
use Rattle.cp_model.specs.States.{Setup}
use Rattle.cp_model_machine.specs.Reports.{processes_lines}
use Rattle.cp_compile_symbols.specs.Representing.{entry}
use Rattle.cp_inspect.specs.Lists.{AreListed}
use Rattle.cp_report.specs.Subjects.{IsOf, machine_in}
use Rattle.cp_report.proofs.LinesReported.{LinesToReport}
use Rattle.cp_report.proofs.subject.Subject.push_processes.Given as goal

-- What has been reported and the processes that are left make up the whole.
abbrev pub invariant-loop-index : goal.invariant-loop-index
invariant-loop-index l =
    (setup : Setup) (vs : List (Name × Variable)) → IsOf l.self setup → AreListed l.self.tables.now.types (map entry l.processes) vs
    → LinesToReport l.self.tables.now.types (processes_lines setup (machine_in l.self)) (suc (suc l.index)) (map entry (drop l.index l.processes)) l.out.items
    (l.fn.out.items ++ processes_lines setup (machine_in l.self) 2 vs)
