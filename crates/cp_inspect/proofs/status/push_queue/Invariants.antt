use Rattle.std.proofs.Common.{◌++◌, List, drop, map, suc}
use Rattle.cp_model.specs.Abstract.{Name}
use Rattle.cp_model.specs.Declarations.{Variable}
use Rattle.cp_model.specs.Types.{GlobalScope}
use Rattle.cp_model_machine.specs.Reports.{queues_text}
use Rattle.cp_compile_symbols.specs.Representing.{ScopeRepresents, entry}
use Rattle.cp_program.specs.View as view
use Rattle.cp_inspect.specs.Lists.{AreListed}
use Rattle.cp_inspect.proofs.QueuesReported.{QueuesToReport}
use Rattle.cp_inspect.proofs.status.push_queue.Given as goal

abbrev pub invariant-loop-index : goal.invariant-loop-index
invariant-loop-index l =
    (g : GlobalScope) (vs : List (Name × Variable)) → ScopeRepresents l.tables.names l.tables.types g → AreListed l.tables.types (map entry l.monitors) vs
    → QueuesToReport g (view.program l.program) l.place l.tables.types (suc l.index) (map entry (drop l.index l.monitors)) l.out.items
    (l.fn.out.items ++ queues_text g (view.program l.program) l.place 1 vs)
