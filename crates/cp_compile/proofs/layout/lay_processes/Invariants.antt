use Rattle.std.proofs.Common.{List, drop}
use Rattle.cp_model.specs.Types.{GlobalScope}
use Rattle.cp_model_program.specs.Compile as code
use Rattle.cp_model_program.specs.Compile.{processes_at, waiting_words}
use Rattle.cp_program.specs.View as view
use Rattle.cp_model_program.specs.Programs.{StartPlan}
use Rattle.cp_compile.specs.CompiledComponents.{AreOwners}
use Rattle.cp_compile.proofs.LaidOut.{PartlyLaid}
use Rattle.cp_compile.proofs.layout.lay_processes.Given as goal

-- The processes before this one are laid out.
abbrev pub invariant-loop-owner : goal.invariant-loop-owner
invariant-loop-owner l =
    (plans : List StartPlan) (g : GlobalScope) (xs : List code.Owner) → AreOwners plans g l.owners xs
    → PartlyLaid plans g (view.process plans) (processes_at g) (waiting_words g) (drop l.owner-index l.owners) l.processes.items l.at l.start xs
