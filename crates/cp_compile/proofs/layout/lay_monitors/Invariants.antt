use Rattle.std.proofs.Common.{List, drop}
use Rattle.cp_model.specs.Types.{GlobalScope}
use Rattle.cp_model_program.specs.Compile as code
use Rattle.cp_model_program.specs.Compile.{monitors_at}
use Rattle.cp_model_program.specs.Layout.{component_words}
use Rattle.cp_program.specs.View as view
use Rattle.cp_model_program.specs.Programs.{StartPlan}
use Rattle.cp_compile.specs.CompiledComponents.{AreOwners}
use Rattle.cp_compile.proofs.LaidOut.{PartlyLaid}
use Rattle.cp_compile.proofs.layout.lay_monitors.Given as goal

-- The monitors before this one are laid out.
abbrev pub invariant-loop-owner : goal.invariant-loop-owner
invariant-loop-owner l =
    (plans : List StartPlan) (g : GlobalScope) (xs : List code.Owner) → AreOwners plans g l.owners xs
    → PartlyLaid plans g (view.monitor plans) (monitors_at g) (component_words g) (drop l.owner-index l.owners) l.monitors.items l.at 0 xs
