use Rattle.std.proofs.Common.{subst, sym}
use Rattle.cp_rounds.specs.Gates.{ShowsHolder}
use Rattle.cp_rounds.proofs.Shown.{holder_shown}
use Rattle.cp_rounds.proofs.machine.Machine.gate.Goals as goal

pub returns-clause-state : goal.returns-clause-state
returns-clause-state c = subst (ShowsHolder c.args.self.now c.args.m) (sym c.holder.ensures) (holder_shown c.args.self.now c.args.m)
