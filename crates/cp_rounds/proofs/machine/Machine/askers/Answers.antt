use Rattle.std.proofs.Common.{subst, sym}
use Rattle.cp_rounds.specs.Gates.{ShowsAskers}
use Rattle.cp_rounds.proofs.Shown.{askers_shown}
use Rattle.cp_rounds.proofs.machine.Machine.askers.Goals as goal

pub returns-clause-state : goal.returns-clause-state
returns-clause-state c = subst (ShowsAskers c.args.self.now c.args.m) (sym c.askers.ensures) (askers_shown c.args.self.now c.args.m)
