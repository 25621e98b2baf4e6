use Rattle.std.proofs.Common.{sym, subst}
use Rattle.cp_model.specs.States.{monitor_count}
use Rattle.cp_model_machine.specs.Chains.{IsChainOf}
use Rattle.cp_rounds.specs.Views.{machine_of}
use Rattle.cp_rounds.proofs.machine.Machine.chain.Goals as goal

pub returns-clause-state : goal.returns-clause-state
returns-clause-state c = λ setup s is.
    subst (IsChainOf (monitor_count setup) s c.args.p) (sym c.chain.ensures)
    (c.waits.ensures.chain (machine_of c.args.self.now) setup s c.args.p is)
