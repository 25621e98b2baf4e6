use Rattle.cp_model_machine.proofs.ChainLines.{report_has_chains, run_has_chains}
use Rattle.cp_model_machine.proofs.Waits.{chain_is_chain, states_make_hierarchies}
use Rattle.cp_model_machine.proofs.law.waits.Goals as goal

pub returns : goal.returns
returns c = record { hierarchy = states_make_hierarchies; chain = chain_is_chain; report = report_has_chains; run = run_has_chains }
