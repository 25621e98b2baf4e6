use Rattle.cp_model.proofs.AskingChains.{asking_chain_is_one, chain_within_is_asking_chain, report_within_is_report}
use Rattle.cp_model.proofs.law.chains.Goals as goal

pub returns : goal.returns
returns c = record {
  chain = chain_within_is_asking_chain;
  one = asking_chain_is_one;
  report = report_within_is_report;
}
