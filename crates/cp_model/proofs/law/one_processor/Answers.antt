use Rattle.cp_model.proofs.RoundLaws.{lawful_from_start, lawful_is_sequential, phased_from_start, phased_is_sequential}
use Rattle.cp_model.proofs.law.one_processor.Goals as goal

pub returns : goal.returns
returns c = record {
  lawful = lawful_is_sequential;
  phased = phased_is_sequential;
  lawful_from_start = lawful_from_start;
  phased_from_start = phased_from_start;
}
