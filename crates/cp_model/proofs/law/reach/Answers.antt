use Rattle.cp_model.proofs.StoreInvariants.{references_in_reach}
use Rattle.cp_model.proofs.law.reach.Goals as goal

pub returns : goal.returns
returns c = record {
  references = references_in_reach;
  activations = λ s l j i e. i.store.references l j e;
  classes = λ s l j i e. i.store.classes l j e;
}
