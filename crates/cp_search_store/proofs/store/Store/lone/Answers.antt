use Rattle.std.proofs.Common.{sym, ◌∙◌}
use Rattle.cp_search_store.proofs.store.Store.lone.Goals as goal

pub returns : goal.returns
returns c = record {
  kernel_below = c.in-Some.ensures.within;
  part_below = c.in-Some-get.ensures.within;
  kernel_is = c.in-Some.ensures.same ∙ sym c.in_ok-lone.ensures.kernel;
  part_is = λ input. c.in-Some-get.ensures.same input ∙ sym (c.in_ok-lone.ensures.private input);
}
