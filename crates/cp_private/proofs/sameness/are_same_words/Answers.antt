use Rattle.std.proofs.Common.{sym, ◌∙◌}
use Rattle.std.specs.Cmp.Rules.{signed_items}
use Rattle.cp_private.proofs.sameness.are_same_words.Goals as goal

pub returns : goal.returns
returns c = λ e. (signed_items c.args.ones.now c.args.others.now).0 (sym c.eq.ensures ∙ e)
