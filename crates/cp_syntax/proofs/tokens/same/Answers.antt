use Rattle.std.proofs.Common.{sym}
use Rattle.cp_syntax.proofs.Symbols.{tag_is_code}
use Rattle.cp_syntax.proofs.tokens.same.Goals as goal

pub returns : goal.returns
returns c = rw (sym (tag_is_code c.args.seen), sym (tag_is_code c.args.symbol)) c.eq.ensures
