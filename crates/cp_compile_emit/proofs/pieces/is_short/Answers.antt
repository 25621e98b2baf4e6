use Rattle.std.proofs.Common.{ap, sym}
use Rattle.std.specs.Prelude.{nat_le}
use Rattle.cp_program.proofs.PlansKnown.{pieces_counted}
use Rattle.cp_compile_emit.proofs.pieces.is_short.Goals as goal

pub returns : goal.returns
returns c = λ known. ap (λ n. nat_le n 8) (sym (pieces_counted known c.args.pieces.now))
