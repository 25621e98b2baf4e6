use Rattle.std.proofs.Common.{rules, arith, IfOk, subst, ◌+◌, ◌<◌, ◌^◌}
use Rattle.std.proofs.lemmas.Grind.{common_steps}
use Rattle.cp_model.specs.Tokens as kind
use Rattle.cp_scan.specs.Pieces.{piece}
use Rattle.cp_scan.proofs.FirstPiece.{separator_below, token_below}
use Rattle.cp_scan.proofs.piece.read_other.Goals as goal

pub append-requires : goal.append-requires
unfolding piece
append-requires c =
    subst (λ r. IfOk r (λ found. c.args.progress.now.at + found.1 < 2 ^ 32)) c.in-Ok.is
    (token_below _ _ (2 ^ 32) c.requires.some c.requires.fits kind.Number c.number.result (search rules))

pub pass-requires : goal.pass-requires
unfolding piece
pass-requires c =
    subst (λ r. IfOk r (λ n. c.args.progress.now.at + n < 2 ^ 32)) c.in-Ok-comment.is
    (separator_below _ _ (2 ^ 32) c.requires.some c.requires.fits c.comment.result (grind (arith, common_steps)))

pub append-requires-in-Ok-character : goal.append-requires-in-Ok-character
unfolding piece
append-requires-in-Ok-character c =
    subst (λ r. IfOk r (λ found. c.args.progress.now.at + found.1 < 2 ^ 32)) c.in-Ok-character.is
    (token_below _ _ (2 ^ 32) c.requires.some c.requires.fits kind.Character c.character.result (grind (arith, common_steps)))

pub append-requires-in-Ok-mark : goal.append-requires-in-Ok-mark
unfolding piece
append-requires-in-Ok-mark c =
    subst (λ r. IfOk r (λ found. c.args.progress.now.at + found.1 < 2 ^ 32)) c.in-Ok-mark.is
    (token_below _ _ (2 ^ 32) c.requires.some c.requires.fits kind.Symbol c.mark.result (search rules))
