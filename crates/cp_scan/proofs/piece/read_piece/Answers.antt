use Rattle.std.proofs.Common.{Ok, ap, sym}
use Rattle.cp_scan.specs.declared.progress.Progress.{Progress}
use Rattle.cp_scan.proofs.FirstPiece.{first_blank, first_word}
use Rattle.cp_scan.proofs.piece.read_piece.Goals as goal

pub returns-then-is_blank : goal.returns-then-is_blank
returns-then-is_blank c =
    let e = first_blank _ _ _ c.rest_from-rest.ensures c.is_blank.ensures c.if-is_blank.true in
    rw (← e) (ap (λ (p : Progress). Ok (p.at, p.tokens.items)) (sym c.pass.ensures))

pub returns-then-is_letter : goal.returns-then-is_letter
returns-then-is_letter c =
    let e = first_word _ _ _ c.rest_from-rest.ensures c.is_letter.ensures c.if-is_letter.true in rw (← e) c.read_word.ensures
