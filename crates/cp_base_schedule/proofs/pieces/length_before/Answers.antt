use Rattle.std.proofs.Common.{◌≡◌, sym, ◌∙◌, arith, length}
use Rattle.cp_base_schedule.proofs.FirstPiece.{joined_nothing, other_byte, piece_ends, piece_goes, piece_whole, same_byte}
use Rattle.cp_base_schedule.proofs.pieces.length_before.Goals as goal

pub loop-at-init : goal.loop-at-init
loop-at-init c = joined_nothing c.args.byte c.args.bytes.now

pub loop-at-preserved : goal.loop-at-preserved
loop-at-preserved c =
    piece_goes c.args.byte c.args.bytes.now c.loop-at.at c.loop-at-test.true (other_byte c.args.byte _ c.if-b-byte.false) ∙ c.loop-at.invariant

pub returns-then-b-byte-clause-pieces : goal.returns-then-b-byte-clause-pieces
returns-then-b-byte-clause-pieces c =
    sym c.loop-at.invariant ∙ piece_ends c.args.byte c.args.bytes.now c.loop-at.at c.loop-at-test.true (same_byte c.args.byte _ c.if-b-byte.true)

pub returns-clause-pieces : goal.returns-clause-pieces
returns-clause-pieces c =
    let bytes = c.args.bytes.now in
    let at : c.loop-at.at ≡ length bytes = omega arith in
    piece_whole c.args.byte bytes c.loop-at.at at c.loop-at.invariant
