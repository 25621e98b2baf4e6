use Rattle.std.proofs.Common.{arith, ◌<◌}
use Rattle.cp_scan.proofs.FirstPiece.{left}
use Rattle.cp_scan.proofs.Loop.{ends, fails, goes, moves_on, within, reported}
use Rattle.cp_scan.proofs.scanning.all_tokens.Goals as goal

pub loop-progress-smaller : goal.loop-progress-smaller
loop-progress-smaller c =
    let on : c.loop-progress.progress.at < c.read_piece.new.progress.at =
    moves_on _ _ _ c.loop-progress.invariant.so_far _ _ (left _ _ c.loop-progress-test.true) _ _ c.in_ok-read_piece.ensures in
    let inside = c.loop-progress-test.true in
    omega arith

pub loop-progress-preserved : goal.loop-progress-preserved
loop-progress-preserved c = record {
  place = within _ _ _ c.loop-progress.invariant.so_far _ _ (left _ _ c.loop-progress-test.true) _ _ c.in_ok-read_piece.ensures;
  so_far = goes _ _ _ c.loop-progress.invariant.so_far _ _ (left _ _ c.loop-progress-test.true) _ _ c.in_ok-read_piece.ensures;
}

pub returns-in_err-read_piece-clause-fails : goal.returns-in_err-read_piece-clause-fails
returns-in_err-read_piece-clause-fails c =
    reported c.args.text.now _ _ c.from_residual.ensures.1
    (fails _ _ _ c.loop-progress.invariant.so_far _ _ (left _ _ c.loop-progress-test.true) _ c.in_err-read_piece.ensures)

pub returns-clause-tokens : goal.returns-clause-tokens
returns-clause-tokens c = ends _ _ _ c.loop-progress.invariant.so_far c.loop-progress-test.false
