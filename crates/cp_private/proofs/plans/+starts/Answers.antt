use Rattle.std.proofs.Common.{rules, ◌≡◌, ◌∙◌, ◌∷◌, ◌++◌, [], take, length-append}
use Rattle.cp_program.specs.declared.program.StartPiece.TheVariants as start
use Rattle.cp_program.specs.View.{plans_of}
use Rattle.cp_private.proofs.CarriedOut.{last_done, last_part, less_left, pieces_done}
use Rattle.cp_private.proofs.plans.+starts.Goals as goal

pub start_but_last-returns-in-Part-clause-words : goal.start_but_last-returns-in-Part-clause-words
start_but_last-returns-in-Part-clause-words t c =
    let known = take c.args.rest.below (plans_of c.args.program.now) in
    let base = c.args.rest.base in
    let all = c.args.rest.pieces.now in
    let others = c.in_ok-last.others.now in
    let last = c.in_ok-last.last.now in
    let ws = c.loop-piece.own ++ c.loop-piece.shared in
    let before = c.args.own.now ++ c.args.shared.now in
    let whole : all ≡ others ++ last ∷ [] = c.in_ok-last.ensures.cases.0 in
    let is : last ≡ start.Part c.in-Part.at c.in-Part.plan = search rules in
    let done = pieces_done known base others c.loop-piece.piece-index ws before c.loop-piece-test.false c.loop-piece.invariant.words in
    c.rest_of.ensures.words ws (length-append c.loop-piece.own c.loop-piece.shared) ∙ last_part known base all others last c.in-Part.at c.in-Part.plan ws before whole is done

pub start_but_last-returns-in_default : goal.start_but_last-returns-in_default
start_but_last-returns-in_default t c =
    let known = take c.args.rest.below (plans_of c.args.program.now) in
    let base = c.args.rest.base in
    let all = c.args.rest.pieces.now in
    let others = c.in_ok-last.others.now in
    let last = c.in_ok-last.last.now in
    let ws = c.loop-piece.own ++ c.loop-piece.shared in
    let before = c.args.own.now ++ c.args.shared.now in
    let whole : all ≡ others ++ last ∷ [] = c.in_ok-last.ensures.cases.0 in
    let done = pieces_done known base others c.loop-piece.piece-index ws before c.loop-piece-test.false c.loop-piece.invariant.words in
    record {
      words = c.start_piece-in_default.ensures.words ∙ last_done known base all others last ws before whole done;
      lower = tt;
      near = tt;
      own = c.start_piece-in_default.ensures.own ∙ c.loop-piece.invariant.own;
      shared = c.start_piece-in_default.ensures.shared ∙ c.loop-piece.invariant.shared;
    }

pub start_rest-loop-left-smaller : goal.start_rest-loop-left-smaller
start_rest-loop-left-smaller t c = less_left c.start_but_last-left.result c.loop-left.left c.in-Some.next c.in-Some.is c.start_but_last-left.ensures.lower
