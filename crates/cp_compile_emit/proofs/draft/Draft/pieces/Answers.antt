use Rattle.std.proofs.Common.{◌≡◌, ◌+◌, ◌-◌, ◌<◌, ◌≤◌, ◌∙◌, List, ap, sym, drop, get_or, length, pos, take, arith}
use Rattle.std.proofs.lemmas.List.{at_drop_all, at_drop_more}
use Rattle.cp_model_program.specs.Plans.{pieces_before}
use Rattle.cp_model_program.specs.Programs as code
use Rattle.cp_program.specs.declared.program.StartPiece.{StartPiece}
use Rattle.cp_program.specs.declared.program.StartPiece.TheVariants as start
use Rattle.cp_program.specs.View as view
use Rattle.cp_compile_emit.specs.Drafts.{plan_of}
use Rattle.cp_compile_emit.proofs.Drafting.{piece_first}
use Rattle.cp_compile_emit.proofs.draft.Draft.pieces.Goals as goal

pub loop-i-init : goal.loop-i-init
loop-i-init c = λ known gone.
    let all = c.args.pieces.now in
    let end : length all ≤ length all = omega arith in
    sym (at_drop_all (λ (xs : List StartPiece). pieces_before c.args.at (view.plan_of (take c.args.below known) xs) (plan_of known c.args.self.now)) all (length all) end)

pub loop-i-preserved : goal.loop-i-preserved
loop-i-preserved c = λ known gone.
    let all = c.args.pieces.now in
    let i = c.loop-i.i in
    let at = c.args.at in
    let before = take c.args.below known in
    let rest = plan_of known c.args.self.now in
    let none : StartPiece = start.Fill 0 0 (pos 0) in
    let x = get_or all (i - 1) none in
    let within : i - 1 < length all = omega arith in
    let next : i - 1 + 1 ≡ i = omega arith in
    let split = at_drop_more (λ (xs : List StartPiece). pieces_before at (view.plan_of before xs) rest) all (i - 1) none within
    ∙ ap (λ k. pieces_before at (view.piece_before before x (view.plan_of before (drop k all))) rest) next in
    c.in_ok-piece.ensures known gone
    ∙ ap (pieces_before at (view.piece_before before x code.Done)) (c.loop-i.invariant known gone)
    ∙ piece_first at before x (view.plan_of before (drop i all)) rest
    ∙ sym split
