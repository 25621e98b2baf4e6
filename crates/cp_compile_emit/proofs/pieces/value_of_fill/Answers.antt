use Rattle.std.proofs.Common.{rules, ◌≡◌, ◌≢◌, ◌∙◌, ap, pos, sym, length}
use Rattle.cp_model_program.specs.Plans.{value_of_fill}
use Rattle.cp_program.specs.View.{plan_of}
use Rattle.cp_program.specs.declared.program.StartPiece.TheVariants as start
use Rattle.cp_compile_emit.proofs.TypesPlanned.{no_fill, one_only}
use Rattle.cp_compile_emit.proofs.pieces.value_of_fill.Goals as goal

pub returns-then-pieces-ne1 : goal.returns-then-pieces-ne1
returns-then-pieces-ne1 c = λ known.
    let other : length c.args.pieces.now ≢ 1 = search rules in
    sym (no_fill known c.args.size c.args.pieces.now other)

pub returns : goal.returns
returns c = λ known.
    let one : length c.args.pieces.now ≡ 1 = search rules in
    c.value_of_piece.ensures known
    ∙ ap (λ xs. value_of_fill c.args.size (plan_of known xs)) (one_only c.args.pieces.now (start.Fill 0 0 (pos 0)) one)
