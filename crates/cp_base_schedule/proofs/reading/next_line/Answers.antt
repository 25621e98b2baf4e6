use Rattle.std.proofs.Common.{◌<◌, arith, ap, sym, ◌∙◌, ◌∷◌, List, ℕ, length, take}
use Rattle.cp_model.specs.OrderText.{lines_of}
use Rattle.cp_base_schedule.proofs.Lines.{line_ends, line_last}
use Rattle.cp_base_schedule.proofs.reading.next_line.Goals as goal

pub returns-else-end-text-clause-lines : goal.returns-else-end-text-clause-lines
returns-else-end-text-clause-lines c =
    let text = c.args.text.now in
    let end = c.length_before-end.result in
    let within = c.length_before-end.ensures.within in
    let apart = c.if-end-text.false in
    let inside : end < length text = omega arith in
    line_ends text end c.length_before-end.ensures.pieces inside
    ∙ ap (λ (more : List ℕ). take end text ∷ lines_of more) (sym c.after.ensures)

pub returns-then-end-text-clause-lines : goal.returns-then-end-text-clause-lines
returns-then-end-text-clause-lines c =
    let text = c.args.text.now in
    line_last text c.length_before-end.result c.length_before-end.ensures.pieces c.requires.some (omega arith)
