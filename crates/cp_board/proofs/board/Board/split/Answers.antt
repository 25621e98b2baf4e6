use Rattle.std.proofs.Common.{sym, ap, ◌∙◌, arith}
use Rattle.cp_board.specs.declared.view.Shape.{Shape}
use Rattle.cp_board.proofs.SplitAndJoin.{splits}
use Rattle.cp_board.proofs.board.Board.split.Goals as goal

pub split_seat-second_pass-requires : goal.split_seat-second_pass-requires
split_seat-second_pass-requires c =
    let me = c.seat.inside.pass in
    let p : Shape = c.self.inside.table.shared.key in
    let seat = c.seat.invariant in
    let words = c.self.invariant.words in
    let more = c.if-seat-eq1.false in
    let of_board = ap (λ s. s.view.shape) c.seat.view_is ∙ c.requires.shape ∙ sym (ap (λ b. b.shape) c.self.view_is) ∙ sym c.self.invariant.key in (
      ap (λ s. s.table) c.seat.view_is ∙ c.requires.table ∙ sym (ap (λ b. b.table) c.self.view_is),
      omega arith,
      splits p _ me.me.0 of_board (omega arith),
    )
