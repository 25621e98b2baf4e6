use Rattle.std.proofs.Common.{sym, ap, subst, ◌∙◌, ◌≡◌, ℕ, arith, bit_or}
use Rattle.atomic_table.specs.Table.{Allows, step}
use mathlib.Core.Option.{none}
use Rattle.cp_board.specs.declared.view.Shape.{Shape}
use Rattle.cp_board.specs.Rule.{KeepsRule}
use Rattle.cp_board.specs.Stripes.{word_of}
use Rattle.cp_board.specs.Steps.{CallsStop}
use Rattle.cp_board.proofs.StopSteps.{calls}
use Rattle.cp_board.proofs.board.Board.stop.Goals as goal

pub fetch_or-requires : goal.fetch_or-requires
fetch_or-requires c =
    let me = c.seat.inside.pass in
    let p : Shape = c.self.inside.table.shared.key in
    let slots : ℕ = c.self.inside.table.shared.table_id.slots in
    let seat = c.seat.invariant in
    let words = c.self.invariant.words in
    let some_stripe = c.self.invariant.some in
    let stop_word : word_of c.self.inside.shape.stripes ≡ word_of p.stripes = ap (λ (q : Shape). word_of q.stripes) (sym c.self.invariant.key) in (
      ap (λ s. s.table) c.seat.view_is ∙ c.requires.table ∙ sym (ap (λ b. b.table) c.self.view_is),
      omega arith,
      subst (λ (i : ℕ). Allows (KeepsRule p) slots me.id me.me i (λ n. bit_or n 1) (CallsStop (step slots i 1 0 none) me.me)) (sym stop_word)
          (calls p slots me.id me.me (omega arith) (omega arith)),
    )
