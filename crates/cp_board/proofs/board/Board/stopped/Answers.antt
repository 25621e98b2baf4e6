use Rattle.std.proofs.Common.{sym, ap, subst, ◌∙◌, ◌≡◌, ℕ, arith}
use Rattle.atomic_table.specs.Table.{Allows, step}
use mathlib.Core.Option.{none}
use Rattle.cp_board.specs.declared.view.Shape.{Shape}
use Rattle.cp_board.specs.Rule.{KeepsRule}
use Rattle.cp_board.specs.Stripes.{word_of}
use Rattle.cp_board.specs.Steps.{ReadsStop}
use Rattle.cp_board.proofs.StopSteps.{reads}
use Rattle.cp_board.proofs.board.Board.stopped.Goals as goal

pub load-found-requires : goal.load-found-requires
load-found-requires c =
    let me = c.seat.inside.pass in
    let p : Shape = c.self.inside.table.shared.key in
    let slots : ℕ = c.self.inside.table.shared.table_id.slots in
    let words = c.self.invariant.words in
    let stop_word : word_of c.self.inside.shape.stripes ≡ word_of p.stripes = ap (λ (q : Shape). word_of q.stripes) (sym c.self.invariant.key) in (
      ap (λ s. s.table) c.seat.view_is ∙ c.requires.table ∙ sym (ap (λ b. b.table) c.self.view_is),
      omega arith,
      subst (λ (i : ℕ). Allows (KeepsRule p) slots me.id me.me i (λ n. n) (ReadsStop (step slots i 0 0 none) me.me)) (sym stop_word)
          (reads p slots me.id me.me),
    )
