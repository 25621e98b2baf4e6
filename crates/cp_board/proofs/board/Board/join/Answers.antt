use Rattle.std.proofs.Common.{sym, ap, subst, ◌∙◌, ◌≡◌, arith, ℕ, rules}
use mathlib.Core.Option.{none}
use Rattle.atomic_table.specs.Table.{Allows, step}
use Rattle.cp_board.specs.declared.view.Shape.{Shape}
use Rattle.cp_board.specs.Rule.{KeepsRule}
use Rattle.cp_board.specs.Stripes.{word_of}
use Rattle.cp_board.specs.Steps.{LearnsDraws}
use Rattle.cp_board.specs.Views.{IsDone, join_views}
use Rattle.cp_board.proofs.MarkLists.{done_first, done_second}
use Rattle.cp_board.proofs.StopSteps.{learns}
use Rattle.cp_board.proofs.SplitAndJoin.{joins}
use Rattle.cp_board.proofs.board.Board.join.Goals as goal

pub join_seat-requires : goal.join_seat-requires
join_seat-requires c =
    let p : Shape = c.self.inside.table.shared.key in
    let first = c.first.invariant in
    let words = c.self.invariant.words in
    let shape = ap (λ b. b.shape) c.self.view_is in
    let of_board = ap (λ s. s.view.shape) c.first.view_is ∙ c.requires.first.shape ∙ sym shape ∙ sym c.self.invariant.key in (
      ap (λ s. s.table) c.first.view_is ∙ c.requires.first.table ∙ sym (ap (λ b. b.table) c.self.view_is),
      ap (λ s. s.table) c.second.view_is ∙ c.requires.second.table ∙ sym (ap (λ b. b.table) c.self.view_is),
      c.second.invariant.slots,
      omega arith,
      joins p _ c.first.inside.pass.me.0 _ c.second.inside.pass.me.0 of_board (omega arith),
    )

pub load-requires : goal.load-requires
load-requires c =
    let me = c.join_seat.new.seat in
    let p : Shape = c.self.inside.table.shared.key in
    let slots : ℕ = c.self.inside.table.shared.table_id.slots in
    let words = c.self.invariant.words in
    let stop_word : word_of c.self.inside.shape.stripes ≡ word_of p.stripes = ap (λ (q : Shape). word_of q.stripes) (sym c.self.invariant.key) in
    let shape = ap (λ b. b.shape) c.self.view_is in
    let of_board : c.first.inside.pass.me.0.shape ≡ p = ap (λ s. s.view.shape) c.first.view_is ∙ c.requires.first.shape ∙ sym shape ∙ sym c.self.invariant.key in (
      c.join_seat.ensures.0 ∙ (ap (λ s. s.table) c.first.view_is ∙ c.requires.first.table ∙ sym (ap (λ b. b.table) c.self.view_is)),
      omega arith,
      subst (λ (i : ℕ). Allows (KeepsRule p) slots me.id me.me i (λ n. n) (LearnsDraws (step slots i 0 0 none) me.me)) (sym stop_word)
          (learns p slots me.id me.me (ap (λ m. m.0.shape) c.join_seat.ensures.2 ∙ of_board)),
    )

pub returns-clause-first_done : goal.returns-clause-first_done
returns-clause-first_done c done =
    let view : c.load.new.seat.me.0 ≡ join_views c.args.first.view c.args.second.view = search rules in
    subst IsDone (sym view) (done_first c.args.first.view c.args.second.view done)

pub returns-clause-second_done : goal.returns-clause-second_done
returns-clause-second_done c done =
    let view : c.load.new.seat.me.0 ≡ join_views c.args.first.view c.args.second.view = search rules in
    subst IsDone (sym view) (done_second c.args.first.view c.args.second.view (c.requires.second.shape ∙ sym c.requires.first.shape) done)
