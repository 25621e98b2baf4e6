use Rattle.std.proofs.Common.{sym, ap, subst, ◌∙◌, ◌≡◌, ◌<◌, ◌≤◌, arith, get_or, length, false}
use Rattle.cp_board.specs.declared.view.Shape.{Shape}
use Rattle.cp_board.specs.declared.view.TheConstants.{MAX_TICKETS, MAX_STRIPES}
use Rattle.cp_board.proofs.DrawStep.{draws}
use Rattle.cp_board.proofs.board.Board.draw_from.Goals as goal

pub fetch_add-ticket-requires : goal.fetch_add-ticket-requires
fetch_add-ticket-requires c =
    let me = c.seat.inside.pass in
    let p : Shape = c.self.inside.table.shared.key in
    let key = c.self.invariant.key in
    let words = c.self.invariant.words in
    let seat = c.seat.invariant in
    let to : c.args.self.now.shape ≡ p = sym (ap (λ b. b.shape) c.self.view_is) ∙ sym key in
    let of_board : me.me.0.shape ≡ p = ap (λ s. s.view.shape) c.seat.view_is ∙ c.requires.of.shape ∙ to in
    let in_stripes : c.args.stripe < p.stripes = subst (λ (q : Shape). c.args.stripe < q.stripes) to c.requires.stripe in
    let most : p.stripes ≤ MAX_STRIPES = subst (λ (q : Shape). q.stripes ≤ MAX_STRIPES) (sym key) c.self.invariant.most in
    let numbers : p.numbers ≤ MAX_TICKETS = subst (λ (q : Shape). q.numbers ≤ MAX_TICKETS) (sym key) c.self.invariant.numbers in
    let same_stripes : c.self.inside.shape.stripes ≡ p.stripes = ap (λ (q : Shape). q.stripes) (sym key) in
    let room : length me.me.0.used_up ≡ MAX_STRIPES = sym (ap length seat.used_up) ∙ c.seat.told in (
      ap (λ s. s.table) c.seat.view_is ∙ c.requires.of.table ∙ sym (ap (λ b. b.table) c.self.view_is),
      omega arith,
      draws p _ _ me.me c.args.stripe numbers (omega arith) in_stripes of_board (omega arith)
          (sym (ap (λ l. get_or l c.args.stripe false) seat.used_up) ∙ c.if-seat-stripe.false) (omega arith),
    )
