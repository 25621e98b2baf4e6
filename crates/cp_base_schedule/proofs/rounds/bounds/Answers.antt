use Rattle.std.proofs.Common.{◌≤◌, ◌-◌, ap, sym, ◌∙◌, arith, get_or, length, ℕ, Some}
use Rattle.std.proofs.lemmas.Bool.Decides.{nat_tests}
use Rattle.cp_base_schedule.specs.Parts.{bounds_at}
use Rattle.cp_base_schedule.proofs.Parts.{first_bounds, later_bounds, no_bounds}
use Rattle.cp_base_schedule.proofs.rounds.bounds.Goals as goal

pub returns-in_err-end : goal.returns-in_err-end
returns-in_err-end c =
    let past : length c.args.ends.now ≤ c.args.index = grind (arith, nat_tests, c.in_err-end.ensures.lookup) in
    c.from_residual.ensures ∙ sym (no_bounds 0 c.args.ends.now c.args.index past)

pub returns-then-index-eq0 : goal.returns-then-index-eq0
returns-then-index-eq0 c =
    let ends = c.args.ends.now in
    let found = c.in_ok-end.ensures.lookup.3 in
    let first = c.if-index-eq0.true in
    ap (λ (n : ℕ). Some (0, n)) (found.1 0 ∙ ap (λ (i : ℕ). get_or ends i 0) first)
    ∙ (sym (first_bounds 0 ends (omega arith)) ∙ ap (bounds_at 0 ends) (sym first))

pub returns : goal.returns
returns c =
    let ends = c.args.ends.now in
    let index = c.args.index in
    let found = c.in_ok-end.ensures.lookup.3 in
    ap (λ (n : ℕ). Some (get_or ends (index - 1) 0, n)) (found.1 0) ∙ sym (later_bounds 0 ends index c.if-index-eq0.false found.0)
