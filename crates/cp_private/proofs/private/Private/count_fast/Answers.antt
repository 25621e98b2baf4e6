use Rattle.std.proofs.Common.{rules, arith, ◌≡◌, ◌+◌, true, false, to_z, of_z, ap, sym, ◌∙◌}
use Rattle.std.proofs.lemmas.List.{get_or-set_other, set-get_or}
use Rattle.std.specs.Int.{w32}
use Rattle.std.specs.Prelude.{ℕ, ℤ, pos, slice_set}
use Rattle.cp_model.specs.Integers.{same_integer}
use Rattle.cp_model.specs.Places.{within}
use Rattle.cp_model.specs.StatementSteps.{next_counter}
use Rattle.cp_model_program.specs.Starts.{word}
use Rattle.cp_model_machine.specs.PrivateStates.{NoEffect, PrivateState, go_to, set_temp, set_word, view_of}
use Rattle.cp_model_machine.specs.Values.{root_place}
use Rattle.cp_program.specs.View as view
use Rattle.cp_private.specs.States.{join}
use Rattle.cp_private.proofs.private.Private.count_fast.Goals as goal

-- A temp that is given the number that it has.
unchanged : (o : PrivateState) (i : ℕ) (n : ℤ) → word o.temps i ≡ n → set_temp o i n ≡ o
unchanged o i n is = ap (λ xs. record o { temps = xs }) (ap (slice_set o.temps i) (sym is) ∙ set-get_or o.temps i (pos 0))

pub returns-clause-step : goal.returns-clause-step
returns-clause-step g c =
    let counting = c.args.counting.now in
    let temps = c.args.self.now.memory.temps.items in
    let t = c.args.self.now.memory.temp + counting.temp in
    let n = word temps t in
    let last = word temps (t + 1) in
    let m = next_counter counting.down n in
    let apart : same_integer n last ≡ false = search rules in
    let next : to_z w32 (of_z w32 c.in-Some.n) ≡ m = search rules in
    let inside : within counting.bounds.low counting.bounds.high m ≡ true = search rules in
    λ yes w input.
    let o = join c.args.self.now input c.args.shared.now in
    let at = c.in-Some-fast_root_place.at in
    let place : root_place (view_of w o) (view.root counting.variable) ≡ at = c.in-Some-fast_root_place.ensures w.clock in
    let written = rw next at (c.set_word.ensures.step input at (omega arith)) in
    let counted = rw next at (c.set_temp.ensures.step input c.set_word.new.shared) in
    let put = set_temp (set_word o (root_place (view_of w o) (view.root counting.variable)) m) t m in
    let bounded : set_temp put (t + 1) last ≡ put = unchanged put (t + 1) last (get_or-set_other temps t (t + 1) m (pos 0) (λ e. omega arith)) in
    let all = counted ∙ (ap (λ x. set_temp x t m) (written ∙ ap (λ a. set_word o a m) (sym place)) ∙ sym bounded) in
    rw (apart, inside) (ap (λ p. (go_to counting.body p, NoEffect)) all)
