-- What tests of the processes say of all of them.
use Rattle.std.specs.Prelude.{Bool, List, false, if◌then◌else◌, nat_eq, refl, suc, true, zero, ℕ, ◌+◌, ◌<◌, ◌≡◌, ◌≤◌}
use Rattle.std.proofs.Common.{ap, arith, sym, ◌∙◌}
use Rattle.std.proofs.lemmas.Bool.{eqb-false, eqb-true, true≢false}
use Rattle.cp_model.specs.States.{numbers_from}
use Rattle.cp_model_machine.specs.PrivateStates.{Activity}
use Rattle.cp_law_cores.specs.Cores.{Core, part}
use Rattle.cp_law_cores.specs.Verdicts.{all_parts, can_move, is_sound, none_moves, part_passes}
use Rattle.cp_law_servers.specs.Servers.{part_is_done, parts_are_done}
use Rattle.cp_search_states.specs.SearchStates.{core_of}
use Rattle.cp_search_states.specs.Verdicts.{AllDone, AllPass, IsFine, OneMoves}
use Rattle.cp_search_states.specs.declared.state.SearchState.{SearchState}

all_from : (test : Activity → Bool) (c : Core) (n q : ℕ) → ((p : ℕ) → q ≤ p → p < q + n → part_passes test (part c.parts p) ≡ true)
    → all_parts test c (numbers_from q n) ≡ true
all_from test c zero q each = refl
all_from test c (suc n) q each =
    ap (λ b. if b then all_parts test c (numbers_from (suc q) n) else false) (each q (omega arith) (omega arith))
    ∙ all_from test c n (suc q) (λ p low high. each p (omega arith) (omega arith))

done_from : (servers : List ℕ) (c : Core) (n q : ℕ) → ((p : ℕ) → q ≤ p → p < q + n → part_is_done servers c.kernel (part c.parts p) ≡ true)
    → parts_are_done servers c (numbers_from q n) ≡ true
done_from servers c zero q each = refl
done_from servers c (suc n) q each =
    ap (λ b. if b then parts_are_done servers c (numbers_from (suc q) n) else false) (each q (omega arith) (omega arith))
    ∙ done_from servers c n (suc q) (λ p low high. each p (omega arith) (omega arith))

one_from : (c : Core) (n q p : ℕ) → q ≤ p → p < q + n → can_move c.kernel (part c.parts p) ≡ true → none_moves c (numbers_from q n) ≡ false
one_from c zero q p low high moves = absurd (omega arith)
one_from c (suc n) q p low high moves = by (λ l h. one_from c n (suc q) p l h moves) (can_move c.kernel (part c.parts q)) refl
  where
    by : (suc q ≤ p → p < suc q + n → none_moves c (numbers_from (suc q) n) ≡ false) → (b : Bool) → can_move c.kernel (part c.parts q) ≡ b
        → (if b then false else none_moves c (numbers_from (suc q) n)) ≡ false
    by more true e = refl
    by more false e = more (later (nat_eq q p) refl) (omega arith)
      where
        later : (b : Bool) → nat_eq q p ≡ b → suc q ≤ p
        later true g = absurd (true≢false (sym moves ∙ (ap (λ r. can_move c.kernel (part c.parts r)) (sym (eqb-true q p g)) ∙ e)))
        later false g = let apart = eqb-false q p g in omega arith

pub fine_if_done : (servers : List ℕ) (n : ℕ) (x : SearchState) (inputs : ℕ → List ℕ) → AllPass is_sound n x → AllDone servers n x → IsFine servers n (core_of inputs x)
fine_if_done servers n x inputs sound done = record {
  sound = all_from is_sound (core_of inputs x) n 1 (λ p low high. sound.each inputs p low (omega arith));
  done = λ still. done_from servers (core_of inputs x) n 1 (λ p low high. done.each inputs p low (omega arith));
}

pub fine_if_moves : (servers : List ℕ) (n : ℕ) (x : SearchState) (inputs : ℕ → List ℕ) → AllPass is_sound n x → OneMoves n x → IsFine servers n (core_of inputs x)
fine_if_moves servers n x inputs sound one =
    let first = one.first in
    let last = one.last in
    record {
      sound = all_from is_sound (core_of inputs x) n 1 (λ p low high. sound.each inputs p low (omega arith));
      done = λ still. absurd (true≢false (sym still ∙ one_from (core_of inputs x) n 1 one.process first (omega arith) (one.moves inputs)));
    }
