-- A round in which all processes are ahead changes only how far they are: nobody has a kernel turn,
-- nobody begins, and the next private turns are made.
use Rattle.std.specs.Prelude.{◌≡◌, ◌≢◌, ◌≤◌, ◌<◌, ◌+◌, ◌-◌, refl, ℕ, zero, suc, List, [], ◌∷◌, Some, get_or, length, map, slice_get}
use Rattle.std.proofs.Common.{sym, ◌∙◌, ap, subst, arith}
use Rattle.cp_model.specs.States.{numbers_from}
use Rattle.cp_model_program.specs.Programs.{Program}
use Rattle.cp_model_machine.specs.KernelSteps.{Begun, Kernel, SchedulingState}
use Rattle.cp_model_machine.specs.Machines.{Machine, begin_one, end_round, kernel_turns, next_stage}
use Rattle.cp_model_machine.specs.PrivateStates.{PrivateState}
use Rattle.cp_model_machine.specs.Ahead.{HasBegun, AreRunAhead, with_turns}
use Rattle.cp_model_machine.proofs.AheadRounds.{ahead_turn, private_turns_made, round_end}
use Rattle.cp_model_machine.proofs.AheadTurns.{ahead_number, begins_not}

got : {X : Type 0} (xs : List X) (i : ℕ) → i < length xs → (x : X) × (slice_get xs i ≡ Some x)
got [] i h = absurd (omega (arith, h))
got (x ∷ xs) zero h = (x, refl)
got (x ∷ xs) (suc i) h = got xs i (omega (arith, h))

below : {X : Type 0} (xs : List X) (i : ℕ) (x : X) → slice_get xs i ≡ Some x → i < length xs
below [] i x e = absurd (cc)
below (y ∷ xs) zero x e = omega arith
below (y ∷ xs) (suc i) x e = let less = below xs i x e in omega (arith, less)

-- No stage is fresh.
same_stages : (gs : List SchedulingState) → ((i : ℕ) → i < length gs → get_or gs i Begun ≡ Begun) → map next_stage gs ≡ gs
same_stages [] begun = refl
same_stages (g ∷ gs) begun =
    let first : g ≡ Begun = begun 0 (omega arith) in
    (λ j. next_stage (first j) ∷ same_stages gs (λ i less. begun (suc i) (omega (arith, less))) j)
    ∙ (λ j. sym first j ∷ gs)

-- Nobody begins.
same_parts : (program : Program) (k : Kernel) (p : ℕ) (ys : List PrivateState)
    → ((i : ℕ) (y : PrivateState) → slice_get ys i ≡ Some y → (y.number ≡ suc (p + i)) × HasBegun (p + i) k) → map (begin_one program k) ys ≡ ys
same_parts program k p [] each = refl
same_parts program k p (y ∷ ys) each =
    let first = each 0 y refl in
    λ j. begins_not program k (p + 0) y first.0 first.1 j
    ∷ same_parts program k (suc p) ys (λ i z at. subst (λ q. (z.number ≡ suc q) × HasBegun q k) (omega arith) (each (suc i) z at)) j

module _ (t rounds : ℕ) (m : Machine) (n : ℕ → ℕ) (k : Kernel) (ts : List (List ℕ)) (ys : List PrivateState) (S : AreRunAhead t rounds m n k ts ys)
    (stages : length k.stages ≤ length m.parts) (all : (i : ℕ) → i < length m.parts → n i ≢ 0) where
  no_turns : (i c : ℕ) → i + c ≤ length m.parts → kernel_turns t m (numbers_from (suc i) c) ≡ m
  no_turns i zero le = refl
  no_turns i (suc c) le =
      let here : i < length m.parts = omega (arith, le) in
      let o = got m.parts i here in
      let y = got ys i (omega (arith, here, S.ahead.count)) in
      ap (λ (u : Machine). kernel_turns t u (numbers_from (suc (suc i)) c)) (ahead_turn t rounds m n k ts ys S i o.0 y.0 (all i here) o.1 y.1)
      ∙ no_turns (suc i) c (omega (arith, le))

  begun : (i : ℕ) → i < length m.parts → HasBegun i k
  begun i here = subst (HasBegun i) (sym S.kernel) (S.begun i (all i here))

  same_kernel : record k { stages = map next_stage k.stages } ≡ k
  same_kernel = ap (λ gs. record k { stages = gs }) (same_stages k.stages (λ i less. (begun i (omega (arith, less, stages))).stage))

  none_begins : map (begin_one m.program k) ys ≡ ys
  none_begins = same_parts m.program k 0 ys (λ i y at.
      let here : i < length m.parts = (let less = below ys i y at in omega (arith, less, S.ahead.count)) in
      let o = got m.parts i here in
      let number : y.number ≡ suc i = ahead_number m.program m.tick t rounds (n i) o.0 y (S.ahead.each i o.0 y o.1 at) ∙ S.numbers i o.0 o.1 in
      subst (λ q. (y.number ≡ suc q) × HasBegun q k) (omega arith) (number, begun i here))

  ended : AreRunAhead t rounds (end_round m) n k ts ys
  ended =
      subst (λ (u : Kernel). AreRunAhead t rounds (end_round m) n u ts ys) same_kernel
      (subst (λ (zs : List PrivateState). AreRunAhead t rounds (end_round m) n (record k { stages = map next_stage k.stages }) ts zs) none_begins
      (round_end t rounds m n k ts ys S))

  -- The kernel turns and the end of the round, and the private turns of the next one.
  pub round_passed : rounds ≡ suc m.rounds
      → AreRunAhead t (suc rounds) (with_turns t (end_round (kernel_turns t m (numbers_from 1 (length m.parts))))) (λ i. n i - 1) k ts ys
  round_passed time =
      subst (λ (u : Machine). AreRunAhead t (suc rounds) (with_turns t (end_round u)) (λ i. n i - 1) k ts ys) (sym (no_turns 0 (length m.parts) (omega arith)))
      (private_turns_made t rounds (end_round m) n k ts ys ended time ys (record {
        count = refl;
        turned = λ i y z none e f. absurd (all i (let less = below ys i y e in omega (arith, less, S.ahead.count)) none);
        still = λ i some. refl;
      }))
