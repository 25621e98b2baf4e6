-- Processes stay ahead through kernel turns, the end of a round and the private turns of the next one.
use Rattle.std.specs.Prelude.{◌≡◌, ◌≢◌, ◌+◌, ◌-◌, ◌%◌, refl, ℕ, zero, suc, Bool, true, false, if◌then◌else◌, List, [], ◌∷◌, Option, Some, None, length, map, nat_eq, slice_get, slice_set}
use Rattle.std.proofs.Common.{sym, ◌∙◌, ap, subst, arith}
use Rattle.std.proofs.lemmas.Bool.{eqb-true, eq-eqb, true≢false}
use Rattle.std.proofs.lemmas.List.{length-map}
use Rattle.cp_model.proofs.Options.{same_some}
use Rattle.cp_model_program.specs.Programs.{Program}
use Rattle.cp_model_machine.specs.KernelSteps.{Kernel, stage_of}
use Rattle.cp_model_machine.specs.Machines.{begin_if, begin_one, wake_one}
use Rattle.cp_model_machine.specs.PrivateStates.{PrivateState, is_running}
use Rattle.cp_model_machine.specs.Steps.{act_on, alone, is_private, operation_of, private_step, private_steps}
use Rattle.cp_model_machine.proofs.StagesKept.{stage_is}
use Rattle.cp_model_machine.specs.Ahead.{AreAhead, AreNumbered, HasBegun, HaveTurned, IsAhead, NeedsNoKernel, turn_at}
use Rattle.cp_model_machine.proofs.AheadNumbers.{step_keeps_number}

-- ---- One process

module _ (program : Program) (tick t : ℕ) where
  -- A quiet process may make one more turn.
  pub further : (rounds n : ℕ) (o y : PrivateState) → IsAhead program tick t rounds n o y → NeedsNoKernel program y
      → IsAhead program tick t rounds (suc n) o (turn_at program tick t (rounds + n) y)
  further rounds zero o y is quiet =
      let same : rounds + zero ≡ rounds = omega arith in
      (subst (NeedsNoKernel program) is quiet, ap (λ r. turn_at program tick t r y) same ∙ ap (turn_at program tick t rounds) is)
  further rounds (suc n) o y (first, rest) quiet =
      let same : suc rounds + n ≡ rounds + suc n = omega arith in (
        first,
        subst (λ r. IsAhead program tick t (suc rounds) (suc n) (turn_at program tick t rounds o) (turn_at program tick t r y)) same
            (further (suc rounds) n (turn_at program tick t rounds o) y rest quiet),
      )

  step_number : (clock : ℕ) (o : PrivateState) → (private_step program clock o).number ≡ o.number
  step_number clock o = by (is_running o.activity) (is_private o (operation_of program o))
    where
      by : (a b : Bool) → (if a then (if b then (act_on program (alone clock o) o (operation_of program o)).0 else o) else o).number ≡ o.number
      by true true = step_keeps_number program (alone clock o) o
      by true false = refl
      by false b = refl

  steps_number : (clock n : ℕ) (o : PrivateState) → (private_steps program clock n o).number ≡ o.number
  steps_number clock zero o = refl
  steps_number clock (suc n) o = steps_number clock n (private_step program clock o) ∙ step_number clock o

  pub turn_number : (rounds : ℕ) (o : PrivateState) → (turn_at program tick t rounds o).number ≡ o.number
  turn_number rounds o = steps_number _ t _ ∙ by (nat_eq (suc rounds % tick) 0)
    where
      by : (b : Bool) → (if b then wake_one o else o).number ≡ o.number
      by true = refl
      by false = refl

  pub ahead_number : (rounds n : ℕ) (o y : PrivateState) → IsAhead program tick t rounds n o y → y.number ≡ o.number
  ahead_number rounds zero o y is = ap (λ x. x.number) is
  ahead_number rounds (suc n) o y (quiet, rest) =
      ahead_number (suc rounds) n (turn_at program tick t rounds o) y rest ∙ turn_number rounds o

-- ---- Lists

module _ {X : Type 0} where
  none_is : (x : X) → None ≡ Some x → ⊥
  none_is x e = true≢false (sym (ap (λ (r : Option X). elim r [ None ↦ false | Some v ↦ true ]) e))

  pub set_length : (xs : List X) (i : ℕ) (z : X) → length (slice_set xs i z) ≡ length xs
  set_length [] i z = refl
  set_length (x ∷ xs) zero z = refl
  set_length (x ∷ xs) (suc i) z = ap suc (set_length xs i z)

  pub set_is : (xs : List X) (i : ℕ) (z x : X) → slice_get (slice_set xs i z) i ≡ Some x → x ≡ z
  set_is [] i z x e = absurd (none_is x e)
  set_is (y ∷ xs) zero z x e = sym (same_some z x e)
  set_is (y ∷ xs) (suc i) z x e = set_is xs i z x e

  pub set_apart : (xs : List X) (i j : ℕ) (z : X) → j ≢ i → slice_get (slice_set xs i z) j ≡ slice_get xs j
  set_apart [] i j z ne = refl
  set_apart (x ∷ xs) zero zero z ne = absurd (ne refl)
  set_apart (x ∷ xs) zero (suc j) z ne = refl
  set_apart (x ∷ xs) (suc i) zero z ne = refl
  set_apart (x ∷ xs) (suc i) (suc j) z ne = set_apart xs i j z (λ e. ne (ap suc e))

  -- An item of a mapped list comes from an item.
  pub map_got : (f : X → X) (xs : List X) (i : ℕ) (z : X) → slice_get (map f xs) i ≡ Some z → (x : X) × (slice_get xs i ≡ Some x) × (z ≡ f x)
  map_got f [] i z e = absurd (none_is z e)
  map_got f (x ∷ xs) zero z e = (x, refl, sym (same_some (f x) z e))
  map_got f (x ∷ xs) (suc i) z e = map_got f xs i z e

-- ---- All processes

-- Nothing begins again for a process that has begun.
pub begins_not : (program : Program) (k : Kernel) (i : ℕ) (o : PrivateState) → o.number ≡ suc i → HasBegun i k → begin_one program k o ≡ o
begins_not program k i o number begun =
    ap (begin_if program k o) (ap (stage_of k.stages) number ∙ (stage_is k.stages i ∙ begun.stage))

module _ (program : Program) (tick t rounds : ℕ) (n : ℕ → ℕ) (os ys : List PrivateState) (A : AreAhead program tick t rounds n os ys) where
  -- A process that isn't ahead makes a kernel turn.
  pub turn_ahead : (i : ℕ) (z : PrivateState) → n i ≡ 0 → AreAhead program tick t rounds n (slice_set os i z) (slice_set ys i z)
  turn_ahead i z none = record {
    count = set_length ys i z ∙ (A.count ∙ sym (set_length os i z));
    each = λ j o y e f. by j o y e f (nat_eq j i) refl;
  }
    where
      by : (j : ℕ) (o y : PrivateState) → slice_get (slice_set os i z) j ≡ Some o → slice_get (slice_set ys i z) j ≡ Some y → (b : Bool) → nat_eq j i ≡ b
          → IsAhead program tick t rounds (n j) o y
      by j o y e f true is =
          let same : j ≡ i = eqb-true j i is in
          let at : slice_get (slice_set os i z) i ≡ Some o = ap (slice_get (slice_set os i z)) (sym same) ∙ e in
          let at' : slice_get (slice_set ys i z) i ≡ Some y = ap (slice_get (slice_set ys i z)) (sym same) ∙ f in
          subst (λ k. IsAhead program tick t rounds k o y) (sym (ap n same ∙ none)) (set_is ys i z y at' ∙ sym (set_is os i z o at))
      by j o y e f false is =
          let ne = λ (h : j ≡ i). true≢false (sym (eq-eqb j i h) ∙ is) in
          A.each j o y (sym (set_apart os i j z ne) ∙ e) (sym (set_apart ys i j z ne) ∙ f)

  -- A round ends.
  pub end_ahead : (k : Kernel) → AreNumbered os → ((i : ℕ) → n i ≢ 0 → HasBegun i k)
      → AreAhead program tick t rounds n (map (begin_one program k) os) (map (begin_one program k) ys)
  end_ahead k numbers begun = record {
    count = length-map ys (begin_one program k) ∙ (A.count ∙ sym (length-map os (begin_one program k)));
    each = λ i o y e f.
        let was = map_got (begin_one program k) os i o e in
        let got = map_got (begin_one program k) ys i y f in
        by i o y was.0 got.0 (numbers i was.0 was.1) was.2 got.2 (n i) refl (A.each i was.0 got.0 was.1 got.1);
  }
    where
      by : (i : ℕ) (o y x z : PrivateState) → x.number ≡ suc i → o ≡ begin_one program k x → y ≡ begin_one program k z → (c : ℕ) → n i ≡ c
          → IsAhead program tick t rounds (n i) x z → IsAhead program tick t rounds (n i) o y
      by i o y x z number is ends zero none h =
          let same = subst (λ c. IsAhead program tick t rounds c x z) none h in
          subst (λ c. IsAhead program tick t rounds c o y) (sym none) (ends ∙ (ap (begin_one program k) same ∙ sym is))
      by i o y x z number is ends (suc c) some h =
          let started = begun i (λ e. absurd (omega (arith, e, some))) in
          let mine = is ∙ begins_not program k i x number started in
          let other = ends ∙ begins_not program k i z (ahead_number program tick t rounds (n i) x z h ∙ number) started in
          subst (λ q. IsAhead program tick t rounds (n i) q y) (sym mine) (subst (λ q. IsAhead program tick t rounds (n i) x q) (sym other) h)

  -- The private turns of the next_ahead round are made.
  pub next_ahead : (zs : List PrivateState) → HaveTurned program tick t rounds n ys zs
      → AreAhead program tick t (suc rounds) (λ i. n i - 1) (map (turn_at program tick t rounds) os) zs
  next_ahead zs made = record {
    count = made.count ∙ (A.count ∙ sym (length-map os (turn_at program tick t rounds)));
    each = λ i o z e f.
        let was = map_got (turn_at program tick t rounds) os i o e in
        let got = there ys zs i z (sym made.count) f in
        by i o z was.0 got.0 was.2 got.1 f (n i) refl (A.each i was.0 got.0 was.1 got.1);
  }
    where
      there : (xs ws : List PrivateState) (i : ℕ) (w : PrivateState) → length xs ≡ length ws → slice_get ws i ≡ Some w → (x : PrivateState) × (slice_get xs i ≡ Some x)
      there [] [] i w count e = absurd (none_is w e)
      there [] (v ∷ ws) i w count e = absurd (omega (arith, count))
      there (x ∷ xs) [] i w count e = absurd (none_is w e)
      there (x ∷ xs) (v ∷ ws) zero w count e = (x, refl)
      there (x ∷ xs) (v ∷ ws) (suc i) w count e = there xs ws i w (omega (arith, count)) e

      by : (i : ℕ) (o z x y : PrivateState) → o ≡ turn_at program tick t rounds x → slice_get ys i ≡ Some y → slice_get zs i ≡ Some z → (c : ℕ) → n i ≡ c
          → IsAhead program tick t rounds (n i) x y → IsAhead program tick t (suc rounds) (n i - 1) o z
      by i o z x y is at got zero none h =
          let same : y ≡ x = subst (λ c. IsAhead program tick t rounds c x y) none h in
          let less : n i - 1 ≡ zero = omega (arith, none) in
          subst (λ c. IsAhead program tick t (suc rounds) c o z) (sym less)
          (made.turned i y z none at got ∙ (ap (turn_at program tick t rounds) same ∙ sym is))
      by i o z x y is at got (suc c) some h =
          let more = subst (λ c. IsAhead program tick t rounds c x y) some h in
          let less : n i - 1 ≡ c = omega (arith, some) in
          let kept : z ≡ y = sym (same_some y z (sym at ∙ (sym (made.still i (λ e. absurd (omega (arith, e, some)))) ∙ got))) in
          subst (λ q. IsAhead program tick t (suc rounds) q o z) (sym less)
          (subst (λ q. IsAhead program tick t (suc rounds) c q z) (sym is)
          (subst (λ q. IsAhead program tick t (suc rounds) c (turn_at program tick t rounds x) q) (sym kept) more.1))

  -- Nobody is ahead any more.
  pub none_ahead : ((i : ℕ) → n i ≡ 0) → ys ≡ os
  none_ahead none = by os ys A.count (λ i o y e f. subst (λ c. IsAhead program tick t rounds c o y) (none i) (A.each i o y e f))
    where
      by : (xs zs : List PrivateState) → length zs ≡ length xs
          → ((i : ℕ) (x z : PrivateState) → slice_get xs i ≡ Some x → slice_get zs i ≡ Some z → z ≡ x) → zs ≡ xs
      by [] [] count same = refl
      by [] (z ∷ zs) count same = absurd (omega (arith, count))
      by (x ∷ xs) [] count same = absurd (omega (arith, count))
      by (x ∷ xs) (z ∷ zs) count same =
          ap (λ v. v ∷ zs) (same zero x z refl refl)
          ∙ ap (λ l. x ∷ l) (by xs zs (omega (arith, count)) (λ i v w e f. same (suc i) v w e f))
