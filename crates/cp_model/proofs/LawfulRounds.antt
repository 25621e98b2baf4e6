-- Every lawful order of a round leaves what one processor leaves.
use Rattle.std.specs.Prelude.{List, [], false, fold, refl, suc, zero, ℕ, ◌<◌, ◌∷◌, ◌≡◌, ◌≢◌}
use Rattle.std.proofs.Common.{ap, arith, sym, ◌∙◌}
use Rattle.std.proofs.lemmas.Bool.{ne_eqb}
use Rattle.cp_model.specs.Abstract.{Process}
use Rattle.cp_model.specs.States.{Setup, State, count_components, initial_variables, is_in, numbers_from, processes}
use Rattle.cp_model.specs.Turns.{kernel_step, kernel_turn, private_step, private_turn}
use Rattle.cp_model.specs.Rounds.{Event, KernelTurn, PrivateStep, all_turns, close_round, replay_event, replay_round, sequential_round, wake}
use Rattle.cp_model.specs.Orders.{IsLawful}
use Rattle.cp_model.specs.Invariant.{Invariant}
use Rattle.cp_model.proofs.Orders.{AreDistinct, MayChangePlaces, after, lawful_is_one_by_one, many, one_by_one}
use Rattle.cp_model.proofs.OwnSteps.{private_past_private}
use Rattle.cp_model.proofs.StepOrder.{private_past_kernel}
use Rattle.cp_model.proofs.OutsideReach.{may_commute}
use Rattle.cp_model.proofs.StateInvariant.{kernel_step_keeps, kernel_turn_keeps, private_step_keeps}

pub below_are_out : (p q n : ℕ) → p < q → is_in p (numbers_from q n) ≡ false
below_are_out p q zero h = refl
below_are_out p q (suc n) h = rw (ne_eqb p q (Prim.omega arith)) (below_are_out p (suc q) n (Prim.omega arith))

pub numbers_are_distinct : (p n : ℕ) → AreDistinct (numbers_from p n)
numbers_are_distinct p zero = tt
numbers_are_distinct p (suc n) = (below_are_out p (suc p) n (Prim.omega arith), numbers_are_distinct (suc p) n)

module _ (setup : Setup) where
  pub turn_past : (t : ℕ) (s : State) (p q : ℕ) → p ≢ q → Invariant s → kernel_turn setup t (private_step setup s p) q
      ≡ private_step setup (kernel_turn setup t s q) p
  turn_past zero s p q d i = refl
  turn_past (suc t) s p q d i =
      ap (λ x. kernel_turn setup t x q) (private_past_kernel setup s p q d (may_commute s i)) ∙ turn_past t (kernel_step setup s q) p q d (kernel_step_keeps setup s q i)

  abbrev turn : ℕ → State → ℕ → State
  turn t s p = kernel_turn setup t s p

  change : (t : ℕ) → MayChangePlaces (private_step setup) (turn t) Invariant
  change t = record {
    good_one = private_step_keeps setup;
    good_turn = kernel_turn_keeps setup t;
    ones = λ s p q d i. private_past_private setup s p q d (may_commute s i);
    turns = turn_past t;
  }

  after_is_fold : (t : ℕ) (es : List Event) (s : State) → after (private_step setup) (turn t) s es
      ≡ fold (replay_event setup t) s es
  after_is_fold t [] s = refl
  after_is_fold t (PrivateStep p ∷ es) s = after_is_fold t es (private_step setup s p)
  after_is_fold t (KernelTurn p ∷ es) s = after_is_fold t es (kernel_turn setup t s p)

  many_is_turn : (n t : ℕ) (s : State) (p : ℕ) → many (private_step setup) (turn t) n s p ≡ private_turn setup n s p
  many_is_turn zero t s p = refl
  many_is_turn (suc n) t s p = many_is_turn n t (private_step setup s p) p

  one_by_one_is_all : (t : ℕ) (ps : List ℕ) (s : State) → one_by_one (private_step setup) (turn t) t s ps
      ≡ all_turns setup t s ps
  one_by_one_is_all t [] s = refl
  one_by_one_is_all t (p ∷ ps) s =
      ap (λ x. one_by_one (private_step setup) (turn t) t (kernel_turn setup t x p) ps) (many_is_turn t t s p) ∙ one_by_one_is_all t ps (kernel_turn setup t (private_turn setup t s p) p)

  -- A lawful order of a round leaves what one processor's round leaves.
  pub lawful_round : (t : ℕ) (s : State) (es : List Event) → Invariant (wake setup s) → IsLawful t (processes setup) es
      → replay_round setup t s es ≡ sequential_round setup t s
  lawful_round t s es i h =
      ap close_round (sym (after_is_fold t es (wake setup s))
      ∙ lawful_is_one_by_one (private_step setup) (turn t) Invariant (change t) t (processes setup) es (wake setup s)
      (numbers_are_distinct 1 (suc (count_components Process (initial_variables setup)))) i h
      ∙ one_by_one_is_all t (processes setup) (wake setup s))
