-- The rounds of a traced machine, one after another.
use Rattle.std.proofs.Common.{◌≡◌, ◌∙◌, ◌+◌, ◌-◌, ◌%◌, ◌++◌, ℕ, zero, suc, Bool, true, false, List, [], ◌∷◌, Option, None, Some, ap, map, refl, sym, subst, arith}
use Rattle.std.specs.Prelude.{if◌then◌else◌, nat_eq, slice_get, slice_set}
use Rattle.std.proofs.KnownBytes.{Appends-nil, Appends-trans}
use Rattle.cp_model.specs.Rounds as meaning
use Rattle.cp_model.specs.States.{Setup, State}
use Rattle.cp_model_machine.specs.InState.{IsIn}
use Rattle.cp_model_machine.specs.Machines.{Machine, after_kernel_turn, clock, kernel_turn, kernel_turns, phased_round, phased_rounds, private_turn, private_turns, wake, wake_one, with_part}
use Rattle.cp_model_machine.specs.KernelSteps.{kernel_steps}
use Rattle.cp_model_machine.specs.PrivateStates.{PrivateState}
use Rattle.cp_model_machine.specs.Steps.{private_steps}
use Rattle.cp_rounds.specs.InStates.{MakesRounds}
use Rattle.cp_rounds.specs.Views.{machine_of}
use Rattle.cp_rounds.specs.declared.machine.Machine as real
use Rattle.cp_execute_observe.specs.Writing.{Extends}

-- ---- The number of rounds

part_count : (p : ℕ) (m : Machine) (go : PrivateState → Machine) → ((o : PrivateState) → (go o).rounds ≡ m.rounds) → (with_part p m go).rounds ≡ m.rounds
part_count p m go same = by (slice_get m.parts (p - 1))
  where
    by : (found : Option PrivateState) → (elim found as (λ (z : Option PrivateState). Machine) [ None ↦ m | Some o ↦ go o ]).rounds ≡ m.rounds
    by None = refl
    by (Some o) = same o

private_count : (n : ℕ) (m : Machine) (ps : List ℕ) → (private_turns n m ps).rounds ≡ m.rounds
private_count n m [] = refl
private_count n m (p ∷ ps) =
    private_count n (private_turn n m p) ps
    ∙ part_count p m (λ o. record m { parts = slice_set m.parts (p - 1) (private_steps m.program (clock m) n o) }) (λ o. refl)

kernel_count : (n : ℕ) (m : Machine) (ps : List ℕ) → (kernel_turns n m ps).rounds ≡ m.rounds
kernel_count n m [] = refl
kernel_count n m (p ∷ ps) =
    kernel_count n (kernel_turn n m p) ps
    ∙ part_count p m (λ o. after_kernel_turn m p (kernel_steps m.program (clock m) n (record { kernel = m.kernel; own = o }))) (λ o. refl)

wake_count : (m : Machine) → (wake m).rounds ≡ m.rounds
wake_count m = by (nat_eq (suc m.rounds % m.tick) 0)
  where
    by : (b : Bool) → (if b then record m { parts = map wake_one m.parts } else m).rounds ≡ m.rounds
    by true = refl
    by false = refl

pub round_count : (n : ℕ) (ps : List ℕ) (m : Machine) → (phased_round n ps m).rounds ≡ suc m.rounds
round_count n ps m = ap suc (kernel_count n (private_turns n (wake m) ps) ps ∙ (private_count n (wake m) ps ∙ wake_count m))

pub rounds_count : (n : ℕ) (ps : List ℕ) (k : ℕ) (m : Machine) → (phased_rounds n ps k m).rounds ≡ m.rounds + k
rounds_count n ps zero m = Prim.omega arith
rounds_count n ps (suc k) m =
    let rest = rounds_count n ps k (phased_round n ps m) in
    let first = round_count n ps m in
    Prim.omega (arith, rest, first)

-- ---- The states

run_more : (setup : Setup) (t m n : ℕ) (a : State) → meaning.run setup t (m + n) a ≡ meaning.run setup t n (meaning.run setup t m a)
run_more setup t zero n a = let e : zero + n ≡ n = Prim.omega arith in ap (λ (k : ℕ). meaning.run setup t k a) e
run_more setup t (suc m) n a =
    let e : suc m + n ≡ suc (m + n) = Prim.omega arith in
    ap (λ (k : ℕ). meaning.run setup t k a) e ∙ run_more setup t m n (meaning.sequential_round setup t a)

pub none_made : (t : ℕ) (a : real.Machine) → MakesRounds t 0 a a
none_made t a setup s I = I

-- First m rounds, and then n more.
pub more_made : (t m n : ℕ) (a b c : real.Machine) → MakesRounds t m a b → MakesRounds t n b c → MakesRounds t (m + n) a c
more_made t m n a b c first later setup s I =
    subst (λ (u : State). IsIn (machine_of c) setup u) (sym (run_more setup t m n s)) (later setup (meaning.run setup t m s) (first setup s I))

-- ---- The bytes

pub extends_nothing : (a : Option (List ℕ)) → Extends a a
extends_nothing a = ([], Appends-nil a)

pub extends_more : (a b c : Option (List ℕ)) → Extends a b → Extends b c → Extends a c
extends_more a b c first later = (first.0 ++ later.0, Appends-trans a b c first.0 later.0 first.1 later.1)
