-- Rounds of the machine as plain data: the private turns of a round are one map over the parts, and
-- the kernel turn of a process touches only the kernel and the process's own part.
use Rattle.std.specs.Prelude.{◌≡◌, ◌≢◌, ◌≤◌, ◌<◌, refl, ℕ, zero, suc, ◌+◌, ◌-◌, ◌%◌, Bool, true, false, if◌then◌else◌, List, [], ◌∷◌, ◌++◌, length, map, nat_eq, Option, Some, None, slice_get, slice_set}
use Rattle.std.proofs.Common.{sym, ◌∙◌, ap, subst, arith}
use Rattle.std.proofs.lemmas.List.{length-map}
use Rattle.cp_model_machine.proofs.AheadTurns.{set_apart, set_length}
use Rattle.cp_model.specs.States.{numbers_from}
use Rattle.cp_model_machine.specs.KernelSteps.{kernel_steps}
use Rattle.cp_model_machine.specs.Machines.{Machine, after_kernel_turn, clock, kernel_turn, kernel_turns, phased_round, phased_rounds, private_turn, private_turns, wake, wake_one}
use Rattle.cp_model_machine.specs.PrivateStates.{PrivateState}
use Rattle.cp_model_machine.specs.Steps.{private_steps}
use Rattle.cp_rounds_handoff.specs.Turned.{round_time_of, take_turn, with_turn_taken, woken}

-- ---- Lists

module _ {X : Type 0} where
  put_between : (xs rest : List X) (x y : X) → slice_set (xs ++ x ∷ rest) (length xs) y ≡ xs ++ y ∷ rest
  put_between [] rest x y = refl
  put_between (z ∷ xs) rest x y = ap (λ (l : List X). z ∷ l) (put_between xs rest x y)

  get_between : (xs rest : List X) (x : X) → slice_get (xs ++ x ∷ rest) (length xs) ≡ Some x
  get_between [] rest x = refl
  get_between (z ∷ xs) rest x = get_between xs rest x

  joined_again : (xs rest : List X) (x : X) → xs ++ x ∷ rest ≡ (xs ++ x ∷ []) ++ rest
  joined_again [] rest x = refl
  joined_again (z ∷ xs) rest x = ap (λ (l : List X). z ∷ l) (joined_again xs rest x)

  pub longer : (xs : List X) (x : X) → length (xs ++ x ∷ []) ≡ suc (length xs)
  longer [] x = refl
  longer (z ∷ xs) x = ap suc (longer xs x)

mapped_twice : {X Y Z : Type 0} (f : Y → Z) (g : X → Y) (xs : List X) → map f (map g xs) ≡ map (λ x. f (g x)) xs
mapped_twice f g [] = refl
mapped_twice {Z = Z} f g (x ∷ xs) = ap (λ (l : List Z). f (g x) ∷ l) (mapped_twice f g xs)

-- ---- Private turns

pub private_turn_is : (t : ℕ) (m : Machine) (p : ℕ) (o : PrivateState) → slice_get m.parts (p - 1) ≡ Some o
    → private_turn t m p ≡ record m { parts = slice_set m.parts (p - 1) (private_steps m.program (clock m) t o) }
private_turn_is t m p o e =
    ap (λ (r : Option PrivateState).
    elim r as (λ x. Machine) [ None ↦ m | Some q ↦ record m { parts = slice_set m.parts (p - 1) (private_steps m.program (clock m) t q) } ]) e

turns_from : (t : ℕ) (m : Machine) (rest xs : List PrivateState) (p : ℕ) → p ≡ suc (length xs)
    → private_turns t (record m { parts = xs ++ rest }) (numbers_from p (length rest))
    ≡ record m { parts = xs ++ map (private_steps m.program (clock m) t) rest }
turns_from t m [] xs p e = refl
turns_from t m (x ∷ rest) xs p e =
    let f = private_steps m.program (clock m) t in
    let at : p - 1 ≡ length xs = Prim.omega (arith, e) in
    let here : slice_get (xs ++ x ∷ rest) (p - 1) ≡ Some x = ap (λ (i : ℕ). slice_get (xs ++ x ∷ rest) i) at ∙ get_between xs rest x in
    let set : slice_set (xs ++ x ∷ rest) (p - 1) (f x) ≡ (xs ++ f x ∷ []) ++ rest =
    ap (λ (i : ℕ). slice_set (xs ++ x ∷ rest) i (f x)) at ∙ (put_between xs rest x (f x) ∙ joined_again xs rest (f x)) in
    ap (λ (u : Machine). private_turns t u (numbers_from (suc p) (length rest)))
    (private_turn_is t (record m { parts = xs ++ x ∷ rest }) p x here ∙ ap (λ (l : List PrivateState). record m { parts = l }) set)
    ∙ (turns_from t m rest (xs ++ f x ∷ []) (suc p) (ap suc e ∙ ap suc (sym (longer xs (f x))))
    ∙ ap (λ (l : List PrivateState). record m { parts = l }) (sym (joined_again xs (map f rest) (f x))))

all_turns : (t n : ℕ) (m : Machine) → n ≡ length m.parts
    → private_turns t m (numbers_from 1 n) ≡ record m { parts = map (private_steps m.program (clock m) t) m.parts }
all_turns t n m e =
    ap (λ (j : ℕ). private_turns t m (numbers_from 1 j)) e ∙ turns_from t m m.parts [] 1 refl

-- The private turns of a round, with the waking before them, are one map.
pub private_turns_made : (t n : ℕ) (m : Machine) → n ≡ length m.parts → private_turns t (wake m) (numbers_from 1 n) ≡ with_turn_taken t m
private_turns_made t n m e = by (nat_eq (suc m.rounds % m.tick) 0)
  where
    by : (b : Bool) → private_turns t (if b then record m { parts = map wake_one m.parts } else m) (numbers_from 1 n)
        ≡ record m { parts = map (λ o. private_steps m.program (clock m) t (woken b o)) m.parts }
    by true =
        all_turns t n (record m { parts = map wake_one m.parts }) (e ∙ sym (length-map m.parts wake_one))
        ∙ ap (λ (l : List PrivateState). record m { parts = l }) (mapped_twice (private_steps m.program (clock m) t) wake_one m.parts)
    by false = all_turns t n m e

-- ---- Kernel turns

pub kernel_turn_is : (t : ℕ) (m : Machine) (p : ℕ) (o : PrivateState) → slice_get m.parts (p - 1) ≡ Some o
    → kernel_turn t m p ≡ after_kernel_turn m p (kernel_steps m.program (clock m) t (record { kernel = m.kernel; own = o }))
kernel_turn_is t m p o e =
    ap (λ (r : Option PrivateState).
    elim r as (λ x. Machine) [
      | None ↦ m
      | Some q ↦ after_kernel_turn m p (kernel_steps m.program (clock m) t (record { kernel = m.kernel; own = q }))
    ]) e

-- What a kernel turn leaves as it is.
pub record Remains (a b : Machine) : Type 0 where
  pub program : b.program ≡ a.program
  pub tick : b.tick ≡ a.tick
  pub rounds : b.rounds ≡ a.rounds
  pub count : length b.parts ≡ length a.parts

remains : (a : Machine) → Remains a a
remains a = record { program = refl; tick = refl; rounds = refl; count = refl }

remains_then : (a b c : Machine) → Remains a b → Remains b c → Remains a c
remains_then a b c x y = record {
  program = y.program ∙ x.program;
  tick = y.tick ∙ x.tick;
  rounds = y.rounds ∙ x.rounds;
  count = y.count ∙ x.count;
}

pub set_here : {X : Type 0} (xs : List X) (i : ℕ) (y : X) → i < length xs → slice_get (slice_set xs i y) i ≡ Some y
set_here [] i y h = absurd (Prim.omega arith)
set_here (x ∷ xs) zero y h = refl
set_here (x ∷ xs) (suc i) y h = set_here xs i y (Prim.omega arith)

turn_remains : (t : ℕ) (m : Machine) (p : ℕ) → Remains m (kernel_turn t m p)
turn_remains t m p = by (slice_get m.parts (p - 1))
  where
    by : (r : Option PrivateState)
        → Remains m
        (elim r as (λ x. Machine) [
          | None ↦ m
          | Some q ↦ after_kernel_turn m p (kernel_steps m.program (clock m) t (record { kernel = m.kernel; own = q }))
        ])
    by None = remains m
    by (Some q) = record { program = refl; tick = refl; rounds = refl; count = set_length m.parts (p - 1) _ }

turn_apart : (t : ℕ) (m : Machine) (p i : ℕ) → i ≢ p - 1 → slice_get (kernel_turn t m p).parts i ≡ slice_get m.parts i
turn_apart t m p i ne = by (slice_get m.parts (p - 1))
  where
    by : (r : Option PrivateState)
        → slice_get
        (elim r as (λ x. Machine) [
          | None ↦ m
          | Some q ↦ after_kernel_turn m p (kernel_steps m.program (clock m) t (record { kernel = m.kernel; own = q }))
        ]).parts i ≡ slice_get m.parts i
    by None = refl
    by (Some q) = set_apart m.parts (p - 1) i _ ne

turns_snoc : (t n p : ℕ) (m : Machine) → kernel_turns t m (numbers_from p (suc n)) ≡ kernel_turn t (kernel_turns t m (numbers_from p n)) (p + n)
turns_snoc t zero p m = ap (λ (q : ℕ). kernel_turn t m q) (Prim.omega arith)
turns_snoc t (suc n) p m =
    turns_snoc t n (suc p) (kernel_turn t m p)
    ∙ ap (λ (q : ℕ). kernel_turn t (kernel_turns t (kernel_turn t m p) (numbers_from (suc p) n)) q) (Prim.omega arith)

pub turns_next : (t n : ℕ) (m : Machine) → kernel_turns t m (numbers_from 1 (suc n)) ≡ kernel_turn t (kernel_turns t m (numbers_from 1 n)) (suc n)
turns_next t n m = turns_snoc t n 1 m ∙ ap (λ (q : ℕ). kernel_turn t (kernel_turns t m (numbers_from 1 n)) q) (Prim.omega arith)

pub turns_remain : (t n : ℕ) (m : Machine) → Remains m (kernel_turns t m (numbers_from 1 n))
turns_remain t zero m = remains m
turns_remain t (suc n) m =
    subst (λ (u : Machine). Remains m u) (sym (turns_next t n m))
    (remains_then m (kernel_turns t m (numbers_from 1 n)) (kernel_turn t (kernel_turns t m (numbers_from 1 n)) (suc n)) (turns_remain t n m)
    (turn_remains t (kernel_turns t m (numbers_from 1 n)) (suc n)))

-- The kernel turns of the processes before it leave a part as it was.
pub turns_apart : (t n i : ℕ) (m : Machine) → n ≤ i → slice_get (kernel_turns t m (numbers_from 1 n)).parts i ≡ slice_get m.parts i
turns_apart t zero i m le = refl
turns_apart t (suc n) i m le =
    ap (λ (u : Machine). slice_get u.parts i) (turns_next t n m)
    ∙ (turn_apart t (kernel_turns t m (numbers_from 1 n)) (suc n) i (λ e. Prim.omega (arith, e, le)) ∙ turns_apart t n i m (Prim.omega (arith, le)))

-- ---- Rounds

pub rounds_after : (t m n : ℕ) (ps : List ℕ) (a : Machine) → phased_rounds t ps (m + n) a ≡ phased_rounds t ps n (phased_rounds t ps m a)
rounds_after t zero n ps a = let e : zero + n ≡ n = Prim.omega arith in ap (λ (q : ℕ). phased_rounds t ps q a) e
rounds_after t (suc m) n ps a =
    let e : suc m + n ≡ suc (m + n) = Prim.omega arith in
    ap (λ (q : ℕ). phased_rounds t ps q a) e ∙ rounds_after t m n ps (phased_round t ps a)

pub turned_count : (t : ℕ) (m : Machine) → length (with_turn_taken t m).parts ≡ length m.parts
turned_count t m = length-map m.parts (take_turn m.program t (round_time_of m.tick m.rounds))
