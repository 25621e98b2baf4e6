-- The turns of a round, as the code makes them, are those of the machine as plain data.
use Rattle.std.specs.Prelude.{◌≡◌, ◌≢◌, ◌≤◌, refl, ℕ, zero, suc, ◌+◌, ◌-◌, ◌/◌, ◌++◌, List, [], ◌∷◌, length, Some, None, slice_get, slice_set}
use Rattle.std.proofs.Common.{sym, ◌∙◌, ap, subst, arith, ◌⊎◌, inl, inr, ⊎_elim}
use Rattle.cp_model_program.specs.Programs.{Program}
use Rattle.cp_model.specs.States.{numbers_from}
use Rattle.cp_model.proofs.Options.{same_some}
use Rattle.cp_kernel.specs.KernelOf.{Bytes, kernel_of, transcripts_of, turning}
use Rattle.cp_kernel.specs.declared.kernel.Kernel.{Kernel}
use Rattle.cp_private.specs.States.{private_of}
use Rattle.cp_private.specs.declared.private.Private.{Private}
use Rattle.cp_model_machine.specs.KernelSteps as steps
use Rattle.cp_model_machine.specs.KernelSteps.{Turning, kernel_steps}
use Rattle.cp_model_machine.specs.Machines.{Machine, after_kernel_turn, clock, end_round, kernel_turn, kernel_turns, phased_round, phased_rounds, transcript_of}
use Rattle.cp_model_machine.specs.PrivateStates.{PrivateState}
use Rattle.cp_program.specs.View as view
use Rattle.cp_kernel.specs.Turns.{IsTurned, parts_of}
use Rattle.cp_rounds_handoff.specs.Inputs.{input_at, input_of}
use Rattle.cp_rounds_handoff.specs.Turned.{round_time_of, take_turn, with_turn_taken}
use Rattle.cp_rounds_handoff.specs.declared.config.MachineConfig.{MachineConfig}
use Rattle.cp_rounds_handoff.proofs.Lists.{got_below, got_left, got_snoc, mapped_get, none_some}
use Rattle.cp_rounds.specs.Ends.{RoundEnds}
use Rattle.cp_rounds.specs.Made.{Represents, TurnsMade}
use Rattle.cp_rounds.specs.MachineOf.{machine_with}
use Rattle.cp_rounds.specs.Runs.{AreSame, RoundsMade, TurnsTaken}
use Rattle.cp_model_machine.proofs.AheadTurns.{set_apart}
use Rattle.cp_rounds.proofs.Rounds.{Remains, kernel_turn_is, longer, rounds_after, private_turns_made, set_here, turned_count, turns_apart, turns_next, turns_remain}

-- ---- Private states with their inputs

module _ (inputs : ℕ → List ℕ) where
  part_got : (p i : ℕ) (xs : List Private) (x : Private) → slice_get xs i ≡ Some x → slice_get (parts_of inputs p xs) i ≡ Some (private_of x (inputs (p + i)))
  part_got p i [] x e = absurd (none_some x e)
  part_got p zero (y ∷ xs) x e =
      let at : p ≡ p + 0 = Prim.omega arith in
      ap (λ (z : Private). Some (private_of z (inputs p))) (same_some y x e) ∙ ap (λ (q : ℕ). Some (private_of x (inputs q))) at
  part_got p (suc i) (y ∷ xs) x e =
      let at : suc p + i ≡ p + suc i = Prim.omega arith in
      part_got (suc p) i xs x e ∙ ap (λ (q : ℕ). Some (private_of x (inputs q))) at

  parts_gathered : (p : ℕ) (xs : List Private) (os : List PrivateState) → length os ≡ length xs
      → ((i : ℕ) (x : Private) → slice_get xs i ≡ Some x → slice_get os i ≡ Some (private_of x (inputs (p + i))))
      → parts_of inputs p xs ≡ os
  parts_gathered p [] [] n all = refl
  parts_gathered p [] (o ∷ os) n all = absurd (Prim.omega (arith, n))
  parts_gathered p (x ∷ xs) [] n all = absurd (Prim.omega (arith, n))
  parts_gathered p (x ∷ xs) (o ∷ os) n all =
      let at : p ≡ p + 0 = Prim.omega arith in
      let first : private_of x (inputs p) ≡ o = ap (λ (q : ℕ). private_of x (inputs q)) at ∙ sym (same_some o (private_of x (inputs (p + 0))) (all 0 x refl)) in
      let later = parts_gathered (suc p) xs os (Prim.omega (arith, n))
      (λ i y e. let after : p + suc i ≡ suc p + i = Prim.omega arith in all (suc i) y e ∙ ap (λ (q : ℕ). Some (private_of y (inputs q))) after) in
      λ i. first i ∷ later i

  pub parts_count : (p : ℕ) (xs : List Private) → length (parts_of inputs p xs) ≡ length xs
  parts_count p [] = refl
  parts_count p (x ∷ xs) = ap suc (parts_count (suc p) xs)

pub input_there : (inputs : List Bytes) (i : ℕ) → input_of inputs (1 + i) ≡ input_at inputs i
input_there inputs i = let at : (1 + i) - 1 ≡ i = Prim.omega arith in ap (input_at inputs) at

-- The item at an index of the parts of a machine.
pub part_at : (inputs : List Bytes) (i : ℕ) (xs : List Private) (x : Private) → slice_get xs i ≡ Some x
    → slice_get (parts_of (input_of inputs) 1 xs) i ≡ Some (private_of x (input_at inputs i))
part_at inputs i xs x e = part_got (input_of inputs) 1 i xs x e ∙ ap (λ (l : List ℕ). Some (private_of x l)) (input_there inputs i)

pub all_parts : (inputs : List Bytes) (xs : List Private) (os : List PrivateState) → length os ≡ length xs
    → ((i : ℕ) (x : Private) → slice_get xs i ≡ Some x → slice_get os i ≡ Some (private_of x (input_at inputs i)))
    → parts_of (input_of inputs) 1 xs ≡ os
all_parts inputs xs os n all =
    parts_gathered (input_of inputs) 1 xs os n (λ i x e. all i x e ∙ ap (λ (l : List ℕ). Some (private_of x l)) (sym (input_there inputs i)))

-- ---- Turns of a round

module _ (t : ℕ) (m : Machine) (inputs : List Bytes) where
  pub none_made : (k : Kernel) → kernel_of k ≡ m.kernel → transcripts_of k ≡ m.transcripts → TurnsMade t m inputs 0 [] k
  none_made k e f = record { kernel = e; transcripts = f; parts = λ i y g. absurd (none_some y g) }

  -- With more private turns made.
  pub more_made : (i : ℕ) (ys zs : List Private) (k : Kernel)
      → ((j : ℕ) (z : Private) → slice_get zs j ≡ Some z
      → (slice_get ys j ≡ Some z) ⊎ ((i ≤ j) × (slice_get m.parts j ≡ Some (private_of z (input_at inputs j)))))
      → TurnsMade t m inputs i ys k → TurnsMade t m inputs i zs k
  more_made i ys zs k each was = record {
    kernel = was.kernel;
    transcripts = was.transcripts;
    parts = λ j z e. ⊎_elim (λ (old : slice_get ys j ≡ Some z). was.parts j z old)
        (λ (new : (i ≤ j) × (slice_get m.parts j ≡ Some (private_of z (input_at inputs j)))). turns_apart t i j m new.0 ∙ new.1)
        (each j z e);
  }

-- With the kernel turn of the process at an index made as well.
turn_represents : (t : ℕ) (m : Machine) (inputs : List Bytes) (i : ℕ) (ys zs : List Private) (y z : Private) (k k' : Kernel)
    → slice_get m.parts i ≡ Some (private_of y (input_at inputs i)) → y.number ≡ suc i
    → IsTurned m.program (clock m) t k k' y z (input_at inputs i)
    → ((j : ℕ) (x : Private) → slice_get zs j ≡ Some x → ((j ≡ i) × (z ≡ x)) ⊎ ((j ≢ i) × (slice_get ys j ≡ Some x)))
    → Represents m inputs ys k → Represents (kernel_turn t m (suc i)) inputs zs k'
turn_represents t m inputs i ys zs y z k k' here number take_turn each was =
    let o : PrivateState = private_of y (input_at inputs i) in
    let after : Turning = kernel_steps m.program (clock m) t (record { kernel = m.kernel; own = o }) in
    let new : PrivateState = record after.own { output = [] } in
    let at : suc i - 1 ≡ i = Prim.omega arith in
    let next : kernel_turn t m (suc i) ≡ after_kernel_turn m (suc i) after =
    kernel_turn_is t m (suc i) o (ap (λ (j : ℕ). slice_get m.parts j) at ∙ here) in
    let same : kernel_steps m.program (clock m) t (turning k y (input_at inputs i)) ≡ after =
    ap (λ (q : steps.Kernel). kernel_steps m.program (clock m) t (record { kernel = q; own = o })) was.kernel in
    let transcripts : transcripts_of k' ≡ slice_set m.transcripts (suc i - 1) (transcript_of m.transcripts (suc i) ++ after.own.output) =
    take_turn.moves.transcripts
    ∙ (λ j. slice_set (was.transcripts j) (number j - 1) (transcript_of (was.transcripts j) (number j) ++ (same j).own.output)) in
    let own : private_of z (input_at inputs i) ≡ new = take_turn.own ∙ ap (λ (w : Turning). record w.own { output = [] }) same in
    let parts : (j : ℕ) (x : Private) → slice_get zs j ≡ Some x → slice_get (slice_set m.parts (suc i - 1) new) j ≡ Some (private_of x (input_at inputs j)) =
    λ j x e.
    ⊎_elim
    (λ (h : (j ≡ i) × (z ≡ x)).
    ap (λ (n : ℕ). slice_get (slice_set m.parts n new) j) at
    ∙ (ap (λ (n : ℕ). slice_get (slice_set m.parts i new) n) h.0
    ∙ (set_here m.parts i new (got_below m.parts i o here)
    ∙ (ap (λ (q : PrivateState). Some q) (sym own) ∙ (λ l. Some (private_of (h.1 l) (input_at inputs (sym h.0 l))))))))
    (λ (h : (j ≢ i) × (slice_get ys j ≡ Some x)).
    set_apart m.parts (suc i - 1) j new (λ f. h.0 (f ∙ at)) ∙ was.parts j x h.1)
    (each j x e) in
    subst (λ (u : Machine). Represents u inputs zs k') (sym next)
    (record { kernel = take_turn.kernel ∙ ap (λ (w : Turning). w.kernel) same; transcripts = transcripts; parts = parts })

pub turn_made : (t : ℕ) (m : Machine) (inputs : List Bytes) (i : ℕ) (ys zs : List Private) (y z : Private) (k k' : Kernel)
    → slice_get ys i ≡ Some y → y.number ≡ suc i → IsTurned m.program (clock m) t k k' y z (input_at inputs i)
    → ((j : ℕ) (x : Private) → slice_get zs j ≡ Some x → ((j ≡ i) × (z ≡ x)) ⊎ ((j ≢ i) × (slice_get ys j ≡ Some x)))
    → TurnsMade t m inputs i ys k → TurnsMade t m inputs (suc i) zs k'
turn_made t m inputs i ys zs y z k k' here number take_turn each was =
    let kept : Remains m (kernel_turns t m (numbers_from 1 i)) = turns_remain t i m in
    let turned' : IsTurned (kernel_turns t m (numbers_from 1 i)).program (clock (kernel_turns t m (numbers_from 1 i))) t k k' y z (input_at inputs i) =
    subst (λ (c : ℕ). IsTurned (kernel_turns t m (numbers_from 1 i)).program c t k k' y z (input_at inputs i))
    (λ j. suc (sym kept.rounds j) / sym kept.tick j)
    (subst (λ (program : Program). IsTurned program (clock m) t k k' y z (input_at inputs i)) (sym kept.program) take_turn) in
    subst (λ (u : Machine). Represents u inputs zs k') (sym (turns_next t i m))
    (turn_represents t (kernel_turns t m (numbers_from 1 i)) inputs i ys zs y z k k' (was.parts i y here) number turned' each was)

-- ---- Both turns of one process more

got_last : {X : Type 0} (xs : List X) (x : X) → slice_get (xs ++ x ∷ []) (length xs) ≡ Some x
got_last [] x = refl
got_last (z ∷ xs) x = got_last xs x

-- The item at an index once the private turns are made.
pub turned_at : (g : MachineConfig) (t rounds i : ℕ) (xs : List Private) (k : Kernel) (x y : Private) → slice_get xs i ≡ Some x
    → private_of y (input_at g.inputs.items i)
    ≡ take_turn (view.program g.program) t (round_time_of g.tick.rounds rounds) (private_of x (input_at g.inputs.items i))
    → slice_get (with_turn_taken t (machine_with g rounds xs k)).parts i ≡ Some (private_of y (input_at g.inputs.items i))
turned_at g t rounds i xs k x y here is =
    mapped_get (take_turn (view.program g.program) t (round_time_of g.tick.rounds rounds)) (parts_of (input_of g.inputs.items) 1 xs) i
    (private_of x (input_at g.inputs.items i)) (part_at g.inputs.items i xs x here)
    ∙ ap (λ (o : PrivateState). Some o) (sym is)

process_made : (g : MachineConfig) (t rounds : ℕ) (xs : List Private) (k0 : Kernel) (ys : List Private) (x y z : Private) (k k' : Kernel)
    → slice_get xs (length ys) ≡ Some x
    → private_of y (input_at g.inputs.items (length ys))
    ≡ take_turn (view.program g.program) t (round_time_of g.tick.rounds rounds) (private_of x (input_at g.inputs.items (length ys)))
    → y.number ≡ suc (length ys)
    → IsTurned (view.program g.program) (round_time_of g.tick.rounds rounds).clock t k k' y z (input_at g.inputs.items (length ys))
    → TurnsTaken g t rounds xs k0 ys k → TurnsTaken g t rounds xs k0 (ys ++ z ∷ []) k'
process_made g t rounds xs k0 ys x y z k k' here is number turn was =
    let m : Machine = with_turn_taken t (machine_with g rounds xs k0) in
    let inputs = g.inputs.items in
    let i : ℕ = length ys in
    let none : i ≤ i = Prim.omega arith in
    let taken : TurnsMade t m inputs i (ys ++ y ∷ []) k =
    more_made t m inputs i ys (ys ++ y ∷ []) k
    (λ j q e.
    ⊎_elim (λ (old : slice_get ys j ≡ Some q). inl old)
    (λ (new : (j ≡ i) × (y ≡ q)). inr (
      Prim.omega (arith, new),
      subst (λ (n : ℕ). slice_get m.parts n ≡ Some (private_of q (input_at inputs n))) (sym new.0)
          (subst (λ (p : Private). slice_get m.parts i ≡ Some (private_of p (input_at inputs i))) new.1 (turned_at g t rounds i xs k0 x y here is)),
    ))
    (got_snoc ys y j q e))
    was in
    subst (λ (n : ℕ). TurnsMade t m inputs n (ys ++ z ∷ []) k') (sym (longer ys z))
    (turn_made t m inputs i (ys ++ y ∷ []) (ys ++ z ∷ []) y z k k' (got_last ys y) number turn
    (λ j q e.
    ⊎_elim
    (λ (old : slice_get ys j ≡ Some q). let below = got_below ys j q old in inr ((λ f. Prim.omega (arith, f, below)), got_left ys (y ∷ []) j q old))
    (λ (new : (j ≡ i) × (z ≡ q)). inl new)
    (got_snoc ys z j q e))
    taken)

-- The same at an index, before which both turns are made.
pub process_made_at : (g : MachineConfig) (t rounds : ℕ) (xs : List Private) (k0 : Kernel) (i : ℕ) (ys : List Private) (x y z : Private) (k k' : Kernel)
    → i ≡ length ys → slice_get xs i ≡ Some x
    → private_of y (input_at g.inputs.items i)
    ≡ take_turn (view.program g.program) t (round_time_of g.tick.rounds rounds) (private_of x (input_at g.inputs.items i))
    → y.number ≡ suc i
    → IsTurned (view.program g.program) (round_time_of g.tick.rounds rounds).clock t k k' y z (input_at g.inputs.items i)
    → TurnsTaken g t rounds xs k0 ys k → TurnsTaken g t rounds xs k0 (ys ++ z ∷ []) k'
process_made_at g t rounds xs k0 i ys x y z k k' at here is number turn was =
    process_made g t rounds xs k0 ys x y z k k'
    (subst (λ (n : ℕ). slice_get xs n ≡ Some x) at here)
    (subst (λ (n : ℕ). private_of y (input_at g.inputs.items n)
    ≡ take_turn (view.program g.program) t (round_time_of g.tick.rounds rounds) (private_of x (input_at g.inputs.items n))) at is)
    (number ∙ ap suc at)
    (subst (λ (n : ℕ). IsTurned (view.program g.program) (round_time_of g.tick.rounds rounds).clock t k k' y z (input_at g.inputs.items n)) at turn)
    was

-- ---- Whole rounds

pub same_machine : (a b : Machine) → a.program ≡ b.program → a.tick ≡ b.tick → a.kernel ≡ b.kernel → a.parts ≡ b.parts → a.transcripts ≡ b.transcripts
    → a.rounds ≡ b.rounds → a ≡ b
same_machine a b p t k o ts r = λ i. record {
  program = p i;
  tick = t i;
  kernel = k i;
  parts = o i;
  transcripts = ts i;
  rounds = r i;
}

-- All turns of a round are made.
all_turns : (g : MachineConfig) (t rounds : ℕ) (xs : List Private) (k0 : Kernel) (zs : List Private) (k : Kernel) → length zs ≡ length xs
    → TurnsTaken g t rounds xs k0 zs k
    → machine_with g rounds zs k ≡ kernel_turns t (with_turn_taken t (machine_with g rounds xs k0)) (numbers_from 1 (length xs))
all_turns g t rounds xs k0 zs k count made =
    let m : Machine = with_turn_taken t (machine_with g rounds xs k0) in
    let n : ℕ = length zs in
    let kept : Remains m (kernel_turns t m (numbers_from 1 n)) = turns_remain t n m in
    let all : length (kernel_turns t m (numbers_from 1 n)).parts ≡ length zs =
    kept.count ∙ (turned_count t (machine_with g rounds xs k0) ∙ (parts_count (input_of g.inputs.items) 1 xs ∙ sym count)) in
    same_machine (machine_with g rounds zs k) (kernel_turns t m (numbers_from 1 n)) (sym kept.program) (sym kept.tick) made.kernel
    (all_parts g.inputs.items zs (kernel_turns t m (numbers_from 1 n)).parts all made.parts) made.transcripts (sym kept.rounds)
    ∙ ap (λ (q : ℕ). kernel_turns t m (numbers_from 1 q)) count

-- A round, with its end.
pub round_made : (g : MachineConfig) (t rounds : ℕ) (xs : List Private) (k0 : Kernel) (zs : List Private) (k : Kernel) (ws : List Private) (k' : Kernel)
    → length zs ≡ length xs → TurnsTaken g t rounds xs k0 zs k → RoundEnds g zs k ws k'
    → machine_with g (rounds + 1) ws k' ≡ phased_round t (numbers_from 1 (length xs)) (machine_with g rounds xs k0)
round_made g t rounds xs k0 zs k ws k' count made ends =
    let m : Machine = machine_with g rounds xs k0 in
    let all : length xs ≡ length m.parts = sym (parts_count (input_of g.inputs.items) 1 xs) in
    same_machine (machine_with g (rounds + 1) ws k') (end_round (machine_with g rounds zs k)) refl refl ends.kernel (ends.parts (input_of g.inputs.items)) ends.transcripts
    (Prim.omega arith)
    ∙ (ap end_round (all_turns g t rounds xs k0 zs k count made)
    ∙ ap (λ (u : Machine). end_round (kernel_turns t u (numbers_from 1 (length xs)))) (sym (private_turns_made t (length xs) m all)))

-- ---- Nothing made

pub none_taken : (g : MachineConfig) (t rounds : ℕ) (xs ys : List Private) (k : Kernel) → length ys ≡ 0 → TurnsTaken g t rounds xs k ys k
none_taken g t rounds xs [] k none = none_made t (with_turn_taken t (machine_with g rounds xs k)) g.inputs.items k refl refl
none_taken g t rounds xs (y ∷ ys) k none = absurd (Prim.omega (arith, none))

-- Other room changes nothing.
pub same_machine_with : (g : MachineConfig) (rounds : ℕ) (xs : List Private) (k : Kernel) (ys : List Private) (k' : Kernel) → AreSame xs k ys k'
    → machine_with g rounds ys k' ≡ machine_with g rounds xs k
same_machine_with g rounds xs k ys k' same =
    same_machine (machine_with g rounds ys k') (machine_with g rounds xs k) refl refl same.kernel (same.parts (input_of g.inputs.items)) same.transcripts refl

pub no_round_made : (g : MachineConfig) (t rounds : ℕ) (xs : List Private) (k : Kernel) (ys : List Private) (k' : Kernel) → AreSame xs k ys k'
    → RoundsMade g t rounds 0 xs k ys k'
no_round_made g t rounds xs k ys k' same =
    let none : rounds + 0 ≡ rounds = Prim.omega arith in
    ap (λ (n : ℕ). machine_with g n ys k') none ∙ same_machine_with g rounds xs k ys k' same

-- Turns that begin with another kernel of the same content.
pub same_start : (g : MachineConfig) (t rounds : ℕ) (xs : List Private) (k k1 : Kernel) (ys : List Private) (k' : Kernel) → kernel_of k1 ≡ kernel_of k
    → transcripts_of k1 ≡ transcripts_of k → TurnsTaken g t rounds xs k1 ys k' → TurnsTaken g t rounds xs k ys k'
same_start g t rounds xs k k1 ys k' e f made =
    subst (λ (m : Machine). TurnsMade t (with_turn_taken t m) g.inputs.items (length ys) ys k')
    (same_machine (machine_with g rounds xs k1) (machine_with g rounds xs k) refl refl e refl f refl) made

-- A round made after more room was reserved.
pub one_round_made : (g : MachineConfig) (t rounds : ℕ) (xs : List Private) (k : Kernel) (ys : List Private) (k1 : Kernel) (zs : List Private) (k2 : Kernel)
    (ws : List Private) (k' : Kernel)
    → AreSame xs k ys k1 → length zs ≡ length ys → TurnsTaken g t rounds ys k1 zs k2 → RoundEnds g zs k2 ws k'
    → RoundsMade g t rounds 1 xs k ws k'
one_round_made g t rounds xs k ys k1 zs k2 ws k' same count made ends =
    round_made g t rounds ys k1 zs k2 ws k' count made ends
    ∙ (λ i. phased_round t (numbers_from 1 (same.count i)) (same_machine_with g rounds xs k ys k1 same i))

pub more_rounds_made : (g : MachineConfig) (t rounds m n : ℕ) (xs ys zs : List Private) (k1 k2 k3 : Kernel) → length ys ≡ length xs
    → RoundsMade g t rounds m xs k1 ys k2 → RoundsMade g t (rounds + m) n ys k2 zs k3 → RoundsMade g t rounds (m + n) xs k1 zs k3
more_rounds_made g t rounds m n xs ys zs k1 k2 k3 count first then =
    let all : rounds + (m + n) ≡ (rounds + m) + n = Prim.omega arith in
    ap (λ (r : ℕ). machine_with g r zs k3) all
    ∙ (then
    ∙ ((λ i. phased_rounds t (numbers_from 1 (count i)) n (first i))
    ∙ sym (rounds_after t m n (numbers_from 1 (length xs)) (machine_with g rounds xs k1))))

-- ---- Beyond all processes

past_none : {X : Type 0} (xs : List X) (i : ℕ) → length xs ≤ i → slice_get xs i ≡ None
past_none [] i le = refl
past_none (x ∷ xs) zero le = absurd (Prim.omega (arith, le))
past_none (x ∷ xs) (suc i) le = past_none xs i (Prim.omega (arith, le))

pub part_past : (inputs : List Bytes) (i : ℕ) (xs : List Private) → length xs ≤ i → slice_get (parts_of (input_of inputs) 1 xs) i ≡ None
part_past inputs i xs le =
    let count = parts_count (input_of inputs) 1 xs in
    past_none (parts_of (input_of inputs) 1 xs) i (Prim.omega (arith, le, count))
