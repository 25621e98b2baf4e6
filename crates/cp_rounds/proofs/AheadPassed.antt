-- The rounds in which all processes are ahead, skipped at once.
use Rattle.std.specs.Prelude.{◌≡◌, ◌≤◌, ◌<◌, ◌+◌, ◌-◌, ◌*◌, ℕ, zero, suc, List, length, vec_len}
use Rattle.std.proofs.Common.{sym, ◌∙◌, ap, subst, arith}
use Rattle.std.proofs.lemmas.List.{length-map}
use native.Mathlib.Nat.{mul-le-mul_right}
use Rattle.cp_model_machine.specs.Ahead.{AreRunAhead, with_turns}
use Rattle.cp_model_machine.proofs.AheadPassing.{round_passed}
use Rattle.cp_kernel.specs.KernelOf.{kernel_of, transcripts_of}
use Rattle.cp_kernel.specs.Turns.{parts_of}
use Rattle.cp_kernel.specs.declared.kernel.Kernel.{Kernel}
use Rattle.cp_model_machine.specs.KernelSteps as plain
use Rattle.cp_model_machine.specs.Machines.{Machine, end_round, kernel_turns, phased_round, phased_rounds}
use Rattle.cp_model_machine.specs.PrivateStates.{PrivateState}
use Rattle.cp_model.specs.States.{numbers_from}
use Rattle.cp_private.specs.States as states
use Rattle.cp_private.specs.declared.private.Private.{Private}
use Rattle.cp_rounds_handoff.specs.Inputs.{input_of}
use Rattle.cp_rounds_handoff.specs.Turned.{with_turn_taken}
use Rattle.cp_rounds_handoff.specs.declared.config.MachineConfig.{MachineConfig}
use Rattle.cp_rounds.specs.Ahead.{IsReadyAhead, PartsAhead, turns_ahead}
use Rattle.cp_rounds.proofs.AheadPasses.{has_made_one, round_is}
use Rattle.cp_rounds.proofs.AheadTurns.{fewer_bytes}
use Rattle.cp_rounds.proofs.Made.{parts_count}
use Rattle.cp_rounds.proofs.Rooms.{fewer_askers}
use Rattle.cp_rounds.proofs.Rounds.{turned_count}

module _ (t p : ℕ) (k : plain.Kernel) (ts : List (List ℕ)) (ys : List PrivateState) (stages : length k.stages ≤ p) where
  -- The next round of a machine, of whose private turns as many are made as f reports.
  next_passed : (m : Machine) (f : ℕ → ℕ) → p ≡ length m.parts → ((i : ℕ) → i < p → 1 ≤ f i) → AreRunAhead t (m.rounds + 1) (with_turn_taken t m) f k ts ys
      → let next = phased_round t (numbers_from 1 p) m in AreRunAhead t (next.rounds + 1) (with_turn_taken t next) (λ i. f i - 1) k ts ys
  next_passed m f parts all was =
      let taken : Machine = with_turn_taken t m in
      let next : Machine = phased_round t (numbers_from 1 p) m in
      let count : length taken.parts ≡ p = turned_count t m ∙ sym parts in
      let rounds : m.rounds + 1 ≡ next.rounds = sym (has_made_one t p m parts).rounds in
      let time : m.rounds + 1 ≡ suc m.rounds = omega arith in
      let later : suc (m.rounds + 1) ≡ next.rounds + 1 = omega (arith, rounds) in
      let passed = round_passed t (m.rounds + 1) taken f k ts ys was (omega (arith, stages, count))
      (λ i here none. let some = all i (omega (arith, here, count)) in omega (arith, some, none)) time in
      let turned : end_round (kernel_turns t taken (numbers_from 1 (length taken.parts))) ≡ next =
      ap (λ (n : ℕ). end_round (kernel_turns t taken (numbers_from 1 n))) count ∙ sym (round_is t p m parts) in
      subst (λ (r : ℕ). AreRunAhead t r (with_turn_taken t next) (λ i. f i - 1) k ts ys) later
      (subst (λ (u : Machine). AreRunAhead t (suc (m.rounds + 1)) (with_turns t u) (λ i. f i - 1) k ts ys) turned passed)

  pub all_passed : (n : ℕ) (m : Machine) (f : ℕ → ℕ) → p ≡ length m.parts → ((i : ℕ) → i < p → n ≤ f i)
      → AreRunAhead t (m.rounds + 1) (with_turn_taken t m) f k ts ys
      → AreRunAhead t (m.rounds + (n + 1)) (with_turn_taken t (phased_rounds t (numbers_from 1 p) n m)) (λ i. f i - n) k ts ys
  all_passed zero m f parts all was =
      let rounds : m.rounds + 1 ≡ m.rounds + (zero + 1) = omega arith in
      let same : (i : ℕ) → f i ≡ f i - zero = λ i. omega arith in
      subst (λ (r : ℕ). AreRunAhead t r (with_turn_taken t m) (λ i. f i - zero) k ts ys) rounds
      (subst (λ (h : ℕ → ℕ). AreRunAhead t (m.rounds + 1) (with_turn_taken t m) h k ts ys) (λ j i. same i j) was)
  all_passed (suc n) m f parts all was =
      let next : Machine = phased_round t (numbers_from 1 p) m in
      let made = has_made_one t p m parts in
      let one = next_passed m f parts (λ i here. let some = all i here in omega (arith, some)) was in
      let rest = all_passed n next (λ i. f i - 1) (parts ∙ sym made.count) (λ i here. let some = all i here in omega (arith, some)) one in
      let rounds : next.rounds + (n + 1) ≡ m.rounds + (suc n + 1) = (let was = made.rounds in omega (arith, was)) in
      let same : (i : ℕ) → (f i - 1) - n ≡ f i - suc n = λ i. omega arith in
      let last : Machine = with_turn_taken t (phased_rounds t (numbers_from 1 p) n next) in
      subst (λ (r : ℕ). AreRunAhead t r last (λ i. f i - suc n) k ts ys) rounds
      (subst (λ (h : ℕ → ℕ). AreRunAhead t (next.rounds + (n + 1)) last h k ts ys) (λ j i. same i j) rest)

-- The private states and the kernel, if all processes are n turns ahead, are those n rounds later.
pub rounds_passed : (g : MachineConfig) (t n : ℕ) (m : Machine) (ns ms : List ℕ) (ys : List Private) (k : Kernel) → length k.stages.items ≡ length ys
    → ((i : ℕ) → i < length ys → n ≤ turns_ahead ns i) → ((i : ℕ) → turns_ahead ms i ≡ turns_ahead ns i - n)
    → PartsAhead g t (m.rounds + 1) (with_turn_taken t m) ns ys k
    → PartsAhead g t (m.rounds + (n + 1)) (with_turn_taken t (phased_rounds t (numbers_from 1 (length ys)) n m)) ms ys k
rounds_passed g t n m ns ms ys k count all less was =
    let inputs = input_of g.inputs.items in
    let parts : length ys ≡ length m.parts = sym (parts_count inputs 1 ys) ∙ (was.ahead.count ∙ turned_count t m) in
    let stages = length-map k.stages.items states.stage in
    let last : Machine = with_turn_taken t (phased_rounds t (numbers_from 1 (length ys)) n m) in
    subst (λ (f : ℕ → ℕ). AreRunAhead t (m.rounds + (n + 1)) last f (kernel_of k) (transcripts_of k) (parts_of inputs 1 ys)) (λ j i. sym (less i) j)
    (all_passed t (length ys) (kernel_of k) (transcripts_of k) (parts_of inputs 1 ys) (omega (arith, stages, count)) n m (turns_ahead ns) parts all was)

-- And there is room for the rounds after those.
pub ready_passed : (most later n : ℕ) (ns ms : List ℕ) (ys : List Private) (k : Kernel) → length ms ≡ length ns
    → ((i : ℕ) → turns_ahead ms i ≡ turns_ahead ns i - n) → IsReadyAhead most later 0 ns ys k → IsReadyAhead most (later - n) 0 ms ys k
ready_passed most later n ns ms ys k count less was = record {
  stages = was.stages;
  turns = count ∙ was.turns;
  numbers = was.numbers;
  few = λ i. let few = was.few i in let fewer = less i in omega (arith, few, fewer);
  asking =
      let askers = mul-le-mul_right (length ys) fewer in
      fewer_askers k ((length ys - 0) + later * length ys) ((length ys - 0) + (later - n) * length ys) (omega (arith, askers)) was.asking;
  room = was.room;
  wide = was.wide;
  before = λ j y from e.
      let bytes = mul-le-mul_right (most + most) fewer in
      fewer_bytes k (suc j) ((vec_len y.output + most) + later * (most + most)) ((vec_len y.output + most) + (later - n) * (most + most)) (omega (arith, bytes))
      (was.before j y from e);
  after = λ j y below e. absurd (omega (arith, below));
  empty = λ j y below none e. absurd (omega (arith, below));
}
  where
    fewer : later - n ≤ later
    fewer = omega arith
