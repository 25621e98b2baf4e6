-- The private turns of a round while some processes are ahead, and whole rounds.
use Rattle.std.specs.Prelude.{◌≡◌, ◌≢◌, ◌≤◌, ◌<◌, ◌+◌, ◌-◌, ◌*◌, refl, ℕ, zero, suc, true, List, [], ◌∷◌, Some, get_or, length, slice_get, slice_set, vec_len, vec_capacity}
use Rattle.std.proofs.Common.{sym, ◌∙◌, ap, subst, arith, ⊎_elim}
use Rattle.std.proofs.lemmas.List.{length-map}
use native.Mathlib.Nat.{suc-mul}
use Rattle.cp_model_machine.specs.Ahead.{HaveTurned, AreRunAhead}
use Rattle.cp_model_machine.proofs.AheadRounds as ahead
use Rattle.cp_kernel.specs.KernelOf.{HasRoomForAskers, kernel_of, transcripts_of}
use Rattle.cp_kernel.specs.Turns.{parts_of}
use Rattle.cp_kernel.specs.declared.kernel.Kernel.{Kernel}
use Rattle.cp_model.specs.States.{numbers_from}
use Rattle.cp_model.proofs.Options.{same_some}
use Rattle.cp_model_machine.specs.Machines.{Machine, begin_one, end_round, kernel_turns, phased_round, phased_rounds}
use Rattle.cp_model_machine.specs.PrivateStates.{PrivateState}
use Rattle.cp_private.specs.States.{private_of}
use Rattle.cp_private.specs.declared.private.Private.{Private}
use Rattle.cp_program.specs.View as view
use Rattle.cp_rounds_handoff.specs.Inputs.{input_at, input_of}
use Rattle.cp_rounds_handoff.specs.Tasks.{HasRoom}
use Rattle.cp_rounds_handoff.specs.Turned.{round_time_of, take_turn, with_turn_taken}
use Rattle.cp_rounds_handoff.specs.declared.round_time.RoundTime.{RoundTime}
use Rattle.cp_rounds_handoff.specs.declared.config.MachineConfig.{MachineConfig}
use Rattle.cp_rounds_handoff.proofs.Lists.{below_or, below_or_from, got_at, got_below, got_set, zero_or}
use Rattle.cp_rounds.specs.Ahead.{IsReadyAhead, IsTime, PartsAhead, turns_ahead}
use Rattle.cp_rounds.specs.MachineOf.{machine_with}
use Rattle.cp_rounds.specs.Runs.{AreSame, RoundsMade}
use Rattle.cp_rounds.proofs.AheadTurns.{fewer_bytes, part_of}
use Rattle.cp_rounds.proofs.Made.{part_at, parts_count, same_machine, same_machine_with}
use Rattle.cp_model_machine.proofs.AheadTurns.{set_apart, set_length}
use Rattle.cp_rounds.proofs.Rounds.{Remains, private_turns_made, rounds_after, turned_count, turns_remain}

-- ---- Private turns

-- What the private turn of a process makes of its private state, if it is so many turns ahead.
pub record HasTurned (g : MachineConfig) (t : ℕ) (round_time : RoundTime) (most i n : ℕ) (y z : Private) : Type 0 where
  pub still : n ≢ 0 → z ≡ y
  pub turned : n ≡ 0 → private_of z (input_at g.inputs.items i) ≡ take_turn (view.program g.program) t round_time (private_of y (input_at g.inputs.items i))
  pub number : z.number ≡ y.number
  pub length : vec_len z.output ≤ vec_len y.output + most
  pub capacity : vec_capacity y.output ≤ vec_capacity z.output

-- The private turns of the processes below index i are made.
pub record HaveTurnedBelow (g : MachineConfig) (t : ℕ) (round_time : RoundTime) (most i : ℕ) (ns : List ℕ) (ys : List Private) (ms : List ℕ) (zs : List Private) : Type 0 where
  pub count : length zs ≡ length ys
  pub turns : length ms ≡ length ns
  pub made : (j : ℕ) (y z : Private) → j < i → slice_get ys j ≡ Some y → slice_get zs j ≡ Some z → HasTurned g t round_time most j (turns_ahead ns j) y z
  pub less : (j : ℕ) → j < i → turns_ahead ms j ≡ turns_ahead ns j - 1
  pub rest : (j : ℕ) → i ≤ j → slice_get zs j ≡ slice_get ys j
  pub left : (j : ℕ) → i ≤ j → turns_ahead ms j ≡ turns_ahead ns j

-- Nobody is ahead beyond the last process.
pub past_all : (ns : List ℕ) (i : ℕ) → length ns ≤ i → turns_ahead ns i ≡ 0
past_all [] i le = refl
past_all (n ∷ ns) zero le = absurd (omega (arith, le))
past_all (n ∷ ns) (suc i) le = past_all ns i (omega (arith, le))

pub turns_at : (ns : List ℕ) (i d : ℕ) → i < length ns → get_or ns i d ≡ turns_ahead ns i
turns_at [] i d h = absurd (omega (arith, h))
turns_at (n ∷ ns) zero d h = refl
turns_at (n ∷ ns) (suc i) d h = turns_at ns i d (omega (arith, h))

pub set_turns : (ns : List ℕ) (i j n : ℕ) → j ≢ i → turns_ahead (slice_set ns i n) j ≡ turns_ahead ns j
set_turns [] i j n ne = refl
set_turns (m ∷ ns) zero zero n ne = absurd (ne refl)
set_turns (m ∷ ns) zero (suc j) n ne = refl
set_turns (m ∷ ns) (suc i) zero n ne = refl
set_turns (m ∷ ns) (suc i) (suc j) n ne = set_turns ns i j n (λ e. ne (ap suc e))

pub set_turns_here : (ns : List ℕ) (i n : ℕ) → i < length ns → turns_ahead (slice_set ns i n) i ≡ n
set_turns_here [] i n h = absurd (omega (arith, h))
set_turns_here (m ∷ ns) zero n h = refl
set_turns_here (m ∷ ns) (suc i) n h = set_turns_here ns i n (omega (arith, h))

module _ (g : MachineConfig) (t : ℕ) (round_time : RoundTime) (most : ℕ) where
  pub none_turned : (ns : List ℕ) (ys : List Private) → HaveTurnedBelow g t round_time most 0 ns ys ns ys
  none_turned ns ys = record {
    count = refl;
    turns = refl;
    made = λ j y z below e f. absurd (omega (arith, below));
    less = λ j below. absurd (omega (arith, below));
    rest = λ j from. refl;
    left = λ j from. refl;
  }

  -- With that of the process at an index.
  pub one_turned : (i : ℕ) (ns : List ℕ) (ys : List Private) (ms : List ℕ) (zs : List Private) (n : ℕ) (y z : Private) → i < length ms
      → slice_get zs i ≡ Some y → n ≡ turns_ahead ms i - 1 → HasTurned g t round_time most i (turns_ahead ms i) y z
      → HaveTurnedBelow g t round_time most i ns ys ms zs → HaveTurnedBelow g t round_time most (i + 1) ns ys (slice_set ms i n) (slice_set zs i z)
  one_turned i ns ys ms zs n y z within here is turn was = record {
    count = set_length zs i z ∙ was.count;
    turns = set_length ms i n ∙ was.turns;
    made = λ j x w below e f. ⊎_elim
        (λ (h : (j ≡ i) × (z ≡ w)).
        let from : i ≤ i = omega arith in
        let same : y ≡ x = same_some y x (sym here ∙ (was.rest i from ∙ (ap (slice_get ys) (sym h.0) ∙ e))) in
        subst (λ (k : ℕ). HasTurned g t round_time most k (turns_ahead ns k) x w) (sym h.0)
        (subst (λ (v : Private). HasTurned g t round_time most i (turns_ahead ns i) x v) h.1
        (subst (λ (v : Private). HasTurned g t round_time most i (turns_ahead ns i) v z) same
        (subst (λ (k : ℕ). HasTurned g t round_time most i k y z) (was.left i from) turn))))
        (λ (h : (j ≢ i) × (slice_get zs j ≡ Some w)). let apart = h.0 in was.made j x w (omega (arith, below, apart)) e h.1)
        (got_set zs i j z w f);
    less = λ j below. ⊎_elim
        (λ (h : j < i). set_turns ms i j n (λ f. omega (arith, f, h)) ∙ was.less j h)
        (λ (h : j ≡ i).
        let from : i ≤ i = omega arith in
        subst (λ (k : ℕ). turns_ahead (slice_set ms i n) k ≡ turns_ahead ns k - 1) (sym h)
        (set_turns_here ms i n within ∙ (is ∙ ap (λ (q : ℕ). q - 1) (was.left i from))))
        (below_or j i (omega (arith, below)));
    rest = λ j from. set_apart zs i j z (λ f. omega (arith, f, from)) ∙ was.rest j (omega (arith, from));
    left = λ j from. set_turns ms i j n (λ f. omega (arith, f, from)) ∙ was.left j (omega (arith, from));
  }

  -- The machine after the private turns of all.
  pub all_turned : (m : Machine) → IsTime g m round_time → (i : ℕ) (ns : List ℕ) (ys : List Private) (ms : List ℕ) (zs : List Private) (k : Kernel) → length ys ≤ i
      → length ns ≡ length ys → HaveTurnedBelow g t round_time most i ns ys ms zs → PartsAhead g t m.rounds m ns ys k
      → PartsAhead g t (m.rounds + 1) (with_turn_taken t m) ms zs k
  all_turned m time i ns ys ms zs k end turns all was =
      let inputs = input_of g.inputs.items in
      let next : suc m.rounds ≡ m.rounds + 1 = omega arith in
      let made = ahead.private_turns_made t m.rounds m (turns_ahead ns) (kernel_of k) (transcripts_of k) (parts_of inputs 1 ys) was refl (parts_of inputs 1 zs) have in
      subst (λ (r : ℕ). PartsAhead g t r (with_turn_taken t m) ms zs k) next
      (subst (λ (n : ℕ → ℕ). AreRunAhead t (suc m.rounds) (with_turn_taken t m) n (kernel_of k) (transcripts_of k) (parts_of inputs 1 zs)) (λ j p. sym (less p) j) made)
    where
      less : (j : ℕ) → turns_ahead ms j ≡ turns_ahead ns j - 1
      less j = ⊎_elim (λ (h : j < i). all.less j h)
          (λ (h : i ≤ j). past_all ms j (omega (arith, h, end, turns, all.turns)) ∙ ap (λ (q : ℕ). q - 1) (sym (past_all ns j (omega (arith, h, end, turns)))))
          (below_or_from j i)

      turned : (j : ℕ) (o p : PrivateState) → turns_ahead ns j ≡ 0 → slice_get (parts_of (input_of g.inputs.items) 1 ys) j ≡ Some o
          → slice_get (parts_of (input_of g.inputs.items) 1 zs) j ≡ Some p
          → p ≡ take_turn m.program t (round_time_of m.tick m.rounds) o
      turned j o p none e f =
          let y = part_of g.inputs.items ys j o e in
          let z = part_of g.inputs.items zs j p f in
          let below = got_below ys j y.0 y.1.0 in
          let turn = (all.made j y.0 z.0 (omega (arith, below, end)) y.1.0 z.1.0).turned none in
          z.1.1
          ∙ (turn
          ∙ (λ q. take_turn (sym time.program q) t (time.time q) (sym y.1.1 q)))

      still : (j : ℕ) → turns_ahead ns j ≢ 0 → slice_get (parts_of (input_of g.inputs.items) 1 zs) j ≡ slice_get (parts_of (input_of g.inputs.items) 1 ys) j
      still j some =
          let inside : j < length ys =
          ⊎_elim (λ (h : j < length ys). h) (λ (h : length ys ≤ j). absurd (some (past_all ns j (omega (arith, h, turns))))) (below_or_from j (length ys)) in
          let y = got_at ys j inside in
          let z = got_at zs j (omega (arith, inside, all.count)) in
          let same = (all.made j y.0 z.0 (omega (arith, inside, end)) y.1 z.1).still some in
          part_at g.inputs.items j zs z.0 z.1
          ∙ (ap (λ (w : Private). Some (private_of w (input_at g.inputs.items j))) same ∙ sym (part_at g.inputs.items j ys y.0 y.1))

      have : HaveTurned m.program m.tick t m.rounds (turns_ahead ns) (parts_of (input_of g.inputs.items) 1 ys) (parts_of (input_of g.inputs.items) 1 zs)
      have = record {
        count = parts_count (input_of g.inputs.items) 1 zs ∙ (all.count ∙ sym (parts_count (input_of g.inputs.items) 1 ys));
        turned = turned;
        still = still;
      }

-- ---- Room for them

pub ready_next : (g : MachineConfig) (t : ℕ) (round_time : RoundTime) (most later i : ℕ) (ns : List ℕ) (ys : List Private) (ms : List ℕ) (zs : List Private) (k : Kernel)
    → length ys ≤ i → HaveTurnedBelow g t round_time most i ns ys ms zs → IsReadyAhead most (suc later) (length ys) ns ys k → IsReadyAhead most later 0 ms zs k
ready_next g t round_time most later i ns ys ms zs k end all was = record {
  stages = was.stages ∙ sym all.count;
  turns = all.turns ∙ (was.turns ∙ sym all.count);
  numbers = λ j z e. let y = old j z e in (turn j z e).number ∙ was.numbers j y.0 y.1;
  few = λ j. let few = was.few j in
      ⊎_elim (λ (h : j < i). let less = all.less j h in omega (arith, few, less))
      (λ (h : i ≤ j). let none = past_all ms j (omega (arith, h, end, all.turns, was.turns)) in omega (arith, none))
      (below_or_from j i);
  asking =
      subst (HasRoomForAskers k) (askers) was.asking;
  room = λ j z e.
      let y = old j z e in
      let turned = turn j z e in
      ⊎_elim
      (λ (h : turns_ahead ns j ≡ 0).
      let none = was.empty j y.0 (inside j z e) h y.1 in
      let wide = was.wide j y.0 y.1 in
      let long = turned.length in
      let kept = turned.capacity in
      omega (arith, none, wide, long, kept))
      (λ (h : turns_ahead ns j ≢ 0). subst (HasRoom most true) (sym (turned.still h)) (was.room j y.0 y.1))
      (zero_or (turns_ahead ns j));
  wide = λ j z e.
      let y = old j z e in
      let wide = was.wide j y.0 y.1 in
      let kept = (turn j z e).capacity in
      omega (arith, wide, kept);
  before = λ j z from e.
      let y = old j z e in
      let turned = turn j z e in
      let times = suc-mul later (most + most) in
      ⊎_elim
      (λ (h : turns_ahead ns j ≡ 0).
      let none = was.empty j y.0 (inside j z e) h y.1 in
      let long = turned.length in
      fewer_bytes k (suc j) (vec_len y.0.output + suc later * (most + most)) ((vec_len z.output + most) + later * (most + most)) (omega (arith, none, long, times)) (was.after j y.0 (inside j z e) y.1))
      (λ (h : turns_ahead ns j ≢ 0).
      let same = ap (λ (w : Private). vec_len w.output) (turned.still h) in
      fewer_bytes k (suc j) (vec_len y.0.output + suc later * (most + most)) ((vec_len z.output + most) + later * (most + most)) (omega (arith, same, times)) (was.after j y.0 (inside j z e) y.1))
      (zero_or (turns_ahead ns j));
  after = λ j z below e. absurd (omega (arith, below));
  empty = λ j z below none e. absurd (omega (arith, below));
}
  where
    inside : (j : ℕ) (z : Private) → slice_get zs j ≡ Some z → j < length ys
    inside j z e = let below = got_below zs j z e in omega (arith, below, all.count)

    old : (j : ℕ) (z : Private) → slice_get zs j ≡ Some z → (y : Private) × (slice_get ys j ≡ Some y)
    old j z e = got_at ys j (inside j z e)

    turn : (j : ℕ) (z : Private) (e : slice_get zs j ≡ Some z) → HasTurned g t round_time most j (turns_ahead ns j) (old j z e).0 z
    turn j z e = let below = inside j z e in all.made j (old j z e).0 z (omega (arith, below, end)) (old j z e).1 e

    askers : (length ys - length ys) + suc later * length ys ≡ (length zs - 0) + later * length zs
    askers = let none : length ys - length ys ≡ 0 = omega arith in
        ap (λ (n : ℕ). n + suc later * length ys) none ∙ (omega arith ∙ (ap (λ (n : ℕ). suc later * n) (sym all.count) ∙ (suc-mul later (length zs) ∙ omega arith)))

-- ---- Whole rounds

pub round_is : (t n : ℕ) (m : Machine) → n ≡ length m.parts
    → phased_round t (numbers_from 1 n) m ≡ end_round (kernel_turns t (with_turn_taken t m) (numbers_from 1 n))
round_is t n m all = ap (λ (u : Machine). end_round (kernel_turns t u (numbers_from 1 n))) (private_turns_made t n m all)

-- The machine after so many rounds.
pub record HasMade (m after : Machine) (n : ℕ) : Type 0 where
  pub program : after.program ≡ m.program
  pub tick : after.tick ≡ m.tick
  pub rounds : after.rounds ≡ m.rounds + n
  pub count : length after.parts ≡ length m.parts

has_made_none : (m : Machine) → HasMade m m 0
has_made_none m = record { program = refl; tick = refl; rounds = omega arith; count = refl }

pub has_made_one : (t p : ℕ) (m : Machine) → p ≡ length m.parts → HasMade m (phased_round t (numbers_from 1 p) m) 1
has_made_one t p m all =
    let turned : Machine = with_turn_taken t m in
    let ended : Machine = kernel_turns t turned (numbers_from 1 p) in
    let kept : Remains turned ended = turns_remain t p turned in
    subst (λ (u : Machine). HasMade m u 1) (sym (round_is t p m all))
    (record {
      program = kept.program;
      tick = kept.tick;
      rounds = ap suc kept.rounds ∙ omega arith;
      count = length-map ended.parts (begin_one ended.program ended.kernel) ∙ (kept.count ∙ turned_count t m);
    })

pub has_made : (t p n : ℕ) (m : Machine) → p ≡ length m.parts → HasMade m (phased_rounds t (numbers_from 1 p) n m) n
has_made t p zero m all = has_made_none m
has_made t p (suc n) m all =
    let first = has_made_one t p m all in
    let then = has_made t p n (phased_round t (numbers_from 1 p) m) (all ∙ sym first.count) in
    record {
      program = then.program ∙ first.program;
      tick = then.tick ∙ first.tick;
      rounds = let a = then.rounds in let b = first.rounds in omega (arith, a, b);
      count = then.count ∙ first.count;
    }

-- One round more.
pub one_more : (t p n : ℕ) (m : Machine) → p ≡ length m.parts
    → phased_rounds t (numbers_from 1 p) (n + 1) m
    ≡ end_round (kernel_turns t (with_turn_taken t (phased_rounds t (numbers_from 1 p) n m)) (numbers_from 1 p))
one_more t p n m all =
    rounds_after t n 1 (numbers_from 1 p) m ∙ round_is t p (phased_rounds t (numbers_from 1 p) n m) (all ∙ sym (has_made t p n m all).count)

-- Once nobody is ahead, the private states and the kernel are those after all rounds.
pub all_rounds_made : (g : MachineConfig) (t rounds n : ℕ) (xs : List Private) (k : Kernel) (ys : List Private) (k1 : Kernel) (ns : List ℕ) (zs : List Private)
    (k2 : Kernel)
    → AreSame xs k ys k1 → ((i : ℕ) → turns_ahead ns i ≡ 0)
    → PartsAhead g t (rounds + n) (phased_rounds t (numbers_from 1 (length ys)) n (machine_with g rounds ys k1)) ns zs k2
    → RoundsMade g t rounds n xs k zs k2
all_rounds_made g t rounds n xs k ys k1 ns zs k2 same none was =
    let inputs = input_of g.inputs.items in
    let first : Machine = machine_with g rounds ys k1 in
    let last : Machine = phased_rounds t (numbers_from 1 (length ys)) n first in
    let made = has_made t (length ys) n first (sym (parts_count inputs 1 ys)) in
    same_machine (machine_with g (rounds + n) zs k2) last (sym made.program) (sym made.tick) was.kernel
    (ahead.none_left t (rounds + n) last (turns_ahead ns) (kernel_of k2) (transcripts_of k2) (parts_of inputs 1 zs) was none) was.transcripts (sym made.rounds)
    ∙ (λ i. phased_rounds t (numbers_from 1 (same.count i)) n (same_machine_with g rounds xs k ys k1 same i))
