-- Rounds that are made at once, while some processes are ahead: kernel turns, the end of a round,
-- and the private turns of the next one.
use Rattle.std.specs.Prelude.{◌≡◌, ◌≢◌, ◌≤◌, ◌<◌, ◌+◌, ◌-◌, ◌*◌, refl, ℕ, zero, suc, true, List, [], ◌∷◌, ◌++◌, Some, length, map, slice_get, slice_set, Vec, vec_len, vec_capacity}
use Rattle.std.specs.Global.{Global}
use Rattle.std.proofs.Common.{sym, ◌∙◌, ap, subst, arith, ⊎_elim}
use Rattle.std.proofs.lemmas.List.{length-map}
use Rattle.cp_model_machine.specs.Ahead.{AreRunAhead}
use Rattle.cp_model_machine.proofs.AheadRounds as ahead
use Rattle.cp_kernel.specs.KernelOf.{Bytes, HasRoomForAskers, HasRoomForBytes, kernel_of, transcripts_of, turning}
use Rattle.cp_kernel.proofs.Asking.{room_kept}
use Rattle.cp_kernel.specs.Turns.{IsTurned, Moves, parts_of}
use Rattle.cp_kernel.specs.declared.kernel.Kernel.{Kernel}
use Rattle.cp_model.specs.States.{numbers_from}
use Rattle.cp_model.proofs.Options.{same_some}
use Rattle.cp_model_machine.specs.KernelSteps.{Turning, kernel_steps}
use Rattle.cp_model_machine.specs.Machines.{Machine, begin_one, clock, end_round, kernel_turn, kernel_turns, transcript_of}
use Rattle.cp_model_machine.specs.PrivateStates.{PrivateState}
use Rattle.cp_private.specs.States.{private_of}
use Rattle.cp_private.specs.declared.private.Private.{Private}
use Rattle.cp_program.specs.View as view
use Rattle.cp_rounds_handoff.specs.Inputs.{input_at, input_of}
use Rattle.cp_rounds_handoff.specs.Tasks.{HasRoom, IsWide}
use Rattle.cp_rounds_handoff.specs.Turned.{round_time_of}
use Rattle.cp_rounds_handoff.specs.declared.round_time.RoundTime.{RoundTime}
use Rattle.cp_rounds_handoff.specs.declared.config.MachineConfig.{MachineConfig}
use Rattle.cp_rounds_handoff.proofs.Lists.{below_or, got_at, got_below, got_set, mapped_get}
use Rattle.cp_rounds.specs.Ahead.{IsReadyAhead, IsTime, PartsAhead, turns_ahead}
use Rattle.cp_rounds.specs.Ends.{RoundEnds}
use Rattle.cp_rounds.proofs.AheadTurns.{fewer_bytes}
use Rattle.cp_rounds.proofs.Made.{input_there, part_at, parts_count}
use Rattle.cp_rounds.proofs.Rooms.{fewer_askers, moved_stages, numbered_set}
use Rattle.cp_model_machine.proofs.AheadTurns.{set_length}
use Rattle.cp_rounds.proofs.Rounds.{Remains, turns_next, turns_remain}

-- The private states of a list with another item are those with another item.
pub parts_set : (inputs : ℕ → List ℕ) (p i : ℕ) (ys : List Private) (z : Private)
    → parts_of inputs p (slice_set ys i z) ≡ slice_set (parts_of inputs p ys) i (private_of z (inputs (p + i)))
parts_set inputs p i [] z = refl
parts_set inputs p zero (y ∷ ys) z =
    let at : p ≡ p + 0 = omega arith in
    ap (λ (q : ℕ). private_of z (inputs q) ∷ parts_of inputs (suc p) ys) at
parts_set inputs p (suc i) (y ∷ ys) z =
    let at : suc p + i ≡ p + suc i = omega arith in
    ap (λ (l : List PrivateState). private_of y (inputs p) ∷ l)
    (parts_set inputs (suc p) i ys z ∙ ap (λ (q : ℕ). slice_set (parts_of inputs (suc p) ys) i (private_of z (inputs q))) at)

module _ (g : MachineConfig) (t rounds : ℕ) (m : Machine) (ns : List ℕ) where
  -- The machine after the kernel turns of the processes below an index.
  abbrev pub after : ℕ → Machine
  after i = kernel_turns t m (numbers_from 1 i)

  next_turn : (i : ℕ) → after (i + 1) ≡ kernel_turn t (after i) (suc i)
  next_turn i = let same : i + 1 ≡ suc i = omega arith in ap after same ∙ turns_next t i m

  -- A machine's private state for one that is there.
  there : (i : ℕ) (ys : List Private) (k : Kernel) (y : Private) → slice_get ys i ≡ Some y → PartsAhead g t rounds (after i) ns ys k
      → (o : PrivateState) × (slice_get (after i).parts i ≡ Some o)
  there i ys k y e was =
      let below = got_below ys i y e in
      got_at (after i).parts i (omega (arith, below, was.ahead.count, parts_count (input_of g.inputs.items) 1 ys))

  -- The kernel turn of a process that is ahead.
  pub ahead_made : (i : ℕ) (ys : List Private) (k : Kernel) (y : Private) → slice_get ys i ≡ Some y → turns_ahead ns i ≢ 0
      → PartsAhead g t rounds (after i) ns ys k → PartsAhead g t rounds (after (i + 1)) ns ys k
  ahead_made i ys k y e some was =
      let o = there i ys k y e was in
      subst (λ (u : Machine). PartsAhead g t rounds u ns ys k)
      (sym (next_turn i ∙ ahead.ahead_turn t rounds (after i) (turns_ahead ns) (kernel_of k) (transcripts_of k) (parts_of (input_of g.inputs.items) 1 ys) was i o.0
      (private_of y (input_at g.inputs.items i)) some o.1 (part_at g.inputs.items i ys y e)))
      was

  -- The kernel turn of another process.
  pub turn_made_ahead : (round_time : RoundTime) → IsTime g m round_time → (i : ℕ) (ys : List Private) (k k' : Kernel) (y z : Private) → slice_get ys i ≡ Some y
      → y.number ≡ suc i → turns_ahead ns i ≡ 0 → IsTurned (view.program g.program) round_time.clock t k k' y z (input_at g.inputs.items i)
      → PartsAhead g t rounds (after i) ns ys k → PartsAhead g t rounds (after (i + 1)) ns (slice_set ys i z) k'
  turn_made_ahead round_time time i ys k k' y z e number none turn was =
      let o = there i ys k y e was in
      let kept : Remains m (after i) = turns_remain t i m in
      let input = input_at g.inputs.items i in
      let own : PrivateState = private_of y input in
      let x : Turning = kernel_steps (view.program g.program) round_time.clock t (turning k y input) in
      let clocks : round_time.clock ≡ clock (after i) =
      ap (λ (w : RoundTime). w.clock) (time.time ∙ (λ j. round_time_of (sym kept.tick j) (sym kept.rounds j))) in
      let x_is : x ≡ kernel_steps (after i).program (clock (after i)) t (record { kernel = kernel_of k; own = own }) =
      (λ j. kernel_steps (sym (kept.program ∙ time.program) j) (clocks j) t (turning k y input)) in
      let made = ahead.kernel_turn_made t rounds (after i) (turns_ahead ns) (kernel_of k) (transcripts_of k) (parts_of (input_of g.inputs.items) 1 ys) was i o.0 own
      none o.1 (part_at g.inputs.items i ys y e) x x_is in
      let back : suc i - 1 ≡ i = omega arith in
      let there' : input_of g.inputs.items (1 + i) ≡ input = input_there g.inputs.items i in
      let transcripts : transcripts_of k' ≡ slice_set (transcripts_of k) i (transcript_of (transcripts_of k) (suc i) ++ x.own.output) =
      turn.moves.transcripts
      ∙ ((λ j. slice_set (transcripts_of k) (number j - 1) (transcript_of (transcripts_of k) (number j) ++ x.own.output))
      ∙ ap (λ (n : ℕ). slice_set (transcripts_of k) n (transcript_of (transcripts_of k) (suc i) ++ x.own.output)) back) in
      let parts : parts_of (input_of g.inputs.items) 1 (slice_set ys i z) ≡ slice_set (parts_of (input_of g.inputs.items) 1 ys) i (record x.own { output = [] }) =
      parts_set (input_of g.inputs.items) 1 i ys z
      ∙ ap (slice_set (parts_of (input_of g.inputs.items) 1 ys) i) (ap (private_of z) there' ∙ turn.own) in
      subst (λ (u : Machine). PartsAhead g t rounds u ns (slice_set ys i z) k') (sym (next_turn i))
      (subst (λ (q : List PrivateState). AreRunAhead t rounds (kernel_turn t (after i) (suc i)) (turns_ahead ns) (kernel_of k') (transcripts_of k') q) (sym parts)
      (subst (λ (ts : List (List ℕ)).
      AreRunAhead t rounds (kernel_turn t (after i) (suc i)) (turns_ahead ns) (kernel_of k') ts (slice_set (parts_of (input_of g.inputs.items) 1 ys) i (record x.own { output = [] })))
      (sym transcripts)
      (subst (λ q.
      AreRunAhead t rounds (kernel_turn t (after i) (suc i)) (turns_ahead ns) q
      (slice_set (transcripts_of k) i (transcript_of (transcripts_of k) (suc i) ++ x.own.output))
      (slice_set (parts_of (input_of g.inputs.items) 1 ys) i (record x.own { output = [] })))
      (sym turn.kernel) made)))

  -- The end of a round.
  pub end_ahead : m.program ≡ view.program g.program → (ys zs : List Private) (k k' : Kernel) → RoundEnds g ys k zs k' → PartsAhead g t rounds m ns ys k
      → PartsAhead g t rounds (end_round m) ns zs k'
  end_ahead program ys zs k k' ends was =
      let inputs = input_of g.inputs.items in
      let made = ahead.round_end t rounds m (turns_ahead ns) (kernel_of k) (transcripts_of k) (parts_of inputs 1 ys) was in
      let parts = ends.parts inputs ∙ (λ j. map (begin_one (sym program j) (kernel_of k)) (parts_of inputs 1 ys)) in
      (subst (λ (q : List PrivateState). AreRunAhead t rounds (end_round m) (turns_ahead ns) (kernel_of k') (transcripts_of k') q) (sym parts)
      (subst (λ (ts : List (List ℕ)). AreRunAhead t rounds (end_round m) (turns_ahead ns) (kernel_of k') ts (map (begin_one m.program (kernel_of k)) (parts_of inputs 1 ys)))
      (sym ends.transcripts)
      (subst (λ q. AreRunAhead t rounds (end_round m) (turns_ahead ns) q (transcripts_of k) (map (begin_one m.program (kernel_of k)) (parts_of inputs 1 ys)))
      (sym ends.kernel) made)))

-- ---- Room

module _ (most later i : ℕ) (ns : List ℕ) (ys : List Private) (k : Kernel) (was : IsReadyAhead most later i ns ys k) where
  fewer : (length ys - (i + 1)) + later * length ys ≤ (length ys - i) + later * length ys
  fewer = omega arith

  abbrev more : ℕ
  more = later * (most + most)

  -- After the kernel turn of a process that is ahead.
  pub ready_ahead : turns_ahead ns i ≢ 0 → IsReadyAhead most later (i + 1) ns ys k
  ready_ahead some = record {
    stages = was.stages;
    turns = was.turns;
    numbers = was.numbers;
    few = was.few;
    asking = fewer_askers k ((length ys - i) + later * length ys) ((length ys - (i + 1)) + later * length ys) fewer was.asking;
    room = was.room;
    wide = was.wide;
    before = λ j y from e. was.before j y (omega (arith, from)) e;
    after = λ j y below e.
        ⊎_elim (λ (h : j < i). was.after j y h e)
        (λ (h : j ≡ i). fewer_bytes k (suc j) ((vec_len y.output + most) + more) (vec_len y.output + more) (omega arith) (was.before j y (omega (arith, h)) e))
        (below_or j i (omega (arith, below)));
    empty = λ j y below none e.
        ⊎_elim (λ (h : j < i). was.empty j y h none e) (λ (h : j ≡ i). absurd (some (ap (turns_ahead ns) (sym h) ∙ none))) (below_or j i (omega (arith, below)));
  }

  -- After the kernel turn of another process.
  pub ready_turned : i < length ys → (y z : Private) (k' : Kernel) (written : List ℕ) → slice_get ys i ≡ Some y → Moves k k' y.number written
      → ((n : ℕ) → HasRoomForAskers k (n + 1) → HasRoomForAskers k' n)
      → ((n : ℕ) → HasRoomForBytes k y.number ((vec_len y.output + most) + n) → HasRoomForBytes k' y.number n)
      → z.number ≡ y.number → vec_len z.output ≡ 0 → vec_capacity y.output ≤ vec_capacity z.output
      → IsReadyAhead most later (i + 1) ns (slice_set ys i z) k'
  ready_turned within y z k' written here moves asking left number none capacity =
      let len : length (slice_set ys i z) ≡ length ys = set_length ys i z in
      let y_number = was.numbers i y here in
      record {
        stages = moved_stages k k' y.number written moves ∙ (was.stages ∙ sym len);
        turns = was.turns ∙ sym len;
        numbers = numbered_set ys i y z here number was.numbers;
        few = was.few;
        asking =
            subst (λ (n : ℕ). HasRoomForAskers k' ((n - (i + 1)) + later * n)) (sym len)
            (asking ((length ys - (i + 1)) + later * length ys)
            (subst (HasRoomForAskers k) one_more was.asking));
        room = λ j w e. ⊎_elim
            (λ (h : (j ≡ i) × (z ≡ w)). let wide = was.wide i y here in subst (HasRoom most true) h.1 (omega (arith, none, capacity, wide)))
            (λ (h : (j ≢ i) × (slice_get ys j ≡ Some w)). was.room j w h.1)
            (got_set ys i j z w e);
        wide = λ j w e. ⊎_elim
            (λ (h : (j ≡ i) × (z ≡ w)). let wide = was.wide i y here in subst (IsWide most) h.1 (omega (arith, capacity, wide)))
            (λ (h : (j ≢ i) × (slice_get ys j ≡ Some w)). was.wide j w h.1)
            (got_set ys i j z w e);
        before = λ j w from e. ⊎_elim
            (λ (h : (j ≡ i) × (z ≡ w)). absurd (omega (arith, from, h)))
            (λ (h : (j ≢ i) × (slice_get ys j ≡ Some w)).
            moves.others (suc j) ((vec_len w.output + most) + more) (λ f. h.0 (omega (arith, f, y_number))) (was.before j w (omega (arith, from)) h.1))
            (got_set ys i j z w e);
        after = λ j w below e. ⊎_elim
            (λ (h : (j ≡ i) × (z ≡ w)).
            subst (λ (v : Private). HasRoomForBytes k' (suc j) (vec_len v.output + more)) h.1
            (subst (λ (p : ℕ). HasRoomForBytes k' p (vec_len z.output + more)) (y_number ∙ ap suc (sym h.0))
            (fewer_bytes k' y.number more (vec_len z.output + more) (omega (arith, none))
            (left more (subst (λ (p : ℕ). HasRoomForBytes k p ((vec_len y.output + most) + more)) (sym y_number) (was.before i y (omega arith) here))))))
            (λ (h : (j ≢ i) × (slice_get ys j ≡ Some w)).
            moves.others (suc j) (vec_len w.output + more) (λ f. h.0 (omega (arith, f, y_number))) (was.after j w (omega (arith, below, h)) h.1))
            (got_set ys i j z w e);
        empty = λ j w below zero_ahead e. ⊎_elim
            (λ (h : (j ≡ i) × (z ≡ w)). ap (λ (v : Private). vec_len v.output) (sym h.1) ∙ none)
            (λ (h : (j ≢ i) × (slice_get ys j ≡ Some w)). was.empty j w (omega (arith, below, h)) zero_ahead h.1)
            (got_set ys i j z w e);
      }
    where
      one_more : (length ys - i) + later * length ys ≡ ((length ys - (i + 1)) + later * length ys) + 1
      one_more = omega (arith, within)

-- ---- The end of a round

-- A private state whose output is that of the one before.
pub output_of : (xs ys : List Private) → map (λ (x : Private). x.output) ys ≡ map (λ (x : Private). x.output) xs → (i : ℕ) (y : Private) → slice_get ys i ≡ Some y
    → (x : Private) × ((slice_get xs i ≡ Some x) × (y.output ≡ x.output))
output_of xs ys same i y e =
    let output = λ (x : Private). x.output in
    let count : length ys ≡ length xs = sym (length-map ys output) ∙ (ap length same ∙ length-map xs output) in
    let below = got_below ys i y e in
    let x = got_at xs i (omega (arith, below, count)) in (
      x.0,
      (x.1, same_some y.output x.0.output (sym (mapped_get output ys i y e) ∙ (ap (λ l. slice_get l i) same ∙ mapped_get output xs i x.0 x.1))),
    )

pub ready_ended : (most later : ℕ) (ns : List ℕ) (g : MachineConfig) (ys zs : List Private) (k k' : Kernel) → RoundEnds g ys k zs k'
    → IsReadyAhead most later (length ys) ns ys k → IsReadyAhead most later (length zs) ns zs k'
ready_ended most later ns g ys zs k k' ends was = record {
  stages = ends.stages ∙ (was.stages ∙ sym ends.count);
  turns = was.turns ∙ sym ends.count;
  numbers = ends.numbers was.numbers;
  few = was.few;
  asking =
      subst (λ (n : ℕ). HasRoomForAskers k' ((n - n) + later * n)) (sym ends.count)
      (room_kept k k' ((length ys - length ys) + later * length ys) ends.room.gates was.asking);
  room = λ i z e. let y = output_of ys zs ends.room.outputs i z e in subst (λ v. vec_len v + most ≤ vec_capacity v) (sym y.1.1) (was.room i y.0 y.1.0);
  wide = λ i z e. let y = output_of ys zs ends.room.outputs i z e in subst (λ v. most + most ≤ vec_capacity v) (sym y.1.1) (was.wide i y.0 y.1.0);
  before = λ i z from e. let below = got_below zs i z e in absurd (omega (arith, from, below));
  after = λ i z below e.
      let y = output_of ys zs ends.room.outputs i z e in
      subst (λ v. HasRoomForBytes k' (suc i) (vec_len v + later * (most + most))) (sym y.1.1)
      (kept (suc i) (vec_len y.0.output + later * (most + most)) (was.after i y.0 (omega (arith, below, ends.count)) y.1.0));
  empty = λ i z below none e.
      let y = output_of ys zs ends.room.outputs i z e in
      ap (λ v. vec_len v) y.1.1 ∙ was.empty i y.0 (omega (arith, below, ends.count)) none y.1.0;
}
  where
    kept : (p n : ℕ) → HasRoomForBytes k p n → HasRoomForBytes k' p n
    kept p n h = subst (λ (ts : Vec Bytes Global). (v : Bytes) → slice_get ts.items (p - 1) ≡ Some v → vec_len v + n ≤ vec_capacity v) (sym ends.room.transcripts) h
