-- What the tasks of several rounds made says of a machine some of whose processes are ahead.
use Rattle.std.specs.Prelude.{◌≡◌, ◌≢◌, ◌≤◌, ◌<◌, ◌+◌, ◌-◌, ◌*◌, refl, ℕ, zero, suc, Bool, true, false, List, Some, get_or, length, map, slice_get, vec_len}
use Rattle.std.proofs.Common.{sym, ◌∙◌, ap, subst, arith}
use Rattle.std.proofs.lemmas.Bool.{true≢false}
use Rattle.std.proofs.lemmas.List.{length-map}
use Rattle.cp_model.proofs.Options.{same_some}
use native.Mathlib.Nat.{mul-le-mul_right, suc-mul}
use Rattle.cp_model_machine.specs.Ahead.{HasBegun, IsAhead, turn_at}
use Rattle.cp_model_machine.proofs.AheadTurns.{map_got, turn_number}
use Rattle.cp_kernel.specs.KernelOf.{Bytes, HasRoomForAskers, HasRoomForBytes, kernel_of}
use Rattle.cp_kernel.specs.Turns.{parts_of}
use Rattle.cp_kernel.specs.declared.kernel.Kernel.{Kernel}
use Rattle.cp_model_program.specs.Programs.{Program}
use Rattle.cp_model_machine.specs.PrivateStates.{PrivateState}
use Rattle.cp_model_machine.specs.KernelSteps.{Asking, Begun, Delayed, Fresh, SchedulingState, Unstarted, is_begun, stage_of}
use Rattle.cp_model_machine.proofs.StagesKept.{stage_is}
use Rattle.cp_private.specs.States.{private_of}
use Rattle.cp_private.specs.declared.private.Private.{Private}
use Rattle.cp_program.specs.View as view
use Rattle.cp_rounds_handoff.specs.Inputs.{input_at, input_of}
use Rattle.cp_rounds_handoff.specs.Numbers.{AreNumbered}
use Rattle.cp_rounds_handoff.specs.Tasks.{AllFree, AreMade, AreTaken, IsCourseOf, StaysWithoutKernel}
use Rattle.cp_rounds_handoff.specs.Turned.{AreTimes, round_time_of, take_turn, with_turn_taken}
use Rattle.cp_rounds_handoff.specs.declared.round_time.RoundTime.{RoundTime}
use Rattle.cp_rounds_handoff.specs.declared.config.MachineConfig.{MachineConfig}
use Rattle.cp_rounds_handoff.proofs.Lists.{got_at, got_below}
use Rattle.cp_rounds_handoff.proofs.MadeTurns.{quiet_is}
use Rattle.cp_rounds.specs.Ahead.{AreBack, IsReadyAhead, PartsAhead, turns_ahead}
use Rattle.cp_rounds.specs.MachineOf.{machine_with}
use Rattle.cp_rounds.specs.Made.{IsReadyFor}
use Rattle.cp_rounds.proofs.Made.{part_at, parts_count}
use Rattle.cp_rounds.proofs.Rooms.{fewer_askers}

-- The private state at an index of the parts of a machine.
pub part_of : (inputs : List Bytes) (zs : List Private) (i : ℕ) (o : PrivateState) → slice_get (parts_of (input_of inputs) 1 zs) i ≡ Some o
    → (z : Private) × ((slice_get zs i ≡ Some z) × (o ≡ private_of z (input_at inputs i)))
part_of inputs zs i o e =
    let below = got_below (parts_of (input_of inputs) 1 zs) i o e in
    let z = got_at zs i (omega (arith, below, parts_count (input_of inputs) 1 zs)) in
    (z.0, (z.1, same_some o (private_of z.0 (input_at inputs i)) (sym e ∙ part_at inputs i zs z.0 z.1)))

-- A process whose stage is that it has begun.
pub begun_is : (k : Kernel) (i : ℕ) → is_begun (stage_of (kernel_of k).stages (suc i)) ≡ true → HasBegun i (kernel_of k)
begun_is k i h = record { stage = by (get_or (kernel_of k).stages i Begun) (sym (ap is_begun (stage_is (kernel_of k).stages i)) ∙ h) }
  where
    by : (s : SchedulingState) → is_begun s ≡ true → s ≡ Begun
    by Begun e = refl
    by Unstarted e = absurd (true≢false (sym e))
    by Fresh e = absurd (true≢false (sym e))
    by (Asking q) e = absurd (true≢false (sym e))
    by (Delayed q w) e = absurd (true≢false (sym e))

-- ---- All processes

module _ (without_kernel : PrivateState → Bool) (turned : RoundTime → PrivateState → PrivateState) (round_time : ℕ → RoundTime) (input : ℕ → List ℕ) (most : ℕ) (g : MachineConfig)
    (t done : ℕ) (course : IsCourseOf without_kernel turned input most g t) (times : AreTimes round_time g done) where
  abbrev program : Program
  program = view.program g.program

  turn_is : (round : ℕ) (o : PrivateState) → turned (round_time round) o ≡ turn_at program g.tick.rounds t (done + round) o
  turn_is round o = course.steps (round_time round) o ∙ ap (λ (w : RoundTime). take_turn program t w o) (times round)

  stays_ahead : (round n : ℕ) (o y : PrivateState) → StaysWithoutKernel without_kernel turned round_time round n o y → IsAhead program g.tick.rounds t (done + round) n o y
  stays_ahead round zero o y is = is
  stays_ahead round (suc n) o y (now, rest) =
      let next : done + suc round ≡ suc (done + round) = omega arith in (
        quiet_is program o (sym (course.reports o) ∙ now),
        subst (λ (r : ℕ). IsAhead program g.tick.rounds t r n (turn_at program g.tick.rounds t (done + round) o) y) next
            (subst (λ (x : PrivateState). IsAhead program g.tick.rounds t (done + suc round) n x y) (turn_is round o)
            (stays_ahead (suc round) n (turned (round_time round) o) y rest)),
      )

  -- After the turns that were taken back, the machine is the one after the private turns of the first round.
  pub back_ahead : (round count : ℕ) (xs : List Private) (ns : List ℕ) (ys : List Private) (k : Kernel) → AreNumbered xs
      → AreBack without_kernel turned round_time input most round count xs ns ys k
      → PartsAhead g t (suc (done + round)) (with_turn_taken t (machine_with g (done + round) xs k)) ns ys k
  back_ahead round count xs ns ys k numbered back = record {
    kernel = refl;
    transcripts = refl;
    ahead = record {
      count = parts_count (input_of g.inputs.items) 1 ys
          ∙ (back.count ∙ sym (length-map (parts_of (input_of g.inputs.items) 1 xs) turn ∙ parts_count (input_of g.inputs.items) 1 xs));
      each = each;
    };
    numbers = numbers;
    begun = back.begun;
  }
    where
      turn : PrivateState → PrivateState
      turn = take_turn program t (round_time_of g.tick.rounds (done + round))

      numbers : (i : ℕ) (o : PrivateState) → slice_get (map turn (parts_of (input_of g.inputs.items) 1 xs)) i ≡ Some o → o.number ≡ suc i
      numbers i o e =
          let was = map_got turn (parts_of (input_of g.inputs.items) 1 xs) i o e in
          let x = part_of g.inputs.items xs i was.0 was.1 in
          ap (λ (w : PrivateState). w.number) was.2
          ∙ (turn_number program g.tick.rounds t (done + round) was.0 ∙ (ap (λ (w : PrivateState). w.number) x.1.1 ∙ numbered i x.0 x.1.0))

      each : (i : ℕ) (o y : PrivateState) → slice_get (map turn (parts_of (input_of g.inputs.items) 1 xs)) i ≡ Some o
          → slice_get (parts_of (input_of g.inputs.items) 1 ys) i ≡ Some y
          → IsAhead program g.tick.rounds t (suc (done + round)) (turns_ahead ns i) o y
      each i o y e f =
          let was = map_got turn (parts_of (input_of g.inputs.items) 1 xs) i o e in
          let x = part_of g.inputs.items xs i was.0 was.1 in
          let z = part_of g.inputs.items ys i y f in
          let at : suc i - 1 ≡ i = omega arith in
          let next : done + suc round ≡ suc (done + round) = omega arith in
          let first : turned (round_time round) (private_of x.0 (input i)) ≡ o =
          turn_is round (private_of x.0 (input i))
          ∙ (ap (λ (l : List ℕ). turn (private_of x.0 l)) (course.inputs i) ∙ (ap turn (sym x.1.1) ∙ sym was.2)) in
          let last : private_of z.0 (input i) ≡ y = ap (private_of z.0) (course.inputs i) ∙ sym z.1.1 in
          let made : StaysWithoutKernel without_kernel turned round_time (suc round) (turns_ahead ns i) (turned (round_time round) (private_of x.0 (input i))) (private_of z.0 (input i)) =
          (back.taken i z.0 z.1.0).comes x.0 (ap (slice_get xs) at ∙ x.1.0) in
          subst (λ (r : ℕ). IsAhead program g.tick.rounds t r (turns_ahead ns i) o y) next
          (stays_ahead (suc round) (turns_ahead ns i) o y
          (subst (λ (u : PrivateState). StaysWithoutKernel without_kernel turned round_time (suc round) (turns_ahead ns i) u y) first
          (subst (λ (v : PrivateState). StaysWithoutKernel without_kernel turned round_time (suc round) (turns_ahead ns i) (turned (round_time round) (private_of x.0 (input i))) v) last made)))

-- ---- Room

pub fewer_bytes : (k : Kernel) (p n m : ℕ) → m ≤ n → HasRoomForBytes k p n → HasRoomForBytes k p m
fewer_bytes k p n m le h = λ v e. let room = h v e in omega (arith, room, le)

-- A process that rests for good has made all its turns.
pub idle_taken : (without_kernel : PrivateState → Bool) (turned : RoundTime → PrivateState → PrivateState) (round_time : ℕ → RoundTime) (input : List ℕ) (most round n process : ℕ)
    (xs : List Private) (y : Private) → 0 < process → slice_get xs (process - 1) ≡ Some y → AreNumbered xs → AllFree most xs → without_kernel (private_of y input) ≡ true
    → ((w : RoundTime) → turned w (private_of y input) ≡ private_of y input) → AreTaken (AreMade without_kernel turned round_time round (n + 1)) input most xs process y
idle_taken without_kernel turned round_time input most round n process xs y some at numbers free still same = record {
  number = let number = numbers (process - 1) y at in omega (arith, number, some);
  comes = λ x e. subst (λ (z : Private). AreMade without_kernel turned round_time round (n + 1) (private_of z input) (private_of y input)) (sym (is_here x e)) made;
  room = let room = free (process - 1) y at in omega (arith, room);
  short = λ x e. let long = ap (λ (z : Private). vec_len z.output) (is_here x e) in omega (arith, long);
  wide = let room = free (process - 1) y at in omega (arith, room);
}
  where
    is_here : (x : Private) → slice_get xs (process - 1) ≡ Some x → x ≡ y
    is_here x e = same_some x y (sym e ∙ at)

    stays : (r k : ℕ) → StaysWithoutKernel without_kernel turned round_time r k (private_of y input) (private_of y input)
    stays r zero = refl
    stays r (suc k) =
        (still, subst (λ (o : PrivateState). StaysWithoutKernel without_kernel turned round_time (suc r) k o (private_of y input)) (sym (same (round_time r))) (stays (suc r) k))

    made : AreMade without_kernel turned round_time round (n + 1) (private_of y input) (private_of y input)
    made =
        let one : suc n ≡ n + 1 = omega arith in
        subst (λ (k : ℕ). AreMade without_kernel turned round_time round k (private_of y input) (private_of y input)) one
        (subst (λ (o : PrivateState). StaysWithoutKernel without_kernel turned round_time (suc round) n o (private_of y input)) (sym (same (round_time round))) (stays (suc round) n))

-- With room for more rounds there is room for fewer.
pub ready_fewer : (most n m : ℕ) (xs : List Private) (k : Kernel) → n ≤ m → IsReadyFor most m xs k → IsReadyFor most n xs k
ready_fewer most n m xs k le ready = record {
  stages = ready.stages;
  asking = fewer_askers k (m * length xs) (n * length xs) (mul-le-mul_right (length xs) le) ready.asking;
  transcripts = λ i x e.
      let less = mul-le-mul_right (most + most) le in
      fewer_bytes k (suc i) (vec_len x.output + m * (most + most)) (vec_len x.output + n * (most + most)) (omega (arith, less)) (ready.transcripts i x e);
}

pub back_ready : (without_kernel : PrivateState → Bool) (turned : RoundTime → PrivateState → PrivateState) (round_time : ℕ → RoundTime) (input : ℕ → List ℕ) (most round later : ℕ)
    (xs : List Private) (ns : List ℕ) (ys : List Private) (k : Kernel) → IsReadyFor most (suc later) xs k
    → AreBack without_kernel turned round_time input most round (suc later) xs ns ys k → IsReadyAhead most later 0 ns ys k
back_ready without_kernel turned round_time input most round later xs ns ys k ready back = record {
  stages = ready.stages ∙ sym back.count;
  turns = back.turns;
  numbers = λ i y e. (back.taken i y e).number;
  few = λ i. let below = back.few i in omega (arith, below);
  asking = subst (HasRoomForAskers k) askers ready.asking;
  room = λ i y e. (back.taken i y e).room;
  wide = λ i y e. (back.taken i y e).wide;
  before = λ i y from e.
      let below = got_below ys i y e in
      let x = got_at xs i (omega (arith, below, back.count)) in
      let at : suc i - 1 ≡ i = omega arith in
      let short = (back.taken i y e).short x.0 (ap (slice_get xs) at ∙ x.1) in
      let times = suc-mul later (most + most) in
      fewer_bytes k (suc i) (vec_len x.0.output + suc later * (most + most)) ((vec_len y.output + most) + later * (most + most)) (omega (arith, short, times))
      (ready.transcripts i x.0 x.1);
  after = λ i y below e. absurd (omega (arith, below));
  empty = λ i y below none e. absurd (omega (arith, below));
}
  where
    askers : suc later * length xs ≡ (length ys - 0) + later * length ys
    askers = ap (λ (n : ℕ). suc later * n) (sym back.count) ∙ (suc-mul later (length ys) ∙ omega arith)
