-- How a machine's step stops: a fault changes no register and no frame, and only `End` ends a
-- process.
use Rattle.std.proofs.Common.{◌≡◌, ℕ, ℤ, pos, List, [], ◌∷◌, Bool, true, false, Option, Some, None, Result, Ok, Err, refl, sym, subst, ◌+◌}
use Rattle.std.specs.Prelude.{if◌then◌else◌, length, nat_lt, int_le, not, slice_get}
use Rattle.cp_model.specs.Integers.{same_integer}
use Rattle.cp_model.specs.Places.{within}
use Rattle.cp_model.specs.StandardCalls.{next_input}
use Rattle.cp_model.specs.StatementSteps.{is_past, next_counter}
use Rattle.cp_model.specs.declared.state.Fault as fault
use Rattle.cp_model.specs.declared.state.Fault.TheVariants as faults
use Rattle.cp_model_program.specs.Programs as op
use Rattle.cp_model_program.specs.Programs.{Call, CodeUnit, Counting, Operation, Program}
use Rattle.cp_model_program.specs.Starts.{unset, word}
use Rattle.cp_model_program.specs.Tables.{place_in}
use Rattle.cp_model_program.specs.Terms.{Argument}
use Rattle.cp_model_machine.specs.Calling.{Back, call_step, class_at, enter, gate_effect, has_room, init_class, init_monitor, init_process, leave, parameters_start, return_with, settle, start_words, with_frame, with_unit}
use Rattle.cp_model_machine.specs.Passing.{Called, Passing, component_called, monitor_called, pass_all, when_passed}
use Rattle.cp_model_machine.specs.PrivateStates as machine
use Rattle.cp_model_machine.specs.PrivateStates.{Acting, Effect, Frame, StepContext, PrivateState, fault_in, go_to, private_outcome, guard, set_temp, set_word, view_of, with_result}
use Rattle.cp_model_machine.specs.Steps as steps
use Rattle.cp_model_machine.specs.Steps.{act, count_to, go_to_arm}
use Rattle.cp_model_machine.specs.Values.{View, place_of, value_of}
use Rattle.cp_model_machine.specs.PartOf.{IsActive}
use Rattle.cp_model_machine.proofs.Effects.{HasFaulted, passed_words}

-- A step continues, faults where it is, or ends the process there.
pub data Stops (o : PrivateState) (y : Operation) (after : PrivateState) : Type 0 where
  On : IsActive after.activity → Stops o y after
  Fails : HasFaulted after.activity → after.base ≡ o.base → after.frames ≡ o.frames → Stops o y after
  Finishes : after.activity ≡ machine.Ended → y ≡ op.End → Stops o y after

module _ (program : Program) (w : StepContext) (o : PrivateState) (y : Operation) (running : o.activity ≡ machine.Running) where
  abbrev Ok' : Acting → Type 0
  Ok' r = Stops o y r.0

  abbrev v : View
  v = view_of w o

  goes : (x : PrivateState) → x.activity ≡ machine.Running → Stops o y x
  goes x e = On (subst IsActive (sym e) tt)

  with_result_stops : {A : Type 0} (r : Result A fault.Fault) (go : A → Acting) → ((x : A) → Ok' (go x)) → Ok' (with_result o r go)
  with_result_stops (Ok x) go h = h x
  with_result_stops (Err f) go h = Fails tt refl refl

  provided_stops : (b : Bool) (f : fault.Fault) (x : Acting) → Ok' x → Ok' (guard b o f x)
  provided_stops true f x h = h
  provided_stops false f x h = Fails tt refl refl

  either_stops : (b : Bool) (x z : Acting) → Ok' x → Ok' z → Ok' (if b then x else z)
  either_stops true x z h k = h
  either_stops false x z h k = k

  unit_stops : (call : Call) (component : ℕ) (go : CodeUnit → Acting) → ((u : CodeUnit) → Ok' (go u)) → Ok' (with_unit program w o call component go)
  unit_stops call component go h = by (slice_get program.units call.routine)
    where
      by : (x : Option CodeUnit) → Ok' (elim x as (λ z. Acting) [ None ↦ private_outcome o | Some u ↦ if has_room w o call u component then go u else private_outcome o ])
      by None = goes o running
      by (Some u) = either_stops (has_room w o call u component) (go u) (private_outcome o) (h u) (goes o running)

  passed_stops : (from to : ℕ) (xs : List Argument) (go : PrivateState → Acting) → ((us : List ℤ) → Ok' (go (record o { words = us }))) → Ok' (when_passed (pass_all w from to xs o) go)
  passed_stops from to xs go h = by (pass_all w from to xs o).fault
    where
      P : Passing
      P = pass_all w from to xs o

      by : (x : Option fault.Fault) → Ok' (elim x as (λ z. Acting) [ None ↦ go P.own | Some f ↦ fault_in P.own f ])
      by None = subst (λ z. Ok' (go z)) (sym (passed_words w from to xs o)) (h P.own.words)
      by (Some f) = subst (λ z. Ok' (fault_in z f)) (sym (passed_words w from to xs o)) (Fails tt refl refl)

  frame_stops : (fs : List Frame) (go : Frame → List Frame → Acting) → ((f : Frame) (gs : List Frame) → Ok' (go f gs)) → Ok' (with_frame o fs go)
  frame_stops [] go h = goes o running
  frame_stops (f ∷ fs) go h = h f fs

  return_stops : (changed : PrivateState) (f : Frame) (fs : List Frame) (function : Bool) (e : Effect) → changed.activity ≡ machine.Running → Ok' (return_with o changed f fs function e)
  return_stops changed f fs false e h = goes (leave changed f fs) h
  return_stops changed f fs true e h =
      either_stops (same_integer (word o.words o.base) unset) (fault_in o faults.NoResult) (leave (set_temp changed (f.temp + f.into) (word o.words o.base)) f fs, e) (Fails tt refl refl)
      (goes (leave (set_temp changed (f.temp + f.into) (word o.words o.base)) f fs) h)

  count_stops : (c : Counting) (n last : ℤ) → Ok' (count_to w o c n last)
  count_stops c n last = provided_stops (within c.low c.high n) _ _ (On (subst IsActive (sym running) tt))

  arm_stops : (at : Option ℕ) → Ok' (go_to_arm o at)
  arm_stops None = Fails tt refl refl
  arm_stops (Some place) = goes (go_to place o) running

  call_stops : (call : Call) (back : Back) → Ok' (call_step program w o call back)
  call_stops call back =
      let c = component_called program w o call.target in
      let to = o.base + call.words in
      unit_stops call c.component (λ u. guard c.is_set o faults.NotInitialised (when_passed (pass_all w to to call.arguments o) (entered u)))
      (λ u. provided_stops c.is_set faults.NotInitialised (when_passed (pass_all w to to call.arguments o) (entered u)) (passed_stops to to call.arguments (entered u) (λ us. On (subst IsActive (sym running) tt))))
    where
      entered : CodeUnit → PrivateState → Acting
      entered u p =
          (enter (start_words (o.base + call.words) u p) (component_called program w o call.target) u call back, gate_effect (component_called program w o call.target).gate machine.Enters)

  class_stops : (call : Call) (at next : ℕ) → Ok' (init_class program w o call at next)
  class_stops call at next =
      unit_stops call at (λ u. guard (same_integer (word o.words at) (pos 0)) o faults.InitialisedTwice (when_passed (pass_all w from at call.arguments o) (begun u)))
      (λ u. provided_stops (same_integer (word o.words at) (pos 0)) faults.InitialisedTwice (when_passed (pass_all w from at call.arguments o) (begun u))
      (passed_stops from at call.arguments (begun u) (λ us. On (subst IsActive (sym running) tt))))
    where
      from : ℕ
      from = o.base + call.words

      begun : CodeUnit → PrivateState → Acting
      begun u p = private_outcome (enter (set_word (settle p from at (length call.arguments)) at (pos 1)) (class_at at) u call (record { counter = next; into = 0 }))

  monitor_stops : (call : Call) (m next : ℕ) → Ok' (init_monitor program w o call m next)
  monitor_stops call m next =
      unit_stops call c.component (λ u. guard (not c.is_set) o faults.InitialisedTwice (when_passed (pass_all w from c.component call.arguments o) (begun u)))
      (λ u. provided_stops (not c.is_set) faults.InitialisedTwice (when_passed (pass_all w from c.component call.arguments o) (begun u))
      (passed_stops from c.component call.arguments (begun u) (λ us. On (subst IsActive (sym running) tt))))
    where
      c : Called
      c = monitor_called program w m

      from : ℕ
      from = o.base + call.words

      begun : CodeUnit → PrivateState → Acting
      begun u p = (enter (settle p from c.component (length call.arguments)) c u call (record { counter = next; into = 0 }), machine.Opens m)

  process_stops : (r : ℕ) (xs : List Argument) (words next : ℕ) → Ok' (init_process program w o r xs words next)
  process_stops r xs words next =
      let from = o.base + words in
      let to = w.own + parameters_start program r in
      provided_stops (not (w.is_started r)) faults.InitialisedTwice (when_passed (pass_all w from to xs o) started)
      (passed_stops from to xs started (λ us. On (subst IsActive (sym running) tt)))
    where
      started : PrivateState → Acting
      started p = (go_to next (settle p (o.base + words) (w.own + parameters_start program r) (length xs)), machine.Starts r)

  in_monitor_stops : (x : Acting) → Ok' x → Ok' (steps.in_monitor o x)
  in_monitor_stops x h = either_stops (steps.is_held o.gate) x (private_outcome o) h (goes o running)

  delay_stops : (at next : ℕ) → Ok' (steps.delay o at next)
  delay_stops at next =
      in_monitor_stops (if nat_lt at (length o.words) then guard (int_le (word o.words at) (pos 0)) o faults.QueueTaken represents else private_outcome o)
      (either_stops (nat_lt at (length o.words)) (guard (int_le (word o.words at) (pos 0)) o faults.QueueTaken represents) (private_outcome o)
      (provided_stops (int_le (word o.words at) (pos 0)) faults.QueueTaken represents (On (subst IsActive (sym running) tt))) (goes o running))
    where
      represents : Acting
      represents = (go_to next (set_word o at (pos o.number)), machine.Delays o.gate at)

  continue_stops : (at : ℕ) (function : Bool) → Ok' (steps.continue o at function)
  continue_stops at function =
      frame_stops o.frames resumed
      (λ f fs. either_stops (steps.is_held f.gate) (return_with o (set_word o at (pos 0)) f fs function (machine.Continues f.gate (word o.words at))) (private_outcome o)
      (return_stops (set_word o at (pos 0)) f fs function (machine.Continues f.gate (word o.words at)) running) (goes o running))
    where
      resumed : Frame → List Frame → Acting
      resumed f fs = if steps.is_held f.gate then return_with o (set_word o at (pos 0)) f fs function (machine.Continues f.gate (word o.words at)) else private_outcome o

-- One step of a running process.
pub act_stops : (program : Program) (w : StepContext) (o : PrivateState) (y : Operation) → o.activity ≡ machine.Running → Stops o y (act program w o y).0
act_stops program w o (op.Set to low high value n) r =
    let y = op.Set to low high value n in
    with_result_stops program w o y r (place_of (view_of w o) to) _ (λ at. with_result_stops program w o y r (value_of (view_of w o) value) _
    (λ z. provided_stops program w o y r (within low high z) _ _ (On (subst IsActive (sym r) tt))))
act_stops program w o (op.SetResult low high value n) r =
    let y = op.SetResult low high value n in
    with_result_stops program w o y r (value_of (view_of w o) value) _ (λ z. provided_stops program w o y r (within low high z) _ _ (On (subst IsActive (sym r) tt)))
act_stops program w o (op.CopyWords to from size n) r =
    let y = op.CopyWords to from size n in
    with_result_stops program w o y r (place_of (view_of w o) to) _ (λ at. with_result_stops program w o y r (place_of (view_of w o) from) _ (λ b. On (subst IsActive (sym r) tt)))
act_stops program w o (op.Test value yes' no') r = with_result_stops program w o (op.Test value yes' no') r (value_of (view_of w o) value) _ (λ z. On (subst IsActive (sym r) tt))
act_stops program w o (op.Case value table) r =
    with_result_stops program w o (op.Case value table) r (value_of (view_of w o) value) _ (λ z. arm_stops program w o (op.Case value table) r (place_in table z))
act_stops program w o (op.For c first last) r =
    let y = op.For c first last in
    with_result_stops program w o y r (value_of (view_of w o) first) _ (λ n. with_result_stops program w o y r (value_of (view_of w o) last) _
    (λ m. either_stops program w o y r (is_past c.down n m) (private_outcome (go_to c.next o)) (count_to w o c n m) (On (subst IsActive (sym r) tt)) (count_stops program w o y r c n m)))
act_stops program w o (op.ForNext c) r =
    let y = op.ForNext c in
    let n = word o.temps (o.temp + c.temp) in
    let last = word o.temps (o.temp + c.temp + 1) in
    either_stops program w o y r (same_integer n last) (private_outcome (go_to c.next o)) (count_to w o c (next_counter c.down n) last) (On (subst IsActive (sym r) tt))
    (count_stops program w o y r c (next_counter c.down n) last)
act_stops program w o (op.Cycle body) r = On (subst IsActive (sym r) tt)
act_stops program w o (op.Procedure call n) r = call_stops program w o (op.Procedure call n) r call (record { counter = n; into = 0 })
act_stops program w o (op.Function call into n) r = call_stops program w o (op.Function call into n) r call (record { counter = n; into = into })
act_stops program w o (op.Return function) r =
    frame_stops program w o (op.Return function) r o.frames _ (λ f fs. return_stops program w o (op.Return function) r o f fs function (gate_effect f.gate machine.Leaves) r)
act_stops program w o (op.InitClass call n) r = class_stops program w o (op.InitClass call n) r call (component_called program w o call.target).component n
act_stops program w o (op.InitMonitor call n) r = monitor_stops program w o (op.InitMonitor call n) r call (component_called program w o call.target).gate n
act_stops program w o (op.InitProcess p xs words n) r = process_stops program w o (op.InitProcess p xs words n) r p xs words n
act_stops program w o op.EndBody r = frame_stops program w o op.EndBody r o.frames _ (λ f fs. On (subst IsActive (sym r) tt))
act_stops program w o op.End r = Finishes refl refl
act_stops program w o (op.Display value as_byte n) r = with_result_stops program w o (op.Display value as_byte n) r (value_of (view_of w o) value) _ (λ z. On (subst IsActive (sym r) tt))
act_stops program w o (op.Accept to low high n) r =
    with_result_stops program w o (op.Accept to low high n) r (place_of (view_of w o) to) _
    (λ at. provided_stops program w o (op.Accept to low high n) r (within low high (next_input o.input o.consumed)) _ _ (On (subst IsActive (sym r) tt)))
act_stops program w o (op.Delay queue n) r = with_result_stops program w o (op.Delay queue n) r (place_of (view_of w o) queue) _ (λ at. delay_stops program w o (op.Delay queue n) r at n)
act_stops program w o (op.Continue queue function) r =
    with_result_stops program w o (op.Continue queue function) r (place_of (view_of w o) queue) _ (λ at. continue_stops program w o (op.Continue queue function) r at function)
act_stops program w o (op.Wait n) r = On tt
