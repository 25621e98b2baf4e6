-- No step changes the number of its process.
use Rattle.std.specs.Prelude.{◌≡◌, refl, ℕ, ◌+◌, ℤ, Bool, true, false, not, if◌then◌else◌, List, [], ◌∷◌, length, int_le, nat_lt, pos, Option, Some, None, Result, Ok, Err, slice_get}
use Rattle.cp_model.specs.Integers.{same_integer}
use Rattle.cp_model.specs.Places.{within}
use Rattle.cp_model.specs.StatementSteps.{is_past, next_counter}
use Rattle.cp_model.specs.declared.state.Fault.{Fault}
use Rattle.cp_model.specs.declared.state.Fault.TheVariants as fault
use Rattle.cp_model_program.specs.Programs as op
use Rattle.cp_model_program.specs.Programs.{Call, CodeUnit, Counting, Operation, Program}
use Rattle.cp_model_program.specs.Starts.{unset, word}
use Rattle.cp_model_program.specs.Tables.{place_in}
use Rattle.cp_model_program.specs.Terms.{Argument, Copy, Reference, Right, PlaceExpression, Term, Value}
use Rattle.cp_model_machine.specs.Calling.{Back, call_step, class_at, enter, gate_effect, has_room, leave, init_class, init_monitor, init_process, parameters_start, return_with, settle, start_words, with_frame, with_unit}
use Rattle.cp_model_machine.specs.Passing.{Passing, component_called, monitor_called, pass_all, pass_copy, pass_one, pass_result, pass_value, pass_word, reference_word, unless_fault, when_passed}
use Rattle.cp_model_machine.specs.PrivateStates.{Acting, Continues, Delays, Effect, Enters, Frame, Leaves, Opens, StepContext, PrivateState, Starts, fault_in, go_to, guard, private_outcome, set_word, view_of, with_result}
use Rattle.cp_model.specs.StandardCalls.{next_input, next_place}
use Rattle.cp_model_machine.specs.Values.{place_of, value_of}
use Rattle.cp_model_machine.specs.Steps.{accept, act, act_on, continue, copy_words, count_to, delay, display, first_count, go_to_arm, is_held, next_count, operation_of, set_within, step_with, with_place, with_value}

-- ---- What the steps are made of

pub record Keeps (n : ℕ) (r : Acting) : Type 0 where
  pub number : r.0.number ≡ n

module _ (n : ℕ) where
  guard_keeps : (b : Bool) (o : PrivateState) (f : Fault) (x : Acting) → o.number ≡ n → Keeps n x → Keeps n (guard b o f x)
  guard_keeps true o f x is h = h
  guard_keeps false o f x is h = record { number = is }

  result_keeps : {A : Type 0} (o : PrivateState) (r : Result A Fault) (go : A → Acting) → o.number ≡ n → ((x : A) → Keeps n (go x)) → Keeps n (with_result o r go)
  result_keeps o (Ok x) go is h = h x
  result_keeps o (Err f) go is h = record { number = is }

  choice_keeps : (b : Bool) (x y : Acting) → Keeps n x → Keeps n y → Keeps n (if b then x else y)
  choice_keeps true x y h k = h
  choice_keeps false x y h k = k

  frame_keeps : (o : PrivateState) (fs : List Frame) (go : Frame → List Frame → Acting) → o.number ≡ n → ((f : Frame) (fs : List Frame) → Keeps n (go f fs))
      → Keeps n (with_frame o fs go)
  frame_keeps o [] go is h = record { number = is }
  frame_keeps o (f ∷ fs) go is h = h f fs

  return_keeps : (o changed : PrivateState) (f : Frame) (fs : List Frame) (function : Bool) (e : Effect) → o.number ≡ n → changed.number ≡ n
      → Keeps n (return_with o changed f fs function e)
  return_keeps o changed f fs false e is h = record { number = h }
  return_keeps o changed f fs true e is h = choice_keeps (same_integer (word o.words o.base) unset) _ _ (record { number = is }) (record { number = h })

  -- ---- Arguments

  abbrev KeepsPassed : Passing → Type 0
  KeepsPassed p = p.own.number ≡ n

  choice_passes : (b : Bool) (p q : Passing) → KeepsPassed p → KeepsPassed q → KeepsPassed (if b then p else q)
  choice_passes true p q h k = h
  choice_passes false p q h k = k

  value_passes : (o : PrivateState) (at : ℕ) (low high m : ℤ) → o.number ≡ n → KeepsPassed (pass_value o at low high m)
  value_passes o at low high m is = choice_passes (within low high m) (pass_word o at m) (record { own = o; fault = Some fault.Range }) is is

  result_passes : {A : Type 0} (o : PrivateState) (r : Result A Fault) (go : A → Passing) → o.number ≡ n → ((x : A) → KeepsPassed (go x))
      → KeepsPassed (pass_result o r go)
  result_passes o (Ok x) go is h = h x
  result_passes o (Err f) go is h = is

  argument_passes : (w : StepContext) (to home : ℕ) (o : PrivateState) (x : Argument) → o.number ≡ n → KeepsPassed (pass_one w to home o x)
  argument_passes w to home o (Value at low high e) is =
      result_passes o (value_of (view_of w o) e) (λ m. pass_value o (to + at) low high m) is (λ m. value_passes o (to + at) low high m is)
  argument_passes w to home o (Copy at size from) is =
      result_passes o (place_of (view_of w o) from) (λ a. pass_copy o (to + at) size a) is (λ a. is)
  argument_passes w to home o (Reference at s) is =
      result_passes o (place_of (view_of w o) s) (λ a. pass_word o (to + at) (reference_word o a)) is (λ a. is)
  argument_passes w to home o (Right at t) is = is

  arguments_pass : (w : StepContext) (to home : ℕ) (xs : List Argument) (o : PrivateState) → o.number ≡ n → KeepsPassed (pass_all w to home xs o)
  arguments_pass w to home [] o is = is
  arguments_pass w to home (x ∷ xs) o is = by (pass_one w to home o x) (argument_passes w to home o x is) (λ q. arguments_pass w to home xs q)
    where
      on : (p : Passing) (r : Option Fault) → KeepsPassed p → ((q : PrivateState) → q.number ≡ n → KeepsPassed (pass_all w to home xs q))
          → KeepsPassed (elim r [ None ↦ pass_all w to home xs p.own | Some f ↦ p ])
      on p None h more = more p.own h
      on p (Some f) h more = h

      by : (p : Passing) → KeepsPassed p → ((q : PrivateState) → q.number ≡ n → KeepsPassed (pass_all w to home xs q))
          → KeepsPassed (unless_fault p (pass_all w to home xs))
      by p h more = on p p.fault h more

  passing_keeps : (p : Passing) (go : PrivateState → Acting) → KeepsPassed p → ((o : PrivateState) → o.number ≡ n → Keeps n (go o)) → Keeps n (when_passed p go)
  passing_keeps p go h more = by p.fault
    where
      by : (r : Option Fault) → Keeps n (elim r [ None ↦ go p.own | Some f ↦ fault_in p.own f ])
      by None = more p.own h
      by (Some f) = record { number = h }

  -- ---- Calls

  unit_keeps : (program : Program) (w : StepContext) (o : PrivateState) (call : Call) (component : ℕ) (go : CodeUnit → Acting) → o.number ≡ n
      → ((u : CodeUnit) → Keeps n (go u)) → Keeps n (with_unit program w o call component go)
  unit_keeps program w o call component go is h = by (slice_get program.units call.routine)
    where
      by : (r : Option CodeUnit)
          → Keeps n (elim r [ None ↦ private_outcome o | Some u ↦ if has_room w o call u component then go u else private_outcome o ])
      by None = record { number = is }
      by (Some u) = choice_keeps (has_room w o call u component) _ _ (h u) (record { number = is })

  call_keeps : (program : Program) (w : StepContext) (o : PrivateState) (call : Call) (back : Back) → o.number ≡ n → Keeps n (call_step program w o call back)
  call_keeps program w o call back is =
      let c = component_called program w o call.target in
      let to = o.base + call.words in
      unit_keeps program w o call c.component _ is (λ u.
      guard_keeps c.is_set o fault.NotInitialised _ is
      (passing_keeps (pass_all w to to call.arguments o) (λ p. (enter (start_words to u p) c u call back, gate_effect c.gate Enters))
      (arguments_pass w to to call.arguments o is) (λ p h. record { number = h })))

  class_keeps : (program : Program) (w : StepContext) (o : PrivateState) (call : Call) (at next : ℕ) → o.number ≡ n → Keeps n (init_class program w o call at next)
  class_keeps program w o call at next is =
      let from = o.base + call.words in
      unit_keeps program w o call at _ is (λ u.
      guard_keeps (same_integer (word o.words at) (pos 0)) o fault.InitialisedTwice _ is
      (passing_keeps (pass_all w from at call.arguments o)
      (λ p. private_outcome
      (enter (set_word (settle p from at (length call.arguments)) at (pos 1)) (class_at at) u call (record { counter = next; into = 0 })))
      (arguments_pass w from at call.arguments o is) (λ p h. record { number = h })))

  monitor_keeps : (program : Program) (w : StepContext) (o : PrivateState) (call : Call) (m next : ℕ) → o.number ≡ n → Keeps n (init_monitor program w o call m next)
  monitor_keeps program w o call m next is =
      let c = monitor_called program w m in
      let from = o.base + call.words in
      unit_keeps program w o call c.component _ is (λ u.
      guard_keeps (not c.is_set) o fault.InitialisedTwice _ is
      (passing_keeps (pass_all w from c.component call.arguments o)
      (λ p. (enter (settle p from c.component (length call.arguments)) c u call (record { counter = next; into = 0 }), Opens m))
      (arguments_pass w from c.component call.arguments o is) (λ p h. record { number = h })))

  process_keeps : (program : Program) (w : StepContext) (o : PrivateState) (r : ℕ) (xs : List Argument) (words next : ℕ) → o.number ≡ n
      → Keeps n (init_process program w o r xs words next)
  process_keeps program w o r xs words next is =
      let from = o.base + words in
      let to = w.own + parameters_start program r in
      guard_keeps (not (w.is_started r)) o fault.InitialisedTwice _ is
      (passing_keeps (pass_all w from to xs o) (λ p. (go_to next (settle p from to (length xs)), Starts r))
      (arguments_pass w from to xs o is) (λ p h. record { number = h }))

  -- ---- Operations

  count_keeps : (w : StepContext) (o : PrivateState) (c : Counting) (m last : ℤ) → o.number ≡ n → Keeps n (count_to w o c m last)
  count_keeps w o c m last is = guard_keeps (within c.low c.high m) o fault.Range _ is (record { number = is })

  arm_keeps : (o : PrivateState) (r : Option ℕ) → o.number ≡ n → Keeps n (go_to_arm o r)
  arm_keeps o None is = record { number = is }
  arm_keeps o (Some place) is = record { number = is }

  value_keeps : (w : StepContext) (o : PrivateState) (e : Term) (go : ℤ → Acting) → o.number ≡ n → ((m : ℤ) → Keeps n (go m)) → Keeps n (with_value w o e go)
  value_keeps w o e go is h = result_keeps o (value_of (view_of w o) e) go is h

  place_keeps : (w : StepContext) (o : PrivateState) (s : PlaceExpression) (go : ℕ → Acting) → o.number ≡ n → ((at : ℕ) → Keeps n (go at)) → Keeps n (with_place w o s go)
  place_keeps w o s go is h = result_keeps o (place_of (view_of w o) s) go is h

  set_keeps : (o : PrivateState) (low high : ℤ) (at : ℕ) (m : ℤ) (next : ℕ) → o.number ≡ n → Keeps n (set_within o low high at m next)
  set_keeps o low high at m next is =
      guard_keeps (within low high m) o fault.Range (private_outcome (go_to next (set_word o at m))) is (record { number = is })

  first_count_keeps : (w : StepContext) (o : PrivateState) (c : Counting) (m k : ℤ) → o.number ≡ n → Keeps n (first_count w o c m k)
  first_count_keeps w o c m k is =
      choice_keeps (is_past c.down m k) (private_outcome (go_to c.next o)) (count_to w o c m k) (record { number = is }) (count_keeps w o c m k is)

  next_count_keeps : (w : StepContext) (o : PrivateState) (c : Counting) (m k : ℤ) → o.number ≡ n → Keeps n (next_count w o c m k)
  next_count_keeps w o c m k is =
      choice_keeps (same_integer m k) (private_outcome (go_to c.next o)) (count_to w o c (next_counter c.down m) k) (record { number = is })
      (count_keeps w o c (next_counter c.down m) k is)

  accept_keeps : (o : PrivateState) (at : ℕ) (low high : ℤ) (next : ℕ) → o.number ≡ n → Keeps n (accept o at low high next)
  accept_keeps o at low high next is =
      let m = next_input o.input o.consumed in
      guard_keeps (within low high m) o fault.Range
      (private_outcome (go_to next (record (set_word o at m) { consumed = next_place o.input o.consumed }))) is (record { number = is })

  delay_keeps : (o : PrivateState) (at next : ℕ) → o.number ≡ n → Keeps n (delay o at next)
  delay_keeps o at next is =
      let put : Acting = (go_to next (set_word o at (pos o.number)), Delays o.gate at) in
      let free = int_le (word o.words at) (pos 0) in
      let x = guard free o fault.QueueTaken put in
      choice_keeps (is_held o.gate) (if nat_lt at (length o.words) then x else private_outcome o) (private_outcome o)
      (choice_keeps (nat_lt at (length o.words)) x (private_outcome o)
      (guard_keeps free o fault.QueueTaken put is (record { number = is })) (record { number = is }))
      (record { number = is })

  continue_keeps : (o : PrivateState) (at : ℕ) (function : Bool) → o.number ≡ n → Keeps n (continue o at function)
  continue_keeps o at function is =
      let left = λ (f : Frame) (fs : List Frame). return_with o (set_word o at (pos 0)) f fs function (Continues f.gate (word o.words at)) in
      frame_keeps o o.frames (λ f fs. if is_held f.gate then left f fs else private_outcome o) is (λ f fs.
      choice_keeps (is_held f.gate) (left f fs) (private_outcome o)
      (return_keeps o (set_word o at (pos 0)) f fs function (Continues f.gate (word o.words at)) is is) (record { number = is }))

  act_keeps : (program : Program) (w : StepContext) (o : PrivateState) (x : Operation) → o.number ≡ n → Keeps n (act program w o x)
  act_keeps program w o (op.Set to low high value next) is =
      place_keeps w o to (λ at. with_value w o value (λ m. set_within o low high at m next)) is (λ at.
      value_keeps w o value (λ m. set_within o low high at m next) is (λ m. set_keeps o low high at m next is))
  act_keeps program w o (op.SetResult low high value next) is =
      value_keeps w o value (λ m. set_within o low high o.base m next) is (λ m. set_keeps o low high o.base m next is)
  act_keeps program w o (op.CopyWords to from size next) is =
      place_keeps w o to (λ at. with_place w o from (λ b. copy_words o at b size next)) is (λ at.
      place_keeps w o from (λ b. copy_words o at b size next) is (λ b. record { number = is }))
  act_keeps program w o (op.Test value yes' no') is =
      value_keeps w o value (λ m. private_outcome (go_to (if same_integer m (pos 1) then yes' else no') o)) is (λ m. record { number = is })
  act_keeps program w o (op.Case value table) is = value_keeps w o value (λ m. go_to_arm o (place_in table m)) is (λ m. arm_keeps o (place_in table m) is)
  act_keeps program w o (op.For c first last) is =
      value_keeps w o first (λ m. with_value w o last (λ k. first_count w o c m k)) is (λ m.
      value_keeps w o last (λ k. first_count w o c m k) is (λ k. first_count_keeps w o c m k is))
  act_keeps program w o (op.ForNext c) is = next_count_keeps w o c (word o.temps (o.temp + c.temp)) (word o.temps (o.temp + c.temp + 1)) is
  act_keeps program w o (op.Cycle body) is = record { number = is }
  act_keeps program w o (op.Procedure call next) is = call_keeps program w o call (record { counter = next; into = 0 }) is
  act_keeps program w o (op.Function call into next) is = call_keeps program w o call (record { counter = next; into = into }) is
  act_keeps program w o (op.Return function) is =
      frame_keeps o o.frames (λ f fs. return_with o o f fs function (gate_effect f.gate Leaves)) is (λ f fs.
      return_keeps o o f fs function (gate_effect f.gate Leaves) is is)
  act_keeps program w o (op.InitClass call next) is = class_keeps program w o call (component_called program w o call.target).component next is
  act_keeps program w o (op.InitMonitor call next) is = monitor_keeps program w o call (component_called program w o call.target).gate next is
  act_keeps program w o (op.InitProcess r arguments words next) is = process_keeps program w o r arguments words next is
  act_keeps program w o op.EndBody is =
      frame_keeps o o.frames (λ f fs. (leave o f fs, gate_effect f.gate Leaves)) is (λ f fs. record { number = is })
  act_keeps program w o op.End is = record { number = is }
  act_keeps program w o (op.Display value as_byte next) is = value_keeps w o value (λ m. display o m as_byte next) is (λ m. record { number = is })
  act_keeps program w o (op.Accept to low high next) is =
      place_keeps w o to (λ at. accept o at low high next) is (λ at. accept_keeps o at low high next is)
  act_keeps program w o (op.Delay queue next) is = place_keeps w o queue (λ at. delay o at next) is (λ at. delay_keeps o at next is)
  act_keeps program w o (op.Continue queue function) is =
      place_keeps w o queue (λ at. continue o at function) is (λ at. continue_keeps o at function is)
  act_keeps program w o (op.Wait next) is = record { number = is }

pub step_keeps_number : (program : Program) (w : StepContext) (o : PrivateState) → (step_with program w o).0.number ≡ o.number
step_keeps_number program w o = by (operation_of program o)
  where
    by : (r : Option Operation) → (act_on program w o r).0.number ≡ o.number
    by None = refl
    by (Some x) = (act_keeps o.number program w o x refl).number
