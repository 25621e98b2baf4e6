-- An operation of a program that doesn't use the clock does the same at any time and with any output.
--
-- This is read off each operation: it has the same effect and leaves the same words. A process begins to
-- wait only by the operation that such a program doesn't have.
use Rattle.std.specs.Prelude.{◌≡◌, refl, ℕ, ◌+◌, ◌*◌, neg_ℤ, ℤ, Bool, true, false, not, if◌then◌else◌, List, [], ◌∷◌, length, int_le, nat_lt, pos, Option, Some, None, Result, Ok, Err, slice_get}
use Rattle.std.proofs.Common.{ap, subst, sym}
use Rattle.std.proofs.lemmas.Bool.{true≢false}
use Rattle.cp_model.specs.Integers.{same_integer}
use Rattle.cp_model.specs.Places.{within}
use Rattle.cp_model.specs.StandardCalls.{next_input}
use Rattle.cp_model.specs.StatementSteps.{is_past, next_counter}
use Rattle.cp_model.specs.declared.state.Fault.{Fault}
use Rattle.cp_model.specs.declared.state.Fault.TheVariants as fault
use Rattle.cp_model_program.specs.Functions.{in_range, standard, unless}
use Rattle.cp_model_program.specs.Layout.{distance}
use Rattle.cp_model_program.specs.Programs as op
use Rattle.cp_model_program.specs.Programs.{Call, CodeUnit, Counting, Operation, Program}
use Rattle.cp_model_program.specs.Starts.{unset, word}
use Rattle.cp_model_program.specs.Tables.{place_in}
use Rattle.cp_model_program.specs.Terms as target
use Rattle.cp_model_program.specs.Terms.{Argument, Binary, Copy, Element, Empty, Item, Made, Negative, Not, Number, Realtime, Reference, Right, Rooted, PlaceExpression, Standard, Target, Term, Value}
use Rattle.cp_model_machine.specs.Calling.{Back, call_step, class_at, enter, gate_effect, has_room, init_class, init_monitor, init_process, parameters_start, return_with, settle, start_words, with_frame, with_unit}
use Rattle.cp_model_machine.specs.Passing.{Called, Passing, component_called, monitor_called, pass_all, pass_copy, pass_one, pass_result, pass_value, pass_word, reference_word, right_word, unless_fault, when_passed}
use Rattle.cp_model_machine.specs.PrivateStates.{Acting, Activity, Continues, Effect, Ended, Enters, Faulted, Frame, Leaves, Opens, StepContext, PrivateState, Starts, fault_in, go_to, guard, private_outcome, set_temp, set_word, view_of, with_result}
use Rattle.cp_model_machine.specs.Values.{View, apply, bind, place_of, root_place, truth, value_of}
use Rattle.cp_model_machine.specs.Steps.{accept, act, continue, count_to, delay, first_count, go_to_arm, is_held, next_count, set_within, with_place, with_value}
use Rattle.cp_law_cores.specs.Clocks.{argument_is_timeless, arguments_are_timeless, operation_is_timeless, place_expression_is_timeless, term_is_timeless}
use Rattle.cp_law_cores.specs.Cores.{silent}

-- ---- Tests

pub both : (a b : Bool) → (if a then b else false) ≡ true → (a ≡ true) × (b ≡ true)
both true b h = (refl, h)
both false b h = absurd (true≢false (sym h))

-- ---- Terms

abbrev at_clock : ℕ → View → View
at_clock c v = record v { clock = c }

mutual
  same_value : (c : ℕ) (v : View) (e : Term) → term_is_timeless e ≡ true → value_of (at_clock c v) e ≡ value_of v e
  same_value c v (Number n) h = refl
  same_value c v (Made t) h = refl
  same_value c v (Item s) h = ap (λ r. bind r (λ a. Ok (word v.words a))) (same_place c v s h)
  same_value c v (Not e) h = ap (λ r. bind r (λ n. Ok (truth (same_integer n (pos 0))))) (same_value c v e h)
  same_value c v (Negative e) h = ap (λ r. bind r (λ n. in_range (neg_ℤ n))) (same_value c v e h)
  same_value c v (Binary o a b) h =
      let each = both (term_is_timeless a) (term_is_timeless b) h in
      let first = same_value c v a each.0 in
      let second = same_value c v b each.1 in
      λ i. bind (first i) (λ x. bind (second i) (λ y. apply o x y))
  same_value c v (Standard f e) h = ap (λ r. bind r (standard f)) (same_value c v e h)
  same_value c v (Empty s) h = ap (λ r. bind r (λ a. Ok (truth (int_le (word v.words a) (pos 0))))) (same_place c v s h)
  same_value c v Realtime h = absurd (true≢false (sym h))

  same_place : (c : ℕ) (v : View) (s : PlaceExpression) → place_expression_is_timeless s ≡ true → place_of (at_clock c v) s ≡ place_of v s
  same_place c v (Rooted (target.Local at)) h = refl
  same_place c v (Rooted (target.Member at)) h = refl
  same_place c v (Rooted (target.Through at plus)) h = refl
  same_place c v (Element s low high size plus e) h =
      let each = both (place_expression_is_timeless s) (term_is_timeless e) h in
      let first = same_place c v s each.0 in
      let second = same_value c v e each.1 in
      λ i. bind (first i) (λ a. bind (second i) (λ n. unless (within low high n) fault.Index (a + (distance low n * size + plus))))

-- ---- What the steps are made of

-- `W` represents a test of activities that neither a fault nor an end passes.
module _ (W : Activity → Bool) (faulted : (f : Fault) → W (Faulted f) ≡ false) (ended : W Ended ≡ false) (c : ℕ) (written : List ℕ) where
  abbrev at : StepContext → StepContext
  at w = record w { clock = c }

  abbrev moved : PrivateState → PrivateState
  moved o = record o { output = written }

  -- Both do the same, except for what was written, and nobody begins to pass the test.
  pub record Alike (r' r : Acting) : Type 0 where
    pub same : silent r'.0 ≡ silent r.0
    pub effect : r'.1 ≡ r.1
    pub awake : W r.0.activity ≡ false

  abbrev IsAwake : PrivateState → Type 0
  IsAwake o = W o.activity ≡ false

  guard_alike : (b : Bool) (o : PrivateState) (f : Fault) (x' x : Acting) → Alike x' x → Alike (guard b (moved o) f x') (guard b o f x)
  guard_alike true o f x' x h = h
  guard_alike false o f x' x h = record { same = refl; effect = refl; awake = faulted f }

  result_alike : {A : Type 0} (o : PrivateState) (r' r : Result A Fault) (go' go : A → Acting) → r' ≡ r → ((x : A) → Alike (go' x) (go x))
      → Alike (with_result (moved o) r' go') (with_result o r go)
  result_alike o r' r go' go e h = subst (λ x. Alike (with_result (moved o) x go') (with_result o r go)) (sym e) (by r)
    where
      by : (x : Result _ Fault) → Alike (with_result (moved o) x go') (with_result o x go)
      by (Ok x) = h x
      by (Err f) = record { same = refl; effect = refl; awake = faulted f }

  choice_alike : (b : Bool) (x' y' x y : Acting) → Alike x' x → Alike y' y → Alike (if b then x' else y') (if b then x else y)
  choice_alike true x' y' x y h k = h
  choice_alike false x' y' x y h k = k

  frame_alike : (o : PrivateState) (fs : List Frame) (go' go : Frame → List Frame → Acting) → IsAwake o
      → ((f : Frame) (fs : List Frame) → Alike (go' f fs) (go f fs)) → Alike (with_frame (moved o) fs go') (with_frame o fs go)
  frame_alike o [] go' go is h = record { same = refl; effect = refl; awake = is }
  frame_alike o (f ∷ fs) go' go is h = h f fs

  return_alike : (o changed : PrivateState) (f : Frame) (fs : List Frame) (function : Bool) (e : Effect) → IsAwake changed
      → Alike (return_with (moved o) (moved changed) f fs function e) (return_with o changed f fs function e)
  return_alike o changed f fs false e is = record { same = refl; effect = refl; awake = is }
  return_alike o changed f fs true e is =
      choice_alike (same_integer (word o.words o.base) unset) _ _ _ _ (record { same = refl; effect = refl; awake = faulted fault.NoResult })
      (record { same = refl; effect = refl; awake = is })

  value_alike : (w : StepContext) (o : PrivateState) (e : Term) (go' go : ℤ → Acting) → term_is_timeless e ≡ true → ((m : ℤ) → Alike (go' m) (go m))
      → Alike (with_value (at w) (moved o) e go') (with_value w o e go)
  value_alike w o e go' go t h = result_alike o _ (value_of (view_of w o) e) go' go (same_value c (view_of w o) e t) h

  place_alike : (w : StepContext) (o : PrivateState) (s : PlaceExpression) (go' go : ℕ → Acting) → place_expression_is_timeless s ≡ true → ((a : ℕ) → Alike (go' a) (go a))
      → Alike (with_place (at w) (moved o) s go') (with_place w o s go)
  place_alike w o s go' go t h = result_alike o _ (place_of (view_of w o) s) go' go (same_place c (view_of w o) s t) h

  -- ---- Arguments

  abbrev loud : Passing → Passing
  loud p = record { own = moved p.own; fault = p.fault }

  record PassAlike (p' p : Passing) : Type 0 where
    same : p' ≡ loud p
    awake : IsAwake p.own

  choice_passes : (b : Bool) (p' q' p q : Passing) → PassAlike p' p → PassAlike q' q → PassAlike (if b then p' else q') (if b then p else q)
  choice_passes true p' q' p q h k = h
  choice_passes false p' q' p q h k = k

  value_passes : (o : PrivateState) (a : ℕ) (low high m : ℤ) → IsAwake o → PassAlike (pass_value (moved o) a low high m) (pass_value o a low high m)
  value_passes o a low high m is =
      choice_passes (within low high m) _ _ (pass_word o a m) (record { own = o; fault = Some fault.Range }) (record { same = refl; awake = is })
      (record { same = refl; awake = is })

  result_passes : {A : Type 0} (o : PrivateState) (r' r : Result A Fault) (go' go : A → Passing) → IsAwake o → r' ≡ r → ((x : A) → PassAlike (go' x) (go x))
      → PassAlike (pass_result (moved o) r' go') (pass_result o r go)
  result_passes o r' r go' go is e h = subst (λ x. PassAlike (pass_result (moved o) x go') (pass_result o r go)) (sym e) (by r)
    where
      by : (x : Result _ Fault) → PassAlike (pass_result (moved o) x go') (pass_result o x go)
      by (Ok x) = h x
      by (Err f) = record { same = refl; awake = is }

  same_right : (o : PrivateState) (a : ℕ) (t : Target) → right_word (moved o) a t ≡ right_word o a t
  same_right o a target.Own = refl
  same_right o a (target.Class n) = refl
  same_right o a (target.ClassRight n) = refl
  same_right o a (target.Monitor m) = refl
  same_right o a (target.MonitorRight n) = refl

  argument_passes : (w : StepContext) (to home : ℕ) (o : PrivateState) (x : Argument) → argument_is_timeless x ≡ true → IsAwake o
      → PassAlike (pass_one (at w) to home (moved o) x) (pass_one w to home o x)
  argument_passes w to home o (Value a low high e) t is =
      result_passes o _ (value_of (view_of w o) e) _ (λ m. pass_value o (to + a) low high m) is (same_value c (view_of w o) e t)
      (λ m. value_passes o (to + a) low high m is)
  argument_passes w to home o (Copy a size from) t is =
      result_passes o _ (place_of (view_of w o) from) _ (λ n. pass_copy o (to + a) size n) is (same_place c (view_of w o) from t)
      (λ n. record { same = refl; awake = is })
  argument_passes w to home o (Reference a s) t is =
      result_passes o _ (place_of (view_of w o) s) _ (λ n. pass_word o (to + a) (reference_word o n)) is (same_place c (view_of w o) s t)
      (λ n. record { same = refl; awake = is })
  argument_passes w to home o (Right a t) h is =
      record { same = ap (λ n. pass_word (moved o) (to + a) n) (same_right o (home + a) t); awake = is }

  arguments_pass : (w : StepContext) (to home : ℕ) (xs : List Argument) (o : PrivateState) → arguments_are_timeless xs ≡ true → IsAwake o
      → PassAlike (pass_all (at w) to home xs (moved o)) (pass_all w to home xs o)
  arguments_pass w to home [] o t is = record { same = refl; awake = is }
  arguments_pass w to home (x ∷ xs) o t is =
      let each = both (argument_is_timeless x) (arguments_are_timeless xs) t in
      by (pass_one (at w) to home (moved o) x) (pass_one w to home o x) (argument_passes w to home o x each.0 is)
      (λ q. arguments_pass w to home xs q each.1)
    where
      on : (p : Passing) (r : Option Fault) → IsAwake p.own
          → ((q : PrivateState) → IsAwake q → PassAlike (pass_all (at w) to home xs (moved q)) (pass_all w to home xs q))
          → PassAlike (elim r [ None ↦ pass_all (at w) to home xs (moved p.own) | Some f ↦ loud p ]) (elim r [ None ↦ pass_all w to home xs p.own | Some f ↦ p ])
      on p None h more = more p.own h
      on p (Some f) h more = record { same = refl; awake = h }

      by : (p' p : Passing) → PassAlike p' p
          → ((q : PrivateState) → IsAwake q → PassAlike (pass_all (at w) to home xs (moved q)) (pass_all w to home xs q))
          → PassAlike (unless_fault p' (pass_all (at w) to home xs)) (unless_fault p (pass_all w to home xs))
      by p' p h more =
          subst (λ z. PassAlike (unless_fault z (pass_all (at w) to home xs)) (unless_fault p (pass_all w to home xs))) (sym h.same)
          (on p p.fault h.awake more)

  passing_alike : (p' p : Passing) (go : PrivateState → Acting) → PassAlike p' p → ((o : PrivateState) → IsAwake o → Alike (go (moved o)) (go o))
      → Alike (when_passed p' go) (when_passed p go)
  passing_alike p' p go h more = subst (λ z. Alike (when_passed z go) (when_passed p go)) (sym h.same) (by p.fault)
    where
      by : (r : Option Fault) → Alike (elim r [ None ↦ go (moved p.own) | Some f ↦ fault_in (moved p.own) f ]) (elim r [ None ↦ go p.own | Some f ↦ fault_in p.own f ])
      by None = more p.own h.awake
      by (Some f) = record { same = refl; effect = refl; awake = faulted f }

  -- ---- Calls

  same_called : (program : Program) (w : StepContext) (o : PrivateState) (t : Target) → component_called program (at w) (moved o) t ≡ component_called program w o t
  same_called program w o target.Own = refl
  same_called program w o (target.Class n) = refl
  same_called program w o (target.ClassRight n) = refl
  same_called program w o (target.Monitor m) = refl
  same_called program w o (target.MonitorRight n) = refl

  unit_alike : (program : Program) (w : StepContext) (o : PrivateState) (call : Call) (component : ℕ) (go' go : CodeUnit → Acting) → IsAwake o
      → ((u : CodeUnit) → Alike (go' u) (go u)) → Alike (with_unit program (at w) (moved o) call component go') (with_unit program w o call component go)
  unit_alike program w o call component go' go is h = by (slice_get program.units call.routine)
    where
      by : (r : Option CodeUnit)
          → Alike (elim r [ None ↦ private_outcome (moved o) | Some u ↦ if has_room (at w) (moved o) call u component then go' u else private_outcome (moved o) ])
          (elim r [ None ↦ private_outcome o | Some u ↦ if has_room w o call u component then go u else private_outcome o ])
      by None = record { same = refl; effect = refl; awake = is }
      by (Some u) = choice_alike (has_room w o call u component) _ _ _ _ (h u) (record { same = refl; effect = refl; awake = is })

  abbrev call_to : Program → StepContext → PrivateState → Call → Back → Called → Acting
  call_to program w o call back z =
      with_unit program w o call z.component (λ u.
      guard z.is_set o fault.NotInitialised
      (when_passed (pass_all w (o.base + call.words) (o.base + call.words) call.arguments o) (λ p.
      (enter (start_words (o.base + call.words) u p) z u call back, gate_effect z.gate Enters))))

  call_alike : (program : Program) (w : StepContext) (o : PrivateState) (call : Call) (back : Back) → arguments_are_timeless call.arguments ≡ true → IsAwake o
      → Alike (call_step program (at w) (moved o) call back) (call_step program w o call back)
  call_alike program w o call back t is =
      let z = component_called program w o call.target in
      let to = o.base + call.words in
      subst (λ y. Alike (call_to program (at w) (moved o) call back y) (call_step program w o call back)) (sym (same_called program w o call.target))
      (unit_alike program w o call z.component _ _ is (λ u.
      guard_alike z.is_set o fault.NotInitialised _ _
      (passing_alike _ (pass_all w to to call.arguments o) (λ p. (enter (start_words to u p) z u call back, gate_effect z.gate Enters))
      (arguments_pass w to to call.arguments o t is) (λ p h. record { same = refl; effect = refl; awake = h }))))

  class_alike : (program : Program) (w : StepContext) (o : PrivateState) (call : Call) (a next : ℕ) → arguments_are_timeless call.arguments ≡ true → IsAwake o
      → Alike (init_class program (at w) (moved o) call a next) (init_class program w o call a next)
  class_alike program w o call a next t is =
      let from = o.base + call.words in
      unit_alike program w o call a _ _ is (λ u.
      guard_alike (same_integer (word o.words a) (pos 0)) o fault.InitialisedTwice _ _
      (passing_alike _ (pass_all w from a call.arguments o)
      (λ p. private_outcome (enter (set_word (settle p from a (length call.arguments)) a (pos 1)) (class_at a) u call (record { counter = next; into = 0 })))
      (arguments_pass w from a call.arguments o t is) (λ p h. record { same = refl; effect = refl; awake = h })))

  monitor_alike : (program : Program) (w : StepContext) (o : PrivateState) (call : Call) (m next : ℕ) → arguments_are_timeless call.arguments ≡ true → IsAwake o
      → Alike (init_monitor program (at w) (moved o) call m next) (init_monitor program w o call m next)
  monitor_alike program w o call m next t is =
      let z = monitor_called program w m in
      let from = o.base + call.words in
      unit_alike program w o call z.component _ _ is (λ u.
      guard_alike (not z.is_set) o fault.InitialisedTwice _ _
      (passing_alike _ (pass_all w from z.component call.arguments o)
      (λ p. (enter (settle p from z.component (length call.arguments)) z u call (record { counter = next; into = 0 }), Opens m))
      (arguments_pass w from z.component call.arguments o t is) (λ p h. record { same = refl; effect = refl; awake = h })))

  process_alike : (program : Program) (w : StepContext) (o : PrivateState) (r : ℕ) (xs : List Argument) (words next : ℕ) → arguments_are_timeless xs ≡ true → IsAwake o
      → Alike (init_process program (at w) (moved o) r xs words next) (init_process program w o r xs words next)
  process_alike program w o r xs words next t is =
      let from = o.base + words in
      let to = w.own + parameters_start program r in
      guard_alike (not (w.is_started r)) o fault.InitialisedTwice _ _
      (passing_alike _ (pass_all w from to xs o) (λ p. (go_to next (settle p from to (length xs)), Starts r))
      (arguments_pass w from to xs o t is) (λ p h. record { same = refl; effect = refl; awake = h }))

  -- ---- Operations

  same_root : (w : StepContext) (o : PrivateState) (r : target.Root) → root_place (view_of (at w) (moved o)) r ≡ root_place (view_of w o) r
  same_root w o (target.Local a) = refl
  same_root w o (target.Member a) = refl
  same_root w o (target.Through a plus) = refl

  abbrev count_at : PrivateState → Counting → ℕ → ℤ → ℤ → Acting
  count_at o k a n last =
      guard (within k.low k.high n) o fault.Range
      (private_outcome (go_to k.body (set_temp (set_temp (set_word o a n) (o.temp + k.temp) n) (o.temp + k.temp + 1) last)))

  count_alike : (w : StepContext) (o : PrivateState) (k : Counting) (m last : ℤ) → IsAwake o → Alike (count_to (at w) (moved o) k m last) (count_to w o k m last)
  count_alike w o k m last is =
      subst (λ a. Alike (count_at (moved o) k a m last) (count_to w o k m last)) (sym (same_root w o k.variable))
      (guard_alike (within k.low k.high m) o fault.Range _ _ (record { same = refl; effect = refl; awake = is }))

  arm_alike : (o : PrivateState) (r : Option ℕ) → IsAwake o → Alike (go_to_arm (moved o) r) (go_to_arm o r)
  arm_alike o None is = record { same = refl; effect = refl; awake = faulted fault.NoLabel }
  arm_alike o (Some place) is = record { same = refl; effect = refl; awake = is }

  set_alike : (o : PrivateState) (low high : ℤ) (a : ℕ) (m : ℤ) (next : ℕ) → IsAwake o → Alike (set_within (moved o) low high a m next) (set_within o low high a m next)
  set_alike o low high a m next is = guard_alike (within low high m) o fault.Range _ _ (record { same = refl; effect = refl; awake = is })

  first_count_alike : (w : StepContext) (o : PrivateState) (k : Counting) (m n : ℤ) → IsAwake o → Alike (first_count (at w) (moved o) k m n) (first_count w o k m n)
  first_count_alike w o k m n is =
      choice_alike (is_past k.down m n) _ _ _ _ (record { same = refl; effect = refl; awake = is }) (count_alike w o k m n is)

  next_count_alike : (w : StepContext) (o : PrivateState) (k : Counting) (m n : ℤ) → IsAwake o → Alike (next_count (at w) (moved o) k m n) (next_count w o k m n)
  next_count_alike w o k m n is =
      choice_alike (same_integer m n) _ _ _ _ (record { same = refl; effect = refl; awake = is }) (count_alike w o k (next_counter k.down m) n is)

  accept_alike : (o : PrivateState) (a : ℕ) (low high : ℤ) (next : ℕ) → IsAwake o → Alike (accept (moved o) a low high next) (accept o a low high next)
  accept_alike o a low high next is =
      guard_alike (within low high (next_input o.input o.consumed)) o fault.Range _ _ (record { same = refl; effect = refl; awake = is })

  delay_alike : (o : PrivateState) (a next : ℕ) → IsAwake o → Alike (delay (moved o) a next) (delay o a next)
  delay_alike o a next is =
      choice_alike (is_held o.gate) _ _ _ _
      (choice_alike (nat_lt a (length o.words)) _ _ _ _
      (guard_alike (int_le (word o.words a) (pos 0)) o fault.QueueTaken _ _ (record { same = refl; effect = refl; awake = is }))
      (record { same = refl; effect = refl; awake = is }))
      (record { same = refl; effect = refl; awake = is })

  continue_alike : (o : PrivateState) (a : ℕ) (function : Bool) → IsAwake o → Alike (continue (moved o) a function) (continue o a function)
  continue_alike o a function is =
      frame_alike o o.frames _ _ is (λ f fs.
      choice_alike (is_held f.gate) _ _ _ _
      (return_alike o (set_word o a (pos 0)) f fs function (Continues f.gate (word o.words a)) is) (record { same = refl; effect = refl; awake = is }))

  pub act_alike : (program : Program) (w : StepContext) (o : PrivateState) (x : Operation) → operation_is_timeless x ≡ true → IsAwake o
      → Alike (act program (at w) (moved o) x) (act program w o x)
  act_alike program w o (op.Set to low high value next) t is =
      let each = both (place_expression_is_timeless to) (term_is_timeless value) t in
      place_alike w o to _ _ each.0 (λ a. value_alike w o value _ _ each.1 (λ m. set_alike o low high a m next is))
  act_alike program w o (op.SetResult low high value next) t is = value_alike w o value _ _ t (λ m. set_alike o low high o.base m next is)
  act_alike program w o (op.CopyWords to from size next) t is =
      let each = both (place_expression_is_timeless to) (place_expression_is_timeless from) t in
      place_alike w o to _ _ each.0 (λ a. place_alike w o from _ _ each.1 (λ b. record { same = refl; effect = refl; awake = is }))
  act_alike program w o (op.Test value yes' no') t is = value_alike w o value _ _ t (λ m. record { same = refl; effect = refl; awake = is })
  act_alike program w o (op.Case value table) t is = value_alike w o value _ _ t (λ m. arm_alike o (place_in table m) is)
  act_alike program w o (op.For k first last) t is =
      let each = both (term_is_timeless first) (term_is_timeless last) t in
      value_alike w o first _ _ each.0 (λ m. value_alike w o last _ _ each.1 (λ n. first_count_alike w o k m n is))
  act_alike program w o (op.ForNext k) t is = next_count_alike w o k (word o.temps (o.temp + k.temp)) (word o.temps (o.temp + k.temp + 1)) is
  act_alike program w o (op.Cycle body) t is = record { same = refl; effect = refl; awake = is }
  act_alike program w o (op.Procedure call next) t is = call_alike program w o call (record { counter = next; into = 0 }) t is
  act_alike program w o (op.Function call into next) t is = call_alike program w o call (record { counter = next; into = into }) t is
  act_alike program w o (op.Return function) t is =
      frame_alike o o.frames _ _ is (λ f fs. return_alike o o f fs function (gate_effect f.gate Leaves) is)
  act_alike program w o (op.InitClass call next) t is =
      let z = component_called program w o call.target in
      subst (λ (y : Called). Alike (init_class program (at w) (moved o) call y.component next) (init_class program w o call z.component next)) (sym (same_called program w o call.target))
      (class_alike program w o call z.component next t is)
  act_alike program w o (op.InitMonitor call next) t is =
      let z = component_called program w o call.target in
      subst (λ (y : Called). Alike (init_monitor program (at w) (moved o) call y.gate next) (init_monitor program w o call z.gate next)) (sym (same_called program w o call.target))
      (monitor_alike program w o call z.gate next t is)
  act_alike program w o (op.InitProcess r arguments words next) t is = process_alike program w o r arguments words next t is
  act_alike program w o op.EndBody t is = frame_alike o o.frames _ _ is (λ f fs. record { same = refl; effect = refl; awake = is })
  act_alike program w o op.End t is = record { same = refl; effect = refl; awake = ended }
  act_alike program w o (op.Display value as_byte next) t is = value_alike w o value _ _ t (λ m. record { same = refl; effect = refl; awake = is })
  act_alike program w o (op.Accept to low high next) t is = place_alike w o to _ _ t (λ a. accept_alike o a low high next is)
  act_alike program w o (op.Delay queue next) t is = place_alike w o queue _ _ t (λ a. delay_alike o a next is)
  act_alike program w o (op.Continue queue function) t is = place_alike w o queue _ _ t (λ a. continue_alike o a function is)
  act_alike program w o (op.Wait next) t is = absurd (true≢false (sym t))
