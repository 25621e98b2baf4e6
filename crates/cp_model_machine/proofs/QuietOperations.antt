-- Statements and operations that never leave anything to the kernel, whatever gate is held.
use Rattle.std.proofs.Common.{◌≡◌, ◌+◌, ℕ, ℤ, pos, List, ◌∷◌, Bool, true, false, Option, Some, None, Result, Ok, Err, refl}
use Rattle.std.specs.Prelude.{if◌then◌else◌, length, slice_get}
use Rattle.cp_model.specs.Abstract as a
use Rattle.cp_model.specs.Abstract.{Name, Statement}
use Rattle.cp_model.specs.Configurations.{Configuration, Context, StepResult, own_step, with_continuation, with_writes}
use Rattle.cp_model.specs.Continuations.{ForNext, Task, push}
use Rattle.cp_model.specs.Assignments.{writes_of}
use Rattle.cp_model.specs.Environments.{Environment}
use Rattle.cp_model.specs.Expressions.{place, value}
use Rattle.cp_model.specs.Integers.{same_integer}
use Rattle.cp_model.specs.Outcomes.{Fault, and_then}
use Rattle.cp_model.specs.Places.{ordinal_of, simple_value, within}
use Rattle.cp_model.specs.StandardCalls.{next_input}
use Rattle.cp_model.specs.StatementSteps.{chosen_arm, execute, for_step, is_past, next_counter}
use Rattle.cp_model.specs.Stores.{Writes}
use Rattle.cp_model.specs.declared.state.Fault as fault
use Rattle.cp_model.specs.declared.state.Fault.TheVariants as faults
use Rattle.cp_model.proofs.QuietSteps.{Quietly, if_quiet, then_quiet}
use Rattle.cp_model_program.specs.Programs as op
use Rattle.cp_model_program.specs.Programs.{Call, CodeUnit, Counting, Operation, Program}
use Rattle.cp_model_program.specs.Starts.{word}
use Rattle.cp_model_program.specs.Tables.{place_in}
use Rattle.cp_model_machine.specs.Calling.{class_at, enter, has_room, init_class, settle, with_unit}
use Rattle.cp_model_machine.specs.Passing.{Passing, component_called, pass_all, when_passed}
use Rattle.cp_model_machine.specs.PrivateStates.{Acting, NoEffect, StepContext, PrivateState, fault_in, private_outcome, guard, set_word, view_of, with_result}
use Rattle.cp_model_machine.specs.Steps.{act, count_to, go_to_arm}
use Rattle.cp_model_machine.specs.Values.{View, place_of, value_of}

-- ---- the meaning's

-- Statements that never leave anything to the kernel, whichever gate is held.
abbrev pub IsQuietStatement : Statement → Type 0
IsQuietStatement (a.Assign d e) = Unit {0}
IsQuietStatement (a.If e s t) = Unit {0}
IsQuietStatement (a.Case e arms) = Unit {0}
IsQuietStatement (a.For x down e f s) = Unit {0}
IsQuietStatement (a.Cycle s) = Unit {0}
IsQuietStatement _ = ⊥

module _ (w : Context) (config : Configuration) (env : Environment) (k : List Task) where
  pub for_quiet : (x : Name) (down : Bool) (n last : ℤ) (s : Statement) → Quietly (for_step w config env k x down n last s)
  for_quiet x down n last s =
      then_quiet (place w.clock env config.store (a.Plain x)) (λ p. and_then (writes_of p.at p.type (simple_value a.Integer n)) after)
      (λ p. then_quiet (writes_of p.at p.type (simple_value a.Integer n)) after (λ ws. tt))
    where
      after : Writes → StepResult
      after ws = own_step (with_writes config ws (push s env (ForNext x down n last s env ∷ k)))

  pub statement_quiet : (s : Statement) → IsQuietStatement s → Quietly (execute w config env k s)
  statement_quiet (a.Assign d e) h =
      then_quiet (place w.clock env config.store d) _
      (λ p. then_quiet (value w.clock env config.store e) _ (λ v. then_quiet (writes_of p.at p.type v) _ (λ ws. tt)))
  statement_quiet (a.If e s t) h = then_quiet (value w.clock env config.store e) _ (λ v. tt)
  statement_quiet (a.Case e arms) h = then_quiet (value w.clock env config.store e) _ (λ v. by (chosen_arm env.globals (ordinal_of v) arms))
    where
      by : (o : Option Statement) → Quietly (elim o as (λ x. StepResult) [ None ↦ Fault 8 | Some x ↦ own_step (with_continuation config (push x env k)) ])
      by None = tt
      by (Some x) = tt
  statement_quiet (a.For x down e f s) h =
      then_quiet (value w.clock env config.store e) _ (λ v. then_quiet (value w.clock env config.store f) _ (λ y. if_quiet (is_past down (ordinal_of v) (ordinal_of y)) _ _ tt (for_quiet x down (ordinal_of v) (ordinal_of y) s)))
  statement_quiet (a.Cycle s) h = tt
  statement_quiet _ h = absurd h

-- ---- the machine's

-- Operations that never leave anything to the kernel.
abbrev pub IsQuietOperation : Operation → Type 0
IsQuietOperation (op.Procedure call n) = ⊥
IsQuietOperation (op.Function call into n) = ⊥
IsQuietOperation (op.Return function) = ⊥
IsQuietOperation (op.InitMonitor call n) = ⊥
IsQuietOperation (op.InitProcess r xs words n) = ⊥
IsQuietOperation op.EndBody = ⊥
IsQuietOperation (op.Delay queue n) = ⊥
IsQuietOperation (op.Continue queue function) = ⊥
IsQuietOperation _ = Unit {0}

pub with_result_quiet : {A : Type 0} (o : PrivateState) (r : Result A fault.Fault) (go : A → Acting) → ((x : A) → (go x).1 ≡ NoEffect) → (with_result o r go).1 ≡ NoEffect
with_result_quiet o (Ok x) go h = h x
with_result_quiet o (Err f) go h = refl

provided_quiet : (b : Bool) (o : PrivateState) (f : fault.Fault) (x : Acting) → x.1 ≡ NoEffect → (guard b o f x).1 ≡ NoEffect
provided_quiet true o f x h = h
provided_quiet false o f x h = refl

module _ (program : Program) (w : StepContext) (o : PrivateState) where
  abbrev v : View
  v = view_of w o

  count_quiet : (c : Counting) (n last : ℤ) → (count_to w o c n last).1 ≡ NoEffect
  count_quiet c n last = provided_quiet (within c.low c.high n) o _ _ refl

  either_effect : (b : Bool) (x y : Acting) → x.1 ≡ NoEffect → y.1 ≡ NoEffect → (if b then x else y).1 ≡ NoEffect
  either_effect true x y h k = h
  either_effect false x y h k = k

  arm_quiet : (at : Option ℕ) → (go_to_arm o at).1 ≡ NoEffect
  arm_quiet None = refl
  arm_quiet (Some place) = refl

  passed_quiet : (P : Passing) (go : PrivateState → Acting) → ((p : PrivateState) → (go p).1 ≡ NoEffect) → (when_passed P go).1 ≡ NoEffect
  passed_quiet P go h = by P.fault
    where
      by : (x : Option fault.Fault) → (elim x as (λ y. Acting) [ None ↦ go P.own | Some f ↦ fault_in P.own f ]).1 ≡ NoEffect
      by None = h P.own
      by (Some f) = refl

  unit_quiet : (call : Call) (component : ℕ) (go : CodeUnit → Acting) → ((u : CodeUnit) → (go u).1 ≡ NoEffect) → (with_unit program w o call component go).1 ≡ NoEffect
  unit_quiet call component go h = by (slice_get program.units call.routine)
    where
      by : (x : Option CodeUnit) → (elim x as (λ y. Acting) [ None ↦ private_outcome o | Some u ↦ if has_room w o call u component then go u else private_outcome o ]).1 ≡ NoEffect
      by None = refl
      by (Some u) = either_effect (has_room w o call u component) _ _ (h u) refl

  init_quiet : (call : Call) (at n : ℕ) → (init_class program w o call at n).1 ≡ NoEffect
  init_quiet call at n =
      unit_quiet call at (λ u. guard (same_integer (word o.words at) (pos 0)) o faults.InitialisedTwice (when_passed passed (begun u)))
      (λ u. provided_quiet (same_integer (word o.words at) (pos 0)) o faults.InitialisedTwice (when_passed passed (begun u)) (passed_quiet passed (begun u) (λ p. refl)))
    where
      passed : Passing
      passed = pass_all w (o.base + call.words) at call.arguments o

      begun : CodeUnit → PrivateState → Acting
      begun u p =
          private_outcome (enter (set_word (settle p (o.base + call.words) at (length call.arguments)) at (pos 1)) (class_at at) u call (record { counter = n; into = 0 }))

  pub operation_quiet : (y : Operation) → IsQuietOperation y → (act program w o y).1 ≡ NoEffect
  operation_quiet (op.Set to low high value n) h = with_result_quiet o (place_of v to) _ (λ at. with_result_quiet o (value_of v value) _ (λ n. provided_quiet (within low high n) o _ _ refl))
  operation_quiet (op.SetResult low high value n) h = with_result_quiet o (value_of v value) _ (λ n. provided_quiet (within low high n) o _ _ refl)
  operation_quiet (op.CopyWords to from size n) h = with_result_quiet o (place_of v to) _ (λ at. with_result_quiet o (place_of v from) _ (λ b. refl))
  operation_quiet (op.Test value yes' no') h = with_result_quiet o (value_of v value) _ (λ n. refl)
  operation_quiet (op.Case value table) h = with_result_quiet o (value_of v value) _ (λ n. arm_quiet (place_in table n))
  operation_quiet (op.For c first last) h =
      with_result_quiet o (value_of v first) _ (λ n. with_result_quiet o (value_of v last) _ (λ m. either_effect (is_past c.down n m) _ _ refl (count_quiet c n m)))
  operation_quiet (op.ForNext c) h =
      let n = word o.temps (o.temp + c.temp) in
      let last = word o.temps (o.temp + c.temp + 1) in
      either_effect (same_integer n last) _ _ refl (count_quiet c (next_counter c.down n) last)
  operation_quiet (op.Cycle body) h = refl
  operation_quiet (op.InitClass call n) h = init_quiet call (component_called program w o call.target).component n
  operation_quiet op.End h = refl
  operation_quiet (op.Display value as_byte n) h = with_result_quiet o (value_of v value) _ (λ m. refl)
  operation_quiet (op.Accept to low high n) h = with_result_quiet o (place_of v to) _ (λ at. provided_quiet (within low high (next_input o.input o.consumed)) o _ _ refl)
  operation_quiet (op.Wait n) h = refl
  operation_quiet _ h = absurd h
