-- Statements that change no words but the process's own and those of monitors.
use Rattle.std.proofs.Common.{◌≡◌, ℕ, ◌+◌, ◌<◌, ℤ, pos, List, [], ◌∷◌, length, Bool, true, false, None, refl, ap, sym, subst, ◌∙◌, arith}
use Rattle.std.specs.Prelude.{if◌then◌else◌, int_le, nat_lt}
use Rattle.cp_model.specs.Abstract as a
use Rattle.cp_model.specs.Abstract.{Char, Name}
use Rattle.cp_model.specs.StandardCalls.{next_input}
use Rattle.cp_model.specs.Calls.{call_in_designator, first_call, in_context}
use Rattle.cp_model.specs.Continuations.{Do, Task}
use Rattle.cp_model.specs.Environments.{Environment}
use Rattle.cp_model.specs.Expressions.{place}
use Rattle.cp_model.specs.Integers.{same_integer}
use Rattle.cp_model.specs.Outcomes.{Outcome}
use Rattle.cp_model.specs.Places.{Place, within}
use Rattle.cp_model.specs.States.{State}
use Rattle.cp_model.specs.StatementSteps.{is_past}
use Rattle.cp_model.specs.Types.{Queue, ResolvedType, Simple}
use Rattle.cp_model.specs.declared.state.Fault.TheVariants as fault
use Rattle.cp_law_typing.specs.Words.{words}
use Rattle.cp_model_program.specs.Programs as op
use Rattle.cp_model_program.specs.Programs.{Operation}
use Rattle.cp_model_program.specs.Starts.{block, paste, unset, word}
use Rattle.cp_model_program.specs.StatementsFor.{AssignsBy, Counts}
use Rattle.cp_model_program.specs.Terms.{Rooted, PlaceExpression, Term}
use Rattle.cp_model_machine.specs.PrivateStates as machine
use Rattle.cp_model_machine.specs.PrivateStates.{Acting, StepContext, PrivateState, fault_in, go_to, private_outcome, guard, set_temp, set_word, view_of}
use Rattle.cp_model_machine.specs.Calling.{leave, return_with, with_frame}
use Rattle.cp_model_machine.specs.Steps as steps
use Rattle.cp_model_machine.specs.Steps.{act, with_place}
use Rattle.cp_model_machine.specs.Means.{PlaceAgrees}
use Rattle.cp_model_machine.specs.Values.{place_of, value_of}
use Rattle.cp_model_machine.specs.Addresses.{Activation, Ground, activations, in_sight, scope, lies_in_sight}
use Rattle.cp_model_machine.specs.Remaining.{site}
use Rattle.cp_model_machine.proofs.Apart.{IsCell}
use Rattle.cp_model_machine.proofs.Doing.{Ready, known, place_here}
use Rattle.cp_model_machine.proofs.Finding.{in_context_none, or_else_none}
use Rattle.cp_model_machine.proofs.Heres.{Sees}
use Rattle.cp_model_machine.proofs.RunningOn.{runs_stacked}
use Rattle.cp_model_machine.proofs.Spares.{Spares, copy_spares, place_lies, provided_spares, result_spares, word_spares}
use Rattle.cp_model_machine.proofs.Stacks.{Stacked, frame_words}
use Rattle.cp_model_machine.proofs.Owned.{result_inside}
use Rattle.cp_model_machine.proofs.Writing.{changed_other}
use Rattle.cp_model_machine.specs.PartOf.{RunsOn}
use Rattle.cp_model_program.specs.IsProgramFor.{own_words}
use Rattle.cp_model_machine.proofs.Standards.{By, argument_none, one, used_none}
use Rattle.cp_model_machine.proofs.Stepping.{Now, clock_of}

module _ (G : Ground) (s : State) (w : StepContext) (before : List ℕ) (o : PrivateState) (i : Task) (k : List Task) (N : Now G s w before o i k) where
  abbrev xs : List Activation
  xs = activations o.base o.frames (i ∷ k)

  abbrev Kept : Acting → Type 0
  Kept x = Spares G o.words x.0.words

  stack : Stacked G (o.base + (site G N.on.running).words) xs
  stack = runs_stacked G s.store o (i ∷ k) N.on

  -- Something is done at a place.
  pub at_place : (t : ResolvedType) (P : Outcome Place) (c : PlaceExpression) → PlaceAgrees (lies_in_sight (in_sight G) G xs) t P (place_of (view_of w o) c) → (go : ℕ → Acting)
      → ((n : ℕ) → ((v : ℤ) → IsCell t → Spares G o.words (set_word o n v).words) → ((from : ℕ) → Spares G o.words (paste n (block o.words from (words (scope G) t)) o.words)) → Kept (go n))
      → Kept (with_place w o c go)
  at_place t P c agrees go h =
      result_spares G o (place_of (view_of w o) c) go (λ n e.
      let p = place_lies G xs t P (place_of (view_of w o) c) n agrees e in
      h n (λ v cell. word_spares G xs _ stack o.words p.0 n t v cell p.1) (λ from. copy_spares G xs _ stack o.words o.words p.0 n from t p.1))

  -- The counter of a `for`.
  pub counts_spare : Sees G (in_sight G) s.store N.on.running.env → (x : Name) (down : Bool) (c : op.Counting) (next low : ℕ) (n last : ℤ) → Counts (site G N.on.running) x down c next low → Kept (steps.count_to w o c n last)
  counts_spare sees x down c next low n last counts =
      provided_spares G o (within c.low c.high n) fault.Range _
      (at_place (Simple counts.base c.low c.high counts.start) (place (clock_of G s) N.on.running.env s.store (a.Plain x)) (Rooted c.variable)
      (place_here G s w before o i k N sees (a.Plain x) (Rooted c.variable) (Simple counts.base c.low c.high counts.start) next next low low (refl, counts.variable) refl)
      (λ at. private_outcome (set_word o at n)) (λ at stores copies. stores n tt))

-- ---- assignments

module _ (G : Ground) (s : State) (w : StepContext) (before : List ℕ) (o : PrivateState) (env : Environment) (k : List Task) where
  abbrev Assigns : a.Designator → a.Expression → Type 0
  Assigns d e = Ready G s w before o (a.Assign d e) env k

  abbrev By' : (d : a.Designator) (e : a.Expression) → Assigns d e → Operation → Type 0
  By' d e Y x = AssignsBy (site G Y.now.on.running) (known G s w before o (Do (a.Assign d e) env) k Y.now) d e x o.counter Y.now.on.left.2.3.0 Y.now.on.left.2.0 Y.now.on.left.2.1

  pub set_spares : (d : a.Designator) (e : a.Expression) (Y : Assigns d e) (to : PlaceExpression) (lower upper : ℤ) (c : Term) (n : ℕ) → By' d e Y (op.Set to lower upper c n)
      → Spares G o.words (act G.program w o (op.Set to lower upper c n)).0.words
  set_spares d e Y to lower upper c n h =
      let N = Y.now in
      let here = N.on.running.env in
      let none = or_else_none (in_context (λ y. a.Assign y e) (call_in_designator here (a.Literal 0) d)) (in_context (a.Assign d) (first_call here (a.Literal 0) e)) Y.none in
      at_place G s w before o (Do (a.Assign d e) env) k N (Simple h.0 lower upper h.2) _ to
      (place_here G s w before o (Do (a.Assign d e) env) k N N.sees d to (Simple h.0 lower upper h.2) o.counter h.3 N.on.left.2.1 h.4 h.8 (in_context_none (λ y. a.Assign y e) (call_in_designator here (a.Literal 0) d) none.0))
      (λ at. steps.with_value w o c (λ m. steps.set_within o lower upper at m n))
      (λ at stores copies. result_spares G o (value_of (view_of w o) c) _ (λ v is. provided_spares G o (within lower upper v) fault.Range _ (stores v tt)))

  pub result_is_spared : (x : Name) (e : a.Expression) (Y : Assigns (a.Plain x) e) (lower upper : ℤ) (c : Term) (n : ℕ) → By' (a.Plain x) e Y (op.SetResult lower upper c n)
      → Spares G o.words (act G.program w o (op.SetResult lower upper c n)).0.words
  result_is_spared x e Y lower upper c n h =
      result_spares G o (value_of (view_of w o) c) _ (λ v is.
      provided_spares G o (within lower upper v) fault.Range _
      (λ j spared. changed_other o.words j o.base v (λ e. absurd (omega (arith, e, spared.0, below)))))
    where
      R : RunsOn G s.store o (Do (a.Assign (a.Plain x) e) env ∷ k)
      R = Y.now.on

      -- The result is in the activation of the routine.
      below : o.base < G.own
      below = omega (
        arith,
        R.base,
        R.runs.words_fit,
        R.runs.activation_fits,
        ap (λ g. own_words g R.running.text) R.runs.globals,
        frame_words (scope G) R.running.text R.running.env.frame h.2.frame h.2.runs R.runs.frame,
        result_inside (scope G) h.2.frame.routine h.2.function.0 h.2.function.1,
      )

  pub copy_is_spared : (d e : a.Designator) (Y : Assigns d (a.Use e)) (to from : PlaceExpression) (size n : ℕ) → By' d (a.Use e) Y (op.CopyWords to from size n)
      → Spares G o.words (act G.program w o (op.CopyWords to from size n)).0.words
  copy_is_spared d e Y to from size n h =
      let N = Y.now in
      let here = N.on.running.env in
      let none = or_else_none (in_context (λ y. a.Assign y (a.Use e)) (call_in_designator here (a.Literal 0) d)) (in_context (a.Assign d) (first_call here (a.Literal 0) (a.Use e))) Y.none in
      at_place G s w before o (Do (a.Assign d (a.Use e)) env) k N h.0 _ to
      (place_here G s w before o (Do (a.Assign d (a.Use e)) env) k N N.sees d to h.0 o.counter h.1 N.on.left.2.1 h.2 h.10 (in_context_none (λ y. a.Assign y (a.Use e)) (call_in_designator here (a.Literal 0) d) none.0))
      (λ at. with_place w o from (λ b. steps.copy_words o at b size n))
      (λ at stores copies. result_spares G o (place_of (view_of w o) from) _
      (λ b is. subst (λ z. Spares G o.words (paste at (block o.words b z) o.words)) (ap (λ g. words g h.0) (sym N.on.runs.globals) ∙ sym h.7) (copies b)))

  pub for_spares : (x : Name) (down : Bool) (e f : a.Expression) (st : a.Statement) (Y : Ready G s w before o (a.For x down e f st) env k)
      → Spares G o.words (act G.program w o (op.For Y.now.on.left.2.3.1 Y.now.on.left.2.3.2 Y.now.on.left.2.3.3)).0.words
  for_spares x down e f st Y =
      let N = Y.now in
      let h = N.on.left.2.3 in
      result_spares G o (value_of (view_of w o) h.2) _ (λ n is.
      result_spares G o (value_of (view_of w o) h.3) _ (λ m is'.
      by n m (is_past h.1.down n m)))
    where
      by : (n m : ℤ) (b : Bool)
          → Spares G o.words (if b then private_outcome (go_to Y.now.on.left.2.3.1.next o) else steps.count_to w o Y.now.on.left.2.3.1 n m).0.words
      by n m true = λ j spared. refl
      by n m false =
          counts_spare G s w before o (Do (a.For x down e f st) env) k Y.now Y.now.sees x down Y.now.on.left.2.3.1 Y.now.on.left.2.0 Y.now.on.left.2.1 n m Y.now.on.left.2.3.10

-- ---- standard procedures

module _ (G : Ground) (s : State) (w : StepContext) (before : List ℕ) (o : PrivateState) (x : Name) (env : Environment) (k : List Task) (d : a.Designator)
    (Y : Ready G s w before o (a.Perform (a.Plain x) (one (a.Use d))) env k) where
  abbrev first : Task
  first = Do (a.Perform (a.Plain x) (one (a.Use d))) env

  none : call_in_designator Y.now.on.running.env (a.Literal 0) d ≡ None
  none = used_none G s w before o x env k Y.now.on.running.env d (argument_none G s w before o x env k Y.now.on.running.env (a.Use d) Y.none)

  pub accept_spares : (to : PlaceExpression) (lower upper : ℤ) (n : ℕ) → By G s w before o x env k (one (a.Use d)) Y (op.Accept to lower upper n) → Spares G o.words (act G.program w o (op.Accept to lower upper n)).0.words
  accept_spares to lower upper n h =
      let N = Y.now in
      at_place G s w before o first k N (Simple Char lower upper h.1.0) _ to
      (place_here G s w before o first k N N.sees d to (Simple Char lower upper h.1.0) o.counter N.on.left.2.3.0 N.on.left.2.1 N.on.running.unit.temps h.1.4 none)
      (λ at. steps.accept o at lower upper n)
      (λ at stores copies. provided_spares G o (within lower upper (next_input o.input o.consumed)) fault.Range _ (stores (next_input o.input o.consumed) tt))

  pub delay_spares : (queue : PlaceExpression) (n : ℕ) → By G s w before o x env k (one (a.Use d)) Y (op.Delay queue n) → Spares G o.words (act G.program w o (op.Delay queue n)).0.words
  delay_spares queue n h =
      let N = Y.now in
      at_place G s w before o first k N Queue _ queue
      (place_here G s w before o first k N N.sees d queue Queue o.counter N.on.left.2.3.0 N.on.left.2.1 N.on.running.unit.temps h.1.3 none)
      (λ at. steps.delay o at n)
      (λ at stores copies. in_monitor (steps.is_held o.gate) (nat_lt at (length o.words)) at (stores (pos o.number) tt))
    where
      in_monitor : (b c : Bool) (at : ℕ) → Spares G o.words (set_word o at (pos o.number)).words
          → Spares G o.words (if b then (if c then guard (int_le (word o.words at) (pos 0)) o fault.QueueTaken (go_to n (set_word o at (pos o.number)), machine.Delays o.gate at) else private_outcome o) else private_outcome o).0.words
      in_monitor true true at h = provided_spares G o (int_le (word o.words at) (pos 0)) fault.QueueTaken _ h
      in_monitor true false at h = λ j spared. refl
      in_monitor false c at h = λ j spared. refl

  pub continue_spares : (queue : PlaceExpression) (function : Bool) → By G s w before o x env k (one (a.Use d)) Y (op.Continue queue function) → Spares G o.words (act G.program w o (op.Continue queue function)).0.words
  continue_spares queue function h =
      let N = Y.now in
      at_place G s w before o first k N Queue _ queue
      (place_here G s w before o first k N N.sees d queue Queue o.counter N.on.left.2.3.0 N.on.left.2.1 N.on.running.unit.temps h.1.2 none)
      (λ at. steps.continue o at function) (λ at stores copies. in_frame o.frames at (stores (pos 0) tt))
    where
      returns : (b : Bool) (at : ℕ) (f : machine.Frame) (fs : List machine.Frame) (e : machine.Effect) → Spares G o.words (set_word o at (pos 0)).words → Spares G o.words (return_with o (set_word o at (pos 0)) f fs b e).0.words
      returns false at f fs e h = h
      returns true at f fs e h = by (same_integer (word o.words o.base) unset)
        where
          by : (b : Bool) → Spares G o.words (if b then fault_in o fault.NoResult else (leave (set_temp (set_word o at (pos 0)) (f.temp + f.into) (word o.words o.base)) f fs, e)).0.words
          by true = λ j spared. refl
          by false = h

      in_frame : (fs : List machine.Frame) (at : ℕ) → Spares G o.words (set_word o at (pos 0)).words
          → Spares G o.words (with_frame o fs (λ f gs. if steps.is_held f.gate then return_with o (set_word o at (pos 0)) f gs function (machine.Continues f.gate (word o.words at)) else private_outcome o)).0.words
      in_frame [] at h = λ j spared. refl
      in_frame (f ∷ fs) at h = by (steps.is_held f.gate)
        where
          by : (b : Bool) → Spares G o.words (if b then return_with o (set_word o at (pos 0)) f fs function (machine.Continues f.gate (word o.words at)) else private_outcome o).0.words
          by true = returns function at f fs _ h
          by false = λ j spared. refl
