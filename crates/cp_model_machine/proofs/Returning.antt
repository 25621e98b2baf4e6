-- Whole private steps at the end of a routine: the caller continues, with a function's value in the
-- place of the call.
use Rattle.std.proofs.Common.{◌≡◌, ℕ, ◌+◌, ◌≤◌, ℤ, List, [], ◌∷◌, length, Bool, true, false, Option, Some, None, refl, ap, sym, subst, ◌∙◌, arith}
use Rattle.std.specs.Prelude.{if◌then◌else◌, slice_get, slice_set}
use Rattle.std.proofs.lemmas.List.{length-set}
use Rattle.cp_model.specs.Abstract as a
use Rattle.cp_model.specs.Abstract.{Name, System}
use Rattle.cp_model.specs.Actions.{Acts}
use Rattle.cp_model.specs.Calls.{Found, call_in_statement, first_call, in_context}
use Rattle.cp_model.specs.CallSteps.{leaving, result_location, return_value, returns, with_answer}
use Rattle.cp_model.specs.Configurations.{Configuration, own_step}
use Rattle.cp_model.specs.Continuations.{Do, EndBody, EndCall, EndProcess, ForNext, RepeatTest, Task, WhileTest, marked_monitors}
use Rattle.cp_model.specs.Environments.{Environment, Frame}
use Rattle.cp_model.specs.Integers.{same_integer}
use Rattle.cp_model.specs.Locations.{OfActivation, Owner, same_owner}
use Rattle.cp_model.specs.Outcomes.{Fault, Gives, Outcome, and_then}
use Rattle.cp_model.specs.States.{State, configuration}
use Rattle.cp_model.specs.Stores.{Absent, Ordinal, Store, Value, forget}
use Rattle.cp_model.specs.Turns.{after_step}
use Rattle.cp_model.specs.Types.{base_of_type, named_type}
use Rattle.cp_model.specs.declared.state.Fault.TheVariants as fault
use Rattle.cp_model.proofs.Options.{same_some}
use Rattle.cp_model_program.specs.Programs as op
use Rattle.cp_model_program.specs.Layout.{local}
use Rattle.cp_model_program.specs.Sites.{BodyOf, LeftOut, RoutineOf, UnitText}
use Rattle.cp_model_program.specs.Starts.{unset, word}
use Rattle.cp_model_program.specs.StatementsFor.{is_function}
use Rattle.cp_model_machine.specs.PrivateStates as machine
use Rattle.cp_model_machine.specs.PrivateStates.{StepContext, PrivateState, fault_in, set_temp}
use Rattle.cp_model_machine.specs.Calling.{gate_effect, leave, return_with}
use Rattle.cp_model_machine.specs.Addresses.{Activation, Ground, activation_of, activations, in_sight, scope}
use Rattle.cp_model_machine.specs.Remaining.{CallerAt, FrameFor, Remaining, Runs, held_below, innermost_gate, kept_below, result_of, site}
use Rattle.cp_model_machine.specs.PartOf.{ActivationMeans, ActivationsMean, CallsBehind, DataMeans, IfFrame, PartOf, ResultMeans, RunsOn, components}
use Rattle.cp_model_machine.proofs.Answered.{RemainingAnswered, task_answered}
use Rattle.cp_model_machine.proofs.Doing.{acts_itself}
use Rattle.cp_model_machine.proofs.Finding.{some_is_not_none}
use Rattle.cp_model_machine.proofs.Heres.{depth_is, lies_behind}
use Rattle.cp_model_machine.proofs.Holding.{SameLive, activation_below, data_below}
use Rattle.cp_model_machine.proofs.Keeping.{activations_kept, data_kept, each_kept, keeps_given}
use Rattle.cp_model_machine.proofs.RemainingKept.{left_kept, left_raised}
use Rattle.cp_model_machine.proofs.Stacks.{Stack, Stacked, stacked}
use Rattle.cp_model_machine.proofs.Stepping.{Now, Stepped, both_step, does, faulted, gates_left, went}
use Rattle.cp_law_typing.proofs.Locations.{integer_is, owner_is}
use Rattle.cp_model_machine.proofs.Given.{all_kept}
use Rattle.cp_model_machine.proofs.Effects.{going, leaves, return_leaves, then_means, reported}
use Rattle.cp_model_machine.specs.Steps.{act}

-- ---- one activation less

pub data_behind : (G : Ground) (z : Activation) (xs : List Activation) (store : Store) (words : List ℤ) → DataMeans G (z ∷ xs) (in_sight G) store words → DataMeans G xs (in_sight G) store words
data_behind G z xs store words D = record {
  cells = λ l n t mine h. D.cells l n t mine (lies_behind G z xs l (n, t) h);
  rights = D.rights;
  given = D.given;
}

-- Forgetting an activation that isn't in use keeps the store at everything in use.
pub forgotten : (G : Ground) (xs : List Activation) (o : Owner) (store : Store) → o ≡ OfActivation G.p (length xs) → SameLive G xs store (forget o store)
forgotten G xs o store e l h = by (same_owner o l.owner) refl
  where
    by : (b : Bool) → same_owner o l.owner ≡ b → (if b then Absent else store l) ≡ store l
    by true s =
        let owner : l.owner ≡ OfActivation G.p (length xs) = sym (owner_is o l.owner s) ∙ e in
        absurd (omega (arith, h (length xs) owner))
    by false s = refl

-- ---- the value of a call leaves the end marks as they are

-- What depends only on end marks is the same if the first task has another expression.
with_answer_same : {A : Type 1} (f : List Task → A) (v : a.Expression) (k : List Task)
    → ((s t : a.Statement) (env : Environment) (k : List Task) → f (Do s env ∷ k) ≡ f (Do t env ∷ k))
    → ((x y e : a.Expression) (s : a.Statement) (env : Environment) (k : List Task) → f (WhileTest x e s env ∷ k) ≡ f (WhileTest y e s env ∷ k))
    → ((x y e : a.Expression) (s : a.Statement) (env : Environment) (k : List Task) → f (RepeatTest x s e env ∷ k) ≡ f (RepeatTest y s e env ∷ k))
    → f (with_answer v k) ≡ f k
with_answer_same f v [] a1 a2 a3 = refl
with_answer_same f v (Do s env ∷ k) a1 a2 a3 = by (call_in_statement env v s)
  where
    by : (x : Found a.Statement) → f (elim (in_context (λ y. Do y env) x) [ None ↦ Do s env ∷ k | Some g ↦ g.1 ∷ k ]) ≡ f (Do s env ∷ k)
    by None = refl
    by (Some g) = a1 g.1 s env k
with_answer_same f v (WhileTest now e s env ∷ k) a1 a2 a3 = by (first_call env v now)
  where
    by : (x : Found a.Expression) → f (elim (in_context (λ y. WhileTest y e s env) x) [ None ↦ WhileTest now e s env ∷ k | Some g ↦ g.1 ∷ k ]) ≡ f (WhileTest now e s env ∷ k)
    by None = refl
    by (Some g) = a2 g.1 now e s env k
with_answer_same f v (RepeatTest now s e env ∷ k) a1 a2 a3 = by (first_call env v now)
  where
    by : (x : Found a.Expression) → f (elim (in_context (λ y. RepeatTest y s e env) x) [ None ↦ RepeatTest now s e env ∷ k | Some g ↦ g.1 ∷ k ]) ≡ f (RepeatTest now s e env ∷ k)
    by None = refl
    by (Some g) = a3 g.1 now e s env k
with_answer_same f v (ForNext x down n last s env ∷ k) a1 a2 a3 = refl
with_answer_same f v (EndCall env gate ∷ k) a1 a2 a3 = refl
with_answer_same f v (EndBody gate ∷ k) a1 a2 a3 = refl
with_answer_same f v (EndProcess ∷ k) a1 a2 a3 = refl

-- ---- the meaning's return

abbrev pub result_returns : Configuration → Environment → List Task → Frame → Option Name → Outcome Configuration
result_returns config env k f x = elim x [
  | None ↦ Gives (record config { store = forget f.owner config.store; continuation = k })
  | Some t ↦ return_value config env f.owner k t (config.store (result_location f))
]

abbrev pub frame_returns : Configuration → Environment → List Task → Option Frame → Outcome Configuration
frame_returns config env k x = elim x [ None ↦ Gives config | Some f ↦ result_returns config env k f f.routine.result ]

pub text_is : (t : UnitText) (x : Option Frame) (f : Frame) → x ≡ Some f → FrameFor t x → (s : System) × (t ≡ RoutineOf s f.routine)
text_is t None f e h = absurd (some_is_not_none f (sym e))
text_is (RoutineOf s r) (Some g) f e h = (s, ap (RoutineOf s) (sym h ∙ ap (λ (y : Frame). y.routine) (same_some g f e)))
text_is (BodyOf s) (Some g) f e h = absurd h
text_is (LeftOut s) (Some g) f e h = absurd h

module _ (G : Ground) (s : State) (w : StepContext) (before : List ℕ) (o : PrivateState) (f : machine.Frame) (fs : List machine.Frame) (env : Environment) (gate : Option ℕ) (k : List Task)
    (N : Now G s w before (record o { frames = f ∷ fs }) (EndCall env gate) k) where
  abbrev returning : PrivateState
  returning = record o { frames = f ∷ fs }

  pub here : env.frame ≡ Some N.on.left.1.frame
  here = ap (λ (y : Environment). y.frame) N.on.left.0 ∙ N.on.left.1.runs

  -- The caller, at a place and with something left to do that has the same end marks.
  caller_on : (us : List ℤ) (place live : ℕ) (j : List Task) → length us ≡ length o.temps
      → Remaining G us o.limit (held_below live us N.on.left.3.0.temp) N.on.left.3.0 fs place N.on.left.3.0.unit.temps j → CallsBehind G live place
      → ((F : List Activation → List ℕ → Type 0) → F (activations f.base fs k) (marked_monitors k) → F (activations f.base fs j) (marked_monitors j))
      → ((store : Store) (ws : List ℤ) → ActivationsMean G store ws f.base fs k → ActivationsMean G store ws f.base fs j)
      → RunsOn G (forget N.on.left.1.frame.owner s.store) (record (leave o f fs) { temps = us; counter = place }) j
  caller_on us place live j len left behind marks means =
      let c = N.on.left.3 in
      let caller = c.0 in
      let xs = activations f.base fs k in
      let inner = kept_below c.2 c.3 o.temps caller.temp in
      let after = forget N.on.left.1.frame.owner s.store in
      let top = caller.base + (site G caller).words in
      let stack : Stacked G top xs = record {
        stack = subst (λ b. Stack G top (activations b fs k)) (sym c.5.base) (stacked G o.temps o.limit inner caller fs c.1 c.2 k c.4.globals c.4.frame c.7);
        fits = omega (arith, c.4.words_fit, c.4.activation_fits);
      } in
      let live_same : SameLive G xs s.store after
      = forgotten G xs N.on.left.1.frame.owner s.store (N.on.left.1.owner ∙ ap (OfActivation G.p) (sym (depth_is G o.temps o.limit f.base inner caller fs c.1 c.2 k c.7))) in
      let keeps = data_below G xs top stack s.store after o.words o.words live_same (λ i q. refl) in
      record {
        at = record {
          running = caller;
          runs = subst (λ z. Runs G z o.limit caller fs) (sym len) c.4;
          base = c.5.base;
          temp = c.5.temp;
          component = c.5.component;
          gate = marks (λ ys gs. f.held ≡ innermost_gate gs) N.on.left.2.1;
          live = live;
          left = left;
          next_value = behind;
        };
        words_mean = record {
          count = N.on.count;
          activations_mean = means after o.words
              (activations_kept G s.store after o.words o.words o.temps o.limit f.base inner caller fs c.1 c.2 k c.7
              (each_kept G s.store after o.words o.words xs (activation_below G xs top stack s.store after o.words o.words live_same (λ i q. refl))) N.on.activations_mean.1);
          data_means = marks (λ ys gs. DataMeans G ys (in_sight G) after o.words)
              (data_kept G s.store after o.words o.words xs keeps
              (data_behind G (record { base = o.base; routine = N.on.left.1.frame.routine }) xs s.store o.words (subst (λ e. DataMeans G (activation_of o.base e xs) (in_sight G) s.store o.words) here N.on.data_means)));
          given = all_kept G s.store after (keeps_given G s.store after o.words o.words xs keeps) (components f.component fs) N.on.given.1;
        };
      }

  abbrev pub gone : Outcome Configuration → State
  gone O = after_step s G.p (and_then O own_step)

  abbrev caller_is : (x : Option Name) → Type 0
  caller_is x = CallerAt G N.on.running.number N.on.left.3.2 N.on.left.3.3 x f N.on.left.3.1

  caller_there : (x : Option Name) → N.on.left.1.frame.routine.result ≡ x → caller_is x
  caller_there x e = subst caller_is (ap result_of N.on.left.1.runs ∙ e) N.on.left.3.6

  -- The caller of a procedure continues after the call.
  pub procedure_returns : N.on.left.1.frame.routine.result ≡ None → PartOf G (gone (result_returns (configuration s G.p) env k N.on.left.1.frame None)) before (leave o f fs)
  procedure_returns none =
      let c = N.on.left.3 in
      let there = caller_there None none in
      went G s before (record o { frames = f ∷ fs }) N.part (forget N.on.left.1.frame.owner s.store) (leave o f fs) k
      (caller_on o.temps f.counter 0 k refl
      (subst (λ z. Remaining G o.temps o.limit (held_below 0 o.temps c.0.temp) c.0 fs z c.0.unit.temps k) there.0
      (left_raised G o.temps o.limit (held_below 0 o.temps c.0.temp) c.0 fs c.1 c.2 c.0.unit.temps k c.5.kept_fit
      (left_kept G o.temps o.temps o.limit refl (kept_below c.2 c.3 o.temps c.0.temp) (held_below 0 o.temps c.0.temp) c.0 fs c.1 c.2 k
      (λ n m h. absurd (omega (arith, h.0, there.1))) (λ i q. refl) c.7)))
      (λ d n m e. omega arith) (λ F x. x) (λ store ws x. x))
      record { number = refl; input = refl; consumed = refl; output = refl; activity = refl }

  -- A function's value takes the place of the call. If the function has set no result, it faults.
  pub function_returns : (t : Name) → N.on.left.1.frame.routine.result ≡ Some t → local (scope G) N.on.left.1.frame.routine N.on.left.1.frame.routine.name ≡ None
      → (effect : machine.Effect) → PartOf G (gone (result_returns (configuration s G.p) env k N.on.left.1.frame (Some t))) before (return_with returning returning f fs true effect).0
  function_returns t is none effect = by (s.store (result_location N.on.left.1.frame)) (word o.words o.base) refl means
    where
      means : ResultMeans (s.store (result_location N.on.left.1.frame)) (word o.words o.base)
      means = (subst (λ e. IfFrame e (ActivationMeans G (activations f.base fs k) s.store o.words o.base)) here N.on.activations_mean.0).result t is none

      caller : CallerAt G N.on.running.number N.on.left.3.2 N.on.left.3.3 (Some t) f N.on.left.3.1
      caller = caller_there (Some t) is

      room : N.on.left.3.0.temp + N.on.left.3.0.unit.temps ≤ length o.temps
      room = N.on.left.3.4.temps_fit

      text : slice_get G.texts caller.0.routine ≡ Some (RoutineOf (text_is N.on.running.text N.on.running.env.frame N.on.left.1.frame N.on.left.1.runs N.on.runs.frame).0 N.on.left.1.frame.routine)
      text = ap (slice_get G.texts) caller.2 ∙ (N.on.runs.text ∙ ap Some (text_is N.on.running.text N.on.running.env.frame N.on.left.1.frame N.on.left.1.runs N.on.runs.frame).1)

      globals : N.on.left.3.0.env.globals ≡ env.globals
      globals = N.on.left.3.4.globals ∙ (sym N.on.runs.globals ∙ ap (λ (y : Environment). y.globals) (sym N.on.left.0))

      into_is : N.on.left.3.0.temp + caller.1 ≡ f.temp + f.into
      into_is = omega (arith, caller.6, N.on.left.3.5.temp)

      A : RemainingAnswered G o.temps o.limit N.on.left.3.0 fs N.on.left.3.3 N.on.left.3.1 caller.0 caller.1 f.counter caller.5 room caller.4 k
      A =
          task_answered G o.temps o.limit N.on.left.3.0 fs N.on.left.3.3 N.on.left.3.1 caller.0 caller.1 f.counter caller.5 room caller.4 k
          (left_raised G o.temps o.limit (kept_below caller.0.temps N.on.left.3.3 o.temps N.on.left.3.0.temp) N.on.left.3.0 fs N.on.left.3.1 N.on.left.3.2 N.on.left.3.0.unit.temps k N.on.left.3.5.kept_fit
          (subst (λ z. Remaining G o.temps o.limit (kept_below z N.on.left.3.3 o.temps N.on.left.3.0.temp) N.on.left.3.0 fs N.on.left.3.1 N.on.left.3.2 k) (sym caller.3) N.on.left.3.7))

      answer : (n : ℤ) → Remaining G (slice_set o.temps (f.temp + f.into) n) o.limit (held_below (caller.1 + 1) (slice_set o.temps (f.temp + f.into) n) N.on.left.3.0.temp) N.on.left.3.0 fs f.counter N.on.left.3.0.unit.temps
          (with_answer (a.Known (base_of_type (named_type env.globals t)) n) k)
      answer n =
          let base_is = A.1 _ N.on.left.1.frame.routine t text is ∙ ap (λ g. base_of_type (named_type g t)) globals in
          subst (λ b. Remaining G (slice_set o.temps (f.temp + f.into) n) o.limit (held_below (caller.1 + 1) (slice_set o.temps (f.temp + f.into) n) N.on.left.3.0.temp) N.on.left.3.0 fs f.counter N.on.left.3.0.unit.temps (with_answer (a.Known b n) k)) base_is
          (subst (λ i. Remaining G (slice_set o.temps i n) o.limit (held_below (caller.1 + 1) (slice_set o.temps i n) N.on.left.3.0.temp) N.on.left.3.0 fs f.counter N.on.left.3.0.unit.temps (with_answer (a.Known A.0 n) k)) into_is
          (A.3 n))

      marks : (v : a.Expression) (F : List Activation → List ℕ → Type 0) → F (activations f.base fs k) (marked_monitors k) → F (activations f.base fs (with_answer v k)) (marked_monitors (with_answer v k))
      marks v F x =
          subst (λ (T : Type 0). T)
          (sym (with_answer_same (λ j. F (activations f.base fs j) (marked_monitors j)) v k (λ a1 a2 a3 a4. refl) (λ a1 a2 a3 a4 a5 a6. refl) (λ a1 a2 a3 a4 a5 a6. refl))) x

      others : (v : a.Expression) (store : Store) (ws : List ℤ) → ActivationsMean G store ws f.base fs k → ActivationsMean G store ws f.base fs (with_answer v k)
      others v store ws x =
          subst (λ (T : Type 0). T)
          (sym (with_answer_same (λ j. ActivationsMean G store ws f.base fs j) v k (λ a1 a2 a3 a4. refl) (λ a1 a2 a3 a4 a5 a6. refl) (λ a1 a2 a3 a4 a5 a6. refl))) x

      computed : Bool → ℤ → PrivateState
      computed b n = (if b then fault_in (record o { frames = f ∷ fs }) fault.NoResult else (leave (set_temp (record o { frames = f ∷ fs }) (f.temp + f.into) n) f fs, effect)).0

      value_returns : (n : ℤ) (b : Bool) → same_integer n unset ≡ b → (n ≡ unset → ⊥)
          → PartOf G (gone (return_value (configuration s G.p) env N.on.left.1.frame.owner k t (Ordinal n))) before (computed b n)
      value_returns n true e d = absurd (d (integer_is n unset e))
      value_returns n false e d =
          let v = a.Known (base_of_type (named_type env.globals t)) n in
          went G s before (record o { frames = f ∷ fs }) N.part (forget N.on.left.1.frame.owner s.store) (leave (set_temp (record o { frames = f ∷ fs }) (f.temp + f.into) n) f fs) (with_answer v k)
          (caller_on (slice_set o.temps (f.temp + f.into) n) f.counter (caller.1 + 1) (with_answer v k) (length-set o.temps (f.temp + f.into) n) (answer n) A.2 (marks v) (others v))
          record { number = refl; input = refl; consumed = refl; output = refl; activity = refl }

      by : (v : Value) (n : ℤ) → s.store (result_location N.on.left.1.frame) ≡ v → ResultMeans v n
          → PartOf G (gone (return_value (configuration s G.p) env N.on.left.1.frame.owner k t v)) before (computed (same_integer n unset) n)
      by Absent n e h =
          subst (λ z. PartOf G (gone (Fault 9)) before (computed (same_integer z unset) z)) (sym h)
          (faulted G s w before (record o { frames = f ∷ fs }) (EndCall env gate) k N 9 fault.NoResult refl)
      by (Ordinal q) n e h =
          subst (λ z. PartOf G (gone (return_value (configuration s G.p) env N.on.left.1.frame.owner k t (Ordinal z))) before (computed (same_integer n unset) n)) h.0
          (value_returns n (same_integer n unset) refl h.1)
      by _ n e h = absurd h

-- The end of a routine. A function's name is no parameter or variable of it.
pub return_steps : (G : Ground) (s : State) (w : StepContext) (before : List ℕ) (o : PrivateState) (env : Environment) (gate : Option ℕ) (k : List Task) → Now G s w before o (EndCall env gate) k
    → ((f : Frame) (t : Name) → env.frame ≡ Some f → f.routine.result ≡ Some t → local (scope G) f.routine f.routine.name ≡ None)
    → Stepped G s w before o
return_steps G s w before o env gate k N names = by o.frames N
  where
    by : (gs : List machine.Frame) → Now G s w before (record o { frames = gs }) (EndCall env gate) k → Stepped G s w before (record o { frames = gs })
    by [] N = absurd N.on.left
    by (f ∷ fs) N =
        let P = record o { frames = f ∷ fs } in
        let r = N.on.left.1 in
        let function = is_function r.frame.routine.result in
        let part =
        gates_left G s before gate (returns (configuration s G.p) env k) _
        (subst (λ x. PartOf G (gone G s w before o f fs env gate k N (frame_returns (configuration s G.p) env k x)) before (return_with P P f fs function (gate_effect f.gate machine.Leaves)).0) (sym (here G s w before o f fs env gate k N))
        (returned r.frame.routine.result refl)) in
        both_step G s w before P (EndCall env gate) k N (Acts (EndCall env gate) k) (op.Return function) (acts_itself (EndCall env gate) k refl refl) refl r.return refl part
        (λ all. reported G w.own s before N.ready (does G s (Acts (EndCall env gate) k)) (gate_effect f.gate machine.Leaves) (act G.program w P (op.Return function)) part
        (then_means G w.own (gate_effect f.gate machine.Leaves) (returns (configuration s G.p) env k) (λ after. Gives (after, leaving gate)) (λ after. leaves G w.own gate f.gate N.on.left.2.0 N.on.left.2.2))
        (return_leaves P P f fs function (gate_effect f.gate machine.Leaves) (going G s before P N.part N.ready)))
      where
        returned : (x : Option Name) → N.on.left.1.frame.routine.result ≡ x
            → PartOf G (gone G s w before o f fs env gate k N (result_returns (configuration s G.p) env k N.on.left.1.frame x)) before
            (return_with (record o { frames = f ∷ fs }) (record o { frames = f ∷ fs }) f fs (is_function x) (gate_effect f.gate machine.Leaves)).0
        returned None e = procedure_returns G s w before o f fs env gate k N e
        returned (Some t) e = function_returns G s w before o f fs env gate k N t e (names N.on.left.1.frame t (here G s w before o f fs env gate k N) e) (gate_effect f.gate machine.Leaves)
