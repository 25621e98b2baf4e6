-- Whole steps of `continue`: the running entry routine returns at once, and the queue becomes
-- empty. If its call entered no monitor, nothing is done.
use Rattle.std.proofs.Common.{◌≡◌, ℕ, ◌+◌, ℤ, pos, List, [], ◌∷◌, length, Bool, true, false, Option, Some, None, Result, Ok, Err, refl, ap, sym, subst, ◌∙◌, arith}
use Rattle.std.specs.Prelude.{if◌then◌else◌, slice_set}
use Rattle.std.proofs.lemmas.Bool.{eq-eqb, true≢false}
use Rattle.cp_model.specs.Abstract as a
use Rattle.cp_model.specs.Abstract.{Name}
use Rattle.cp_model.specs.CallSteps.{innermost_call, result_location, return_value, returns}
use Rattle.cp_model.specs.Configurations as stage
use Rattle.cp_model.specs.Configurations.{Configuration, StepResult, own_step}
use Rattle.cp_model.specs.Continuations.{Do, EndCall, Task}
use Rattle.cp_model.specs.Environments.{Environment, Frame}
use Rattle.cp_model.specs.Integers.{same_integer}
use Rattle.cp_model.specs.Locations.{Location, OfActivation, same_location}
use Rattle.cp_model.specs.Outcomes.{Fault, Gives, Outcome, and_then}
use Rattle.cp_model.specs.Places.{Place}
use Rattle.cp_model.specs.StandardCalls as calls
use Rattle.cp_model.specs.StandardCalls.{process_in_queue}
use Rattle.cp_model.specs.States.{State, configuration, context}
use Rattle.cp_model.specs.Stores.{Absent, Ordinal, QueueHolds, Reference, Store, Value, forget, put}
use Rattle.cp_model.specs.Turns.{after_step}
use Rattle.cp_model.specs.Types.{Queue}
use Rattle.cp_model.specs.declared.state.Fault as machine
use Rattle.cp_model.specs.declared.state.Fault.TheVariants as fault
use Rattle.cp_model.proofs.StateMaps.{with_at_here}
use Rattle.cp_model.proofs.Options.{same_some}
use Rattle.cp_model_program.specs.Terms.{PlaceExpression}
use Rattle.cp_model_program.specs.Programs as op
use Rattle.cp_model_program.specs.Layout.{local}
use Rattle.cp_model_program.specs.Starts.{unset, word}
use Rattle.cp_model_program.specs.TermsFor.{nothing_known}
use Rattle.cp_model_program.specs.StatementsFor.{is_function}
use Rattle.cp_model_machine.specs.PrivateStates as private
use Rattle.cp_model_machine.specs.PrivateStates.{Continues, StepContext, PrivateState, fault_in, go_to, private_outcome, set_temp, set_word, with_result}
use Rattle.cp_model_machine.specs.Calling.{leave, return_with}
use Rattle.cp_model_machine.specs.Steps as steps
use Rattle.cp_model_machine.specs.Means.{PlaceAgrees}
use Rattle.cp_model_machine.specs.Addresses.{Activation, Ground, activation_at, activation_of, activations, in_sight, lies, scope, lies_in_sight}
use Rattle.cp_model_machine.specs.Remaining.{IsGate, gate_number}
use Rattle.cp_model_machine.specs.PartOf.{ActivationMeans, IfFrame, PartOf, ResultMeans, RunsOn}
use Rattle.cp_model_machine.proofs.Continuing.{Innermost, innermost, part_same, resumed_part}
use Rattle.cp_model_machine.proofs.Doing.{Ready, executed, place_here, statement_steps}
use Rattle.cp_model_machine.proofs.GatesHeld.{is_held_at_least, monitor_numbered}
use Rattle.cp_model_machine.proofs.Heres.{seen_mine}
use Rattle.cp_model_machine.proofs.Returning.{frame_returns, function_returns, procedure_returns, result_returns}
use Rattle.cp_model_machine.proofs.RunningOn.{runs_moved, runs_stacked, runs_stored}
use Rattle.cp_model_machine.proofs.Separate.{cell_no_result}
use Rattle.cp_model_machine.proofs.Standards.{By, argument_none, continues, not_called, one, rests, used_none}
use Rattle.cp_model_machine.proofs.Stepping.{Now, Stepped, faulted, went}
use Rattle.cp_law_typing.proofs.Locations.{integer_is}
use Rattle.cp_model_machine.proofs.Writing.{changed_other}
use Rattle.cp_model_machine.proofs.Effects.{EffectAgrees, going, return_leaves, then_means, reported}
use Rattle.cp_model_machine.proofs.MonitorsThere.{monitor_below}
use Rattle.cp_model_machine.specs.Steps.{act}

module _ (G : Ground) (s : State) (w : StepContext) (before : List ℕ) (o : PrivateState) (f : private.Frame) (fs : List private.Frame) (x : Name) (env : Environment) (k : List Task) (d : a.Designator)
    (Y : Ready G s w before (record o { frames = f ∷ fs }) (a.Perform (a.Plain x) (one (a.Use d))) env k)
    (I : Innermost G o.temps o.limit Y.now.on.running (f ∷ fs) Y.now.on.running.unit.temps k) where
  abbrev first : Task
  first = Do (a.Perform (a.Plain x) (one (a.Use d))) env

  abbrev P : PrivateState
  P = record o { frames = f ∷ fs }

  abbrev N : Now G s w before P first k
  N = Y.now

  abbrev mark : List Task
  mark = EndCall I.env I.gate ∷ I.rest

  abbrev ys : List Activation
  ys = activations P.base P.frames mark

  -- The routine has reached its end mark.
  abbrev at_mark : RunsOn G s.store (go_to I.counter P) mark
  at_mark = runs_moved G s.store P (first ∷ k) mark I.counter I.low Y.now.on (I.same P.base) (I.means s.store P.words P.base) (sym I.marks) I.left I.fits

  module _ (q : Location) (at : ℕ) (mine : in_sight G q.owner ≡ true) (is : lies G (activations P.base P.frames (first ∷ k)) q ≡ Some (at, Queue)) where
    abbrev store : Store
    store = put q (QueueHolds None) s.store

    abbrev emptied : PrivateState
    emptied = go_to I.counter (set_word P at (pos 0))

    abbrev at_end : RunsOn G store emptied mark
    at_end =
        runs_stored G s.store (go_to I.counter P) mark at_mark q at Queue (QueueHolds None) (pos 0) tt refl mine (ap (λ zs. lies G zs q) (I.same P.base) ∙ is)
        (λ y sort e set. absurd (true≢false (sym set)))

    abbrev frame : Frame
    frame = at_end.left.1.frame

    abbrev frame_is : I.env.frame ≡ Some frame
    frame_is = ap (λ (y : Environment). y.frame) at_end.left.0 ∙ at_end.left.1.runs

    -- The state in which the queue is empty and the routine returns next.
    abbrev there : State
    there = after_step s G.p (own_step (record (configuration s G.p) { store = store; continuation = mark }))

    unreferred : (l j : Location) (n : ℕ) → l.owner ≡ OfActivation G.p n → store l ≡ Reference j → in_sight G j.owner ≡ true
    unreferred l j n owner holds = by (same_location q l) holds
      where
        by : (b : Bool) → (if b then QueueHolds None else s.store l) ≡ Reference j → in_sight G j.owner ≡ true
        by true e = absurd (subst no_reference (sym e) tt)
          where
            no_reference : Value → Type 0
            no_reference (Reference y) = Unit {0}
            no_reference _ = ⊥
        by false e = Y.now.sees.references l j n owner e

    abbrev returning : Now G there w before emptied (EndCall I.env I.gate) I.rest
    returning = record {
      part = went G s before P Y.now.part store emptied mark at_end record { number = refl; input = refl; consumed = refl; output = refl; activity = refl };
      on = at_end;
      left = with_at_here G.p mark s.continuation;
      ready = Y.now.ready;
      around = record { clock = Y.now.around.clock; own = Y.now.around.own };
      sees = record { component = Y.now.sees.component; activations = Y.now.sees.activations; references = unreferred };
    }

    abbrev cleared : Configuration
    cleared = record (configuration s G.p) { store = store }

    -- The same, from the state before.
    same_end : (after : PrivateState) (st : Store) (l : List Task) → PartOf G (after_step there G.p (own_step (record (configuration there G.p) { store = st; continuation = l }))) before after
        → (m : ℕ) (r : Option ℕ) → PartOf G (after_step s G.p (Gives (record cleared { store = st; continuation = l }, stage.Continues m r))) before after
    same_end after st l h m r =
        resumed_part G before after m r _
        (part_same G before after (after_step there G.p (own_step (record (configuration there G.p) { store = st; continuation = l }))) _ refl
        (with_at_here G.p l s.continuation ∙ sym (with_at_here G.p l there.continuation))
        (with_at_here G.p (s.transcript G.p) s.transcript ∙ (sym (with_at_here G.p (s.transcript G.p) s.transcript) ∙ sym (with_at_here G.p (there.transcript G.p) there.transcript)))
        (with_at_here G.p (s.consumed G.p) s.consumed ∙ (sym (with_at_here G.p (s.consumed G.p) s.consumed) ∙ sym (with_at_here G.p (there.consumed G.p) there.consumed)))
        refl h)

    abbrev resumes : ℕ → Option ℕ → Configuration → StepResult
    resumes m r after = Gives (after, stage.Continues m r)

    -- The routine is a procedure.
    procedure : frame.routine.result ≡ None → (m : ℕ) (r : Option ℕ) (e : private.Effect)
        → PartOf G (after_step s G.p (and_then (result_returns cleared I.env I.rest frame None) (resumes m r))) before (return_with P (set_word P at (pos 0)) f fs false e).0
    procedure none m r e =
        same_end (leave (set_word P at (pos 0)) f fs) (forget frame.owner store) I.rest (procedure_returns G there w before emptied f fs I.env I.gate I.rest returning none) m r

    -- The queue and the result have different words.
    result_apart : (t : Name) → frame.routine.result ≡ Some t → word (slice_set P.words at (pos 0)) P.base ≡ word P.words P.base
    result_apart t sets =
        let rest = activations f.base fs I.rest in
        let z : Activation = record { base = P.base; routine = frame.routine } in
        changed_other P.words P.base at (pos 0)
        (λ same.
        cell_no_result G ys _ (runs_stacked G s.store (go_to I.counter P) mark at_mark) q at Queue 0 (length rest) z t mine refl (ap (λ zs. lies G zs q) (I.same P.base) ∙ is)
        (ap (λ e. activation_at (length rest) (activation_of P.base e rest)) frame_is ∙ ap (λ b. if b then Some z else activation_at (length rest) rest) (eq-eqb (length rest) (length rest) refl))
        sets (omega (arith, same)))

    -- The routine is a function, which has set its result or not.
    function' : (t : Name) → frame.routine.result ≡ Some t → local (scope G) frame.routine frame.routine.name ≡ None → (m : ℕ) (r : Option ℕ) (e : private.Effect)
        → PartOf G (after_step s G.p (and_then (result_returns cleared I.env I.rest frame (Some t)) (resumes m r))) before (return_with P (set_word P at (pos 0)) f fs true e).0
    function' t sets none m r e =
        subst (λ z. PartOf G (after_step s G.p (and_then (result_returns cleared I.env I.rest frame (Some t)) (resumes m r))) before (computed (same_integer z unset) z)) (result_apart t sets)
        (by (store (result_location frame)) refl means)
      where
        n : ℤ
        n = word (slice_set P.words at (pos 0)) P.base

        computed : Bool → ℤ → PrivateState
        computed b z = (if b then fault_in P fault.NoResult else (leave (set_temp (set_word P at (pos 0)) (f.temp + f.into) z) f fs, e)).0

        means : ResultMeans (store (result_location frame)) n
        means = (subst (λ y. IfFrame y (ActivationMeans G (activations f.base fs I.rest) store emptied.words P.base)) frame_is at_end.activations_mean.0).result t sets none

        gives : Value → StepResult
        gives v = and_then (return_value cleared I.env frame.owner I.rest t v) (resumes m r)

        returned : Value → Bool → Type 0
        returned v b =
            PartOf G (after_step there G.p (and_then (return_value (configuration there G.p) I.env frame.owner I.rest t v) own_step)) before
            (if b then fault_in emptied fault.NoResult else (leave (set_temp emptied (f.temp + f.into) n) f fs, e)).0

        value : (b : Bool) → same_integer n unset ≡ b → (n ≡ unset → ⊥) → returned (Ordinal n) b → PartOf G (after_step s G.p (gives (Ordinal n))) before (computed b n)
        value true i d h = absurd (d (integer_is n unset i))
        value false i d h = same_end (computed false n) (forget frame.owner store) _ h m r

        by : (v : Value) → store (result_location frame) ≡ v → ResultMeans v n → PartOf G (after_step s G.p (gives v)) before (computed (same_integer n unset) n)
        by Absent i h =
            subst (λ z. PartOf G (after_step s G.p (Fault 9)) before (computed (same_integer z unset) z)) (sym h)
            (faulted G s w before P first k Y.now 9 fault.NoResult refl)
        by (Ordinal z) i h =
            subst (λ y. PartOf G (after_step s G.p (gives (Ordinal y))) before (computed (same_integer n unset) n)) h.0
            (value (same_integer n unset) refl h.1
            (subst (λ v. returned v (same_integer n unset)) (i ∙ ap Ordinal (sym h.0))
            (function_returns G there w before emptied f fs I.env I.gate I.rest returning t sets none e)))
        by _ i h = absurd h

    module _ (names : (g : Frame) (t : Name) → Y.now.on.running.env.frame ≡ Some g → g.routine.result ≡ Some t → local (scope G) g.routine g.routine.name ≡ None)
        (function : Bool) (runs : (g : Frame) × (Y.now.on.running.env.frame ≡ Some g) × (function ≡ is_function g.routine.result)) where
      returns_at_once : (m : ℕ) (r : Option ℕ) (e : private.Effect)
          → PartOf G (after_step s G.p (and_then (returns cleared I.env I.rest) (resumes m r))) before (return_with P (set_word P at (pos 0)) f fs function e).0
      returns_at_once m r e =
          subst (λ b. PartOf G (after_step s G.p (and_then (returns cleared I.env I.rest) (resumes m r))) before (return_with P (set_word P at (pos 0)) f fs b e).0)
          (sym (runs.2 ∙ ap (λ (g : Frame). is_function g.routine.result) (same_some runs.0 frame (sym runs.1 ∙ at_end.left.1.runs))))
          (subst (λ y. PartOf G (after_step s G.p (and_then (frame_returns cleared I.env I.rest y) (resumes m r))) before (return_with P (set_word P at (pos 0)) f fs (is_function frame.routine.result) e).0) (sym frame_is)
          (by frame.routine.result refl))
        where
          by : (y : Option Name) → frame.routine.result ≡ y
              → PartOf G (after_step s G.p (and_then (result_returns cleared I.env I.rest frame y) (resumes m r))) before (return_with P (set_word P at (pos 0)) f fs (is_function y) e).0
          by None i = procedure i m r e
          by (Some t) i = function' t i (names frame t at_end.left.1.runs i) m r e

      abbrev does : Bool → private.Acting
      does b = if b then return_with P (set_word P at (pos 0)) f fs function (Continues f.gate (word P.words at)) else private_outcome P

      continued : (gate : Option ℕ) → I.gate ≡ gate
          → PartOf G (after_step s G.p (calls.continue (configuration s G.p) q (Some (I.env, gate, I.rest)))) before (does (steps.is_held f.gate)).0
      continued None i =
          subst (λ b. PartOf G (after_step s G.p (own_step (configuration s G.p))) before (does (steps.is_held b)).0) (sym (I.left.2.0 ∙ ap gate_number i)) (rests G s w before P x env k first k Y.now)
      continued (Some m) i =
          subst (λ b. PartOf G (after_step s G.p (calls.continue (configuration s G.p) q (Some (I.env, Some m, I.rest)))) before (does b).0)
          (sym (ap steps.is_held (I.left.2.0 ∙ ap gate_number i) ∙ is_held_at_least m (monitor_numbered G m (subst (IsGate G) i I.left.2.2))))
          (returns_at_once m (process_in_queue (s.store q)) (Continues f.gate (word P.words at)))

      -- The process that waited in the queue continues, and the gate is the one that the frame
      -- keeps.
      resumes_reported : (gate : Option ℕ) → I.gate ≡ gate → EffectAgrees G w.own (calls.continue (configuration s G.p) q (Some (I.env, gate, I.rest))) (does (steps.is_held f.gate)).1
      resumes_reported None i =
          subst (λ b. EffectAgrees G w.own (own_step (configuration s G.p)) (does (steps.is_held b)).1) (sym (I.left.2.0 ∙ ap gate_number i)) tt
      resumes_reported (Some m) i =
          subst (λ b. EffectAgrees G w.own (calls.continue (configuration s G.p) q (Some (I.env, Some m, I.rest))) (does b).1)
          (sym (ap steps.is_held (I.left.2.0 ∙ ap gate_number i) ∙ is_held_at_least m (monitor_numbered G m is_gate)))
          (reported G w.own s before Y.now.ready _ (Continues f.gate (word P.words at)) _ (returns_at_once m (process_in_queue (s.store q)) (Continues f.gate (word P.words at)))
          (then_means G w.own (Continues f.gate (word P.words at)) (returns cleared I.env I.rest) (resumes m (process_in_queue (s.store q)))
          (λ after. (sym (I.left.2.0 ∙ ap gate_number i), monitor_below G.setup m is_gate.0 is_gate.1, ap process_in_queue (Y.now.on.data_means.cells q at Queue mine is))))
          (return_leaves P (set_word P at (pos 0)) f fs function (Continues f.gate (word P.words at)) (going G s before P Y.now.part Y.now.ready)))
        where
          is_gate : IsGate G (Some m)
          is_gate = subst (IsGate G) i I.left.2.2

-- A `continue` step, whichever gate is held.
pub continue_steps : (G : Ground) (s : State) (w : StepContext) (before : List ℕ) (o : PrivateState) (x : Name) (env : Environment) (k : List Task) (d : a.Designator)
    (Y : Ready G s w before o (a.Perform (a.Plain x) (one (a.Use d))) env k) (queue : PlaceExpression) (function : Bool)
    → By G s w before o x env k (one (a.Use d)) Y (op.Continue queue function)
    → ((g : Frame) (t : Name) → Y.now.on.running.env.frame ≡ Some g → g.routine.result ≡ Some t → local (scope G) g.routine g.routine.name ≡ None)
    → Stepped G s w before o
continue_steps G s w before o x env k d Y queue function h names =
    statement_steps G s w before o (a.Perform (a.Plain x) (one (a.Use d))) env k Y (op.Continue queue function) (not_called Y.now.on.running.env (a.Plain x) (one (a.Use d)) h.1.0.0) refl h.0 refl
    both.0 (λ all. both.1)
  where
    first : Task
    first = Do (a.Perform (a.Plain x) (one (a.Use d))) env

    -- What is proved of both sides, for the routine that runs.
    Both : StepResult → private.Acting → Type 0
    Both r e = PartOf G (after_step s G.p r) before e.0 × EffectAgrees G w.own r e.1

    by_frames : (gs : List private.Frame) (Y : Ready G s w before (record o { frames = gs }) (a.Perform (a.Plain x) (one (a.Use d))) env k)
        → Innermost G o.temps o.limit Y.now.on.running gs Y.now.on.running.unit.temps k
        → ((g : Frame) (t : Name) → Y.now.on.running.env.frame ≡ Some g → g.routine.result ≡ Some t → local (scope G) g.routine g.routine.name ≡ None)
        → ((g : Frame) × (Y.now.on.running.env.frame ≡ Some g) × (function ≡ is_function g.routine.result))
        → (q : Location) (at : ℕ) → in_sight G q.owner ≡ true → lies G (activations o.base gs (first ∷ k)) q ≡ Some (at, Queue)
        → Both (calls.continue (configuration s G.p) q (innermost_call k)) (steps.continue (record o { frames = gs }) at function)
    by_frames [] Y I names runs q at mine is = absurd I.left
    by_frames (f ∷ fs) Y I names runs q at mine is =
        subst (λ z. Both (calls.continue (configuration s G.p) q z) (steps.continue (record o { frames = f ∷ fs }) at function)) (sym I.is)
        (continued G s w before o f fs x env k d Y I q at mine is names function runs I.gate refl, resumes_reported G s w before o f fs x env k d Y I q at mine is names function runs I.gate refl)

    by_place : (p : Outcome Place) (r : Result ℕ machine.Fault) → PlaceAgrees (lies_in_sight (in_sight G) G (activations o.base o.frames (first ∷ k))) Queue p r
        → Both (and_then p (λ at. calls.continue (configuration s G.p) at.at (innermost_call k))) (with_result o r (λ at. steps.continue o at function))
    by_place (Gives q) (Ok at) g =
        let z = seen_mine (in_sight G) G (activations o.base o.frames (first ∷ k)) q.at (at, Queue) g.0 in
        by_frames o.frames Y
        (innermost G o.temps o.limit Y.now.on.running h.1.3.0 h.1.3.1 nothing_known o.frames Y.now.on.left.2.0 Y.now.on.left.2.1 Y.now.on.running.unit.temps k Y.now.on.left.2.2 Y.now.on.left.2.4)
        names h.1.3 q.at at z.0 z.1
    by_place (Fault i) (Err e) g = (faulted G s w before o first k Y.now i e g, refl)
    by_place (Gives v) (Err e) g = absurd g
    by_place (Fault i) (Ok at) g = absurd g

    both : Both (executed G s w before o (a.Perform (a.Plain x) (one (a.Use d))) env k Y) (act G.program w o (op.Continue queue function))
    both =
        subst (λ z. Both z (steps.with_place w o queue (λ at. steps.continue o at function)))
        (sym (continues (context G.setup s G.p) (configuration s G.p) Y.now.on.running.env k x (a.Use d) h.1.0.1 h.1.0.2 h.1.0.3))
        (by_place _ _
        (place_here G s w before o first k Y.now Y.now.sees d queue Queue o.counter Y.now.on.left.2.3.0 Y.now.on.left.2.1 Y.now.on.running.unit.temps h.1.2
        (used_none G s w before o x env k Y.now.on.running.env d (argument_none G s w before o x env k Y.now.on.running.env (a.Use d) Y.none))))
