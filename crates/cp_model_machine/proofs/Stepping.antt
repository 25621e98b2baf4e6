-- What every private step has in common, in the meaning and in the machine.
--
-- A step continues, faults or ends on both sides alike, and each time changes few parts of the
-- state. So a lemma on a step needs only show that the process runs on, and the rest follows
-- here.
use Rattle.std.proofs.Common.{refl, List, Some, [], ap, arith, false, inl, inr, length, subst, sym, true, ℕ, ℤ, ◌++◌, ◌<◌, ◌∙◌, ◌∷◌, ◌≡◌, ◌≤◌, ◌⊎◌}
use Rattle.cp_model.specs.Actions.{Action, Acts, Calls, Rests, action, is_kernel_action}
use Rattle.cp_model.specs.Configurations.{Asking, Configuration, Faulted, Ready, StepResult, own_step}
use Rattle.cp_model.specs.Continuations.{Do, EndBody, EndProcess, Task, marked_monitors}
use Rattle.cp_model.specs.Components.{Component, component_named, same_sort}
use Rattle.cp_model.specs.Environments.{Environment}
use Rattle.cp_model.specs.Operators.{Clock, realtime}
use Rattle.cp_model.specs.Outcomes.{Fault, Gives, Outcome, and_then}
use Rattle.cp_model.specs.Parts.{HasBegun, private_status}
use Rattle.cp_model.specs.States.{Free, HeldBy, Holder, State, Unset, configuration, context, is_set, is_started, running_clock, with_at, with_configuration}
use Rattle.cp_model.specs.StateViews.{fault_number}
use Rattle.cp_model.specs.Step.{take_action}
use Rattle.cp_model.specs.Stores.{Store}
use Rattle.cp_model.specs.Turns.{after_step}
use Rattle.cp_model.specs.declared.state.Fault as fault
use Rattle.cp_model.proofs.StateMaps.{with_at_here}
use Rattle.cp_model_program.specs.Programs as op
use Rattle.cp_model_program.specs.Programs.{Operation}
use Rattle.cp_model_program.specs.Sites.{operation_at}
use Rattle.cp_model_program.specs.IsProgramFor.{system_of_monitor, system_of_process}
use Rattle.cp_model_machine.specs.Passing.{monitor_start}
use Rattle.cp_model.specs.Abstract.{Class, Init, Monitor, Name, Process, Sort, System}
use Rattle.cp_model_machine.specs.PrivateStates as machine
use Rattle.cp_model_machine.specs.PrivateStates.{StepContext, PrivateState}
use Rattle.cp_model_machine.specs.Steps as steps
use Rattle.cp_model_machine.specs.Steps.{act}
use Rattle.cp_model_machine.specs.Addresses.{AllWords, Ground, activations, in_sight, whole}
use Rattle.cp_model_machine.specs.PartOf.{DataMeans, PartOf, RunsOn, status_of}
use Rattle.cp_model_machine.proofs.Effects.{EffectAgrees, ready_same}
use Rattle.cp_model_machine.proofs.Heres.{Sees}
use Rattle.std.proofs.lemmas.Bool.{true≢false}
use Rattle.cp_model.specs.Gates.{enter, made_ready, pass_to}
use Rattle.cp_model.specs.CallSteps.{entering, leaving}
use Rattle.std.specs.Prelude.{Bool, Option, None, not}

-- A claim about tasks that have an environment.
abbrev pub IfPlaced : Task → Type 0 → Type 0
IfPlaced (EndBody gate) A = Unit {0}
IfPlaced EndProcess A = Unit {0}
IfPlaced _ A = A

abbrev pub clock_of : Ground → State → Clock
clock_of G s = running_clock G.setup s

-- What a step reads besides the private state: the running clock, and the number of the process's
-- own words.
pub record Around (G : Ground) (s : State) (w : StepContext) : Type 0 where
  pub clock : w.clock ≡ realtime (clock_of G s)
  pub own : w.own ≡ G.own

-- All words are in reach, and what is read of gates and stages is the kernel's. The number 0 is no
-- monitor.
pub record AroundAll (G : Ground) (s : State) (w : StepContext) : Type 0 where
  pub sight : G.sight ≡ AllWords
  pub starts : (m : ℕ) → monitor_start G.program m ≤ G.program.shared
  pub few : (m : ℕ) (y : System) → system_of_monitor G.setup m ≡ Some y → m ≤ 255
  pub set_is : (m : ℕ) → w.is_set m ≡ is_set (s.gates m).holder
  pub none_set : w.is_set 0 ≡ false
  pub started_is : (r : ℕ) (y : System) → system_of_process G.setup r ≡ Some y → w.is_started r ≡ is_started (s.status r)

pub beyond : (G : Ground) (s : State) (w : StepContext) → Around G s w → (top i : ℕ) → (i < top) ⊎ (G.own ≤ i) → (i < top) ⊎ (w.own ≤ i)
beyond G s w A top i (inl h) = inl h
beyond G s w A top i (inr h) = inr (omega (arith, A.own, h))

-- The process is ready, and `i` is its first task.
pub record Now (G : Ground) (s : State) (w : StepContext) (before : List ℕ) (o : PrivateState) (i : Task) (k : List Task) : Type 0 where
  pub part : PartOf G s before o
  pub on : RunsOn G s.store o (i ∷ k)
  pub left : s.continuation G.p ≡ i ∷ k
  pub ready : s.status G.p ≡ Ready
  pub around : Around G s w
  pub sees : IfPlaced i (Sees G (in_sight G) s.store on.running.env)

-- A process that holds no gate.
abbrev pub IsFree : Ground → State → PrivateState → Type 0
IsFree G s o = (marked_monitors (s.continuation G.p) ≡ []) × (o.gate ≡ 0)

-- What an action of the process does.
abbrev pub does : Ground → State → Action → StepResult
does G s x = take_action (context G.setup s G.p) (configuration s G.p) x

-- What the meaning makes of a state by its next action.
abbrev pub acted : Ground → State → State
acted G s = after_step s G.p (does G s (action (s.continuation G.p)))

-- `init` of a process.
abbrev pub is_start_of : Environment → Name → Bool
is_start_of env x = elim (component_named env x) as (λ z. Bool) [ None ↦ false | Some c ↦ same_sort Process c.system.sort ]

abbrev pub is_start : Action → Bool
is_start (Acts (Do (Init x arguments) env) k) = is_start_of env x
is_start _ = false

-- The machine's operation and the meaning's action are both kernel steps, or neither is, and both start a
-- process, or neither does. If neither is a kernel step, or if all words are in reach, the private state after the machine's step is that of the
-- process after the meaning's. With all words in reach, both leave the same to the kernel.
pub record Stepped (G : Ground) (s : State) (w : StepContext) (before : List ℕ) (o : PrivateState) : Type 0 where
  pub operation : Operation
  pub there : operation_at G.program o.counter ≡ Some operation
  pub same_kind : is_kernel_action (action (s.continuation G.p)) ≡ steps.is_kernel_operation operation
  pub same_start : is_start (action (s.continuation G.p)) ≡ steps.is_start_operation operation
  pub part : (steps.is_kernel_operation operation ≡ false) ⊎ AroundAll G s w → PartOf G (acted G s) before (act G.program w o operation).0
  pub effect : AroundAll G s w → EffectAgrees G w.own (does G s (action (s.continuation G.p))) (act G.program w o operation).1

-- What isn't a kernel step starts no process.
private_no_start : (x : Action) → is_kernel_action x ≡ false → is_start x ≡ false
private_no_start Rests h = refl
private_no_start (Calls u k) h = refl
private_no_start (Acts (Do (Init x es) env) k) h = by (component_named env x) h
  where
    by_sort : (y : Sort) → not (same_sort Class y) ≡ false → same_sort Process y ≡ false
    by_sort Class h = refl
    by_sort Monitor h = refl
    by_sort Process h = absurd (true≢false h)

    by : (o : Option Component) → not (elim o as (λ z. Bool) [ None ↦ true | Some c ↦ same_sort Class c.system.sort ]) ≡ false
        → (elim o as (λ z. Bool) [ None ↦ false | Some c ↦ same_sort Process c.system.sort ]) ≡ false
    by None h = refl
    by (Some c) h = by_sort c.system.sort h
private_no_start (Acts _ k) h = refl

own_no_start : (y : Operation) → steps.is_kernel_operation y ≡ false → steps.is_start_operation y ≡ false
own_no_start (op.InitProcess r arguments words next) h = absurd (true≢false h)
own_no_start _ h = refl

-- ---- what comes of them

-- In the private state, only the registers, the words, the temps and the frames have changed.
pub record Quiet (o after : PrivateState) : Type 0 where
  pub number : after.number ≡ o.number
  pub input : after.input ≡ o.input
  pub consumed : after.consumed ≡ o.consumed
  pub output : after.output ≡ o.output
  pub activity : after.activity ≡ o.activity

module _ (G : Ground) (s : State) (before : List ℕ) (o : PrivateState) (part : PartOf G s before o) where
  -- The process continues.
  pub went : (store : Store) (after : PrivateState) (j : List Task) → RunsOn G store after j → Quiet o after
      → PartOf G (after_step s G.p (own_step (record (configuration s G.p) { store = store; continuation = j }))) before after
  went store after j R q = record {
    number = q.number ∙ part.number;
    input = q.input ∙ part.input;
    consumed = q.consumed ∙ (part.consumed ∙ sym (with_at_here G.p (s.consumed G.p) s.consumed));
    transcript = with_at_here G.p (s.transcript G.p) s.transcript ∙ (part.transcript ∙ ap (λ x. before ++ x) (sym q.output));
    status = part.status ∙ ap status_of (sym q.activity);
    count = R.count;
    data_means = λ begun. subst (λ x. DataMeans G (activations after.base after.frames x) (in_sight G) store after.words) (sym (with_at_here G.p j s.continuation)) R.data_means;
    runs_on = λ goes. subst (RunsOn G store after) (sym (with_at_here G.p j s.continuation)) R;
  }

  -- The process stops with a fault. Words that are no longer in use may have changed.
  pub stopped : (words : List ℤ) (n : ℕ) (f : fault.Fault) → n ≡ fault_number f → length words ≡ whole G
      → DataMeans G (activations o.base o.frames (s.continuation G.p)) (in_sight G) s.store words
      → PartOf G (after_step s G.p (Fault n)) before (record o { words = words; activity = machine.Faulted f })
  stopped words n f same count means = record {
    number = part.number;
    input = part.input;
    consumed = part.consumed;
    transcript = part.transcript;
    status = ap private_status (with_at_here G.p (Faulted n) s.status ∙ ap Faulted same);
    count = count;
    data_means = λ begun. means;
    runs_on = λ goes. absurd goes;
  }

-- A private state doesn't depend on whether a gate is passed on.
pub gate_passed : (G : Ground) (before : List ℕ) (after : PrivateState) (m : ℕ) (rs : List ℕ) (u : State) → PartOf G u before after → PartOf G (pass_to m rs u) before after
gate_passed G before after m [] u P = record {
  number = P.number;
  input = P.input;
  consumed = P.consumed;
  transcript = P.transcript;
  status = P.status;
  count = P.count;
  data_means = P.data_means;
  runs_on = P.runs_on;
}
gate_passed G before after m (r ∷ rs) u P = record {
  number = P.number;
  input = P.input;
  consumed = P.consumed;
  transcript = P.transcript;
  status = same ∙ P.status;
  count = P.count;
  data_means = λ begun. P.data_means (subst HasBegun same begun);
  runs_on = P.runs_on;
}
  where
    same : private_status (with_at r (made_ready (u.status r)) u.status G.p) ≡ private_status (u.status G.p)
    same = ready_same r G.p u.status

pub gate_left : (G : Ground) (s : State) (before : List ℕ) (gate : Option ℕ) (after : PrivateState) (config : Configuration)
    → PartOf G (after_step s G.p (own_step config)) before after → PartOf G (after_step s G.p (Gives (config, leaving gate))) before after
gate_left G s before None after config P = P
gate_left G s before (Some m) after config P = gate_passed G before after m (s.gates m).askers (with_configuration s G.p config) P

-- Nor does it depend on whether a gate is entered or asked for. A process that asks runs on in
-- private.
pub gate_entered : (G : Ground) (s : State) (before : List ℕ) (gate : Option ℕ) (after : PrivateState) (config : Configuration) → s.status G.p ≡ Ready
    → PartOf G (after_step s G.p (own_step config)) before after → PartOf G (after_step s G.p (Gives (config, entering gate))) before after
gate_entered G s before None after config ready P = P
gate_entered G s before (Some m) after config ready P = by (s.gates m).holder
  where
    by : (h : Holder) → PartOf G (enter G.p m h (with_configuration s G.p config)) before after
    by (HeldBy q) = record {
      number = P.number;
      input = P.input;
      consumed = P.consumed;
      transcript = P.transcript;
      status = ap private_status (with_at_here G.p (Asking m) s.status) ∙ (ap private_status (sym ready) ∙ P.status);
      count = P.count;
      data_means = λ begun. P.data_means (subst (λ z. HasBegun (private_status z)) (sym ready) tt);
      runs_on = P.runs_on;
    }
    by Free = record { number = P.number; input = P.input; consumed = P.consumed; transcript = P.transcript; status = P.status; count = P.count; data_means = P.data_means; runs_on = P.runs_on }
    by Unset = record { number = P.number; input = P.input; consumed = P.consumed; transcript = P.transcript; status = P.status; count = P.count; data_means = P.data_means; runs_on = P.runs_on }

pub gates_left : (G : Ground) (s : State) (before : List ℕ) (gate : Option ℕ) (O : Outcome Configuration) (after : PrivateState)
    → PartOf G (after_step s G.p (and_then O own_step)) before after → PartOf G (after_step s G.p (and_then O (λ config. Gives (config, leaving gate)))) before after
gates_left G s before gate (Gives config) after P = gate_left G s before gate after config P
gates_left G s before gate (Fault n) after P = P

module _ (G : Ground) (s : State) (w : StepContext) (before : List ℕ) (o : PrivateState) (i : Task) (k : List Task) (N : Now G s w before o i k) where
  -- A fault of an expression.
  pub faulted : (n : ℕ) (f : fault.Fault) → n ≡ fault_number f → PartOf G (after_step s G.p (Fault n)) before (machine.fault_in o f).0
  faulted n f same =
      stopped G s before o N.part o.words n f same N.on.count
      (subst (λ x. DataMeans G (activations o.base o.frames x) (in_sight G) s.store o.words) (sym N.left) N.on.data_means)

  -- A step of each.
  pub both_step : (x : Action) (y : Operation) → action (i ∷ k) ≡ x → is_kernel_action x ≡ false
      → operation_at G.program o.counter ≡ Some y → steps.is_kernel_operation y ≡ false
      → PartOf G (after_step s G.p (does G s x)) before (act G.program w o y).0
      → (AroundAll G s w → EffectAgrees G w.own (does G s x) (act G.program w o y).1)
      → Stepped G s w before o
  both_step x y acts private there own P effect = record {
    operation = y;
    there = there;
    same_kind = ap is_kernel_action acts_here ∙ (private ∙ sym own);
    same_start = ap is_start acts_here ∙ (private_no_start x private ∙ sym (own_no_start y own));
    part = λ e. subst (λ z. PartOf G (after_step s G.p (does G s z)) before (act G.program w o y).0) (sym acts_here) P;
    effect = λ all. subst (λ z. EffectAgrees G w.own (does G s z) (act G.program w o y).1) (sym acts_here) (effect all);
  }
    where
      acts_here : action (s.continuation G.p) ≡ x
      acts_here = ap action N.left ∙ acts

  -- A step of the kernel, with all words in reach.
  pub kernel_step : (x : Action) (y : Operation) → action (i ∷ k) ≡ x → is_kernel_action x ≡ true
      → operation_at G.program o.counter ≡ Some y → steps.is_kernel_operation y ≡ true → is_start x ≡ steps.is_start_operation y
      → (AroundAll G s w → PartOf G (after_step s G.p (does G s x)) before (act G.program w o y).0)
      → (AroundAll G s w → EffectAgrees G w.own (does G s x) (act G.program w o y).1)
      → Stepped G s w before o
  kernel_step x y acts kernel there own starts P effect = record {
    operation = y;
    there = there;
    same_kind = ap is_kernel_action acts_here ∙ (kernel ∙ sym own);
    same_start = ap is_start acts_here ∙ starts;
    part = λ e. elim e [
      | inl other ↦ absurd (true≢false (sym own ∙ other))
      | inr all ↦ subst (λ z. PartOf G (after_step s G.p (does G s z)) before (act G.program w o y).0) (sym acts_here) (P all)
    ];
    effect = λ all. subst (λ z. EffectAgrees G w.own (does G s z) (act G.program w o y).1) (sym acts_here) (effect all);
  }
    where
      acts_here : action (s.continuation G.p) ≡ x
      acts_here = ap action N.left ∙ acts
