-- The tests of `while` and `repeat` together. The two loops differ only in which outcome of the test
-- continues. So each fact about their tasks is shown once, for either loop, over the equations here:
-- what a task of one loop is, calls, does and leaves, written so that it holds of both.
use Rattle.std.proofs.Common.{◌≡◌, ℕ, ◌≤◌, ℤ, List, ◌∷◌, false, None, Some, refl, ap, ◌∙◌}
use Rattle.std.specs.Prelude.{if◌then◌else◌}
use Rattle.cp_model.specs.Abstract as a
use Rattle.cp_model.specs.Actions.{Acts, is_kernel_action}
use Rattle.cp_model.specs.Calls.{UserCall, call_in_task, first_call, in_context, procedure_call}
use Rattle.cp_model.specs.Configurations.{Configuration, Context, evaluation, own_step, with_continuation}
use Rattle.cp_model.specs.Continuations.{RepeatTest, Task, WhileTest, marked_monitors, push}
use Rattle.cp_model.specs.Environments.{Environment}
use Rattle.cp_model.specs.Outcomes.{and_then}
use Rattle.cp_model.specs.StatementSteps.{is_true}
use Rattle.cp_model.specs.Step.{run_task}
use Rattle.cp_model.specs.Stores.{Store}
use Rattle.cp_model_program.specs.TermsFor.{Knowns, nothing_known}
use Rattle.cp_model_program.specs.Sites.{Site}
use Rattle.cp_model_machine.specs.Addresses.{Ground, activations}
use Rattle.cp_model_machine.specs.Remaining.{Remaining, Loop, LoopRemaining, Repeat, Running, While, at_true, site}
use Rattle.cp_model_machine.specs.PartOf.{ActivationsMean}
use Rattle.cp_model_machine.specs.PrivateStates as machine
use Rattle.cp_model_machine.proofs.Stepping.{IfPlaced}

-- ---- the rest of a test

-- The test begins again.
pub whole_loop : (loop : Loop) (s : Site) (K : Knowns) (now e : a.Expression) (body : a.Statement) (place next low : ℕ)
    → (W : LoopRemaining loop s K now e body place next low) → LoopRemaining loop s nothing_known e e body W.start next low
whole_loop loop s K now e body place next low W = record {
  start = W.start;
  last = W.last;
  way = W.way;
  term = W.term;
  base = W.base;
  test = W.test;
  rest = W.whole;
  whole = W.whole;
  again = W.again;
}

-- ---- the task

abbrev pub loop_task : Loop → (now e : a.Expression) (s : a.Statement) (env : Environment) → Task
loop_task While now e s env = WhileTest now e s env
loop_task Repeat now e s env = RepeatTest now s e env

-- What is left to do at the task.
abbrev pub AtTest : Loop → Ground → List ℤ → ℕ → Knowns → Running → List machine.Frame → ℕ → ℕ → (now e : a.Expression) (s : a.Statement) (env : Environment) → List Task → Type 0
AtTest loop G temps limit K R fs place low now e s env k =
    (env ≡ R.env) × ((next : ℕ) × (from : ℕ) × (from ≤ low)
    × LoopRemaining loop (site G R) K now e s place next from × Remaining G temps limit nothing_known R fs next from k)

module _ (G : Ground) (temps : List ℤ) (limit : ℕ) (K : Knowns) (R : Running) (fs : List machine.Frame) (place low : ℕ) (now e : a.Expression) (s : a.Statement) (env : Environment) (k : List Task) where
  abbrev pub test_left : (loop : Loop) → Remaining G temps limit K R fs place low (loop_task loop now e s env ∷ k) → AtTest loop G temps limit K R fs place low now e s env k
  test_left While h = h
  test_left Repeat h = h

  pub left_at_test : (loop : Loop) → AtTest loop G temps limit K R fs place low now e s env k → Remaining G temps limit K R fs place low (loop_task loop now e s env ∷ k)
  left_at_test While h = h
  left_at_test Repeat h = h

module _ (now e : a.Expression) (s : a.Statement) (env : Environment) where
  pub call_at_test : (loop : Loop) (v : a.Expression) → call_in_task v (loop_task loop now e s env) ≡ in_context (λ y. loop_task loop y e s env) (first_call env v now)
  call_at_test While v = refl
  call_at_test Repeat v = refl

  -- The next call of the test is that of the task.
  pub made_at_test : (loop : Loop) (v : a.Expression) (here : Environment) → env ≡ here → (u : UserCall) (x : a.Expression) → first_call here v now ≡ Some (u, x)
      → call_in_task v (loop_task loop now e s env) ≡ Some (u, loop_task loop x e s env)
  made_at_test loop v here same u x found =
      call_at_test loop v ∙ (ap (λ (y : Environment). in_context (λ z. loop_task loop z e s env) (first_call y v now)) same ∙ ap (in_context (λ z. loop_task loop z e s env)) found)

  pub no_procedure : (loop : Loop) → procedure_call (loop_task loop now e s env) ≡ None
  no_procedure While = refl
  no_procedure Repeat = refl

  pub sees_at_test : (loop : Loop) (A : Type 0) → IfPlaced (loop_task loop now e s env) A → A
  sees_at_test While A h = h
  sees_at_test Repeat A h = h

  module _ (k : List Task) where
    pub test_is_private : (loop : Loop) → is_kernel_action (Acts (loop_task loop now e s env) k) ≡ false
    test_is_private While = refl
    test_is_private Repeat = refl

    pub marks_at_test : (loop : Loop) → marked_monitors (loop_task loop now e s env ∷ k) ≡ marked_monitors k
    marks_at_test While = refl
    marks_at_test Repeat = refl

    pub activations_at_test : (loop : Loop) (base : ℕ) (fs : List machine.Frame) → activations base fs (loop_task loop now e s env ∷ k) ≡ activations base fs k
    activations_at_test While base fs = refl
    activations_at_test Repeat base fs = refl

    pub means_at_test : (loop : Loop) (G : Ground) (store : Store) (words : List ℤ) (base : ℕ) (fs : List machine.Frame)
        → ActivationsMean G store words base fs (loop_task loop now e s env ∷ k) ≡ ActivationsMean G store words base fs k
    means_at_test While G store words base fs = refl
    means_at_test Repeat G store words base fs = refl

    -- ---- what the task does

    -- What is left where the test continues.
    abbrev pub body_again : Loop → List Task
    body_again loop = push s env (loop_task loop e e s env ∷ k)

    pub runs_test : (loop : Loop) (x : Context) (config : Configuration)
        → run_task x config (loop_task loop now e s env) k
        ≡ and_then (evaluation x config env now) (λ v. own_step (with_continuation config (if is_true v then at_true loop (body_again loop) k else at_true loop k (body_again loop))))
    runs_test While x config = refl
    runs_test Repeat x config = refl

-- What holds where the loop continues and where it ends holds at a true test.
pub either_way : (loop : Loop) (P : ℕ → List Task → Type 0) (m n : ℕ) (j k : List Task) → P m j → P n k → P (at_true loop m n) (at_true loop j k)
either_way While P m n j k on off = on
either_way Repeat P m n j k on off = off
