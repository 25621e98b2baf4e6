-- An action that starts no process is the same whatever processes have been started.
use Rattle.std.proofs.Common.{◌≡◌, ℕ, List, Bool, false, Option, Some, None, refl}
use Rattle.std.proofs.lemmas.Bool.{true≢false}
use Rattle.cp_model.specs.Abstract as a
use Rattle.cp_model.specs.Actions.{Action, Acts, Calls, Rests}
use Rattle.cp_model.specs.Components.{Component, component_named, same_sort}
use Rattle.cp_model.specs.Configurations.{Configuration, Context, StepResult, own_step, with_continuation}
use Rattle.cp_model.specs.Continuations.{Do, EndBody, EndCall, EndProcess, ForNext, RepeatTest, Task, WhileTest}
use Rattle.cp_model.specs.Environments.{Environment}
use Rattle.cp_model.specs.Initialisation.{init_component}
use Rattle.cp_model.specs.StatementSteps.{execute}
use Rattle.cp_model.specs.Step.{take_action}
use Rattle.cp_model_machine.proofs.StartsNone.{starts}

-- ---- what was started is read by the `init` of a process alone

module _ (c : Context) (config : Configuration) (f : ℕ → Bool) where
  abbrev other : Context
  other = record c { is_started = f }

  inits_same : (env : Environment) (k : List Task) (es : a.Expressions) (n : Component) (z : a.Sort) → same_sort a.Process z ≡ false → init_component z c config env k es n ≡ init_component z other config env k es n
  inits_same env k es n a.Class h = refl
  inits_same env k es n a.Monitor h = refl
  inits_same env k es n a.Process h = absurd (true≢false h)

  execute_same : (st : a.Statement) (env : Environment) (k : List Task) → starts (Acts (Do st env) k) ≡ false → execute c config env k st ≡ execute other config env k st
  execute_same (a.Assign d e) env k h = refl
  execute_same (a.Perform d a.NoExpression) env k h = refl
  execute_same (a.Perform d (a.MoreExpressions e es)) env k h = refl
  execute_same (a.If e t u) env k h = refl
  execute_same (a.Case e arms) env k h = refl
  execute_same (a.For x down e g st) env k h = refl
  execute_same (a.Cycle st) env k h = refl
  execute_same (a.Init x es) env k h = by (component_named env x) h
    where
      by : (o : Option Component) → (elim o as (λ y. Bool) [ None ↦ false | Some n ↦ same_sort a.Process n.system.sort ]) ≡ false
          → (elim o as (λ y. StepResult) [ None ↦ own_step (with_continuation config k) | Some n ↦ init_component n.system.sort c config env k es n ])
          ≡ (elim o as (λ y. StepResult) [ None ↦ own_step (with_continuation config k) | Some n ↦ init_component n.system.sort other config env k es n ])
      by None h = refl
      by (Some n) h = inits_same env k es n n.system.sort h
  execute_same a.Nothing env k h = refl
  execute_same (a.Seq t u) env k h = refl
  execute_same (a.While e st) env k h = refl
  execute_same (a.Repeat st e) env k h = refl

  pub started_unread : (x : Action) → starts x ≡ false → take_action c config x ≡ take_action other config x
  started_unread Rests h = refl
  started_unread (Calls u k) h = refl
  started_unread (Acts (Do st env) k) h = execute_same st env k h
  started_unread (Acts (WhileTest now e st env) k) h = refl
  started_unread (Acts (RepeatTest now st e env) k) h = refl
  started_unread (Acts (ForNext x down n last st env) k) h = refl
  started_unread (Acts (EndCall env gate) k) h = refl
  started_unread (Acts (EndBody gate) k) h = refl
  started_unread (Acts EndProcess k) h = refl
