-- One step of a process: its next action, on its configuration, with the effect that it leaves to
-- the kernel.
use Rattle.std.specs.Prelude.{List, if◌then◌else◌, ◌∷◌}
use Rattle.cp_model.specs.Integers.{same_integer}
use Rattle.cp_model.specs.Outcomes.{Gives, and_then}
use Rattle.cp_model.specs.Continuations.{Do, EndBody, EndCall, EndProcess, ForNext, RepeatTest, Task, WhileTest, push}
use Rattle.cp_model.specs.Actions.{Action, Acts, Calls, Rests, action}
use Rattle.cp_model.specs.Configurations.{Configuration, Context, Ends, StepResult, evaluation, own_step, with_continuation}
use Rattle.cp_model.specs.CallSteps.{call, leaving, returns}
use Rattle.cp_model.specs.StatementSteps.{execute, for_step, is_true, next_counter}

abbrev pub run_task : Context → Configuration → Task → List Task → StepResult
run_task context config (Do s env) k = execute context config env k s
run_task context config (WhileTest now e s env) k =
    and_then (evaluation context config env now) (λ v.
    own_step (with_continuation config (if is_true v then push s env (WhileTest e e s env ∷ k) else k)))
run_task context config (RepeatTest now s e env) k =
    and_then (evaluation context config env now) (λ v.
    own_step (with_continuation config (if is_true v then k else push s env (RepeatTest e s e env ∷ k))))
run_task context config (ForNext v down n last s env) k =
    if same_integer n last
    then own_step (with_continuation config k)
    else for_step context config env k v down (next_counter down n) last s
run_task context config (EndCall env gate) k = and_then (returns config env k) (λ after. Gives (after, leaving gate))
run_task context config (EndBody gate) k = Gives (with_continuation config k, leaving gate)
run_task context config EndProcess k = Gives (with_continuation config k, Ends)

abbrev pub take_action : Context → Configuration → Action → StepResult
take_action context config Rests = own_step config
take_action context config (Calls u k) = call context config u k
take_action context config (Acts i k) = run_task context config i k

abbrev pub step_of : Context → Configuration → StepResult
step_of context config = take_action context config (action config.continuation)
