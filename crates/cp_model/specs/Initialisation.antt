-- `init` of one component.
--
-- A component that is already initialised is fault 7. Otherwise the arguments are evaluated, and
-- the body is left to do. A class or a monitor runs its body as part of the caller. A process is
-- started, with its body left to do.
use Rattle.std.specs.Prelude.{List, None, Some, [], if◌then◌else◌, true, ◌∷◌}
use Rattle.cp_model.specs.Abstract.{Class, Expressions, Monitor, Process, Sort, System}
use Rattle.cp_model.specs.Declarations.{declarations}
use Rattle.cp_model.specs.Locations.{Location}
use Rattle.cp_model.specs.Stores.{Initialised, Writes, put, put_all}
use Rattle.cp_model.specs.Outcomes.{Fault, Gives, Outcome, and_then}
use Rattle.cp_model.specs.Environments.{Environment}
use Rattle.cp_model.specs.Continuations.{EndBody, EndProcess, Task, push}
use Rattle.cp_model.specs.Components.{Component, class_location, monitor_location, monitor_number, process_location, process_number}
use Rattle.cp_model.specs.Configurations.{Configuration, Context, Opens, Starts, StepResult, own_step}
use Rattle.cp_model.specs.Arguments.{bind, init_argument_writes}
use Rattle.cp_model.specs.CallSteps.{is_initialised}

abbrev pub body_environment : Environment → System → Location → Environment
body_environment env s at = record { globals = env.globals; system = s; component = at; frame = None }

abbrev pub init_arguments
    : Context → Configuration → Environment → Expressions → Component → Location → Outcome Writes
init_arguments context config env arguments n at =
    bind (λ l v e. init_argument_writes n.system.sort context.clock env config.store l v.type e)
    at (declarations env.globals n.system.parameters) arguments

abbrev pub init_component
    : Sort → Context → Configuration → Environment → List Task → Expressions → Component → StepResult
init_component Class context config env k arguments n =
    let at = class_location env config.store n in
    if is_initialised (config.store at) then Fault 7
    else and_then (init_arguments context config env arguments n at) (λ ws.
    own_step (record config {
      store = put at (Initialised true) (put_all ws config.store);
      continuation = push n.system.body (body_environment env n.system at) (EndBody None ∷ k);
    }))
init_component Monitor context config env k arguments n =
    let m = monitor_number env config.store n in
    if context.is_set m then Fault 7
    else and_then (init_arguments context config env arguments n (monitor_location m)) (λ ws.
    Gives (
      record config {
        store = put_all ws config.store;
        continuation = push n.system.body (body_environment env n.system (monitor_location m)) (EndBody (Some m) ∷ k);
      },
      Opens m,
    ))
init_component Process context config env k arguments n =
    let r = process_number env n in
    if context.is_started r then Fault 7
    else and_then (init_arguments context config env arguments n (process_location r)) (λ ws.
    Gives (
      record config { store = put_all ws config.store; continuation = k },
      Starts r (push n.system.body (body_environment env n.system (process_location r)) (EndProcess ∷ [])),
    ))
