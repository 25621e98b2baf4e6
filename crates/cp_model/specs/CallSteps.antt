-- Calls and returns.
--
-- A call checks that the component is initialised (otherwise fault 6), evaluates the arguments and
-- makes a new activation. At the end of a function its result replaces the call in the remaining
-- tasks. A function that returns without a result is fault 9.
use Rattle.std.specs.Prelude.{Bool, List, None, Option, Some, [], false, if◌then◌else◌, true, ℕ, ◌∷◌}
use Rattle.cp_model.specs.Abstract.{Class, Expression, Known, Monitor, Name, Process, Sort, System}
use Rattle.cp_model.specs.Types.{base_of_type, named_type}
use Rattle.cp_model.specs.Declarations.{declarations}
use Rattle.cp_model.specs.Locations.{ByName, Location, OfActivation, Owner, root, under}
use Rattle.cp_model.specs.Stores.{Initialised, Ordinal, Store, Value, Writes, forget, put_all}
use Rattle.cp_model.specs.Outcomes.{Fault, Gives, Outcome, and_then}
use Rattle.cp_model.specs.Environments.{Environment, Frame}
use Rattle.cp_model.specs.Continuations.{EndCall, Task, depth, push}
use Rattle.cp_model.specs.Components.{Component, class_location, monitor_location, monitor_number}
use Rattle.cp_model.specs.Calls.{UserCall, call_in_task}
use Rattle.cp_model.specs.Configurations.{Configuration, Context, Effect, Enters, Leaves, Own, StepResult}
use Rattle.cp_model.specs.Assignments.{starting_writes}
use Rattle.cp_model.specs.Arguments.{argument_writes, bind}

-- ---- Where a call goes

abbrev pub is_initialised : Value → Bool
is_initialised (Initialised b) = b
is_initialised _ = false

-- Where a call goes: the component and its system type, whether it may be called, and the monitor
-- that is entered, if any.
pub record Target : Type 0 where
  pub component : Location
  pub system : System
  pub is_callable : Bool
  pub gate : Option ℕ

abbrev pub component_target : Context → Environment → Store → Sort → Component → Target
component_target context env store Class n =
    let at = class_location env store n in
    record { component = at; system = n.system; is_callable = is_initialised (store at); gate = None }
component_target context env store Monitor n =
    let m = monitor_number env store n in
    record { component = monitor_location m; system = n.system; is_callable = context.is_set m; gate = Some m }
component_target context env store Process n =
    record { component = env.component; system = n.system; is_callable = false; gate = None }

-- A routine that is called by its bare name belongs to the running component.
abbrev pub target : Context → Store → Environment → Option Component → Target
target context store env None = record { component = env.component; system = env.system; is_callable = true; gate = None }
target context store env (Some n) = component_target context env store n.system.sort n

-- ---- Calls

abbrev pub entering : Option ℕ → Effect
entering None = Own
entering (Some m) = Enters m

abbrev pub activation_environment : UserCall → Target → Owner → Environment
activation_environment u t o =
    record {
      globals = u.environment.globals;
      system = t.system;
      component = t.component;
      frame = Some (record { owner = o; routine = u.callee.routine });
    }

-- Writes the parameters, gives the variables their start values, and leaves the body before its end
-- mark.
abbrev pub called_configuration
    : Configuration → UserCall → List Task → Target → Owner → Writes → Configuration × Effect
called_configuration config u k t o ws =
    let r = u.callee.routine in
    let env = activation_environment u t o in
    let variables = declarations u.environment.globals r.variables in (
      record config {
        store = put_all (starting_writes (root o) variables) (put_all ws (forget o config.store));
        continuation = push r.body env (EndCall env t.gate ∷ k);
      },
      entering t.gate,
    )

abbrev pub call : Context → Configuration → UserCall → List Task → StepResult
call context config u k =
    let t = target context config.store u.environment u.callee.of in
    let o = OfActivation context.process (depth k) in
    let parameters = declarations u.environment.globals u.callee.routine.parameters in
    if t.is_callable
    then and_then
    (bind (argument_writes context.clock u.environment config.store) (root o) parameters u.arguments)
    (λ ws. Gives (called_configuration config u k t o ws))
    else Fault 6

-- ---- Returns

abbrev pub leaving : Option ℕ → Effect
leaving None = Own
leaving (Some m) = Leaves m

-- The remaining tasks, with a value in place of their first call.
abbrev pub with_answer : Expression → List Task → List Task
with_answer v [] = []
with_answer v (i ∷ k) = elim (call_in_task v i) [ None ↦ i ∷ k | Some f ↦ f.1 ∷ k ]

abbrev pub return_value : Configuration → Environment → Owner → List Task → Name → Value → Outcome Configuration
return_value config env o k t (Ordinal n) =
    let answer = Known (base_of_type (named_type env.globals t)) n in
    Gives (record config { store = forget o config.store; continuation = with_answer answer k })
return_value config env o k t _ = Fault 9

abbrev pub result_location : Frame → Location
result_location f = under (root f.owner) (ByName f.routine.name ∷ [])

-- The routine of an environment returns to the continuation `k`.
abbrev pub returns : Configuration → Environment → List Task → Outcome Configuration
returns config env k = elim env.frame [
  | None ↦ Gives config
  | Some f ↦ elim f.routine.result [
    | None ↦ Gives (record config { store = forget f.owner config.store; continuation = k })
    | Some t ↦ return_value config env f.owner k t (config.store (result_location f))
  ]
]

-- The innermost end mark of a routine: its environment, its gate, and the tasks after it.
abbrev pub innermost_call : List Task → Option (Environment × Option ℕ × List Task)
innermost_call [] = None
innermost_call (EndCall env gate ∷ k) = Some (env, gate, k)
innermost_call (_ ∷ k) = innermost_call k
