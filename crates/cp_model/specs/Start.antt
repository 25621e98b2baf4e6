-- The start of a run.
--
-- Process 1 is ready and all others are unstarted. All variables and simple parameters of
-- components have their start values. No component is initialised, no gate is set, no input is
-- taken, and the count of rounds is 0.
use Rattle.std.specs.Prelude.{None, [], false, flat_map, map, ◌++◌, ◌∷◌}
use Rattle.cp_model.specs.Abstract.{Class, Monitor, Name, Process, Sort}
use Rattle.cp_model.specs.Types.{ComponentOf, Members, ResolvedType}
use Rattle.cp_model.specs.Declarations.{globals}
use Rattle.cp_model.specs.Locations.{Location, under}
use Rattle.cp_model.specs.Stores.{Absent, Writes, put_all}
use Rattle.cp_model.specs.Leaves.{leaves_of_members}
use Rattle.cp_model.specs.Environments.{Environment}
use Rattle.cp_model.specs.Continuations.{EndProcess, push}
use Rattle.cp_model.specs.Components.{Component, declared_monitor, monitor_location, process_location, process_number}
use Rattle.cp_model.specs.Configurations.{Ready, Unstarted}
use Rattle.cp_model.specs.Assignments.{starting_writes}
use Rattle.cp_model.specs.States.{Setup, State, Unset, initial_variables, with_at}

abbrev pub initial_environment : Setup → Environment
initial_environment setup =
    record { globals = globals setup.tree; system = setup.tree.initial; component = process_location 1; frame = None }

-- ---- Start values

-- The start values of the members of a process or a monitor.
abbrev pub member_writes : Location → Members → Writes
member_writes at ps = map (λ leaf. (under at leaf.0, leaf.1)) (leaves_of_members ps)

abbrev pub component_writes : Environment → Component → Sort → Members → Writes
component_writes env n Process ps = member_writes (process_location (process_number env n)) ps
component_writes env n Monitor ps = member_writes (monitor_location (declared_monitor env n)) ps
component_writes env n Class ps = []

abbrev pub variable_writes : Environment → Name → ResolvedType → Writes
variable_writes env x (ComponentOf s inner) =
    component_writes env (record { name = x; system = s; is_parameter = false }) s.sort inner
variable_writes env x _ = []

abbrev pub initial_writes : Setup → Writes
initial_writes setup =
    starting_writes (initial_environment setup).component (initial_variables setup)
    ++ flat_map (λ v. variable_writes (initial_environment setup) v.0 v.1.type) (initial_variables setup)

-- ---- The state

abbrev pub start : Setup → State
start setup = record {
  store = put_all (initial_writes setup) (λ l. Absent);
  continuation = with_at 1 (push setup.tree.initial.body (initial_environment setup) (EndProcess ∷ [])) (λ p. []);
  transcript = λ p. [];
  consumed = λ p. 0;
  status = with_at 1 Ready (λ p. Unstarted);
  gates = λ m. record { holder = Unset; askers = [] };
  rounds = 0;
}
