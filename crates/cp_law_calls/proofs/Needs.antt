-- What an action reads of other processes and monitors, besides the store.
use Rattle.std.specs.Prelude.{Bool, List, None, Option, Some, [], codes, false, if◌then◌else◌, refl, true, ℕ, ℤ, ◌∷◌, ◌≡◌}
use Rattle.std.proofs.Common.{ap, ◌∙◌}
use Rattle.cp_model.specs.Abstract.{Assign, Case, Char, Class, Cycle, Designator, Expression, Expressions, For, If, Init, Integer, Monitor, MoreExpressions, Name, NoExpression, Nothing, Perform, Plain, Process, Repeat, Seq, Sort, Statement, While}
use Rattle.std.specs.Str.{bytes_eq}
use Rattle.cp_model.specs.Types.{ArrayOf, ComponentOf, NoType, Queue, RecordOf, ResolvedType, Simple}
use Rattle.cp_model.specs.Declarations.{Variable, declarations}
use Rattle.cp_model.specs.Locations.{Location, OfActivation, OfMonitor, OfProcess, Owner}
use Rattle.cp_model.specs.Integers.{same_integer}
use Rattle.cp_model.specs.Stores.{Initialised, QueueHolds, Store, Writes, forget, put, put_all}
use Rattle.cp_model.specs.Outcomes.{Fault, Gives, Outcome, and_then}
use Rattle.cp_model.specs.Environments.{Environment}
use Rattle.cp_model.specs.Places.{Place, TypedValue, ordinal_of, simple_value}
use Rattle.cp_model.specs.Expressions.{name_of, place, value}
use Rattle.cp_model.specs.Continuations.{Do, EndBody, EndCall, EndProcess, ForNext, RepeatTest, Task, WhileTest, depth, marked_monitors, push}
use Rattle.cp_model.specs.Components.{Component, class_location, class_or_here, component_named, monitor_location, monitor_number, name_location, process_location, process_number, same_sort}
use Rattle.cp_model.specs.Calls.{UserCall, is_monitor_call}
use Rattle.cp_model.specs.Actions.{Action, Acts, Calls, Rests, action}
use Rattle.cp_model.specs.Configurations.{Configuration, Context, Continues, Effect, Opens, Starts, StepResult, own_step}
use Rattle.cp_model.specs.Assignments.{starting_writes, writes_of}
use Rattle.cp_model.specs.Arguments.{argument_writes, bind, designator_of, init_argument_writes, named_right_writes, reference_writes, right_writes}
use Rattle.cp_model.specs.CallSteps.{Target, call, called_configuration, component_target, innermost_call, is_initialised, leaving, returns, target}
use Rattle.cp_model.specs.StandardCalls.{continue, delay, enqueue, next_input, process_in_queue, standard_procedure, standard_statement}
use Rattle.cp_model.specs.Initialisation.{body_environment, init_arguments, init_component}
use Rattle.cp_model.specs.StatementSteps.{chosen_arm, execute, for_step, is_past, next_counter}
use Rattle.cp_model.specs.Step.{run_task, step_of, take_action}
use Rattle.cp_model.specs.Start.{start}
use Rattle.cp_model.specs.Invariant.{EnvironmentIn, TaskIn}
use Rattle.cp_model.proofs.MixedStores.{IsClosed, class_or_here_in, forget_mix, get_mix, mix, put_mix}
use Rattle.cp_model.proofs.ExpressionReach.{IfGives, PlaceIn, anything, place_in, place_same, then_gives, value_same}
use Rattle.cp_model.proofs.WriteReach.{WritesIn, bind_in, bind_same, put_all_mix, starting_writes_in, writes_in}
use Rattle.cp_model.proofs.ActionReach.{ActionIn, ContinuationIn, action_in}
use Rattle.cp_model.proofs.ReturnReach.{configuration_moved, if_moved, result_mixed, returns_same, then_moved, with_mixed_store}

-- `init` of a monitor reads which monitors are set, and writes into one that isn't. `init` of a process
-- reads which processes are started, and writes into one that isn't.
abbrev pub SortNeeds : (Owner → Bool) → Context → (ℕ → Bool) → (ℕ → Bool) → Sort → Type 0
SortNeeds t w f g Class = Unit {0}
SortNeeds t w f g Monitor = (g ≡ w.is_set) × ((m : ℕ) → w.is_set m ≡ false → t (OfMonitor m) ≡ true)
SortNeeds t w f g Process = (f ≡ w.is_started) × ((r : ℕ) → w.is_started r ≡ false → t (OfProcess r) ≡ true)

abbrev pub ActionNeeds : (Owner → Bool) → Context → (ℕ → Bool) → (ℕ → Bool) → Action → Type 0
ActionNeeds t w f g Rests = Unit {0}
ActionNeeds t w f g (Calls u k) = is_monitor_call u.callee ≡ true → g ≡ w.is_set
ActionNeeds t w f g (Acts (Do (Init x arguments) env) k) = (n : Component) → component_named env x ≡ Some n → SortNeeds t w f g n.system.sort
ActionNeeds t w f g (Acts i k) = Unit {0}
