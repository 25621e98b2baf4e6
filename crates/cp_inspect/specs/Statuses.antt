-- The status of a process, as text.
use Rattle.std.specs.Prelude.{◌≡◌, ◌++◌, ◌-◌, ℕ, Bool, false, true, List, codes}
use Rattle.cp_model.specs.Abstract.{Monitor, Name}
use Rattle.cp_model.specs.Declarations.{Variable, globals}
use Rattle.cp_model.specs.Decimal.{natural}
use Rattle.cp_model.specs.Report.{Text, components_of, monitor_name, name_at}
use Rattle.cp_model.specs.States.{Setup}
use Rattle.cp_model.specs.StateViews.{fault_number}
use Rattle.cp_model.specs.Types.{GlobalScope}
use Rattle.cp_model.specs.declared.state.Fault.{Fault}
use Rattle.cp_model_program.specs.Programs.{Program}
use Rattle.cp_model_machine.specs.Reports.{queue_text, queues_text}
use Rattle.cp_inspect.specs.declared.state.ProcState.{ProcState}
use Rattle.cp_inspect.specs.declared.state.ProcState.TheVariants as state
use Rattle.cp_compile_symbols.specs.Representing.{ScopeRepresents}
use Rattle.cp_compile_symbols.specs.declared.tables.Tables.{Tables}
use Rattle.cp_compile_symbols.specs.declared.types.Types.{Types}
use Rattle.cp_inspect.specs.Lists.{AreListed}

-- The path of the queue that is at address `at` of the shared words of these monitors is added.
abbrev pub ReportsQueue : Tables → Program → List (Name × ℕ) → ℕ → Text → Text → Type 0
ReportsQueue tables program es at out after =
    (g : GlobalScope) (vs : List (Name × Variable)) → ScopeRepresents tables.names tables.types g → AreListed tables.types es vs
    → after ≡ out ++ queues_text g program at 1 vs

-- The name of the monitor with this number is added.
abbrev pub NamesMonitor : List (Name × ℕ) → ℕ → Text → Text → Type 0
NamesMonitor es n out after =
    (types : Types) (vs : List (Name × Variable)) → AreListed types es vs → after ≡ out ++ name_at vs (n - 1)

abbrev pub fault_text : Fault → Text
fault_text f = codes "fault " ++ natural (fault_number f)

-- The status of a process that is in this state.
abbrev pub state_text : Setup → Program → ProcState → Text
state_text setup program state.Unstarted = codes "unstarted"
state_text setup program state.Fresh = codes "fresh"
state_text setup program state.Ready = codes "ready"
state_text setup program state.Waiting = codes "waiting"
state_text setup program state.Ended = codes "ended"
state_text setup program (state.Faulted f) = fault_text f
state_text setup program (state.Asking n) = codes "asking " ++ monitor_name setup n
state_text setup program (state.Delayed n at) = codes "delayed " ++ (monitor_name setup n ++ (codes " " ++ queue_text setup program at))

-- The status of a process that is in this state is added.
abbrev pub ReportsState : Tables → Program → List (Name × ℕ) → ProcState → Text → Text → Type 0
ReportsState tables program es r out after =
    (setup : Setup) → ScopeRepresents tables.names tables.types (globals setup.tree) → AreListed tables.types es (components_of setup Monitor)
    → after ≡ out ++ state_text setup program r

-- A process in this state asks for a gate.
abbrev pub asks_for_gate : ProcState → Bool
asks_for_gate (state.Asking n) = true
asks_for_gate _ = false
