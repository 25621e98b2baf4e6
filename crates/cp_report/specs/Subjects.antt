-- What is reported of the processes and monitors of a machine.
use Rattle.std.specs.Prelude.{◌≡◌, ◌++◌, ℕ, List, codes, map}
use Rattle.cp_model.specs.Abstract.{Monitor, Name, Process}
use Rattle.cp_model.specs.Declarations.{Variable, globals, reported_members}
use Rattle.cp_model.specs.Erase as erase
use Rattle.cp_model.specs.Report.{Text, component_members, components_of}
use Rattle.cp_model.specs.States.{Setup}
use Rattle.cp_model.specs.Types.{ResolvedType}
use Rattle.cp_model.specs.View as view
use Rattle.cp_model.specs.declared.tree.Tree as tree
use Rattle.cp_model_program.specs.Layout.{head_words}
use Rattle.cp_model_machine.specs.KernelSteps.{stage_of}
use Rattle.cp_model_machine.specs.Machines as plain
use Rattle.cp_model_machine.specs.Reports.{head_of, machine_report, monitor_lines, monitors_lines, process_lines, processes_lines, stage_text}
use Rattle.cp_rounds.specs.ProcessStates.{activity_at}
use Rattle.cp_rounds.specs.Views.{machine_of, output_of}
use Rattle.cp_compile_symbols.specs.Representing.{ScopeRepresents, Represents, entry}
use Rattle.cp_compile_symbols.specs.Texts.{TablesRepresent}
use Rattle.cp_report.specs.Lines.{front_lines}
use Rattle.cp_inspect.specs.Lists.{AreListed}
use Rattle.cp_report.specs.declared.subject.Subject.{Subject}

abbrev pub machine_in : Subject → plain.Machine
machine_in s = machine_of s.machine.now

-- The tables are those of a text, and the monitors are those of the text.
abbrev pub IsOf : Subject → Setup → Type 0
IsOf s setup =
    ScopeRepresents s.tables.now.names s.tables.now.types (globals setup.tree)
    × AreListed s.tables.now.types (map entry s.monitors.now) (components_of setup Monitor)

-- ---- Processes

-- The status of process p is added.
abbrev pub ReportsStatus : Subject → ℕ → Text → Text → Type 0
ReportsStatus s p out after =
    (setup : Setup) → IsOf s setup
    → after ≡ out ++ stage_text setup (machine_in s).program (stage_of (machine_in s).kernel.stages p) (activity_at (machine_in s) p)

-- The lines before the variables of a process are added.
abbrev pub ReportsFront : Subject → ℕ → Name → Text → Text → Type 0
ReportsFront s p x out after =
    (setup : Setup) → IsOf s setup → after ≡ out ++ front_lines setup (machine_in s) p x (activity_at (machine_in s) p) (output_of (machine_in s) p)

-- The lines of the process with this number, this name and this type number are added.
abbrev pub ReportsProcess : Subject → ℕ → Name → ℕ → Text → Text → Type 0
ReportsProcess s p x n out after =
    (setup : Setup) (t : ResolvedType) → IsOf s setup → Represents s.tables.now.types n t
    → after ≡ out ++ process_lines setup (machine_in s) p x (head_of (globals setup.tree) t) (component_members t)

abbrev pub ReportsProcesses : Subject → List (Name × ℕ) → Text → Text → Type 0
ReportsProcesses s es out after =
    (setup : Setup) (vs : List (Name × Variable)) → IsOf s setup → AreListed s.tables.now.types es vs
    → after ≡ out ++ processes_lines setup (machine_in s) 2 vs

abbrev pub ReportsInitial : Subject → Text → Text → Type 0
ReportsInitial s out after =
    (setup : Setup) (text : tree.Tree) → setup.tree ≡ erase.abstract (view.tree text) → TablesRepresent (globals setup.tree) s.tables.now text
    → IsOf s setup
    → after ≡ out
    ++ process_lines setup (machine_in s) 1 (codes "initial") (head_words (globals setup.tree) setup.tree.initial) (reported_members (globals setup.tree) setup.tree.initial)

-- ---- Monitors

abbrev pub ReportsMonitor : Subject → ℕ → Name → ℕ → Text → Text → Type 0
ReportsMonitor s n x row out after =
    (setup : Setup) (t : ResolvedType) → IsOf s setup → Represents s.tables.now.types row t
    → after ≡ out ++ monitor_lines setup (machine_in s) n x t

abbrev pub ReportsMonitors : Subject → Text → Text → Type 0
ReportsMonitors s out after =
    (setup : Setup) → IsOf s setup → after ≡ out ++ monitors_lines setup (machine_in s) 1 (components_of setup Monitor)

-- ---- The whole report

abbrev pub ReportsAll : Subject → List (Name × ℕ) → Text → Text → Type 0
ReportsAll s es out after =
    (setup : Setup) (text : tree.Tree) → setup.tree ≡ erase.abstract (view.tree text) → TablesRepresent (globals setup.tree) s.tables.now text
    → IsOf s setup → AreListed s.tables.now.types es (components_of setup Process)
    → after ≡ out ++ machine_report setup (machine_in s)
