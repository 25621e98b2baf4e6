-- The report of a machine, which is read from its words in their order.
--
-- The words of a variable are those of its leaves, in the order in which they are reported. So one
-- walk over the type reads all of them, and `words` says how many words each part has.
use Rattle.std.specs.Prelude.{ℕ, suc, ℤ, ◌+◌, ◌-◌, ◌++◌, List, [], ◌∷◌, None, Some, codes, flat_map, if◌then◌else◌, nat_eq, slice_get}
use Rattle.cp_model.specs.Abstract.{Class, Monitor, Name, Process, Sort}
use Rattle.cp_model.specs.Decimal.{natural}
use Rattle.cp_model.specs.Declarations.{Variable, globals, reported_members}
use Rattle.cp_model.specs.Integers.{count_between}
use Rattle.cp_model.specs.Leaves.{integers_from}
use Rattle.cp_model.specs.Locations.{ByIndex, ByName, Path}
use Rattle.cp_model.specs.Report.{Text, askers_text, component_members, components_of, escape, gate_text, leaf_line, line, monitor_name, path_text}
use Rattle.cp_model.specs.States.{Gate, Setup}
use Rattle.cp_model.specs.StateViews.{fault_number}
use Rattle.cp_model.specs.Stores.{Ordinal, QueueHolds}
use Rattle.cp_model.specs.Types.{ArrayOf, ComponentOf, GlobalScope, Members, MoreMembers, NoMembers, NoType, Queue, RecordOf, ResolvedType, Simple}
use Rattle.cp_law_typing.specs.Words.{words}
use Rattle.cp_model_program.specs.Layout.{head_words}
use Rattle.cp_model_program.specs.Programs.{Program}
use Rattle.cp_model_program.specs.Starts.{word}
use Rattle.cp_model_machine.specs.KernelSteps.{Asking, Begun, Delayed, Fresh, SchedulingState, Unstarted, gate_of, stage_of}
use Rattle.cp_model_machine.specs.Machines.{Machine, transcript_of}
use Rattle.cp_model_machine.specs.Means.{process_of_word}
use Rattle.cp_model_machine.specs.Passing.{monitor_start}
use Rattle.cp_model_machine.specs.PrivateStates.{Activity, Ended, Faulted, NotBegun, PrivateState, Running, Waiting}

-- ---- Variables

-- What is done at each simple part and at each queue, given its path and the place of its word.
pub record Visit : Type 0 where
  pub simple : Path → ℕ → Text
  pub queue : Path → ℕ → Text

-- Visits elements of `size` words each.
abbrev pub visit_elements : (Path → ℕ → Text) → ℕ → Path → ℕ → List ℤ → Text
visit_elements inner size path at [] = []
visit_elements inner size path at (i ∷ is) =
    inner (path ++ ByIndex i ∷ []) at ++ visit_elements inner size path (at + size) is

abbrev pub of_class_text : Sort → Text → Text
of_class_text Class t = t
of_class_text Monitor t = []
of_class_text Process t = []

-- Visits a variable of this type that is at a place, and the members of a record or component.
abbrev mutual
  pub visit_type : GlobalScope → Visit → Path → ℕ → ResolvedType → Text
  visit_type g v path at (Simple b low high start) = v.simple path at
  visit_type g v path at (ArrayOf low high t) =
      visit_elements (λ p a. visit_type g v p a t) (words g t) path at (integers_from low (count_between low high))
  visit_type g v path at (RecordOf ms) = visit_members g v path at ms
  visit_type g v path at Queue = v.queue path at
  visit_type g v path at (ComponentOf s ms) = of_class_text s.sort (visit_members g v path (at + head_words g s) ms)
  visit_type g v path at NoType = []

  pub visit_members : GlobalScope → Visit → Path → ℕ → Members → Text
  visit_members g v path at NoMembers = []
  visit_members g v path at (MoreMembers x t ms) =
      visit_type g v (path ++ ByName x ∷ []) at t ++ visit_members g v path (at + words g t) ms

abbrev pub lines_visit : List ℤ → Visit
lines_visit ws = record {
  simple = λ path at. leaf_line path (Ordinal (word ws at));
  queue = λ path at. leaf_line path (QueueHolds (process_of_word (word ws at)));
}

-- Finds the path of the queue at the place `target`.
abbrev pub queue_visit : ℕ → Visit
queue_visit target = record {
  simple = λ path at. [];
  queue = λ path at. if nat_eq at target then path_text path else [];
}

-- ---- Components

-- The words of a component begin with its mark and its rights.
abbrev pub head_of : GlobalScope → ResolvedType → ℕ
head_of g (ComponentOf s inner) = head_words g s
head_of g _ = 0

abbrev pub visit_component : GlobalScope → Visit → ℕ → ResolvedType → Text
visit_component g v at t = visit_members g v [] (at + head_of g t) (component_members t)

-- The path of the queue at the place `at` among these monitors, which have the numbers from `n` on.
abbrev pub queues_text : GlobalScope → Program → ℕ → ℕ → List (Name × Variable) → Text
queues_text g program at n [] = []
queues_text g program at n (v ∷ vs) =
    visit_component g (queue_visit at) (monitor_start program n) v.1.type ++ queues_text g program at (suc n) vs

-- The path of the queue whose word is the shared word `at`.
abbrev pub queue_text : Setup → Program → ℕ → Text
queue_text setup program at = queues_text (globals setup.tree) program at 1 (components_of setup Monitor)

-- ---- Processes

abbrev pub activity_text : Activity → Text
activity_text NotBegun = codes "unstarted"
activity_text Running = codes "ready"
activity_text Waiting = codes "waiting"
activity_text Ended = codes "ended"
activity_text (Faulted f) = codes "fault " ++ natural (fault_number f)

abbrev pub stage_text : Setup → Program → SchedulingState → Activity → Text
stage_text setup program Unstarted a = codes "unstarted"
stage_text setup program Fresh a = codes "fresh"
stage_text setup program Begun a = activity_text a
stage_text setup program (Asking n) a = codes "asking " ++ monitor_name setup n
stage_text setup program (Delayed n at) a =
    codes "delayed " ++ (monitor_name setup n ++ (codes " " ++ queue_text setup program at))

abbrev pub head_line : ℕ → Name → Text → Text
head_line p x status = line (codes "process " ++ (natural p ++ (codes " " ++ (x ++ (codes " " ++ status)))))

abbrev pub transcript_line : Text → Text
transcript_line transcript = line (codes "out '" ++ (flat_map escape transcript ++ codes "'"))

abbrev pub part_lines : Setup → Machine → ℕ → Name → ℕ → Members → PrivateState → Text
part_lines setup m p x at ps o =
    head_line p x (stage_text setup m.program (stage_of m.kernel.stages p) o.activity)
    ++ (transcript_line (transcript_of m.transcripts p ++ o.output)
    ++ visit_members (globals setup.tree) (lines_visit o.words) [] at ps)

abbrev pub process_lines : Setup → Machine → ℕ → Name → ℕ → Members → Text
process_lines setup m p x at ps =
    elim (slice_get m.parts (p - 1)) [ None ↦ [] | Some o ↦ part_lines setup m p x at ps o ]

abbrev pub processes_lines : Setup → Machine → ℕ → List (Name × Variable) → Text
processes_lines setup m p [] = []
processes_lines setup m p (v ∷ vs) =
    process_lines setup m p v.0 (head_of (globals setup.tree) v.1.type) (component_members v.1.type)
    ++ processes_lines setup m (suc p) vs

-- ---- Monitors

abbrev pub gate_line : Name → Gate → Text
gate_line x gate =
    line (codes "monitor " ++ (x ++ (codes " " ++ (gate_text gate.holder ++ (codes " askers" ++ askers_text gate.askers)))))

abbrev pub monitor_lines : Setup → Machine → ℕ → Name → ResolvedType → Text
monitor_lines setup m n x t =
    gate_line x (gate_of m.kernel.gates n)
    ++ visit_component (globals setup.tree) (lines_visit m.kernel.shared) (monitor_start m.program n) t

abbrev pub monitors_lines : Setup → Machine → ℕ → List (Name × Variable) → Text
monitors_lines setup m n [] = []
monitors_lines setup m n (v ∷ vs) = monitor_lines setup m n v.0 v.1.type ++ monitors_lines setup m (suc n) vs

-- ---- The whole report

abbrev pub machine_report : Setup → Machine → Text
machine_report setup m =
    let g = globals setup.tree in
    line (codes "rounds " ++ natural m.rounds)
    ++ (process_lines setup m 1 (codes "initial") (head_words g setup.tree.initial) (reported_members g setup.tree.initial)
    ++ (processes_lines setup m 2 (components_of setup Process)
    ++ monitors_lines setup m 1 (components_of setup Monitor)))
