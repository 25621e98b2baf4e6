-- The report of a state.
--
-- It has one line for the count of rounds, for each process its status, transcript and variables,
-- for each monitor its gate, askers and variables, and, if chains are wanted, one line for each
-- asking process. Each line ends with one line feed. With chains the report is a relation, since
-- nothing in the definitions bounds a chain.
use Rattle.std.specs.Prelude.{◌≡◌, option_map, Bool, List, None, Option, Some, [], codes, false, filter, flat_map, if◌then◌else◌, nat_eq, nat_le, nat_lt, not, suc, true, zero, ℕ, ◌%◌, ◌&&◌, ◌++◌, ◌+◌, ◌-◌, ◌/◌, ◌∷◌}
use Rattle.cp_model.specs.Abstract.{Monitor, Name, Process, Sort}
use Rattle.cp_model.specs.Types.{ComponentOf, Members, NoMembers, ResolvedType}
use Rattle.cp_model.specs.Declarations.{Variable, globals, reported_members}
use Rattle.cp_model.specs.Locations.{ByIndex, ByName, Location, Path, under}
use Rattle.cp_model.specs.Stores.{Ordinal, QueueHolds, Store, Value}
use Rattle.cp_model.specs.Leaves.{leaves_of_members}
use Rattle.cp_model.specs.Components.{is_component_of, monitor_location, process_location}
use Rattle.cp_model.specs.Configurations.{Asking, Delayed, Ended, Faulted, Fresh, Ready, Status, Unstarted, Waiting}
use Rattle.cp_model.specs.Decimal.{decimal, natural}
use Rattle.cp_model.specs.States.{Free, HeldBy, Holder, Setup, State, Unset, initial_variables, processes}
use Rattle.cp_model.specs.Chains.{IsAskingChain, chain_within}

abbrev pub Text : Type 0
Text = List ℕ

abbrev pub line : Text → Text
line t = t ++ 10 ∷ []

-- ---- Names

-- The component variables of a sort in the initial process, in order of declaration.
abbrev pub components_of : Setup → Sort → List (Name × Variable)
components_of setup s = filter (λ v. is_component_of s v.1.type) (initial_variables setup)

abbrev pub name_at : List (Name × Variable) → ℕ → Name
name_at [] k = []
name_at (v ∷ vs) zero = v.0
name_at (v ∷ vs) (suc k) = name_at vs k

abbrev pub monitor_name : Setup → ℕ → Name
monitor_name setup m = name_at (components_of setup Monitor) (m - 1)

abbrev pub component_members : ResolvedType → Members
component_members (ComponentOf s ps) = ps
component_members _ = NoMembers

-- ---- Variables

abbrev pub path_rest : Path → Text
path_rest [] = []
path_rest (ByName x ∷ p) = codes "." ++ (x ++ path_rest p)
path_rest (ByIndex i ∷ p) = codes "[" ++ (decimal i ++ (codes "]" ++ path_rest p))

-- A path, written as `field.part[index]`.
abbrev pub path_text : Path → Text
path_text (ByName x ∷ p) = x ++ path_rest p
path_text p = path_rest p

abbrev pub occupant_text : Option ℕ → Text
occupant_text None = codes "-"
occupant_text (Some p) = natural p

-- A simple part or a queue has a line. A right or a mark has none.
abbrev pub leaf_line : Path → Value → Text
leaf_line p (Ordinal n) = line (codes "var " ++ (path_text p ++ (codes " = " ++ decimal n)))
leaf_line p (QueueHolds w) = line (codes "queue " ++ (path_text p ++ (codes " = " ++ occupant_text w)))
leaf_line p _ = []

abbrev pub variable_lines : Store → Location → Members → Text
variable_lines store at ps = flat_map (λ leaf. leaf_line leaf.0 (store (under at leaf.0))) (leaves_of_members ps)

-- ---- Processes

abbrev pub hex_digit : ℕ → ℕ
hex_digit n = if nat_lt n 10 then 48 + n else 87 + n

-- The bytes 32 to 126, except the apostrophe and the backslash, represent themselves.
abbrev pub escape : ℕ → Text
escape b =
    if nat_le 32 b && nat_le b 126 && not (nat_eq b 39) && not (nat_eq b 92)
    then b ∷ []
    else 92 ∷ hex_digit (b / 16) ∷ hex_digit (b % 16) ∷ []

abbrev pub status_text : Setup → Status → Text
status_text setup Unstarted = codes "unstarted"
status_text setup Fresh = codes "fresh"
status_text setup Ready = codes "ready"
status_text setup Ended = codes "ended"
status_text setup Waiting = codes "waiting"
status_text setup (Asking m) = codes "asking " ++ monitor_name setup m
status_text setup (Delayed m q) = codes "delayed " ++ (monitor_name setup m ++ (codes " " ++ path_text q.path))
status_text setup (Faulted n) = codes "fault " ++ natural n

abbrev pub process_text : Setup → State → ℕ → Name → Members → Text
process_text setup s p x ps =
    line (codes "process " ++ (natural p ++ (codes " " ++ (x ++ (codes " " ++ status_text setup (s.status p))))))
    ++ (line (codes "out '" ++ (flat_map escape (s.transcript p) ++ codes "'"))
    ++ variable_lines s.store (process_location p) ps)

abbrev pub processes_text : Setup → State → ℕ → List (Name × Variable) → Text
processes_text setup s p [] = []
processes_text setup s p (v ∷ vs) = process_text setup s p v.0 (component_members v.1.type) ++ processes_text setup s (suc p) vs

-- ---- Monitors

abbrev pub gate_text : Holder → Text
gate_text Unset = codes "unset"
gate_text Free = codes "free"
gate_text (HeldBy p) = codes "held " ++ natural p

abbrev pub numbers_text : List ℕ → Text
numbers_text [] = []
numbers_text (p ∷ ps) = codes " " ++ (natural p ++ numbers_text ps)

abbrev pub askers_text : List ℕ → Text
askers_text [] = codes " -"
askers_text (p ∷ ps) = numbers_text (p ∷ ps)

abbrev pub monitor_text : State → ℕ → Name → Members → Text
monitor_text s m x ps =
    let gate = s.gates m in
    line (codes "monitor " ++ (x ++ (codes " " ++ (gate_text gate.holder ++ (codes " askers" ++ askers_text gate.askers)))))
    ++ variable_lines s.store (monitor_location m) ps

abbrev pub monitors_text : State → ℕ → List (Name × Variable) → Text
monitors_text s m [] = []
monitors_text s m (v ∷ vs) = monitor_text s m v.0 (component_members v.1.type) ++ monitors_text s (suc m) vs

-- ---- Chains

abbrev pub is_asking : Status → Bool
is_asking (Asking m) = true
is_asking _ = false

abbrev pub chain_line : List ℕ → Text
chain_line chain = line (codes "chain" ++ numbers_text chain)

-- The text begins with the chain of p, if p is asking, and the rest is as `Advances` says.
abbrev pub BeginsWithChain : Bool → State → ℕ → (Text → Type 0) → Text → Type 0
BeginsWithChain true s p Advances text =
    (chain : List ℕ) × ((rest : Text) × IsAskingChain s p chain × Advances rest × (text ≡ chain_line chain ++ rest))
BeginsWithChain false s p Advances text = Advances text

-- The text has the chain of each of these processes that is asking.
abbrev pub AreChainLines : State → List ℕ → Text → Type 0
AreChainLines s [] text = text ≡ []
AreChainLines s (p ∷ ps) text = BeginsWithChain (is_asking (s.status p)) s p (AreChainLines s ps) text

-- ---- The whole report

abbrev pub report : Setup → State → Text
report setup s =
    line (codes "rounds " ++ natural s.rounds)
    ++ (process_text setup s 1 (codes "initial") (reported_members (globals setup.tree) setup.tree.initial)
    ++ (processes_text setup s 2 (components_of setup Process)
    ++ monitors_text s 1 (components_of setup Monitor)))

-- The text is the report with the chains of askers.
abbrev pub IsReportWithChains : Setup → State → Text → Type 0
IsReportWithChains setup s text = (lines : Text) × (AreChainLines s (processes setup) lines × (text ≡ report setup s ++ lines))

-- ---- The report with chains, computed

abbrev pub with_chain : Option (List ℕ) → Option Text → Option Text
with_chain (Some chain) (Some rest) = Some (chain_line chain ++ rest)
with_chain _ _ = None

-- The chain lines, if each chain ends within n more processes.
abbrev pub chain_lines_within : ℕ → State → List ℕ → Option Text
chain_lines_within n s [] = Some []
chain_lines_within n s (p ∷ ps) =
    let rest = chain_lines_within n s ps in
    if is_asking (s.status p) then with_chain (chain_within n s p) rest else rest

abbrev pub report_with_chains_within : ℕ → Setup → State → Option Text
report_with_chains_within n setup s = option_map (λ lines. report setup s ++ lines) (chain_lines_within n s (processes setup))
