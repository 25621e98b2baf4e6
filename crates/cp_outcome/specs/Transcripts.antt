-- When bytes are the transcript of a process, or those of several processes.
use Rattle.std.specs.Prelude.{◌≡◌, ◌≤◌, ◌++◌, ◌∷◌, [], codes, ℕ, List}
use Rattle.cp_model.specs.Decimal.{natural}
use Rattle.cp_model_machine.specs.InState.{IsIn}
use Rattle.cp_model.specs.States.{Setup, State, process_count}
use Rattle.cp_rounds.specs.Views.{machine_of}
use Rattle.cp_rounds.specs.declared.machine.Machine.{Machine}

-- The bytes are exactly what the process with this number has written.
abbrev pub IsTranscript : ℕ → Setup → State → List ℕ → Type 0
IsTranscript p setup s bytes = 1 ≤ p → p ≤ process_count setup → bytes ≡ s.transcript p

-- The bytes are that transcript in every state that the machine is in.
abbrev pub IsTranscriptOf : ℕ → Machine → List ℕ → Type 0
IsTranscriptOf p m bytes = (setup : Setup) (s : State) → IsIn (machine_of m) setup s → IsTranscript p setup s bytes

-- ---- Several processes

-- The line before a transcript: the number and the name of the process.
abbrev pub heading : ℕ → List ℕ → List ℕ
heading p name = codes "process " ++ (natural p ++ (codes " " ++ (name ++ 10 ∷ [])))

-- The heading of a process, exactly what it has written, and a line feed.
abbrev pub IsSection : ℕ → Setup → State → List ℕ → Type 0
IsSection p setup s bytes = (name : List ℕ) × (text : List ℕ) × IsTranscript p setup s text × (bytes ≡ heading p name ++ (text ++ 10 ∷ []))

-- A section for each of these processes, in their order.
abbrev pub AreSections : List ℕ → Setup → State → List ℕ → Type 0
AreSections [] setup s bytes = bytes ≡ []
AreSections (p ∷ ps) setup s bytes = (front : List ℕ) × (rest : List ℕ) × (bytes ≡ front ++ rest) × IsSection p setup s front × AreSections ps setup s rest

-- The transcript of one process by itself, or the sections of several.
abbrev pub AreTranscripts : List ℕ → Setup → State → List ℕ → Type 0
AreTranscripts [] setup s bytes = bytes ≡ []
AreTranscripts (p ∷ []) setup s bytes = IsTranscript p setup s bytes
AreTranscripts (p ∷ q ∷ ps) setup s bytes = AreSections (p ∷ q ∷ ps) setup s bytes

abbrev pub IsSectionOf : ℕ → Machine → List ℕ → Type 0
IsSectionOf p m bytes = (setup : Setup) (s : State) → IsIn (machine_of m) setup s → IsSection p setup s bytes

abbrev pub AreSectionsOf : List ℕ → Machine → List ℕ → Type 0
AreSectionsOf ps m bytes = (setup : Setup) (s : State) → IsIn (machine_of m) setup s → AreSections ps setup s bytes

abbrev pub AreTranscriptsOf : List ℕ → Machine → List ℕ → Type 0
AreTranscriptsOf ps m bytes = (setup : Setup) (s : State) → IsIn (machine_of m) setup s → AreTranscripts ps setup s bytes
