-- The code's kernel, alone and together with the private state of the process whose turn it is, as
-- the plain data of the definitions.
use Rattle.std.specs.Prelude.{◌≡◌, ℕ, ◌+◌, ◌-◌, ◌≤◌, true, length, List, [], Some, Vec, map, slice_get, All, vec_len, vec_capacity}
use Rattle.std.specs.Global.{Global}
use Rattle.cp_model.specs.States as model
use Rattle.cp_model_machine.specs.KernelSteps as plain
use Rattle.cp_private.specs.States as states
use Rattle.cp_private.specs.States.{private_of}
use Rattle.cp_private.specs.declared.private.Private.{Private}
use Rattle.cp_private.specs.declared.kernel_view.Gate.{Gate}
use Rattle.cp_kernel.specs.declared.kernel.Kernel.{Kernel}

-- ---- The kernel

abbrev pub kernel_of : Kernel → plain.Kernel
kernel_of k = record {
  shared = k.shared.items;
  gates = map states.gate k.gates.items;
  stages = map states.stage k.stages.items;
}

abbrev pub turning : Kernel → Private → List ℕ → plain.Turning
turning k x input = record { kernel = kernel_of k; own = private_of x input }

-- Nobody holds or asks for the gate of a monitor that isn't initialised.
abbrev pub unset_gate : model.Gate
unset_gate = record { holder = model.Unset; askers = [] }

-- ---- Transcripts

abbrev pub Bytes : Type 0
Bytes = Vec ℕ Global

-- The transcripts by number, without the output that private states still hold.
abbrev pub transcripts_of : Kernel → List (List ℕ)
transcripts_of k = map (λ (v : Bytes). v.items) k.transcripts.items

-- ---- Room

-- There is room for n more askers of a gate.
abbrev pub HasRoomToAsk : ℕ → Gate → Type 0
HasRoomToAsk n g = vec_len g.askers + n ≤ vec_capacity g.askers

-- There is room for n more askers of each gate.
abbrev pub HasRoomForAskers : Kernel → ℕ → Type 0
HasRoomForAskers k n = All (HasRoomToAsk n) k.gates.items

-- There is room for n more bytes in the transcript of process p.
abbrev pub HasRoomForBytes : Kernel → ℕ → ℕ → Type 0
HasRoomForBytes k p n = (v : Bytes) → slice_get k.transcripts.items (p - 1) ≡ Some v → vec_len v + n ≤ vec_capacity v

-- ---- Processes

-- There is a process with this number.
pub record IsAmong (k : Kernel) (p : ℕ) : Type 0 where
  pub first : 1 ≤ p
  pub last : p ≤ length k.stages.items

abbrev pub IsBegun : Kernel → ℕ → Type 0
IsBegun k p = plain.is_begun (plain.stage_of (map states.stage k.stages.items) p) ≡ true
