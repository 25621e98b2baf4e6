-- Where activations of a process continue.
use Rattle.std.specs.Prelude.{◌≡◌, ◌≤◌, ◌⊎◌, ℕ, None, Option, Some, length, slice_get}
use Rattle.cp_private.specs.States.{frame_or_none}
use Rattle.cp_private.specs.declared.positions.Position.{Position}
use Rattle.cp_private.specs.declared.private.Private.{Private}

pub record IsAt (counter owner : ℕ) (position : Position) : Type 0 where
  pub operation : position.operation ≡ counter
  pub component : position.component ≡ owner

-- The position is that of the frame with the index, of which the outermost has the index 0. Without a
-- position there are no more frames.
abbrev pub IsCaller : Private → ℕ → Option Position → Type 0
IsCaller x index None = (x.depth ≤ index) ⊎ (length x.frames.items ≤ index)
IsCaller x index (Some position) = let f = frame_or_none (slice_get x.frames.items index) in IsAt f.counter f.component position
