-- Sound types: those that the variables, fields and elements of an accepted text have.
--
-- A sound type is fully resolved: it contains no `NoType` and no component. A simple type starts
-- within its bounds, the bounds of an array are in order, and the fields of a record have distinct
-- names and hold no queues.
use Rattle.std.specs.Prelude.{◌≡◌, int_le, Bool, true, false, ◌||◌}
use Rattle.std.specs.Str.{bytes_eq}
use Rattle.cp_model.specs.Abstract.{Name}
use Rattle.cp_model.specs.Types.{ArrayOf, ComponentOf, Members, MoreMembers, NoMembers, NoType, Queue, RecordOf, ResolvedType, Simple}
use Rattle.cp_model.specs.Places.{within}
use Rattle.cp_law_typing.specs.Judgement.{has_queues}

abbrev pub has_member : Name → Members → Bool
has_member x NoMembers = false
has_member x (MoreMembers y t ps) = bytes_eq x y || has_member x ps

abbrev mutual
  pub SoundType : ResolvedType → Type 0
  SoundType (Simple b low high start) = within low high start ≡ true
  SoundType (ArrayOf low high t) = (int_le low high ≡ true) × SoundType t
  SoundType (RecordOf ps) = SoundMembers ps
  SoundType Queue = Unit {0}
  SoundType (ComponentOf s inner) = ⊥
  SoundType NoType = ⊥

  pub SoundMembers : Members → Type 0
  SoundMembers NoMembers = Unit {0}
  SoundMembers (MoreMembers x t ps) = SoundType t × (has_member x ps ≡ false) × SoundMembers ps × (has_queues t ≡ false)
