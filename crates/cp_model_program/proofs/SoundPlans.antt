-- Sound types can be planned.
use Rattle.std.proofs.Common.{List, [], ◌∷◌, Bool, false}
use Rattle.cp_model.specs.Abstract.{Name}
use Rattle.cp_model.specs.Types.{ArrayOf, ComponentOf, GlobalScope, Members, MoreMembers, NoMembers, NoType, Queue, RecordOf, ResolvedType, Simple}
use Rattle.cp_model.specs.Declarations.{Variable}
use Rattle.cp_law_typing.specs.Declared.{Each, RoutineVariable}
use Rattle.cp_law_typing.specs.SoundTypes.{SoundMembers, SoundType}
use Rattle.cp_model_program.specs.Known.{Plannable, PlannableMembers}
use Rattle.cp_model_program.proofs.StartsRepresent.{ByValue}

mutual
  pub sound_plannable : (zeros : Bool) (t : ResolvedType) → SoundType t → Plannable zeros t
  sound_plannable zeros (Simple b low high start) h = tt
  sound_plannable zeros (ArrayOf low high t) h = (h.0, sound_plannable zeros t h.1)
  sound_plannable zeros (RecordOf ms) h = sound_members zeros ms h
  sound_plannable zeros Queue h = tt
  sound_plannable zeros (ComponentOf s inner) h = absurd h
  sound_plannable zeros NoType h = absurd h

  sound_members : (zeros : Bool) (ms : Members) → SoundMembers ms → PlannableMembers zeros ms
  sound_members zeros NoMembers h = tt
  sound_members zeros (MoreMembers x t ms) h = (sound_plannable zeros t h.0, sound_members zeros ms h.2)

pub variables_by_value : (g : GlobalScope) (vs : List (Name × Variable)) → Each (RoutineVariable g) vs → Each ByValue vs
variables_by_value g [] h = tt
variables_by_value g (v ∷ vs) h = ((h.0.2, sound_plannable false v.1.type h.0.0.0), variables_by_value g vs h.1)
