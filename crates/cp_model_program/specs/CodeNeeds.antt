-- The words, temps and frames that a unit needs, together with everything that it calls.
use Rattle.std.specs.Prelude.{ℕ, suc, ◌+◌, max, List, [], ◌∷◌, None, Some, length, slice_get}
use Rattle.cp_model_program.specs.Layout.{capped}
use Rattle.cp_model_program.specs.Programs.{Call, CodeUnit, For, Function, InitClass, InitMonitor, InitProcess, Operation, Procedure}

pub record Need : Type 0 where
  pub words : ℕ
  pub temps : ℕ
  pub frames : ℕ

abbrev pub no_need : Need
no_need = record { words = 0; temps = 0; frames = 0 }

abbrev pub greater_need : Need → Need → Need
greater_need x y =
    record { words = max x.words y.words; temps = max x.temps y.temps; frames = max x.frames y.frames }

-- The need of a call. The units that a unit calls have been compiled before it. Words are capped: a
-- unit that needs the greatest number of words calls one that has no room, or has none itself.
abbrev pub need_of_call : List CodeUnit → Call → Need
need_of_call units c = elim (slice_get units c.routine) [
  | None ↦ no_need
  | Some u ↦ record { words = capped (c.words + u.words); temps = c.temps + u.temps; frames = 1 + u.frames }
]

-- At first the arguments of an `init` are after the activation, as the component's own words will:
-- after its mark.
abbrev pub with_room : ℕ → ℕ → Need → Need
with_room words count need = record need { words = max need.words (capped (words + suc count)) }

abbrev pub with_temps : ℕ → Need → Need
with_temps temps need = record need { temps = max need.temps temps }

abbrev pub need_of : List CodeUnit → Operation → Need
need_of units (Procedure c next) = need_of_call units c
need_of units (Function c into next) = with_temps (suc into) (need_of_call units c)
need_of units (InitClass c next) = with_room c.words (length c.arguments) (need_of_call units c)
need_of units (InitMonitor c next) = with_room c.words (length c.arguments) (need_of_call units c)
need_of units (InitProcess r xs words next) = with_room words (length xs) no_need
need_of units (For c first last) = with_temps (c.temp + 2) no_need
need_of units _ = no_need

-- The need of a list of operations whose activation has `words` words.
abbrev pub need_of_all : List CodeUnit → ℕ → List Operation → Need
need_of_all units words [] = record { words = words; temps = 0; frames = 0 }
need_of_all units words (o ∷ os) = greater_need (need_of units o) (need_of_all units words os)
