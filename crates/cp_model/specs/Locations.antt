-- Owners and locations: where the variables of a running program are.
--
-- An owner is a process, a monitor, or an activation of a routine by a process. A class is where
-- its variable is, so it belongs to the process or monitor that owns the variable. A location is
-- an owner and a path of names and indices.
use Rattle.std.specs.Prelude.{Bool, List, [], false, nat_eq, true, ℕ, ℤ, ◌&&◌, ◌++◌, ◌∷◌}
use Rattle.cp_model.specs.Abstract.{Name}
use Rattle.std.specs.Str.{bytes_eq}
use Rattle.cp_model.specs.Integers.{same_integer}

-- Processes and monitors are numbered from 1. An activation has the number of its process and its
-- depth, which is how many activations of that process existed before it.
pub data Owner : Type 0 where
  OfProcess : (p : ℕ) → Owner
  OfMonitor : (m : ℕ) → Owner
  OfActivation : (p depth : ℕ) → Owner

-- One step of a path: to a named variable or field, or to an element of an array.
pub data PathStep : Type 0 where
  ByName : (name : Name) → PathStep
  ByIndex : (i : ℤ) → PathStep

abbrev pub Path : Type 0
Path = List PathStep

pub record Location : Type 0 where
  pub owner : Owner
  pub path : Path

-- Where the variables of an owner begin.
abbrev pub root : Owner → Location
root o = record { owner = o; path = [] }

-- The location that is reached from another one along a path.
abbrev pub under : Location → Path → Location
under l path = record { owner = l.owner; path = l.path ++ path }

-- ---- Equality

abbrev pub same_path_step : PathStep → PathStep → Bool
same_path_step (ByName x) (ByName y) = bytes_eq x y
same_path_step (ByIndex i) (ByIndex j) = same_integer i j
same_path_step _ _ = false

abbrev pub same_path : Path → Path → Bool
same_path [] [] = true
same_path (a ∷ x) (b ∷ y) = same_path_step a b && same_path x y
same_path _ _ = false

abbrev pub same_owner : Owner → Owner → Bool
same_owner (OfProcess p) (OfProcess q) = nat_eq p q
same_owner (OfMonitor p) (OfMonitor q) = nat_eq p q
same_owner (OfActivation p d) (OfActivation q e) = nat_eq p q && nat_eq d e
same_owner _ _ = false

abbrev pub same_location : Location → Location → Bool
same_location l k = same_owner l.owner k.owner && same_path l.path k.path
