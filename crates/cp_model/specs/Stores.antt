-- Values and the store: one map from locations to values for the whole system.
use Rattle.std.specs.Prelude.{Bool, List, Option, [], if◌then◌else◌, ℕ, ℤ, ◌∷◌}
use Rattle.cp_model.specs.Locations.{Location, Owner, same_location, same_owner}

-- What a location can hold: nothing (also the result of a function that has set none), the ordinal
-- of a simple value, a queue with the process that is in it, if any, a right to a monitor (its
-- number) or to a class (where it is), what a `var` parameter refers to, or the mark of a class,
-- which says whether it has been initialised.
pub data Value : Type 0 where
  Absent : Value
  Ordinal : (n : ℤ) → Value
  QueueHolds : (process : Option ℕ) → Value
  MonitorRight : (m : ℕ) → Value
  ClassRight : (at : Location) → Value
  Reference : (to : Location) → Value
  Initialised : (yes : Bool) → Value

-- A location that was never written holds `Absent`.
abbrev pub Store : Type 0
Store = Location → Value

-- The store with another value at one location.
abbrev pub put : Location → Value → Store → Store
put l v store k = if same_location l k then v else store k

abbrev pub Writes : Type 0
Writes = List (Location × Value)

-- The store after a list of writes, in order.
abbrev pub put_all : Writes → Store → Store
put_all [] store = store
put_all (w ∷ ws) store = put_all ws (put w.0 w.1 store)

-- The store without the locations of an owner, as at the end of an activation.
abbrev pub forget : Owner → Store → Store
forget o store k = if same_owner o k.owner then Absent else store k
