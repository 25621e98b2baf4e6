-- The arguments of a call or of an `init`: in order, each checked before the next one is evaluated.
use Rattle.std.specs.Prelude.{List, None, Option, Some, [], if◌then◌else◌, ◌++◌, ◌∷◌}
use Rattle.cp_model.specs.Abstract.{Class, Designator, Expression, Expressions, Monitor, MoreExpressions, Name, Plain, Sort, Use}
use Rattle.cp_model.specs.Types.{ComponentOf, ResolvedType}
use Rattle.cp_model.specs.Declarations.{Variable}
use Rattle.cp_model.specs.Locations.{ByName, Location, under}
use Rattle.cp_model.specs.Stores.{ClassRight, MonitorRight, Reference, Store, Writes}
use Rattle.cp_model.specs.Outcomes.{Gives, Outcome, and_then}
use Rattle.cp_model.specs.Environments.{Environment}
use Rattle.cp_model.specs.Places.{Place}
use Rattle.cp_model.specs.Operators.{Clock}
use Rattle.cp_model.specs.Expressions.{name_of, place, value}
use Rattle.cp_model.specs.Components.{Component, class_location, component_named, monitor_number}
use Rattle.cp_model.specs.Assignments.{writes_of}

abbrev pub designator_of : Expression → Designator
designator_of (Use d) = d
designator_of _ = Plain []

-- ---- Of a call

abbrev pub reference_writes : Location → Outcome Place → Outcome Writes
reference_writes at o = and_then o (λ p. Gives ((at, Reference p.at) ∷ []))

-- A `var` parameter gets the location of the argument's variable, any other parameter gets its
-- value.
abbrev pub argument_writes : Clock → Environment → Store → Location → Variable → Expression → Outcome Writes
argument_writes clock env store at v e =
    if v.by_reference
    then reference_writes at (place clock env store (designator_of e))
    else and_then (value clock env store e) (writes_of at v.type)

-- ---- Of an init

-- A right to a monitor is its number. Only a class gets a right to a class, which then has the same owner.
abbrev pub right_writes : Environment → Store → Sort → Location → Sort → Component → Writes
right_writes env store to at Monitor n = (at, MonitorRight (monitor_number env store n)) ∷ []
right_writes env store Class at Class n = (at, ClassRight (class_location env store n)) ∷ []
right_writes env store _ at _ n = []

abbrev pub named_right_writes : Environment → Store → Sort → Location → Option Component → Writes
named_right_writes env store to at None = []
named_right_writes env store to at (Some n) = right_writes env store to at n.system.sort n

abbrev pub init_argument_writes
    : Sort → Clock → Environment → Store → Location → ResolvedType → Expression → Outcome Writes
init_argument_writes to clock env store at (ComponentOf s inner) e =
    Gives (named_right_writes env store to at (component_named env (name_of (designator_of e))))
init_argument_writes to clock env store at t e = and_then (value clock env store e) (writes_of at t)

-- ---- In order

abbrev pub bind
    : (Location → Variable → Expression → Outcome Writes) → Location → List (Name × Variable) → Expressions → Outcome Writes
bind one at (p ∷ ps) (MoreExpressions e es) =
    and_then (one (under at (ByName p.0 ∷ [])) p.1 e) (λ ws.
    and_then (bind one at ps es) (λ more. Gives (ws ++ more)))
bind one at _ _ = Gives []
