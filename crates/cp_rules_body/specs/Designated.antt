-- Designators: which expressions are one, and which variables may be used by their names alone.
use Rattle.std.specs.Prelude.{◌&&◌, Bool, ℕ, not, Option, Some, None}
use Rattle.std.specs.Borrow.{Bor}
use Rattle.cp_model.specs.Syntax as s
use Rattle.cp_model.specs.RulesEnvironment.{Environment, row_of}
use Rattle.cp_model.specs.RulesNames.{is_used_as_component}
use Rattle.cp_model.specs.View.{designator}
use Rattle.cp_model.specs.declared.rules.Mode.{Mode}
use Rattle.cp_model.specs.declared.tree.Designator.{Designator}

abbrev pub designator_in : s.Expression → Option s.Designator
designator_in (s.Designated d) = Some d
designator_in e = None

abbrev pub designator_if : Option (Bor Designator) → Option s.Designator
designator_if (Some d) = Some (designator d.now)
designator_if None = None

-- Nothing is broken in the use of a variable of the type: it has no queues, and isn't a component that is used as a value.
abbrev pub is_plain : Environment → Mode → ℕ → Bool
is_plain env m t = not (row_of env t).has_queues && is_used_as_component m env t
