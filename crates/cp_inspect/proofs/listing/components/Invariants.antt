use Rattle.std.proofs.Common.{List, drop, map}
use Rattle.std.specs.Prelude.{filter}
use Rattle.cp_model.specs.Abstract.{Name}
use Rattle.cp_model.specs.Components.{is_component_of}
use Rattle.cp_model.specs.Declarations.{Variable}
use Rattle.cp_model.specs.Erase as erase
use Rattle.cp_compile_symbols.specs.Representing.{entry}
use Rattle.cp_compile_symbols.specs.Variables.{AreDeclared, declared_entry}
use Rattle.cp_inspect.proofs.Listed.{Listing}
use Rattle.cp_inspect.proofs.listing.components.Given as goal

abbrev pub invariant-loop-variable : goal.invariant-loop-variable
invariant-loop-variable l =
    (vs : List (Name × Variable)) → AreDeclared l.tables.types (map declared_entry l.tables.initial.variables.items) vs
    → Listing l.tables.types (erase.sort_of l.sort) (map declared_entry (drop l.variable-index l.tables.initial.variables.items)) (map entry l.list.items)
    (filter (λ v. is_component_of (erase.sort_of l.sort) v.1.type) vs)
