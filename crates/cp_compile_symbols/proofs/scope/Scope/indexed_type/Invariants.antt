use Rattle.std.proofs.Common.{drop, map}
use Rattle.cp_model.specs.Abstract as a
use Rattle.cp_model.specs.Erase as erase
use Rattle.cp_model.specs.View as view
use Rattle.cp_model_program.specs.Scopes as code
use Rattle.cp_compile_symbols.specs.Places.{PlaceIs}
use Rattle.cp_compile_symbols.proofs.Parts.{PartlyIndexed}
use Rattle.cp_compile_symbols.proofs.scope.Scope.indexed_type.Given as goal

-- The part that the indices so far select has this type.
abbrev pub invariant-loop-index : goal.invariant-loop-index
invariant-loop-index l =
    (s : code.Scope) (d : a.Designator) → PlaceIs l.fn.self s l.fn.of d
    → PartlyIndexed l.fn.self s (erase.with_indices d (view.indices_of (map view.index l.fn.indices))) l.of (drop l._index-index l.indices)
