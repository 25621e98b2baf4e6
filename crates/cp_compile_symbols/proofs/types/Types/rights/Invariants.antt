use Rattle.std.proofs.Common.{◌≡◌, ◌+◌, ℕ, drop}
use Rattle.cp_model.specs.Types.{GlobalScope}
use Rattle.cp_compile_symbols.specs.Layouts.{Counts, rights_of}
use Rattle.cp_compile_symbols.specs.Representing.{ScopeRepresents}
use Rattle.cp_compile_symbols.proofs.types.Types.rights.Given as goal

-- The rights counted so far and those of the remaining groups are all rights.
abbrev pub invariant-loop-group : goal.invariant-loop-group
invariant-loop-group l =
    (g : GlobalScope) → ScopeRepresents l.names l.self g
    → (n : ℕ) × Counts l.count n × (n + rights_of g (drop l.group-index l.groups) ≡ rights_of g l.fn.groups)
