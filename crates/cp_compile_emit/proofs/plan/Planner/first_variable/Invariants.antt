use Rattle.std.proofs.Common.{List, drop, map}
use Rattle.cp_model.specs.Abstract.{Name}
use Rattle.cp_model.specs.Declarations.{Variable}
use Rattle.cp_model.specs.Types.{GlobalScope}
use Rattle.cp_compile_symbols.specs.Variables.{AreDeclared, declared_entry}
use Rattle.cp_compile_emit.specs.Planning.{Knows, types_of}
use Rattle.cp_compile_emit.proofs.Membership.{PartlyCounted}
use Rattle.cp_compile_emit.proofs.plan.Planner.first_variable.Given as goal

-- The parameters so far take the words from `at` to `next`.
abbrev pub invariant-loop-d : goal.invariant-loop-d
invariant-loop-d l =
    (g : GlobalScope) (vs : List (Name × Variable)) → Knows l.self g → AreDeclared (types_of l.self) (map declared_entry l.fn.parameters) vs
    → PartlyCounted g (types_of l.self) vs l.fn.at l.next (drop l.d-index l.parameters)
