use Rattle.std.proofs.Common.{◌≡◌, drop, map}
use Rattle.cp_model.specs.Declarations.{define_all}
use Rattle.cp_model.specs.Erase as erase
use Rattle.cp_model.specs.Types.{GlobalScope}
use Rattle.cp_compile_symbols.specs.Outer.{OuterRepresents}
use Rattle.cp_compile_symbols.proofs.outer.Outer.define_constants.Given as goal

-- Defining the remaining constants gives the scope that defining all of them gives.
abbrev pub invariant-loop-d : goal.invariant-loop-d
invariant-loop-d l =
    (g : GlobalScope) → OuterRepresents l.fn.self g
    → (h : GlobalScope) × OuterRepresents l.self h × (define_all h (map erase.constant_definition (drop l.d-index l.list)) ≡ define_all g (map erase.constant_definition l.fn.list))
