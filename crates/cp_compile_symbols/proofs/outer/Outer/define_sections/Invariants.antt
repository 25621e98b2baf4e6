use Rattle.std.proofs.Common.{◌≡◌, drop, map}
use Rattle.cp_model.specs.Declarations.{define_all}
use Rattle.cp_model.specs.Erase as erase
use Rattle.cp_model.specs.View as view
use Rattle.cp_model.specs.Types.{GlobalScope}
use Rattle.cp_compile_symbols.specs.Outer.{OuterRepresents}
use Rattle.cp_compile_symbols.proofs.outer.Outer.define_sections.Given as goal

-- Defining the remaining sections gives the scope that defining all of them gives.
abbrev pub invariant-loop-section : goal.invariant-loop-section
invariant-loop-section l =
    (g : GlobalScope) → OuterRepresents l.fn.self g
    → (h : GlobalScope) × OuterRepresents l.self h × (define_all h (erase.sections (map view.section_of (drop l.section-index l.sections))) ≡ define_all g (erase.sections (map view.section_of l.fn.sections)))
