use Rattle.std.proofs.Common.{drop, map}
use Rattle.cp_model.specs.Erase as erase
use Rattle.cp_model.specs.Types.{GlobalScope}
use Rattle.cp_model.specs.View as tree
use Rattle.cp_model_program.specs.Compile.{CompiledTypes}
use Rattle.cp_compile_emit.specs.Planning.{known_of}
use Rattle.cp_compile.specs.CompiledTexts.{AreNamed, IsText, TypesAre}
use Rattle.cp_compile.proofs.TextsCompiled.{PartlyDefined}
use Rattle.cp_compile.proofs.definitions.TextCompiler.sections.Given as goal

-- Compiling the remaining sections gives what compiling all of them gives.
abbrev pub invariant-loop-section : goal.invariant-loop-section
invariant-loop-section l =
    (g : GlobalScope) (m : CompiledTypes) → IsText l.self g → AreNamed g (erase.sections (map tree.section_of l.sections)) → TypesAre (known_of l.self.planner.now) l.fn.emitter l.fn.firsts m
    → PartlyDefined (known_of l.self.planner.now) g (erase.sections (map tree.section_of (drop l.section-index l.sections))) (erase.sections (map tree.section_of l.sections)) m l.emitter l.firsts
