use Rattle.std.proofs.Common.{drop, map}
use Rattle.cp_model.specs.Erase as erase
use Rattle.cp_model.specs.Types.{GlobalScope}
use Rattle.cp_model.specs.View as tree
use Rattle.cp_model_program.specs.Compile.{CompiledTypes}
use Rattle.cp_compile_emit.specs.Planning.{known_of}
use Rattle.cp_compile.specs.CompiledTexts.{AreNamed, IsText, TypesAre}
use Rattle.cp_compile.proofs.TextsCompiled.{PartlyDefined}
use Rattle.cp_compile.proofs.definitions.TextCompiler.types.Given as goal

-- Compiling the remaining definitions gives what compiling all of them gives.
abbrev pub invariant-loop-d : goal.invariant-loop-d
invariant-loop-d l =
    (g : GlobalScope) (m : CompiledTypes) → IsText l.self g → AreNamed g (map erase.type_definition (map tree.type_definition l.list)) → TypesAre (known_of l.self.planner.now) l.fn.emitter l.fn.firsts m
    → PartlyDefined (known_of l.self.planner.now) g (map erase.type_definition (map tree.type_definition (drop l.d-index l.list)))
    (map erase.type_definition (map tree.type_definition l.list)) m l.emitter l.firsts
