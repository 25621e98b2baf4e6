use Rattle.std.proofs.Common.{◌≡◌, ℕ, List, drop}
use Rattle.cp_model.specs.Abstract.{Name, System}
use Rattle.cp_model.specs.Types.{GlobalScope}
use Rattle.cp_model_program.specs.Compile.{Compiled}
use Rattle.cp_compile_symbols.specs.Systems.{routines_of}
use Rattle.cp_compile.specs.CompiledSystems.{IsSystem}
use Rattle.cp_compile_emit.specs.Emission.{Continues}
use Rattle.cp_compile_emit.specs.Planning.{known_of}
use Rattle.cp_compile.specs.Compiles.{IsCompiled}
use Rattle.cp_compile.proofs.SystemsCompiled.{PartlyCompiled}
use Rattle.cp_compile.proofs.system.SystemCompiler.routines.Given as goal

-- Compiling the remaining routines gives what compiling all of them gives, and origins stay.
abbrev pub invariant-loop-i : goal.invariant-loop-i
invariant-loop-i l = record {
  code : (g : GlobalScope) (s : System) (firsts : List (Name × ℕ)) (c : Compiled) → IsSystem l.self g s firsts → s.routines ≡ routines_of l.texts
      → IsCompiled (known_of l.self.planner.now) l.fn.emitter c
      → PartlyCompiled l.self g s firsts (routines_of (drop l.i l.texts)) (routines_of l.texts) c l.emitter;
  origins : (g : GlobalScope) (s : System) (firsts : List (Name × ℕ)) → IsSystem l.self g s firsts → s.routines ≡ routines_of l.texts
      → Continues l.fn.emitter.origins.items l.emitter.origins.items;
}
