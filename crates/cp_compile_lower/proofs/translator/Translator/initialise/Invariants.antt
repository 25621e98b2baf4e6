use Rattle.std.proofs.Common.{drop, map}
use Rattle.cp_model.specs.Erase as erase
use Rattle.cp_model.specs.View as tree
use Rattle.cp_model_program.specs.CodedStatements.{emitted}
use Rattle.cp_model_program.specs.Scopes as code
use Rattle.cp_compile_emit.specs.Emission.{place_of}
use Rattle.cp_compile_symbols.specs.Scopes.{IsScope}
use Rattle.cp_compile_lower.specs.Statements.{Enters}
use Rattle.cp_compile_lower.proofs.translator.Translator.initialise.Given as goal

-- The initialisations from this one on have been emitted.
abbrev pub invariant-loop-i : goal.invariant-loop-i
invariant-loop-i l =
    (s : code.Scope) → IsScope l.self.scope s
    → Enters l.fn.emitter l.emitter l.entry
    (emitted s (erase.items (map tree.init_item (drop l.i l.items))) l.low (place_of l.fn.emitter) l.next)
