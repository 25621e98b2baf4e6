use Rattle.std.proofs.Common.{drop, map, reverse}
use Rattle.cp_model.specs.Erase as erase
use Rattle.cp_model.specs.View as tree
use Rattle.cp_model_program.specs.CodedStatements.{emitted, emitted_arms}
use Rattle.cp_model_program.specs.Scopes as code
use Rattle.cp_compile_emit.specs.Emission.{place_of}
use Rattle.cp_compile_symbols.specs.Scopes.{IsScope}
use Rattle.cp_compile_lower.specs.Statements.{ArmsEnter, Enters}
use Rattle.cp_compile_lower.proofs.translator.Translator.+statements.Given as goal

-- The statements from this one on have been emitted.
abbrev pub invariant-statements-loop-i : goal.invariant-statements-loop-i
invariant-statements-loop-i l =
    (s : code.Scope) → IsScope l.self.scope s
    → Enters l.fn.emitter l.emitter l.entry
    (emitted s (erase.statements (tree.statements_of (map tree.statement (drop l.i l.list)))) l.low (place_of l.fn.emitter) l.next)

-- The labelled statements from this one on have been emitted.
abbrev pub invariant-arms-loop-i : goal.invariant-arms-loop-i
invariant-arms-loop-i l =
    (s : code.Scope) → IsScope l.self.scope s
    → ArmsEnter l.fn.emitter l.emitter (reverse l.arms.items)
    (emitted_arms s (erase.arms (tree.arms_of (map tree.arm (drop l.i l.list)))) l.low (place_of l.fn.emitter) l.next)
