use Rattle.std.proofs.Common.{◌≡◌, drop, map, reverse}
use Rattle.cp_model.specs.Erase as erase
use Rattle.cp_model_program.specs.CodedStatements.{arms_at}
use Rattle.cp_model_program.specs.Scopes as code
use Rattle.cp_compile_symbols.specs.Scopes.{IsScope}
use Rattle.cp_program.specs.Labels.{arm}
use Rattle.cp_compile_lower.proofs.translator.Translator.label.Given as goal

-- The labels from this one on have been added.
abbrev pub invariant-loop-i : goal.invariant-loop-i
invariant-loop-i l =
    (s : code.Scope) → IsScope l.self.scope s
    → map arm (reverse l.arms.items) ≡ arms_at s.globals l.place (map erase.constant (drop l.i l.labels)) (map arm (reverse l.fn.arms.items))
