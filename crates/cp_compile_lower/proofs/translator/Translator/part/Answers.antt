use Rattle.std.proofs.Common.{ℕ, Option, subst}
use Rattle.cp_compile_symbols.specs.Places.{TypeIs}
use Rattle.cp_compile_lower.proofs.translator.Translator.part.Goals as goal

pub returns : goal.returns
returns c = λ s t scope typed.
    let types = c.args.self.now.scope.tables.now.types in
    (rw c.tables.ensures at c.part.ensures) s.globals types t scope.laid (subst (λ (o : Option ℕ). TypeIs types o t) c.in_ok-of.was typed)
