use Rattle.std.proofs.Common.{◌∙◌, ℕ, Option, subst, sym}
use Rattle.cp_compile_symbols.specs.Places.{TypeIs}
use Rattle.cp_compile_symbols.proofs.Parts.{field_typed}
use Rattle.cp_compile_symbols.proofs.scope.Scope.field_type.Goals as goal

pub returns : goal.returns
returns c = λ s t i typed.
    let types = c.args.self.now.tables.now.types in
    let represents = subst (λ (o : Option ℕ). TypeIs types o t) c.in_ok-of.was typed in
    let here = sym (c.is_record.ensures t represents) ∙ c.if-not-is_record.false in
    rw c.part_type.ensures (field_typed types s.globals t c.args.name.now c.part.result here (c.part.ensures s.globals types t i.laid represents))
