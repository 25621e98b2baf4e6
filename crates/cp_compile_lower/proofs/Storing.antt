-- What an assignment stores.
use Rattle.std.proofs.Common.{◌≡◌, ◌++◌, ℕ, false, refl, subst, true}
use Rattle.cp_model.specs.Abstract as a
use Rattle.cp_model.specs.Types.{ArrayOf, ComponentOf, GlobalScope, NoType, Queue, RecordOf, ResolvedType, Simple}
use Rattle.cp_law_typing.specs.Words.{words}
use Rattle.cp_model_program.specs.CodedStatements.{is_result, store, with_calls}
use Rattle.cp_model_program.specs.CodedTerms.{CodedPlaceExpression, CodedTerm}
use Rattle.cp_model_program.specs.Programs as op
use Rattle.cp_model_program.specs.Scopes as code
use Rattle.cp_compile_emit.specs.declared.emitter.Emitter.{Emitter}
use Rattle.cp_compile_symbols.specs.Designators.{is_part}
use Rattle.cp_compile_symbols.specs.Expressions.{is_simple}
use Rattle.cp_compile_lower.specs.Statements.{Enters}

-- A variable whose type isn't simple is copied.
pub copies : (g : GlobalScope) (t : ResolvedType) (d : CodedPlaceExpression) (e : CodedTerm) (s : CodedPlaceExpression) (at next : ℕ) → is_simple t ≡ false
    → store g t d e s at next ≡ with_calls (d.calls ++ s.calls) (op.CopyWords d.place_expression s.place_expression (words g t) next) at
copies g (Simple b low high start) d e s at next other = absurd (cc)
copies g (ArrayOf low high t) d e s at next other = refl
copies g (RecordOf ms) d e s at next other = refl
copies g Queue d e s at next other = refl
copies g (ComponentOf y ms) d e s at next other = refl
copies g NoType d e s at next other = refl

-- A part is never the result of a function.
pub part_no_result : (s : code.Scope) (d : a.Designator) → is_part d ≡ true → is_result s d ≡ false
part_no_result s (a.Plain x) part = absurd (cc)
part_no_result s (a.Part d x) part = refl
part_no_result s (a.At d e) part = refl

-- The place expression and the type that are made are those of the designator.
pub stored : (old new : Emitter) (place : ℕ) (g : GlobalScope) (at next : ℕ) (c : CodedPlaceExpression) (e : ℕ → CodedTerm) (f : ℕ → CodedPlaceExpression) (n : ℕ)
    (t u : ResolvedType) → n ≡ c.temps → u ≡ t → Enters old new place (store g u c (e n) (f n) at next)
    → Enters old new place (store g t c (e c.temps) (f c.temps) at next)
stored old new place g at next c e f n t u temps same h =
    subst (λ v. Enters old new place (store g v c (e c.temps) (f c.temps) at next)) same
    (subst (λ m. Enters old new place (store g u c (e m) (f m) at next)) temps h)
