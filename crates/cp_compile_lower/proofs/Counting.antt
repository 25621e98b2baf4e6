-- `for` statements: the operation that closes the loop, its body, and the operation that begins it.
use Rattle.std.proofs.Common.{◌≡◌, ◌∷◌, ◌++◌, ◌+◌, ℕ, suc, Bool, arith, length, subst}
use Rattle.cp_model.specs.Abstract as a
use Rattle.cp_model.specs.Abstract.{Name}
use Rattle.cp_model_program.specs.CodedStatements.{counting, emitted, with_calls}
use Rattle.cp_model_program.specs.CodedTerms.{coded_term}
use Rattle.cp_model_program.specs.Programs as op
use Rattle.cp_model_program.specs.Scopes.{Scope}
use Rattle.cp_compile_emit.specs.Emission.{Emits, place_of, with_body}
use Rattle.cp_compile_emit.specs.declared.emitter.Emitter.{Emitter}
use Rattle.cp_compile_lower.specs.Statements.{Enters}
use Rattle.cp_compile_lower.proofs.Sequencing.{BodyClosed, then_entered}

pub for_entered : (s : Scope) (x : Name) (down : Bool) (e f : a.Expression) (y : a.Statement) (low next start place : ℕ) (open' : op.Counting)
    (old middle new : Emitter) → open' ≡ counting s x down low 0 next
    → BodyClosed (with_body start) old middle (op.ForNext open') start (λ at to. emitted s y (low + 2) at to)
    → Enters middle new place
    (with_calls ((coded_term s e low).calls ++ (coded_term s f (coded_term s e low).temps).calls)
    (op.For (record open' { body = start }) (coded_term s e low).term (coded_term s f (coded_term s e low).temps).term) (place_of middle))
    → Enters old new place (emitted s (a.For x down e f y) low (place_of old) next)
for_entered s x down e f y low next start place open' old middle new is closed begins =
    let at = place_of old in
    let body = emitted s y (low + 2) (suc at) at in
    let first = coded_term s e low in
    let last = coded_term s f first.temps in
    let c = counting s x down low body.entry next in
    let counts : record open' { body = start } ≡ c = λ i. record (is i) { body = closed.body_is i } in
    let calls = first.calls ++ last.calls in
    let closes : Emits old middle (op.ForNext c ∷ body.operations) =
    subst (λ k. Emits old middle (op.ForNext k ∷ body.operations)) counts closed.emits in
    let begun = subst (λ k. Enters middle new place (with_calls calls (op.For k first.term last.term) (place_of middle))) counts begins in
    let far : at + length (op.ForNext c ∷ body.operations) ≡ suc at + length body.operations = omega arith in
    let whole = then_entered old middle new (op.ForNext c ∷ body.operations) place (λ n. with_calls calls (op.For c first.term last.term) n) closes begun in
    subst
    (λ n. Enters old new place
    (record {
      operations = (op.ForNext c ∷ body.operations) ++ (with_calls calls (op.For c first.term last.term) n).operations;
      entry = (with_calls calls (op.For c first.term last.term) n).entry;
    }))
    far whole
