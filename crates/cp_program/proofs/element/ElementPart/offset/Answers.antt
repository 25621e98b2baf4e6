use Rattle.std.proofs.Common.{rules, Bool, true, false, ℕ, ◌+◌, ◌*◌, ◌≡◌, Ok, Err, refl, ap, sym, ◌∙◌, to_z, of_z, w32}
use Rattle.cp_model.specs.declared.state.Fault.TheVariants as fault
use Rattle.cp_model.specs.Places.{within}
use Rattle.cp_model_program.specs.Functions.{unless}
use Rattle.cp_model_program.specs.Layout.{distance}
use Rattle.cp_model_machine.specs.Values.{bind}
use Rattle.cp_program.proofs.element.ElementPart.offset.Goals as goal

farther : (b : Bool) (far plus : ℕ) → bind (unless b fault.Index far) (λ k. Ok (k + plus)) ≡ unless b fault.Index (far + plus)
farther true far plus = refl
farther false far plus = refl

pub returns-in_err-far : goal.returns-in_err-far
returns-in_err-far c =
    let p = c.args.self.now in
    let n = to_z w32 (of_z w32 c.args.n) in
    let same : n ≡ c.args.n = search rules in
    let given : c.from_residual.result ≡ Err c.in_err-far.field-0.0 = search rules in
    given
    ∙ (ap (λ r. bind r (λ k. Ok (k + p.plus))) (sym c.in_err-far.was ∙ c.distance.ensures.words)
    ∙ (farther (within p.bounds.low p.bounds.high n) (distance p.bounds.low n * p.size) p.plus
    ∙ ap (λ m. unless (within p.bounds.low p.bounds.high m) fault.Index (distance p.bounds.low m * p.size + p.plus)) same))

pub returns : goal.returns
returns c =
    let p = c.args.self.now in
    let n = to_z w32 (of_z w32 c.args.n) in
    let same : n ≡ c.args.n = search rules in
    ap (λ r. bind r (λ k. Ok (k + p.plus))) (sym c.in_ok-far.was ∙ c.distance.ensures.words)
    ∙ (farther (within p.bounds.low p.bounds.high n) (distance p.bounds.low n * p.size) p.plus
    ∙ ap (λ m. unless (within p.bounds.low p.bounds.high m) fault.Index (distance p.bounds.low m * p.size + p.plus)) same)
