use Rattle.std.proofs.Common.{rules, ◌≡◌, Ok, to_z, of_z, ap, sym, ◌∙◌}
use Rattle.std.specs.Int.{w32}
use Rattle.cp_private.proofs.private.Private.evaluate_fast.Goals as goal

pub returns-clause-step : goal.returns-clause-step
returns-clause-step g c =
    λ yes program.
    let n = c.in-Some.n in
    let same : to_z w32 (of_z w32 n) ≡ n = search rules in
    c.use_fast.ensures.step yes _ program (λ clock. c.in-Some.ensures clock ∙ ap (λ m. Ok m) (sym same))
