use Rattle.std.proofs.Common.{rules, arith, ◌≡◌, None, to_z, of_z, sym, ◌∙◌}
use Rattle.std.specs.Int.{w32}
use Rattle.cp_private.proofs.private.Private.pass_right.Goals as goal

pub returns-clause-step : goal.returns-clause-step
returns-clause-step c =
    λ input.
    let whole : to_z w32 (of_z w32 c.right_word-word.result) ≡ c.right_word-word.result = search rules in
    let value = whole ∙ c.right_word-word.ensures input in
    let written = rw value at (c.set_word.ensures.step input c.args.at (omega (arith, c.requires.at))) in
    λ i. record { own = sym written i; fault = None }
