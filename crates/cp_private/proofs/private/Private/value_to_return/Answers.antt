use Rattle.std.proofs.Common.{rules, arith, ◌≡◌, to_z, of_z, true, false, Ok, Some, refl, ap, ◌∙◌}
use Rattle.std.specs.Int.{w32}
use Rattle.cp_model.specs.Integers.{same_integer}
use Rattle.cp_model_program.specs.Starts.{unset}
use Rattle.cp_private.specs.States.{join}
use Rattle.cp_private.proofs.private.Private.value_to_return.Goals as goal

pub returns-then-value : goal.returns-then-value
returns-then-value c =
    λ input.
    let o = join c.args.self.now input c.args.shared.now in
    let function : c.args.function ≡ true = search rules in
    let value = c.word-value.ensures input o.base (omega arith) in
    let none : same_integer c.word-value.result unset ≡ true = search rules in
    rw (function, rw value at none) refl

pub returns : goal.returns
returns c =
    λ input.
    let o = join c.args.self.now input c.args.shared.now in
    let function : c.args.function ≡ true = search rules in
    let value = c.word-value.ensures input o.base (omega arith) in
    let whole : to_z w32 (of_z w32 c.word-value.result) ≡ c.word-value.result = search rules in
    let some : same_integer c.word-value.result unset ≡ false = search rules in
    rw (function, rw value at some) (ap (λ n. Ok (Some n)) (whole ∙ value))
