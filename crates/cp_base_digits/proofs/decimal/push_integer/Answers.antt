use Rattle.std.proofs.Common.{◌≡◌, ◌++◌, ◌∙◌, OnOk, subst, rules}
use Rattle.std.specs.Fmt as text
use Rattle.cp_base_digits.proofs.Digits.{decimal_is}
use Rattle.cp_base_digits.proofs.decimal.push_integer.Goals as goal

pub returns : goal.returns
returns c =
    let digits : c.as_bytes.result.now ≡ text.signed_decimal c.args.n = search rules in
    let old = c.args.out.now.items in
    let all : OnOk c.extend_from_slice.result (c.extend_from_slice.new.self.items ≡ old ++ c.as_bytes.result.now) = search rules in
    subst (λ ds. OnOk c.extend_from_slice.result (c.extend_from_slice.new.self.items ≡ old ++ ds)) (digits ∙ decimal_is c.args.n (search rules)) all
