use Rattle.std.proofs.Common.{◌≡◌, ◌++◌, ◌∙◌, OnOk, subst, rules}
use Rattle.std.specs.Fmt as text
use Rattle.cp_base_digits.proofs.Digits.{natural_is}
use Rattle.cp_base_digits.proofs.decimal.push_natural.Goals as goal

pub returns : goal.returns
returns c =
    let digits : c.as_bytes.result.now ≡ text.decimal c.args.n = search rules in
    let old = c.args.out.now.items in
    let all : OnOk c.extend_from_slice.result (c.extend_from_slice.new.self.items ≡ old ++ c.as_bytes.result.now) = search rules in
    subst (λ ds. OnOk c.extend_from_slice.result (c.extend_from_slice.new.self.items ≡ old ++ ds)) (digits ∙ natural_is c.args.n c.ranges.n.fits) all
