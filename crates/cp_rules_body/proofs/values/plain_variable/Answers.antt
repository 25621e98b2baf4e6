use Rattle.std.proofs.Common.{◌≡◌, [], ◌∷◌, List, Some, length, map, ap, arith, refl, sym, ◌∙◌}
use Rattle.std.proofs.lemmas.Bool.Decides.{nat_tests}
use Rattle.cp_model.specs.Syntax as s
use Rattle.cp_model.specs.View.{selector, selectors_of}
use Rattle.cp_model.proofs.Views.{view_designator}
use Rattle.cp_rules_body.specs.ExpressionParts.{judge_use}
use Rattle.cp_rules_body.proofs.PlainVariables.{plain_use}
use Rattle.cp_rules_body.proofs.values.plain_variable.Goals as goal

none_of : {X : Type 0} (xs : List X) → length xs ≡ 0 → xs ≡ []
none_of [] h = refl
none_of (x ∷ xs) h = absurd (omega (arith, h))

pub returns-then-is_plain : goal.returns-then-is_plain
returns-then-is_plain c =
    let env = c.args.env.now in
    let d = c.args.designated.now in
    let count : length d.selectors.items ≡ 0 = grind (arith, nat_tests) in
    ap (judge_use env c.args.mode) (view_designator d)
    ∙ ap (λ selectors. judge_use env c.args.mode (s.Designate d.root (selectors_of (map selector selectors)))) (none_of d.selectors.items count)
    ∙ plain_use env c.args.mode d.root c.in-Some-Variable.t c.in-Some-Variable.field-0-1
    (ap Some (sym c.in-Some-Variable.field-0-is) ∙ sym c.in-Some-Variable.is ∙ c.find_entity.ensures) (sym c.is_plain.ensures ∙ c.if-is_plain.true)
