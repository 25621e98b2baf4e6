use Rattle.std.proofs.Common.{◌≡◌, ◌≤◌, length, List, [], ◌∷◌, map, refl, Some, arith}
use Rattle.cp_model.specs.RulesJudged.{Sound, also}
use Rattle.cp_model.specs.RulesEnvironment as r
use Rattle.cp_model.specs.RulesNames as n
use Rattle.cp_model.specs.View.{selector, selectors_of}
use Rattle.cp_model.specs.declared.tree.Identifier.{Identifier}
use Rattle.cp_model.specs.declared.tree.Selector.{Selector}
use Rattle.cp_model.specs.declared.rules.Entity.{Entity}
use Rattle.cp_rules_body.proofs.Reports.{also_reported}
use Rattle.cp_rules_body.proofs.roots.before_selectors.Goals as goal

of_some : (env : r.Environment) (x : Identifier) (e : Entity) (xs : List Selector) → 1 ≤ length xs
    → n.before_selectors env x (selectors_of (map selector xs)) e ≡ also (r.c4_c9_named env x e) (Sound e)
of_some env x e [] some = absurd (omega (arith, some))
of_some env x e (y ∷ ys) some = refl

pub returns-in_default : goal.returns-in_default
returns-in_default c =
    let env = c.args.env.now in
    let x = c.args.name.now in
    let e = c.args.entity in
    let t1 = c.anywhere-in_place.new.diagnostics in
    rw (of_some env x e c.args.selectors.now c.in_default.len_at_least, c.answer_if.ensures)
    (also_reported c.args.diagnostics.now t1 t1 c.anywhere-in_place.result (r.c4_c9_named env x e) (Some e) (Sound e) c.anywhere-in_place.ensures (refl, refl))
