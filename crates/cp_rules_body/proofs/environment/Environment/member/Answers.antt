use Rattle.std.proofs.Common.{get_or, [], ◌∙◌, ap}
use Rattle.cp_model.specs.Names.{lookup}
use Rattle.cp_model.specs.RulesEnvironment as r
use Rattle.cp_rules_body.proofs.environment.Environment.member.Goals as goal

pub returns : goal.returns
returns c =
    let k = c.args.table in
    let m = c.in_ok-get.field-0.now in
    let found = rw c.deref.ensures.value at c.in_ok-get.ensures.lookup.3 in
    let same = found.1 [] ∙ ap (λ (e : r.Environment). get_or e.members k []) c.self.view_is in
    c.find.ensures ∙ ap (λ y. lookup y m) c.as_bytes.ensures ∙ ap (lookup c.args.name.now.name) same
