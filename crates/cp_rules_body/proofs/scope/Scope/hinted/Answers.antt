use Rattle.std.proofs.Common.{◌≡◌, ap, sym, ◌∙◌}
use Rattle.std.proofs.lemmas.Slice.Eq.{bytes_eq-Decides}
use Rattle.cp_model.specs.Names.{lookup}
use Rattle.cp_rules_body.proofs.ScopeFound.{found_at}
use Rattle.cp_rules_body.proofs.scope.Scope.hinted.Goals as goal

pub returns-then-eq : goal.returns-then-eq
returns-then-eq c =
    let table = c.self.inside.table in
    let found = c.in_ok-found.found.now in
    let same : found ≡ c.args.name.now = (bytes_eq-Decides found c.args.name.now).0 (sym c.eq.ensures ∙ c.if-eq.true) in
    ap (lookup c.args.name.now) (sym c.self.view_is) ∙ ap (λ x. lookup x table) (sym same)
    ∙ found_at table c.in_ok-number.field-0.now found c.in_ok-found.entity c.len.ensures.distinct (sym c.in_ok-found.ensures)
