use Rattle.std.proofs.Common.{◌∙◌, ap, sym, drop, slice_get}
use Rattle.cp_model.specs.RulesEnvironment as r
use Rattle.cp_rules_body.proofs.Lists.{slice_get_drop, copied_get}
use Rattle.cp_rules_body.proofs.environment.Environment.parameter.Goals as goal

pub returns : goal.returns
returns c =
    let ps = c.self.inside.parameters.items in
    c.copied.ensures ∙ copied_get ps c.in_ok-at.at c.get.result (rw c.as_slice-parameters.ensures.value at c.get.ensures.lookup.3)
    ∙ sym (slice_get_drop c.args.first ps c.args.number c.in_ok-at.at (sym c.in_ok-at.ensures.1))
    ∙ ap (λ (e : r.Environment). slice_get (drop c.args.first e.parameters) c.args.number) c.self.view_is
