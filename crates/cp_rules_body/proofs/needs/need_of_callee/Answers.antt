use Rattle.std.proofs.Common.{sym, ap, ◌∙◌}
use Rattle.cp_model.specs.View.{designator}
use Rattle.cp_rules_body.specs.EntitiesNamed.{is_routine}
use Rattle.cp_rules_body.proofs.Covers.{needs_nothing}
use Rattle.cp_rules_body.proofs.needs.need_of_callee.Goals as goal

pub returns-else-is_routine : goal.returns-else-is_routine
returns-else-is_routine c =
    let no_routine = sym (ap is_routine c.find_designated_entity.ensures) ∙ sym c.is_routine.ensures ∙ c.if-is_routine.false in
    sym (needs_nothing c.args.env.now (designator c.args.designated.now) no_routine)
