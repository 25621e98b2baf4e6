use Rattle.cp_model.specs.RulesEnvironment as r
use Rattle.cp_model.specs.RulesTypes as types
use Rattle.cp_rules_body.proofs.Reports.{then_first}
use Rattle.cp_rules_body.proofs.constants.constant.Goals as goal

pub returns-in_ok-entity-in-Named : goal.returns-in_ok-entity-in-Named
returns-in_ok-entity-in-Named c =
    let x = c.in-Named.x in
    rw c.in-Named.is (then_first (types.c2_constant x) c.args.diagnostics.now c.resolve.new.diagnostics (r.c1_named c.args.env.now x) c.constant_of_entity.new.diagnostics
    c.in_ok-entity-in-Named.entity c.constant_of_entity.result c.in_ok-entity-in-Named.ensures c.constant_of_entity.ensures)
