use Rattle.cp_model.specs.View.{designator, expression}
use Rattle.cp_rules_body.proofs.InitReported.{unwanted_some, unwanted_none}
use Rattle.cp_rules_body.proofs.initialisation.unwanted_argument.Goals as goal

pub returns-in-Some : goal.returns-in-Some
returns-in-Some c =
    rw (unwanted_some c.args.env.now (expression c.args.value.now) (designator c.in-Some.d.now) c.in-Some.ensures) c.unwanted_designator.ensures

pub returns-in-None : goal.returns-in-None
returns-in-None c = rw (unwanted_none c.args.env.now (expression c.args.value.now) c.in-None.ensures) c.judge.ensures
