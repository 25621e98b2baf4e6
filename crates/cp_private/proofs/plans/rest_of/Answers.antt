use Rattle.std.proofs.Common.{◌≤◌, ◌∙◌, ap, sym, take, arith}
use Rattle.cp_model_program.specs.Starts.{carry_out}
use Rattle.cp_program.specs.View.{plan_at, plans_of}
use Rattle.cp_program.proofs.PlansKnown.{no_plan_below, plan_below}
use Rattle.cp_private.proofs.CarriedOut.{carried_beyond}
use Rattle.cp_private.proofs.plans.rest_of.Goals as goal

pub returns-then-below-number-clause-words : goal.returns-then-below-number-clause-words
returns-then-below-number-clause-words c = λ ws is.
    sym (ap (λ p. carry_out c.args.at p ws) (no_plan_below (plans_of c.args.program.now) c.args.below c.args.plan c.if-below-number.true))

pub returns-then-count-at-clause-words : goal.returns-then-count-at-clause-words
returns-then-count-at-clause-words c = λ ws is.
    let far : c.args.count ≤ c.args.at = c.if-count-at.true in
    sym (carried_beyond c.args.at (plan_at (take c.args.below (plans_of c.args.program.now)) c.args.plan) ws (omega (arith, is, far)))

pub returns-clause-words : goal.returns-clause-words
returns-clause-words c = λ ws is.
    let known = plans_of c.args.program.now in
    ap (λ p. carry_out c.args.at p ws) (c.starts.ensures ∙ sym (plan_below known c.args.below c.args.plan (omega arith)))
