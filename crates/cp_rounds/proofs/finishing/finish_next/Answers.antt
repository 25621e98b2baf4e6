use Rattle.std.proofs.Common.{◌≡◌, ◌+◌, ◌-◌, ◌++◌, ◌∷◌, [], List, take, sym, ap, ◌∙◌, subst, arith}
use Rattle.std.proofs.lemmas.List.{take_more}
use Rattle.cp_private.specs.declared.private.Private.{Private}
use Rattle.cp_rounds_handoff.specs.Numbers.{AreNumbered}
use Rattle.cp_rounds_handoff.specs.Inputs.{input_at}
use Rattle.cp_rounds.specs.Runs.{TurnsTaken}
use Rattle.cp_rounds.proofs.MoreTurns.{numbers_more, ready_still, taken_more}
use Rattle.cp_rounds.proofs.finishing.finish_next.Goals as goal

pub returns-then-makes_no_step-clause-taken : goal.returns-then-makes_no_step-clause-taken
returns-then-makes_no_step-clause-taken g c = λ rounds k time was.
    let run = c.args.run.now in
    let config = run.turns.config.now in
    let t = run.turns.plan.turn.steps in
    let i = c.args.index in
    let ys = c.args.privates.now.items in
    let xs = c.args.round.now.start.value.items in
    let k1 = c.args.kernel.now in
    let y = c.index.result.now in
    let still = c.if-makes_no_step.true in
    let taken = c.makes_no_step.ensures.taken still in
    let turn = c.makes_no_step.ensures.turned still c.args.round.now.round_time.clock t (input_at config.inputs.items ((i + 1) - 1)) in
    let one : take (i + 1) ys ≡ take i ys ++ y ∷ [] =
    take_more ys i y c.requires.within ∙ ap (λ (w : Private). take i ys ++ w ∷ []) (sym c.index.ensures) in
    subst (λ (l : List Private). TurnsTaken config t rounds xs k l k1) (sym one)
    (taken_more g.C.Course.without_kernel g.C.Course.turned g.C.Course.input g.C.Course.most config t run.turns.course rounds c.args.round.now.round_time xs ys k k1 k1 i y y c.requires.within
    c.requires.count time taken turn was)

pub returns-then-makes_no_step-clause-numbers : goal.returns-then-makes_no_step-clause-numbers
returns-then-makes_no_step-clause-numbers g c = λ h.
    let i = c.args.index in
    let ys = c.args.privates.now.items in
    let y = c.index.result.now in
    let one : take (i + 1) ys ≡ take i ys ++ y ∷ [] =
    take_more ys i y c.requires.within ∙ ap (λ (w : Private). take i ys ++ w ∷ []) (sym c.index.ensures) in
    subst (λ (l : List Private). AreNumbered l) (sym one)
    (numbers_more ys i y c.requires.within (c.makes_no_step.ensures.taken c.if-makes_no_step.true).number h)

pub returns-then-makes_no_step-clause-left : goal.returns-then-makes_no_step-clause-left
returns-then-makes_no_step-clause-left g c = λ j y from e is. c.requires.left j y (omega (arith, from)) e is

pub returns-then-makes_no_step-clause-here : goal.returns-then-makes_no_step-clause-here
returns-then-makes_no_step-clause-here g c = λ h j y from e. c.requires.here h j y (omega (arith, from)) e

pub returns-then-makes_no_step-clause-ready : goal.returns-then-makes_no_step-clause-ready
returns-then-makes_no_step-clause-ready g c =
    ready_still g.C.Course.most c.args.index c.args.round.now.start.value.items c.args.kernel.now c.requires.ready
