use Rattle.std.proofs.Common.{List, sym, ◌∙◌, subst, arith}
use Rattle.std.proofs.lemmas.List.{take_more_set}
use Rattle.cp_private.specs.declared.private.Private.{Private}
use Rattle.cp_rounds_handoff.specs.Numbers.{AreNumbered}
use Rattle.cp_rounds.specs.Runs.{TurnsTaken}
use Rattle.cp_rounds.proofs.MoreTurns.{numbers_more, ready_more, taken_more}
use Rattle.cp_model_machine.proofs.AheadTurns.{set_apart}
use Rattle.cp_rounds.proofs.finishing.finish_moving.Goals as goal

pub returns-clause-taken : goal.returns-clause-taken
returns-clause-taken g c = λ rounds k time was.
    let run = c.args.run.now in
    let config = run.turns.config.now in
    let t = run.turns.plan.turn.steps in
    let i = c.args.index in
    let ys = c.args.privates.now.items in
    let xs = c.args.round.now.start.value.items in
    let k2 = c.kernel_turn_of.new.kernel in
    let y = c.bring_back.new.private in
    let z = c.kernel_turn_of.new.private in
    let taken = c.bring_back.ensures.taken in
    let turn = c.kernel_turn_of.ensures.turn in
    subst (λ (l : List Private). TurnsTaken config t rounds xs k l k2) (sym (take_more_set ys i z c.requires.within))
    (taken_more g.C.Course.without_kernel g.C.Course.turned g.C.Course.input g.C.Course.most config t run.turns.course rounds c.args.round.now.round_time xs ys k c.args.kernel.now k2 i y z
    c.requires.within c.requires.count time taken turn was)

pub returns-clause-numbers : goal.returns-clause-numbers
returns-clause-numbers g c = λ h.
    let i = c.args.index in
    let ys = c.args.privates.now.items in
    let z = c.kernel_turn_of.new.private in
    subst (λ (l : List Private). AreNumbered l) (sym (take_more_set ys i z c.requires.within))
    (numbers_more ys i z c.requires.within
    (c.kernel_turn_of.ensures.number ∙ c.bring_back.ensures.taken.number) h)

pub returns-clause-left : goal.returns-clause-left
returns-clause-left g c = λ j y from e is.
    let i = c.args.index in
    let ys = c.args.privates.now.items in
    let z = c.kernel_turn_of.new.private in
    c.requires.left j y (omega (arith, from)) (sym (set_apart ys i j z (λ f. omega (arith, f, from))) ∙ e) is

pub returns-clause-here : goal.returns-clause-here
returns-clause-here g c = λ h j y from e.
    let i = c.args.index in
    let ys = c.args.privates.now.items in
    let z = c.kernel_turn_of.new.private in
    c.requires.here h j y (omega (arith, from)) (sym (set_apart ys i j z (λ f. omega (arith, f, from))) ∙ e)

pub returns-clause-ready : goal.returns-clause-ready
returns-clause-ready g c =
    let within = c.requires.within in
    let count = c.requires.count in
    let number = c.bring_back.ensures.taken.number in
    ready_more g.C.Course.most c.args.index c.args.round.now.start.value.items c.args.kernel.now c.kernel_turn_of.new.kernel c.bring_back.new.private.number _
    (omega (arith, within, count)) number c.kernel_turn_of.ensures.turn.moves c.kernel_turn_of.ensures.asking c.requires.ready
