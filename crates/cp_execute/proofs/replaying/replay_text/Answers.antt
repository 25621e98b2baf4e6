use Rattle.std.proofs.Common.{◌≡◌, ◌∙◌, Ok, refl, subst}
use Rattle.std.proofs.lemmas.Result.{err_from_is_err_and}
use Rattle.cp_model.specs.View as view
use Rattle.cp_base_schedule.specs.Rounds.{rounds_of}
use Rattle.cp_program.specs.View as program_view
use Rattle.cp_model_program.specs.IsProgramFor.{IsProgramFor}
use Rattle.cp_execute_start.specs.Starts.{nothing_read, setup_of}
use Rattle.cp_execute.specs.Replayed.{RefusesOrderFor, judge_order, judge_order_of}
use Rattle.cp_execute.proofs.replaying.replay_text.Goals as goal

pub returns-in_err-orders-clause-refused : goal.returns-in_err-orders-clause-refused
returns-in_err-orders-clause-refused c =
    let p = err_from_is_err_and c.from_residual.result c.from_residual.ensures.1 in
    let t = view.tree c.args.tree.now in
    let represents : IsProgramFor (program_view.program c.args.program) (setup_of t nothing_read 1) = c.requires.program (setup_of t nothing_read 1) refl in
    let count = c.processes.ensures ∙ represents.process_rows in
    rw (p.1, p.2) (subst (λ n. RefusesOrderFor n c.args.order.now c.in_err-orders.field-0.0) count c.in_err-orders.ensures.refused)

pub replay_program-requires-clause-within : goal.replay_program-requires-clause-within
replay_program-requires-clause-within c = rw c.processes.ensures at c.in_ok-orders.ensures.within

pub returns-clause-report : goal.returns-clause-report
returns-clause-report c =
    let t = view.tree c.args.tree.now in
    let order = c.args.order.now in
    let rounds = rounds_of c.in_ok-orders.orders in
    let represents : IsProgramFor (program_view.program c.args.program) (setup_of t nothing_read 1) = c.requires.program (setup_of t nothing_read 1) refl in
    let count = c.processes.ensures ∙ represents.process_rows in
    let reported : judge_order t order ≡ Ok rounds = subst (λ n. judge_order_of n order ≡ Ok rounds) count c.in_ok-orders.ensures.order in
    (rounds, reported, c.in_ok-bytes.ensures)
