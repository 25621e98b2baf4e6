use Rattle.std.proofs.Common.{rules, ◌≡◌, ℕ, length, subst}
use Rattle.std.specs.Prelude.{IfOk}
use Rattle.cp_rounds.specs.Runs.{PartsAfter}
use Rattle.cp_rounds.proofs.run.with_cells.Goals as goal

pub returns-clause-made : goal.returns-clause-made
returns-clause-made g c =
    let parts = c.args.parts in
    let after = c.with_worker_pool.result in
    let all : length c.deref.result.now ≡ c.args.count = search rules in
    subst (λ (n : ℕ). IfOk after.1 (λ x. PartsAfter c.args.rounds.now.config.now c.args.rounds.now.plan.now.turn.steps c.args.rounds.now.done n parts after.0)) all
    c.with_worker_pool.ensures.made
