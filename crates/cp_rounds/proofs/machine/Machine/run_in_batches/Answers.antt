use Rattle.std.proofs.Common.{◌≡◌, ◌+◌, ◌-◌, ℕ, subst, arith}
use Rattle.cp_rounds.specs.Views.{IsAfter}
use Rattle.cp_rounds.proofs.After.{after_more, after_none}
use Rattle.cp_rounds.proofs.machine.Machine.run_in_batches.Goals as goal

pub part-init : goal.part-init
part-init g c = record { bound = omega arith; after = after_none c.args.plan.now.turn.steps c.args.self.now }

pub part-preserved : goal.part-preserved
part-preserved g c =
    let bound = c.part.invariant.bound in
    let count = c.min-count.ensures in
    record {
      bound = omega (arith, bound, count);
      after = after_more c.args.plan.now.turn.steps c.part.done c.min-count.result c.args.self.now c.part.self c.run_batch.new.self
          c.part.invariant.after c.in-Ok.ensures.made;
    }

pub returns-in-Err-clause-partly : goal.returns-in-Err-clause-partly
returns-in-Err-clause-partly g c =
    let t = c.args.plan.now.turn.steps in
    let done = c.part.done in
    let n = c.in-Err.made in
    let first = c.args.self.now in
    let after = c.run_batch.new.self in
    let bound = c.part.invariant.bound in
    let count = c.min-count.ensures in
    let fewer = c.in-Err.ensures.partly.0 in
    let back : done + n ≡ done + n + 1 - 1 = omega arith in (
      omega arith,
      omega (arith, bound, count, fewer),
      subst (λ (m : ℕ). IsAfter t m first after) back (after_more t done n first c.part.self after c.part.invariant.after c.in-Err.ensures.partly.1),
    )

pub returns-clause-made : goal.returns-clause-made
returns-clause-made g c =
    let past = c.part-test.false in
    let bound = c.part.invariant.bound in
    let all : c.part.done ≡ c.args.rounds = omega (arith, past, bound) in
    subst (λ (n : ℕ). IsAfter c.args.plan.now.turn.steps n c.args.self.now c.part.self) all c.part.invariant.after
