use Rattle.std.proofs.Common.{rules, ◌≡◌, ◌<◌, ◌+◌, ◌-◌, ℕ, Bool, false, true, arith, subst}
use Rattle.cp_rounds_still.specs.Stillness.{Advances, ReportsStill}
use Rattle.cp_rounds.specs.Views.{IsAfter}
use Rattle.cp_rounds.proofs.After.{after_more}
use Rattle.cp_rounds.proofs.InStates.{makes_rounds}
use Rattle.cp_rounds_still.proofs.StillStates.{none_in_advance}
use Rattle.cp_rounds_still.proofs.until_still.run_until_still.Goals as goal

pub rounds-preserved-in-Ok-true : goal.rounds-preserved-in-Ok-true
rounds-preserved-in-Ok-true g c =
    let t = c.args.plan.now.turn.steps in
    let done = c.rounds.done in
    let n = c.min-count.result in
    let old = c.args.machine.now in
    let mid = c.rounds.machine in
    let new = c.advance.new.machine in
    let bound = c.rounds.invariant.bound in
    let below = c.rounds-test.true in
    let count = c.min-count.ensures in
    let gallop = c.rounds.gallop.some in
    let some : 0 < n = omega (arith, below, count, gallop) in
    let tested : c.is_still.result ≡ false = search rules in
    let still : ReportsStill mid false = subst (λ (b : Bool). ReportsStill mid b) tested c.is_still.ensures in
    let made : Advances t n true mid new = subst (λ (b : Bool). Advances t n b mid new) c.in-Ok-true.field-0-test c.in-Ok-true.ensures.made in
    record {
      bound = omega (arith, bound, below, count);
      after = after_more t done n old mid new c.rounds.invariant.after made.0;
      first = none_in_advance c.rounds-2.ensures.run c.lasting.ensures.more t done n old mid new some c.rounds.invariant.after still made;
    }

pub returns-in-Err-clause-partly : goal.returns-in-Err-clause-partly
returns-in-Err-clause-partly g c =
    let t = c.args.plan.now.turn.steps in
    let done = c.rounds.done in
    let round = c.in-Err.field-0.0 in
    let old = c.args.machine.now in
    let new = c.advance.new.machine in
    let reported = c.in-Err.ensures.partly in
    let first = reported.0 in
    let last = reported.1 in
    let bound = c.rounds.invariant.bound in
    let below = c.rounds-test.true in
    let count = c.min-count.ensures in
    let back : done + (round - 1) ≡ done + round - 1 = omega (arith, first) in (
      omega (arith, first),
      omega (arith, last, bound, below, count),
      subst (λ (n : ℕ). IsAfter t n old new) back (after_more t done (round - 1) old c.rounds.machine new c.rounds.invariant.after reported.2),
    )

pub returns-else-not-is_still-clause-state : goal.returns-else-not-is_still-clause-state
returns-else-not-is_still-clause-state g c =
    makes_rounds c.args.plan.now.turn.steps c.rounds.done c.args.machine.now c.rounds.machine c.rounds-2.ensures.run c.rounds.invariant.after.made

pub returns-after-rounds-clause-state : goal.returns-after-rounds-clause-state
returns-after-rounds-clause-state g c =
    makes_rounds c.args.plan.now.turn.steps c.rounds.done c.args.machine.now c.rounds.machine c.rounds-2.ensures.run c.rounds.invariant.after.made
