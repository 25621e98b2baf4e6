use Rattle.std.proofs.Common.{rules, ◌≡◌, ◌+◌, Ok, to_z, of_z, ap, sym, ◌∙◌}
use Rattle.std.specs.Int.{w32}
use Rattle.cp_model_program.specs.Terms as terms
use Rattle.cp_model_machine.specs.PrivateStates.{NoEffect, view_of}
use Rattle.cp_model_machine.specs.Steps.{act, set_within, with_place, with_value}
use Rattle.cp_model_machine.specs.Values.{place_of, value_of}
use Rattle.cp_program.specs.View as view
use Rattle.cp_private.specs.States.{join}
use Rattle.cp_private.proofs.private.Private.use_fast.Goals as goal

pub returns-in-SetLocal-clause-step : goal.returns-in-SetLocal-clause-step
returns-in-SetLocal-clause-step g c =
    λ yes value program known w input.
    let o = join c.args.self.now input c.args.shared.now in
    let n = c.args.n in
    let to = c.in-SetLocal.assignment in
    let place = c.args.self.now.memory.base + c.in-SetLocal.at in
    let valued : value_of (view_of w o) value ≡ Ok n = known w.clock in
    let whole : to_z w32 (of_z w32 n) ≡ n = search rules in
    let there : c.local-at.result ≡ place = c.local-at.ensures.place in
    rw valued
    (c.write_within.ensures.step yes w input
    ∙ (ap (λ k. set_within o to.bounds.low to.bounds.high c.local-at.result k to.next) whole
    ∙ ap (λ at. set_within o to.bounds.low to.bounds.high at n to.next) there))
    ∙ sym (ap (λ x. act program w o (view.evaluation value x)) c.in-SetLocal.is)

pub returns-in-SetMember-clause-step : goal.returns-in-SetMember-clause-step
returns-in-SetMember-clause-step g c =
    λ yes value program known w input.
    let o = join c.args.self.now input c.args.shared.now in
    let n = c.args.n in
    let to = c.in-SetMember.assignment in
    let place = c.args.self.now.memory.component + c.in-SetMember.at in
    let valued : value_of (view_of w o) value ≡ Ok n = known w.clock in
    let whole : to_z w32 (of_z w32 n) ≡ n = search rules in
    let there : c.member-at.result ≡ place = c.member-at.ensures.place in
    rw valued
    (c.write_within-in-SetMember.ensures.step yes w input
    ∙ (ap (λ k. set_within o to.bounds.low to.bounds.high c.member-at.result k to.next) whole
    ∙ ap (λ at. set_within o to.bounds.low to.bounds.high at n to.next) there))
    ∙ sym (ap (λ x. act program w o (view.evaluation value x)) c.in-SetMember.is)

pub returns-in-Some-clause-step : goal.returns-in-Some-clause-step
returns-in-Some-clause-step g c =
    λ yes value program known w input.
    let o = join c.args.self.now input c.args.shared.now in
    let n = c.args.n in
    let at = c.in-Some.at in
    let to = c.in-SetElement.assignment in
    let placed : place_of (view_of w o) (view.element c.in-SetElement.to) ≡ Ok at = c.in-Some.ensures w.clock in
    let valued : value_of (view_of w o) value ≡ Ok n = known w.clock in
    let whole : to_z w32 (of_z w32 n) ≡ n = search rules in
    rw (placed, valued)
    (c.write_within-in-SetElement.ensures.step yes w input ∙ ap (λ k. set_within o to.bounds.low to.bounds.high at k to.next) whole)
    ∙ sym (ap (λ x. act program w o (view.evaluation value x)) c.in-SetElement.is)

pub returns-in-Some-fast_place-clause-step : goal.returns-in-Some-fast_place-clause-step
returns-in-Some-fast_place-clause-step g c =
    λ yes value program known w input.
    let o = join c.args.self.now input c.args.shared.now in
    let n = c.args.n in
    let at = c.in-Some-fast_place.at in
    let to = c.in-Set.assignment in
    let placed : place_of (view_of w o) (view.place_expression c.in-Set.to) ≡ Ok at = c.in-Some-fast_place.ensures w.clock in
    let valued : value_of (view_of w o) value ≡ Ok n = known w.clock in
    let whole : to_z w32 (of_z w32 n) ≡ n = search rules in
    rw (placed, valued)
    (c.write_within-in-Set.ensures.step yes w input ∙ ap (λ k. set_within o to.bounds.low to.bounds.high at k to.next) whole)
    ∙ sym (ap (λ x. act program w o (view.evaluation value x)) c.in-Set.is)

pub returns-in-SetResult-clause-step : goal.returns-in-SetResult-clause-step
returns-in-SetResult-clause-step g c =
    λ yes value program known w input.
    let o = join c.args.self.now input c.args.shared.now in
    let n = c.args.n in
    let base = c.args.self.now.memory.base in
    let to = c.in-SetResult.assignment in
    let valued : value_of (view_of w o) value ≡ Ok n = known w.clock in
    let whole : to_z w32 (of_z w32 n) ≡ n = search rules in
    rw valued
    (c.write_within-in-SetResult.ensures.step yes w input ∙ ap (λ k. set_within o to.bounds.low to.bounds.high base k to.next) whole)
    ∙ sym (ap (λ x. act program w o (view.evaluation value x)) c.in-SetResult.is)
