use Rattle.std.proofs.Common.{◌≡◌, ◌≤◌, ◌-◌, suc, Some, length, slice_get, slice_set, subst, sym, ap, ◌∙◌, arith}
use Rattle.std.proofs.lemmas.Result.{IfOk-weaker}
use Rattle.cp_model_machine.specs.Replays as plain
use Rattle.cp_model_machine.specs.Replays.{process_of}
use Rattle.cp_base_schedule.specs.Events.{event_of}
use Rattle.cp_base_schedule.specs.declared.event.Event.{Event}
use Rattle.cp_private.specs.declared.private.Private.{Private}
use Rattle.cp_rounds_handoff.proofs.Lists.{got_or}
use Rattle.cp_rounds.specs.Replayed.{Leads}
use Rattle.cp_rounds.proofs.Replays.{step_leads, turn_leads}
use Rattle.cp_rounds.proofs.events.make_event.Goals as goal

pub returns-in-P : goal.returns-in-P
returns-in-P c =
    let g = c.args.config.now in
    let w = c.args.round_time in
    let t = c.args.turn.steps in
    let p = c.in-P.p in
    let xs = c.args.privates.now.items in
    let x = c.private_mut.result.now in
    let y = c.make_step.new.private in
    let k = c.args.kernel.now in
    let first : 1 ≤ p = subst (λ (e : Event). 1 ≤ process_of (event_of e)) c.in-P.is c.requires.first in
    let last : p ≤ length xs = subst (λ (e : Event). process_of (event_of e) ≤ length xs) c.in-P.is c.requires.last in
    let here : slice_get xs (p - 1) ≡ Some x = got_or xs (p - 1) c.index_mut.result.now (omega (arith, first, last)) ∙ ap (λ (z : Private). Some z) (sym (c.private_mut.ensures.value ∙ c.index_mut.ensures.value)) in
    IfOk-weaker c.make_step.result _ _
    (λ _ steps.
    subst (λ (e : Event). Leads g w (λ m. plain.event t m (event_of e)) xs (slice_set xs (p - 1) y) k k) (sym c.in-P.is)
    (step_leads g w p xs k x y here steps))
    c.make_step.ensures

pub make_turn-requires : goal.make_turn-requires
make_turn-requires c =
    let p = c.in-K.p in
    let xs = c.args.privates.now.items in
    let x = c.private_mut-in-K.result.now in
    let first : 1 ≤ p = subst (λ (e : Event). 1 ≤ process_of (event_of e)) c.in-K.is c.requires.first in
    let last : p ≤ length xs = subst (λ (e : Event). process_of (event_of e) ≤ length xs) c.in-K.is c.requires.last in
    let here : slice_get xs (p - 1) ≡ Some x = got_or xs (p - 1) c.index_mut-in-K.result.now (omega (arith, first, last)) ∙ ap (λ (z : Private). Some z) (sym (c.private_mut-in-K.ensures.value ∙ c.index_mut-in-K.ensures.value)) in
    let at : suc (p - 1) ≡ p = omega (arith, first) in
    let stages = c.requires.stages in
    record { number = c.requires.numbers (p - 1) x here ∙ at; among = record { first = first; last = omega (arith, last, stages) } }

pub returns-in-K : goal.returns-in-K
returns-in-K c =
    let g = c.args.config.now in
    let w = c.args.round_time in
    let t = c.args.turn.steps in
    let p = c.in-K.p in
    let xs = c.args.privates.now.items in
    let x = c.private_mut-in-K.result.now in
    let y = c.make_turn.new.private in
    let k = c.args.kernel.now in
    let k' = c.make_turn.new.kernel in
    let first : 1 ≤ p = subst (λ (e : Event). 1 ≤ process_of (event_of e)) c.in-K.is c.requires.first in
    let last : p ≤ length xs = subst (λ (e : Event). process_of (event_of e) ≤ length xs) c.in-K.is c.requires.last in
    let here : slice_get xs (p - 1) ≡ Some x = got_or xs (p - 1) c.index_mut-in-K.result.now (omega (arith, first, last)) ∙ ap (λ (z : Private). Some z) (sym (c.private_mut-in-K.ensures.value ∙ c.index_mut-in-K.ensures.value)) in
    IfOk-weaker c.make_turn.result _ _
    (λ _ turned.
    subst (λ (e : Event). Leads g w (λ m. plain.event t m (event_of e)) xs (slice_set xs (p - 1) y) k k') (sym c.in-K.is)
    (turn_leads g w p xs k x y here t k' turned))
    c.make_turn.ensures
