use Rattle.std.proofs.Common.{◌≡◌, ◌≤◌, ◌<◌, length, get_or, subst, sym, ◌∙◌, arith}
use Rattle.std.proofs.lemmas.List.{get_or-map, length-map}
use Rattle.cp_model.specs.Rounds as meaning
use Rattle.cp_model_machine.specs.Replays as plain
use Rattle.cp_model_machine.specs.Replays.{process_of}
use Rattle.cp_base_schedule.specs.Events.{event_of, events_of}
use Rattle.cp_base_schedule.specs.declared.event.Event.TheVariants.{P}
use Rattle.cp_rounds.specs.Replayed.{Leads}
use Rattle.cp_rounds.proofs.Replays.{all_lead, none_lead, one_more_leads, process_within}
use Rattle.cp_rounds.proofs.events.make_events.Goals as goal

pub loop-event-init : goal.loop-event-init
loop-event-init c = none_lead c.args.config.now c.args.round_time c.args.privates.now.items c.args.kernel.now

pub make_event-requires : goal.make_event-requires
make_event-requires c =
    let events = c.args.events.now in
    let i = c.loop-event.event-index in
    let n = length c.args.privates.now.items in
    let was = c.loop-event.invariant in
    let all = length-map events event_of in
    let inside : i < length (events_of events) = omega (arith, all, c.loop-event-test.true) in
    let same : get_or (events_of events) i (meaning.PrivateStep 0) ≡ event_of (get_or events i (P 0)) =
    get_or-map event_of events i (P 0) (meaning.PrivateStep 0) c.loop-event-test.true in
    let within = subst (λ (e : meaning.Event). (1 ≤ process_of e) × (process_of e ≤ n)) same
    (process_within n (events_of events) i (meaning.PrivateStep 0) c.requires.within inside) in
    let count = was.count in
    record {
      first = within.0;
      last = omega (arith, within.1, count);
      numbers = was.numbers c.requires.numbers;
      stages = was.stages ∙ (c.requires.stages ∙ sym count);
    }

pub loop-event-preserved : goal.loop-event-preserved
loop-event-preserved c =
    let g = c.args.config.now in
    let w = c.args.round_time in
    let t = c.args.turn.steps in
    let events = c.args.events.now in
    let i = c.loop-event.event-index in
    let ys = c.loop-event.privates.items in
    let zs = c.make_event.new.privates.items in
    let k1 = c.loop-event.kernel in
    let k2 = c.make_event.new.kernel in
    let all = length-map events event_of in
    let inside : i < length (events_of events) = omega (arith, all, c.loop-event-test.true) in
    let same : get_or (events_of events) i (meaning.PrivateStep 0) ≡ event_of (get_or events i (P 0)) =
    get_or-map event_of events i (P 0) (meaning.PrivateStep 0) c.loop-event-test.true in
    one_more_leads g w t (events_of events) i (meaning.PrivateStep 0) c.args.privates.now.items ys zs c.args.kernel.now k1 k2 inside c.loop-event.invariant
    (subst (λ (e : meaning.Event). Leads g w (λ m. plain.event t m e) ys zs k1 k2) (sym same) c.in_ok-make_event.ensures)

pub returns : goal.returns
returns c =
    let events = c.args.events.now in
    let all = length-map events event_of in
    let past : length (events_of events) ≤ c.loop-event.event-index = omega (arith, all, c.loop-event-test.false) in
    all_lead c.args.config.now c.args.round_time c.args.turn.steps (events_of events) c.loop-event.event-index c.args.privates.now.items
    c.loop-event.privates.items c.args.kernel.now c.loop-event.kernel past c.loop-event.invariant
