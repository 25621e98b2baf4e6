use Rattle.std.proofs.Common.{ℕ, List, length, subst, sym, ◌∙◌}
use Rattle.std.specs.List.{fold}
use Rattle.cp_model_machine.specs.Machines.{wake}
use Rattle.cp_model_machine.specs.Replays.{AreWithin, event}
use Rattle.cp_base_schedule.specs.Events.{events_of}
use Rattle.cp_private.specs.declared.private.Private.{Private}
use Rattle.cp_rounds.specs.Replayed.{AreWoken}
use Rattle.cp_rounds.proofs.Replays.{leads_then, replay_ends, start_leads}
use Rattle.cp_rounds.proofs.replay.replayed.Goals as goal

pub make_events-requires : goal.make_events-requires
make_events-requires c =
    let w = c.round_time-round_time.result in
    let parts = c.args.parts.now in
    let xs = parts.privates.items in
    let ys = c.in_ok-privates.privates.items in
    let woken : AreWoken w.wakes xs ys = subst (λ (l : List Private). AreWoken w.wakes l ys) c.deref.ensures.value c.in_ok-privates.ensures in
    let start = start_leads c.args.config.now w xs ys parts.kernel c.in_ok-kernel.kernel woken c.in_ok-kernel.ensures.same c.in_ok-kernel.ensures.transcripts in
    record {
      within = subst (λ (n : ℕ). AreWithin n (events_of c.args.events.now)) (sym start.count) c.requires.within;
      numbers = start.numbers parts.numbers;
      stages = start.stages ∙ (parts.count ∙ sym start.count);
    }

pub returns-clause-made : goal.returns-clause-made
returns-clause-made c =
    let g = c.args.config.now in
    let w = c.round_time-round_time.result in
    let t = c.args.turn.steps in
    let events = events_of c.args.events.now in
    let parts = c.args.parts.now in
    let xs = parts.privates.items in
    let ys = c.in_ok-privates.privates.items in
    let zs = c.make_events.new.privates.items in
    let k' = c.in_ok-kernel.kernel in
    let k1 = c.make_events.new.kernel in
    let woken : AreWoken w.wakes xs ys = subst (λ (l : List Private). AreWoken w.wakes l ys) c.deref.ensures.value c.in_ok-privates.ensures in
    let start = start_leads g w xs ys parts.kernel k' woken c.in_ok-kernel.ensures.same c.in_ok-kernel.ensures.transcripts in
    let led = leads_then g w wake (λ m. fold (event t) m events) xs ys zs parts.kernel k' k1 start c.in_ok-make_events.ensures in
    replay_ends g w c.args.rounds (λ m. fold (event t) (wake m) events) xs zs c.close_round.new.privates.items parts.kernel k1 c.close_round.new.kernel
    c.round_time-round_time.ensures led c.close_round.ensures

pub returns-clause-count : goal.returns-clause-count
returns-clause-count c =
    let copied = c.in_ok-privates.ensures.count ∙ (λ i. length (c.deref.ensures.value i)) in
    c.close_round.ensures.count ∙ (c.in_ok-make_events.ensures.count ∙ copied)

pub invariant_of-result : goal.invariant_of-result
invariant_of-result c =
    let w = c.round_time-round_time.result in
    let parts = c.args.parts.now in
    let xs = parts.privates.items in
    let ys = c.in_ok-privates.privates.items in
    let woken : AreWoken w.wakes xs ys = subst (λ (l : List Private). AreWoken w.wakes l ys) c.deref.ensures.value c.in_ok-privates.ensures in
    let start = start_leads c.args.config.now w xs ys parts.kernel c.in_ok-kernel.kernel woken c.in_ok-kernel.ensures.same c.in_ok-kernel.ensures.transcripts in
    let led = c.in_ok-make_events.ensures in
    let ends = c.close_round.ensures in
    record {
      numbers = ends.numbers (led.numbers (start.numbers parts.numbers));
      count = ends.stages ∙ (led.stages ∙ (start.stages ∙ (parts.count ∙ sym (ends.count ∙ (led.count ∙ start.count)))));
    }
