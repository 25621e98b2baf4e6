use Rattle.std.proofs.Common.{◌<◌, ap, sym, ◌∙◌, arith, length}
use Rattle.std.proofs.lemmas.List.{map_push}
use Rattle.cp_model.specs.OrderText.{events_named, split_at_byte}
use Rattle.cp_base_schedule.specs.Events.{event_of, events_of}
use Rattle.cp_base_schedule.specs.Reading.{appended}
use Rattle.cp_base_schedule.proofs.Lines.{word_ends}
use Rattle.cp_base_schedule.proofs.reading.read_words.Goals as goal

pub loop-event-preserved : goal.loop-event-preserved
loop-event-preserved c =
    let rest = c.loop-event.rest.now in
    let end = c.length_before-end.result in
    let within = c.length_before-end.ensures.within in
    let apart = c.if-end-rest.false in
    let inside : end < length rest = omega arith in
    let before = events_of c.loop-event.events.items in
    let all = ap events_of c.in_ok-push.ensures.items ∙ map_push event_of c.loop-event.events.items c.in-Some.event in
    (λ i. appended (all i) (events_named c.args.processes (split_at_byte 32 (c.after-rest.ensures i))))
    ∙ (word_ends c.args.processes rest end c.length_before-end.ensures.pieces (event_of c.in-Some.event) before (sym c.in-Some.ensures) inside
    ∙ c.loop-event.invariant)
