use Rattle.std.proofs.Common.{◌≡◌, ℕ, ap, sym, ◌∙◌, arith, Some, None, length, List}
use Rattle.std.specs.Prelude.{option_map, slice_get, slice_range}
use Rattle.cp_base_schedule.specs.Events.{events_of}
use Rattle.cp_base_schedule.specs.Parts.{bounds_at}
use Rattle.cp_base_schedule.specs.Rounds.{rounds_of}
use Rattle.cp_base_schedule.specs.declared.event.Event.{Event}
use Rattle.cp_base_schedule.specs.declared.orders.Orders.{Orders}
use Rattle.cp_base_schedule.proofs.Parts.{bounds_within, part_at, part_of_events}
use Rattle.cp_base_schedule.proofs.orders.Orders.round.Goals as goal

no_round : (o : Orders) (index : ℕ) → bounds_at 0 o.ends.items index ≡ None → slice_get (rounds_of o) index ≡ None
no_round o index none =
    part_at 0 o.ends.items (events_of o.events.items) index
    ∙ ap (option_map (λ (b : ℕ × ℕ). slice_range (events_of o.events.items) b.0 b.1)) none

round_between : (o : Orders) (index from end : ℕ) → bounds_at 0 o.ends.items index ≡ Some (from, end)
    → slice_get (rounds_of o) index ≡ Some (events_of (slice_range o.events.items from end))
round_between o index from end found =
    part_at 0 o.ends.items (events_of o.events.items) index
    ∙ (ap (option_map (λ (b : ℕ × ℕ). slice_range (events_of o.events.items) b.0 b.1)) found ∙ ap Some (sym (part_of_events o.events.items from end)))

pub returns-in_err-from : goal.returns-in_err-from
returns-in_err-from c =
    let o = c.args.self.now in
    let none : bounds_at 0 o.ends.items c.args.index ≡ None =
    ap (λ (ends : List ℕ). bounds_at 0 ends c.args.index) (sym c.deref.ensures.value) ∙ sym c.in_err-from.ensures in
    ap (option_map _) c.from_residual.ensures ∙ sym (no_round o c.args.index none)

pub part-requires : goal.part-requires
part-requires c =
    let o = c.args.self.now in
    let found : bounds_at 0 o.ends.items c.args.index ≡ Some (c.in_ok-from.from, c.in_ok-from.end) =
    ap (λ (ends : List ℕ). bounds_at 0 ends c.args.index) (sym c.deref.ensures.value) ∙ sym c.in_ok-from.ensures in
    let b = bounds_within 0 o.ends.items (length o.events.items) c.args.index (c.in_ok-from.from, c.in_ok-from.end) o.whole found in
    let all : length c.deref-2.result.now ≡ length o.events.items = ap length c.deref-2.ensures.value in
    record { order = b.0; within = omega (arith, b.1, all) }

pub returns : goal.returns
returns c =
    let o = c.args.self.now in
    let found : bounds_at 0 o.ends.items c.args.index ≡ Some (c.in_ok-from.from, c.in_ok-from.end) =
    ap (λ (ends : List ℕ). bounds_at 0 ends c.args.index) (sym c.deref.ensures.value) ∙ sym c.in_ok-from.ensures in
    ap (λ (es : List Event). Some (events_of es))
    (c.part.ensures ∙ ap (λ (es : List Event). slice_range es c.in_ok-from.from c.in_ok-from.end) c.deref-2.ensures.value)
    ∙ sym (round_between o c.args.index c.in_ok-from.from c.in_ok-from.end found)
