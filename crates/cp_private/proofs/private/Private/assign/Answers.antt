use Rattle.std.proofs.Common.{ap, length, ◌∙◌}
use Rattle.smallvec.proofs.SmallVecLemmas.{items-with_items}
use Rattle.cp_private.specs.States.{activity, frames_in}
use Rattle.cp_private.proofs.Assigned.{none_written}
use Rattle.cp_private.proofs.private.Private.assign.Goals as goal

pub returns : goal.returns
returns c = λ e input.
    let x = c.args.self.now in
    let y = c.args.other.now in
    let room = c.has_same_room.ensures c.if-not-has_same_room.false in
    let words = c.copy_from_slice.ensures.items ∙ c.deref.ensures.value in
    let temps = c.copy_from_slice-2.ensures.items ∙ c.deref-2.ensures.value in
    let own = c.assign_frames.new.frames in
    let count = c.assign_frames.ensures.count ∙ ap length c.deref_mut.ensures.value in
    let kept = items-with_items x.frames own count in
    let frames = ap (frames_in y.depth) kept ∙ (c.assign_frames.ensures.same ∙ ap (frames_in y.depth) c.deref-3.ensures) in
    let limit = ap length kept ∙ (count ∙ room.limit) in
    let output = c.clear.ensures.items ∙ none_written y.output.items room.silent in
    λ i. record {
      number = room.number i;
      activity = activity y.activity;
      counter = y.counter;
      base = y.memory.base;
      temp = y.memory.temp;
      component = y.memory.component;
      gate = y.gate;
      words = words i;
      temps = temps i;
      frames = frames i;
      limit = limit i;
      output = output i;
      input = input;
      consumed = y.consumed;
    }
