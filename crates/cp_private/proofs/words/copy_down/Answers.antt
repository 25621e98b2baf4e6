use Rattle.std.proofs.Common.{◌≡◌, ◌+◌, ◌-◌, ◌++◌, ap, ◌∙◌, arith}
use Rattle.std.specs.Prelude.{slice_set}
use Rattle.std.specs.Int.{w32}
use Rattle.std.proofs.lemmas.Int.{to_z-of_z}
use Rattle.cp_model_program.specs.Starts.{block, paste, word}
use Rattle.cp_program.specs.Reaches.{cap_place}
use Rattle.cp_private.proofs.Blocks.{copied_down}
use Rattle.cp_private.proofs.words.copy_down.Goals as goal

pub loop-i-preserved : goal.loop-i-preserved
loop-i-preserved c =
    let ws = c.loop-i.own ++ c.loop-i.shared in
    let i = c.loop-i.i in
    let from = c.args.from in
    let read_there : cap_place (from + i) ≡ c.saturating_add.result = omega (arith, c.saturating_add.ensures) in
    let whole = to_z-of_z w32 c.read-n.result (record { sfits = c.read-n.type_inv }) in
    let written : c.write.new.own ++ c.write.new.shared ≡ slice_set ws (c.args.to + i) (word ws (from + i)) =
    c.write.ensures.word ∙ ap (slice_set ws (c.args.to + i)) (whole ∙ c.read-n.ensures.capped (from + i) read_there) in
    record {
      words =
          ap (λ us. paste (c.args.to + (i + 1)) (block us (from + (i + 1)) (c.args.count - (i + 1))) us) written
          ∙ (copied_down ws c.args.to from i c.args.count (omega arith) c.requires.down
          ∙ c.loop-i.invariant.words);
      own = c.write.ensures.own ∙ c.loop-i.invariant.own;
      shared = c.write.ensures.shared ∙ c.loop-i.invariant.shared;
    }
