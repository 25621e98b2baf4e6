use Rattle.std.proofs.Common.{◌≡◌, ◌+◌, ◌-◌, ◌++◌, ap, ◌∙◌, arith}
use Rattle.std.specs.Prelude.{slice_set}
use Rattle.std.specs.Int.{w32}
use Rattle.std.proofs.lemmas.Int.{to_z-of_z}
use Rattle.cp_model_program.specs.Starts.{block, paste, word}
use Rattle.cp_private.proofs.Blocks.{copied_up}
use Rattle.cp_private.proofs.words.copy_up.Goals as goal

pub loop-i-preserved : goal.loop-i-preserved
loop-i-preserved c =
    let ws = c.loop-i.own ++ c.loop-i.shared in
    let i = c.loop-i.i - 1 in
    let from = c.args.from in
    let whole = to_z-of_z w32 c.read-n.result (record { sfits = c.read-n.type_inv }) in
    let written : c.write.new.own ++ c.write.new.shared ≡ slice_set ws (c.args.to + i) (word ws (from + i)) =
    c.write.ensures.word ∙ ap (slice_set ws (c.args.to + i)) (whole ∙ c.read-n.ensures.word) in
    let more : i + 1 ≡ c.loop-i.i = omega arith in
    record {
      words =
          ap (λ us. paste c.args.to (block us from i) us) written
          ∙ (copied_up ws c.args.to from i c.requires.up
          ∙ (ap (λ n. paste c.args.to (block ws from n) ws) more
          ∙ c.loop-i.invariant.words));
      own = c.write.ensures.own ∙ c.loop-i.invariant.own;
      shared = c.write.ensures.shared ∙ c.loop-i.invariant.shared;
    }
