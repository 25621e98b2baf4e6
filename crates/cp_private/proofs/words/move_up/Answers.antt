use Rattle.std.proofs.Common.{rules, arith, ◌≡◌, ◌+◌, ◌-◌, length, ap, sym, ◌∙◌, to_z, of_z}
use Rattle.std.specs.Prelude.{slice_set}
use Rattle.std.specs.Int.{w32}
use Rattle.std.proofs.lemmas.List.{length-set}
use Rattle.cp_model_program.specs.Starts.{block, paste, word}
use Rattle.cp_private.proofs.Blocks.{copied_up}
use Rattle.cp_private.proofs.words.move_up.Goals as goal

pub loop-i-preserved : goal.loop-i-preserved
loop-i-preserved c =
    let ws = c.loop-i.words in
    let i = c.loop-i.i - 1 in
    let to = c.args.to in
    let from = c.args.from in
    let whole : to_z w32 (of_z w32 (word ws (from + i))) ≡ word ws (from + i) = search rules in
    let more : i + 1 ≡ c.loop-i.i = omega arith in
    record {
      words =
          ap (λ x. let us = slice_set ws (to + i) x in paste to (block us from i) us) whole
          ∙ (copied_up ws to from i c.requires.up
          ∙ (ap (λ n. paste to (block ws from n) ws) more ∙ c.loop-i.invariant.words));
      length = length-set ws (to + i) _ ∙ c.loop-i.invariant.length;
    }
