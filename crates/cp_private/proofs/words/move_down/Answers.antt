use Rattle.std.proofs.Common.{rules, arith, ◌≡◌, ◌+◌, ◌-◌, length, ap, sym, ◌∙◌, to_z, of_z}
use Rattle.std.specs.Prelude.{slice_set}
use Rattle.std.specs.Int.{w32}
use Rattle.std.proofs.lemmas.List.{length-set}
use Rattle.cp_model_program.specs.Starts.{block, paste, word}
use Rattle.cp_private.proofs.Blocks.{copied_all, copied_down}
use Rattle.cp_private.proofs.words.move_down.Goals as goal

pub loop-i-preserved : goal.loop-i-preserved
loop-i-preserved c =
    let ws = c.loop-i.words in
    let i = c.loop-i.i in
    let to = c.args.to in
    let from = c.args.from in
    let whole : to_z w32 (of_z w32 (word ws (from + i))) ≡ word ws (from + i) = search rules in
    record {
      words =
          ap (λ x. let us = slice_set ws (to + i) x in paste (to + (i + 1)) (block us (from + (i + 1)) (c.args.count - (i + 1))) us) whole
          ∙ (copied_down ws to from i c.args.count (omega arith) c.requires.down ∙ c.loop-i.invariant.words);
      length = length-set ws (to + i) _ ∙ c.loop-i.invariant.length;
    }

pub returns : goal.returns
returns c =
    let ended = copied_all c.loop-i.words c.args.to c.args.from c.loop-i.i c.args.count (λ h. omega arith) in
    sym ended ∙ c.loop-i.invariant.words
