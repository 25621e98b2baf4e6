use Rattle.std.proofs.Common.{◌+◌, ◌-◌, ◌<◌, ◌++◌, length, ap, sym, ◌∙◌, arith}
use Rattle.std.specs.Prelude.{min}
use Rattle.std.specs.Int.{w32}
use Rattle.std.proofs.lemmas.Int.{to_z-of_z}
use Rattle.std.proofs.lemmas.List.{length-append}
use Rattle.cp_model_program.specs.Starts.{fill}
use Rattle.cp_private.proofs.Blocks.{fill_ends, fill_more}
use Rattle.cp_private.proofs.words.fill.Goals as goal

pub loop-i-preserved : goal.loop-i-preserved
loop-i-preserved c =
    record {
      words =
          ap (fill (c.args.at + (c.loop-i.i + 1)) (c.args.count - (c.loop-i.i + 1)) _) c.write.ensures.word
          ∙ (fill_more (c.loop-i.own ++ c.loop-i.shared) c.args.at c.loop-i.i c.args.count _ (omega arith)
          ∙ c.loop-i.invariant.words);
      own = c.write.ensures.own ∙ c.loop-i.invariant.own;
      shared = c.write.ensures.shared ∙ c.loop-i.invariant.shared;
    }

pub returns-clause-words : goal.returns-clause-words
returns-clause-words c =
    let ws = c.loop-i.own ++ c.loop-i.shared in
    let ended : c.loop-i.i < min c.args.count (length ws - c.args.at) → ⊥ = λ h. omega (arith, length-append c.loop-i.own c.loop-i.shared) in
    sym (fill_ends ws c.args.at c.loop-i.i c.args.count _ ended) ∙ (c.loop-i.invariant.words
    ∙ ap (λ n. fill c.args.at c.args.count n (c.args.own.now ++ c.args.shared.now)) (to_z-of_z w32 c.args.n c.ranges.n))
