use Rattle.std.proofs.Common.{◌+◌, ◌-◌, ◌≤◌, ◌++◌, length, ap, sym, ◌∙◌, arith}
use Rattle.std.proofs.lemmas.List.{length-append}
use Rattle.cp_model_program.specs.Starts.{repeat_block}
use Rattle.cp_private.proofs.Blocks.{repeated_beyond, repeated_more, repeated_nothing}
use Rattle.cp_private.proofs.words.repeat.Goals as goal

pub loop-i-preserved : goal.loop-i-preserved
loop-i-preserved c =
    let from = c.loop-i.from in
    let size = c.args.size in
    record {
      small = omega (arith, c.loop-i.invariant.small);
      words =
          ap (repeat_block (from + size) size (c.args.count - (c.loop-i._i + 1))) c.copy.ensures.words
          ∙ (repeated_more (c.loop-i.own ++ c.loop-i.shared) from size c.loop-i._i c.args.count (omega arith)
          ∙ c.loop-i.invariant.words);
      own = c.copy.ensures.own ∙ c.loop-i.invariant.own;
      shared = c.copy.ensures.shared ∙ c.loop-i.invariant.shared;
    }

pub returns-then-size-eq0-clause-words : goal.returns-then-size-eq0-clause-words
returns-then-size-eq0-clause-words c = sym (repeated_nothing c.args.count c.args.at c.args.size (c.args.own.now ++ c.args.shared.now) (omega arith))

pub returns-then-all-from-clause-words : goal.returns-then-all-from-clause-words
returns-then-all-from-clause-words c =
    let ws = c.loop-i.own ++ c.loop-i.shared in
    let beyond : length ws ≤ c.loop-i.from + c.args.size = omega (arith, length-append c.loop-i.own c.loop-i.shared) in
    sym (repeated_beyond (c.args.count - c.loop-i._i) c.loop-i.from c.args.size ws beyond) ∙ c.loop-i.invariant.words
