use Rattle.std.proofs.Common.{rules, arith, ◌≡◌, ◌+◌, ◌-◌, ◌<◌, length, to_z, of_z, ap, sym, ◌∙◌}
use Rattle.std.specs.Prelude.{min, slice_set}
use Rattle.std.specs.Int.{w32}
use Rattle.cp_model_program.specs.Starts.{block, paste}
use Rattle.cp_private.proofs.Blocks.{brought_all, brought_more}
use Rattle.cp_private.proofs.words.bring.Goals as goal

pub loop-i-preserved : goal.loop-i-preserved
loop-i-preserved c =
    let ws = c.loop-i.words in
    let source = c.args.source.now in
    let i = c.loop-i.i in
    let to = c.args.to in
    let from = c.args.from in
    let whole : to_z w32 (of_z w32 c.word.result) ≡ c.word.result = search rules in
    let read = whole ∙ c.word.ensures in
    ap (λ n. paste (to + (i + 1)) (block source (from + (i + 1)) (c.args.count - (i + 1))) (slice_set ws (to + i) n)) read
    ∙ (brought_more source ws to from i c.args.count (omega arith)
    ∙ c.loop-i.invariant)

pub returns : goal.returns
returns c =
    let ended : c.loop-i.i < min c.args.count (length c.loop-i.words - c.args.to) → ⊥ = λ h. omega arith in
    sym (brought_all c.args.source.now c.loop-i.words c.args.to c.args.from c.loop-i.i c.args.count ended) ∙ c.loop-i.invariant
