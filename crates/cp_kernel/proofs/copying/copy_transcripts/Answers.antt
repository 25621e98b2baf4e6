use Rattle.std.proofs.Common.{ap, ◌∙◌, map, arith}
use Rattle.cp_kernel.specs.KernelOf.{Bytes}
use Rattle.cp_kernel.proofs.Copies.{all_copied, copied_more}
use Rattle.cp_kernel.proofs.copying.copy_transcripts.Goals as goal

pub loop-transcript-preserved : goal.loop-transcript-preserved
loop-transcript-preserved c =
    ap (map (λ (v : Bytes). v.items)) c.in_ok-push.ensures.items
    ∙ copied_more (λ (v : Bytes). v.items) c.args.transcripts.now c.loop-transcript.all.items c.loop-transcript.transcript-index c.transcript-item.result c.in_ok-bytes.bytes
    c.loop-transcript-test.true c.transcript-item.is (c.in_ok-bytes.ensures.items ∙ c.deref.ensures.value) c.loop-transcript.invariant

pub returns : goal.returns
returns c =
    let past = c.loop-transcript-test.false in
    let bound = c.loop-transcript.auto.transcript-index-end in
    c.loop-transcript.invariant ∙ all_copied (λ (v : Bytes). v.items) c.args.transcripts.now c.loop-transcript.transcript-index (omega (arith, past, bound))
