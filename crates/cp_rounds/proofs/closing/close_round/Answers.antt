use Rattle.std.proofs.Common.{rules, ◌≡◌, ◌++◌, ℕ, List, length, map, take, drop, sym, ap, ◌∙◌, subst}
use Rattle.std.proofs.Math.Seq.{take-append_seam}
use Rattle.cp_kernel.specs.KernelOf.{Bytes}
use Rattle.cp_private.specs.declared.private.Private.{Private}
use Rattle.cp_rounds.specs.Ends.{RoundEnds}
use Rattle.cp_rounds.proofs.Rooms.{ended_stages, numbers_kept}
use Rattle.cp_rounds.proofs.closing.close_round.Goals as goal

pub returns : goal.returns
returns c =
    let zs = c.args.privates.now.items in
    let n = c.args.privates.now.len in
    let W = c.end_round.new.privates in
    let k = c.args.kernel.now in
    let k3 = c.end_round.new.kernel in
    let ez : c.deref_mut.result.now ≡ zs = search rules in
    let nw : n ≡ length W = search rules in
    let ew : take n (W ++ drop (length W) zs) ≡ W = ap (λ (m : ℕ). take m (W ++ drop (length W) zs)) nw ∙ take-append_seam W (drop (length W) zs) in
    let lw : length W ≡ length zs = search rules in
    let parts = rw ez at c.end_round.ensures.parts in
    let numbers = rw ez at c.end_round.ensures.numbers in
    let outputs = rw ez at c.end_round.ensures.outputs in
    let kernel = c.end_round.ensures.kernel in
    subst (λ (ws : List Private). RoundEnds c.args.config.now zs k ws k3) (sym ew)
    (record {
      kernel = kernel;
      transcripts = ap (λ v. map (λ (w : Bytes). w.items) v.items) c.end_round.ensures.transcripts;
      parts = parts;
      numbers = numbers_kept zs W numbers;
      count = lw;
      stages = ended_stages k k3 kernel;
      room = record { outputs = outputs; gates = c.end_round.ensures.gates; transcripts = c.end_round.ensures.transcripts };
    })
