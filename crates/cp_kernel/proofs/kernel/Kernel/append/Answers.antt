use Rattle.std.proofs.Common.{rules, ◌≡◌, ◌≢◌, ◌<◌, ◌-◌, ◌++◌, Some, slice_get, slice_set, map, length, ap, sym, ◌∙◌}
use Rattle.std.specs.Prelude.{slice_index_or}
use Rattle.std.proofs.lemmas.Option.{slice_get-get_or}
use Rattle.cp_kernel.specs.KernelOf.{Bytes}
use Rattle.cp_kernel.proofs.Transcripts.{got_other, grown}
use Rattle.cp_kernel.proofs.kernel.Kernel.append.Goals as goal

pub returns-clause-moves : goal.returns-clause-moves
returns-clause-moves c =
    let vs = c.args.self.now.transcripts.items in
    let i = c.saturating_sub.result in
    let v = c.in-Some.transcript.now in
    let w = c.extend_from_slice-added.new.self in
    let at = c.saturating_sub.ensures in
    let below : i < length vs = search rules in
    let is : v ≡ slice_index_or vs i v = search rules in
    let there : slice_get vs (c.args.p - 1) ≡ Some v =
    ap (slice_get vs) (sym at) ∙ (slice_get-get_or vs i v below ∙ ap (λ (u : Bytes). Some u) (sym is)) in
    let longer : w.items ≡ v.items ++ c.args.bytes.now = search rules in
    record {
      transcripts = ap (λ j. map (λ (u : Bytes). u.items) (slice_set vs j w)) at ∙ grown vs c.args.p v w c.args.bytes.now there longer;
      others = λ q n apart had u got.
          let other : q - 1 ≢ i = λ e. apart (e ∙ at) in
          had u (sym (got_other vs i (q - 1) w other) ∙ got);
    }
