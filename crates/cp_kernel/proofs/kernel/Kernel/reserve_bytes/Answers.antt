use Rattle.std.proofs.Common.{rules, slice_set, ◌≡◌, ◌≢◌, ◌≤◌, ◌+◌, ◌-◌, slice_get, vec_capacity, vec_len, ap, subst, sym, ◌∙◌}
use Rattle.std.specs.Prelude.{slice_index_or}
use Rattle.cp_kernel.specs.KernelOf.{Bytes}
use Rattle.cp_kernel.proofs.Changed.{same_at}
use Rattle.cp_kernel.proofs.Transcripts.{got_other, got_same}
use Rattle.cp_kernel.proofs.kernel.Kernel.reserve_bytes.Goals as goal

pub returns-in_err-reserve-clause-transcripts : goal.returns-in_err-reserve-clause-transcripts
returns-in_err-reserve-clause-transcripts c =
    let vs = c.args.self.now.transcripts.items in
    let i = c.saturating_sub.result in
    let v = c.in-Some.transcript.now in
    let is : v ≡ slice_index_or vs i v = search rules in
    same_at (λ (w : Bytes). w.items) vs i v c.reserve.new.self (c.reserve.ensures.items ∙ ap (λ (w : Bytes). w.items) is)

pub returns-in_err-reserve-clause-others : goal.returns-in_err-reserve-clause-others
returns-in_err-reserve-clause-others c =
    λ q n apart had v there.
    let other : q - 1 ≢ c.saturating_sub.result = λ e. apart (e ∙ c.saturating_sub.ensures) in
    had v (sym (got_other c.args.self.now.transcripts.items c.saturating_sub.result (q - 1) c.reserve.new.self other) ∙ there)

pub returns-clause-transcripts : goal.returns-clause-transcripts
returns-clause-transcripts c =
    let vs = c.args.self.now.transcripts.items in
    let i = c.saturating_sub.result in
    let v = c.in-Some.transcript.now in
    let is : v ≡ slice_index_or vs i v = search rules in
    same_at (λ (w : Bytes). w.items) vs i v c.reserve.new.self (c.reserve.ensures.items ∙ ap (λ (w : Bytes). w.items) is)

pub returns-clause-room : goal.returns-clause-room
returns-clause-room c =
    λ v there.
    let vs = c.args.self.now.transcripts.items in
    let room : vec_len c.reserve.new.self + c.args.count ≤ vec_capacity c.reserve.new.self = search rules in
    let here = ap (λ i. slice_get (slice_set vs c.saturating_sub.result c.reserve.new.self) i) c.saturating_sub.ensures ∙ there in
    subst (λ (w : Bytes). vec_len w + c.args.count ≤ vec_capacity w) (got_same vs c.saturating_sub.result c.reserve.new.self v here) room

pub returns-clause-others : goal.returns-clause-others
returns-clause-others c =
    λ q n apart had v there.
    let other : q - 1 ≢ c.saturating_sub.result = λ e. apart (e ∙ c.saturating_sub.ensures) in
    had v (sym (got_other c.args.self.now.transcripts.items c.saturating_sub.result (q - 1) c.reserve.new.self other) ∙ there)
