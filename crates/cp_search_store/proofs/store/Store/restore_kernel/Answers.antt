use Rattle.std.proofs.Common.{List, ℕ, Some, rules, length, slice_get, subst, sym, ap, ◌≡◌, ◌<◌, ◌∙◌}
use Rattle.std.specs.Prelude.{slice_index_or}
use Rattle.std.proofs.lemmas.Option.{get_or_from_slice_get, slice_get-get_or}
use Rattle.std.proofs.lemmas.Result.{IfOk-weaker}
use Rattle.cp_search_store.specs.Stored.{kernel_at}
use Rattle.cp_search_store.proofs.store.Store.restore_kernel.Goals as goal

pub returns-in-Some : goal.returns-in-Some
returns-in-Some c =
    let s = c.args.self.now in
    let ns = c.deref.result.now in
    let i = c.args.index in
    let n = c.in-Some.number.now in
    let there = c.in-Some.ensures.lookup in
    let below : i < length ns = search rules in
    let got : slice_get ns i ≡ Some n = slice_get-get_or ns i n below ∙ ap (λ (m : ℕ). Some m) (sym there.1) in
    let is : slice_index_or s.kernel_numbers.items i 0 ≡ n = ap (λ (l : List ℕ). slice_index_or l i 0) (sym c.deref.ensures.value) ∙ get_or_from_slice_get ns i n 0 got in
    IfOk-weaker c.restore.result _ _ (λ done at e. sym (at e).same ∙ ap (kernel_at s.kernels.kernels.items) (sym is)) c.restore.ensures
