use Rattle.std.proofs.Common.{◌≡◌, ◌+◌, ◌∷◌, List, ℕ, drop, slice_index_or, subst, sym}
use Rattle.std.proofs.lemmas.List.{at_drop_more, drop_all}
use Rattle.cp_outcome.proofs.Sections.{LeadsTo, all_made, none_yet, one_more}
use Rattle.cp_outcome.proofs.several.sections.Goals as goal

pub loop-process-init : goal.loop-process-init
loop-process-init c =
    let all = c.args.processes.now in
    let m = c.args.machine.now in
    subst (λ (bs : List ℕ). LeadsTo all m all bs) (sym c.new-bytes.ensures.items) (none_yet all m)

pub loop-process-preserved : goal.loop-process-preserved
loop-process-preserved c =
    let all = c.args.processes.now in
    let m = c.args.machine.now in
    let k = c.loop-process.process-index in
    let p = slice_index_or all k 0 in
    let bytes = c.loop-process.bytes.items in
    let made = c.in_ok-made.made.items in
    let step : drop k all ≡ p ∷ drop (k + 1) all = at_drop_more (λ (ps : List ℕ). ps) all k 0 c.loop-process-test.true in
    let before = subst (λ (ps : List ℕ). LeadsTo all m ps bytes) step c.loop-process.invariant in
    let more = rw c.deref.ensures.value at c.in_ok-extend_from_slice.ensures.items in
    subst (λ (bs : List ℕ). LeadsTo all m (drop (k + 1) all) bs) (sym more) (one_more all m p (drop (k + 1) all) bytes made before c.in_ok-made.ensures)

pub returns : goal.returns
returns c =
    let all = c.args.processes.now in
    let m = c.args.machine.now in
    let bytes = c.loop-process.bytes.items in
    all_made all m bytes
    (subst (λ (ps : List ℕ). LeadsTo all m ps bytes) (drop_all c.loop-process.process-index all c.loop-process-test.false) c.loop-process.invariant)
