use Rattle.std.proofs.Common.{List, ℕ, Some, length, slice_get, subst, sym, ap, ◌≡◌, ◌∙◌, arith}
use Rattle.std.proofs.lemmas.Option.{slice_get-get_or}
use Rattle.cp_private.specs.declared.private.Private.{Private}
use Rattle.cp_search_states.proofs.Items.{longer}
use Rattle.cp_search_store.specs.Stored.{AreNumberedBelow}
use Rattle.cp_search_store.proofs.Numbered.{numbered_none, numbered_push}
use Rattle.cp_search_store.proofs.parts.Parts.find_all.Goals as goal

pub loop-private-init : goal.loop-private-init
loop-private-init c = record {
  count = ap (λ (l : List ℕ). length l) c.clear.ensures.items;
  each = numbered_none c.args.self.now.privates.items c.clear.new.self.items c.args.privates.now;
}

pub loop-private-preserved : goal.loop-private-preserved
loop-private-preserved c =
    let xs = c.args.self.now.privates.items in
    let ns = c.loop-private.numbers.items in
    let n = c.in-Some.number in
    let ys = c.args.privates.now in
    let i = c.loop-private.private-index in
    let y = c.private-known.result.now in
    let was = c.loop-private.invariant in
    let count = was.count in
    let items = c.in_ok-push.ensures.items in
    let more = ap (λ (l : List ℕ). length l) items ∙ longer ns n in
    let here : slice_get ys i ≡ Some y =
    slice_get-get_or ys i c.private-item.result c.loop-private-test.true ∙ ap (λ (z : Private). Some z) (sym (c.private-known.ensures ∙ c.private-item.is)) in
    record {
      count = omega (arith, more, count);
      each = numbered_push xs ns c.push.new.self.items ys i n y count items here c.in-Some.ensures was.each;
    }

pub returns : goal.returns
returns c = λ e.
    let past = c.loop-private-test.false in
    let bound = c.loop-private.auto.private-index-end in
    let was = c.loop-private.invariant in
    let count = was.count in
    record {
      count = omega (arith, past, bound, count);
      each = subst (AreNumberedBelow c.args.self.now.privates.items c.loop-private.numbers.items c.args.privates.now) (sym count) was.each;
    }
