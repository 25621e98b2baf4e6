use Rattle.std.proofs.Common.{List, ℕ, Some, length, slice_get, subst, sym, ap, refl, ◌≡◌, ◌∙◌, arith}
use Rattle.std.proofs.lemmas.Option.{slice_get-get_or}
use Rattle.cp_private.specs.declared.private.Private.{Private}
use Rattle.cp_search_states.proofs.Items.{longer}
use Rattle.cp_search_store.specs.Stored.{AreNumberedBelow}
use Rattle.cp_search_store.proofs.Numbered.{extends_more, extends_not, numbered_grown, numbered_none, numbered_push}
use Rattle.cp_search_store.proofs.parts.Parts.number_all.Goals as goal

pub loop-private-init : goal.loop-private-init
loop-private-init c =
    let xs = c.args.self.now.privates.items in
    record {
      grows = extends_not xs xs refl;
      count = ap (λ (l : List ℕ). length l) c.clear.ensures.items;
      each = numbered_none xs c.clear.new.self.items c.args.privates.now;
    }

pub loop-private-preserved : goal.loop-private-preserved
loop-private-preserved c =
    let start = c.args.self.now.privates.items in
    let xs = c.loop-private.self.privates.items in
    let new = c.number.new.self.privates.items in
    let ns = c.loop-private.numbers.items in
    let n = c.in_ok-number.number in
    let ys = c.args.privates.now in
    let i = c.loop-private.private-index in
    let y = c.private.result.now in
    let was = c.loop-private.invariant in
    let count = was.count in
    let items = c.in_ok-push.ensures.items in
    let more = ap (λ (l : List ℕ). length l) items ∙ longer ns n in
    let here : slice_get ys i ≡ Some y =
    slice_get-get_or ys i c.private-item.result c.loop-private-test.true ∙ ap (λ (z : Private). Some z) (sym (c.private.ensures ∙ c.private-item.is)) in
    record {
      grows = extends_more start xs new was.grows c.in_ok-number.ensures.grows;
      count = omega (arith, more, count);
      each = numbered_push new ns c.push.new.self.items ys i n y count items here c.in_ok-number.ensures.is
          (numbered_grown xs new ns ys i c.in_ok-number.ensures.grows was.each);
    }

pub returns-clause-are : goal.returns-clause-are
returns-clause-are c =
    let past = c.loop-private-test.false in
    let bound = c.loop-private.auto.private-index-end in
    let was = c.loop-private.invariant in
    let count = was.count in
    record {
      count = omega (arith, past, bound, count);
      each = subst (AreNumberedBelow c.loop-private.self.privates.items c.loop-private.numbers.items c.args.privates.now) (sym count) was.each;
    }
