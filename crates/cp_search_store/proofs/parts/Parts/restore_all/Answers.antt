use Rattle.std.proofs.Common.{length, slice_set, subst, sym, ◌≡◌, ◌<◌, ◌∙◌, arith}
use Rattle.std.proofs.lemmas.List.{length-set}
use Rattle.std.proofs.lemmas.Option.{slice_get-get_or}
use Rattle.cp_search_store.specs.Stored.{AreNumberedBelow}
use Rattle.cp_search_store.proofs.Numbered.{numbered_none, numbered_set}
use Rattle.cp_search_store.proofs.parts.Parts.restore_all.Goals as goal

pub loop-i-preserved : goal.loop-i-preserved
loop-i-preserved c =
    let xs = c.args.self.now.privates.items in
    let ns = c.args.numbers.now in
    let ys = c.loop-i.privates.items in
    let i = c.loop-i.i in
    let y = c.restore.new.private in
    let was = c.loop-i.invariant in
    let end = was.end in
    let test = c.loop-i-test.true in
    let below : i < length ns = omega (arith, test, end) in
    record {
      count = was.count ∙ sym (length-set ys i y);
      end = was.end;
      each = numbered_set xs ns ys i _ y (slice_get-get_or ns i _ below) (c.restore.ensures c.if-not-restore.false) was.each;
    }

pub returns : goal.returns
returns c = λ e.
    let past = c.loop-i-test.false in
    let bound = c.loop-i.auto.i-end in
    let was = c.loop-i.invariant in
    let last = was.end in
    let end : c.loop-i.i ≡ length c.args.numbers.now = omega (arith, past, bound, last) in
    record {
      count = was.count;
      each = subst (AreNumberedBelow c.args.self.now.privates.items c.args.numbers.now c.loop-i.privates.items) end was.each;
    }
