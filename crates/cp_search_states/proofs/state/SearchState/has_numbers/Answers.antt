use Rattle.std.proofs.Common.{◌≡◌, ◌<◌, Some, length, slice_get, subst, sym, ap, ◌∙◌, arith}
use Rattle.std.proofs.lemmas.Option.{slice_get-get_or}
use Rattle.cp_private.specs.declared.private.Private.{Private}
use Rattle.cp_program.specs.View as view
use Rattle.cp_kernel.specs.KernelOf.{kernel_of}
use Rattle.cp_search_states.proofs.Moving.{AreSmallBelow, small_all, small_more, small_none}
use Rattle.cp_search_states.proofs.state.SearchState.has_numbers.Goals as goal

pub loop-i-preserved : goal.loop-i-preserved
loop-i-preserved c =
    let xs = c.args.self.now.privates.items in
    let i = c.loop-i.i in
    let x = c.private.result.now in
    let was = c.loop-i.invariant in
    let end = was.end in
    let test = c.loop-i-test.true in
    let below : i < length xs = omega (arith, test, end) in
    let here : slice_get xs i ≡ Some x = slice_get-get_or xs i c.index.result.now below ∙ ap (λ (z : Private). Some z) (sym (c.private.ensures ∙ c.index.ensures)) in
    record {
      end = was.end;
      each = small_more (view.program c.args.program.now) xs i x here (c.has_number.ensures c.if-not-has_number.false) was.each;
    }

pub returns : goal.returns
returns c = λ e inputs.
    let xs = c.args.self.now.privates.items in
    let past = c.loop-i-test.false in
    let bound = c.loop-i.auto.i-end in
    let was = c.loop-i.invariant in
    let last = was.end in
    let end : c.loop-i.i ≡ length xs = omega (arith, past, bound, last) in
    small_all (view.program c.args.program.now) inputs xs (kernel_of c.args.self.now.kernel)
    (subst (AreSmallBelow (view.program c.args.program.now) xs) end was.each)
