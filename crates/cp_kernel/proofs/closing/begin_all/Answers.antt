use Rattle.std.proofs.Common.{◌≡◌, ◌+◌, ◌<◌, suc, Some, slice_get, slice_set, length, ap, sym, ◌∙◌, arith}
use Rattle.std.specs.Prelude.{slice_index_or}
use Rattle.std.proofs.lemmas.Option.{slice_get-get_or}
use Rattle.cp_private.specs.States.{private_of}
use Rattle.cp_private.specs.declared.private.Private.{Private}
use Rattle.cp_model_machine.specs.Machines as plain
use Rattle.cp_program.specs.View as view
use Rattle.cp_kernel.specs.KernelOf.{kernel_of}
use Rattle.cp_kernel.specs.Turns.{parts_of}
use Rattle.cp_kernel.proofs.Changed.{all_changed, changed_below, got_changed, next_changed, parts_count, parts_got, parts_set, same_at}
use Rattle.cp_kernel.proofs.closing.begin_all.Goals as goal

pub loop-private-preserved : goal.loop-private-preserved
loop-private-preserved c = record {
  numbers = same_at (λ (x : Private). x.number) c.loop-private.privates c.loop-private.private-index c.private-item.result c.begin.new.private
      (c.begin.ensures.number ∙ ap (λ (x : Private). x.number) c.private_mut.ensures.value)
      ∙ c.loop-private.invariant.numbers;
  outputs = same_at (λ (x : Private). x.output) c.loop-private.privates c.loop-private.private-index c.private-item.result c.begin.new.private
      (c.begin.ensures.output ∙ ap (λ (x : Private). x.output) c.private_mut.ensures.value)
      ∙ c.loop-private.invariant.outputs;
  begun = λ inputs.
      let f = plain.begin_one (view.program c.args.program.now) (kernel_of c.args.kernel.now) in
      let i = c.loop-private.private-index in
      let xs = c.loop-private.privates in
      let all = parts_of inputs 1 c.args.privates.now in
      let x = c.private-item.result in
      let found = slice_index_or xs i x in
      let o = private_of found (inputs (1 + i)) in
      let below : i < length xs = omega (arith, c.loop-private-test.true, c.loop-private.auto.privates) in
      let here : slice_get xs i ≡ Some found = slice_get-get_or xs i x below in
      let was = c.loop-private.invariant.begun inputs in
      let there : slice_get all i ≡ Some o =
      sym (got_changed f i all) ∙ (ap (λ ys. slice_get ys i) (sym was) ∙ parts_got inputs 1 xs i found here) in
      let next : suc i ≡ i + 1 = omega arith in
      parts_set inputs 1 xs i c.begin.new.private
      ∙ (ap (slice_set (parts_of inputs 1 xs) i) (c.begin.ensures.begun (inputs (1 + i)) ∙ ap (λ (z : Private). f (private_of z (inputs (1 + i)))) c.private_mut.ensures.value)
      ∙ (ap (λ ys. slice_set ys i (f o)) was
      ∙ (next_changed f i all o there ∙ ap (λ n. changed_below f n all) next)));
}

pub returns : goal.returns
returns c = record {
  begun = λ inputs.
      let f = plain.begin_one (view.program c.args.program.now) (kernel_of c.args.kernel.now) in
      let all = parts_of inputs 1 c.args.privates.now in
      let end : c.loop-private.private-index ≡ length all = omega (arith, c.loop-private-test.false, c.loop-private.auto.private-index-end, parts_count inputs 1 c.args.privates.now) in
      c.loop-private.invariant.begun inputs ∙ (ap (λ n. changed_below f n all) end ∙ all_changed f all);
  numbers = c.loop-private.invariant.numbers;
  outputs = c.loop-private.invariant.outputs;
}
