use Rattle.std.proofs.Common.{◌≡◌, ℕ, List, map}
use Rattle.cp_private.specs.declared.private.Private.{Private}
use Rattle.cp_model_machine.specs.Machines as plain
use Rattle.cp_program.specs.View as view
use Rattle.cp_kernel.specs.KernelOf.{kernel_of}
use Rattle.cp_kernel.specs.Turns.{parts_of}
use Rattle.cp_kernel.proofs.Changed.{changed_below}
use Rattle.cp_kernel.proofs.closing.begin_all.Given as goal

abbrev pub invariant-loop-private : goal.invariant-loop-private
invariant-loop-private l = record {
  begun : (inputs : ℕ → List ℕ) → parts_of inputs 1 l.privates
      ≡ changed_below (plain.begin_one (view.program l.program) (kernel_of l.kernel)) l.private-index (parts_of inputs 1 l.fn.privates);
  numbers : map (λ (x : Private). x.number) l.privates ≡ map (λ (x : Private). x.number) l.fn.privates;
  outputs : map (λ (x : Private). x.output) l.privates ≡ map (λ (x : Private). x.output) l.fn.privates;
}
