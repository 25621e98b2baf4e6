-- Private and shared words are separated again after a step.
use Rattle.std.proofs.Common.{◌≡◌, ◌++◌, ℕ, ℤ, List, true, length, take, drop, refl, ap, sym, ◌∙◌}
use Rattle.cp_model_program.specs.Programs.{Program}
use Rattle.cp_model_machine.specs.Steps.{step_with}
use Rattle.std.proofs.Math.Seq.{drop-append_seam, take-append_seam}
use Rattle.cp_model_machine.specs.KernelSteps as plain
use Rattle.cp_model_machine.specs.PrivateStates.{Effect}
use Rattle.cp_private.specs.Promises.{beside}
use Rattle.cp_private.specs.States as states
use Rattle.cp_private.specs.declared.outside.StepContext.{StepContext}
use Rattle.cp_private.specs.declared.private.Private.{Private}

pub parted_as : (k : plain.Kernel) (x y : Private) (input : List ℕ) (shared : List ℤ) (e : Effect)
    → length y.memory.words.items ≡ length x.memory.words.items
    → plain.part_words (length x.memory.words.items) (beside k x input) (states.join y input shared, e)
    ≡ beside (plain.apply_effect (length x.memory.words.items) x.number e (record k { shared = shared })) y input
parted_as k x y input shared e same =
    let own = length x.memory.words.items in
    let ws = y.memory.words.items in
    let first : take own (ws ++ shared) ≡ ws = ap (λ n. take n (ws ++ shared)) (sym same) ∙ take-append_seam ws shared in
    let rest : drop own (ws ++ shared) ≡ shared = ap (λ n. drop n (ws ++ shared)) (sym same) ∙ drop-append_seam ws shared in
    λ i. record {
      kernel = plain.apply_effect own x.number e (record k { shared = rest i });
      own = record (states.join y input shared) { words = first i };
    }

pub step_due : (program : Program) (clock : ℕ) (x : plain.Turning) → plain.is_due program x ≡ true
    → plain.kernel_step program clock x ≡ plain.joined_step program clock x
step_due program clock x due = rw due refl

-- A step with the kernel's words in reach, parted again, is the step of the kernel and the private state.
pub joined_step_made : (program : Program) (w : StepContext) (k : plain.Kernel) (x y : Private) (shared after : List ℤ) (e : Effect)
    → (states.join y w.input.now after, e) ≡ step_with program (states.outside_of w (length x.memory.words.items)) (states.join x w.input.now shared)
    → length y.memory.words.items ≡ length x.memory.words.items
    → k.shared ≡ shared
    → states.outside_of w (length x.memory.words.items) ≡ plain.outside w.clock (beside k x w.input.now)
    → beside (plain.apply_effect (length x.memory.words.items) x.number e (record k { shared = after })) y w.input.now
    ≡ plain.joined_step program w.clock (beside k x w.input.now)
joined_step_made program w k x y shared after e step same there known =
    let own = length x.memory.words.items in
    let input = w.input.now in
    let back = sym there in
    sym (parted_as k x y input after e same)
    ∙ ap (plain.part_words own (beside k x input)) (step ∙ (λ i. step_with program (known i) (states.join x input (back i))))
