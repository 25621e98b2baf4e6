-- Private steps have no shared words and read nothing of the kernel.
use Rattle.std.proofs.Common.{◌≡◌, ℕ, zero, suc, List, [], true, false, Some, length, refl, ap, sym, ◌∙◌}
use Rattle.std.specs.Prelude.{Option, if◌then◌else◌}
use Rattle.std.proofs.lemmas.List.{append-nil}
use Rattle.cp_model_program.specs.Programs.{Operation, Program}
use Rattle.cp_model_machine.specs.PrivateStates.{PrivateState, is_running}
use Rattle.cp_model_machine.specs.KernelSteps as kernel
use Rattle.cp_model_machine.specs.Steps.{act, act_on, alone, is_private, operation_of, private_step}
use Rattle.cp_private.specs.States.{IsAlone, holder_of, join, outside_of, private_of, stage_of}
use Rattle.cp_private.specs.declared.outside.StepContext.{StepContext}
use Rattle.cp_private.specs.declared.private.Private.{Private}

pub private_joined : (x : Private) (input : List ℕ) → private_of x input ≡ join x input []
private_joined x input = λ i. record (join x input []) { words = sym (append-nil x.memory.words.items) i }

none_set : (m : ℕ) → kernel.is_set (holder_of [] m) ≡ false
none_set zero = refl
none_set (suc m) = refl

all_started : (r : ℕ) → kernel.is_started (stage_of [] r) ≡ true
all_started zero = refl
all_started (suc r) = refl

pub outside_alone : (w : StepContext) (x : Private) (input : List ℕ) → IsAlone w
    → outside_of w (length x.memory.words.items) ≡ alone w.clock (private_of x input)
outside_alone w x input A =
    let own = length x.memory.words.items in
    let unset : (m : ℕ) → kernel.is_set (holder_of w.gates.now m) ≡ false = λ m. ap (λ gs. kernel.is_set (holder_of gs m)) A.gates ∙ none_set m in
    let started : (r : ℕ) → kernel.is_started (stage_of w.stages.now r) ≡ true = λ r. ap (λ gs. kernel.is_started (stage_of gs r)) A.stages ∙ all_started r in
    λ i. record { clock = w.clock; own = own; is_set = λ m. unset m i; is_started = λ r. started r i }

-- A private step is the action of its operation.
pub stepped : (program : Program) (clock : ℕ) (o : PrivateState) (x : Operation) → operation_of program o ≡ Some x
    → is_running o.activity ≡ true → is_private o (Some x) ≡ true → private_step program clock o ≡ (act program (alone clock o) o x).0
stepped program clock o x there running private =
    let after = λ (y : Option Operation). (act_on program (alone clock o) o y).0 in
    ap (λ y. if is_running o.activity then (if is_private o y then after y else o) else o) there
    ∙ ap (λ b. if b then (if is_private o (Some x) then after (Some x) else o) else o) running
    ∙ ap (λ b. if b then after (Some x) else o) private

-- The same, of what the code's private states represent.
pub private_acted : (program : Program) (w : StepContext) (old new : Private) (input : List ℕ) (x : Operation) → IsAlone w
    → operation_of program (private_of old input) ≡ Some x → is_running (private_of old input).activity ≡ true
    → is_private (private_of old input) (Some x) ≡ true
    → join new input [] ≡ (act program (outside_of w (length old.memory.words.items)) (join old input []) x).0
    → private_of new input ≡ private_step program w.clock (private_of old input)
private_acted program w old new input x unread there running private made =
    let o = private_of old input in
    let here : (act program (outside_of w (length old.memory.words.items)) (join old input []) x).0 ≡ (act program (alone w.clock o) o x).0 =
    λ i. (act program (outside_alone w old input unread i) (sym (private_joined old input) i) x).0 in
    private_joined new input ∙ (made ∙ (here ∙ sym (stepped program w.clock o x there running private)))
