-- Steps that are due, and turns of them.
use Rattle.std.proofs.Common.{◌≡◌, ℕ, zero, suc, Bool, true, false, List, [], refl, ap, sym, ◌∙◌}
use Rattle.std.proofs.lemmas.Bool.{false≢true}
use Rattle.std.specs.Prelude.{Option, None, Some, if◌then◌else◌, not}
use Rattle.cp_model_program.specs.Programs.{Operation, Program}
use Rattle.cp_model_machine.specs.KernelSteps.{Turning, is_begun, is_due, kernel_step, kernel_steps, needs_kernel, stage_of}
use Rattle.cp_model_machine.specs.PrivateStates.{PrivateState, is_running}
use Rattle.cp_model_machine.specs.Steps.{is_held, is_kernel_operation, is_private, operation_of}
use Rattle.cp_private.specs.Kinds.{kind_of}
use Rattle.cp_private.specs.declared.kind.Kind.{Kind}
use Rattle.cp_private.specs.declared.kind.Kind.TheVariants as kind
use Rattle.cp_private.specs.States.{private_of}
use Rattle.cp_private.specs.declared.private.Private.{Private}
use Rattle.cp_kernel.specs.Due.{is_kernel}
use Rattle.cp_kernel.specs.KernelOf.{turning}
use Rattle.cp_kernel.specs.Turns.{IsTurned}
use Rattle.cp_kernel.specs.declared.kernel.Kernel.{Kernel}
use Rattle.cp_kernel.proofs.Transcripts.{nothing_moved}

in_monitor : (b : Bool) → is_kernel (if b then kind.Kernel else kind.None) ≡ b
in_monitor true = refl
in_monitor false = refl

outside_of_it : (held whole : Bool)
    → is_kernel (if (if held then false else not whole) then kind.Private else (if (if held then true else whole) then kind.Kernel else kind.None))
    ≡ (if held then true else whole)
outside_of_it true whole = refl
outside_of_it false true = refl
outside_of_it false false = refl

of_kind : (o : PrivateState) (x : Option Operation)
    → is_kernel (if is_private o x then kind.Private else (if needs_kernel o x then kind.Kernel else kind.None)) ≡ needs_kernel o x
of_kind o None = in_monitor (is_held o.gate)
of_kind o (Some y) = outside_of_it (is_held o.gate) (is_kernel_operation y)

due_by : (running : Bool) (k : Kind) (needs : Bool) → is_kernel k ≡ needs
    → is_kernel (if running then k else kind.None) ≡ (if running then (if true then needs else false) else false)
due_by true k needs is = is
due_by false k needs is = refl

-- What no stage makes due.
not_due_by : (running begun needs : Bool) → (if running then (if true then needs else false) else false) ≡ false
    → false ≡ (if running then (if begun then needs else false) else false)
not_due_by true true needs h = sym h
not_due_by true false needs h = refl
not_due_by false begun needs h = refl

pub due_not_kernel : (program : Program) (x : Turning) → is_kernel (kind_of program x.own) ≡ false → false ≡ is_due program x
due_not_kernel program x h =
    not_due_by (is_running x.own.activity) (is_begun (stage_of x.kernel.stages x.own.number)) (needs_kernel x.own (operation_of program x.own))
    (sym (due_by (is_running x.own.activity) _ (needs_kernel x.own (operation_of program x.own)) (of_kind x.own (operation_of program x.own))) ∙ h)

-- What is due as soon as the process has begun.
due_as_begun : (running begun needs : Bool) → (if running then (if true then needs else false) else false) ≡ true
    → begun ≡ (if running then (if begun then needs else false) else false)
due_as_begun true true needs h = sym h
due_as_begun true false needs h = refl
due_as_begun false begun needs h = absurd (false≢true h)

pub due_kernel : (program : Program) (x : Turning) → is_kernel (kind_of program x.own) ≡ true → is_begun (stage_of x.kernel.stages x.own.number) ≡ is_due program x
due_kernel program x h =
    due_as_begun (is_running x.own.activity) (is_begun (stage_of x.kernel.stages x.own.number)) (needs_kernel x.own (operation_of program x.own))
    (sym (due_by (is_running x.own.activity) _ (needs_kernel x.own (operation_of program x.own)) (of_kind x.own (operation_of program x.own))) ∙ h)

pub step_rests : (program : Program) (clock : ℕ) (x : Turning) → is_due program x ≡ false → kernel_step program clock x ≡ x
step_rests program clock x due = rw due refl

pub steps_rest : (program : Program) (clock n : ℕ) (x : Turning) → is_due program x ≡ false → kernel_steps program clock n x ≡ x
steps_rest program clock zero x due = refl
steps_rest program clock (suc n) x due = ap (kernel_steps program clock n) (step_rests program clock x due) ∙ steps_rest program clock n x due

pub steps_more : (program : Program) (clock m n : ℕ) (x : Turning) → m ≡ suc n
    → kernel_steps program clock m x ≡ kernel_steps program clock n (kernel_step program clock x)
steps_more program clock m n x h = ap (λ k. kernel_steps program clock k x) h

-- A turn with neither a step to make nor output to move.
pub nothing_turned : (program : Program) (clock n : ℕ) (k : Kernel) (x : Private) (input : List ℕ) → is_due program (turning k x input) ≡ false
    → x.output.items ≡ [] → IsTurned program clock n k k x x input
nothing_turned program clock n k x input due empty =
    let rests = sym (steps_rest program clock n (turning k x input) due) in
    record {
      kernel = ap (λ (y : Turning). y.kernel) rests;
      own = (λ i. record (private_of x input) { output = empty i }) ∙ ap (λ (y : Turning). record y.own { output = [] }) rests;
      moves = nothing_moved k x.number (kernel_steps program clock n (turning k x input)).own.output (ap (λ (y : Turning). y.own.output) (sym rests) ∙ empty);
    }
