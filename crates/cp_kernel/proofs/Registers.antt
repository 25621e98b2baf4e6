-- Steps that are made in registers, of a process that holds a gate.
use Rattle.std.proofs.Common.{◌≡◌, ℕ, zero, suc, Bool, true, false, refl, ap}
use Rattle.std.proofs.lemmas.Bool.{false≢true}
use Rattle.std.specs.Prelude.{Option, None, Some, if◌then◌else◌}
use Rattle.cp_model_program.specs.Programs.{Operation, Program}
use Rattle.cp_model_machine.specs.Calling.{gate_effect}
use Rattle.cp_model_machine.specs.KernelSteps as plain
use Rattle.cp_model_machine.specs.KernelSteps.{Turning, is_begun, is_due, needs_kernel, stage_of}
use Rattle.cp_model_machine.specs.PrivateStates.{Leaves, PrivateState, is_running}
use Rattle.cp_model_machine.specs.Steps.{is_held, is_kernel_operation, operation_of}
use Rattle.cp_private.proofs.Results.{held_some}

needs_inside : (o : PrivateState) (x : Option Operation) → is_held o.gate ≡ true → needs_kernel o x ≡ true
needs_inside o None h = h
needs_inside o (Some x) h = ap (λ b. if b then true else is_kernel_operation x) h

-- Whatever a process does next that runs, has begun and holds a gate, is the kernel's.
pub due_inside : (program : Program) (x : Turning) → is_running x.own.activity ≡ true → is_begun (stage_of x.kernel.stages x.own.number) ≡ true
    → (x.own.gate ≡ 0 → ⊥) → is_due program x ≡ true
due_inside program x running begun held = rw (running, begun) (needs_inside x.own (operation_of program x.own) (held_some x.own.gate held))

running_by : (running begun needs : Bool) → (if running then (if begun then needs else false) else false) ≡ true → running ≡ true
running_by true begun needs h = refl
running_by false begun needs h = absurd (false≢true h)

pub due_running : (program : Program) (x : Turning) → is_due program x ≡ true → is_running x.own.activity ≡ true
due_running program x =
    running_by (is_running x.own.activity) (is_begun (stage_of x.kernel.stages x.own.number)) (needs_kernel x.own (operation_of program x.own))

-- ---- What a return leaves

pub gate_left : (own p m : ℕ) (k : plain.Kernel) → (m ≡ 0 → ⊥) → plain.apply_effect own p (gate_effect m Leaves) k ≡ plain.pass_on m k
gate_left own p zero k h = absurd (h refl)
gate_left own p (suc m) k h = refl

pub no_gate_left : (own p m : ℕ) (k : plain.Kernel) → m ≡ 0 → plain.apply_effect own p (gate_effect m Leaves) k ≡ k
no_gate_left own p m k is = ap (λ g. plain.apply_effect own p (gate_effect g Leaves) k) is
