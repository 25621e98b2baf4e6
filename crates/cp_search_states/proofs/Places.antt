-- The private states of states by number, and the ways of their processes.
use Rattle.std.specs.Prelude.{List, None, Some, [], false, length, map, refl, slice_get, slice_set, suc, true, zero, ℕ, ◌+◌, ◌-◌, ◌∷◌, ◌≡◌, ◌≤◌}
use Rattle.std.proofs.Common.{ap, arith, sym, ◌∙◌}
use Rattle.std.proofs.lemmas.List.{length-map}
use Rattle.cp_model_program.specs.Programs.{Program}
use Rattle.cp_model_machine.specs.KernelSteps as plain
use Rattle.cp_model_machine.specs.KernelSteps.{is_begun, stage_of}
use Rattle.cp_model_machine.specs.PrivateStates.{PrivateState, is_running}
use Rattle.cp_model_machine.specs.Steps.{operation_of}
use Rattle.cp_law_calls.specs.Ways.{Eager, Idle, Late}
use Rattle.cp_law_cores.specs.Cores.{part, put}
use Rattle.cp_law_cores.proofs.Parts.{none_is}
use Rattle.cp_law_search.specs.Calls.{is_late_at, way_on}
use Rattle.cp_private.specs.States as views
use Rattle.cp_private.specs.States.{private_of}
use Rattle.cp_private.specs.declared.private.Activity.{Activity}
use Rattle.cp_private.specs.declared.private.Activity.TheVariants as activity_case
use Rattle.cp_private.specs.declared.private.Private.{Private}
use Rattle.cp_kernel.specs.KernelOf.{kernel_of}
use Rattle.cp_kernel.specs.Turns.{parts_of}
use Rattle.cp_kernel.specs.declared.kernel.Kernel.{Kernel}
use Rattle.cp_kernel.proofs.Changed.{parts_got, parts_set}

less_one : (n : ℕ) → suc n - 1 ≡ n
less_one n = omega arith

one_more : (n : ℕ) → 1 + n ≡ suc n
one_more n = omega arith

pub part_of : (inputs : ℕ → List ℕ) (xs : List Private) (p : ℕ) (x : Private) → 1 ≤ p → slice_get xs (p - 1) ≡ Some x
    → part (parts_of inputs 1 xs) p ≡ Some (private_of x (inputs p))
part_of inputs xs zero x low e = absurd (omega (arith, low))
part_of inputs xs (suc i) x low e =
    parts_got inputs 1 xs i x (ap (slice_get xs) (sym (less_one i)) ∙ e) ∙ ap (λ n. Some (private_of x (inputs n))) (one_more i)

none_got : (inputs : ℕ → List ℕ) (p : ℕ) (xs : List Private) (i : ℕ) → slice_get xs i ≡ None → slice_get (parts_of inputs p xs) i ≡ None
none_got inputs p [] i e = refl
none_got inputs p (x ∷ xs) zero e = absurd (none_is x (sym e))
none_got inputs p (x ∷ xs) (suc i) e = none_got inputs (suc p) xs i e

pub no_part_of : (inputs : ℕ → List ℕ) (xs : List Private) (p : ℕ) → slice_get xs (p - 1) ≡ None → part (parts_of inputs 1 xs) p ≡ None
no_part_of inputs xs zero e = refl
no_part_of inputs xs (suc i) e = none_got inputs 1 xs i (ap (slice_get xs) (sym (less_one i)) ∙ e)

pub part_set : (inputs : ℕ → List ℕ) (xs : List Private) (p : ℕ) (y : Private) → 1 ≤ p
    → parts_of inputs 1 (slice_set xs (p - 1) y) ≡ put (parts_of inputs 1 xs) p (private_of y (inputs p))
part_set inputs xs zero y low = absurd (omega (arith, low))
part_set inputs xs (suc i) y low =
    ap (λ j. parts_of inputs 1 (slice_set xs j y)) (less_one i)
    ∙ (parts_set inputs 1 xs i y ∙ ap (λ n. slice_set (parts_of inputs 1 xs) i (private_of y (inputs n))) (one_more i))

pub same_stages : (k k' : Kernel) → kernel_of k' ≡ kernel_of k → length k'.stages.items ≡ length k.stages.items
same_stages k k' same =
    let old = length-map k.stages.items views.stage in
    let new = length-map k'.stages.items views.stage in
    let both : length (map views.stage k'.stages.items) ≡ length (map views.stage k.stages.items) = ap (λ (q : plain.Kernel). length q.stages) same in
    omega (arith, old, new, both)

-- ---- Ways

module _ (program : Program) (k : plain.Kernel) (o : PrivateState) where
  pub idle_stopped : is_running o.activity ≡ false → way_on program k (Some o) ≡ Idle
  idle_stopped r = simp r

  pub idle_before : is_running o.activity ≡ true → is_begun (stage_of k.stages o.number) ≡ false → way_on program k (Some o) ≡ Idle
  idle_before r b = simp (r, b)

  pub late_there : is_running o.activity ≡ true → is_begun (stage_of k.stages o.number) ≡ true → is_late_at (operation_of program o) ≡ true → way_on program k (Some o) ≡ Late
  late_there r b l = simp (r, b, l)

  pub eager_there : is_running o.activity ≡ true → is_begun (stage_of k.stages o.number) ≡ true → is_late_at (operation_of program o) ≡ false → way_on program k (Some o) ≡ Eager
  eager_there r b l = simp (r, b, l)

pub not_running : (a : Activity) → (a ≡ activity_case.Running → ⊥) → is_running (views.activity a) ≡ false
not_running activity_case.NotBegun h = refl
not_running activity_case.Running h = absurd (h refl)
not_running activity_case.Waiting h = refl
not_running activity_case.Ended h = refl
not_running (activity_case.Faulted f) h = refl
