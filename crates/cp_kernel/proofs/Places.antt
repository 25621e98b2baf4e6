-- Gates and stages by number, and what changes when one of them is set.
use Rattle.std.proofs.Common.{◌≡◌, ◌≤◌, ◌<◌, ◌-◌, ℕ, zero, suc, List, [], ◌∷◌, Option, None, Some, slice_get, slice_set, map, length, false, refl, ap, sym, ◌∙◌, arith}
use Rattle.std.specs.Prelude.{option_map, remove, slice_index_or}
use Rattle.std.proofs.lemmas.Option.{slice_get-get_or, slice_get-map, slice_get_past}
use Rattle.std.proofs.lemmas.List.{map-set}
use Rattle.cp_model.specs.States as model
use Rattle.cp_model_machine.specs.KernelSteps as plain
use Rattle.cp_private.specs.States as states
use Rattle.cp_private.specs.declared.kernel_view.Gate.{Gate}
use Rattle.cp_private.specs.declared.kernel_view.SchedulingState.{SchedulingState}
use Rattle.cp_kernel.specs.KernelOf.{unset_gate}

abbrev pub gate_or_unset : Option model.Gate → model.Gate
gate_or_unset None = unset_gate
gate_or_unset (Some g) = g

abbrev pub stage_or_begun : Option plain.SchedulingState → plain.SchedulingState
stage_or_begun None = plain.Begun
stage_or_begun (Some g) = g

pub gate_looked : (x : Option model.Gate) → elim x [ None ↦ unset_gate | Some g ↦ g ] ≡ gate_or_unset x
gate_looked None = refl
gate_looked (Some g) = refl

pub stage_looked : (x : Option plain.SchedulingState) → elim x [ None ↦ plain.Begun | Some g ↦ g ] ≡ stage_or_begun x
stage_looked None = refl
stage_looked (Some g) = refl

less_one : (n : ℕ) → suc n - 1 ≡ n
less_one n = omega arith

pub gate_found : (gs : List Gate) (m : ℕ) (g : Gate) → 1 ≤ m → slice_get gs (m - 1) ≡ Some g
    → plain.gate_of (map states.gate gs) m ≡ states.gate g
gate_found gs zero g at there = absurd (omega (arith, at))
gate_found gs (suc m) g at there =
    gate_looked (slice_get (map states.gate gs) m)
    ∙ ap gate_or_unset (slice_get-map states.gate gs m ∙ ap (option_map states.gate) (ap (slice_get gs) (sym (less_one m)) ∙ there))

pub gate_missing : (gs : List Gate) (m : ℕ) → slice_get gs (m - 1) ≡ None → plain.gate_of (map states.gate gs) m ≡ unset_gate
gate_missing gs zero there = refl
gate_missing gs (suc m) there =
    gate_looked (slice_get (map states.gate gs) m)
    ∙ ap gate_or_unset (slice_get-map states.gate gs m ∙ ap (option_map states.gate) (ap (slice_get gs) (sym (less_one m)) ∙ there))

pub stage_found : (gs : List SchedulingState) (p : ℕ) (g : SchedulingState) → 1 ≤ p → slice_get gs (p - 1) ≡ Some g
    → plain.stage_of (map states.stage gs) p ≡ states.stage g
stage_found gs zero g at there = absurd (omega (arith, at))
stage_found gs (suc p) g at there =
    stage_looked (slice_get (map states.stage gs) p)
    ∙ ap stage_or_begun (slice_get-map states.stage gs p ∙ ap (option_map states.stage) (ap (slice_get gs) (sym (less_one p)) ∙ there))

pub stage_missing : (gs : List SchedulingState) (p : ℕ) → slice_get gs (p - 1) ≡ None → plain.stage_of (map states.stage gs) p ≡ plain.Begun
stage_missing gs zero there = refl
stage_missing gs (suc p) there =
    stage_looked (slice_get (map states.stage gs) p)
    ∙ ap stage_or_begun (slice_get-map states.stage gs p ∙ ap (option_map states.stage) (ap (slice_get gs) (sym (less_one p)) ∙ there))

-- ---- What is set

pub stages_set : (k : plain.Kernel) (gs : List SchedulingState) (p : ℕ) (g : SchedulingState)
    → record k { stages = map states.stage (slice_set gs (p - 1) g) } ≡ plain.set_stage p (states.stage g) (record k { stages = map states.stage gs })
stages_set k gs p g = ap (λ (ys : List plain.SchedulingState). record k { stages = ys }) (map-set states.stage gs (p - 1) g)

pub gates_set : (k : plain.Kernel) (gs : List Gate) (m : ℕ) (g : Gate) (h : model.Holder) (askers : List ℕ)
    → states.holder g.holder ≡ h → g.askers.items ≡ askers
    → record k { gates = map states.gate (slice_set gs (m - 1) g) } ≡ plain.set_gate m h askers (record k { gates = map states.gate gs })
gates_set k gs m g h askers held asked =
    ap (λ (ys : List model.Gate). record k { gates = ys })
    (map-set states.gate gs (m - 1) g
    ∙ (λ i. slice_set (map states.gate gs) (m - 1) (record { holder = held i; askers = asked i })))

-- A gate that a process holds exists.
pub held_first : (gs : List model.Gate) (m q : ℕ) → (plain.gate_of gs m).holder ≡ model.HeldBy q → 1 ≤ m
held_first gs zero q h = absurd (cc)
held_first gs (suc m) q h = omega arith

-- A process that asks may not make a step.
asking_in : (gs : List plain.SchedulingState) (i m : ℕ) → i < length gs
    → plain.is_begun (plain.stage_of (slice_set gs i (plain.Asking m)) (suc i)) ≡ false
asking_in [] i m below = absurd (omega (arith, below))
asking_in (g ∷ gs) zero m below = refl
asking_in (g ∷ gs) (suc i) m below = asking_in gs i m (omega (arith, below))

pub asking_set : (gs : List plain.SchedulingState) (p m : ℕ) → 1 ≤ p → p ≤ length gs
    → plain.is_begun (plain.stage_of (slice_set gs (p - 1) (plain.Asking m)) p) ≡ false
asking_set gs zero m first last = absurd (omega (arith, first))
asking_set gs (suc p) m first last =
    ap (λ i. plain.is_begun (plain.stage_of (slice_set gs i (plain.Asking m)) (suc p))) (less_one p) ∙ asking_in gs p m (omega (arith, last))

pub nothing : (xs : List ℕ) → length xs ≡ 0 → xs ≡ []
nothing [] none = refl
nothing (x ∷ xs) none = absurd (omega (arith, none))

pub first_and_rest : (xs : List ℕ) (r d : ℕ) → 1 ≤ length xs → r ≡ slice_index_or xs 0 d → xs ≡ r ∷ remove xs 0
first_and_rest [] r d some is = absurd (omega (arith, some))
first_and_rest (x ∷ xs) r d some is = ap (λ y. y ∷ xs) (sym is)

-- ---- As the code finds them

pub gate_at : (gs : List Gate) (m : ℕ) (g : Gate) → 1 ≤ m → m - 1 < length gs → g ≡ slice_index_or gs (m - 1) g
    → plain.gate_of (map states.gate gs) m ≡ states.gate g
gate_at gs m g first below is =
    gate_found gs m g first (slice_get-get_or gs (m - 1) g below ∙ ap (λ (x : Gate). Some x) (sym is))

pub gate_past : (gs : List Gate) (m : ℕ) → length gs ≤ m - 1 → plain.gate_of (map states.gate gs) m ≡ unset_gate
gate_past gs m past = gate_missing gs m (slice_get_past gs (m - 1) past)

pub stage_at : (gs : List SchedulingState) (p : ℕ) (g : SchedulingState) → 1 ≤ p → p - 1 < length gs → g ≡ slice_index_or gs (p - 1) g
    → plain.stage_of (map states.stage gs) p ≡ states.stage g
stage_at gs p g first below is =
    stage_found gs p g first (slice_get-get_or gs (p - 1) g below ∙ ap (λ (x : SchedulingState). Some x) (sym is))

pub stage_past : (gs : List SchedulingState) (p : ℕ) → length gs ≤ p - 1 → plain.stage_of (map states.stage gs) p ≡ plain.Begun
stage_past gs p past = stage_missing gs p (slice_get_past gs (p - 1) past)

-- Setting the same gate again changes nothing.
pub gates_same : (gs : List Gate) (i : ℕ) (g : Gate) → g ≡ slice_index_or gs i g → slice_set gs i g ≡ gs
gates_same [] i g is = refl
gates_same (x ∷ gs) zero g is = ap (λ y. y ∷ gs) is
gates_same (x ∷ gs) (suc i) g is = ap (λ ys. x ∷ ys) (gates_same gs i g is)
