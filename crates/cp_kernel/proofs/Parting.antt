-- What a step reads of the kernel and changes in it, as plain data.
use Rattle.std.proofs.Common.{◌≡◌, ◌++◌, ℕ, zero, suc, List, length, take, drop, refl, ap, sym, ◌∙◌}
use Rattle.std.specs.Prelude.{map, option_map}
use Rattle.std.proofs.Math.Seq.{take-append_seam}
use Rattle.cp_model_machine.specs.KernelSteps as plain
use Rattle.cp_private.specs.States as states
use Rattle.cp_private.specs.declared.kernel_view.Gate.{Gate}
use Rattle.cp_private.specs.declared.kernel_view.SchedulingState.{SchedulingState}
use Rattle.cp_private.specs.declared.private.Private.{Private}
use Rattle.cp_kernel.specs.declared.kernel.Kernel.{Kernel}
use Rattle.cp_kernel.specs.KernelOf.{kernel_of, turning}
use Rattle.cp_kernel.proofs.Places.{gate_looked, gate_or_unset, stage_looked, stage_or_begun}
use Rattle.std.proofs.lemmas.Option.{slice_get-map}
use Rattle.std.specs.Prelude.{Option, None, Some, slice_get}
use Rattle.cp_model.specs.States as model

pub kernel_same : (k mid : Kernel) → mid.gates ≡ k.gates → mid.stages ≡ k.stages
    → kernel_of mid ≡ record (kernel_of k) { shared = mid.shared.items }
kernel_same k mid gates stages =
    λ i. record { shared = mid.shared.items; gates = map states.gate (gates i).items; stages = map states.stage (stages i).items }

-- The words of a vector that was lent as a slice of the same length.
pub lent : {X : Type 0} (ys xs : List X) (n : ℕ) → length ys ≡ length xs → n ≡ length xs → take n (ys ++ drop (length ys) xs) ≡ ys
lent ys xs n same all =
    ap (λ k. take k (ys ++ drop (length ys) xs)) (all ∙ sym same) ∙ take-append_seam ys (drop (length ys) xs)

-- What a step reads of gates and stages is what the kernel knows.
set_by : (g : Option Gate) → plain.is_set (states.holder_or_none g) ≡ plain.is_set (gate_or_unset (option_map states.gate g)).holder
set_by None = refl
set_by (Some g) = refl

pub set_same : (gs : List Gate) (m : ℕ) → plain.is_set (states.holder_of gs m) ≡ plain.is_set (plain.gate_of (map states.gate gs) m).holder
set_same gs zero = refl
set_same gs (suc m) =
    set_by (slice_get gs m)
    ∙ sym (ap (λ (g : model.Gate). plain.is_set g.holder)
    (gate_looked (slice_get (map states.gate gs) m) ∙ ap gate_or_unset (slice_get-map states.gate gs m)))

started_by : (g : Option SchedulingState) → plain.is_started (states.stage_or_none g) ≡ plain.is_started (stage_or_begun (option_map states.stage g))
started_by None = refl
started_by (Some g) = refl

pub started_same : (gs : List SchedulingState) (p : ℕ) → plain.is_started (states.stage_of gs p) ≡ plain.is_started (plain.stage_of (map states.stage gs) p)
started_same gs zero = refl
started_same gs (suc p) =
    started_by (slice_get gs p)
    ∙ sym (ap plain.is_started (stage_looked (slice_get (map states.stage gs) p) ∙ ap stage_or_begun (slice_get-map states.stage gs p)))

pub outside_same : (k : Kernel) (x : Private) (input : List ℕ) (clock : ℕ) (gs : List Gate) (ss : List SchedulingState)
    → gs ≡ k.gates.items → ss ≡ k.stages.items
    → record {
      clock = clock;
      own = length x.memory.words.items;
      is_set = λ m. plain.is_set (states.holder_of gs m);
      is_started = λ r. plain.is_started (states.stage_of ss r);
    } ≡ plain.outside clock (turning k x input)
outside_same k x input clock gs ss gates stages =
    let set = λ (m : ℕ). ap (λ hs. plain.is_set (states.holder_of hs m)) gates ∙ set_same k.gates.items m in
    let started = λ (r : ℕ). ap (λ hs. plain.is_started (states.stage_of hs r)) stages ∙ started_same k.stages.items r in
    λ i. record { clock = clock; own = length x.memory.words.items; is_set = λ m. set m i; is_started = λ r. started r i }
