-- What begins keeps its number.
use Rattle.std.proofs.Common.{◌≡◌, ◌≢◌, ◌-◌, ℕ, zero, suc, List, [], ◌∷◌, Option, None, Some, slice_get, map, refl, ap, sym, ◌∙◌, arith}
use Rattle.cp_model_program.specs.Programs as code
use Rattle.cp_model_program.specs.Programs.{Program}
use Rattle.cp_model_program.specs.Starts.{block, paste}
use Rattle.cp_model_machine.specs.KernelSteps.{Kernel, stage_of}
use Rattle.cp_model_machine.specs.Machines.{begin_from, begin_if, begin_one, next_stage}
use Rattle.cp_private.specs.States as states
use Rattle.cp_private.specs.declared.kernel_view.SchedulingState.{SchedulingState}
use Rattle.cp_private.specs.declared.kernel_view.SchedulingState.TheVariants as stage
use Rattle.cp_model_machine.specs.PrivateStates.{PrivateState, Running}
use Rattle.cp_kernel.specs.Fresh.{HasNoFresh}
use Rattle.cp_kernel.proofs.Places.{stage_found, stage_missing}

pub begun_number : (program : Program) (k : Kernel) (o : PrivateState) → (begin_from program k o).number ≡ o.number
begun_number program k o = by (slice_get program.processes (o.number - 1))
  where
    by : (row : Option code.Process) → (elim row as (λ y. PrivateState) [
      | None ↦ o
      | Some x ↦ record o { activity = Running; words = paste 1 (block k.shared (suc x.parameters) (x.waiting - 1)) o.words }
    ]).number ≡ o.number
    by None = refl
    by (Some x) = refl

pub not_fresh : (program : Program) (k : Kernel) (o : PrivateState) (g : SchedulingState) → (g ≡ stage.Fresh → ⊥) → begin_if program k o (states.stage g) ≡ o
not_fresh program k o stage.Unstarted h = refl
not_fresh program k o stage.Fresh h = absurd (h refl)
not_fresh program k o stage.Begun h = refl
not_fresh program k o (stage.Asking m) h = refl
not_fresh program k o (stage.Delayed m q) h = refl

-- ---- Where no process was started

next_same : (g : SchedulingState) → g ≢ stage.Fresh → next_stage (states.stage g) ≡ states.stage g
next_same stage.Unstarted h = refl
next_same stage.Fresh h = absurd (h refl)
next_same stage.Begun h = refl
next_same (stage.Asking m) h = refl
next_same (stage.Delayed m q) h = refl

pub stages_same : (gs : List SchedulingState) → HasNoFresh gs → map next_stage (map states.stage gs) ≡ map states.stage gs
stages_same [] none = refl
stages_same (g ∷ gs) none = λ i. next_same g (none 0 g refl) i ∷ stages_same gs (λ j x there. none (suc j) x there) i

begins_none : (program : Program) (k : Kernel) (gs : List SchedulingState) → HasNoFresh gs → (o : PrivateState) (n : ℕ)
    → begin_if program k o (stage_of (map states.stage gs) n) ≡ o
begins_none program k gs none o zero = refl
begins_none program k gs none o (suc r) = at (slice_get gs (suc r - 1)) refl
  where
    at : (x : Option SchedulingState) → slice_get gs (suc r - 1) ≡ x → begin_if program k o (stage_of (map states.stage gs) (suc r)) ≡ o
    at None e = ap (begin_if program k o) (stage_missing gs (suc r) e)
    at (Some g) e = ap (begin_if program k o) (stage_found gs (suc r) g (omega arith) e) ∙ not_fresh program k o g (none (suc r - 1) g e)

pub parts_same : (program : Program) (k : Kernel) (gs : List SchedulingState) → k.stages ≡ map states.stage gs → HasNoFresh gs → (os : List PrivateState)
    → os ≡ map (begin_one program k) os
parts_same program k gs of none [] = refl
parts_same program k gs of none (o ∷ os) =
    let same : begin_one program k o ≡ o = ap (λ hs. begin_if program k o (stage_of hs o.number)) of ∙ begins_none program k gs none o o.number in
    λ i. sym same i ∷ parts_same program k gs of none os i
