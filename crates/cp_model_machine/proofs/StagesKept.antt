-- The kernel's stages are those of the statuses, even after one of them is set and after a process
-- is made ready.
use Rattle.std.proofs.Common.{◌≡◌, ℕ, zero, suc, ◌-◌, ◌≤◌, List, [], ◌∷◌, length, Bool, true, false, refl, ap, sym, subst, ◌∙◌, arith}
use Rattle.std.specs.Prelude.{get_or, if◌then◌else◌, nat_eq, slice_set}
use Rattle.std.proofs.lemmas.Bool.{eqb-true, eq-eqb, true≢false}
use Rattle.std.proofs.lemmas.List.{get_or-set_other, get_or-set_same}
use Rattle.cp_model.specs.Configurations as status
use Rattle.cp_model.specs.Configurations.{Status}
use Rattle.cp_model.specs.Gates.{made_ready}
use Rattle.cp_model.specs.States.{with_at}
use Rattle.cp_model_machine.specs.Addresses.{Ground}
use Rattle.cp_model_machine.specs.KernelOf.{StageMeans}
use Rattle.cp_model_machine.specs.KernelSteps.{Asking, Begun, Delayed, Fresh, SchedulingState, Unstarted, resume_stage, stage_of}
use Rattle.cp_model_machine.proofs.Tables.{one_less}

abbrev pub StagesMean : Ground → List SchedulingState → (ℕ → Status) → Type 0
StagesMean G gs f = (p : ℕ) → 1 ≤ p → p ≤ length gs → StageMeans G (f p) (stage_of gs p)

pub stage_is : (gs : List SchedulingState) (p : ℕ) → stage_of gs (suc p) ≡ get_or gs p Begun
stage_is [] p = refl
stage_is (g ∷ gs) zero = refl
stage_is (g ∷ gs) (suc p) = stage_is gs p

-- The stage and the status of one process are set.
pub stage_set : (G : Ground) (gs : List SchedulingState) (f : ℕ → Status) (p : ℕ) (x : Status) (g : SchedulingState) → 1 ≤ p → (p ≤ length gs → StageMeans G x g) → StagesMean G gs f
    → (q : ℕ) → 1 ≤ q → q ≤ length gs → StageMeans G (with_at p x f q) (stage_of (slice_set gs (p - 1) g) q)
stage_set G gs f zero x g low means all q one high = absurd (omega (arith, low))
stage_set G gs f (suc i) x g low means all zero one high = absurd (omega (arith, one))
stage_set G gs f (suc i) x g low means all (suc n) one high =
    subst (StageMeans G (with_at (suc i) x f (suc n))) (sym (stage_is (slice_set gs (suc i - 1) g) n ∙ ap (λ k. get_or (slice_set gs k g) n Begun) (one_less i))) (by (nat_eq (suc i) (suc n)) refl)
  where
    by : (b : Bool) → nat_eq (suc i) (suc n) ≡ b → StageMeans G (if b then x else f (suc n)) (get_or (slice_set gs i g) n Begun)
    by true e =
        let here : n ≡ i = omega (arith, eqb-true (suc i) (suc n) e) in
        subst (StageMeans G x) (sym (ap (λ k. get_or (slice_set gs i g) k Begun) here ∙ get_or-set_same gs i g Begun (omega (arith, high, here)))) (means (omega (arith, high, here)))
    by false e =
        subst (StageMeans G (f (suc n))) (stage_is gs n ∙ sym (get_or-set_other gs i n g Begun (λ h. true≢false (sym (eq-eqb (suc i) (suc n) (omega (arith, h))) ∙ e)))) (all (suc n) one high)

-- A process that asks for a gate or is delayed is made ready, in both.
pub ready_means : (G : Ground) (x : Status) (g : SchedulingState) → StageMeans G x g → StageMeans G (made_ready x) (resume_stage g)
ready_means G status.Unstarted Unstarted h = tt
ready_means G status.Fresh Fresh h = tt
ready_means G (status.Asking m) (Asking k) h = tt
ready_means G (status.Delayed m q) (Delayed k n) h = tt
ready_means G status.Ready Begun h = tt
ready_means G status.Ended Begun h = tt
ready_means G status.Waiting Begun h = tt
ready_means G (status.Faulted n) Begun h = tt
ready_means G _ _ h = absurd h
