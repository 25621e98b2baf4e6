-- A kernel turn leaves every other process begun that has begun.
use Rattle.std.specs.Prelude.{◌≡◌, ◌≢◌, refl, ℕ, zero, suc, ◌-◌, Bool, true, false, if◌then◌else◌, List, [], ◌∷◌, ◌++◌, length, drop, nat_eq, slice_set, get_or}
use Rattle.std.proofs.Common.{sym, ◌∙◌, ap, arith}
use Rattle.std.proofs.lemmas.Bool.{eqb-true, eq-eqb, true≢false}
use Rattle.cp_model.specs.States.{Free, HeldBy, Holder, Unset}
use Rattle.cp_model_program.specs.Layout.{natural}
use Rattle.cp_model_program.specs.Programs.{Program}
use Rattle.cp_model_machine.specs.KernelSteps.{Asking, Begun, Delayed, Fresh, Kernel, SchedulingState, Turning, Unstarted, apply_effect, enter_gate, gate_of, is_begun, is_due, join_words, kernel_step, kernel_steps, make_ready, outside, part_words, pass_to, resume, resume_stage, set_gate, set_stage, stage_of, start_process}
use Rattle.cp_model_machine.specs.PrivateStates.{Continues, Delays, Effect, Enters, Leaves, NoEffect, Opens, Starts}
use Rattle.cp_model_machine.specs.Steps.{step_with}
use Rattle.cp_model_machine.proofs.StagesKept.{stage_is}
use Rattle.cp_model_machine.specs.Ahead.{HasBegun}
use Rattle.cp_model_machine.proofs.AheadNumbers.{step_keeps_number}

-- ---- Lists of stages

begun_here : (gs : List SchedulingState) (i n : ℕ) → get_or gs n Begun ≡ Begun → get_or (slice_set gs i Begun) n Begun ≡ Begun
begun_here [] i n h = h
begun_here (g ∷ gs) zero zero h = refl
begun_here (g ∷ gs) zero (suc n) h = h
begun_here (g ∷ gs) (suc i) zero h = h
begun_here (g ∷ gs) (suc i) (suc n) h = begun_here gs i n h

begun_apart : (gs : List SchedulingState) (i n : ℕ) (g : SchedulingState) → n ≢ i → get_or gs n Begun ≡ Begun → get_or (slice_set gs i g) n Begun ≡ Begun
begun_apart [] i n g ne h = h
begun_apart (x ∷ gs) zero zero g ne h = absurd (ne refl)
begun_apart (x ∷ gs) zero (suc n) g ne h = h
begun_apart (x ∷ gs) (suc i) zero g ne h = h
begun_apart (x ∷ gs) (suc i) (suc n) g ne h = begun_apart gs i n g (λ e. ne (ap suc e)) h

-- ---- Effects

module _ (n : ℕ) where
  other_begun : (p : ℕ) (g : SchedulingState) (k : Kernel) → n ≢ p - 1 → HasBegun n k → HasBegun n (set_stage p g k)
  other_begun p g k ne h = record { stage = begun_apart k.stages (p - 1) n g ne h.stage }

  ready_begun : (r : ℕ) (k : Kernel) → HasBegun n k → HasBegun n (make_ready r k)
  ready_begun zero k h = record { stage = begun_here k.stages 0 n h.stage }
  ready_begun (suc r) k h = by (nat_eq n r) refl
    where
      by : (b : Bool) → nat_eq n r ≡ b → HasBegun n (make_ready (suc r) k)
      by true e =
          let same : n ≡ r = eqb-true n r e in
          let was : stage_of k.stages (suc r) ≡ Begun = stage_is k.stages r ∙ (ap (λ i. get_or k.stages i Begun) (sym same) ∙ h.stage) in
          record { stage = ap (λ g. get_or (slice_set k.stages (suc r - 1) (resume_stage g)) n Begun) was ∙ begun_here k.stages (suc r - 1) n h.stage }
      by false e =
          record {
            stage = begun_apart k.stages (suc r - 1) n (resume_stage (stage_of k.stages (suc r)))
                (λ f. true≢false (sym (eq-eqb n r (omega (arith, f))) ∙ e)) h.stage;
          }

  pass_begun : (m : ℕ) (askers : List ℕ) (k : Kernel) → HasBegun n k → HasBegun n (pass_to m askers k)
  pass_begun m [] k h = record { stage = h.stage }
  pass_begun m (r ∷ rs) k h = ready_begun r (set_gate m (HeldBy r) rs k) (record { stage = h.stage })

  enter_begun : (p m : ℕ) (h : Holder) (k : Kernel) → n ≢ p - 1 → HasBegun n k → HasBegun n (enter_gate p m h k)
  enter_begun p m (HeldBy q) k ne b =
      other_begun p (Asking m) (set_gate m (HeldBy q) ((gate_of k.gates m).askers ++ p ∷ []) k) ne (record { stage = b.stage })
  enter_begun p m Free k ne b = record { stage = b.stage }
  enter_begun p m Unset k ne b = record { stage = b.stage }

  resume_begun : (m r : ℕ) (k : Kernel) → HasBegun n k → HasBegun n (resume m r k)
  resume_begun m zero k b = pass_begun m (gate_of k.gates m).askers k b
  resume_begun m (suc r) k b = ready_begun (suc r) (set_gate m (HeldBy (suc r)) (gate_of k.gates m).askers k) (record { stage = b.stage })

  start_begun : (r : ℕ) (g : SchedulingState) (k : Kernel) → stage_of k.stages r ≡ g → HasBegun n k → HasBegun n (start_process r g k)
  start_begun zero Unstarted k is b = absurd (true≢false (ap is_begun is))
  start_begun (suc i) Unstarted k is b =
      other_begun (suc i) Fresh k
      (λ e.
      let same : n ≡ i = omega (arith, e) in
      true≢false (ap is_begun (sym b.stage ∙ (ap (λ j. get_or k.stages j Begun) same ∙ (sym (stage_is k.stages i) ∙ is)))))
      b
  start_begun r Fresh k is b = b
  start_begun r Begun k is b = b
  start_begun r (Asking m) k is b = b
  start_begun r (Delayed m q) k is b = b

  effect_begun : (own p : ℕ) (e : Effect) (k : Kernel) → n ≢ p - 1 → HasBegun n k → HasBegun n (apply_effect own p e k)
  effect_begun own p NoEffect k ne b = b
  effect_begun own p (Enters m) k ne b = enter_begun p m (gate_of k.gates m).holder k ne b
  effect_begun own p (Leaves m) k ne b = pass_begun m (gate_of k.gates m).askers k b
  effect_begun own p (Delays m q) k ne b =
      let after = set_stage p (Delayed m (q - own)) k in
      pass_begun m (gate_of after.gates m).askers after (other_begun p (Delayed m (q - own)) k ne b)
  effect_begun own p (Continues m r) k ne b = resume_begun m (natural r) k b
  effect_begun own p (Opens m) k ne b = record { stage = b.stage }
  effect_begun own p (Starts r) k ne b = start_begun r (stage_of k.stages r) k refl b

  -- ---- Steps

  step_begun : (program : Program) (at : ℕ) (x : Turning) → n ≢ x.own.number - 1 → HasBegun n x.kernel → HasBegun n (kernel_step program at x).kernel
  step_begun program at x ne b = by (is_due program x)
    where
      by : (c : Bool)
          → HasBegun n (if c then part_words (length x.own.words) x (step_with program (outside at x) (join_words x)) else x).kernel
      by true =
          effect_begun (length x.own.words) x.own.number (step_with program (outside at x) (join_words x)).1
          (record x.kernel { shared = drop (length x.own.words) (step_with program (outside at x) (join_words x)).0.words }) ne
          (record { stage = b.stage })
      by false = b

kernel_step_number : (program : Program) (at : ℕ) (x : Turning) → (kernel_step program at x).own.number ≡ x.own.number
kernel_step_number program at x = by (is_due program x)
  where
    by : (c : Bool) → (if c then part_words (length x.own.words) x (step_with program (outside at x) (join_words x)) else x).own.number ≡ x.own.number
    by true = step_keeps_number program (outside at x) (join_words x)
    by false = refl

pub kernel_steps_number : (program : Program) (at t : ℕ) (x : Turning) → (kernel_steps program at t x).own.number ≡ x.own.number
kernel_steps_number program at zero x = refl
kernel_steps_number program at (suc t) x = kernel_steps_number program at t (kernel_step program at x) ∙ kernel_step_number program at x

pub others_begun : (program : Program) (at t n : ℕ) (x : Turning) → n ≢ x.own.number - 1 → HasBegun n x.kernel
    → HasBegun n (kernel_steps program at t x).kernel
others_begun program at zero n x ne b = b
others_begun program at (suc t) n x ne b =
    others_begun program at t n (kernel_step program at x)
    (λ e. ne (e ∙ ap (λ p. p - 1) (kernel_step_number program at x))) (step_begun n program at x ne b)
