-- The gates and stages of a kernel are still those of the state if the machine's effect is that of
-- the meaning.
use Rattle.std.proofs.Common.{◌≡◌, ℕ, zero, suc, ◌-◌, ◌≤◌, ℤ, pos, negsuc, List, [], ◌∷◌, ◌++◌, length, Bool, true, false, Some, refl, ap, sym, subst, ◌∙◌, arith}
use Rattle.std.specs.Prelude.{if◌then◌else◌, nat_eq}
use Rattle.std.proofs.lemmas.List.{length-set}
use Rattle.std.proofs.lemmas.Bool.{eqb-true}
use Rattle.cp_model.specs.Configurations as effect
use Rattle.cp_model.specs.Configurations.{Configuration, Effect, Status, StepResult}
use Rattle.cp_model.specs.Continuations.{Task}
use Rattle.cp_model.specs.Gates as meaning
use Rattle.cp_model.specs.Gates.{made_ready}
use Rattle.cp_model.specs.Outcomes.{Fault, Gives}
use Rattle.cp_model.specs.States.{Free, Gate, HeldBy, Holder, State, Unset, set_status, with_configuration}
use Rattle.cp_model.specs.Turns.{after_step}
use Rattle.cp_model_program.specs.Layout.{natural}
use Rattle.cp_model_machine.specs.Addresses.{Ground}
use Rattle.cp_model_machine.specs.EffectOf.{EffectMeans, IsEffectOf, IsNumber}
use Rattle.cp_model_machine.specs.KernelOf.{AreProcesses, GatesRepresent, StageMeans}
use Rattle.cp_model_machine.specs.KernelSteps as steps
use Rattle.cp_model_machine.specs.KernelSteps.{Asking, Begun, Delayed, Fresh, Kernel, SchedulingState, Unstarted, gate_of, resume_stage, stage_of}
use Rattle.cp_model_machine.specs.Means.{process_of_word}
use Rattle.cp_model_machine.specs.PrivateStates as machine
use Rattle.cp_model_machine.proofs.GatesKept.{gate_set}
use Rattle.cp_model_machine.proofs.StagesKept.{ready_means, stage_set}

append_processes : (n : ℕ) (ps qs : List ℕ) → AreProcesses n ps → AreProcesses n qs → AreProcesses n (ps ++ qs)
append_processes n [] qs h g = g
append_processes n (p ∷ ps) qs h g = (h.0, h.1, append_processes n ps qs h.2 g)

module _ (G : Ground) (monitors processes : ℕ) where
  abbrev Represent : State → Kernel → Type 0
  Represent s k = GatesRepresent G monitors processes s k

  gate_kept : (s : State) (k : Kernel) (m : ℕ) (h : Holder) (ps : List ℕ) → IsNumber monitors m → AreProcesses processes ps → Represent s k → Represent (meaning.set_gate m h ps s) (steps.set_gate m h ps k)
  gate_kept s k m h ps number all S = record {
    gate_count = length-set k.gates (m - 1) (record { holder = h; askers = ps }) ∙ S.gate_count;
    stage_count = S.stage_count;
    gates = gate_set k.gates s.gates m (record { holder = h; askers = ps }) number.0 (omega (arith, number.1, S.gate_count)) S.gates;
    stages = S.stages;
    askers = λ j. by j (nat_eq m j);
  }
    where
      by : (j : ℕ) (b : Bool) → AreProcesses processes (if b then record { holder = h; askers = ps } else s.gates j).askers
      by j true = all
      by j false = S.askers j

  stage_kept : (s : State) (k : Kernel) (p : ℕ) (x : Status) (g : SchedulingState) → 1 ≤ p → (p ≤ length k.stages → StageMeans G x g) → Represent s k → Represent (set_status p x s) (steps.set_stage p g k)
  stage_kept s k p x g low means S = record {
    gate_count = S.gate_count;
    stage_count = length-set k.stages (p - 1) g ∙ S.stage_count;
    gates = S.gates;
    stages = λ q one high. stage_set G k.stages s.status p x g low means S.stages q one (omega (arith, high, length-set k.stages (p - 1) g));
    askers = S.askers;
  }

  ready_kept : (s : State) (k : Kernel) (r : ℕ) → 1 ≤ r → Represent s k → Represent (meaning.make_ready r s) (steps.make_ready r k)
  ready_kept s k r low S =
      stage_kept s k r (made_ready (s.status r)) (resume_stage (stage_of k.stages r)) low (λ high. ready_means G (s.status r) (stage_of k.stages r) (S.stages r low high)) S

  -- The list of askers is the same in both.
  same_askers : (s : State) (k : Kernel) (m : ℕ) → Represent s k → (gate_of k.gates m).askers ≡ (s.gates m).askers
  same_askers s k m S = ap (λ (g : Gate). g.askers) (S.gates m)

  passed_kept : (s : State) (k : Kernel) (m : ℕ) → IsNumber monitors m → Represent s k → Represent (meaning.pass_on m s) (steps.pass_on m k)
  passed_kept s k m number S = subst (λ ps. Represent (meaning.pass_on m s) (steps.pass_to m ps k)) (sym (same_askers s k m S)) (by (s.gates m).askers (S.askers m))
    where
      by : (ps : List ℕ) → AreProcesses processes ps → Represent (meaning.pass_to m ps s) (steps.pass_to m ps k)
      by [] all = gate_kept s k m Free [] number tt S
      by (r ∷ rs) all = ready_kept (meaning.set_gate m (HeldBy r) rs s) (steps.set_gate m (HeldBy r) rs k) r all.0 (gate_kept s k m (HeldBy r) rs number all.2 S)

  entered_kept : (s : State) (k : Kernel) (p m : ℕ) → IsNumber processes p → IsNumber monitors m → Represent s k
      → Represent (meaning.enter p m (s.gates m).holder s) (steps.enter_gate p m (gate_of k.gates m).holder k)
  entered_kept s k p m asker number S =
      subst (λ h. Represent (meaning.enter p m (s.gates m).holder s) (steps.enter_gate p m h k)) (sym (ap (λ (g : Gate). g.holder) (S.gates m))) (by (s.gates m).holder)
    where
      taken : Holder → Represent (meaning.set_gate m (HeldBy p) (s.gates m).askers s) (steps.set_gate m (HeldBy p) (gate_of k.gates m).askers k)
      taken h =
          subst (λ ps. Represent (meaning.set_gate m (HeldBy p) (s.gates m).askers s) (steps.set_gate m (HeldBy p) ps k)) (sym (same_askers s k m S))
          (gate_kept s k m (HeldBy p) (s.gates m).askers number (S.askers m) S)

      by : (h : Holder) → Represent (meaning.enter p m h s) (steps.enter_gate p m h k)
      by (HeldBy q) =
          subst (λ ps. Represent (meaning.enter p m (HeldBy q) s) (steps.set_stage p (Asking m) (steps.set_gate m (HeldBy q) (ps ++ p ∷ []) k))) (sym (same_askers s k m S))
          (stage_kept (meaning.set_gate m (HeldBy q) ((s.gates m).askers ++ p ∷ []) s) (steps.set_gate m (HeldBy q) ((s.gates m).askers ++ p ∷ []) k) p (effect.Asking m) (Asking m) asker.0 (λ high. refl)
          (gate_kept s k m (HeldBy q) ((s.gates m).askers ++ p ∷ []) number (append_processes processes (s.gates m).askers (p ∷ []) (S.askers m) (asker.0, asker.1, tt)) S))
      by Free = taken Free
      by Unset = taken Unset

  resumed_kept : (s : State) (k : Kernel) (m : ℕ) (n : ℤ) → IsNumber monitors m → Represent s k → Represent (meaning.resume m (process_of_word n) s) (steps.resume m (natural n) k)
  resumed_kept s k m (pos zero) number S = passed_kept s k m number S
  resumed_kept s k m (negsuc n) number S = passed_kept s k m number S
  resumed_kept s k m (pos (suc r)) number S =
      subst (λ ps. Represent (meaning.resume m (Some (suc r)) s) (steps.make_ready (suc r) (steps.set_gate m (HeldBy (suc r)) ps k))) (sym (same_askers s k m S))
      (ready_kept (meaning.set_gate m (HeldBy (suc r)) (s.gates m).askers s) (steps.set_gate m (HeldBy (suc r)) (s.gates m).askers k) (suc r) (omega arith)
      (gate_kept s k m (HeldBy (suc r)) (s.gates m).askers number (S.askers m) S))

  -- An unstarted process becomes fresh, in both.
  started_kept : (s : State) (k : Kernel) (r : ℕ) (j : List Task) → IsNumber processes r → Represent s k → Represent (meaning.start_process r j (s.status r) s) (steps.start_process r (stage_of k.stages r) k)
  started_kept s k r j number S = by (s.status r) (stage_of k.stages r) (S.stages r number.0 (omega (arith, number.1, S.stage_count)))
    where
      by : (x : Status) (g : SchedulingState) → StageMeans G x g → Represent (meaning.start_process r j x s) (steps.start_process r g k)
      by effect.Unstarted Unstarted h = from_state (stage_kept s k r effect.Fresh Fresh number.0 (λ high. tt) S)
        where
          from_state : Represent (set_status r effect.Fresh s) (steps.set_stage r Fresh k) → Represent (meaning.start_process r j effect.Unstarted s) (steps.set_stage r Fresh k)
          from_state T = record { gate_count = T.gate_count; stage_count = T.stage_count; gates = T.gates; stages = T.stages; askers = T.askers }
      by effect.Fresh Fresh h = S
      by (effect.Asking m) (Asking n) h = S
      by (effect.Delayed m q) (Delayed n at) h = S
      by effect.Ready Begun h = S
      by effect.Ended Begun h = S
      by effect.Waiting Begun h = S
      by (effect.Faulted n) Begun h = S
      by _ _ h = absurd h

  module _ (s : State) (k : Kernel) (own p : ℕ) (number : IsNumber processes p) (ready : s.status p ≡ effect.Ready) (S : Represent s k) where
    -- The kernel knows only that the process has begun.
    pub begun : stage_of k.stages p ≡ Begun
    begun = by (stage_of k.stages p) (subst (λ x. StageMeans G x (stage_of k.stages p)) ready (S.stages p number.0 (omega (arith, number.1, S.stage_count))))
      where
        by : (g : SchedulingState) → StageMeans G effect.Ready g → g ≡ Begun
        by Begun h = refl
        by _ h = absurd h

    -- So the kernel doesn't depend on how the process continues.
    status_kept : (x : Status) → StageMeans G x Begun → Represent (set_status p x s) k
    status_kept x means = record {
      gate_count = S.gate_count;
      stage_count = S.stage_count;
      gates = S.gates;
      stages = λ q one high. by q one high (nat_eq p q) refl;
      askers = S.askers;
    }
      where
        by : (q : ℕ) → 1 ≤ q → q ≤ length k.stages → (b : Bool) → nat_eq p q ≡ b → StageMeans G (if b then x else s.status q) (stage_of k.stages q)
        by q one high true e = subst (StageMeans G x) (sym (ap (stage_of k.stages) (sym (eqb-true p q e)) ∙ begun)) means
        by q one high false e = S.stages q one high

    moved : (c : Configuration) → Represent (with_configuration s p c) k
    moved c = record { gate_count = S.gate_count; stage_count = S.stage_count; gates = S.gates; stages = S.stages; askers = S.askers }

    applied : (c : Configuration) (x : Effect) (e : machine.Effect) → EffectMeans G monitors processes own x e → Represent (after_step s p (Gives (c, x))) (steps.apply_effect own p e k)
    applied c effect.Own machine.NoEffect h = moved c
    applied c effect.Ends machine.NoEffect h = from (status_kept effect.Ended tt)
      where
        from : Represent (set_status p effect.Ended s) k → Represent (set_status p effect.Ended (with_configuration s p c)) k
        from T = record { gate_count = T.gate_count; stage_count = T.stage_count; gates = T.gates; stages = T.stages; askers = T.askers }
    applied c effect.Waits machine.NoEffect h = from (status_kept effect.Waiting tt)
      where
        from : Represent (set_status p effect.Waiting s) k → Represent (set_status p effect.Waiting (with_configuration s p c)) k
        from T = record { gate_count = T.gate_count; stage_count = T.stage_count; gates = T.gates; stages = T.stages; askers = T.askers }
    applied c (effect.Enters m) (machine.Enters n) h =
        subst (λ z. Represent (after_step s p (Gives (c, effect.Enters m))) (steps.apply_effect own p (machine.Enters z) k)) h.0 (entered_kept (with_configuration s p c) k p m number h.1 (moved c))
    applied c (effect.Leaves m) (machine.Leaves n) h =
        subst (λ z. Represent (after_step s p (Gives (c, effect.Leaves m))) (steps.apply_effect own p (machine.Leaves z) k)) h.0 (passed_kept (with_configuration s p c) k m h.1 (moved c))
    applied c (effect.Delays m q) (machine.Delays n at) h =
        subst (λ z. Represent (after_step s p (Gives (c, effect.Delays m q))) (steps.apply_effect own p (machine.Delays z at) k)) h.0
        (passed_kept (set_status p (effect.Delayed m q) (with_configuration s p c)) (steps.set_stage p (Delayed m (at - own)) k) m h.1
        (stage_kept (with_configuration s p c) k p (effect.Delayed m q) (Delayed m (at - own)) number.0 (λ high. (refl, h.2)) (moved c)))
    applied c (effect.Continues m r) (machine.Continues n z) h =
        subst (λ y. Represent (after_step s p (Gives (c, effect.Continues m y))) (steps.apply_effect own p (machine.Continues n z) k)) (sym h.2)
        (subst (λ y. Represent (after_step s p (Gives (c, effect.Continues m (process_of_word z)))) (steps.apply_effect own p (machine.Continues y z) k)) h.0
        (resumed_kept (with_configuration s p c) k m z h.1 (moved c)))
    applied c (effect.Opens m) (machine.Opens n) h =
        subst (λ z. Represent (after_step s p (Gives (c, effect.Opens m))) (steps.apply_effect own p (machine.Opens z) k)) h.0 (gate_kept (with_configuration s p c) k m (HeldBy p) [] h.1 tt (moved c))
    applied c (effect.Starts r j) (machine.Starts n) h =
        subst (λ z. Represent (after_step s p (Gives (c, effect.Starts r j))) (steps.apply_effect own p (machine.Starts z) k)) h.0 (started_kept (with_configuration s p c) k r j h.1 (moved c))
    applied c _ _ h = absurd h

    -- The gates and stages after a step of `p`.
    pub kernel_kept : (x : StepResult) (e : machine.Effect) → IsEffectOf G monitors processes own x e → Represent (after_step s p x) (steps.apply_effect own p e k)
    kernel_kept (Gives x) e h = applied x.0 x.1 e h
    kernel_kept (Fault n) e h = subst (λ z. Represent (after_step s p (Fault n)) (steps.apply_effect own p z k)) (sym h) (status_kept (effect.Faulted n) tt)
