-- What a core reports of its states: whether they are still, whether all have ended, and who has faulted.
--
-- All that is read off the status of a process. It can be read off the stage and the activity, too.
use Rattle.std.specs.Prelude.{Bool, List, None, Option, Some, [], false, if◌then◌else◌, nat_eq, refl, slice_get, suc, true, zero, ℕ, ◌-◌, ◌∷◌, ◌≡◌, ◌≤◌}
use Rattle.std.proofs.Common.{ap, arith, subst, sym, ◌∙◌}
use Rattle.std.proofs.lemmas.Bool.{eqb-true, true≢false}
use Rattle.cp_model.proofs.Lists.{in_head, in_more}
use Rattle.cp_model.specs.Configurations as status
use Rattle.cp_model.specs.Configurations.{Status}
use Rattle.cp_model.specs.Parts as parts
use Rattle.cp_model.specs.Parts.{PrivateStatus, private_status}
use Rattle.cp_model.specs.States.{Setup, State, is_in, process_count, processes}
use Rattle.cp_model.specs.declared.state.Fault.{Fault}
use Rattle.cp_model.specs.StateViews.{fault_number}
use Rattle.cp_model_machine.specs.Addresses.{Ground}
use Rattle.cp_model_machine.specs.InState.{IsIn}
use Rattle.cp_model_machine.specs.KernelOf.{StageMeans, kernel_ground}
use Rattle.cp_model_machine.specs.KernelSteps as kernel
use Rattle.cp_model_machine.specs.KernelSteps.{SchedulingState, stage_of}
use Rattle.cp_model_machine.specs.Machines.{Machine}
use Rattle.cp_model_machine.specs.PartOf.{status_of}
use Rattle.cp_model_machine.specs.PrivateStates as machine
use Rattle.cp_model_machine.specs.PrivateStates.{Activity, PrivateState}
use Rattle.cp_law_stillness.specs.Stillness.{can_move, is_still, none_can_move}
use Rattle.cp_law_cores.specs.Cores.{Core, core, part, silent}
use Rattle.cp_law_cores.specs.Laws.{CoreReportsEnd, CoreReportsFaults, CoreReportsSound, CoreReportsStill}
use Rattle.cp_law_cores.specs.Verdicts as seen
use Rattle.cp_law_cores.specs.Verdicts.{HasFault, all_parts, all_pass, core_has_ended, core_is_sound, core_is_still, is_active, has_ended, has_no_fault, is_end, is_sound, moves, none_moves, part_passes}
use Rattle.cp_law_cores.proofs.Parts.{got, in_range, map_got}

-- ---- One process

status_moves : (G : Ground) (x : Status) (y : SchedulingState) (a : Activity) → StageMeans G x y → private_status x ≡ status_of a → can_move x ≡ moves y a
status_moves G status.Unstarted kernel.Unstarted a h e = refl
status_moves G status.Fresh kernel.Fresh a h e = refl
status_moves G (status.Asking m) (kernel.Asking k) a h e = refl
status_moves G (status.Delayed m q) (kernel.Delayed k n) a h e = refl
status_moves G status.Ready kernel.Begun a h e = by a e
  where
    by : (z : Activity) → ◌≡◌ {A = PrivateStatus} parts.Running (status_of z) → true ≡ is_active z
    by machine.Running e = refl
    by machine.Waiting e = refl
    by machine.NotBegun e = absurd (cc)
    by machine.Ended e = absurd (cc)
    by (machine.Faulted f) e = absurd (cc)
status_moves G status.Waiting kernel.Begun a h e = by a e
  where
    by : (z : Activity) → ◌≡◌ {A = PrivateStatus} parts.Sleeping (status_of z) → true ≡ is_active z
    by machine.Running e = refl
    by machine.Waiting e = refl
    by machine.NotBegun e = absurd (cc)
    by machine.Ended e = absurd (cc)
    by (machine.Faulted f) e = absurd (cc)
status_moves G status.Ended kernel.Begun a h e = by a e
  where
    by : (z : Activity) → ◌≡◌ {A = PrivateStatus} parts.Finished (status_of z) → false ≡ is_active z
    by machine.Running e = absurd (cc)
    by machine.Waiting e = absurd (cc)
    by machine.NotBegun e = refl
    by machine.Ended e = refl
    by (machine.Faulted f) e = refl
status_moves G (status.Faulted n) kernel.Begun a h e = by a e
  where
    by : (z : Activity) → ◌≡◌ {A = PrivateStatus} (parts.Failed n) (status_of z) → false ≡ is_active z
    by machine.Running e = absurd (cc)
    by machine.Waiting e = absurd (cc)
    by machine.NotBegun e = refl
    by machine.Ended e = refl
    by (machine.Faulted f) e = refl
status_moves G _ _ a h e = absurd h

abbrev private_ended : PrivateStatus → Bool
private_ended parts.Finished = true
private_ended _ = false

abbrev private_sound : PrivateStatus → Bool
private_sound (parts.Failed n) = false
private_sound _ = true

ended_by : (x : Status) → has_ended x ≡ private_ended (private_status x)
ended_by status.Unstarted = refl
ended_by status.Fresh = refl
ended_by status.Ready = refl
ended_by status.Ended = refl
ended_by status.Waiting = refl
ended_by (status.Asking m) = refl
ended_by (status.Delayed m q) = refl
ended_by (status.Faulted n) = refl

end_by : (a : Activity) → is_end a ≡ private_ended (status_of a)
end_by machine.NotBegun = refl
end_by machine.Running = refl
end_by machine.Waiting = refl
end_by machine.Ended = refl
end_by (machine.Faulted f) = refl

no_fault_by : (x : Status) → has_no_fault x ≡ private_sound (private_status x)
no_fault_by status.Unstarted = refl
no_fault_by status.Fresh = refl
no_fault_by status.Ready = refl
no_fault_by status.Ended = refl
no_fault_by status.Waiting = refl
no_fault_by (status.Asking m) = refl
no_fault_by (status.Delayed m q) = refl
no_fault_by (status.Faulted n) = refl

sound_by : (a : Activity) → is_sound a ≡ private_sound (status_of a)
sound_by machine.NotBegun = refl
sound_by machine.Running = refl
sound_by machine.Waiting = refl
sound_by machine.Ended = refl
sound_by (machine.Faulted f) = refl

-- ---- All processes

same_moves : (s : State) (c : Core) (ps : List ℕ) → ((p : ℕ) → is_in p ps ≡ true → seen.can_move c.kernel (part c.parts p) ≡ can_move (s.status p))
    → none_moves c ps ≡ none_can_move s ps
same_moves s c [] same = refl
same_moves s c (p ∷ ps) same =
    let here = same p (in_head p ps) in
    let rest = same_moves s c ps (λ q h. same q (in_more q p ps h)) in
    λ i. if here i then false else rest i

same_tests : (f : Activity → Bool) (g : Status → Bool) (s : State) (c : Core) (ps : List ℕ)
    → ((p : ℕ) → is_in p ps ≡ true → part_passes f (part c.parts p) ≡ g (s.status p)) → all_parts f c ps ≡ all_pass g s ps
same_tests f g s c [] same = refl
same_tests f g s c (p ∷ ps) same =
    let here = same p (in_head p ps) in
    let rest = same_tests f g s c ps (λ q h. same q (in_more q p ps h)) in
    λ i. if here i then rest i else false

module _ (m : Machine) (setup : Setup) (s : State) (I : IsIn m setup s) where
  record Reported (p : ℕ) : Type 0 where
    own : PrivateState
    there : part (core m).parts p ≡ Some own
    moving : can_move (s.status p) ≡ moves (stage_of m.kernel.stages own.number) own.activity
    private : private_status (s.status p) ≡ status_of own.activity

  reported : (p : ℕ) → (1 ≤ p) × (p ≤ process_count setup) → Reported p
  reported zero range = absurd (let low = range.0 in Prim.omega (arith, low))
  reported (suc i) range =
      let high = range.1 in
      let count = I.part_count in
      let stages = I.kernel.gates_represent.stage_count in
      let x = got m.parts i (Prim.omega (arith, high, count)) in
      let place : i ≡ suc i - 1 = Prim.omega arith in
      let represents = I.parts (suc i) x.0 (Prim.omega arith) (subst (λ k. slice_get m.parts k ≡ Some x.0) place x.1) in
      record {
        own = silent x.0;
        there = map_got silent m.parts i x.0 x.1;
        moving =
            status_moves (kernel_ground m.program I.represents.texts setup) (s.status (suc i)) (stage_of m.kernel.stages (suc i)) x.0.activity
            (I.kernel.gates_represent.stages (suc i) (Prim.omega arith) (Prim.omega (arith, high, stages))) represents.part.status
            ∙ ap (λ n. moves (stage_of m.kernel.stages n) x.0.activity) (sym represents.part.number);
        private = represents.part.status;
      }

  reports_still : core_is_still (process_count setup) (core m) ≡ is_still setup s
  reports_still = same_moves s (core m) (processes setup) (λ p h.
      let t = reported p (in_range setup p h) in
      ap (seen.can_move m.kernel) t.there ∙ sym t.moving)

  reports_end : core_has_ended (process_count setup) (core m) ≡ all_pass has_ended s (processes setup)
  reports_end = same_tests is_end has_ended s (core m) (processes setup) (λ p h.
      let t = reported p (in_range setup p h) in
      ap (part_passes is_end) t.there ∙ (end_by t.own.activity ∙ (ap private_ended (sym t.private) ∙ sym (ended_by (s.status p)))))

  reports_sound : core_is_sound (process_count setup) (core m) ≡ all_pass has_no_fault s (processes setup)
  reports_sound = same_tests is_sound has_no_fault s (core m) (processes setup) (λ p h.
      let t = reported p (in_range setup p h) in
      ap (part_passes is_sound) t.there ∙ (sound_by t.own.activity ∙ (ap private_sound (sym t.private) ∙ sym (no_fault_by (s.status p)))))

pub core_reports_still : CoreReportsStill
core_reports_still setup s c h = subst (λ z. core_is_still (process_count setup) z ≡ is_still setup s) h.is (reports_still h.machine setup s h.inside)

pub core_reports_end : CoreReportsEnd
core_reports_end setup s c h = subst (λ z. core_has_ended (process_count setup) z ≡ all_pass has_ended s (processes setup)) h.is (reports_end h.machine setup s h.inside)

pub core_reports_sound : CoreReportsSound
core_reports_sound setup s c h = subst (λ z. core_is_sound (process_count setup) z ≡ all_pass has_no_fault s (processes setup)) h.is (reports_sound h.machine setup s h.inside)

-- ---- Faults

failed_is : (a : Activity) (n : ℕ) → parts.Failed n ≡ status_of a → (f : Fault) × (a ≡ machine.Faulted f) × (fault_number f ≡ n)
failed_is (machine.Faulted f) n e = (f, refl, sym (ap number e))
  where
    number : PrivateStatus → ℕ
    number (parts.Failed k) = k
    number _ = 0
failed_is machine.Running n e = absurd (cc)
failed_is machine.Waiting n e = absurd (cc)
failed_is machine.NotBegun n e = absurd (cc)
failed_is machine.Ended n e = absurd (cc)

module _ (m : Machine) (setup : Setup) (s : State) (I : IsIn m setup s) (number : ℕ) where
  fault_there : (p : ℕ) → (1 ≤ p) × (p ≤ process_count setup) → s.status p ≡ status.Faulted number → HasFault (core m) p number
  fault_there zero range e = absurd (let low = range.0 in Prim.omega (arith, low))
  fault_there (suc i) range e =
      let high = range.1 in
      let count = I.part_count in
      let x = got m.parts i (Prim.omega (arith, high, count)) in
      let place : i ≡ suc i - 1 = Prim.omega arith in
      let represents = I.parts (suc i) x.0 (Prim.omega arith) (subst (λ k. slice_get m.parts k ≡ Some x.0) place x.1) in
      let f = failed_is x.0.activity number (sym (ap private_status e) ∙ represents.part.status) in
      record {
        own = silent x.0;
        there = map_got silent m.parts i x.0 x.1;
        fault = f.0;
        stopped = f.1;
        is = f.2;
      }

pub faulted_is : (x : Status) (n : ℕ) → private_status x ≡ parts.Failed n → x ≡ status.Faulted n
faulted_is (status.Faulted k) n e = ap status.Faulted (ap number e)
  where
    number : PrivateStatus → ℕ
    number (parts.Failed k) = k
    number _ = 0
faulted_is status.Unstarted n e = absurd (cc)
faulted_is status.Fresh n e = absurd (cc)
faulted_is status.Ready n e = absurd (cc)
faulted_is status.Ended n e = absurd (cc)
faulted_is status.Waiting n e = absurd (cc)
faulted_is (status.Asking m) n e = absurd (cc)
faulted_is (status.Delayed m q) n e = absurd (cc)

pub core_reports_faults : CoreReportsFaults
core_reports_faults setup s c p number h there =
    (λ e. subst (λ (z : Core). HasFault z p number) h.is (fault_there h.machine setup s h.inside number p (in_range setup p there) e), back)
  where
    own_status : Option PrivateState → PrivateStatus
    own_status None = parts.Running
    own_status (Some o) = status_of o.activity

    back : HasFault c p number → s.status p ≡ status.Faulted number
    back fault =
        let t = reported h.machine setup s h.inside p (in_range setup p there) in
        let same : Some t.own ≡ Some fault.own = sym t.there ∙ (ap (λ (z : Core). part z.parts p) h.is ∙ fault.there) in
        faulted_is (s.status p) number (t.private ∙ (ap own_status same ∙ (ap status_of fault.stopped ∙ ap parts.Failed fault.is)))

pub unsound_if : (c : Core) (ps : List ℕ) (p : ℕ) → is_in p ps ≡ true → part_passes is_sound (part c.parts p) ≡ false → all_parts is_sound c ps ≡ false
unsound_if c [] p there h = absurd (true≢false (sym there))
unsound_if c (q ∷ ps) p there h = by (nat_eq p q) refl there (unsound_if c ps p)
  where
    rest : (b : Bool) → (if b then false else false) ≡ false
    rest true = refl
    rest false = refl

    by : (b : Bool) → nat_eq p q ≡ b → (if b then true else is_in p ps) ≡ true
        → (is_in p ps ≡ true → part_passes is_sound (part c.parts p) ≡ false → all_parts is_sound c ps ≡ false)
        → (if part_passes is_sound (part c.parts q) then all_parts is_sound c ps else false) ≡ false
    by true e there later =
        ap (λ b. if b then all_parts is_sound c ps else false) (ap (λ r. part_passes is_sound (part c.parts r)) (sym (eqb-true p q e)) ∙ h)
    by false e there later =
        ap (λ b. if part_passes is_sound (part c.parts q) then b else false) (later there h) ∙ rest (part_passes is_sound (part c.parts q))
