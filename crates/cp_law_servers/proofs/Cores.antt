-- What a core reports of who is done.
use Rattle.std.specs.Prelude.{Bool, List, Some, [], false, if◌then◌else◌, refl, slice_get, suc, true, zero, ℕ, ◌-◌, ◌∷◌, ◌≡◌, ◌≤◌}
use Rattle.std.proofs.Common.{ap, arith, subst, sym, ◌∙◌}
use Rattle.cp_model.proofs.Lists.{in_head, in_more}
use Rattle.cp_model.specs.Configurations as status
use Rattle.cp_model.specs.Configurations.{Status}
use Rattle.cp_model.specs.Parts as parts
use Rattle.cp_model.specs.Parts.{PrivateStatus, private_status}
use Rattle.cp_model.specs.States.{Setup, State, is_in, process_count, processes}
use Rattle.cp_model_machine.specs.Addresses.{Ground}
use Rattle.cp_model_machine.specs.InState.{IsIn}
use Rattle.cp_model_machine.specs.KernelOf.{StageMeans, kernel_ground}
use Rattle.cp_model_machine.specs.KernelSteps as kernel
use Rattle.cp_model_machine.specs.KernelSteps.{SchedulingState, stage_of}
use Rattle.cp_model_machine.specs.Machines.{Machine}
use Rattle.cp_model_machine.specs.PartOf.{status_of}
use Rattle.cp_model_machine.specs.PrivateStates as machine
use Rattle.cp_model_machine.specs.PrivateStates.{Activity, PrivateState}
use Rattle.cp_law_cores.specs.Cores.{Core, core, part, silent}
use Rattle.cp_law_cores.specs.Verdicts.{is_end}
use Rattle.cp_law_cores.proofs.Parts.{got, in_range, map_got}
use Rattle.cp_law_servers.specs.Laws.{CoreReportsDone}
use Rattle.cp_law_servers.specs.Servers.{all_done, core_is_done, is_done, is_done_at, part_is_done, parts_are_done}

-- ---- One process

abbrev finished : PrivateStatus → Bool
finished parts.Finished = true
finished _ = false

end_by : (a : Activity) → is_end a ≡ finished (status_of a)
end_by machine.NotBegun = refl
end_by machine.Running = refl
end_by machine.Waiting = refl
end_by machine.Ended = refl
end_by (machine.Faulted f) = refl

module _ (servers : List ℕ) (p : ℕ) (G : Ground) where
  on_stage : (y : SchedulingState) (a : Activity) (b : Bool) → is_end a ≡ b → is_done_at servers p y a ≡ is_done_at servers p y (if b then machine.Ended else machine.Running)
  on_stage y a true e = ap (λ (z : Bool). if z then true else is_done_at servers p y machine.Running) e
  on_stage y a false e = ap (λ (z : Bool). if z then true else is_done_at servers p y machine.Running) e

  status_done : (x : Status) (y : SchedulingState) (a : Activity) → StageMeans G x y → private_status x ≡ status_of a → is_done servers p x ≡ is_done_at servers p y a
  status_done status.Unstarted kernel.Unstarted a h e = sym (on_stage kernel.Unstarted a false (end_by a ∙ ap finished (sym e)))
  status_done status.Fresh kernel.Fresh a h e = sym (on_stage kernel.Fresh a false (end_by a ∙ ap finished (sym e)))
  status_done (status.Asking m) (kernel.Asking k) a h e = sym (on_stage (kernel.Asking k) a false (end_by a ∙ ap finished (sym e)))
  status_done (status.Delayed m q) (kernel.Delayed k n) a h e = sym (on_stage (kernel.Delayed k n) a false (end_by a ∙ ap finished (sym e)))
  status_done status.Ready kernel.Begun a h e = sym (on_stage kernel.Begun a false (end_by a ∙ ap finished (sym e)))
  status_done status.Waiting kernel.Begun a h e = sym (on_stage kernel.Begun a false (end_by a ∙ ap finished (sym e)))
  status_done status.Ended kernel.Begun a h e = sym (on_stage kernel.Begun a true (end_by a ∙ ap finished (sym e)))
  status_done (status.Faulted n) kernel.Begun a h e = sym (on_stage kernel.Begun a false (end_by a ∙ ap finished (sym e)))
  status_done _ _ a h e = absurd h

-- ---- All processes

same_tests : (servers : List ℕ) (s : State) (c : Core) (ps : List ℕ)
    → ((p : ℕ) → is_in p ps ≡ true → part_is_done servers c.kernel (part c.parts p) ≡ is_done servers p (s.status p)) → parts_are_done servers c ps ≡ all_done servers s ps
same_tests servers s c [] same = refl
same_tests servers s c (p ∷ ps) same =
    let here = same p (in_head p ps) in
    let rest = same_tests servers s c ps (λ q h. same q (in_more q p ps h)) in
    λ i. if here i then rest i else false

module _ (servers : List ℕ) (m : Machine) (setup : Setup) (s : State) (I : IsIn m setup s) where
  reported : (p : ℕ) → (1 ≤ p) × (p ≤ process_count setup) → part_is_done servers m.kernel (part (core m).parts p) ≡ is_done servers p (s.status p)
  reported zero range = absurd (let low = range.0 in Prim.omega (arith, low))
  reported (suc i) range =
      let high = range.1 in
      let count = I.part_count in
      let stages = I.kernel.gates_represent.stage_count in
      let x = got m.parts i (Prim.omega (arith, high, count)) in
      let place : i ≡ suc i - 1 = Prim.omega arith in
      let represents = I.parts (suc i) x.0 (Prim.omega arith) (subst (λ k. slice_get m.parts k ≡ Some x.0) place x.1) in
      ap (part_is_done servers m.kernel) (map_got silent m.parts i x.0 x.1)
      ∙ (ap (λ n. is_done_at servers n (stage_of m.kernel.stages n) x.0.activity) represents.part.number
      ∙ sym (status_done servers (suc i) (kernel_ground m.program I.represents.texts setup) (s.status (suc i)) (stage_of m.kernel.stages (suc i)) x.0.activity
      (I.kernel.gates_represent.stages (suc i) (Prim.omega arith) (Prim.omega (arith, high, stages))) represents.part.status))

  reports_done : core_is_done servers (process_count setup) (core m) ≡ all_done servers s (processes setup)
  reports_done = same_tests servers s (core m) (processes setup) (λ p h. reported p (in_range setup p h))

pub core_reports_done : CoreReportsDone
core_reports_done servers setup s c h =
    subst (λ z. core_is_done servers (process_count setup) z ≡ all_done servers s (processes setup)) h.is (reports_done servers h.machine setup s h.inside)
