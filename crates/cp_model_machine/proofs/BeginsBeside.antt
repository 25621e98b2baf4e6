-- A process that hasn't begun is still right after private steps and waking, after kernel turns of
-- others, and after the end of a round unless it is fresh.
use Rattle.std.proofs.Common.{◌≡◌, ℕ, zero, suc, ◌≤◌, true, List, [], ◌∷◌, refl, ap, sym, subst, ◌∙◌}
use Rattle.std.specs.Prelude.{if◌then◌else◌, ◌≢◌}
use Rattle.cp_model.specs.Configurations as stage
use Rattle.cp_model.specs.Configurations.{Status}
use Rattle.cp_model.specs.Invariant.{Invariant}
use Rattle.cp_model.specs.Locations.{ByName, under}
use Rattle.cp_model.specs.Operators.{realtime}
use Rattle.cp_model.specs.Parts.{HasNotBegun, SameKernelPart, kernel_status}
use Rattle.cp_model.specs.Rounds.{after_closing, close_round}
use Rattle.cp_model.specs.States.{Setup, State, process_count, running_clock}
use Rattle.cp_model.specs.Turns as meaning
use Rattle.cp_model.proofs.RoundCount.{kernel_turn_count}
use Rattle.cp_model.proofs.StateInvariant.{kernel_step_keeps}
use Rattle.cp_model_program.specs.Programs.{Program}
use Rattle.cp_model_program.specs.IsProgramFor.{IsProgramFor}
use Rattle.cp_model_machine.specs.PrivateStates as machine
use Rattle.cp_model_machine.specs.PrivateStates.{Acting, PrivateState}
use Rattle.cp_model_machine.specs.Addresses.{Ground, OwnWords, in_sight, sees}
use Rattle.cp_model_machine.specs.Beginning.{Begins}
use Rattle.cp_model_machine.specs.KernelSteps.{Kernel, Turning, join_words, kernel_step, kernel_steps, part_words}
use Rattle.cp_model_machine.specs.Laws.{KernelTurnKeepsBegins, TurningOf, ground_of}
use Rattle.cp_model_machine.specs.Machines.{begin_from}
use Rattle.cp_model_machine.specs.PartOf.{PartOf, RunsOn}
use Rattle.cp_model_machine.proofs.Given.{rights_kept}
use Rattle.cp_model_machine.proofs.KernelTurning.{H, Rest, S, Step, Which, all, around, joins, kind_is, part_joined, reaches, w, which}
use Rattle.cp_model_machine.proofs.KernelTurns.{kernel_step_is_step}
use Rattle.cp_model_machine.proofs.OthersParts.{given_beside, kernel_step_beside}
use Rattle.cp_model_machine.proofs.PartsBeside.{data_beside, runs_beside}
use Rattle.cp_model_machine.proofs.ProcessBegins.{step_begins}
use Rattle.cp_model_machine.proofs.Stepping.{Stepped}
use Rattle.cp_model_machine.specs.Steps.{act}

-- ---- where the kernel's part is the same

abbrev IsReady : Status → Type 0
IsReady stage.Ready = Unit {0}
IsReady _ = ⊥

-- The kernel knows whether a process is unstarted.
unstarted_known : (x : Status) → kernel_status x ≡ stage.Unstarted → x ≡ stage.Unstarted
unstarted_known stage.Ended e = absurd (subst IsReady e tt)
unstarted_known stage.Waiting e = absurd (subst IsReady e tt)
unstarted_known (stage.Faulted n) e = absurd (subst IsReady e tt)
unstarted_known stage.Ready e = e
unstarted_known stage.Unstarted e = e
unstarted_known stage.Fresh e = e
unstarted_known (stage.Asking m) e = e
unstarted_known (stage.Delayed m q) e = e

fresh_known : (x : Status) → kernel_status x ≡ stage.Fresh → x ≡ stage.Fresh
fresh_known stage.Ended e = absurd (subst IsReady e tt)
fresh_known stage.Waiting e = absurd (subst IsReady e tt)
fresh_known (stage.Faulted n) e = absurd (subst IsReady e tt)
fresh_known stage.Ready e = e
fresh_known stage.Unstarted e = e
fresh_known stage.Fresh e = e
fresh_known (stage.Asking m) e = e
fresh_known (stage.Delayed m q) e = e

pub begins_beside : (G : Ground) (s u : State) (k : Kernel) (o : PrivateState) → G.sight ≡ OwnWords → SameKernelPart s u → Begins G s k o → Begins G u k o
begins_beside G s u k o sight S B = record {
  activity_is = B.activity_is;
  at_start = B.at_start;
  unstarted = λ is.
      let before = unstarted_known (s.status G.p) (sym (S.status G.p) ∙ ap kernel_status is) in
      let same = S.unbegun_store G.p (subst HasNotBegun (sym before) tt) in
      data_beside G (in_sight G) s.store u.store (λ l mine. same l (subst (λ v. sees v G.p l.owner ≡ true) sight mine)) [] o.words (B.unstarted before);
  fresh = λ is.
      let before = fresh_known (s.status G.p) (sym (S.status G.p) ∙ ap kernel_status is) in
      let rest = subst HasNotBegun (sym before) tt in
      subst (RunsOn G u.store (begin_from G.program k o)) (sym (S.unbegun_continuation G.p rest))
      (runs_beside G sight s.store u.store (S.unbegun_store G.p rest)
      (given_beside G s.store u.store (S.unbegun_store G.p rest) (λ at y m j owner sort is. rights_kept G s.store u.store at y (λ i x v r none. S.monitor_store (under at (ByName x ∷ [])) m owner)))
      (begin_from G.program k o) (s.continuation G.p) (B.fresh before));
}

-- ---- the end of a round

-- The end of a round leaves an unstarted process as it is.
pub begins_round : (G : Ground) (s : State) (k : Kernel) (o : PrivateState) → s.status G.p ≡ stage.Unstarted → Begins G s k o → (l : Kernel) → Begins G (close_round s) l o
begins_round G s k o is B l = record {
  activity_is = B.activity_is;
  at_start = B.at_start;
  unstarted = λ later. B.unstarted is;
  fresh = λ fresh. absurd (no_fresh (s.status G.p) (subst reports (sym fresh) tt));
}
  where
    reports : Status → Type 0
    reports stage.Fresh = Unit {0}
    reports _ = ⊥

    no_fresh : (x : Status) → reports (after_closing x) → ⊥
    no_fresh stage.Unstarted h = h
    no_fresh stage.Fresh h = h
    no_fresh stage.Ready h = h
    no_fresh stage.Ended h = h
    no_fresh stage.Waiting h = h
    no_fresh (stage.Asking m) h = h
    no_fresh (stage.Delayed m q) h = h
    no_fresh (stage.Faulted n) h = h

-- ---- kernel turns of others

module _ (program : Program) (setup : Setup) (F : IsProgramFor program setup) (p own q others : ℕ) (d : p ≢ q) (low : 1 ≤ p) (high : p ≤ process_count setup) (from : 1 ≤ q) (below : q ≤ process_count setup) where
  abbrev G : Ground
  G = ground_of program setup F q others

  kernel_step_begins : (s : State) (before : List ℕ) (x : Turning) (past : List ℕ) (o : PrivateState) → Invariant s → TurningOf program setup F p own s before x → PartOf G s past o → Begins G s x.kernel o
      → Begins G (meaning.kernel_step setup s p) (kernel_step program (realtime (running_clock setup s)) x).kernel o
  kernel_step_begins s before x past o I T P B = by (which program setup F p own s before x.own x.kernel I (low, high) T.part T.kernel)
    where
      y : Turning
      y = kernel_step program (realtime (running_clock setup s)) x

      taking : (ready : s.status p ≡ stage.Ready) (running : x.own.activity ≡ machine.Running) → Stepped (H program setup F p own s before x.own x.kernel I (low, high) T.part T.kernel) s (w program setup F p own s before x.own x.kernel I (low, high) T.part T.kernel) before (join_words x)
      taking ready running = S program setup F p own s before x.own x.kernel I (low, high) T.part T.kernel ready running

      r' : s.status p ≡ stage.Ready → x.own.activity ≡ machine.Running → Acting
      r' ready running = act program (w program setup F p own s before x.own x.kernel I (low, high) T.part T.kernel) (join_words x) (taking ready running).operation

      by : Which program setup F p own s before x.own x.kernel I (low, high) T.part T.kernel → Begins G (meaning.kernel_step setup s p) y.kernel o
      by (Rest defined computed) =
          subst (λ v. Begins G v y.kernel o) (sym defined) (subst (λ (z : Turning). Begins G s z.kernel o) (sym computed) B)
      by (Step ready running due defined computed) =
          subst (λ v. Begins G v y.kernel o) (sym defined)
          (subst (λ (z : Turning). Begins G (meaning.step setup s p) z.kernel o) (sym computed)
          (subst (λ n. Begins G (meaning.step setup s p) (part_words n x (r' ready running)).kernel o) (sym T.part.count)
          (step_begins (H program setup F p own s before x.own x.kernel I (low, high) T.part T.kernel) s (w program setup F p own s before x.own x.kernel I (low, high) T.part T.kernel) before x T.part.count F refl
          (part_joined program setup F p own s before x.own x.kernel I (low, high) T.part T.kernel ready running) I (around program setup F p own s before x.own x.kernel I (low, high) T.part T.kernel)
          (reaches program setup F p own s before x.own x.kernel I (low, high) T.part T.kernel) (all program setup F p own s before x.own x.kernel I (low, high) T.part T.kernel)
          (kind_is program setup F p own s before x.own x.kernel I (low, high) T.part T.kernel ready running ∙ ap (λ b. if b then meaning.Kernel else meaning.Private) due)
          (joins program setup F p own s before x.own x.kernel I (low, high) T.part T.kernel ready running)
          (taking ready running).operation (taking ready running).there q others o past from below d P B)))

pub kernel_turn_keeps_begins : KernelTurnKeepsBegins
kernel_turn_keeps_begins program setup F p own q others zero s before x past o d I low high from below T P B = B
kernel_turn_keeps_begins program setup F p own q others (suc n) s before x past o d I low high from below T P B =
    let y = kernel_step program (realtime (running_clock setup s)) x in
    let next = kernel_step_is_step program setup F p own s before x I low high T in
    let G' = ground_of program setup F q others in
    subst (λ r. Begins G' (meaning.kernel_turn setup n (meaning.kernel_step setup s p) p) (kernel_steps program (realtime (record { round = suc r; tick = setup.tick })) n y).kernel o) (kernel_turn_count setup 1 s p)
    (kernel_turn_keeps_begins program setup F p own q others n (meaning.kernel_step setup s p) before y past o d (kernel_step_keeps setup s p I) low high from below next
    (kernel_step_beside G' refl s past o I p d P y.kernel.shared next.kernel.data_means)
    (kernel_step_begins program setup F p own q others d low high from below s before x past o I T P B))
