-- If the kernel is that of the state, then what kernel steps read of gates and stages is that of
-- the state.
use Rattle.std.proofs.Common.{◌≡◌, ℕ, suc, ◌-◌, ◌≤◌, Option, Some, None, refl, ap, sym, ◌∙◌, arith}
use Rattle.std.specs.Prelude.{slice_get}
use Rattle.cp_model.specs.Configurations as status
use Rattle.cp_model.specs.Configurations.{Status}
use Rattle.cp_model.specs.States as states
use Rattle.cp_model.specs.States.{Free, Gate, HeldBy, Holder, State, Unset}
use Rattle.cp_model.proofs.Options.{same_some}
use Rattle.cp_model_program.specs.Programs as code
use Rattle.cp_model_program.specs.IsProgramFor.{IsProgramFor}
use Rattle.cp_model_machine.specs.Addresses.{AllWords, Ground}
use Rattle.cp_model_machine.specs.KernelOf.{KernelOf, StageMeans, kernel_ground}
use Rattle.cp_model_machine.specs.KernelSteps.{Asking, Begun, Delayed, Fresh, Kernel, SchedulingState, Unstarted, gate_of, is_set, is_started, stage_of}
use Rattle.cp_model_machine.specs.Passing.{monitor_start}
use Rattle.cp_model_machine.specs.PrivateStates.{StepContext}
pub use Rattle.cp_model_machine.proofs.MonitorsThere.{monitor_below, process_below}
use Rattle.cp_model_machine.proofs.Stepping.{AroundAll}
use Rattle.std.proofs.lemmas.Option.{slice_get_within}
use Rattle.cp_model_machine.proofs.Tables.{one_less}

same_set : (h : Holder) → is_set h ≡ states.is_set h
same_set Unset = refl
same_set Free = refl
same_set (HeldBy p) = refl

same_started : (G : Ground) (x : Status) (g : SchedulingState) → StageMeans G x g → is_started g ≡ states.is_started x
same_started G status.Unstarted Unstarted h = refl
same_started G status.Fresh Fresh h = refl
same_started G (status.Asking m) (Asking k) h = refl
same_started G (status.Delayed m q) (Delayed k n) h = refl
same_started G status.Ready Begun h = refl
same_started G status.Ended Begun h = refl
same_started G status.Waiting Begun h = refl
same_started G (status.Faulted n) Begun h = refl
same_started G _ _ h = absurd h

module _ (G : Ground) (F : IsProgramFor G.program G.setup) where
  -- The first word of each monitor is a shared word, or comes after the last one.
  start_below : (m : ℕ) → monitor_start G.program m ≤ G.program.shared
  start_below m = by (slice_get G.program.monitors (m - 1)) refl
    where
      by : (x : Option code.Monitor) → slice_get G.program.monitors (m - 1) ≡ x → (elim x as (λ z. ℕ) [ None ↦ 0 | Some r ↦ r.start ]) ≤ G.program.shared
      by None e = omega arith
      by (Some r) e =
          let less = slice_get_within G.program.monitors (m - 1) r e in
          let M = F.monitors (suc (m - 1)) (omega arith) (omega (arith, less, F.monitor_rows)) in
          let same : M.row ≡ r = same_some M.row r (sym M.there ∙ (ap (slice_get G.program.monitors) (one_less (m - 1)) ∙ e)) in
          omega (arith, M.lies, ap (λ (z : code.Monitor). z.start) same)

  pub around_all : G.sight ≡ AllWords → (s : State) (k : Kernel) → KernelOf G.program G.texts G.setup s k → (w : StepContext) → ((m : ℕ) → w.is_set m ≡ is_set (gate_of k.gates m).holder)
      → ((r : ℕ) → w.is_started r ≡ is_started (stage_of k.stages r)) → AroundAll G s w
  around_all sight s k K w set started = record {
    sight = sight;
    starts = start_below;
    few = λ m y is. omega (arith, (monitor_below G.setup m y is).1, F.typed.monitors);
    set_is = λ m. set m ∙ (same_set (gate_of k.gates m).holder ∙ ap (λ (g : Gate). states.is_set g.holder) (K.gates_represent.gates m));
    none_set = set 0;
    started_is = λ r y is.
        let below = process_below G.setup r y is in
        started r
        ∙ same_started (kernel_ground G.program G.texts G.setup) (s.status r) (stage_of k.stages r) (K.gates_represent.stages r below.0 (omega (arith, below.1, K.gates_represent.stage_count)));
  }
