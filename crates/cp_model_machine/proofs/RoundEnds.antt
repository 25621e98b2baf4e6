-- After waking and after the end of a round, the private state of each process is still that of the
-- process.
use Rattle.std.proofs.Common.{List, None, Some, ap, refl, subst, suc, sym, ℕ, ◌++◌, ◌-◌, ◌∙◌, ◌≡◌}
use Rattle.std.specs.Prelude.{slice_get}
use Rattle.cp_model.specs.Configurations as status
use Rattle.cp_model.specs.Configurations.{Status}
use Rattle.cp_model.specs.Continuations.{Task}
use Rattle.cp_model.specs.Parts.{Failed, Finished, HasBegun, NotBegun, PrivateStatus, Running, Sleeping, private_status}
use Rattle.cp_model.specs.Rounds.{after_closing, wake_status, close_round}
use Rattle.cp_model.specs.States.{State}
use Rattle.cp_model.specs.Stores.{Store}
use Rattle.cp_model_program.specs.Programs as code
use Rattle.cp_model_machine.specs.PrivateStates as machine
use Rattle.cp_model_machine.specs.PrivateStates.{Activity, PrivateState}
use Rattle.cp_model_machine.specs.Addresses.{Ground}
use Rattle.cp_model_machine.specs.Beginning.{Begins}
use Rattle.cp_model_machine.specs.KernelOf.{StageMeans, kernel_ground}
use Rattle.cp_model_machine.specs.KernelSteps.{Asking, Begun, Delayed, Fresh, Kernel, SchedulingState, Unstarted, stage_of}
use Rattle.cp_model_machine.specs.Machines.{awake, begin_from, begin_if, begin_one, wake_one}
use Rattle.cp_model_machine.specs.PartOf.{IsActive, PartOf, RunsOn, status_of}
use Rattle.cp_model_program.specs.Starts.{block, paste}

-- ---- waking

abbrev roused : PrivateStatus → PrivateStatus
roused Sleeping = Running
roused x = x

awakened_private : (x : Status) → private_status (wake_status x) ≡ roused (private_status x)
awakened_private status.Unstarted = refl
awakened_private status.Fresh = refl
awakened_private status.Ready = refl
awakened_private status.Ended = refl
awakened_private status.Waiting = refl
awakened_private (status.Asking m) = refl
awakened_private (status.Delayed m q) = refl
awakened_private (status.Faulted n) = refl

awake_private : (x : Activity) → status_of (awake x) ≡ roused (status_of x)
awake_private machine.NotBegun = refl
awake_private machine.Running = refl
awake_private machine.Waiting = refl
awake_private machine.Ended = refl
awake_private (machine.Faulted f) = refl

roused_begun : (x : PrivateStatus) → HasBegun (roused x) → HasBegun x
roused_begun NotBegun h = h
roused_begun Running h = h
roused_begun Finished h = h
roused_begun Sleeping h = tt
roused_begun (Failed n) h = h

awake_goes : (x : Activity) → IsActive (awake x) → IsActive x
awake_goes machine.NotBegun h = h
awake_goes machine.Running h = h
awake_goes machine.Waiting h = tt
awake_goes machine.Ended h = h
awake_goes (machine.Faulted f) h = h

-- What it means to run on doesn't depend on the activity.
runs_whatever : (G : Ground) (store : Store) (o : PrivateState) (k : List Task) (x : Activity) → RunsOn G store o k → RunsOn G store (record o { activity = x }) k
runs_whatever G store o k x R = record { at = R.at; words_mean = R.words_mean }

-- All processes that wait wake.
pub part_wakes : (G : Ground) (s : State) (before : List ℕ) (o : PrivateState) → PartOf G s before o → PartOf G (record s { status = λ p. wake_status (s.status p) }) before (wake_one o)
part_wakes G s before o P = record {
  number = P.number;
  input = P.input;
  consumed = P.consumed;
  transcript = P.transcript;
  status = awakened_private (s.status G.p) ∙ (ap roused P.status ∙ sym (awake_private o.activity));
  count = P.count;
  data_means = λ begun. P.data_means (roused_begun (private_status (s.status G.p)) (subst HasBegun (awakened_private (s.status G.p)) begun));
  runs_on = λ goes. runs_whatever G s.store o (s.continuation G.p) (awake o.activity) (P.runs_on (awake_goes o.activity goes));
}

-- ---- the end of a round

-- If only the number of rounds changes for the process.
part_closes : (G : Ground) (s : State) (before : List ℕ) (o : PrivateState) → after_closing (s.status G.p) ≡ s.status G.p → PartOf G s before o → PartOf G (close_round s) before o
part_closes G s before o same P = record {
  number = P.number;
  input = P.input;
  consumed = P.consumed;
  transcript = P.transcript;
  status = ap private_status same ∙ P.status;
  count = P.count;
  data_means = λ begun. P.data_means (subst HasBegun (ap private_status same) begun);
  runs_on = P.runs_on;
}

-- A fresh process begins, with its parameters.
fresh_begins : (G : Ground) (s : State) (before : List ℕ) (k : Kernel) (o : PrivateState) → s.status G.p ≡ status.Fresh → PartOf G s before o → Begins G s k o
    → PartOf G (close_round s) before (begin_from G.program k o)
fresh_begins G s before k o fresh P B = record {
  number = ap (λ (x : PrivateState). x.number) begun ∙ P.number;
  input = ap (λ (x : PrivateState). x.input) begun ∙ P.input;
  consumed = ap (λ (x : PrivateState). x.consumed) begun ∙ P.consumed;
  transcript = P.transcript ∙ ap (λ (x : PrivateState). before ++ x.output) (sym begun);
  status = ap (λ x. private_status (after_closing x)) fresh ∙ ap (λ (x : PrivateState). status_of x.activity) (sym begun);
  count = R.count;
  data_means = λ later. R.data_means;
  runs_on = λ goes. R;
}
  where
    R : RunsOn G s.store (begin_from G.program k o) (s.continuation G.p)
    R = B.fresh fresh

    with_parameters : code.Process → PrivateState
    with_parameters x = record o { activity = machine.Running; words = paste 1 (block k.shared (suc x.parameters) (x.waiting - 1)) o.words }

    begun : begin_from G.program k o ≡ with_parameters B.at_start.row
    begun =
        ap (λ n. elim (slice_get G.program.processes (n - 1)) as (λ z. PrivateState) [ None ↦ o | Some x ↦ with_parameters x ]) P.number
        ∙ λ i. elim (B.at_start.there i) as (λ z. PrivateState) [ None ↦ o | Some x ↦ with_parameters x ]

-- The private state of each process at the end of a round, whether it begins then or has begun
-- before.
pub part_ends_round : (G : Ground) (s : State) (before : List ℕ) (k : Kernel) (o : PrivateState) → StageMeans (kernel_ground G.program G.texts G.setup) (s.status G.p) (stage_of k.stages G.p)
    → PartOf G s before o → (s.status G.p ≡ status.Fresh → Begins G s k o) → PartOf G (close_round s) before (begin_one G.program k o)
part_ends_round G s before k o represents P B =
    subst (λ n. PartOf G (close_round s) before (begin_if G.program k o (stage_of k.stages n))) (sym P.number) (by (s.status G.p) (stage_of k.stages G.p) refl represents)
  where
    stays : (x : Status) → s.status G.p ≡ x → after_closing x ≡ x → PartOf G (close_round s) before o
    stays x is same = part_closes G s before o (ap after_closing is ∙ (same ∙ sym is)) P

    by : (x : Status) (g : SchedulingState) → s.status G.p ≡ x → StageMeans (kernel_ground G.program G.texts G.setup) x g → PartOf G (close_round s) before (begin_if G.program k o g)
    by status.Unstarted Unstarted is h = stays status.Unstarted is refl
    by status.Fresh Fresh is h = fresh_begins G s before k o is P (B is)
    by (status.Asking m) (Asking n) is h = stays (status.Asking m) is refl
    by (status.Delayed m q) (Delayed n at) is h = stays (status.Delayed m q) is refl
    by status.Ready Begun is h = stays status.Ready is refl
    by status.Ended Begun is h = stays status.Ended is refl
    by status.Waiting Begun is h = stays status.Waiting is refl
    by (status.Faulted n) Begun is h = stays (status.Faulted n) is refl
    by _ _ is h = absurd h
