-- A kernel turn of the machine keeps it in the state of the meaning.
--
-- The kernel and the process's own private state are those of the meaning's turn, and the parts
-- of the others stay theirs. The output moves to the transcript, so both together are what they
-- were.
use Rattle.std.proofs.Common.{◌≡◌, ℕ, zero, suc, ◌-◌, ◌≤◌, ◌<◌, List, [], ◌∷◌, ◌++◌, length, Bool, true, false, Option, Some, None, refl, ap, sym, subst, ◌∙◌, arith}
use Rattle.std.specs.Prelude.{◌≢◌, if◌then◌else◌, nat_eq, slice_get, slice_set}
use Rattle.std.proofs.lemmas.Bool.{eq-eqb, eqb-true, true≢false}
use Rattle.std.proofs.lemmas.List.{length-set}
use Rattle.cp_model.specs.Configurations as stage
use Rattle.cp_model.specs.Configurations.{Effect, Status, StepResult}
use Rattle.cp_model.specs.Operators.{realtime}
use Rattle.cp_model.specs.Outcomes.{Fault, Gives}
use Rattle.cp_model.specs.Parts as parts
use Rattle.cp_model.specs.Parts.{HasNotBegun, PrivateStatus, private_status}
use Rattle.cp_model.specs.States.{Setup, State, configuration, context, process_count, running_clock}
use Rattle.cp_model.specs.Step.{step_of}
use Rattle.cp_model.specs.Turns as meaning
use Rattle.cp_model.proofs.PartsKept.{kernel_turn_other_parts}
use Rattle.cp_model.proofs.StateMaps.{with_at_here}
use Rattle.cp_model.proofs.RoundCount.{kernel_turn_count}
use Rattle.cp_model.proofs.StateInvariant.{kernel_turn_keeps}
use Rattle.cp_model_program.specs.Programs.{Program}
use Rattle.cp_model_program.specs.IsProgramFor.{IsProgramFor}
use Rattle.cp_model_machine.specs.Steps.{step_with}
use Rattle.cp_model_machine.specs.PrivateStates as machine
use Rattle.cp_model_machine.specs.PrivateStates.{PrivateState}
use Rattle.cp_model_machine.specs.Addresses.{Ground}
use Rattle.cp_model_machine.specs.Beginning.{Begins}
use Rattle.cp_model_machine.specs.KernelSteps.{Kernel, Turning, join_words, kernel_steps, outside, part_words}
use Rattle.cp_model_machine.specs.Laws.{OutputMoves, TurningOf, ground_of}
use Rattle.cp_model_machine.specs.Machines.{Machine, after_kernel_turn, clock, kernel_turn, transcript_of}
use Rattle.cp_model_machine.specs.PartOf.{PartOf, status_of}
use Rattle.cp_model_machine.proofs.Represents.{AllRepresent, IsIn, PartRepresents}
use Rattle.cp_model_machine.proofs.BeginsBeside.{kernel_turn_keeps_begins}
use Rattle.cp_model_machine.proofs.Finding.{some_is_not_none}
use Rattle.cp_model_machine.proofs.Effects.{private_after, private_by}
use Rattle.cp_model_machine.proofs.KernelTurning.{not_running}
use Rattle.cp_model_machine.proofs.KernelTurns.{kernel_turn_is_turn, kernel_turn_keeps_parts}
use Rattle.cp_model_machine.proofs.PrivateSteps.{IsRunning}
use Rattle.cp_model_machine.proofs.Tables.{set_elsewhere, set_found, set_there}

-- The output of the process is moved to its transcript.
output_moved : (G : Ground) (s : State) (before : List ℕ) (o : PrivateState) → PartOf G s before o → PartOf G s (before ++ o.output) (record o { output = [] })
output_moved G s before o P = record {
  number = P.number;
  input = P.input;
  consumed = P.consumed;
  transcript = P.transcript ∙ sym (append_nothing (before ++ o.output));
  status = P.status;
  count = P.count;
  data_means = P.data_means;
  runs_on = λ goes. let R = P.runs_on goes in record { at = R.at; words_mean = R.words_mean };
}
  where
    append_nothing : (xs : List ℕ) → xs ++ [] ≡ xs
    append_nothing [] = refl
    append_nothing (x ∷ xs) = ap (λ ys. x ∷ ys) (append_nothing xs)

pub output_moves : OutputMoves
output_moves program setup F p own s before o P = output_moved (ground_of program setup F p own) s before o P

-- ---- transcripts

pub transcript_there : (ts : List (List ℕ)) (p : ℕ) (bytes : List ℕ) → p - 1 < length ts → transcript_of (slice_set ts (p - 1) bytes) p ≡ bytes
transcript_there ts p bytes h = λ i. elim (set_there ts (p - 1) bytes h i) as (λ z. List ℕ) [ None ↦ [] | Some b ↦ b ]

transcript_elsewhere : (ts : List (List ℕ)) (p q : ℕ) (bytes : List ℕ) → (p - 1 ≡ q - 1 → ⊥) → transcript_of (slice_set ts (p - 1) bytes) q ≡ transcript_of ts q
transcript_elsewhere ts p q bytes d = λ i. elim (set_elsewhere ts (p - 1) (q - 1) bytes d i) as (λ z. List ℕ) [ None ↦ [] | Some b ↦ b ]

-- ---- processes that haven't begun

abbrev IsNotBegun : PrivateStatus → Type 0
IsNotBegun parts.NotBegun = Unit {0}
IsNotBegun _ = ⊥

reported_not_begun : (x : Status) → HasNotBegun x → IsNotBegun (private_status x)
reported_not_begun stage.Unstarted h = tt
reported_not_begun stage.Fresh h = tt
reported_not_begun _ h = absurd h

not_begun_reported : (x : Status) → IsNotBegun (private_status x) → HasNotBegun x
not_begun_reported stage.Unstarted h = tt
not_begun_reported stage.Fresh h = tt
not_begun_reported stage.Ready h = h
not_begun_reported stage.Ended h = h
not_begun_reported stage.Waiting h = h
not_begun_reported (stage.Asking m) h = h
not_begun_reported (stage.Delayed m q) h = h
not_begun_reported (stage.Faulted n) h = h

-- In its own kernel turn, a process that hasn't begun does nothing.
idle_turn : (program : Program) (n tick : ℕ) (x : Turning) → x.own.activity ≡ machine.NotBegun → kernel_steps program tick n x ≡ x
idle_turn program zero tick x is = refl
idle_turn program (suc n) tick x is =
    ap (kernel_steps program tick n) (ap (λ b. if b then part_words (length x.own.words) x (step_with program (outside tick x) (join_words x)) else x) (not_running x.own (λ h. subst (λ a. IsRunning (status_of a)) is h) program x.kernel))
    ∙ idle_turn program n tick x is

module _ (setup : Setup) where
  idle_step : (s : State) (p : ℕ) → HasNotBegun (s.status p) → meaning.kernel_step setup s p ≡ s
  idle_step s p h = ap (λ z. meaning.if_kernel z (meaning.step setup s p) s) (by (s.status p) h)
    where
      by : (x : Status) → HasNotBegun x → meaning.kind_of x (s.continuation p) ≡ meaning.NoStep
      by stage.Unstarted h = refl
      by stage.Fresh h = refl
      by _ h = absurd h

  idle_meaning : (n : ℕ) (s : State) (p : ℕ) → HasNotBegun (s.status p) → meaning.kernel_turn setup n s p ≡ s
  idle_meaning zero s p h = refl
  idle_meaning (suc n) s p h = ap (λ u. meaning.kernel_turn setup n u p) (idle_step s p h) ∙ idle_meaning n s p h

  -- A process that has begun stays begun.
  begun_step : (s : State) (p : ℕ) → HasNotBegun ((meaning.kernel_step setup s p).status p) → HasNotBegun (s.status p)
  begun_step s p = by (s.status p) refl
    where
      stays : (x : Status) → s.status p ≡ x → meaning.kind_of x (s.continuation p) ≡ meaning.NoStep → HasNotBegun ((meaning.kernel_step setup s p).status p) → HasNotBegun x
      stays x is none h =
          subst HasNotBegun is (subst (λ (u : State). HasNotBegun (u.status p)) (ap (λ z. meaning.if_kernel z (meaning.step setup s p) s) (ap (λ z. meaning.kind_of z (s.continuation p)) is ∙ none)) h)

      effect_begun : (e : Effect) → IsNotBegun (private_by e) → ⊥
      effect_begun stage.Ends h = h
      effect_begun stage.Waits h = h
      effect_begun _ h = h

      stepped : s.status p ≡ stage.Ready → (x : StepResult) → HasNotBegun ((meaning.after_step s p x).status p) → ⊥
      stepped ready (Fault n) h = subst HasNotBegun (with_at_here p (stage.Faulted n) s.status) h
      stepped ready (Gives (c, e)) h = effect_begun e (subst IsNotBegun (private_after s p ready c e) (reported_not_begun _ h))

      by_kind : s.status p ≡ stage.Ready → (z : meaning.Kind) → HasNotBegun ((meaning.if_kernel z (meaning.step setup s p) s).status p) → ⊥
      by_kind ready meaning.Kernel h = stepped ready (step_of (context setup s p) (configuration s p)) h
      by_kind ready meaning.Private h = subst HasNotBegun ready h
      by_kind ready meaning.NoStep h = subst HasNotBegun ready h

      by : (x : Status) → s.status p ≡ x → HasNotBegun ((meaning.kernel_step setup s p).status p) → HasNotBegun (s.status p)
      by stage.Unstarted is h = subst HasNotBegun (sym is) tt
      by stage.Fresh is h = subst HasNotBegun (sym is) tt
      by stage.Ready is h = absurd (by_kind is (meaning.kind s p) h)
      by stage.Ended is h = absurd (stays stage.Ended is refl h)
      by stage.Waiting is h = absurd (stays stage.Waiting is refl h)
      by (stage.Asking m) is h = absurd (stays (stage.Asking m) is refl h)
      by (stage.Delayed m q) is h = absurd (stays (stage.Delayed m q) is refl h)
      by (stage.Faulted n) is h = absurd (stays (stage.Faulted n) is refl h)

  begun_turn : (n : ℕ) (s : State) (p : ℕ) → HasNotBegun ((meaning.kernel_turn setup n s p).status p) → HasNotBegun (s.status p)
  begun_turn zero s p h = h
  begun_turn (suc n) s p h = begun_step s p (begun_turn n (meaning.kernel_step setup s p) p h)

-- ---- the turn

there_is : {A : Type 0} (xs : List A) (i : ℕ) → i < length xs → slice_get xs i ≡ None → ⊥
there_is [] i h e = omega (arith, h)
there_is (x ∷ xs) zero h e = some_is_not_none x e
there_is (x ∷ xs) (suc i) h e = there_is xs i (omega (arith, h)) e

module _ (program : Program) (setup : Setup) (F : IsProgramFor program setup) (own : ℕ → ℕ) (s : State) (k : Kernel) (os : List PrivateState) (ts : List (List ℕ))
    (A : AllRepresent program setup F own s k os ts) (n p : ℕ) (low : 1 ≤ p) (high : p ≤ process_count setup) where
  abbrev u : State
  u = meaning.kernel_turn setup n s p

  abbrev holds : Machine
  holds = record { program = program; tick = setup.tick; kernel = k; parts = os; transcripts = ts; rounds = s.rounds }

  module _ (o : PrivateState) (there : slice_get os (p - 1) ≡ Some o) where
    abbrev x : Turning
    x = record { kernel = k; own = o }

    abbrev y : Turning
    y = kernel_steps program (realtime (running_clock setup s)) n x

    mine : PartRepresents program setup F (own p) p s k (transcript_of ts p) o
    mine = A.parts p low high o there

    now : TurningOf program setup F p (own p) s (transcript_of ts p) x
    now = record { part = mine.part; kernel = A.kernel }

    later : TurningOf program setup F p (own p) u (transcript_of ts p) y
    later = kernel_turn_is_turn program setup F p (own p) n s (transcript_of ts p) x A.invariant low high now

    abbrev bytes : List ℕ
    bytes = transcript_of ts p ++ y.own.output

    abbrev moved : PrivateState
    moved = record y.own { output = [] }

    -- The process's own private state.
    own_represents : PartRepresents program setup F (own p) p u y.kernel bytes moved
    own_represents = record {
      part = output_moved (ground_of program setup F p (own p)) u (transcript_of ts p) y.own later.part;
      begins = λ h.
          let before = begun_turn setup n s p h in
          let B = mine.begins before in
          subst (λ (v : State). Begins (ground_of program setup F p (own p)) v y.kernel moved) (sym (idle_meaning setup n s p before))
          (subst (λ (z : Turning). Begins (ground_of program setup F p (own p)) s z.kernel (record z.own { output = [] })) (sym (idle_turn program n (realtime (running_clock setup s)) x B.activity_is))
          (subst (λ z. Begins (ground_of program setup F p (own p)) s k (record o { output = z })) B.at_start.output B));
    }

    -- The private state of another process.
    other_represents : (q : ℕ) → p ≢ q → 1 ≤ q → q ≤ process_count setup → (oq : PrivateState) → slice_get os (q - 1) ≡ Some oq → PartRepresents program setup F (own q) q u y.kernel (transcript_of ts q) oq
    other_represents q d from below oq is =
        let theirs = A.parts q from below oq is in
        record {
          part = kernel_turn_keeps_parts program setup F p (own p) q (own q) n s (transcript_of ts p) x (transcript_of ts q) oq d A.invariant low high now theirs.part;
          begins = λ h.
              kernel_turn_keeps_begins program setup F p (own p) q (own q) n s (transcript_of ts p) x (transcript_of ts q) oq d A.invariant low high from below now theirs.part
              (theirs.begins (not_begun_reported (s.status q) (subst IsNotBegun (kernel_turn_other_parts setup n q p s d A.invariant).status (reported_not_begun (u.status q) h))));
        }

    turned : AllRepresent program setup F own u y.kernel (slice_set os (p - 1) moved) (slice_set ts (p - 1) bytes)
    turned = record {
      kernel = later.kernel;
      part_count = length-set os (p - 1) moved ∙ A.part_count;
      transcript_count = length-set ts (p - 1) bytes ∙ A.transcript_count;
      parts = λ q from below oq is. by q from below oq is (nat_eq p q) refl;
      invariant = kernel_turn_keeps setup n s p A.invariant;
    }
      where
        by : (q : ℕ) → 1 ≤ q → q ≤ process_count setup → (oq : PrivateState) → slice_get (slice_set os (p - 1) moved) (q - 1) ≡ Some oq → (b : Bool) → nat_eq p q ≡ b
            → PartRepresents program setup F (own q) q u y.kernel (transcript_of (slice_set ts (p - 1) bytes) q) oq
        by q from below oq is true e =
            let same : p ≡ q = eqb-true p q e in
            subst (λ z. PartRepresents program setup F (own z) z u y.kernel (transcript_of (slice_set ts (p - 1) bytes) z) oq) same
            (subst (λ z. PartRepresents program setup F (own p) p u y.kernel z oq) (sym (transcript_there ts p bytes (omega (arith, low, high, A.transcript_count))))
            (subst (PartRepresents program setup F (own p) p u y.kernel bytes) (set_found os (p - 1) moved oq (ap (λ z. slice_get (slice_set os (p - 1) moved) (z - 1)) same ∙ is)) own_represents))
        by q from below oq is false e =
            let d : p ≢ q = λ h. true≢false (sym (eq-eqb p q h) ∙ e) in
            let apart : p - 1 ≡ q - 1 → ⊥ = λ h. d (omega (arith, low, from, h)) in
            subst (λ z. PartRepresents program setup F (own q) q u y.kernel z oq) (sym (transcript_elsewhere ts p q bytes apart))
            (other_represents q d from below oq (sym (set_elsewhere os (p - 1) (q - 1) moved apart) ∙ is))

  pub kernel_turn_represents : IsIn program setup F own u (kernel_turn n holds p)
  kernel_turn_represents = by (slice_get os (p - 1)) refl
    where
      by : (z : Option PrivateState) → slice_get os (p - 1) ≡ z
          → IsIn program setup F own u (elim z as (λ v. Machine) [ None ↦ holds | Some o ↦ after_kernel_turn holds p (kernel_steps program (clock holds) n (record { kernel = k; own = o })) ])
      by None e = absurd (there_is os (p - 1) (omega (arith, low, high, A.part_count)) e)
      by (Some o) e = record { program_is = refl; tick_is = refl; rounds_are = sym (kernel_turn_count setup n s p); all = turned o e }
