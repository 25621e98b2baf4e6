-- Whole rounds keep a machine in the state of the meaning.
--
-- A round is waking, private turns, kernel turns and its end. Each keeps every part of the
-- machine that of the state, and the turns are gone through by the number of processes that are
-- left.
use Rattle.std.proofs.Common.{◌≡◌, ℕ, zero, suc, ◌+◌, ◌-◌, ◌≤◌, ◌<◌, List, [], ◌∷◌, ◌++◌, length, map, Bool, true, false, Some, None, refl, ap, sym, subst, ◌∙◌, arith}
use Rattle.std.specs.Prelude.{◌≢◌, if◌then◌else◌, nat_eq, slice_get, slice_set, ◌%◌}
use Rattle.std.proofs.lemmas.Bool.{eq-eqb, true≢false}
use Rattle.std.proofs.lemmas.List.{length-map}
use Rattle.cp_model.specs.Configurations as stage
use Rattle.cp_model.specs.Configurations.{Status}
use Rattle.cp_model.specs.Invariant.{Invariant}
use Rattle.cp_model.specs.Parts.{HasNotBegun, SameKernelPart, kernel_status}
use Rattle.cp_model.specs.Rounds as meaning
use Rattle.cp_model.specs.Rounds.{after_closing, wake_status, close_round, own_parts}
use Rattle.cp_model.specs.States.{Setup, State, is_in, numbers_from, process_count, processes}
use Rattle.cp_model.proofs.OutsideReach.{close_round_keeps}
use Rattle.cp_model.proofs.PhasedRounds.{own_parts_keep}
use Rattle.cp_model.proofs.PrivateStepsKept.{own_parts_kernel_part, wake_kernel_part}
use Rattle.cp_model.proofs.StateInvariant.{wake_keeps}
use Rattle.cp_model_program.specs.Programs.{Program}
use Rattle.cp_model_program.specs.IsProgramFor.{IsProgramFor}
use Rattle.cp_model_machine.specs.Addresses.{Ground}
use Rattle.cp_model_machine.specs.Beginning.{Begins}
use Rattle.cp_model_machine.specs.KernelOf.{StageMeans, kernel_ground}
use Rattle.cp_model_machine.specs.KernelSteps as row
use Rattle.cp_model_machine.specs.KernelSteps.{Kernel, SchedulingState, stage_of}
use Rattle.cp_model_machine.specs.Laws.{ground_of}
use Rattle.cp_model_machine.specs.Machines as machine
use Rattle.cp_model_machine.specs.Machines.{Machine, awake, begin_if, begin_one, next_stage, transcript_of, wake_one}
use Rattle.cp_model_machine.specs.PrivateStates.{NotBegun, PrivateState, is_running}
use Rattle.cp_model_machine.proofs.Represents.{AllRepresent, IsIn, PartRepresents}
use Rattle.cp_model_machine.specs.Steps.{act_on, alone, is_private, operation_of, private_step, private_steps}
use Rattle.cp_model_machine.proofs.BeginsBeside.{begins_beside, begins_round}
use Rattle.cp_model_machine.proofs.KernelBeside.{kernel_beside, kernel_ends_round}
use Rattle.cp_model_machine.proofs.MachineTurns.{kernel_turn_represents}
use Rattle.cp_model_machine.proofs.RoundEnds.{part_ends_round, part_wakes}
use Rattle.cp_model_machine.proofs.RoundParts.{kernel_turned, part_turned}
use Rattle.cp_model_machine.proofs.Tables.{mapped_found, one_less}

-- ---- processes that haven't begun

kernel_not_begun : (x : Status) → HasNotBegun x → HasNotBegun (kernel_status x)
kernel_not_begun stage.Unstarted h = tt
kernel_not_begun stage.Fresh h = tt
kernel_not_begun _ h = absurd h

not_begun_kernel : (x : Status) → HasNotBegun (kernel_status x) → HasNotBegun x
not_begun_kernel stage.Unstarted h = tt
not_begun_kernel stage.Fresh h = tt
not_begun_kernel stage.Ready h = h
not_begun_kernel stage.Ended h = h
not_begun_kernel stage.Waiting h = h
not_begun_kernel (stage.Asking m) h = h
not_begun_kernel (stage.Delayed m q) h = h
not_begun_kernel (stage.Faulted n) h = h

pub not_begun_beside : (s u : State) (p : ℕ) → SameKernelPart s u → HasNotBegun (u.status p) → HasNotBegun (s.status p)
not_begun_beside s u p S h = not_begun_kernel (s.status p) (subst HasNotBegun (S.status p) (kernel_not_begun (u.status p) h))

unstarted_only : (x : Status) → HasNotBegun (after_closing x) → x ≡ stage.Unstarted
unstarted_only stage.Unstarted h = refl
unstarted_only _ h = absurd h

unstarted_stage : (G : Ground) (x : Status) (g : SchedulingState) → x ≡ stage.Unstarted → StageMeans G x g → g ≡ row.Unstarted
unstarted_stage G x g is h = by g (subst (λ z. StageMeans G z g) is h)
  where
    by : (g : SchedulingState) → StageMeans G stage.Unstarted g → g ≡ row.Unstarted
    by row.Unstarted h = refl
    by _ h = absurd h

-- Private steps of a process that hasn't begun do nothing.
idle_step : (program : Program) (clock : ℕ) (o : PrivateState) → o.activity ≡ NotBegun → private_step program clock o ≡ o
idle_step program clock o is =
    ap (λ a. if is_running a then (if is_private o (operation_of program o) then (act_on program (alone clock o) o (operation_of program o)).0 else o) else o) is

pub idle_steps : (program : Program) (clock n : ℕ) (o : PrivateState) → o.activity ≡ NotBegun → private_steps program clock n o ≡ o
idle_steps program clock zero o is = refl
idle_steps program clock (suc n) o is = ap (private_steps program clock n) (idle_step program clock o is) ∙ idle_steps program clock n o is

-- ---- lists

append_get : {A : Type 0} (xs : List A) (x : A) (ys : List A) → slice_get (xs ++ x ∷ ys) (length xs) ≡ Some x
append_get [] x ys = refl
append_get (z ∷ xs) x ys = append_get xs x ys

append_set : {A : Type 0} (xs : List A) (x y : A) (ys : List A) → slice_set (xs ++ x ∷ ys) (length xs) y ≡ (xs ++ y ∷ []) ++ ys
append_set [] x y ys = refl
append_set (z ∷ xs) x y ys = ap (λ zs. z ∷ zs) (append_set xs x y ys)

append_one : {A : Type 0} (xs : List A) (x : A) (ys : List A) → (xs ++ x ∷ []) ++ ys ≡ xs ++ x ∷ ys
append_one [] x ys = refl
append_one (z ∷ xs) x ys = ap (λ zs. z ∷ zs) (append_one xs x ys)

length_one : {A : Type 0} (xs : List A) (x : A) → length (xs ++ x ∷ []) ≡ suc (length xs)
length_one [] x = refl
length_one (z ∷ xs) x = ap (λ n. suc n) (length_one xs x)

is_in_numbers : (n p q : ℕ) → p ≤ q → q < p + n → is_in q (numbers_from p n) ≡ true
is_in_numbers zero p q a b = absurd (omega (arith, a, b))
is_in_numbers (suc n) p q a b = by (nat_eq q p) refl (λ d. is_in_numbers n (suc p) q (omega (arith, a, d)) (omega (arith, b)))
  where
    by : (x : Bool) → nat_eq q p ≡ x → (q ≢ p → is_in q (numbers_from (suc p) n) ≡ true) → (if x then true else is_in q (numbers_from (suc p) n)) ≡ true
    by true e later = refl
    by false e later = later (λ h. true≢false (sym (eq-eqb q p h) ∙ e))

-- ---- the machine

module _ (program : Program) (setup : Setup) (F : IsProgramFor program setup) (own : ℕ → ℕ) where
  abbrev pub held : ℕ → Kernel → List PrivateState → List (List ℕ) → Machine
  held r k os ts = record { program = program; tick = setup.tick; kernel = k; parts = os; transcripts = ts; rounds = r }

  -- What keeps every machine that is given part by part keeps every machine.
  pub spelled : (s u : State) (f : Machine → Machine)
      → ((k : Kernel) (os : List PrivateState) (ts : List (List ℕ)) → AllRepresent program setup F own s k os ts → IsIn program setup F own u (f (held s.rounds k os ts)))
      → (m : Machine) → IsIn program setup F own s m → IsIn program setup F own u (f m)
  spelled s u f keeps m I = subst (λ z. IsIn program setup F own u (f z)) (sym same) (keeps m.kernel m.parts m.transcripts I.all)
    where
      same : m ≡ held s.rounds m.kernel m.parts m.transcripts
      same i = record { program = I.program_is i; tick = I.tick_is i; kernel = m.kernel; parts = m.parts; transcripts = m.transcripts; rounds = I.rounds_are i }

  -- ---- waking

  module _ (s : State) (k : Kernel) (os : List PrivateState) (ts : List (List ℕ)) (A : AllRepresent program setup F own s k os ts) where
    wake_all : SameKernelPart s (record s { status = λ q. wake_status (s.status q) }) → Invariant (record s { status = λ q. wake_status (s.status q) })
        → AllRepresent program setup F own (record s { status = λ q. wake_status (s.status q) }) k (map wake_one os) ts
    wake_all S I = record {
      kernel = kernel_beside program F.texts setup s u k S A.kernel;
      part_count = length-map os wake_one ∙ A.part_count;
      transcript_count = A.transcript_count;
      parts = λ p low high y there.
          let found = mapped_found wake_one os (p - 1) y there in
          subst (PartRepresents program setup F (own p) p u k (transcript_of ts p)) found.2 (woken p (found.0) (A.parts p low high found.0 found.1));
      invariant = I;
    }
      where
        u : State
        u = record s { status = λ q. wake_status (s.status q) }

        woken : (p : ℕ) (o : PrivateState) → PartRepresents program setup F (own p) p s k (transcript_of ts p) o → PartRepresents program setup F (own p) p u k (transcript_of ts p) (wake_one o)
        woken p o P = record {
          part = part_wakes (ground_of program setup F p (own p)) s (transcript_of ts p) o P.part;
          begins = λ h.
              let B = P.begins (not_begun_beside s u p S h) in
              subst (λ a. Begins (ground_of program setup F p (own p)) u k (record o { activity = a })) (B.activity_is ∙ sym (ap awake B.activity_is))
              (begins_beside (ground_of program setup F p (own p)) s u k o refl S B);
        }

    pub wake_represents : IsIn program setup F own (meaning.wake setup s) (machine.wake (held s.rounds k os ts))
    wake_represents = by (nat_eq (suc s.rounds % setup.tick) 0) refl
      where
        by : (b : Bool) → nat_eq (suc s.rounds % setup.tick) 0 ≡ b
            → IsIn program setup F own (if b then record s { status = λ q. wake_status (s.status q) } else s) (if b then record (held s.rounds k os ts) { parts = map wake_one os } else held s.rounds k os ts)
        by true e = record {
          program_is = refl;
          tick_is = refl;
          rounds_are = refl;
          all = wake_all
              (subst (λ b. SameKernelPart s (if b then record s { status = λ q. wake_status (s.status q) } else s)) e (wake_kernel_part setup s))
              (subst (λ b. Invariant (if b then record s { status = λ q. wake_status (s.status q) } else s)) e (wake_keeps setup s A.invariant));
        }
        by false e = record { program_is = refl; tick_is = refl; rounds_are = refl; all = A }

  -- ---- private turns

  turns_are : (n r : ℕ) (k : Kernel) (ts : List (List ℕ)) (before os : List PrivateState)
      → machine.private_turns n (held r k (before ++ os) ts) (numbers_from (suc (length before)) (length os)) ≡ held r k (before ++ map (private_steps program (machine.clock (held r k [] ts)) n) os) ts
  turns_are n r k ts before [] = refl
  turns_are n r k ts before (o ∷ os) =
      ap (λ m. machine.private_turns n m (numbers_from (suc (suc (length before))) (length os))) turned
      ∙ (ap (λ l. machine.private_turns n (held r k ((before ++ f o ∷ []) ++ os) ts) (numbers_from (suc l) (length os))) (sym (length_one before (f o)))
      ∙ (turns_are n r k ts (before ++ f o ∷ []) os
      ∙ ap (λ xs. held r k xs ts) (append_one before (f o) (map f os))))
    where
      f : PrivateState → PrivateState
      f = private_steps program (machine.clock (held r k [] ts)) n

      turned : machine.private_turn n (held r k (before ++ o ∷ os) ts) (suc (length before)) ≡ held r k ((before ++ f o ∷ []) ++ os) ts
      turned =
          ap (λ j. elim (slice_get (before ++ o ∷ os) j) as (λ v. Machine) [ None ↦ held r k (before ++ o ∷ os) ts | Some x ↦ held r k (slice_set (before ++ o ∷ os) j (f x)) ts ]) (one_less (length before))
          ∙ (ap (λ z. elim z as (λ v. Machine) [ None ↦ held r k (before ++ o ∷ os) ts | Some x ↦ held r k (slice_set (before ++ o ∷ os) (length before) (f x)) ts ]) (append_get before o os)
          ∙ ap (λ xs. held r k xs ts) (append_set before o (f o) os))

  module _ (n : ℕ) (s : State) (k : Kernel) (os : List PrivateState) (ts : List (List ℕ)) (A : AllRepresent program setup F own s k os ts) where
    abbrev turned : PrivateState → PrivateState
    turned = private_steps program (machine.clock (held s.rounds k [] ts)) n

    all_turned : AllRepresent program setup F own (own_parts setup n s) k (map turned os) ts
    all_turned = record {
      kernel = kernel_turned program setup F n s A.invariant k A.kernel;
      part_count = length-map os turned ∙ A.part_count;
      transcript_count = A.transcript_count;
      parts = λ p low high y there.
          let found = mapped_found turned os (p - 1) y there in
          subst (PartRepresents program setup F (own p) p (own_parts setup n s) k (transcript_of ts p)) found.2 (mine p low high found.0 (A.parts p low high found.0 found.1));
      invariant = own_parts_keep setup n s A.invariant;
    }
      where
        mine : (p : ℕ) → 1 ≤ p → p ≤ process_count setup → (o : PrivateState) → PartRepresents program setup F (own p) p s k (transcript_of ts p) o
            → PartRepresents program setup F (own p) p (own_parts setup n s) k (transcript_of ts p) (turned o)
        mine p low high o P = record {
          part = part_turned program setup F n s A.invariant p (own p) (transcript_of ts p) o (is_in_numbers (process_count setup) 1 p low (omega (arith, high))) P.part;
          begins = λ h.
              let S = own_parts_kernel_part setup n s in
              let B = P.begins (not_begun_beside s (own_parts setup n s) p S h) in
              subst (Begins (ground_of program setup F p (own p)) (own_parts setup n s) k) (sym (idle_steps program (machine.clock (held s.rounds k [] ts)) n o B.activity_is))
              (begins_beside (ground_of program setup F p (own p)) s (own_parts setup n s) k o refl S B);
        }

    pub private_turns_represent : IsIn program setup F own (own_parts setup n s) (machine.private_turns n (held s.rounds k os ts) (processes setup))
    private_turns_represent =
        subst (IsIn program setup F own (own_parts setup n s)) (sym (ap (λ c. machine.private_turns n (held s.rounds k os ts) (numbers_from 1 c)) (sym A.part_count) ∙ turns_are n s.rounds k ts [] os))
        (record { program_is = refl; tick_is = refl; rounds_are = refl; all = all_turned })

  -- ---- kernel turns

  pub kernel_turns_represent : (n c p : ℕ) → 1 ≤ p → p + c ≤ suc (process_count setup) → (s : State) (m : Machine) → IsIn program setup F own s m
      → IsIn program setup F own (meaning.kernel_turns setup n s (numbers_from p c)) (machine.kernel_turns n m (numbers_from p c))
  kernel_turns_represent n zero p low high s m I = I
  kernel_turns_represent n (suc c) p low high s m I =
      kernel_turns_represent n c (suc p) (omega (arith, low)) (omega (arith, high)) _ (machine.kernel_turn n m p)
      (spelled s _ (λ z. machine.kernel_turn n z p) (λ k os ts A. kernel_turn_represents program setup F own s k os ts A n p low (omega (arith, high))) m I)

  -- ---- the end of a round

  module _ (s : State) (k : Kernel) (os : List PrivateState) (ts : List (List ℕ)) (A : AllRepresent program setup F own s k os ts) where
    abbrev closed : Kernel
    closed = record k { stages = map next_stage k.stages }

    ends : (p : ℕ) → 1 ≤ p → p ≤ process_count setup → (o : PrivateState) → PartRepresents program setup F (own p) p s k (transcript_of ts p) o
        → PartRepresents program setup F (own p) p (close_round s) closed (transcript_of ts p) (begin_one program k o)
    ends p low high o P = record {
      part = part_ends_round G s (transcript_of ts p) k o represents P.part (λ is. P.begins (subst HasNotBegun (sym is) tt));
      begins = λ h.
          let is = unstarted_only (s.status p) h in
          let B = P.begins (subst HasNotBegun (sym is) tt) in
          subst (Begins G (close_round s) closed) (sym (ap (λ q. begin_if program k o (stage_of k.stages q)) P.part.number ∙ ap (begin_if program k o) (unstarted_stage (kernel_ground program F.texts setup) (s.status p) (stage_of k.stages p) is represents)))
          (begins_round G s k o is B closed);
    }
      where
        G : Ground
        G = ground_of program setup F p (own p)

        represents : StageMeans (kernel_ground program F.texts setup) (s.status p) (stage_of k.stages p)
        represents = A.kernel.gates_represent.stages p low (omega (arith, high, A.kernel.gates_represent.stage_count))

    pub end_round_represents : IsIn program setup F own (close_round s) (machine.end_round (held s.rounds k os ts))
    end_round_represents = record {
      program_is = refl;
      tick_is = refl;
      rounds_are = refl;
      all = record {
        kernel = kernel_ends_round program F.texts setup s k A.kernel;
        part_count = length-map os (begin_one program k) ∙ A.part_count;
        transcript_count = A.transcript_count;
        parts = λ p low high y there.
            let found = mapped_found (begin_one program k) os (p - 1) y there in
            subst (PartRepresents program setup F (own p) p (close_round s) closed (transcript_of ts p)) found.2 (ends p low high found.0 (A.parts p low high found.0 found.1));
        invariant = close_round_keeps s A.invariant;
      };
    }

  pub end_represents : (s : State) (m : Machine) → IsIn program setup F own s m → IsIn program setup F own (close_round s) (machine.end_round m)
  end_represents s m I = spelled s (close_round s) machine.end_round (λ k os ts A. end_round_represents s k os ts A) m I

  -- ---- a round

  pub round_represents : (n : ℕ) (s : State) (m : Machine) → IsIn program setup F own s m → IsIn program setup F own (meaning.phased_round setup n s) (machine.phased_round n (processes setup) m)
  round_represents n s m I =
      let woken = spelled s (meaning.wake setup s) machine.wake (λ k os ts A. wake_represents s k os ts A) m I in
      let own_turns = spelled (meaning.wake setup s) (own_parts setup n (meaning.wake setup s)) (λ z. machine.private_turns n z (processes setup)) (λ k os ts A. private_turns_represent n (meaning.wake setup s) k os ts A) (machine.wake m) woken in
      let turns = kernel_turns_represent n (process_count setup) 1 (omega arith) (omega arith) (own_parts setup n (meaning.wake setup s)) (machine.private_turns n (machine.wake m) (processes setup)) own_turns in
      spelled _ (meaning.phased_round setup n s) machine.end_round (λ k os ts A. end_round_represents _ k os ts A) (machine.kernel_turns n (machine.private_turns n (machine.wake m) (processes setup)) (processes setup)) turns
