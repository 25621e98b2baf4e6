-- The first machine is in the start. After any number of rounds it is in the state after as many
-- rounds of the meaning, and its report is that of this state.
use Rattle.std.proofs.Common.{◌≡◌, ℕ, zero, suc, ◌+◌, ◌-◌, ◌≤◌, List, [], ◌∷◌, length, map, Bool, true, false, Some, None, refl, ap, sym, subst, ◌∙◌, arith}
use Rattle.std.specs.Prelude.{if◌then◌else◌, nat_eq, slice_get}
use Rattle.std.proofs.lemmas.List.{length-map}
use Rattle.std.proofs.lemmas.Option.{slice_get_within}
use Rattle.cp_model.specs.Configurations as stage
use Rattle.cp_model.specs.Configurations.{Status}
use Rattle.cp_model.specs.Parts.{HasNotBegun}
use Rattle.cp_model.specs.Rounds as meaning
use Rattle.cp_model.specs.Rounds.{after_closing}
use Rattle.cp_model.specs.Start.{start}
use Rattle.cp_model.specs.States.{Setup, State, process_count, processes}
use Rattle.cp_model.proofs.RoundLaws.{phased_is_sequential}
use Rattle.cp_model.proofs.StartInvariant.{start_invariant}
use Rattle.cp_model.proofs.Options.{same_some}
use Rattle.cp_law_gates.specs.InOrder.{InOrder, IsOrdered, world}
use Rattle.cp_law_gates.proofs.Reached.{closes, run_keeps, start_in_order, whole_round_keeps}
use Rattle.cp_law_gates.proofs.Texts.{text_is_ordered}
use Rattle.cp_model_program.specs.Programs as code
use Rattle.cp_model_program.specs.Programs.{Program}
use Rattle.cp_model_program.specs.IsProgramFor.{IsProgramFor}
use Rattle.cp_model_machine.specs.InState as public
use Rattle.cp_model_machine.specs.InState.{NoneFresh}
use Rattle.cp_model_machine.specs.Machines as machine
use Rattle.cp_model_machine.specs.Machines.{Machine, end_round, first_machine, first_part, first_parts, transcript_of}
use Rattle.cp_model_machine.specs.PrivateStates.{PrivateState}
use Rattle.cp_model_machine.specs.RoundLaws.{EndIsEnd, RoundIsRound, RoundsAreRun, RunIsReported, StartIsIn}
use Rattle.cp_model_machine.proofs.Finding.{some_is_not_none}
use Rattle.cp_model_machine.proofs.KernelStarts.{kernel_starts}
use Rattle.cp_model_machine.proofs.MachineRounds.{end_represents, round_represents}
use Rattle.cp_model_machine.proofs.Reporting.{report_is_report}
use Rattle.cp_model_machine.proofs.Represents.{IsIn, PartRepresents}
use Rattle.cp_model_machine.proofs.Starting.{start_is_part}

-- ---- lists

first_count : (program : Program) (inputs : ℕ → List ℕ) (p : ℕ) (xs : List code.Process) → length (first_parts program inputs p xs) ≡ length xs
first_count program inputs p [] = refl
first_count program inputs p (x ∷ xs) = ap (λ n. suc n) (first_count program inputs (suc p) xs)

first_found : (program : Program) (inputs : ℕ → List ℕ) (p i : ℕ) (xs : List code.Process) (o : PrivateState) → slice_get (first_parts program inputs p xs) i ≡ Some o
    → (x : code.Process) × (slice_get xs i ≡ Some x) × (first_part program inputs (p + i) x ≡ o)
first_found program inputs p i [] o h = absurd (some_is_not_none o (sym h))
first_found program inputs p zero (x ∷ xs) o h = (x, refl, subst (λ q. first_part program inputs q x ≡ o) (omega arith) (same_some _ o h))
first_found program inputs p (suc i) (x ∷ xs) o h =
    let found = first_found program inputs (suc p) i xs o h in
    (found.0, found.1, subst (λ q. first_part program inputs q found.0 ≡ o) (omega arith) found.2)

nothing_yet : (xs : List code.Process) (i : ℕ) → elim (slice_get {X = List ℕ} (map (λ x. []) xs) i) as (λ z. List ℕ) [ None ↦ [] | Some b ↦ b ] ≡ []
nothing_yet [] i = refl
nothing_yet (x ∷ xs) zero = refl
nothing_yet (x ∷ xs) (suc i) = nothing_yet xs i

-- ---- the start

abbrev first_own : Program → Setup → ℕ → ℕ
first_own program setup p = elim (slice_get program.processes (p - 1)) [ None ↦ 0 | Some x ↦ length (first_part program setup.inputs p x).words ]

start_represents : (program : Program) (setup : Setup) (F : IsProgramFor program setup) → IsIn program setup F (first_own program setup) (start setup) (first_machine program setup.tick setup.inputs)
start_represents program setup F = record {
  program_is = refl;
  tick_is = refl;
  rounds_are = refl;
  all = record {
    kernel = kernel_starts program setup F setup.tick setup.inputs;
    part_count = first_count program setup.inputs 1 program.processes ∙ F.process_rows;
    transcript_count = length-map program.processes (λ x. []) ∙ F.process_rows;
    parts = parts;
    invariant = start_invariant setup;
  };
}
  where
    m : Machine
    m = first_machine program setup.tick setup.inputs

    parts : (p : ℕ) → 1 ≤ p → p ≤ process_count setup → (o : PrivateState) → slice_get m.parts (p - 1) ≡ Some o
        → PartRepresents program setup F (first_own program setup p) p (start setup) m.kernel (transcript_of m.transcripts p) o
    parts p low high o there =
        let found = first_found program setup.inputs 1 (p - 1) program.processes o there in
        let it : first_part program setup.inputs p found.0 ≡ o = subst (λ q. first_part program setup.inputs q found.0 ≡ o) (omega (arith, low)) found.2 in
        let S = start_is_part program setup F p found.0 low high found.1 in
        let own : length (first_part program setup.inputs p found.0).words ≡ first_own program setup p = λ i. elim (sym found.1 i) as (λ z. ℕ) [ None ↦ 0 | Some x ↦ length (first_part program setup.inputs p x).words ] in
        subst (λ b. PartRepresents program setup F (first_own program setup p) p (start setup) m.kernel b o) (sym (nothing_yet program.processes (p - 1)))
        (subst (PartRepresents program setup F (first_own program setup p) p (start setup) m.kernel []) it
        (subst (λ n. PartRepresents program setup F n p (start setup) m.kernel [] (first_part program setup.inputs p found.0)) own
        (record { part = S.0; begins = λ h. S.1 m.kernel (second p low h) })))
      where
        second : (p : ℕ) → 1 ≤ p → HasNotBegun ((start setup).status p) → 2 ≤ p
        second zero low h = absurd (omega (arith, low))
        second (suc zero) low h = absurd h
        second (suc (suc n)) low h = omega arith

-- ---- rounds

rounds_represent : (program : Program) (setup : Setup) (F : IsProgramFor program setup) (own : ℕ → ℕ) (n rounds : ℕ) (s : State) (m : Machine) → IsIn program setup F own s m
    → IsIn program setup F own (meaning.run setup n rounds s) (machine.phased_rounds n (processes setup) rounds m)
rounds_represent program setup F own n zero s m I = I
rounds_represent program setup F own n (suc rounds) s m I =
    rounds_represent program setup F own n rounds (meaning.sequential_round setup n s) (machine.phased_round n (processes setup) m)
    (subst (λ u. IsIn program setup F own u (machine.phased_round n (processes setup) m)) (phased_is_sequential setup n s I.all.invariant)
    (round_represents program setup F own n s m I))

-- ---- as the laws say it

-- The number of words in the private state of each process.
abbrev pub own_words : Machine → ℕ → ℕ
own_words m p = elim (slice_get m.parts (p - 1)) [ None ↦ 0 | Some o ↦ length o.words ]

pub part_by_part : (m : Machine) (setup : Setup) (s : State) (I : public.IsIn m setup s) → IsIn m.program setup I.represents (own_words m) s m
part_by_part m setup s I = record {
  program_is = refl;
  tick_is = I.tick;
  rounds_are = I.rounds;
  all = record {
    kernel = I.kernel;
    part_count = I.part_count;
    transcript_count = I.transcript_count;
    parts = λ p low high o there.
        let P = I.parts p o low there in
        let own : length o.words ≡ own_words m p = λ i. elim (sym there i) as (λ z. ℕ) [ None ↦ 0 | Some x ↦ length x.words ] in
        subst (λ n. PartRepresents m.program setup I.represents n p s m.kernel (transcript_of m.transcripts p) o) own (record { part = P.part; begins = P.begins });
    invariant = I.order.invariant;
  };
}

pub as_whole : (program : Program) (setup : Setup) (F : IsProgramFor program setup) (own : ℕ → ℕ) (s : State) (m : Machine) → IsIn program setup F own s m → InOrder (world setup) s → public.IsIn m setup s
as_whole program setup F own s m I order =
    subst (λ z. public.IsIn z setup s) (sym same)
    (record {
      represents = F;
      tick = refl;
      rounds = refl;
      part_count = I.all.part_count;
      transcript_count = I.all.transcript_count;
      parts = λ p o low there.
          let P = I.all.parts p low (omega (arith, low, slice_get_within m.parts (p - 1) o there, I.all.part_count)) o there in
          let Q = subst (λ n. PartRepresents program setup F n p s m.kernel (transcript_of m.transcripts p) o) (sym P.part.count) P in
          record { part = Q.part; begins = Q.begins };
      kernel = I.all.kernel;
      order = order;
    })
  where
    same : m ≡ record { program = program; tick = setup.tick; kernel = m.kernel; parts = m.parts; transcripts = m.transcripts; rounds = s.rounds }
    same i = record { program = I.program_is i; tick = I.tick_is i; kernel = m.kernel; parts = m.parts; transcripts = m.transcripts; rounds = I.rounds_are i }

-- The text keeps the order of its gates.
pub ordered : (program : Program) (setup : Setup) → IsProgramFor program setup → IsOrdered (world setup)
ordered program setup F = text_is_ordered setup F.typed

pub start_is_in : StartIsIn
start_is_in program setup F =
    as_whole program setup F (first_own program setup) (start setup) (first_machine program setup.tick setup.inputs) (start_represents program setup F)
    (start_in_order setup (ordered program setup F))

pub round_is_round : RoundIsRound
round_is_round m setup s n I =
    as_whole m.program setup I.represents (own_words m) (meaning.phased_round setup n s) (machine.phased_round n (processes setup) m)
    (round_represents m.program setup I.represents (own_words m) n s m (part_by_part m setup s I))
    (subst (InOrder (world setup)) (sym (phased_is_sequential setup n s I.order.invariant)) (whole_round_keeps (world setup) (ordered m.program setup I.represents) setup n s I.order))

pub end_is_end : EndIsEnd
end_is_end m setup s I =
    as_whole m.program setup I.represents (own_words m) (meaning.close_round s) (end_round m)
    (end_represents m.program setup I.represents (own_words m) s m (part_by_part m setup s I))
    (closes (world setup) (ordered m.program setup I.represents) setup s I.order)

pub rounds_are_run : RoundsAreRun
rounds_are_run m setup s n rounds I =
    as_whole m.program setup I.represents (own_words m) (meaning.run setup n rounds s) (machine.phased_rounds n (processes setup) rounds m)
    (rounds_represent m.program setup I.represents (own_words m) n rounds s m (part_by_part m setup s I))
    (run_keeps (world setup) (ordered m.program setup I.represents) setup n rounds s I.order)

-- ---- reports

-- Nobody is fresh after the end of a round.
pub closed_calm : (s : State) → NoneFresh (meaning.close_round s)
closed_calm s p = closed (s.status p)
  where
    reports : Status → Type 0
    reports stage.Fresh = Unit {0}
    reports _ = ⊥

    after : (x : Status) → reports (after_closing x) → ⊥
    after stage.Unstarted h = h
    after stage.Fresh h = h
    after stage.Ready h = h
    after stage.Ended h = h
    after stage.Waiting h = h
    after (stage.Asking m) h = h
    after (stage.Delayed m q) h = h
    after (stage.Faulted m) h = h

    closed : (x : Status) → after_closing x ≡ stage.Fresh → ⊥
    closed x is = after x (subst reports (sym is) tt)

pub run_calm : (setup : Setup) (n rounds : ℕ) (s : State) → NoneFresh s → NoneFresh (meaning.run setup n rounds s)
run_calm setup n zero s h = h
run_calm setup n (suc rounds) s h =
    run_calm setup n rounds (meaning.sequential_round setup n s) (closed_calm (meaning.all_turns setup n (meaning.wake setup s) (processes setup)))

pub start_calm : (setup : Setup) → NoneFresh (start setup)
start_calm setup p is = by (nat_eq 1 p) (subst reports (sym is) tt)
  where
    reports : Status → Type 0
    reports stage.Fresh = Unit {0}
    reports _ = ⊥

    by : (b : Bool) → reports (if b then stage.Ready else stage.Unstarted) → ⊥
    by true h = h
    by false h = h

pub run_is_calm : (setup : Setup) (n rounds : ℕ) → NoneFresh (meaning.run setup n rounds (start setup))
run_is_calm setup n rounds = run_calm setup n rounds (start setup) (start_calm setup)

-- After any number of rounds from the start, the machine is in the state that one processor reaches.
pub run_is_in : (program : Program) (setup : Setup) (n rounds : ℕ) → IsProgramFor program setup
    → public.IsIn (machine.phased_rounds n (processes setup) rounds (first_machine program setup.tick setup.inputs)) setup (meaning.run setup n rounds (start setup))
run_is_in program setup n rounds F = rounds_are_run (first_machine program setup.tick setup.inputs) setup (start setup) n rounds (start_is_in program setup F)

pub run_is_reported : RunIsReported
run_is_reported program setup n rounds F =
    report_is_report (machine.phased_rounds n (processes setup) rounds (first_machine program setup.tick setup.inputs)) setup (meaning.run setup n rounds (start setup))
    (run_is_in program setup n rounds F) (run_is_calm setup n rounds)
