-- A machine is in the states that the laws of rounds lead to.
use Rattle.std.proofs.Common.{◌≡◌, ◌+◌, ◌<◌, ◌≤◌, ℕ, suc, List, [], ◌∷◌, length, refl, ap, sym, ◌∙◌, subst, arith}
use Rattle.cp_model_program.specs.Programs as code
use Rattle.cp_model_program.specs.Programs.{Program}
use Rattle.cp_kernel.specs.KernelOf.{Bytes}
use Rattle.cp_model.specs.Rounds as meaning
use Rattle.cp_model.specs.Rounds.{Event}
use Rattle.cp_model.specs.Start.{start}
use Rattle.cp_model.specs.States.{Setup, State, numbers_from, process_count}
use Rattle.cp_model_machine.specs.InState.{IsIn}
use Rattle.cp_model_machine.specs.Machines as plain
use Rattle.cp_model_machine.specs.Machines.{first_machine, first_part, first_parts}
use Rattle.cp_model_machine.specs.PrivateStates.{PrivateState}
use Rattle.cp_model_machine.specs.RoundLaws.{LawfulReplayIsRound, ReplayIsReplay, RoundIsRound, RoundsAreRun, StartIsIn}
use Rattle.cp_model_machine.specs.Replays.{AreWithin, replay}
use Rattle.cp_rounds_handoff.specs.Inputs.{input_of}
use Rattle.cp_rounds.specs.InStates.{IsStarted, MakesReplay, MakesRounds}
use Rattle.cp_rounds.specs.Views.{machine_of, processes_of}
use Rattle.cp_rounds.specs.declared.machine.Machine.{Machine}
use Rattle.cp_rounds.proofs.Made.{parts_count}

-- ---- A start looks at no inputs but those of its processes

same_parts : (program : Program) (f g : ℕ → List ℕ) (n : ℕ) (rows : List code.Process) → ((p : ℕ) → n ≤ p → p < n + length rows → f p ≡ g p)
    → first_parts program f n rows ≡ first_parts program g n rows
same_parts program f g n [] same = refl
same_parts program f g n (row ∷ rows) same =
    let first : first_part program f n row ≡ first_part program g n row =
    ap (λ (l : List ℕ). first_part program (λ q. l) n row) (same n (Prim.omega arith) (Prim.omega arith)) in
    let rest = same_parts program f g (suc n) rows (λ p h below. same p (Prim.omega (arith, h)) (Prim.omega (arith, below))) in
    λ i. first i ∷ rest i

pub same_start : (program : Program) (tick : ℕ) (f g : ℕ → List ℕ) → ((p : ℕ) → 1 ≤ p → p ≤ length program.processes → f p ≡ g p)
    → first_machine program tick f ≡ first_machine program tick g
same_start program tick f g same =
    let m : plain.Machine = first_machine program tick f in
    ap (λ (parts : List PrivateState). record m { parts = parts })
    (same_parts program f g 1 program.processes (λ p first last. same p first (Prim.omega (arith, last))))

-- ---- States

pub is_started : (program : Program) (tick : ℕ) (inputs : List Bytes) (m : Machine) → StartIsIn → machine_of m ≡ first_machine program tick (input_of inputs)
    → IsStarted program tick inputs m
is_started program tick inputs m law made setup represents ticks given =
    let same : machine_of m ≡ first_machine program setup.tick setup.inputs =
    made ∙ (ap (λ n. first_machine program n (input_of inputs)) (sym ticks) ∙ same_start program setup.tick (input_of inputs) setup.inputs given) in
    subst (λ o. IsIn o setup (start setup)) (sym same) (law program setup represents)

-- A machine has as many processes as the text.
pub process_count_is : (m : Machine) (setup : Setup) (s : State) → IsIn (machine_of m) setup s → processes_of m ≡ process_count setup
process_count_is m setup s I = sym (parts_count (input_of m.config.inputs.items) 1 m.parts.privates.items) ∙ I.part_count

pub makes_round : (t : ℕ) (old : Machine) (m : plain.Machine) → RoundIsRound → m ≡ plain.phased_round t (numbers_from 1 (processes_of old)) (machine_of old)
    → (setup : Setup) (s : State) → IsIn (machine_of old) setup s → IsIn m setup (meaning.phased_round setup t s)
makes_round t old m law made setup s I =
    let same = made ∙ ap (λ n. plain.phased_round t (numbers_from 1 n) (machine_of old)) (process_count_is old setup s I) in
    subst (λ o. IsIn o setup (meaning.phased_round setup t s)) (sym same) (law (machine_of old) setup s t I)

pub makes_rounds : (t n : ℕ) (old new : Machine) → RoundsAreRun → machine_of new ≡ plain.phased_rounds t (numbers_from 1 (processes_of old)) n (machine_of old)
    → MakesRounds t n old new
makes_rounds t n old new law made setup s I =
    let same = made ∙ ap (λ k. plain.phased_rounds t (numbers_from 1 k) n (machine_of old)) (process_count_is old setup s I) in
    subst (λ o. IsIn o setup (meaning.run setup t n s)) (sym same) (law (machine_of old) setup s t n I)

pub makes_replay : (t : ℕ) (events : List Event) (old new : Machine) → ReplayIsReplay → LawfulReplayIsRound → AreWithin (processes_of old) events
    → machine_of new ≡ replay t events (machine_of old) → MakesReplay t events old new
makes_replay t events old new any lawful within made = record {
  replay = λ setup s I.
      subst (λ o. IsIn o setup (meaning.replay_round setup t s events)) (sym made)
      (any (machine_of old) setup s t events (subst (λ (n : ℕ). AreWithin n events) (process_count_is old setup s I) within) I);
  lawful = λ setup s L I.
      subst (λ o. IsIn o setup (meaning.sequential_round setup t s)) (sym made) (lawful (machine_of old) setup s t events L I);
}
