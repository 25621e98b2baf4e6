-- A machine that replays events, in any order, stays in the state of the meaning.
--
-- Waking, kernel turns and the end of a round are those of other rounds. What is new is one private
-- step between events of others. It is a private turn of one step, which keeps the parts of others.
use Rattle.std.proofs.Common.{◌≡◌, ℕ, zero, suc, ◌-◌, ◌≤◌, ◌<◌, List, [], ◌∷◌, length, Bool, true, false, Option, Some, None, fold, refl, ap, sym, subst, ◌∙◌, arith}
use Rattle.std.specs.Prelude.{◌≢◌, nat_eq, slice_get, slice_set}
use Rattle.std.proofs.lemmas.Bool.{eq-eqb, eqb-true, true≢false}
use Rattle.std.proofs.lemmas.List.{length-set}
use Rattle.cp_model.specs.Parts.{SameKernelPart}
use Rattle.cp_model.specs.Operators.{realtime}
use Rattle.cp_model.specs.Rounds as meaning
use Rattle.cp_model.specs.Rounds.{Event, KernelTurn, PrivateStep, replay_event}
use Rattle.cp_model.specs.States.{Setup, State, process_count, running_clock}
use Rattle.cp_model.specs.Turns as turns
use Rattle.cp_model.proofs.PartsKept.{private_step_kernel_part}
use Rattle.cp_model.proofs.RoundCount.{private_turn_count}
use Rattle.cp_model.proofs.RoundLaws.{lawful_is_sequential}
use Rattle.cp_model.proofs.StateInvariant.{private_step_keeps}
use Rattle.cp_law_gates.specs.InOrder.{world}
use Rattle.cp_law_gates.proofs.Reached.{round_keeps}
use Rattle.cp_model_program.specs.Programs.{Program}
use Rattle.cp_model_program.specs.IsProgramFor.{IsProgramFor}
use Rattle.cp_model_machine.specs.Beginning.{Begins}
use Rattle.cp_model_machine.specs.InState as public
use Rattle.cp_model_machine.specs.KernelSteps.{Kernel}
use Rattle.cp_model_machine.specs.Laws.{ground_of}
use Rattle.cp_model_machine.specs.Machines as machine
use Rattle.cp_model_machine.specs.Machines.{Machine, transcript_of}
use Rattle.cp_model_machine.specs.PrivateStates.{PrivateState}
use Rattle.cp_model_machine.specs.Replays.{AreWithin, event, process_of, replay}
use Rattle.cp_model_machine.specs.RoundLaws.{LawfulReplayIsRound, ReplayIsReplay}
use Rattle.cp_model_machine.specs.Steps.{private_steps}
use Rattle.cp_model_machine.proofs.Represents.{AllRepresent, IsIn, PartRepresents}
use Rattle.cp_model_machine.proofs.BeginsBeside.{begins_beside}
use Rattle.cp_model_machine.proofs.KernelTurns.{private_turn_keeps_kernel, private_turn_keeps_parts}
use Rattle.cp_model_machine.proofs.LawfulEvents.{lawful_within}
use Rattle.cp_model_machine.proofs.MachineRounds.{end_round_represents, idle_steps, not_begun_beside, spelled, wake_represents}
use Rattle.cp_model_machine.proofs.MachineStarts.{as_whole, ordered, own_words, part_by_part}
use Rattle.cp_model_machine.proofs.MachineTurns.{kernel_turn_represents}
use Rattle.cp_model_machine.proofs.PrivateTurns.{private_turn_is_turn}
use Rattle.cp_model_machine.proofs.Tables.{set_elsewhere, set_found}

module _ (program : Program) (setup : Setup) (F : IsProgramFor program setup) (own : ℕ → ℕ) where
  -- ---- one private step between events of other processes

  module _ (s : State) (k : Kernel) (os : List PrivateState) (ts : List (List ℕ)) (A : AllRepresent program setup F own s k os ts) (p : ℕ) (low : 1 ≤ p) (high : p ≤ process_count setup) where
    abbrev u : State
    u = turns.private_step setup s p

    abbrev kept : Machine
    kept = record { program = program; tick = setup.tick; kernel = k; parts = os; transcripts = ts; rounds = s.rounds }

    same_kernel : SameKernelPart s u
    same_kernel = private_step_kernel_part setup p s A.invariant

    module _ (o : PrivateState) (there : slice_get os (p - 1) ≡ Some o) where
      abbrev moved : PrivateState
      moved = private_steps program (realtime (running_clock setup s)) 1 o

      mine : PartRepresents program setup F (own p) p s k (transcript_of ts p) o
      mine = A.parts p low high o there

      own_represents : PartRepresents program setup F (own p) p u k (transcript_of ts p) moved
      own_represents = record {
        part = private_turn_is_turn program setup F p (own p) 1 s (transcript_of ts p) o A.invariant mine.part;
        begins = λ h.
            let B = mine.begins (not_begun_beside s u p same_kernel h) in
            subst (Begins (ground_of program setup F p (own p)) u k) (sym (idle_steps program (realtime (running_clock setup s)) 1 o B.activity_is))
            (begins_beside (ground_of program setup F p (own p)) s u k o refl same_kernel B);
      }

      other_represents : (q : ℕ) → p ≢ q → 1 ≤ q → q ≤ process_count setup → (oq : PrivateState) → slice_get os (q - 1) ≡ Some oq → PartRepresents program setup F (own q) q u k (transcript_of ts q) oq
      other_represents q d from below oq is =
          let theirs = A.parts q from below oq is in
          record {
            part = private_turn_keeps_parts program setup F p q (own q) 1 s (transcript_of ts q) oq d A.invariant theirs.part;
            begins = λ h. begins_beside (ground_of program setup F q (own q)) s u k oq refl same_kernel (theirs.begins (not_begun_beside s u q same_kernel h));
          }

      stepped : AllRepresent program setup F own u k (slice_set os (p - 1) moved) ts
      stepped = record {
        kernel = private_turn_keeps_kernel program setup F p 1 s k A.invariant A.kernel;
        part_count = length-set os (p - 1) moved ∙ A.part_count;
        transcript_count = A.transcript_count;
        parts = λ q from below oq is. by q from below oq is (nat_eq p q) refl;
        invariant = private_step_keeps setup s p A.invariant;
      }
        where
          by : (q : ℕ) → 1 ≤ q → q ≤ process_count setup → (oq : PrivateState) → slice_get (slice_set os (p - 1) moved) (q - 1) ≡ Some oq → (b : Bool) → nat_eq p q ≡ b
              → PartRepresents program setup F (own q) q u k (transcript_of ts q) oq
          by q from below oq is true e =
              let same : p ≡ q = eqb-true p q e in
              subst (λ z. PartRepresents program setup F (own z) z u k (transcript_of ts z) oq) same
              (subst (PartRepresents program setup F (own p) p u k (transcript_of ts p)) (set_found os (p - 1) moved oq (ap (λ z. slice_get (slice_set os (p - 1) moved) (z - 1)) same ∙ is)) own_represents)
          by q from below oq is false e =
              let d : p ≢ q = λ h. true≢false (sym (eq-eqb p q h) ∙ e) in
              let apart : p - 1 ≡ q - 1 → ⊥ = λ h. d (omega (arith, low, from, h)) in
              other_represents q d from below oq (sym (set_elsewhere os (p - 1) (q - 1) moved apart) ∙ is)

    pub private_step_represents : IsIn program setup F own (turns.private_step setup s p) (machine.private_turn 1 (record { program = program; tick = setup.tick; kernel = k; parts = os; transcripts = ts; rounds = s.rounds }) p)
    private_step_represents = by (slice_get os (p - 1)) refl
      where
        by : (z : Option PrivateState) → slice_get os (p - 1) ≡ z
            → IsIn program setup F own u (elim z as (λ v. Machine) [ None ↦ kept | Some o ↦ record kept { parts = slice_set os (p - 1) (private_steps program (machine.clock kept) 1 o) } ])
        by None e = record {
          program_is = refl;
          tick_is = refl;
          rounds_are = sym (private_turn_count setup 1 s p);
          all = absurd (missing os (p - 1) (omega (arith, low, high, A.part_count)) e);
        }
          where
            missing : {B : Type 0} (xs : List B) (i : ℕ) → i < length xs → slice_get xs i ≡ None → ⊥
            missing [] i h e = omega (arith, h)
            missing (x ∷ xs) zero h e = grind arith
            missing (x ∷ xs) (suc i) h e = missing xs i (omega (arith, h)) e
        by (Some o) e = record { program_is = refl; tick_is = refl; rounds_are = sym (private_turn_count setup 1 s p); all = stepped o e }

  -- ---- events

  pub event_represents : (n : ℕ) (e : Event) → 1 ≤ process_of e → process_of e ≤ process_count setup → (s : State) (m : Machine) → IsIn program setup F own s m
      → IsIn program setup F own (replay_event setup n s e) (event n m e)
  event_represents n (PrivateStep p) low high s m I =
      spelled program setup F own s (turns.private_step setup s p) (λ z. machine.private_turn 1 z p) (λ k os ts A. private_step_represents s k os ts A p low high) m I
  event_represents n (KernelTurn p) low high s m I =
      spelled program setup F own s (turns.kernel_turn setup n s p) (λ z. machine.kernel_turn n z p) (λ k os ts A. kernel_turn_represents program setup F own s k os ts A n p low high) m I

  events_represent : (n : ℕ) (es : List Event) → AreWithin (process_count setup) es → (s : State) (m : Machine) → IsIn program setup F own s m
      → IsIn program setup F own (fold (replay_event setup n) s es) (fold (event n) m es)
  events_represent n [] h s m I = I
  events_represent n (e ∷ es) h s m I = events_represent n es h.2 (replay_event setup n s e) (event n m e) (event_represents n e h.0 h.1 s m I)

  pub replay_represents : (n : ℕ) (es : List Event) → AreWithin (process_count setup) es → (s : State) (m : Machine) → IsIn program setup F own s m
      → IsIn program setup F own (meaning.replay_round setup n s es) (replay n es m)
  replay_represents n es h s m I =
      let woken = spelled program setup F own s (meaning.wake setup s) machine.wake (λ k os ts A. wake_represents program setup F own s k os ts A) m I in
      let all = events_represent n es h (meaning.wake setup s) (machine.wake m) woken in
      spelled program setup F own _ (meaning.replay_round setup n s es) machine.end_round (λ k os ts A. end_round_represents program setup F own _ k os ts A) (fold (event n) (machine.wake m) es) all

pub replay_is_replay : ReplayIsReplay
replay_is_replay m setup s n es h I =
    as_whole m.program setup I.represents (own_words m) (meaning.replay_round setup n s es) (replay n es m)
    (replay_represents m.program setup I.represents (own_words m) n es h s m (part_by_part m setup s I))
    (round_keeps (world setup) (ordered m.program setup I.represents) setup n es s I.order)

pub lawful_replay_is_round : LawfulReplayIsRound
lawful_replay_is_round m setup s n es lawful I =
    subst (λ u. public.IsIn (replay n es m) setup u) (lawful_is_sequential setup n s es I.order.invariant lawful)
    (replay_is_replay m setup s n es (lawful_within n (process_count setup) es lawful) I)
