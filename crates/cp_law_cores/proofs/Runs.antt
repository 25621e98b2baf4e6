-- Rounds in any order, as a machine makes them, and its core with it.
--
-- A kernel turn of several steps is as many turns of one step. So rounds are a list of acts, and the core
-- of the machine after the rounds is its first core after the acts.
use Rattle.std.specs.Prelude.{List, [], fold, refl, suc, true, zero, ℕ, ◌∷◌, ◌≡◌, ◌≤◌}
use Rattle.std.proofs.Common.{ap, arith, subst, sym, ◌∙◌}
use Rattle.cp_model.specs.Orders as orders
use Rattle.cp_model.specs.Rounds as rounds
use Rattle.cp_model.specs.Rounds.{Event, close_round, replay_event, replay_round, wake}
use Rattle.cp_model.specs.States.{Setup, State, is_in, process_count, processes}
use Rattle.cp_model.specs.Turns.{kernel_step, kernel_turn, private_step}
use Rattle.cp_model_program.specs.Programs.{Program}
use Rattle.cp_model_machine.specs.InState.{IsIn}
use Rattle.cp_model_machine.specs.Machines as machine
use Rattle.cp_model_machine.specs.Machines.{Machine, begin_one, end_round, next_stage}
use Rattle.cp_model_machine.specs.Replays.{AreWithin, event, process_of, replay}
use Rattle.cp_model_machine.proofs.MachineReplays.{replay_is_replay}
use Rattle.cp_law_stillness.specs.Stillness.{AreAllOfProcesses, AreOfProcesses}
use Rattle.cp_law_cores.specs.CoresOfStates.{with_one}
use Rattle.cp_law_cores.specs.Cores.{Core, close, core, kernel_at, private_at}
use Rattle.cp_law_cores.proofs.Acts.{Act, AreOf, EndRound, KernelStep, PrivateStep, after, apply}
use Rattle.cp_law_cores.proofs.Parts.{in_range}
use Rattle.cp_law_cores.proofs.Seen.{IsTimeless, Sees, end_round_by, kernel_turn_by, private_turn_by, wake_seen}

-- ---- Kernel turns of one step

abbrev pub kernel_events : ℕ → ℕ → List Event → List Event
kernel_events zero p es = es
kernel_events (suc t) p es = rounds.KernelTurn p ∷ kernel_events t p es

abbrev pub ones : ℕ → List Event → List Event
ones t [] = []
ones t (rounds.PrivateStep p ∷ es) = rounds.PrivateStep p ∷ ones t es
ones t (rounds.KernelTurn p ∷ es) = kernel_events t p (ones t es)

abbrev pub all_ones : List (ℕ × List Event) → List (List Event)
all_ones [] = []
all_ones (r ∷ rs) = ones r.0 r.1 ∷ all_ones rs

module _ (setup : Setup) where
  fold_kernel : (t p : ℕ) (es : List Event) (s : State)
      → fold (replay_event setup 1) s (kernel_events t p es) ≡ fold (replay_event setup 1) (kernel_turn setup t s p) es
  fold_kernel zero p es s = refl
  fold_kernel (suc t) p es s = fold_kernel t p es (kernel_step setup s p)

  fold_ones : (t : ℕ) (es : List Event) (s : State) → fold (replay_event setup 1) s (ones t es) ≡ fold (replay_event setup t) s es
  fold_ones t [] s = refl
  fold_ones t (rounds.PrivateStep p ∷ es) s = fold_ones t es (private_step setup s p)
  fold_ones t (rounds.KernelTurn p ∷ es) s = fold_kernel t p (ones t es) s ∙ fold_ones t es (kernel_turn setup t s p)

  pub replay_ones : (rs : List (ℕ × List Event)) (s : State) → orders.replay setup s (with_one (all_ones rs)) ≡ orders.replay setup s rs
  replay_ones [] s = refl
  replay_ones (r ∷ rs) s =
      ap (λ (u : State). orders.replay setup (close_round u) (with_one (all_ones rs))) (fold_ones r.0 r.1 (wake setup s))
      ∙ replay_ones rs (replay_round setup r.0 s r.1)

-- ---- Numbers of processes

module _ (setup : Setup) where
  kernel_within : (t p : ℕ) (es : List Event) → is_in p (processes setup) ≡ true → AreOfProcesses setup es → AreOfProcesses setup (kernel_events t p es)
  kernel_within zero p es there h = h
  kernel_within (suc t) p es there h = (there, kernel_within t p es there h)

  ones_within : (t : ℕ) (es : List Event) → AreOfProcesses setup es → AreOfProcesses setup (ones t es)
  ones_within t [] h = tt
  ones_within t (rounds.PrivateStep p ∷ es) h = (h.0, ones_within t es h.1)
  ones_within t (rounds.KernelTurn p ∷ es) h = kernel_within t p (ones t es) h.0 (ones_within t es h.1)

  pub all_ones_within : (rs : List (ℕ × List Event)) → AreAllOfProcesses setup rs → AreAllOfProcesses setup (with_one (all_ones rs))
  all_ones_within [] h = tt
  all_ones_within (r ∷ rs) h = (ones_within r.0 r.1 h.0, all_ones_within rs h.1)

  within_range : (es : List Event) → AreOfProcesses setup es → AreWithin (process_count setup) es
  within_range [] h = tt
  within_range (rounds.PrivateStep p ∷ es) h = let r = in_range setup p h.0 in (r.0, r.1, within_range es h.1)
  within_range (rounds.KernelTurn p ∷ es) h = let r = in_range setup p h.0 in (r.0, r.1, within_range es h.1)

  -- ---- A machine that makes the rounds

  abbrev pub made : Machine → List (List Event) → Machine
  made m [] = m
  made m (es ∷ rs) = made (replay 1 es m) rs

  pub made_is_in : (rs : List (List Event)) (m : Machine) (s : State) → AreAllOfProcesses setup (with_one rs) → IsIn m setup s
      → IsIn (made m rs) setup (orders.replay setup s (with_one rs))
  made_is_in [] m s h I = I
  made_is_in (es ∷ rs) m s h I =
      made_is_in rs (replay 1 es m) (replay_round setup 1 s es) h.1 (replay_is_replay m setup s 1 es (within_range es h.0) I)

-- ---- Its core

abbrev pub act_of : Event → Act
act_of (rounds.PrivateStep p) = PrivateStep p
act_of (rounds.KernelTurn p) = KernelStep p

abbrev pub acts_then : List Event → List Act → List Act
acts_then [] rest = rest
acts_then (e ∷ es) rest = act_of e ∷ acts_then es rest

abbrev pub acts_of : List (List Event) → List Act
acts_of [] = []
acts_of (es ∷ rs) = acts_then es (EndRound ∷ acts_of rs)

module _ (program : Program) where
  -- What holds of the machine's own program holds of this one.
  pub here : (f : Machine → Machine) (g : Program → Core → Core)
      → ((m : Machine) → IsTimeless m.program m → Sees m.program (f m) (g m.program (core m)))
      → (m : Machine) (c : Core) → Sees program m c → Sees program (f m) (g program c)
  here f g h m c s =
      let own : IsTimeless m.program m = record { program_is = refl; timeless = s.timeless.timeless; awake = s.timeless.awake } in
      subst (λ (z : Core). Sees program (f m) (g program z)) s.sees
      (subst (λ (q : Program). Sees q (f m) (g q (core m))) s.timeless.program_is (h m own))

  pub event_sees : (e : Event) (m : Machine) (c : Core) → 1 ≤ process_of e → Sees program m c → Sees program (event 1 m e) (apply program c (act_of e))
  event_sees (rounds.PrivateStep zero) m c low s = absurd (Prim.omega (arith, low))
  event_sees (rounds.PrivateStep (suc i)) m c low s =
      here (λ x. machine.private_turn 1 x (suc i)) (λ q z. private_at q z (suc i)) (λ x h. private_turn_by x i h) m c s
  event_sees (rounds.KernelTurn zero) m c low s = absurd (Prim.omega (arith, low))
  event_sees (rounds.KernelTurn (suc i)) m c low s =
      here (λ x. machine.kernel_turn 1 x (suc i)) (λ q z. kernel_at q z (suc i)) (λ x h. kernel_turn_by x i h) m c s

  events_see : (es : List Event) (k : ℕ) (m : Machine) (c : Core) → AreWithin k es → Sees program m c
      → (rest : List Act) → (z : Core) × Sees program (fold (event 1) m es) z × (after program c (acts_then es rest) ≡ after program z rest)
  events_see [] k m c h s rest = (c, s, refl)
  events_see (e ∷ es) k m c h s rest = events_see es k (event 1 m e) (apply program c (act_of e)) h.2 (event_sees e m c h.0 s) rest

  woken : (m : Machine) (c : Core) → Sees program m c → Sees program (machine.wake m) c
  woken m c s = subst (λ (x : Machine). Sees program x c) (sym (wake_seen m s.timeless.awake)) s

  pub made_sees : (setup : Setup) (rs : List (List Event)) (m : Machine) (c : Core) → AreAllOfProcesses setup (with_one rs) → Sees program m c
      → Sees program (made setup m rs) (after program c (acts_of rs))
  made_sees setup [] m c h s = s
  made_sees setup (es ∷ rs) m c h s =
      let r = events_see es (process_count setup) (machine.wake m) c (within_range setup es h.0) (woken m c s) (EndRound ∷ acts_of rs) in
      let ended = here end_round close end_round_by (fold (event 1) (machine.wake m) es) r.0 r.1 in
      subst (λ (z : Core). Sees program (made setup (replay 1 es m) rs) z) (sym r.2)
      (made_sees setup rs (replay 1 es m) (close program r.0) h.1 ended)

acts_then_within : (setup : Setup) (es : List Event) (rest : List Act) → AreOfProcesses setup es → AreOf (processes setup) rest → AreOf (processes setup) (acts_then es rest)
acts_then_within setup [] rest h k = k
acts_then_within setup (rounds.PrivateStep p ∷ es) rest h k = (h.0, acts_then_within setup es rest h.1 k)
acts_then_within setup (rounds.KernelTurn p ∷ es) rest h k = (h.0, acts_then_within setup es rest h.1 k)

pub acts_within : (setup : Setup) (rs : List (List Event)) → AreAllOfProcesses setup (with_one rs) → AreOf (processes setup) (acts_of rs)
acts_within setup [] h = tt
acts_within setup (es ∷ rs) h = acts_then_within setup es (EndRound ∷ acts_of rs) h.0 (tt, acts_within setup rs h.1)
