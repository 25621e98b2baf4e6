-- Cores of a lost signal, computed: process 1 delays in a queue of the monitor, and process 2 continues
-- it. If process 2 comes first, its `continue` finds nobody, and process 1 is stuck. If process 1 comes
-- first, both end.
use Rattle.std.specs.Prelude.{pos, Bool, List, [], false, refl, suc, true, zero, ℕ, ◌∷◌, ◌≡◌, ℤ}
use Rattle.std.proofs.Common.{ap}
use Rattle.std.proofs.lemmas.Bool.{true≢false}
use Rattle.cp_model_program.specs.Programs as op
use Rattle.cp_model_program.specs.Programs.{Call, CodeUnit, Program}
use Rattle.cp_model_program.specs.Terms as term
use Rattle.cp_model_machine.specs.KernelSteps.{Begun, Fresh, SchedulingState, stage_of}
use Rattle.cp_model_machine.specs.Machines.{first_machine}
use Rattle.cp_model_machine.specs.PrivateStates.{PrivateState, Running}
use Rattle.cp_law_cores.specs.Wiping.{wiped}
use Rattle.cp_law_cores.specs.Clocks.{is_timeless}
use Rattle.cp_law_cores.specs.Cores.{Core, close, core, is_kernel_on, is_private_on, part}
use Rattle.cp_law_cores.specs.Turns.{NoneFresh}
use Rattle.cp_law_cores.specs.Verdicts.{core_has_ended, core_is_sound, core_is_still}
use Rattle.cp_law_cores.proofs.Acts.{EndRound, KernelStep, PrivateStep, after}
use Rattle.cp_law_cores.proofs.Turns.{close_nobody}

abbrev call : ℕ → Call
call unit = record { routine = unit; target = term.Monitor 1; arguments = []; words = 0; temps = 0 }

abbrev unit : ℕ → CodeUnit
unit at = record { start = at; starts = op.Done; words = 0; temps = 0; frames = 1 }

-- Process 1 initialises the monitor and process 2, and calls the routine that delays. Process 2 calls the
-- routine that continues.
abbrev program : Program
program = record {
  operations =
      op.InitMonitor (call 4) 1 ∷ op.InitProcess 2 [] 0 2 ∷ op.Procedure (call 2) 3 ∷ op.End
      ∷ op.Procedure (call 3) 5 ∷ op.End
      ∷ op.Delay (term.Rooted (term.Member 0)) 7 ∷ op.Return false
      ∷ op.Continue (term.Rooted (term.Member 0)) false
      ∷ op.EndBody ∷ [];
  units = unit 0 ∷ unit 4 ∷ unit 6 ∷ unit 8 ∷ unit 9 ∷ [];
  monitors = record { start = 0; body = 4; words = 1; starts = op.Done } ∷ [];
  processes = record { body = 0; words = 0; parameters = 0; waiting = 0; starts = op.Done }
      ∷ record { body = 1; words = 0; parameters = 0; waiting = 0; starts = op.Done } ∷ [];
  shared = 1;
}

timeless : is_timeless program ≡ true
timeless = refl

abbrev first : Core
first = core (first_machine program 1 (λ p. []))

-- ---- Up to the point where the order matters

abbrev started : Core
started = after program first (KernelStep 1 ∷ KernelStep 1 ∷ KernelStep 1 ∷ EndRound ∷ [])

-- ---- Process 2 comes first

abbrev stuck : Core
stuck = after program started (KernelStep 2 ∷ KernelStep 2 ∷ PrivateStep 2 ∷ KernelStep 1 ∷ KernelStep 1 ∷ [])

nobody_comes : (core_is_still 2 stuck ≡ true) × (core_has_ended 2 stuck ≡ false) × (core_is_sound 2 stuck ≡ true)
nobody_comes = (refl, refl, refl)

-- ---- Process 1 comes first

abbrev ended : Core
ended =
    after program started
    (KernelStep 1 ∷ KernelStep 1 ∷ KernelStep 2 ∷ KernelStep 2 ∷ PrivateStep 2 ∷ KernelStep 1 ∷ PrivateStep 1 ∷ [])

all_end : (core_is_still 2 ended ≡ true) × (core_has_ended 2 ended ≡ true)
all_end = (refl, refl)

-- ---- Nothing leads on from the core that is stuck

no_private_step : (is_private_on program (part stuck.parts 1) ≡ false) × (is_private_on program (part stuck.parts 2) ≡ false)
no_private_step = (refl, refl)

no_kernel_step : (is_kernel_on program stuck.kernel (part stuck.parts 1) ≡ false) × (is_kernel_on program stuck.kernel (part stuck.parts 2) ≡ false)
no_kernel_step = (refl, refl)

nobody_begins : NoneFresh stuck.kernel
nobody_begins = record { none = by }
  where
    no : Begun ≡ Fresh → ⊥
    no e = true≢false (ap (λ (g : SchedulingState). elim g as (λ x. Bool) [ Begun ↦ true | _ ↦ false ]) e)

    by : (p : ℕ) → stage_of stuck.kernel.stages p ≡ Fresh → ⊥
    by zero e = no e
    by (suc zero) e = true≢false (ap (λ (g : SchedulingState). elim g as (λ x. Bool) [ Fresh ↦ false | _ ↦ true ]) e)
    by (suc (suc zero)) e = no e
    by (suc (suc (suc p))) e = no e

stays_stuck : close program stuck ≡ stuck
stays_stuck = close_nobody program stuck nobody_begins

-- ---- Wiping

-- Process 1 before its call, with one word of its own, and a word and a temp that a callee left.
abbrev resting : List ℤ → List ℤ → PrivateState
resting ws ts = record {
  number = 1;
  activity = Running;
  counter = 2;
  base = 1;
  temp = 0;
  component = 0;
  gate = 0;
  words = ws;
  temps = ts;
  frames = [];
  limit = 1;
  output = [];
  input = [];
  consumed = 0;
}

wiped_there : wiped program (resting (pos 7 ∷ pos 8 ∷ []) (pos 9 ∷ [])) ≡ resting (pos 7 ∷ pos 0 ∷ []) (pos 0 ∷ [])
wiped_there = refl
