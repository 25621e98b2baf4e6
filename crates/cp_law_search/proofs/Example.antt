-- A lost signal, found by calls and computed. Process 1 delays in a queue of the monitor, and process 2
-- continues it. If process 2 calls first, its `continue` finds nobody, and process 1 is stuck. If process 1
-- calls first, both end. Only the order of three calls is chosen.
use Rattle.std.specs.Prelude.{[], false, refl, suc, true, zero, ℕ, ◌∷◌, ◌≡◌}
use Rattle.std.proofs.Common.{arith, sym, ◌∙◌}
use Rattle.cp_model.specs.States.{is_in}
use Rattle.cp_model_program.specs.Programs as op
use Rattle.cp_model_program.specs.Programs.{Call, CodeUnit, Program}
use Rattle.cp_model_program.specs.Terms as term
use Rattle.cp_model_machine.specs.Machines.{first_machine}
use Rattle.cp_law_calls.specs.Runs.{ByCalls, IsSettled, Machine, Settles}
use Rattle.cp_law_calls.specs.Ways.{Eager, Idle, Late, Way}
use Rattle.cp_law_cores.specs.Cores.{Core, core}
use Rattle.cp_law_cores.specs.Verdicts.{core_has_ended, core_is_sound, core_is_still}
use Rattle.cp_law_cores.proofs.Parts.{numbered}
use Rattle.cp_law_search.specs.Calls.{core_machine, move_at, way_at}

abbrev call : ℕ → Call
call unit = record { routine = unit; target = term.Monitor 1; arguments = []; words = 0; temps = 0 }

abbrev unit : ℕ → CodeUnit
unit at = record { start = at; starts = op.Done; words = 0; temps = 0; frames = 1 }

-- Process 1 initialises the monitor and process 2, and calls the routine that delays. Process 2 calls the
-- routine that continues.
abbrev program : Program
program = record {
  operations =
      op.InitMonitor (call 4) 1 ∷ op.InitProcess 2 [] 0 2 ∷ op.Procedure (call 2) 3 ∷ op.End
      ∷ op.Procedure (call 3) 5 ∷ op.End
      ∷ op.Delay (term.Rooted (term.Member 0)) 7 ∷ op.Return false
      ∷ op.Continue (term.Rooted (term.Member 0)) false
      ∷ op.EndBody ∷ [];
  units = unit 0 ∷ unit 4 ∷ unit 6 ∷ unit 8 ∷ unit 9 ∷ [];
  monitors = record { start = 0; body = 4; words = 1; starts = op.Done } ∷ [];
  processes = record { body = 0; words = 0; parameters = 0; waiting = 0; starts = op.Done }
      ∷ record { body = 1; words = 0; parameters = 0; waiting = 0; starts = op.Done } ∷ [];
  shared = 1;
}

abbrev K : Machine Core
K = core_machine program 2

abbrev first : Core
first = core (first_machine program 1 (λ p. []))

abbrev next : Core → ℕ → Core
next c p = move_at program c p

past : (p : ℕ) → is_in (suc (suc (suc p))) (1 ∷ 2 ∷ []) ≡ true → ⊥
past p there =
    let high = (numbered 2 (suc (suc (suc p))) 1 there).1 in
    Prim.omega (arith, high)

late_no_eager : Late ≡ Eager → ⊥
late_no_eager e = grind arith

idle_no_eager : Idle ≡ Eager → ⊥
idle_no_eager e = grind arith

no_eager : (x y : Way) → x ≡ y → (y ≡ Eager → ⊥) → x ≡ Eager → ⊥
no_eager x y e h f = h (sym e ∙ f)

none_of_two : (c : Core) → (way_at program c 1 ≡ Eager → ⊥) → (way_at program c 2 ≡ Eager → ⊥) → IsSettled K c
none_of_two c one two = record { none = λ p there. by p there }
  where
    by : (p : ℕ) → is_in p (1 ∷ 2 ∷ []) ≡ true → way_at program c p ≡ Eager → ⊥
    by zero there e = idle_no_eager e
    by (suc zero) there e = one e
    by (suc (suc zero)) there e = two e
    by (suc (suc (suc p))) there e = absurd (past p there)

-- ---- Up to the point where the order matters

abbrev started : Core
started = next (next (next first 1) 1) 1

first_settled : IsSettled K first
first_settled = none_of_two first (no_eager _ Late refl late_no_eager) (no_eager _ Idle refl idle_no_eager)

starts : Settles K (next first 1) started
starts = record {
  made = 1 ∷ 1 ∷ [];
  run = (refl, refl, (refl, refl, refl));
  settled = none_of_two started (no_eager _ Late refl late_no_eager) (no_eager _ Late refl late_no_eager);
}

-- ---- Process 2 calls first

abbrev signalled : Core
signalled = next (next (next started 2) 2) 2

signals : Settles K (next started 2) signalled
signals = record {
  made = 2 ∷ 2 ∷ [];
  run = (refl, refl, (refl, refl, refl));
  settled = none_of_two signalled (no_eager _ Late refl late_no_eager) (no_eager _ Idle refl idle_no_eager);
}

abbrev stuck : Core
stuck = next (next signalled 1) 1

sticks : Settles K (next signalled 1) stuck
sticks = record {
  made = 1 ∷ [];
  run = (refl, refl, refl);
  settled = none_of_two stuck (no_eager _ Idle refl idle_no_eager) (no_eager _ Idle refl idle_no_eager);
}

gets_stuck : ByCalls K first (1 ∷ 2 ∷ 1 ∷ []) stuck
gets_stuck = record {
  first = first;
  settles = record { made = []; run = refl; settled = first_settled };
  lead = (refl, refl, started, starts, (refl, refl, signalled, signals, (refl, refl, stuck, sticks, refl)));
}

nobody_comes : (core_is_still 2 stuck ≡ true) × (core_has_ended 2 stuck ≡ false) × (core_is_sound 2 stuck ≡ true)
nobody_comes = (refl, refl, refl)

-- ---- Process 1 calls first

abbrev waiting : Core
waiting = next (next started 1) 1

waits : Settles K (next started 1) waiting
waits = record {
  made = 1 ∷ [];
  run = (refl, refl, refl);
  settled = none_of_two waiting (no_eager _ Idle refl idle_no_eager) (no_eager _ Late refl late_no_eager);
}

abbrev ended : Core
ended = next (next (next (next (next waiting 2) 2) 2) 1) 1

ends : Settles K (next waiting 2) ended
ends = record {
  made = 2 ∷ 2 ∷ 1 ∷ 1 ∷ [];
  run = (refl, refl, (refl, refl, (refl, refl, (refl, refl, refl))));
  settled = none_of_two ended (no_eager _ Idle refl idle_no_eager) (no_eager _ Idle refl idle_no_eager);
}

gets_to_end : ByCalls K first (1 ∷ 1 ∷ 2 ∷ []) ended
gets_to_end = record {
  first = first;
  settles = record { made = []; run = refl; settled = first_settled };
  lead = (refl, refl, started, starts, (refl, refl, waiting, waits, (refl, refl, ended, ends, refl)));
}

all_end : (core_is_still 2 ended ≡ true) × (core_has_ended 2 ended ≡ true)
all_end = (refl, refl)

-- So calls lead to these six cores only. In `stuck` and `ended` nobody has a step. In each other one the
-- processes with a late step are those that were tried.
nobody_else : (way_at program first 2 ≡ Idle) × (way_at program signalled 2 ≡ Idle) × (way_at program waiting 1 ≡ Idle)
nobody_else = (refl, refl, refl)

-- ---- A set that leaves out a late step

-- `first`, `started`, `waiting` and `ended` lead to each other by all late steps but that of process 2 in
-- `started`. In the only still one of them all have ended. Yet calls lead to `stuck`.
left_out
    : (way_at program started 2 ≡ Late) × (core_is_still 2 first ≡ false) × (core_is_still 2 started ≡ false) × (core_is_still 2 waiting ≡ false)
    × (core_is_still 2 ended ≡ true) × (core_has_ended 2 ended ≡ true) × (core_is_still 2 stuck ≡ true) × (core_has_ended 2 stuck ≡ false)
left_out = (refl, refl, refl, refl, refl, refl, refl, refl)
