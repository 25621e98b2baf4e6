-- The laws of settling and of expanding.
use Rattle.std.specs.Prelude.{List, Some, false, length, true, ℕ, ◌≡◌, ◌≤◌}
use Rattle.cp_model.specs.Orders.{replay}
use Rattle.cp_model.specs.Rounds.{Event}
use Rattle.cp_model.specs.Start.{start}
use Rattle.cp_model.specs.States.{Setup, processes}
use Rattle.cp_law_stillness.specs.Stillness.{AreAllOfProcesses, is_still}
use Rattle.cp_model_program.specs.Programs.{Program}
use Rattle.cp_model_program.specs.IsProgramFor.{IsProgramFor}
use Rattle.cp_model_machine.specs.KernelSteps.{Turning, kernel_step}
use Rattle.cp_model_machine.specs.PrivateStates.{PrivateState}
use Rattle.cp_model_machine.specs.Steps.{private_steps}
use Rattle.cp_law_calls.specs.Ways.{Eager, Late}
use Rattle.cp_law_cores.specs.Clocks.{is_timeless}
use Rattle.cp_law_cores.specs.Cores.{Core, close, is_private_on, kernel_at, part, put, silent}
use Rattle.cp_law_cores.specs.Laws.{AreFine, first_core}
use Rattle.cp_law_cores.specs.Verdicts.{all_pass, has_ended, has_no_fault}
use Rattle.cp_law_cores.specs.Turns.{AreSilent}
use Rattle.cp_law_search.specs.Calls.{move_at, way_at}
use Rattle.cp_law_exploring.specs.Exploring.{AreExpanded, IsQuiescent, IsBefore, LeadsInto, SettlesQuietly, count}

-- ---- Steps that a search makes

-- A private turn: what the core settles as after it, the core settles as before it.
abbrev pub TurnIsBefore : Type 0
TurnIsBefore =
    (program : Program) (t : ℕ) (c : Core) (p : ℕ) (o : PrivateState)
    → is_timeless program ≡ true → IsQuiescent c → 1 ≤ p → p ≤ count program → way_at program c p ≡ Eager → part c.parts p ≡ Some o
    → let d : Core = record { kernel = c.kernel; parts = put c.parts p (silent (private_steps program 0 t o)) } in
    IsBefore program c d × IsQuiescent d

-- A kernel turn of one step is a kernel step of the core.
abbrev pub TurnIsKernelStep : Type 0
TurnIsKernelStep =
    (program : Program) (c : Core) (p : ℕ) (o : PrivateState)
    → AreSilent c → part c.parts p ≡ Some o
    → let x : Turning = kernel_step program 0 (record { kernel = c.kernel; own = o }) in
    let d : Core = record { kernel = x.kernel; parts = put c.parts p (silent x.own) } in
    (d ≡ kernel_at program c p) × AreSilent d

-- An eager step of the kernel and the end of a round: what the core settles as after them, it
-- settles as before them.
abbrev pub KernelStepIsBefore : Type 0
KernelStepIsBefore =
    (program : Program) (c : Core) (p : ℕ)
    → 1 ≤ p → p ≤ count program → way_at program c p ≡ Eager → is_private_on program (part c.parts p) ≡ false
    → IsBefore program c (close program (kernel_at program c p))

-- A move by a late step is a step of the kernel, and then the end of a round.
abbrev pub LateIsOfKernel : Type 0
LateIsOfKernel = (program : Program) (c : Core) (p : ℕ) → way_at program c p ≡ Late → move_at program c p ≡ close program (kernel_at program c p)

abbrev pub ClosedIsQuiescent : Type 0
ClosedIsQuiescent = (program : Program) (c : Core) → AreSilent c → IsQuiescent (close program c)

-- If no process has an eager step, the core is settled.
abbrev pub NoneEagerSettles : Type 0
NoneEagerSettles =
    (program : Program) (c d : Core)
    → IsBefore program c d → IsQuiescent d → ((p : ℕ) → 1 ≤ p → p ≤ count program → way_at program d p ≡ Eager → ⊥) → SettlesQuietly program c d

-- ---- The start

abbrev pub FirstIsClosed : Type 0
FirstIsClosed = (program : Program) (setup : Setup) → close program (first_core program setup) ≡ first_core program setup

-- ---- What a search shows

-- No order leads to a fault, and each still state that an order leads to is one in which all have ended.
abbrev pub NoneIsStuck : Setup → Type 0
NoneIsStuck setup =
    (rounds : List (ℕ × List Event)) → AreAllOfProcesses setup rounds
    → let s = replay setup (start setup) rounds in
    (all_pass has_no_fault s (processes setup) ≡ true) × (is_still setup s ≡ true → all_pass has_ended s (processes setup) ≡ true)

abbrev pub ExpandedReports : Type 0
ExpandedReports =
    (program : Program) (setup : Setup) (vs : List Core)
    → IsProgramFor program setup → is_timeless program ≡ true → AreExpanded program vs (length vs) → LeadsInto program vs (first_core program setup)
    → AreFine (count program) vs → NoneIsStuck setup
