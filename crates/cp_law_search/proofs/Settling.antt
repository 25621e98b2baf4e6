-- How a search settles a core: by private turns, and by single steps of the kernel.
--
-- Each private step of a turn is an eager move of its own, since the end of a round changes nothing if
-- nobody is fresh.
use Rattle.std.specs.Prelude.{Bool, None, Option, Some, [], false, if◌then◌else◌, not, refl, suc, true, zero, ℕ, ◌∷◌, ◌≡◌}
use Rattle.std.proofs.Common.{ap, arith, subst, sym, ◌∙◌}
use Rattle.std.proofs.lemmas.Bool.{true≢false}
use Rattle.cp_model.proofs.Options.{same_some}
use Rattle.cp_model.specs.States.{is_in, numbers_from}
use Rattle.cp_model_program.specs.Programs.{Operation, Program}
use Rattle.cp_model_machine.specs.KernelSteps.{is_begun, stage_of}
use Rattle.cp_model_machine.specs.PrivateStates.{PrivateState, is_running}
use Rattle.cp_model_machine.specs.Steps.{is_held, is_kernel_operation, is_private, is_start_operation, operation_of, private_step}
use Rattle.cp_law_calls.specs.Runs.{Machine, Settles}
use Rattle.cp_law_calls.specs.Ways.{Eager, Idle}
use Rattle.cp_law_cores.specs.Clocks.{is_timeless}
use Rattle.cp_law_cores.specs.Cores.{Core, close, is_private_on, kernel_at, part, private_at, put, silent, turned}
use Rattle.cp_law_cores.specs.Turns.{AreSilent, NoneFresh}
use Rattle.cp_law_cores.proofs.Parts.{part_here}
use Rattle.cp_law_cores.proofs.Turns.{close_nobody, idle, private_steps_at, step_number, turn_is, turn_silent}
use Rattle.cp_law_search.specs.Calls.{core_machine, is_late_at, move_at, step_at, way_at, way_by, way_on}
use Rattle.cp_law_search.specs.Laws.{EagerStepSettles, PrivateTurnSettles, SettledSettles, StepsOfKinds}
use Rattle.cp_law_search.proofs.Ways.{late_operation}

private_no_late : (o : PrivateState) (x : Option Operation) → is_private o x ≡ true → is_late_at x ≡ false
private_no_late o None h = refl
private_no_late o (Some x) h = late_operation x ∙ by (is_held o.gate) (is_kernel_operation x) (is_start_operation x) h
  where
    by : (g k s : Bool) → (if g then false else not k) ≡ true → (if s then false else k) ≡ false
    by true k s h = absurd (true≢false (sym h))
    by false true s h = absurd (true≢false (sym h))
    by false false true h = refl
    by false false false h = refl

eager_begun : Eager ≡ Idle → ⊥
eager_begun e = grind arith

module _ (program : Program) (n : ℕ) where
  abbrev K : Machine Core
  K = core_machine program n

  abbrev HasBegun : Core → ℕ → Type 0
  HasBegun c p = (o : PrivateState) → part c.parts p ≡ Some o → is_begun (stage_of c.kernel.stages o.number) ≡ true

  eager_has_begun : (c : Core) (p : ℕ) → way_at program c p ≡ Eager → HasBegun c p
  eager_has_begun c p e o there = by (is_running o.activity) (is_begun (stage_of c.kernel.stages o.number)) refl (sym (ap (way_on program c.kernel) there) ∙ e)
    where
      by : (a b : Bool) → is_begun (stage_of c.kernel.stages o.number) ≡ b
          → (if a then (if b then way_by (is_late_at (operation_of program o)) else Idle) else Idle) ≡ Eager → is_begun (stage_of c.kernel.stages o.number) ≡ true
      by true true f h = f
      by true false f h = absurd (eager_begun (sym h))
      by false b f h = absurd (eager_begun (sym h))

  private_eager : (c : Core) (p : ℕ) → HasBegun c p → is_private_on program (part c.parts p) ≡ true → way_at program c p ≡ Eager
  private_eager c p begun h = by (part c.parts p) begun h
    where
      way : (o : PrivateState) (a : Bool) → (if a then is_private o (operation_of program o) else false) ≡ true → is_begun (stage_of c.kernel.stages o.number) ≡ true
          → (if a then (if is_begun (stage_of c.kernel.stages o.number) then way_by (is_late_at (operation_of program o)) else Idle) else Idle) ≡ Eager
      way o true h b = (λ i. if b i then way_by (private_no_late o (operation_of program o) h i) else Idle)
      way o false h b = absurd (true≢false (sym h))

      by : (x : Option PrivateState) → ((o : PrivateState) → x ≡ Some o → is_begun (stage_of c.kernel.stages o.number) ≡ true) → is_private_on program x ≡ true
          → way_on program c.kernel x ≡ Eager
      by None begun h = absurd (true≢false (sym h))
      by (Some o) begun h = way o (is_running o.activity) h (begun o refl)

  still_begun : (c : Core) (p : ℕ) → HasBegun c p → HasBegun (private_at program c p) p
  still_begun c p begun = by (part c.parts p) refl
    where
      on : (o : PrivateState) → part c.parts p ≡ Some o → (b : Bool) → (u : PrivateState)
          → part (if b then put c.parts p (silent (private_step program 0 o)) else c.parts) p ≡ Some u → is_begun (stage_of c.kernel.stages u.number) ≡ true
      on o e true u there =
          let z = silent (private_step program 0 o) in
          let is : z ≡ u = same_some z u (sym (part_here c.parts p o z e) ∙ there) in
          ap (λ (v : PrivateState). is_begun (stage_of c.kernel.stages v.number)) (sym is)
          ∙ (ap (λ k. is_begun (stage_of c.kernel.stages k)) (step_number program o) ∙ begun o e)
      on o e false u there = begun u there

      by : (x : Option PrivateState) → part c.parts p ≡ x → (u : PrivateState) → part (turned program c.parts p x) p ≡ Some u → is_begun (stage_of c.kernel.stages u.number) ≡ true
      by None e u there = begun u there
      by (Some o) e u there = on o e (is_private_on program (Some o)) u there

  settles_more : (c w : Core) (p : ℕ) → is_in p (numbers_from 1 n) ≡ true → way_at program c p ≡ Eager → Settles K (move_at program c p) w → Settles K c w
  settles_more c w p there e h = record { made = p ∷ h.made; run = (there, e, h.run); settled = h.settled }

  module _ (timeless : is_timeless program ≡ true) where
    private_silent : (c : Core) (p : ℕ) → AreSilent c → AreSilent (private_at program c p)
    private_silent c p quiet = subst AreSilent (sym (turn_is program timeless 1 c p quiet)) (turn_silent program timeless 1 c p quiet)

    steps_settle : (t : ℕ) (c w : Core) (p : ℕ) → AreSilent c → NoneFresh c.kernel → is_in p (numbers_from 1 n) ≡ true → HasBegun c p
        → Settles K (private_steps_at program timeless t c p) w → Settles K c w
    steps_settle zero c w p quiet calm there begun h = h
    steps_settle (suc t) c w p quiet calm there begun h =
        by (is_private_on program (part c.parts p)) refl (steps_settle t c w p quiet calm there begun)
        (steps_settle t (private_at program c p) w p (private_silent c p quiet) calm there (still_begun c p begun) h)
      where
        by : (b : Bool) → is_private_on program (part c.parts p) ≡ b → (Settles K (private_steps_at program timeless t c p) w → Settles K c w)
            → Settles K (private_at program c p) w → Settles K c w
        by true e more done =
            let step : step_at program c p ≡ private_at program c p = ap (λ b. if b then private_at program c p else kernel_at program c p) e in
            let is : move_at program c p ≡ private_at program c p = ap (close program) step ∙ close_nobody program (private_at program c p) calm in
            settles_more c w p there (private_eager c p begun e) (subst (λ z. Settles K z w) (sym is) done)
        by false e more done =
            more (subst (λ z. Settles K (private_steps_at program timeless t z p) w) (idle program c p e) h)

pub private_turn_settles : PrivateTurnSettles
private_turn_settles program n t c w p timeless quiet calm there eager h =
    steps_settle program n timeless t c w p quiet calm there (eager_has_begun program n c p eager)
    (subst (λ z. Settles (core_machine program n) z w) (sym (turn_is program timeless t c p quiet)) h)

pub eager_step_settles : EagerStepSettles
eager_step_settles program n c w p there eager h = settles_more program n c w p there eager h

pub settled_settles : SettledSettles
settled_settles program n c settled = record { made = []; run = refl; settled = settled }

pub steps_of_kinds : StepsOfKinds
steps_of_kinds program c p = (by_private, by_kernel)
  where
    by_private : is_private_on program (part c.parts p) ≡ true → move_at program c p ≡ close program (private_at program c p)
    by_private e = ap (λ b. close program (if b then private_at program c p else kernel_at program c p)) e

    by_kernel : is_private_on program (part c.parts p) ≡ false → move_at program c p ≡ close program (kernel_at program c p)
    by_kernel e = ap (λ b. close program (if b then private_at program c p else kernel_at program c p)) e
