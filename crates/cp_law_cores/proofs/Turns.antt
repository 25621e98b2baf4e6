-- Private turns of cores as private steps, and ends of rounds in which nobody begins.
--
-- A turn keeps what it writes until it ends, and a step of a core drops it at once. No operation of
-- a timeless program reads what was written, so both lead to the same core.
use Rattle.std.specs.Prelude.{Bool, List, None, Option, Some, [], false, if◌then◌else◌, map, nat_eq, refl, slice_get, slice_set, suc, true, zero, ℕ, ◌∷◌, ◌≡◌}
use Rattle.std.proofs.Common.{ap, subst, sym, ◌∙◌}
use Rattle.std.proofs.lemmas.Bool.{eqb-false, eqb-true, true≢false}
use Rattle.cp_model.proofs.Options.{same_some}
use Rattle.cp_model_program.specs.Programs.{Operation, Program}
use Rattle.cp_model_machine.specs.KernelSteps.{Asking, Begun, Delayed, Fresh, Kernel, SchedulingState, Unstarted, stage_of}
use Rattle.cp_model_machine.specs.Machines.{begin_if, begin_one, next_stage}
use Rattle.cp_model_machine.specs.PrivateStates.{StepContext, PrivateState, is_running}
use Rattle.cp_model_machine.specs.Steps.{act_on, alone, is_private, operation_of, private_step, private_steps}
use Rattle.cp_model_machine.proofs.AheadNumbers.{step_keeps_number}
use Rattle.cp_law_cores.specs.Clocks.{is_timeless}
use Rattle.cp_law_cores.specs.Cores.{Core, close, is_private_on, part, private_at, put, silent, turned}
use Rattle.cp_law_cores.specs.Turns.{AreSilent, NoneFresh, private_turn, turn_on}
use Rattle.cp_law_cores.proofs.Parts.{part_here, part_there, set_same}
use Rattle.cp_law_cores.proofs.Seen.{timeless_at}
use Rattle.cp_law_cores.proofs.Timeless.{act_alike}

module _ (program : Program) where
  pub step_number : (o : PrivateState) → (private_step program 0 o).number ≡ o.number
  step_number o = by (is_running o.activity) (is_private o (operation_of program o))
    where
      by : (a b : Bool) → (if a then (if b then (act_on program (alone 0 o) o (operation_of program o)).0 else o) else o).number ≡ o.number
      by true true = step_keeps_number program (alone 0 o) o
      by true false = refl
      by false b = refl

  -- If the next step isn't private, a private step changes nothing.
  pub idle : (c : Core) (p : ℕ) → is_private_on program (part c.parts p) ≡ false → private_at program c p ≡ c
  idle c p h = by (part c.parts p) h
    where
      by : (x : Option PrivateState) → is_private_on program x ≡ false → record c { parts = turned program c.parts p x } ≡ c
      by None h = refl
      by (Some o) h = ap (λ (b : Bool). record c { parts = if b then put c.parts p (silent (private_step program 0 o)) else c.parts }) h

module _ (program : Program) (timeless : is_timeless program ≡ true) where
  -- ---- What was written doesn't matter

  act_quiet : (w : StepContext) (o : PrivateState) (x : Option Operation) → operation_of program o ≡ x
      → silent (act_on program w (silent o) x).0 ≡ silent (act_on program w o x).0
  act_quiet w o None e = refl
  act_quiet w o (Some x) e = (act_alike (λ a. false) (λ f. refl) refl w.clock [] program w o x (timeless_at program.operations o.counter x timeless e) refl).same

  step_quiet : (o : PrivateState) → silent (private_step program 0 (silent o)) ≡ silent (private_step program 0 o)
  step_quiet o = by (is_running o.activity) (is_private o (operation_of program o))
    where
      by : (a b : Bool)
          → silent (if a then (if b then (act_on program (alone 0 o) (silent o) (operation_of program o)).0 else silent o) else silent o)
          ≡ silent (if a then (if b then (act_on program (alone 0 o) o (operation_of program o)).0 else o) else o)
      by true true = act_quiet (alone 0 o) o (operation_of program o) refl
      by true false = refl
      by false b = refl

  steps_quiet : (t : ℕ) (o : PrivateState) → silent (private_steps program 0 t (silent o)) ≡ silent (private_steps program 0 t o)
  steps_quiet zero o = refl
  steps_quiet (suc t) o =
      sym (steps_quiet t (private_step program 0 (silent o)))
      ∙ (ap (λ z. silent (private_steps program 0 t z)) (step_quiet o) ∙ steps_quiet t (private_step program 0 o))

  -- ---- A turn is steps

  put_again : (os : List PrivateState) (p : ℕ) (a b : PrivateState) → put (put os p a) p b ≡ put os p b
  put_again os zero a b = refl
  put_again os (suc i) a b = on os i
    where
      on : (os : List PrivateState) (i : ℕ) → slice_set (slice_set os i a) i b ≡ slice_set os i b
      on [] i = refl
      on (x ∷ os) zero = refl
      on (x ∷ os) (suc i) = ap (λ l. x ∷ l) (on os i)

  put_same : (os : List PrivateState) (p : ℕ) (o : PrivateState) → part os p ≡ Some o → put os p o ≡ os
  put_same os zero o e = refl
  put_same os (suc i) o e = set_same os i o e

  step_none : (o : PrivateState) → is_private_on program (Some o) ≡ false → private_step program 0 o ≡ o
  step_none o h = by (is_running o.activity) (is_private o (operation_of program o)) h
    where
      by : (r x : Bool) → (if r then x else false) ≡ false
          → (if r then (if x then (act_on program (alone 0 o) o (operation_of program o)).0 else o) else o) ≡ o
      by true true h = absurd (true≢false h)
      by true false h = refl
      by false x h = refl

  step_is : (c : Core) (p : ℕ) (o : PrivateState) → part c.parts p ≡ Some o → silent o ≡ o
      → private_at program c p ≡ record c { parts = put c.parts p (silent (private_step program 0 o)) }
  step_is c p o e quiet =
      ap (λ x. record c { parts = turned program c.parts p x }) e ∙ ap (λ os. record c { parts = os }) (by (is_private_on program (Some o)) refl)
    where
      by : (b : Bool) → is_private_on program (Some o) ≡ b
          → (if b then put c.parts p (silent (private_step program 0 o)) else c.parts) ≡ put c.parts p (silent (private_step program 0 o))
      by true h = refl
      by false h = sym (ap (put c.parts p) (ap silent (step_none o h) ∙ quiet) ∙ put_same c.parts p o e)

  -- Private steps of a process, one after another.
  abbrev pub private_steps_at : ℕ → Core → ℕ → Core
  private_steps_at zero c p = c
  private_steps_at (suc t) c p = private_steps_at t (private_at program c p) p

  steps_are : (t : ℕ) (c : Core) (p : ℕ) (o : PrivateState) → part c.parts p ≡ Some o → silent o ≡ o
      → private_steps_at t c p ≡ record c { parts = put c.parts p (silent (private_steps program 0 t o)) }
  steps_are zero c p o e quiet = ap (λ os. record c { parts = os }) (sym (ap (put c.parts p) quiet ∙ put_same c.parts p o e))
  steps_are (suc t) c p o e quiet =
      let z = silent (private_step program 0 o) in
      let moved : Core = record c { parts = put c.parts p z } in
      ap (λ x. private_steps_at t x p) (step_is c p o e quiet)
      ∙ (steps_are t moved p z (part_here c.parts p o z e) refl
      ∙ ap (λ os. record c { parts = os })
      (put_again c.parts p z (silent (private_steps program 0 t z)) ∙ ap (put c.parts p) (steps_quiet t (private_step program 0 o))))

  none_steps : (t : ℕ) (c : Core) (p : ℕ) → part c.parts p ≡ None → private_steps_at t c p ≡ c
  none_steps zero c p e = refl
  none_steps (suc t) c p e =
      ap (λ x. private_steps_at t x p) (ap (λ x. record c { parts = turned program c.parts p x }) e)
      ∙ none_steps t c p e

  pub turn_is : (t : ℕ) (c : Core) (p : ℕ) → AreSilent c → private_steps_at t c p ≡ private_turn program t c p
  turn_is t c p h = by (part c.parts p) refl
    where
      by : (x : Option PrivateState) → part c.parts p ≡ x → private_steps_at t c p ≡ turn_on program t c p x
      by None e = none_steps t c p e
      by (Some o) e = steps_are t c p o e (h.silence p o e)

  pub turn_silent : (t : ℕ) (c : Core) (p : ℕ) → AreSilent c → AreSilent (private_turn program t c p)
  turn_silent t c p h = record { silence = λ q o e. by (part c.parts p) refl q o e }
    where
      on : (y : PrivateState) → part c.parts p ≡ Some y → (q : ℕ) (o : PrivateState) (z : PrivateState) → silent z ≡ z → part (put c.parts p z) q ≡ Some o → (b : Bool) → nat_eq p q ≡ b → silent o ≡ o
      on y f q o z quiet e true g =
          let at_p = subst (λ r. part (put c.parts p z) r ≡ Some o) (sym (eqb-true p q g)) e in
          subst (λ v. silent v ≡ v) (same_some z o (sym (part_here c.parts p y z f) ∙ at_p)) quiet
      on y f q o z quiet e false g = h.silence q o (sym (part_there c.parts p q z (eqb-false p q g)) ∙ e)

      by : (x : Option PrivateState) → part c.parts p ≡ x → (q : ℕ) (o : PrivateState) → part (turn_on program t c p x).parts q ≡ Some o → silent o ≡ o
      by None f q o e = h.silence q o e
      by (Some y) f q o e = on y f q o (silent (private_steps program 0 t y)) refl e (nat_eq p q) refl

-- ---- Nobody begins

abbrev at : List SchedulingState → ℕ → SchedulingState
at gs i = elim (slice_get gs i) [ None ↦ Begun | Some g ↦ g ]

none_next : (gs : List SchedulingState) → ((i : ℕ) → at gs i ≡ Fresh → ⊥) → map next_stage gs ≡ gs
none_next [] h = refl
none_next (g ∷ gs) h =
    let first = by g (h 0) in
    let rest = none_next gs (λ i. h (suc i)) in
    λ j. first j ∷ rest j
  where
    by : (g : SchedulingState) → (g ≡ Fresh → ⊥) → next_stage g ≡ g
    by Fresh h = absurd (h refl)
    by Unstarted h = refl
    by Begun h = refl
    by (Asking m) h = refl
    by (Delayed m q) h = refl

none_begin : (program : Program) (k : Kernel) (os : List PrivateState) → NoneFresh k → map (begin_one program k) os ≡ os
none_begin program k [] h = refl
none_begin program k (o ∷ os) h =
    let first = by (stage_of k.stages o.number) (h.none o.number) in
    let rest = none_begin program k os h in
    λ j. first j ∷ rest j
  where
    by : (g : SchedulingState) → (g ≡ Fresh → ⊥) → begin_if program k o g ≡ o
    by Fresh h = absurd (h refl)
    by Unstarted h = refl
    by Begun h = refl
    by (Asking m) h = refl
    by (Delayed m q) h = refl

pub close_nobody : (program : Program) (c : Core) → NoneFresh c.kernel → close program c ≡ c
close_nobody program c h =
    let stages = none_next c.kernel.stages (λ i. h.none (suc i)) in
    let parts = none_begin program c.kernel c.parts h in
    λ j. record { kernel = record c.kernel { stages = stages j }; parts = parts j }
