-- The steps of a search, on plain data.
use Rattle.std.specs.Prelude.{Bool, List, None, Option, Some, [], false, if◌then◌else◌, map, nat_eq, not, refl, slice_get, suc, true, zero, ℕ, ◌+◌, ◌-◌, ◌<◌, ◌∷◌, ◌≡◌, ◌≤◌}
use Rattle.std.proofs.Common.{ap, arith, subst, sym, ◌∙◌}
use Rattle.std.proofs.lemmas.Bool.{eqb-false, eqb-true, true≢false}
use Rattle.cp_model.proofs.Options.{same_some}
use Rattle.cp_model.specs.States.{is_in, numbers_from}
use Rattle.cp_model_program.specs.Programs.{Operation, Process, Program}
use Rattle.cp_model_program.specs.Starts.{block, paste}
use Rattle.cp_model_machine.specs.KernelSteps.{Asking, Begun, Delayed, Fresh, Kernel, SchedulingState, Turning, Unstarted, is_begun, is_due, kernel_step, stage_of}
use Rattle.cp_model_machine.specs.Machines.{begin_if, begin_one, next_stage}
use Rattle.cp_model_machine.specs.PrivateStates.{PrivateState, Running, is_running}
use Rattle.cp_model_machine.specs.Steps.{is_held, is_kernel_operation, is_private, is_start_operation, operation_of, private_steps}
use Rattle.cp_law_calls.specs.Ways.{Eager, Idle, Late}
use Rattle.cp_law_cores.specs.Cores.{is_kernel_on, is_private_on, kernel_on, part, put, silent, with_turning}
use Rattle.cp_law_cores.specs.Turns.{AreSilent, private_turn, turn_on}
use Rattle.cp_law_cores.proofs.Parts.{from_map}
use Rattle.cp_law_cores.proofs.Parts.{part_here, part_there, set_same}
use Rattle.cp_law_cores.proofs.Parts.{numbered}
use Rattle.cp_law_cores.proofs.Turns.{turn_silent}
use Rattle.cp_law_search.specs.Calls.{is_late_at, way_by, way_on}
use Rattle.cp_law_search.proofs.Settling.{eager_step_settles, private_turn_settles, settled_settles, steps_of_kinds}
use Rattle.cp_law_search.proofs.Ways.{late_operation}
use Rattle.cp_law_exploring.specs.Laws.{ClosedIsQuiescent, KernelStepIsBefore, LateIsOfKernel, NoneEagerSettles, TurnIsBefore, TurnIsKernelStep}
use Rattle.cp_law_exploring.specs.Exploring.{SettlesAs, count}

-- ---- Numbers of processes

in_from : (n q p : ℕ) → q ≤ p → p < q + n → is_in p (numbers_from q n) ≡ true
in_from zero q p low high = absurd (omega arith)
in_from (suc n) q p low high = by (λ l h. in_from n (suc q) p l h) (nat_eq p q) refl
  where
    by : (suc q ≤ p → p < suc q + n → is_in p (numbers_from (suc q) n) ≡ true) → (b : Bool) → nat_eq p q ≡ b
        → (if b then true else is_in p (numbers_from (suc q) n)) ≡ true
    by more true e = refl
    by more false e = let apart = eqb-false p q e in more (omega arith) (omega arith)

pub in_processes : (n p : ℕ) → 1 ≤ p → p ≤ n → is_in p (numbers_from 1 n) ≡ true
in_processes n p low high = in_from n 1 p low (omega arith)

-- ---- A private turn

pub turn_is_before : TurnIsBefore
turn_is_before program t c p o timeless rest low high eager there =
    let turned : private_turn program t c p ≡ record { kernel = c.kernel; parts = put c.parts p (silent (private_steps program 0 t o)) } = ap (turn_on program t c p) there in (
      record {
        settles = λ w h.
            private_turn_settles program (count program) t c w p timeless rest.silent rest.calm (in_processes (count program) p low high) eager
            (subst (λ d. SettlesAs program d w) (sym turned) h);
      },
      record {
        silent = subst AreSilent turned (turn_silent program timeless t c p rest.silent);
        calm = rest.calm;
      },
    )

-- ---- A step of the kernel

put_same : (os : List PrivateState) (p : ℕ) (o : PrivateState) → part os p ≡ Some o → put os p o ≡ os
put_same os zero o e = refl
put_same os (suc i) o e = set_same os i o e

put_silent : (k k' : Kernel) (os : List PrivateState) (p : ℕ) (o z : PrivateState) → part os p ≡ Some o → silent z ≡ z
    → AreSilent (record { kernel = k; parts = os }) → AreSilent (record { kernel = k'; parts = put os p z })
put_silent k k' os p o z there quiet was = record { silence = λ q u e. on q u e (nat_eq p q) refl }
  where
    on : (q : ℕ) (u : PrivateState) → part (put os p z) q ≡ Some u → (b : Bool) → nat_eq p q ≡ b → silent u ≡ u
    on q u e true g =
        let at_p = subst (λ r. part (put os p z) r ≡ Some u) (sym (eqb-true p q g)) e in
        subst (λ v. silent v ≡ v) (same_some z u (sym (part_here os p o z there) ∙ at_p)) quiet
    on q u e false g = was.silence q u (sym (part_there os p q z (eqb-false p q g)) ∙ e)

pub turn_is_kernel_step : TurnIsKernelStep
turn_is_kernel_step program c p o quiet there =
    let x : Turning = kernel_step program 0 (record { kernel = c.kernel; own = o }) in (
      by (is_kernel_on program c.kernel (Some o)) refl ∙ ap (kernel_on program c p) (sym there),
      put_silent c.kernel x.kernel c.parts p o (silent x.own) there refl quiet,
    )
  where
    same : Turning
    same = record { kernel = c.kernel; own = o }

    rests : is_due program (record { kernel = c.kernel; own = o }) ≡ false → kernel_step program 0 (record { kernel = c.kernel; own = o }) ≡ record { kernel = c.kernel; own = o }
    rests e = simp e

    by : (b : Bool) → is_kernel_on program c.kernel (Some o) ≡ b
        → record { kernel = (kernel_step program 0 (record { kernel = c.kernel; own = o })).kernel; parts = put c.parts p (silent (kernel_step program 0 (record { kernel = c.kernel; own = o })).own) }
        ≡ (if b then with_turning c p (kernel_step program 0 (record { kernel = c.kernel; own = o })) else c)
    by true e = refl
    by false e =
        let y = rests e in
        (λ j. record { kernel = (y j).kernel; parts = put c.parts p (silent (y j).own) })
        ∙ ap (λ os. record { kernel = c.kernel; parts = os }) (ap (put c.parts p) (quiet.silence p o there) ∙ put_same c.parts p o there)

pub kernel_step_is_before : KernelStepIsBefore
kernel_step_is_before program c p low high eager kernel = record {
  settles = λ w h.
      eager_step_settles program (count program) c w p (in_processes (count program) p low high) eager
      (subst (λ d. SettlesAs program d w) (sym ((steps_of_kinds program c p).1 kernel)) h);
}

-- ---- Late steps

late_idle : Late ≡ Idle → ⊥
late_idle e = grind arith

late_eager : Late ≡ Eager → ⊥
late_eager e = grind arith

private_no_late : (o : PrivateState) (x : Option Operation) → is_private o x ≡ true → is_late_at x ≡ false
private_no_late o None h = refl
private_no_late o (Some x) h = late_operation x ∙ by (is_held o.gate) (is_kernel_operation x) (is_start_operation x) h
  where
    by : (g k s : Bool) → (if g then false else not k) ≡ true → (if s then false else k) ≡ false
    by true k s h = absurd (true≢false (sym h))
    by false true s h = absurd (true≢false (sym h))
    by false false true h = refl
    by false false false h = refl

late_no_private : (program : Program) (k : Kernel) (x : Option PrivateState) → way_on program k x ≡ Late → is_private_on program x ≡ false
late_no_private program k None h = refl
late_no_private program k (Some o) h = by (is_running o.activity) (is_begun (stage_of k.stages o.number)) (is_private o (operation_of program o)) refl h
  where
    by : (r b x : Bool) → is_private o (operation_of program o) ≡ x
        → (if r then (if b then way_by (is_late_at (operation_of program o)) else Idle) else Idle) ≡ Late
        → (if r then x else false) ≡ false
    by false b x e h = refl
    by true false x e h = absurd (late_idle (sym h))
    by true true false e h = refl
    by true true true e h = absurd (late_eager (sym h ∙ ap way_by (private_no_late o (operation_of program o) e)))

pub late_is_of_kernel : LateIsOfKernel
late_is_of_kernel program c p late = (steps_of_kinds program c p).1 (late_no_private program c.kernel (part c.parts p) late)

-- ---- The end of a round

next_at : (gs : List SchedulingState) (i : ℕ) → stage_of (map next_stage gs) (suc i) ≡ next_stage (stage_of gs (suc i))
next_at [] i = refl
next_at (g ∷ gs) zero = refl
next_at (g ∷ gs) (suc i) = next_at gs i

next_fresh : (g : SchedulingState) → next_stage g ≡ Fresh → ⊥
next_fresh Fresh e = cc
next_fresh Unstarted e = cc
next_fresh Begun e = cc
next_fresh (Asking m) e = cc
next_fresh (Delayed m q) e = cc

pub closed_is_at_rest : ClosedIsQuiescent
closed_is_at_rest program c quiet = record {
  silent = record {
    silence = λ p o e.
        let f = from_map (begin_one program c.kernel) c.parts p o e in
        subst (λ z. silent z ≡ z) f.2 (begun f.0 (stage_of c.kernel.stages f.0.number) (quiet.silence p f.0 f.1));
  };
  calm = record { none = λ p e. calm p e };
}
  where
    started : (o : PrivateState) (x : Option Process) → silent o ≡ o
        → let y : PrivateState = elim x [
          | None ↦ o
          | Some r ↦ record o { activity = Running; words = paste 1 (block c.kernel.shared (suc r.parameters) (r.waiting - 1)) o.words }
        ] in
        silent y ≡ y
    started o None h = h
    started o (Some r) h = ap (λ (z : PrivateState). record z { activity = Running; words = paste 1 (block c.kernel.shared (suc r.parameters) (r.waiting - 1)) o.words }) h

    begun : (o : PrivateState) (g : SchedulingState) → silent o ≡ o → silent (begin_if program c.kernel o g) ≡ begin_if program c.kernel o g
    begun o Fresh h = started o (slice_get program.processes (o.number - 1)) h
    begun o Unstarted h = h
    begun o Begun h = h
    begun o (Asking m) h = h
    begun o (Delayed m q) h = h

    calm : (p : ℕ) → stage_of (map next_stage c.kernel.stages) p ≡ Fresh → ⊥
    calm zero e = cc
    calm (suc i) e = next_fresh (stage_of c.kernel.stages (suc i)) (sym (next_at c.kernel.stages i) ∙ e)

pub none_eager_settles : NoneEagerSettles
none_eager_settles program c d before rest none = record {
  rests = rest;
  settles = before.settles d (settled_settles program (count program) d (record {
    none = λ p there e. let range = numbered (count program) p 1 there in none p range.0 (omega arith) e;
  }));
}
