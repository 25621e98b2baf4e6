-- Steps of one process, whatever the other private states are.
use Rattle.std.specs.Prelude.{Bool, List, None, Option, Some, [], false, if◌then◌else◌, length, map, nat_eq, refl, slice_get, slice_set, suc, true, zero, ℕ, ◌+◌, ◌-◌, ◌<◌, ◌∷◌, ◌≡◌, ◌≤◌}
use Rattle.std.proofs.Common.{ap, arith, subst, sym, ◌∙◌}
use Rattle.std.proofs.lemmas.Bool.{eqb-false, eqb-true, true≢false}
use Rattle.std.proofs.lemmas.Option.{slice_get_within}
use Rattle.cp_model.proofs.Options.{same_some}
use Rattle.cp_model_program.specs.Programs.{Program}
use Rattle.cp_model_machine.specs.KernelSteps.{Kernel, is_begun, stage_of}
use Rattle.cp_model_machine.specs.Machines.{next_stage}
use Rattle.cp_model_machine.specs.PrivateStates.{PrivateState, is_running}
use Rattle.cp_model_machine.specs.Steps.{operation_of, private_steps}
use Rattle.cp_law_calls.specs.Ways.{Eager, Idle, Late, Way}
use Rattle.cp_law_cores.specs.Clocks.{is_timeless}
use Rattle.cp_law_cores.specs.Cores.{Core, close, is_private_on, kernel_at, part, put, silent}
use Rattle.cp_law_cores.specs.Laws.{NobodyBegins}
use Rattle.cp_law_cores.specs.Turns.{AreSilent, NoneFresh}
use Rattle.cp_law_cores.proofs.Parts.{none_is, part_here, part_there}
use Rattle.cp_law_search.specs.Calls.{is_late_at, move_at, way_at, way_by, way_on}
use Rattle.cp_law_exploring.specs.Laws.{ClosedIsQuiescent, KernelStepIsBefore, LateIsOfKernel, NoneEagerSettles, TurnIsBefore, TurnIsKernelStep}
use Rattle.cp_law_exploring.specs.Exploring.{IsBefore, IsQuiescent, SettlesAs, count}
use Rattle.cp_law_exploring.proofs.Settling.{in_processes}
use Rattle.cp_private.specs.Kinds.{kind_of}
use Rattle.cp_private.specs.States.{private_of}
use Rattle.cp_private.specs.declared.kind.Kind.TheVariants as kind
use Rattle.cp_private.specs.declared.private.Private.{Private}
use Rattle.cp_kernel.specs.KernelOf.{kernel_of}
use Rattle.cp_kernel.specs.Turns.{parts_of}
use Rattle.cp_search_states.specs.Alone.{AreNumbered, GoesOn, HasAdvanced, HasCome, IsMove, IsResting, StepsCalmly, WakesNobody, core_from}
use Rattle.cp_search_states.specs.SearchStates.{IsNearer, StepsInto}
use Rattle.cp_search_states.specs.declared.alone.Lone.{Lone}
use Rattle.cp_search_states.proofs.Places.{no_part_of, part_of}
use Rattle.cp_search_states.proofs.Settles.{nearer_more, not_private}

-- ---- Private states that are set

set_twice : {X : Type 0} (xs : List X) (i : ℕ) (a b : X) → slice_set (slice_set xs i a) i b ≡ slice_set xs i b
set_twice [] i a b = refl
set_twice (x ∷ xs) zero a b = refl
set_twice (x ∷ xs) (suc i) a b = ap (λ l. x ∷ l) (set_twice xs i a b)

put_twice : (os : List PrivateState) (p : ℕ) (a b : PrivateState) → put (put os p a) p b ≡ put os p b
put_twice os zero a b = refl
put_twice os (suc i) a b = set_twice os i a b

-- ---- Nobody is fresh

none_silent : (k : Kernel) → AreSilent (core_from k [])
none_silent k = record { silence = λ p o e. by p o e }
  where
    by : (p : ℕ) (o : PrivateState) → part [] p ≡ Some o → silent o ≡ o
    by zero o e = absurd (none_is o e)
    by (suc i) o e = absurd (none_is o e)

-- If the end of the round leaves a kernel as it was, nobody is fresh in it.
pub calm_if_same : (program : Program) (k closed : Kernel) → ClosedIsQuiescent → closed ≡ record k { stages = map next_stage k.stages } → closed ≡ k → NoneFresh k
calm_if_same program k closed law is same = subst NoneFresh (sym is ∙ same) (law program (core_from k []) (none_silent k)).calm

-- ---- Steps

step_at : (program : Program) (old new : Lone) (input : List ℕ) (os : List PrivateState) (p : ℕ) → TurnIsKernelStep → part os p ≡ Some (private_of old.private input)
    → AreSilent (core_from (kernel_of old.kernel) os) → StepsInto program old.kernel old.private new.kernel new.private input
    → (core_from (kernel_of new.kernel) (put os p (private_of new.private input)) ≡ kernel_at program (core_from (kernel_of old.kernel) os) p)
    × AreSilent (core_from (kernel_of new.kernel) (put os p (private_of new.private input)))
step_at program old new input os p law there quiet step =
    let both = law program (core_from (kernel_of old.kernel) os) p (private_of old.private input) quiet there in
    let is : core_from (kernel_of new.kernel) (put os p (private_of new.private input)) ≡ _ = λ j. record { kernel = step.kernel j; parts = put os p (step.own j) } in
    (is ∙ both.0, subst AreSilent (sym is) both.1)

module _ (program : Program) (old new : Lone) (input : List ℕ) (s : StepsCalmly program old new input) where
  pub came_first : TurnIsKernelStep → LateIsOfKernel → NobodyBegins
      → HasCome program (kernel_of old.kernel) (private_of old.private input) (kernel_of new.kernel) (private_of new.private input)
  came_first turn of_kernel nobody = record {
    each = λ os p low high there late rest.
        let both = step_at program old new input os p turn there rest.silent s.step in
        let c : Core = core_from (kernel_of old.kernel) os in
        let d : Core = core_from (kernel_of new.kernel) (put os p (private_of new.private input)) in
        let moved : move_at program c p ≡ d =
        of_kernel program c p (ap (way_on program (kernel_of old.kernel)) there ∙ late) ∙ (ap (close program) (sym both.0) ∙ nobody program d s.calm) in
        record {
          before = record { settles = λ w h. subst (λ z. SettlesAs program z w) (sym moved) h };
          rest = record { silent = both.1; calm = s.calm };
        };
  }

  pub went_by_kernel : TurnIsKernelStep → KernelStepIsBefore → NobodyBegins
      → way_on program (kernel_of old.kernel) (Some (private_of old.private input)) ≡ Eager → kind.Kernel ≡ kind_of program (private_of old.private input)
      → GoesOn program (kernel_of old.kernel) (private_of old.private input) (kernel_of new.kernel) (private_of new.private input)
  went_by_kernel turn step nobody eager of_kernel = record {
    each = λ os p low high there rest.
        let both = step_at program old new input os p turn there rest.silent s.step in
        let c : Core = core_from (kernel_of old.kernel) os in
        let d : Core = core_from (kernel_of new.kernel) (put os p (private_of new.private input)) in
        let before = step program c p low high (ap (way_on program (kernel_of old.kernel)) there ∙ eager)
        (ap (is_private_on program) there ∙ not_private program (private_of old.private input) of_kernel) in
        let closed : close program (kernel_at program c p) ≡ d = ap (close program) (sym both.0) ∙ nobody program d s.calm in
        record { before = subst (IsBefore program c) closed before; rest = record { silent = both.1; calm = s.calm } };
  }

pub went_privately : (program : Program) (t : ℕ) (k : Kernel) (x x' : PrivateState) → TurnIsBefore → is_timeless program ≡ true → way_on program k (Some x) ≡ Eager
    → x' ≡ silent (private_steps program 0 t x) → GoesOn program k x k x'
went_privately program t k x x' law timeless eager is = record {
  each = λ os p low high there rest.
      let both = law program t (core_from k os) p x timeless rest low high (ap (way_on program k) there ∙ eager) there in
      subst (λ z. IsNearer program (core_from k os) (core_from k (put os p z))) (sym is) (record { before = both.0; rest = both.1 });
}

pub came_more : (program : Program) (k k' k'' : Kernel) (x x' x'' : PrivateState) → HasCome program k x k' x' → GoesOn program k' x' k'' x'' → HasCome program k x k'' x''
came_more program k k' k'' x x' x'' come on = record {
  each = λ os p low high there late rest.
      let one = come.each os p low high there late rest in
      let two = on.each (put os p x') p low high (part_here os p x x' there) one.rest in
      let c : Core = move_at program (core_from k os) p in
      subst (λ l. IsNearer program c (core_from k'' l)) (put_twice os p x' x'')
      (nearer_more program c (core_from k' (put os p x')) (core_from k'' (put (put os p x') p x'')) one two);
}

-- ---- Moves

idle_eager : Idle ≡ Eager → ⊥
idle_eager e = grind arith

-- Who has an eager step, and had begun before, had one before.
still_eager : (program : Program) (k k' : Kernel) (o : PrivateState) → (is_begun (stage_of k'.stages o.number) ≡ true → is_begun (stage_of k.stages o.number) ≡ true)
    → way_on program k' (Some o) ≡ Eager → way_on program k (Some o) ≡ Eager
still_eager program k k' o keep h =
    by (is_running o.activity) (is_begun (stage_of k'.stages o.number)) (is_begun (stage_of k.stages o.number)) (way_by (is_late_at (operation_of program o))) keep h
  where
    by : (r b' b : Bool) (w : Way) → (b' ≡ true → b ≡ true) → (if r then (if b' then w else Idle) else Idle) ≡ Eager → (if r then (if b then w else Idle) else Idle) ≡ Eager
    by false b' b w keep h = h
    by true false b w keep h = absurd (idle_eager h)
    by true true true w keep h = h
    by true true false w keep h = absurd (true≢false (sym (keep refl)))

module _ (program : Program) (k k' : Kernel) (x x' : PrivateState) where
  others_rest : (os : List PrivateState) (p q : ℕ) → (p ≡ q → ⊥) → WakesNobody (count program) k k' → IsResting program (core_from k os) → 1 ≤ q → q ≤ count program
      → way_at program (core_from k' (put os p x')) q ≡ Eager → ⊥
  others_rest os p q apart wakes rest low high eager = by (part os q) refl (ap (way_on program k') (sym (part_there os p q x' apart)) ∙ eager)
    where
      by : (y : Option PrivateState) → part os q ≡ y → way_on program k' (part os q) ≡ Eager → ⊥
      by None e h = idle_eager (ap (way_on program k') (sym e) ∙ h)
      by (Some o) e h =
          rest.settled.none q (in_processes (count program) q low high)
          (ap (way_on program k) e ∙ still_eager program k k' o (wakes.each o.number (rest.numbers.each q o e)) (ap (way_on program k') (sym e) ∙ h))

  none_eager : (os : List PrivateState) (p : ℕ) → part os p ≡ Some x → (way_on program k' (Some x') ≡ Eager → ⊥) → WakesNobody (count program) k k'
      → IsResting program (core_from k os) → (q : ℕ) → 1 ≤ q → q ≤ count program → way_at program (core_from k' (put os p x')) q ≡ Eager → ⊥
  none_eager os p there stopped wakes rest q low high eager = by (nat_eq p q) refl
    where
      by : (b : Bool) → nat_eq p q ≡ b → ⊥
      by true g =
          let own = subst (λ r. way_at program (core_from k' (put os p x')) r ≡ Eager) (sym (eqb-true p q g)) eager in
          stopped (ap (way_on program k') (sym (part_here os p x x' there)) ∙ own)
      by false g = others_rest os p q (eqb-false p q g) wakes rest low high eager

  numbers_stay : (os : List PrivateState) (p : ℕ) → part os p ≡ Some x → x'.number ≤ count program → AreNumbered program (core_from k os)
      → AreNumbered program (core_from k' (put os p x'))
  numbers_stay os p there small was = record { each = λ q o e. by q o e (nat_eq p q) refl }
    where
      by : (q : ℕ) (o : PrivateState) → part (put os p x') q ≡ Some o → (b : Bool) → nat_eq p q ≡ b → o.number ≤ count program
      by q o e true g =
          let at_p = subst (λ r. part (put os p x') r ≡ Some o) (sym (eqb-true p q g)) e in
          subst (λ (z : PrivateState). z.number ≤ count program) (same_some x' o (sym (part_here os p x x' there) ∙ at_p)) small
      by q o e false g = was.each q o (sym (part_there os p q x' (eqb-false p q g)) ∙ e)

  pub moved : NoneEagerSettles → HasAdvanced program k x k' x' → WakesNobody (count program) k k' → x'.number ≤ count program → IsMove program k x k' x'
  moved law h wakes small = record {
    each = λ os p low high there late rest.
        let near = h.come.each os p low high there late rest.quiet in
        let settles = law program (move_at program (core_from k os) p) (core_from k' (put os p x')) near.before near.rest
        (none_eager os p there h.stopped wakes rest) in (
          settles,
          record { quiet = near.rest; settled = settles.settles.settled; numbers = numbers_stay os p there small rest.numbers },
        );
  }

-- ---- Who has begun

abbrev pub IsKeptBegun : Kernel → Kernel → ℕ → Type 0
IsKeptBegun k k' p = is_begun (stage_of k'.stages p) ≡ true → is_begun (stage_of k.stages p) ≡ true

pub begun_more : (k k' : Kernel) (i : ℕ) → ((p : ℕ) → 1 ≤ p → p ≤ i → IsKeptBegun k k' p) → IsKeptBegun k k' (i + 1)
    → (p : ℕ) → 1 ≤ p → p ≤ i + 1 → IsKeptBegun k k' p
begun_more k k' i was one p low high = by (nat_eq p (i + 1)) refl
  where
    by : (b : Bool) → nat_eq p (i + 1) ≡ b → IsKeptBegun k k' p
    by true g = subst (IsKeptBegun k k') (sym (eqb-true p (i + 1) g)) one
    by false g = let apart = eqb-false p (i + 1) g in was p low (omega (arith, high, apart))

pub begun_all : (k k' : Kernel) (n i : ℕ) → ((p : ℕ) → 1 ≤ p → p ≤ i → IsKeptBegun k k' p) → n ≤ i → WakesNobody n k k'
begun_all k k' n i was end = record { each = λ p high. by p high }
  where
    by : (p : ℕ) → p ≤ n → IsKeptBegun k k' p
    by zero high = λ h. refl
    by (suc q) high = was (suc q) (omega arith) (omega (arith, high, end))

-- ---- Numbers of processes

pub record AreSmallBelow (program : Program) (xs : List Private) (i : ℕ) : Type 0 where
  pub each : (j : ℕ) (x : Private) → j < i → slice_get xs j ≡ Some x → (input : List ℕ) → (private_of x input).number ≤ count program

pub small_none : (program : Program) (xs : List Private) → AreSmallBelow program xs 0
small_none program xs = record { each = λ j x less. absurd (omega (arith, less)) }

pub small_more : (program : Program) (xs : List Private) (i : ℕ) (x : Private) → slice_get xs i ≡ Some x → ((input : List ℕ) → (private_of x input).number ≤ count program)
    → AreSmallBelow program xs i → AreSmallBelow program xs (i + 1)
small_more program xs i x here small was = record { each = λ j y less e input. by j y less e input (nat_eq j i) refl }
  where
    by : (j : ℕ) (y : Private) → j < i + 1 → slice_get xs j ≡ Some y → (input : List ℕ) → (b : Bool) → nat_eq j i ≡ b → (private_of y input).number ≤ count program
    by j y less e input true g =
        let same : x ≡ y = same_some x y (sym here ∙ (ap (slice_get xs) (sym (eqb-true j i g)) ∙ e)) in
        subst (λ (z : Private). (private_of z input).number ≤ count program) same (small input)
    by j y less e input false g = let apart = eqb-false j i g in was.each j y (omega (arith, less, apart)) e input

pub small_all : (program : Program) (inputs : ℕ → List ℕ) (xs : List Private) (k : Kernel) → AreSmallBelow program xs (length xs)
    → AreNumbered program (core_from k (parts_of inputs 1 xs))
small_all program inputs xs k small = record { each = λ q o e. by q o e (slice_get xs (q - 1)) refl }
  where
    some : (q : ℕ) (o : PrivateState) (x : Private) → part (parts_of inputs 1 xs) q ≡ Some o → slice_get xs (q - 1) ≡ Some x → o.number ≤ count program
    some zero o x e g = absurd (none_is o e)
    some (suc i) o x e g =
        let same : private_of x (inputs (suc i)) ≡ o = same_some (private_of x (inputs (suc i))) o (sym (part_of inputs xs (suc i) x (omega arith) g) ∙ e) in
        subst (λ (z : PrivateState). z.number ≤ count program) same (small.each (suc i - 1) x (slice_get_within xs (suc i - 1) x g) g (inputs (suc i)))

    by : (q : ℕ) (o : PrivateState) → part (parts_of inputs 1 xs) q ≡ Some o → (y : Option Private) → slice_get xs (q - 1) ≡ y → o.number ≤ count program
    by q o e None g = absurd (none_is o (sym (no_part_of inputs xs q g) ∙ e))
    by q o e (Some x) g = some q o x e g
