-- A step changes the core of a machine as it changes the core itself, if the program doesn't use the clock.
--
-- The core makes the step at clock 0, and without output. The machine's step reads neither, so it does the
-- same except for what it writes. Nobody begins to wait, so waking changes nothing.
use Rattle.std.specs.Prelude.{Bool, List, None, Option, Some, [], drop, false, if◌then◌else◌, length, map, nat_eq, refl, slice_get, slice_set, suc, take, true, zero, ℕ, ◌%◌, ◌-◌, ◌++◌, ◌∷◌, ◌≡◌}
use Rattle.std.proofs.Common.{ap, arith, subst, sym, ◌∙◌}
use Rattle.std.proofs.lemmas.Bool.{true≢false}
use Rattle.cp_model_program.specs.Programs as code
use Rattle.cp_model_program.specs.Programs.{Operation, Program}
use Rattle.cp_model_program.specs.Starts.{block, paste}
use Rattle.cp_model_machine.specs.KernelSteps.{Asking, Begun, Delayed, Fresh, Kernel, SchedulingState, Turning, Unstarted, apply_effect, is_due, join_words, kernel_step, outside, part_words, stage_of}
use Rattle.cp_model_machine.specs.Machines as machine
use Rattle.cp_model_machine.specs.Machines.{Machine, after_kernel_turn, awake, begin_if, begin_one, clock, end_round, kernel_turn, private_turn, wake, wake_one}
use Rattle.cp_model_machine.specs.PrivateStates.{Acting, Activity, Ended, Faulted, NotBegun, StepContext, PrivateState, Running, Waiting, is_running}
use Rattle.cp_model_machine.specs.Steps.{act_on, alone, is_private, operation_of, private_step, step_with}
use Rattle.cp_law_cores.specs.Clocks.{are_timeless, is_timeless, operation_is_timeless}
use Rattle.cp_law_cores.specs.Cores.{Core, close, core, is_private_on, kernel_at, kernel_on, private_at, silent, turned, with_turning}
use Rattle.cp_law_cores.proofs.Parts.{map_got, map_none, map_set, none_is, set_same}
use Rattle.cp_law_cores.specs.CoresOfStates.{AreAwake, waits}
use Rattle.cp_law_cores.proofs.Timeless.{Alike, act_alike, both}

-- ---- The operations of the program

pub timeless_at : (xs : List Operation) (i : ℕ) (x : Operation) → are_timeless xs ≡ true → slice_get xs i ≡ Some x → operation_is_timeless x ≡ true
timeless_at [] i x h e = absurd (none_is x e)
timeless_at (y ∷ xs) zero x h e =
    ap (λ (r : Option Operation). elim r as (λ v. Bool) [ None ↦ true | Some z ↦ operation_is_timeless z ]) (sym e)
    ∙ (both (operation_is_timeless y) (are_timeless xs) h).0
timeless_at (y ∷ xs) (suc i) x h e = timeless_at xs i x (both (operation_is_timeless y) (are_timeless xs) h).1 e

-- ---- Nobody waits

awake_at : (os : List PrivateState) (i : ℕ) (o : PrivateState) → AreAwake os → slice_get os i ≡ Some o → waits o.activity ≡ false
awake_at [] i o h e = absurd (none_is o e)
awake_at (x ∷ os) zero o h e =
    ap (λ (r : Option PrivateState). elim r as (λ v. Bool) [ None ↦ false | Some z ↦ waits z.activity ]) (sym e) ∙ h.0
awake_at (x ∷ os) (suc i) o h e = awake_at os i o h.1 e

awake_set : (os : List PrivateState) (i : ℕ) (z : PrivateState) → AreAwake os → waits z.activity ≡ false → AreAwake (slice_set os i z)
awake_set [] i z h w = tt
awake_set (x ∷ os) zero z h w = (w, h.1)
awake_set (x ∷ os) (suc i) z h w = (h.0, awake_set os i z h.1 w)

module _ (program : Program) (timeless : is_timeless program ≡ true) where
  -- ---- Steps of one process

  record SameStep (z' z : PrivateState) : Type 0 where
    same : silent z' ≡ silent z
    awake : waits z.activity ≡ false

  act_same : (w : StepContext) (o : PrivateState) (x : Option Operation) → operation_of program o ≡ x → waits o.activity ≡ false
      → Alike waits (λ f. refl) refl 0 [] (act_on program (record w { clock = 0 }) (silent o) x) (act_on program w o x)
  act_same w o None e is = record { same = refl; effect = refl; awake = is }
  act_same w o (Some x) e is = act_alike waits (λ f. refl) refl 0 [] program w o x (timeless_at program.operations o.counter x timeless e) is

  abbrev private_if : Bool → ℕ → PrivateState → PrivateState
  private_if b at o = if b then (act_on program (alone at o) o (operation_of program o)).0 else o

  private_by : (at : ℕ) (o : PrivateState) → (b : Bool) → is_private_on program (Some o) ≡ b → private_step program at o ≡ private_if b at o
  private_by at o b h = by (is_running o.activity) (is_private o (operation_of program o)) h
    where
      by : (r x : Bool) → (if r then x else false) ≡ b
          → (if r then (if x then (act_on program (alone at o) o (operation_of program o)).0 else o) else o) ≡ private_if b at o
      by true x h = ap (λ y. private_if y at o) h
      by false x h = ap (λ y. private_if y at o) h

  private_same : (at : ℕ) (o : PrivateState) → waits o.activity ≡ false → is_private_on program (Some o) ≡ true
      → SameStep (private_step program 0 (silent o)) (private_step program at o)
  private_same at o is h =
      let a = act_same (alone at o) o (operation_of program o) refl is in
      let left : private_step program 0 (silent o) ≡ (act_on program (alone 0 o) (silent o) (operation_of program o)).0 = private_by 0 (silent o) true h in
      let right : private_step program at o ≡ (act_on program (alone at o) o (operation_of program o)).0 = private_by at o true h in
      record {
        same = ap silent left ∙ (a.same ∙ sym (ap silent right));
        awake = ap (λ z. waits z.activity) right ∙ a.awake;
      }

  -- ---- Private turns of one step

  module _ (at : ℕ) (os : List PrivateState) (i : ℕ) where
    abbrev stepped : Option PrivateState → List PrivateState
    stepped None = os
    stepped (Some o) = slice_set os i (private_step program at o)

    private_seen : AreAwake os → (x : Option PrivateState) → slice_get os i ≡ x
        → (map silent (stepped x) ≡ turned program (map silent os) (suc i) (slice_get (map silent os) i)) × AreAwake (stepped x)
    private_seen h None e = (ap (turned program (map silent os) (suc i)) (sym (map_none silent os i e)), h)
    private_seen h (Some o) e =
        let is = awake_at os i o h e in
        let there = map_got silent os i o e in
        let r = by is there (is_private_on program (Some o)) refl in
        (r.0 ∙ ap (turned program (map silent os) (suc i)) (sym there), awake_set os i (private_step program at o) h r.1)
      where
        by : waits o.activity ≡ false → slice_get (map silent os) i ≡ Some (silent o) → (b : Bool) → is_private_on program (Some o) ≡ b
            → (map silent (slice_set os i (private_step program at o)) ≡ turned program (map silent os) (suc i) (Some (silent o)))
            × (waits (private_step program at o).activity ≡ false)
        by is there true f =
            let s = private_same at o is f in (
              map_set silent os i (private_step program at o)
                  ∙ (ap (slice_set (map silent os) i) (sym s.same)
                  ∙ ap (λ (b : Bool). if b then slice_set (map silent os) i (silent (private_step program 0 (silent o))) else map silent os) (sym f)),
              s.awake,
            )
        by is there false f =
            let none : private_step program at o ≡ o = private_by at o false f in (
              map_set silent os i (private_step program at o)
                  ∙ (ap (λ z. slice_set (map silent os) i (silent z)) none
                  ∙ (set_same (map silent os) i (silent o) there
                  ∙ ap (λ (b : Bool). if b then slice_set (map silent os) i (silent (private_step program 0 (silent o))) else map silent os) (sym f))),
              ap (λ z. waits z.activity) none ∙ is,
            )

  -- ---- Kernel turns of one step

  module _ (at : ℕ) (k : Kernel) (os : List PrivateState) (i : ℕ) where
    abbrev turning : PrivateState → Turning
    turning o = record { kernel = k; own = o }

    abbrev acted : ℕ → PrivateState → Acting
    acted at o = step_with program (outside at (turning o)) (join_words (turning o))

    abbrev step_if : Bool → ℕ → PrivateState → Turning
    step_if b at o = if b then part_words (length o.words) (turning o) (acted at o) else turning o

    step_by : (at : ℕ) (o : PrivateState) (b : Bool) → is_due program (turning o) ≡ b → kernel_step program at (turning o) ≡ step_if b at o
    step_by at o b h = ap (λ c. step_if c at o) h

    record SameTurn (x' x : Turning) : Type 0 where
      kernel : x'.kernel ≡ x.kernel
      own : silent x'.own ≡ silent x.own
      awake : waits x.own.activity ≡ false

    turn_same : (o : PrivateState) → waits o.activity ≡ false → is_due program (turning o) ≡ true
        → SameTurn (kernel_step program 0 (turning (silent o))) (kernel_step program at (turning o))
    turn_same o is due =
        let w = outside at (turning o) in
        let a = act_same w (join_words (turning o)) (operation_of program (join_words (turning o))) refl is in
        let left = step_by 0 (silent o) true due in
        let right = step_by at o true due in
        record {
          kernel =
              ap (λ x. x.kernel) left
              ∙ ((λ j. apply_effect (length o.words) o.number (a.effect j) (record k { shared = drop (length o.words) (a.same j).words }))
              ∙ sym (ap (λ x. x.kernel) right));
          own =
              ap (λ x. silent x.own) left
              ∙ ((λ j. record (a.same j) { words = take (length o.words) (a.same j).words })
              ∙ sym (ap (λ x. silent x.own) right));
          awake = ap (λ x. waits x.own.activity) right ∙ a.awake;
        }

    abbrev after_turn : Turning → Core
    after_turn x = record { kernel = x.kernel; parts = map silent (slice_set os i (silent x.own)) }

    abbrev seen : Core
    seen = record { kernel = k; parts = map silent os }

    abbrev turned_core : Option PrivateState → Core
    turned_core None = seen
    turned_core (Some o) = after_turn (kernel_step program at (turning o))

    abbrev turned_parts : Option PrivateState → List PrivateState
    turned_parts None = os
    turned_parts (Some o) = slice_set os i (silent (kernel_step program at (turning o)).own)

    kernel_seen : AreAwake os → (x : Option PrivateState) → slice_get os i ≡ x
        → (turned_core x ≡ kernel_on program seen (suc i) (slice_get (map silent os) i)) × AreAwake (turned_parts x)
    kernel_seen h None e = (ap (kernel_on program seen (suc i)) (sym (map_none silent os i e)), h)
    kernel_seen h (Some o) e =
        let is = awake_at os i o h e in
        let there = map_got silent os i o e in
        let r = by is there (is_due program (turning o)) refl in
        (r.0 ∙ ap (kernel_on program seen (suc i)) (sym there), awake_set os i (silent (kernel_step program at (turning o)).own) h r.1)
      where
        by : waits o.activity ≡ false → slice_get (map silent os) i ≡ Some (silent o) → (b : Bool) → is_due program (turning o) ≡ b
            → (after_turn (kernel_step program at (turning o)) ≡ kernel_on program seen (suc i) (Some (silent o)))
            × (waits (kernel_step program at (turning o)).own.activity ≡ false)
        by is there true f =
            let s = turn_same o is f in (
              ap (λ l. record { kernel = (kernel_step program at (turning o)).kernel; parts = l }) (map_set silent os i (silent (kernel_step program at (turning o)).own))
                  ∙ ((λ j. record { kernel = sym s.kernel j; parts = slice_set (map silent os) i (sym s.own j) })
                  ∙ ap (λ (b : Bool). if b then with_turning seen (suc i) (kernel_step program 0 (turning (silent o))) else seen) (sym f)),
              s.awake,
            )
        by is there false f =
            let none : kernel_step program at (turning o) ≡ turning o = step_by at o false f in (
              ap after_turn none
                  ∙ (ap (λ l. record { kernel = k; parts = l }) (map_set silent os i (silent o) ∙ set_same (map silent os) i (silent o) there)
                  ∙ ap (λ (b : Bool). if b then with_turning seen (suc i) (kernel_step program 0 (turning (silent o))) else seen) (sym f)),
              ap (λ x. waits x.own.activity) none ∙ is,
            )

  -- ---- The end of a round

  abbrev begun : Kernel → PrivateState → code.Process → PrivateState
  begun k o x = record o { activity = Running; words = paste 1 (block k.shared (suc x.parameters) (x.waiting - 1)) o.words }

  begin_silent : (k : Kernel) (o : PrivateState) (g : SchedulingState) → silent (begin_if program k o g) ≡ begin_if program k (silent o) g
  begin_silent k o Fresh = by (slice_get program.processes (o.number - 1))
    where
      by : (r : Option code.Process)
          → silent (elim r as (λ x. PrivateState) [ None ↦ o | Some x ↦ begun k o x ]) ≡ (elim r as (λ x. PrivateState) [ None ↦ silent o | Some x ↦ begun k (silent o) x ])
      by None = refl
      by (Some x) = refl
  begin_silent k o Unstarted = refl
  begin_silent k o Begun = refl
  begin_silent k o (Asking m) = refl
  begin_silent k o (Delayed m q) = refl

  begin_awake : (k : Kernel) (o : PrivateState) (g : SchedulingState) → waits o.activity ≡ false → waits (begin_if program k o g).activity ≡ false
  begin_awake k o Fresh h = by (slice_get program.processes (o.number - 1))
    where
      by : (r : Option code.Process) → waits (elim r as (λ x. PrivateState) [ None ↦ o | Some x ↦ begun k o x ]).activity ≡ false
      by None = h
      by (Some x) = refl
  begin_awake k o Unstarted h = h
  begin_awake k o Begun h = h
  begin_awake k o (Asking m) h = h
  begin_awake k o (Delayed m q) h = h

  close_seen : (k : Kernel) (os : List PrivateState) → map silent (map (begin_one program k) os) ≡ map (begin_one program k) (map silent os)
  close_seen k [] = refl
  close_seen k (o ∷ os) =
      let first = begin_silent k o (stage_of k.stages o.number) in
      let rest = close_seen k os in
      λ j. first j ∷ rest j

  close_awake : (k : Kernel) (os : List PrivateState) → AreAwake os → AreAwake (map (begin_one program k) os)
  close_awake k [] h = tt
  close_awake k (o ∷ os) h = (begin_awake k o (stage_of k.stages o.number) h.0, close_awake k os h.1)

-- ---- The waking

awake_same : (x : Activity) → waits x ≡ false → awake x ≡ x
awake_same Waiting h = absurd (true≢false h)
awake_same NotBegun h = refl
awake_same Running h = refl
awake_same Ended h = refl
awake_same (Faulted f) h = refl

all_awake : (os : List PrivateState) → AreAwake os → map wake_one os ≡ os
all_awake [] h = refl
all_awake (o ∷ os) h =
    let first = awake_same o.activity h.0 in
    let rest = all_awake os h.1 in
    λ j. record o { activity = first j } ∷ rest j

-- ---- Machines

-- A machine of a program that doesn't use the clock, in which nobody waits for it.
pub record IsTimeless (program : Program) (m : Machine) : Type 0 where
  pub program_is : m.program ≡ program
  pub timeless : is_timeless m.program ≡ true
  pub awake : AreAwake m.parts

pub wake_seen : (m : Machine) → AreAwake m.parts → wake m ≡ m
wake_seen m h = by (nat_eq (suc m.rounds % m.tick) 0)
  where
    by : (b : Bool) → (if b then record m { parts = map wake_one m.parts } else m) ≡ m
    by true = ap (λ l. record m { parts = l }) (all_awake m.parts h)
    by false = refl

-- What a step makes of a machine, as its core shows.
pub record Sees (program : Program) (m : Machine) (c : Core) : Type 0 where
  pub timeless : IsTimeless program m
  pub sees : core m ≡ c

pub private_turn_by : (m : Machine) (i : ℕ) → IsTimeless m.program m → Sees m.program (private_turn 1 m (suc i)) (private_at m.program (core m) (suc i))
private_turn_by m i h =
    let place : suc i - 1 ≡ i = Prim.omega arith in
    subst (λ (n : ℕ).
    Sees m.program (elim (slice_get m.parts n) as (λ x. Machine) [ None ↦ m | Some o ↦ record m { parts = slice_set m.parts n (private_step m.program (clock m) o) } ])
    (private_at m.program (core m) (suc i))) (sym place) (by (slice_get m.parts i) (private_seen m.program h.timeless (clock m) m.parts i h.awake (slice_get m.parts i) refl))
  where
    by : (x : Option PrivateState)
        → (map silent (stepped m.program h.timeless (clock m) m.parts i x) ≡ turned m.program (map silent m.parts) (suc i) (slice_get (map silent m.parts) i))
        × AreAwake (stepped m.program h.timeless (clock m) m.parts i x)
        → Sees m.program (elim x as (λ x. Machine) [ None ↦ m | Some o ↦ record m { parts = slice_set m.parts i (private_step m.program (clock m) o) } ])
        (private_at m.program (core m) (suc i))
    by None s = record {
      timeless = h;
      sees = ap (λ l. record { kernel = m.kernel; parts = l }) s.0;
    }
    by (Some o) s = record {
      timeless = record { program_is = refl; timeless = h.timeless; awake = s.1 };
      sees = ap (λ l. record { kernel = m.kernel; parts = l }) s.0;
    }

abbrev after : Machine → ℕ → ℕ → Option PrivateState → Machine
after m i n x = elim x as (λ x. Machine) [
  | None ↦ m
  | Some o ↦
      let y = kernel_step m.program (clock m) (record { kernel = m.kernel; own = o }) in
      record m {
        kernel = y.kernel;
        parts = slice_set m.parts n (record y.own { output = [] });
        transcripts = slice_set m.transcripts n (machine.transcript_of m.transcripts (suc i) ++ y.own.output);
      }
]

pub kernel_turn_by : (m : Machine) (i : ℕ) → IsTimeless m.program m → Sees m.program (kernel_turn 1 m (suc i)) (kernel_at m.program (core m) (suc i))
kernel_turn_by m i h =
    let place : suc i - 1 ≡ i = Prim.omega arith in
    subst (λ (n : ℕ).
    Sees m.program (after m i n (slice_get m.parts n))
    (kernel_at m.program (core m) (suc i))) (sym place) (by (slice_get m.parts i) (kernel_seen m.program h.timeless (clock m) m.kernel m.parts i h.awake (slice_get m.parts i) refl))
  where
    by : (x : Option PrivateState)
        → (turned_core m.program h.timeless (clock m) m.kernel m.parts i x ≡ kernel_on m.program (core m) (suc i) (slice_get (map silent m.parts) i))
        × AreAwake (turned_parts m.program h.timeless (clock m) m.kernel m.parts i x)
        → Sees m.program (after m i i x) (kernel_at m.program (core m) (suc i))
    by None s = record { timeless = h; sees = s.0 }
    by (Some o) s = record { timeless = record { program_is = refl; timeless = h.timeless; awake = s.1 }; sees = s.0 }

pub end_round_by : (m : Machine) → IsTimeless m.program m → Sees m.program (end_round m) (close m.program (core m))
end_round_by m h = record {
  timeless = record { program_is = refl; timeless = h.timeless; awake = close_awake m.program h.timeless m.kernel m.parts h.awake };
  sees = ap (λ l. record { kernel = (close m.program (core m)).kernel; parts = l }) (close_seen m.program h.timeless m.kernel m.parts);
}
