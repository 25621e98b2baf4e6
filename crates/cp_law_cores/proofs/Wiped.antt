-- A core whose dead words are wiped is a core of the same states.
--
-- What a process has left to do reads only words of its component, and temps that its next call keeps. So
-- the machine stays in its state if the other words become 0.
use Rattle.std.proofs.Common.{◌≡◌, ◌⊎◌, inl, inr, ℕ, zero, suc, ◌+◌, ◌-◌, ◌≤◌, ◌<◌, ℤ, List, [], ◌∷◌, Bool, true, false, Option, Some, None, length, map, refl, ap, sym, subst, ◌∙◌, arith}
use Rattle.std.specs.Prelude.{if◌then◌else◌, slice_get}
use Rattle.std.proofs.lemmas.List.{length-map}
use Rattle.cp_model.proofs.Options.{same_some}
use Rattle.cp_model.specs.Abstract.{Name, System}
use Rattle.cp_model.specs.Continuations.{Do, EndBody, EndCall, EndProcess, ForNext, RepeatTest, Task, WhileTest}
use Rattle.cp_model.specs.Declarations as declared
use Rattle.cp_model.specs.Locations.{ByName, Location, under}
use Rattle.cp_model.specs.States.{Setup, State}
use Rattle.cp_model.specs.Stores.{Store}
use Rattle.cp_model.specs.Types.{ResolvedType}
use Rattle.cp_model_program.specs.Layout.{member, right}
use Rattle.cp_model_program.specs.Programs as op
use Rattle.cp_model_program.specs.Programs.{Call, Operation, Program}
use Rattle.cp_model_program.specs.Starts.{word}
use Rattle.cp_model_program.specs.TermsFor.{Knowns, nothing_known}
use Rattle.cp_model_machine.specs.Addresses.{Activation, ComponentLies, Ground, OwnWords, RightMeans, activation_at, activations, component_type, in_sight, lies, scope, whole, words_seen}
use Rattle.cp_model_machine.specs.InState.{IsIn, PartRepresents}
use Rattle.cp_model_machine.specs.Laws.{ground_of}
use Rattle.cp_model_machine.specs.Remaining.{Remaining, Running, Runs, held_below}
use Rattle.cp_model_machine.specs.Machines.{Machine, transcript_of}
use Rattle.cp_model_machine.specs.Means.{CellMeans}
use Rattle.cp_model_machine.specs.PartOf.{DataMeans, IsActive, PartOf, RunsOn}
use Rattle.cp_model_machine.specs.PrivateStates as machine
use Rattle.cp_model_machine.specs.PrivateStates.{Activity, PrivateState}
use Rattle.cp_model_machine.specs.Steps.{operation_of}
use Rattle.cp_model_machine.proofs.Apart.{InHead, cell_head}
use Rattle.cp_model_machine.proofs.Owned.{OwnRight}
use Rattle.cp_model_machine.proofs.Finding.{some_is_not_none}
use Rattle.cp_model_machine.proofs.Keeping.{each_kept, right_place}
use Rattle.cp_model_machine.proofs.RemainingKept.{SameBelow}
use Rattle.cp_model_machine.proofs.RunningOn.{runs_kept}
use Rattle.cp_model_machine.proofs.Separate.{cell_below, cell_inside, own_right_below, own_right_inside}
use Rattle.cp_model_machine.proofs.Stacks.{Stack, Stacked}
use Rattle.cp_model_machine.proofs.Writing.{is_cell}
use Rattle.cp_model_machine.specs.Beginning.{Begins}
use Rattle.cp_law_cores.specs.Cores.{silent}
use Rattle.cp_law_cores.specs.Laws.{WipedRepresents}
use Rattle.cp_law_cores.specs.CoresOfStates.{AreAwake, waits}
use Rattle.cp_law_cores.specs.Wiping.{arguments_are_free, cleared, temps_at, wiped, wiped_body, wiped_core, wiped_in}
use Rattle.cp_law_cores.proofs.FreeArguments.{left_freed}

-- ---- Lists

length_cleared : (n : ℕ) (xs : List ℤ) → length (cleared n xs) ≡ length xs
length_cleared n [] = refl
length_cleared zero (x ∷ xs) = ap suc (length_cleared zero xs)
length_cleared (suc n) (x ∷ xs) = ap suc (length_cleared n xs)

word_cleared : (n : ℕ) (xs : List ℤ) (i : ℕ) → i < n → word (cleared n xs) i ≡ word xs i
word_cleared n [] i h = refl
word_cleared zero (x ∷ xs) i h = absurd (omega (arith, h))
word_cleared (suc n) (x ∷ xs) zero h = refl
word_cleared (suc n) (x ∷ xs) (suc i) h = word_cleared n xs i (omega (arith, h))

-- ---- No frames, no activations

no_activations : (b : ℕ) (k : List Task) → activations b [] k ≡ []
no_activations b [] = refl
no_activations b (Do s e ∷ k) = no_activations b k
no_activations b (WhileTest now e s env ∷ k) = no_activations b k
no_activations b (RepeatTest now s e env ∷ k) = no_activations b k
no_activations b (ForNext x down n last s env ∷ k) = no_activations b k
no_activations b (EndCall env gate ∷ k) = refl
no_activations b (EndBody gate ∷ k) = refl
no_activations b (EndProcess ∷ k) = no_activations b k

-- The component is below the words of the body.
bottom : (G : Ground) (ts : List ℤ) (limit : ℕ) (K : Knowns) (R : Running) (place low : ℕ) (k : List Task) → Remaining G ts limit K R [] place low k → Stack G R.base []
bottom G ts limit K R place low [] h = absurd h
bottom G ts limit K R place low (Do s e ∷ k) h = bottom G ts limit nothing_known R h.2.0 h.2.1 k h.2.4
bottom G ts limit K R place low (WhileTest now e s env ∷ k) h = bottom G ts limit nothing_known R h.1.0 h.1.1 k h.1.4
bottom G ts limit K R place low (RepeatTest now s e env ∷ k) h = bottom G ts limit nothing_known R h.1.0 h.1.1 k h.1.4
bottom G ts limit K R place low (ForNext x down n last s env ∷ k) h = bottom G ts limit nothing_known R h.1.0 h.1.1 k h.1.4
bottom G ts limit K R place low (EndCall env gate ∷ k) h = absurd h
bottom G ts limit K R place low (EndBody gate ∷ k) h = absurd h
bottom G ts limit K R place low (EndProcess ∷ k) h = (h.4.0, h.4.1, h.4.2)

module _ (G : Ground) (sight : G.sight ≡ OwnWords) (store : Store) (o : PrivateState) (k : List Task) (R : RunsOn G store o k) (bare : o.frames ≡ []) where
  abbrev xs : List Activation
  xs = activations o.base o.frames k

  abbrev new : List ℤ
  new = cleared o.base o.words

  none_left : xs ≡ []
  none_left = ap (λ fs. activations o.base fs k) bare ∙ no_activations o.base k

  whole_is : whole G ≡ G.own
  whole_is = ap (λ v. words_seen v G.program G.own) sight

  stack : Stacked G o.base xs
  stack = record {
    stack =
        subst (Stack G o.base) (sym none_left)
        (subst (λ b. Stack G b []) (sym R.base)
        (bottom G o.temps o.limit (held_below R.live o.temps R.running.temp) R.running o.counter R.running.unit.temps k
        (subst (λ fs. Remaining G o.temps o.limit (held_below R.live o.temps R.running.temp) R.running fs o.counter R.running.unit.temps k) bare R.left)));
    fits = omega (arith, R.base, R.runs.words_fit);
  }

  low_cell : (l : Location) (n : ℕ) (t : ResolvedType) (a : ℕ) → in_sight G l.owner ≡ true → InHead (scope G) t a → lies G xs l ≡ Some (n, t) → n + a < o.base
  low_cell l n t a mine head is = by (cell_below G xs o.base stack l n t a mine head is)
    where
      by : (n + a < o.base) ⊎ (G.own ≤ n + a) → n + a < o.base
      by (inl h) = h
      by (inr h) = absurd (omega (arith, h, whole_is, cell_inside G xs o.base stack l n t a mine head is))

  low_right : (n : ℕ) → OwnRight G n → n < o.base
  low_right n r = by (own_right_below G xs o.base stack n r)
    where
      by : (n < o.base) ⊎ (G.own ≤ n) → n < o.base
      by (inl h) = h
      by (inr h) = absurd (omega (arith, h, whole_is, own_right_inside G xs o.base stack n r))

  data_cleared : DataMeans G xs (in_sight G) store new
  data_cleared = record {
    cells = λ l n t mine is. elim (is_cell t) [
      | inl c ↦ subst (CellMeans t (store l)) (sym (word_cleared o.base o.words n (omega (arith, low_cell l n t 0 mine (cell_head (scope G) t c) is)))) (R.data_means.cells l n t mine is)
      | inr f ↦ f (store l) (word new n)
    ];
    rights = rights_cleared;
    given = R.data_means.given;
  }
    where
      rights_cleared : (at : Location) (s : System) (n m : ℕ) (x : Name) (v : declared.Variable) → in_sight G at.owner ≡ true → ComponentLies G at s n → right (scope G) s x ≡ Some (m, v)
          → member (scope G) s x ≡ None → RightMeans G v.type (store (under at (ByName x ∷ []))) (n + m) (word new (n + m))
      rights_cleared at s n m x v mine cl is none =
          subst (RightMeans G v.type (store (under at (ByName x ∷ []))) (n + m)) (sym (word_cleared o.base o.words (n + m) (below (right_place G xs at s n m x v mine cl is))))
          (R.data_means.rights at s n m x v mine cl is none)
        where
          below : OwnRight G (n + m) ⊎ ((lies G xs at ≡ Some (n, component_type G s)) × InHead (scope G) (component_type G s) m × (1 ≤ m)) → n + m < o.base
          below (inl r) = low_right (n + m) r
          below (inr r) = low_cell at n (component_type G s) m mine r.1 r.0

  words_cleared : RunsOn G store (record o { words = new }) k
  words_cleared =
      runs_kept G store store o new k R (length_cleared o.base o.words)
      (each_kept G store store o.words new xs (λ d z there. absurd (some_is_not_none z (sym (ap (activation_at d) (sym none_left) ∙ there)))))
      data_cleared R.given

  module _ (call : Call) (n : ℕ) (free : arguments_are_free call.arguments ≡ true) (there : operation_of G.program o ≡ Some (op.Procedure call n)) where
    abbrev us : List ℤ
    us = cleared (o.temp + call.temps) o.temps

    abbrev after : PrivateState
    after = record o { words = new; temps = us }

    same_temps : SameBelow (R.running.temp + call.temps) o.temps us
    same_temps i h = word_cleared (o.temp + call.temps) o.temps i (omega (arith, h, R.temp))

    all_cleared : RunsOn G store after k
    all_cleared = record {
      at = record {
        running = R.running;
        runs = subst (λ z. Runs G z o.limit R.running o.frames) (sym (length_cleared (o.temp + call.temps) o.temps)) R.runs;
        base = R.base;
        temp = R.temp;
        component = R.component;
        gate = R.gate;
        live = R.live;
        left =
            left_freed G o.temps us o.limit (sym (length_cleared (o.temp + call.temps) o.temps)) call n free (held_below R.live o.temps R.running.temp)
            (held_below R.live us R.running.temp) R.running o.frames o.counter R.running.unit.temps k there same_temps R.left;
        next_value = R.next_value;
      };
      words_mean = words_cleared.words_mean;
    }

-- ---- A private state

module _ (program : Program) (setup : Setup) (G : Ground) (sight : G.sight ≡ OwnWords) (s : State) (before : List ℕ) (o : PrivateState) (part : PartOf G s before o) (runs : o.activity ≡ machine.Running) where
  running_on : RunsOn G s.store o (s.continuation G.p)
  running_on = part.runs_on (subst IsActive (sym runs) tt)

  -- The words.
  words_part : o.frames ≡ [] → PartOf G s before (record o { words = cleared o.base o.words })
  words_part bare = record {
    number = part.number;
    input = part.input;
    consumed = part.consumed;
    transcript = part.transcript;
    status = part.status;
    count = length_cleared o.base o.words ∙ part.count;
    data_means = λ h. data_cleared G sight s.store o (s.continuation G.p) running_on bare;
    runs_on = λ h. words_cleared G sight s.store o (s.continuation G.p) running_on bare;
  }

  part_cleared : o.frames ≡ [] → (call : Call) (n : ℕ) → arguments_are_free call.arguments ≡ true → operation_of G.program o ≡ Some (op.Procedure call n)
      → PartOf G s before (record o { words = cleared o.base o.words; temps = cleared (o.temp + call.temps) o.temps })
  part_cleared bare call n free there = record {
    number = part.number;
    input = part.input;
    consumed = part.consumed;
    transcript = part.transcript;
    status = part.status;
    count = length_cleared o.base o.words ∙ part.count;
    data_means = λ h. data_cleared G sight s.store o (s.continuation G.p) running_on bare;
    runs_on = λ h. all_cleared G sight s.store o (s.continuation G.p) running_on bare call n free there;
  }

  part_wiped_at : o.frames ≡ [] → (x : Option Operation) → operation_of G.program o ≡ x → PartOf G s before (wiped_body o x)
  part_wiped_at bare (Some (op.Procedure call n)) there = by (arguments_are_free call.arguments) refl
    where
      by : (b : Bool) → arguments_are_free call.arguments ≡ b
          → PartOf G s before (record o { words = cleared o.base o.words; temps = if b then cleared (o.temp + call.temps) o.temps else o.temps })
      by true free = part_cleared bare call n free there
      by false e = words_part bare
  part_wiped_at bare _ there = words_part bare

part_wiped : (G : Ground) → G.sight ≡ OwnWords → (s : State) (before : List ℕ) (o : PrivateState) → PartOf G s before o → PartOf G s before (wiped G.program o)
part_wiped G sight s before o part = by o.activity refl
  where
    framed : o.activity ≡ machine.Running → (fs : List machine.Frame) → o.frames ≡ fs
        → PartOf G s before (elim fs as (λ x. PrivateState) [ [] ↦ wiped_body o (operation_of G.program o) | f ∷ gs ↦ o ])
    framed runs [] bare = part_wiped_at G.program G.setup G sight s before o part runs bare (operation_of G.program o) refl
    framed runs (f ∷ gs) e = part

    by : (x : Activity) → o.activity ≡ x → PartOf G s before (wiped_in G.program o x)
    by machine.Running runs = framed runs o.frames refl
    by machine.NotBegun e = part
    by machine.Waiting e = part
    by machine.Ended e = part
    by (machine.Faulted f) e = part

wiped_length : (program : Program) (o : PrivateState) → length (wiped program o).words ≡ length o.words
wiped_length program o = by o.activity
  where
    framed : (fs : List machine.Frame) → length (elim fs as (λ x. PrivateState) [ [] ↦ wiped_body o (operation_of program o) | f ∷ gs ↦ o ]).words ≡ length o.words
    framed [] = length_cleared o.base o.words
    framed (f ∷ gs) = refl

    by : (x : Activity) → length (wiped_in program o x).words ≡ length o.words
    by machine.Running = framed o.frames
    by machine.NotBegun = refl
    by machine.Waiting = refl
    by machine.Ended = refl
    by (machine.Faulted f) = refl

-- ---- Machines

-- Whatever is kept of a private state that is wiped.
kept_by : {A : Type 0} (program : Program) (field : PrivateState → A) → ((o : PrivateState) (ws ts : List ℤ) → field (record o { words = ws; temps = ts }) ≡ field o)
    → (o : PrivateState) → field (wiped program o) ≡ field o
kept_by program field same o = by o.activity
  where
    framed : (fs : List machine.Frame) → field (elim fs as (λ x. PrivateState) [ [] ↦ wiped_body o (operation_of program o) | f ∷ gs ↦ o ]) ≡ field o
    framed [] = same o (cleared o.base o.words) (temps_at o (operation_of program o))
    framed (f ∷ gs) = refl

    by : (x : Activity) → field (wiped_in program o x) ≡ field o
    by machine.Running = framed o.frames
    by machine.NotBegun = refl
    by machine.Waiting = refl
    by machine.Ended = refl
    by (machine.Faulted f) = refl

wiped_silent : (program : Program) (o : PrivateState) → silent (wiped program o) ≡ wiped program (silent o)
wiped_silent program o = by o.activity
  where
    at : (x : Option Operation) → silent (wiped_body o x) ≡ wiped_body (silent o) x
    at (Some (op.Procedure call n)) = refl
    at _ = refl

    framed : (fs : List machine.Frame) → silent (elim fs as (λ x. PrivateState) [ [] ↦ wiped_body o (operation_of program o) | f ∷ gs ↦ o ])
        ≡ (elim fs as (λ x. PrivateState) [ [] ↦ wiped_body (silent o) (operation_of program o) | f ∷ gs ↦ silent o ])
    framed [] = at (operation_of program o)
    framed (f ∷ gs) = refl

    by : (x : Activity) → silent (wiped_in program o x) ≡ wiped_in program (silent o) x
    by machine.Running = framed o.frames
    by machine.NotBegun = refl
    by machine.Waiting = refl
    by machine.Ended = refl
    by (machine.Faulted f) = refl

parts_silent : (program : Program) (os : List PrivateState) → map silent (map (wiped program) os) ≡ map (wiped program) (map silent os)
parts_silent program [] = refl
parts_silent program (o ∷ os) =
    let first = wiped_silent program o in
    let rest = parts_silent program os in
    λ i. first i ∷ rest i

parts_awake : (program : Program) (os : List PrivateState) → AreAwake os → AreAwake (map (wiped program) os)
parts_awake program [] h = tt
parts_awake program (o ∷ os) h = (kept_by program (λ z. waits z.activity) (λ z ws ts. refl) o ∙ h.0, parts_awake program os h.1)

mapped : {X : Type 0} (f : X → X) (ys : List X) (i : ℕ) (z : X) → slice_get (map f ys) i ≡ Some z → (x : X) × (slice_get ys i ≡ Some x) × (f x ≡ z)
mapped f [] i z e = absurd (some_is_not_none z (sym e))
mapped f (x ∷ ys) zero z e = (x, refl, same_some (f x) z e)
mapped f (x ∷ ys) (suc i) z e = mapped f ys i z e

abbrev wiped_machine : Machine → Machine
wiped_machine m = record m { parts = map (wiped m.program) m.parts }

wiped_is_in : (m : Machine) (setup : Setup) (s : State) → IsIn m setup s → IsIn (wiped_machine m) setup s
wiped_is_in m setup s I = record {
  represents = I.represents;
  tick = I.tick;
  rounds = I.rounds;
  part_count = length-map m.parts (wiped m.program) ∙ I.part_count;
  transcript_count = I.transcript_count;
  parts = λ p z low there.
      let f = mapped (wiped m.program) m.parts (p - 1) z there in
      subst (PartRepresents (wiped_machine m) setup I.represents s p) f.2 (represents p f.0 (I.parts p f.0 low f.1));
  kernel = I.kernel;
  order = I.order;
}
  where
    represents : (p : ℕ) (o : PrivateState) → PartRepresents m setup I.represents s p o → PartRepresents (wiped_machine m) setup I.represents s p (wiped m.program o)
    represents p o P = record {
      part =
          subst (λ n. PartOf (ground_of m.program setup I.represents p n) s (transcript_of m.transcripts p) (wiped m.program o)) (sym (wiped_length m.program o))
          (part_wiped (ground_of m.program setup I.represents p (length o.words)) refl s (transcript_of m.transcripts p) o P.part);
      begins = λ h.
          let B = P.begins h in
          let same : o ≡ wiped m.program o = sym (ap (wiped_in m.program o) B.activity_is) in
          subst (λ (z : PrivateState). Begins (ground_of m.program setup I.represents p (length z.words)) s m.kernel z) same B;
    }

-- The wiped core represents whatever states the core does.
pub wiped_represents : WipedRepresents
wiped_represents program setup c s h = record {
  machine = wiped_machine h.machine;
  program_is = h.program_is;
  awake = parts_awake h.machine.program h.machine.parts h.awake;
  inside = wiped_is_in h.machine setup s h.inside;
  is =
      ap (λ l. record { kernel = h.machine.kernel; parts = l }) (parts_silent h.machine.program h.machine.parts)
      ∙ (λ i. wiped_core (h.program_is i) (h.is i));
}
