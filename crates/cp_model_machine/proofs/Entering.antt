-- A routine is entered: the caller's frame is pushed, and the body is left to do before its end
-- mark.
use Rattle.std.proofs.Common.{◌≡◌, ◌⊎◌, inl, inr, ℕ, zero, suc, ◌+◌, ◌≤◌, ℤ, List, [], ◌∷◌, length, Bool, true, false, Option, Some, None, refl, ap, sym, subst, ◌∙◌, arith}
use Rattle.std.specs.Prelude.{if◌then◌else◌, nat_eq}
use Rattle.std.proofs.lemmas.Bool.{eqb-true}
use Rattle.cp_model.specs.Abstract.{Name, Routine, System}
use Rattle.cp_model.specs.Continuations.{EndCall, Task, depth, marked_monitors, push}
use Rattle.cp_model.specs.Environments.{Environment, Frame}
use Rattle.cp_model.specs.Locations.{ByIndex, ByName, Location, OfActivation, OfMonitor, OfProcess, Owner, Path}
use Rattle.cp_model.specs.Stores.{Store, Value}
use Rattle.cp_model.specs.Types.{ResolvedType}
use Rattle.cp_model_program.specs.Programs.{Call}
use Rattle.cp_model_program.specs.Layout.{Part, component_words, most_words}
use Rattle.cp_model_program.specs.Sites as sites
use Rattle.cp_model_program.specs.Sites.{RoutineOf}
use Rattle.cp_model_program.specs.IsProgramFor.{UnitRepresents, routine_environment}
use Rattle.cp_model_program.specs.Starts.{word}
use Rattle.cp_model_machine.specs.PrivateStates.{PrivateState}
use Rattle.cp_model_machine.specs.PrivateStates as machine
use Rattle.cp_model_machine.specs.Passing.{Called}
use Rattle.cp_model_machine.specs.Calling.{Back, enter, frame_of, innermost}
use Rattle.cp_model_machine.specs.Means.{CellMeans}
use Rattle.cp_model_machine.specs.Addresses.{Activation, ClassHasRights, ComponentLies, Ground, activation_at, activations, in_sight, lies, part_at, part_of_activation, scope}
use Rattle.cp_model_machine.specs.Remaining.{CallerAt, IsGate, Remaining, Running, Runs, gate_number, innermost_gate, kept_below, site}
use Rattle.cp_model_machine.specs.PartOf.{ActivationMeans, ActivationsMean, DataMeans, RunsOn, components}
use Rattle.cp_model_machine.proofs.Apart.{IsCell}
use Rattle.cp_model_machine.proofs.GatesHeld.{monitor_numbered}
use Rattle.cp_model_machine.proofs.Holding.{SameBelow, SameLive, data_below}
use Rattle.cp_model_machine.proofs.Pushing.{marks_push, push_left}
use Rattle.cp_model_machine.proofs.RunningOn.{left_afresh, runs_over, runs_stacked, words_pushed}
use Rattle.cp_model_machine.proofs.Writing.{is_cell}
use Rattle.cp_model_machine.proofs.Given.{all_kept}
use Rattle.cp_model_machine.proofs.Keeping.{keeps_given}

-- ---- one activation more

-- What is somewhere with one more activation is in that activation, or was there before.
pub lies_with : (G : Ground) (z : Activation) (xs : List Activation) (l : Location) (v : Part) → lies G (z ∷ xs) l ≡ Some v
    → (l.owner ≡ OfActivation G.p (length xs)) ⊎ (lies G xs l ≡ Some v)
lies_with G z xs l v h = by l.owner l.path h
  where
    inner : (q d : ℕ) (x : Name) (p : Path) (b c : Bool) → nat_eq G.p q ≡ b → nat_eq d (length xs) ≡ c
        → (if b then part_of_activation (scope G) (if c then Some z else activation_at d xs) x p else None) ≡ Some v
        → (OfActivation q d ≡ OfActivation G.p (length xs)) ⊎ ((if b then part_of_activation (scope G) (activation_at d xs) x p else None) ≡ Some v)
    inner q d x p true true e f h = inl (λ i. OfActivation (sym (eqb-true G.p q e) i) (eqb-true d (length xs) f i))
    inner q d x p true false e f h = inr h
    inner q d x p false c e f h = inr h

    by : (o : Owner) (p : Path) → part_at G (z ∷ xs) o p ≡ Some v → (o ≡ OfActivation G.p (length xs)) ⊎ (part_at G xs o p ≡ Some v)
    by o [] h = inr h
    by o (ByIndex i ∷ p) h = inr h
    by (OfProcess q) (ByName x ∷ p) h = inr h
    by (OfMonitor k) (ByName x ∷ p) h = inr h
    by (OfActivation q d) (ByName x ∷ p) h = inner q d x p (nat_eq G.p q) (nat_eq d (length xs)) refl refl h

-- The words of a new activation mean what its variables hold: its `var` parameters, its result and
-- its cells.
pub record Opened (G : Ground) (xs : List Activation) (store : Store) (words : List ℤ) (base : ℕ) (f : Frame) : Type 0 where
  pub frame : ActivationMeans G xs store words base f
  pub cells : (l : Location) (n : ℕ) (t : ResolvedType) → l.owner ≡ OfActivation G.p (length xs) → IsCell t
      → lies G (record { base = base; routine = f.routine } ∷ xs) l ≡ Some (n, t) → CellMeans t (store l) (word words n)

data_opened : (G : Ground) (xs : List Activation) (store : Store) (words : List ℤ) (base : ℕ) (f : Frame) → Opened G xs store words base f
    → DataMeans G xs (in_sight G) store words → DataMeans G (record { base = base; routine = f.routine } ∷ xs) (in_sight G) store words
data_opened G xs store words base f O D = record {
  cells = λ l n t mine h. by l n t mine h (is_cell t);
  rights = D.rights;
  given = D.given;
}
  where
    inner : (l : Location) (n : ℕ) (t : ResolvedType) → in_sight G l.owner ≡ true → lies G (record { base = base; routine = f.routine } ∷ xs) l ≡ Some (n, t) → IsCell t
        → (l.owner ≡ OfActivation G.p (length xs)) ⊎ (lies G xs l ≡ Some (n, t)) → CellMeans t (store l) (word words n)
    inner l n t mine h c (inl e) = O.cells l n t e c h
    inner l n t mine h c (inr g) = D.cells l n t mine g

    by : (l : Location) (n : ℕ) (t : ResolvedType) → in_sight G l.owner ≡ true → lies G (record { base = base; routine = f.routine } ∷ xs) l ≡ Some (n, t)
        → IsCell t ⊎ ((v : Value) (z : ℤ) → CellMeans t v z) → CellMeans t (store l) (word words n)
    by l n t mine h (inr f) = f (store l) (word words n)
    by l n t mine h (inl c) = inner l n t mine h c (lies_with G (record { base = base; routine = f.routine }) xs l (n, t) h)

-- ---- the caller

-- What is left to do for the caller of a call: it has the same activations as before, at a place
-- where the call keeps the first `kept` temps.
pub record Waits (G : Ground) (o : PrivateState) (i k : List Task) (C : Running) (place kept live : ℕ) : Type 1 where
  pub same : activations o.base o.frames k ≡ activations o.base o.frames i
  pub means : (store : Store) (words : List ℤ) → ActivationsMean G store words o.base o.frames k ≡ ActivationsMean G store words o.base o.frames i
  pub marks : marked_monitors k ≡ marked_monitors i
  pub left : Remaining G o.temps o.limit (kept_below kept live o.temps C.temp) C o.frames place kept k
  pub kept_fit : kept ≤ C.unit.temps

-- The routine that is entered runs in a component that is there, and enters this gate.
pub record Entered (G : Ground) (C : Running) (call : Call) (kept : ℕ) (s : System) (r : Routine) (at : Location) (c : Called) (gate : Option ℕ) : Type 0 where
  pub runs : sites.Runs (site G C) (RoutineOf s r) kept call
  pub represents : UnitRepresents G.program G.texts (scope G) runs.unit (RoutineOf s r)
  pub room : component_words (scope G) s ≤ most_words
  pub lies_there : ComponentLies G at s c.component
  pub same_gate : c.gate ≡ gate_number gate
  pub is_gate : IsGate G gate

abbrev pub owner_of_call : Ground → List Task → Owner
owner_of_call G k = OfActivation G.p (depth k)

abbrev pub environment_of_call : Ground → List Task → System → Routine → Location → Environment
environment_of_call G k s r at = routine_environment (scope G) s r at (owner_of_call G k)

-- The process runs on in the routine, if the store and the words in use are as before and the new
-- activation is opened.
pub entered_on : (G : Ground) (store after : Store) (o : PrivateState) (ws : List ℤ) (i k : List Task) (R : RunsOn G store o i) (call : Call) (back : Back) (s : System) (r : Routine) (at : Location) (c : Called)
    (gate : Option ℕ) (place kept live : ℕ) → Waits G o i k R.running place kept live → (E : Entered G R.running call kept s r at c gate)
    → CallerAt G call.routine kept live r.result (frame_of o c back) place → ClassHasRights G store c.component
    → SameLive G (activations o.base o.frames i) store after → SameBelow G (o.base + (site G R.running).words) o.words ws → length ws ≡ length o.words
    → Opened G (activations o.base o.frames k) after ws (o.base + call.words) (record { owner = owner_of_call G k; routine = r })
    → RunsOn G after (enter (record o { words = ws }) c E.runs.unit call back)
    (push r.body (environment_of_call G k s r at) (EndCall (environment_of_call G k s r at) gate ∷ k))
entered_on G store after o ws i k R call back s r at c gate place kept live W E caller has same_live below len opened = record {
  at = record {
    running = N;
    runs = new_runs;
    base = omega (arith, R.base);
    temp = omega (arith, R.temp);
    component = refl;
    gate = ap (λ g. innermost g o.gate) E.same_gate ∙ (entered gate E.is_gate ∙ ap innermost_gate (sym (marks_push r.body env (EndCall env gate ∷ k))));
    live = 0;
    left = left_afresh G o.temps o.limit 0 N (f ∷ o.frames) E.runs.unit.start 0 (push r.body env (EndCall env gate ∷ k)) (omega arith)
        (push_left G o.temps o.limit N (f ∷ o.frames) r.body E.runs.unit.start (E.represents.4 E.room at (owner_of_call G k)).0 0 (EndCall env gate ∷ k) (E.represents.4 E.room at (owner_of_call G k)).2 (
          refl,
          record { frame = record { owner = owner_of_call G k; routine = r }; runs = refl; owner = refl; return = (E.represents.4 E.room at (owner_of_call G k)).1 },
          (E.same_gate, held, E.is_gate),
          (
            R.running,
            place,
            kept,
            live,
            R.runs,
            record {
              base = R.base;
              temp = R.temp;
              component = R.component;
              words_apart = omega (arith, E.runs.words);
              temps_apart = omega (arith, E.runs.temps);
              kept_fit = W.kept_fit;
            },
            caller,
            W.left,
          ),
        ));
    next_value = λ d n m e. omega arith;
  };
  words_mean = words_pushed G after ws (o.base + call.words) c.component (f ∷ o.frames) r.body env (EndCall env gate ∷ k) record {
    count = len ∙ R.count;
    activations_mean = (opened.frame, subst (λ (T : Type 0). T) (sym (W.means after ws)) over.activations_mean);
    data_means = data_opened G ys after ws (o.base + call.words) (record { owner = owner_of_call G k; routine = r }) opened (subst (λ ys. DataMeans G ys (in_sight G) after ws) (sym W.same) over.data_means);
    given = all_kept G store after
        (keeps_given G store after o.words ws (activations o.base o.frames i) (data_below G (activations o.base o.frames i) (o.base + (site G R.running).words) (runs_stacked G store o i R) store after o.words ws same_live below))
        (c.component ∷ components o.component o.frames) (has, R.given);
  };
}
  where
    N : Running
    N = record {
      number = call.routine;
      unit = E.runs.unit;
      text = RoutineOf s r;
      env = environment_of_call G k s r at;
      base = R.running.base + call.words;
      temp = R.running.temp + call.temps;
      component = c.component;
    }

    env : Environment
    env = environment_of_call G k s r at

    f : machine.Frame
    f = frame_of o c back

    ys : List Activation
    ys = activations o.base o.frames k

    over : RunsOn G after (record o { words = ws }) i
    over = runs_over G store after o ws i R same_live below len

    held : o.gate ≡ innermost_gate (marked_monitors k)
    held = R.gate ∙ ap innermost_gate (sym W.marks)

    -- The gate that is entered becomes the innermost one.
    entered : (g : Option ℕ) → IsGate G g → innermost (gate_number g) o.gate ≡ innermost_gate (marked_monitors (EndCall env g ∷ k))
    entered None h = held
    entered (Some m) h = by m (monitor_numbered G m h)
      where
        by : (m : ℕ) → 1 ≤ m → innermost m o.gate ≡ m
        by zero h = absurd (omega (arith, h))
        by (suc m) h = refl

    new_runs : Runs G (length o.temps) o.limit N (f ∷ o.frames)
    new_runs = record {
      unit = E.runs.there;
      text = E.runs.text;
      globals = refl;
      system = refl;
      frame = refl;
      component = E.lies_there;
      words_fit = omega (arith, R.runs.words_fit, E.runs.fits.words, E.runs.words);
      temps_fit = omega (arith, R.runs.temps_fit, E.runs.fits.temps, E.runs.temps);
      frames_fit = omega (arith, R.runs.frames_fit, E.runs.fits.frames);
      activation_fits = E.represents.1;
    }
