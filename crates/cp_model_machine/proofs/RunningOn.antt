-- Processes that run or will run again: what their words mean, and the same with other places,
-- tasks, words and stores.
use Rattle.std.proofs.Common.{◌≡◌, ℕ, ◌+◌, ◌≤◌, ℤ, List, ◌∷◌, Option, Some, length, refl, ap, sym, subst, ◌∙◌, arith}
use Rattle.std.specs.Prelude.{slice_set, true}
use Rattle.std.proofs.lemmas.Bool.{true≢false}
use Rattle.std.proofs.lemmas.List.{length-set}
use Rattle.cp_model.specs.Abstract as a
use Rattle.cp_model.specs.Abstract.{BaseType, Class, System}
use Rattle.cp_model.specs.CallSteps.{is_initialised}
use Rattle.cp_model.specs.Environments.{Environment}
use Rattle.cp_model.specs.Continuations.{EndBody, Task, marked_monitors, push}
use Rattle.cp_model.specs.Locations.{Location}
use Rattle.cp_model.specs.Operators.{Clock, realtime}
use Rattle.cp_model.specs.Stores.{Ordinal, Store, Value, put}
use Rattle.cp_model.specs.Types.{ResolvedType, Simple}
use Rattle.cp_model_program.specs.TermsFor.{nothing_known}
use Rattle.cp_model_program.specs.StatementsFor.{CodeFor}
use Rattle.cp_model_machine.specs.PrivateStates.{StepContext, PrivateState, go_to, set_word, view_of}
use Rattle.cp_model_machine.specs.PrivateStates as machine
use Rattle.cp_model_machine.specs.Values.{View}
use Rattle.cp_model_machine.specs.Means.{CellMeans, Here}
use Rattle.cp_model_machine.specs.Addresses.{AllHaveRights, ClassHasRights, Ground, HasRights, activations, component_type, in_sight, lies, scope, lies_in_sight}
use Rattle.cp_model_machine.specs.Remaining.{Remaining, Running, held_below, innermost_gate, site}
use Rattle.cp_model_machine.specs.PartOf.{ActivationsMean, DataMeans, RunsOn, WordsMean, components}
use Rattle.cp_model_machine.proofs.Apart.{IsCell, cell_head}
use Rattle.cp_model_machine.proofs.Given.{all_kept}
use Rattle.cp_model_machine.proofs.Heres.{Sees, here}
use Rattle.cp_model_machine.proofs.Holding.{SameBelow, SameLive, activation_below, activation_written, data_below, data_written, written_keeps}
use Rattle.cp_model_machine.proofs.Keeping.{EachKept, KeepsData, activations_kept, data_kept, each_kept, keeps_given}
use Rattle.cp_model_machine.proofs.RemainingKept.{left_kept, left_raised}
use Rattle.cp_model_machine.proofs.Pushing.{activations_push, marks_push, mean_push, push_left}
use Rattle.cp_model_machine.proofs.Separate.{cell_inside}
use Rattle.cp_model_machine.proofs.Stacks.{Stack, Stacked, own_in_whole, stacked}

-- The names mean what the words hold.
pub runs_here : (G : Ground) (store : Store) (w : StepContext) (o : PrivateState) (k : List Task) (clock : Clock) → w.clock ≡ realtime clock → (R : RunsOn G store o k) → Sees G (in_sight G) store R.running.env
    → Here R.running.env clock store (view_of w o) (held_below R.live o.temps R.running.temp) (lies_in_sight (in_sight G) G (activations o.base o.frames k))
runs_here G store w o k clock clock_is R sees =
    subst (λ b. Here R.running.env clock store (view_of w o) (held_below R.live o.temps R.running.temp) (lies_in_sight (in_sight G) G (activations b o.frames k))) (sym R.base)
    (subst (λ z. Here R.running.env clock store z (held_below R.live o.temps R.running.temp) (lies_in_sight (in_sight G) G (activations R.running.base o.frames k))) view_is
    (here G store o.words o.temps o.limit R.live (held_below R.live o.temps R.running.temp) R.running o.frames o.counter R.running.unit.temps k (in_sight G) clock R.left
    (subst (λ b. ActivationsMean G store o.words b o.frames k) R.base R.activations_mean)
    R.runs.component
    (subst (λ b. DataMeans G (activations b o.frames k) (in_sight G) store o.words) R.base R.data_means)
    R.runs.globals sees))
  where
    view : View
    view = record { words = o.words; temps = o.temps; base = R.running.base; temp = R.running.temp; component = R.running.component; clock = realtime clock }

    view_is : view ≡ view_of w o
    view_is = λ i. record { words = o.words; temps = o.temps; base = sym R.base i; temp = sym R.temp i; component = sym R.component i; clock = sym clock_is i }

-- The words of the activations are one after another, and are the process's own.
pub runs_stacked : (G : Ground) (store : Store) (o : PrivateState) (k : List Task) (R : RunsOn G store o k)
    → Stacked G (o.base + (site G R.running).words) (activations o.base o.frames k)
runs_stacked G store o k R = record {
  stack = subst (λ b. Stack G (b + (site G R.running).words) (activations b o.frames k)) (sym R.base)
      (stacked G o.temps o.limit (held_below R.live o.temps R.running.temp) R.running o.frames o.counter R.running.unit.temps k R.runs.globals R.runs.frame R.left);
  fits = omega (arith, R.base, R.runs.words_fit, R.runs.activation_fits);
}

pub runs_room : (G : Ground) (store : Store) (o : PrivateState) (k : List Task) (R : RunsOn G store o k) → o.base + (site G R.running).words ≤ length o.words
runs_room G store o k R = omega (arith, R.base, R.runs.words_fit, R.runs.activation_fits, R.count, own_in_whole G)

-- What is left where no value is known is so whatever is.
pub left_afresh : (G : Ground) (ts : List ℤ) (limit live : ℕ) (R : Running) (fs : List machine.Frame) (place low : ℕ) (k : List Task) → low ≤ R.unit.temps
    → Remaining G ts limit nothing_known R fs place low k → Remaining G ts limit (held_below live ts R.temp) R fs place R.unit.temps k
left_afresh G ts limit live R fs place low k up h =
    left_raised G ts limit (held_below live ts R.temp) R fs place low R.unit.temps k up
    (left_kept G ts ts limit refl nothing_known (held_below live ts R.temp) R fs place low k (λ s m z. absurd z) (λ i q. refl) h)

-- ---- other tasks

-- The words mean the same for other tasks, if the activations are the same.
pub words_moved : (G : Ground) (store : Store) (words : List ℤ) (base component : ℕ) (fs : List machine.Frame) (i j : List Task)
    → activations base fs j ≡ activations base fs i → ActivationsMean G store words base fs j ≡ ActivationsMean G store words base fs i
    → WordsMean G store words base component fs i → WordsMean G store words base component fs j
words_moved G store words base component fs i j same mean W = record {
  count = W.count;
  activations_mean = subst (λ (T : Type 0). T) (sym mean) W.activations_mean;
  data_means = subst (λ xs. DataMeans G xs (in_sight G) store words) (sym same) W.data_means;
  given = W.given;
}

-- The same with a statement before what is left to do.
pub words_pushed : (G : Ground) (store : Store) (words : List ℤ) (base component : ℕ) (fs : List machine.Frame) (s : a.Statement) (env : Environment) (k : List Task)
    → WordsMean G store words base component fs k → WordsMean G store words base component fs (push s env k)
words_pushed G store words base component fs s env k =
    words_moved G store words base component fs k (push s env k) (activations_push base fs s env k) (mean_push G store words base fs s env k)

-- A body runs in a component that has its rights, and all activations are those of its caller.
pub words_of_body : (G : Ground) (store : Store) (words : List ℤ) (base component : ℕ) (f : machine.Frame) (fs : List machine.Frame) (s : a.Statement) (env : Environment) (gate : Option ℕ) (i : Task) (k : List Task)
    → activations f.base fs (i ∷ k) ≡ activations f.base fs k → ActivationsMean G store words f.base fs (i ∷ k) ≡ ActivationsMean G store words f.base fs k
    → ClassHasRights G store component → WordsMean G store words f.base f.component fs (i ∷ k)
    → WordsMean G store words base component (f ∷ fs) (push s env (EndBody gate ∷ k))
words_of_body G store words base component f fs s env gate i k same means has W =
    let moved = words_moved G store words f.base f.component fs (i ∷ k) k (sym same) (sym means) W in
    words_pushed G store words base component (f ∷ fs) s env (EndBody gate ∷ k)
    record { count = moved.count; activations_mean = moved.activations_mean; data_means = moved.data_means; given = (has, moved.given) }

-- The process runs on with other tasks first, if the activations are the same.
abbrev pub runs_moved : (G : Ground) (store : Store) (o : PrivateState) (i j : List Task) (place low : ℕ) (R : RunsOn G store o i)
    → activations o.base o.frames j ≡ activations o.base o.frames i → ActivationsMean G store o.words o.base o.frames j ≡ ActivationsMean G store o.words o.base o.frames i
    → marked_monitors j ≡ marked_monitors i
    → Remaining G o.temps o.limit nothing_known R.running o.frames place low j → low ≤ R.running.unit.temps
    → RunsOn G store (go_to place o) j
runs_moved G store o i j place low R same mean marks left fits = record {
  at = record {
    running = R.running;
    runs = R.runs;
    base = R.base;
    temp = R.temp;
    component = R.component;
    gate = R.gate ∙ ap innermost_gate (sym marks);
    live = 0;
    left = left_afresh G o.temps o.limit 0 R.running o.frames place low j fits left;
    next_value = λ c n m e. omega arith;
  };
  words_mean = words_moved G store o.words o.base o.component o.frames i j same mean R.words_mean;
}

-- The process runs on with a statement before what is left to do.
abbrev pub runs_pushed : (G : Ground) (store : Store) (o : PrivateState) (i k : List Task) (s : a.Statement) (place next low : ℕ) (R : RunsOn G store o i)
    → activations o.base o.frames k ≡ activations o.base o.frames i → ActivationsMean G store o.words o.base o.frames k ≡ ActivationsMean G store o.words o.base o.frames i
    → marked_monitors k ≡ marked_monitors i
    → CodeFor (site G R.running) nothing_known s place next low → Remaining G o.temps o.limit nothing_known R.running o.frames next low k → low ≤ R.running.unit.temps
    → RunsOn G store (go_to place o) (push s R.running.env k)
runs_pushed G store o i k s place next low R same mean marks code left fits =
    runs_moved G store o i (push s R.running.env k) place low R
    (activations_push o.base o.frames s R.running.env k ∙ same) (mean_push G store o.words o.base o.frames s R.running.env k ∙ mean) (marks_push s R.running.env k ∙ marks)
    (push_left G o.temps o.limit R.running o.frames s place next low k code left) fits

-- ---- other words

-- The process runs on with another store and other words, if its activations, its variables and its
-- rights mean what they did.
abbrev pub runs_kept : (G : Ground) (store after : Store) (o : PrivateState) (new : List ℤ) (k : List Task) (R : RunsOn G store o k) → length new ≡ length o.words
    → EachKept G store after o.words new (activations o.base o.frames k)
    → DataMeans G (activations o.base o.frames k) (in_sight G) after new → AllHaveRights G after (components o.component o.frames)
    → RunsOn G after (record o { words = new }) k
runs_kept G store after o new k R same keeps means given = record {
  at = R.at;
  words_mean = record {
    count = same ∙ R.count;
    activations_mean =
        activations_kept G store after o.words new o.temps o.limit o.base (held_below R.live o.temps R.running.temp) R.running o.frames o.counter R.running.unit.temps k R.left keeps
        R.activations_mean;
    data_means = means;
    given = given;
  };
}

-- The same, where the variables and rights are kept as they are.
abbrev pub runs_with_data : (G : Ground) (store after : Store) (o : PrivateState) (new : List ℤ) (k : List Task) (R : RunsOn G store o k) → length new ≡ length o.words
    → EachKept G store after o.words new (activations o.base o.frames k)
    → KeepsData G store after o.words new (activations o.base o.frames k)
    → RunsOn G after (record o { words = new }) k
runs_with_data G store after o new k R same keeps all =
    let xs = activations o.base o.frames k in
    runs_kept G store after o new k R same keeps (data_kept G store after o.words new xs all R.data_means)
    (all_kept G store after (keeps_given G store after o.words new xs all) (components o.component o.frames) R.given)

-- A value of one word is stored. Where it is a mark that is set, the class has its rights.
abbrev pub runs_stored : (G : Ground) (store : Store) (o : PrivateState) (k : List Task) (R : RunsOn G store o k) (l : Location) (n : ℕ) (u : ResolvedType) (w : Value) (v : ℤ)
    → IsCell u → CellMeans u w v → in_sight G l.owner ≡ true → lies G (activations o.base o.frames k) l ≡ Some (n, u)
    → ((s : System) → s.sort ≡ Class → u ≡ component_type G s → is_initialised w ≡ true → HasRights G store l s)
    → RunsOn G (put l w store) (set_word o n v) k
runs_stored G store o k R l n u w v cell means own is fresh =
    let xs = activations o.base o.frames k in
    let top = o.base + (site G R.running).words in
    let stack = runs_stacked G store o k R in
    let below = cell_inside G xs top stack l n u 0 own (cell_head (scope G) u cell) is in
    runs_kept G store (put l w store) o (slice_set o.words n v) k R (length-set o.words n v)
    (each_kept G store (put l w store) o.words (slice_set o.words n v) xs (activation_written G xs top stack store o.words l n u w v cell means own is))
    (data_written G xs top stack store o.words l n u w v cell means own is (omega (arith, below, R.count)) fresh R.data_means)
    (all_kept G store (put l w store) (written_keeps G xs top stack store o.words l n u w v cell means own is) (components o.component o.frames) R.given)

-- A simple value is stored.
abbrev pub runs_written : (G : Ground) (store : Store) (o : PrivateState) (k : List Task) (R : RunsOn G store o k) (l : Location) (n : ℕ) (b : BaseType) (low high start v : ℤ)
    → in_sight G l.owner ≡ true → lies G (activations o.base o.frames k) l ≡ Some (n, Simple b low high start)
    → RunsOn G (put l (Ordinal v) store) (set_word o n v) k
runs_written G store o k R l n b low high start v own is = runs_stored G store o k R l n (Simple b low high start) (Ordinal v) v tt refl own is (λ s sort e set. absurd (true≢false (sym set)))

-- The store and the words change beyond all activations.
abbrev pub runs_over : (G : Ground) (store after : Store) (o : PrivateState) (new : List ℤ) (k : List Task) (R : RunsOn G store o k)
    → SameLive G (activations o.base o.frames k) store after → SameBelow G (o.base + (site G R.running).words) o.words new → length new ≡ length o.words
    → RunsOn G after (record o { words = new }) k
runs_over G store after o new k R live same count =
    let xs = activations o.base o.frames k in
    let top = o.base + (site G R.running).words in
    let stack = runs_stacked G store o k R in
    runs_with_data G store after o new k R count (each_kept G store after o.words new xs (activation_below G xs top stack store after o.words new live same))
    (data_below G xs top stack store after o.words new live same)
