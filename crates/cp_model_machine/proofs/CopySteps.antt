-- Whole private steps that copy a structured value.
use Rattle.std.proofs.Common.{◌≡◌, ◌⊎◌, ℕ, ◌+◌, ◌-◌, ◌≤◌, ◌<◌, List, ◌∷◌, length, true, false, Some, Result, Ok, Err, refl, ap, sym, subst, ◌∙◌, arith}
use Rattle.cp_model.specs.Abstract as a
use Rattle.cp_model.specs.Assignments.{writes_of}
use Rattle.cp_model.specs.Calls.{call_in_designator, first_call, in_context, user_call}
use Rattle.cp_model.specs.Configurations.{StepResult, own_step, with_writes}
use Rattle.cp_model.specs.Continuations.{Do, Task}
use Rattle.cp_model.specs.Environments.{Environment}
use Rattle.cp_model.specs.Expressions.{place}
use Rattle.cp_model.specs.Leaves.{leaves}
use Rattle.cp_model.specs.Locations.{Location, Path, under}
use Rattle.cp_model.specs.Outcomes.{Fault, Gives, Outcome, and_then}
use Rattle.cp_model.specs.Places.{Place, ordinal_in, read}
use Rattle.cp_model.specs.States.{State, configuration}
use Rattle.cp_model.specs.Stores.{Store, Writes, put_all}
use Rattle.cp_model.specs.Turns.{after_step}
use Rattle.cp_model.specs.Types.{ResolvedType}
use Rattle.cp_model.specs.declared.state.Fault as machine
use Rattle.cp_law_typing.specs.Judgement.{has_queues}
use Rattle.cp_law_typing.specs.SoundTypes.{SoundType}
use Rattle.cp_law_typing.specs.Words.{words}
use Rattle.cp_model_program.specs.Terms.{PlaceExpression}
use Rattle.cp_model_program.specs.Programs as op
use Rattle.cp_model_program.specs.Layout.{part}
use Rattle.cp_model_program.specs.Sites.{operation_at}
use Rattle.cp_model_program.specs.Starts.{block, paste, word}
use Rattle.cp_model_program.specs.StatementsFor.{AssignsBy}
use Rattle.cp_model_machine.specs.PrivateStates.{StepContext, PrivateState, with_result}
use Rattle.cp_model_machine.specs.Steps.{copy_words}
use Rattle.cp_model_machine.specs.Values.{place_of}
use Rattle.cp_model_machine.specs.Means.{PlaceAgrees}
use Rattle.cp_model_machine.specs.Addresses.{Ground, activations, in_sight, lies, scope, lies_in_sight}
use Rattle.cp_model_machine.specs.Remaining.{site}
use Rattle.cp_model_machine.specs.PartOf.{PartOf, RunsOn, components}
use Rattle.cp_model_machine.proofs.Apart.{cell_has_word, cell_head}
use Rattle.cp_model_machine.proofs.Bounds.{part_fits}
use Rattle.cp_model_machine.proofs.Copying.{activation_changed, changed_keeps, copied_length, copied_outside, copied_word, data_changed, leaf_writes, read_below, simple_cell, simple_holds, structure_writes}
use Rattle.cp_model_machine.proofs.Doing.{Ready, known, place_here, quietly, statement_steps, view}
use Rattle.cp_model_machine.proofs.Evaluates.{value_reads}
use Rattle.cp_model_machine.proofs.Finding.{in_context_none, or_else_none}
use Rattle.cp_model_machine.proofs.Heres.{seen_mine}
use Rattle.cp_model_machine.proofs.Keeping.{each_kept}
use Rattle.cp_model_machine.proofs.Layouts.{lies_under}
use Rattle.cp_model_machine.proofs.LeafWords.{word_is_part}
use Rattle.cp_model_machine.proofs.RunningOn.{runs_here, runs_kept, runs_moved, runs_stacked}
use Rattle.cp_model_machine.proofs.Separate.{cell_inside}
use Rattle.cp_model_machine.proofs.StartLeaves.{IsSimple}
use Rattle.cp_model_machine.proofs.Stepping.{Stepped, clock_of, faulted, went}
use Rattle.cp_model_machine.proofs.Given.{all_kept}

-- A plain variable is among the words in reach, if it has words.
pub plain_below : (G : Ground) (store : Store) (o : PrivateState) (k : List Task) (R : RunsOn G store o k) (l : Location) (n : ℕ) (t : ResolvedType) → SoundType t → has_queues t ≡ false → in_sight G l.owner ≡ true
    → lies G (activations o.base o.frames k) l ≡ Some (n, t) → 1 ≤ words (scope G) t → n + words (scope G) t ≤ length o.words
plain_below G store o k R l n t sound free own is some =
    let p = word_is_part (scope G) t (words (scope G) t - 1) sound free (omega (arith, some)) in
    omega (
      arith,
      some,
      R.count,
      cell_inside G (activations o.base o.frames k) _ (runs_stacked G store o k R) (under l p.0) (n + (words (scope G) t - 1)) p.1 0 own (cell_head (scope G) p.1 (simple_cell p.1 p.2))
          (lies_under G (activations o.base o.frames k) l p.0 n (words (scope G) t - 1) t p.1 is p.3),
    )

-- A plain variable is copied to another of its type.
abbrev pub runs_copied : (G : Ground) (store : Store) (o : PrivateState) (k : List Task) (R : RunsOn G store o k) (to from : Location) (n b : ℕ) (t : ResolvedType)
    → SoundType t → has_queues t ≡ false → in_sight G to.owner ≡ true → in_sight G from.owner ≡ true
    → lies G (activations o.base o.frames k) to ≡ Some (n, t) → lies G (activations o.base o.frames k) from ≡ Some (b, t)
    → RunsOn G (put_all (leaf_writes to (read_below store from) (leaves t)) store) (record o { words = paste n (block o.words b (words (scope G) t)) o.words }) k
runs_copied G store o k R to from n b t sound free own_to own_from to_is from_is =
    let xs = activations o.base o.frames k in
    let after = put_all (leaf_writes to (read_below store from) (leaves t)) store in
    let new = paste n (block o.words b (words (scope G) t)) o.words in
    let stack = runs_stacked G store o k R in
    runs_kept G store after o new k R (copied_length o.words o.words n b (words (scope G) t))
    (each_kept G store after o.words new xs (activation_changed G xs _ stack store o.words new to n t (read_below store from) sound free own_to to_is inside outside))
    (data_changed G xs _ stack store o.words new to n t (read_below store from) sound free own_to to_is inside outside R.data_means)
    (all_kept G store after (changed_keeps G xs _ stack store o.words new to n t (read_below store from) sound free own_to to_is inside outside) (components o.component o.frames) R.given)
  where
    outside : (i : ℕ) → (i < n) ⊎ (n + words (scope G) t ≤ i) → word (paste n (block o.words b (words (scope G) t)) o.words) i ≡ word o.words i
    outside i h = copied_outside o.words o.words n b (words (scope G) t) i h

    inside : (path : Path) (j : ℕ) (u : ResolvedType) → IsSimple u → part (scope G) t path ≡ Some (j, u) → word (paste n (block o.words b (words (scope G) t)) o.words) (n + j) ≡ read_below store from path
    inside path j u simple there =
        let fits : j < words (scope G) t = omega (arith, part_fits (scope G) t path j u there, cell_has_word (scope G) u (simple_cell u simple)) in
        copied_word o.words o.words n b (words (scope G) t) j fits (plain_below G store o k R to n t sound free own_to to_is (omega (arith, fits)))
        ∙ ap ordinal_in (sym (simple_holds u (store (under from path)) (word o.words (b + j)) simple
        (R.data_means.cells (under from path) (b + j) u own_from (lies_under G (activations o.base o.frames k) from path b j t u from_is there))))

-- An assignment of an array or a record.
pub copy_steps : (G : Ground) (s : State) (w : StepContext) (before : List ℕ) (o : PrivateState) (d e : a.Designator) (env : Environment) (k : List Task)
    → (Y : Ready G s w before o (a.Assign d (a.Use e)) env k) (to from : PlaceExpression) (size n : ℕ)
    → operation_at G.program o.counter ≡ Some (op.CopyWords to from size n)
    → AssignsBy (site G Y.now.on.running) (known G s w before o (Do (a.Assign d (a.Use e)) env) k Y.now) d (a.Use e) (op.CopyWords to from size n) o.counter Y.now.on.left.2.3.0 Y.now.on.left.2.0 Y.now.on.left.2.1
    → Stepped G s w before o
copy_steps G s w before o d e env k Y to from size n there h =
    let N = Y.now in
    let here = N.on.running.env in
    let none = or_else_none (in_context (λ y. a.Assign y (a.Use e)) (call_in_designator here (a.Literal 0) d)) (in_context (a.Assign d) (first_call here (a.Literal 0) (a.Use e))) Y.none in
    let used = in_context_none (a.Assign d) (first_call here (a.Literal 0) (a.Use e)) none.1 in
    let found = or_else_none (in_context a.Use (call_in_designator here (a.Literal 0) e)) (user_call here e a.NoExpression (a.Literal 0)) used in
    let first = Do (a.Assign d (a.Use e)) env in
    statement_steps G s w before o (a.Assign d (a.Use e)) env k Y (op.CopyWords to from size n) refl refl there refl
    (subst (λ O. PartOf G (after_step s G.p (and_then (place (clock_of G s) here s.store d) (λ at. and_then O (λ v. and_then (writes_of at.at at.type v) goes)))) before
    (with_result o (place_of (view G s w before o first k N) to) (λ at. with_result o (place_of (view G s w before o first k N) from) (λ b. copy_words o at b size n))).0)
    (sym (value_reads (site G N.on.running) (clock_of G s) s.store (view G s w before o first k N) _ _ (runs_here G s.store w o (first ∷ k) (clock_of G s) N.around.clock N.on N.sees) e from h.0 h.1 N.on.left.2.3.0 h.2 N.on.running.unit.temps h.9 h.11))
    (by _ _ _ _
    (place_here G s w before o first k N N.sees d to h.0 o.counter h.1 N.on.left.2.1 h.2 h.10 (in_context_none (λ y. a.Assign y (a.Use e)) (call_in_designator here (a.Literal 0) d) none.0))
    (place_here G s w before o first k N N.sees e from h.0 h.1 N.on.left.2.3.0 h.2 N.on.running.unit.temps h.11 (in_context_none a.Use (call_in_designator here (a.Literal 0) e) found.0))))
    (quietly G s w before o (a.Assign d (a.Use e)) env k Y (op.CopyWords to from size n) tt tt)
  where
    i : Task
    i = Do (a.Assign d (a.Use e)) env

    goes : Writes → StepResult
    goes ws = own_step (with_writes (configuration s G.p) ws k)

    -- The words are copied, and what follows is left to do.
    stored : (p q : Place) (to' from' : ℕ) → PlaceAgrees (lies_in_sight (in_sight G) G (activations o.base o.frames (i ∷ k))) h.0 (Gives p) (Ok to')
        → PlaceAgrees (lies_in_sight (in_sight G) G (activations o.base o.frames (i ∷ k))) h.0 (Gives q) (Ok from')
        → PartOf G (after_step s G.p (goes (leaf_writes p.at (read_below s.store q.at) (leaves h.0)))) before (copy_words o to' from' size n).0
    stored p q to' from' f g =
        let x = seen_mine (in_sight G) G (activations o.base o.frames (i ∷ k)) p.at (to', h.0) f.0 in
        let y = seen_mine (in_sight G) G (activations o.base o.frames (i ∷ k)) q.at (from', h.0) g.0 in
        let sized : size ≡ words (scope G) h.0 = h.7 ∙ ap (λ z. words z h.0) Y.now.on.runs.globals in
        subst (λ z. PartOf G (after_step s G.p (goes (leaf_writes p.at (read_below s.store q.at) (leaves h.0)))) before (copy_words o to' from' z n).0) (sym sized)
        (went G s before o Y.now.part (put_all (leaf_writes p.at (read_below s.store q.at) (leaves h.0)) s.store) (copy_words o to' from' (words (scope G) h.0) n).0 k
        (subst (λ z. RunsOn G (put_all (leaf_writes p.at (read_below s.store q.at) (leaves h.0)) s.store) (copy_words o to' from' (words (scope G) h.0) z).0 k) (sym h.3)
        (runs_moved G (put_all (leaf_writes p.at (read_below s.store q.at) (leaves h.0)) s.store) (record o { words = paste to' (block o.words from' (words (scope G) h.0)) o.words }) (i ∷ k) k Y.now.on.left.2.0 Y.now.on.left.2.1
        (runs_copied G s.store o (i ∷ k) Y.now.on p.at q.at to' from' h.0 h.6.0 h.6.1 x.0 y.0 x.1 y.1) refl refl refl Y.now.on.left.2.4 Y.now.on.left.2.2))
        record { number = refl; input = refl; consumed = refl; output = refl; activity = refl })

    by : (P : Outcome Place) (r : Result ℕ machine.Fault) (Q : Outcome Place) (c : Result ℕ machine.Fault)
        → PlaceAgrees (lies_in_sight (in_sight G) G (activations o.base o.frames (i ∷ k))) h.0 P r → PlaceAgrees (lies_in_sight (in_sight G) G (activations o.base o.frames (i ∷ k))) h.0 Q c
        → PartOf G (after_step s G.p (and_then P (λ at. and_then (and_then Q (λ p. Gives (read s.store p))) (λ v. and_then (writes_of at.at at.type v) goes)))) before
        (with_result o r (λ at. with_result o c (λ b. copy_words o at b size n))).0
    by (Fault j) (Err f) Q c g r2 = faulted G s w before o i k Y.now j f g
    by (Fault j) (Ok at) Q c g r2 = absurd g
    by (Gives p) (Err f) Q c g r2 = absurd g
    by (Gives p) (Ok at) (Fault j) (Err f) g r2 = faulted G s w before o i k Y.now j f r2
    by (Gives p) (Ok at) (Gives q) (Err f) g r2 = absurd r2
    by (Gives p) (Ok at) (Fault j) (Ok v) g r2 = absurd r2
    by (Gives p) (Ok at) (Gives q) (Ok v) g r2 =
        subst (λ t. PartOf G (after_step s G.p (and_then (writes_of p.at t (read s.store q)) goes)) before (copy_words o at v size n).0) (sym g.1)
        (subst (λ t. PartOf G (after_step s G.p (and_then (writes_of p.at h.0 (read s.store (record q { type = t }))) goes)) before (copy_words o at v size n).0) (sym r2.1)
        (subst (λ O. PartOf G (after_step s G.p (and_then O goes)) before (copy_words o at v size n).0) (sym (structure_writes p.at q.at h.0 h.0 s.store h.6.2)) (stored p q at v g r2)))
