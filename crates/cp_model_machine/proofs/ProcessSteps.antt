-- A process that starts another one runs on, or stops at the same fault as the meaning.
use Rattle.std.proofs.Common.{List, ap, arith, false, inl, inr, length, refl, subst, sym, ℕ, ℤ, ◌+◌, ◌<◌, ◌∙◌, ◌∷◌, ◌≡◌, ◌≤◌, ◌⊎◌}
use Rattle.std.specs.Prelude.{if◌then◌else◌, nat_eq}
use Rattle.std.proofs.lemmas.Bool.{ne_eqb, true≢false}
use Rattle.cp_model.specs.Abstract as a
use Rattle.cp_model.specs.Configurations as stage
use Rattle.cp_model.specs.Configurations.{Status, StepResult}
use Rattle.cp_model.specs.Continuations.{Do, Task}
use Rattle.cp_model.specs.Declarations.{declarations}
use Rattle.cp_model.specs.Gates.{start_process}
use Rattle.cp_model.specs.Locations.{Location}
use Rattle.cp_model.specs.Outcomes.{Fault, Gives}
use Rattle.cp_model.specs.Parts.{HasBegun, private_status}
use Rattle.cp_model.specs.States.{State, configuration, context, is_started}
use Rattle.cp_model.specs.StatementSteps.{execute}
use Rattle.cp_model.specs.Stores.{Writes, put_all}
use Rattle.cp_model.specs.Turns.{after_step}
use Rattle.cp_model.proofs.StateMaps.{with_at_there}
use Rattle.cp_model_program.specs.Programs as op
use Rattle.cp_model_program.specs.Starts.{word}
use Rattle.cp_model_machine.specs.PrivateStates.{Acting, StepContext, PrivateState, go_to}
use Rattle.cp_model_machine.specs.Steps.{act}
use Rattle.cp_model_machine.specs.Addresses.{Ground, activations, in_sight, scope}
use Rattle.cp_model_machine.specs.PartOf.{DataMeans, PartOf, RunsOn}
use Rattle.cp_model_machine.proofs.Beside.{Beside, runs_beside}
use Rattle.cp_model_machine.proofs.Copying.{copied_length, copied_outside}
use Rattle.cp_model_machine.proofs.InitOffsets.{offset_within}
use Rattle.cp_model_machine.proofs.InitProcesses.{BothFault, BothInit, BothStart, Bound, InitOfProcess, Kept, body, both_init, here, is, moved, names, one, passed, room, row_represents, same_system, system, to, top}
use Rattle.cp_model_machine.proofs.RunningOn.{runs_moved, runs_over}
use Rattle.cp_model_machine.proofs.Stepping.{beyond, stopped, went}
use Rattle.cp_model_machine.proofs.Waiting.{parameters_are, waits_apart}
use Rattle.cp_model_machine.proofs.Effects.{EffectAgrees, Means}
use Rattle.cp_model_machine.proofs.MonitorsThere.{process_below}

-- A private state doesn't depend on whether another process is started.
pub started_part : (G : Ground) (before : List ℕ) (after : PrivateState) (r : ℕ) (j : List Task) (x : Status) (u : State) → (r ≡ G.p → ⊥) → PartOf G u before after → PartOf G (start_process r j x u) before after
started_part G before after r j stage.Unstarted u other P = record {
  number = P.number;
  input = P.input;
  consumed = P.consumed;
  transcript = P.transcript;
  status = ap private_status same ∙ P.status;
  count = P.count;
  data_means = λ begun.
      subst (λ k. DataMeans G (activations after.base after.frames k) (in_sight G) u.store after.words) (sym left) (P.data_means (subst HasBegun (ap private_status same) begun));
  runs_on = λ goes. subst (RunsOn G u.store after) (sym left) (P.runs_on goes);
}
  where
    same : (if nat_eq r G.p then stage.Fresh else u.status G.p) ≡ u.status G.p
    same = with_at_there r G.p stage.Fresh u.status (ne_eqb r G.p other)

    left : (if nat_eq r G.p then j else u.continuation G.p) ≡ u.continuation G.p
    left = with_at_there r G.p j u.continuation (ne_eqb r G.p other)
started_part G before after r j _ u other P = P

module _ {G : Ground} {s : State} {w : StepContext} {before : List ℕ} {o : PrivateState} (Z : InitOfProcess G s w before o) where
  abbrev first : Task
  first = Do (a.Init Z.name Z.given) Z.env

  -- ---- what both make of the rest

  abbrev pub params : ℕ
  params = (row_represents Z).row.parameters

  abbrev pub waiting : ℕ
  waiting = (row_represents Z).row.waiting

  abbrev pub from : ℕ
  from = top Z

  abbrev pub size : ℕ
  size = length (passed Z)

  abbrev pub words_moved : List ℤ → List ℤ
  words_moved us = moved Z us

  abbrev pub WellBound : Writes → List ℤ → Type 0
  WellBound ws us = Bound Z ws us

  pub start_is : to Z ≡ G.own + params
  start_is = omega (arith, Z.ready.now.around.own, parameters_are G Z.represents Z.number (row_represents Z))

  pub size_is : waiting ≡ 1 + size
  size_is = omega (
    arith,
    (row_represents Z).waiting,
    ap (λ (y : a.System). length (declarations (scope G) y.parameters)) (same_system Z),
  )

  room_is : from + (1 + size) ≤ G.own
  room_is = room Z

  -- Passing the arguments changes only the process's own words from `from` on.
  pub passes_same : (ws : Writes) (us : List ℤ) → WellBound ws us → (i : ℕ) → (i < from) ⊎ (G.own ≤ i) → word us i ≡ word o.words i
  passes_same ws us B i below =
      B.outside i (λ p j there off e.
      by j below e
      (offset_within (scope G) (system Z) (names Z) (one Z) p j there off))
    where
      by : (j : ℕ) → (i < from) ⊎ (G.own ≤ i) → i ≡ from + j → (1 ≤ j) × (j ≤ size) → ⊥
      by j (inl q) e inside = omega (arith, q, e)
      by j (inr q) e inside = omega (arith, q, e, inside.1, room_is)

  -- Moving the arguments changes only the words where they wait.
  pub moved_same : (us : List ℤ) (i : ℕ) → (i < G.own + params) ⊎ (G.own + params + waiting ≤ i) → word (words_moved us) i ≡ word us i
  moved_same us i apart = copied_outside us us _ (from + 1) size i (by apart)
    where
      by : (i < G.own + params) ⊎ (G.own + params + waiting ≤ i)
          → (i < to Z + 1) ⊎ (to Z + 1 + size ≤ i)
      by (inl q) = inl (omega (arith, q, start_is))
      by (inr q) = inr (omega (arith, q, start_is, size_is))

  -- ---- where it stops

  kept_below : (us : List ℤ) → Kept Z us → RunsOn G s.store (record o { words = us }) (first ∷ Z.rest)
  kept_below us kept =
      runs_over G s.store s.store o us (first ∷ Z.rest) Z.ready.now.on (λ l q. refl)
      (λ z q. kept.1 z (beyond G s w Z.ready.now.around from z q)) kept.0

  -- ---- where it runs on

  pub unstarted_is_other : is_started (s.status Z.number) ≡ false → Z.number ≡ G.p → ⊥
  unstarted_is_other free e = true≢false (sym (ap is_started (ap s.status e ∙ Z.ready.now.ready)) ∙ free)

  beside : (ws : Writes) (us : List ℤ) → is_started (s.status Z.number) ≡ false → WellBound ws us → Beside G from Z.number params waiting s.store (put_all ws s.store) o.words (words_moved us)
  beside ws us free B = record {
    other = λ e. unstarted_is_other free (sym e);
    clear = waits_apart G Z.represents Z.number (row_represents Z);
    kept = λ l none. B.unwritten l s.store (λ p i e. none (ap (λ (l : Location). l.owner) e));
    same = λ i below apart. moved_same us i apart ∙ passes_same ws us B i below;
  }

  runs_on : (ws : Writes) (us : List ℤ) → is_started (s.status Z.number) ≡ false → WellBound ws us → RunsOn G (put_all ws s.store) (go_to Z.next (record o { words = words_moved us })) Z.rest
  runs_on ws us free B =
      subst (λ z. RunsOn G (put_all ws s.store) (go_to z (record o { words = words_moved us })) Z.rest) (sym Z.by.1)
      (runs_moved G (put_all ws s.store) (record o { words = words_moved us }) (first ∷ Z.rest) Z.rest Z.ready.now.on.left.2.0 Z.ready.now.on.left.2.1
      (runs_beside G s.store (put_all ws s.store) o (words_moved us) (first ∷ Z.rest) Z.ready.now.on Z.number params waiting (beside ws us free B)
      (copied_length us us (to Z + 1) (from + 1) size ∙ B.length_is))
      refl refl refl Z.ready.now.on.left.2.4 Z.ready.now.on.left.2.2)

  pub process_inits : PartOf G (after_step s G.p (execute (context G.setup s G.p) (configuration s G.p) (here Z) Z.rest (a.Init Z.name Z.given))) before (act G.program w o (op.InitProcess Z.number Z.passes Z.words Z.next)).0
  process_inits = by _ _ (both_init Z)
    where
      by : (R : StepResult) (M : Acting) → BothInit Z R M → PartOf G (after_step s G.p R) before M.0
      by R M (BothFault n f us result acting same kept) =
          subst (λ z. PartOf G (after_step s G.p z) before M.0) (sym result)
          (subst (λ (z : Acting). PartOf G (after_step s G.p (Fault n)) before z.0) (sym acting)
          (stopped G s before o Z.ready.now.part us n f same (kept_below us kept).count
          (subst (λ y. DataMeans G (activations o.base o.frames y) (in_sight G) s.store us) (sym Z.ready.now.left) (kept_below us kept).data_means)))
      by R M (BothStart ws us free result acting B) =
          subst (λ z. PartOf G (after_step s G.p z) before M.0) (sym result)
          (subst (λ (z : Acting). PartOf G (after_step s G.p (Gives (record (configuration s G.p) { store = put_all ws s.store; continuation = Z.rest }, stage.Starts Z.number left))) before z.0) (sym acting)
          (started_part G before (go_to Z.next (record o { words = words_moved us })) Z.number left (s.status Z.number) _ (unstarted_is_other free)
          (went G s before o Z.ready.now.part (put_all ws s.store) (go_to Z.next (record o { words = words_moved us })) Z.rest (runs_on ws us free B)
          record { number = refl; input = refl; consumed = refl; output = refl; activity = refl })))
        where
          left : List Task
          left = body Z

  pub process_effect : EffectAgrees G w.own (execute (context G.setup s G.p) (configuration s G.p) (here Z) Z.rest (a.Init Z.name Z.given)) (act G.program w o (op.InitProcess Z.number Z.passes Z.words Z.next)).1
  process_effect = by _ _ (both_init Z)
    where
      by : (R : StepResult) (M : Acting) → BothInit Z R M → EffectAgrees G w.own R M.1
      by R M (BothFault n f us result acting same kept) =
          subst (λ z. EffectAgrees G w.own z M.1) (sym result) (ap (λ (z : Acting). z.1) acting)
      by R M (BothStart ws us free result acting B) =
          subst (λ z. EffectAgrees G w.own z M.1) (sym result)
          (subst (λ (z : Acting). Means G w.own (stage.Starts Z.number (body Z)) z.1) (sym acting) (refl, process_below G.setup Z.number (system Z) (is Z)))
