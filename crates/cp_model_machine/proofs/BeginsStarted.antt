-- A process that is started by another one will run as the meaning says once it has its parameters.
--
-- Its own words had the start values, and the words that wait for it are those bound to its
-- parameters.
use Rattle.std.proofs.Common.{◌≡◌, ℕ, suc, ◌+◌, ◌-◌, ◌≤◌, ◌<◌, ℤ, List, [], length, false, refl, ap, sym, subst, ◌∙◌, arith}
use Rattle.std.specs.Prelude.{drop}
use Rattle.std.proofs.lemmas.Bool.{true≢false}
use Rattle.cp_model.specs.Abstract.{System}
use Rattle.cp_model.specs.Configurations as stage
use Rattle.cp_model.specs.Configurations.{Status}
use Rattle.cp_model.specs.Declarations.{declarations}
use Rattle.cp_model.specs.Environments.{permanent_variables}
use Rattle.cp_model.specs.Gates.{start_process}
use Rattle.cp_model.specs.Outcomes.{Gives}
use Rattle.cp_model.specs.States.{State, configuration, is_started, with_configuration}
use Rattle.cp_model.specs.Stores.{Writes, put_all}
use Rattle.cp_model.specs.Turns.{after_step}
use Rattle.cp_model.proofs.StateMaps.{with_at_here}
use Rattle.cp_model.proofs.Options.{same_some}
use Rattle.cp_law_typing.specs.Declared.{Distinct}
use Rattle.cp_model_program.specs.Layout.{component_words}
use Rattle.cp_model_program.specs.Programs as code
use Rattle.cp_model_program.specs.IsProgramFor.{ProcessRepresents}
use Rattle.cp_model_program.specs.Starts.{block, paste, word}
use Rattle.cp_model_machine.specs.Addresses.{Ground, in_sight, scope}
use Rattle.cp_model_machine.specs.Beginning.{Begins}
use Rattle.cp_model_machine.specs.KernelSteps.{Kernel}
use Rattle.cp_model_machine.specs.Machines.{begin_from}
use Rattle.cp_model_machine.specs.PartOf.{DataMeans, RunsOn}
use Rattle.cp_model_machine.specs.PrivateStates as machine
use Rattle.cp_model_machine.specs.PrivateStates.{StepContext, PrivateState}
use Rattle.cp_model_machine.proofs.BeginsKept.{begun_is, dropped}
use Rattle.cp_model_machine.proofs.BodyBegins.{process_body, runs_from_start}
use Rattle.cp_model_machine.proofs.Copying.{copied_length, copied_word}
use Rattle.cp_model_machine.proofs.InitProcesses.{Bound, InitOfProcess, body, is, moved, names, offsets, one, row_represents, same_system, system, to, top, waits, whole_is}
use Rattle.cp_model_machine.proofs.OtherGround.{other_ground}
use Rattle.cp_model_machine.proofs.ParametersGiven.{data_given}
use Rattle.cp_model_machine.proofs.ProcessRights.{process_without}
use Rattle.cp_model_machine.proofs.ProcessSteps.{size_is, start_is}
use Rattle.cp_model_machine.proofs.Waiting.{process_names}

not_fresh : (x : Status) → is_started x ≡ false → x ≡ stage.Unstarted
not_fresh stage.Unstarted e = refl
not_fresh _ e = absurd (true≢false e)

module _ {G : Ground} {s : State} {w : StepContext} {before : List ℕ} {o : PrivateState} (Z : InitOfProcess G s w before o) (free : is_started (s.status Z.number) ≡ false) (ws : Writes) (us : List ℤ) (B : Bound Z ws us)
    (own : ℕ) (oq : PrivateState) (number : oq.number ≡ Z.number) (count : length oq.words ≡ own) (k l : Kernel) (shared : l.shared ≡ drop G.own (moved Z us)) (before_it : Begins (other_ground G Z.number own) s k oq) where
  abbrev H : Ground
  H = other_ground G Z.number own

  abbrev P : ProcessRepresents G.program Z.represents.texts G.setup Z.number
  P = row_represents Z

  abbrev size : ℕ
  size = length (declarations (scope G) (system Z).parameters)

  unstarted : s.status Z.number ≡ stage.Unstarted
  unstarted = not_fresh (s.status Z.number) free

  same_row : before_it.at_start.row ≡ P.row
  same_row = same_some before_it.at_start.row P.row (sym before_it.at_start.there ∙ P.there)

  fits : component_words (scope G) (system Z) ≤ own
  fits = omega (
    arith,
    before_it.at_start.words_fit,
    ap (λ (r : code.Process). r.words) same_row,
    P.words,
    ap (λ (y : System). component_words (scope G) y) (same_system Z),
  )

  distinct : Distinct (permanent_variables (scope G) (system Z))
  distinct = subst (λ (y : System). Distinct (permanent_variables (scope G) y)) (same_system Z) (process_names G Z.represents Z.number P)

  -- The words that wait are those that were passed.
  waits_there : (j : ℕ) → j < size → word l.shared (suc P.row.parameters + j) ≡ word us (top Z + 1 + j)
  waits_there j below =
      ap (λ zs. word zs (suc P.row.parameters + j)) shared
      ∙ (dropped G.own (suc P.row.parameters + j) (moved Z us)
      ∙ (ap (word (moved Z us)) there ∙ copied_word us us (to Z + 1) (top Z + 1) size j below (omega (arith, waits Z, whole_is Z, B.length_is))))
    where
      there : G.own + (suc P.row.parameters + j) ≡ to Z + 1 + j
      there = omega (arith, start_is Z)

  abbrev new_words : List ℤ
  new_words = paste 1 (block l.shared (suc P.row.parameters) size) oq.words

  data_there : DataMeans H [] (in_sight H) (put_all ws s.store) new_words
  data_there =
      data_given G Z.number own (system Z) (is Z) fits distinct (names Z) (one Z) (offsets Z) (process_without G.setup Z.represents.typed Z.number (system Z) (is Z)) (to Z) (top Z) s.store ws o.words us B
      l.shared (suc P.row.parameters) waits_there oq.words count (before_it.unstarted unstarted)

  runs_there : RunsOn H (put_all ws s.store) (begin_from G.program l oq) (body Z)
  runs_there =
      subst (λ x. RunsOn H (put_all ws s.store) x (body Z)) (sym (begun_is G Z.number own oq number Z.represents.texts P l))
      (subst (λ n. RunsOn H (put_all ws s.store) (record oq { activity = machine.Running; words = paste 1 (block l.shared (suc P.row.parameters) n) oq.words }) (body Z)) same_size
      (subst (λ (y : System). RunsOn H (put_all ws s.store) (record oq { activity = machine.Running; words = new_words }) (process_body H y)) (same_system Z)
      (runs_from_start H Z.represents Z.texts P (ap (λ (y : System). y.sort) (same_system Z) ∙ Z.by.0) oq before_it.at_start (put_all ws s.store) new_words
      (copied_length oq.words l.shared 1 (suc P.row.parameters) size ∙ count) data_there)))
    where
      same_size : size ≡ P.row.waiting - 1
      same_size = omega (arith, size_is Z)

  abbrev started : Status → State → State
  started x v = start_process Z.number (body Z) x v

  abbrev passed_on : State
  passed_on = with_configuration s G.p (record (configuration s G.p) { store = put_all ws s.store; continuation = Z.rest })

  pub started_begins : Begins H (after_step s G.p (Gives (record (configuration s G.p) { store = put_all ws s.store; continuation = Z.rest }, stage.Starts Z.number (body Z)))) l oq
  started_begins = subst (λ x. Begins H (started x passed_on) l oq) (sym unstarted) (record {
    activity_is = before_it.activity_is;
    at_start = before_it.at_start;
    unstarted = λ e. absurd (true≢false (ap is_started (sym (with_at_here Z.number stage.Fresh s.status) ∙ e)));
    fresh = λ e. subst (RunsOn H (put_all ws s.store) (begin_from G.program l oq)) (sym (with_at_here Z.number (body Z) passed_on.continuation)) runs_there;
  })
