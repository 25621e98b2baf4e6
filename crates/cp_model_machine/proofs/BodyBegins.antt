-- A process at the start of its body runs on from there, once its words mean what the store holds
-- for it.
use Rattle.cp_model_machine.proofs.OwnersFit.{component_room}
use Rattle.cp_model_program.specs.Layout.{component_words, most_words}
use Rattle.std.proofs.Common.{◌≡◌, ◌+◌, ◌≤◌, ℤ, List, [], ◌∷◌, length, Some, refl, ap, sym, subst, ◌∙◌, arith}
use Rattle.std.specs.Prelude.{slice_get}
use Rattle.cp_model.specs.Abstract.{Process, System}
use Rattle.cp_model.specs.Continuations.{EndProcess, Task, push}
use Rattle.cp_model.specs.Environments.{Environment}
use Rattle.cp_model.specs.Locations.{Location, OfProcess, root}
use Rattle.cp_model.specs.Stores.{Store}
use Rattle.cp_model.proofs.Options.{same_some}
use Rattle.cp_model_program.specs.Programs as code
use Rattle.cp_model_program.specs.Programs.{CodeUnit}
use Rattle.cp_model_program.specs.Sites.{BodyOf}
use Rattle.cp_model_program.specs.IsProgramFor.{ProcessRepresents, IsProgramFor, UnitRepresents, body_environment, end_of}
use Rattle.cp_model_machine.specs.Addresses.{Ground, ProcessLies, in_sight, scope, whole}
use Rattle.cp_model_machine.specs.Beginning.{AtStart}
use Rattle.cp_model_machine.specs.Remaining.{Running, innermost_gate}
use Rattle.cp_model_machine.specs.PartOf.{DataMeans, RunsOn}
use Rattle.cp_model_machine.specs.PrivateStates as machine
use Rattle.cp_model_machine.specs.PrivateStates.{PrivateState}
use Rattle.cp_model_machine.proofs.OtherGround.{first_has_rights}
use Rattle.cp_model_machine.proofs.Pushing.{marks_push, push_left}
use Rattle.cp_model_machine.proofs.RunningOn.{left_afresh, words_pushed}

-- The body of the process, and then its end.
abbrev pub process_body : Ground → System → List Task
process_body G s = push s.body (body_environment (scope G) s (root (OfProcess G.p))) (EndProcess ∷ [])

module _ (G : Ground) (F : IsProgramFor G.program G.setup) (texts : F.texts ≡ G.texts) (P : ProcessRepresents G.program F.texts G.setup G.p) (sort : P.system.sort ≡ Process) (o : PrivateState) (A : AtStart G o)
    (store : Store) (words : List ℤ) (count : length words ≡ whole G) (means : DataMeans G [] (in_sight G) store words) where
  abbrev at : Location
  at = root (OfProcess G.p)

  abbrev env : Environment
  env = body_environment (scope G) P.system at

  abbrev body : List Task
  body = process_body G P.system

  same_row : A.row ≡ P.row
  same_row = same_some A.row P.row (sym A.there ∙ P.there)

  same_unit : A.unit ≡ P.unit
  same_unit = same_some A.unit P.unit (sym A.unit_there ∙ (ap (λ (r : code.Process). slice_get G.program.units r.body) same_row ∙ P.unit_there))

  represents : UnitRepresents G.program G.texts (scope G) P.unit (BodyOf P.system)
  represents = subst (λ ts. UnitRepresents G.program ts (scope G) P.unit (BodyOf P.system)) texts (F.units P.row.body P.unit (BodyOf P.system) P.unit_there P.body)

  abbrev running : Running
  running = record { number = P.row.body; unit = P.unit; text = BodyOf P.system; env = env; base = P.row.words; temp = 0; component = 0 }

  -- The same, with the private state at the start written out.
  abbrev begun : PrivateState
  begun = record o { activity = machine.Running; words = words; counter = P.unit.start; base = P.row.words; temp = 0; component = 0; gate = 0; frames = [] }

  room : component_words (scope G) P.system ≤ most_words
  room = component_room G F.typed.words at P.system 0 (ProcessLies refl P.is_system refl)

  unit_fits : (P.row.words + P.unit.words ≤ G.own) × (P.unit.temps ≤ length o.temps) × (P.unit.frames ≤ o.limit)
  unit_fits = (
    omega (arith, A.words_fit, ap (λ (r : code.Process). r.words) same_row, ap (λ (u : CodeUnit). u.words) same_unit),
    omega (arith, A.temps_fit, ap (λ (u : CodeUnit). u.temps) same_unit),
    omega (arith, A.frames_fit, ap (λ (u : CodeUnit). u.frames) same_unit),
  )

  runs_begun : RunsOn G store begun body
  runs_begun = record {
    at = record {
      running = running;
      runs = record {
        unit = P.unit_there;
        text = ap (λ ts. slice_get ts P.row.body) (sym texts) ∙ P.body;
        globals = refl;
        system = refl;
        frame = tt;
        component = ProcessLies refl P.is_system refl;
        words_fit = unit_fits.0;
        temps_fit = omega (arith, unit_fits.1);
        frames_fit = omega (arith, unit_fits.2);
        activation_fits = omega arith;
      };
      base = refl;
      temp = refl;
      component = refl;
      gate = ap innermost_gate (sym (marks_push P.system.body env (EndProcess ∷ [])));
      live = 0;
      left = left_afresh G o.temps o.limit 0 running [] P.unit.start 0 body (omega arith)
          (push_left G o.temps o.limit running [] P.system.body P.unit.start (represents.2 room at).0 0 (EndProcess ∷ []) (represents.2 room at).2 (
            refl,
            refl,
            refl,
            (represents.2 room at).1 ∙ ap (λ z. Some (end_of z)) sort,
            (P.system, P.is_system, omega (arith, P.words)),
          ));
      next_value = λ c n m e. omega arith;
    };
    words_mean = words_pushed G store words P.row.words 0 [] P.system.body env (EndProcess ∷ []) record { count = count; activations_mean = tt; data_means = means; given = first_has_rights G store };
  }

  pub runs_from_start : RunsOn G store (record o { activity = machine.Running; words = words }) (process_body G P.system)
  runs_from_start = subst (λ (x : PrivateState). RunsOn G store x body) same runs_begun
    where
      counter_is : P.unit.start ≡ o.counter
      counter_is = ap (λ (u : CodeUnit). u.start) (sym same_unit) ∙ sym A.counter

      base_is : P.row.words ≡ o.base
      base_is = ap (λ (r : code.Process). r.words) (sym same_row) ∙ sym A.base

      same : begun ≡ record o { activity = machine.Running; words = words }
      same = λ i. record o {
        activity = machine.Running;
        words = words;
        counter = counter_is i;
        base = base_is i;
        temp = sym A.temp i;
        component = sym A.component i;
        gate = sym A.gate i;
        frames = sym A.frames i;
      }
