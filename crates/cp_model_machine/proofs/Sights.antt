-- What is left to do, what runs and what words mean are the same whatever words are in reach.
use Rattle.std.proofs.Common.{◌≡◌, ℕ, ◌+◌, ℤ, Bool, List, [], ◌∷◌, length, Option, Some, None, refl, sym, ◌∙◌}
use Rattle.cp_model.specs.Abstract.{Class, Monitor, Name, Process, Sort, System}
use Rattle.cp_model.specs.Continuations.{Do, EndBody, EndCall, EndProcess, ForNext, RepeatTest, Task, WhileTest}
use Rattle.cp_model.specs.Environments.{Frame}
use Rattle.cp_model.specs.Locations.{ByIndex, ByName, Location, OfActivation, OfMonitor, OfProcess, Owner, Path}
use Rattle.cp_model.specs.Stores.{Absent, ClassRight, MonitorRight, Store, Value}
use Rattle.cp_model.specs.Types.{ArrayOf, ComponentOf, NoType, Queue, RecordOf, ResolvedType, Simple}
use Rattle.cp_model_program.specs.TermsFor.{Knowns, nothing_known}
use Rattle.cp_model_machine.specs.PrivateStates as machine
use Rattle.cp_model_machine.specs.Addresses.{Activation, AllHaveRights, ClassLies, ComponentLies, Ground, MonitorLies, ProcessLies, RightMeans, RightOf, Sight, WhereMonitorsLie, activations, lies, part_at}
use Rattle.cp_model_machine.specs.Remaining.{CallerAt, Keeps, Remaining, Running, Runs, held_below, kept_below}
use Rattle.cp_model_machine.specs.PartOf.{ActivationMeans, ActivationsMean, Control, DataMeans, IfFrame, RunsAt}

module _ (G : Ground) (v : Sight) (lie : WhereMonitorsLie v G.program G.setup) where
  -- The same with other words in reach.
  abbrev pub with_sight : Ground
  with_sight = record { program = G.program; texts = G.texts; setup = G.setup; p = G.p; own = G.own; sight = v; monitors_lie = lie }

  pub same_lies : (xs : List Activation) (l : Location) → lies with_sight xs l ≡ lies G xs l
  same_lies xs l = by l.owner l.path
    where
      by : (o : Owner) (q : Path) → part_at with_sight xs o q ≡ part_at G xs o q
      by o [] = refl
      by o (ByIndex i ∷ q) = refl
      by (OfProcess r) (ByName x ∷ q) = refl
      by (OfMonitor m) (ByName x ∷ q) = refl
      by (OfActivation r d) (ByName x ∷ q) = refl

  pub component_there : (at : Location) (s : System) (n : ℕ) → ComponentLies G at s n → ComponentLies with_sight at s n
  component_there at s n (ProcessLies where' is zero') = ProcessLies where' is zero'
  component_there at s n (MonitorLies m where' is from) = MonitorLies m where' is from
  component_there at s n (ClassLies sort is) = ClassLies sort (same_lies [] at ∙ is)

  pub right_means : (t : ResolvedType) (w : Value) (at : ℕ) (n : ℤ) → RightMeans G t w at n → RightMeans with_sight t w at n
  right_means (ComponentOf s inner) w at n h = by s.sort w h
    where
      by : (z : Sort) (w : Value) → RightOf G s z w at n → RightOf with_sight s z w at n
      by Monitor (MonitorRight m) h = h
      by Monitor Absent h = h
      by Class (ClassRight j) h = same_lies [] j ∙ h
      by Class Absent h = h
      by Process w h = tt
      by _ _ h = absurd h
  right_means (Simple b low high start) w at n h = tt
  right_means (ArrayOf low high t) w at n h = tt
  right_means (RecordOf ms) w at n h = tt
  right_means Queue w at n h = tt
  right_means NoType w at n h = tt

  pub rights_there : (store : Store) (ns : List ℕ) → AllHaveRights G store ns → AllHaveRights with_sight store ns
  rights_there store [] h = tt
  rights_there store (n ∷ ns) h = (λ at s sort is. h.0 at s sort (sym (same_lies [] at) ∙ is), rights_there store ns h.1)

  -- ---- what is left to do

  pub runs_there : (temps limit : ℕ) (R : Running) (fs : List machine.Frame) → Runs G temps limit R fs → Runs with_sight temps limit R fs
  runs_there temps limit R fs h = record {
    unit = h.unit;
    text = h.text;
    globals = h.globals;
    system = h.system;
    frame = h.frame;
    component = component_there R.env.component R.env.system R.component h.component;
    words_fit = h.words_fit;
    temps_fit = h.temps_fit;
    frames_fit = h.frames_fit;
    activation_fits = h.activation_fits;
  }

  keeps_there : (f : machine.Frame) (C R : Running) (kept : ℕ) → Keeps G f C R kept → Keeps with_sight f C R kept
  keeps_there f C R kept h = record { base = h.base; temp = h.temp; component = h.component; words_apart = h.words_apart; temps_apart = h.temps_apart; kept_fit = h.kept_fit }

  caller_there : (n kept live : ℕ) (x : Option Name) (f : machine.Frame) (place : ℕ) → CallerAt G n kept live x f place → CallerAt with_sight n kept live x f place
  caller_there n kept live None f place h = h
  caller_there n kept live (Some t) f place h = h

  pub left_there : (temps : List ℤ) (limit : ℕ) (K : Knowns) (R : Running) (fs : List machine.Frame) (place low : ℕ) (k : List Task)
      → Remaining G temps limit K R fs place low k → Remaining with_sight temps limit K R fs place low k
  left_there temps limit K R fs place low [] h = absurd h
  left_there temps limit K R fs place low (Do s e ∷ k) h =
      (h.0, h.1, (h.2.0, h.2.1, h.2.2, h.2.3, left_there temps limit nothing_known R fs h.2.0 h.2.1 k h.2.4))
  left_there temps limit K R fs place low (WhileTest now e s env ∷ k) h =
      (h.0, (h.1.0, h.1.1, h.1.2, h.1.3, left_there temps limit nothing_known R fs h.1.0 h.1.1 k h.1.4))
  left_there temps limit K R fs place low (RepeatTest now s e env ∷ k) h =
      (h.0, (h.1.0, h.1.1, h.1.2, h.1.3, left_there temps limit nothing_known R fs h.1.0 h.1.1 k h.1.4))
  left_there temps limit K R fs place low (ForNext x down n last s env ∷ k) h =
      (h.0, (h.1.0, h.1.1, h.1.2, h.1.3, left_there temps limit nothing_known R fs h.1.0 h.1.1 k h.1.4))
  left_there temps limit K R (f ∷ fs) place low (EndCall env gate ∷ k) h =
      let c = h.3 in (
        h.0,
        record { frame = h.1.frame; runs = h.1.runs; owner = h.1.owner; return = h.1.return },
        h.2,
        (
          c.0,
          c.1,
          c.2,
          c.3,
          runs_there (length temps) limit c.0 fs c.4,
          keeps_there f c.0 R c.2 c.5,
          caller_there R.number c.2 c.3 _ f c.1 c.6,
          left_there temps limit (kept_below c.2 c.3 temps c.0.temp) c.0 fs c.1 c.2 k c.7,
        ),
      )
  left_there temps limit K R (f ∷ fs) place low (EndBody gate ∷ k) h =
      let c = h.3 in
      (h.0, h.1, h.2, (c.0, c.1, runs_there (length temps) limit c.0 fs c.2, keeps_there f c.0 R c.1 c.3, left_there temps limit nothing_known c.0 fs f.counter c.1 k c.4))
  left_there temps limit K R fs place low (EndProcess ∷ k) h = h
  left_there temps limit K R [] place low (EndCall env gate ∷ k) h = absurd h
  left_there temps limit K R [] place low (EndBody gate ∷ k) h = absurd h

  -- The process runs there too.
  abbrev pub at_there : (c : Control) (k : List Task) → RunsAt G c k → RunsAt with_sight c k
  at_there c k R = record {
    running = R.running;
    runs = runs_there (length c.temps) c.limit R.running c.frames R.runs;
    base = R.base;
    temp = R.temp;
    component = R.component;
    gate = R.gate;
    live = R.live;
    left = left_there c.temps c.limit (held_below R.live c.temps R.running.temp) R.running c.frames c.counter R.running.unit.temps k R.left;
    next_value = R.next_value;
  }

  -- ---- what words mean

  frame_there : (xs : List Activation) (store : Store) (words : List ℤ) (base : ℕ) (x : Option Frame) → IfFrame x (ActivationMeans G xs store words base) → IfFrame x (ActivationMeans with_sight xs store words base)
  frame_there xs store words base None h = tt
  frame_there xs store words base (Some f) h = record {
    references = λ x at d is by_reference. let r = h.references x at d is by_reference in (r.0, r.1, same_lies xs r.0 ∙ r.2);
    result = h.result;
  }

  pub mean_there : (store : Store) (words : List ℤ) (base : ℕ) (fs : List machine.Frame) (k : List Task) → ActivationsMean G store words base fs k → ActivationsMean with_sight store words base fs k
  mean_there store words base fs [] h = tt
  mean_there store words base [] (EndCall env gate ∷ k) h = tt
  mean_there store words base (f ∷ fs) (EndCall env gate ∷ k) h =
      (frame_there (activations f.base fs k) store words base env.frame h.0, mean_there store words f.base fs k h.1)
  mean_there store words base [] (EndBody gate ∷ k) h = tt
  mean_there store words base (f ∷ fs) (EndBody gate ∷ k) h = mean_there store words f.base fs k h
  mean_there store words base fs (Do s e ∷ k) h = mean_there store words base fs k h
  mean_there store words base fs (WhileTest now e s env ∷ k) h = mean_there store words base fs k h
  mean_there store words base fs (RepeatTest now s e env ∷ k) h = mean_there store words base fs k h
  mean_there store words base fs (ForNext x down n last s env ∷ k) h = mean_there store words base fs k h
  mean_there store words base fs (EndProcess ∷ k) h = mean_there store words base fs k h

-- Back again.
pub component_back : (G : Ground) (v : Sight) (lie : WhereMonitorsLie v G.program G.setup) (at : Location) (s : System) (n : ℕ) → ComponentLies (with_sight G v lie) at s n → ComponentLies G at s n
component_back G v lie at s n h = component_there (with_sight G v lie) G.sight G.monitors_lie at s n h

pub data_there : (G : Ground) (v : Sight) (lie : WhereMonitorsLie v G.program G.setup) (xs : List Activation) (mine : Owner → Bool) (store : Store) (words : List ℤ)
    → DataMeans G xs mine store words → DataMeans (with_sight G v lie) xs mine store words
data_there G v lie xs mine store words D = record {
  cells = λ l n t own is. D.cells l n t own (sym (same_lies G v lie xs l) ∙ is);
  rights = λ at s n m x w own cl is none. right_means G v lie w.type _ (n + m) _ (D.rights at s n m x w own (component_back G v lie at s n cl) is none);
  given = λ at s n own sort is set. D.given at s n own sort (sym (same_lies G v lie [] at) ∙ is) set;
}
