-- What the words of another process mean, with only its own words in reach, stays the same if what
-- it owns is stored as before.
use Rattle.std.proofs.Common.{◌≡◌, ℕ, ◌+◌, ℤ, List, [], ◌∷◌, Bool, true, false, Option, Some, None, refl, ap, sym, subst, ◌∙◌, arith}
use Rattle.std.specs.Prelude.{if◌then◌else◌, nat_eq}
use Rattle.std.proofs.lemmas.Bool.{eq-eqb}
use Rattle.cp_model.specs.Abstract.{Class, Monitor, Process, Sort, System}
use Rattle.cp_model.specs.CallSteps.{is_initialised}
use Rattle.cp_model.specs.Continuations.{Task}
use Rattle.cp_model.specs.Declarations.{reported_members}
use Rattle.cp_model.specs.Locations.{ByIndex, ByName, Location, OfActivation, OfMonitor, OfProcess, Owner, Path, under}
use Rattle.cp_model.specs.Parts.{is_own}
use Rattle.cp_model.specs.Stores.{Absent, MonitorRight, Store, Value}
use Rattle.cp_model.specs.Types.{ArrayOf, ComponentOf, Members, NoType, Queue, RecordOf, ResolvedType, Simple}
use Rattle.cp_model_program.specs.Layout.{Part, head_words}
use Rattle.cp_model_machine.specs.Addresses.{Activation, AllHaveRights, Ground, IsGiven, OwnWords, RightMeans, RightOf, activations, component_type, in_sight, lies, part_at, scope}
use Rattle.cp_model_machine.specs.Means.{CellMeans}
use Rattle.cp_model_machine.specs.PartOf.{DataMeans, RunsOn, components}
use Rattle.cp_model_machine.specs.PrivateStates.{PrivateState}
use Rattle.cp_model_machine.proofs.Apart.{member_above}
use Rattle.cp_model_machine.proofs.Finding.{some_is_not_none}
use Rattle.cp_model_machine.proofs.Keeping.{each_kept, local_named}
use Rattle.cp_model_machine.proofs.RunningOn.{runs_kept}
use Rattle.cp_model_program.specs.Starts.{word}
use Rattle.cp_model_machine.proofs.Owned.{component_part, found_monitor}

-- The ground of the process `q`, which has `own` words of its own.
abbrev pub other_ground : Ground → ℕ → ℕ → Ground
other_ground G q own = record {
  program = G.program;
  texts = G.texts;
  setup = G.setup;
  p = q;
  own = own;
  sight = OwnWords;
  monitors_lie = tt;
}

-- A right that isn't to a class means the same for each process, wherever it is.
pub right_elsewhere : (G : Ground) (q own : ℕ) (t : ResolvedType) (v : Value) (at to : ℕ) (n : ℤ) → ((s : System) (inner : Members) → t ≡ ComponentOf s inner → s.sort ≡ Class → ⊥)
    → RightMeans G t v at n → RightMeans (other_ground G q own) t v to n
right_elsewhere G q own (ComponentOf s inner) v at to n none h = by s.sort refl v h
  where
    by : (z : Sort) → s.sort ≡ z → (v : Value) → RightOf G s z v at n → RightOf (other_ground G q own) s z v to n
    by Monitor sort (MonitorRight m) h = h
    by Monitor sort Absent h = h
    by Class sort v h = absurd (none s inner refl sort)
    by Process sort v h = tt
    by Monitor sort _ h = absurd h
right_elsewhere G q own (Simple b low high start) v at to n none h = tt
right_elsewhere G q own (ArrayOf low high t) v at to n none h = tt
right_elsewhere G q own (RecordOf ms) v at to n none h = tt
right_elsewhere G q own Queue v at to n none h = tt
right_elsewhere G q own NoType v at to n none h = tt

-- No class begins at the first word, which is a mark or one of the process's own words.
pub none_first : (G : Ground) (j : Location) (s : System) → lies G [] j ≡ Some (0, component_type G s) → ⊥
none_first G j s is = by j.owner j.path is
  where
    nowhere : (b : Bool) (o : Option Part) → o ≡ None → (if b then o else None) ≡ Some (0, component_type G s) → ⊥
    nowhere true o none e = some_is_not_none _ (sym e ∙ none)
    nowhere false o none e = some_is_not_none _ (sym e)

    by : (o : Owner) (q : Path) → part_at G [] o q ≡ Some (0, component_type G s) → ⊥
    by o [] h = some_is_not_none _ (sym h)
    by o (ByIndex i ∷ q) h = some_is_not_none _ (sym h)
    by (OfProcess r) (ByName x ∷ q) h =
        let C = component_part G [] r x q 0 (component_type G s) h in
        omega (arith, member_above (scope G) (head_words (scope G) C.1.0) (reported_members (scope G) C.1.0) x q 0 (component_type G s) C.1.2)
    by (OfActivation r d) (ByName x ∷ q) h = nowhere (nat_eq G.p r) None refl h
    by (OfMonitor m) (ByName x ∷ q) h =
        let M = found_monitor G [] m x q 0 (component_type G s) h in
        omega (arith, M.place, member_above (scope G) (head_words (scope G) M.system) (reported_members (scope G) M.system) x q M.far (component_type G s) M.there)

pub first_has_rights : (G : Ground) (store : Store) → AllHaveRights G store (0 ∷ [])
first_has_rights G store = (λ j s sort is. absurd (none_first G j s is), tt)

-- ---- other stores

module _ (G : Ground) (q own : ℕ) (store after : Store) (same : (l : Location) → is_own q l.owner ≡ true → after l ≡ store l) where
  abbrev H : Ground
  H = other_ground G q own

  pub data_owned : (xs : List Activation) (words : List ℤ) → DataMeans H xs (in_sight H) store words → DataMeans H xs (in_sight H) after words
  data_owned xs words D = record {
    cells = λ l n t mine is. subst (λ z. CellMeans t z (word words n)) (sym (same l mine)) (D.cells l n t mine is);
    rights = λ at s n m x v mine cl is none. subst (λ z. RightMeans H v.type z (n + m) (word words (n + m))) (sym (same (under at (ByName x ∷ [])) mine)) (D.rights at s n m x v mine cl is none);
    given = λ at s n mine sort is set m x v r none.
        subst (IsGiven v.type) (sym (same (under at (ByName x ∷ [])) mine)) (D.given at s n mine sort is (ap is_initialised (sym (same at mine)) ∙ set) m x v r none);
  }

  -- The process runs on, if the components that run have their rights.
  abbrev pub runs_owned : (o : PrivateState) (k : List Task) (R : RunsOn H store o k) → AllHaveRights H after (components o.component o.frames) → RunsOn H after o k
  runs_owned o k R given =
      let xs = activations o.base o.frames k in
      runs_kept H store after o o.words k R refl
      (each_kept H store after o.words o.words xs (λ d z there. (
        λ x at v is by_reference. (same (local_named H d x) (eq-eqb q q refl), refl),
        λ t is none. (same (local_named H d z.routine.name) (eq-eqb q q refl), refl),
      )))
      (data_owned xs o.words R.data_means) given
