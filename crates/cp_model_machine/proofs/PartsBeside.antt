-- The private state of a process is still right after steps of others, if the meaning's private
-- state of the process is the same and classes keep the rights that they were given.
use Rattle.std.proofs.Common.{Bool, List, [], ap, refl, subst, sym, true, ℕ, ℤ, ◌+◌, ◌∙◌, ◌∷◌, ◌≡◌}
use Rattle.std.proofs.lemmas.Bool.{eq-eqb}
use Rattle.cp_model.specs.CallSteps.{is_initialised}
use Rattle.cp_model.specs.Continuations.{Task}
use Rattle.cp_model.specs.Locations.{ByName, Location, OfActivation, Owner, under}
use Rattle.cp_model.specs.Parts.{HasBegun, SamePrivateState, is_own, private_status}
use Rattle.cp_model.specs.States.{State}
use Rattle.cp_model.specs.Stores.{Store}
use Rattle.cp_model_program.specs.Starts.{word}
use Rattle.cp_model_machine.specs.PrivateStates as machine
use Rattle.cp_model_machine.specs.PrivateStates.{Activity, PrivateState}
use Rattle.cp_model_machine.specs.Addresses.{Activation, Ground, OwnWords, RightMeans, activations, in_sight, sees}
use Rattle.cp_model_machine.specs.Means.{CellMeans}
use Rattle.cp_model_machine.specs.PartOf.{DataMeans, IsActive, PartOf, RunsOn, components, status_of}
use Rattle.cp_model_machine.proofs.Given.{KeepsGiven, all_kept, rights_kept}
use Rattle.cp_model_machine.proofs.Keeping.{KeepsActivation, each_kept}
use Rattle.cp_model_machine.proofs.RunningOn.{runs_kept}

-- ---- what runs on

-- The data of some owners means the same, whatever else is stored.
pub data_beside : (G : Ground) (mine : Owner → Bool) (store after : Store) → ((l : Location) → mine l.owner ≡ true → after l ≡ store l) → (xs : List Activation) (words : List ℤ)
    → DataMeans G xs mine store words → DataMeans G xs mine after words
data_beside G mine store after same xs words D = record {
  cells = λ l n t own is. subst (λ v. CellMeans t v (word words n)) (sym (same l own)) (D.cells l n t own is);
  rights = λ at s n m x v own cl r none. subst (λ z. RightMeans G v.type z (n + m) (word words (n + m))) (sym (same (under at (ByName x ∷ [])) own)) (D.rights at s n m x v own cl r none);
  given = λ at s n own sort is set.
      rights_kept G store after at s (λ m x v r none. same (under at (ByName x ∷ [])) own) (D.given at s n own sort is (ap is_initialised (sym (same at own)) ∙ set));
}

module _ (G : Ground) (sight : G.sight ≡ OwnWords) (store after : Store) (same : (l : Location) → is_own G.p l.owner ≡ true → after l ≡ store l) where
  in_own : (l : Location) → in_sight G l.owner ≡ true → after l ≡ store l
  in_own l h = same l (subst (λ v. sees v G.p l.owner ≡ true) sight h)

  activation_same : (words : List ℤ) (d : ℕ) (z : Activation) → KeepsActivation G store after words words d z
  activation_same words d z = (
    λ x at v is by_reference. (same (record { owner = OfActivation G.p d; path = ByName x ∷ [] }) (eq-eqb G.p G.p refl), refl),
    λ t is none. (same (record { owner = OfActivation G.p d; path = ByName z.routine.name ∷ [] }) (eq-eqb G.p G.p refl), refl),
  )

  pub runs_beside : KeepsGiven G store after → (o : PrivateState) (k : List Task) → RunsOn G store o k → RunsOn G after o k
  runs_beside keeps o k R =
      let xs = activations o.base o.frames k in
      runs_kept G store after o o.words k R refl (each_kept G store after o.words o.words xs (λ d z there. activation_same o.words d z))
      (data_beside G (in_sight G) store after in_own xs o.words R.data_means) (all_kept G store after keeps (components o.component o.frames) R.given)

-- ---- the private state

-- A process that runs or will run again has begun.
goes_begun : (x : Activity) → IsActive x → HasBegun (status_of x)
goes_begun machine.Running h = tt
goes_begun machine.Waiting h = tt
goes_begun _ h = absurd h

pub part_beside : (G : Ground) (s u : State) (before : List ℕ) (o : PrivateState) → G.sight ≡ OwnWords → SamePrivateState G.p s u → (HasBegun (private_status (s.status G.p)) → KeepsGiven G s.store u.store)
    → PartOf G s before o → PartOf G u before o
part_beside G s u before o sight S keeps P = record {
  number = P.number;
  input = P.input;
  consumed = P.consumed ∙ sym S.consumed;
  transcript = S.transcript ∙ P.transcript;
  status = S.status ∙ P.status;
  count = P.count;
  data_means = λ later.
      let begun = subst HasBegun S.status later in
      subst (λ k. DataMeans G (activations o.base o.frames k) (in_sight G) u.store o.words) (sym (S.continuation begun))
      (data_beside G (in_sight G) s.store u.store (in_own G sight s.store u.store (S.store begun)) (activations o.base o.frames (s.continuation G.p)) o.words (P.data_means begun));
  runs_on = λ goes.
      let begun = subst HasBegun (sym P.status) (goes_begun o.activity goes) in
      subst (RunsOn G u.store o) (sym (S.continuation begun)) (runs_beside G sight s.store u.store (S.store begun) (keeps begun) o (s.continuation G.p) (P.runs_on goes));
}
