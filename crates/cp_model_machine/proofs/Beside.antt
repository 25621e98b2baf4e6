-- What a process's words mean stays the same if another process is given its parameters. These are
-- stored at that process, and are in shared words that belong to no monitor.
use Rattle.std.proofs.Common.{◌≡◌, ◌⊎◌, inl, inr, ℕ, ◌+◌, ◌≤◌, ◌<◌, ℤ, List, [], ◌∷◌, length, Some, refl, ap, sym, subst, ◌∙◌, arith}
use Rattle.cp_model.specs.Abstract.{System}
use Rattle.cp_model.specs.Continuations.{Task}
use Rattle.cp_model.specs.Locations.{ByIndex, ByName, Location, OfActivation, OfMonitor, OfProcess, Owner, Path, under}
use Rattle.cp_model.specs.Stores.{Store}
use Rattle.cp_model.specs.Types.{ResolvedType}
use Rattle.cp_model_program.specs.Layout.{Part, activation_words, component_words}
use Rattle.cp_model_program.specs.IsProgramFor.{Apart, system_of_monitor, system_of_process}
use Rattle.cp_model_program.specs.Starts.{word}
use Rattle.cp_model_machine.specs.PrivateStates.{PrivateState}
use Rattle.cp_model_machine.specs.Addresses.{Activation, ClassLies, ComponentLies, Ground, MonitorLies, ProcessLies, activation_at, activations, component_type, lies, part_at, scope}
use Rattle.cp_model_machine.specs.Remaining.{site}
use Rattle.cp_model_machine.specs.Means.{CellMeans}
use Rattle.cp_model_machine.specs.Passing.{monitor_start}
use Rattle.cp_model_machine.specs.PartOf.{RunsOn}
use Rattle.cp_model_machine.proofs.Apart.{InHead, IsCell, cell_head, head_inside}
use Rattle.cp_model_machine.proofs.Finding.{some_is_not_none}
use Rattle.cp_model_machine.proofs.Heres.{lies_any}
use Rattle.cp_model_machine.proofs.Keeping.{KeepsActivation, KeepsData, each_kept, local_named, right_place}
use Rattle.cp_model_machine.proofs.Owned.{OwnRight, component_part, found_monitor, reference_inside, result_inside}
use Rattle.cp_model_machine.proofs.RunningOn.{runs_stacked, runs_with_data}
use Rattle.cp_model_machine.proofs.Separate.{own_below}
use Rattle.cp_model_machine.proofs.Stacks.{Stacked, bottom_below, found_inside}

abbrev IsProcess : Owner → Type 0
IsProcess (OfProcess p) = Unit {0}
IsProcess _ = ⊥

abbrev process_in : Owner → ℕ
process_in (OfProcess p) = p
process_in _ = 0

-- The blocks of all monitors are separate from these shared words.
abbrev pub ClearOfMonitors : Ground → ℕ → ℕ → Type 0
ClearOfMonitors G from count =
    (m : ℕ) (s : System) → system_of_monitor G.setup m ≡ Some s → Apart (monitor_start G.program m) (component_words (scope G) s) from count

-- What has changed: the store at the process `r`, and `count` shared words from `from` on.
pub record Beside (G : Ground) (top r from count : ℕ) (store after : Store) (old new : List ℤ) : Type 0 where
  pub other : G.p ≡ r → ⊥
  pub clear : ClearOfMonitors G from count
  pub kept : (l : Location) → (l.owner ≡ OfProcess r → ⊥) → after l ≡ store l
  pub same : (i : ℕ) → (i < top) ⊎ (G.own ≤ i) → (i < G.own + from) ⊎ (G.own + from + count ≤ i) → word new i ≡ word old i

module _ (G : Ground) (xs : List Activation) (top : ℕ) (stack : Stacked G top xs) (r from count : ℕ) (store after : Store) (old new : List ℤ) (B : Beside G top r from count store after old new) where
  -- Nothing that is in reach belongs to the other process.
  not_other : (l : Location) (v : Part) → lies G xs l ≡ Some v → l.owner ≡ OfProcess r → ⊥
  not_other l v h e = by l.owner l.path h e
    where
      by : (o : Owner) (q : Path) → part_at G xs o q ≡ Some v → o ≡ OfProcess r → ⊥
      by o [] h e = some_is_not_none v (sym h)
      by o (ByIndex i ∷ q) h e = some_is_not_none v (sym h)
      by (OfProcess p) (ByName x ∷ q) h e = B.other ((component_part G xs p x q v.0 v.1 h).0 ∙ ap process_in e)
      by (OfMonitor m) (ByName x ∷ q) h e = subst IsProcess (sym e) tt
      by (OfActivation p d) (ByName x ∷ q) h e = subst IsProcess (sym e) tt

  component_not_other : (at : Location) (s : System) (n : ℕ) → ComponentLies G at s n → at.owner ≡ OfProcess r → ⊥
  component_not_other at s n (ProcessLies where' is zero') e = B.other (ap process_in (ap (λ (l : Location). l.owner) (sym where') ∙ e))
  component_not_other at s n (MonitorLies m where' is from') e = subst IsProcess (sym (ap (λ (l : Location). l.owner) (sym where') ∙ e)) tt
  component_not_other at s n (ClassLies sort is) e = not_other at _ (lies_any G xs at _ is) e

  own_same : (i : ℕ) → i < top → word new i ≡ word old i
  own_same i h = B.same i (inl h) (inl (omega (arith, h, stack.fits)))

  monitor_same : (m k i : ℕ) (s : System) → system_of_monitor G.setup m ≡ Some s → k < component_words (scope G) s → i ≡ G.own + monitor_start G.program m + k → word new i ≡ word old i
  monitor_same m k i s is inside place = by (B.clear m s is)
    where
      by : Apart (monitor_start G.program m) (component_words (scope G) s) from count → word new i ≡ word old i
      by (inl h) = B.same i (inr (omega (arith, place))) (inl (omega (arith, h, inside, place)))
      by (inr h) = B.same i (inr (omega (arith, place))) (inr (omega (arith, h, place)))

  cell_same : (l : Location) (n : ℕ) (u : ResolvedType) (a : ℕ) → InHead (scope G) u a → lies G xs l ≡ Some (n, u) → word new (n + a) ≡ word old (n + a)
  cell_same l n u a head h = by l.owner l.path refl h
    where
      by : (o : Owner) (q : Path) → l.owner ≡ o → part_at G xs o q ≡ Some (n, u) → word new (n + a) ≡ word old (n + a)
      by o [] e h = absurd (some_is_not_none _ (sym h))
      by o (ByIndex i ∷ q) e h = absurd (some_is_not_none _ (sym h))
      by (OfProcess p) (ByName x ∷ q) e h = own_same (n + a) (own_below G xs top stack (record { owner = OfProcess p; path = ByName x ∷ q }) n u a refl head h)
      by (OfActivation p d) (ByName x ∷ q) e h = own_same (n + a) (own_below G xs top stack (record { owner = OfActivation p d; path = ByName x ∷ q }) n u a refl head h)
      by (OfMonitor m) (ByName x ∷ q) e h =
          let M = found_monitor G xs m x q n u h in
          monitor_same m (M.far + a) (n + a) M.system M.is (omega (arith, M.fits, head_inside (scope G) u a head)) (omega (arith, M.place))

  right_same : (i : ℕ) → OwnRight G i → word new i ≡ word old i
  right_same i (inl h) = own_same i (omega (arith, h.2, bottom_below G top xs stack.stack h.0 h.1))
  right_same i (inr h) = monitor_same h.0 h.2 i h.1 h.4 (omega (arith, h.5)) h.6

  pub data_beside : KeepsData G store after old new xs
  data_beside = record {
    cells = λ l n t mine cell h means.
        subst (λ z. CellMeans t z (word new n)) (sym (B.kept l (not_other l (n, t) h)))
        (subst (CellMeans t (store l)) (sym (cell_zero l n t cell h)) means);
    rights = λ at s n m x v mine cl is none.
        (B.kept (under at (ByName x ∷ [])) (component_not_other at s n cl), by at s n m (right_place G xs at s n m x v mine cl is));
    stored = λ at s n x sort is none. B.kept (under at (ByName x ∷ [])) (component_not_other at s n (ClassLies sort is));
    marks = λ at s n mine sort is. B.kept at (component_not_other at s n (ClassLies sort is));
  }
    where
      cell_zero : (l : Location) (n : ℕ) (t : ResolvedType) → IsCell t → lies G xs l ≡ Some (n, t) → word new n ≡ word old n
      cell_zero l n t cell h =
          let first : n + 0 ≡ n = omega arith in subst (λ z. word new z ≡ word old z) first (cell_same l n t 0 (cell_head (scope G) t cell) h)

      by : (at : Location) (s : System) (n m : ℕ)
          → OwnRight G (n + m) ⊎ ((lies G xs at ≡ Some (n, component_type G s)) × InHead (scope G) (component_type G s) m × (1 ≤ m)) → word new (n + m) ≡ word old (n + m)
      by at s n m (inl h) = right_same (n + m) h
      by at s n m (inr h) = cell_same at n (component_type G s) m h.1 h.0

  pub activation_beside : (d : ℕ) (z : Activation) → activation_at d xs ≡ Some z → KeepsActivation G store after old new d z
  activation_beside d z there = (
    λ x at v is by_reference.
        (B.kept (local_named G d x) (λ e. subst IsProcess (sym e) tt), own_same (z.base + at) (omega (arith, inside.0, (reference_inside (scope G) z.routine x at v is by_reference).1))),
    λ t is none. (B.kept (local_named G d z.routine.name) (λ e. subst IsProcess (sym e) tt), own_same z.base (omega (arith, inside.0, result_inside (scope G) z.routine t is))),
  )
    where
      inside : (z.base + activation_words (scope G) z.routine ≤ top) × ((s : System) → system_of_process G.setup G.p ≡ Some s → component_words (scope G) s ≤ z.base)
      inside = found_inside G top d xs z stack.stack there

-- The process runs on with the changed store and words.
abbrev pub runs_beside : (G : Ground) (store after : Store) (o : PrivateState) (new : List ℤ) (k : List Task) (R : RunsOn G store o k) (r from count : ℕ)
    → Beside G (o.base + (site G R.running).words) r from count store after o.words new → length new ≡ length o.words
    → RunsOn G after (record o { words = new }) k
runs_beside G store after o new k R r from count B same =
    let xs = activations o.base o.frames k in
    let top = o.base + (site G R.running).words in
    let stack = runs_stacked G store o k R in
    runs_with_data G store after o new k R same (each_kept G store after o.words new xs (activation_beside G xs top stack r from count store after o.words new B))
    (data_beside G xs top stack r from count store after o.words new B)
