-- A private state with the words of all monitors after its own: a process that runs on also does so
-- with them in reach.
use Rattle.std.proofs.Common.{◌≡◌, ◌⊎◌, inl, inr, ℕ, ◌+◌, ◌≤◌, ◌<◌, ℤ, pos, Bool, true, false, List, [], ◌∷◌, ◌++◌, length, Option, Some, None, refl, ap, sym, subst, ◌∙◌, arith}
use Rattle.std.specs.Prelude.{if◌then◌else◌, nat_eq, ◌+ℤ◌}
use Rattle.std.proofs.lemmas.Bool.{true≢false}
use Rattle.std.proofs.lemmas.Int.{ints}
use Rattle.cp_model.specs.Abstract.{Class, Monitor, Name, Process, Sort, System}
use Rattle.cp_model.specs.Continuations.{Task}
use Rattle.cp_model.specs.Declarations.{Variable, reported_members}
use Rattle.cp_model.specs.Locations.{ByIndex, ByName, Location, OfActivation, OfMonitor, OfProcess, Owner, Path, under}
use Rattle.cp_model.specs.Stores.{Absent, ClassRight, MonitorRight, Store, Value}
use Rattle.cp_model.specs.Types.{ArrayOf, ComponentOf, NoType, Queue, RecordOf, ResolvedType, Simple}
use Rattle.cp_model_program.specs.Layout.{Part, activation_words, component_words, farther, head_words, member, natural, right}
use Rattle.cp_model_program.specs.Starts.{word}
use Rattle.cp_model_machine.specs.PrivateStates.{PrivateState}
use Rattle.cp_model_machine.specs.Addresses.{Activation, AllWords, ClassLies, ComponentLies, Ground, HasRights, MonitorLies, MonitorsLie, OwnWords, ProcessLies, RightMeans, RightOf, activation_at, activations, component_type, in_sight, lies, part_at, scope, sees, whole, words_seen}
use Rattle.cp_model_machine.specs.KernelOf.{is_shared, kernel_ground}
use Rattle.cp_model_machine.specs.Remaining.{held_below, site}
use Rattle.cp_model_machine.specs.Means.{CellMeans}
use Rattle.cp_model_machine.specs.Passing.{monitor_start}
use Rattle.cp_model_machine.specs.PartOf.{DataMeans, RunsOn, components, control}
use Rattle.cp_model_machine.proofs.Apart.{InHead, IsCell, cell_head, member_above}
use Rattle.cp_model_machine.proofs.Finding.{some_is_not_none}
use Rattle.cp_model_machine.proofs.Keeping.{KeepsActivation, activations_kept, each_kept, right_place}
use Rattle.cp_model_machine.proofs.Layouts.{farther_some}
use Rattle.cp_model_machine.proofs.Owned.{OwnRight, component_part, found_monitor, reference_inside, result_inside}
use Rattle.cp_model_machine.proofs.RunningOn.{runs_stacked}
use Rattle.cp_model_machine.proofs.Separate.{cell_inside, own_right_inside}
use Rattle.cp_model_machine.proofs.Sights.{at_there, component_back, mean_there, right_means, rights_there, same_lies, with_sight}
use Rattle.cp_model_machine.proofs.Stacks.{Stacked, found_inside}
use Rattle.cp_model_machine.proofs.Writing.{is_cell}
use Rattle.cp_model_program.specs.IsProgramFor.{system_of_process}
use Rattle.cp_model.specs.CallSteps.{is_initialised}
use Rattle.std.proofs.lemmas.List.{get_or_append_left, get_or-append-add, length-append}

-- ---- what is in a monitor, after the own words

module _ (G : Ground) (lie : MonitorsLie G.program G.setup) where
  abbrev all : Ground
  all = with_sight G AllWords lie

  abbrev shared : Ground
  shared = kernel_ground G.program G.texts G.setup

  pub shifted : (xs : List Activation) (l : Location) (n : ℕ) (t : ResolvedType) → is_shared l.owner ≡ true → lies shared [] l ≡ Some (n, t) → lies all xs l ≡ Some (G.own + n, t)
  shifted xs l n t mine h = by l.owner l.path mine h
    where
      by : (o : Owner) (q : Path) → is_shared o ≡ true → part_at shared [] o q ≡ Some (n, t) → part_at all xs o q ≡ Some (G.own + n, t)
      by o [] mine h = absurd (some_is_not_none _ (sym h))
      by o (ByIndex i ∷ q) mine h = absurd (some_is_not_none _ (sym h))
      by (OfProcess r) (ByName x ∷ q) mine h = absurd (true≢false (sym mine))
      by (OfActivation r d) (ByName x ∷ q) mine h = absurd (true≢false (sym mine))
      by (OfMonitor m) (ByName x ∷ q) mine h =
          let f = farther_some (0 + monitor_start G.program m) _ n t h in
          ap (farther (G.own + monitor_start G.program m)) f.1 ∙ ap (λ z. Some (z, t)) (omega (arith, f.2))

  pub unshifted : (xs : List Activation) (l : Location) (n : ℕ) (t : ResolvedType) → is_shared l.owner ≡ true → lies all xs l ≡ Some (n, t)
      → (k : ℕ) × (n ≡ G.own + k) × (lies shared [] l ≡ Some (k, t))
  unshifted xs l n t mine h = by l.owner l.path mine h
    where
      by : (o : Owner) (q : Path) → is_shared o ≡ true → part_at all xs o q ≡ Some (n, t) → (k : ℕ) × (n ≡ G.own + k) × (part_at shared [] o q ≡ Some (k, t))
      by o [] mine h = absurd (some_is_not_none _ (sym h))
      by o (ByIndex i ∷ q) mine h = absurd (some_is_not_none _ (sym h))
      by (OfProcess r) (ByName x ∷ q) mine h = absurd (true≢false (sym mine))
      by (OfActivation r d) (ByName x ∷ q) mine h = absurd (true≢false (sym mine))
      by (OfMonitor m) (ByName x ∷ q) mine h =
          let f = farther_some (G.own + monitor_start G.program m) _ n t h in
          (0 + monitor_start G.program m + f.0, omega (arith, f.2), ap (farther (0 + monitor_start G.program m)) f.1)

  -- A location in a monitor is after the monitor's mark.
  pub not_first : (j : Location) (n : ℕ) (t : ResolvedType) → lies shared [] j ≡ Some (n, t) → (is_shared j.owner ≡ true) × (1 ≤ n)
  not_first j n t h = by j.owner j.path h
    where
      nowhere : (b : Bool) (o : Option Part) → o ≡ None → (if b then o else None) ≡ Some (n, t) → ⊥
      nowhere true o none e = some_is_not_none _ (sym e ∙ none)
      nowhere false o none e = some_is_not_none _ (sym e)

      by : (o : Owner) (q : Path) → part_at shared [] o q ≡ Some (n, t) → (is_shared o ≡ true) × (1 ≤ n)
      by o [] h = absurd (some_is_not_none _ (sym h))
      by o (ByIndex i ∷ q) h = absurd (some_is_not_none _ (sym h))
      by (OfProcess r) (ByName x ∷ q) h =
          let C = component_part shared [] r x q n t h in
          absurd (some_is_not_none C.1.0 (sym (ap (system_of_process G.setup) C.0 ∙ C.1.1)))
      by (OfActivation r d) (ByName x ∷ q) h = absurd (nowhere (nat_eq 0 r) None refl h)
      by (OfMonitor m) (ByName x ∷ q) h =
          let f = found_monitor shared [] m x q n t h in
          (refl, omega (arith, f.place, member_above (scope shared) (head_words (scope shared) f.system) (reported_members (scope shared) f.system) x q f.far t f.there))

  -- A right of a monitor, or of a class in one.
  pub right_shifted : (t : ResolvedType) (v : Value) (at : ℕ) (n : ℤ) → RightMeans shared t v at n → RightMeans all t v (G.own + at) n
  right_shifted (ComponentOf s inner) v at n h = by s.sort v h
    where
      farther_on : (o a : ℕ) (n : ℤ) → 1 ≤ natural (pos a +ℤ n) → o + natural (pos a +ℤ n) ≡ natural (pos (o + a) +ℤ n)
      farther_on o a n h = Prim.grind (arith, ints, h)

      by : (z : Sort) (v : Value) → RightOf shared s z v at n → RightOf all s z v (G.own + at) n
      by Monitor (MonitorRight m) h = h
      by Monitor Absent h = h
      by Class (ClassRight j) h =
          let f = not_first j (natural (pos at +ℤ n)) (component_type shared s) h in
          shifted [] j (natural (pos at +ℤ n)) (component_type shared s) f.0 h ∙ ap (λ z. Some (z, component_type shared s)) (farther_on G.own at n f.1)
      by Class Absent h = h
      by Process v h = tt
      by _ _ h = absurd h
  right_shifted (Simple b low high start) v at n h = tt
  right_shifted (ArrayOf low high t) v at n h = tt
  right_shifted (RecordOf ms) v at n h = tt
  right_shifted Queue v at n h = tt
  right_shifted NoType v at n h = tt

-- ---- what runs on

module _ (G : Ground) (sight : G.sight ≡ OwnWords) (lie : MonitorsLie G.program G.setup) (store : Store) (o : PrivateState) (k : List Task) (R : RunsOn G store o k)
    (us : List ℤ) (room : length us ≡ G.program.shared) (K : DataMeans (kernel_ground G.program G.texts G.setup) [] is_shared store us) where
  abbrev H : Ground
  H = with_sight G AllWords lie

  abbrev xs : List Activation
  xs = activations o.base o.frames k

  abbrev top : ℕ
  top = o.base + (site G R.running).words

  own_count : length o.words ≡ G.own
  own_count = R.count ∙ ap (λ v. words_seen v G.program G.own) sight

  before : (i : ℕ) → i < G.own → word (o.words ++ us) i ≡ word o.words i
  before i h = get_or_append_left o.words us (pos 0) i (omega (arith, h, own_count))

  behind : (i : ℕ) → word (o.words ++ us) (G.own + i) ≡ word us i
  behind i = ap (λ z. word (o.words ++ us) (z + i)) (sym own_count) ∙ get_or-append-add o.words us i (pos 0)

  seen_own : (q : Owner) → is_shared q ≡ false → in_sight H q ≡ true → in_sight G q ≡ true
  seen_own (OfProcess r) own h = subst (λ v. sees v G.p (OfProcess r) ≡ true) (sym sight) h
  seen_own (OfActivation r d) own h = subst (λ v. sees v G.p (OfActivation r d) ≡ true) (sym sight) h
  seen_own (OfMonitor m) own h = absurd (true≢false own)

  whole_is : whole G ≡ G.own
  whole_is = ap (λ v. words_seen v G.program G.own) sight

  cells_joined : (l : Location) (n : ℕ) (t : ResolvedType) → in_sight H l.owner ≡ true → lies H xs l ≡ Some (n, t) → IsCell t → CellMeans t (store l) (word (o.words ++ us) n)
  cells_joined l n t seen is cell = by (is_shared l.owner) refl
    where
      by : (b : Bool) → is_shared l.owner ≡ b → CellMeans t (store l) (word (o.words ++ us) n)
      by true mine =
          let q = unshifted G lie xs l n t mine is in
          subst (CellMeans t (store l)) (sym (ap (word (o.words ++ us)) q.1 ∙ behind q.0)) (K.cells l q.0 t mine q.2)
      by false mine =
          let here : lies G xs l ≡ Some (n, t) = sym (same_lies G AllWords lie xs l) ∙ is in
          let own = seen_own l.owner mine seen in
          let below = cell_inside G xs top (runs_stacked G store o k R) l n t 0 own (cell_head (scope G) t cell) here in
          subst (CellMeans t (store l)) (sym (before n (omega (arith, below, whole_is)))) (R.data_means.cells l n t own here)

  -- A component that isn't a monitor's belongs to the process.
  rights_joined : (at : Location) (s : System) (n m : ℕ) (x : Name) (v : Variable) → in_sight H at.owner ≡ true → ComponentLies H at s n → right (scope G) s x ≡ Some (m, v) → member (scope G) s x ≡ None
      → RightMeans H v.type (store (under at (ByName x ∷ []))) (n + m) (word (o.words ++ us) (n + m))
  rights_joined at s n m x v seen cl is none = by (is_shared at.owner) refl
    where
      shared_there : ComponentLies H at s n → is_shared at.owner ≡ true → (j : ℕ) × (n ≡ G.own + j) × ComponentLies (kernel_ground G.program G.texts G.setup) at s j
      shared_there (ProcessLies where' is' zero') mine = absurd (true≢false (sym mine ∙ ap (λ (l : Location). is_shared l.owner) where'))
      shared_there (MonitorLies j where' is' from) mine = (0 + monitor_start G.program j, omega (arith, from), MonitorLies j where' is' refl)
      shared_there (ClassLies sort is') mine = let q = unshifted G lie [] at n (component_type G s) mine is' in (q.0, q.1, ClassLies sort q.2)

      by : (b : Bool) → is_shared at.owner ≡ b → RightMeans H v.type (store (under at (ByName x ∷ []))) (n + m) (word (o.words ++ us) (n + m))
      by true mine =
          let q = shared_there cl mine in
          let place_is : n + m ≡ G.own + (q.0 + m) = omega (arith, q.1) in
          subst (λ z. RightMeans H v.type (store (under at (ByName x ∷ []))) z (word (o.words ++ us) z)) (sym place_is)
          (subst (RightMeans H v.type (store (under at (ByName x ∷ []))) (G.own + (q.0 + m))) (sym (behind (q.0 + m)))
          (right_shifted G lie v.type (store (under at (ByName x ∷ []))) (q.0 + m) (word us (q.0 + m)) (K.rights at s q.0 m x v mine q.2 is none)))
      by false mine =
          let own = seen_own at.owner mine seen in
          let here = component_back G AllWords lie at s n cl in
          subst (RightMeans H v.type (store (under at (ByName x ∷ []))) (n + m)) (sym (before (n + m) (below (right_place G xs at s n m x v own here is) own)))
          (right_means G AllWords lie v.type (store (under at (ByName x ∷ []))) (n + m) (word o.words (n + m)) (R.data_means.rights at s n m x v own here is none))
        where
          below : OwnRight G (n + m) ⊎ ((lies G xs at ≡ Some (n, component_type G s)) × InHead (scope G) (component_type G s) m × (1 ≤ m)) → in_sight G at.owner ≡ true → n + m < G.own
          below (inl r) own = omega (arith, own_right_inside G xs top (runs_stacked G store o k R) (n + m) r, whole_is)
          below (inr r) own = omega (arith, cell_inside G xs top (runs_stacked G store o k R) at n (component_type G s) m own r.1 r.0, whole_is)

  data_joined : DataMeans H xs (in_sight H) store (o.words ++ us)
  data_joined = record {
    cells = λ l n t seen is. elim (is_cell t) [ inl c ↦ cells_joined l n t seen is c | inr f ↦ f (store l) (word (o.words ++ us) n) ];
    rights = rights_joined;
    given = λ at s n seen sort is set. by at s n seen sort is set (is_shared at.owner) refl;
  }
    where
      by : (at : Location) (s : System) (n : ℕ) → in_sight H at.owner ≡ true → s.sort ≡ Class → lies H [] at ≡ Some (n, component_type G s) → is_initialised (store at) ≡ true → (b : Bool) → is_shared at.owner ≡ b
          → HasRights H store at s
      by at s n seen sort is set true mine = let q = unshifted G lie [] at n (component_type G s) mine is in K.given at s q.0 mine sort q.2 set
      by at s n seen sort is set false mine = R.data_means.given at s n (seen_own at.owner mine seen) sort (sym (same_lies G AllWords lie [] at) ∙ is) set

  pub runs_joined : RunsOn H store (record o { words = o.words ++ us }) k
  runs_joined = record {
    at = at_there G AllWords lie (control o) k R.at;
    words_mean = record {
      count = omega (arith, length-append o.words us, own_count, room);
      activations_mean = mean_there G AllWords lie store (o.words ++ us) o.base o.frames k
          (activations_kept G store store o.words (o.words ++ us) o.temps o.limit o.base (held_below R.live o.temps R.running.temp) R.running o.frames o.counter R.running.unit.temps k R.left
          (each_kept G store store o.words (o.words ++ us) xs kept) R.activations_mean);
      data_means = data_joined;
      given = rights_there G AllWords lie store (components o.component o.frames) R.given;
    };
  }
    where
      kept : (d : ℕ) (z : Activation) → activation_at d xs ≡ Some z → KeepsActivation G store store o.words (o.words ++ us) d z
      kept d z there = (
        λ x at v is by_reference. (refl, before (z.base + at) (omega (arith, inside.0, (reference_inside (scope G) z.routine x at v is by_reference).1, stack.fits))),
        λ t is none. (refl, before z.base (omega (arith, inside.0, result_inside (scope G) z.routine t is, stack.fits))),
      )
        where
          stack : Stacked G top xs
          stack = runs_stacked G store o k R

          inside : (z.base + activation_words (scope G) z.routine ≤ top) × ((s : System) → system_of_process G.setup G.p ≡ Some s → component_words (scope G) s ≤ z.base)
          inside = found_inside G top d xs z stack.stack there
