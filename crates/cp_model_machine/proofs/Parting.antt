-- The words of a process and of the monitors are separated again.
use Rattle.std.proofs.Common.{◌≡◌, inl, inr, ℕ, ◌+◌, ◌≤◌, ◌<◌, ℤ, pos, true, false, List, [], ◌∷◌, ◌++◌, length, Some, refl, ap, sym, subst, ◌∙◌, arith}
use Rattle.std.specs.Prelude.{drop, take, ◌+ℤ◌}
use Rattle.std.proofs.lemmas.Bool.{true≢false}
use Rattle.std.proofs.lemmas.Int.{ints}
use Rattle.cp_model.specs.Abstract.{Class, Monitor, Name, Process, Sort, System}
use Rattle.cp_model.specs.Continuations.{Task}
use Rattle.cp_model.specs.Declarations.{Variable}
use Rattle.cp_model.specs.Invariant.{StoreInvariant}
use Rattle.cp_model.specs.Locations.{ByName, Location, OfActivation, OfMonitor, OfProcess, Owner, under}
use Rattle.cp_model.specs.Stores.{Absent, ClassRight, MonitorRight, Store, Value}
use Rattle.cp_model.specs.Types.{ArrayOf, ComponentOf, NoType, Queue, RecordOf, ResolvedType, Simple}
use Rattle.cp_model_program.specs.Layout.{activation_words, component_words, natural, right, rights}
use Rattle.cp_model_program.specs.IsProgramFor.{system_of_process}
use Rattle.cp_model_program.specs.Starts.{word}
use Rattle.cp_model_machine.specs.PrivateStates.{PrivateState}
use Rattle.cp_model_machine.specs.Addresses.{Activation, AllWords, ClassLies, ComponentLies, Ground, MonitorLies, MonitorsLie, OwnWords, ProcessLies, RightMeans, RightOf, activation_at, activations, component_type, in_sight, lies, scope, sees, whole, words_seen}
use Rattle.cp_model_machine.specs.KernelOf.{is_shared, kernel_ground}
use Rattle.cp_model_machine.specs.Remaining.{held_below, site}
use Rattle.cp_model_machine.specs.Means.{CellMeans}
use Rattle.cp_model_machine.specs.PartOf.{DataMeans, RunsOn, components, control}
use Rattle.cp_model_machine.proofs.Apart.{IsCell, IsClass, cell_head}
use Rattle.cp_model_machine.proofs.Joining.{not_first, shifted, unshifted}
use Rattle.cp_model_machine.proofs.Keeping.{KeepsActivation, activations_kept, each_kept, right_within}
use Rattle.cp_model_machine.proofs.Owned.{reference_inside, result_inside}
use Rattle.cp_model_machine.proofs.RunningOn.{runs_stacked}
use Rattle.cp_model_machine.proofs.Separate.{own_below}
use Rattle.cp_model_machine.proofs.Sights.{at_there, component_there, mean_there, right_means, rights_there, same_lies, with_sight}
use Rattle.cp_model_machine.proofs.Stacks.{Stacked, bottom_below, found_inside}
use Rattle.cp_model_machine.proofs.Writing.{is_cell}
use Rattle.cp_model_machine.proofs.Heres.{lies_any}
use Rattle.std.proofs.lemmas.List.{get_or_append_left, get_or-append-add, length-take-le, take-append-drop, length-drop}

-- ---- what was reached with all words in reach

module _ (G : Ground) (sight : G.sight ≡ OwnWords) (lie : MonitorsLie G.program G.setup) (store : Store) (I : StoreInvariant store) (words : List ℤ) (xs : List Activation) (top : ℕ)
    (stack : Stacked (with_sight G AllWords lie) top xs) (count : length words ≡ whole (with_sight G AllWords lie)) (D : DataMeans (with_sight G AllWords lie) xs (in_sight (with_sight G AllWords lie)) store words) where
  abbrev H : Ground
  H = with_sight G AllWords lie

  abbrev shared : Ground
  shared = kernel_ground G.program G.texts G.setup

  abbrev ws : List ℤ
  ws = take G.own words

  abbrev us : List ℤ
  us = drop G.own words

  enough : G.own ≤ length words
  enough = omega (arith, count)

  whole_is : whole G ≡ G.own
  whole_is = ap (λ v. words_seen v G.program G.own) sight

  pub own_count : length ws ≡ whole G
  own_count = length-take-le G.own words enough ∙ sym whole_is

  pub before : (i : ℕ) → i < G.own → word ws i ≡ word words i
  before i h = sym (get_or_append_left ws us (pos 0) i (omega (arith, h, length-take-le G.own words enough))) ∙ ap (λ z. word z i) (take-append-drop G.own words)

  behind : (i : ℕ) → word us i ≡ word words (G.own + i)
  behind i = sym (get_or-append-add ws us i (pos 0)) ∙ (ap (λ z. word (ws ++ us) (z + i)) (length-take-le G.own words enough) ∙ ap (λ z. word z (G.own + i)) (take-append-drop G.own words))

  seen_all : (q : Owner) → in_sight G q ≡ true → in_sight H q ≡ true
  seen_all (OfProcess r) h = subst (λ v. sees v G.p (OfProcess r) ≡ true) sight h
  seen_all (OfActivation r d) h = subst (λ v. sees v G.p (OfActivation r d) ≡ true) sight h
  seen_all (OfMonitor m) h = refl

  is_mine : (q : Owner) → in_sight G q ≡ true → is_shared q ≡ false
  is_mine (OfProcess r) h = refl
  is_mine (OfActivation r d) h = refl
  is_mine (OfMonitor m) h = absurd (true≢false (sym (subst (λ v. sees v G.p (OfMonitor m) ≡ true) sight h)))

  shared_seen : (q : Owner) → is_shared q ≡ true → in_sight H q ≡ true
  shared_seen (OfMonitor m) h = refl
  shared_seen (OfProcess r) h = absurd (true≢false (sym h))
  shared_seen (OfActivation r d) h = absurd (true≢false (sym h))

  -- ---- the process's own words

  right_here : (at : Location) (s : System) (n m : ℕ) (x : Name) (v : Variable) → is_shared at.owner ≡ false → ComponentLies G at s n → right (scope G) s x ≡ Some (m, v) → n + m < top
  right_here at s n m x v own (ProcessLies where' is zero') r =
      omega (arith, zero', (right_within 1 (rights (scope G) s) x m v r).1, bottom_below H top xs stack.stack s is)
  right_here at s n m x v own (MonitorLies j where' is from) r = absurd (true≢false (ap (λ (l : Location). is_shared l.owner) (sym where') ∙ own))
  right_here at s n m x v own (ClassLies sort is) r =
      own_below H xs top stack at n (component_type G s) m own (subst IsClass (sym sort) tt, omega (arith, (right_within 1 (rights (scope G) s) x m v r).1)) (lies_any H xs at _ (same_lies G AllWords lie [] at ∙ is))

  pub data_own : DataMeans G xs (in_sight G) store ws
  data_own = record {
    cells = λ l n t mine is. elim (is_cell t) [ inl c ↦ cell l n t mine is c | inr f ↦ f (store l) (word ws n) ];
    rights = λ at s n m x v mine cl is none.
        subst (RightMeans G v.type (store (under at (ByName x ∷ []))) (n + m)) (sym (before (n + m) (below (n + m) (right_here at s n m x v (is_mine at.owner mine) cl is))))
        (right_means H G.sight G.monitors_lie v.type (store (under at (ByName x ∷ []))) (n + m) (word words (n + m))
        (D.rights at s n m x v (seen_all at.owner mine) (component_there G AllWords lie at s n cl) is none));
    given = λ at s n mine sort is set. D.given at s n (seen_all at.owner mine) sort (same_lies G AllWords lie [] at ∙ is) set;
  }
    where
      below : (i : ℕ) → i < top → i < G.own
      below i h = omega (arith, h, stack.fits)

      cell : (l : Location) (n : ℕ) (t : ResolvedType) → in_sight G l.owner ≡ true → lies G xs l ≡ Some (n, t) → IsCell t → CellMeans t (store l) (word ws n)
      cell l n t mine is c =
          let there : lies H xs l ≡ Some (n, t) = same_lies G AllWords lie xs l ∙ is in
          let low = own_below H xs top stack l n t 0 (is_mine l.owner mine) (cell_head (scope G) t c) there in
          subst (CellMeans t (store l)) (sym (before n (omega (arith, low, stack.fits)))) (D.cells l n t (seen_all l.owner mine) there)

  -- ---- the words of the monitors

  right_unshifted : (t : ResolvedType) (l : Location) (at : ℕ) (n : ℤ) → is_shared l.owner ≡ true → RightMeans H t (store l) (G.own + at) n → RightMeans shared t (store l) at n
  right_unshifted (ComponentOf s inner) l at n mine h = by s.sort (store l) refl h
    where
      nearer : (o a k : ℕ) (n : ℤ) → 1 ≤ k → natural (pos (o + a) +ℤ n) ≡ o + k → k ≡ natural (pos a +ℤ n)
      nearer o a k n h e = Prim.grind (arith, ints, h, e)

      by : (z : Sort) (v : Value) → store l ≡ v → RightOf H s z v (G.own + at) n → RightOf shared s z v at n
      by Monitor (MonitorRight m) is h = h
      by Monitor Absent is h = h
      by Class (ClassRight j) is h =
          let q = unshifted G lie [] j (natural (pos (G.own + at) +ℤ n)) (component_type G s) (ap is_shared (I.classes l j is) ∙ mine) h in
          q.2 ∙ ap (λ z. Some (z, component_type G s)) (nearer G.own at q.0 n (not_first G lie j q.0 (component_type G s) q.2).1 q.1)
      by Class Absent is h = h
      by Process v is h = tt
      by _ _ is h = absurd h
  right_unshifted (Simple b low high start) l at n mine h = tt
  right_unshifted (ArrayOf low high t) l at n mine h = tt
  right_unshifted (RecordOf ms) l at n mine h = tt
  right_unshifted Queue l at n mine h = tt
  right_unshifted NoType l at n mine h = tt

  pub data_shared : DataMeans shared [] is_shared store us
  data_shared = record {
    cells = λ l n t mine is. subst (CellMeans t (store l)) (sym (behind n)) (D.cells l (G.own + n) t (shared_seen l.owner mine) (shifted G lie xs l n t mine is));
    rights = λ at s n m x v mine cl is none.
        right_unshifted v.type (under at (ByName x ∷ [])) (n + m) (word us (n + m)) mine
        (subst (RightMeans H v.type (store (under at (ByName x ∷ []))) (G.own + (n + m))) (sym (behind (n + m)))
        (subst (λ z. RightMeans H v.type (store (under at (ByName x ∷ []))) z (word words z)) (omega arith)
        (D.rights at s (G.own + n) m x v (shared_seen at.owner mine) (farther_there at s n mine cl) is none)));
    given = λ at s n mine sort is set. D.given at s (G.own + n) (shared_seen at.owner mine) sort (shifted G lie [] at n (component_type G s) mine is) set;
  }
    where
      farther_there : (at : Location) (s : System) (n : ℕ) → is_shared at.owner ≡ true → ComponentLies shared at s n → ComponentLies H at s (G.own + n)
      farther_there at s n mine (ProcessLies where' is zero') = absurd (true≢false (sym mine ∙ ap (λ (l : Location). is_shared l.owner) where'))
      farther_there at s n mine (MonitorLies m where' is from) = MonitorLies m where' is (omega (arith, from))
      farther_there at s n mine (ClassLies sort is) = ClassLies sort (shifted G lie [] at n (component_type G s) mine is)

  pub shared_count : length (drop G.own words) ≡ G.program.shared
  shared_count = omega (arith, length-drop G.own words, count)

-- ---- what runs on

module _ (G : Ground) (sight : G.sight ≡ OwnWords) (lie : MonitorsLie G.program G.setup) (store : Store) (I : StoreInvariant store) (o : PrivateState) (k : List Task)
    (R : RunsOn (with_sight G AllWords lie) store o k) where
  abbrev all : Ground
  all = with_sight G AllWords lie

  abbrev ys : List Activation
  ys = activations o.base o.frames k

  abbrev place : ℕ
  place = o.base + (site G R.running).words

  ran : Stacked all place ys
  ran = runs_stacked all store o k R

  pub runs_parted : RunsOn G store (record o { words = take G.own o.words }) k
  runs_parted = record {
    at = at_there all G.sight G.monitors_lie (control o) k R.at;
    words_mean = record {
      count = own_count G sight lie store I o.words ys place ran R.count R.data_means;
      activations_mean = mean_there all G.sight G.monitors_lie store (take G.own o.words) o.base o.frames k
          (activations_kept all store store o.words (take G.own o.words) o.temps o.limit o.base (held_below R.live o.temps R.running.temp) R.running o.frames o.counter R.running.unit.temps k R.left
          (each_kept all store store o.words (take G.own o.words) ys kept) R.activations_mean);
      data_means = data_own G sight lie store I o.words ys place ran R.count R.data_means;
      given = rights_there all G.sight G.monitors_lie store (components o.component o.frames) R.given;
    };
  }
    where
      same : (i : ℕ) → i < G.own → word (take G.own o.words) i ≡ word o.words i
      same i h = before G sight lie store I o.words ys place ran R.count R.data_means i h

      kept : (d : ℕ) (z : Activation) → activation_at d ys ≡ Some z → KeepsActivation all store store o.words (take G.own o.words) d z
      kept d z there = (
        λ x at v is by_reference. (refl, same (z.base + at) (omega (arith, inside.0, (reference_inside (scope G) z.routine x at v is by_reference).1, ran.fits))),
        λ t is none. (refl, same z.base (omega (arith, inside.0, result_inside (scope G) z.routine t is, ran.fits))),
      )
        where
          inside : (z.base + activation_words (scope G) z.routine ≤ place) × ((s : System) → system_of_process G.setup G.p ≡ Some s → component_words (scope G) s ≤ z.base)
          inside = found_inside all place d ys z ran.stack there
