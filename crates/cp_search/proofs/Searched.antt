-- What a search keeps of the states that it has seen.
use Rattle.std.specs.Prelude.{Bool, Contains, List, Some, [], false, length, map, nat_eq, refl, slice_get, suc, ℕ, ◌+◌, ◌<◌, ◌∷◌, true, ◌≡◌, ◌≤◌}
use Rattle.std.proofs.Common.{ap, arith, subst, sym, ◌∙◌}
use Rattle.std.proofs.lemmas.Bool.{eqb-false, eqb-true}
use Rattle.std.proofs.lemmas.Option.{slice_get-get_or}
use Rattle.cp_model.proofs.Options.{same_some}
use Rattle.cp_model.specs.States.{Setup, process_count}
use Rattle.cp_model_program.specs.Programs as code
use Rattle.cp_model_program.specs.Programs.{Program}
use Rattle.cp_model_program.specs.IsProgramFor.{IsProgramFor}
use Rattle.cp_model_machine.specs.Machines.{first_machine, first_part, first_parts}
use Rattle.cp_law_calls.specs.Ways.{Late}
use Rattle.cp_law_cores.specs.Clocks.{is_timeless}
use Rattle.cp_law_cores.specs.Cores.{Core, close, core, silent}
use Rattle.cp_law_cores.specs.Laws.{first_core}
use Rattle.cp_law_cores.specs.Turns.{AreSilent}
use Rattle.cp_law_cores.proofs.Parts.{from_map, none_is}
use Rattle.cp_law_search.specs.Calls.{move_at, way_at}
use Rattle.cp_law_exploring.specs.Laws.{FirstIsClosed}
use Rattle.cp_law_exploring.specs.Exploring.{AreExpanded, Grows, IsCoveredBelow, LeadsInto, SettlesQuietly, SettlesAs, count}
use Rattle.cp_law_servers.specs.Laws.{ExpandedReportsServed}
use Rattle.cp_law_servers.specs.Servers.{AreServed}
use Rattle.cp_search_states.specs.SearchStates.{core_of}
use Rattle.cp_search_states.specs.Verdicts.{IsFine}
use Rattle.cp_search_states.specs.declared.state.SearchState.{SearchState}
use Rattle.cp_search_states.specs.Alone.{AreNumbered, IsResting}
use Rattle.cp_search_store.specs.Moves.{AreTrue}
use Rattle.cp_search_store.specs.States.{AreResting, HasMoreParts, IsAdded, IsSound, core_at, core_numbered, cores_of, state_count}
use Rattle.cp_search_store.specs.declared.moves.Move.{Move}
use Rattle.cp_search_store.specs.declared.store.Store.{Store}
use Rattle.cp_search_store.proofs.Growing.{more_cores, more_sound}
use Rattle.cp_search_store.proofs.Listed.{listed_at, listed_count}
use Rattle.cp_search_store.proofs.Made.{all_true_more, none_true}
use Rattle.cp_search_store.proofs.Numbered.{extends_more, extends_not}
use Rattle.cp_search.specs.SearchResults.{HasAdded, HasExpanded, HasExplored, IsCoveredNow, IsReady, KeepsNumbers, NothingIsStuck}
use Rattle.cp_search.proofs.Lists.{below_grown, below_more, expanded_grown, expanded_more, got_grown, grown_length, grows_more, grows_not, leads_grown}

-- ---- States and their cores

pub cores_at : (inputs : ℕ → List ℕ) (store : Store) (i : ℕ) → i < state_count store → slice_get (cores_of inputs store) i ≡ Some (core_at inputs store i)
cores_at inputs store i below = listed_at (core_at inputs store) (state_count store) i below

pub cores_count : (inputs : ℕ → List ℕ) (store : Store) → length (cores_of inputs store) ≡ state_count store
cores_count inputs store = listed_count (core_at inputs store) (state_count store)

-- ---- Numbers of parts

pub keeps_not : (store : Store) → KeepsNumbers store store
keeps_not store = record {
  kernels = extends_not store.kernels.kernels.items store.kernels.kernels.items refl;
  parts = extends_not store.parts.privates.items store.parts.privates.items refl;
}

pub keeps_twice : (old mid new : Store) → KeepsNumbers old mid → KeepsNumbers mid new → KeepsNumbers old new
keeps_twice old mid new one two = record {
  kernels = extends_more old.kernels.kernels.items mid.kernels.kernels.items new.kernels.kernels.items one.kernels two.kernels;
  parts = extends_more old.parts.privates.items mid.parts.privates.items new.parts.privates.items one.parts two.parts;
}

pub keeps_more : (old new : Store) → HasMoreParts old new → KeepsNumbers old new
keeps_more old new h = record { kernels = h.kernels; parts = h.parts }

-- ---- Adding

module _ (program : Program) (inputs : ℕ → List ℕ) where
  pub rests_settled : (x d : Core) → SettlesQuietly program x d → AreNumbered program d → IsResting program d
  rests_settled x d h numbers = record { quiet = h.rests; settled = h.settles.settled; numbers = numbers }

  -- No state has been added, but parts may have been.
  pub more_grows : (old new : Store) → IsSound old → HasMoreParts old new → Grows (cores_of inputs old) (cores_of inputs new)
  more_grows old new sound h = subst (Grows (cores_of inputs old)) (sym (more_cores old new h sound inputs)) (grows_not (cores_of inputs old))

  pub more_ready : (old new : Store) (ms : List Move) → IsReady program inputs old ms → HasMoreParts old new → IsReady program inputs new ms
  more_ready old new ms ready h = record {
    sound = more_sound old new h ready.sound;
    rest = subst (AreResting program) (sym (more_cores old new h ready.sound inputs)) ready.rest;
    true_moves = all_true_more program old.kernels.kernels.items new.kernels.kernels.items old.parts.privates.items new.parts.privates.items h.kernels h.parts inputs ms ready.true_moves;
  }

  -- A state has been added by the numbers of its parts.
  pub row_added : (old new : Store) (k : ℕ) (numbers : List ℕ) (c : Core) → core_numbered inputs old k numbers ≡ c → IsAdded old k numbers new → HasAdded program inputs old c new
  row_added old new k numbers c is h = record {
    grows = h.grows inputs;
    keeps = record {
      kernels = extends_not old.kernels.kernels.items new.kernels.kernels.items h.kernels;
      parts = extends_not old.parts.privates.items new.parts.privates.items h.parts;
    };
    known = subst (Contains (cores_of inputs new)) is (h.known inputs);
    ready = λ ms ready resting. record {
      sound = h.sound;
      rest = h.rest program inputs ready.rest (subst (IsResting program) (sym is) resting);
      true_moves = subst (λ l. AreTrue program inputs new.kernels.kernels.items l ms) (sym h.parts)
          (subst (λ l. AreTrue program inputs l old.parts.privates.items ms) (sym h.kernels) ready.true_moves);
    };
  }

  -- The same, after parts have been added.
  pub added_after : (old mid new : Store) (c : Core) → IsSound old → HasMoreParts old mid → HasAdded program inputs mid c new → HasAdded program inputs old c new
  added_after old mid new c sound more h = record {
    grows = grows_more (cores_of inputs old) (cores_of inputs mid) (cores_of inputs new) (more_grows old mid sound more) h.grows;
    keeps = keeps_twice old mid new (keeps_more old mid more) h.keeps;
    known = h.known;
    ready = λ ms ready resting. h.ready ms (more_ready old mid ms ready more) resting;
  }

-- ---- Trying

module _ (program : Program) (inputs : ℕ → List ℕ) (ms : List Move) where
  pub tried_no : (i p : ℕ) (store : Store) (c : Core) → i < state_count store → IsReady program inputs store ms → c ≡ core_at inputs store i
      → (way_at program c p ≡ Late → ⊥) → IsCoveredNow program inputs i p store store ms
  tried_no i p store c below ready is early = record {
    grows = grows_not (cores_of inputs store);
    keeps = keeps_not store;
    ready = ready;
    tried = λ v e late. absurd (early (subst (λ w. way_at program w p ≡ Late) (same_some v c (sym e ∙ (cores_at inputs store i below ∙ ap (λ (w : Core). Some w) (sym is)))) late));
  }

  pub tried_yes : (i p : ℕ) (store new : Store) (c d : Core) → i < state_count store → IsReady program inputs store ms → c ≡ core_at inputs store i
      → SettlesQuietly program (move_at program c p) d → IsResting program d → HasAdded program inputs store d new → IsCoveredNow program inputs i p store new ms
  tried_yes i p store new c d below ready is settles resting added = record {
    grows = added.grows;
    keeps = added.keeps;
    ready = added.ready ms ready resting;
    tried = λ v e late.
        let there = got_grown (cores_of inputs store) (cores_of inputs new) i v added.grows (let count = cores_count inputs store in omega (arith, count, below)) e in
        let same : c ≡ v = is ∙ same_some (core_at inputs store i) v (sym (cores_at inputs store i below) ∙ there) in
        record {
          member = d;
          known = added.known;
          settles = subst (λ w. SettlesAs program (move_at program w p) d) same settles.settles;
        };
  }

  -- What is tried after parts have been added.
  pub tried_after : (i p : ℕ) (old mid new : Store) → IsSound old → HasMoreParts old mid → IsCoveredNow program inputs i p mid new ms → IsCoveredNow program inputs i p old new ms
  tried_after i p old mid new sound more h = record {
    grows = grows_more (cores_of inputs old) (cores_of inputs mid) (cores_of inputs new) (more_grows program inputs old mid sound more) h.grows;
    keeps = keeps_twice old mid new (keeps_more old mid more) h.keeps;
    ready = h.ready;
    tried = h.tried;
  }

module _ (program : Program) (inputs : ℕ → List ℕ) where
  pub expanded_one : (i k : ℕ) (store new : Store) (ms : List Move) → i < state_count store
      → IsCoveredBelow program (cores_of inputs store) i (k + 1) → IsCoveredNow program inputs i (k + 1) store new ms
      → IsCoveredBelow program (cores_of inputs new) i (k + 1 + 1)
  expanded_one i k store new ms below was tried =
      let count = cores_count inputs store in
      below_more program (cores_of inputs new) i (k + 1)
      (below_grown program (cores_of inputs store) (cores_of inputs new) i (k + 1) tried.grows (omega (arith, count, below)) was) tried.tried

  pub explored_one : (i : ℕ) (store new : Store) (ms : List Move) → i < state_count store → AreExpanded program (cores_of inputs store) i → HasExpanded program inputs i store new ms
      → AreExpanded program (cores_of inputs new) (i + 1)
  explored_one i store new ms below was h =
      let count = cores_count inputs store in
      expanded_more program (cores_of inputs new) i
      (expanded_grown program (cores_of inputs store) (cores_of inputs new) i h.grows (omega (arith, count, below)) was) h.expanded

  pub longer_by : (old new : Store) → Grows (cores_of inputs old) (cores_of inputs new) → state_count old ≤ state_count new
  longer_by old new g =
      let one = cores_count inputs old in
      let two = cores_count inputs new in
      let more = grown_length (cores_of inputs old) (cores_of inputs new) g in
      omega arith

  -- All states have been expanded.
  pub explored_all : (i : ℕ) (old new : Store) → Grows (cores_of inputs old) (cores_of inputs new) → AreExpanded program (cores_of inputs new) i → i ≡ state_count new
      → HasExplored program inputs old new
  explored_all i old new g all end = record {
    grows = g;
    all = subst (AreExpanded program (cores_of inputs new)) (end ∙ sym (cores_count inputs new)) all;
  }

-- ---- The start

same_parts : (program : Program) (f g : ℕ → List ℕ) (n : ℕ) (rows : List code.Process) → ((p : ℕ) → n ≤ p → p < n + length rows → f p ≡ g p)
    → first_parts program f n rows ≡ first_parts program g n rows
same_parts program f g n [] same = refl
same_parts program f g n (row ∷ rows) same =
    let first : first_part program f n row ≡ first_part program g n row =
    ap (λ (l : List ℕ). first_part program (λ q. l) n row) (same n (omega arith) (omega arith)) in
    let rest = same_parts program f g (suc n) rows (λ p h below. same p (omega (arith, h)) (omega (arith, below))) in
    λ i. first i ∷ rest i

same_first : (program : Program) (setup : Setup) (inputs : ℕ → List ℕ) → IsProgramFor program setup → ((p : ℕ) → 1 ≤ p → p ≤ process_count setup → inputs p ≡ setup.inputs p)
    → core (first_machine program 1 inputs) ≡ first_core program setup
same_first program setup inputs represents same =
    let rows = represents.process_rows in
    let parts = same_parts program inputs setup.inputs 1 program.processes (λ p low high. same p low (omega (arith, high, rows))) in
    λ j. record { kernel = (first_core program setup).kernel; parts = map silent (parts j) }

pub first_is_silent : (program : Program) (inputs : ℕ → List ℕ) (c : Core) → c ≡ core (first_machine program 1 inputs) → AreSilent c
first_is_silent program inputs c is = subst AreSilent (sym is) (record {
  silence = λ p o e.
      let f = from_map silent (first_parts program inputs 1 program.processes) p o e in
      subst (λ z. silent z ≡ z) f.2 refl;
})

-- ---- What it shows

pub nothing_stuck : (servers : List ℕ) (program : Program) (inputs : ℕ → List ℕ) (start first : SearchState) (none store new : Store)
    → FirstIsClosed → ExpandedReportsServed → is_timeless program ≡ true
    → core_of inputs start ≡ core (first_machine program 1 inputs) → SettlesQuietly program (close program (core_of inputs start)) (core_of inputs first)
    → HasAdded program inputs none (core_of inputs first) store → HasExplored program inputs store new → AreServed servers (count program) (cores_of inputs new) → NothingIsStuck servers program inputs
nothing_stuck servers program inputs start first none store new closed reports timeless starts rests added explored fine = record {
  fine = λ setup represents given.
      let begins : close program (core_of inputs start) ≡ first_core program setup =
      ap (close program) (starts ∙ same_first program setup inputs represents given) ∙ closed program setup in
      let leads : LeadsInto program (cores_of inputs store) (first_core program setup) = record {
        member = core_of inputs first;
        known = added.known;
        settles = subst (λ x. SettlesAs program x (core_of inputs first)) begins rests.settles;
      } in
      reports servers program setup (cores_of inputs new) represents timeless explored.all (leads_grown program (cores_of inputs store) (cores_of inputs new) _ explored.grows leads) fine;
}

pub none_ready : (program : Program) (inputs : ℕ → List ℕ) (store : Store) (ms : List Move) → IsSound store → cores_of inputs store ≡ [] → ms ≡ [] → IsReady program inputs store ms
none_ready program inputs store ms sound is none = record {
  sound = sound;
  rest = subst (AreResting program) (sym is) (record { each = λ i v e. absurd (none_is v e) });
  true_moves = none_true program inputs store.kernels.kernels.items store.parts.privates.items ms none;
}

-- ---- Fine states

pub record AreFineBelow (servers : List ℕ) (n : ℕ) (store : Store) (i : ℕ) : Type 0 where
  pub each : (j : ℕ) → j < i → (inputs : ℕ → List ℕ) → IsFine servers n (core_at inputs store j)

pub fine_none : (servers : List ℕ) (n : ℕ) (store : Store) → AreFineBelow servers n store 0
fine_none servers n store = record { each = λ j less. absurd (omega (arith, less)) }

pub fine_more : (servers : List ℕ) (n : ℕ) (store : Store) (i : ℕ) → ((inputs : ℕ → List ℕ) → IsFine servers n (core_at inputs store i)) → AreFineBelow servers n store i → AreFineBelow servers n store (i + 1)
fine_more servers n store i fine was = record { each = λ j less inputs. by j less inputs (nat_eq j i) refl }
  where
    by : (j : ℕ) → j < i + 1 → (inputs : ℕ → List ℕ) → (b : Bool) → nat_eq j i ≡ b → IsFine servers n (core_at inputs store j)
    by j less inputs true g = subst (λ (k : ℕ). IsFine servers n (core_at inputs store k)) (sym (eqb-true j i g)) (fine inputs)
    by j less inputs false g = let apart = eqb-false j i g in was.each j (omega (arith, less, apart)) inputs

pub fine_all : (servers : List ℕ) (n : ℕ) (store : Store) (inputs : ℕ → List ℕ) → AreFineBelow servers n store (state_count store) → AreServed servers n (cores_of inputs store)
fine_all servers n store inputs all = record { sound = λ c known. (at c known).sound; done = λ c known. (at c known).done }
  where
    at : (c : Core) → Contains (cores_of inputs store) c → IsFine servers n c
    at c known =
        let vs = cores_of inputs store in
        let count = cores_count inputs store in
        let within = known.1 in
        let below : known.0 < state_count store = omega (arith, count, within) in
        let got : slice_get vs known.0 ≡ Some c = slice_get-get_or vs known.0 c known.1 ∙ ap (λ (z : Core). Some z) known.2 in
        let same : core_at inputs store known.0 ≡ c = same_some (core_at inputs store known.0) c (sym (cores_at inputs store known.0 below) ∙ got) in
        subst (IsFine servers n) same (all.each known.0 below inputs)
