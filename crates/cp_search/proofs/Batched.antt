-- What workers have found, while states are added.
use Rattle.std.specs.Prelude.{All, IfSome, List, None, Option, Some, Vec, [], length, refl, slice_get, slice_index_or, ℕ, ◌<◌, ◌≡◌}
use Rattle.std.proofs.lemmas.List.Elements.{All-get_or}
use Rattle.std.proofs.lemmas.Option.{get_or_from_slice_get, slice_get_within}
use Rattle.std.proofs.Common.{Bor, arith, subst, sym, ◌∙◌}
use Rattle.std.specs.Global.{Global}
use Rattle.cp_model.proofs.Options.{same_some}
use Rattle.cp_model_program.specs.Programs.{Program}
use Rattle.cp_law_calls.specs.Ways.{Late}
use Rattle.cp_law_cores.specs.Cores.{Core}
use Rattle.cp_law_cores.proofs.Parts.{none_is}
use Rattle.cp_law_search.specs.Calls.{move_at, way_at}
use Rattle.cp_law_exploring.specs.Exploring.{Grows, SettlesQuietly}
use Rattle.cp_search_states.specs.Alone.{AreNumbered, IsResting}
use Rattle.cp_search_states.specs.SearchStates.{core_of}
use Rattle.cp_search_states.specs.declared.state.SearchState.{SearchState}
use Rattle.cp_search_store.specs.States.{IsAdded, IsBelow, IsNumbered, core_at, core_numbered, cores_of, state_count}
use Rattle.cp_search_store.specs.declared.moves.Move.{Move}
use Rattle.cp_search_store.specs.declared.store.Store.{Store}
use Rattle.cp_search_store.proofs.Growing.{below_more, numbered_below, numbered_is}
use Rattle.cp_search_store.proofs.Numbered.{extended_length, kernel_kept, parts_kept}
use Rattle.cp_search.specs.SearchResults.{IsCoveredNow, IsReady, KeepsNumbers}
use Rattle.cp_search.specs.Batches.{AreFound, IsAmong, IsEarlyAt, IsNext, IsStep, LeadsToNumbers}
use Rattle.cp_search.specs.declared.scout.Found.{Found}
use Rattle.cp_search.specs.declared.scout.Next.{Next}
use Rattle.cp_search.specs.declared.scout.Next.TheVariants as next
use Rattle.cp_search.proofs.Lists.{got_grown}
use Rattle.cp_search.proofs.Searched.{cores_at, cores_count, longer_by, rests_settled, row_added, tried_no, tried_yes}

module _ (program : Program) (inputs : ℕ → List ℕ) where
  -- ---- What is found

  pub early_found : (store : Store) (i p : ℕ) (c : Core) → i < state_count store → c ≡ core_at inputs store i → (way_at program c p ≡ Late → ⊥)
      → IsEarlyAt program inputs store i p
  early_found store i p c below is early = record { within = below; early = subst (λ (d : Core). way_at program d p ≡ Late → ⊥) is early }

  pub leads_found : (store : Store) (i p k : ℕ) (numbers : List ℕ) (c : Core) (state : SearchState) → i < state_count store → c ≡ core_at inputs store i
      → SettlesQuietly program (move_at program c p) (core_of inputs state) → AreNumbered program (core_of inputs state) → IsNumbered store state store k numbers
      → LeadsToNumbers program inputs store i p k numbers
  leads_found store i p k numbers c state below is settles own h =
      let there : core_numbered inputs store k numbers ≡ core_of inputs state = numbered_is store store state k numbers h inputs in
      record {
        within = below;
        kernel_below = h.kernel_is.within;
        parts_below = numbered_below store store state k numbers h;
        settles = subst (λ (d : Core). SettlesQuietly program (move_at program (core_at inputs store i) p) d) (sym there)
            (subst (λ (b : Core). SettlesQuietly program (move_at program b p) (core_of inputs state)) is settles);
        rests = subst (IsResting program) (sym there) (rests_settled program inputs (move_at program c p) (core_of inputs state) settles own);
      }

  -- ---- While states are added

  module _ (old new : Store) (g : Grows (cores_of inputs old) (cores_of inputs new)) (keeps : KeepsNumbers old new) where
    core_same : (i : ℕ) → i < state_count old → core_at inputs new i ≡ core_at inputs old i
    core_same i below =
        let longer = longer_by program inputs old new g in
        let count = cores_count inputs old in
        let there = cores_at inputs new i (omega (arith, longer, below)) in
        same_some (core_at inputs new i) (core_at inputs old i)
        (sym (got_grown (cores_of inputs old) (cores_of inputs new) i (core_at inputs new i) g (omega (arith, count, below)) there) ∙ cores_at inputs old i below)

    numbered_same : (k : ℕ) (numbers : List ℕ) → k < length old.kernels.kernels.items → All (IsBelow (length old.parts.privates.items)) numbers
        → core_numbered inputs new k numbers ≡ core_numbered inputs old k numbers
    numbered_same k numbers low all =
        let kernel = kernel_kept old.kernels.kernels.items new.kernels.kernels.items k keeps.kernels low in
        let parts = parts_kept inputs old.parts.privates.items new.parts.privates.items 1 numbers keeps.parts all in
        λ j. record { kernel = kernel j; parts = parts j }

    next_grown : (i p : ℕ) (n : Next) → IsNext program inputs old i p n → IsNext program inputs new i p n
    next_grown i p next.NotLate h =
        let longer = longer_by program inputs old new g in
        let within = h.within in
        record {
          within = omega (arith, longer, within);
          early = subst (λ (c : Core). way_at program c p ≡ Late → ⊥) (sym (core_same i within)) h.early;
        }
    next_grown i p (next.Leads k row) h =
        let longer = longer_by program inputs old new g in
        let more = extended_length old.kernels.kernels.items new.kernels.kernels.items keeps.kernels in
        let within = h.within in
        let low = h.kernel_below in
        let same = numbered_same k row.items low h.parts_below in
        record {
          within = omega (arith, longer, within);
          kernel_below = omega (arith, more, low);
          parts_below = below_more old.parts.privates.items new.parts.privates.items row.items keeps.parts h.parts_below;
          settles = subst (λ (d : Core). SettlesQuietly program (move_at program (core_at inputs new i) p) d) (sym same)
              (subst (λ (c : Core). SettlesQuietly program (move_at program c p) (core_numbered inputs old k row.items)) (sym (core_same i within)) h.settles);
          rests = subst (IsResting program) (sym same) h.rests;
        }

    pub some_grown : (i p : ℕ) (o : Option (Bor Found)) → IfSome o (λ f. IsNext program inputs old i p f.now.next) → IfSome o (λ f. IsNext program inputs new i p f.now.next)
    some_grown i p None h = tt
    some_grown i p (Some f) h = next_grown i p f.now.next h

    pub found_grown : (all : List (Vec Found Global)) → AreFound program inputs old all → AreFound program inputs new all
    found_grown all h = record {
      each = λ f among. record { is = next_grown f.index f.process f.next (h.each f among).is };
    }

  pub all_found : (store : Store) (all : List (Vec Found Global)) → ((n : ℕ) (d : Vec Found Global) → n < length all → All (IsStep program inputs store) (slice_index_or all n d).items)
      → AreFound program inputs store all
  all_found store all each = record {
    each = λ f among.
        let steps = among.steps in
        let here = subst (λ (v : Vec Found Global). All (IsStep program inputs store) v.items) (get_or_from_slice_get all among.worker steps steps among.whose)
        (each among.worker steps (slice_get_within all among.worker steps among.whose)) in
        subst (IsStep program inputs store) (get_or_from_slice_get steps.items among.place f f among.there)
        (All-get_or (IsStep program inputs store) steps.items among.place f (slice_get_within steps.items among.place f among.there) here);
  }

  pub found_none : (store : Store) (all : List (Vec Found Global)) → all ≡ [] → AreFound program inputs store all
  found_none store all none = record {
    each = λ f among. absurd (none_is among.steps (subst (λ (l : List (Vec Found Global)). slice_get l among.worker ≡ Some among.steps) none among.whose));
  }

  -- ---- When it is taken

  -- What was found of a late step, if something was.
  pub next_taken : (store : Store) (all : List (Vec Found Global)) (i p : ℕ) (o : Option (Bor Found)) → IfSome o (λ f. f.now.index ≡ i) → IfSome o (λ f. f.now.process ≡ p)
      → IfSome o (λ f. IsAmong f.now all) → AreFound program inputs store all → IfSome o (λ f. IsNext program inputs store i p f.now.next)
  next_taken store all i p None index process among h = tt
  next_taken store all i p (Some f) index process among h =
      subst (λ (q : ℕ). IsNext program inputs store i q f.now.next) process
      (subst (λ (j : ℕ). IsNext program inputs store j f.now.process f.now.next) index (h.each f.now among).is)

  pub early_taken : (store : Store) (ms : List Move) (i p : ℕ) → IsReady program inputs store ms → IsEarlyAt program inputs store i p → IsCoveredNow program inputs i p store store ms
  early_taken store ms i p ready h = tried_no program inputs ms i p store (core_at inputs store i) h.within ready refl h.early

  pub leads_taken : (store new : Store) (ms : List Move) (i p k : ℕ) (numbers : List ℕ) → IsReady program inputs store ms → LeadsToNumbers program inputs store i p k numbers
      → IsAdded store k numbers new → IsCoveredNow program inputs i p store new ms
  leads_taken store new ms i p k numbers ready h added =
      tried_yes program inputs ms i p store new (core_at inputs store i) (core_numbered inputs store k numbers) h.within ready refl h.settles h.rests
      (row_added program inputs store new k numbers (core_numbered inputs store k numbers) refl added)
