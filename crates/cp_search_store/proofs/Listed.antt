-- The cores of a store, as a list.
use Rattle.std.specs.Prelude.{Bool, Contains, List, Some, [], length, nat_eq, refl, slice_get, slice_index_or, suc, true, false, zero, ℕ, ◌+◌, ◌++◌, ◌<◌, ◌∷◌, ◌≡◌, ◌≤◌}
use Rattle.std.proofs.Common.{ap, arith, sym, ◌∙◌}
use Rattle.std.proofs.lemmas.Bool.{eqb-false, eqb-true}
use Rattle.std.proofs.lemmas.Option.{get_or_from_slice_get, slice_get_within}
use Rattle.cp_law_cores.specs.Cores.{Core}
use Rattle.cp_law_exploring.specs.Exploring.{Grows}
use Rattle.cp_search_states.proofs.Items.{longer}
use Rattle.cp_search_store.specs.States.{listed}
use Rattle.cp_search_store.proofs.Numbered.{got_front, got_last}

pub listed_count : (f : ℕ → Core) (n : ℕ) → length (listed f n) ≡ n
listed_count f zero = refl
listed_count f (suc n) = longer (listed f n) (f n) ∙ ap suc (listed_count f n)

pub listed_at : (f : ℕ → Core) (n i : ℕ) → i < n → slice_get (listed f n) i ≡ Some (f i)
listed_at f zero i below = absurd (omega (arith, below))
listed_at f (suc n) i below = by (λ before. listed_at f n i before) (nat_eq i n) refl
  where
    count : length (listed f n) ≡ n
    count = listed_count f n

    by : (i < n → slice_get (listed f n) i ≡ Some (f i)) → (b : Bool) → nat_eq i n ≡ b → slice_get (listed f n ++ f n ∷ []) i ≡ Some (f i)
    by front true g =
        let at = eqb-true i n g in
        ap (slice_get (listed f n ++ f n ∷ [])) (at ∙ sym count) ∙ (got_last (listed f n) (f n) ∙ ap (λ k. Some (f k)) (sym at))
    by front false g =
        let apart = eqb-false i n g in
        let c = count in
        let before : i < n = omega (arith, below, apart) in
        got_front (listed f n) (f n ∷ []) i (omega (arith, c, before)) ∙ front before

pub listed_same : (f g : ℕ → Core) (n : ℕ) → ((i : ℕ) → i < n → f i ≡ g i) → listed f n ≡ listed g n
listed_same f g zero same = refl
listed_same f g (suc n) same =
    let front = listed_same f g n (λ i below. same i (omega (arith, below))) in
    let last = same n (omega arith) in
    λ j. front j ++ last j ∷ []

pub contained : (vs : List Core) (i : ℕ) (v : Core) → slice_get vs i ≡ Some v → Contains vs v
contained vs i v e = (i, slice_get_within vs i v e, get_or_from_slice_get vs i v v e)

pub listed_has : (f : ℕ → Core) (n i : ℕ) (v : Core) → i < n → f i ≡ v → Contains (listed f n) v
listed_has f n i v below e = contained (listed f n) i v (listed_at f n i below ∙ ap (λ c. Some c) e)

-- A list with the same cores, and one more.
pub listed_grows : (f g : ℕ → Core) (n m : ℕ) → ((i : ℕ) → i < n → g i ≡ f i) → m ≡ suc n → listed g m ≡ listed f n ++ g n ∷ []
listed_grows f g n m same e = ap (listed g) e ∙ (λ j. listed_same g f n same j ++ g n ∷ [])

pub listed_stays : (f g : ℕ → Core) (n m : ℕ) → ((i : ℕ) → i < n → g i ≡ f i) → m ≡ n → listed g m ≡ listed f n
listed_stays f g n m same e = ap (listed g) e ∙ listed_same g f n same
