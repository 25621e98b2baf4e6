-- The plans of the components of system types, one after another.
use Rattle.std.proofs.Common.{◌≡◌, ◌<◌, ◌∙◌, ◌+◌, ◌∷◌, ℕ, zero, suc, List, [], None, Some, true, ap, sym, length, slice_get, ◌⊎◌, ⊎_elim, arith}
use Prim.{grind}
use Rattle.std.specs.Borrow.{Bor}
use Rattle.cp_model.specs.Erase as erase
use Rattle.cp_model.specs.Types.{GlobalScope}
use Rattle.cp_model.specs.View as tree_view
use Rattle.cp_model.specs.declared.tree.System.{System}
use Rattle.cp_model_program.specs.Plans.{plan_of_component}
use Rattle.cp_model_program.specs.Programs as code
use Rattle.cp_compile_symbols.specs.declared.systems.SystemTable.{SystemTable}
use Rattle.cp_compile_symbols.specs.declared.tables.Tables.{Tables}
use Rattle.cp_compile_symbols.specs.Representing.{system_at}
use Rattle.cp_program.specs.View.{plan_at}
use Rattle.cp_compile_emit.specs.ComponentPlans.{ArePlans, table_fits}

-- The plans of the first system types are there.
abbrev pub ArePlansUntil : ℕ → GlobalScope → Tables → List code.StartPlan → ℕ → Type 0
ArePlansUntil count g tables known first =
    (k : ℕ) (y : Bor System) (t : SystemTable) → k < count → system_at tables.types k ≡ Some y → slice_get tables.systems.items k ≡ Some t → table_fits t ≡ true
    → plan_at known (first + k) ≡ plan_of_component g (erase.system (tree_view.system y.now))

pub one_component : (count : ℕ) (g : GlobalScope) (tables : Tables) (old new : List code.StartPlan) (first : ℕ)
    → ((n : ℕ) → n < first + count → plan_at new n ≡ plan_at old n)
    → ((y : Bor System) (t : SystemTable) → system_at tables.types count ≡ Some y → slice_get tables.systems.items count ≡ Some t → table_fits t ≡ true
    → plan_at new (first + count) ≡ plan_of_component g (erase.system (tree_view.system y.now)))
    → ArePlansUntil count g tables old first → ArePlansUntil (count + 1) g tables new first
one_component count g tables old new first same is before k y t less here there fits = ⊎_elim (λ e. earlier e) (λ e. last e) (below count k less)
  where
    below : (a b : ℕ) → b < a + 1 → (b < a) ⊎ (b ≡ a)
    below a b h = grind (arith, h)

    earlier : k < count → plan_at new (first + k) ≡ plan_of_component g (erase.system (tree_view.system y.now))
    earlier e = same (first + k) (omega (arith, e)) ∙ before k y t e here there fits

    last : k ≡ count → plan_at new (first + k) ≡ plan_of_component g (erase.system (tree_view.system y.now))
    last e =
        ap (λ n. plan_at new (first + n)) e
        ∙ is y t (ap (system_at tables.types) (sym e) ∙ here) (ap (slice_get tables.systems.items) (sym e) ∙ there) fits

past_all : {A : Type 0} (xs : List A) (n k : ℕ) (x : A) → slice_get xs n ≡ None → slice_get xs k ≡ Some x → k < n
past_all [] n zero x none some = absurd (cc)
past_all [] n (suc k) x none some = absurd (cc)
past_all (y ∷ ys) zero k x none some = absurd (cc)
past_all (y ∷ ys) (suc n) zero x none some = omega arith
past_all (y ∷ ys) (suc n) (suc k) x none some = let less = past_all ys n k x none some in omega (arith, less)

pub all_components : (count : ℕ) (g : GlobalScope) (tables : Tables) (known : List code.StartPlan) (first : ℕ) → slice_get tables.systems.items count ≡ None
    → ArePlansUntil count g tables known first → ArePlans g tables known first
all_components count g tables known first none until k y t here there fits = until k y t (past_all tables.systems.items count k t none there) here there fits

pub get_inside : {A : Type 0} (xs : List A) (k : ℕ) (x : A) → slice_get xs k ≡ Some x → k < length xs
get_inside [] zero x some = absurd (cc)
get_inside [] (suc k) x some = absurd (cc)
get_inside (y ∷ ys) zero x some = omega arith
get_inside (y ∷ ys) (suc k) x some = let less = get_inside ys k x some in omega (arith, less)
