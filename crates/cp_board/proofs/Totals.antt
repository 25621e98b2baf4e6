-- Totals of numbers over a list of views.
use Rattle.std.proofs.Common.{◌≡◌, ℕ, zero, suc, ◌+◌, ◌≤◌, List, [], ◌∷◌, ◌++◌, set, sym, refl, ap, arith}
use mathlib.Core.Option.{some, some-injective, some-ne-none}
use lib.ListN.{get_elem?}
use Rattle.cp_board.specs.Rule.{total}

module _ {A : Type 0} (f : A → ℕ) where
  pub total_set : (l : List A) (i : ℕ) (v w : A) → get_elem? l i ≡ some v → total f (set l i w) + f v ≡ total f l + f w
  total_set [] i v w at = absurd (some-ne-none v (sym at))
  total_set (x ∷ xs) zero v w at = let is : f x ≡ f v = ap f (some-injective x v at) in omega arith
  total_set (x ∷ xs) (suc i) v w at = let rest = total_set xs i v w at in omega arith

  pub total_snoc : (l : List A) (v : A) → total f (l ++ v ∷ []) ≡ total f l + f v
  total_snoc [] v = omega arith
  total_snoc (x ∷ xs) v = let rest = total_snoc xs v in omega arith

  pub total_le : (l : List A) (i : ℕ) (v : A) → get_elem? l i ≡ some v → f v ≤ total f l
  total_le [] i v at = absurd (some-ne-none v (sym at))
  total_le (x ∷ xs) zero v at = let is : f x ≡ f v = ap f (some-injective x v at) in omega arith
  total_le (x ∷ xs) (suc i) v at = let rest = total_le xs i v at in omega arith

  -- an element is split in two, and the second is added at the end
  pub total_split : (l : List A) (i : ℕ) (v w u : A) → get_elem? l i ≡ some v → f w + f u ≡ f v → total f (set l i w ++ u ∷ []) ≡ total f l
  total_split l i v w u at parts = let changed = total_set l i v w at in let longer = total_snoc (set l i w) u in omega arith

  -- two elements are joined, and the second is spent
  pub total_join : (l : List A) (i j : ℕ) (v w both spent : A) → get_elem? l i ≡ some v → get_elem? (set l i both) j ≡ some w → f spent ≡ 0
      → total f (set (set l i both) j spent) + (f v + f w) ≡ total f l + f both
  total_join l i j v w both spent at at_other nothing =
      let first = total_set l i v both at in
      let second = total_set (set l i both) j w spent at_other in
      omega arith

-- if an element without parts adds nothing to f, an element with all parts has all of f
module _ {A : Type 0} (parts f : A → ℕ) where
  abbrev IdleAddNothing : List A → Type 0
  IdleAddNothing l = (k : ℕ) (u : A) → get_elem? l k ≡ some u → parts u ≡ 0 → f u ≡ 0

  total_none : (l : List A) → IdleAddNothing l → total parts l ≡ 0 → total f l ≡ 0
  total_none [] idle none = refl
  total_none (x ∷ xs) idle none =
      let first = idle 0 x refl (omega arith) in
      let rest = total_none xs (λ k u. idle (suc k) u) (omega arith) in
      omega arith

  pub total_alone : (l : List A) (i : ℕ) (v : A) → IdleAddNothing l → get_elem? l i ≡ some v → total parts l ≡ parts v → total f l ≡ f v
  total_alone [] i v idle at all = absurd (some-ne-none v (sym at))
  total_alone (x ∷ xs) zero v idle at all =
      let parts_is : parts x ≡ parts v = ap parts (some-injective x v at) in
      let f_is : f x ≡ f v = ap f (some-injective x v at) in
      let rest = total_none xs (λ k u. idle (suc k) u) (omega arith) in
      omega arith
  total_alone (x ∷ xs) (suc i) v idle at all =
      let le = total_le parts xs i v at in
      let first = idle 0 x refl (omega arith) in
      let rest = total_alone xs i v (λ k u. idle (suc k) u) at (omega arith) in
      omega arith
