-- Lists are read steadily, if each item takes a token.
use Rattle.std.proofs.Common.{◌≡◌, ℕ, zero, suc, ◌<◌, Bool, true, false, cond, List, [], ◌∷◌, ◌++◌, length, Option, None, refl, sym, ap, subst, ◌∙◌, append_assoc, arith, length-append}
use Rattle.std.proofs.lemmas.List.{append-nil}
use Rattle.cp_model.specs.Levels.{each_levels, behind_levels, separated_levels}
use Rattle.cp_model.specs.Tokens.{Token}
use Rattle.cp_model.specs.Tokens.{Kind}
use Rattle.cp_model.specs.declared.token.Symbol.{Symbol}
use Rattle.cp_model_grammar.specs.Kinds.{is_symbol}
use Rattle.cp_model_grammar.specs.Reading.{Reader, ◌>>=◌, pure, take_token, kind_at, repeat, repeat_while, one_or_more, separated_by}
use Rattle.cp_model_grammar.proofs.Tokens.{no_symbol}
use Rattle.cp_model_grammar.proofs.Steady.{Cut, Mode, Start, Anywhere, Before, At, Tame, tame_imply, tame_then, Like, like_imply, like_then, Steady, Has, at_cut, imply, then, pure_steady, take_steady}

same_kind : (c : Cut) (f : List Token) → kind_at (f ++ c.token ∷ c.here) ≡ kind_at (f ++ c.token ∷ c.there)
same_kind c [] = refl
same_kind c (x ∷ f) = refl

-- a further item preserves what holds for the items so far and their levels
module _ {A : Type 0} (proceeds : Option Kind → Bool) (none : proceeds None ≡ false) (g : A → List ℕ) (some : (x : A) → 0 < length (g x))
    (Holds : List A → List ℕ → Type 0) (push : (xs : List A) (l : List ℕ) (x : A) → Holds xs l → Holds (xs ++ x ∷ []) (l ++ g x)) where
  before_token : (ts : List Token) → proceeds (kind_at ts) ≡ true → At Before ts
  before_token [] e = absurd (let h : true ≡ false = sym e ∙ none in cc)
  before_token (x ∷ ts) e = tt

  stays : (xs : List A) (l : List ℕ) → Holds xs l → Holds xs (l ++ [])
  stays xs l h = subst (Holds xs) (sym (append-nil l)) h

  joins : (ys : List A) (l k j : List ℕ) (x : A) → k ≡ g x → Holds ys ((l ++ g x) ++ j) → Holds ys (l ++ (k ++ j))
  joins ys l k j x e h = subst (Holds ys) (append_assoc l (g x) j ∙ ap (λ (k : List ℕ). l ++ (k ++ j)) (sym e)) h

  -- so far these items were found, with these levels
  abbrev Found : List ℕ → List A → List ℕ → Type 0
  Found l ys k = Holds ys (l ++ k)

  module _ (r : Reader A) (ok : (ts : List Token) → At Before ts → Tame (Has g) (r ts) ts) where
    repeat_tame : (n : ℕ) (xs : List A) (l : List ℕ) → Holds xs l → (ts : List Token) → Tame (Found l) (repeat proceeds r n xs ts) ts
    unfolding repeat
    repeat_tame zero xs l h ts = ([], refl, [], stays xs l h, refl)
    repeat_tame (suc n) xs l h ts = turn (proceeds (kind_at ts)) refl (repeat_tame n)
      where
        turn : (b : Bool) → proceeds (kind_at ts) ≡ b
            → ((xs : List A) (l : List ℕ) → Holds xs l → (ts : List Token) → Tame (Found l) (repeat proceeds r n xs ts) ts)
            → Tame (Found l) (cond b (r >>= λ x. repeat proceeds r n (xs ++ x ∷ [])) (pure xs) ts) ts
        turn false e again = ([], refl, [], stays xs l h, refl)
        turn true e again = tame_then (Has g) (Found l) (r ts) (λ x. repeat proceeds r n (xs ++ x ∷ [])) ts (ok ts (before_token ts e))
            (λ x k e mid. tame_imply (Found (l ++ g x)) (λ ys j. Found l ys (k ++ j)) (repeat proceeds r n (xs ++ x ∷ []) mid) mid
            (λ ys j p. joins ys l k j x e p) (again (xs ++ x ∷ []) (l ++ g x) (push xs l x h) mid))

  next_tame : (r : Reader A) → ((ts : List Token) → At Before ts → Tame (Has g) (r ts) ts) → (n : ℕ) (xs : List A) (l : List ℕ) → Holds xs l
      → (x : A) (k : List ℕ) → k ≡ g x → (mid : List Token)
      → Tame (λ ys j. Found l ys (k ++ j)) (repeat proceeds r n (xs ++ x ∷ []) mid) mid
  next_tame r ok n xs l h x k e mid =
      tame_imply (Found (l ++ g x)) (λ ys j. Found l ys (k ++ j)) (repeat proceeds r n (xs ++ x ∷ []) mid) mid (λ ys j p. joins ys l k j x e p)
      (repeat_tame r ok n (xs ++ x ∷ []) (l ++ g x) (push xs l x h) mid)

  module _ {c : Cut} {m : Mode} (item item' : Reader A) (s : Steady c m Before (Has g) item item') where
    repeat_like : (n n' : ℕ) (xs : List A) (l : List ℕ) → Holds xs l → (f : List Token) → length f < n → length f < n'
        → Like c m (Found l) (repeat proceeds item n xs (f ++ c.token ∷ c.here)) (repeat proceeds item' n' xs (f ++ c.token ∷ c.there))
    unfolding repeat
    repeat_like zero n' xs l h f lt lt' = absurd (omega arith)
    repeat_like (suc n) zero xs l h f lt lt' = absurd (omega arith)
    repeat_like (suc n) (suc n') xs l h f lt lt' =
        subst (λ k. Like c m (Found l) (cond (proceeds (kind_at (f ++ c.token ∷ c.here))) (item >>= λ x. repeat proceeds item n (xs ++ x ∷ []))
        (pure xs) (f ++ c.token ∷ c.here))
        (cond (proceeds k) (item' >>= λ x. repeat proceeds item' n' (xs ++ x ∷ [])) (pure xs) (f ++ c.token ∷ c.there)))
        (same_kind c f) (turn (proceeds (kind_at (f ++ c.token ∷ c.here))) (λ xs l h f lt lt'. repeat_like n n' xs l h f lt lt'))
      where
        turn : (b : Bool) → ((xs : List A) (l : List ℕ) → Holds xs l → (f : List Token) → length f < n → length f < n'
            → Like c m (Found l) (repeat proceeds item n xs (f ++ c.token ∷ c.here)) (repeat proceeds item' n' xs (f ++ c.token ∷ c.there)))
            → Like c m (Found l) (cond b (item >>= λ x. repeat proceeds item n (xs ++ x ∷ [])) (pure xs) (f ++ c.token ∷ c.here))
            (cond b (item' >>= λ x. repeat proceeds item' n' (xs ++ x ∷ [])) (pure xs) (f ++ c.token ∷ c.there))
        turn false again = (pure_steady {c = c} {m = m} {T = Found l} xs (stays xs l h)).like f
        turn true again = like_then c (Has g) (Found l) m (item (f ++ c.token ∷ c.here)) (item' (f ++ c.token ∷ c.there))
            (λ x. repeat proceeds item n (xs ++ x ∷ [])) (λ x. repeat proceeds item' n' (xs ++ x ∷ [])) f
            (s.tame (f ++ c.token ∷ c.here) (at_cut Before f c.token c.here)) (s.like f) (next_tame item s.tame n xs l h)
            (next_tame item' s.tame' n' xs l h)
            (λ x k e r sum. let size : length k ≡ length (g x) = ap length e in
            like_imply c m (Found (l ++ g x)) (λ ys j. Found l ys (k ++ j)) [] (repeat proceeds item n (xs ++ x ∷ []) (r ++ c.token ∷ c.here))
            (repeat proceeds item' n' (xs ++ x ∷ []) (r ++ c.token ∷ c.there))
            (λ ys j p. joins ys l k j x e p) (again (xs ++ x ∷ []) (l ++ g x) (push xs l x h) r (omega (arith, sum, size, some x))
            (omega (arith, sum, size, some x))))

    pub repeated_steady : (xs : List A) (l : List ℕ) → Holds xs l
        → Steady c m Anywhere (Found l) (repeat_while proceeds item xs) (repeat_while proceeds item' xs)
    repeated_steady xs l h = record {
      tame = λ ts k. repeat_tame item s.tame (length ts) xs l h ts;
      tame' = λ ts k. repeat_tame item' s.tame' (length ts) xs l h ts;
      like = λ f. repeat_like (length (f ++ c.token ∷ c.here)) (length (f ++ c.token ∷ c.there)) xs l h f
          (omega (arith, length-append f (c.token ∷ c.here))) (omega (arith, length-append f (c.token ∷ c.there)));
    }

-- ---- the levels of a list

each_push : {A : Type 0} (g : A → List ℕ) (xs : List A) (x : A) → each_levels g (xs ++ x ∷ []) ≡ each_levels g xs ++ g x
each_push g [] x = append-nil (g x)
each_push g (y ∷ ys) x = ap (λ (l : List ℕ). g y ++ l) (each_push g ys x) ∙ sym (append_assoc (g y) (each_levels g ys) (g x))

behind_push : {A : Type 0} (g : A → List ℕ) (xs : List A) (x : A) → behind_levels g (xs ++ x ∷ []) ≡ behind_levels g xs ++ 0 ∷ g x
behind_push g [] x = ap (λ (l : List ℕ). 0 ∷ l) (append-nil (g x))
behind_push g (y ∷ ys) x = ap (λ (l : List ℕ). 0 ∷ g y ++ l) (behind_push g ys x)
    ∙ ap (λ (l : List ℕ). 0 ∷ l) (sym (append_assoc (g y) (behind_levels g ys) (0 ∷ g x)))

module _ {A : Type 0} (g : A → List ℕ) where
  abbrev EachHas : List A → List ℕ → Type 0
  EachHas xs l = l ≡ each_levels g xs

  each_grows : (xs : List A) (l : List ℕ) (x : A) → EachHas xs l → EachHas (xs ++ x ∷ []) (l ++ g x)
  each_grows xs l x h = ap (λ (l : List ℕ). l ++ g x) h ∙ sym (each_push g xs x)

  -- at least one item
  abbrev pub SomeHas : List A → List ℕ → Type 0
  SomeHas [] l = ⊥
  SomeHas (x ∷ xs) l = l ≡ each_levels g (x ∷ xs)

  some_grows : (xs : List A) (l : List ℕ) (x : A) → SomeHas xs l → SomeHas (xs ++ x ∷ []) (l ++ g x)
  some_grows [] l x h = absurd h
  some_grows (y ∷ ys) l x h = each_grows (y ∷ ys) l x h

  pub some_has : (xs : List A) (l : List ℕ) → SomeHas xs l → l ≡ each_levels g xs
  some_has [] l h = absurd h
  some_has (x ∷ xs) l h = h

  module _ (proceeds : Option Kind → Bool) (none : proceeds None ≡ false)
      (some : (x : A) → 0 < length (g x)) {c : Cut} {m : Mode} {item item' : Reader A} where
    pub each_steady : Steady c m Before (Has g) item item'
        → Steady c m Anywhere (Has (each_levels g)) (repeat_while proceeds item []) (repeat_while proceeds item' [])
    each_steady s = repeated_steady proceeds none g some EachHas each_grows item item' s [] [] refl

    pub some_steady : {w : Start} → Steady c m w (Has g) item item' → Steady c m Before (Has g) item item'
        → Steady c m w SomeHas (one_or_more proceeds item) (one_or_more proceeds item')
    some_steady first s = then first (λ x. repeated_steady proceeds none g some SomeHas some_grows item item' s (x ∷ []) (g x)
        (sym (append-nil (g x))))

  -- at least one item, with a symbol between each two
  abbrev pub SeparatedHas : List A → List ℕ → Type 0
  SeparatedHas [] l = ⊥
  SeparatedHas (x ∷ xs) l = l ≡ separated_levels g (x ∷ xs)

  separated_grows : (xs : List A) (l : List ℕ) (x : A) → SeparatedHas xs l → SeparatedHas (xs ++ x ∷ []) (l ++ 0 ∷ g x)
  separated_grows [] l x h = absurd h
  separated_grows (y ∷ ys) l x h = ap (λ (l : List ℕ). l ++ 0 ∷ g x) h ∙ append_assoc (g y) (behind_levels g ys) (0 ∷ g x)
      ∙ ap (λ (l : List ℕ). g y ++ l) (sym (behind_push g ys x))

  pub separated_has : (xs : List A) (l : List ℕ) → SeparatedHas xs l → l ≡ separated_levels g xs
  separated_has [] l h = absurd h
  separated_has (x ∷ xs) l h = h

  pub separated_some : {c : Cut} {m : Mode} (x : Symbol) {item item' : Reader A} → Steady c m Anywhere (Has g) item item'
      → Steady c m Anywhere SeparatedHas (separated_by x item) (separated_by x item')
  separated_some {c} {m} x {item} {item'} s = then s (λ a.
      repeated_steady (is_symbol x) (no_symbol x) (λ a. 0 ∷ g a) (λ a. omega arith) SeparatedHas separated_grows (take_token >>= λ _. item)
      (take_token >>= λ _. item')
      (then (take_steady 0) (λ at. imply (λ y l. (0 ∷ l) ≡ (0 ∷ g y)) s (λ y l h. ap (λ (l : List ℕ). 0 ∷ l) h))) (a ∷ []) (g a)
      (sym (append-nil (g a))))

  pub separated_steady : {c : Cut} {m : Mode} (x : Symbol) {item item' : Reader A} → Steady c m Anywhere (Has g) item item'
      → Steady c m Anywhere (Has (separated_levels g)) (separated_by x item) (separated_by x item')
  separated_steady x s = imply (Has (separated_levels g)) (separated_some x s) separated_has
