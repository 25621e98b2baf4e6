-- The steps of the look-up among the reserved words.
use Rattle.std.proofs.Common.{◌≡◌, ℕ, ◌+◌, ◌<◌, Bool, true, false, cond, ◌&&◌, nat_eq, List, [], ◌∷◌, map, drop, length, get_or, Bor, refl, sym, ap, ◌∙◌}
use Rattle.std.proofs.lemmas.List.{drop_more}
use Rattle.std.specs.Cmp.Lexicographic.{pointwise}
use Rattle.std.specs.Prelude.{◌==◌}
use Rattle.cp_model.specs.Spelling.{same_text, word_among}
use Rattle.cp_model.specs.Tokens as kind
use Rattle.cp_model.specs.declared.token.Symbol.{Symbol}

cond_is_and : (a b : Bool) → cond a b false ≡ (a && b)
cond_is_and true b = refl
cond_is_and false b = refl

same_text_is : (xs ys : List ℕ) → same_text xs ys ≡ pointwise nat_eq xs ys
same_text_is [] [] = refl
same_text_is [] (y ∷ ys) = refl
same_text_is (x ∷ xs) [] = refl
same_text_is (x ∷ xs) (y ∷ ys) = rw (same_text_is xs ys) (cond_is_and (x == y) (pointwise nat_eq xs ys))

abbrev pub Entry : Type 0
Entry = Bor (List ℕ) × Symbol

-- the words and symbols of a table in code
abbrev pub entries : List Entry → List (List ℕ × Symbol)
entries = map (λ w. (w.0.now, w.1))

module _ (table : List Entry) (letters : List ℕ) (i : ℕ) (entry : Entry) (inside : i < length table)
    (so_far : word_among (entries (drop i table)) letters ≡ word_among (entries table) letters) where
  here : word_among (entries (get_or table i entry ∷ drop (i + 1) table)) letters ≡ word_among (entries table) letters
  here = ap (λ (ws : List Entry). word_among (entries ws) letters) (sym (drop_more table i entry inside)) ∙ so_far

  pub found : (same : Bool) → same ≡ pointwise nat_eq (get_or table i entry).0.now letters → same ≡ true
      → kind.Symbol (get_or table i entry).1 ≡ word_among (entries table) letters
  found same e t = sym (rw (same_text_is (get_or table i entry).0.now letters, ← e, t) refl) ∙ here

  pub passed : (same : Bool) → same ≡ pointwise nat_eq (get_or table i entry).0.now letters → same ≡ false
      → word_among (entries (drop (i + 1) table)) letters ≡ word_among (entries table) letters
  passed same e f = sym (rw (same_text_is (get_or table i entry).0.now letters, ← e, f) refl) ∙ here
