-- A new board, whose words are all 0, meets its rule.
use Rattle.std.proofs.Common.{◌≡◌, ℕ, zero, suc, ◌+◌, ◌≤◌, min, true, false, List, [], ◌∷◌, length, take, replicate, get_or, refl, subst, arith, length-take}
use mathlib.Core.Option.{some, some-injective, some-ne-none}
use Rattle.std.proofs.Common.{sym}
use lib.ListN.{get_elem?}
use Rattle.atomic_table.specs.Table.{opening}
use Rattle.cp_board.specs.declared.view.Shape.{Shape}
use Rattle.cp_board.specs.declared.view.TheConstants.{MAX_STRIPES}
use Rattle.cp_board.specs.declared.view.View.{View}
use Rattle.cp_board.specs.Stripes.{stripe_of, word_of}
use Rattle.cp_board.specs.Views.{first_view}
use Rattle.cp_board.specs.Rule.{FitsWords, KeepsRule}

zero_at : (k m i : ℕ) → get_or {A = ℕ} (take k (replicate m 0)) i 0 ≡ 0
zero_at zero m i = refl
zero_at (suc k) zero i = refl
zero_at (suc k) (suc m) zero = refl
zero_at (suc k) (suc m) (suc i) = zero_at k m i

unmarked_at : (m i : ℕ) → get_or (replicate m false) i false ≡ false
unmarked_at zero i = refl
unmarked_at (suc m) zero = refl
unmarked_at (suc m) (suc i) = unmarked_at m i

-- the words of a new board
abbrev new_words : Shape → List ℕ
new_words p = take (word_of (p.stripes + 1)) (replicate (word_of (MAX_STRIPES + 1)) 0)

no_word : (p : Shape) (i : ℕ) → get_or {A = ℕ} (new_words p) i 0 ≡ 0
no_word p i = zero_at (word_of (p.stripes + 1)) (word_of (MAX_STRIPES + 1)) i

first_fits : (p : Shape) → FitsWords p (new_words p) (first_view p)
first_fits p = record {
  of_board = λ _. refl;
  idle = λ none. absurd (omega arith);
  reported = λ (seen : false ≡ true). cc;
  used_up = λ j below e. let unmarked = unmarked_at MAX_STRIPES j in cc;
}

pub opens : (p : Shape) → p.stripes ≤ MAX_STRIPES → KeepsRule p (opening {S = Unit {0}} (new_words p) [] (first_view p))
opens p most = record {
  width =
      let zeros : List ℕ = replicate (word_of (MAX_STRIPES + 1)) 0 in
      let taken : length (new_words p) ≡ min (word_of (p.stripes + 1)) (length zeros) = length-take (word_of (p.stripes + 1)) zeros in
      let all : length zeros ≡ word_of (MAX_STRIPES + 1) = refl in
      omega arith;
  stop = no_word p (word_of p.stripes);
  allowance = refl;
  gone = λ x below gone. let none = no_word p (word_of (stripe_of p x)) in absurd (omega arith);
  left = λ x below is_left. refl;
  beyond = λ x from. refl;
  small = λ j below. let none = no_word p (word_of j) in omega arith;
  each = λ k z e. each_fits k z e;
}
  where
    each_fits : (k : ℕ) (z : View) → get_elem? (first_view p ∷ []) k ≡ some z → FitsWords p (new_words p) z
    each_fits zero z e = subst (FitsWords p (new_words p)) (some-injective _ z e) (first_fits p)
    each_fits (suc k) z e = absurd (some-ne-none z (sym e))
