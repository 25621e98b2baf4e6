-- The start values of a type, one word after the other, and what it means that a plan writes them.
use Rattle.std.proofs.Common.{◌≡◌, ◌≤◌, ◌<◌, ◌⊎◌, inl, inr, ℕ, zero, suc, ◌+◌, ◌*◌, ◌-◌, ℤ, pos, negsuc, List, [], ◌∷◌, ◌++◌, refl, ap, sym, ◌∙◌, Bool, true, false, ◌&&◌, if◌then◌else◌, nat_eq, eqb-true, length, arith}
use Rattle.std.specs.Prelude.{replicate, slice_index_or, slice_set}
use Rattle.std.proofs.lemmas.Bool.{and_parts}
use Rattle.std.proofs.lemmas.List.{length-append, length-replicate}
use Rattle.cp_model.specs.Abstract.{Class, Monitor, Process, Sort}
use Rattle.cp_model.specs.Types.{ArrayOf, ComponentOf, GlobalScope, Members, MoreMembers, NoMembers, NoType, Queue, RecordOf, ResolvedType, Simple}
use Rattle.cp_model.specs.Integers.{count_between, same_integer}
use Rattle.cp_law_typing.specs.Words.{component_words, rights_in, words, words_of_members}
use Rattle.cp_model_program.specs.Programs.{Done, Fill, Part, Repeat, StartPlan}
use Rattle.cp_model.specs.Places.{within}
use Rattle.cp_model.proofs.SameIntegers.{equal_integers}
use Rattle.cp_model_program.specs.Layout.{head_words}
use Rattle.cp_model_program.specs.Starts.{fill, paste, repeat_block, carry_out, word}
use Rattle.cp_model_program.specs.Plans.{fill_before, is_short, pieces_before, plan_before, plan_of_word}
use Rattle.cp_model_program.proofs.Pasting.{copies, copies_length, fill_is_paste, paste_append, paste_outside, paste_same}

-- ---- Start values

abbrev pub image_of_class : Sort → List ℤ → List ℤ
image_of_class Class xs = xs
image_of_class _ xs = []

abbrev mutual
  pub image : GlobalScope → ResolvedType → List ℤ
  image g (Simple b low high start) = start ∷ []
  image g (ArrayOf low high t) = copies (count_between low high) (image g t)
  image g (RecordOf ms) = images g ms
  image g Queue = pos 0 ∷ []
  image g (ComponentOf s inner) = image_of_class s.sort (replicate (head_words g s) (pos 0) ++ images g inner)
  image g NoType = []

  pub images : GlobalScope → Members → List ℤ
  images g NoMembers = []
  images g (MoreMembers x t ms) = image g t ++ images g ms

-- The words may be 0 already.
abbrev pub Blank : Bool → List ℤ → ℕ → ℕ → Type 0
Blank zeros ws at n = zeros ≡ true → (k : ℕ) → k < n → word ws (at + k) ≡ pos 0

-- ---- Lengths

class_length : (s : Sort) (n : ℕ) (xs : List ℤ) → length xs ≡ n → length (image_of_class s xs) ≡ component_words s n
class_length Class n xs h = h
class_length Process n xs h = refl
class_length Monitor n xs h = refl

mutual
  pub image_length : (g : GlobalScope) (t : ResolvedType) → length (image g t) ≡ words g t
  image_length g (Simple b low high start) = refl
  image_length g (ArrayOf low high t) =
      copies_length (count_between low high) (image g t) ∙ ap (λ n. count_between low high * n) (image_length g t)
  image_length g (RecordOf ms) = images_length g ms
  image_length g Queue = refl
  image_length g (ComponentOf s inner) =
      class_length s.sort (head_words g s + words_of_members g inner) (replicate (head_words g s) (pos 0) ++ images g inner)
      (length-append (replicate (head_words g s) (pos 0)) (images g inner) ∙ omega (arith, length-replicate (head_words g s) (pos 0), images_length g inner))
      ∙ ap (component_words s.sort) (one_more (rights_in g s) (words_of_members g inner))
    where
      one_more : (n m : ℕ) → suc n + m ≡ 1 + n + m
      one_more n m = omega arith
  image_length g NoType = refl

  pub images_length : (g : GlobalScope) (ms : Members) → length (images g ms) ≡ words_of_members g ms
  images_length g NoMembers = refl
  images_length g (MoreMembers x t ms) =
      length-append (image g t) (images g ms) ∙ omega (arith, image_length g t, images_length g ms)

-- ---- One value

replicate_more : (k m : ℕ) (n : ℤ) → replicate (k + m) n ≡ replicate k n ++ replicate m n
replicate_more zero m n = ap (λ z. replicate z n) (nothing_more m)
  where
    nothing_more : (z : ℕ) → 0 + z ≡ z
    nothing_more z = omega arith
replicate_more (suc k) m n = ap (λ z. replicate z n) (one_more k m) ∙ ap (λ xs. n ∷ xs) (replicate_more k m n)
  where
    one_more : (a b : ℕ) → suc a + b ≡ suc (a + b)
    one_more a b = omega arith

pub copies_of_one : (k m : ℕ) (n : ℤ) → copies k (replicate m n) ≡ replicate (k * m) n
copies_of_one zero m n = ap (λ z. replicate z n) (none m)
  where
    none : (z : ℕ) → 0 ≡ 0 * z
    none z = omega arith
copies_of_one (suc k) m n =
    ap (λ xs. replicate m n ++ xs) (copies_of_one k m n) ∙ sym (replicate_more m (k * m) n) ∙ ap (λ z. replicate z n) (one_more k m)
  where
    one_more : (a b : ℕ) → b + a * b ≡ suc a * b
    one_more a b = omega arith

-- ---- Fills

fill_more : (at k m : ℕ) (n : ℤ) (ws : List ℤ) → fill at (k + m) n ws ≡ fill (at + k) m n (fill at k n ws)
fill_more at k m n ws =
    fill_is_paste at (k + m) n ws ∙ ap (λ xs. paste at xs ws) (replicate_more k m n) ∙ paste_append at (replicate k n) (replicate m n) ws
    ∙ ap (λ z. paste (at + z) (replicate m n) (paste at (replicate k n) ws)) (length-replicate k n)
    ∙ ap (paste (at + k) (replicate m n)) (sym (fill_is_paste at k n ws)) ∙ sym (fill_is_paste (at + k) m n (fill at k n ws))

pub fill_before_is : (at count : ℕ) (n : ℤ) (rest : StartPlan) (base : ℕ) (ws : List ℤ)
    → carry_out base (fill_before at count n rest) ws ≡ carry_out base rest (fill (base + at) count n ws)
fill_before_is at count n Done base ws = refl
fill_before_is at count n (Repeat behind size more rest) base ws = refl
fill_before_is at count n (Part behind p rest) base ws = refl
fill_before_is at count n (Fill behind more m rest) base ws = go (nat_eq behind (at + count) && same_integer m n) refl
  where
    go : (b : Bool) → (nat_eq behind (at + count) && same_integer m n) ≡ b
        → carry_out base (if b then Fill at (count + more) n rest else Fill at count n (Fill behind more m rest)) ws
        ≡ carry_out base rest (fill (base + behind) more m (fill (base + at) count n ws))
    go false h = refl
    go true h =
        let both = and_parts (nat_eq behind (at + count)) (same_integer m n) h in
        let place : base + at + count ≡ base + behind = omega (arith, eqb-true behind (at + count) both.0) in
        ap (carry_out base rest) (fill_more (base + at) count more n ws
        ∙ ap (λ z. fill z more n (fill (base + at) count n ws)) place
        ∙ ap (λ z. fill (base + behind) more z (fill (base + at) count n ws)) (sym (equal_integers m n both.1)))

-- ---- Plans before others

pub farther_on : (a b c : ℕ) → a + (b + c) ≡ a + b + c
farther_on a b c = omega arith

pieces_before_is : (at : ℕ) (p rest : StartPlan) (base : ℕ) (ws : List ℤ)
    → carry_out base (pieces_before at p rest) ws ≡ carry_out base rest (carry_out (base + at) p ws)
pieces_before_is at Done rest base ws = refl
pieces_before_is at (Fill behind count n more) rest base ws =
    fill_before_is (at + behind) count n (pieces_before at more rest) base ws
    ∙ pieces_before_is at more rest base (fill (base + (at + behind)) count n ws)
    ∙ ap (λ z. carry_out base rest (carry_out (base + at) more (fill z count n ws))) (farther_on base at behind)
pieces_before_is at (Repeat behind size count more) rest base ws =
    pieces_before_is at more rest base (repeat_block (base + (at + behind)) size (count - 1) ws)
    ∙ ap (λ z. carry_out base rest (carry_out (base + at) more (repeat_block z size (count - 1) ws))) (farther_on base at behind)
pieces_before_is at (Part behind p more) rest base ws =
    pieces_before_is at more rest base (carry_out (base + (at + behind)) p ws)
    ∙ ap (λ z. carry_out base rest (carry_out (base + at) more (carry_out z p ws))) (farther_on base at behind)

pub plan_before_is : (at : ℕ) (p rest : StartPlan) (base : ℕ) (ws : List ℤ)
    → carry_out base (plan_before at p rest) ws ≡ carry_out base rest (carry_out (base + at) p ws)
plan_before_is at p rest base ws = go (is_short p)
  where
    go : (b : Bool) → carry_out base (if b then pieces_before at p rest else Part at p rest) ws ≡ carry_out base rest (carry_out (base + at) p ws)
    go true = pieces_before_is at p rest base ws
    go false = refl

-- ---- What a plan writes

-- Wherever there is room, and the words are 0 if they have to be, the plan writes these values.
abbrev pub Writes : Bool → ℕ → StartPlan → List ℤ → Type 0
Writes zeros size p values = (base : ℕ) (ws : List ℤ) → base + size ≤ length ws → Blank zeros ws base size
    → carry_out base p ws ≡ paste base values ws

pub word_planned : (zeros : Bool) (n : ℤ) → Writes zeros 1 (plan_of_word zeros n) (n ∷ [])
word_planned false n base ws room blank = ap (λ z. slice_set ws z n) (nothing_more base)
  where
    nothing_more : (a : ℕ) → a + 0 ≡ a
    nothing_more a = omega arith
word_planned true (negsuc n) base ws room blank = ap (λ z. slice_set ws z (negsuc n)) (nothing_more base)
  where
    nothing_more : (a : ℕ) → a + 0 ≡ a
    nothing_more a = omega arith
word_planned true (pos (suc n)) base ws room blank = ap (λ z. slice_set ws z (pos (suc n))) (nothing_more base)
  where
    nothing_more : (a : ℕ) → a + 0 ≡ a
    nothing_more a = omega arith
word_planned true (pos zero) base ws room blank = sym (paste_same base (pos 0 ∷ []) ws same)
  where
    same : (k : ℕ) → k < 1 → word ws (base + k) ≡ slice_index_or (pos 0 ∷ []) k (pos 0)
    same zero less = blank refl 0 less
    same (suc k) less = absurd (omega (arith, less))

pub blank_part : (zeros : Bool) (ws : List ℤ) (at n from m : ℕ) → Blank zeros ws at n → from + m ≤ n → Blank zeros ws (at + from) m
blank_part zeros ws at n from m blank within is k less =
    ap (word ws) (apart at from k) ∙ blank is (from + k) (omega (arith, less, within))
  where
    apart : (a b c : ℕ) → a + b + c ≡ a + (b + c)
    apart a b c = omega arith

pub blank_first : (zeros : Bool) (ws : List ℤ) (at n m : ℕ) → Blank zeros ws at n → m ≤ n → Blank zeros ws at m
blank_first zeros ws at n m blank within is k less = blank is k (omega (arith, less, within))

-- Words beside those that are written stay 0.
pub blank_beside : (zeros : Bool) (xs ws : List ℤ) (to at n : ℕ) → (at + n ≤ to) ⊎ (to + length xs ≤ at) → Blank zeros ws at n → Blank zeros (paste to xs ws) at n
blank_beside zeros xs ws to at n beside blank is k less = paste_outside to (at + k) xs ws (outside beside) ∙ blank is k less
  where
    outside : (at + n ≤ to) ⊎ (to + length xs ≤ at) → (at + k < to) ⊎ (to + length xs ≤ at + k)
    outside (inl h) = inl (omega (arith, h, less))
    outside (inr h) = inr (omega (arith, h))
