-- A separator is read as it is written. What is read after a `"` is a comment, or one without an
-- end.
use Rattle.std.proofs.Common.{◌≡◌, ℕ, suc, ◌+◌, ◌-◌, ◌<◌, Bool, true, false, cond, not, nat_lt, List, [], ◌∷◌, ◌++◌, length, take, drop, None, Ok, Err, refl, sym, ap, subst, ◌∙◌, inl, inr, append_assoc, length-append, arith}
use Rattle.std.proofs.lemmas.Bool.{eqb-true, not-false, lt-ltb, ltb-true, ltb-false}
use Rattle.std.proofs.lemmas.List.{take_all, length-drop}
use Rattle.cp_model.specs.Characters.{is_blank, is_quote}
use Rattle.cp_model.specs.Spelling.{IsSeparator, Each, Stops}
use Rattle.cp_scan.specs.declared.refusal.Cause.TheVariants as cause
use Rattle.cp_scan.specs.Pieces.{run, comment, piece}
use Rattle.cp_scan.proofs.Fronts.{front, Holds, by_test}
use Rattle.cp_scan.proofs.Runs.{run_append, run_splits, run_each, run_stops, length_run}

-- what is inside a comment
abbrev pub is_inside : ℕ → Bool
is_inside b = not (is_quote b)

pub comment_at : (rest : List ℕ) (n : ℕ) → run is_inside rest ≡ n
    → comment rest ≡ cond (nat_lt n (length rest)) (Ok (None, n + 2)) (Err cause.Comment)
unfolding comment
comment_at rest n e = rw e refl

blank_again : (b : ℕ) (rest : List ℕ) → is_blank b ≡ true → piece b rest ≡ Ok (None, 1)
unfolding piece
blank_again b rest h = rw h refl

pub piece_of_quote : (b : ℕ) (rest : List ℕ) → is_quote b ≡ true → piece b rest ≡ comment rest
unfolding piece
piece_of_quote b rest h = rw (eqb-true b 34 h) refl

closed : (inner rest : List ℕ) → Each is_inside inner → comment (inner ++ 34 ∷ rest) ≡ Ok (None, length inner + 2)
closed inner rest each =
    comment_at (inner ++ 34 ∷ rest) (length inner) (run_append is_inside inner (34 ∷ rest) each refl)
    ∙ (let n = length-append inner (34 ∷ rest) in
    let lt : length inner < length (inner ++ 34 ∷ rest) = omega arith in
    rw (lt-ltb (length inner) (length (inner ++ 34 ∷ rest)) lt) refl)

comment_again : (b : ℕ) (bs rest inner : List ℕ) → is_quote b ≡ true → Each is_inside inner → bs ≡ inner ++ 34 ∷ []
    → piece b (bs ++ rest) ≡ Ok (None, suc (length bs))
comment_again b bs rest inner quote each e =
    piece_of_quote b (bs ++ rest) quote
    ∙ ap (λ (w : List ℕ). comment (w ++ rest)) e
    ∙ ap (λ (w : List ℕ). comment w) (append_assoc inner (34 ∷ []) rest)
    ∙ closed inner rest each
    ∙ (let n = length-append inner (34 ∷ []) in
    let m = ap (λ (w : List ℕ). length w) e in
    let k : length inner + 2 ≡ suc (length bs) = omega arith in
    ap (λ (v : ℕ). Ok (None, v)) k)

pub separator_again : (bytes rest : List ℕ) → IsSeparator bytes → front (bytes ++ rest) ≡ Ok (None, length bytes)
separator_again [] rest h = absurd h
separator_again (b ∷ bs) rest (inl blank) = rw (blank.1) (blank_again b rest blank.0)
separator_again (b ∷ bs) rest (inr quoted) = comment_again b bs rest quoted.1.0 quoted.0 quoted.1.1 quoted.1.2

pub blank_holds : (b : ℕ) (rest : List ℕ) → is_blank b ≡ true → Holds (b ∷ rest) (Ok (None, 1))
blank_holds b rest blank = (b ∷ [], rest, refl, refl, inl (blank, refl))

-- if anything follows the bytes inside a comment, it begins with a quote
quote_behind : (rest : List ℕ) → Stops is_inside rest → 0 < length rest → (more : List ℕ) × (rest ≡ 34 ∷ more)
quote_behind [] stops some = absurd (omega arith)
quote_behind (c ∷ more) stops some = (more, let e = eqb-true c 34 (not-false (is_quote c) stops) in ap (λ (v : ℕ). v ∷ more) e)

module _ (b : ℕ) (rest : List ℕ) (quote : is_quote b ≡ true) where
  n : ℕ
  n = run is_inside rest

  unclosed : nat_lt n (length rest) ≡ false → Holds (b ∷ rest) (Err cause.Comment)
  unfolding n
  unclosed over =
      let all : take n rest ≡ rest = take_all n rest (ltb-false n (length rest) over) in
      (quote, subst (λ (w : List ℕ). Each is_inside w) all (run_each is_inside rest))

  ends : nat_lt n (length rest) ≡ true → Holds (b ∷ rest) (Ok (None, n + 2))
  unfolding n
  ends inside =
      let lt = ltb-true n (length rest) inside in
      let m : length (take n rest) ≡ n = length_run is_inside rest in
      let d : length (drop n rest) ≡ length rest - n = length-drop n rest in
      let q = quote_behind (drop n rest) (run_stops is_inside rest) (omega arith) in
      let e : rest ≡ (take n rest ++ 34 ∷ []) ++ q.0 =
      run_splits is_inside rest ∙ ap (λ (w : List ℕ). take n rest ++ w) q.1 ∙ sym (append_assoc (take n rest) (34 ∷ []) q.0) in (
        b ∷ (take n rest ++ 34 ∷ []),
        q.0,
        ap (λ (w : List ℕ). b ∷ w) e,
        let k = length-append (take n rest) (34 ∷ []) in omega arith,
        inr (quote, (take n rest, run_each is_inside rest, refl)),
      )

  pub comment_holds : Holds (b ∷ rest) (comment rest)
  unfolding n
  comment_holds = rw (comment_at rest n refl) (by_test (b ∷ rest) (nat_lt n (length rest)) _ _ ends unclosed)
