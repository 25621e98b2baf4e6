-- Texts of paths that grow, and what comes before them.
use Rattle.std.proofs.Common.{◌≡◌, ℕ, zero, suc, ◌≤◌, ℤ, List, [], ◌∷◌, ◌++◌, length, take, refl, ap, sym, ◌∙◌, arith}
use Rattle.std.specs.Prelude.{codes, reverse}
use Rattle.std.proofs.lemmas.List.{append-nil, append_assoc, reverse-append}
use Rattle.cp_model.specs.Abstract.{Name}
use Rattle.cp_model.specs.Decimal.{decimal}
use Rattle.cp_model.specs.Locations.{ByIndex, ByName, Path, PathStep}
use Rattle.cp_model.specs.Report.{Text, path_rest, path_text}
use Rattle.cp_inspect.specs.Remaining.{IsNamed}

rest_by_name : (p : Path) (x : Name) → path_rest (p ++ ByName x ∷ []) ≡ path_rest p ++ (codes "." ++ x)
rest_by_name [] x = ap (λ z. codes "." ++ z) (append-nil x)
rest_by_name (ByName y ∷ p) x = ap (λ z. codes "." ++ z) (ap (λ z. y ++ z) (rest_by_name p x) ∙ sym (append_assoc y (path_rest p) (codes "." ++ x)))
rest_by_name (ByIndex i ∷ p) x =
    ap (λ z. codes "[" ++ z) (ap (λ z. decimal i ++ z) (ap (λ z. codes "]" ++ z) (rest_by_name p x)) ∙ sym (append_assoc (decimal i) (codes "]" ++ path_rest p) (codes "." ++ x)))

rest_by_index : (p : Path) (i : ℤ) → path_rest (p ++ ByIndex i ∷ []) ≡ path_rest p ++ (codes "[" ++ (decimal i ++ codes "]"))
rest_by_index [] i = refl
rest_by_index (ByName y ∷ p) i = ap (λ z. codes "." ++ z) (ap (λ z. y ++ z) (rest_by_index p i) ∙ sym (append_assoc y (path_rest p) (codes "[" ++ (decimal i ++ codes "]"))))
rest_by_index (ByIndex j ∷ p) i =
    ap (λ z. codes "[" ++ z)
    (ap (λ z. decimal j ++ z) (ap (λ z. codes "]" ++ z) (rest_by_index p i)) ∙ sym (append_assoc (decimal j) (codes "]" ++ path_rest p) (codes "[" ++ (decimal i ++ codes "]"))))

pub named_deeper : (p : Path) (x : Name) → IsNamed p → path_text (p ++ ByName x ∷ []) ≡ path_text p ++ (codes "." ++ x)
named_deeper [] x h = absurd h
named_deeper (ByName y ∷ p) x h = ap (λ z. y ++ z) (rest_by_name p x) ∙ sym (append_assoc y (path_rest p) (codes "." ++ x))
named_deeper (ByIndex i ∷ p) x h = rest_by_name (ByIndex i ∷ p) x

pub indexed_deeper : (p : Path) (i : ℤ) → IsNamed p → path_text (p ++ ByIndex i ∷ []) ≡ path_text p ++ (codes "[" ++ (decimal i ++ codes "]"))
indexed_deeper [] i h = absurd h
indexed_deeper (ByName y ∷ p) i h = ap (λ z. y ++ z) (rest_by_index p i) ∙ sym (append_assoc y (path_rest p) (codes "[" ++ (decimal i ++ codes "]")))
indexed_deeper (ByIndex j ∷ p) i h = rest_by_index (ByIndex j ∷ p) i

pub still_named : (p : Path) (s : PathStep) → IsNamed (p ++ s ∷ [])
still_named [] s = tt
still_named (r ∷ p) s = tt

-- ---- fronts

pub take_short : (n m : ℕ) (xs more : Text) → m ≤ n → m ≤ length xs → take m (take n xs ++ more) ≡ take m xs
take_short n zero xs more h long = refl
take_short zero (suc m) xs more h long = absurd (omega (arith, h))
take_short (suc n) (suc m) [] more h long = absurd (omega (arith, long))
take_short (suc n) (suc m) (x ∷ xs) more h long = ap (λ ys. x ∷ ys) (take_short n m xs more (omega (arith, h)) (omega (arith, long)))

pub take_longer : (n : ℕ) (xs : Text) → n ≡ length (take n xs) → n ≤ length xs
take_longer zero xs h = omega arith
take_longer (suc n) [] h = absurd (omega (arith, h))
take_longer (suc n) (x ∷ xs) h = omega (arith, take_longer n xs (omega (arith, h)))

pub take_whole : (xs : Text) → take (length xs) xs ≡ xs
take_whole [] = refl
take_whole (x ∷ xs) = ap (λ ys. x ∷ ys) (take_whole xs)

pub reversed : {A : Type 0} (xs : List A) (x : A) → reverse (xs ++ x ∷ []) ≡ x ∷ reverse xs
reversed xs x = reverse-append xs (x ∷ [])
