-- What parts that are read or written one after another amount to together.
use Rattle.std.proofs.Common.{◌≡◌, ℕ, ◌+◌, ◌-◌, ◌≤◌, List, ◌++◌, Option, None, Some, IfSome, length, take, drop, sym, ap, subst, ◌∙◌, arith, append-nil, take_all, take-append-drop}
use Rattle.std.proofs.lemmas.List.{drop-take, take-take, take_at, take_rest}
use Rattle.std.proofs.KnownBytes.{Appends-trans}
use Rattle.std.specs.Io.KnownBytes.{Appends, Consumes, IsAtEnd}

take_more_of : (n m : ℕ) (xs : List ℕ) → take n xs ++ take m (drop n xs) ≡ take (n + m) xs
take_more_of n m xs =
    (λ i. sym (take-take n (n + m) xs (omega arith)) i ++ sym (drop-take n m xs) i) ∙ take-append-drop n (take (n + m) xs)

-- A part that was written after others.
written_more : (a b c : Option (List ℕ)) (n m : ℕ) (xs : List ℕ) → Appends a b (take n xs) → Appends b c (take m (drop n xs))
    → Appends a c (take (n + m) xs)
written_more a b c n m xs p q = subst (Appends a c) (take_more_of n m xs) (Appends-trans a b c _ _ p q)

-- The same, for the slice of what is left.
pub written_part : (a b c : Option (List ℕ)) (n m : ℕ) (xs : List ℕ) → Appends a b (take n xs)
    → Appends b c (take m (take (length xs - n) (drop n xs))) → Appends a c (take (n + m) xs)
written_part a b c n m xs p q = written_more a b c n m xs p (subst (λ l. Appends b c (take m l)) (take_rest xs n) q)

pub written_all : (a b : Option (List ℕ)) (n : ℕ) (xs : List ℕ) → length xs ≤ n → Appends a b (take n xs) → Appends a b xs
written_all a b n xs h p = subst (Appends a b) (take_all n xs h) p

-- What was read up to the end of the reader, or up to `most` bytes.
pub read_to_end : (most : ℕ) (a b : Option (List ℕ)) (text : List ℕ) → Consumes a b text → length text ≤ most → IsAtEnd b
    → IfSome a (λ xs. text ≡ take most xs)
read_to_end most None b text p h e = tt
read_to_end most (Some xs) None text p h e = absurd p
read_to_end most (Some xs) (Some ys) text p h e =
    let all : xs ≡ text = p ∙ (ap (λ l. text ++ l) e ∙ append-nil text) in
    sym (ap (take most) all ∙ take_all most text h)

pub read_most : (most : ℕ) (a b : Option (List ℕ)) (text : List ℕ) → Consumes a b text → length text ≡ most
    → IfSome a (λ xs. text ≡ take most xs)
read_most most None b text p h = tt
read_most most (Some xs) None text p h = absurd p
read_most most (Some xs) (Some ys) text p h = sym (ap (take most) p ∙ take_at text ys most h)
