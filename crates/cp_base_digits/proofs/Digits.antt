-- Decimal digits: the standard library's are those of the definitions.
use Rattle.std.proofs.Common.{◌≡◌, ℕ, zero, suc, ◌+◌, ◌/◌, ◌%◌, ◌^◌, ◌<◌, ◌≤◌, ℤ, pos, negsuc, List, [], ◌∷◌, ◌++◌, Bool, true, false, refl, ap, sym, ◌∙◌, arith}
use Rattle.std.specs.Prelude.{if◌then◌else◌, nat_lt}
use Rattle.std.specs.Fmt as text
use Rattle.std.specs.Int.Signed.{mag}
use Rattle.std.specs.Fmt.{signed_decimal}
use Rattle.std.proofs.lemmas.Fmt.{decimal_digit, decimal_step}
use Rattle.std.proofs.lemmas.List.{append-nil, append_assoc}
use Rattle.std.proofs.lemmas.Bool.Decides.{nat_tests}
use Rattle.cp_model.specs.Decimal.{decimal, digits, natural}

digits_are : (k n : ℕ) (t : List ℕ) → n < k → n < 2 ^ 64 → digits k n t ≡ text.decimal n ++ t
digits_are zero n t h w = absurd (omega (arith, h))
digits_are (suc k) n t h w =
    by (nat_lt n 10) refl (λ more. digits_are k (n / 10) ((48 + n % 10) ∷ t) (omega (arith, h, more)) (omega (arith, w)))
  where
    by : (b : Bool) → nat_lt n 10 ≡ b
        → (10 ≤ n → digits k (n / 10) ((48 + n % 10) ∷ t) ≡ text.decimal (n / 10) ++ ((48 + n % 10) ∷ t))
        → (if b then (48 + n) ∷ t else digits k (n / 10) ((48 + n % 10) ∷ t)) ≡ text.decimal n ++ t
    by true e f = let few : n < 10 = Prim.grind (arith, nat_tests) in ap (λ ds. ds ++ t) (sym (decimal_digit n few))
    by false e f =
        let more : 10 ≤ n = Prim.grind (arith, nat_tests) in
        f more
        ∙ (sym (append_assoc (text.decimal (n / 10)) ((48 + n % 10) ∷ []) t)
        ∙ ap (λ ds. ds ++ t) (sym (decimal_step n more w)))

pub natural_is : (n : ℕ) → n < 2 ^ 64 → text.decimal n ≡ natural n
natural_is n w = sym (digits_are (suc n) n [] (omega arith) w ∙ append-nil (text.decimal n))

pub decimal_is : (n : ℤ) → mag n < 2 ^ 63 → signed_decimal n ≡ decimal n
decimal_is (pos n) h = natural_is n (omega (arith, h))
decimal_is (negsuc n) h = ap (λ ds. 45 ∷ ds) (natural_is (suc n) (omega (arith, h)))
