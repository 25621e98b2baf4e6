-- What the code computes in 32 or 64 bits from operands of 32 bits is exact.
use Rattle.std.proofs.Common.{◌≡◌, ℕ, zero, suc, ◌+◌, ◌-◌, ◌*◌, ◌/◌, ◌^◌, ◌<◌, ◌≤◌, ℤ, pos, negsuc, ◌-ℤ◌, ◌*ℤ◌, Result, Err, false, refl, ap, sym, ◌∙◌, arith}
use Rattle.std.specs.Prelude.{FitsSigned, if◌then◌else◌, int_div, int_rem, neg_ℤ, unsigned_abs}
use Rattle.std.specs.Int.{w32, w64, cast_signed, cast_unsigned}
use Rattle.std.specs.Int.Signed.{mag, mag_rem}
use Rattle.std.proofs.Math.Nat.{div-le_self}
use Rattle.std.proofs.lemmas.Int.{ints, fits_signed_mul, to_z-of_z}
use Rattle.std.proofs.lemmas.Bool.{ne_eqb}
use Rattle.cp_model.specs.declared.state.Fault.{Fault}
use Rattle.cp_model.specs.declared.state.Fault.TheVariants as fault
use Rattle.cp_model.specs.Integers.{same_integer}
use Rattle.cp_model_program.specs.Functions.{in_range}
use Rattle.cp_model_machine.specs.Values.{unless_zero}

abbrev pub wide : ℤ → ℤ
wide z = cast_signed w64 (cast_unsigned w64 z)

abbrev pub narrow : ℤ → ℤ
narrow z = cast_signed w32 (cast_unsigned w32 z)

-- An operand that is widened.
pub widened : (a x : ℤ) → FitsSigned w32 a → mag x < 2 ^ 63 → x ≡ narrow a → wide x ≡ a
widened a x f h is = to_z-of_z w64 x (record { sfits = h }) ∙ (is ∙ to_z-of_z w32 a f)

pub in_range_wide : (f : ℤ → ℤ → ℤ) (a b x y : ℤ) → wide x ≡ a → wide y ≡ b → FitsSigned w64 (f a b)
    → in_range (wide (f (wide x) (wide y))) ≡ in_range (f a b)
in_range_wide f a b x y p q h = (λ i. in_range (wide (f (p i) (q i)))) ∙ ap in_range (to_z-of_z w64 (f a b) h)

-- A result of 32 bits that is widened.
pub in_range_narrow : (f : ℤ → ℤ → ℤ) (a b x : ℤ) → FitsSigned w32 a → FitsSigned w32 b → FitsSigned w32 (f a b) → mag x < 2 ^ 63
    → x ≡ narrow (f (narrow a) (narrow b)) → in_range (wide x) ≡ in_range (f a b)
in_range_narrow f a b x fa fb h within is =
    ap in_range (to_z-of_z w64 x (record { sfits = within }) ∙ is ∙ (λ i. narrow (f (to_z-of_z w32 a fa i) (to_z-of_z w32 b fb i))) ∙ to_z-of_z w32 (f a b) h)

mag-neg : (n : ℕ) → mag (neg_ℤ (pos n)) ≡ n - 1
mag-neg zero = refl
mag-neg (suc n) = omega arith

abs_mag : (a : ℤ) → unsigned_abs a ≤ mag a + 1
abs_mag (pos n) = omega arith
abs_mag (negsuc n) = omega arith

pub product_fits : (a b : ℤ) → FitsSigned w32 a → FitsSigned w32 b → FitsSigned w64 (a *ℤ b)
product_fits a b f g =
    fits_signed_mul w64 a b (2 ^ 31) (2 ^ 31) (omega (arith, abs_mag a, f.sfits)) (omega (arith, abs_mag b, g.sfits)) (omega arith)

half : (a b : ℕ) → suc a ≤ 2 ^ 31 → suc a / suc (suc b) < 2 ^ 31
half a b f =
    let q = suc a / suc (suc b) in
    let parted : suc (suc b) * q ≤ suc a = omega arith in
    let twice : suc (suc b) * q ≡ b * q + 2 * q = Prim.grind arith in
    omega arith

mag_quotient : (a b : ℤ) → mag a < 2 ^ 31 → (b ≡ negsuc 0 → ⊥) → mag (int_div a b) < 2 ^ 31
mag_quotient (pos a) (pos b) f h = omega (arith, div-le_self a b)
mag_quotient (pos a) (negsuc b) f h = omega (arith, mag-neg (a / suc b), div-le_self a (suc b))
mag_quotient (negsuc a) (pos b) f h = omega (arith, mag-neg (suc a / b), div-le_self (suc a) b)
mag_quotient (negsuc a) (negsuc zero) f h = absurd (h refl)
mag_quotient (negsuc a) (negsuc (suc b)) f h = half a b (omega arith)

pub quotient_fits : (a b : ℤ) → FitsSigned w32 a → (b ≡ negsuc 0 → ⊥) → FitsSigned w32 (int_div a b)
quotient_fits a b f h = record { sfits = mag_quotient a b f.sfits h }

pub rest_fits : (a b : ℤ) → FitsSigned w32 a → FitsSigned w32 (int_rem a b)
rest_fits a b f = record { sfits = omega (arith, mag_rem a b, f.sfits) }

pub difference_fits : (a b : ℤ) → FitsSigned w32 a → FitsSigned w32 b → FitsSigned w64 (a -ℤ b)
difference_fits a b f g = record { sfits = Prim.grind (arith, ints, f.sfits, g.sfits) }

-- A divisor that passed the code's test is not 0.
pub apart : (b : ℤ) → (b ≡ pos 0 → ⊥) → same_integer b (pos 0) ≡ false
apart (pos zero) h = absurd (h refl)
apart (pos (suc n)) h = ne_eqb (suc n) 0 (λ e. absurd (omega (arith, e)))
apart (negsuc n) h = refl

pub unless_zero_passed : (d : ℤ) (r : Result ℤ Fault) → same_integer d (pos 0) ≡ false → r ≡ unless_zero d r
unless_zero_passed d r h = λ i. if sym h i then Err fault.DivisionByZero else r

-- A bound that is widened for a comparison.
pub bounds_wide : {A : Type 0} (P : ℤ → ℤ → ℤ → A) (low high n x y z : ℤ) → x ≡ low → y ≡ high → z ≡ n → P x y z ≡ P low high n
bounds_wide P low high n x y z p q r = λ i. P (p i) (q i) (r i)
