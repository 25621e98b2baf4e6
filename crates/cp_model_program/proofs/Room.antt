-- Numbers of words that have room, and units that are kept.
use Rattle.std.proofs.Common.{◌≡◌, ◌≤◌, ◌<◌, ℕ, zero, suc, List, [], ◌∷◌, Option, Some, None, refl, ap, sym, ◌∙◌, Bool, true, false, if◌then◌else◌, slice_get, arith}
use Rattle.std.specs.Prelude.{nat_le, nat_lt}
use Rattle.cp_model.specs.Abstract.{System}
use Rattle.cp_model_program.specs.Programs.{CodeUnit}
use Rattle.cp_model_program.specs.Layout.{capped, has_room, most_words}
use Rattle.cp_model_program.specs.Sites.{BodyOf, LeftOut, RoutineOf, UnitText}
use Rattle.cp_model_program.specs.IsProgramFor.{system_of_unit}
use Rattle.cp_model_program.specs.Compile.{kept_text, kept_texts}

pub room_is : (n : ℕ) → n ≤ most_words → has_room n ≡ true
room_is n h = by (nat_le n most_words) refl
  where
    by : (b : Bool) → nat_le n most_words ≡ b → nat_le n most_words ≡ true
    by true e = e
    by false e = absurd (grind (arith, e, h))

pub less_is : (n m : ℕ) → n < m → nat_lt n m ≡ true
less_is n m h = by (nat_lt n m) refl
  where
    by : (b : Bool) → nat_lt n m ≡ b → nat_lt n m ≡ true
    by true e = e
    by false e = absurd (grind (arith, e, h))

pub is_less : (n m : ℕ) → nat_lt n m ≡ true → n < m
is_less n m e = grind (arith, e)

-- A capped number below the greatest one is the number itself.
pub uncapped : (n m : ℕ) → capped n ≤ m → m < most_words → n ≤ m
uncapped n m h less = omega (arith, h, less)

pub kept_get : (us : List CodeUnit) (ts : List UnitText) (n : ℕ) (u : CodeUnit) (t : UnitText) → slice_get us n ≡ Some u → slice_get ts n ≡ Some t
    → slice_get (kept_texts us ts) n ≡ Some (kept_text u t)
kept_get [] ts n u t h k = absurd (cc)
kept_get (v ∷ us) [] n u t h k = absurd (cc)
kept_get (v ∷ us) (x ∷ ts) zero u t h k = cc (h, k)
kept_get (v ∷ us) (x ∷ ts) (suc n) u t h k = kept_get us ts n u t h k

pub kept_there : (us : List CodeUnit) (ts : List UnitText) (n : ℕ) (u : CodeUnit) (t : UnitText) → slice_get us n ≡ Some u → slice_get ts n ≡ Some t → u.words < most_words
    → slice_get (kept_texts us ts) n ≡ Some t
kept_there us ts n u t h k less = kept_get us ts n u t h k ∙ ap (λ b. Some (if b then t else LeftOut (system_of_unit t))) (less_is u.words most_words less)

-- A text that is left out has the system type that it had.
pub kept_from : (us : List CodeUnit) (ts : List UnitText) (n : ℕ) (t : UnitText) → slice_get (kept_texts us ts) n ≡ Some t
    → (x : UnitText) × (slice_get ts n ≡ Some x) × (system_of_unit x ≡ system_of_unit t)
kept_from [] ts n t h = absurd (cc)
kept_from (v ∷ us) [] n t h = absurd (cc)
kept_from (v ∷ us) (x ∷ ts) zero t h = (x, refl, same (nat_lt v.words most_words) ∙ ap (system_or x) h)
  where
    system_or : UnitText → Option UnitText → System
    system_or y None = system_of_unit y
    system_or y (Some z) = system_of_unit z

    same : (b : Bool) → system_of_unit x ≡ system_of_unit (if b then x else LeftOut (system_of_unit x))
    same true = refl
    same false = refl
kept_from (v ∷ us) (x ∷ ts) (suc n) t h = kept_from us ts n t h
