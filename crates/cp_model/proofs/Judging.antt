-- What is sound if no rule is broken: the parts of what was judged.
use Rattle.std.proofs.Common.{◌≡◌, ℕ, Bool, true, false, [], ◌∷◌, ◌++◌, refl}
use Rattle.cp_model.specs.declared.rules.Rule.{Rule}
use Rattle.cp_model.specs.RulesJudged.{Judged, Sound, Broken, Violations, violations_of, unless, also, both, then_judge, guard}

pub first_empty : (vs ws : Violations) → vs ++ ws ≡ [] → vs ≡ []
first_empty [] ws h = refl
first_empty (v ∷ vs) ws h = absurd (cc)

pub rest_empty : (vs ws : Violations) → vs ++ ws ≡ [] → ws ≡ []
rest_empty [] ws h = h
rest_empty (v ∷ vs) ws h = absurd (cc)

pub unless_holds : (b : Bool) (rule : Rule) (at : ℕ) → unless b rule at ≡ [] → b ≡ true
unless_holds true rule at h = refl
unless_holds false rule at h = absurd (cc)

pub provided_holds : {A : Type 0} (b : Bool) (rule : Rule) (at : ℕ) (x : A) → violations_of (guard b rule at x) ≡ [] → b ≡ true
provided_holds true rule at x h = refl
provided_holds false rule at x h = absurd (cc)

-- a part without violations has a meaning
pub sound_has : {A : Type 0} (j : Judged A) → violations_of j ≡ [] → (x : A) × (j ≡ Sound x)
sound_has (Sound x) h = (x, refl)
sound_has (Broken v vs) h = absurd (cc)

pub also_rest : {A : Type 0} (vs : Violations) (j : Judged A) → violations_of (also vs j) ≡ [] → violations_of j ≡ []
also_rest [] j h = h
also_rest (v ∷ vs) j h = absurd (cc)

pub also_sound : {A : Type 0} (vs : Violations) (j : Judged A) (x : A) → also vs j ≡ Sound x → j ≡ Sound x
also_sound [] j x h = h
also_sound (v ∷ vs) j x h = absurd (cc)

-- the two sides, and what is around them
pub record BothSound {A B C : Type 0} (a : Judged A) (b : Judged B) (k : A → B → Judged C) : Type 0 where
  pub x : A
  pub y : B
  pub left : a ≡ Sound x
  pub right : b ≡ Sound y
  pub outside : violations_of (k x y) ≡ []

pub both_parts : {A B C : Type 0} (a : Judged A) (b : Judged B) (k : A → B → Judged C) → violations_of (both a b k) ≡ [] → BothSound a b k
both_parts (Sound x) (Sound y) k h = record { x = x; y = y; left = refl; right = refl; outside = h }
both_parts (Sound x) (Broken v vs) k h = absurd (cc)
both_parts (Broken v vs) b k h = absurd (cc)

-- ---- what is sound, taken apart

pub sound_same : {A : Type 0} (x y : A) → Sound x ≡ Sound y → x ≡ y
sound_same x y h = cc

-- the meaning of a sound part, and the judgement that follows it
pub then_sound : {A B : Type 0} (j : Judged A) (k : A → Judged B) (y : B) → then_judge j k ≡ Sound y → (x : A) × (j ≡ Sound x) × (k x ≡ Sound y)
then_sound (Sound x) k y h = (x, refl, h)
then_sound (Broken v vs) k y h = absurd (cc)

pub both_sound : {A B C : Type 0} (a : Judged A) (b : Judged B) (k : A → B → Judged C) (z : C) → both a b k ≡ Sound z
    → (x : A) × (y : B) × (a ≡ Sound x) × (b ≡ Sound y) × (k x y ≡ Sound z)
both_sound (Sound x) (Sound y) k z h = (x, y, refl, refl, h)
both_sound (Sound x) (Broken v vs) k z h = absurd (cc)
both_sound (Broken v vs) b k z h = absurd (cc)

pub provided_sound : {A : Type 0} (b : Bool) (rule : Rule) (at : ℕ) (x y : A) → guard b rule at x ≡ Sound y → (b ≡ true) × (x ≡ y)
provided_sound true rule at x y h = (refl, cc)
provided_sound false rule at x y h = absurd (cc)

pub also_none : {A : Type 0} (vs : Violations) (j : Judged A) (x : A) → also vs j ≡ Sound x → vs ≡ []
also_none [] j x h = refl
also_none (v ∷ vs) j x h = absurd (cc)
