-- What is broken in a part of a text, and what is judged only if nothing is broken inside it.
use Rattle.std.specs.Prelude.{◌≡◌, ℕ, Bool, true, false, ◌&&◌, ◌||◌, List, [], ◌∷◌, ◌++◌, Option, None, Some, nat_eq, nat_lt, if◌then◌else◌, ◌⊎◌}
use Rattle.cp_model.specs.declared.rules.Rule.{Rule}
use Rattle.cp_model.specs.declared.rules.Rule.TheVariants.{C1, C2, C3, C4, C5, C6, C7, C8, C9, C10, C11, C12, C13}
use Rattle.cp_model.specs.declared.rules.Violation.{Violation}

abbrev pub Violations : Type 0
Violations = List Violation

abbrev pub violation : Rule → ℕ → Violation
violation rule at = record { rule = rule; at = at }

-- a violation unless the test holds
abbrev pub unless : Bool → Rule → ℕ → Violations
unless true rule at = []
unless false rule at = violation rule at ∷ []

-- ---- the earliest violation

abbrev pub number_of : Rule → ℕ
number_of C1 = 1
number_of C2 = 2
number_of C3 = 3
number_of C4 = 4
number_of C5 = 5
number_of C6 = 6
number_of C7 = 7
number_of C8 = 8
number_of C9 = 9
number_of C10 = 10
number_of C11 = 11
number_of C12 = 12
number_of C13 = 13

-- the earlier place in the text comes first, and at one place the lower rule
abbrev pub is_before : Violation → Violation → Bool
is_before v w = nat_lt v.at w.at || (nat_eq v.at w.at && nat_lt (number_of v.rule) (number_of w.rule))

abbrev pub earlier : Option Violation → Violation → Option Violation
earlier None v = Some v
earlier (Some w) v = if is_before v w then Some v else Some w

-- the earliest of the violation found so far and these
abbrev pub least : Option Violation → Violations → Option Violation
least found [] = found
least found (v ∷ vs) = least (earlier found v) vs

abbrev pub IsAmong : Violation → Violations → Type 0
IsAmong w [] = ⊥
IsAmong w (v ∷ vs) = (w ≡ v) ⊎ IsAmong w vs

-- ---- judging

-- either nothing is broken in a part and this is its meaning, or these violations are in it, at
-- least one
pub data Judged (A : Type 0) : Type 0 where
  Sound : (x : A) → Judged A
  Broken : (v : Violation) (vs : Violations) → Judged A

abbrev pub violations_of : {A : Type 0} → Judged A → Violations
violations_of (Sound x) = []
violations_of (Broken v vs) = v ∷ vs

abbrev pub meaning_of : {A : Type 0} → Judged A → Option A
meaning_of (Sound x) = Some x
meaning_of (Broken v vs) = None

-- a single violation, at this place
abbrev pub breaks : {A : Type 0} → Rule → ℕ → Judged A
breaks rule at = Broken (violation rule at) []

-- judged whatever is broken inside: these violations, and then those of j
abbrev pub also : {A : Type 0} → Violations → Judged A → Judged A
also [] j = j
also (v ∷ vs) j = Broken v (vs ++ violations_of j)

-- judged only if nothing is broken inside
abbrev pub then_judge : {A B : Type 0} → Judged A → (A → Judged B) → Judged B
then_judge (Sound x) k = k x
then_judge (Broken v vs) k = Broken v vs

-- both are judged, and what is around them only if nothing is broken in either
abbrev pub both : {A B C : Type 0} → Judged A → Judged B → (A → B → Judged C) → Judged C
both (Sound x) b k = then_judge b (k x)
both (Broken v vs) b k = Broken v (vs ++ violations_of b)

-- sound with this meaning if the test holds, otherwise a violation
abbrev pub guard : {A : Type 0} → Bool → Rule → ℕ → A → Judged A
guard true rule at x = Sound x
guard false rule at x = breaks rule at
