-- The earliest violation of a part, within the whole.
use Rattle.std.proofs.Common.{◌≡◌, ℕ, nat_eq, Bool, true, false, [], ◌∷◌, Option, Some, None, if◌then◌else◌, refl, ap, sym, ◌∙◌, arith}
use Rattle.std.proofs.lemmas.Bool.Decides.{nat_tests}
use Rattle.cp_model.specs.declared.rules.Rule.{Rule}
use Rattle.cp_model.specs.declared.rules.Rule.TheVariants.{C1, C2, C3, C4, C5, C6, C7, C8, C9, C10, C11, C12, C13}
use Rattle.cp_model.specs.declared.rules.Violation.{Violation}
use Rattle.cp_model.specs.RulesJudged.{Violations, earlier, is_before, least, number_of}

-- ---- the order of places and rules

before_trans : (a b c : Violation) → is_before a b ≡ true → is_before b c ≡ true → is_before a c ≡ true
before_trans a b c h g = grind (arith, nat_tests, h, g)

not_before_trans : (a b c : Violation) → is_before a b ≡ false → is_before b c ≡ false → is_before a c ≡ false
not_before_trans a b c h g = grind (arith, nat_tests, h, g)

-- ---- two violations, one after another

if_true : (b : Bool) (v w : Violation) → b ≡ true → (if b then Some v else Some w) ≡ Some v
if_true b v w h = ap (λ (x : Bool). if x then Some v else Some w) h

if_false : (b : Bool) (v w : Violation) → b ≡ false → (if b then Some v else Some w) ≡ Some w
if_false b v w h = ap (λ (x : Bool). if x then Some v else Some w) h

second_counts : (t : Option Violation) (v w : Violation) → is_before w v ≡ true → earlier (earlier t v) w ≡ earlier t w
second_counts None v w h = if_true (is_before w v) w v h
second_counts (Some u) v w h = go (is_before v u) refl
  where
    go : (b : Bool) → is_before v u ≡ b → earlier (if b then Some v else Some u) w ≡ earlier (Some u) w
    go true g = if_true (is_before w v) w v h ∙ sym (if_true (is_before w u) w u (before_trans w v u h g))
    go false g = refl

first_counts : (t : Option Violation) (v w : Violation) → is_before w v ≡ false → earlier (earlier t v) w ≡ earlier t v
first_counts None v w h = if_false (is_before w v) w v h
first_counts (Some u) v w h = go (is_before v u) refl
  where
    go : (b : Bool) → is_before v u ≡ b → earlier (if b then Some v else Some u) w ≡ (if b then Some v else Some u)
    go true g = if_false (is_before w v) w v h
    go false g = if_false (is_before w u) w u (not_before_trans w v u h g)

-- ---- the earliest of many

abbrev value : Violation → Option Violation → Violation
value v None = v
value v (Some w) = w

reported_behind : (t : Option Violation) (v : Violation) (vs : Violations) (x : Violation) → least (Some v) vs ≡ Some x → least (earlier t v) vs ≡ earlier t x
reported_behind t v [] x h = ap (λ (o : Option Violation). earlier t (value v o)) h
reported_behind t v (w ∷ vs) x h = go (is_before w v) refl h (λ u k. reported_behind t u vs x k)
  where
    go : (b : Bool) → is_before w v ≡ b → least (if b then Some w else Some v) vs ≡ Some x
        → ((u : Violation) → least (Some u) vs ≡ Some x → least (earlier t u) vs ≡ earlier t x) → least (earlier (earlier t v) w) vs ≡ earlier t x
    go true g k rest = ap (λ (o : Option Violation). least o vs) (second_counts t v w g) ∙ rest w k
    go false g k rest = ap (λ (o : Option Violation). least o vs) (first_counts t v w g) ∙ rest v k

pub part_reported : (t : Option Violation) (vs : Violations) (x : Violation) → least None vs ≡ Some x → earlier t x ≡ least t vs
part_reported t [] x h = absurd (cc)
part_reported t (v ∷ vs) x h = sym (reported_behind t v vs x h)

-- ---- nothing reported

some_reported : (v : Violation) (vs : Violations) → least (Some v) vs ≡ None → ⊥
some_reported v [] h = absurd (cc)
some_reported v (w ∷ vs) h = go (is_before w v) h (λ u k. some_reported u vs k)
  where
    go : (b : Bool) → least (if b then Some w else Some v) vs ≡ None → ((u : Violation) → least (Some u) vs ≡ None → ⊥) → ⊥
    go true k rest = rest w k
    go false k rest = rest v k

pub nothing_reported : (vs : Violations) → least None vs ≡ None → vs ≡ []
nothing_reported [] h = refl
nothing_reported (v ∷ vs) h = absurd (some_reported v vs h)

-- ---- in any order

rule_of : ℕ → Rule
rule_of n =
    if nat_eq n 1 then C1 else if nat_eq n 2 then C2 else if nat_eq n 3 then C3 else if nat_eq n 4 then C4 else if nat_eq n 5 then C5
    else if nat_eq n 6 then C6 else if nat_eq n 7 then C7 else if nat_eq n 8 then C8 else if nat_eq n 9 then C9 else if nat_eq n 10 then C10
    else if nat_eq n 11 then C11 else if nat_eq n 12 then C12 else C13

rule_is : (rule : Rule) → rule_of (number_of rule) ≡ rule
unfolding rule_of
rule_is C1 = refl
rule_is C2 = refl
rule_is C3 = refl
rule_is C4 = refl
rule_is C5 = refl
rule_is C6 = refl
rule_is C7 = refl
rule_is C8 = refl
rule_is C9 = refl
rule_is C10 = refl
rule_is C11 = refl
rule_is C12 = refl
rule_is C13 = refl

same_number : (a b : Rule) → number_of a ≡ number_of b → a ≡ b
same_number a b h = sym (rule_is a) ∙ ap rule_of h ∙ rule_is b

neither_at : (v w : Violation) → is_before v w ≡ false → is_before w v ≡ false → v.at ≡ w.at
neither_at v w h g = grind (arith, nat_tests, h, g)

neither_number : (v w : Violation) → is_before v w ≡ false → is_before w v ≡ false → number_of v.rule ≡ number_of w.rule
neither_number v w h g = grind (arith, nat_tests, h, g)

neither_before : (v w : Violation) → is_before v w ≡ false → is_before w v ≡ false → v ≡ w
neither_before v w h g = λ i. record { rule = same_number v.rule w.rule (neither_number v w h g) i; at = neither_at v w h g i }

not_after : (v w : Violation) → is_before v w ≡ true → is_before w v ≡ false
not_after v w h = grind (arith, nat_tests, h)

earlier_swap : (t : Option Violation) (v w : Violation) → earlier (earlier t v) w ≡ earlier (earlier t w) v
earlier_swap t v w = go (is_before v w) refl (is_before w v) refl
  where
    go : (a : Bool) → is_before v w ≡ a → (b : Bool) → is_before w v ≡ b → earlier (earlier t v) w ≡ earlier (earlier t w) v
    go true h b g = first_counts t v w (not_after v w h) ∙ sym (second_counts t w v h)
    go false h true g = second_counts t v w g ∙ sym (first_counts t w v h)
    go false h false g = let same : v ≡ w = neither_before v w h g in λ i. earlier (earlier t (same i)) (sym same i)

least_earlier : (t : Option Violation) (v : Violation) (vs : Violations) → least (earlier t v) vs ≡ earlier (least t vs) v
least_earlier t v [] = refl
least_earlier t v (w ∷ ws) = ap (λ (o : Option Violation). least o ws) (earlier_swap t v w) ∙ least_earlier (earlier t w) v ws

pub least_swap : (t : Option Violation) (vs ws : Violations) → least (least t vs) ws ≡ least (least t ws) vs
least_swap t [] ws = refl
least_swap t (v ∷ vs) ws = least_swap (earlier t v) vs ws ∙ ap (λ (o : Option Violation). least o vs) (least_earlier t v ws)
