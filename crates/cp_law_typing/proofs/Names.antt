-- Names that are found in lists, and names that are new.
use Rattle.std.proofs.Common.{◌≡◌, Bool, true, false, ◌||◌, List, [], ◌∷◌, ◌++◌, Option, Some, None, if◌then◌else◌, refl, ap, sym, subst, ◌∙◌, append_assoc, append-nil, bytes_eq}
use Rattle.std.specs.Option.{option_or}
use Rattle.std.proofs.lemmas.Bool.{true≢false, or_from, or_right}
use Rattle.std.proofs.lemmas.Slice.Eq.{bytes_eq-Decides}
use Rattle.cp_model.specs.RulesEnvironment.{Text}
use Rattle.cp_model.specs.RulesTypes.{has_name}
use Rattle.cp_model.specs.Names.{lookup}

-- ---- one equality of names

pub bytes_same : (x y : Text) → bytes_eq x y ≡ true → x ≡ y
bytes_same x y = (bytes_eq-Decides x y).0

pub bytes_eq-refl : (x : Text) → bytes_eq x x ≡ true
bytes_eq-refl x = (bytes_eq-Decides x x).1 refl

-- ---- names in a list

abbrev pub keys : {A : Type 0} → List (Text × A) → List Text
keys [] = []
keys (v ∷ vs) = v.0 ∷ keys vs

pub keys-append : {A : Type 0} (vs ws : List (Text × A)) → keys (vs ++ ws) ≡ keys vs ++ keys ws
keys-append [] ws = refl
keys-append (v ∷ vs) ws = ap (λ r. v.0 ∷ r) (keys-append vs ws)

pub lookup-append : {A : Type 0} (x : Text) (vs ws : List (Text × A)) → lookup x (vs ++ ws) ≡ option_or (lookup x vs) (lookup x ws)
lookup-append x [] ws = refl
lookup-append x (v ∷ vs) ws = go (lookup-append x vs ws) (bytes_eq x v.0)
  where
    go : lookup x (vs ++ ws) ≡ option_or (lookup x vs) (lookup x ws) → (b : Bool)
        → (if b then Some v.1 else lookup x (vs ++ ws)) ≡ option_or (if b then Some v.1 else lookup x vs) (lookup x ws)
    go rest true = refl
    go rest false = rest

pub lookup_first : {A : Type 0} (x : Text) (vs ws : List (Text × A)) (a : A) → lookup x vs ≡ Some a → lookup x (vs ++ ws) ≡ Some a
lookup_first x vs ws a h = lookup-append x vs ws ∙ ap (λ o. option_or o (lookup x ws)) h

pub lookup_later : {A : Type 0} (x : Text) (vs ws : List (Text × A)) → lookup x vs ≡ None → lookup x (vs ++ ws) ≡ lookup x ws
lookup_later x vs ws h = lookup-append x vs ws ∙ ap (λ o. option_or o (lookup x ws)) h

pub lookup_none : {A : Type 0} (x : Text) (vs : List (Text × A)) → has_name x (keys vs) ≡ false → lookup x vs ≡ None
lookup_none x [] h = refl
lookup_none x (v ∷ vs) h = go (lookup_none x vs) (bytes_eq x v.0) h
  where
    go : (has_name x (keys vs) ≡ false → lookup x vs ≡ None) → (b : Bool) → (b || has_name x (keys vs)) ≡ false
        → (if b then Some v.1 else lookup x vs) ≡ None
    go rest true h = absurd (true≢false h)
    go rest false h = rest h

pub lookup_has : {A : Type 0} (x : Text) (vs : List (Text × A)) (a : A) → lookup x vs ≡ Some a → has_name x (keys vs) ≡ true
lookup_has x [] a h = absurd (cc)
lookup_has x (v ∷ vs) a h = go (lookup_has x vs a) (bytes_eq x v.0) h
  where
    go : (lookup x vs ≡ Some a → has_name x (keys vs) ≡ true) → (b : Bool) → (if b then Some v.1 else lookup x vs) ≡ Some a
        → (b || has_name x (keys vs)) ≡ true
    go rest true h = refl
    go rest false h = rest h

pub none_has : {A : Type 0} (x : Text) (vs : List (Text × A)) → lookup x vs ≡ None → has_name x (keys vs) ≡ false
none_has x [] h = refl
none_has x (v ∷ vs) h = go (none_has x vs) (bytes_eq x v.0) h
  where
    go : (lookup x vs ≡ None → has_name x (keys vs) ≡ false) → (b : Bool) → (if b then Some v.1 else lookup x vs) ≡ None
        → (b || has_name x (keys vs)) ≡ false
    go rest true h = absurd (cc)
    go rest false h = rest h

pub has_lookup : {A : Type 0} (x : Text) (vs : List (Text × A)) → has_name x (keys vs) ≡ true → (a : A) × (lookup x vs ≡ Some a)
has_lookup {A} x vs h = go (lookup x vs) refl
  where
    go : (o : Option A) → lookup x vs ≡ o → (a : A) × (lookup x vs ≡ Some a)
    go (Some a) is = (a, is)
    go None is = absurd (true≢false (sym h ∙ none_has x vs is))

pub has-append : (x : Text) (ks ls : List Text) → has_name x (ks ++ ls) ≡ (has_name x ks || has_name x ls)
has-append x [] ls = refl
has-append x (k ∷ ks) ls = go (has-append x ks ls) (bytes_eq x k)
  where
    go : has_name x (ks ++ ls) ≡ (has_name x ks || has_name x ls) → (b : Bool)
        → (b || has_name x (ks ++ ls)) ≡ ((b || has_name x ks) || has_name x ls)
    go rest true = refl
    go rest false = rest

pub has_last : (x : Text) (ks : List Text) → has_name x (ks ++ x ∷ []) ≡ true
has_last x ks = has-append x ks (x ∷ []) ∙ or_right (has_name x ks) (has_name x (x ∷ [])) (ap (λ b. b || false) (bytes_eq-refl x))

pub has_first : (x : Text) (ks ls : List Text) → has_name x ks ≡ true → has_name x (ks ++ ls) ≡ true
has_first x ks ls h = has-append x ks ls ∙ ap (λ b. b || has_name x ls) h

-- ---- new names

-- each is new after those before it
abbrev pub NewNames : List Text → List Text → Type 0
NewNames ks [] = Unit {0}
NewNames ks (x ∷ xs) = (has_name x ks ≡ false) × NewNames (ks ++ x ∷ []) xs

abbrev pub AllDistinct : List Text → Type 0
AllDistinct [] = Unit {0}
AllDistinct (x ∷ xs) = (has_name x xs ≡ false) × AllDistinct xs

pub new_append : (ks xs ys : List Text) → NewNames ks xs → NewNames (ks ++ xs) ys → NewNames ks (xs ++ ys)
new_append ks [] ys h g = subst (λ l. NewNames l ys) (append-nil ks) g
new_append ks (x ∷ xs) ys h g =
    (h.0, new_append (ks ++ x ∷ []) xs ys h.1 (subst (λ l. NewNames l ys) (sym (append_assoc ks (x ∷ []) xs)) g))

-- a name that is already there isn't one of the new names
pub there_is_not_new : (x : Text) (ks xs : List Text) → NewNames ks xs → has_name x ks ≡ true → has_name x xs ≡ false
there_is_not_new x ks [] h there = refl
there_is_not_new x ks (y ∷ xs) h there =
    go (bytes_eq x y) refl (there_is_not_new x (ks ++ y ∷ []) xs h.1 (has_first x ks (y ∷ []) there))
  where
    go : (b : Bool) → bytes_eq x y ≡ b → has_name x xs ≡ false → (bytes_eq x y || has_name x xs) ≡ false
    go true e rest = absurd (true≢false (sym there ∙ ap (λ z. has_name z ks) (bytes_same x y e) ∙ h.0))
    go false e rest = or_from (bytes_eq x y) (has_name x xs) e rest

pub new_is_distinct : (ks xs : List Text) → NewNames ks xs → AllDistinct xs
new_is_distinct ks [] h = tt
new_is_distinct ks (x ∷ xs) h = (there_is_not_new x (ks ++ x ∷ []) xs h.1 (has_last x ks), new_is_distinct (ks ++ x ∷ []) xs h.1)
