-- What the entries of the map say of the list of names that contracts see.
use Rattle.std.proofs.Common.{◌≡◌, ◌≤◌, ◌∷◌, ◌∙◌, ◌+◌, [], ℕ, zero, suc, Bool, true, false, not, cond, List, Option, Some, if◌then◌else◌, ap, arith, length, map, refl, slice_get, sym}
use Rattle.std.proofs.lemmas.Map.Keys.{IsDistinct-head, IsDistinct-tail}
use Rattle.std.proofs.lemmas.Option.{same_Some}
use Rattle.std.proofs.lemmas.Slice.Eq.{bytes_eq-Decides}
use Rattle.std.specs.List.{AllByRecursion, IsDistinct, position_or_len}
use Rattle.std.specs.Map.{keys_of, lookup as map_lookup}
use Rattle.std.specs.Str.{bytes_eq}
use Rattle.indexmap.specs.IndexMap.{insert_entry}
use Rattle.indexmap.specs.Layout.{set_value_at}
use Rattle.cp_model.specs.Names.{lookup}
use Rattle.cp_model.specs.RulesEnvironment.{Text}
use Rattle.cp_base_names.specs.Tables.{AreDistinct, named, with_values_from}
use Rattle.cp_base_names.specs.declared.name.Name.{Name}

abbrev pub same_name : Name → Name → Bool
same_name x y = bytes_eq x.letters.now y.letters.now

-- a name is found in the list as in the map
pub lookup-named : {A : Type 0} (x : Text) (es : List (Name × A)) → map_lookup (λ k. bytes_eq x k.letters.now) es ≡ lookup x (map named es)
lookup-named x [] = refl
lookup-named {A} x (e ∷ es) = ap (λ (r : Option A). if bytes_eq x e.0.letters.now then Some e.1 else r) (lookup-named x es)

-- ---- no name occurs twice

equal_back : (x y : Text) → bytes_eq x y ≡ false → bytes_eq y x ≡ false
equal_back x y h = go (bytes_eq y x) refl
  where
    go : (b : Bool) → bytes_eq y x ≡ b → b ≡ false
    go false g = refl
    go true g = absurd (let same : bytes_eq x y ≡ true = (bytes_eq-Decides x y).1 (sym ((bytes_eq-Decides y x).0 g)) in let both : true ≡ false = sym same ∙ h in cc)

each_apart : {A : Type 0} (x : Name) (es : List (Name × A)) (j : ℕ) (f : Text × A) → AllByRecursion (λ y. same_name x y ≡ false) (keys_of es)
    → slice_get (map named es) j ≡ Some f → bytes_eq x.letters.now f.0 ≡ false
each_apart x [] j f h at = absurd (cc)
each_apart {A} x (e ∷ es) zero f h at = ap (λ (p : Text × A). bytes_eq x.letters.now p.0) (sym (same_Some (named e) f at)) ∙ h.0
each_apart x (e ∷ es) (suc j) f h at = each_apart x es j f h.1 at

pub distinct-named : {A : Type 0} (es : List (Name × A)) → IsDistinct same_name (keys_of es) → AreDistinct (map named es)
distinct-named [] d i j e f lt at_i at_j = absurd (cc)
distinct-named (x ∷ es) d i zero e f lt at_i at_j = absurd (omega (arith, lt))
distinct-named {A} (x ∷ es) d zero (suc j) e f lt at_i at_j =
    let apart = each_apart x.0 es j f (IsDistinct-head same_name x.0 (keys_of es) d) at_j in
    equal_back e.0 f.0 (ap (λ (p : Text × A). bytes_eq p.0 f.0) (sym (same_Some (named x) e at_i)) ∙ apart)
distinct-named (x ∷ es) d (suc i) (suc j) e f lt at_i at_j =
    distinct-named es (IsDistinct-tail same_name x.0 (keys_of es) d) i j e f (omega (arith, lt)) at_i at_j

-- ---- a name that is there represents what it did, once that is put back

pub put_back : {A : Type 0} (es : List (Name × A)) (k : Name) (v first : A) → lookup k.letters.now (map named es) ≡ Some first
    → set_value_at (insert_entry same_name es k v) (position_or_len (same_name k) (keys_of es)) first ≡ es
put_back [] k v first h = absurd (cc)
put_back {A} (e ∷ es) k v first h = go (same_name k e.0) h (put_back es k v first)
  where
    go : (b : Bool) → (if b then Some e.1 else lookup k.letters.now (map named es)) ≡ Some first
        → (lookup k.letters.now (map named es) ≡ Some first → set_value_at (insert_entry same_name es k v) (position_or_len (same_name k) (keys_of es)) first ≡ es)
        → set_value_at (if b then (e.0, v) ∷ es else e ∷ insert_entry same_name es k v) (cond (not b) (1 + position_or_len (same_name k) (keys_of es)) 0) first ≡ e ∷ es
    go true g rest = ap (λ (w : A). (e.0, w) ∷ es) (sym (same_Some e.1 first g))
    go false g rest =
        let n = position_or_len (same_name k) (keys_of es) in
        let next : 1 + n ≡ suc n = omega (arith) in
        ap (λ i. set_value_at (e ∷ insert_entry same_name es k v) i first) next ∙ ap (λ r. e ∷ r) (rest g)

-- ---- a name that is set is found as if it were added first

replaced_first : {A : Type 0} (x y : Text) (v : A) (e : Text × A) (es : List (Text × A)) → x ≡ e.0
    → lookup y ((e.0, v) ∷ es) ≡ lookup y ((x, v) ∷ e ∷ es)
replaced_first {A} x y v e es same = rw same (go (bytes_eq y e.0))
  where
    go : (b : Bool) → (if b then Some v else lookup y es) ≡ (if b then Some v else if b then Some e.1 else lookup y es)
    go true = refl
    go false = refl

replaced_later : {A : Type 0} (x y : Text) (v : A) (e : Text × A) (rest es : List (Text × A)) → bytes_eq x e.0 ≡ false
    → lookup y rest ≡ lookup y ((x, v) ∷ es) → lookup y (e ∷ rest) ≡ lookup y ((x, v) ∷ e ∷ es)
replaced_later {A} x y v e rest es other same = go (bytes_eq y e.0) refl (bytes_eq y x) refl same
  where
    go : (b : Bool) → bytes_eq y e.0 ≡ b → (c : Bool) → bytes_eq y x ≡ c → lookup y rest ≡ (if c then Some v else lookup y es)
        → (if b then Some e.1 else lookup y rest) ≡ (if c then Some v else if b then Some e.1 else lookup y es)
    go true is true at h =
        absurd (let equal : x ≡ e.0 = sym ((bytes_eq-Decides y x).0 at) ∙ (bytes_eq-Decides y e.0).0 is in
        let both : true ≡ false = sym ((bytes_eq-Decides x e.0).1 equal) ∙ other in cc)
    go true is false at h = refl
    go false is true at h = h
    go false is false at h = h

pub lookup-inserted : {A : Type 0} (y : Text) (es : List (Name × A)) (k : Name) (v : A)
    → lookup y (map named (insert_entry same_name es k v)) ≡ lookup y ((k.letters.now, v) ∷ map named es)
lookup-inserted y [] k v = refl
lookup-inserted {A} y (e ∷ es) k v = go (same_name k e.0) refl (lookup-inserted y es k v)
  where
    go : (b : Bool) → same_name k e.0 ≡ b → lookup y (map named (insert_entry same_name es k v)) ≡ lookup y ((k.letters.now, v) ∷ map named es)
        → lookup y (map named (if b then (e.0, v) ∷ es else e ∷ insert_entry same_name es k v)) ≡ lookup y ((k.letters.now, v) ∷ named e ∷ map named es)
    go true is rest = replaced_first k.letters.now y v (named e) (map named es) ((bytes_eq-Decides k.letters.now e.0.letters.now).0 is)
    go false is rest = replaced_later k.letters.now y v (named e) (map named (insert_entry same_name es k v)) (map named es) is rest

-- ---- the names from a number on

-- the first of them, and then those after it
pub first_of_values : {A : Type 0} (n : ℕ) (v : A) (es : List (Name × A))
    → with_values_from (suc n) v (map named (set_value_at es n v)) ≡ with_values_from n v (map named es)
first_of_values n v [] = refl
first_of_values zero v (e ∷ es) = refl
first_of_values (suc n) v (e ∷ es) = ap (λ rest. named e ∷ rest) (first_of_values n v es)

-- there are none from the end on
pub no_values_left : {A : Type 0} (n : ℕ) (v : A) (es : List (Text × A)) → length es ≤ n → with_values_from n v es ≡ es
no_values_left n v [] h = refl
no_values_left zero v (e ∷ es) h = absurd (omega (arith, h))
no_values_left (suc n) v (e ∷ es) h = ap (λ rest. e ∷ rest) (no_values_left n v es (omega (arith, h)))
