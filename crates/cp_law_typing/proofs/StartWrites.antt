-- The writes of the start: each location is written with one value, which stays.
use Rattle.std.proofs.Common.{◌≡◌, inl, inr, ℕ, suc, Bool, true, false, List, [], ◌∷◌, Some, if◌then◌else◌, bytes_eq, refl, ap, sym, subst, ◌∙◌, arith}
use Rattle.std.proofs.lemmas.Bool.{true≢false}
use Rattle.cp_model.specs.Abstract.{Name, Sort}
use Rattle.cp_model.specs.Names.{lookup}
use Rattle.cp_model.specs.Declarations.{Variable}
use Rattle.cp_model.specs.Locations.{Location, same_location}
use Rattle.cp_model.specs.Stores.{Store, Value, Writes, put, put_all}
use Rattle.cp_model.specs.Components.{count_before, is_component_of}
use Rattle.cp_law_typing.specs.Declared.{Distinct}
use Rattle.cp_law_typing.specs.StartValues.{IsIn}
use Rattle.cp_law_typing.proofs.Names.{bytes_eq-refl, bytes_same}
use Rattle.cp_law_typing.proofs.Visible.{some_same}
use Rattle.cp_law_typing.proofs.Locations.{location_is, location_itself}

-- ---- what stays of writes

-- everything that is written at one location is one value
abbrev pub OneValue : Writes → Location → Value → Type 0
OneValue ws l v = (w : Value) → IsIn (l, w) ws → w ≡ v

stays : (ws : Writes) (st : Store) (l : Location) (v : Value) → OneValue ws l v → st l ≡ v → put_all ws st l ≡ v
stays [] st l v one h = h
stays (w ∷ ws) st l v one h = stays ws (put w.0 w.1 st) l v (λ u k. one u (inr k)) (go (same_location w.0 l) refl)
  where
    go : (b : Bool) → same_location w.0 l ≡ b → (if b then w.1 else st l) ≡ v
    go true is = one w.1 (inl (ap (λ k. (k, w.1)) (sym (location_is w.0 l is))))
    go false is = h

pub written : (ws : Writes) (st : Store) (l : Location) (v : Value) → OneValue ws l v → IsIn (l, v) ws → put_all ws st l ≡ v
written [] st l v one h = absurd h
written (w ∷ ws) st l v one (inl h) =
    stays ws (put w.0 w.1 st) l v (λ u k. one u (inr k))
    (subst (λ z. put z.0 z.1 st l ≡ v) h (ap (λ b. if b then v else st l) (location_itself l)))
written (w ∷ ws) st l v one (inr h) = written ws (put w.0 w.1 st) l v (λ u k. one u (inr k)) h

-- ---- names and numbers

pub found_in : (ds : List (Name × Variable)) (x : Name) (v : Variable) → Distinct ds → IsIn (x, v) ds → lookup x ds ≡ Some v
found_in [] x v d h = absurd h
found_in (e ∷ ds) x v d (inl h) =
    ap (λ b. if b then Some e.1 else lookup x ds) (ap (bytes_eq x) (sym (ap (λ z. z.0) h)) ∙ bytes_eq-refl x) ∙ ap (λ z. Some z.1) (sym h)
found_in (e ∷ ds) x v d (inr h) = go (bytes_eq x e.0) refl (found_in ds x v d.1 h)
  where
    go : (b : Bool) → bytes_eq x e.0 ≡ b → lookup x ds ≡ Some v → (if b then Some e.1 else lookup x ds) ≡ Some v
    go false is k = k
    go true is k = absurd (cc (ap (λ z. lookup z ds) (bytes_same x e.0 is), d.0, k))

-- two components of one sort with the same number have the same name
pub numbers_apart : (s : Sort) (ds : List (Name × Variable)) (x y : Name) (v w : Variable) → lookup x ds ≡ Some v → is_component_of s v.type ≡ true → lookup y ds ≡ Some w
    → is_component_of s w.type ≡ true → count_before s x ds ≡ count_before s y ds → x ≡ y
numbers_apart s [] x y v w h p g q same = absurd (cc)
numbers_apart s (d ∷ ds) x y v w h p g q same =
    go (bytes_eq x d.0) (bytes_eq y d.0) refl refl h g same (λ h g e. numbers_apart s ds x y v w h p g q e)
  where
    here : (z : Variable) → Some d.1 ≡ Some z → is_component_of s z.type ≡ true → is_component_of s d.1.type ≡ true
    here z h p = ap (λ k. is_component_of s k.type) (some_same (Some d.1) d.1 z refl h) ∙ p

    later : Name → ℕ
    later z = if is_component_of s d.1.type then suc (count_before s z ds) else count_before s z ds

    go : (a b : Bool) → bytes_eq x d.0 ≡ a → bytes_eq y d.0 ≡ b → (if a then Some d.1 else lookup x ds) ≡ Some v → (if b then Some d.1 else lookup y ds) ≡ Some w
        → (if a then 0 else later x) ≡ (if b then 0 else later y) → (lookup x ds ≡ Some v → lookup y ds ≡ Some w → count_before s x ds ≡ count_before s y ds → x ≡ y) → x ≡ y
    go true true i j h g e rest = bytes_same x d.0 i ∙ sym (bytes_same y d.0 j)
    go true false i j h g e rest = absurd (zero_later (is_component_of s d.1.type) (here v h p) y e)
      where
        zero_later : (b : Bool) → b ≡ true → (z : Name) → 0 ≡ (if b then suc (count_before s z ds) else count_before s z ds) → ⊥
        zero_later true is z e = omega (arith, e)
        zero_later false is z e = true≢false (sym is)
    go false true i j h g e rest = absurd (zero_later (is_component_of s d.1.type) (here w g q) x e)
      where
        zero_later : (b : Bool) → b ≡ true → (z : Name) → (if b then suc (count_before s z ds) else count_before s z ds) ≡ 0 → ⊥
        zero_later true is z e = omega (arith, e)
        zero_later false is z e = true≢false (sym is)
    go false false i j h g e rest = rest h g (both (is_component_of s d.1.type) e)
      where
        both : (b : Bool) → (if b then suc (count_before s x ds) else count_before s x ds) ≡ (if b then suc (count_before s y ds) else count_before s y ds)
            → count_before s x ds ≡ count_before s y ds
        both true e = omega (arith, e)
        both false e = e
