-- Locations that are the same.
use Rattle.std.proofs.Common.{◌≡◌, ℤ, pos, negsuc, [], ◌∷◌, Bool, true, false, refl, ap, sym}
use Rattle.std.specs.Prelude.{◌&&◌, nat_eq}
use Rattle.std.proofs.lemmas.Bool.{eq-eqb, eqb-true, true≢false}
use Rattle.cp_model.specs.Locations.{ByIndex, ByName, Location, OfActivation, OfMonitor, OfProcess, Owner, Path, PathStep, same_location, same_owner, same_path, same_path_step}
use Rattle.cp_law_typing.proofs.Names.{bytes_eq-refl, bytes_same}
use Rattle.cp_model.specs.Integers.{same_integer}

-- ---- equal locations

both : (a b : Bool) → (a && b) ≡ true → (a ≡ true) × (b ≡ true)
both true b h = (refl, h)
both false b h = absurd (true≢false (sym h))

pub integer_is : (a b : ℤ) → same_integer a b ≡ true → a ≡ b
integer_is (pos a) (pos b) h = ap pos (eqb-true a b h)
integer_is (negsuc a) (negsuc b) h = ap negsuc (eqb-true a b h)
integer_is (pos a) (negsuc b) h = absurd (true≢false (sym h))
integer_is (negsuc a) (pos b) h = absurd (true≢false (sym h))

step_is : (a b : PathStep) → same_path_step a b ≡ true → a ≡ b
step_is (ByName x) (ByName y) h = ap ByName (bytes_same x y h)
step_is (ByIndex i) (ByIndex j) h = ap ByIndex (integer_is i j h)
step_is (ByName x) (ByIndex j) h = absurd (true≢false (sym h))
step_is (ByIndex i) (ByName y) h = absurd (true≢false (sym h))

path_is : (p q : Path) → same_path p q ≡ true → p ≡ q
path_is [] [] h = refl
path_is [] (b ∷ q) h = absurd (true≢false (sym h))
path_is (a ∷ p) [] h = absurd (true≢false (sym h))
path_is (a ∷ p) (b ∷ q) h =
    let s = both (same_path_step a b) (same_path p q) h in
    let tail = path_is p q s.1 in
    λ i. step_is a b s.0 i ∷ tail i

pub owner_is : (o r : Owner) → same_owner o r ≡ true → o ≡ r
owner_is (OfProcess p) (OfProcess q) h = ap OfProcess (eqb-true p q h)
owner_is (OfMonitor p) (OfMonitor q) h = ap OfMonitor (eqb-true p q h)
owner_is (OfActivation p d) (OfActivation q e) h =
    let s = both (nat_eq p q) (nat_eq d e) h in λ i. OfActivation (eqb-true p q s.0 i) (eqb-true d e s.1 i)
owner_is (OfProcess p) (OfMonitor q) h = absurd (true≢false (sym h))
owner_is (OfProcess p) (OfActivation q e) h = absurd (true≢false (sym h))
owner_is (OfMonitor p) (OfProcess q) h = absurd (true≢false (sym h))
owner_is (OfMonitor p) (OfActivation q e) h = absurd (true≢false (sym h))
owner_is (OfActivation p d) (OfProcess q) h = absurd (true≢false (sym h))
owner_is (OfActivation p d) (OfMonitor q) h = absurd (true≢false (sym h))

pub location_is : (l k : Location) → same_location l k ≡ true → l ≡ k
location_is l k h =
    let s = both (same_owner l.owner k.owner) (same_path l.path k.path) h in
    λ i. record { owner = owner_is l.owner k.owner s.0 i; path = path_is l.path k.path s.1 i }

pub same_owner_itself : (n : Owner) → same_owner n n ≡ true
same_owner_itself (OfProcess p) = eq-eqb p p refl
same_owner_itself (OfMonitor m) = eq-eqb m m refl
same_owner_itself (OfActivation p d) = λ i. eq-eqb p p refl i && eq-eqb d d refl i

integer_itself : (a : ℤ) → same_integer a a ≡ true
integer_itself (pos n) = eq-eqb n n refl
integer_itself (negsuc n) = eq-eqb n n refl

path_itself : (p : Path) → same_path p p ≡ true
path_itself [] = refl
path_itself (ByName x ∷ p) = λ i. bytes_eq-refl x i && path_itself p i
path_itself (ByIndex j ∷ p) = λ i. integer_itself j i && path_itself p i

pub location_itself : (l : Location) → same_location l l ≡ true
location_itself l = λ i. same_owner_itself l.owner i && path_itself l.path i
