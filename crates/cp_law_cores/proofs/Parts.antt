-- Lists of private states, by the numbers of the processes, and the numbers themselves.
use Rattle.std.specs.Prelude.{Bool, List, None, Option, Some, [], false, if◌then◌else◌, length, map, nat_eq, refl, slice_get, slice_set, suc, true, zero, ℕ, ◌+◌, ◌<◌, ◌∷◌, ◌≡◌, ◌≢◌, ◌≤◌}
use Rattle.std.proofs.Common.{ap, arith, sym, ◌∙◌}
use Rattle.std.proofs.lemmas.Bool.{eqb-true, true≢false}
use Rattle.cp_model.proofs.Options.{same_some}
use Rattle.cp_model.specs.States.{Setup, is_in, numbers_from, process_count, processes}
use Rattle.cp_model_machine.specs.PrivateStates.{PrivateState}
use Rattle.cp_law_cores.specs.Cores.{part, put}

module _ {X : Type 0} where
  pub none_is : (x : X) → None ≡ Some x → ⊥
  none_is x e = true≢false (sym (ap (λ (r : Option X). elim r [ None ↦ false | Some v ↦ true ]) e))

  set_here : (xs : List X) (i : ℕ) (x z : X) → slice_get xs i ≡ Some x → slice_get (slice_set xs i z) i ≡ Some z
  set_here [] i x z e = absurd (none_is x e)
  set_here (y ∷ xs) zero x z e = refl
  set_here (y ∷ xs) (suc i) x z e = set_here xs i x z e

  set_there : (xs : List X) (i j : ℕ) (z : X) → i ≢ j → slice_get (slice_set xs i z) j ≡ slice_get xs j
  set_there [] i j z d = refl
  set_there (x ∷ xs) zero zero z d = absurd (d refl)
  set_there (x ∷ xs) zero (suc j) z d = refl
  set_there (x ∷ xs) (suc i) zero z d = refl
  set_there (x ∷ xs) (suc i) (suc j) z d = set_there xs i j z (λ e. d (ap suc e))

  pub set_same : (xs : List X) (i : ℕ) (x : X) → slice_get xs i ≡ Some x → slice_set xs i x ≡ xs
  set_same [] i x e = refl
  set_same (y ∷ xs) zero x e = ap (λ (o : Option X). elim o as (λ v. List X) [ None ↦ y ∷ xs | Some z ↦ z ∷ xs ]) (sym e)
  set_same (y ∷ xs) (suc i) x e = ap (λ l. y ∷ l) (set_same xs i x e)

  pub map_set : (f : X → X) (xs : List X) (i : ℕ) (z : X) → map f (slice_set xs i z) ≡ slice_set (map f xs) i (f z)
  map_set f [] i z = refl
  map_set f (x ∷ xs) zero z = refl
  map_set f (x ∷ xs) (suc i) z = ap (λ l. f x ∷ l) (map_set f xs i z)

  pub map_got : (f : X → X) (xs : List X) (i : ℕ) (x : X) → slice_get xs i ≡ Some x → slice_get (map f xs) i ≡ Some (f x)
  map_got f [] i x e = absurd (none_is x e)
  map_got f (y ∷ xs) zero x e = ap (λ (o : Option X). elim o as (λ v. Option X) [ None ↦ None | Some z ↦ Some (f z) ]) e
  map_got f (y ∷ xs) (suc i) x e = map_got f xs i x e

  pub map_none : (f : X → X) (xs : List X) (i : ℕ) → slice_get xs i ≡ None → slice_get (map f xs) i ≡ None
  map_none f [] i e = refl
  map_none f (y ∷ xs) zero e = absurd (none_is y (sym e))
  map_none f (y ∷ xs) (suc i) e = map_none f xs i e

-- ---- By numbers

pub part_here : (os : List PrivateState) (p : ℕ) (o z : PrivateState) → part os p ≡ Some o → part (put os p z) p ≡ Some z
part_here os zero o z e = absurd (none_is o e)
part_here os (suc i) o z e = set_here os i o z e

pub part_there : (os : List PrivateState) (p q : ℕ) (z : PrivateState) → p ≢ q → part (put os p z) q ≡ part os q
part_there os zero q z d = refl
part_there os (suc i) zero z d = refl
part_there os (suc i) (suc j) z d = set_there os i j z (λ e. d (ap suc e))

map_part : (f : PrivateState → PrivateState) (os : List PrivateState) (p : ℕ) (o : PrivateState) → part os p ≡ Some o → part (map f os) p ≡ Some (f o)
map_part f os zero o e = absurd (none_is o e)
map_part f os (suc i) o e = map_got f os i o e

map_no_part : (f : PrivateState → PrivateState) (os : List PrivateState) (p : ℕ) → part os p ≡ None → part (map f os) p ≡ None
map_no_part f os zero e = refl
map_no_part f os (suc i) e = map_none f os i e

-- Mapped private states come from private states.
pub from_map : (f : PrivateState → PrivateState) (os : List PrivateState) (p : ℕ) (o : PrivateState) → part (map f os) p ≡ Some o
    → (y : PrivateState) × (part os p ≡ Some y) × (f y ≡ o)
from_map f os p o is = by (part os p) refl
  where
    by : (x : Option PrivateState) → part os p ≡ x → (y : PrivateState) × (part os p ≡ Some y) × (f y ≡ o)
    by None e = absurd (none_is o (sym (map_no_part f os p e) ∙ is))
    by (Some y) e = (y, e, same_some (f y) o (sym (map_part f os p y e) ∙ is))

pub got : {X : Type 0} (xs : List X) (i : ℕ) → i < length xs → (x : X) × (slice_get xs i ≡ Some x)
got [] i h = absurd (Prim.omega (arith, h))
got (x ∷ xs) zero h = (x, refl)
got (x ∷ xs) (suc i) h = got xs i (Prim.omega (arith, h))

-- ---- Numbers of processes

pub numbered : (n p q : ℕ) → is_in p (numbers_from q n) ≡ true → (q ≤ p) × (p < q + n)
numbered zero p q h = absurd (true≢false (sym h))
numbered (suc n) p q h = by (nat_eq p q) refl h (numbered n p (suc q))
  where
    by : (b : Bool) → nat_eq p q ≡ b → (if b then true else is_in p (numbers_from (suc q) n)) ≡ true
        → (is_in p (numbers_from (suc q) n) ≡ true → (suc q ≤ p) × (p < suc q + n)) → (q ≤ p) × (p < q + suc n)
    by true e h later =
        let same : p ≡ q = eqb-true p q e in
        (Prim.omega (arith, same), Prim.omega (arith, same))
    by false e h later =
        let r = later h in
        let low = r.0 in
        let high = r.1 in
        (Prim.omega (arith, low), Prim.omega (arith, high))

pub in_range : (setup : Setup) (p : ℕ) → is_in p (processes setup) ≡ true → (1 ≤ p) × (p ≤ process_count setup)
in_range setup p h =
    let r = numbered (process_count setup) p 1 h in
    let low = r.0 in
    let high = r.1 in
    (low, Prim.omega (arith, high))
