-- Stores that agree with one store at some owners and with another store elsewhere.
use Rattle.std.specs.Prelude.{Bool, false, if◌then◌else◌, nat_eq, refl, true, ◌&&◌, ◌≡◌}
use Rattle.std.proofs.Common.{ap, arith, subst, ◌∙◌}
use Rattle.std.proofs.lemmas.Bool.{eqb-true}
use Rattle.cp_model.specs.Locations.{Location, OfActivation, OfMonitor, OfProcess, Owner, same_location, same_owner}
use Rattle.cp_model.specs.Stores.{Absent, ClassRight, Initialised, MonitorRight, Ordinal, QueueHolds, Reference, Store, Value, forget, put}
use Rattle.cp_model.specs.Components.{class_or_here}

-- The store a at the owners that pass the test, b elsewhere.
abbrev pub mix : (Owner → Bool) → Store → Store → Store
mix t a b l = if t l.owner then a l else b l

-- A reference at a location that passes the test points to a location that passes it.
pub record IsClosed (t : Owner → Bool) (a : Store) : Type 0 where
  pub references : (l k : Location) → t l.owner ≡ true → a l ≡ Reference k → t k.owner ≡ true
  pub classes : (l k : Location) → t l.owner ≡ true → a l ≡ ClassRight k → t k.owner ≡ true

pub get_mix : (t : Owner → Bool) (a b : Store) (l : Location) → t l.owner ≡ true → mix t a b l ≡ a l
get_mix t a b l h = rw h refl

pub same_owner-eq : (o u : Owner) → same_owner o u ≡ true → o ≡ u
same_owner-eq (OfProcess p) (OfProcess q) h = ap (λ x. OfProcess x) (eqb-true p q h)
same_owner-eq (OfMonitor p) (OfMonitor q) h = ap (λ x. OfMonitor x) (eqb-true p q h)
same_owner-eq (OfActivation p d) (OfActivation q e) h = go (nat_eq p q) refl h
  where
    go : (x : Bool) → nat_eq p q ≡ x → (x && nat_eq d e) ≡ true → OfActivation p d ≡ OfActivation q e
    go true g h = ap (λ x. OfActivation x d) (eqb-true p q g) ∙ ap (λ x. OfActivation q x) (eqb-true d e h)
    go false g h = Prim.grind arith
same_owner-eq (OfProcess p) (OfMonitor q) h = Prim.grind arith
same_owner-eq (OfProcess p) (OfActivation q e) h = Prim.grind arith
same_owner-eq (OfMonitor p) (OfProcess q) h = Prim.grind arith
same_owner-eq (OfMonitor p) (OfActivation q e) h = Prim.grind arith
same_owner-eq (OfActivation p d) (OfProcess q) h = Prim.grind arith
same_owner-eq (OfActivation p d) (OfMonitor q) h = Prim.grind arith

and-left : (x y : Bool) → (x && y) ≡ true → x ≡ true
and-left true y h = refl
and-left false y h = h

pub put_mix : (t : Owner → Bool) (l : Location) (v : Value) (a b : Store) → t l.owner ≡ true → put l v (mix t a b)
    ≡ mix t (put l v a) b
put_mix t l v a b h = λ i k. go k (same_location l k) refl i
  where
    go : (k : Location) (x : Bool) → same_location l k ≡ x → (if x then v else mix t a b k)
        ≡ (if t k.owner then (if x then v else a k) else b k)
    go k true e =
        let o : l.owner ≡ k.owner = same_owner-eq l.owner k.owner (and-left _ _ e) in
        rw (subst (λ y. t y ≡ true) o h) refl
    go k false e = refl

pub forget_mix : (t : Owner → Bool) (o : Owner) (a b : Store) → t o ≡ true → forget o (mix t a b) ≡ mix t (forget o a) b
forget_mix t o a b h = λ i k. go k (same_owner o k.owner) refl i
  where
    go : (k : Location) (x : Bool) → same_owner o k.owner ≡ x → (if x then Absent else mix t a b k)
        ≡ (if t k.owner then (if x then Absent else a k) else b k)
    go k true e = rw (subst (λ y. t y ≡ true) (same_owner-eq o k.owner e) h) refl
    go k false e = refl

pub mix_same : (t : Owner → Bool) (a : Store) → mix t a a ≡ a
mix_same t a = λ i l. go l (t l.owner) i
  where
    go : (l : Location) (b : Bool) → (if b then a l else a l) ≡ a l
    go l true = refl
    go l false = refl

-- A right to a class leads from a location in reach to a location in reach.
pub class_or_here_in : (t : Owner → Bool) (store : Store) → IsClosed t store → (l : Location) (v : Value) → t l.owner ≡ true → store l ≡ v
    → t (class_or_here l v).owner ≡ true
class_or_here_in t store closed l (ClassRight k) h e = closed.classes l k h e
class_or_here_in t store closed l Absent h e = h
class_or_here_in t store closed l (Ordinal n) h e = h
class_or_here_in t store closed l (QueueHolds x) h e = h
class_or_here_in t store closed l (MonitorRight m) h e = h
class_or_here_in t store closed l (Reference k) h e = h
class_or_here_in t store closed l (Initialised x) h e = h
