-- Lists of cores that grow.
use Rattle.std.specs.Prelude.{Bool, Contains, Err, IfOk, List, Ok, Result, Some, [], false, length, nat_eq, refl, slice_get, suc, true, zero, ℕ, ◌+◌, ◌++◌, ◌<◌, ◌∷◌, ◌≡◌, ◌≤◌}
use Rattle.std.proofs.Common.{ap, arith, subst, sym, ◌∙◌}
use Rattle.std.proofs.lemmas.Bool.{eqb-false, eqb-true}
use Rattle.std.proofs.lemmas.List.{length-append}
use Rattle.std.proofs.lemmas.List.Elements.{Contains-append_left}
use Rattle.cp_model_program.specs.Programs.{Program}
use Rattle.cp_law_cores.specs.Cores.{Core}
use Rattle.cp_law_cores.proofs.Parts.{none_is}
use Rattle.cp_law_exploring.specs.Exploring.{AreExpanded, Grows, IsCoveredBelow, IsCovered, LeadsInto, count}

module _ {A : Type 0} where
  got_front : (xs ys : List A) (i : ℕ) → i < length xs → slice_get (xs ++ ys) i ≡ slice_get xs i
  got_front [] ys i below = absurd (omega (arith, below))
  got_front (x ∷ xs) ys zero below = refl
  got_front (x ∷ xs) ys (suc i) below = got_front xs ys i (omega (arith, below))

  pub got_below : (xs : List A) (i : ℕ) (x : A) → slice_get xs i ≡ Some x → i < length xs
  got_below [] i x e = absurd (none_is x e)
  got_below (y ∷ xs) zero x e = omega arith
  got_below (y ∷ xs) (suc i) x e = let below = got_below xs i x e in omega arith

pub grows_not : (vs : List Core) → Grows vs vs
grows_not vs = record { more = []; is = on vs }
  where
    on : (vs : List Core) → vs ≡ vs ++ []
    on [] = refl
    on (v ∷ vs) = ap (λ l. v ∷ l) (on vs)

pub grows_by : (vs : List Core) (v : Core) → Grows vs (vs ++ v ∷ [])
grows_by vs v = record { more = v ∷ []; is = refl }

pub grows_more : (us vs ws : List Core) → Grows us vs → Grows vs ws → Grows us ws
grows_more us vs ws a b = record { more = a.more ++ b.more; is = b.is ∙ (ap (λ l. l ++ b.more) a.is ∙ assoc us a.more b.more) }
  where
    assoc : (xs ys zs : List Core) → (xs ++ ys) ++ zs ≡ xs ++ (ys ++ zs)
    assoc [] ys zs = refl
    assoc (x ∷ xs) ys zs = ap (λ l. x ∷ l) (assoc xs ys zs)

pub got_grown : (vs ws : List Core) (i : ℕ) (v : Core) → Grows vs ws → i < length vs → slice_get ws i ≡ Some v → slice_get vs i ≡ Some v
got_grown vs ws i v g below e = sym (got_front vs g.more i below) ∙ (ap (λ l. slice_get l i) (sym g.is) ∙ e)

pub leads_grown : (program : Program) (vs ws : List Core) (x : Core) → Grows vs ws → LeadsInto program vs x → LeadsInto program ws x
leads_grown program vs ws x g h = record {
  member = h.member;
  known = subst (λ l. Contains l h.member) (sym g.is) (Contains-append_left vs g.more h.member h.known);
  settles = h.settles;
}

pub expanded_grown : (program : Program) (vs ws : List Core) (i : ℕ) → Grows vs ws → i ≤ length vs → AreExpanded program vs i → AreExpanded program ws i
expanded_grown program vs ws i g below h = record {
  each = λ j p v less e low high late. leads_grown program vs ws _ g (h.each j p v less (got_grown vs ws j v g (omega arith) e) low high late);
}

pub below_grown : (program : Program) (vs ws : List Core) (i q : ℕ) → Grows vs ws → i < length vs → IsCoveredBelow program vs i q → IsCoveredBelow program ws i q
below_grown program vs ws i q g below h = record {
  each = λ p v e low less late. leads_grown program vs ws _ g (h.each p v (got_grown vs ws i v g below e) low less late);
}

pub below_none : (program : Program) (vs : List Core) (i : ℕ) → IsCoveredBelow program vs i 1
below_none program vs i = record { each = λ p v e low less. absurd (omega arith) }

pub expanded_none : (program : Program) (vs : List Core) → AreExpanded program vs 0
expanded_none program vs = record { each = λ j p v less. absurd (omega arith) }

pub grown_length : (vs ws : List Core) → Grows vs ws → length vs ≤ length ws
grown_length vs ws g = let both = ap length g.is in omega (arith, both, length-append vs g.more)

-- One more process has been tried.
pub below_more : (program : Program) (vs : List Core) (i q : ℕ) → IsCoveredBelow program vs i q → ((v : Core) → slice_get vs i ≡ Some v → IsCovered program vs v q)
    → IsCoveredBelow program vs i (q + 1)
below_more program vs i q was tried = record { each = λ p v e low less. by p v e low less (nat_eq p q) refl }
  where
    by : (p : ℕ) (v : Core) → slice_get vs i ≡ Some v → 1 ≤ p → p < q + 1 → (b : Bool) → nat_eq p q ≡ b → IsCovered program vs v p
    by p v e low less true g = subst (IsCovered program vs v) (sym (eqb-true p q g)) (tried v e)
    by p v e low less false g = let apart = eqb-false p q g in was.each p v e low (omega arith)

-- One more core has been expanded.
pub expanded_more : (program : Program) (vs : List Core) (i : ℕ) → AreExpanded program vs i → IsCoveredBelow program vs i (count program + 1) → AreExpanded program vs (i + 1)
expanded_more program vs i was here = record { each = λ j p v less e low high. by j p v less e low high (nat_eq j i) refl }
  where
    by : (j p : ℕ) (v : Core) → j < i + 1 → slice_get vs j ≡ Some v → 1 ≤ p → p ≤ count program → (b : Bool) → nat_eq j i ≡ b → IsCovered program vs v p
    by j p v less e low high true g = here.each p v (ap (slice_get vs) (sym (eqb-true j i g)) ∙ e) low (omega arith)
    by j p v less e low high false g = let apart = eqb-false j i g in was.each j p v (omega arith) e low high

-- ---- Results

pub both_ok : {T E : Type 0} (r : Result T E) (P Q R : T → Type 0) → ((x : T) → P x → Q x → R x) → IfOk r P → IfOk r Q → IfOk r R
both_ok (Ok x) P Q R both p q = both x p q
both_ok (Err e) P Q R both p q = tt
