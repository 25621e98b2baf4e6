-- Private states and kernels by their numbers.
use Rattle.std.specs.Prelude.{All, List, None, Option, Some, [], length, nat_eq, refl, slice_get, slice_index_or, slice_set, suc, true, false, Bool, zero, ℕ, ◌+◌, ◌++◌, ◌<◌, ◌∷◌, ◌≡◌, ◌≤◌}
use Rattle.std.proofs.Common.{ap, arith, subst, sym, ◌∙◌, ◌⊎◌, inl, inr, ⊎_elim}
use Rattle.std.proofs.lemmas.Bool.{eqb-false, eqb-true}
use Rattle.std.proofs.lemmas.List.{length-append}
use Rattle.std.proofs.lemmas.List.Elements.{All-head, All-tail}
use Rattle.std.proofs.lemmas.Option.{slice_get-get_or, slice_get_within}
use Rattle.cp_model.proofs.Options.{same_some}
use Rattle.cp_law_cores.proofs.Parts.{none_is}
use Rattle.cp_private.specs.States.{private_of}
use Rattle.cp_private.specs.declared.private.Private.{Private}
use Rattle.cp_kernel.specs.KernelOf.{kernel_of}
use Rattle.cp_kernel.specs.Turns.{parts_of}
use Rattle.cp_kernel.specs.declared.kernel.Kernel.{Kernel}
use Rattle.cp_search_states.proofs.Items.{got_snoc, longer}
use Rattle.cp_search_store.specs.Stored.{AreNumbered, AreNumberedBelow, Extends, IsKernelAt, IsPartAt, kernel_at, kernel_or_none, part_at, part_or_none, parts_at}

module _ {A : Type 0} where
  pub got_front : (xs ys : List A) (i : ℕ) → i < length xs → slice_get (xs ++ ys) i ≡ slice_get xs i
  got_front [] ys i below = absurd (omega (arith, below))
  got_front (x ∷ xs) ys zero below = refl
  got_front (x ∷ xs) ys (suc i) below = got_front xs ys i (omega (arith, below))

  pub got_last : (xs : List A) (x : A) → slice_get (xs ++ x ∷ []) (length xs) ≡ Some x
  got_last [] x = refl
  got_last (y ∷ xs) x = got_last xs x

  append_none : (xs : List A) → xs ≡ xs ++ []
  append_none [] = refl
  append_none (x ∷ xs) = ap (λ l. x ∷ l) (append_none xs)

  append_more : (xs ys zs : List A) → (xs ++ ys) ++ zs ≡ xs ++ (ys ++ zs)
  append_more [] ys zs = refl
  append_more (x ∷ xs) ys zs = ap (λ l. x ∷ l) (append_more xs ys zs)

  pub extends_not : (xs ys : List A) → ys ≡ xs → Extends xs ys
  extends_not xs ys e = record { more = []; is = e ∙ append_none xs }

  pub extends_one : (xs ys : List A) (x : A) → ys ≡ xs ++ x ∷ [] → Extends xs ys
  extends_one xs ys x e = record { more = x ∷ []; is = e }

  pub extends_more : (xs ys zs : List A) → Extends xs ys → Extends ys zs → Extends xs zs
  extends_more xs ys zs a b = record { more = a.more ++ b.more; is = b.is ∙ (ap (λ l. l ++ b.more) a.is ∙ append_more xs a.more b.more) }

  pub extended_length : (xs ys : List A) → Extends xs ys → length xs ≤ length ys
  extended_length xs ys e = let both = ap length e.is in omega (arith, both, length-append xs e.more)

-- ---- Parts

pub part_known : (xs : List Private) (n : ℕ) (d x : Private) → n < length xs → ((input : List ℕ) → private_of (slice_index_or xs n d) input ≡ private_of x input) → IsPartAt xs n x
part_known xs n d x below same = record {
  within = below;
  same = λ input. ap (λ o. part_or_none o input) (slice_get-get_or xs n d below) ∙ same input;
}

pub part_pushed : (xs ys : List Private) (y x : Private) → ys ≡ xs ++ y ∷ [] → ((input : List ℕ) → private_of y input ≡ private_of x input) → IsPartAt ys (length xs) x
part_pushed xs ys y x e same =
    let count = ap length e in
    let more = longer xs y in
    record {
      within = omega (arith, count, more);
      same = λ input. ap (λ l. part_at l (length xs) input) e ∙ (ap (λ o. part_or_none o input) (got_last xs y) ∙ same input);
    }

pub part_kept : (xs ys : List Private) (n : ℕ) (input : List ℕ) → Extends xs ys → n < length xs → part_at ys n input ≡ part_at xs n input
part_kept xs ys n input e below = ap (λ l. part_at l n input) e.is ∙ ap (λ o. part_or_none o input) (got_front xs e.more n below)

pub part_grown : (xs ys : List Private) (n : ℕ) (x : Private) → Extends xs ys → IsPartAt xs n x → IsPartAt ys n x
part_grown xs ys n x e h =
    let longer = extended_length xs ys e in
    let below = h.within in
    record { within = omega (arith, longer, below); same = λ input. part_kept xs ys n input e below ∙ h.same input }

pub part_as : (xs : List Private) (n : ℕ) (x y : Private) → ((input : List ℕ) → private_of y input ≡ private_of x input) → IsPartAt xs n x → IsPartAt xs n y
part_as xs n x y same h = record { within = h.within; same = λ input. h.same input ∙ sym (same input) }

pub numbered_grown : (xs ys : List Private) (ns : List ℕ) (zs : List Private) (i : ℕ) → Extends xs ys → AreNumberedBelow xs ns zs i → AreNumberedBelow ys ns zs i
numbered_grown xs ys ns zs i e h = record { each = λ j n y less a b. part_grown xs ys n y e (h.each j n y less a b) }

pub numbered_none : (xs : List Private) (ns : List ℕ) (ys : List Private) → AreNumberedBelow xs ns ys 0
numbered_none xs ns ys = record { each = λ j n y less. absurd (omega (arith, less)) }

-- One more number is pushed.
pub numbered_push : (xs : List Private) (ns ms : List ℕ) (ys : List Private) (i n : ℕ) (y : Private) → length ns ≡ i → ms ≡ ns ++ n ∷ [] → slice_get ys i ≡ Some y → IsPartAt xs n y
    → AreNumberedBelow xs ns ys i → AreNumberedBelow xs ms ys (i + 1)
numbered_push xs ns ms ys i n y count items here is was = record { each = go }
  where
    go : (j m : ℕ) (z : Private) → j < i + 1 → slice_get ms j ≡ Some m → slice_get ys j ≡ Some z → IsPartAt xs m z
    go j m z less a b =
        ⊎_elim
        (λ (old : slice_get ns j ≡ Some m). let below = slice_get_within ns j m old in was.each j m z (omega (arith, below, count)) old b)
        (λ (new : (j ≡ length ns) × (n ≡ m)).
        let same : y ≡ z = same_some y z (sym here ∙ (ap (slice_get ys) (sym (new.0 ∙ count)) ∙ b)) in
        subst (λ (k : ℕ). IsPartAt xs k z) new.1 (subst (IsPartAt xs n) same is))
        (got_snoc ns n j m (ap (λ (l : List ℕ). slice_get l j) (sym items) ∙ a))

module _ {A : Type 0} where
  got_set : (xs : List A) (i : ℕ) (y z : A) → slice_get (slice_set xs i y) i ≡ Some z → y ≡ z
  got_set [] i y z e = absurd (none_is z e)
  got_set (x ∷ xs) zero y z e = same_some y z e
  got_set (x ∷ xs) (suc i) y z e = got_set xs i y z e

  got_unset : (xs : List A) (i j : ℕ) (y : A) → j < i → slice_get (slice_set xs i y) j ≡ slice_get xs j
  got_unset [] i j y less = refl
  got_unset (x ∷ xs) zero j y less = absurd (omega (arith, less))
  got_unset (x ∷ xs) (suc i) zero y less = refl
  got_unset (x ∷ xs) (suc i) (suc j) y less = got_unset xs i j y (omega (arith, less))

-- One more private state is restored.
pub numbered_set : (xs : List Private) (ns : List ℕ) (ys : List Private) (i n : ℕ) (y : Private) → slice_get ns i ≡ Some n → IsPartAt xs n y
    → AreNumberedBelow xs ns ys i → AreNumberedBelow xs ns (slice_set ys i y) (i + 1)
numbered_set xs ns ys i n y here is was = record { each = λ j m z less a b. by j m z less a b (nat_eq j i) refl }
  where
    by : (j m : ℕ) (z : Private) → j < i + 1 → slice_get ns j ≡ Some m → slice_get (slice_set ys i y) j ≡ Some z → (b : Bool) → nat_eq j i ≡ b → IsPartAt xs m z
    by j m z less a b true g =
        let at = eqb-true j i g in
        let same : y ≡ z = got_set ys i y z (ap (slice_get (slice_set ys i y)) (sym at) ∙ b) in
        let number : n ≡ m = same_some n m (sym here ∙ (ap (slice_get ns) (sym at) ∙ a)) in
        subst (λ (k : ℕ). IsPartAt xs k z) number (subst (IsPartAt xs n) same is)
    by j m z less a b false g =
        let apart = eqb-false j i g in
        let before : j < i = omega (arith, less, apart) in
        was.each j m z before a (sym (got_unset ys i j y before) ∙ b)

numbered_from : (inputs : ℕ → List ℕ) (xs : List Private) (p : ℕ) (ns : List ℕ) (ys : List Private) → length ns ≡ length ys
    → ((j n : ℕ) (y : Private) → slice_get ns j ≡ Some n → slice_get ys j ≡ Some y → IsPartAt xs n y) → parts_at inputs xs p ns ≡ parts_of inputs p ys
numbered_from inputs xs p [] [] count each = refl
numbered_from inputs xs p [] (y ∷ ys) count each = absurd (omega (arith, count))
numbered_from inputs xs p (n ∷ ns) [] count each = absurd (omega (arith, count))
numbered_from inputs xs p (n ∷ ns) (y ∷ ys) count each =
    let first = (each 0 n y refl refl).same (inputs p) in
    let rest = numbered_from inputs xs (suc p) ns ys (omega (arith, count)) (λ j m z a b. each (suc j) m z a b) in
    λ i. first i ∷ rest i

-- The private states with these numbers are those that were numbered.
pub numbered_parts : (inputs : ℕ → List ℕ) (xs : List Private) (ns : List ℕ) (ys : List Private) → AreNumbered xs ns ys → parts_at inputs xs 1 ns ≡ parts_of inputs 1 ys
numbered_parts inputs xs ns ys h = numbered_from inputs xs 1 ns ys h.count (λ j n y a b. h.each.each j n y (slice_get_within ns j n a) a b)

pub numbered_within : (xs : List Private) (ns : List ℕ) (ys : List Private) (j n : ℕ) → AreNumbered xs ns ys → slice_get ns j ≡ Some n → n < length xs
numbered_within xs ns ys j n h e = by (slice_get ys j) refl
  where
    below : j < length ns
    below = slice_get_within ns j n e

    by : (o : Option Private) → slice_get ys j ≡ o → n < length xs
    by None g = absurd (past ys j (let count = h.count in let less = below in omega (arith, count, less)) g)
      where
        past : (zs : List Private) (k : ℕ) → k < length zs → slice_get zs k ≡ None → ⊥
        past [] k less g = absurd (omega (arith, less))
        past (z ∷ zs) zero less g = none_is z (sym g)
        past (z ∷ zs) (suc k) less g = past zs k (omega (arith, less)) g
    by (Some y) g = (h.each.each j n y below e g).within

pub parts_kept : (inputs : ℕ → List ℕ) (xs ys : List Private) (p : ℕ) (ns : List ℕ) → Extends xs ys → All (λ n. n < length xs) ns → parts_at inputs ys p ns ≡ parts_at inputs xs p ns
parts_kept inputs xs ys p [] e all = refl
parts_kept inputs xs ys p (n ∷ ns) e all =
    let first = part_kept xs ys n (inputs p) e (All-head (λ m. m < length xs) n ns all) in
    let rest = parts_kept inputs xs ys (suc p) ns e (All-tail (λ m. m < length xs) n ns all) in
    λ i. first i ∷ rest i

-- ---- Kernels

pub kernel_known : (ks : List Kernel) (n : ℕ) (d k : Kernel) → n < length ks → kernel_of (slice_index_or ks n d) ≡ kernel_of k → IsKernelAt ks n k
kernel_known ks n d k below same = record { within = below; same = ap kernel_or_none (slice_get-get_or ks n d below) ∙ same }

pub kernel_pushed : (ks ls : List Kernel) (l k : Kernel) → ls ≡ ks ++ l ∷ [] → kernel_of l ≡ kernel_of k → IsKernelAt ls (length ks) k
kernel_pushed ks ls l k e same =
    let count = ap length e in
    let more = longer ks l in
    record { within = omega (arith, count, more); same = ap (λ r. kernel_at r (length ks)) e ∙ (ap kernel_or_none (got_last ks l) ∙ same) }

pub kernel_kept : (ks ls : List Kernel) (n : ℕ) → Extends ks ls → n < length ks → kernel_at ls n ≡ kernel_at ks n
kernel_kept ks ls n e below = ap (λ r. kernel_at r n) e.is ∙ ap kernel_or_none (got_front ks e.more n below)
