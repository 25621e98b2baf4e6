-- Transcripts by number, and what changes when one of them grows.
use Rattle.std.proofs.Common.{◌≡◌, ◌≢◌, ◌≤◌, ◌+◌, ◌-◌, ◌++◌, ℕ, zero, suc, List, [], ◌∷◌, Option, None, Some, slice_get, slice_set, map, length, vec_len, vec_capacity, refl, ap, sym, subst, ◌∙◌, arith}
use Rattle.std.specs.Prelude.{option_map}
use Rattle.std.proofs.lemmas.Option.{slice_get-map}
use Rattle.std.proofs.lemmas.List.{append-nil, map-set}
use Rattle.cp_model_machine.specs.Machines.{transcript_of}
use Rattle.cp_model.proofs.Options.{same_some}
use Rattle.std.specs.Prelude.{Vec}
use Rattle.std.specs.Global.{Global}
use Rattle.cp_kernel.specs.KernelOf.{Bytes}
use Rattle.cp_kernel.specs.Turns.{Moves}
use Rattle.cp_kernel.specs.declared.kernel.Kernel.{Kernel}

abbrev bytes_by : (x : Option (List ℕ)) → List ℕ
bytes_by None = []
bytes_by (Some xs) = xs

looked : (x : Option (List ℕ)) → elim x [ None ↦ [] | Some xs ↦ xs ] ≡ bytes_by x
looked None = refl
looked (Some xs) = refl

found : (vs : List Bytes) (p : ℕ) (v : Bytes) → slice_get vs (p - 1) ≡ Some v → transcript_of (map (λ (w : Bytes). w.items) vs) p ≡ v.items
found vs p v there =
    looked (slice_get (map (λ (w : Bytes). w.items) vs) (p - 1))
    ∙ ap bytes_by (slice_get-map (λ (w : Bytes). w.items) vs (p - 1) ∙ ap (option_map (λ (w : Bytes). w.items)) there)

pub grown : (vs : List Bytes) (p : ℕ) (v w : Bytes) (written : List ℕ) → slice_get vs (p - 1) ≡ Some v → w.items ≡ v.items ++ written
    → map (λ (u : Bytes). u.items) (slice_set vs (p - 1) w)
    ≡ slice_set (map (λ (u : Bytes). u.items) vs) (p - 1) (transcript_of (map (λ (u : Bytes). u.items) vs) p ++ written)
grown vs p v w written there is =
    map-set (λ (u : Bytes). u.items) vs (p - 1) w
    ∙ ap (slice_set (map (λ (u : Bytes). u.items) vs) (p - 1)) (is ∙ ap (λ xs. xs ++ written) (sym (found vs p v there)))

pub set_past : {X : Type 0} (xs : List X) (i : ℕ) (x : X) → length xs ≤ i → xs ≡ slice_set xs i x
set_past [] i x past = refl
set_past (y ∷ xs) zero x past = absurd (omega (arith, past))
set_past (y ∷ xs) (suc i) x past = ap (λ ys. y ∷ ys) (set_past xs i x (omega (arith, past)))

pub got_other : {X : Type 0} (xs : List X) (i k : ℕ) (y : X) → k ≢ i → slice_get (slice_set xs i y) k ≡ slice_get xs k
got_other [] i k y apart = refl
got_other (z ∷ xs) zero zero y apart = absurd (apart refl)
got_other (z ∷ xs) zero (suc k) y apart = refl
got_other (z ∷ xs) (suc i) zero y apart = refl
got_other (z ∷ xs) (suc i) (suc k) y apart = got_other xs i k y (λ e. apart (ap suc e))

pub got_same : {X : Type 0} (xs : List X) (i : ℕ) (y x : X) → slice_get (slice_set xs i y) i ≡ Some x → y ≡ x
got_same [] i y x e = absurd (cc)
got_same (z ∷ xs) zero y x e = same_some y x e
got_same (z ∷ xs) (suc i) y x e = got_same xs i y x e

-- What is moved is the same if the transcripts before are the same.
pub moved_from : (k mid after : Kernel) (p : ℕ) (written : List ℕ) → mid.transcripts ≡ k.transcripts → Moves mid after p written → Moves k after p written
moved_from k mid after p written same M = record {
  transcripts =
      M.transcripts
      ∙ ap (λ (ts : Vec (Bytes) Global). let all = map (λ (v : Bytes). v.items) ts.items in slice_set all (p - 1) (transcript_of all p ++ written)) same;
  others = λ q n apart had.
      M.others q n apart (subst (λ (ts : Vec (Bytes) Global). (v : Bytes) → slice_get ts.items (q - 1) ≡ Some v → vec_len v + n ≤ vec_capacity v) (sym same) had);
}

set_same : (xss : List (List ℕ)) (i : ℕ) (ys : List ℕ) → ((xs : List ℕ) → slice_get xss i ≡ Some xs → ys ≡ xs) → xss ≡ slice_set xss i ys
set_same [] i ys same = refl
set_same (xs ∷ xss) zero ys same = ap (λ zs. zs ∷ xss) (sym (same xs refl))
set_same (xs ∷ xss) (suc i) ys same = ap (λ zss. xs ∷ zss) (set_same xss i ys same)

-- Nothing is moved.
pub nothing_moved : (k : Kernel) (p : ℕ) (written : List ℕ) → written ≡ [] → Moves k k p written
nothing_moved k p written none = record {
  transcripts =
      let all = map (λ (v : Bytes). v.items) k.transcripts.items in
      set_same all (p - 1) (transcript_of all p ++ written)
      (λ xs there. ap (λ ys. transcript_of all p ++ ys) none ∙ (append-nil (transcript_of all p) ∙ (looked (slice_get all (p - 1)) ∙ ap bytes_by there)));
  others = λ q n apart had. had;
}
