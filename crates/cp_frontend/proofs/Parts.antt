-- The parts of an input, one after another.
use Rattle.std.proofs.Common.{◌≡◌, ℕ, suc, ◌+◌, List, [], ◌∷◌, ◌++◌, inl, inr, Bool, true, false, length, refl, sym, ap, ◌∙◌, arith}
use Rattle.std.specs.Prelude.{if◌then◌else◌, get_or, nat_eq}
use Rattle.std.proofs.lemmas.List.{get_or_append_left, get_or_push, length-append}
use Rattle.std.proofs.lemmas.Option.{get_or_from_slice_get, slice_get_cases, slice_get_within}
use Rattle.cp_model.specs.Input.{cut}
use Rattle.cp_frontend.specs.Cutting.{AreInputs, Bytes, after_separator, front_part}

pub cut_first : (xs : List ℕ) → cut xs 1 ≡ front_part xs
cut_first [] = refl
cut_first (b ∷ bs) = ap (λ l. if nat_eq b 28 then [] else b ∷ l) (cut_first bs)

pub cut_later : (k : ℕ) (xs : List ℕ) → cut xs (suc (suc k)) ≡ cut (after_separator xs) (suc k)
cut_later k [] = refl
cut_later k (b ∷ bs) = by (nat_eq b 28) (cut_later k bs)
  where
    by : (here : Bool) → cut bs (suc (suc k)) ≡ cut (after_separator bs) (suc k)
        → (if here then cut bs (suc k) else cut bs (suc (suc k))) ≡ cut (if here then bs else after_separator bs) (suc k)
    by true more = refl
    by false more = more

-- The input of one more process.
pub input_pushed : (inputs : ℕ → List ℕ) (n : ℕ) (all : List Bytes) (v : Bytes) → AreInputs inputs n all → v.items ≡ inputs (suc n)
    → AreInputs inputs (n + 1) (all ++ v ∷ [])
input_pushed inputs n all v P is_next = record {
  count = omega (arith, length-append all (v ∷ []), P.count);
  each = λ i u e.
      let is : get_or (all ++ v ∷ []) i v ≡ u = get_or_from_slice_get (all ++ v ∷ []) i u v e in
      elim (slice_get_cases all i).1 [
        | inl h ↦
            ap (λ (w : Bytes). w.items) (sym is ∙ (get_or_append_left all (v ∷ []) v i h.1 ∙ get_or_from_slice_get all i h.0 v h.2)) ∙ P.each i h.0 h.2
        | inr h ↦
            let last : length all ≡ i = omega (arith, h.0, slice_get_within (all ++ v ∷ []) i u e, length-append all (v ∷ [])) in
            let at : suc n ≡ suc i = omega (arith, last, P.count) in
            ap (λ (w : Bytes). w.items) (sym is ∙ get_or_push all v v i last) ∙ (is_next ∙ ap inputs at)
      ];
}

-- One more part.
pub part_pushed : (input left : List ℕ) (n : ℕ) (all : List Bytes) (v : Bytes) → AreInputs (cut input) n all → v.items ≡ front_part left
    → ((k : ℕ) → cut input (n + suc k) ≡ cut left (suc k)) → AreInputs (cut input) (n + 1) (all ++ v ∷ [])
part_pushed input left n all v P part later =
    let next : n + 1 ≡ suc n = omega arith in
    input_pushed (cut input) n all v P (part ∙ (sym (cut_first left) ∙ (sym (later 0) ∙ ap (cut input) next)))

pub later_parts : (input left rest : List ℕ) (n : ℕ) → rest ≡ after_separator left
    → ((k : ℕ) → cut input (n + suc k) ≡ cut left (suc k)) → (k : ℕ) → cut input (n + 1 + suc k) ≡ cut rest (suc k)
later_parts input left rest n is later k =
    let at : n + 1 + suc k ≡ n + suc (suc k) = omega arith in
    ap (cut input) at ∙ (later (suc k) ∙ (cut_later k left ∙ ap (λ l. cut l (suc k)) (sym is)))
