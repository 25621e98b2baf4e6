-- Storing a value in a simple variable and in its word.
use Rattle.std.proofs.Common.{◌≡◌, ◌≢◌, ◌⊎◌, inl, inr, ℕ, ◌<◌, ℤ, pos, List, length, Bool, true, false, Option, Some, refl, ap, sym, subst, ◌∙◌}
use Rattle.std.specs.Prelude.{if◌then◌else◌, nat_eq, slice_set}
use Rattle.std.proofs.lemmas.Bool.{eq-eqb, eqb-true, true≢false}
use Rattle.std.proofs.lemmas.List.{get_or-set_other, get_or-set_same}
use Rattle.cp_model.specs.Abstract.{Class, Sort}
use Rattle.cp_model.specs.Locations.{Location, same_location}
use Rattle.cp_model.specs.Stores.{Store, Value, put}
use Rattle.cp_model.specs.Types.{ArrayOf, ComponentOf, NoType, Queue, RecordOf, ResolvedType, Simple}
use Rattle.cp_model.proofs.Options.{same_some}
use Rattle.cp_model_program.specs.Layout.{Part}
use Rattle.cp_model_program.specs.Starts.{word}
use Rattle.cp_law_typing.proofs.Locations.{location_is, location_itself}
use Rattle.cp_model_machine.specs.Means.{CellMeans, MarkMeans}
use Rattle.cp_model_machine.specs.Addresses.{Activation, Ground, in_sight, lies, scope}
use Rattle.cp_model_machine.proofs.Apart.{IsCell, IsClass, cell_head}
use Rattle.cp_model_machine.proofs.Stacks.{Stacked}
use Rattle.cp_model_machine.proofs.Separate.{separate}

-- ---- the write

pub changed_other : (ws : List ℤ) (i k : ℕ) (m : ℤ) → i ≢ k → word (slice_set ws k m) i ≡ word ws i
changed_other ws i k m d = get_or-set_other ws k i m (pos 0) d

-- A type of a cell, or one of which a word means nothing.
pub is_cell : (t : ResolvedType) → IsCell t ⊎ ((v : Value) (n : ℤ) → CellMeans t v n)
is_cell (Simple b low high start) = inl tt
is_cell Queue = inl tt
is_cell (ArrayOf low high t) = inr (λ v n. tt)
is_cell (RecordOf ms) = inr (λ v n. tt)
is_cell NoType = inr (λ v n. tt)
is_cell (ComponentOf s inner) = by s.sort
  where
    by : (z : Sort) → IsClass z ⊎ ((v : Value) (n : ℤ) → MarkMeans z v n)
    by Class = inl tt
    by _ = inr (λ v n. tt)

pub cell_written : (G : Ground) (xs : List Activation) (top : ℕ) (store : Store) (words : List ℤ) (l : Location) (n : ℕ) (u : ResolvedType) (w : Value) (m : ℤ) → IsCell u → CellMeans u w m
    → Stacked G top xs → ((k : Location) (i : ℕ) (t : ResolvedType) → in_sight G k.owner ≡ true → lies G xs k ≡ Some (i, t) → CellMeans t (store k) (word words i))
    → in_sight G l.owner ≡ true → lies G xs l ≡ Some (n, u) → n < length words
    → (k : Location) (i : ℕ) (t : ResolvedType) → in_sight G k.owner ≡ true → lies G xs k ≡ Some (i, t)
    → CellMeans t (put l w store k) (word (slice_set words n m) i)
cell_written G xs top store words l n u w m cell means stack cells own is room k i t mine there = by (is_cell t) (nat_eq i n) refl
  where
    other : (x : Bool) → same_location l k ≡ x → i ≢ n → CellMeans t (if x then w else store k) (word (slice_set words n m) i)
    other true e d = absurd (d (sym (ap (λ z. z.0) (same_part (sym is ∙ (ap (lies G xs) (location_is l k e) ∙ there))))))
      where
        same_part : ◌≡◌ {A = Option Part} (Some (n, u)) (Some (i, t)) → ◌≡◌ {A = Part} (n, u) (i, t)
        same_part h = same_some (n, u) (i, t) h
    other false e d = subst (λ z. CellMeans t (store k) z) (sym (changed_other words i n m d)) (cells k i t mine there)

    by : IsCell t ⊎ ((v : Value) (z : ℤ) → CellMeans t v z) → (x : Bool) → nat_eq i n ≡ x → CellMeans t (put l w store k) (word (slice_set words n m) i)
    by (inr f) x e = f (put l w store k) (word (slice_set words n m) i)
    by (inl c) false e = other (same_location l k) refl (λ q. true≢false (sym (eq-eqb i n q) ∙ e))
    by (inl c) true e =
        let here : i ≡ n = eqb-true i n e in
        let found : lies G xs k ≡ Some (n, t) = there ∙ ap (λ z. Some (z, t)) here in
        let same : l ≡ k = separate G xs top stack l k n n u t 0 0 own mine (cell_head (scope G) u cell) (cell_head (scope G) t c) is found refl in
        let type : u ≡ t = ap (λ z. z.1) (same_part n t (sym is ∙ (ap (lies G xs) same ∙ found))) in
        let stored : put l w store k ≡ w = ap (λ z. if z then w else store k) (ap (same_location l) (sym same) ∙ location_itself l) in
        let held : word (slice_set words n m) i ≡ m = ap (word (slice_set words n m)) here ∙ get_or-set_same words n m (pos 0) room in
        subst (λ z. CellMeans z (put l w store k) (word (slice_set words n m) i)) type
        (subst (λ z. CellMeans u z (word (slice_set words n m) i)) (sym stored) (subst (CellMeans u w) (sym held) means))
      where
        same_part : (j : ℕ) (t : ResolvedType) → ◌≡◌ {A = Option Part} (Some (n, u)) (Some (j, t)) → ◌≡◌ {A = Part} (n, u) (j, t)
        same_part j t h = same_some (n, u) (j, t) h
