-- Parts of a list, with one part more, and one of them.
use Rattle.std.proofs.Common.{◌≡◌, ◌+◌, ◌-◌, ◌<◌, ◌≤◌, ℕ, zero, suc, List, [], ◌∷◌, ◌++◌, length, get_or, take, drop, refl, ap, sym, ◌∙◌, arith}
use Rattle.std.specs.Prelude.{None, Some, option_map, slice_get, slice_range}
use Rattle.std.proofs.lemmas.Option.{none-some, same_Some}
use Rattle.std.proofs.lemmas.List.{length-append, length-drop, drop_at, take_all, drop-append-le, drop-map, take-append-le, take-map}
use Rattle.cp_base_schedule.specs.Events.{event_of, events_of}
use Rattle.cp_base_schedule.specs.declared.event.Event.{Event}
use Rattle.cp_base_schedule.specs.Parts.{EndAt, bounds_at, parts_from}

pub end_within : (from : ℕ) (ends : List ℕ) (last : ℕ) → EndAt from ends last → from ≤ last
end_within from [] last e = omega arith
end_within from (end ∷ ends) last h = let le = h.0 in let rest = end_within end ends last h.1 in omega arith

pub end_more : (from : ℕ) (ends : List ℕ) (last more : ℕ) → EndAt from ends last → last ≤ more → EndAt from (ends ++ more ∷ []) more
end_more from [] last more e le = (omega arith, refl)
end_more from (end ∷ ends) last more h le = (h.0, end_more end ends last more h.1 le)

module _ {X : Type 0} where
  same_part : (from end : ℕ) (xs ys : List X) → from ≤ end → end ≤ length xs → slice_range (xs ++ ys) from end ≡ slice_range xs from end
  same_part from end xs ys le within =
      let short : end - from ≤ length (drop from xs) = omega (arith, length-drop from xs) in
      ap (take (end - from)) (drop-append-le from xs ys (omega arith)) ∙ take-append-le (end - from) (drop from xs) ys short

  pub parts_more : (from : ℕ) (ends : List ℕ) (xs ys : List X) (last : ℕ) → EndAt from ends (length xs) → last ≡ length (xs ++ ys)
      → parts_from from (ends ++ last ∷ []) (xs ++ ys) ≡ parts_from from ends xs ++ ys ∷ []
  parts_more from [] xs ys last e is =
      let rest : slice_range (xs ++ ys) from last ≡ ys =
      ap (take (last - from)) (drop_at xs ys from (sym e)) ∙ take_all (last - from) ys (omega (arith, length-append xs ys)) in
      ap (λ (p : List X). p ∷ []) rest
  parts_more from (end ∷ ends) xs ys last h is =
      λ i. same_part from end xs ys h.0 (end_within end ends (length xs) h.1) i ∷ parts_more end ends xs ys last h.1 is i

  pub parts_count : (from : ℕ) (ends : List ℕ) (xs : List X) → length (parts_from from ends xs) ≡ length ends
  parts_count from [] xs = refl
  parts_count from (end ∷ ends) xs = ap suc (parts_count end ends xs)

  -- The part at an index is what is within its bounds.
  pub part_at : (from : ℕ) (ends : List ℕ) (xs : List X) (k : ℕ)
      → slice_get (parts_from from ends xs) k ≡ option_map (λ (b : ℕ × ℕ). slice_range xs b.0 b.1) (bounds_at from ends k)
  part_at from [] xs k = refl
  part_at from (end ∷ ends) xs zero = refl
  part_at from (end ∷ ends) xs (suc k) = part_at end ends xs k

pub part_of_events : (es : List Event) (from end : ℕ) → events_of (slice_range es from end) ≡ slice_range (events_of es) from end
part_of_events es from end =
    sym (take-map event_of (end - from) (drop from es)) ∙ ap (take (end - from)) (sym (drop-map event_of from es))

pub bounds_within : (from : ℕ) (ends : List ℕ) (last k : ℕ) (b : ℕ × ℕ) → EndAt from ends last → bounds_at from ends k ≡ Some b → (b.0 ≤ b.1) × (b.1 ≤ last)
bounds_within from [] last k b h e = absurd (none-some b e)
bounds_within from (end ∷ ends) last zero b h e =
    let is = same_Some (from, end) b e in
    let first : from ≡ b.0 = ap (λ (p : ℕ × ℕ). p.0) is in
    let second : end ≡ b.1 = ap (λ (p : ℕ × ℕ). p.1) is in
    let le = h.0 in
    let within = end_within end ends last h.1 in
    (omega arith, omega arith)
bounds_within from (end ∷ ends) last (suc k) b h e = bounds_within end ends last k b h.1 e

pub no_bounds : (from : ℕ) (ends : List ℕ) (k : ℕ) → length ends ≤ k → bounds_at from ends k ≡ None
no_bounds from [] k past = refl
no_bounds from (end ∷ ends) zero past = absurd (omega arith)
no_bounds from (end ∷ ends) (suc k) past = no_bounds end ends k (omega arith)

pub first_bounds : (from : ℕ) (ends : List ℕ) → 0 < length ends → bounds_at from ends 0 ≡ Some (from, get_or ends 0 0)
first_bounds from [] some = absurd (omega arith)
first_bounds from (first ∷ ends) some = refl

later : (from : ℕ) (ends : List ℕ) (k : ℕ) → k + 1 < length ends → bounds_at from ends (suc k) ≡ Some (get_or ends k 0, get_or ends (suc k) 0)
later from [] k inside = absurd (omega arith)
later from (first ∷ ends) zero inside = first_bounds first ends (omega arith)
later from (first ∷ ends) (suc k) inside = later first ends k (omega arith)

pub later_bounds : (from : ℕ) (ends : List ℕ) (k : ℕ) → (k ≡ 0 → ⊥) → k < length ends → bounds_at from ends k ≡ Some (get_or ends (k - 1) 0, get_or ends k 0)
later_bounds from ends zero some inside = absurd (some refl)
later_bounds from ends (suc k) some inside =
    let at : suc k - 1 ≡ k = omega arith in
    later from ends k (omega arith) ∙ ap (λ (i : ℕ). Some (get_or ends i 0, get_or ends (suc k) 0)) (sym at)
