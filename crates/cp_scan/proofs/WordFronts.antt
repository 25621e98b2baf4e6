-- The letters at the front of a text, as many as are asked for.
use Rattle.std.proofs.Common.{◌≡◌, ℕ, ◌≤◌, List, length, map, take, sym, ap, ◌∙◌}
use Rattle.std.proofs.lemmas.List.{take-map, take-take}
use Rattle.cp_model.specs.Characters.{lower}

pub whole_front : (text letters : List ℕ) (n : ℕ) → n ≤ 16 → take 16 letters ≡ map lower (take 16 text) → take n letters ≡ map lower (take n text)
whole_front text letters n most is =
    sym (take-take n 16 letters most) ∙ ap (take n) is ∙ take-map lower n (take 16 text) ∙ ap (map lower) (take-take n 16 text most)

pub short_front : (text letters : List ℕ) (n : ℕ) → n ≤ length text → take (length text) letters ≡ map lower text → take n letters ≡ map lower (take n text)
short_front text letters n inside is = sym (take-take n (length text) letters inside) ∙ ap (take n) is ∙ take-map lower n text
