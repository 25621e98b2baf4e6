-- Codes of places that follow each other determine the places.
use Rattle.std.proofs.Common.{◌≡◌, ℕ, List, [], ◌∷◌, ◌++◌, length, map, refl, ap, sym, ◌∙◌, arith}
use Rattle.std.proofs.lemmas.List.{append-nil, append_assoc}
use Rattle.cp_model.specs.Report.{Text}
use Rattle.cp_inspect.specs.LeafCodes.{kind_number, leaf_codes, place_code, place_of}
use Rattle.cp_inspect.specs.declared.leaves.Leaf.{Leaf}
use Rattle.cp_inspect.specs.declared.place.Kind.{Kind}
use Rattle.cp_inspect.specs.declared.place.Kind.TheVariants as kind

abbrev first : Text → ℕ
first [] = 0
first (n ∷ ns) = n

abbrev rest : Text → Text
rest [] = []
rest (n ∷ ns) = ns

same_kind : (k j : Kind) → kind_number k ≡ kind_number j → k ≡ j
same_kind kind.Simple kind.Simple h = refl
same_kind kind.Queue kind.Queue h = refl
same_kind kind.Simple kind.Queue h = absurd (cc)
same_kind kind.Queue kind.Simple h = absurd (cc)

-- Texts of the same length that are followed by others.
same_parts : (xs ys more others : Text) → length xs ≡ length ys → xs ++ more ≡ ys ++ others → (xs ≡ ys) × (more ≡ others)
same_parts [] [] more others long same = (refl, same)
same_parts [] (y ∷ ys) more others long same = absurd (omega (arith, long))
same_parts (x ∷ xs) [] more others long same = absurd (omega (arith, long))
same_parts (x ∷ xs) (y ∷ ys) more others long same =
    let next = same_parts xs ys more others (omega (arith, long)) (ap rest same) in
    ((λ i. ap first same i ∷ next.0 i), next.1)

pub places_determined : (places others : List Leaf) → leaf_codes places ≡ leaf_codes others → map place_of places ≡ map place_of others
places_determined [] [] same = refl
places_determined [] (d ∷ ds) same = absurd (cc)
places_determined (c ∷ cs) [] same = absurd (cc)
places_determined (c ∷ cs) (d ∷ ds) same =
    let parts = same_parts c.path.items d.path.items (leaf_codes cs) (leaf_codes ds) (ap (λ t. first (rest (rest t))) same) (ap (λ t. rest (rest (rest t))) same) in
    let k = same_kind c.kind d.kind (ap (λ t. first (rest t)) same) in
    (λ i. (parts.0 i, ap first same i, k i) ∷ places_determined cs ds parts.1 i)

-- The codes after one more place.
pub one_coded : (leaves : List Leaf) (leaf : Leaf) → leaf_codes (leaves ++ leaf ∷ []) ≡ leaf_codes leaves ++ place_code leaf.kind leaf.path.items leaf.at
one_coded [] leaf = append-nil (place_code leaf.kind leaf.path.items leaf.at)
one_coded (c ∷ leaves) leaf =
    ap (λ t. place_code c.kind c.path.items c.at ++ t) (one_coded leaves leaf)
    ∙ sym (append_assoc (place_code c.kind c.path.items c.at) (leaf_codes leaves) (place_code leaf.kind leaf.path.items leaf.at))
