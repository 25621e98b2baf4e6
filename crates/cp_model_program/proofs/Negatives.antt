-- Numbers after a minus that are within a bound, in the types of the code's tree and in its
-- definitions one after another.
use Rattle.std.proofs.Common.{◌≡◌, ◌<◌, ◌+◌, ℕ, List, [], ◌∷◌, ◌++◌, map, drop, get_or, length, Box, Vec, Global, ap, sym, subst, ◌∙◌}
use Rattle.std.proofs.lemmas.List.{drop_more}
use Rattle.cp_model.specs.Abstract as a
use Rattle.cp_model.specs.Erase as erase
use Rattle.cp_model.specs.View.{section_of, type_expression, types_of}
use Rattle.cp_model.specs.declared.tree.Section.{Section}
use Rattle.cp_model.specs.declared.tree.TypeExpression.{TypeExpression}
use Rattle.cp_model.specs.declared.tree.TypeExpression.TheVariants as tree
use Rattle.cp_model.proofs.TypeViews.{view_array}
use Rattle.cp_law_typing.specs.Magnitudes.{AreNegativesWithin, BeginsWithin}

-- ---- types

arrays_begin : (n : ℕ) (is : List a.TypeExpression) (e : a.TypeExpression) → BeginsWithin n e → BeginsWithin n (erase.arrays is e)
arrays_begin n [] e h = h
arrays_begin n (i ∷ is) e h = tt

pub array_begins : (n at : ℕ) (indices : Box (Vec TypeExpression Global) Global) (element : Box TypeExpression Global)
    → BeginsWithin n (erase.type_expression (type_expression element.value)) → BeginsWithin n (erase.type_expression (type_expression (tree.Array at indices element)))
array_begins n at indices element h =
    subst (λ t. BeginsWithin n (erase.type_expression t)) (sym (view_array at indices element))
    (arrays_begin n (erase.type_expressions (types_of (map type_expression indices.value.items))) (erase.type_expression (type_expression element.value)) h)

-- ---- definitions

negatives_append : (n : ℕ) (ds es : List a.Definition) → AreNegativesWithin n ds → AreNegativesWithin n es → AreNegativesWithin n (ds ++ es)
negatives_append n [] es h k = k
negatives_append n (a.ConstantDef x c ∷ ds) es h k = (h.0, negatives_append n ds es h.1 k)
negatives_append n (a.TypeDef x t ∷ ds) es h k = (h.0, negatives_append n ds es h.1 k)
negatives_append n (a.EnumDef x vs ∷ ds) es h k = negatives_append n ds es h k
negatives_append n (a.SystemDef x y ∷ ds) es h k = negatives_append n ds es h k

pub section_before : (n : ℕ) (xs : List Section) (i : ℕ) (x : Section) → i < length xs → x ≡ get_or xs i x → AreNegativesWithin n (erase.section (section_of x))
    → AreNegativesWithin n (erase.sections (map section_of (drop (i + 1) xs))) → AreNegativesWithin n (erase.sections (map section_of (drop i xs)))
section_before n xs i x less is h rest =
    subst (λ l. AreNegativesWithin n (erase.sections (map section_of l))) (sym (drop_more xs i x less ∙ ap (λ y. y ∷ drop (i + 1) xs) (sym is)))
    (negatives_append n (erase.section (section_of x)) (erase.sections (map section_of (drop (i + 1) xs))) h rest)
