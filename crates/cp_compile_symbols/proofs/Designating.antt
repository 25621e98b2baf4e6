-- What the first part of a designator is.
use Rattle.std.proofs.Common.{◌≡◌, ◌≤◌, ◌<◌, ◌∷◌, ◌∙◌, Bor, Global, Vec, ℕ, List, [], Option, None, Some, ap, arith, drop, is_some, length, map, refl, subst, sym}
use Rattle.cp_model.proofs.Views.{view_designator, view_indexed}
use Rattle.cp_model.specs.Abstract as a
use Rattle.cp_model.specs.Erase as erase
use Rattle.cp_model.specs.Syntax as s
use Rattle.cp_model.specs.View as view
use Rattle.cp_model.specs.declared.tree.Designator.{Designator}
use Rattle.cp_model.specs.declared.tree.Index.{Index}
use Rattle.cp_model.specs.declared.tree.Selector.{Selector}
use Rattle.cp_model.specs.declared.tree.Selector.TheVariants as tree
use Rattle.cp_compile_symbols.specs.Designators.{FirstPart, IsFirstPart, Selects, is_part, part_of}
use Rattle.cp_compile_symbols.proofs.ValueTypes.{part_selected, selects_part}

pub indexed_selects : (v : Vec Index Global) → 1 ≤ length v.items → Selects (view.selector (tree.Indexed v))
indexed_selects v some = subst Selects (sym (view_indexed v)) (go v.items some)
  where
    go : (is : List Index) → 1 ≤ length is → Selects (s.Indexed (view.indices_of (map view.index is)))
    go [] h = absurd (omega (arith, h))
    go (i ∷ is) h = tt

pub nothing_indexed : (v : Vec Index Global) (d : a.Designator) → length v.items < 1 → erase.select d (view.selector (tree.Indexed v)) ≡ d
nothing_indexed v d none = ap (erase.select d) (view_indexed v) ∙ go v.items none
  where
    go : (is : List Index) → length is < 1 → erase.select d (s.Indexed (view.indices_of (map view.index is))) ≡ d
    go [] h = refl
    go (i ∷ is) h = absurd (omega (arith, h))

-- The selectors select what the last ones of them select.
abbrev pub SelectsLast : List Selector → ℕ → Type 0
SelectsLast ss i = (d : a.Designator) → part_of d ss ≡ part_of d (drop i ss)

-- A designator has a part if its selectors do.
pub part_if_selected : (d : Designator) (first : Option (Bor Selector × Bor (List Selector))) → FirstPart d.selectors.items first
    → is_some first ≡ is_part (erase.designator (view.designator d))
part_if_selected d None same = sym (ap (λ t. is_part (erase.designator t)) (view_designator d) ∙ ap is_part (same (a.Plain d.root.name)))
part_if_selected d (Some p) h =
    sym (ap (λ t. is_part (erase.designator t)) (view_designator d) ∙ ap is_part (h.same (a.Plain d.root.name))
    ∙ part_selected (erase.select (a.Plain d.root.name) (view.selector p.0.now)) (view.selectors_of (map view.selector p.1.now))
    (selects_part d.root.name (view.selector p.0.now) h.selects))

-- What a designator is, by the parts of its name.
pub whole_name : (d : Designator) → FirstPart d.selectors.items None → erase.designator (view.designator d) ≡ a.Plain d.root.name
whole_name d same = ap erase.designator (view_designator d) ∙ same (a.Plain d.root.name)

pub first_of_name : (d : Designator) (first : Selector) (rest : List Selector) → IsFirstPart d.selectors.items first rest
    → erase.designator (view.designator d) ≡ part_of (erase.select (a.Plain d.root.name) (view.selector first)) rest
first_of_name d first rest h = ap erase.designator (view_designator d) ∙ h.same (a.Plain d.root.name)
