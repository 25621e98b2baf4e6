-- The parts that designators select.
use Rattle.std.specs.Prelude.{◌≡◌, Bool, true, false, List, Option, None, Some, map}
use Rattle.std.specs.Borrow.{Bor}
use Rattle.cp_model.specs.Abstract as a
use Rattle.cp_model.specs.Erase as erase
use Rattle.cp_model.specs.Syntax as syntax
use Rattle.cp_model.specs.View as view
use Rattle.cp_model.specs.declared.tree.Selector.{Selector}

-- Whether a designator is more than a bare name.
abbrev pub is_part : a.Designator → Bool
is_part (a.Plain x) = false
is_part d = true

-- A selector selects a part if it is a field or has at least one index.
abbrev pub Selects : syntax.Selector → Type 0
Selects (syntax.Indexed syntax.NoIndices) = ⊥
Selects _ = Unit {0}

-- What these selectors select of `d`.
abbrev pub part_of : a.Designator → List Selector → a.Designator
part_of d ss = erase.with_selectors d (view.selectors_of (map view.selector ss))

-- `first` selects a part, of which `rest` selects what all of `ss` select.
pub record IsFirstPart (ss : List Selector) (first : Selector) (rest : List Selector) : Type 0 where
  pub selects : Selects (view.selector first)
  pub same : (d : a.Designator) → part_of d ss ≡ part_of (erase.select d (view.selector first)) rest

-- Without a first part, the selectors select only the whole.
abbrev pub FirstPart : List Selector → Option (Bor Selector × Bor (List Selector)) → Type 0
FirstPart ss None = (d : a.Designator) → part_of d ss ≡ d
FirstPart ss (Some p) = IsFirstPart ss p.0.now p.1.now
