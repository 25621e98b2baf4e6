-- Code that represents an expression still represents it if as much is known of its temps.
use Rattle.std.proofs.Common.{ℕ, ◌+◌, ◌≤◌, ◌<◌, ℤ, List, [], ◌∷◌, arith}
use Rattle.cp_model.specs.Abstract as a
use Rattle.cp_model.specs.Abstract.{BaseType, Name}
use Rattle.cp_model.specs.Declarations as declared
use Rattle.cp_model.specs.Types.{ArrayOf, Queue, RecordOf, ResolvedType, Simple}
use Rattle.cp_model_program.specs.Terms.{Argument, Binary, Copy, Element, Empty, Item, Made, Negative, Not, Number, Realtime, Reference, Rooted, PlaceExpression, Standard, Term, Value}
use Rattle.cp_model_program.specs.Layout.{local_words}
use Rattle.cp_model_program.specs.Sites.{Site, first_parameter, parameters}
use Rattle.cp_model_program.specs.TermsFor.{ArgumentsFor, Knowns, PlaceExpressionFor, TermFor}

-- What is known of the temps in a range is kept.
abbrev pub Keeps : Knowns → Knowns → ℕ → ℕ → Type 0
Keeps K L low high = (s : ℕ) (m : ℤ) → low ≤ s → s < high → K s m → L s m

pub narrowed : (K L : Knowns) (low high from to : ℕ) → low ≤ from → to ≤ high → Keeps K L low high → Keeps K L from to
narrowed K L low high from to p q k s m u w = k s m (omega arith) (omega arith)

module _ (site : Site) (K L : Knowns) where
  mutual
    pub term_kept : (e : a.Expression) (c : Term) (b : BaseType) (at next low high : ℕ) → Keeps K L low high
        → TermFor site K e c b at next low high → TermFor site L e c b at next low high
    term_kept (a.Literal n) (Number m) b at next low high k h = h
    term_kept (a.Letter n) (Number m) b at next low high k h = h
    term_kept (a.Known base n) (Number m) b at next low high k h = h
    term_kept (a.Known base n) (Made t) b at next low high k h = (h.0, h.1, k t n h.3 h.4 h.2, h.3, h.4)
    term_kept (a.Use d) (Made t) b at next low high k h = h
    term_kept (a.Use d) (Item s) b at next low high k h =
        (h.0, h.1, h.2, h.3, h.4, place_expression_kept d s (Simple b h.0 h.1 h.2) at next low high k h.5)
    term_kept (a.Use (a.Plain x)) (Number n) b at next low high k h = h
    term_kept (a.Use (a.Plain x)) Realtime b at next low high k h = h
    term_kept (a.Call d es) (Made t) b at next low high k h = (
      h.0,
      h.1,
      h.2,
      h.3,
      h.4,
      h.5,
      arguments_kept (parameters site h.0) es h.1.arguments (first_parameter h.0) at h.2 low h.3
          (narrowed K L low high low h.3 (omega arith) (omega (arith, h.9, h.10)) k) h.6,
      h.7,
      h.8,
      h.9,
      h.10,
    )
    term_kept (a.Call (a.Plain x) (a.MoreExpressions e a.NoExpression)) (Standard f c) b at next low high k h =
        (h.0, h.1, h.2, term_kept e c h.0 at next low high k h.3)
    term_kept (a.Call (a.Plain x) (a.MoreExpressions (a.Use d) a.NoExpression)) (Empty s) b at next low high k h =
        (h.0, h.1, h.2, h.3, h.4, place_expression_kept d s Queue at next low high k h.5)
    term_kept (a.Not e) (Not c) b at next low high k h = (h.0, h.1, term_kept e c h.0 at next low high k h.2)
    term_kept (a.Negative e) (Negative c) b at next low high k h = (h.0, h.1, term_kept e c h.0 at next low high k h.2)
    term_kept (a.Positive e) c b at next low high k h = term_kept e c b at next low high k h
    term_kept (a.Binary o e f) (Binary p c d) b at next low high k h = (
      h.0,
      h.1,
      h.2,
      h.3,
      h.4,
      h.5,
      h.6,
      h.7,
      term_kept e c h.0 at h.2 low h.3 (narrowed K L low high low h.3 (omega arith) h.7 k) h.8,
      term_kept f d h.1 h.2 next h.3 high (narrowed K L low high h.3 high h.6 (omega arith) k) h.9,
    )
    term_kept _ _ b at next low high k h = absurd h

    pub place_expression_kept : (d : a.Designator) (s : PlaceExpression) (t : ResolvedType) (at next low high : ℕ) → Keeps K L low high
        → PlaceExpressionFor site K d s t at next low high → PlaceExpressionFor site L d s t at next low high
    place_expression_kept (a.Plain x) (Rooted r) t at next low high k h = h
    place_expression_kept (a.Part d x) s t at next low high k h =
        (h.0, h.1, h.2, h.3, h.4, place_expression_kept d h.2 (RecordOf h.0) at next low high k h.5)
    place_expression_kept (a.At d e) (Element of lower upper words plus i) t at next low high k h = (
      h.0,
      h.1,
      h.2,
      h.3,
      h.4,
      h.5,
      h.6,
      place_expression_kept d of (ArrayOf lower upper t) at h.1 low h.2 (narrowed K L low high low h.2 (omega arith) h.6 k) h.7,
      term_kept e i h.0 h.1 next h.2 high (narrowed K L low high h.2 high h.5 (omega arith) k) h.8,
    )
    place_expression_kept _ _ t at next low high k h = absurd h

    pub arguments_kept : (ps : List (Name × declared.Variable)) (es : a.Expressions) (xs : List Argument) (to at next low high : ℕ) → Keeps K L low high
        → ArgumentsFor site K ps es xs to at next low high → ArgumentsFor site L ps es xs to at next low high
    arguments_kept [] a.NoExpression [] to at next low high k h = h
    arguments_kept (p ∷ ps) (a.MoreExpressions e es) (Value place lower upper c ∷ xs) to at next low high k h = (
      h.0,
      h.1,
      h.2,
      h.3,
      h.4,
      h.5,
      h.6,
      h.7,
      h.8,
      term_kept e c h.0 at h.2 low h.3 (narrowed K L low high low h.3 (omega arith) h.8 k) h.9,
      arguments_kept ps es xs (to + local_words site.env.globals p.1) h.2 next h.3 high (narrowed K L low high h.3 high h.7 (omega arith) k) h.10,
    )
    arguments_kept (p ∷ ps) (a.MoreExpressions (a.Use d) es) (Copy place words from ∷ xs) to at next low high k h = (
      h.0,
      h.1,
      h.2,
      h.3,
      h.4,
      h.5,
      h.6,
      h.7,
      h.8,
      h.9,
      place_expression_kept d from p.1.type at h.0 low h.1 (narrowed K L low high low h.1 (omega arith) h.9 k) h.10,
      arguments_kept ps es xs (to + local_words site.env.globals p.1) h.0 next h.1 high (narrowed K L low high h.1 high h.8 (omega arith) k) h.11,
    )
    arguments_kept (p ∷ ps) (a.MoreExpressions (a.Use d) es) (Reference place s ∷ xs) to at next low high k h = (
      h.0,
      h.1,
      h.2,
      h.3,
      h.4,
      h.5,
      h.6,
      place_expression_kept d s p.1.type at h.0 low h.1 (narrowed K L low high low h.1 (omega arith) h.6 k) h.7,
      arguments_kept ps es xs (to + local_words site.env.globals p.1) h.0 next h.1 high (narrowed K L low high h.1 high h.5 (omega arith) k) h.8,
    )
    arguments_kept _ _ _ to at next low high k h = absurd h
