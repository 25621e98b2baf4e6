-- Types are read steadily.
use Rattle.std.proofs.Common.{◌≡◌, ℕ, suc, List, [], ◌∷◌, ◌++◌, Option, Some, None, refl, sym, ap, ◌∙◌, append_assoc}
use Rattle.cp_model.specs.Syntax as s
use Rattle.cp_model.specs.View.{types_of, fields_of}
use Rattle.cp_model.specs.Levels.{behind_levels, separated_levels, names_levels, constant_levels, type_levels, types_levels, more_types_levels, fields_levels, more_fields_levels}
use Rattle.cp_model.specs.Tokens.{Kind}
use Rattle.cp_model.specs.Tokens as kind
use Rattle.cp_model.specs.declared.token.Symbol.TheVariants as symbol
use Rattle.cp_model.specs.declared.tree.Identifier.{Identifier}
use Rattle.cp_model.specs.declared.tree.Constant.{Constant}
use Rattle.cp_model.specs.declared.tree.Constant.TheVariants as written
use Rattle.cp_model_grammar.specs.Reading.{Reader, ◌>>=◌, pure, expect, separated_by}
use Rattle.cp_model_grammar.specs.Names.{constant_of}
use Rattle.cp_model_grammar.specs.Types.{subrange_from, named_or_subrange, group_of, array_of, record_of, type_by, type_of}
use Rattle.cp_model_grammar.proofs.Steady.{Cut, Mode, Anywhere, Before, start_of, Steady, Has, imply, before, then, finish, pure_steady, refuse_steady, kind_steady, expect_steady, SteadyInner, opening_steady}
use Rattle.cp_model_grammar.proofs.SteadyLists.{separated_steady}
use Rattle.cp_model_grammar.proofs.NamesSteady.{identifier_steady, names_steady, constant_steady}

-- ---- levels of sequences

more_types_are_behind : (depth : ℕ) (ts : List s.TypeExpression) → more_types_levels depth (types_of ts) ≡ behind_levels (type_levels depth) ts
more_types_are_behind depth [] = refl
more_types_are_behind depth (t ∷ ts) = ap (λ (l : List ℕ). 0 ∷ type_levels depth t ++ l) (more_types_are_behind depth ts)

types_are_separated : (depth : ℕ) (ts : List s.TypeExpression) → types_levels depth (types_of ts) ≡ separated_levels (type_levels depth) ts
types_are_separated depth [] = refl
types_are_separated depth (t ∷ ts) = ap (λ (l : List ℕ). type_levels depth t ++ l) (more_types_are_behind depth ts)

abbrev pub group_levels : ℕ → s.Variables → List ℕ
group_levels depth g = names_levels g.names ++ (0 ∷ type_levels depth g.of)

more_fields_are_behind : (depth : ℕ) (gs : List s.Variables) → more_fields_levels depth (fields_of gs) ≡ behind_levels (group_levels depth) gs
more_fields_are_behind depth [] = refl
more_fields_are_behind depth (g ∷ gs) =
    ap (λ (l : List ℕ). 0 ∷ (names_levels g.names ++ (0 ∷ (type_levels depth g.of ++ l)))) (more_fields_are_behind depth gs)
    ∙ ap (λ (l : List ℕ). 0 ∷ l) (sym (append_assoc (names_levels g.names) (0 ∷ type_levels depth g.of) (behind_levels (group_levels depth) gs)))

fields_are_separated : (depth : ℕ) (gs : List s.Variables) → fields_levels depth (fields_of gs) ≡ separated_levels (group_levels depth) gs
fields_are_separated depth [] = refl
fields_are_separated depth (g ∷ gs) =
    ap (λ (l : List ℕ). names_levels g.names ++ (0 ∷ (type_levels depth g.of ++ l))) (more_fields_are_behind depth gs)
    ∙ sym (append_assoc (names_levels g.names) (0 ∷ type_levels depth g.of) (behind_levels (group_levels depth) gs))

-- ---- types

-- two readers of types
abbrev pub TypesRelated : Cut → Mode → ℕ → Reader s.TypeExpression → Reader s.TypeExpression → Type 0
TypesRelated c m depth p q = Steady c m Anywhere (Has (type_levels depth)) p q

module _ {c : Cut} {m : Mode} (depth : ℕ) where
  subrange_steady : (low : Constant) → Steady c m Anywhere (λ t l. (constant_levels low ++ l) ≡ type_levels depth t) (subrange_from low)
      (subrange_from low)
  unfolding subrange_from
  subrange_steady low = then (expect_steady symbol.DotDot) (λ _. finish (λ high. s.Subrange low high) constant_steady (λ high. refl))

  named_or_subrange_steady : (x : Identifier) (k : Option Kind)
      → Steady c m (start_of k) (λ t l. (0 ∷ l) ≡ type_levels depth t) (named_or_subrange x k) (named_or_subrange x k)
  unfolding named_or_subrange
  named_or_subrange_steady x (Some (kind.Symbol symbol.DotDot)) = before (subrange_steady (written.Named x))
  named_or_subrange_steady x None = pure_steady (s.Named x) refl
  named_or_subrange_steady x _ = before (pure_steady (s.Named x) refl)

  pub group_steady : {p q : Reader s.TypeExpression} → TypesRelated c m depth p q
      → Steady c m Anywhere (Has (group_levels depth)) (group_of p) (group_of q)
  unfolding group_of
  group_steady r = then names_steady (λ xs. then (expect_steady symbol.Colon) (λ _. finish (λ t. record { names = xs; of = t }) r (λ t. refl)))

module _ {c : Cut} (m : Mode) (depth : ℕ) (i i' : Option (Reader s.TypeExpression)) (r : SteadyInner c (TypesRelated c) m depth i i') where
  array_steady : Steady c m Before (Has (type_levels depth)) (array_of i) (array_of i')
  unfolding array_of
  array_steady = opening_steady (Has (type_levels depth)) (TypesRelated c) depth
      (λ f at. expect symbol.OpenBracket >>= λ _. separated_by symbol.Comma f >>= λ is. expect symbol.CloseBracket >>= λ _. expect symbol.Of >>= λ _.
      f >>= λ e. pure (s.Array at (types_of is) e))
      (λ m f f' r at. then (expect_steady symbol.OpenBracket) (λ _.
      then (imply (Has (λ ts. types_levels (suc depth) (types_of ts))) (separated_steady (type_levels (suc depth)) symbol.Comma r)
      (λ ts l h. h ∙ sym (types_are_separated (suc depth) ts))) (λ is.
      then (expect_steady symbol.CloseBracket) (λ _. then (expect_steady symbol.Of)
      (λ _. finish (λ e. s.Array at (types_of is) e) r (λ e. refl)))))) m i i' r

  record_steady : Steady c m Before (Has (type_levels depth)) (record_of i) (record_of i')
  unfolding record_of
  record_steady = opening_steady (Has (type_levels depth)) (TypesRelated c) depth
      (λ f at. separated_by symbol.Semicolon (group_of f) >>= λ gs. expect symbol.End >>= λ _. pure (s.Record at (fields_of gs)))
      (λ m f f' r at.
      then (imply (Has (λ gs. fields_levels (suc depth) (fields_of gs)))
      (separated_steady (group_levels (suc depth)) symbol.Semicolon (group_steady (suc depth) r))
      (λ gs l h. h ∙ sym (fields_are_separated (suc depth) gs))) (λ gs.
      finish (λ _. s.Record at (fields_of gs)) (expect_steady symbol.End) (λ _. refl))) m i i' r

  from_constant : Steady c m Anywhere (Has (type_levels depth)) (constant_of >>= subrange_from) (constant_of >>= subrange_from)
  from_constant = then constant_steady (subrange_steady depth)

  type_by_steady : (k : Option Kind) → Steady c m (start_of k) (Has (type_levels depth)) (type_by i k) (type_by i' k)
  unfolding type_by
  type_by_steady (Some (kind.Name name)) = before (then identifier_steady (λ x. kind_steady (named_or_subrange_steady depth x)))
  type_by_steady (Some (kind.Number value)) = before from_constant
  type_by_steady (Some (kind.Character ordinal)) = before from_constant
  type_by_steady (Some (kind.Symbol symbol.Minus)) = before from_constant
  type_by_steady (Some (kind.Symbol symbol.Array)) = array_steady
  type_by_steady (Some (kind.Symbol symbol.Record)) = record_steady
  type_by_steady _ = refuse_steady

  pub type_of_steady : TypesRelated c m depth (type_of i) (type_of i')
  unfolding type_of
  type_of_steady = kind_steady type_by_steady
