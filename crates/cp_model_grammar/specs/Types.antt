-- Reading written types, given a reader of types one level deeper, if there is such a level.
-- A NAME is a type or the first bound of a subrange, depending on the token after it.
use Rattle.std.specs.Prelude.{ℕ, zero, suc, Option, Some, None}
use Rattle.cp_model.specs.Syntax as s
use Rattle.cp_model.specs.View.{types_of, fields_of}
use Rattle.cp_model.specs.Tokens.{Kind}
use Rattle.cp_model.specs.Tokens as kind
use Rattle.cp_model.specs.declared.token.Symbol.TheVariants as symbol
use Rattle.cp_model.specs.declared.tree.Identifier.{Identifier}
use Rattle.cp_model.specs.declared.tree.Constant.{Constant}
use Rattle.cp_model.specs.declared.tree.Constant.TheVariants as written
use Rattle.cp_model_grammar.specs.Reading.{Reader, ◌>>=◌, pure, refuse, take_token, by_kind, expect, inside, separated_by}
use Rattle.cp_model_grammar.specs.Names.{identifier_of, names_of, constant_of}

-- The rest of a subrange after its first bound.
unfoldable pub subrange_from : Constant → Reader s.TypeExpression
subrange_from low = expect symbol.DotDot >>= λ _. constant_of >>= λ high. pure (s.Subrange low high)

unfoldable pub named_or_subrange : Identifier → Option Kind → Reader s.TypeExpression
named_or_subrange x (Some (kind.Symbol symbol.DotDot)) = subrange_from (written.Named x)
named_or_subrange x _ = pure (s.Named x)

-- Names of one type: fields or variables.
unfoldable pub group_of : Reader s.TypeExpression → Reader s.Variables
group_of type_reader = names_of >>= λ xs. expect symbol.Colon >>= λ _. type_reader >>= λ t. pure (record { names = xs; of = t })

module _ (inner : Option (Reader s.TypeExpression)) where
  unfoldable pub array_of : Reader s.TypeExpression
  array_of = inside inner (λ f. take_token >>= λ at. expect symbol.OpenBracket >>= λ _. separated_by symbol.Comma f >>= λ is.
      expect symbol.CloseBracket >>= λ _. expect symbol.Of >>= λ _. f >>= λ e. pure (s.Array at (types_of is) e))

  unfoldable pub record_of : Reader s.TypeExpression
  record_of = inside inner (λ f. take_token >>= λ at. separated_by symbol.Semicolon (group_of f) >>= λ gs.
      expect symbol.End >>= λ _. pure (s.Record at (fields_of gs)))

  unfoldable pub type_by : Option Kind → Reader s.TypeExpression
  type_by (Some (kind.Name name)) = identifier_of >>= λ x. by_kind (named_or_subrange x)
  type_by (Some (kind.Number value)) = constant_of >>= subrange_from
  type_by (Some (kind.Character ordinal)) = constant_of >>= subrange_from
  type_by (Some (kind.Symbol symbol.Minus)) = constant_of >>= subrange_from
  type_by (Some (kind.Symbol symbol.Array)) = array_of
  type_by (Some (kind.Symbol symbol.Record)) = record_of
  type_by _ = refuse

  unfoldable pub type_of : Reader s.TypeExpression
  type_of = by_kind type_by

-- A reader of types one level deeper. The number says how many levels may still be opened.
unfoldable pub inner_type_at : ℕ → Option (Reader s.TypeExpression)
inner_type_at zero = None
inner_type_at (suc room) = Some (type_of (inner_type_at room))

abbrev pub type_at : ℕ → Reader s.TypeExpression
type_at room = type_of (inner_type_at room)
