-- Reading names and constants.
use Rattle.std.specs.Prelude.{ℕ, List, Option, Some}
use Rattle.cp_model.specs.Tokens.{Kind}
use Rattle.cp_model.specs.Tokens as kind
use Rattle.cp_model.specs.declared.token.Symbol.TheVariants as symbol
use Rattle.cp_model.specs.declared.tree.Identifier.{Identifier}
use Rattle.cp_model.specs.declared.tree.Constant.{Constant}
use Rattle.cp_model.specs.declared.tree.Constant.TheVariants as written
use Rattle.cp_model_grammar.specs.Reading.{Reader, ◌>>=◌, pure, refuse, take_token, by_kind, separated_by}

abbrev pub identifier_by : Option Kind → Reader Identifier
identifier_by (Some (kind.Name name)) = take_token >>= λ at. pure (record { name = name; at = at })
identifier_by _ = refuse

unfoldable pub identifier_of : Reader Identifier
identifier_of = by_kind identifier_by

-- One or more names, with commas between them.
unfoldable pub names_of : Reader (List Identifier)
names_of = separated_by symbol.Comma identifier_of

-- The number after a `-`.
abbrev pub negative_by : ℕ → Option Kind → Reader Constant
negative_by at (Some (kind.Number value)) = take_token >>= λ _. pure (written.Negative at value)
negative_by at _ = refuse

abbrev pub constant_by : Option Kind → Reader Constant
constant_by (Some (kind.Number value)) = take_token >>= λ at. pure (written.Number at value)
constant_by (Some (kind.Character ordinal)) = take_token >>= λ at. pure (written.Character at ordinal)
constant_by (Some (kind.Name name)) = take_token >>= λ at. pure (written.Named (record { name = name; at = at }))
constant_by (Some (kind.Symbol symbol.Minus)) = take_token >>= λ at. by_kind (negative_by at)
constant_by _ = refuse

unfoldable pub constant_of : Reader Constant
constant_of = by_kind constant_by

-- One or more constants, with commas between them.
unfoldable pub constants_of : Reader (List Constant)
constants_of = separated_by symbol.Comma constant_of
