-- Reading a whole text.
use Rattle.std.specs.Prelude.{ℕ, [], Option, Some, None}
use Rattle.cp_model.specs.Syntax as s
use Rattle.cp_model.specs.Tokens.{Kind}
use Rattle.cp_model.specs.declared.token.Symbol.TheVariants as symbol
use Rattle.cp_model_grammar.specs.Reading.{Reader, ◌>>=◌, pure, refuse, by_kind, expect, repeat_while}
use Rattle.cp_model_grammar.specs.Types.{type_at}
use Rattle.cp_model_grammar.specs.Statements.{Deeper, deeper_at}
use Rattle.cp_model_grammar.specs.Declarations.{variables_of, body_of, routines_of, section_of, begins_section}

-- Nothing may follow a tree.
abbrev pub at_end : s.Tree → Option Kind → Reader s.Tree
at_end t None = pure t
at_end t (Some k) = refuse

module _ (type_reader : Reader s.TypeExpression) (deeper : Option Deeper) where
  -- A text up to its `.`.
  unfoldable pub tree_of : Reader s.Tree
  tree_of = repeat_while begins_section (section_of type_reader deeper) [] >>= λ ss. variables_of type_reader >>= λ vs.
      routines_of type_reader deeper >>= λ rs. body_of deeper >>= λ b. expect symbol.Dot >>= λ _.
      pure (record { sections = ss; variables = vs; routines = rs; body = b })

  unfoldable pub text_of : Reader s.Tree
  text_of = tree_of >>= λ t. by_kind (at_end t)

-- The reader of a text that may have this many levels open at once.
abbrev pub text_at : ℕ → Reader s.Tree
text_at room = text_of (type_at room) (deeper_at room)
