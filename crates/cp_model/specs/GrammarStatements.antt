-- The grammar of statements. The number says how many more levels may be opened.
--   list = stat { ";" stat }
--   stat = nothing
--        | desig ":=" expr | desig [ args ] | "begin" list "end"
--        | "if" expr "then" stat [ "else" stat ]
--        | "case" expr "of" arm { ";" arm } "end"
--        | "while" expr "do" stat
--        | "repeat" list "until" expr
--        | "for" NAME ":=" expr ( "to" | "downto" ) expr "do" stat
--        | "cycle" list "end"
--        | "init" NAME [ args ] { "," NAME [ args ] }
--   arm  = constant { "," constant } ":" stat
-- An `else` belongs to the nearest `if` before it that has none.
use Rattle.std.specs.Prelude.{◌≡◌, ℕ, Bool, true, false}
use Rattle.cp_model.specs.Languages.{Language, empty, never, symbol, symbol_at, identifier, ◌⋅◌, ◌▸◌, opens, separated_list}
use Rattle.cp_model.specs.GrammarExpressions.{constant, expression, designator, arguments}
use Rattle.cp_model.specs.Syntax as s
use Rattle.cp_model.specs.declared.token.Symbol.{Symbol}
use Rattle.cp_model.specs.declared.token.Symbol.TheVariants as symbol
use Rattle.cp_model.specs.declared.tree.Direction.{Direction}
use Rattle.cp_model.specs.declared.tree.Direction.TheVariants as direction

-- whether an `else` after the statement would belong to an `if` inside it
abbrev pub ends_open : s.Statement → Bool
ends_open (s.If c x) = true
ends_open (s.IfElse c x y) = ends_open y
ends_open (s.While c x) = ends_open x
ends_open (s.For v a d b x) = ends_open x
ends_open _ = false

abbrev pub direction_symbol : Direction → Symbol
direction_symbol direction.Up = symbol.To
direction_symbol direction.Down = symbol.Downto

abbrev pub init_item : ℕ → s.InitItem → Language
init_item room i = identifier i.component ⋅ arguments room i.arguments

abbrev mutual
  pub statement : ℕ → s.Statement → Language
  statement room s.Empty = empty
  statement room (s.Assign d at e) = designator room d ⋅ symbol_at symbol.Assign at ⋅ expression room e
  statement room (s.Perform d es) = designator room d ⋅ arguments room es
  statement room (s.Compound l) = opens room (λ r. symbol symbol.Begin ⋅ statements r l ⋅ symbol symbol.End)
  statement room (s.If c x) = opens room (λ r. symbol symbol.If ⋅ expression r c ⋅ symbol symbol.Then ⋅ statement r x)
  statement room (s.IfElse c x y) =
      (ends_open x ≡ false) ▸ opens room (λ r. symbol symbol.If ⋅ expression r c ⋅ symbol symbol.Then ⋅ statement r x ⋅ symbol symbol.Else ⋅ statement r y)
  statement room (s.Case e a) = opens room (λ r. symbol symbol.Case ⋅ expression r e ⋅ symbol symbol.Of ⋅ arms r a ⋅ symbol symbol.End)
  statement room (s.While c x) = opens room (λ r. symbol symbol.While ⋅ expression r c ⋅ symbol symbol.Do ⋅ statement r x)
  statement room (s.Repeat l c) = opens room (λ r. symbol symbol.Repeat ⋅ statements r l ⋅ symbol symbol.Until ⋅ expression r c)
  statement room (s.For v a d b x) =
      opens room (λ r. symbol symbol.For ⋅ identifier v ⋅ symbol symbol.Assign ⋅ expression r a ⋅ symbol (direction_symbol d) ⋅ expression r b ⋅ symbol symbol.Do ⋅ statement r x)
  statement room (s.Cycle l) = opens room (λ r. symbol symbol.Cycle ⋅ statements r l ⋅ symbol symbol.End)
  statement room (s.Init at is) = symbol_at symbol.Init at ⋅ separated_list symbol.Comma (init_item room) is

  -- one or more, with semicolons between
  pub statements : ℕ → s.Statements → Language
  statements room s.NoStatements = never
  statements room (s.MoreStatements x xs) = statement room x ⋅ more_statements room xs

  pub more_statements : ℕ → s.Statements → Language
  more_statements room s.NoStatements = empty
  more_statements room (s.MoreStatements x xs) = symbol symbol.Semicolon ⋅ statement room x ⋅ more_statements room xs

  -- one or more, with semicolons between
  pub arms : ℕ → s.Arms → Language
  arms room s.NoArms = never
  arms room (s.MoreArms labels x a) = separated_list symbol.Comma constant labels ⋅ symbol symbol.Colon ⋅ statement room x ⋅ more_arms room a

  pub more_arms : ℕ → s.Arms → Language
  more_arms room s.NoArms = empty
  more_arms room (s.MoreArms labels x a) =
      symbol symbol.Semicolon ⋅ separated_list symbol.Comma constant labels ⋅ symbol symbol.Colon ⋅ statement room x ⋅ more_arms room a
