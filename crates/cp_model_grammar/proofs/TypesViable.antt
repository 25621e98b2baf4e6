-- A partly read type can be completed.
use Rattle.std.proofs.Common.{◌≡◌, ℕ, zero, suc, List, [], ◌∷◌, Option, Some, refl}
use Rattle.cp_model.specs.Languages.{Language, identifier}
use Rattle.cp_model.specs.Syntax as s
use Rattle.cp_model.specs.View.{types_of, fields_of}
use Rattle.cp_model.specs.GrammarExpressions.{constant}
use Rattle.cp_model.specs.GrammarTypes.{type_expression, types, fields}
use Rattle.cp_model.specs.Tokens.{Token}
use Rattle.cp_model.specs.Tokens.{Kind}
use Rattle.cp_model.specs.Tokens as kind
use Rattle.cp_model.specs.declared.token.Symbol.TheVariants as symbol
use Rattle.cp_model.specs.declared.tree.Identifier.{Identifier}
use Rattle.cp_model.specs.declared.tree.Constant.{Constant}
use Rattle.cp_model.specs.declared.tree.Constant.TheVariants as written
use Rattle.cp_model_grammar.specs.Reading.{Reader, ◌>>=◌, pure, take_token, by_kind, kind_at, expect, separated_by}
use Rattle.cp_model_grammar.specs.Names.{identifier_of, constant_of}
use Rattle.cp_model_grammar.specs.Types.{subrange_from, named_or_subrange, group_of, array_of, record_of, type_by, type_of, inner_type_at, type_at}
use Rattle.cp_model_grammar.proofs.TypesSound.{group, separated_types, separated_fields}
use Rattle.cp_model_grammar.proofs.Viable.{Inhabited, ViableAt, Viable, Behind, from_start, then, finish, imply, kind_viable, take_at, of_kind, expect_viable, ViableInner, inside_or, or_some, separated_viable}
use Rattle.cp_model_grammar.proofs.NamesViable.{identifier_viable, names_viable, constant_viable}

some_type : (room : ℕ) → Inhabited (type_expression room)
some_type room = (of_kind (kind.Name []) ∷ [], s.Named (record { name = []; at = 0 }), λ rest. (0, refl))

abbrev pub ViableType : ℕ → Reader s.TypeExpression → Type 0
ViableType room p = Viable p (type_expression room)

module _ (room : ℕ) where
  subrange_viable : (low : Constant) → Viable (subrange_from low) (Behind constant low (type_expression room))
  unfolding subrange_from
  subrange_viable low = then (expect_viable symbol.DotDot)
      (λ at. finish (λ high. s.Subrange low high) constant_viable (λ high mid rest h m d ts l. (m, l, (mid, (at, d), h))))

  -- after a name
  abbrev Named : Identifier → s.TypeExpression → Language
  Named x = Behind identifier x (type_expression room)

  named_viable : (x : Identifier) (ts : List Token) (k : Option Kind) → kind_at ts ≡ k → ViableAt (Named x) (named_or_subrange x k ts) ts
  unfolding named_or_subrange
  named_viable x ts (Some (kind.Symbol symbol.DotDot)) e = (subrange_viable (written.Named x)).at ts
  named_viable x ts _ e = ([], refl, λ rest ts h. h)

  pub group_viable : {p : Reader s.TypeExpression} → ViableType room p → Viable (group_of p) (group room)
  unfolding group_of
  group_viable v = then names_viable (λ xs. then (expect_viable symbol.Colon)
      (λ at. finish (λ t. record { names = xs; of = t }) v (λ t mid rest h m c ts n. (m, n, (mid, (at, c), h)))))

module _ (room : ℕ) (i : Option (Reader s.TypeExpression)) (ok : ViableInner ViableType room i) where
  array_viable : (ts : List Token) → kind_at ts ≡ Some (kind.Symbol symbol.Array) → ViableAt (type_expression room) (array_of i ts) ts
  unfolding array_of
  array_viable ts k = or_some (type_expression room) _ ts (some_type room) (inside_or ViableType (λ room. type_expression room)
      (λ f. take_token >>= λ at. expect symbol.OpenBracket >>= λ _. separated_by symbol.Comma f >>= λ is. expect symbol.CloseBracket >>= λ _.
      expect symbol.Of >>= λ _. f >>= λ e. pure (s.Array at (types_of is) e)) ts
      (λ room f v. take_at (type_expression (suc room)) (kind.Symbol symbol.Array)
      (λ at. expect symbol.OpenBracket >>= λ _. separated_by symbol.Comma f >>= λ is. expect symbol.CloseBracket >>= λ _. expect symbol.Of >>= λ _.
      f >>= λ e. pure (s.Array at (types_of is) e)) ts k
      (λ at. then (expect_viable symbol.OpenBracket) (λ p1.
      then (imply (λ is. types room (types_of is)) (separated_viable (type_expression room) symbol.Comma v)
      (λ is ts rest h. separated_types room is ts rest h)) (λ is.
      then (expect_viable symbol.CloseBracket) (λ p3. then (expect_viable symbol.Of) (λ p4.
      finish (λ e. s.Array at (types_of is) e) v
      (λ e m5 rest h m4 h4 m3 h3 m2 h2 m1 h1 ts t. (m1, t, (m2, (p1, h1), (m3, h2, (m4, (p3, h3), (m5, (p4, h4), h))))))))))))
      room i ok)

  record_viable : (ts : List Token) → kind_at ts ≡ Some (kind.Symbol symbol.Record) → ViableAt (type_expression room) (record_of i ts) ts
  unfolding record_of
  record_viable ts k = or_some (type_expression room) _ ts (some_type room) (inside_or ViableType (λ room. type_expression room)
      (λ f. take_token >>= λ at. separated_by symbol.Semicolon (group_of f) >>= λ gs. expect symbol.End >>= λ _. pure (s.Record at (fields_of gs))) ts
      (λ room f v. take_at (type_expression (suc room)) (kind.Symbol symbol.Record)
      (λ at. separated_by symbol.Semicolon (group_of f) >>= λ gs. expect symbol.End >>= λ _. pure (s.Record at (fields_of gs))) ts k
      (λ at. then (imply (λ gs. fields room (fields_of gs)) (separated_viable (group room) symbol.Semicolon (group_viable room v))
      (λ gs ts rest h. separated_fields room gs ts rest h)) (λ gs.
      finish (λ _. s.Record at (fields_of gs)) (expect_viable symbol.End) (λ p m2 rest h m1 h1 ts t. (m1, t, (m2, h1, (p, h))))))) room i ok)

  from_constant : Viable (constant_of >>= subrange_from) (type_expression room)
  from_constant = then constant_viable (subrange_viable room)

  type_by_viable : (ts : List Token) (k : Option Kind) → kind_at ts ≡ k → ViableAt (type_expression room) (type_by i k ts) ts
  unfolding type_by
  type_by_viable ts (Some (kind.Name name)) e = (by_name).at ts
    where
      by_name : Viable (identifier_of >>= λ x. by_kind (named_or_subrange x)) (type_expression room)
      by_name = then identifier_viable (λ x. kind_viable (named_or_subrange x) ([], s.Named x, λ rest ts h. h) (named_viable room x))
  type_by_viable ts (Some (kind.Number value)) e = from_constant.at ts
  type_by_viable ts (Some (kind.Character ordinal)) e = from_constant.at ts
  type_by_viable ts (Some (kind.Symbol symbol.Minus)) e = from_constant.at ts
  type_by_viable ts (Some (kind.Symbol symbol.Array)) e = array_viable ts e
  type_by_viable ts (Some (kind.Symbol symbol.Record)) e = record_viable ts e
  type_by_viable ts _ e = from_start (type_expression room) (some_type room) ts

  type_of_viable : ViableType room (type_of i)
  unfolding type_of
  type_of_viable = kind_viable (type_by i) (some_type room) type_by_viable

inner_type_viable : (room : ℕ) → ViableInner ViableType room (inner_type_at room)
unfolding inner_type_at
inner_type_viable zero = tt
inner_type_viable (suc room) = type_of_viable room (inner_type_at room) (inner_type_viable room)

pub type_viable : (room : ℕ) → ViableType room (type_at room)
type_viable room = type_of_viable room (inner_type_at room) (inner_type_viable room)
