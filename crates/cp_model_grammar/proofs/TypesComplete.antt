-- What the grammar allows as a type is read.
use Rattle.std.proofs.Common.{◌≡◌, ℕ, zero, suc, ◌<◌, ◌≤◌, true, false, List, [], ◌∷◌, length, Option, Some, Ok, refl, ap, ◌∙◌, arith}
use Rattle.cp_model.specs.Languages.{symbol_at, identifier, each_behind, separated_list}
use Rattle.cp_model.specs.Syntax as s
use Rattle.cp_model.specs.View.{types_of, fields_of}
use Rattle.cp_model.specs.GrammarExpressions.{constant}
use Rattle.cp_model.specs.GrammarTypes.{type_expression, types, more_types, fields, more_fields}
use Rattle.cp_model.specs.Tokens.{Token}
use Rattle.cp_model.specs.Tokens.{Kind}
use Rattle.cp_model.specs.Tokens as kind
use Rattle.cp_model.specs.declared.token.Symbol.TheVariants as symbol
use Rattle.cp_model.specs.declared.tree.Identifier.{Identifier}
use Rattle.cp_model.specs.declared.tree.Constant.{Constant}
use Rattle.cp_model.specs.declared.tree.Constant.TheVariants as written
use Rattle.cp_model_grammar.specs.Kinds.{is_symbol}
use Rattle.cp_model_grammar.specs.Reading.{Reader, pure, kind_at, separated_by}
use Rattle.cp_model_grammar.specs.Names.{names_of}
use Rattle.cp_model_grammar.specs.Types.{subrange_from, named_or_subrange, group_of, array_of, record_of, type_by, type_of, inner_type_at, type_at}
use Rattle.cp_model_grammar.specs.Follows.{ends_type}
use Rattle.cp_model_grammar.specs.Laws.{TypesAreComplete}
use Rattle.cp_model_grammar.proofs.Tokens.{kind_of, kind_of_symbol, token_shrinks, symbol_shrinks, expect_reads, bracket_is_no_comma, colon_is_no_comma, end_is_no_semicolon}
use Rattle.cp_model_grammar.proofs.Lists.{Each, each_imply, ItemReads, separated_reads}
use Rattle.cp_model_grammar.proofs.NamesComplete.{identifier_reads, identifier_shrinks, names_reads, names_shrink, constant_reads, constant_shrinks}
use Rattle.cp_model_grammar.proofs.TypesSound.{group}

-- ---- a type consists of at least one token

mutual
  pub type_shrinks : (t : s.TypeExpression) (room : ℕ) (ts rest : List Token) → type_expression room t ts rest → length rest < length ts
  type_shrinks (s.Named x) room ts rest h = identifier_shrinks x ts rest h
  type_shrinks (s.Subrange low high) room ts rest h =
      omega (arith, constant_shrinks low ts h.0 h.1, symbol_shrinks symbol.DotDot h.0 h.2.0 h.2.1, constant_shrinks high h.2.0 rest h.2.2)
  type_shrinks (s.Array at is e) zero ts rest h = absurd h
  type_shrinks (s.Array at is e) (suc room) ts rest h =
      let h1 = h.2 in let h2 = h1.2 in let h3 = h2.2 in let h4 = h3.2 in
      omega (
        arith,
        token_shrinks (kind.Symbol symbol.Array) at ts h.0 h.1,
        symbol_shrinks symbol.OpenBracket h.0 h1.0 h1.1,
        types_shrink is room h1.0 h2.0 h2.1,
        symbol_shrinks symbol.CloseBracket h2.0 h3.0 h3.1,
        symbol_shrinks symbol.Of h3.0 h4.0 h4.1,
        type_shrinks e room h4.0 rest h4.2,
      )
  type_shrinks (s.Record at gs) zero ts rest h = absurd h
  type_shrinks (s.Record at gs) (suc room) ts rest h =
      omega (
        arith,
        token_shrinks (kind.Symbol symbol.Record) at ts h.0 h.1,
        fields_shrink gs room h.0 h.2.0 h.2.1,
        symbol_shrinks symbol.End h.2.0 rest h.2.2,
      )

  types_shrink : (xs : s.TypeExpressions) (room : ℕ) (ts rest : List Token) → types room xs ts rest → length rest ≤ length ts
  types_shrink s.NoTypes room ts rest h = absurd h
  types_shrink (s.MoreTypes x xs) room ts rest h = omega (arith, type_shrinks x room ts h.0 h.1, more_types_shrink xs room h.0 rest h.2)

  more_types_shrink : (xs : s.TypeExpressions) (room : ℕ) (ts rest : List Token) → more_types room xs ts rest → length rest ≤ length ts
  more_types_shrink s.NoTypes room ts rest h = rw h (omega arith)
  more_types_shrink (s.MoreTypes x xs) room ts rest h =
      omega (arith, symbol_shrinks symbol.Comma ts h.0 h.1, type_shrinks x room h.0 h.2.0 h.2.1, more_types_shrink xs room h.2.0 rest h.2.2)

  fields_shrink : (gs : s.FieldGroups) (room : ℕ) (ts rest : List Token) → fields room gs ts rest → length rest ≤ length ts
  fields_shrink s.NoFields room ts rest h = absurd h
  fields_shrink (s.MoreFields xs t gs) room ts rest h =
      let g = h.2 in omega (
        arith,
        names_shrink xs ts h.0 h.1,
        symbol_shrinks symbol.Colon h.0 g.0 g.1,
        type_shrinks t room g.0 g.2.0 g.2.1,
        more_fields_shrink gs room g.2.0 rest g.2.2,
      )

  more_fields_shrink : (gs : s.FieldGroups) (room : ℕ) (ts rest : List Token) → more_fields room gs ts rest → length rest ≤ length ts
  more_fields_shrink s.NoFields room ts rest h = rw h (omega arith)
  more_fields_shrink (s.MoreFields xs t gs) room ts rest h =
      let f = h.2 in let g = f.2 in
      omega (
        arith,
        symbol_shrinks symbol.Semicolon ts h.0 h.1,
        names_shrink xs h.0 f.0 f.1,
        symbol_shrinks symbol.Colon f.0 g.0 g.1,
        type_shrinks t room g.0 g.2.0 g.2.1,
        more_fields_shrink gs room g.2.0 rest g.2.2,
      )

pub group_shrinks : (room : ℕ) (g : s.Variables) (ts rest : List Token) → group room g ts rest → length rest < length ts
group_shrinks room g ts rest h = omega (
  arith,
  names_shrink g.names ts h.0 h.1,
  symbol_shrinks symbol.Colon h.0 h.2.0 h.2.1,
  type_shrinks g.of room h.2.0 rest h.2.2,
)

-- ---- lists

abbrev pub TypeReads : s.TypeExpression → Type 0
TypeReads t = (room : ℕ) (ts rest : List Token) → type_expression room t ts rest → ends_type (kind_at rest) ≡ true → type_at room ts ≡ Ok (t, rest)

abbrev EndsType : s.TypeExpression → Option Kind → Type 0
EndsType t k = ends_type k ≡ true

abbrev listed_types : s.TypeExpressions → List s.TypeExpression
listed_types s.NoTypes = []
listed_types (s.MoreTypes x xs) = x ∷ listed_types xs

types_listed : (xs : s.TypeExpressions) → types_of (listed_types xs) ≡ xs
types_listed s.NoTypes = refl
types_listed (s.MoreTypes x xs) = ap (s.MoreTypes x) (types_listed xs)

types_behind : (room : ℕ) (xs : s.TypeExpressions) (ts rest : List Token) → more_types room xs ts rest
    → each_behind symbol.Comma (type_expression room) (listed_types xs) ts rest
types_behind room s.NoTypes ts rest h = h
types_behind room (s.MoreTypes x xs) ts rest h = (h.0, h.1, (h.2.0, h.2.1, types_behind room xs h.2.0 rest h.2.2))

types_separated : (room : ℕ) (xs : s.TypeExpressions) (ts rest : List Token) → types room xs ts rest
    → separated_list symbol.Comma (type_expression room) (listed_types xs) ts rest
types_separated room s.NoTypes ts rest h = h
types_separated room (s.MoreTypes x xs) ts rest h = (h.0, h.1, types_behind room xs h.0 rest h.2)

types_reads : (xs : s.TypeExpressions) → Each TypeReads (listed_types xs) → (room : ℕ) (ts rest : List Token) → types room xs ts rest
    → ends_type (kind_at rest) ≡ true → is_symbol symbol.Comma (kind_at rest) ≡ false
    → separated_by symbol.Comma (type_at room) ts ≡ Ok (listed_types xs, rest)
types_reads xs all room ts rest h ends stop =
    separated_reads (type_expression room) (type_at room) EndsType symbol.Comma (λ t. refl)
    (λ t ts rest h. omega (arith, type_shrinks t room ts rest h)) (listed_types xs)
    (each_imply TypeReads (ItemReads (type_expression room) (type_at room) EndsType) (λ t r ts rest h ends. r room ts rest h ends)
    (listed_types xs) all)
    ts rest (types_separated room xs ts rest h) (λ t. ends) stop

abbrev listed_fields : s.FieldGroups → List s.Variables
listed_fields s.NoFields = []
listed_fields (s.MoreFields xs t gs) = record { names = xs; of = t } ∷ listed_fields gs

fields_listed : (gs : s.FieldGroups) → fields_of (listed_fields gs) ≡ gs
fields_listed s.NoFields = refl
fields_listed (s.MoreFields xs t gs) = ap (s.MoreFields xs t) (fields_listed gs)

fields_behind : (room : ℕ) (gs : s.FieldGroups) (ts rest : List Token) → more_fields room gs ts rest
    → each_behind symbol.Semicolon (group room) (listed_fields gs) ts rest
fields_behind room s.NoFields ts rest h = h
fields_behind room (s.MoreFields xs t gs) ts rest h = let f = h.2 in let g = f.2 in
    (h.0, h.1, (g.2.0, (f.0, f.1, (g.0, g.1, g.2.1)), fields_behind room gs g.2.0 rest g.2.2))

fields_separated : (room : ℕ) (gs : s.FieldGroups) (ts rest : List Token) → fields room gs ts rest
    → separated_list symbol.Semicolon (group room) (listed_fields gs) ts rest
fields_separated room s.NoFields ts rest h = h
fields_separated room (s.MoreFields xs t gs) ts rest h = let g = h.2 in (g.2.0, (h.0, h.1, (g.0, g.1, g.2.1)), fields_behind room gs g.2.0 rest g.2.2)

abbrev GroupReads : s.Variables → Type 0
GroupReads g = TypeReads g.of

abbrev pub GroupFollows : s.Variables → Option Kind → Type 0
GroupFollows g k = ends_type k ≡ true

group_reads : (p : Reader s.TypeExpression) (xs : List Identifier) (t : s.TypeExpression) (at : ℕ) (ts mid last rest : List Token)
    → names_of ts ≡ Ok (xs, mid) → symbol_at symbol.Colon at mid last → p last ≡ Ok (t, rest)
    → group_of p ts ≡ Ok (record { names = xs; of = t }, rest)
unfolding group_of
group_reads p xs t at ts mid last rest one c two = rw (one, expect_reads symbol.Colon at mid last c, two) refl

pub group_complete : (room : ℕ) (g : s.Variables) → TypeReads g.of → ItemReads (group room) (group_of (type_at room)) GroupFollows g
group_complete room g r ts rest h ends =
    let c = h.2.1 in
    group_reads (type_at room) g.names g.of c.0 ts h.0 h.2.0 rest
    (names_reads g.names ts h.0 h.1 (rw (kind_of_symbol symbol.Colon h.0 h.2.0 c) colon_is_no_comma)) c.1 (r room h.2.0 rest h.2.2 ends)

fields_reads : (gs : s.FieldGroups) → Each GroupReads (listed_fields gs) → (room : ℕ) (ts rest : List Token) → fields room gs ts rest
    → ends_type (kind_at rest) ≡ true → is_symbol symbol.Semicolon (kind_at rest) ≡ false
    → separated_by symbol.Semicolon (group_of (type_at room)) ts ≡ Ok (listed_fields gs, rest)
fields_reads gs all room ts rest h ends stop =
    separated_reads (group room) (group_of (type_at room)) GroupFollows symbol.Semicolon (λ g. refl)
    (λ g ts rest h. omega (arith, group_shrinks room g ts rest h)) (listed_fields gs)
    (each_imply GroupReads (ItemReads (group room) (group_of (type_at room)) GroupFollows) (group_complete room) (listed_fields gs) all)
    ts rest (fields_separated room gs ts rest h) (λ g. ends) stop

-- ---- types

module _ (inner : Option (Reader s.TypeExpression)) (ts mid : List Token) where
  named_reads : (x : Identifier) → identifier x ts mid → named_or_subrange x (kind_at mid) ≡ pure (s.Named x) → type_of inner ts ≡ Ok (s.Named x, mid)
  unfolding type_of type_by
  named_reads x t stop = rw (kind_of (kind.Name x.name) x.at ts mid t, identifier_reads x ts mid t, stop) refl

  named_subrange : (x : Identifier) (high : Constant) (at : ℕ) (last rest : List Token) → identifier x ts mid → symbol_at symbol.DotDot at mid last
      → constant high last rest
      → type_of inner ts ≡ Ok (s.Subrange (written.Named x) high, rest)
  unfolding type_of type_by named_or_subrange subrange_from
  named_subrange x high at last rest t d c =
      rw (
        kind_of (kind.Name x.name) x.at ts mid t,
        identifier_reads x ts mid t,
        kind_of (kind.Symbol symbol.DotDot) at mid last d,
        expect_reads symbol.DotDot at mid last d,
        constant_reads high last rest c,
      ) refl

  number_subrange : (n : ℕ) (low high : Constant) (at : ℕ) (last rest : List Token) → kind_at ts ≡ Some (kind.Number n) → constant low ts mid
      → symbol_at symbol.DotDot at mid last → constant high last rest
      → type_of inner ts ≡ Ok (s.Subrange low high, rest)
  unfolding type_of type_by subrange_from
  number_subrange n low high at last rest k l d c =
      rw (k, constant_reads low ts mid l, expect_reads symbol.DotDot at mid last d, constant_reads high last rest c) refl

  character_subrange : (n : ℕ) (low high : Constant) (at : ℕ) (last rest : List Token) → kind_at ts ≡ Some (kind.Character n) → constant low ts mid
      → symbol_at symbol.DotDot at mid last → constant high last rest
      → type_of inner ts ≡ Ok (s.Subrange low high, rest)
  unfolding type_of type_by subrange_from
  character_subrange n low high at last rest k l d c =
      rw (k, constant_reads low ts mid l, expect_reads symbol.DotDot at mid last d, constant_reads high last rest c) refl

  negative_subrange : (low high : Constant) (at : ℕ) (last rest : List Token) → kind_at ts ≡ Some (kind.Symbol symbol.Minus) → constant low ts mid
      → symbol_at symbol.DotDot at mid last → constant high last rest
      → type_of inner ts ≡ Ok (s.Subrange low high, rest)
  unfolding type_of type_by subrange_from
  negative_subrange low high at last rest k l d c =
      rw (k, constant_reads low ts mid l, expect_reads symbol.DotDot at mid last d, constant_reads high last rest c) refl

name_alone : (x : Identifier) (k : Option Kind) → ends_type k ≡ true → named_or_subrange x k ≡ pure (s.Named x)
unfolding named_or_subrange
name_alone x (Some (kind.Symbol symbol.DotDot)) h = absurd cc
name_alone x _ h = refl

named_complete : (x : Identifier) → TypeReads (s.Named x)
named_complete x room ts rest h ends = named_reads (inner_type_at room) ts rest x h (name_alone x (kind_at rest) ends)

subrange_complete : (low high : Constant) → TypeReads (s.Subrange low high)
subrange_complete (written.Number at value) high room ts rest h ends =
    number_subrange (inner_type_at room) ts h.0 value (written.Number at value) high h.2.1.0 h.2.0 rest
    (kind_of (kind.Number value) at ts h.0 h.1) h.1 h.2.1.1 h.2.2
subrange_complete (written.Negative at value) high room ts rest h ends =
    negative_subrange (inner_type_at room) ts h.0 (written.Negative at value) high h.2.1.0 h.2.0 rest
    (kind_of (kind.Symbol symbol.Minus) at ts h.1.0 h.1.1) h.1 h.2.1.1 h.2.2
subrange_complete (written.Character at ordinal) high room ts rest h ends =
    character_subrange (inner_type_at room) ts h.0 ordinal (written.Character at ordinal) high h.2.1.0 h.2.0 rest
    (kind_of (kind.Character ordinal) at ts h.0 h.1) h.1 h.2.1.1 h.2.2
subrange_complete (written.Named x) high room ts rest h ends = named_subrange (inner_type_at room) ts h.0 x high h.2.1.0 h.2.0 rest h.1 h.2.1.1 h.2.2

module _ (p : Reader s.TypeExpression) (ts t1 t2 t3 t4 t5 rest : List Token) where
  array_reads : (at p2 p3 p4 : ℕ) (is : List s.TypeExpression) (e : s.TypeExpression) → symbol_at symbol.Array at ts t1
      → symbol_at symbol.OpenBracket p2 t1 t2 → separated_by symbol.Comma p t2 ≡ Ok (is, t3)
      → symbol_at symbol.CloseBracket p3 t3 t4 → symbol_at symbol.Of p4 t4 t5 → p t5 ≡ Ok (e, rest)
      → type_of (Some p) ts ≡ Ok (s.Array at (types_of is) e, rest)
  unfolding type_of type_by array_of
  array_reads at p2 p3 p4 is e h1 h2 h3 h4 h5 h6 =
      rw (
        h1.1,
        expect_reads symbol.OpenBracket p2 t1 t2 h2,
        h3,
        expect_reads symbol.CloseBracket p3 t3 t4 h4,
        expect_reads symbol.Of p4 t4 t5 h5,
        h6,
      ) refl

module _ (p : Reader s.TypeExpression) (ts t1 t2 rest : List Token) where
  record_reads : (at end : ℕ) (gs : List s.Variables) → symbol_at symbol.Record at ts t1 → separated_by symbol.Semicolon (group_of p) t1 ≡ Ok (gs, t2)
      → symbol_at symbol.End end t2 rest
      → type_of (Some p) ts ≡ Ok (s.Record at (fields_of gs), rest)
  unfolding type_of type_by record_of
  record_reads at end gs h1 h2 h3 = rw (h1.1, h2, expect_reads symbol.End end t2 rest h3) refl

inner_type_suc : (room : ℕ) → inner_type_at (suc room) ≡ Some (type_at room)
unfolding inner_type_at
inner_type_suc room = refl

array_complete : (at : ℕ) (is : s.TypeExpressions) (e : s.TypeExpression) → Each TypeReads (listed_types is) → TypeReads e
    → TypeReads (s.Array at is e)
array_complete at is e all r zero ts rest h ends = absurd h
array_complete at is e all r (suc room) ts rest h ends =
    let h1 = h.2 in let h2 = h1.2 in let h3 = h2.2 in let h4 = h3.2 in
    rw (inner_type_suc room)
    (array_reads (type_at room) ts h.0 h1.0 h2.0 h3.0 h4.0 rest at h1.1.0 h3.1.0 h4.1.0 (listed_types is) e h.1 h1.1.1
    (types_reads is all room h1.0 h2.0 h2.1 (rw (kind_of_symbol symbol.CloseBracket h2.0 h3.0 h3.1) refl)
    (rw (kind_of_symbol symbol.CloseBracket h2.0 h3.0 h3.1) bracket_is_no_comma))
    h3.1.1 h4.1.1 (r room h4.0 rest h4.2 ends)
    ∙ ap (λ (is : s.TypeExpressions). Ok (s.Array at is e, rest)) (types_listed is))

record_complete : (at : ℕ) (gs : s.FieldGroups) → Each GroupReads (listed_fields gs) → TypeReads (s.Record at gs)
record_complete at gs all zero ts rest h ends = absurd h
record_complete at gs all (suc room) ts rest h ends =
    let e = h.2.2 in
    rw (inner_type_suc room)
    (record_reads (type_at room) ts h.0 h.2.0 rest at e.0 (listed_fields gs) h.1
    (fields_reads gs all room h.0 h.2.0 h.2.1 (rw (kind_of_symbol symbol.End h.2.0 rest e) refl)
    (rw (kind_of_symbol symbol.End h.2.0 rest e) end_is_no_semicolon)) e.1
    ∙ ap (λ (gs : s.FieldGroups). Ok (s.Record at gs, rest)) (fields_listed gs))

mutual
  pub type_complete : (t : s.TypeExpression) → TypeReads t
  type_complete (s.Named x) = named_complete x
  type_complete (s.Subrange low high) = subrange_complete low high
  type_complete (s.Array at is e) = array_complete at is e (all_complete is) (type_complete e)
  type_complete (s.Record at gs) = record_complete at gs (groups_complete gs)

  all_complete : (xs : s.TypeExpressions) → Each TypeReads (listed_types xs)
  all_complete s.NoTypes = tt
  all_complete (s.MoreTypes x xs) = (type_complete x, all_complete xs)

  groups_complete : (gs : s.FieldGroups) → Each GroupReads (listed_fields gs)
  groups_complete s.NoFields = tt
  groups_complete (s.MoreFields xs t gs) = (type_complete t, groups_complete gs)

pub types_are_complete : TypesAreComplete
types_are_complete room ts rest t h ends = type_complete t room ts rest h ends
