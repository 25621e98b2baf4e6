-- What is read as a type is allowed by the grammar.
use Rattle.std.proofs.Common.{◌≡◌, ℕ, zero, suc, List, [], ◌∷◌, Option, Some, refl}
use Rattle.cp_model.specs.Languages.{Language, symbol, identifier, ◌⋅◌, each_behind, separated_list}
use Rattle.cp_model.specs.Syntax as s
use Rattle.cp_model.specs.View.{types_of, fields_of}
use Rattle.cp_model.specs.GrammarExpressions.{constant}
use Rattle.cp_model.specs.GrammarTypes.{names, type_expression, types, more_types, fields, more_fields}
use Rattle.cp_model.specs.Tokens.{Token}
use Rattle.cp_model.specs.Tokens.{Kind}
use Rattle.cp_model.specs.Tokens as kind
use Rattle.cp_model.specs.declared.token.Symbol.TheVariants as symbol
use Rattle.cp_model.specs.declared.tree.Identifier.{Identifier}
use Rattle.cp_model.specs.declared.tree.Constant.{Constant}
use Rattle.cp_model.specs.declared.tree.Constant.TheVariants as written
use Rattle.cp_model_grammar.specs.Reading.{Reader, ◌>>=◌, kind_at, place_at, tail}
use Rattle.cp_model_grammar.specs.Names.{constant_of}
use Rattle.cp_model_grammar.specs.Types.{subrange_from, named_or_subrange, group_of, array_of, record_of, type_by, type_of, inner_type_at, type_at}
use Rattle.cp_model_grammar.specs.Laws.{TypesAreSound}
use Rattle.cp_model_grammar.proofs.Tokens.{head}
use Rattle.cp_model_grammar.proofs.Ensures.{Ensures, Sound, ensures_then, expect_sound, SoundInner, inside_sound, separated_sound}
use Rattle.cp_model_grammar.proofs.NamesSound.{identifier_sound, names_sound, constant_sound}

-- ---- lists

behind_types : (room : ℕ) (xs : List s.TypeExpression) (ts rest : List Token) → each_behind symbol.Comma (type_expression room) xs ts rest
    → more_types room (types_of xs) ts rest
behind_types room [] ts rest h = h
behind_types room (x ∷ xs) ts rest h = (h.0, h.1, (h.2.0, h.2.1, behind_types room xs h.2.0 rest h.2.2))

pub separated_types : (room : ℕ) (xs : List s.TypeExpression) (ts rest : List Token) → separated_list symbol.Comma (type_expression room) xs ts rest
    → types room (types_of xs) ts rest
separated_types room [] ts rest h = h
separated_types room (x ∷ xs) ts rest h = (h.0, h.1, behind_types room xs h.0 rest h.2)

abbrev pub group : ℕ → s.Variables → Language
group room g = names g.names ⋅ symbol symbol.Colon ⋅ type_expression room g.of

behind_fields : (room : ℕ) (xs : List s.Variables) (ts rest : List Token) → each_behind symbol.Semicolon (group room) xs ts rest
    → more_fields room (fields_of xs) ts rest
behind_fields room [] ts rest h = h
behind_fields room (x ∷ xs) ts rest h = let g = h.2.1 in
    (h.0, h.1, (g.0, g.1, (g.2.0, g.2.1, (h.2.0, g.2.2, behind_fields room xs h.2.0 rest h.2.2))))

pub separated_fields : (room : ℕ) (xs : List s.Variables) (ts rest : List Token) → separated_list symbol.Semicolon (group room) xs ts rest
    → fields room (fields_of xs) ts rest
separated_fields room [] ts rest h = h
separated_fields room (x ∷ xs) ts rest h = let g = h.1 in (g.0, g.1, (g.2.0, g.2.1, (h.0, g.2.2, behind_fields room xs h.0 rest h.2)))

-- ---- types

subrange_sound : (room : ℕ) (low : Constant) (ts mid : List Token) → constant low ts mid
    → Ensures (subrange_from low mid) (λ t rest. type_expression room t ts rest)
unfolding subrange_from
subrange_sound room low ts mid h = ensures_then _ _ _ _ (expect_sound symbol.DotDot mid) (λ at last d.
    ensures_then _ _ _ _ (constant_sound last) (λ high rest g.
    let made : type_expression room (s.Subrange low high) ts rest = (mid, h, (last, (at, d), g)) in made))

named_sound : (room : ℕ) (x : Identifier) (ts mid : List Token) (k : Option Kind) → identifier x ts mid
    → Ensures (named_or_subrange x k mid) (λ t rest. type_expression room t ts rest)
unfolding named_or_subrange
named_sound room x ts mid (Some (kind.Symbol symbol.DotDot)) h = subrange_sound room (written.Named x) ts mid h
named_sound room x ts mid _ h = h

pub group_sound : (room : ℕ) (p : Reader s.TypeExpression) → Sound p (type_expression room) → Sound (group_of p) (group room)
unfolding group_of
group_sound room p ok ts = ensures_then _ _ _ _ (names_sound ts) (λ xs mid h.
    ensures_then _ _ _ _ (expect_sound symbol.Colon mid) (λ at last c.
    ensures_then _ _ _ _ (ok last) (λ t rest g.
    let made : group room (record { names = xs; of = t }) ts rest = (mid, h, (last, (at, c), g)) in made)))

abbrev pub SoundType : ℕ → Reader s.TypeExpression → Type 0
SoundType room p = Sound p (type_expression room)

module _ (room : ℕ) (inner : Option (Reader s.TypeExpression)) (ok : SoundInner SoundType room inner) where
  array_sound : (ts : List Token) → kind_at ts ≡ Some (kind.Symbol symbol.Array)
      → Ensures (array_of inner ts) (λ t rest. type_expression room t ts rest)
  unfolding array_of
  array_sound ts k = inside_sound SoundType (λ room t rest. type_expression room t ts rest) _ ts (λ room p ok.
      ensures_then _ _ _ _ (expect_sound symbol.OpenBracket (tail ts)) (λ at1 t1 h1.
      ensures_then _ _ _ _ (separated_sound (type_expression room) symbol.Comma p ok t1) (λ is t2 h2.
      ensures_then _ _ _ _ (expect_sound symbol.CloseBracket t2) (λ at3 t3 h3.
      ensures_then _ _ _ _ (expect_sound symbol.Of t3) (λ at4 t4 h4.
      ensures_then _ _ _ _ (ok t4) (λ e rest g.
      let made : type_expression (suc room) (s.Array (place_at ts) (types_of is) e) ts rest = (
        tail ts,
        head ts (kind.Symbol symbol.Array) k,
        (t1, (at1, h1), (t2, separated_types room is t1 t2 h2, (t3, (at3, h3), (t4, (at4, h4), g)))),
      ) in made)))))) room inner ok

  record_sound : (ts : List Token) → kind_at ts ≡ Some (kind.Symbol symbol.Record)
      → Ensures (record_of inner ts) (λ t rest. type_expression room t ts rest)
  unfolding record_of
  record_sound ts k = inside_sound SoundType (λ room t rest. type_expression room t ts rest) _ ts (λ room p ok.
      ensures_then _ _ _ _ (separated_sound (group room) symbol.Semicolon (group_of p) (group_sound room p ok) (tail ts)) (λ gs mid h.
      ensures_then _ _ _ _ (expect_sound symbol.End mid) (λ at rest c.
      let made : type_expression (suc room) (s.Record (place_at ts) (fields_of gs)) ts rest =
      (tail ts, head ts (kind.Symbol symbol.Record) k, (mid, separated_fields room gs (tail ts) mid h, (at, c))) in made))) room inner ok

  from_constant : (ts : List Token) → Ensures ((constant_of >>= subrange_from) ts) (λ t rest. type_expression room t ts rest)
  from_constant ts = ensures_then _ _ _ _ (constant_sound ts) (λ low mid h. subrange_sound room low ts mid h)

  type_by_sound : (ts : List Token) (k : Option Kind) → kind_at ts ≡ k → Ensures (type_by inner k ts) (λ t rest. type_expression room t ts rest)
  unfolding type_by
  type_by_sound ts (Some (kind.Name name)) k = ensures_then _ _ _ _ (identifier_sound ts) (λ x mid h. named_sound room x ts mid (kind_at mid) h)
  type_by_sound ts (Some (kind.Number value)) k = from_constant ts
  type_by_sound ts (Some (kind.Character ordinal)) k = from_constant ts
  type_by_sound ts (Some (kind.Symbol symbol.Minus)) k = from_constant ts
  type_by_sound ts (Some (kind.Symbol symbol.Array)) k = array_sound ts k
  type_by_sound ts (Some (kind.Symbol symbol.Record)) k = record_sound ts k
  type_by_sound ts _ k = tt

  type_of_sound : SoundType room (type_of inner)
  unfolding type_of
  type_of_sound ts = type_by_sound ts (kind_at ts) refl

inner_type_sound : (room : ℕ) → SoundInner SoundType room (inner_type_at room)
unfolding inner_type_at
inner_type_sound zero = tt
inner_type_sound (suc room) = type_of_sound room (inner_type_at room) (inner_type_sound room)

pub type_sound : (room : ℕ) → SoundType room (type_at room)
type_sound room = type_of_sound room (inner_type_at room) (inner_type_sound room)

pub types_are_sound : TypesAreSound
types_are_sound room ts rest t h = rw h at (type_sound room ts)
