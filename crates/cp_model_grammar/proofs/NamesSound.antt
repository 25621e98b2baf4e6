-- What is read as a name or a constant is allowed by the grammar.
use Rattle.std.proofs.Common.{◌≡◌, List, Option, Some, refl}
use Rattle.cp_model.specs.Languages.{identifier, separated_list}
use Rattle.cp_model.specs.GrammarExpressions.{constant}
use Rattle.cp_model.specs.GrammarTypes.{names}
use Rattle.cp_model.specs.Tokens.{Token}
use Rattle.cp_model.specs.Tokens.{Kind}
use Rattle.cp_model.specs.Tokens as kind
use Rattle.cp_model.specs.declared.token.Symbol.TheVariants as symbol
use Rattle.cp_model_grammar.specs.Reading.{kind_at, place_at, tail}
use Rattle.cp_model_grammar.specs.Names.{identifier_by, identifier_of, names_of, negative_by, constant_by, constant_of, constants_of}
use Rattle.cp_model_grammar.proofs.Tokens.{head}
use Rattle.cp_model_grammar.proofs.Ensures.{Ensures, Sound, separated_sound}

identifier_by_sound : (ts : List Token) (k : Option Kind) → kind_at ts ≡ k → Ensures (identifier_by k ts) (λ x rest. identifier x ts rest)
identifier_by_sound ts (Some (kind.Name name)) k = head ts (kind.Name name) k
identifier_by_sound ts _ k = tt

pub identifier_sound : Sound identifier_of identifier
unfolding identifier_of
identifier_sound ts = identifier_by_sound ts (kind_at ts) refl

pub names_sound : Sound names_of names
unfolding names_of
names_sound = separated_sound identifier symbol.Comma identifier_of identifier_sound

negative_sound : (ts : List Token) (k : Option Kind) → kind_at ts ≡ Some (kind.Symbol symbol.Minus) → kind_at (tail ts) ≡ k
    → Ensures (negative_by (place_at ts) k (tail ts)) (λ c rest. constant c ts rest)
negative_sound ts (Some (kind.Number value)) m k =
    (tail ts, head ts (kind.Symbol symbol.Minus) m, (place_at (tail ts), head (tail ts) (kind.Number value) k))
negative_sound ts _ m k = tt

constant_by_sound : (ts : List Token) (k : Option Kind) → kind_at ts ≡ k → Ensures (constant_by k ts) (λ c rest. constant c ts rest)
constant_by_sound ts (Some (kind.Number value)) k = head ts (kind.Number value) k
constant_by_sound ts (Some (kind.Character ordinal)) k = head ts (kind.Character ordinal) k
constant_by_sound ts (Some (kind.Name name)) k = head ts (kind.Name name) k
constant_by_sound ts (Some (kind.Symbol symbol.Minus)) k = negative_sound ts (kind_at (tail ts)) k refl
constant_by_sound ts _ k = tt

pub constant_sound : Sound constant_of constant
unfolding constant_of
constant_sound ts = constant_by_sound ts (kind_at ts) refl

pub constants_sound : Sound constants_of (separated_list symbol.Comma constant)
unfolding constants_of
constants_sound = separated_sound constant symbol.Comma constant_of constant_sound
