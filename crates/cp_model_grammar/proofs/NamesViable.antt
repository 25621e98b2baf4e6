-- A partly read name or constant can be completed.
use Rattle.std.proofs.Common.{◌≡◌, ℕ, List, [], ◌∷◌, Option, Some, refl}
use Rattle.cp_model.specs.Languages.{Language, token, identifier, separated_list}
use Rattle.cp_model.specs.GrammarExpressions.{constant}
use Rattle.cp_model.specs.GrammarTypes.{names}
use Rattle.cp_model.specs.Tokens.{Token}
use Rattle.cp_model.specs.Tokens.{Kind}
use Rattle.cp_model.specs.Tokens as kind
use Rattle.cp_model.specs.declared.token.Symbol.TheVariants as symbol
use Rattle.cp_model.specs.declared.tree.Constant.{Constant}
use Rattle.cp_model.specs.declared.tree.Constant.TheVariants as written
use Rattle.cp_model_grammar.specs.Reading.{pure, by_kind, kind_at}
use Rattle.cp_model_grammar.specs.Names.{identifier_by, identifier_of, names_of, negative_by, constant_by, constant_of, constants_of}
use Rattle.cp_model_grammar.proofs.Viable.{Inhabited, ViableAt, Viable, Behind, from_start, pure_viable, kind_viable, take_at, of_kind, separated_viable}

pub some_identifier : Inhabited identifier
some_identifier = (of_kind (kind.Name []) ∷ [], record { name = []; at = 0 }, λ rest. (0, refl))

identifier_by_viable : (ts : List Token) (k : Option Kind) → kind_at ts ≡ k → ViableAt identifier (identifier_by k ts) ts
identifier_by_viable ts (Some (kind.Name name)) e =
    take_at identifier (kind.Name name) (λ at. pure (record { name = name; at = at })) ts e
    (λ at. pure_viable (record { name = name; at = at }) (λ mid ts h. h))
identifier_by_viable ts _ e = from_start identifier some_identifier ts

pub identifier_viable : Viable identifier_of identifier
unfolding identifier_of
identifier_viable = kind_viable identifier_by some_identifier identifier_by_viable

pub names_viable : Viable names_of names
unfolding names_of
names_viable = separated_viable identifier symbol.Comma identifier_viable

some_constant : Inhabited constant
some_constant = (of_kind (kind.Number 0) ∷ [], written.Number 0 0, λ rest. (0, refl))

-- after a `-`
abbrev Negated : ℕ → Constant → Language
Negated at = Behind (token (kind.Symbol symbol.Minus)) at constant

some_negative : (at : ℕ) → Inhabited (Negated at)
some_negative at = (of_kind (kind.Number 0) ∷ [], written.Negative at 0, λ rest ts h. (of_kind (kind.Number 0) ∷ rest, h, (0, (0, refl))))

negative_viable : (at : ℕ) (ts : List Token) (k : Option Kind) → kind_at ts ≡ k → ViableAt (Negated at) (negative_by at k ts) ts
negative_viable at ts (Some (kind.Number value)) e = take_at (Negated at) (kind.Number value) (λ _. pure (written.Negative at value)) ts e
    (λ place. pure_viable (written.Negative at value) (λ mid m t ts h. (m, h, (place, t))))
negative_viable at ts _ e = from_start (Negated at) (some_negative at) ts

constant_by_viable : (ts : List Token) (k : Option Kind) → kind_at ts ≡ k → ViableAt constant (constant_by k ts) ts
constant_by_viable ts (Some (kind.Number value)) e =
    take_at constant (kind.Number value) (λ at. pure (written.Number at value)) ts e (λ at. pure_viable (written.Number at value) (λ mid ts h. h))
constant_by_viable ts (Some (kind.Character ordinal)) e =
    take_at constant (kind.Character ordinal) (λ at. pure (written.Character at ordinal)) ts e
    (λ at. pure_viable (written.Character at ordinal) (λ mid ts h. h))
constant_by_viable ts (Some (kind.Name name)) e = take_at constant (kind.Name name)
    (λ at. pure (written.Named (record { name = name; at = at }))) ts e
    (λ at. pure_viable (written.Named (record { name = name; at = at })) (λ mid ts h. h))
constant_by_viable ts (Some (kind.Symbol symbol.Minus)) e = take_at constant (kind.Symbol symbol.Minus) (λ at. by_kind (negative_by at)) ts e
    (λ at. kind_viable (negative_by at) (some_negative at) (negative_viable at))
constant_by_viable ts _ e = from_start constant some_constant ts

pub constant_viable : Viable constant_of constant
unfolding constant_of
constant_viable = kind_viable constant_by some_constant constant_by_viable

pub constants_viable : Viable constants_of (separated_list symbol.Comma constant)
unfolding constants_of
constants_viable = separated_viable constant symbol.Comma constant_viable
