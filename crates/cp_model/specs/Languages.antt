-- Sets of token lists, built from smaller ones: what the grammar is written in. A language relates
-- the tokens from a place on to those that are left after it has been read.
use Rattle.std.specs.Prelude.{◌≡◌, ℕ, zero, suc, List, [], ◌∷◌, Option, Some, None}
use Rattle.cp_model.specs.Tokens.{Token}
use Rattle.cp_model.specs.Tokens.{Kind}
use Rattle.cp_model.specs.Tokens as kind
use Rattle.cp_model.specs.declared.token.Symbol.{Symbol}
use Rattle.cp_model.specs.declared.tree.Identifier.{Identifier}

abbrev pub Language : Type 1
Language = List Token → List Token → Type 0

-- no token
abbrev pub empty : Language
empty ts rest = ts ≡ rest

abbrev pub never : Language
never ts rest = ⊥

-- one token of this kind, which begins at this place
abbrev pub token : Kind → ℕ → Language
token k at ts rest = (to : ℕ) × (ts ≡ record { kind = k; span = record { from = at; to = to } } ∷ rest)

-- one token of this kind, at any place
abbrev pub anywhere : Kind → Language
anywhere k ts rest = (at : ℕ) × token k at ts rest

-- a reserved word or a mark
abbrev pub symbol : Symbol → Language
symbol x = anywhere (kind.Symbol x)

abbrev pub symbol_at : Symbol → ℕ → Language
symbol_at x = token (kind.Symbol x)

abbrev pub identifier : Identifier → Language
identifier x = token (kind.Name x.name) x.at

-- one after the other
infixr 12 ◌⋅◌
abbrev pub ◌⋅◌ : Language → Language → Language
(a ⋅ b) ts rest = (middle : List Token) × a ts middle × b middle rest

-- only if this holds
infixr 11 ◌▸◌
abbrev pub ◌▸◌ : Type 0 → Language → Language
(P ▸ a) ts rest = P × a ts rest

-- a construct that opens a level, if another level may be opened
abbrev pub opens : ℕ → (ℕ → Language) → Language
opens zero a = never
opens (suc room) a = a room

-- a symbol at this place, if there is one
abbrev pub optional : Symbol → Option ℕ → Language
optional x None = empty
optional x (Some at) = symbol_at x at

-- each element of a list, one after the other
abbrev pub each : {A : Type 0} → (A → Language) → List A → Language
each f [] = empty
each f (x ∷ xs) = f x ⋅ each f xs

-- each element of a list, with a symbol before each
abbrev pub each_behind : {A : Type 0} → Symbol → (A → Language) → List A → Language
each_behind separator f [] = empty
each_behind separator f (x ∷ xs) = symbol separator ⋅ f x ⋅ each_behind separator f xs

-- one or more, with a symbol between them
abbrev pub separated_list : {A : Type 0} → Symbol → (A → Language) → List A → Language
separated_list separator f [] = never
separated_list separator f (x ∷ xs) = f x ⋅ each_behind separator f xs
