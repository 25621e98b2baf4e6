-- The words of a component: one for its mark, one for each parameter, and the words of its
-- variables.
use Rattle.std.proofs.Common.{◌≡◌, ◌≤◌, inl, inr, ℕ, ◌+◌, suc, Bool, true, false, not, List, [], ◌∷◌, Some, length, filter, refl, ap, sym, ◌∙◌, arith}
use Rattle.std.proofs.lemmas.Bool.{true≢false}
use Rattle.cp_model.specs.Abstract as a
use Rattle.cp_model.specs.declared.tree.Sort.{Sort}
use Rattle.cp_model.specs.declared.rules.ParameterRow.{ParameterRow}
use Rattle.cp_model.specs.RulesEnvironment.{Text}
use Rattle.cp_model.specs.Types.{GlobalScope, Members, NoMembers, ResolvedType}
use Rattle.cp_model.specs.Declarations.{Variable, is_component, members_from}
use Rattle.cp_law_typing.specs.Words.{component_words, words, words_of_members, words_of_variables}
use Rattle.cp_law_typing.proofs.Headings.{AllParameters, ParameterAs}
use Rattle.cp_law_typing.proofs.TableMeanings.{ParametersAs, Types}

pub rows_length : (rs : Types) (qs : List ParameterRow) (ds : List (Text × Variable)) → ParametersAs rs qs ds → length qs ≡ length ds
rows_length rs [] [] h = refl
rows_length rs (q ∷ qs) (d ∷ ds) h = ap suc (rows_length rs qs ds h.2)
rows_length rs [] (d ∷ ds) h = absurd h
rows_length rs (q ∷ qs) [] h = absurd h

pub members_words : (g : GlobalScope) (vs : List (Text × Variable)) (rest : Members) → words_of_members g (members_from vs rest) ≡ words_of_variables g vs + words_of_members g rest
members_words g [] rest = omega arith
members_words g (v ∷ vs) rest = ap (λ n. words g v.1.type + n) (members_words g vs rest) ∙ omega arith

abbrev pub is_right : Text × Variable → Bool
is_right v = is_component v.1.type

abbrev pub is_own : Text × Variable → Bool
is_own v = not (is_component v.1.type)

-- each parameter of a system type takes one word, as a right or as a simple value
one_each : (z : Sort) (g : GlobalScope) (ds : List (Text × Variable)) → AllParameters (Some z) ds → length (filter is_right ds) + words_of_variables g (filter is_own ds) ≡ length ds
one_each z g [] h = omega arith
one_each z g (d ∷ ds) h = go (is_component d.1.type) refl (one_each z g ds h.1)
  where
    one_word : (r : ResolvedType) → ParameterAs (Some z) r → is_component r ≡ false → words g r ≡ 1
    one_word r k e = elim k.0 [ inl s ↦ ap (words g) s.1.is | inr s ↦ absurd (true≢false (sym (ap is_component s.2) ∙ e)) ]

    go : (b : Bool) → is_component d.1.type ≡ b → length (filter is_right ds) + words_of_variables g (filter is_own ds) ≡ length ds
        → length (filter is_right (d ∷ ds)) + words_of_variables g (filter is_own (d ∷ ds)) ≡ suc (length ds)
    go true is rest = grind (arith, is, rest)
    go false is rest = grind (arith, is, rest, one_word d.1.type h.0 is)

-- the members of a component that are its own, given its parameters and variables
abbrev pub members_of : List (Text × Variable) → List (Text × Variable) → Members
members_of ds vs = members_from (filter is_own ds) (members_from vs NoMembers)

pub component_total : (z : Sort) (g : GlobalScope) (ds vs : List (Text × Variable)) → AllParameters (Some z) ds
    → length (filter is_right ds) + words_of_members g (members_of ds vs) ≡ length ds + words_of_variables g vs
component_total z g ds vs h =
    omega (arith, one_each z g ds h, members_words g (filter is_own ds) (members_from vs NoMembers), members_words g vs NoMembers)

pub component_most : (s : a.Sort) (n : ℕ) → component_words s n ≤ n
component_most a.Process n = omega arith
component_most a.Monitor n = omega arith
component_most a.Class n = omega arith
