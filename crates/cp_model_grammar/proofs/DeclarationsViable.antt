-- A partly read declaration can be completed.
use Rattle.std.proofs.Common.{◌≡◌, ℕ, suc, Bool, true, false, cond, List, [], ◌∷◌, ◌++◌, Option, Some, None, refl}
use Rattle.cp_model.specs.Languages.{Language, token, symbol_at, each}
use Rattle.cp_model.specs.Syntax as s
use Rattle.cp_model.specs.Grammar.{body, variable_group, variables, parameter_group, parameters, routine_word, result_type, routine, sort_symbol, system, definition, constant_definition, type_definition, section}
use Rattle.cp_model.specs.Tokens.{Token}
use Rattle.cp_model.specs.Tokens.{Kind}
use Rattle.cp_model.specs.Tokens as kind
use Rattle.cp_model.specs.declared.token.Symbol.{Symbol}
use Rattle.cp_model.specs.declared.token.Symbol.TheVariants as symbol
use Rattle.cp_model.specs.declared.tree.Identifier.{Identifier}
use Rattle.cp_model.specs.declared.tree.Sort.{Sort}
use Rattle.cp_model.specs.declared.tree.Sort.TheVariants as sort
use Rattle.cp_model_grammar.specs.Kinds.{is_symbol, is_name}
use Rattle.cp_model_grammar.specs.Reading.{Reader, ◌>>=◌, pure, refuse, take_token, by_kind, kind_at, expect, optional_symbol, repeat_while, one_or_more, separated_by}
use Rattle.cp_model_grammar.specs.Names.{identifier_of, names_of}
use Rattle.cp_model_grammar.specs.Statements.{Deeper, block_of}
use Rattle.cp_model_grammar.specs.Declarations.{constant_definition_of, parameter_group_of, some_parameters_of, parameters_of, result_type_of, heading_from, heading_of, begins_routine, variable_group_of, some_variables_of, variables_of, body_of, routine_of, routines_of, system_from, system_type, enumeration_of, written_type, defined_by, defined_of, type_definition_of, section_by, section_of, begins_section}
use Rattle.cp_model_grammar.proofs.DeclarationsSound.{between_parentheses, Returns, heading, behind_var, constants_section, types_section}
use Rattle.cp_model_grammar.proofs.Viable.{Inhabited, ViableAt, Viable, Behind, from_start, then, then_at, finish, pure_viable, imply, kind_viable, take_at, symbol_viable, of_kind, expect_viable, optional_viable, ViableInner, or_some, separated_viable, each_viable, some_viable}
use Rattle.cp_model_grammar.proofs.NamesViable.{identifier_viable, names_viable, constant_viable}
use Rattle.cp_model_grammar.proofs.TypesViable.{ViableType, group_viable}
use Rattle.cp_model_grammar.proofs.StatementsViable.{ViableDeeper, block_viable}

-- ---- constants, parameters and headings

constant_definition_viable : Viable constant_definition_of constant_definition
unfolding constant_definition_of
constant_definition_viable = then identifier_viable (λ x. then (expect_viable symbol.Equal) (λ p1. then constant_viable (λ c.
    finish (λ _. record { name = x; value = c }) (expect_viable symbol.Semicolon)
    (λ p3 m2 rest h m1 h2 m0 h1 ts h0. (m0, h0, (m1, (p1, h1), (m2, h2, (p3, h))))))))

parameter_group_viable : Viable parameter_group_of parameter_group
unfolding parameter_group_of
parameter_group_viable = then (optional_viable symbol.Var) (λ v. then names_viable (λ xs. then (expect_viable symbol.Colon) (λ p2.
    finish (λ t. record { by_reference = v; names = xs; of = t }) identifier_viable
    (λ t m2 rest h m1 h2 m0 h1 ts h0. (m0, h0, (m1, h1, (m2, (p2, h2), h)))))))

parameters_viable : Viable parameters_of parameters
unfolding parameters_of some_parameters_of
parameters_viable = symbol_viable symbol.OpenParenthesis
    (λ b. cond b (take_token >>= λ _. separated_by symbol.Semicolon parameter_group_of >>= λ ps. expect symbol.CloseParenthesis >>= λ _. pure ps)
    (pure [])) ([], [], λ rest. refl)
    (λ ts k. take_at parameters (kind.Symbol symbol.OpenParenthesis)
    (λ _. separated_by symbol.Semicolon parameter_group_of >>= λ ps. expect symbol.CloseParenthesis >>= λ _. pure ps) ts k
    (λ at. then (separated_viable parameter_group symbol.Semicolon parameter_group_viable)
    (λ ps. finish (λ _. ps) (expect_viable symbol.CloseParenthesis)
    (λ p m1 rest h m0 h1 ts t. between_parentheses ps ts rest (m0, (at, t), (m1, h1, (p, h)))))))
    (λ ts. ([], refl, λ rest. refl))

-- the type of a result, or none
abbrev Result : Bool → Option Identifier → Language
Result b t ts rest = result_type t ts rest × Returns b t

result_viable : (b : Bool) → Viable (result_type_of b) (Result b)
unfolding result_type_of
result_viable true = then (expect_viable symbol.Colon) (λ p. finish (λ t. Some t) identifier_viable (λ t m0 rest h ts c. ((m0, (p, c), h), tt)))
result_viable false = pure_viable None (λ ts. (refl, tt))

-- this word comes before a routine with this result type or none
abbrev Word : Bool → Symbol → Type 0
Word b w = (t : Option Identifier) (at : ℕ) (ts rest : List Token) → Returns b t → symbol_at w at ts rest → routine_word t ts rest

heading_from_viable : (b : Bool) (w : Symbol) → Word b w → (ts : List Token) → kind_at ts ≡ Some (kind.Symbol w)
    → ViableAt heading (heading_from b ts) ts
unfolding heading_from
heading_from_viable b w word ts k = take_at heading (kind.Symbol w)
    (λ _. optional_symbol symbol.Entry >>= λ e. identifier_of >>= λ x. parameters_of >>= λ ps. result_type_of b >>= λ t.
    expect symbol.Semicolon >>= λ _. pure (record { entry = e; name = x; parameters = ps; result_type = t })) ts k
    (λ at. then (optional_viable symbol.Entry) (λ e. then identifier_viable (λ x. then parameters_viable (λ ps. then (result_viable b) (λ t.
    finish (λ _. record { entry = e; name = x; parameters = ps; result_type = t }) (expect_viable symbol.Semicolon)
    (λ p m4 rest h m3 h4 m2 h3 m1 h2 m0 h1 ts h0. (m0, word t at ts m0 h4.1 h0, (m1, h1, (m2, h2, (m3, h3, (m4, h4.0, (p, h))))))))))))

procedure_word : Word false symbol.Procedure
procedure_word (Some t) at ts rest r h = absurd r
procedure_word None at ts rest r h = (at, h)

function_word : Word true symbol.Function
function_word (Some t) at ts rest r h = (at, h)
function_word None at ts rest r h = absurd r

heading_by_viable : (ts : List Token) (k : Option Kind) → kind_at ts ≡ k → begins_routine k ≡ true
    → ViableAt heading (heading_from (is_symbol symbol.Function k) ts) ts
unfolding is_symbol
heading_by_viable ts (Some (kind.Symbol symbol.Procedure)) k b = heading_from_viable false symbol.Procedure procedure_word ts k
heading_by_viable ts (Some (kind.Symbol symbol.Function)) k b = heading_from_viable true symbol.Function function_word ts k
heading_by_viable ts _ k b = absurd cc

heading_viable : (ts : List Token) → begins_routine (kind_at ts) ≡ true → ViableAt heading (heading_of ts) ts
unfolding heading_of
heading_viable ts b = heading_by_viable ts (kind_at ts) refl b

-- ---- variables and bodies

module _ (limit : ℕ) {p : Reader s.TypeExpression} (v : ViableType limit p) where
  variable_group_viable : Viable (variable_group_of p) (variable_group limit)
  unfolding variable_group_of
  variable_group_viable = then (group_viable limit v)
      (λ g. finish (λ _. g) (expect_viable symbol.Semicolon) (λ q m rest h ts n. (n.0, n.1, (n.2.0, n.2.1, (m, n.2.2, (q, h))))))

  pub variables_viable : Viable (variables_of p) (variables limit)
  unfolding variables_of some_variables_of
  variables_viable = symbol_viable symbol.Var (λ b. cond b (take_token >>= λ _. one_or_more is_name (variable_group_of p)) (pure []))
      ([], [], λ rest. refl)
      (λ ts k. take_at (variables limit) (kind.Symbol symbol.Var) (λ _. one_or_more is_name (variable_group_of p)) ts k
      (λ at. imply (Behind (token (kind.Symbol symbol.Var)) at (variables limit)) (some_viable (variable_group limit) is_name variable_group_viable)
      (λ gs mid rest h ts t. behind_var limit gs ts mid rest (at, t) h)))
      (λ ts. ([], refl, λ rest. refl))

-- if a level may be opened, there is an empty body
pub some_body : (room : ℕ) → Inhabited (body (suc room))
some_body room =
    let last : Token = of_kind (kind.Symbol symbol.End) in (
      of_kind (kind.Symbol symbol.Begin) ∷ last ∷ [],
      record { at = 0; list = s.MoreStatements s.Empty s.NoStatements },
      λ rest. (last ∷ rest, (0, refl), (last ∷ rest, (last ∷ rest, refl, refl), (0, (0, refl)))),
    )

module _ (limit : ℕ) (made : Inhabited (body limit)) (d : Option Deeper) (okd : ViableInner ViableDeeper limit d) where
  pub body_viable : Viable (body_of d) (body limit)
  unfolding body_of
  body_viable = symbol_viable symbol.Begin (λ b. cond b (block_of d) refuse) made
      (λ ts k. or_some (body limit) (block_of d ts) ts made (block_viable limit d okd ts k)) (from_start (body limit) made)

  module _ {p : Reader s.TypeExpression} (v : ViableType limit p) where
    routine_viable : (ts : List Token) → begins_routine (kind_at ts) ≡ true → ViableAt (routine limit) (routine_of p d ts) ts
    unfolding routine_of
    routine_viable ts k = then_at heading (routine limit) (heading_of ts)
        (λ h. variables_of p >>= λ vs. body_of d >>= λ b. expect symbol.Semicolon >>= λ _.
        pure (record { entry = h.entry; name = h.name; parameters = h.parameters; result_type = h.result_type; variables = vs; body = b })) ts
        (heading_viable ts k)
        (λ h. then (variables_viable limit v) (λ vs. then body_viable (λ b.
        finish (λ _. record { entry = h.entry; name = h.name; parameters = h.parameters; result_type = h.result_type; variables = vs; body = b })
        (expect_viable symbol.Semicolon)
        (λ q m2 rest e m1 h2 m0 h1 ts g. let a = g.2 in let b' = a.2 in let c = b'.2 in let r = c.2 in
        (g.0, g.1, (a.0, a.1, (b'.0, b'.1, (c.0, c.1, (r.0, r.1, (m0, r.2, (m1, h1, (m2, h2, (q, e)))))))))))))

    pub routines_viable : Viable (routines_of p d) (each (routine limit))
    unfolding routines_of
    routines_viable = each_viable (routine limit) begins_routine (routine_of p d) routine_viable

    -- ---- types

    system_viable : (x : Sort) (ts : List Token) → kind_at ts ≡ Some (kind.Symbol (sort_symbol x)) → ViableAt (system limit) (system_from p d x ts) ts
    unfolding system_from
    system_viable x ts k = take_at (system limit) (kind.Symbol (sort_symbol x))
        (λ _. parameters_of >>= λ ps. expect symbol.Semicolon >>= λ _. variables_of p >>= λ vs. routines_of p d >>= λ rs. body_of d >>= λ b. pure
        (record { sort = x; parameters = ps; variables = vs; routines = rs; body = b })) ts k
        (λ at. then parameters_viable (λ ps. then (expect_viable symbol.Semicolon)
        (λ q. then (variables_viable limit v) (λ vs. then routines_viable (λ rs.
        finish (λ b. record { sort = x; parameters = ps; variables = vs; routines = rs; body = b }) body_viable
        (λ b m4 rest h m3 h4 m2 h3 m1 h2 m0 h1 ts t. (m0, (at, t), (m1, h1, (m2, (q, h2), (m3, h3, (m4, h4, h)))))))))))

    system_type_viable : (x : Sort) (ts : List Token) → kind_at ts ≡ Some (kind.Symbol (sort_symbol x))
        → ViableAt (definition limit) (system_type p d x ts) ts
    unfolding system_type
    system_type_viable x ts k = then_at (system limit) (definition limit) (system_from p d x ts) (λ y. pure (s.SystemType y)) ts (system_viable x ts k)
        (λ y. pure_viable (s.SystemType y) (λ mid ts h. h))

    enumeration_viable : (ts : List Token) → kind_at ts ≡ Some (kind.Symbol symbol.OpenParenthesis)
        → ViableAt (definition limit) (enumeration_of p d ts) ts
    unfolding enumeration_of
    enumeration_viable ts k = take_at (definition limit) (kind.Symbol symbol.OpenParenthesis)
        (λ _. names_of >>= λ xs. expect symbol.CloseParenthesis >>= λ _. pure (s.Enumeration xs)) ts k
        (λ at. then names_viable (λ xs. finish (λ _. s.Enumeration xs) (expect_viable symbol.CloseParenthesis)
        (λ q m1 rest h m0 h1 ts t. (m0, (at, t), (m1, h1, (q, h))))))

    written_viable : Viable (written_type p d) (definition limit)
    unfolding written_type
    written_viable = finish (λ t. s.Written t) v (λ t ts rest h. h)

    defined_by_viable : (ts : List Token) (k : Option Kind) → kind_at ts ≡ k → ViableAt (definition limit) (defined_by p d k ts) ts
    unfolding defined_by
    defined_by_viable ts (Some (kind.Symbol symbol.Process)) k = system_type_viable sort.Process ts k
    defined_by_viable ts (Some (kind.Symbol symbol.Monitor)) k = system_type_viable sort.Monitor ts k
    defined_by_viable ts (Some (kind.Symbol symbol.Class)) k = system_type_viable sort.Class ts k
    defined_by_viable ts (Some (kind.Symbol symbol.OpenParenthesis)) k = enumeration_viable ts k
    defined_by_viable ts _ k = written_viable.at ts

    type_definition_viable : Viable (type_definition_of p d) (type_definition limit)
    unfolding type_definition_of defined_of
    type_definition_viable = then identifier_viable
        (λ x. then (expect_viable symbol.Equal) (λ p1. then (kind_viable (defined_by p d) written_viable.some defined_by_viable) (λ t.
        finish (λ _. record { name = x; defined = t }) (expect_viable symbol.Semicolon)
        (λ p3 m2 rest h m1 h2 m0 h1 ts h0. (m0, h0, (m1, (p1, h1), (m2, h2, (p3, h))))))))

    -- ---- sections

    some_section : Inhabited (section limit)
    some_section =
        let one = (some_viable constant_definition is_name constant_definition_viable).some in (
          of_kind (kind.Symbol symbol.Const) ∷ one.0,
          s.Constants one.1,
          λ rest.
              constants_section limit one.1 (of_kind (kind.Symbol symbol.Const) ∷ (one.0 ++ rest)) (one.0 ++ rest) rest (0, (0, refl)) (one.2 rest),
        )

    section_by_viable : (ts : List Token) (k : Option Kind) → kind_at ts ≡ k → ViableAt (section limit) (section_by p d k ts) ts
    unfolding section_by
    section_by_viable ts (Some (kind.Symbol symbol.Const)) k =
        take_at (section limit) (kind.Symbol symbol.Const) (λ _. one_or_more is_name constant_definition_of >>= λ ds. pure (s.Constants ds)) ts k
        (λ at. finish (λ ds. s.Constants ds) (some_viable constant_definition is_name constant_definition_viable)
        (λ ds mid rest h ts t. constants_section limit ds ts mid rest (at, t) h))
    section_by_viable ts (Some (kind.Symbol symbol.Type)) k =
        take_at (section limit) (kind.Symbol symbol.Type) (λ _. one_or_more is_name (type_definition_of p d) >>= λ ds. pure (s.Types ds)) ts k
        (λ at. finish (λ ds. s.Types ds) (some_viable (type_definition limit) is_name type_definition_viable)
        (λ ds mid rest h ts t. types_section limit ds ts mid rest (at, t) h))
    section_by_viable ts _ k = from_start (section limit) some_section ts

    pub sections_viable : Viable (repeat_while begins_section (section_of p d) []) (each (section limit))
    unfolding section_of
    sections_viable = each_viable (section limit) begins_section (by_kind (section_by p d)) (λ ts k. section_by_viable ts (kind_at ts) refl)
