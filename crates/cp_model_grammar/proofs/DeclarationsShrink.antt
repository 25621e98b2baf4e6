-- A declaration consists of at least one token, and a list of declarations of no more tokens than
-- there are.
use Rattle.std.proofs.Common.{ℕ, zero, suc, ◌<◌, ◌≤◌, List, [], ◌∷◌, length, Option, Some, None, arith}
use Rattle.cp_model.specs.Languages.{optional}
use Rattle.cp_model.specs.Syntax as s
use Rattle.cp_model.specs.Grammar.{body, variable_group, variables, parameter_group, parameters, routine_word, result_type, routine, sort_symbol, system, definition, constant_definition, type_definition, section}
use Rattle.cp_model.specs.Tokens.{Token}
use Rattle.cp_model.specs.Tokens as kind
use Rattle.cp_model.specs.declared.token.Symbol.{Symbol}
use Rattle.cp_model.specs.declared.token.Symbol.TheVariants as symbol
use Rattle.cp_model.specs.declared.tree.Identifier.{Identifier}
use Rattle.cp_model.specs.declared.tree.ConstantDefinition.{ConstantDefinition}
use Rattle.cp_model_grammar.proofs.Tokens.{token_shrinks, symbol_shrinks}
use Rattle.cp_model_grammar.proofs.Lists.{separated_shrinks, each_shrinks}
use Rattle.cp_model_grammar.proofs.NamesComplete.{identifier_shrinks, names_shrink, constant_shrinks}
use Rattle.cp_model_grammar.proofs.TypesComplete.{type_shrinks}
use Rattle.cp_model_grammar.proofs.StatementsShrink.{statements_shrink}

optional_shrinks : (x : Symbol) (at : Option ℕ) (ts rest : List Token) → optional x at ts rest → length rest ≤ length ts
optional_shrinks x None ts rest h = rw h (omega arith)
optional_shrinks x (Some at) ts rest h = omega (arith, token_shrinks (kind.Symbol x) at ts rest h)

pub constant_definition_shrinks : (d : ConstantDefinition) (ts rest : List Token) → constant_definition d ts rest → length rest < length ts
constant_definition_shrinks d ts rest h =
    let h1 = h.2 in let h2 = h1.2 in
    omega (
      arith,
      identifier_shrinks d.name ts h.0 h.1,
      symbol_shrinks symbol.Equal h.0 h1.0 h1.1,
      constant_shrinks d.value h1.0 h2.0 h2.1,
      symbol_shrinks symbol.Semicolon h2.0 rest h2.2,
    )

pub parameter_group_shrinks : (p : s.Parameters) (ts rest : List Token) → parameter_group p ts rest → length rest ≤ length ts
parameter_group_shrinks p ts rest h =
    let h1 = h.2 in let h2 = h1.2 in
    omega (
      arith,
      optional_shrinks symbol.Var p.by_reference ts h.0 h.1,
      names_shrink p.names h.0 h1.0 h1.1,
      symbol_shrinks symbol.Colon h1.0 h2.0 h2.1,
      identifier_shrinks p.of h2.0 rest h2.2,
    )

parameters_shrink : (ps : List s.Parameters) (ts rest : List Token) → parameters ps ts rest → length rest ≤ length ts
parameters_shrink [] ts rest h = rw h (omega arith)
parameters_shrink (p ∷ ps) ts rest h =
    omega (
      arith,
      symbol_shrinks symbol.OpenParenthesis ts h.0 h.1,
      separated_shrinks parameter_group symbol.Semicolon parameter_group_shrinks (p ∷ ps) h.0 h.2.0 h.2.1,
      symbol_shrinks symbol.CloseParenthesis h.2.0 rest h.2.2,
    )

word_shrinks : (t : Option Identifier) (ts rest : List Token) → routine_word t ts rest → length rest < length ts
word_shrinks None ts rest h = symbol_shrinks symbol.Procedure ts rest h
word_shrinks (Some t) ts rest h = symbol_shrinks symbol.Function ts rest h

result_shrinks : (t : Option Identifier) (ts rest : List Token) → result_type t ts rest → length rest ≤ length ts
result_shrinks None ts rest h = rw h (omega arith)
result_shrinks (Some t) ts rest h = omega (arith, symbol_shrinks symbol.Colon ts h.0 h.1, identifier_shrinks t h.0 rest h.2)

pub variable_group_shrinks : (limit : ℕ) (g : s.Variables) (ts rest : List Token) → variable_group limit g ts rest → length rest < length ts
variable_group_shrinks limit g ts rest h =
    let h1 = h.2 in let h2 = h1.2 in
    omega (
      arith,
      names_shrink g.names ts h.0 h.1,
      symbol_shrinks symbol.Colon h.0 h1.0 h1.1,
      type_shrinks g.of limit h1.0 h2.0 h2.1,
      symbol_shrinks symbol.Semicolon h2.0 rest h2.2,
    )

variables_shrink : (limit : ℕ) (gs : List s.Variables) (ts rest : List Token) → variables limit gs ts rest → length rest ≤ length ts
variables_shrink limit [] ts rest h = rw h (omega arith)
variables_shrink limit (g ∷ gs) ts rest h =
    omega (
      arith,
      symbol_shrinks symbol.Var ts h.0 h.1,
      each_shrinks (variable_group limit) (λ g ts rest h. omega (arith, variable_group_shrinks limit g ts rest h)) (g ∷ gs) h.0 rest h.2,
    )

pub body_shrinks : (limit : ℕ) (b : s.Body) (ts rest : List Token) → body limit b ts rest → length rest < length ts
body_shrinks zero b ts rest h = absurd h
body_shrinks (suc room) b ts rest h =
    omega (
      arith,
      token_shrinks (kind.Symbol symbol.Begin) b.at ts h.0 h.1,
      statements_shrink b.list room h.0 h.2.0 h.2.1,
      symbol_shrinks symbol.End h.2.0 rest h.2.2,
    )

pub routine_shrinks : (limit : ℕ) (r : s.Routine) (ts rest : List Token) → routine limit r ts rest → length rest < length ts
routine_shrinks limit r ts rest h =
    let h1 = h.2 in let h2 = h1.2 in let h3 = h2.2 in let h4 = h3.2 in let h5 = h4.2 in let h6 = h5.2 in let h7 = h6.2 in
    omega (
      arith,
      word_shrinks r.result_type ts h.0 h.1,
      optional_shrinks symbol.Entry r.entry h.0 h1.0 h1.1,
      identifier_shrinks r.name h1.0 h2.0 h2.1,
      parameters_shrink r.parameters h2.0 h3.0 h3.1,
      result_shrinks r.result_type h3.0 h4.0 h4.1,
      symbol_shrinks symbol.Semicolon h4.0 h5.0 h5.1,
      variables_shrink limit r.variables h5.0 h6.0 h6.1,
      body_shrinks limit r.body h6.0 h7.0 h7.1,
      symbol_shrinks symbol.Semicolon h7.0 rest h7.2,
    )

system_shrinks : (limit : ℕ) (y : s.System) (ts rest : List Token) → system limit y ts rest → length rest ≤ length ts
system_shrinks limit y ts rest h =
    let h1 = h.2 in let h2 = h1.2 in let h3 = h2.2 in let h4 = h3.2 in
    omega (
      arith,
      symbol_shrinks (sort_symbol y.sort) ts h.0 h.1,
      parameters_shrink y.parameters h.0 h1.0 h1.1,
      symbol_shrinks symbol.Semicolon h1.0 h2.0 h2.1,
      variables_shrink limit y.variables h2.0 h3.0 h3.1,
      each_shrinks (routine limit) (λ r ts rest h. omega (arith, routine_shrinks limit r ts rest h)) y.routines h3.0 h4.0 h4.1,
      body_shrinks limit y.body h4.0 rest h4.2,
    )

defined_shrinks : (limit : ℕ) (d : s.Defined) (ts rest : List Token) → definition limit d ts rest → length rest ≤ length ts
defined_shrinks limit (s.Written t) ts rest h = omega (arith, type_shrinks t limit ts rest h)
defined_shrinks limit (s.Enumeration xs) ts rest h =
    omega (
      arith,
      symbol_shrinks symbol.OpenParenthesis ts h.0 h.1,
      names_shrink xs h.0 h.2.0 h.2.1,
      symbol_shrinks symbol.CloseParenthesis h.2.0 rest h.2.2,
    )
defined_shrinks limit (s.SystemType y) ts rest h = system_shrinks limit y ts rest h

pub type_definition_shrinks : (limit : ℕ) (d : s.TypeDefinition) (ts rest : List Token) → type_definition limit d ts rest → length rest < length ts
type_definition_shrinks limit d ts rest h =
    let h1 = h.2 in let h2 = h1.2 in
    omega (
      arith,
      identifier_shrinks d.name ts h.0 h.1,
      symbol_shrinks symbol.Equal h.0 h1.0 h1.1,
      defined_shrinks limit d.defined h1.0 h2.0 h2.1,
      symbol_shrinks symbol.Semicolon h2.0 rest h2.2,
    )

pub section_shrinks : (limit : ℕ) (x : s.Section) (ts rest : List Token) → section limit x ts rest → length rest < length ts
section_shrinks limit (s.Constants []) ts rest h = absurd h
section_shrinks limit (s.Constants (d ∷ ds)) ts rest h =
    omega (
      arith,
      symbol_shrinks symbol.Const ts h.0 h.1,
      each_shrinks constant_definition (λ d ts rest h. omega (arith, constant_definition_shrinks d ts rest h)) (d ∷ ds) h.0 rest h.2,
    )
section_shrinks limit (s.Types []) ts rest h = absurd h
section_shrinks limit (s.Types (d ∷ ds)) ts rest h =
    omega (
      arith,
      symbol_shrinks symbol.Type ts h.0 h.1,
      each_shrinks (type_definition limit) (λ d ts rest h. omega (arith, type_definition_shrinks limit d ts rest h)) (d ∷ ds) h.0 rest h.2,
    )
