-- What the grammar allows as a constant, as parameters or as a heading is read.
use Rattle.std.proofs.Common.{◌≡◌, ℕ, zero, suc, Bool, true, false, List, [], ◌∷◌, Option, Some, None, Ok, refl}
use Rattle.cp_model.specs.Languages.{symbol, symbol_at, optional, each}
use Rattle.cp_model.specs.Syntax as s
use Rattle.cp_model.specs.GrammarTypes.{names}
use Rattle.cp_model.specs.Grammar.{body, parameter_group, parameters, routine_word, result_type, routine, constant_definition}
use Rattle.cp_model.specs.Tokens.{Token}
use Rattle.cp_model.specs.Tokens.{Kind}
use Rattle.cp_model.specs.Tokens as kind
use Rattle.cp_model.specs.declared.token.Symbol.{Symbol}
use Rattle.cp_model.specs.declared.token.Symbol.TheVariants as symbol
use Rattle.cp_model.specs.declared.tree.Identifier.{Identifier}
use Rattle.cp_model.specs.declared.tree.ConstantDefinition.{ConstantDefinition}
use Rattle.cp_model_grammar.specs.Kinds.{is_symbol, is_name}
use Rattle.cp_model_grammar.specs.Reading.{kind_at, tail, optional_symbol, separated_by}
use Rattle.cp_model_grammar.specs.Names.{identifier_of}
use Rattle.cp_model_grammar.specs.Declarations.{constant_definition_of, parameter_group_of, some_parameters_of, parameters_of, result_type_of, Heading, heading_from, heading_of, begins_routine, begins_section}
use Rattle.cp_model_grammar.proofs.Tokens.{is_symbol_refl, kind_of, kind_of_symbol, expect_reads, colon_is_no_comma}
use Rattle.cp_model_grammar.proofs.Lists.{each_of, ItemReads, separated_reads}
use Rattle.cp_model_grammar.proofs.NamesComplete.{identifier_reads, names_reads, constant_reads}
use Rattle.cp_model_grammar.proofs.DeclarationsSound.{heading}
use Rattle.cp_model_grammar.proofs.DeclarationsShrink.{parameter_group_shrinks}

-- ---- the tokens at which something begins or ends

name_is_no : (x : Symbol) (name : List ℕ) → is_symbol x (Some (kind.Name name)) ≡ false
unfolding is_symbol
name_is_no x name = refl

pub semicolon_is_no_parenthesis : is_symbol symbol.OpenParenthesis (Some (kind.Symbol symbol.Semicolon)) ≡ false
unfolding is_symbol
semicolon_is_no_parenthesis = refl

colon_is_no_parenthesis : is_symbol symbol.OpenParenthesis (Some (kind.Symbol symbol.Colon)) ≡ false
unfolding is_symbol
colon_is_no_parenthesis = refl

close_is_no_semicolon : is_symbol symbol.Semicolon (Some (kind.Symbol symbol.CloseParenthesis)) ≡ false
unfolding is_symbol
close_is_no_semicolon = refl

procedure_is_no_function : is_symbol symbol.Function (Some (kind.Symbol symbol.Procedure)) ≡ false
unfolding is_symbol
procedure_is_no_function = refl

-- what follows variables: a routine or a body
pub begins_block : Option Kind → Bool
begins_block (Some (kind.Symbol symbol.Procedure)) = true
begins_block (Some (kind.Symbol symbol.Function)) = true
begins_block (Some (kind.Symbol symbol.Begin)) = true
begins_block _ = false

pub block_is_no_var : (k : Option Kind) → begins_block k ≡ true → is_symbol symbol.Var k ≡ false
unfolding begins_block is_symbol
block_is_no_var (Some (kind.Symbol symbol.Procedure)) h = refl
block_is_no_var (Some (kind.Symbol symbol.Function)) h = refl
block_is_no_var (Some (kind.Symbol symbol.Begin)) h = refl
block_is_no_var _ h = absurd cc

pub block_is_no_name : (k : Option Kind) → begins_block k ≡ true → is_name k ≡ false
unfolding begins_block
block_is_no_name (Some (kind.Symbol symbol.Procedure)) h = refl
block_is_no_name (Some (kind.Symbol symbol.Function)) h = refl
block_is_no_name (Some (kind.Symbol symbol.Begin)) h = refl
block_is_no_name _ h = absurd cc

pub block_is_no_section : (k : Option Kind) → begins_block k ≡ true → begins_section k ≡ false
unfolding begins_block
block_is_no_section (Some (kind.Symbol symbol.Procedure)) h = refl
block_is_no_section (Some (kind.Symbol symbol.Function)) h = refl
block_is_no_section (Some (kind.Symbol symbol.Begin)) h = refl
block_is_no_section _ h = absurd cc

pub section_is_no_name : (k : Option Kind) → begins_section k ≡ true → is_name k ≡ false
section_is_no_name (Some (kind.Symbol symbol.Const)) h = refl
section_is_no_name (Some (kind.Symbol symbol.Type)) h = refl
section_is_no_name _ h = absurd cc

pub body_is_block : begins_block (Some (kind.Symbol symbol.Begin)) ≡ true
unfolding begins_block
body_is_block = refl

routine_is_block : (k : Option Kind) → begins_routine k ≡ true → begins_block k ≡ true
unfolding begins_block
routine_is_block (Some (kind.Symbol symbol.Procedure)) h = refl
routine_is_block (Some (kind.Symbol symbol.Function)) h = refl
routine_is_block _ h = absurd cc

pub body_begins : (limit : ℕ) (b : s.Body) (ts rest : List Token) → body limit b ts rest → kind_at ts ≡ Some (kind.Symbol symbol.Begin)
body_begins zero b ts rest h = absurd h
body_begins (suc room) b ts rest h = kind_of (kind.Symbol symbol.Begin) b.at ts h.0 h.1

pub routine_begins : (limit : ℕ) (r : s.Routine) (ts rest : List Token) → routine limit r ts rest → begins_routine (kind_at ts) ≡ true
routine_begins limit r ts rest h = go r.result_type h.1
  where
    go : (t : Option Identifier) → routine_word t ts h.0 → begins_routine (kind_at ts) ≡ true
    go None w = rw (kind_of_symbol symbol.Procedure ts h.0 w) refl
    go (Some t) w = rw (kind_of_symbol symbol.Function ts h.0 w) refl

-- routines, and a body after them
pub block_begins : (limit : ℕ) (rs : List s.Routine) (b : s.Body) (ts mid rest : List Token) → each (routine limit) rs ts mid → body limit b mid rest
    → begins_block (kind_at ts) ≡ true
block_begins limit [] b ts mid rest h g = rw (h, body_begins limit b mid rest g) body_is_block
block_begins limit (r ∷ rs) b ts mid rest h g = routine_is_block (kind_at ts) (routine_begins limit r ts h.0 h.1)

pub names_begin : (xs : List Identifier) (ts rest : List Token) → names xs ts rest → (name : List ℕ) × (kind_at ts ≡ Some (kind.Name name))
names_begin [] ts rest h = absurd h
names_begin (x ∷ xs) ts rest h = (x.name, kind_of (kind.Name x.name) x.at ts h.0 h.1)

-- what follows an item that ends by itself
abbrev pub Anything : {A : Type 0} → A → Option Kind → Type 0
Anything a k = Unit {0}

-- ---- constants

pub constant_definition_reads : (d : ConstantDefinition) (ts rest : List Token) → constant_definition d ts rest → constant_definition_of ts ≡ Ok (d, rest)
unfolding constant_definition_of
constant_definition_reads d ts rest h =
    let h1 = h.2 in let h2 = h1.2 in
    rw (
      identifier_reads d.name ts h.0 h.1,
      expect_reads symbol.Equal h1.1.0 h.0 h1.0 h1.1.1,
      constant_reads d.value h1.0 h2.0 h2.1,
      expect_reads symbol.Semicolon h2.2.0 h2.0 rest h2.2.1,
    ) refl

-- ---- parameters and headings

optional_reads : (x : Symbol) (at : Option ℕ) (ts rest : List Token) → optional x at ts rest → is_symbol x (kind_at rest) ≡ false
    → optional_symbol x ts ≡ Ok (at, rest)
unfolding optional_symbol
optional_reads x None ts rest h stop = rw (h, stop) refl
optional_reads x (Some at) ts rest h stop = rw (h.1, is_symbol_refl x) refl

parameter_group_reads : (p : s.Parameters) (ts rest : List Token) → parameter_group p ts rest → parameter_group_of ts ≡ Ok (p, rest)
unfolding parameter_group_of
parameter_group_reads p ts rest h =
    let h1 = h.2 in let h2 = h1.2 in
    let name = names_begin p.names h.0 h1.0 h1.1 in
    rw (
      optional_reads symbol.Var p.by_reference ts h.0 h.1 (rw name.1 (name_is_no symbol.Var name.0)),
      names_reads p.names h.0 h1.0 h1.1 (rw (kind_of_symbol symbol.Colon h1.0 h2.0 h2.1) colon_is_no_comma),
      expect_reads symbol.Colon h2.1.0 h1.0 h2.0 h2.1.1,
      identifier_reads p.of h2.0 rest h2.2,
    ) refl

parameters_go : (ps : List s.Parameters) (at close : ℕ) (ts t1 t2 rest : List Token) → symbol_at symbol.OpenParenthesis at ts t1
    → separated_by symbol.Semicolon parameter_group_of t1 ≡ Ok (ps, t2)
    → symbol_at symbol.CloseParenthesis close t2 rest → parameters_of ts ≡ Ok (ps, rest)
unfolding parameters_of some_parameters_of
parameters_go ps at close ts t1 t2 rest h1 h2 h3 =
    rw (h1.1, is_symbol_refl symbol.OpenParenthesis, h2, expect_reads symbol.CloseParenthesis close t2 rest h3) refl

pub parameters_reads : (ps : List s.Parameters) (ts rest : List Token) → parameters ps ts rest → is_symbol symbol.OpenParenthesis (kind_at rest) ≡ false
    → parameters_of ts ≡ Ok (ps, rest)
unfolding parameters_of
parameters_reads [] ts rest h stop = rw (h, stop) refl
parameters_reads (p ∷ ps) ts rest h stop =
    let h1 = h.2 in
    parameters_go (p ∷ ps) h.1.0 h1.2.0 ts h.0 h1.0 rest h.1.1
    (separated_reads parameter_group parameter_group_of Anything symbol.Semicolon (λ p. tt) parameter_group_shrinks (p ∷ ps)
    (each_of (ItemReads parameter_group parameter_group_of Anything) (λ p ts rest h u. parameter_group_reads p ts rest h) (p ∷ ps)) h.0 h1.0 h1.1
    (λ p. tt)
    (rw (kind_of_symbol symbol.CloseParenthesis h1.0 rest h1.2) close_is_no_semicolon)) h1.2.1

-- the word before a routine says whether it has a result
abbrev has_result : Option Identifier → Bool
has_result None = false
has_result (Some t) = true

result_reads : (t : Option Identifier) (ts rest : List Token) → result_type t ts rest → result_type_of (has_result t) ts ≡ Ok (t, rest)
unfolding result_type_of
result_reads None ts rest h = rw h refl
result_reads (Some t) ts rest h = rw (expect_reads symbol.Colon h.1.0 ts h.0 h.1.1, identifier_reads t h.0 rest h.2) refl

result_ends : (t : Option Identifier) (ts mid rest : List Token) → result_type t ts mid → symbol symbol.Semicolon mid rest
    → is_symbol symbol.OpenParenthesis (kind_at ts) ≡ false
result_ends None ts mid rest h e = rw (h, kind_of_symbol symbol.Semicolon mid rest e) semicolon_is_no_parenthesis
result_ends (Some t) ts mid rest h e = rw (kind_of_symbol symbol.Colon ts h.0 h.1) colon_is_no_parenthesis

word_reports : (t : Option Identifier) (ts rest : List Token) → routine_word t ts rest → is_symbol symbol.Function (kind_at ts) ≡ has_result t
word_reports None ts rest h = rw (kind_of_symbol symbol.Procedure ts rest h) procedure_is_no_function
word_reports (Some t) ts rest h = rw (kind_of_symbol symbol.Function ts rest h) (is_symbol_refl symbol.Function)

word_taken : (t : Option Identifier) (ts rest : List Token) → routine_word t ts rest → tail ts ≡ rest
word_taken None ts rest h = rw h.1.1 refl
word_taken (Some t) ts rest h = rw h.1.1 refl

heading_go : (b : Bool) (h : Heading) (ts t1 t2 t3 t4 t5 rest : List Token) → is_symbol symbol.Function (kind_at ts) ≡ b → tail ts ≡ t1
    → optional_symbol symbol.Entry t1 ≡ Ok (h.entry, t2)
    → identifier_of t2 ≡ Ok (h.name, t3) → parameters_of t3 ≡ Ok (h.parameters, t4) → result_type_of b t4 ≡ Ok (h.result_type, t5)
    → symbol symbol.Semicolon t5 rest → heading_of ts ≡ Ok (h, rest)
unfolding heading_of heading_from
heading_go b h ts t1 t2 t3 t4 t5 rest k h1 h2 h3 h4 h5 h6 = rw (k, h1, h2, h3, h4, h5, expect_reads symbol.Semicolon h6.0 t5 rest h6.1) refl

pub heading_reads : (h : Heading) (ts rest : List Token) → heading h ts rest → heading_of ts ≡ Ok (h, rest)
heading_reads h ts rest g =
    let g1 = g.2 in let g2 = g1.2 in let g3 = g2.2 in let g4 = g3.2 in
    let taken = word_taken h.result_type ts g.0 g.1 in
    let entry_stops : is_symbol symbol.Entry (kind_at g1.0) ≡ false =
    rw (kind_of (kind.Name h.name.name) h.name.at g1.0 g2.0 g2.1) (name_is_no symbol.Entry h.name.name) in
    heading_go (has_result h.result_type) h ts g.0 g1.0 g2.0 g3.0 g4.0 rest (word_reports h.result_type ts g.0 g.1) taken
    (optional_reads symbol.Entry h.entry g.0 g1.0 g1.1 entry_stops)
    (identifier_reads h.name g1.0 g2.0 g2.1) (parameters_reads h.parameters g2.0 g3.0 g3.1 (result_ends h.result_type g3.0 g4.0 rest g4.1 g4.2))
    (result_reads h.result_type g3.0 g4.0 g4.1) g4.2
