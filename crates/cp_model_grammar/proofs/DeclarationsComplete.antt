-- What the grammar allows as a declaration is read.
use Rattle.std.proofs.Common.{◌≡◌, ℕ, zero, suc, Bool, true, false, List, [], ◌∷◌, Option, Some, Ok, refl, sym, ap, ◌∙◌}
use Rattle.cp_model.specs.Languages.{symbol, symbol_at, identifier, each}
use Rattle.cp_model.specs.Syntax as s
use Rattle.cp_model.specs.View.{statements_of}
use Rattle.cp_model.specs.GrammarTypes.{type_expression}
use Rattle.cp_model.specs.Grammar.{body, variable_group, variables, routine, sort_symbol, system, definition, constant_definition, type_definition, section}
use Rattle.cp_model.specs.Tokens.{Token}
use Rattle.cp_model.specs.Tokens.{Kind}
use Rattle.cp_model.specs.Tokens as kind
use Rattle.cp_model.specs.declared.token.Symbol.TheVariants as symbol
use Rattle.cp_model.specs.declared.tree.Identifier.{Identifier}
use Rattle.cp_model.specs.declared.tree.Constant.TheVariants as written
use Rattle.cp_model.specs.declared.tree.ConstantDefinition.{ConstantDefinition}
use Rattle.cp_model.specs.declared.tree.Sort.{Sort}
use Rattle.cp_model.specs.declared.tree.Sort.TheVariants as sort
use Rattle.cp_model_grammar.specs.Kinds.{is_symbol, is_name}
use Rattle.cp_model_grammar.specs.Reading.{Reader, kind_at, repeat_while, one_or_more}
use Rattle.cp_model_grammar.specs.Names.{names_of}
use Rattle.cp_model_grammar.specs.Types.{group_of, type_at}
use Rattle.cp_model_grammar.specs.Statements.{Deeper, statements_from, block_of, deeper_at}
use Rattle.cp_model_grammar.specs.Declarations.{constant_definition_of, parameters_of, Heading, heading_of, begins_routine, variable_group_of, some_variables_of, variables_of, body_of, routine_of, routines_of, system_from, system_type, enumeration_of, written_type, defined_by, defined_of, type_definition_of, section_by, section_of, begins_section}
use Rattle.cp_model_grammar.specs.Follows.{ends_type}
use Rattle.cp_model_grammar.proofs.Tokens.{is_symbol_refl, kind_of_symbol, expect_reads, end_is_no_semicolon, close_is_no_comma}
use Rattle.cp_model_grammar.proofs.Lists.{each_of, ItemReads, each_reads, some_reads}
use Rattle.cp_model_grammar.proofs.NamesComplete.{identifier_reads, names_reads}
use Rattle.cp_model_grammar.proofs.TypesComplete.{type_complete, group_complete}
use Rattle.cp_model_grammar.proofs.StatementListsComplete.{listed_statements, statements_listed, statements_reads, end_follows}
use Rattle.cp_model_grammar.proofs.StatementsComplete.{readers, deeper_suc}
use Rattle.cp_model_grammar.proofs.StatementsComplete as statements
use Rattle.cp_model_grammar.proofs.DeclarationsShrink.{constant_definition_shrinks, variable_group_shrinks, routine_shrinks, type_definition_shrinks, section_shrinks}
use Rattle.cp_model_grammar.proofs.HeadingsComplete.{Anything, begins_block, block_begins, block_is_no_name, block_is_no_section, block_is_no_var, body_begins, body_is_block, constant_definition_reads, heading_reads, names_begin, parameters_reads, routine_begins, section_is_no_name, semicolon_is_no_parenthesis}

-- ---- variables, bodies and routines

semicolon_ends_type : ends_type (Some (kind.Symbol symbol.Semicolon)) ≡ true
semicolon_ends_type = refl

variable_group_go : (p : Reader s.TypeExpression) (g : s.Variables) (ts mid rest : List Token) → group_of p ts ≡ Ok (g, mid)
    → symbol symbol.Semicolon mid rest → variable_group_of p ts ≡ Ok (g, rest)
unfolding variable_group_of
variable_group_go p g ts mid rest one e = rw (one, expect_reads symbol.Semicolon e.0 mid rest e.1) refl

variable_group_reads : (limit : ℕ) (g : s.Variables) (ts rest : List Token) → variable_group limit g ts rest
    → variable_group_of (type_at limit) ts ≡ Ok (g, rest)
variable_group_reads limit g ts rest h =
    let h1 = h.2 in let h2 = h1.2 in
    variable_group_go (type_at limit) g ts h2.0 rest
    (group_complete limit g (type_complete g.of) ts h2.0 (h.0, h.1, (h1.0, h1.1, h2.1))
    (rw (kind_of_symbol symbol.Semicolon h2.0 rest h2.2) semicolon_ends_type)) h2.2

group_begins : (limit : ℕ) (g : s.Variables) (ts rest : List Token) → variable_group limit g ts rest → is_name (kind_at ts) ≡ true
group_begins limit g ts rest h = let name = names_begin g.names ts h.0 h.1 in rw name.1 refl

variables_go : (p : Reader s.TypeExpression) (gs : List s.Variables) (ts mid rest : List Token) → symbol symbol.Var ts mid
    → one_or_more is_name (variable_group_of p) mid ≡ Ok (gs, rest) → variables_of p ts ≡ Ok (gs, rest)
unfolding variables_of some_variables_of
variables_go p gs ts mid rest v h = rw (v.1.1, is_symbol_refl symbol.Var, h) refl

variables_stop : (p : Reader s.TypeExpression) (ts : List Token) → is_symbol symbol.Var (kind_at ts) ≡ false → variables_of p ts ≡ Ok ([], ts)
unfolding variables_of
variables_stop p ts stop = rw stop refl

pub variables_reads : (limit : ℕ) (gs : List s.Variables) (ts rest : List Token) → variables limit gs ts rest → begins_block (kind_at rest) ≡ true
    → variables_of (type_at limit) ts ≡ Ok (gs, rest)
variables_reads limit [] ts rest h block = rw h (variables_stop (type_at limit) rest (block_is_no_var (kind_at rest) block))
variables_reads limit (g ∷ gs) ts rest h block =
    variables_go (type_at limit) (g ∷ gs) ts h.0 rest h.1
    (some_reads (variable_group limit) (variable_group_of (type_at limit)) Anything is_name (group_begins limit) (λ g k go. tt)
    (variable_group_shrinks limit) (g ∷ gs)
    (each_of (ItemReads (variable_group limit) (variable_group_of (type_at limit)) Anything)
    (λ g ts rest h u. variable_group_reads limit g ts rest h) (g ∷ gs))
    h.0 rest h.2 (λ g. tt) (block_is_no_name (kind_at rest) block))

-- what follows the definitions before variables: nothing that begins with a name
pub variables_begin : (limit : ℕ) (gs : List s.Variables) (ts mid : List Token) → variables limit gs ts mid → begins_block (kind_at mid) ≡ true
    → (is_name (kind_at ts) ≡ false) × (begins_section (kind_at ts) ≡ false)
variables_begin limit [] ts mid h block = rw h (block_is_no_name (kind_at mid) block, block_is_no_section (kind_at mid) block)
variables_begin limit (g ∷ gs) ts mid h block = rw (kind_of_symbol symbol.Var ts h.0 h.1) (refl, refl)

body_go : (d : Deeper) (at end : ℕ) (l : List s.Statement) (ts t1 t2 rest : List Token) → symbol_at symbol.Begin at ts t1
    → statements_from d.statement t1 ≡ Ok (l, t2) → symbol_at symbol.End end t2 rest
    → body_of (Some d) ts ≡ Ok (record { at = at; list = statements_of l }, rest)
unfolding body_of block_of
body_go d at end l ts t1 t2 rest h1 h2 h3 = rw (h1.1, is_symbol_refl symbol.Begin, h2, expect_reads symbol.End end t2 rest h3) refl

pub body_reads : (limit : ℕ) (b : s.Body) (ts rest : List Token) → body limit b ts rest → body_of (deeper_at limit) ts ≡ Ok (b, rest)
body_reads zero b ts rest h = absurd h
body_reads (suc room) b ts rest h =
    let e = h.2.2 in
    rw (deeper_suc room)
    (body_go (readers room) b.at e.0 (listed_statements b.list) ts h.0 h.2.0 rest h.1
    (statements_reads b.list (statements.all_complete b.list) room h.0 h.2.0 h.2.1 (rw (kind_of_symbol symbol.End h.2.0 rest e) end_follows)
    (rw (kind_of_symbol symbol.End h.2.0 rest e) end_is_no_semicolon)) e.1
    ∙ ap (λ (l : s.Statements). Ok (record { at = b.at; list = l }, rest)) (statements_listed b.list))

routine_go : (p : Reader s.TypeExpression) (d : Option Deeper) (r : s.Routine) (h : Heading) (ts t1 t2 t3 rest : List Token)
    → r ≡ record { entry = h.entry; name = h.name; parameters = h.parameters; result_type = h.result_type; variables = r.variables; body = r.body }
    → heading_of ts ≡ Ok (h, t1) → variables_of p t1 ≡ Ok (r.variables, t2) → body_of d t2 ≡ Ok (r.body, t3) → symbol symbol.Semicolon t3 rest
    → routine_of p d ts ≡ Ok (r, rest)
unfolding routine_of
routine_go p d r h ts t1 t2 t3 rest same h1 h2 h3 h4 =
    rw (h1, h2, h3, expect_reads symbol.Semicolon h4.0 t3 rest h4.1) (ap (λ (r : s.Routine). Ok (r, rest)) (sym same))

routine_reads : (limit : ℕ) (r : s.Routine) (ts rest : List Token) → routine limit r ts rest
    → routine_of (type_at limit) (deeper_at limit) ts ≡ Ok (r, rest)
routine_reads limit r ts rest h =
    let h1 = h.2 in let h2 = h1.2 in let h3 = h2.2 in let h4 = h3.2 in let h5 = h4.2 in let h6 = h5.2 in let h7 = h6.2 in
    let top : Heading = record { entry = r.entry; name = r.name; parameters = r.parameters; result_type = r.result_type } in
    let one = heading_reads top ts h5.0 (h.0, h.1, (h1.0, h1.1, (h2.0, h2.1, (h3.0, h3.1, (h4.0, h4.1, h5.1))))) in
    let block : begins_block (kind_at h6.0) ≡ true = rw (body_begins limit r.body h6.0 h7.0 h7.1) body_is_block in
    routine_go (type_at limit) (deeper_at limit) r top ts h5.0 h6.0 h7.0 rest refl one (variables_reads limit r.variables h5.0 h6.0 h6.1 block)
    (body_reads limit r.body h6.0 h7.0 h7.1) h7.2

pub routines_reads : (limit : ℕ) (rs : List s.Routine) (b : s.Body) (ts mid rest : List Token) → each (routine limit) rs ts mid
    → body limit b mid rest → routines_of (type_at limit) (deeper_at limit) ts ≡ Ok (rs, mid)
unfolding routines_of
routines_reads limit rs b ts mid rest h g =
    each_reads (routine limit) (routine_of (type_at limit) (deeper_at limit)) Anything begins_routine (routine_begins limit) (λ r k go. tt)
    (routine_shrinks limit) rs
    (each_of (ItemReads (routine limit) (routine_of (type_at limit) (deeper_at limit)) Anything)
    (λ r ts rest h u. routine_reads limit r ts rest h) rs)
    ts mid h (λ r. tt) (rw (body_begins limit b mid rest g) refl)

-- ---- types

system_go : (p : Reader s.TypeExpression) (d : Option Deeper) (y : s.System) (ts t1 t2 t3 t4 t5 rest : List Token) → symbol (sort_symbol y.sort) ts t1
    → parameters_of t1 ≡ Ok (y.parameters, t2) → symbol symbol.Semicolon t2 t3
    → variables_of p t3 ≡ Ok (y.variables, t4) → routines_of p d t4 ≡ Ok (y.routines, t5) → body_of d t5 ≡ Ok (y.body, rest)
    → system_from p d y.sort ts ≡ Ok (y, rest)
unfolding system_from
system_go p d y ts t1 t2 t3 t4 t5 rest h1 h2 h3 h4 h5 h6 = rw (h1.1.1, h2, expect_reads symbol.Semicolon h3.0 t2 t3 h3.1, h4, h5, h6) refl

system_reads : (limit : ℕ) (y : s.System) (ts rest : List Token) → system limit y ts rest
    → system_from (type_at limit) (deeper_at limit) y.sort ts ≡ Ok (y, rest)
system_reads limit y ts rest h =
    let h1 = h.2 in let h2 = h1.2 in let h3 = h2.2 in let h4 = h3.2 in
    system_go (type_at limit) (deeper_at limit) y ts h.0 h1.0 h2.0 h3.0 h4.0 rest h.1
    (parameters_reads y.parameters h.0 h1.0 h1.1 (rw (kind_of_symbol symbol.Semicolon h1.0 h2.0 h2.1) semicolon_is_no_parenthesis)) h2.1
    (variables_reads limit y.variables h2.0 h3.0 h3.1 (block_begins limit y.routines y.body h3.0 h4.0 rest h4.1 h4.2))
    (routines_reads limit y.routines y.body h3.0 h4.0 rest h4.1 h4.2) (body_reads limit y.body h4.0 rest h4.2)

sort_by : (p : Reader s.TypeExpression) (d : Option Deeper) (x : Sort) → defined_by p d (Some (kind.Symbol (sort_symbol x))) ≡ system_type p d x
unfolding defined_by
sort_by p d sort.Process = refl
sort_by p d sort.Monitor = refl
sort_by p d sort.Class = refl

system_type_reads : (p : Reader s.TypeExpression) (d : Option Deeper) (y : s.System) (ts rest : List Token) → system_from p d y.sort ts ≡ Ok (y, rest)
    → system_type p d y.sort ts ≡ Ok (s.SystemType y, rest)
unfolding system_type
system_type_reads p d y ts rest h = rw h refl

by_defined : (p : Reader s.TypeExpression) (d : Option Deeper) (k : Option Kind) (q : Reader s.Defined) (x : s.Defined) (ts rest : List Token)
    → kind_at ts ≡ k → defined_by p d k ≡ q → q ts ≡ Ok (x, rest) → defined_of p d ts ≡ Ok (x, rest)
unfolding defined_of
by_defined p d k q x ts rest e same h = rw (e, same) h

enumeration_reads : (p : Reader s.TypeExpression) (d : Option Deeper) (xs : List Identifier) (ts t1 t2 rest : List Token)
    → symbol symbol.OpenParenthesis ts t1 → names_of t1 ≡ Ok (xs, t2) → symbol symbol.CloseParenthesis t2 rest
    → enumeration_of p d ts ≡ Ok (s.Enumeration xs, rest)
unfolding enumeration_of
enumeration_reads p d xs ts t1 t2 rest h1 h2 h3 = rw (h1.1.1, h2, expect_reads symbol.CloseParenthesis h3.0 t2 rest h3.1) refl

enumeration_by : (p : Reader s.TypeExpression) (d : Option Deeper) → defined_by p d (Some (kind.Symbol symbol.OpenParenthesis)) ≡ enumeration_of p d
unfolding defined_by
enumeration_by p d = refl

-- this token begins neither a system type nor an enumeration
abbrev begins_type : Option Kind → Bool
begins_type (Some (kind.Symbol symbol.Process)) = false
begins_type (Some (kind.Symbol symbol.Monitor)) = false
begins_type (Some (kind.Symbol symbol.Class)) = false
begins_type (Some (kind.Symbol symbol.OpenParenthesis)) = false
begins_type _ = true

written_by : (p : Reader s.TypeExpression) (d : Option Deeper) (k : Option Kind) → begins_type k ≡ true → defined_by p d k ≡ written_type p d
unfolding defined_by
written_by p d (Some (kind.Symbol symbol.Process)) h = absurd cc
written_by p d (Some (kind.Symbol symbol.Monitor)) h = absurd cc
written_by p d (Some (kind.Symbol symbol.Class)) h = absurd cc
written_by p d (Some (kind.Symbol symbol.OpenParenthesis)) h = absurd cc
written_by p d _ h = refl

type_begins : (limit : ℕ) (t : s.TypeExpression) (ts rest : List Token) → type_expression limit t ts rest → begins_type (kind_at ts) ≡ true
type_begins limit (s.Named x) ts rest h = rw h.1 refl
type_begins limit (s.Subrange (written.Number at value) high) ts rest h = rw h.1.1 refl
type_begins limit (s.Subrange (written.Negative at value) high) ts rest h = rw h.1.1.1 refl
type_begins limit (s.Subrange (written.Character at ordinal) high) ts rest h = rw h.1.1 refl
type_begins limit (s.Subrange (written.Named x) high) ts rest h = rw h.1.1 refl
type_begins zero (s.Array at is e) ts rest h = absurd h
type_begins (suc room) (s.Array at is e) ts rest h = rw h.1.1 refl
type_begins zero (s.Record at gs) ts rest h = absurd h
type_begins (suc room) (s.Record at gs) ts rest h = rw h.1.1 refl

written_reads : (p : Reader s.TypeExpression) (d : Option Deeper) (t : s.TypeExpression) (ts rest : List Token) → p ts ≡ Ok (t, rest)
    → written_type p d ts ≡ Ok (s.Written t, rest)
unfolding written_type
written_reads p d t ts rest h = rw h refl

defined_reads : (limit : ℕ) (x : s.Defined) (ts rest : List Token) → definition limit x ts rest → ends_type (kind_at rest) ≡ true
    → defined_of (type_at limit) (deeper_at limit) ts ≡ Ok (x, rest)
defined_reads limit (s.Written t) ts rest h ends =
    by_defined (type_at limit) (deeper_at limit) (kind_at ts) (written_type (type_at limit) (deeper_at limit)) (s.Written t) ts rest refl
    (written_by (type_at limit) (deeper_at limit) (kind_at ts) (type_begins limit t ts rest h))
    (written_reads (type_at limit) (deeper_at limit) t ts rest (type_complete t limit ts rest h ends))
defined_reads limit (s.Enumeration xs) ts rest h ends =
    by_defined (type_at limit) (deeper_at limit) (Some (kind.Symbol symbol.OpenParenthesis)) (enumeration_of (type_at limit) (deeper_at limit))
    (s.Enumeration xs) ts rest (kind_of_symbol symbol.OpenParenthesis ts h.0 h.1)
    (enumeration_by (type_at limit) (deeper_at limit))
    (enumeration_reads (type_at limit) (deeper_at limit) xs ts h.0 h.2.0 rest h.1
    (names_reads xs h.0 h.2.0 h.2.1 (rw (kind_of_symbol symbol.CloseParenthesis h.2.0 rest h.2.2) close_is_no_comma)) h.2.2)
defined_reads limit (s.SystemType y) ts rest h ends =
    by_defined (type_at limit) (deeper_at limit) (Some (kind.Symbol (sort_symbol y.sort))) (system_type (type_at limit) (deeper_at limit) y.sort)
    (s.SystemType y) ts rest (kind_of_symbol (sort_symbol y.sort) ts h.0 h.1)
    (sort_by (type_at limit) (deeper_at limit) y.sort)
    (system_type_reads (type_at limit) (deeper_at limit) y ts rest (system_reads limit y ts rest h))

type_definition_go : (p : Reader s.TypeExpression) (d : Option Deeper) (x : s.TypeDefinition) (ts t1 t2 t3 rest : List Token)
    → identifier x.name ts t1 → symbol symbol.Equal t1 t2 → defined_of p d t2 ≡ Ok (x.defined, t3)
    → symbol symbol.Semicolon t3 rest → type_definition_of p d ts ≡ Ok (x, rest)
unfolding type_definition_of
type_definition_go p d x ts t1 t2 t3 rest h1 h2 h3 h4 =
    rw (identifier_reads x.name ts t1 h1, expect_reads symbol.Equal h2.0 t1 t2 h2.1, h3, expect_reads symbol.Semicolon h4.0 t3 rest h4.1) refl

type_definition_reads : (limit : ℕ) (x : s.TypeDefinition) (ts rest : List Token) → type_definition limit x ts rest
    → type_definition_of (type_at limit) (deeper_at limit) ts ≡ Ok (x, rest)
type_definition_reads limit x ts rest h =
    let h1 = h.2 in let h2 = h1.2 in
    type_definition_go (type_at limit) (deeper_at limit) x ts h.0 h1.0 h2.0 rest h.1 h1.1
    (defined_reads limit x.defined h1.0 h2.0 h2.1 (rw (kind_of_symbol symbol.Semicolon h2.0 rest h2.2) semicolon_ends_type)) h2.2

-- ---- sections

section_begins : (limit : ℕ) (x : s.Section) (ts rest : List Token) → section limit x ts rest → begins_section (kind_at ts) ≡ true
section_begins limit (s.Constants []) ts rest h = absurd h
section_begins limit (s.Constants (d ∷ ds)) ts rest h = rw (kind_of_symbol symbol.Const ts h.0 h.1) refl
section_begins limit (s.Types []) ts rest h = absurd h
section_begins limit (s.Types (d ∷ ds)) ts rest h = rw (kind_of_symbol symbol.Type ts h.0 h.1) refl

constants_go : (p : Reader s.TypeExpression) (d : Option Deeper) (ds : List ConstantDefinition) (ts mid rest : List Token)
    → symbol symbol.Const ts mid → one_or_more is_name constant_definition_of mid ≡ Ok (ds, rest)
    → section_of p d ts ≡ Ok (s.Constants ds, rest)
unfolding section_of section_by
constants_go p d ds ts mid rest w h = rw (w.1.1, h) refl

types_go : (p : Reader s.TypeExpression) (d : Option Deeper) (ds : List s.TypeDefinition) (ts mid rest : List Token) → symbol symbol.Type ts mid
    → one_or_more is_name (type_definition_of p d) mid ≡ Ok (ds, rest)
    → section_of p d ts ≡ Ok (s.Types ds, rest)
unfolding section_of section_by
types_go p d ds ts mid rest w h = rw (w.1.1, h) refl

-- a section continues as long as a name follows
abbrev NoName : s.Section → Option Kind → Type 0
NoName x k = is_name k ≡ false

section_reads : (limit : ℕ) (x : s.Section) → ItemReads (section limit) (section_of (type_at limit) (deeper_at limit)) NoName x
section_reads limit (s.Constants []) ts rest h stop = absurd h
section_reads limit (s.Constants (d ∷ ds)) ts rest h stop =
    constants_go (type_at limit) (deeper_at limit) (d ∷ ds) ts h.0 rest h.1
    (some_reads constant_definition constant_definition_of Anything is_name (λ d ts rest h. rw h.1.1 refl)
    (λ d k go. tt) constant_definition_shrinks (d ∷ ds)
    (each_of (ItemReads constant_definition constant_definition_of Anything) (λ d ts rest h u. constant_definition_reads d ts rest h)
    (d ∷ ds)) h.0 rest h.2 (λ d. tt) stop)
section_reads limit (s.Types []) ts rest h stop = absurd h
section_reads limit (s.Types (d ∷ ds)) ts rest h stop =
    types_go (type_at limit) (deeper_at limit) (d ∷ ds) ts h.0 rest h.1
    (some_reads (type_definition limit) (type_definition_of (type_at limit) (deeper_at limit)) Anything is_name (λ d ts rest h. rw h.1.1 refl)
    (λ d k go. tt) (type_definition_shrinks limit) (d ∷ ds)
    (each_of (ItemReads (type_definition limit) (type_definition_of (type_at limit) (deeper_at limit)) Anything)
    (λ d ts rest h u. type_definition_reads limit d ts rest h) (d ∷ ds)) h.0 rest h.2 (λ d. tt) stop)

pub sections_reads : (limit : ℕ) (xs : List s.Section) (ts rest : List Token) → each (section limit) xs ts rest → is_name (kind_at rest) ≡ false
    → begins_section (kind_at rest) ≡ false
    → repeat_while begins_section (section_of (type_at limit) (deeper_at limit)) [] ts ≡ Ok (xs, rest)
sections_reads limit xs ts rest h no_name stop =
    each_reads (section limit) (section_of (type_at limit) (deeper_at limit)) NoName begins_section (section_begins limit)
    (λ x k go. section_is_no_name k go) (section_shrinks limit) xs
    (each_of (ItemReads (section limit) (section_of (type_at limit) (deeper_at limit)) NoName) (section_reads limit) xs) ts rest h
    (λ x. no_name) stop
