-- A text of the grammar is read, so that each text has one tree.
use Rattle.std.proofs.Common.{◌≡◌, List, [], Option, Ok, refl, ap}
use Rattle.cp_model.specs.Languages.{symbol}
use Rattle.cp_model.specs.Syntax as s
use Rattle.cp_model.specs.Tokens.{Token}
use Rattle.cp_model.specs.declared.token.Symbol.TheVariants as symbol
use Rattle.cp_model_grammar.specs.Reading.{Outcome, Reader, repeat_while}
use Rattle.cp_model_grammar.specs.Types.{type_at}
use Rattle.cp_model_grammar.specs.Statements.{Deeper, deeper_at}
use Rattle.cp_model_grammar.specs.Declarations.{variables_of, body_of, routines_of, section_of, begins_section}
use Rattle.cp_model_grammar.specs.Text.{tree_of, text_of, text_at}
use Rattle.cp_model_grammar.specs.Laws.{TextIsComplete, TreeIsUnique}
use Rattle.cp_model_grammar.proofs.Tokens.{expect_reads}
use Rattle.cp_model_grammar.proofs.HeadingsComplete.{block_begins}
use Rattle.cp_model_grammar.proofs.DeclarationsComplete.{variables_begin, variables_reads, body_reads, routines_reads, sections_reads}

text_go : (p : Reader s.TypeExpression) (d : Option Deeper) (t : s.Tree) (ts t1 t2 t3 t4 : List Token)
    → repeat_while begins_section (section_of p d) [] ts ≡ Ok (t.sections, t1) → variables_of p t1 ≡ Ok (t.variables, t2)
    → routines_of p d t2 ≡ Ok (t.routines, t3) → body_of d t3 ≡ Ok (t.body, t4) → symbol symbol.Dot t4 [] → text_of p d ts ≡ Ok (t, [])
unfolding text_of tree_of
text_go p d t ts t1 t2 t3 t4 h1 h2 h3 h4 h5 = rw (h1, h2, h3, h4, expect_reads symbol.Dot h5.0 t4 [] h5.1) refl

pub text_is_complete : TextIsComplete
text_is_complete room ts t h =
    let h1 = h.2 in let h2 = h1.2 in let h3 = h2.2 in
    let block = block_begins room t.routines t.body h1.0 h2.0 h3.0 h2.1 h3.1 in
    let before = variables_begin room t.variables h.0 h1.0 h1.1 block in
    text_go (type_at room) (deeper_at room) t ts h.0 h1.0 h2.0 h3.0 (sections_reads room t.sections ts h.0 h.1 before.0 before.1)
    (variables_reads room t.variables h.0 h1.0 h1.1 block)
    (routines_reads room t.routines t.body h1.0 h2.0 h3.0 h2.1 h3.1) (body_reads room t.body h2.0 h3.0 h3.1) h3.2

one_answer : {A : Type 0} (x y : A) (rest : List Token) (o : Outcome A) → o ≡ Ok (x, rest) → o ≡ Ok (y, rest) → x ≡ y
one_answer {A} x y rest o e f = let h : (x, rest) ≡ (y, rest) = cc in ap (λ (z : A × List Token). z.0) h

pub tree_is_unique : TreeIsUnique
tree_is_unique room ts t u h g = one_answer t u [] (text_at room ts) (text_is_complete room ts t h) (text_is_complete room ts u g)
