-- Names and constants of the grammar are read.
use Rattle.std.proofs.Common.{◌≡◌, ◌<◌, ◌≤◌, false, List, length, Ok, refl, arith}
use Rattle.cp_model.specs.Languages.{identifier, separated_list}
use Rattle.cp_model.specs.GrammarExpressions.{constant}
use Rattle.cp_model.specs.GrammarTypes.{names}
use Rattle.cp_model.specs.Tokens.{Token}
use Rattle.cp_model.specs.Tokens as kind
use Rattle.cp_model.specs.declared.token.Symbol.TheVariants as symbol
use Rattle.cp_model.specs.declared.tree.Identifier.{Identifier}
use Rattle.cp_model.specs.declared.tree.Constant.{Constant}
use Rattle.cp_model.specs.declared.tree.Constant.TheVariants as written
use Rattle.cp_model_grammar.specs.Kinds.{is_symbol}
use Rattle.cp_model_grammar.specs.Reading.{kind_at}
use Rattle.cp_model_grammar.specs.Names.{identifier_of, names_of, constant_of, constants_of}
use Rattle.cp_model_grammar.proofs.Tokens.{token_shrinks}
use Rattle.cp_model_grammar.proofs.Lists.{each_of, ItemReads, separated_reads, separated_shrinks}

pub identifier_reads : (x : Identifier) (ts rest : List Token) → identifier x ts rest → identifier_of ts ≡ Ok (x, rest)
unfolding identifier_of
identifier_reads x ts rest h = rw h.1 refl

pub identifier_shrinks : (x : Identifier) (ts rest : List Token) → identifier x ts rest → length rest < length ts
identifier_shrinks x ts rest h = token_shrinks (kind.Name x.name) x.at ts rest h

identifier_is_no_more : (x : Identifier) (ts rest : List Token) → identifier x ts rest → length rest ≤ length ts
identifier_is_no_more x ts rest h = omega (arith, identifier_shrinks x ts rest h)

pub names_reads : (xs : List Identifier) (ts rest : List Token) → names xs ts rest → is_symbol symbol.Comma (kind_at rest) ≡ false
    → names_of ts ≡ Ok (xs, rest)
unfolding names_of
names_reads xs ts rest h stop = separated_reads identifier identifier_of (λ x k. Unit {0}) symbol.Comma (λ x. tt) identifier_is_no_more xs
    (each_of (ItemReads identifier identifier_of (λ x k. Unit {0})) (λ x ts rest h u. identifier_reads x ts rest h) xs) ts rest h (λ x. tt) stop

pub names_shrink : (xs : List Identifier) (ts rest : List Token) → names xs ts rest → length rest ≤ length ts
names_shrink xs ts rest h = separated_shrinks identifier symbol.Comma identifier_is_no_more xs ts rest h

pub constant_reads : (c : Constant) (ts rest : List Token) → constant c ts rest → constant_of ts ≡ Ok (c, rest)
unfolding constant_of
constant_reads (written.Number at value) ts rest h = rw h.1 refl
constant_reads (written.Negative at value) ts rest h = rw (h.1.1, h.2.1.1) refl
constant_reads (written.Character at ordinal) ts rest h = rw h.1 refl
constant_reads (written.Named x) ts rest h = rw h.1 refl

pub constant_shrinks : (c : Constant) (ts rest : List Token) → constant c ts rest → length rest < length ts
constant_shrinks (written.Number at value) ts rest h = token_shrinks (kind.Number value) at ts rest h
constant_shrinks (written.Negative at value) ts rest h =
    omega (arith, token_shrinks (kind.Symbol symbol.Minus) at ts h.0 h.1, token_shrinks (kind.Number value) h.2.0 h.0 rest h.2.1)
constant_shrinks (written.Character at ordinal) ts rest h = token_shrinks (kind.Character ordinal) at ts rest h
constant_shrinks (written.Named x) ts rest h = identifier_shrinks x ts rest h

constant_is_no_more : (c : Constant) (ts rest : List Token) → constant c ts rest → length rest ≤ length ts
constant_is_no_more c ts rest h = omega (arith, constant_shrinks c ts rest h)

pub constants_reads : (cs : List Constant) (ts rest : List Token) → separated_list symbol.Comma constant cs ts rest
    → is_symbol symbol.Comma (kind_at rest) ≡ false → constants_of ts ≡ Ok (cs, rest)
unfolding constants_of
constants_reads cs ts rest h stop = separated_reads constant constant_of (λ x k. Unit {0}) symbol.Comma (λ x. tt) constant_is_no_more cs
    (each_of (ItemReads constant constant_of (λ x k. Unit {0})) (λ c ts rest h u. constant_reads c ts rest h) cs) ts rest h (λ x. tt) stop

pub constants_shrink : (cs : List Constant) (ts rest : List Token) → separated_list symbol.Comma constant cs ts rest → length rest ≤ length ts
constants_shrink cs ts rest h = separated_shrinks constant symbol.Comma constant_is_no_more cs ts rest h
