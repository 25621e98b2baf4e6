use Rattle.std.proofs.Common.{rules, ◌≡◌, length, ap, sym, subst, ◌∙◌, map, IfSome}
use Rattle.std.proofs.lemmas.List.{nil_from_length}
use Rattle.cp_model_program.specs.Terms as terms
use Rattle.cp_program.specs.declared.term.Term.{out-Term}
use Rattle.cp_program.specs.View as view
use Rattle.cp_program.specs.View.{chain_of}
use Rattle.cp_program.proofs.Chains.{term_is}
use Rattle.cp_program.proofs.term.Term.number_of.Goals as goal

pub returns : goal.returns
returns c =
    let s = out-Term c.args.self.now in
    let zero : length s.rest.items ≡ 0 = search rules in
    let none = nil_from_length s.rest.items zero in
    let whole : view.term c.args.self.now ≡ view.operand s.first =
    term_is c.args.self.now ∙ ap (λ xs. chain_of (view.operand s.first) (map view.application xs)) none in
    subst (λ e. IfSome c.number.result (λ n. e ≡ terms.Number n)) (sym whole) c.number.ensures
