use Rattle.std.proofs.Common.{◌≡◌, [], ◌∷◌, ◌++◌, map, ap, sym, ◌∙◌}
use Rattle.std.proofs.lemmas.List.{map-append}
use Rattle.cp_program.specs.View.{application, applied_to, chain_of, operand}
use Rattle.cp_program.specs.declared.term.Term.{out-Term}
use Rattle.cp_program.proofs.Chains.{chain_more, term_is, term_rolled}
use Rattle.cp_program.proofs.term.Term.applied.Goals as goal

pub returns : goal.returns
returns c =
    let t = out-Term c.args.self in
    let xs = map application t.rest.items in
    let x = application c.args.application in
    let pushed : map application c.push_exactly.new.list.items ≡ xs ++ x ∷ [] =
    ap (map application) c.in_ok-push_exactly.ensures ∙ map-append application t.rest.items _ in
    term_rolled t.first _
    ∙ (ap (chain_of (operand t.first)) pushed
    ∙ (chain_more (operand t.first) xs x ∙ ap (λ e. applied_to e x) (sym (term_is c.args.self))))
