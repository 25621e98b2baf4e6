use Rattle.std.proofs.Common.{◌≡◌, IfOk, IfSome, ap, subst, ◌∙◌}
use Rattle.cp_model_program.specs.Terms as plain
use Rattle.cp_model.specs.Erase.{operator_of}
use Rattle.cp_program.specs.View.{application, applied_to, term}
use Rattle.cp_program.proofs.term.Term.binary.Goals as goal

pub returns-in-Some : goal.returns-in-Some
returns-in-Some c =
    let o = operator_of c.args.operator in
    let left = term c.args.self in
    let right = term c.args.right in
    let turned : applied_to right (application c.in-Some.application) ≡ plain.Binary o left right =
    subst (λ x. IfSome x (λ y. applied_to right (application y) ≡ plain.Binary o left right)) c.in-Some.is (c.before_chain.ensures right) in
    subst (λ e. IfOk c.applied.result (λ t. term t ≡ e)) turned c.applied.ensures

pub returns : goal.returns
returns c =
    let o = operator_of c.args.operator in
    let left = term c.args.self in
    let whole : applied_to left (application c.new.result) ≡ plain.Binary o left (term c.args.right) =
    ap (applied_to left) c.new.ensures ∙ ap (plain.Binary o left) c.in_ok-operand.ensures in
    subst (λ e. IfOk c.applied-2.result (λ t. term t ≡ e)) whole c.applied-2.ensures
