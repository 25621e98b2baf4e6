use Rattle.std.proofs.Common.{rules, ◌≡◌, ◌≢◌, ◌∙◌, ◌*◌, List, [], None, Some, ap, sym, length, take}
use Rattle.cp_model.proofs.Results.{if_ok}
use Rattle.cp_model_program.specs.Plans.{plan_before, plan_of_elements, value_of_fill}
use Rattle.cp_model_program.specs.Programs as code
use Rattle.cp_program.specs.View as view
use Rattle.cp_program.specs.declared.program.StartPiece.{StartPiece}
use Rattle.cp_program.proofs.Wide.{narrow}
use Rattle.cp_compile_emit.specs.Drafts.{starts_of}
use Rattle.cp_compile_emit.specs.Planning.{known_of}
use Rattle.cp_compile_emit.proofs.TypesPlanned.{elements_before, no_pieces}
use Rattle.cp_compile_emit.proofs.plan.Planner.plan_elements.Goals as goal

pub returns-in-Some : goal.returns-in-Some
returns-in-Some c =
    let known = known_of c.args.self.now in
    let size = c.args.size in
    let count = c.args.count in
    let value = c.in-Some.value in
    let p = view.plan_at known c.args.plan in
    let same : narrow value ≡ value = search rules in
    let found : value_of_fill size p ≡ Some value =
    sym (c.value_of_fill.ensures (take c.args.plan known) ∙ ap (value_of_fill size) c.starts-pieces.ensures) ∙ c.in-Some.is in
    if_ok c.plan_fill.result
    (λ draft made. made known ∙ ap (λ n. code.Fill 0 (count * size) n code.Done) same ∙ ap (λ o. plan_of_elements size count o p) (sym found))
    c.plan_fill.ensures

pub returns-then-is_empty : goal.returns-then-is_empty
returns-then-is_empty c =
    let known = known_of c.args.self.now in
    let long : length c.starts-pieces.result.now ≡ 0 = search rules in
    let none : c.starts-pieces.result.now ≡ [] = no_pieces c.starts-pieces.result.now long in
    let done : view.plan_at known c.args.plan ≡ code.Done = sym c.starts-pieces.ensures ∙ ap (λ (xs : List StartPiece). view.plan_of (take c.args.plan known) xs) none in
    ap (starts_of known) c.new-draft.ensures
    ∙ ap (λ q. plan_of_elements c.args.size c.args.count (value_of_fill c.args.size q) q) (sym done)

pub returns : goal.returns
returns c =
    let known = known_of c.args.self.now in
    let size = c.args.size in
    let count = c.args.count in
    let p = view.plan_at known c.args.plan in
    let some : length c.starts-pieces.result.now ≢ 0 = search rules in
    let was : c.value_of_fill.result ≡ None = search rules in
    let none : value_of_fill size p ≡ None =
    sym (c.value_of_fill.ensures (take c.args.plan known) ∙ ap (value_of_fill size) c.starts-pieces.ensures) ∙ was in
    c.in_ok-put.ensures
    ∙ ap (plan_before 0 p) (c.in_ok-repeat.ensures known (ap (starts_of known) c.new-draft.ensures))
    ∙ elements_before (take c.args.plan known) size count c.starts-pieces.result.now p c.starts-pieces.ensures some none
