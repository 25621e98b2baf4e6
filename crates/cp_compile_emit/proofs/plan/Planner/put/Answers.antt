use Rattle.std.proofs.Common.{rules, ◌≡◌, ◌∙◌, true, false, ap, length, sym, take}
use Rattle.std.proofs.lemmas.Result.{on_ok_weaker}
use Rattle.cp_model_program.specs.Plans.{is_short, pieces_before}
use Rattle.cp_program.specs.View.{plan_at}
use Rattle.cp_compile_emit.specs.Drafts.{plan_of}
use Rattle.cp_compile_emit.specs.Planning.{known_of}
use Rattle.cp_compile_emit.proofs.PartsPlanned.{no_plan_past, put_part, put_pieces}
use Rattle.cp_compile_emit.proofs.plan.Planner.put.Goals as goal

pub returns-in_ok-none : goal.returns-in_ok-none
returns-in_ok-none c =
    let known = known_of c.args.self.now in
    let p = plan_at known c.args.part.plan in
    let rest = plan_of known c.args.draft.now in
    let few : c.is_short.result ≡ true = search rules in
    let short : is_short p ≡ true = sym (c.is_short.ensures (take c.args.part.plan known) ∙ ap is_short c.starts-pieces.ensures) ∙ few in
    let none : c.in_ok-none.none ≡ length c.args.self.now.plans.items = search rules in
    on_ok_weaker c.pieces.result
    (λ made. made known (no_plan_past c.args.self.now.plans.items c.in_ok-none.none none) ∙ ap (λ q. pieces_before c.args.part.at q rest) c.starts-pieces.ensures ∙ sym (put_pieces c.args.part.at p rest short))
    c.pieces.ensures

pub returns-else-is_short : goal.returns-else-is_short
returns-else-is_short c =
    let known = known_of c.args.self.now in
    let p = plan_at known c.args.part.plan in
    let rest = plan_of known c.args.draft.now in
    let many : c.is_short.result ≡ false = search rules in
    let long : is_short p ≡ false = sym (c.is_short.ensures (take c.args.part.plan known) ∙ ap is_short c.starts-pieces.ensures) ∙ many in
    on_ok_weaker c.part.result (λ made. made known ∙ sym (put_part c.args.part.at p rest long)) c.part.ensures
