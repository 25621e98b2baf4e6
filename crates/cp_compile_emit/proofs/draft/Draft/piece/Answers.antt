use Rattle.std.proofs.Common.{rules, ◌≡◌, ◌+◌, ◌<◌, ◌≤◌, ◌∙◌, ap, sym, take, arith}
use Rattle.std.proofs.lemmas.Result.{on_ok_weaker}
use Rattle.cp_model_program.specs.Plans.{fill_before, pieces_before}
use Rattle.cp_model_program.specs.Programs as code
use Rattle.cp_program.specs.declared.program.StartPiece.{StartPiece}
use Rattle.cp_program.specs.declared.program.StartPiece.TheVariants as start
use Rattle.cp_program.specs.View as view
use Rattle.cp_program.proofs.PlansKnown.{no_plan_below, plan_below}
use Rattle.cp_program.proofs.Wide.{narrow}
use Rattle.cp_compile_emit.specs.Drafts.{plan_of}
use Rattle.cp_compile_emit.proofs.draft.Draft.piece.Goals as goal

pub returns-in_ok-small_sum-in-Fill : goal.returns-in_ok-small_sum-in-Fill
returns-in_ok-small_sum-in-Fill c =
    let at = c.args.at in
    let behind = c.in-Fill.behind in
    let n = c.in-Fill.count in
    let v = c.in-Fill.value in
    let is : c.args.piece ≡ start.Fill behind n v = search rules in
    let same : narrow v ≡ v = search rules in
    on_ok_weaker c.fill.result
    (λ made known gone.
    let rest = plan_of known c.args.self.now in
    made known ∙ ap (λ z. fill_before z n (narrow v) rest) c.in_ok-small_sum-in-Fill.ensures ∙ ap (λ z. fill_before (at + behind) n z rest) same
    ∙ ap (λ (x : StartPiece). pieces_before at (view.piece_before (take c.args.below known) x code.Done) rest) (sym is))
    c.fill.ensures

pub returns-in_ok-small_sum-in-Repeat : goal.returns-in_ok-small_sum-in-Repeat
returns-in_ok-small_sum-in-Repeat c =
    let at = c.args.at in
    let behind = c.in-Repeat.behind in
    let is : c.args.piece ≡ start.Repeat behind c.in-Repeat.size c.in-Repeat.count = search rules in
    on_ok_weaker c.repeat.result
    (λ made known gone.
    let rest = plan_of known c.args.self.now in
    made known ∙ ap (λ z. code.Repeat z c.in-Repeat.size c.in-Repeat.count rest) c.in_ok-small_sum-in-Repeat.ensures
    ∙ ap (λ (x : StartPiece). pieces_before at (view.piece_before (take c.args.below known) x code.Done) rest) (sym is))
    c.repeat.ensures

pub returns-then-plan-below : goal.returns-then-plan-below
returns-then-plan-below c =
    let at = c.args.at in
    let behind = c.in-Part.behind in
    let plan = c.in-Part.plan in
    let is : c.args.piece ≡ start.Part behind plan = search rules in
    let below : plan < c.args.below = omega arith in
    on_ok_weaker c.part.result
    (λ made known gone.
    let rest = plan_of known c.args.self.now in
    made known ∙ ap (λ z. code.Part z (view.plan_at known plan) rest) c.in_ok-at-in-Part.ensures
    ∙ ap (λ p. code.Part (at + behind) p rest) (sym (plan_below known c.args.below plan below))
    ∙ ap (λ (x : StartPiece). pieces_before at (view.piece_before (take c.args.below known) x code.Done) rest) (sym is))
    c.part.ensures

pub returns-else-plan-below : goal.returns-else-plan-below
returns-else-plan-below c =
    let at = c.args.at in
    let behind = c.in-Part.behind in
    let plan = c.in-Part.plan in
    let is : c.args.piece ≡ start.Part behind plan = search rules in
    let past : c.args.below ≤ plan = omega arith in
    on_ok_weaker c.part-else-plan-below.result
    (λ made known gone.
    let rest = plan_of known c.args.self.now in
    made known ∙ ap (λ z. code.Part z (view.plan_at known c.args.none) rest) c.in_ok-at-in-Part.ensures
    ∙ ap (λ p. code.Part (at + behind) p rest) (gone ∙ sym (no_plan_below known c.args.below plan past))
    ∙ ap (λ (x : StartPiece). pieces_before at (view.piece_before (take c.args.below known) x code.Done) rest) (sym is))
    c.part-else-plan-below.ensures
