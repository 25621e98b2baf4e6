use Rattle.std.proofs.Common.{rules, ◌≡◌, ◌∙◌, ◌∷◌, ◌++◌, [], ap, sym, subst, None, Some, w32}
use Rattle.std.proofs.lemmas.Int.{to_z-of_z}
use Rattle.cp_model_program.specs.Plans.{fill_before}
use Rattle.cp_program.specs.declared.program.StartPiece.TheVariants as start
use Rattle.cp_compile_emit.specs.Drafts.{Joins, plan_of}
use Rattle.cp_compile_emit.proofs.Drafting.{one_filled, one_joined}
use Rattle.cp_program.proofs.Wide.{narrow}
use Rattle.cp_compile_emit.proofs.draft.Draft.fill.Goals as goal

pub returns-in_ok-push-in-Some-2 : goal.returns-in_ok-push-in-Some-2
returns-in_ok-push-in-Some-2 c = λ known.
    let before = c.args.self.now.starts.items in
    let last = c.pop.new.self.items in
    let was : before ≡ last ++ c.in-Some.next ∷ [] = search rules in
    let joins : Joins c.args.at c.args.count (narrow c.args.value) c.in-Some.next (Some c.in-Some-2.both) =
    subst (Joins c.args.at c.args.count (narrow c.args.value) c.in-Some.next) c.in-Some-2.is c.in_ok-both.ensures in
    one_joined known before c.push-in-Some-2.new.self.items last c.in-Some.next c.in-Some-2.both c.args.at c.args.count (narrow c.args.value) was joins
    c.in_ok-push-in-Some-2.ensures.items
    ∙ ap (λ v. fill_before c.args.at c.args.count v (plan_of known c.args.self.now)) (to_z-of_z w32 c.args.value c.ranges.value)

pub returns-in_ok-push-in-None-2 : goal.returns-in_ok-push-in-None-2
returns-in_ok-push-in-None-2 c = λ known.
    let before = c.args.self.now.starts.items in
    let last = c.pop.new.self.items in
    let was : before ≡ last ++ c.in-Some.next ∷ [] = search rules in
    let joins : Joins c.args.at c.args.count (narrow c.args.value) c.in-Some.next None =
    subst (Joins c.args.at c.args.count (narrow c.args.value) c.in-Some.next) c.in-None.is c.in_ok-both.ensures in
    let first = start.Fill c.args.at c.args.count (narrow c.args.value) in
    one_filled known before c.push-in-None-2.new.self.items last c.in-Some.next c.args.at c.args.count (narrow c.args.value) was joins
    (c.in_ok-push-in-None-2.ensures.items ∙ ap (λ xs. xs ++ first ∷ []) (c.in_ok-push-in-None.ensures.items ∙ sym was))
    ∙ ap (λ v. fill_before c.args.at c.args.count v (plan_of known c.args.self.now)) (to_z-of_z w32 c.args.value c.ranges.value)
