use Rattle.std.proofs.Common.{rules, ◌≡◌, ◌*◌, ◌∙◌, ap, w32}
use Rattle.std.proofs.lemmas.Int.{to_z-of_z}
use Rattle.cp_model_program.specs.Plans.{fill_before}
use Rattle.cp_model_program.specs.Programs as code
use Rattle.cp_program.proofs.Wide.{narrow}
use Rattle.cp_compile_emit.specs.Drafts.{starts_of}
use Rattle.cp_compile_emit.proofs.plan.Planner.plan_fill.Goals as goal

pub returns : goal.returns
returns c = λ known.
    let all : c.in_ok-all.all ≡ c.args.count * c.args.size = search rules in
    c.in_ok-fill.ensures known
    ∙ ap (fill_before 0 c.in_ok-all.all (narrow c.args.value)) (ap (starts_of known) c.new-draft.ensures)
    ∙ ap (λ n. code.Fill 0 n (narrow c.args.value) code.Done) all
    ∙ ap (λ v. code.Fill 0 (c.args.count * c.args.size) v code.Done) (to_z-of_z w32 c.args.value c.ranges.value)
