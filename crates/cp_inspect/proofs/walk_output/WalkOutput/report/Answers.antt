use Rattle.std.proofs.Common.{◌≡◌, ◌++◌, ℕ, ℤ, List, ap, refl, sym, ◌∙◌}
use Rattle.std.proofs.lemmas.Result.{on_ok_weaker}
use Rattle.cp_model.specs.Locations.{Path}
use Rattle.cp_model.specs.Report.{path_text}
use Rattle.cp_model_program.specs.Starts.{word}
use Rattle.cp_model_machine.specs.Reports.{lines_visit}
use Rattle.cp_inspect.specs.Values.{value_in}
use Rattle.cp_inspect.specs.declared.place.Kind.{Kind}
use Rattle.cp_inspect.specs.declared.place.Kind.TheVariants as kind
use Rattle.cp_inspect.specs.WalkOutputs.{line_of, report_leaf, visit_of}
use Rattle.cp_inspect.proofs.walk_output.WalkOutput.report.Goals as goal

-- The line of a variable is that of its word.
line_reported : (ws : List ℤ) (k : Kind) (p : Path) (at : ℕ) → line_of (path_text p) (value_in k (word ws at)) ≡ report_leaf (lines_visit ws) k p at
line_reported ws kind.Simple p at = refl
line_reported ws kind.Queue p at = refl

pub returns-in-Lines : goal.returns-in-Lines
returns-in-Lines c =
    on_ok_weaker c.push_line.result
    (λ reported p named.
    let out = c.args.out.now.items in
    let k = c.args.kind in
    let at = c.args.at in
    let ws = c.in-Lines.words.now in
    reported
    ∙ (ap (λ v. out ++ line_of c.args.path.now v) c.value_at.ensures
    ∙ (ap (λ t. out ++ line_of t (value_in k (word ws at))) (sym named)
    ∙ (ap (λ t. out ++ t) (line_reported ws k p at) ∙ sym (ap (λ v. out ++ report_leaf (visit_of v) k p at) c.in-Lines.is)))))
    c.push_line.ensures
