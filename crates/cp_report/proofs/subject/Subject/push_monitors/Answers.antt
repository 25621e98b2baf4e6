use Rattle.std.proofs.Common.{rules, ◌≡◌, ◌+◌, ◌++◌, ◌<◌, [], suc, drop, length, map, refl, subst, ◌∙◌, arith}
use Rattle.std.specs.Prelude.{slice_index_or}
use Rattle.cp_model.specs.Abstract.{Monitor}
use Rattle.cp_model.specs.Report.{components_of}
use Rattle.cp_model_machine.specs.Reports.{monitor_lines, monitors_lines}
use Rattle.cp_compile_symbols.specs.Representing.{entry}
use Rattle.cp_compile_symbols.specs.declared.types.Field.{Field}
use Rattle.cp_report.specs.Subjects.{machine_in}
use Rattle.cp_report.proofs.LinesReported.{LinesToReport, one_component}
use Rattle.cp_inspect.proofs.MembersReported.{drop_first}
use Rattle.cp_report.proofs.subject.Subject.push_monitors.Goals as goal

pub loop-index-preserved : goal.loop-index-preserved
loop-index-preserved c =
    λ setup of.
    let s = c.args.self in
    let m = machine_in s in
    let types = s.tables.now.types in
    let xs = s.monitors.now in
    let i = c.loop-index.index in
    let out = c.loop-index.out.items in
    let after = c.push_monitor.new.out.items in
    let all = monitors_lines setup m in
    let text = c.args.out.now.items ++ all 1 (components_of setup Monitor) in
    let below : i < length xs = search rules in
    let none : Field = record { name = record { ref_ptr = (0, 0); now = [] }; of = 0 } in
    let x = slice_index_or xs i none in
    let before = subst (λ es. LinesToReport types all (suc i) es out text) (drop_first entry xs i none below) (c.loop-index.invariant setup of) in
    let next : suc i ≡ i + 1 = omega arith in
    let number : c.in_ok-number.number ≡ suc i = omega (arith, c.in_ok-number.ensures) in
    subst (λ n. LinesToReport types all (suc n) (map entry (drop n xs)) after text) next
    (one_component types (λ n v. monitor_lines setup m n v.0 v.1.type) all (suc i) (entry x) (map entry (drop (suc i) xs)) out after text (λ v vs. refl) before
    (λ v same represents. c.in_ok-push_monitor.ensures setup v.1.type of represents ∙ (λ j. out ++ monitor_lines setup m (number j) (same j) v.1.type)))
