use Rattle.std.proofs.Common.{rules, ◌≡◌, ◌+◌, ◌++◌, ◌<◌, [], suc, drop, length, map, refl, subst, ◌∙◌, arith}
use Rattle.std.specs.Prelude.{slice_index_or}
use Rattle.cp_model.specs.Declarations.{globals}
use Rattle.cp_model.specs.Report.{component_members}
use Rattle.cp_model_machine.specs.Reports.{head_of, process_lines, processes_lines}
use Rattle.cp_compile_symbols.specs.Representing.{entry}
use Rattle.cp_compile_symbols.specs.declared.types.Field.{Field}
use Rattle.cp_report.specs.Subjects.{machine_in}
use Rattle.cp_report.proofs.LinesReported.{LinesToReport, one_component}
use Rattle.cp_inspect.proofs.MembersReported.{drop_first}
use Rattle.cp_report.proofs.subject.Subject.push_processes.Goals as goal

pub loop-index-preserved : goal.loop-index-preserved
loop-index-preserved c =
    λ setup vs of listed.
    let s = c.args.self in
    let m = machine_in s in
    let g = globals setup.tree in
    let types = s.tables.now.types in
    let xs = c.args.processes.now in
    let i = c.loop-index.index in
    let out = c.loop-index.out.items in
    let after = c.push_process.new.out.items in
    let all = processes_lines setup m in
    let text = c.args.out.now.items ++ all 2 vs in
    let below : i < length xs = search rules in
    let none : Field = record { name = record { ref_ptr = (0, 0); now = [] }; of = 0 } in
    let x = slice_index_or xs i none in
    let before = subst (λ es. LinesToReport types all (suc (suc i)) es out text) (drop_first entry xs i none below) (c.loop-index.invariant setup vs of listed) in
    let next : suc i ≡ i + 1 = omega arith in
    let number : c.in_ok-number.number ≡ suc (suc i) = omega (arith, c.in_ok-number.ensures) in
    subst (λ n. LinesToReport types all (suc (suc n)) (map entry (drop n xs)) after text) next
    (one_component types (λ n v. process_lines setup m n v.0 (head_of g v.1.type) (component_members v.1.type)) all (suc (suc i)) (entry x) (map entry (drop (suc i) xs)) out after text
    (λ v vs. refl) before
    (λ v same represents. c.in_ok-push_process.ensures setup v.1.type of represents
    ∙ (λ j. out ++ process_lines setup m (number j) (same j) (head_of g v.1.type) (component_members v.1.type))))
