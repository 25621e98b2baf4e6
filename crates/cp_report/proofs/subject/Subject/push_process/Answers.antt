use Rattle.std.proofs.Common.{◌≡◌, ◌+◌, ◌-◌, ◌++◌, ℕ, [], Some, ap, sym, ◌∙◌, arith}
use Rattle.std.specs.Prelude.{option_map, slice_get}
use Rattle.std.proofs.lemmas.Result.{on_ok_weaker}
use Rattle.cp_model.specs.Declarations.{globals}
use Rattle.cp_model.specs.Report.{component_members}
use Rattle.cp_rounds_handoff.specs.Inputs.{input_of}
use Rattle.cp_private.specs.States.{private_of}
use Rattle.cp_model_machine.specs.Reports.{head_of, lines_visit, visit_members}
use Rattle.cp_report.specs.Subjects.{machine_in}
use Rattle.cp_inspect.specs.Sinks.{IntoText}
use Rattle.cp_report.proofs.ProcessesReported.{process_reported}
use Rattle.cp_report.proofs.subject.Subject.push_process.Goals as goal

from_start : (n : ℕ) → 0 + n ≡ n
from_start n = omega arith

pub returns : goal.returns
returns c =
    on_ok_weaker c.component.result
    (λ reported setup t of represents.
    let s = c.args.self in
    let m = machine_in s in
    let g = globals setup.tree in
    let p = c.args.number in
    let input = input_of s.machine.now.config.inputs.items p in
    let o = private_of c.in-Some.private.now input in
    let there : slice_get m.parts (p - 1) ≡ Some o = sym c.private.ensures ∙ ap (option_map (λ x. private_of x.now input)) c.in-Some.is in
    process_reported setup m p c.args.name.now (head_of g t) (component_members t) o c.args.out.now.items c.push_front.new.out.items c.component.new.out.items there
    (c.in_ok-push_front.ensures setup of)
    (reported IntoText g t of.0 represents
    ∙ (ap (λ ws. c.push_front.new.out.items ++ visit_members g (lines_visit ws) [] (0 + head_of g t) (component_members t)) (c.all_words.ensures input)
    ∙ ap (λ n. c.push_front.new.out.items ++ visit_members g (lines_visit o.words) [] n (component_members t)) (from_start (head_of g t)))))
    c.component.ensures
