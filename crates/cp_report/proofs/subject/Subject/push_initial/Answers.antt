use Rattle.std.proofs.Common.{◌≡◌, ◌++◌, [], Some, ap, sym, ◌∙◌}
use Rattle.std.specs.Prelude.{codes, option_map, slice_get}
use Rattle.std.proofs.lemmas.Result.{on_ok_weaker}
use Rattle.cp_model.specs.Declarations.{globals, members_from, reported_members}
use Rattle.cp_model.specs.Types.{NoMembers}
use Rattle.cp_model_program.specs.Layout.{head_words}
use Rattle.cp_rounds_handoff.specs.Inputs.{input_of}
use Rattle.cp_private.specs.States.{private_of}
use Rattle.cp_compile_symbols.specs.Variables.{variables_of}
use Rattle.cp_model_machine.specs.Reports.{lines_visit, visit_members}
use Rattle.cp_inspect.specs.Sinks.{IntoText}
use Rattle.cp_report.specs.Subjects.{machine_in}
use Rattle.cp_report.proofs.Initial.{declared_members, initial_head, initial_members}
use Rattle.cp_report.proofs.ProcessesReported.{process_reported}
use Rattle.cp_report.proofs.subject.Subject.push_initial.Goals as goal

pub returns : goal.returns
returns c =
    on_ok_weaker c.initial.result
    (λ reported setup text is represent of.
    let s = c.args.self in
    let m = machine_in s in
    let g = globals setup.tree in
    let input = input_of s.machine.now.config.inputs.items 1 in
    let o = private_of c.in-Some.private.now input in
    let vs = variables_of g text.variables.items in
    let mid = c.push_front.new.out.items in
    let there : slice_get m.parts 0 ≡ Some o = sym c.private.ensures ∙ ap (option_map (λ x. private_of x.now input)) c.in-Some.is in
    let represent = declared_members s.tables.now.types s.tables.now.initial.variables.items vs represent.initial.variables in
    let members = reported IntoText g (members_from vs NoMembers) of.0 represent in
    process_reported setup m 1 (codes "initial") (head_words g setup.tree.initial) (reported_members g setup.tree.initial) o c.args.out.now.items mid c.initial.new.out.items there
    (c.in_ok-push_front.ensures setup of)
    (members ∙ (λ i. mid ++ visit_members g (lines_visit (c.all_words.ensures input i)) [] (sym (initial_head setup text is g) i) (sym (initial_members setup text is g) i))))
    c.initial.ensures
