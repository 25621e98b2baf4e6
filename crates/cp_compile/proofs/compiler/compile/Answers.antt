use Rattle.std.proofs.Common.{◌≡◌, ◌∙◌, ap, map}
use Rattle.cp_model.specs.Declarations.{globals}
use Rattle.cp_model_program.specs.Compile as code
use Rattle.cp_program.specs.View as view
use Rattle.cp_program.specs.View.{plans_in}
use Rattle.cp_compile_emit.specs.Planning.{known_of}
use Rattle.cp_compile.specs.CompiledPrograms.{text_of}
use Rattle.cp_compile.proofs.ProgramsCompiled.{planner_is, same_program}
use Rattle.cp_compile.proofs.compiler.compile.Goals as goal

pub returns-clause-program : goal.returns-clause-program
returns-clause-program c = λ accepted represents.
    let tree = c.args.tree.now in
    let t = text_of tree in
    let g = globals t in
    let before = planner_is c.args.tables.now c.in_ok-planner.planner g tree (ap (λ b. b.now) c.in_ok-planner.ensures.tables) c.in_ok-planner.ensures.knows represents in
    let planner = c.in_ok-plans.ensures.planner g before in
    let made = c.in_ok-code.ensures.code accepted represents planner in
    let plans = c.in_ok-plans.ensures.plans g tree represents before in
    let known = known_of c.make_plans.new.planner in
    let components = c.in_ok-components.ensures known represents made plans in
    let same : plans_in c.into_plans.result.items ≡ known = ap (λ v. plans_in v.items) c.into_plans.ensures in
    same_program (view.program c.new-2.result) (code.compile t) (c.new-2.ensures.operations ∙ c.into_parts-operations.ensures.operations ∙ made.compiled.operations)
    (c.new-2.ensures.units ∙ ap (λ ps. map (view.code_unit ps) c.into_parts-operations.result.2.items) same ∙ c.into_parts-operations.ensures.units known ∙ made.compiled.units)
    (c.new-2.ensures.monitors ∙ ap (λ ps. map (view.monitor ps) c.in_ok-components.components.monitors.items) same ∙ components.monitors)
    (c.new-2.ensures.processes ∙ ap (λ ps. map (view.process ps) c.in_ok-components.components.processes.items) same ∙ components.processes) (c.new-2.ensures.shared ∙ components.shared)
