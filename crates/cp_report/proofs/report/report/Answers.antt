use Rattle.std.proofs.Common.{rules, ◌≡◌, ◌++◌, [], map, ap, subst, sym, ◌∙◌}
use Rattle.cp_rounds.specs.Views.{machine_of}
use Rattle.cp_model.specs.Abstract.{Monitor, Process}
use Rattle.cp_model.specs.Declarations.{globals}
use Rattle.cp_model.specs.Report.{components_of}
use Rattle.cp_model_machine.specs.Reports.{machine_report}
use Rattle.cp_compile_symbols.specs.Representing.{entry}
use Rattle.cp_compile_symbols.specs.Texts.{TablesRepresent}
use Rattle.cp_inspect.specs.Lists.{AreListed}
use Rattle.cp_report.proofs.Initial.{listed}
use Rattle.cp_report.proofs.report.report.Goals as goal

pub returns : goal.returns
returns c =
    λ setup text is represents.
    let tables = c.tables-tables.result.now in
    let represent = subst (λ t. TablesRepresent (globals setup.tree) t text) (sym c.tables-tables.ensures) represents in
    let ms = c.in_ok-component_table.component_table.monitors.items in
    let ps = c.in_ok-component_table.component_table.processes.items in
    let same_ms : ms ≡ c.deref.result.now = search rules in
    let same_ps : ps ≡ c.deref-2.result.now = search rules in
    let monitors = subst (λ fs. AreListed tables.types (map entry fs) (components_of setup Monitor)) same_ms (listed setup text is tables Monitor (map entry ms) represent c.in_ok-component_table.ensures.monitors) in
    let processes = subst (λ fs. AreListed tables.types (map entry fs) (components_of setup Process)) same_ps (listed setup text is tables Process (map entry ps) represent c.in_ok-component_table.ensures.processes) in
    let none : c.new-bytes.result.items ≡ [] = search rules in
    c.in_ok-push_all.ensures setup text is represent (represent.scope, monitors) processes ∙ ap (λ out. out ++ machine_report setup (machine_of c.args.machine.now)) none
