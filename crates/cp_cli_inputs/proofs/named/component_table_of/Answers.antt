use Rattle.cp_model.specs.Declarations.{declarations, globals}
use Rattle.cp_model.specs.Erase as erase
use Rattle.cp_model.specs.View as view
use Rattle.cp_model.proofs.Results.{if_ok}
use Rattle.cp_model.specs.Components.{is_component_of}
use Rattle.cp_model.specs.Abstract.{Monitor, Process}
use Rattle.std.specs.Prelude.{filter}
use Rattle.cp_inspect.proofs.Named.{listed_names}
use Rattle.cp_cli_inputs.proofs.named.component_table_of.Goals as goal

pub returns-clause-processes : goal.returns-clause-processes
returns-clause-processes c =
    let t = erase.abstract (view.tree c.args.text.now.tree) in
    let variables = declarations (globals t) t.initial.variables in
    let represent = c.in_ok-tables.ensures in
    if_ok c.of.result
    (λ table lists. listed_names _ table.processes.items (filter (λ v. is_component_of Process v.1.type) variables) (lists variables (rw c.deref.ensures represent.initial.variables)))
    c.of.ensures.processes

pub returns-clause-monitors : goal.returns-clause-monitors
returns-clause-monitors c =
    let t = erase.abstract (view.tree c.args.text.now.tree) in
    let variables = declarations (globals t) t.initial.variables in
    let represent = c.in_ok-tables.ensures in
    if_ok c.of.result
    (λ table lists. listed_names _ table.monitors.items (filter (λ v. is_component_of Monitor v.1.type) variables) (lists variables (rw c.deref.ensures represent.initial.variables)))
    c.of.ensures.monitors
