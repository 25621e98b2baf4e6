use Rattle.std.proofs.Common.{sym, ◌∙◌}
use Rattle.cp_program.specs.View as view
use Rattle.cp_law_exploring.proofs.Starting.{first_silent}
use Rattle.cp_search_states.proofs.Starts.{first_parts_are}
use Rattle.cp_search_states.proofs.state.SearchState.first.Goals as goal

pub returns : goal.returns
returns c = λ tick inputs.
    let program = view.program c.args.program.now in
    let first = c.in_ok-privates.ensures in
    let parts = first_parts_are program inputs c.in_ok-privates.privates.items first.count first.first ∙ sym (first_silent program inputs 1 program.processes) in
    let kernel = c.in_ok-kernel.ensures.start tick inputs in
    λ j. record { kernel = kernel j; parts = parts j }
