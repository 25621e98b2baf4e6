use Rattle.cp_program.specs.View as view
use Rattle.cp_law_exploring.specs.Exploring.{count}
use Rattle.cp_search_states.proofs.Fine.{fine_if_done, fine_if_moves}
use Rattle.cp_search_states.proofs.state.SearchState.is_acceptable.Goals as goal

pub returns-then-is_done : goal.returns-then-is_done
returns-then-is_done c = λ e inputs.
    fine_if_done c.args.servers.now (count (view.program c.args.program.now)) c.args.self.now inputs (c.is_sound.ensures c.if-not-is_sound.false) (c.is_done.ensures c.if-is_done.true)

pub returns-else-is_done : goal.returns-else-is_done
returns-else-is_done c = λ e inputs.
    fine_if_moves c.args.servers.now (count (view.program c.args.program.now)) c.args.self.now inputs (c.is_sound.ensures c.if-not-is_sound.false) (c.proceeds.ensures e)
