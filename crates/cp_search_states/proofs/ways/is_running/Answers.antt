use Rattle.std.proofs.Common.{ap, sym, ◌∙◌}
use Rattle.cp_model_machine.specs.PrivateStates.{is_running}
use Rattle.cp_private.specs.States.{activity}
use Rattle.cp_search_states.proofs.Places.{not_running}
use Rattle.cp_search_states.proofs.ways.is_running.Goals as goal

pub returns-in-Running : goal.returns-in-Running
returns-in-Running c = λ input. sym (ap is_running (sym (c.activity.ensures input)) ∙ ap (λ a. is_running (activity a)) c.in-Running.is)

pub returns-in_default : goal.returns-in_default
returns-in_default c = λ input. sym (ap is_running (sym (c.activity.ensures input)) ∙ not_running c.activity.result c.in_default.not-Running)
