use Rattle.cp_law_cores.proofs.InStates.{core_reports_kind, rounds_keep_cores, steps_keep_cores}
use Rattle.cp_law_cores.proofs.Reached.{reached_states_have_cores}
use Rattle.cp_law_cores.proofs.law.states.Goals as goal

pub returns : goal.returns
returns c = record {
  reached = reached_states_have_cores;
  kind = core_reports_kind;
  steps = steps_keep_cores;
  ends = rounds_keep_cores;
}
