use Rattle.std.proofs.Common.{ap, ◌∙◌}
use Rattle.cp_law_cores.specs.Verdicts.{is_sound, part_passes}
use Rattle.cp_search_states.proofs.state.SearchState.is_sound_at.Goals as goal

pub returns-in-Some : goal.returns-in-Some
returns-in-Some c = λ inputs.
    c.has_no_fault.ensures ∙ (ap is_sound (c.activity.ensures (inputs c.args.p)) ∙ ap (part_passes is_sound) (c.in-Some.ensures inputs))
