use Rattle.cp_law_calls.proofs.Exclusion.{holder_is_inside, inside_is_held, no_two_inside}
use Rattle.cp_law_calls.proofs.law.mutual_exclusion.Goals as goal

pub returns : goal.returns
returns c = record { holds = inside_is_held; inside = holder_is_inside; apart = no_two_inside }
