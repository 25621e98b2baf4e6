use Rattle.cp_law_typing.proofs.Magnitudes as proved
use Rattle.cp_law_typing.proofs.LowerBounds as lower
use Rattle.cp_law_typing.proofs.law.bounds_are_as_written.Goals as goal

pub returns : goal.returns
returns c = record { bounds = proved.bounds_small; lower = lower.lower_bounds }
