use Rattle.cp_inspect.proofs.LeafCodes.{places_determined}
use Rattle.cp_inspect.proofs.law.codes_determine_places.Goals as goal

pub returns : goal.returns
returns c = places_determined
