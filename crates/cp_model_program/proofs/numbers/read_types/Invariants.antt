use Rattle.std.proofs.Common.{map, drop}
use Rattle.cp_model.specs.Erase as erase
use Rattle.cp_model.specs.View as view
use Rattle.cp_law_typing.specs.Magnitudes.{AreNegativesWithin}
use Rattle.cp_model_program.proofs.numbers.read_types.Given as goal

-- all are within the bound, once the remaining ones are
abbrev pub invariant-loop-d : goal.invariant-loop-d
invariant-loop-d l =
    AreNegativesWithin 65535 (map erase.type_definition (map view.type_definition (drop l.d-index l.types)))
    → AreNegativesWithin 65535 (map erase.type_definition (map view.type_definition l.fn.types))
