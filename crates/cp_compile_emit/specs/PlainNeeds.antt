-- The needs of units, as the plain data of the definitions.
use Rattle.cp_model_program.specs.CodeNeeds as needs
use Rattle.cp_compile_emit.specs.declared.need.Need.{Need}

abbrev pub plain_need : Need → needs.Need
plain_need n = record { words = n.words; temps = n.temps; frames = n.frames }
