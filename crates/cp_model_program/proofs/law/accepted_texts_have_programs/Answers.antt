use Rattle.std.proofs.Common.{sym, subst}
use Rattle.cp_model.specs.Declarations.{globals}
use Rattle.cp_law_typing.specs.Magnitudes.{AreNegativesWithin}
use Rattle.cp_law_typing.proofs.Texts.{accepted_texts_are_well_typed}
use Rattle.cp_model_program.proofs.FactsRepresent.{text_facts}
use Rattle.cp_model_program.proofs.KnownRepresent.{known}
use Rattle.cp_model_program.proofs.ParametersCounted.{all_short}
use Rattle.cp_model_program.proofs.TextsRepresent.{represents}
use Rattle.cp_model_program.proofs.law.accepted_texts_have_programs.Goals as goal

pub returns : goal.returns
returns c = λ t accepted small setup is short.
    let typed = accepted_texts_are_well_typed t setup accepted is in
    represents setup (known setup typed (text_facts setup typed (subst (λ z. AreNegativesWithin 65535 z.definitions) (sym is) small)))
    (all_short (globals setup.tree) setup.tree.definitions short)
