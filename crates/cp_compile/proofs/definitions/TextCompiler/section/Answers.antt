use Rattle.std.proofs.Common.{◌∙◌, ap, subst, sym}
use Rattle.cp_model.specs.Erase as erase
use Rattle.cp_model.specs.View as tree
use Rattle.cp_model_program.specs.Compile.{with_definitions}
use Rattle.cp_compile_emit.specs.Planning.{known_of}
use Rattle.cp_compile.specs.CompiledTexts.{TypesAre}
use Rattle.cp_compile.proofs.TextsCompiled.{constants_compiled}
use Rattle.cp_compile.proofs.definitions.TextCompiler.section.Goals as goal

pub returns-in-Constants : goal.returns-in-Constants
returns-in-Constants c = λ g m text named are.
    subst (TypesAre (known_of c.args.self.now.planner.now) c.args.emitter.now c.args.firsts.now)
    (constants_compiled g c.in-Constants.field-0.items m
    ∙ ap (λ x. with_definitions g (erase.section (tree.section_of x)) m) (sym c.in-Constants.is)) are
