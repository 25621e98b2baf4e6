use Rattle.std.proofs.Common.{◌∙◌, ap, map}
use Rattle.std.proofs.lemmas.List.{map-append}
use Rattle.cp_program.specs.View as view
use Rattle.cp_compile_emit.proofs.emitter.Emitter.add_stub.Goals as goal

pub returns-clause-unit : goal.returns-clause-unit
returns-clause-unit c = λ known.
    ap (map (view.code_unit known)) c.in_ok-push.ensures.items ∙ map-append (view.code_unit known) c.args.self.now.units.items _
