use Rattle.std.proofs.Common.{◌∙◌, ◌∷◌, ◌++◌, [], ap, drop, map, sym}
use Rattle.std.proofs.lemmas.List.{map-append}
use Rattle.cp_model_program.specs.Compile.{code_unit}
use Rattle.cp_program.specs.View as view
use Rattle.cp_compile_emit.specs.Emission.{operations_of, units_of}
use Rattle.cp_compile_emit.proofs.Needing.{all_needs}
use Rattle.cp_compile_emit.proofs.emitter.Emitter.end.Goals as goal

pub returns-clause-unit : goal.returns-clause-unit
returns-clause-unit c = λ known.
    let e = c.args.self.now in
    let needed = e.needed ∙ sym (all_needs known e.units.items e.words (drop e.first (operations_of e))) in
    ap (map (view.code_unit known)) c.in_ok-push.ensures.items
    ∙ map-append (view.code_unit known) e.units.items _
    ∙ ap (λ n. units_of known e ++ code_unit c.args.entry (view.plan_of known c.args.starts.items) n ∷ []) needed
