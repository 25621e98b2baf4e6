use Rattle.std.proofs.Common.{◌≡◌, arith, map}
use Rattle.cp_model.specs.Components.{process_number}
use Rattle.cp_model_program.specs.Programs as op
use Rattle.cp_model_program.specs.Scopes.{environment}
use Rattle.cp_program.specs.View as view
use Rattle.cp_compile_lower.proofs.translator.Translator.init_process.Goals as goal

pub returns : goal.returns
returns c = λ s n scope named.
    let before = c.processes_before-before.ensures s n scope named in
    let number : c.in_ok-small_sum.field-0 ≡ process_number (environment s) n =
    omega (arith, c.in_ok-small_sum.ensures, c.in_ok-small_number.ensures, before) in
    λ i. op.InitProcess (number i) (map view.argument c.args.arguments.items) (c.in_ok-words.ensures s scope i) c.args.next
