use Rattle.std.proofs.Common.{refl}
use Rattle.cp_program.specs.declared.operation.Argument.TheVariants as argument
use Rattle.cp_compile_lower.specs.declared.made.MadeArgument.{MadeArgument}
use Rattle.cp_compile_lower.proofs.ArgumentsMade.{copied_made}
use Rattle.cp_compile_lower.proofs.translator.Translator.copy_argument.Goals as goal

pub returns : goal.returns
returns c = λ before after s type t d scope represents other place.
    let one : MadeArgument = record { argument = argument.Copy c.args.at c.in_ok-words.field-0 c.args.made.place_expression; temps = c.args.made.temps } in
    copied_made s.globals before after c.args.at c.in_ok-words.field-0 c.args.made one t d place refl refl type other (c.in_ok-words.ensures s type scope represents)
