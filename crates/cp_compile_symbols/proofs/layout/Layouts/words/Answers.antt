use Rattle.std.proofs.Common.{sym}
use Rattle.cp_compile_symbols.proofs.Representing.{grows_not}
use Rattle.cp_compile_symbols.proofs.layout.Layouts.words.Goals as goal

pub returns-in-Some : goal.returns-in-Some
returns-in-Some c = λ g types t laid represents. (laid types (grows_not types) c.args.number c.in-Some.layout.now t (sym c.in-Some.ensures) represents).words
