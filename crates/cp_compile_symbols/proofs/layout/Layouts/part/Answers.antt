use Rattle.std.proofs.Common.{sym}
use Rattle.cp_compile_symbols.proofs.Representing.{grows_not}
use Rattle.cp_compile_symbols.proofs.layout.Layouts.part.Goals as goal

pub returns : goal.returns
returns c = λ g types t laid represents.
    rw c.find.ensures ((laid.laid types (grows_not types) c.args.number c.in_ok-layout.field-0.now t (sym c.in_ok-layout.ensures) represents).parts c.args.name.now)
