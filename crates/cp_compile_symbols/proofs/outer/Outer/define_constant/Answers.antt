use Rattle.std.proofs.Common.{subst}
use Rattle.std.proofs.lemmas.Result.{on_ok_weaker}
use Rattle.cp_model.specs.Declarations.{with_constant}
use Rattle.cp_compile_symbols.specs.Outer.{OuterRepresents}
use Rattle.cp_compile_symbols.proofs.outer.Outer.define_constant.Goals as goal

pub returns-in-Some : goal.returns-in-Some
returns-in-Some c =
    let d = c.args.definition.now in
    on_ok_weaker c.add_constant.result
    (λ defines g scope.
    subst (λ v. OuterRepresents c.add_constant.new.self (with_constant d.name.name v g)) (c.in-Some.ensures g scope.constants) (defines g scope))
    (rw c.as_bytes.ensures at c.add_constant.ensures)
