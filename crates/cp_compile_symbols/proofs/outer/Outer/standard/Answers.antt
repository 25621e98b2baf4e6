use Rattle.std.proofs.Common.{[], refl}
use Rattle.cp_model.specs.Types.{GlobalScope}
use Rattle.cp_compile_symbols.specs.declared.outer.Outer.{Outer}
use Rattle.cp_compile_symbols.specs.Outer.{OuterRepresents}
use Rattle.cp_compile_symbols.proofs.outer.Outer.standard.Goals as goal

pub returns : goal.returns
returns c =
    let none : GlobalScope = record { constants = []; types = [] } in
    let empty : Outer = record { names = c.new.result; types = c.new-2.result } in
    let start : OuterRepresents empty none = record { constants = λ x. rw c.new.ensures.constants refl; types = λ x. rw c.new.ensures.types tt } in
    c.in_ok-add_standard.ensures none start
