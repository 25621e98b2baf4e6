use Rattle.cp_compile_symbols.proofs.Meanings.{local_first, local_or_else}
use Rattle.cp_compile_symbols.proofs.scope.Scope.local_type.Goals as goal

pub returns-in-Some : goal.returns-in-Some
returns-in-Some c = λ s i.
    local_first c.args.self.now.tables.now.types s.globals s.routine c.args.name.now c.in-Some.local (rw c.in-Some.is at (c.local.ensures s i))

pub returns-in-None : goal.returns-in-None
returns-in-None c = λ s i.
    local_or_else c.args.self.now.tables.now.types s.globals s.routine c.args.name.now c.result_type.result (rw c.in-None.is at (c.local.ensures s i))
    (c.result_type.ensures s i)
