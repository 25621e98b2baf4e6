use Rattle.cp_compile_symbols.proofs.Meanings.{local_meant}
use Rattle.cp_compile_symbols.proofs.scope.Scope.meaning.Goals as goal

pub returns-in-Some : goal.returns-in-Some
returns-in-Some c = λ s i.
    local_meant c.args.self.now.tables.now.types s.globals s.system s.routine c.args.name.now c.in-Some.of (rw c.in-Some.is at (c.local_type.ensures s i))
