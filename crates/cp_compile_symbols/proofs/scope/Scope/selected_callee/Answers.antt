use Rattle.std.proofs.Common.{None, subst, sym}
use Rattle.cp_model_program.specs.Scopes.{environment}
use Rattle.cp_compile_symbols.specs.Scopes.{CalleeIs}
use Rattle.cp_compile_symbols.proofs.Called.{indexed_calls_nothing}
use Rattle.cp_compile_symbols.proofs.scope.Scope.selected_callee.Goals as goal

pub returns-in-Indexed : goal.returns-in-Indexed
returns-in-Indexed c = λ s i selects.
    rw c.in-Indexed.is
    (subst (CalleeIs c.args.self.now s None)
    (sym (indexed_calls_nothing (environment s) c.args.name.now c.in-Indexed.field-0 (rw c.in-Indexed.is at selects))) tt)
