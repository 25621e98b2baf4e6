use Rattle.std.proofs.Common.{refl}
use Rattle.std.proofs.lemmas.Result.{on_ok_weaker}
use Rattle.cp_compile_symbols.proofs.Representing.{still_scope}
use Rattle.cp_compile_symbols.proofs.outer.Outer.add_base.Goals as goal

pub returns : goal.returns
returns c =
    let old = c.args.self.now in
    on_ok_weaker c.add_type.result
    (λ names g scope. names g _ (still_scope old.types c.add.new.self c.in_ok-of.ensures.grows old.names g scope) (_, c.in_ok-of.ensures.added, refl))
    c.add_type.ensures
