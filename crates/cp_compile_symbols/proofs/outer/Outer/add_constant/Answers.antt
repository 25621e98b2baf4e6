use Rattle.std.proofs.Common.{refl}
use Rattle.std.proofs.lemmas.Result.{on_ok_weaker}
use Rattle.cp_compile_symbols.specs.declared.names.Names.{Names}
use Rattle.cp_compile_symbols.proofs.Defining.{constant_named}
use Rattle.cp_compile_symbols.proofs.outer.Outer.add_constant.Goals as goal

pub returns : goal.returns
returns c =
    let old = c.args.self.now in
    let later : Names = record { constants = c.set.new.self; types = old.names.types } in
    on_ok_weaker c.set.result (λ front g scope. constant_named old.names later old.types g c.args.name.now c.args.value scope refl front) c.set.ensures
