use Rattle.std.proofs.Common.{refl}
use Rattle.std.proofs.lemmas.Result.{on_ok_weaker}
use Rattle.cp_compile_symbols.specs.declared.names.Names.{Names}
use Rattle.cp_compile_symbols.proofs.Defining.{type_named}
use Rattle.cp_compile_symbols.proofs.outer.Outer.add_type.Goals as goal

pub returns : goal.returns
returns c =
    let old = c.args.self.now in
    let later : Names = record { constants = old.names.constants; types = c.set.new.self } in
    on_ok_weaker c.set.result
    (λ front g t scope represents. type_named old.names later old.types g c.args.name.now c.args.of t scope refl front represents)
    c.set.ensures
