use Rattle.cp_compile_symbols.proofs.Representing.{array_made}
use Rattle.cp_compile_symbols.proofs.types.Types.array.Goals as goal
use Rattle.cp_model.proofs.Results.{if_ok}

pub returns : goal.returns
returns c =
    if_ok c.add.result
    (λ n adds. array_made c.args.self.now c.add.new.self c.array_row-row.result c.args.index c.args.element n c.array_row-row.ensures adds)
    c.add.ensures
