use Rattle.std.proofs.lemmas.Result.{on_ok_weaker}
use Rattle.cp_compile_symbols.proofs.Representing.{still_scope}
use Rattle.cp_compile_symbols.specs.Representing.{type_from}
use Rattle.cp_compile_symbols.proofs.outer.Outer.define_type.Goals as goal

pub returns : goal.returns
returns c =
    let old = c.args.self.now in
    let made = c.in_ok-of.ensures in
    on_ok_weaker c.add_type.result
    (λ names g scope. names g (type_from c.args.written.now g) (still_scope old.types c.resolve.new.self made.grows old.names g scope) (made.represents g scope))
    (rw c.as_bytes.ensures at c.add_type.ensures)
