use Rattle.std.proofs.lemmas.Result.{on_ok_weaker}
use Rattle.cp_compile_symbols.proofs.Representing.{kept_scope}
use Rattle.cp_compile_symbols.specs.Outer.{component_of}
use Rattle.cp_compile_symbols.proofs.outer.Outer.define_system.Goals as goal

pub returns : goal.returns
returns c =
    let old = c.args.self.now in
    let made = c.in_ok-of.ensures in
    on_ok_weaker c.add_type.result
    (λ names g scope. names g (component_of c.args.system.now g) (kept_scope old.types c.component.new.self made.keeps old.names g scope) (made.represents g scope))
    (rw c.as_bytes.ensures at c.add_type.ensures)
