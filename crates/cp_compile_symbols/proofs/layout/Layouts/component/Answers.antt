use Rattle.std.proofs.Common.{refl}
use Rattle.cp_model.proofs.Results.{if_ok}
use Rattle.cp_compile_symbols.proofs.Laying.{class_laid, laid_later}
use Rattle.cp_compile_symbols.proofs.layout.Layouts.component.Goals as goal

pub returns-in-Class : goal.returns-in-Class
returns-in-Class c =
    let y = c.args.system.now in
    let rights = rw c.deref.ensures.value at c.rights.ensures in
    if_ok c.members.result
    (λ l lays g later ms scope grows laid represent.
    class_laid g later y l ms c.in-Class.is
    (lays g later _ ms (laid_later g c.args.types.now later c.args.self.now.rows.items grows laid) represent (c.sum-head.ensures 1 _ refl (rights g scope))))
    c.members.ensures
