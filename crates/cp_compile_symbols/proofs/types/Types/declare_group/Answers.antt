use Rattle.std.proofs.Common.{false}
use Rattle.cp_compile_symbols.specs.Variables.{declared_entries}
use Rattle.cp_compile_symbols.specs.Representing.{type_from}
use Rattle.cp_compile_symbols.proofs.Declaring.{each_declared}
use Rattle.cp_compile_symbols.proofs.Representing.{still_represents}
use Rattle.cp_compile_symbols.proofs.types.Types.declare_group.Goals as goal

pub returns : goal.returns
returns c =
    let new = c.resolve.new.self in
    let n = c.in_ok-of.of in
    let xs = c.args.group.now.names.items in
    let made = c.in_ok-of.ensures in
    record {
      grows = made.grows;
      added = declared_entries xs (false) n;
      all = rw (c.deref.ensures.value) at c.in_ok-declare_each.ensures;
      represents = λ g later rest vs scope grows r.
          each_declared later xs (false) n (type_from c.args.group.now.of g) rest vs (still_represents new later grows n (type_from c.args.group.now.of g) (made.represents g scope)) r;
    }
