use Rattle.std.proofs.Common.{is_some}
use Rattle.cp_compile_symbols.specs.Variables.{declared_entries}
use Rattle.cp_compile_symbols.specs.Representing.{name_type}
use Rattle.cp_compile_symbols.proofs.Declaring.{each_declared}
use Rattle.cp_compile_symbols.proofs.Representing.{still_represents}
use Rattle.cp_compile_symbols.proofs.types.Types.declare_parameter.Goals as goal

pub returns : goal.returns
returns c =
    let new = c.named_type.new.self in
    let n = c.in_ok-of.of in
    let xs = c.args.group.now.names.items in
    let made = c.in_ok-of.ensures in
    record {
      grows = made.grows;
      added = declared_entries xs (is_some c.args.group.now.by_reference) n;
      all = rw (c.deref.ensures.value, c.is_some.ensures) at c.in_ok-declare_each.ensures;
      represents = λ g later rest vs scope grows r.
          each_declared later xs (is_some c.args.group.now.by_reference) n (name_type c.args.group.now.of.name g) rest vs (still_represents new later grows n (name_type c.args.group.now.of.name g) (made.represents g scope)) r;
    }
