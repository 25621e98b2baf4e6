use Rattle.std.proofs.Common.{ap, sym}
use Rattle.cp_model.proofs.Views.{view_designator}
use Rattle.cp_model.specs.Abstract as a
use Rattle.cp_model.specs.Erase as erase
use Rattle.cp_compile_symbols.proofs.scope.Scope.place_type.Goals as goal

pub loop-selector-init : goal.loop-selector-init
loop-selector-init c = λ s i. record {
  part_of = a.Plain c.args.designator.now.root.name;
  typed = rw c.as_bytes.ensures at (c.named_place_type-of.ensures s i);
  rest = sym (ap erase.designator (view_designator c.args.designator.now));
}
