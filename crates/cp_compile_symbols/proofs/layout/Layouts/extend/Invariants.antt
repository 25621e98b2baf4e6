use Rattle.std.proofs.Common.{◌≡◌, length}
use Rattle.cp_model.specs.Types.{GlobalScope}
use Rattle.cp_compile_symbols.specs.Layouts.{AreLaid}
use Rattle.cp_compile_symbols.specs.Representing.{ScopeRepresents}
use Rattle.cp_compile_symbols.proofs.layout.Layouts.extend.Given as goal

-- The first `number` types have layouts.
abbrev pub invariant-loop-number : goal.invariant-loop-number
invariant-loop-number l = record {
  count : length l.self.rows.items ≡ l.number;
  laid : (g : GlobalScope) → ScopeRepresents l.names l.types g → AreLaid g l.types l.fn.self.rows.items → AreLaid g l.types l.self.rows.items;
}
