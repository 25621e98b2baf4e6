-- What the check of a text returns.
use Rattle.std.specs.Prelude.{◌≡◌, Result, Ok, Err, Some}
use Rattle.cp_model.specs.Declarations.{globals}
use Rattle.cp_model.specs.Syntax as s
use Rattle.cp_model.specs.Erase as erase
use Rattle.cp_model.specs.States.{Setup}
use Rattle.cp_model.specs.Rules.{Accepted, first_violation}
use Rattle.cp_model.specs.View as syntax
use Rattle.cp_model.specs.declared.tree.Tree as tree
use Rattle.cp_model_program.specs.IsProgramFor.{IsProgramFor}
use Rattle.cp_program.specs.declared.program.Program.{Program}
use Rattle.cp_program.specs.View as view
use Rattle.cp_rules.specs.declared.text.RuleError.{RuleError}
use Rattle.cp_rules.specs.declared.text.RuleError.TheVariants as refused
use Rattle.cp_compile_symbols.specs.Texts.{TablesRepresent}
use Rattle.cp_check.specs.declared.checking.CompiledText.{CompiledText}

-- The program represents the text.
abbrev pub IsProgramOf : s.Tree → Program → Type 0
IsProgramOf t program = (setup : Setup) → setup.tree ≡ erase.abstract t → IsProgramFor (view.program program) setup

-- The program represents the text of this tree, and the tables are those of the text.
pub record IsCompiled (t : tree.Tree) (text : CompiledText) : Type 0 where
  pub program : IsProgramOf (syntax.tree t) text.program
  pub tables : TablesRepresent (globals (erase.abstract (syntax.tree t))) text.tables.value t

-- If there is a compiled text, the text is accepted and was compiled. If a rule is broken, the
-- violation is the earliest one of the text.
abbrev pub Checks : tree.Tree → Result CompiledText RuleError → Type 0
Checks t (Ok text) = Accepted (syntax.tree t) × IsCompiled t text
Checks t (Err (refused.Broken v)) = first_violation (syntax.tree t) ≡ Some v
Checks t (Err refused.Memory) = Unit {0}
