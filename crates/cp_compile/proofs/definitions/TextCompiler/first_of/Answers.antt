use Rattle.std.proofs.Common.{◌≡◌, ap, refl, subst, sym}
use Rattle.cp_model.specs.Abstract as a
use Rattle.cp_model.specs.Abstract.{Definition}
use Rattle.cp_model.specs.Erase as erase
use Rattle.cp_model.specs.View as tree
use Rattle.cp_model.proofs.Results.{if_ok}
use Rattle.cp_model_program.specs.Compile.{with_definition}
use Rattle.cp_compile_emit.specs.Planning.{known_of}
use Rattle.cp_compile.specs.CompiledTexts.{IsDefined, IsNamed}
use Rattle.cp_compile.proofs.TextsCompiled.{system_defined}
use Rattle.cp_compile.proofs.definitions.TextCompiler.first_of.Goals as goal

pub returns-in-System : goal.returns-in-System
returns-in-System c =
    let x = c.args.definition.now.name in
    let s = erase.system (tree.system c.in-System.text) in
    let is : erase.type_definition (tree.type_definition c.args.definition.now) ≡ a.SystemDef x.name s =
    ap (λ t. erase.definition x (tree.defined_type t)) c.in-System.is in
    if_ok c.system.result
    (λ first made g m i named are.
    let own = subst (IsNamed g) is named in
    let both = (rw c.as_bytes.ensures at made) g m s own.0 i refl own.1 are in
    subst (λ (d : Definition). IsDefined (known_of c.args.self.now.planner.now) c.system.new.emitter first d m (with_definition g d m)) (sym is)
    (system_defined (known_of c.args.self.now.planner.now) g x.name s m c.system.new.emitter first both.0 both.1))
    c.system.ensures.code
