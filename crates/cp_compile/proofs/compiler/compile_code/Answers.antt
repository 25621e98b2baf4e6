use Rattle.std.proofs.Common.{◌≡◌, ◌∙◌, [], ℕ, List, ap, length, refl, subst}
use Rattle.cp_model.specs.Abstract.{Name}
use Rattle.cp_model.specs.Declarations.{globals}
use Rattle.cp_model.specs.Names.{lookup}
use Rattle.cp_model.specs.declared.tree.Tree as text
use Rattle.cp_model_program.specs.Compile.{nothing_compiled}
use Rattle.cp_compile_emit.specs.Planning.{known_of}
use Rattle.cp_compile_symbols.specs.declared.systems.SystemTable.{SystemTable}
use Rattle.cp_compile_symbols.specs.Systems.{SystemRepresents}
use Rattle.cp_compile_symbols.specs.Texts.{TablesRepresent}
use Rattle.cp_compile.specs.CompiledPrograms.{IsPlanner, text_of, text_types}
use Rattle.cp_compile.specs.CompiledSystems.{IsSystem}
use Rattle.cp_compile.specs.CompiledTexts.{IsText, TypesAre}
use Rattle.cp_compile.specs.Compiles.{EndsAt}
use Rattle.cp_compile.specs.declared.definitions.TextCompiler.{TextCompiler}
use Rattle.cp_compile.specs.declared.system.SystemCompiler.{SystemCompiler}
use Rattle.cp_compile.proofs.ProgramsCompiled.{accepted_names}
use Rattle.cp_compile.proofs.compiler.compile_code.Goals as goal

-- The initial process is compiled with its table.
initial_known : (of : SystemCompiler) (t : text.Tree) (firsts : List (Name × ℕ)) → TablesRepresent (globals (text_of t)) of.tables.now t
    → IsPlanner of.tables.now of.planner.now (globals (text_of t)) → of.tables.now.initial ≡ of.system.now
    → ((x : Name) → lookup x of.firsts.now ≡ lookup x firsts) → IsSystem of (globals (text_of t)) (text_of t).initial firsts
initial_known of t firsts represents planner system same = record {
  parameters = [];
  variables = t.variables.items;
  routines = t.routines.items;
  written = record { parameters = refl; variables = refl; routines = refl };
  names = represents.scope;
  laid = represents.laid;
  systems = represents.systems;
  system = subst (λ (y : SystemTable). SystemRepresents (globals (text_of t)) of.tables.now.types y [] t.variables.items t.routines.items) system represents.initial;
  planned = planner.over;
  knows = planner.knows;
  firsts_are = same;
}

-- The units end as they do behind the ones that were there.
ends_at_last : (at : ℕ) (old new : List ℕ) → EndsAt at old new → EndsAt at [] new
ends_at_last at old new h = (h.0, (h.0, refl), h.2)

pub returns-clause-code : goal.returns-clause-code
returns-clause-code c = λ accepted represents planner.
    let t = text_of c.args.tree.now in
    let g = globals t in
    let of : TextCompiler = record { tables = c.args.tables; planner = c.args.planner } in
    let whole : IsText of g = record { names = represents.scope; laid = represents.laid; systems = represents.systems; planned = planner.over; knows = planner.knows } in
    let start : TypesAre (known_of c.args.planner.now) c.new-emitter.result c.new-firsts.result nothing_compiled = record {
      compiled = record { operations = c.new-emitter.ensures.operations; units = c.new-emitter.ensures.units (known_of c.args.planner.now) };
      firsts_are = λ x. ap (lookup x) c.new-firsts.ensures;
    } in
    let sections = rw c.deref.ensures.value at c.in_ok-sections.ensures in
    let after = sections g nothing_compiled whole (accepted_names c.args.tree.now accepted) start in
    let first : c.in_ok-first.first ≡ length (text_types t).compiled.units = c.in_ok-first.ensures (known_of c.args.planner.now) ∙ ap length after.compiled.units in
    let made = rw (c.deref-2.ensures.value, c.deref-3.ensures.value) at c.in_ok-compile.ensures.code in
    record {
      compiled = made g t.initial (text_types t).firsts (text_types t).compiled
          (initial_known _ c.args.tree.now (text_types t).firsts represents planner refl after.firsts_are) first refl refl refl after.compiled;
      firsts_are = after.firsts_are;
      first_is = first;
    }

pub returns-clause-origin : goal.returns-clause-origin
returns-clause-origin c = λ represents planner.
    let made = rw c.deref-2.ensures.value at c.in_ok-compile.ensures.origin in
    let t = text_of c.args.tree.now in
    ends_at_last c.args.tree.now.body.at c.sections.new.emitter.origins.items c.compile.new.emitter.origins.items
    (made (globals t) t.initial c.sections.new.firsts (initial_known _ c.args.tree.now c.sections.new.firsts represents planner refl (λ x. refl)) refl)
