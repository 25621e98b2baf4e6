-- When the code, the plans and the components of a text are those of the definition.
use Rattle.std.specs.Prelude.{◌≡◌, ◌+◌, ◌∷◌, List, length, map, true}
use Rattle.cp_model.specs.Abstract as a
use Rattle.cp_model.specs.Abstract.{Name, Tree}
use Rattle.cp_model.specs.Declarations.{declarations, globals}
use Rattle.cp_model.specs.Erase as erase
use Rattle.cp_model.specs.Names.{lookup}
use Rattle.cp_model.specs.Types.{GlobalScope}
use Rattle.cp_model.specs.View as tree
use Rattle.cp_model.specs.declared.tree.Tree as text
use Rattle.cp_model_program.specs.Compile as code
use Rattle.cp_model_program.specs.Compile.{CompiledTypes, monitors_at, nothing_compiled, of_sort, owners_of, processes_at, sum_words, waiting_words, with_definitions, with_system}
use Rattle.cp_model_program.specs.Layout.{component_words}
use Rattle.cp_model_program.specs.Plans.{plan_of_component}
use Rattle.cp_model_program.specs.Programs.{StartPlan}
use Rattle.cp_compile_emit.specs.declared.plan.Planner.{Planner}
use Rattle.cp_compile_emit.specs.ComponentPlans.{ArePlans, table_fits}
use Rattle.cp_compile_emit.specs.Planning.{Knows}
use Rattle.cp_compile_symbols.specs.declared.tables.Tables.{Tables}
use Rattle.cp_program.specs.View as view
use Rattle.cp_program.specs.View.{plan_at}
use Rattle.cp_compile.specs.declared.compiler.Code.{Code}
use Rattle.cp_compile.specs.declared.compiler.Components.{Components}
use Rattle.cp_compile.specs.declared.compiler.Plans.{Plans}
use Rattle.cp_compile.specs.Compiles.{IsCompiled}

-- The abstract syntax of a text.
abbrev pub text_of : text.Tree → Tree
text_of t = erase.abstract (tree.tree t)

pub record IsPlanner (tables : Tables) (planner : Planner) (g : GlobalScope) : Type 0 where
  pub over : planner.tables.now ≡ tables
  pub knows : Knows planner g

-- The result of compiling the definitions of a text.
abbrev pub text_types : Tree → CompiledTypes
text_types t = with_definitions (globals t) t.definitions nothing_compiled

-- The code of a text, whose units have plans of which parts are among the plans `known`.
pub record IsCode (known : List StartPlan) (c : Code) (t : Tree) : Type 0 where
  pub compiled : IsCompiled known c.emitter (with_system (globals t) (text_types t).firsts t.initial (text_types t).compiled)
  pub firsts_are : (x : Name) → lookup x c.firsts ≡ lookup x (text_types t).firsts
  pub first_is : c.first ≡ length (text_types t).compiled.units

-- The plans of the components of a text have these numbers.
pub record ArePlansOf (known : List StartPlan) (g : GlobalScope) (tables : Tables) (t : text.Tree) (plans : Plans) : Type 0 where
  pub systems : ArePlans g tables known plans.first
  pub initial_is : table_fits tables.initial ≡ true → plan_at known plans.initial ≡ plan_of_component g (text_of t).initial

-- ---- Components

abbrev pub monitor_owners : Tree → List code.Owner
monitor_owners t =
    owners_of (text_types t).firsts t.initial.variables
    (of_sort a.Monitor (declarations (globals t) t.initial.variables))

abbrev pub process_owners : Tree → List code.Owner
process_owners t =
    record { system = t.initial; body = length (text_types t).compiled.units + length t.initial.routines }
    ∷ owners_of (text_types t).firsts t.initial.variables
    (of_sort a.Process (declarations (globals t) t.initial.variables))

-- The components of a text.
pub record ComponentsLie (plans : List StartPlan) (c : Components) (t : Tree) : Type 0 where
  pub monitors : map (view.monitor plans) c.monitors.items ≡ monitors_at (globals t) 0 (monitor_owners t)
  pub processes : map (view.process plans) c.processes.items
      ≡ processes_at (globals t) (sum_words (component_words (globals t)) (monitor_owners t)) (process_owners t)
  pub shared : c.shared
      ≡ sum_words (component_words (globals t)) (monitor_owners t)
      + sum_words (waiting_words (globals t)) (process_owners t)
