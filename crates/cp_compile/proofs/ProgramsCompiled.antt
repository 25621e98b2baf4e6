-- The parts of a program, put together.
use Rattle.std.proofs.Common.{◌≡◌, ◌∷◌, ◌++◌, ◌+◌, ◌∙◌, ℕ, List, [], ap, arith, length, map, refl, subst, sym}
use Rattle.std.proofs.lemmas.List.{length-map}
use Rattle.cp_model.specs.Abstract as a
use Rattle.cp_model.specs.Abstract.{Definition, System}
use Rattle.cp_model.specs.Declarations.{Variable, declarations, define, globals, reported_members}
use Rattle.cp_model.specs.Abstract.{Name}
use Rattle.cp_model.specs.Erase as erase
use Rattle.cp_model.specs.Names.{lookup}
use Rattle.cp_model.specs.Rules.{Accepted}
use Rattle.cp_model.specs.Types.{GlobalScope, standard_scope}
use Rattle.cp_model.specs.View as tree
use Rattle.cp_model.specs.declared.tree.Tree as text
use Rattle.cp_law_typing.specs.WellTyped.{TypedInOrder}
use Rattle.cp_law_typing.proofs.Texts.{accepted_texts_are_well_typed}
use Rattle.cp_model_program.specs.Programs as program
use Rattle.cp_compile_emit.specs.declared.plan.Planner.{Planner}
use Rattle.cp_compile_emit.specs.ComponentPlans.{ArePlans}
use Rattle.cp_compile_emit.specs.Planning.{Extends, Knows, types_of}
use Rattle.cp_compile_symbols.specs.declared.tables.Tables.{Tables}
use Rattle.cp_compile_symbols.specs.Layouts.{AreLaid}
use Rattle.cp_compile_symbols.specs.Representing.{ScopeRepresents}
use Rattle.cp_compile_symbols.specs.Texts.{TablesRepresent}
use Rattle.cp_compile_symbols.specs.Variables.{AreDeclared, Entry}
use Rattle.cp_compile.specs.declared.compiler.Code.{Code}
use Rattle.cp_compile.specs.declared.compiler.Plans.{Plans}
use Rattle.cp_compile.specs.declared.components.InitialCompiler.{InitialCompiler}
use Rattle.cp_compile.specs.declared.components.Owner.{Owner}
use Rattle.cp_compile.specs.CompiledComponents.{IsInitial, IsOwner, OwnerIs}
use Rattle.cp_compile.specs.CompiledPrograms.{ArePlansOf, IsCode, IsPlanner, text_of, text_types}
use Rattle.cp_compile.specs.CompiledTexts.{AreNamed}

-- ---- Accepted texts

named_in_order : (g h : GlobalScope) (before : List System) (ds : List Definition) → TypedInOrder g h before ds → AreNamed g ds
named_in_order g h before [] typed = tt
named_in_order g h before (a.SystemDef x s ∷ ds) typed =
    ((reported_members h s, typed.0.2), named_in_order g (define h (a.SystemDef x s)) (before ++ s ∷ []) ds typed.1)
named_in_order g h before (a.TypeDef x t ∷ ds) typed = (tt, named_in_order g (define h (a.TypeDef x t)) before ds typed)
named_in_order g h before (a.EnumDef x vs ∷ ds) typed = (tt, named_in_order g (define h (a.EnumDef x vs)) before ds typed)
named_in_order g h before (a.ConstantDef x c ∷ ds) typed = (tt, named_in_order g (define h (a.ConstantDef x c)) before ds typed)

-- The names of the system types of an accepted text mean those types.
pub accepted_names : (t : text.Tree) → Accepted (tree.tree t) → AreNamed (globals (text_of t)) (text_of t).definitions
accepted_names t accepted =
    let typed = accepted_texts_are_well_typed (tree.tree t) (record { tree = text_of t; inputs = λ p. []; tick = 1 }) accepted refl in
    named_in_order (globals (text_of t)) standard_scope [] (text_of t).definitions typed.in_order

-- ---- Plans

pub planner_types : (tables : Tables) (planner : Planner) (g : GlobalScope) → IsPlanner tables planner g → (ds : List Entry) (vs : List (Name × Variable))
    → AreDeclared tables.types ds vs → AreDeclared (types_of planner) ds vs
planner_types tables planner g is ds vs h = subst (λ (t : Tables). AreDeclared t.types ds vs) (sym is.over) h

pub planner_after : (tables : Tables) (old new : Planner) (g : GlobalScope) → Extends old new → Knows new g → IsPlanner tables old g → IsPlanner tables new g
planner_after tables old new g extends knows is = record { over = ap (λ b. b.now) extends.tables_are ∙ is.over; knows = knows }

-- ---- Programs

pub same_program : (x y : program.Program) → x.operations ≡ y.operations → x.units ≡ y.units → x.monitors ≡ y.monitors → x.processes ≡ y.processes
    → x.shared ≡ y.shared → x ≡ y
same_program x y os us ms ps n =
    ap (λ z. record x { operations = z }) os ∙ ap (λ z. record x { operations = y.operations; units = z }) us
    ∙ ap (λ z. record x { operations = y.operations; units = y.units; monitors = z }) ms
    ∙ ap (λ z. record x { operations = y.operations; units = y.units; monitors = y.monitors; processes = z }) ps
    ∙ ap (λ z. record y { shared = z }) n

-- ---- Components

pub initial_known : (of : InitialCompiler) (known : List program.StartPlan) (t : text.Tree) (c : Code) (plans : Plans) → of.firsts.now ≡ c.firsts → of.plans ≡ plans.first
    → TablesRepresent (globals (text_of t)) of.tables.now t → IsCode known c (text_of t) → ArePlansOf known (globals (text_of t)) of.tables.now t plans
    → IsInitial of known (globals (text_of t)) (text_types (text_of t)).firsts (text_of t).initial.variables
    (declarations (globals (text_of t)) (text_of t).initial.variables)
initial_known of known t c plans same numbered represents is made = record {
  systems = represents.systems;
  declared = represents.initial.variables;
  type_names = represents.initial.variable_types;
  firsts_are = λ x. ap (lookup x) same ∙ is.firsts_are x;
  planned = subst (ArePlans (globals (text_of t)) of.tables.now known) (sym numbered) made.systems;
}

pub initial_owner : (tables : Tables) (known : List program.StartPlan) (t : text.Tree) (c : Code) (plans : Plans) (body routines : ℕ) (o : Owner) → TablesRepresent (globals (text_of t)) tables t
    → IsCode known c (text_of t) → ArePlansOf known (globals (text_of t)) tables t plans → body ≡ c.first + routines → routines ≡ length t.routines.items
    → IsOwner tables.initial body plans.initial o
    → OwnerIs known (globals (text_of t)) o
    (record { system = (text_of t).initial; body = length (text_types (text_of t)).compiled.units + length (text_of t).initial.routines })
initial_owner tables known t c plans body routines o represents is made body_is routines_are owner =
    let s = (text_of t).initial in
    let own =
    owner known (globals (text_of t)) tables.types s [] t.variables.items t.routines.items represents.initial
    (record { parameters = refl; variables = refl; routines = refl }) made.initial_is in
    let count : length s.routines ≡ length t.routines.items =
    length-map (map tree.routine t.routines.items) erase.routine ∙ length-map t.routines.items tree.routine in
    record {
      body = own.body ∙ omega (arith, body_is, routines_are, count, is.first_is);
      words = own.words;
      waiting = own.waiting;
      plan = own.plan;
    }

pub planner_is : (tables : Tables) (planner : Planner) (g : GlobalScope) (t : text.Tree) → planner.tables.now ≡ tables
    → ((h : GlobalScope) → ScopeRepresents tables.names tables.types h → AreLaid h tables.types tables.layouts.rows.items → Knows planner h)
    → TablesRepresent g tables t → IsPlanner tables planner g
planner_is tables planner g t over knows represents = record { over = over; knows = knows g represents.scope represents.laid.laid }
