-- The scopes with which the units of a system type are compiled, and its routines, one after
-- another.
use Rattle.std.proofs.Common.{◌≡◌, ◌<◌, ◌∷◌, ◌∙◌, ℕ, zero, suc, List, [], Option, None, Some, ap, arith, drop, is_some, length, refl, slice_get, subst, sym}
use Rattle.std.specs.Borrow.{Bor}
use Rattle.cp_model.specs.Abstract.{Name, Routine, Statement, System}
use Rattle.cp_model.specs.Declarations.{Variable}
use Rattle.cp_model.specs.Erase as erase
use Rattle.cp_model.specs.Types.{GlobalScope}
use Rattle.cp_model.specs.View as tree
use Rattle.cp_model.specs.declared.tree.Identifier.{Identifier}
use Rattle.cp_model.specs.declared.tree.Routine as tree_routine
use Rattle.cp_model_program.specs.Compile.{Compiled, with_body, with_routine, with_routines, with_unit}
use Rattle.cp_model_program.specs.Plans.{plan_of_routine}
use Rattle.cp_model_program.specs.Programs.{Done, Operation, Return, StartPlan}
use Rattle.cp_model_program.specs.Scopes as code
use Rattle.cp_model_program.specs.IsProgramFor.{end_of}
use Rattle.cp_model_program.specs.StatementsFor.{is_function}
use Rattle.cp_compile_symbols.specs.declared.routines.RoutineTable.{RoutineTable}
use Rattle.cp_compile_symbols.specs.declared.scope.Scope.{Scope}
use Rattle.cp_compile_symbols.specs.Routines.{RoutineRepresents}
use Rattle.cp_compile_symbols.specs.Systems.{AreRoutines, routines_of}
use Rattle.cp_compile_symbols.proofs.Called.{routine_represents}
use Rattle.cp_compile_symbols.specs.Scopes.{IsRoutine, IsScope, words_of}
use Rattle.cp_compile_symbols.specs.declared.types.Types.{Types}
use Rattle.cp_compile_symbols.specs.Variables.{AreDeclared, Entry}
use Rattle.cp_compile_emit.specs.declared.emitter.Emitter.{Emitter}
use Rattle.cp_compile_emit.specs.Planning.{known_of, types_of}
use Rattle.cp_compile.specs.declared.system.SystemCompiler.{SystemCompiler}
use Rattle.cp_compile.specs.CompiledSystems.{IsSystem}
use Rattle.cp_compile.specs.Compiles.{IsCompiled}

-- The scope of a routine, or of the body.
abbrev pub unit_scope : SystemCompiler → GlobalScope → System → List (Name × ℕ) → Option Routine → code.Scope
unit_scope of g s firsts r = record { globals = g; system = s; routine = r; firsts = firsts; first = of.first; words = words_of g r }

abbrev pub table_scope : SystemCompiler → Option (Bor RoutineTable) → Scope
table_scope of t = record { tables = of.tables; system = of.system; routine = t; firsts = of.firsts; first = of.first }

pub scope_made : (of : SystemCompiler) (g : GlobalScope) (s : System) (firsts : List (Name × ℕ)) (i : IsSystem of g s firsts)
    (scope : Scope) (t : Option (Bor RoutineTable)) (r : Option Routine) → scope ≡ table_scope of t → IsRoutine g of.tables.now.types t r
    → IsScope scope (unit_scope of g s firsts r)
scope_made of g s firsts i scope t r is routine =
    subst (λ (z : Scope). IsScope z (unit_scope of g s firsts r)) (sym is)
    (record {
      parameters = i.parameters;
      variables = i.variables;
      routines = i.routines;
      written = i.written;
      names = i.names;
      laid = i.laid;
      systems = i.systems;
      system = i.system;
      routine = routine;
      firsts = i.firsts_are;
      first = refl;
      words = refl;
    })

pub result_written : (of : Option Identifier) → is_some of ≡ is_some (erase.name_if of)
result_written None = refl
result_written (Some x) = refl

pub function_written : (of : Option Identifier) → is_some of ≡ is_function (erase.name_if of)
function_written None = refl
function_written (Some x) = refl

-- A routine is compiled with its plan and its last operation.
pub routine_compiled : (of : SystemCompiler) (g : GlobalScope) (s : System) (firsts : List (Name × ℕ)) (r : Routine) (starts : StartPlan) (last : Operation)
    (c : Compiled) (new : Emitter) → starts ≡ plan_of_routine g r → last ≡ Return (is_function r.result)
    → IsCompiled (known_of of.planner.now) new (with_unit (unit_scope of g s firsts (Some r)) starts last r.body c) → IsCompiled (known_of of.planner.now) new (with_routine g s firsts of.first r c)
routine_compiled of g s firsts r starts last c new planned ends is =
    subst (λ o. IsCompiled (known_of of.planner.now) new (with_unit (unit_scope of g s firsts (Some r)) (plan_of_routine g r) o r.body c)) ends
    (subst (λ xs. IsCompiled (known_of of.planner.now) new (with_unit (unit_scope of g s firsts (Some r)) xs last r.body c)) planned is)

pub body_compiled : (of : SystemCompiler) (g : GlobalScope) (s : System) (firsts : List (Name × ℕ)) (starts : StartPlan) (last : Operation) (body : Statement)
    (c : Compiled) (new : Emitter) → starts ≡ Done → last ≡ end_of s.sort → s.body ≡ body
    → IsCompiled (known_of of.planner.now) new (with_unit (unit_scope of g s firsts None) starts last body c) → IsCompiled (known_of of.planner.now) new (with_body g s firsts of.first c)
body_compiled of g s firsts starts last body c new none ends body_is is =
    subst (λ b. IsCompiled (known_of of.planner.now) new (with_unit (unit_scope of g s firsts None) Done (end_of s.sort) b c)) (sym body_is)
    (subst (λ o. IsCompiled (known_of of.planner.now) new (with_unit (unit_scope of g s firsts None) Done o body c)) ends
    (subst (λ xs. IsCompiled (known_of of.planner.now) new (with_unit (unit_scope of g s firsts None) xs last body c)) none is))

-- The types of the text are those that the planner knows.
pub planner_knows : (of : SystemCompiler) (g : GlobalScope) (s : System) (firsts : List (Name × ℕ)) → IsSystem of g s firsts → (ds : List Entry)
    (vs : List (Name × Variable)) → AreDeclared of.tables.now.types ds vs → AreDeclared (types_of of.planner.now) ds vs
planner_knows of g s firsts i ds vs h = subst (λ (z : Types). AreDeclared z ds vs) (sym (ap (λ t. t.types) i.planned)) h

-- ---- Routines one after another

-- Compiling the remaining routines gives what compiling all of them gives.
pub record PartlyCompiled (of : SystemCompiler) (g : GlobalScope) (s : System) (firsts : List (Name × ℕ)) (left all : List Routine) (start : Compiled) (emitter : Emitter)
    : Type 0 where
  pub so_far : Compiled
  pub is : IsCompiled (known_of of.planner.now) emitter so_far
  pub rest : with_routines g s firsts of.first left so_far ≡ with_routines g s firsts of.first all start

pub one_routine : (of : SystemCompiler) (g : GlobalScope) (s : System) (firsts : List (Name × ℕ)) (r : Routine) (left all : List Routine) (start : Compiled)
    (old new : Emitter) → PartlyCompiled of g s firsts (r ∷ left) all start old
    → ((c : Compiled) → IsCompiled (known_of of.planner.now) old c → IsCompiled (known_of of.planner.now) new (with_routine g s firsts of.first r c)) → PartlyCompiled of g s firsts left all start new
one_routine of g s firsts r left all start old new some one = record {
  so_far = with_routine g s firsts of.first r some.so_far;
  is = one some.so_far some.is;
  rest = some.rest;
}

pub routine_there : (texts rest : List tree_routine.Routine) (i : ℕ) (x : tree_routine.Routine) → drop i texts ≡ x ∷ rest
    → slice_get (routines_of texts) i ≡ Some (erase.routine (tree.routine x))
routine_there [] rest zero x h = absurd (cc)
routine_there [] rest (suc i) x h = absurd (cc)
routine_there (t ∷ ts) rest zero x h = ap (λ (rs : List tree_routine.Routine). slice_get (routines_of rs) 0) h
routine_there (t ∷ ts) rest (suc i) x h = routine_there ts rest i x h

-- The table of a routine is the one made from its text.
pub routine_known : (of : SystemCompiler) (g : GlobalScope) (s : System) (firsts : List (Name × ℕ)) → IsSystem of g s firsts
    → (texts rest : List tree_routine.Routine) (i : ℕ) (x : tree_routine.Routine) (t : RoutineTable) → s.routines ≡ routines_of texts
    → drop i texts ≡ x ∷ rest → slice_get of.system.now.routines.items i ≡ Some t
    → RoutineRepresents g of.tables.now.types t (erase.routine (tree.routine x))
routine_known of g s firsts is texts rest i x t all step here =
    routine_represents g of.tables.now.types of.system.now.routines.items (routines_of texts) i t (erase.routine (tree.routine x))
    (subst (AreRoutines g of.tables.now.types of.system.now.routines.items) (sym is.written.routines ∙ all) is.system.routines) here
    (routine_there texts rest i x step)

-- There is a table for each routine.
pub table_there : (g : GlobalScope) (types : Types) (ts : List RoutineTable) (texts : List tree_routine.Routine) (i : ℕ)
    → AreRoutines g types ts (routines_of texts) → i < length texts → slice_get ts i ≡ None → ⊥
table_there g types [] [] i h within none = omega (arith, within)
table_there g types [] (x ∷ xs) i h within none = h
table_there g types (t ∷ ts) [] i h within none = h
table_there g types (t ∷ ts) (x ∷ xs) zero h within none = absurd (cc)
table_there g types (t ∷ ts) (x ∷ xs) (suc i) h within none = table_there g types ts xs i h.1 (omega (arith, within)) none

pub routine_has_table : (of : SystemCompiler) (g : GlobalScope) (s : System) (firsts : List (Name × ℕ)) → IsSystem of g s firsts
    → (texts : List tree_routine.Routine) (i : ℕ) → s.routines ≡ routines_of texts → i < length texts
    → slice_get of.system.now.routines.items i ≡ None → ⊥
routine_has_table of g s firsts is texts i all =
    table_there g of.tables.now.types of.system.now.routines.items texts i
    (subst (AreRoutines g of.tables.now.types of.system.now.routines.items) (sym is.written.routines ∙ all) is.system.routines)
