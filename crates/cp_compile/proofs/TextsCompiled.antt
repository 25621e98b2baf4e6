-- Definitions are compiled one after another.
use Rattle.std.proofs.Common.{◌<◌, ◌≡◌, ◌∷◌, ◌++◌, ◌∙◌, ℕ, List, [], Option, None, Some, Box, Global, Vec, ◌≤◌, ap, arith, if◌then◌else◌, length, map, refl, subst, sym}
use Rattle.std.proofs.lemmas.Option.{same_Some}
use Rattle.std.specs.Borrow.{Bor}
use Rattle.std.specs.Str.{bytes_eq}
use Rattle.cp_model.specs.Abstract as a
use Rattle.cp_model.specs.Abstract.{Definition, Name}
use Rattle.cp_model.specs.Erase as erase
use Rattle.cp_model.specs.Names.{lookup}
use Rattle.cp_model.specs.Types.{ComponentOf, GlobalScope, Members, ResolvedType}
use Rattle.cp_model.specs.View as tree
use Rattle.cp_model.specs.declared.tree.ConstantDefinition.{ConstantDefinition}
use Rattle.cp_model.specs.declared.tree.Fields.{Fields}
use Rattle.cp_model.specs.declared.tree.System.{System}
use Rattle.cp_model.specs.declared.tree.TypeExpression.{TypeExpression}
use Rattle.cp_model.specs.declared.tree.TypeExpression.TheVariants as written
use Rattle.cp_model.proofs.TypeViews.{view_array, view_record}
use Rattle.cp_model_program.specs.Compile.{CompiledTypes, first_of_type, with_definition, with_definitions, with_system}
use Rattle.cp_model_program.specs.Programs.{StartPlan}
use Rattle.cp_model_program.specs.Scopes.{or_zero}
use Rattle.cp_compile_emit.specs.declared.emitter.Emitter.{Emitter}
use Rattle.cp_compile_symbols.specs.declared.types.Types.{Types}
use Rattle.cp_compile_symbols.specs.Scopes.{IsWritten}
use Rattle.cp_compile_lower.specs.Initialisation.{IsTable}
use Rattle.cp_compile_symbols.specs.Numbering.{system_of}
use Rattle.cp_compile_symbols.specs.Representing.{TypeMeans, row_at, system_at}
use Rattle.cp_compile_symbols.specs.Tables.{InFront}
use Rattle.cp_compile.specs.Compiles.{IsCompiled}
use Rattle.cp_compile.specs.CompiledSystems.{IsSystem}
use Rattle.cp_compile.specs.CompiledTexts.{AreNamed, IsDefined, IsText, TypesAre, defined_name}
use Rattle.cp_compile.specs.declared.system.SystemCompiler.{SystemCompiler}

-- ---- System types

abbrev pub number_in : Types → Option ℕ → Option ℕ
number_in types None = None
number_in types (Some of) = system_of (row_at types of)

pub system_there : (types : Types) (o : Option ℕ) (t : Option ResolvedType) (s : a.System) (ms : Members) (k : ℕ) → TypeMeans types o t
    → t ≡ Some (ComponentOf s ms) → number_in types o ≡ Some k → (b : Bor System) × (system_at types k ≡ Some b) × (erase.system (tree.system b.now) ≡ s)
system_there types o t s ms k means is number = go o (subst (TypeMeans types o) is means) number
  where
    go : (p : Option ℕ) → TypeMeans types p (Some (ComponentOf s ms)) → number_in types p ≡ Some k
        → (b : Bor System) × (system_at types k ≡ Some b) × (erase.system (tree.system b.now) ≡ s)
    go None h n = absurd h
    go (Some of) h n =
        let same : h.0 ≡ k = same_Some h.0 k (sym (ap system_of h.3) ∙ n) in
        (h.2, subst (λ i. system_at types i ≡ Some h.2) same h.4, h.5)

-- A system type has a number.
pub system_numbered : (types : Types) (o : Option ℕ) (t : Option ResolvedType) (s : a.System) (ms : Members) → TypeMeans types o t
    → t ≡ Some (ComponentOf s ms) → number_in types o ≡ None → ⊥
system_numbered types o t s ms means is none = go o (subst (TypeMeans types o) is means) none
  where
    go : (p : Option ℕ) → TypeMeans types p (Some (ComponentOf s ms)) → number_in types p ≡ None → ⊥
    go None h n = h
    go (Some of) h n = (let some = ap system_of h.3 in cc)

-- A system type of a text is compiled with its table.
pub system_known : (of : SystemCompiler) (g : GlobalScope) (s : a.System) (firsts : List (Name × ℕ)) → IsText (record { tables = of.tables; planner = of.planner }) g
    → IsTable g of.tables.now.types of.system.now s → ((x : Name) → lookup x of.firsts.now ≡ lookup x firsts) → IsSystem of g s firsts
system_known of g s firsts i table same = record {
  parameters = table.text.parameters.items;
  variables = table.text.variables.items;
  routines = table.text.routines.items;
  written =
      subst (λ (y : a.System). IsWritten y table.text.parameters.items table.text.variables.items table.text.routines.items) table.is
      (record { parameters = refl; variables = refl; routines = refl });
  names = i.names;
  laid = i.laid;
  systems = i.systems;
  system = table.represents;
  planned = i.planned;
  knows = i.knows;
  firsts_are = same;
}

-- ---- First units

-- One definition more.
pub one_defined : (known : List StartPlan) (old new : List (Name × ℕ)) (emitter : Emitter) (d : Definition) (first : ℕ) (before after : CompiledTypes)
    → ((x : Name) → lookup x old ≡ lookup x before.firsts) → InFront (defined_name d) first old new → IsDefined known emitter first d before after
    → TypesAre known emitter new after
one_defined known old new emitter d first before after so front is = record {
  compiled = is.compiled;
  firsts_are = λ x.
      front x ∙ ap (λ o. if bytes_eq x (defined_name d) then Some first else o) (so x) ∙ ap (lookup x) (sym is.firsts);
}

-- ---- Definitions one after another

pub definitions_behind : (g : GlobalScope) (ds es : List Definition) (m : CompiledTypes)
    → with_definitions g (ds ++ es) m ≡ with_definitions g es (with_definitions g ds m)
definitions_behind g [] es m = refl
definitions_behind g (d ∷ ds) es m = definitions_behind g ds es (with_definition g d m)

pub named_behind : (g : GlobalScope) (ds es : List Definition) → AreNamed g (ds ++ es) → AreNamed g ds × AreNamed g es
named_behind g [] es h = (tt, h)
named_behind g (d ∷ ds) es h = let rest = named_behind g ds es h.1 in ((h.0, rest.0), rest.1)

-- Constants have no code.
pub constants_compiled : (g : GlobalScope) (ds : List ConstantDefinition) (m : CompiledTypes) → m ≡ with_definitions g (map erase.constant_definition ds) m
constants_compiled g [] m = refl
constants_compiled g (d ∷ ds) m = constants_compiled g ds m

-- Compiling the remaining definitions gives what compiling all of them gives.
pub record PartlyDefined (known : List StartPlan) (g : GlobalScope) (left all : List Definition) (start : CompiledTypes) (emitter : Emitter) (firsts : List (Name × ℕ)) : Type 0 where
  pub so_far : CompiledTypes
  pub are : TypesAre known emitter firsts so_far
  pub named : AreNamed g left
  pub rest : with_definitions g left so_far ≡ with_definitions g all start

pub more_defined : (known : List StartPlan) (g : GlobalScope) (ds left all : List Definition) (start : CompiledTypes) (a b : Emitter) (old new : List (Name × ℕ))
    → PartlyDefined known g (ds ++ left) all start a old
    → ((m : CompiledTypes) → AreNamed g ds → TypesAre known a old m → TypesAre known b new (with_definitions g ds m)) → PartlyDefined known g left all start b new
more_defined known g ds left all start a b old new some more =
    let named = named_behind g ds left some.named in
    record {
      so_far = with_definitions g ds some.so_far;
      are = more some.so_far named.0 some.are;
      named = named.1;
      rest = sym (definitions_behind g ds left some.so_far) ∙ some.rest;
    }

pub all_defined : (known : List StartPlan) (g : GlobalScope) (left all : List Definition) (start : CompiledTypes) (emitter : Emitter) (firsts : List (Name × ℕ)) → left ≡ []
    → PartlyDefined known g left all start emitter firsts → TypesAre known emitter firsts (with_definitions g all start)
all_defined known g left all start emitter firsts none some =
    subst (TypesAre known emitter firsts) (ap (λ ds. with_definitions g ds some.so_far) (sym none) ∙ some.rest) some.are

-- ---- Written types

pub array_has_no_units : (firsts : List (Name × ℕ)) (at : ℕ) (indices : Box (Vec TypeExpression Global) Global) (element : Box TypeExpression Global) → 1 ≤ length indices.value.items
    → 0 ≡ first_of_type firsts (erase.type_expression (tree.type_expression (written.Array at indices element)))
array_has_no_units firsts at indices element some =
    go indices.value.items some ∙ ap (λ t. first_of_type firsts (erase.type_expression t)) (sym (view_array at indices element))
  where
    go : (is : List TypeExpression) → 1 ≤ length is
        → 0 ≡ first_of_type firsts (erase.arrays (erase.type_expressions (tree.types_of (map tree.type_expression is))) (erase.type_expression (tree.type_expression element.value)))
    go [] some = absurd (omega (arith, some))
    go (i ∷ is) some = refl

-- Without an index, an array is its element.
pub array_is_element : (firsts : List (Name × ℕ)) (at : ℕ) (indices : Box (Vec TypeExpression Global) Global) (element : Box TypeExpression Global) → length indices.value.items < 1
    → first_of_type firsts (erase.type_expression (tree.type_expression element.value))
    ≡ first_of_type firsts (erase.type_expression (tree.type_expression (written.Array at indices element)))
array_is_element firsts at indices element none =
    go indices.value.items none ∙ ap (λ t. first_of_type firsts (erase.type_expression t)) (sym (view_array at indices element))
  where
    go : (is : List TypeExpression) → length is < 1
        → first_of_type firsts (erase.type_expression (tree.type_expression element.value))
        ≡ first_of_type firsts (erase.arrays (erase.type_expressions (tree.types_of (map tree.type_expression is))) (erase.type_expression (tree.type_expression element.value)))
    go [] none = refl
    go (i ∷ is) none = absurd (omega (arith, none))

pub record_has_no_units : (firsts : List (Name × ℕ)) (at : ℕ) (groups : Box (Vec Fields Global) Global)
    → 0 ≡ first_of_type firsts (erase.type_expression (tree.type_expression (written.Record at groups)))
record_has_no_units firsts at groups = ap (λ t. first_of_type firsts (erase.type_expression t)) (sym (view_record at groups))

-- Tables that look up alike give the same first unit.
pub same_first : (fs gs : List (Name × ℕ)) (t : a.TypeExpression) → ((x : Name) → lookup x fs ≡ lookup x gs) → first_of_type fs t ≡ first_of_type gs t
same_first fs gs (a.TypeName x) so = ap or_zero (so x)
same_first fs gs (a.Range l h) so = refl
same_first fs gs (a.Array i e) so = refl
same_first fs gs (a.Record gs') so = refl

-- The definition of a system type.
pub system_defined : (known : List StartPlan) (g : GlobalScope) (x : Name) (s : a.System) (m : CompiledTypes) (new : Emitter) (first : ℕ)
    → IsCompiled known new (with_system g m.firsts s m.compiled) → first ≡ length m.compiled.units
    → IsDefined known new first (a.SystemDef x s) m (with_definition g (a.SystemDef x s) m)
system_defined known g x s m new first is first_is = record { compiled = is; firsts = ap (λ n. (x, n) ∷ m.firsts) (sym first_is) }
