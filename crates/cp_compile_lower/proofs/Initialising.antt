-- The arguments of an `init`.
use Rattle.std.proofs.Common.{◌≡◌, Bor, ℕ, Bool, false, true, List, [], IsSomeAnd, Option, None, Some, map, option_map, refl, slice_get, subst, sym}
use Rattle.cp_model.specs.Abstract as a
use Rattle.cp_model.specs.Abstract.{Name, System}
use Rattle.cp_model.specs.Declarations.{Variable, declarations, is_component}
use Rattle.cp_model.specs.Erase as erase
use Rattle.cp_model.specs.View as view
use Rattle.cp_model.specs.declared.tree.System as tree
use Rattle.cp_model.specs.Types.{ArrayOf, ComponentOf, GlobalScope, NoType, Queue, RecordOf, ResolvedType, Simple}
use Rattle.cp_model_program.specs.CodedTerms.{coded_term, init_argument}
use Rattle.cp_model_program.specs.Layout.{member, right}
use Rattle.cp_model_program.specs.Scopes.{Scope, part_start, right_start}
use Rattle.cp_model_program.specs.Terms as plain
use Rattle.cp_compile_symbols.specs.declared.systems.SystemTable.{SystemTable}
use Rattle.cp_compile_symbols.specs.declared.types.Simple as simple
use Rattle.cp_compile_symbols.specs.declared.types.Types.{Types}
use Rattle.cp_compile_symbols.specs.Expressions.{is_simple}
use Rattle.cp_compile_symbols.specs.Representing.{simple_of, system_at}
use Rattle.cp_compile_symbols.specs.Texts.{AreSystems}
use Rattle.cp_compile_symbols.proofs.SystemsMade.{has_table, lacks_no_table}
use Rattle.cp_compile_symbols.specs.Variables.{AreDeclared, declared_entry}
use Rattle.cp_compile_lower.specs.Initialisation.{IsTable, right_argument}

-- ---- Tables

-- The table that is found for a system type is right, and there is one.
pub table_found : (g : GlobalScope) (types : Types) (tables : List SystemTable) (k : ℕ) (text : Bor tree.System) (y : System) (r : Option (Bor SystemTable))
    → AreSystems g types tables → system_at types k ≡ Some text → erase.system (view.system text.now) ≡ y
    → option_map (λ (t : Bor SystemTable). t.now) r ≡ slice_get tables k → IsSomeAnd r (λ t. IsTable g types t.now y)
table_found g types tables k text y None all at is found = absurd (lacks_no_table g types tables k text all at (sym found))
table_found g types tables k text y (Some t) all at is found =
    record { text = text.now; represents = has_table g types tables k text t.now all at (sym found); is = is }

pub parameters_represent : (g : GlobalScope) (types : Types) (t : SystemTable) (y : System) → IsTable g types t y
    → AreDeclared types (map declared_entry t.parameters.items) (declarations g y.parameters)
parameters_represent g types t y is =
    subst (λ (z : System). AreDeclared types (map declared_entry t.parameters.items) (declarations g z.parameters)) is.is is.represents.parameters

-- ---- Arguments

pub simple_argument : (s : Scope) (y : System) (x : Name) (v : Variable) (e : a.Expression) (low : ℕ) (t : simple.Simple) → simple_of t ≡ v.type
    → record {
      argument = plain.Value (part_start (member s.globals y x)) t.low t.high (coded_term s e low).term;
      calls = (coded_term s e low).calls;
      temps = (coded_term s e low).temps;
    } ≡ init_argument s y (x, v) e low
simple_argument s y x v e low t same =
    subst
    (λ (u : ResolvedType). record {
      argument = plain.Value (part_start (member s.globals y x)) t.low t.high (coded_term s e low).term;
      calls = (coded_term s e low).calls;
      temps = (coded_term s e low).temps;
    } ≡ init_argument s y (x, record { by_reference = v.by_reference; type = u }) e low) same refl

pub component_argument : (s : Scope) (y : System) (x : Name) (b : Bool) (t : ResolvedType) (e : a.Expression) (low : ℕ) → is_component t ≡ true
    → right_argument s (right_start (right s.globals y x)) low e ≡ init_argument s y (x, record { by_reference = b; type = t }) e low
component_argument s y x b (ComponentOf r inner) e low is = refl
component_argument s y x b (Simple c low' high start) e low is = absurd (cc)
component_argument s y x b (ArrayOf low' high t) e low is = absurd (cc)
component_argument s y x b (RecordOf ms) e low is = absurd (cc)
component_argument s y x b Queue e low is = absurd (cc)
component_argument s y x b NoType e low is = absurd (cc)

pub other_argument : (s : Scope) (y : System) (x : Name) (b : Bool) (t : ResolvedType) (e : a.Expression) (low : ℕ) → is_simple t ≡ false
    → is_component t ≡ false
    → record { argument = plain.Right 0 plain.Own; calls = []; temps = low } ≡ init_argument s y (x, record { by_reference = b; type = t }) e low
other_argument s y x b (ComponentOf r inner) e low simple component = absurd (cc)
other_argument s y x b (Simple c low' high start) e low simple component = absurd (cc)
other_argument s y x b (ArrayOf low' high t) e low simple component = refl
other_argument s y x b (RecordOf ms) e low simple component = refl
other_argument s y x b Queue e low simple component = refl
other_argument s y x b NoType e low simple component = refl
