-- What a designator calls.
use Rattle.std.proofs.Common.{◌≡◌, Global, Vec, ◌∷◌, ◌+◌, ◌∙◌, Bool, true, false, ℕ, zero, suc, List, [], Option, None, Some, if◌then◌else◌, arith, find, is_some, map, refl, option_map, slice_get, subst, sym}
use Rattle.std.proofs.lemmas.Option.{same_Some}
use Rattle.std.proofs.lemmas.Slice.Eq.{bytes_eq-Decides}
use Rattle.std.specs.Str.{bytes_eq}
use Rattle.cp_model.proofs.Views.{view_indexed}
use Rattle.cp_model.specs.Abstract as a
use Rattle.cp_model.specs.Abstract.{Name, Routine, System}
use Rattle.cp_model.specs.Calls as calls
use Rattle.cp_model.specs.Calls.{callee, is_local, routine_named}
use Rattle.cp_model.specs.Components as components
use Rattle.cp_model.specs.Components.{component_named}
use Rattle.cp_model.specs.Declarations.{Variable, declarations}
use Rattle.cp_model.specs.Environments.{Environment}
use Rattle.cp_model.specs.Erase as erase
use Rattle.cp_model.specs.View as view
use Rattle.cp_model.specs.declared.tree.Index.{Index}
use Rattle.cp_model.specs.declared.tree.Selector.TheVariants as tree
use Rattle.cp_model.specs.Names.{lookup}
use Rattle.cp_model.specs.Syntax as s
use Rattle.cp_model.specs.Types.{GlobalScope}
use Rattle.cp_model_program.specs.Layout.{local, local_at, local_words, locals}
use Rattle.cp_law_typing.specs.Needs.{result_words, some_environment}
use Rattle.cp_model_program.specs.Scopes as code
use Rattle.cp_model_program.specs.Scopes.{environment, local_in, routine_index}
use Rattle.cp_compile_symbols.specs.declared.locals.Local.{Local}
use Rattle.cp_compile_symbols.specs.declared.scope.Callee.{Callee}
use Rattle.cp_compile_symbols.specs.declared.scope.Scope.{Scope}
use Rattle.cp_compile_symbols.specs.declared.systems.Component.{Component}
use Rattle.cp_compile_symbols.specs.declared.systems.SystemTable.{SystemTable}
use Rattle.cp_compile_symbols.specs.Locals.{LocalIs}
use Rattle.cp_compile_symbols.specs.declared.routines.RoutineTable.{RoutineTable}
use Rattle.cp_compile_symbols.specs.declared.systems.IndexedRoutine.{IndexedRoutine}
use Rattle.cp_compile_symbols.specs.declared.types.Types.{Types}
use Rattle.cp_compile_symbols.specs.Routines.{RoutineRepresents}
use Rattle.cp_compile_symbols.specs.Designators.{Selects}
use Rattle.cp_compile_symbols.specs.Scopes.{CalleeIs, IsScope}
use Rattle.cp_compile_symbols.specs.Systems.{AreRoutines, ComponentIs, RoutineFound, RoutineIs, component_among, routine_number}
use Rattle.cp_compile_symbols.proofs.SystemsMade.{has_table, lacks_no_table}
use Rattle.cp_compile_symbols.specs.Variables.{parameters_of, variables_of}

-- ---- Designators that call nothing

-- A designator that is neither a bare name nor a field of a bare name.
abbrev pub IsDeep : a.Designator → Type 0
IsDeep (a.Plain x) = ⊥
IsDeep (a.Part (a.Plain y) x) = ⊥
IsDeep d = Unit {0}

pub deep_calls_nothing : (env : Environment) (d : a.Designator) → IsDeep d → callee env d ≡ None
deep_calls_nothing env (a.Plain x) deep = absurd deep
deep_calls_nothing env (a.Part (a.Plain y) x) deep = absurd deep
deep_calls_nothing env (a.Part (a.Part d y) x) deep = refl
deep_calls_nothing env (a.Part (a.At d e) x) deep = refl
deep_calls_nothing env (a.At d e) deep = refl

deep_part : (d : a.Designator) (x : Name) → IsDeep d → IsDeep (a.Part d x)
deep_part (a.Plain y) x deep = absurd deep
deep_part (a.Part d y) x deep = tt
deep_part (a.At d e) x deep = tt

deep_indexed : (d : a.Designator) (is : s.Indices) → IsDeep d → IsDeep (erase.with_indices d is)
deep_indexed d s.NoIndices deep = deep
deep_indexed d (s.MoreIndices at e is) deep = deep_indexed (a.At d (erase.expression e)) is tt

pub deep_selected : (d : a.Designator) (ss : s.Selectors) → IsDeep d → IsDeep (erase.with_selectors d ss)
deep_selected d s.NoSelectors deep = deep
deep_selected d (s.MoreSelectors (s.Field at x) ss) deep = deep_selected (a.Part d x.name) ss (deep_part d x.name deep)
deep_selected d (s.MoreSelectors (s.Indexed is) ss) deep = deep_selected (erase.with_indices d is) ss (deep_indexed d is deep)

deep_select : (d : a.Designator) (y : s.Selector) → IsDeep d → IsDeep (erase.select d y)
deep_select d (s.Field at x) deep = deep_part d x.name deep
deep_select d (s.Indexed is) deep = deep_indexed d is deep

-- A part of a part is deep.
deep_second : (x y : Name) (z : s.Selector) → Selects z → IsDeep (erase.select (a.Part (a.Plain x) y) z)
deep_second x y (s.Field at z) selects = tt
deep_second x y (s.Indexed s.NoIndices) selects = absurd selects
deep_second x y (s.Indexed (s.MoreIndices at e is)) selects = deep_indexed (a.At (a.Part (a.Plain x) y) (erase.expression e)) is tt

deep_twice : (x : Name) (y z : s.Selector) → Selects y → Selects z → IsDeep (erase.select (erase.select (a.Plain x) y) z)
deep_twice x (s.Field at y) z first second = deep_second x y.name z second
deep_twice x (s.Indexed s.NoIndices) z first second = absurd first
deep_twice x (s.Indexed (s.MoreIndices at e is)) z first second =
    deep_select (erase.with_indices (a.At (a.Plain x) (erase.expression e)) is) z (deep_indexed (a.At (a.Plain x) (erase.expression e)) is tt)

index_calls_nothing : (env : Environment) (x : Name) (is : s.Indices) → Selects (s.Indexed is)
    → callee env (erase.with_indices (a.Plain x) is) ≡ None
index_calls_nothing env x s.NoIndices selects = absurd selects
index_calls_nothing env x (s.MoreIndices at e is) selects =
    deep_calls_nothing env (erase.with_indices (a.At (a.Plain x) (erase.expression e)) is) (deep_indexed (a.At (a.Plain x) (erase.expression e)) is tt)

pub indexed_calls_nothing : (env : Environment) (x : Name) (v : Vec Index Global) → Selects (view.selector (tree.Indexed v))
    → callee env (erase.select (a.Plain x) (view.selector (tree.Indexed v))) ≡ None
indexed_calls_nothing env x v selects =
    let is = view.indices_of (map view.index v.items) in
    subst (λ y. callee env (erase.select (a.Plain x) y) ≡ None) (sym (view_indexed v))
    (index_calls_nothing env x is (subst Selects (view_indexed v) selects))

pub two_call_nothing : (env : Environment) (x : Name) (y z : s.Selector) (ss : s.Selectors) → Selects y → Selects z
    → callee env (erase.with_selectors (a.Plain x) (s.MoreSelectors y (s.MoreSelectors z ss))) ≡ None
two_call_nothing env x y z ss first second =
    deep_calls_nothing env (erase.with_selectors (erase.select (erase.select (a.Plain x) y) z) ss)
    (deep_selected (erase.select (erase.select (a.Plain x) y) z) ss (deep_twice x y z first second))

-- ---- Locals

-- A name has a place among the locals if and only if it is declared.
pub lies_if_declared : (g : GlobalScope) (at : ℕ) (vs : List (Name × Variable)) (x : Name) → is_some (local_at g at vs x) ≡ is_some (lookup x vs)
lies_if_declared g at [] x = refl
lies_if_declared g at (v ∷ vs) x = go (bytes_eq x v.0) (lies_if_declared g (at + local_words g v.1) vs x)
  where
    go : (b : Bool) → is_some (local_at g (at + local_words g v.1) vs x) ≡ is_some (lookup x vs)
        → is_some (if b then Some (at, v.1) else local_at g (at + local_words g v.1) vs x) ≡ is_some (if b then Some v.1 else lookup x vs)
    go true h = refl
    go false h = h

pub local_known : (g : GlobalScope) (y : System) (r : Option Routine) (x : Name)
    → is_local g (some_environment g y r).frame x ≡ is_some (elim r [ None ↦ None | Some q ↦ local g q x ])
local_known g y None x = refl
local_known g y (Some r) x = sym (lies_if_declared g (result_words r.result) (locals g r) x)

both_some : (types : Types) (f : Option Local) (v : Option (ℕ × Variable)) → LocalIs types f v → is_some f ≡ is_some v
both_some types None None h = refl
both_some types (Some f) (Some v) h = refl
both_some types None (Some v) h = absurd h
both_some types (Some f) None h = absurd h

-- A name is that of a local if and only if one is found.
pub is_local_found : (types : Types) (s : code.Scope) (x : Name) (f : Option Local) → LocalIs types f (local_in s x)
    → is_local s.globals (environment s).frame x ≡ is_some f
is_local_found types s x f h = local_known s.globals s.system s.routine x ∙ sym (both_some types f (local_in s x) h)

pub local_calls_nothing : (s : code.Scope) (x : Name) → is_local s.globals (environment s).frame x ≡ true
    → callee (environment s) (a.Plain x) ≡ None
local_calls_nothing s x is = rw (is, callee) refl

-- ---- Routines

-- The first routine named `x` in `rs` has the number `k`, if the first routine of the list has the
-- number `n`.
pub record IsAmong (x : Name) (n k : ℕ) (rs : List Routine) : Type 0 where
  pub routine : Routine
  pub before : ℕ
  pub number : k ≡ n + before
  pub found : find (λ r. bytes_eq x r.name) rs ≡ Some routine
  pub there : slice_get rs before ≡ Some routine
  pub index : routine_index x rs ≡ before
  pub name : bytes_eq x routine.name ≡ true

abbrev pub Sought : Name → ℕ → List Routine → Option ℕ → Type 0
Sought x n rs None = find (λ r. bytes_eq x r.name) rs ≡ None
Sought x n rs (Some k) = IsAmong x n k rs

abbrev later : Name → ℕ → Routine → List Routine → Option ℕ → Type 0
later x n r rs o = bytes_eq x r.name ≡ false → Sought x (suc n) rs o → Sought x n (r ∷ rs) o

sought_later : (x : Name) (n : ℕ) (r : Routine) (rs : List Routine) (o : Option ℕ) → later x n r rs o
sought_later x n r rs None other h = rw other h
sought_later x n r rs (Some k) other h = record {
  routine = h.routine;
  before = suc h.before;
  number = omega (arith, h.number);
  found = rw other h.found;
  there = h.there;
  index = rw (other, h.index) refl;
  name = h.name;
}

pub sought : (x : Name) (n : ℕ) (rs : List Routine) → Sought x n rs (routine_number x n rs)
sought x n [] = refl
sought x n (r ∷ rs) = go (bytes_eq x r.name) refl (sought x (suc n) rs)
  where
    go : (b : Bool) → bytes_eq x r.name ≡ b → Sought x (suc n) rs (routine_number x (suc n) rs)
        → Sought x n (r ∷ rs) (if b then Some n else routine_number x (suc n) rs)
    go true is h = record {
      routine = r;
      before = 0;
      number = omega arith;
      found = rw is refl;
      there = refl;
      index = rw is refl;
      name = is;
    }
    go false is h = sought_later x n r rs (routine_number x (suc n) rs) is h

pub routine_represents : (g : GlobalScope) (types : Types) (ts : List RoutineTable) (rs : List Routine) (k : ℕ) (t : RoutineTable) (r : Routine)
    → AreRoutines g types ts rs → slice_get ts k ≡ Some t → slice_get rs k ≡ Some r → RoutineRepresents g types t r
routine_represents g types [] [] k t r all here there = absurd (cc)
routine_represents g types (u ∷ ts) [] k t r all here there = absurd all
routine_represents g types [] (q ∷ rs) k t r all here there = absurd all
routine_represents g types (u ∷ ts) (q ∷ rs) zero t r all here there =
    subst (RoutineRepresents g types t) (same_Some q r there) (subst (λ (v : RoutineTable). RoutineRepresents g types v q) (same_Some u t here) all.0)
routine_represents g types (u ∷ ts) (q ∷ rs) (suc k) t r all here there = routine_represents g types ts rs k t r all.1 here there

pub routine_found : (g : GlobalScope) (types : Types) (ts : List RoutineTable) (rs : List Routine) (x : Name) (f : IndexedRoutine)
    → AreRoutines g types ts rs → routine_number x 0 rs ≡ Some f.index → slice_get ts f.index ≡ Some f.table.now
    → RoutineIs g types rs (Some f) (find (λ r. bytes_eq x r.name) rs)
routine_found g types ts rs x f all number here =
    let a : IsAmong x 0 f.index rs = subst (Sought x 0 rs) number (sought x 0 rs) in
    let place : f.index ≡ a.before = omega (arith, a.number) in
    subst (RoutineIs g types rs (Some f)) (sym a.found)
    (record {
      table = routine_represents g types ts rs a.before f.table.now a.routine all (subst (λ k. slice_get ts k ≡ Some f.table.now) place here) a.there;
      index = subst (λ y. routine_index y rs ≡ f.index) ((bytes_eq-Decides x a.routine.name).0 a.name) (a.index ∙ sym place);
    })

-- Each routine has a table.
table_there : (g : GlobalScope) (types : Types) (ts : List RoutineTable) (rs : List Routine) (k : ℕ) (r : Routine)
    → AreRoutines g types ts rs → slice_get rs k ≡ Some r → slice_get ts k ≡ None → ⊥
table_there g types [] [] k r all there none = absurd (cc)
table_there g types (u ∷ ts) [] k r all there none = absurd all
table_there g types [] (q ∷ rs) k r all there none = absurd all
table_there g types (u ∷ ts) (q ∷ rs) zero r all there none = absurd (cc)
table_there g types (u ∷ ts) (q ∷ rs) (suc k) r all there none = table_there g types ts rs k r all.1 there none

-- So a routine whose name has a number isn't missing.
pub not_missing : (g : GlobalScope) (types : Types) (ts : List RoutineTable) (rs : List Routine) (x : Name) (k : ℕ)
    → AreRoutines g types ts rs → routine_number x 0 rs ≡ Some k → slice_get ts k ≡ None
    → RoutineIs g types rs None (find (λ r. bytes_eq x r.name) rs)
not_missing g types ts rs x k all number none =
    let a : IsAmong x 0 k rs = subst (Sought x 0 rs) number (sought x 0 rs) in
    let place : k ≡ a.before = omega (arith, a.number) in
    absurd (table_there g types ts rs a.before a.routine all a.there (subst (λ j. slice_get ts j ≡ None) place none))

pub not_found : (g : GlobalScope) (types : Types) (rs : List Routine) (x : Name) → routine_number x 0 rs ≡ None
    → RoutineIs g types rs None (find (λ r. bytes_eq x r.name) rs)
not_found g types rs x none = subst (RoutineIs g types rs None) (sym (subst (Sought x 0 rs) none (sought x 0 rs))) tt

-- ---- Calls

abbrev pub called_own : IndexedRoutine → Callee
called_own r = record { routine = r; of = None }

abbrev pub called_of : Component → IndexedRoutine → Callee
called_of f r = record { routine = r; of = Some f }

pub own_called : (scope : Scope) (s : code.Scope) → IsScope scope s → (x : Name) (found : Option IndexedRoutine)
    → is_local s.globals (environment s).frame x ≡ false → RoutineFound scope.system.now x found
    → CalleeIs scope s (option_map called_own found) (callee (environment s) (a.Plain x))
own_called scope s i x found other finds =
    rw (other, callee)
    (go found (routine_named x s.system)
    (subst (λ rs. RoutineIs s.globals scope.tables.now.types rs found (find (λ r. bytes_eq x r.name) rs)) (sym i.written.routines)
    (finds s.globals scope.tables.now.types i.parameters i.variables i.routines i.system)))
  where
    go : (f : Option IndexedRoutine) (o : Option Routine) → RoutineIs s.globals scope.tables.now.types s.system.routines f o
        → CalleeIs scope s (option_map called_own f) (elim o [ None ↦ None | Some r ↦ Some (record { routine = r; of = None }) ])
    go None None h = tt
    go (Some f) (Some r) h = record { routine = h; of = tt }
    go None (Some r) h = absurd h
    go (Some f) None h = absurd h

-- The component that is found is the one that the name means.
pub component_known : (scope : Scope) (s : code.Scope) (i : IsScope scope s) (x : Name) (found : Option Component)
    → ComponentIs scope.tables.now.types (parameters_of s.globals i.parameters) (variables_of s.globals i.variables) found
    (component_among (parameters_of s.globals i.parameters) (variables_of s.globals i.variables) x)
    → ComponentIs scope.tables.now.types (declarations s.globals s.system.parameters) (declarations s.globals s.system.variables) found
    (component_named (environment s) x)
component_known scope s i x found h =
    let types = scope.tables.now.types in
    let g = s.globals in
    let vs = variables_of g i.variables in
    let with_parameters = subst (λ ps. ComponentIs types (declarations g ps) vs found (component_among (declarations g ps) vs x)) (sym i.written.parameters) h in
    subst (λ ws. ComponentIs types (declarations g s.system.parameters) (declarations g ws) found (component_among (declarations g s.system.parameters) (declarations g ws) x))
    (sym i.written.variables) with_parameters

abbrev called_in : Name → Option components.Component → Option calls.Callee
called_in y None = None
called_in y (Some c) = elim (routine_named y c.system) [ None ↦ None | Some r ↦ Some (record { routine = r; of = Some c }) ]

pub no_component_called : (scope : Scope) (s : code.Scope) (x y : Name)
    → ComponentIs scope.tables.now.types (declarations s.globals s.system.parameters) (declarations s.globals s.system.variables) None
    (component_named (environment s) x)
    → callee (environment s) (a.Part (a.Plain x) y) ≡ None
no_component_called scope s x y none = go (component_named (environment s) x) none
  where
    go : (o : Option components.Component)
        → ComponentIs scope.tables.now.types (declarations s.globals s.system.parameters) (declarations s.globals s.system.variables) None o
        → called_in y o ≡ None
    go None h = refl
    go (Some c) h = absurd h

-- The component that a name means has a table.
pub component_tabled : (scope : Scope) (s : code.Scope) → IsScope scope s → (x : Name) (f : Component)
    → ComponentIs scope.tables.now.types (declarations s.globals s.system.parameters) (declarations s.globals s.system.variables) (Some f)
    (component_named (environment s) x)
    → slice_get scope.tables.now.systems.items f.system ≡ None → ⊥
component_tabled scope s i x f named none = go (component_named (environment s) x) named
  where
    go : (o : Option components.Component)
        → ComponentIs scope.tables.now.types (declarations s.globals s.system.parameters) (declarations s.globals s.system.variables) (Some f) o → ⊥
    go None h = h
    go (Some c) h = lacks_no_table s.globals scope.tables.now.types scope.tables.now.systems.items f.system h.text i.systems h.there none

pub component_called : (scope : Scope) (s : code.Scope) → IsScope scope s → (x y : Name) (f : Component) (table : SystemTable) (r : Option IndexedRoutine)
    → ComponentIs scope.tables.now.types (declarations s.globals s.system.parameters) (declarations s.globals s.system.variables) (Some f)
    (component_named (environment s) x)
    → slice_get scope.tables.now.systems.items f.system ≡ Some table → RoutineFound table y r
    → CalleeIs scope s (option_map (called_of f) r) (callee (environment s) (a.Part (a.Plain x) y))
component_called scope s i x y f table r named here finds = go (component_named (environment s) x) named
  where
    one : (c : components.Component)
        → ComponentIs scope.tables.now.types (declarations s.globals s.system.parameters) (declarations s.globals s.system.variables) (Some f) (Some c)
        → (q : Option IndexedRoutine) (o : Option Routine) → RoutineIs s.globals scope.tables.now.types c.system.routines q o
        → CalleeIs scope s (option_map (called_of f) q) (elim o [ None ↦ None | Some r ↦ Some (record { routine = r; of = Some c }) ])
    one c is None None h = tt
    one c is (Some q) (Some o) h = record { routine = h; of = is }
    one c is None (Some o) h = absurd h
    one c is (Some q) None h = absurd h

    go : (o : Option components.Component)
        → ComponentIs scope.tables.now.types (declarations s.globals s.system.parameters) (declarations s.globals s.system.variables) (Some f) o
        → CalleeIs scope s (option_map (called_of f) r) (called_in y o)
    go None h = absurd h
    go (Some c) h =
        let types = scope.tables.now.types in
        let text = h.text.now in
        let represents = has_table s.globals types scope.tables.now.systems.items f.system h.text table i.systems h.there here in
        let found = finds s.globals types text.parameters.items text.variables.items text.routines.items represents in
        one c h r (routine_named y c.system)
        (subst (λ (z : System). RoutineIs s.globals types z.routines r (find (λ q. bytes_eq y q.name) z.routines)) h.system found)
