-- Components are made one after another.
use Rattle.std.proofs.Common.{◌≡◌, ◌∷◌, ◌++◌, ◌+◌, ◌∙◌, suc, Bool, true, false, ℕ, List, [], None, Some, Bor, ap, append_assoc, arith, if◌then◌else◌, length, map, refl, slice_get, subst, sym}
use Rattle.std.proofs.lemmas.Option.{same_Some}
use Rattle.std.proofs.lemmas.List.{append-nil, length-map}
use Rattle.cp_model.specs.Abstract as a
use Rattle.cp_model.specs.Abstract.{Group, Name, Sort}
use Rattle.cp_model.specs.Components.{is_component_of}
use Rattle.cp_model.specs.Declarations.{Variable}
use Rattle.cp_model.specs.Erase as erase
use Rattle.cp_model.specs.Names.{lookup}
use Rattle.cp_model.specs.Types.{ArrayOf, ComponentOf, GlobalScope, Members, NoType, Queue, RecordOf, ResolvedType, Simple}
use Rattle.cp_model.specs.View as tree
use Rattle.cp_model.specs.declared.tree.Fields.{Fields}
use Rattle.cp_model.specs.declared.tree.Parameters.{Parameters}
use Rattle.cp_model.specs.declared.tree.Routine as tree_routine
use Rattle.cp_model.specs.declared.tree.System as tree_system
use Rattle.cp_law_typing.specs.Words.{words_of_members}
use Rattle.cp_model_program.specs.Compile as code
use Rattle.cp_model_program.specs.Compile.{of_sort, owner_before, owners_of, waiting_words}
use Rattle.cp_model_program.specs.Layout.{component_words}
use Rattle.cp_compile_emit.specs.ComponentPlans.{table_fits}
use Rattle.cp_model_program.specs.Plans.{plan_of_component}
use Rattle.cp_model_program.specs.Scopes.{declared_type, or_zero}
use Rattle.cp_compile_symbols.specs.declared.systems.SystemTable.{SystemTable}
use Rattle.cp_compile_symbols.specs.declared.types.Types.{Types}
use Rattle.cp_compile_symbols.specs.Numbering.{system_of}
use Rattle.cp_compile_symbols.specs.Representing.{Represents, row_at, system_at}
use Rattle.cp_compile_symbols.proofs.SystemsMade.{has_table, lacks_no_table}
use Rattle.cp_compile_symbols.specs.declared.variables.Declared.{Declared}
use Rattle.cp_compile_symbols.specs.Components.{own_members}
use Rattle.cp_compile_symbols.specs.Layouts.{rights_of}
use Rattle.cp_compile_symbols.specs.Scopes.{IsWritten}
use Rattle.cp_compile_symbols.specs.Variables.{AreDeclared, Entry, declared_entry, parameters_of}
use Rattle.cp_model_program.specs.Programs.{StartPlan}
use Rattle.cp_compile.specs.declared.components.Owner.{Owner}
use Rattle.cp_compile.specs.declared.components.InitialCompiler.{InitialCompiler}
use Rattle.cp_compile.specs.CompiledComponents.{AreOwners, IsInitial, IsOwner, OwnerIs, PutsOwner}

-- ---- System types

-- A type whose row is that of a component type is a component type.
pub component_there : (types : Types) (n k : ℕ) (t : ResolvedType) → Represents types n t → system_of (row_at types n) ≡ Some k
    → (s : a.System) × (ms : Members) × (t ≡ ComponentOf s ms) × (b : Bor tree_system.System) × (system_at types k ≡ Some b) × (erase.system (tree.system b.now) ≡ s)
component_there types n k (Simple b low high start) h is = absurd (let no = sym (ap system_of h.1) ∙ is in cc)
component_there types n k (ArrayOf low high t) h is = absurd (let no = sym (ap system_of h.1) ∙ is in cc)
component_there types n k (RecordOf ms) h is = absurd (let no = sym (ap system_of h.1) ∙ is in cc)
component_there types n k Queue h is = absurd (let no = sym (ap system_of h) ∙ is in cc)
component_there types n k NoType h is = absurd (let no = sym (ap system_of h) ∙ is in cc)
component_there types n k (ComponentOf s ms) h is =
    let same : h.0 ≡ k = same_Some h.0 k (sym (ap system_of h.3) ∙ is) in
    (s, ms, refl, h.2, subst (λ i. system_at types i ≡ Some h.2) same h.4, h.5)

pub declared_count : (types : Types) (ds : List Entry) (vs : List (Name × Variable)) → AreDeclared types ds vs → length ds ≡ length vs
declared_count types [] [] h = refl
declared_count types (d ∷ ds) (v ∷ vs) h = ap suc (declared_count types ds vs h.3)
declared_count types [] (v ∷ vs) h = absurd h
declared_count types (d ∷ ds) [] h = absurd h

-- ---- Owners

pub owners_behind : (firsts : List (Name × ℕ)) (groups : List Group) (vs ws : List (Name × Variable))
    → owners_of firsts groups (vs ++ ws) ≡ owners_of firsts groups vs ++ owners_of firsts groups ws
owners_behind firsts groups [] ws = refl
owners_behind firsts groups (v ∷ vs) ws = go v.1.type (owners_behind firsts groups vs ws)
  where
    go : (t : ResolvedType) → owners_of firsts groups (vs ++ ws) ≡ owners_of firsts groups vs ++ owners_of firsts groups ws
        → owner_before firsts groups (v.0, record v.1 { type = t }) (owners_of firsts groups (vs ++ ws))
        ≡ owner_before firsts groups (v.0, record v.1 { type = t }) (owners_of firsts groups vs) ++ owners_of firsts groups ws
    go (Simple b low high start) h = h
    go (ArrayOf low high t) h = h
    go (RecordOf ms) h = h
    go Queue h = h
    go NoType h = h
    go (ComponentOf s ms) h = ap (λ (xs : List code.Owner). record { system = s; body = or_zero (lookup (declared_type v.0 groups) firsts) + length s.routines } ∷ xs) h

pub sort_behind : (s : Sort) (v : Name × Variable) (vs : List (Name × Variable)) → of_sort s (v ∷ vs) ≡ of_sort s (v ∷ []) ++ of_sort s vs
sort_behind s v vs = go (is_component_of s v.1.type)
  where
    go : (b : Bool) → (if b then v ∷ of_sort s vs else of_sort s vs) ≡ (if b then v ∷ [] else []) ++ of_sort s vs
    go true = refl
    go false = refl

pub one_owner : (plans : List StartPlan) (g : GlobalScope) (os : List Owner) (xs : List code.Owner) (o : Owner) (x : code.Owner) → AreOwners plans g os xs
    → OwnerIs plans g o x → AreOwners plans g (os ++ o ∷ []) (xs ++ x ∷ [])
one_owner plans g [] [] o x are is = (is, tt)
one_owner plans g (p ∷ os) (y ∷ xs) o x are is = (are.0, one_owner plans g os xs o x are.1 is)
one_owner plans g [] (y ∷ xs) o x are is = absurd are
one_owner plans g (p ∷ os) [] o x are is = absurd are

-- The components so far and those among the remaining variables are all components.
pub record PartlyOwned (plans : List StartPlan) (g : GlobalScope) (types : Types) (firsts : List (Name × ℕ)) (groups : List Group) (s : Sort) (left : List Entry)
    (all : List code.Owner) (owners : List Owner) : Type 0 where
  pub others : List (Name × Variable)
  pub represent : AreDeclared types left others
  pub so_far : List code.Owner
  pub are : AreOwners plans g owners so_far
  pub rest : so_far ++ owners_of firsts groups (of_sort s others) ≡ all

-- ---- Words

pub component_counted : (g : GlobalScope) (s : a.System) (ps : List Parameters) (vs : List Fields) (rs : List tree_routine.Routine) → IsWritten s ps vs rs
    → suc (rights_of g ps) + words_of_members g (own_members g ps vs) ≡ component_words g s
component_counted g s ps vs rs is = rw (is.parameters, is.variables) refl

pub waiting_counted : (g : GlobalScope) (types : Types) (s : a.System) (ps : List Parameters) (vs : List Fields) (rs : List tree_routine.Routine) (ds : List Declared)
    (n : ℕ) → IsWritten s ps vs rs → AreDeclared types (map declared_entry ds) (parameters_of g ps) → n ≡ length ds → n + 1 ≡ waiting_words g s
waiting_counted g types s ps vs rs ds n is declared count =
    let same = sym (length-map ds declared_entry) ∙ declared_count types (map declared_entry ds) (parameters_of g ps) declared in
    rw is.parameters (omega (arith, count, same))

-- A variable that is a component, with the unit of its body.
pub component_put : (of : InitialCompiler) (plans : List StartPlan) (g : GlobalScope) (firsts : List (Name × ℕ)) (groups : List Group) (vs : List (Name × Variable))
    (v : Name × Variable) → IsInitial of plans g firsts groups vs → (k : ℕ) (text : Bor tree_system.System) (table : SystemTable) (n : ℕ) (o : Owner) (body : ℕ)
    → system_at of.tables.now.types k ≡ Some text → slice_get of.tables.now.systems.items k ≡ Some table
    → body ≡ or_zero (lookup (declared_type v.0 groups) firsts) + length text.now.routines.items → Represents of.tables.now.types n v.1.type
    → system_of (row_at of.tables.now.types n) ≡ Some k → IsOwner table body (of.plans + k) o → PutsOwner plans g firsts groups v o
component_put of plans g firsts groups vs v i k text table n o body text_is table_is body_is represents number is =
    let there = component_there of.tables.now.types n k v.1.type represents number in
    let same : there.3 ≡ text = same_Some there.3 text (sym there.4 ∙ text_is) in
    let erased : erase.system (tree.system text.now) ≡ there.0 = subst (λ (b : Bor tree_system.System). erase.system (tree.system b.now) ≡ there.0) same there.5 in
    let ps = text.now.parameters.items in
    let ws = text.now.variables.items in
    let rs = text.now.routines.items in
    let written : IsWritten there.0 ps ws rs = subst (λ (s : a.System). IsWritten s ps ws rs) erased (record { parameters = refl; variables = refl; routines = refl }) in
    let count : length text.now.routines.items ≡ length there.0.routines =
    sym (length-map rs tree.routine) ∙ sym (length-map (map tree.routine rs) erase.routine) ∙ ap (λ (s : a.System). length s.routines) erased in
    let plan = λ (fits : table_fits table ≡ true). i.planned k text table text_is table_is fits ∙ ap (plan_of_component g) erased in
    let own = is plans g of.tables.now.types there.0 ps ws rs (has_table g of.tables.now.types of.tables.now.systems.items k text table i.systems text_is table_is) written plan in
    let x : code.Owner = record { system = there.0; body = or_zero (lookup (declared_type v.0 groups) firsts) + length there.0.routines } in (
      x,
      λ rest. ap (λ t. owner_before firsts groups (v.0, record v.1 { type = t }) rest) there.2,
      record {
        body = own.body ∙ body_is ∙ ap (λ m. or_zero (lookup (declared_type v.0 groups) firsts) + m) count;
        words = own.words;
        waiting = own.waiting;
        plan = own.plan;
      },
    )

-- A component of a sort has a system type, which has a table.
pub owner_has_table : (of : InitialCompiler) (plans : List StartPlan) (g : GlobalScope) (firsts : List (Name × ℕ)) (groups : List Group) (vs : List (Name × Variable))
    → IsInitial of plans g firsts groups vs → (n k : ℕ) (t : ResolvedType) → Represents of.tables.now.types n t
    → system_of (row_at of.tables.now.types n) ≡ Some k → slice_get of.tables.now.systems.items k ≡ None → ⊥
owner_has_table of plans g firsts groups vs i n k t represents number none =
    let there = component_there of.tables.now.types n k t represents number in
    lacks_no_table g of.tables.now.types of.tables.now.systems.items k there.3 i.systems there.4 none

pub owner_has_type : (types : Types) (n k : ℕ) (t : ResolvedType) → Represents types n t → system_of (row_at types n) ≡ Some k → system_at types k ≡ None → ⊥
owner_has_type types n k t represents number none = (let there = component_there types n k t represents number in let some = there.4 in cc)

pub owner_has_number : (types : Types) (n : ℕ) (s : Sort) (t : ResolvedType) → Represents types n t → is_component_of s t ≡ true
    → system_of (row_at types n) ≡ None → ⊥
owner_has_number types n s (Simple b low high start) h own none = (cc)
owner_has_number types n s (ArrayOf low high t) h own none = (cc)
owner_has_number types n s (RecordOf ms) h own none = (cc)
owner_has_number types n s Queue h own none = (cc)
owner_has_number types n s NoType h own none = (cc)
owner_has_number types n s (ComponentOf y ms) h own none = (let some = ap system_of h.3 in cc)

-- ---- One variable

pub no_owner : (plans : List StartPlan) (g : GlobalScope) (firsts : List (Name × ℕ)) (groups : List Group) (s : Sort) (v : Name × Variable) (os : List Owner)
    (before : List code.Owner) → is_component_of s v.1.type ≡ false → AreOwners plans g os before
    → AreOwners plans g os (before ++ owners_of firsts groups (of_sort s (v ∷ [])))
no_owner plans g firsts groups s v os before other are =
    subst (λ vs. AreOwners plans g os (before ++ owners_of firsts groups vs)) (sym (ap (λ b. if b then v ∷ [] else []) other))
    (subst (AreOwners plans g os) (sym (append-nil before)) are)

pub one_put : (plans : List StartPlan) (g : GlobalScope) (firsts : List (Name × ℕ)) (groups : List Group) (s : Sort) (v : Name × Variable) (os : List Owner)
    (before : List code.Owner) (o : Owner) → is_component_of s v.1.type ≡ true → AreOwners plans g os before → PutsOwner plans g firsts groups v o
    → AreOwners plans g (os ++ o ∷ []) (before ++ owners_of firsts groups (of_sort s (v ∷ [])))
one_put plans g firsts groups s v os before o own are put =
    subst (λ vs. AreOwners plans g (os ++ o ∷ []) (before ++ owners_of firsts groups vs)) (sym (ap (λ b. if b then v ∷ [] else []) own))
    (subst (λ xs. AreOwners plans g (os ++ o ∷ []) (before ++ xs)) (sym (put.1 [])) (one_owner plans g os before o put.0 are put.2))

-- One variable more.
pub one_owned : (plans : List StartPlan) (g : GlobalScope) (types : Types) (firsts : List (Name × ℕ)) (groups : List Group) (s : Sort) (d : Entry) (left : List Entry)
    (all : List code.Owner) (os ps : List Owner) → PartlyOwned plans g types firsts groups s (d ∷ left) all os
    → ((v : Variable) (xs : List code.Owner) → Represents types d.1.1 v.type → AreOwners plans g os xs
    → AreOwners plans g ps (xs ++ owners_of firsts groups (of_sort s ((d.0, v) ∷ []))))
    → PartlyOwned plans g types firsts groups s left all ps
one_owned plans g types firsts groups s d left all os ps some one = go some.others some.represent some.rest
  where
    go : (others : List (Name × Variable)) → AreDeclared types (d ∷ left) others → some.so_far ++ owners_of firsts groups (of_sort s others) ≡ all
        → PartlyOwned plans g types firsts groups s left all ps
    go [] represent rest = absurd represent
    go (v ∷ vs) represent rest = record {
      others = vs;
      represent = represent.3;
      so_far = some.so_far ++ owners_of firsts groups (of_sort s (v ∷ []));
      are = subst (λ x. AreOwners plans g ps (some.so_far ++ owners_of firsts groups (of_sort s ((x, v.1) ∷ [])))) represent.0 (one v.1 some.so_far represent.2 some.are);
      rest =
          append_assoc some.so_far (owners_of firsts groups (of_sort s (v ∷ []))) (owners_of firsts groups (of_sort s vs))
          ∙ ap (λ xs. some.so_far ++ xs) (sym (owners_behind firsts groups (of_sort s (v ∷ [])) (of_sort s vs)) ∙ ap (owners_of firsts groups) (sym (sort_behind s v vs)))
          ∙ rest;
    }

pub all_owned : (plans : List StartPlan) (g : GlobalScope) (types : Types) (firsts : List (Name × ℕ)) (groups : List Group) (s : Sort) (left : List Entry)
    (all : List code.Owner) (os : List Owner) → left ≡ [] → PartlyOwned plans g types firsts groups s left all os → AreOwners plans g os all
all_owned plans g types firsts groups s left all os none some =
    go some.others (subst (λ ds. AreDeclared types ds some.others) none some.represent) some.rest
  where
    go : (others : List (Name × Variable)) → AreDeclared types [] others → some.so_far ++ owners_of firsts groups (of_sort s others) ≡ all → AreOwners plans g os all
    go [] represent rest = subst (AreOwners plans g os) (sym (append-nil some.so_far) ∙ rest) some.are
    go (v ∷ vs) represent rest = absurd represent
