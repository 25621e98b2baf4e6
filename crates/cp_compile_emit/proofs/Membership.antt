-- Declared names as members, and the plans of both.
use Rattle.std.proofs.Common.{◌≡◌, ◌∙◌, ◌+◌, ℕ, List, [], ◌∷◌, ◌++◌, Option, None, Some, Bool, true, false, ap, refl, sym, subst, arith, append_assoc, filter, length, map, if◌then◌else◌}
use Rattle.std.specs.Prelude.{is_none, is_some, not}
use Rattle.cp_model.specs.Abstract.{Name, Routine}
use Rattle.cp_model.specs.Declarations.{Variable, declarations, is_component, members_from}
use Rattle.cp_model.specs.Types.{ArrayOf, ComponentOf, GlobalScope, Members, NoMembers, NoType, Queue, RecordOf, ResolvedType, Simple}
use Rattle.cp_law_typing.specs.Words.{words}
use Rattle.cp_model_program.specs.Plans.{fill_before, placed, placed_variables, plan, plan_of_parts, plan_of_result, plan_of_routine}
use Rattle.cp_model_program.specs.Layout.{local_words, locals_words}
use Rattle.cp_model_program.specs.Programs.{StartPlan}
use Rattle.cp_model_program.specs.Starts.{unset}
use Rattle.cp_law_typing.specs.Needs.{result_words}
use Rattle.cp_compile_symbols.specs.declared.types.Types.{Types}
use Rattle.cp_compile_symbols.specs.declared.types.Field.{Field}
use Rattle.cp_compile_symbols.specs.declared.variables.Declared.{Declared}
use Rattle.cp_compile_symbols.specs.Numbering.{system_of}
use Rattle.cp_compile_symbols.specs.Representing.{AreMembers, Represents, entry, row_at}
use Rattle.cp_compile_symbols.specs.Variables.{AreDeclared, declared_entry}
use Rattle.cp_compile_emit.specs.Members.{is_own, member_of, own_of}

-- ---- Lists

pub one_added : (fields : List Field) (f : Field) (d : Declared) (rest : List (Name × ℕ)) → entry f ≡ member_of d
    → map entry (fields ++ f ∷ []) ++ rest ≡ map entry fields ++ member_of d ∷ rest
one_added [] f d rest is = ap (λ x. x ∷ rest) is
one_added (y ∷ ys) f d rest is = ap (λ xs. entry y ∷ xs) (one_added ys f d rest is)

pub keeps_one : (types : Types) (kept more : List Declared) (d : Declared) (rest : List Declared)
    → more ≡ (if is_own types d then kept ++ d ∷ [] else kept) → more ++ own_of types rest ≡ kept ++ own_of types (d ∷ rest)
keeps_one types kept more d rest is =
    ap (λ ds. ds ++ own_of types rest) is ∙ go (is_own types d)
  where
    go : (b : Bool) → (if b then kept ++ d ∷ [] else kept) ++ own_of types rest ≡ kept ++ (if b then d ∷ own_of types rest else own_of types rest)
    go true = append_assoc kept (d ∷ []) (own_of types rest)
    go false = refl

-- ---- Members

own_is : (types : Types) (n : ℕ) (t : ResolvedType) → Represents types n t → is_none (system_of (row_at types n)) ≡ not (is_component t)
own_is types n (Simple b l h s) represents = ap (λ r. is_none (system_of r)) represents.1
own_is types n (ArrayOf l h t) represents = ap (λ r. is_none (system_of r)) represents.1
own_is types n (RecordOf ms) represents = ap (λ r. is_none (system_of r)) represents.1
own_is types n Queue represents = ap (λ r. is_none (system_of r)) represents
own_is types n (ComponentOf s ms) represents = ap (λ r. is_none (system_of r)) represents.3
own_is types n NoType represents = ap (λ r. is_none (system_of r)) represents

pub declared_members : (types : Types) (ds : List Declared) (vs : List (Name × Variable)) (fs : List (Name × ℕ)) (ms : Members)
    → AreDeclared types (map declared_entry ds) vs → AreMembers types fs ms → AreMembers types (map member_of ds ++ fs) (members_from vs ms)
declared_members types [] [] fs ms declared rest = rest
declared_members types [] (v ∷ vs) fs ms declared rest = absurd declared
declared_members types (d ∷ ds) [] fs ms declared rest = absurd declared
declared_members types (d ∷ ds) (v ∷ vs) fs ms declared rest = (declared.0, declared.2, declared_members types ds vs fs ms declared.3 rest)

abbrev pub own_variables : List (Name × Variable) → List (Name × Variable)
own_variables vs = filter (λ v. not (is_component v.1.type)) vs

pub own_declared : (types : Types) (ds : List Declared) (vs : List (Name × Variable)) → AreDeclared types (map declared_entry ds) vs
    → AreDeclared types (map declared_entry (own_of types ds)) (own_variables vs)
own_declared types [] [] declared = tt
own_declared types [] (v ∷ vs) declared = absurd declared
own_declared types (d ∷ ds) [] declared = absurd declared
own_declared types (d ∷ ds) (v ∷ vs) declared =
    subst (λ b. AreDeclared types (map declared_entry (if b then d ∷ own_of types ds else own_of types ds)) (own_variables (v ∷ vs)))
    (sym (own_is types d.of v.1.type declared.2)) (go (own_declared types ds vs declared.3) (not (is_component v.1.type)))
  where
    go : AreDeclared types (map declared_entry (own_of types ds)) (own_variables vs) → (b : Bool) → AreDeclared types (map declared_entry (if b then d ∷ own_of types ds else own_of types ds)) (if b then v ∷ own_variables vs else own_variables vs)
    go rest true = (declared.0, declared.1, declared.2, rest)
    go rest false = rest

pub rights_counted : (types : Types) (ds : List Declared) (vs : List (Name × Variable)) → AreDeclared types (map declared_entry ds) vs
    → length (own_of types ds) + length (filter (λ v. is_component v.1.type) vs) ≡ length ds
rights_counted types [] [] declared = refl
rights_counted types [] (v ∷ vs) declared = absurd declared
rights_counted types (d ∷ ds) [] declared = absurd declared
rights_counted types (d ∷ ds) (v ∷ vs) declared =
    ap (λ b. length (if b then d ∷ own_of types ds else own_of types ds) + length (filter (λ v. is_component v.1.type) (v ∷ vs))) (own_is types d.of v.1.type declared.2)
    ∙ go (rights_counted types ds vs declared.3) (is_component v.1.type)
  where
    others : List (Name × Variable)
    others = filter (λ v. is_component v.1.type) vs

    go : length (own_of types ds) + length others ≡ length ds → (b : Bool) → length (if not b then d ∷ own_of types ds else own_of types ds) + length (if b then v ∷ others else others) ≡ length (d ∷ ds)
    go rest true = omega (arith, rest)
    go rest false = omega (arith, rest)

-- ---- Plans

pub variables_placed : (g : GlobalScope) (vs : List (Name × Variable)) (at : ℕ) → placed false g (members_from vs NoMembers) at ≡ placed_variables g vs at
variables_placed g [] at = refl
variables_placed g (v ∷ vs) at =
    ap (λ ps. record { at = at; size = words g v.1.type; plan = plan false g v.1.type } ∷ ps) (variables_placed g vs (at + words g v.1.type))

marked_result : (o : Option Name) (b : Bool) (rest marked : StartPlan) → b ≡ is_some o → marked ≡ (if b then fill_before 0 1 unset rest else rest)
    → marked ≡ plan_of_result o rest
marked_result None b rest marked is all = all ∙ ap (λ c. if c then fill_before 0 1 unset rest else rest) is
marked_result (Some x) b rest marked is all = all ∙ ap (λ c. if c then fill_before 0 1 unset rest else rest) is

result_counted : (o : Option Name) (b : Bool) → b ≡ is_some o → (if b then 1 else 0) ≡ result_words o
result_counted None b is = ap (λ c. if c then 1 else 0) is
result_counted (Some x) b is = ap (λ c. if c then 1 else 0) is

pub routine_planned : (g : GlobalScope) (r : Routine) (b : Bool) (head first : ℕ) (rest marked : StartPlan) → b ≡ is_some r.result
    → head ≡ (if b then 1 else 0) → first ≡ head + locals_words g (declarations g r.parameters)
    → rest ≡ plan_of_parts (placed false g (members_from (declarations g r.variables) NoMembers) first)
    → marked ≡ (if b then fill_before 0 1 unset rest else rest) → marked ≡ plan_of_routine g r
routine_planned g r b head first rest marked is head_is first_is rest_is marked_is =
    let words = locals_words g (declarations g r.parameters) in
    let vs = declarations g r.variables in
    marked_result r.result b rest marked is marked_is
    ∙ ap (plan_of_result r.result)
    (rest_is ∙ (ap plan_of_parts (variables_placed g vs first)
    ∙ ap (λ n. plan_of_parts (placed_variables g vs n)) (first_is ∙ ap (λ n. n + words) (head_is ∙ result_counted r.result b is))))

-- The variables that remain after those that are counted.
pub record PartlyCounted (g : GlobalScope) (types : Types) (vs : List (Name × Variable)) (at next : ℕ) (ds : List Declared) : Type 0 where
  pub others : List (Name × Variable)
  pub represent : AreDeclared types (map declared_entry ds) others
  pub counts : next + locals_words g others ≡ at + locals_words g vs

pub one_counted : (g : GlobalScope) (types : Types) (vs : List (Name × Variable)) (at now next words : ℕ) (d : Declared) (ds : List Declared)
    → next ≡ now + words → ((v : Variable) → d.by_reference ≡ v.by_reference → Represents types d.of v.type → words ≡ local_words g v)
    → PartlyCounted g types vs at now (d ∷ ds) → PartlyCounted g types vs at next ds
one_counted g types vs at now next words d ds is counts some = go some.others some.represent some.counts
  where
    go : (others : List (Name × Variable)) → AreDeclared types (map declared_entry (d ∷ ds)) others
        → now + locals_words g others ≡ at + locals_words g vs → PartlyCounted g types vs at next ds
    go [] represent all = absurd represent
    go (v ∷ others) represent all =
        let one = counts v.1 represent.1 represent.2 in
        record { others = others; represent = represent.3; counts = omega (arith, is, one, all) }

pub all_counted : (g : GlobalScope) (types : Types) (vs : List (Name × Variable)) (at next : ℕ) (ds : List Declared) → ds ≡ []
    → PartlyCounted g types vs at next ds → next ≡ at + locals_words g vs
all_counted g types vs at next ds none some = go some.others (subst (λ es. AreDeclared types (map declared_entry es) some.others) none some.represent) some.counts
  where
    go : (others : List (Name × Variable)) → AreDeclared types [] others → next + locals_words g others ≡ at + locals_words g vs → next ≡ at + locals_words g vs
    go [] represent all = omega (arith, all)
    go (v ∷ others) represent all = absurd represent
