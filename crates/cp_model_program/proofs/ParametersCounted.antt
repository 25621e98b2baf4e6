-- Lists of definitions whose system types have few parameters, one after another.
use Rattle.std.proofs.Common.{◌≡◌, ◌≤◌, ◌<◌, ◌+◌, ℕ, zero, suc, List, [], ◌∷◌, ◌++◌, map, drop, get_or, length, Bool, true, false, Option, None, Some, true≢false, refl, ap, sym, subst, ◌∙◌, if◌then◌else◌, slice_get, arith}
use Rattle.std.proofs.lemmas.Bool.{ltb-true}
use Rattle.std.proofs.lemmas.List.{drop_more}
use Rattle.cp_model.specs.Abstract as a
use Rattle.cp_model.specs.Abstract.{Name}
use Rattle.cp_model.specs.Declarations.{Variable, declarations, declared_group}
use Rattle.cp_model.specs.Erase as erase
use Rattle.cp_model.specs.Types.{GlobalScope, ResolvedType}
use Rattle.cp_model.specs.View as view
use Rattle.cp_model.specs.declared.tree.ConstantDefinition.{ConstantDefinition}
use Rattle.cp_model.specs.declared.tree.Identifier.{Identifier}
use Rattle.cp_model.specs.declared.tree.Parameters.{Parameters}
use Rattle.cp_model.specs.declared.tree.Section.{Section}
use Rattle.cp_model.specs.declared.tree.TypeDefinition.{TypeDefinition}
use Rattle.cp_law_typing.specs.Systems.{systems_of}
use Rattle.cp_model_program.specs.Layout.{most_arguments}
use Rattle.cp_model_program.specs.ParameterCounts.{are_short, is_short, parameter_count}

-- ---- Counting

abbrev pub groups : List Parameters → List a.Group
groups ps = map erase.parameter_group (map view.parameters ps)

length_names : (xs : List Identifier) → length (map erase.name xs) ≡ length xs
length_names [] = refl
length_names (x ∷ xs) = ap suc (length_names xs)

pub count_before : (ps : List Parameters) (i : ℕ) (p : Parameters) → i < length ps → p ≡ get_or ps i p
    → parameter_count (groups (drop i ps)) ≡ length p.names.items + parameter_count (groups (drop (i + 1) ps))
count_before ps i p less is =
    ap (λ l. parameter_count (groups l)) (drop_more ps i p less ∙ ap (λ y. y ∷ drop (i + 1) ps) (sym is))
    ∙ ap (λ n. n + parameter_count (groups (drop (i + 1) ps))) (length_names p.names.items)

-- ---- Definitions

both : (b x y z : Bool) → (x ≡ true → y ≡ z) → (if b then x else false) ≡ true → (if b then y else false) ≡ z
both true x y z h e = h e
both false x y z h e = absurd (true≢false (sym e))

neither : (b x y : Bool) → (x ≡ false → y ≡ false) → (if b then x else false) ≡ false → (if b then y else false) ≡ false
neither true x y h e = h e
neither false x y h e = refl

-- What the first ones decide, and what they leave to the rest.
pub short_append : (ds es : List a.Definition) → are_short ds ≡ true → are_short (ds ++ es) ≡ are_short es
short_append [] es h = refl
short_append (a.ConstantDef x c ∷ ds) es h = short_append ds es h
short_append (a.TypeDef x t ∷ ds) es h = short_append ds es h
short_append (a.EnumDef x vs ∷ ds) es h = short_append ds es h
short_append (a.SystemDef x s ∷ ds) es h = both (is_short s.parameters) (are_short ds) (are_short (ds ++ es)) (are_short es) (short_append ds es) h

pub long_append : (ds es : List a.Definition) → are_short ds ≡ false → are_short (ds ++ es) ≡ false
long_append [] es h = absurd (true≢false h)
long_append (a.ConstantDef x c ∷ ds) es h = long_append ds es h
long_append (a.TypeDef x t ∷ ds) es h = long_append ds es h
long_append (a.EnumDef x vs ∷ ds) es h = long_append ds es h
long_append (a.SystemDef x s ∷ ds) es h = neither (is_short s.parameters) (are_short ds) (are_short (ds ++ es)) (long_append ds es) h

abbrev pub definitions : List TypeDefinition → List a.Definition
definitions ds = map erase.type_definition (map view.type_definition ds)

pub types_before : (ds : List TypeDefinition) (i : ℕ) (d : TypeDefinition) → i < length ds → d ≡ get_or ds i d
    → definitions (drop i ds) ≡ (erase.type_definition (view.type_definition d) ∷ []) ++ definitions (drop (i + 1) ds)
types_before ds i d less is = ap definitions (drop_more ds i d less ∙ ap (λ y. y ∷ drop (i + 1) ds) (sym is))

abbrev pub in_sections : List Section → List a.Definition
in_sections xs = erase.sections (map view.section_of xs)

pub sections_before : (xs : List Section) (i : ℕ) (x : Section) → i < length xs → x ≡ get_or xs i x
    → in_sections (drop i xs) ≡ erase.section (view.section_of x) ++ in_sections (drop (i + 1) xs)
sections_before xs i x less is = ap in_sections (drop_more xs i x less ∙ ap (λ y. y ∷ drop (i + 1) xs) (sym is))

-- A section with a long list of parameters decides; another leaves it to the rest.
pub section_ends : (xs : List Section) (i : ℕ) (x : Section) → i < length xs → x ≡ get_or xs i x → (all : Bool) → all ≡ are_short (in_sections (drop i xs))
    → are_short (erase.section (view.section_of x)) ≡ false → false ≡ all
section_ends xs i x less is all e long =
    sym (e ∙ ap are_short (sections_before xs i x less is) ∙ long_append (erase.section (view.section_of x)) (in_sections (drop (i + 1) xs)) long)

pub section_passes : (xs : List Section) (i : ℕ) (x : Section) → i < length xs → x ≡ get_or xs i x → (all : Bool) → all ≡ are_short (in_sections (drop i xs))
    → are_short (erase.section (view.section_of x)) ≡ true → all ≡ are_short (in_sections (drop (i + 1) xs))
section_passes xs i x less is all e short =
    e ∙ ap are_short (sections_before xs i x less is) ∙ short_append (erase.section (view.section_of x)) (in_sections (drop (i + 1) xs)) short

pub constants_short : (ds : List ConstantDefinition) → are_short (map erase.constant_definition ds) ≡ true
constants_short [] = refl
constants_short (d ∷ ds) = constants_short ds

-- ---- What the law knows

group_length : (r : Bool) (t : ResolvedType) (xs : List Name) (rest : List (Name × Variable)) → length (declared_group r t xs rest) ≡ length xs + length rest
group_length r t [] rest = omega arith
group_length r t (x ∷ xs) rest = let more = group_length r t xs rest in omega (arith, more)

counted : (g : GlobalScope) (ds : List a.Group) → length (declarations g ds) ≡ parameter_count ds
counted g [] = refl
counted g (d ∷ ds) = group_length d.by_reference _ d.names (declarations g ds) ∙ ap (λ n. length d.names + n) (counted g ds)

abbrev system_or : a.System → Option a.System → a.System
system_or y None = y
system_or y (Some s) = s

first_short : (b c : Bool) → (if b then c else false) ≡ true → b ≡ true
first_short true c e = refl
first_short false c e = absurd (true≢false (sym e))

rest_short : (b c : Bool) → (if b then c else false) ≡ true → c ≡ true
rest_short true c e = e
rest_short false c e = absurd (true≢false (sym e))

pub all_short : (g : GlobalScope) (ds : List a.Definition) → are_short ds ≡ true → (i : ℕ) (s : a.System) → slice_get (systems_of ds) i ≡ Some s
    → suc (length (declarations g s.parameters)) ≤ most_arguments
all_short g [] h i s is = absurd (cc)
all_short g (a.ConstantDef x c ∷ ds) h i s is = all_short g ds h i s is
all_short g (a.TypeDef x t ∷ ds) h i s is = all_short g ds h i s is
all_short g (a.EnumDef x vs ∷ ds) h i s is = all_short g ds h i s is
all_short g (a.SystemDef x y ∷ ds) h zero s is =
    let count = counted g y.parameters in
    let less = ltb-true (parameter_count y.parameters) most_arguments (first_short (is_short y.parameters) (are_short ds) h) in
    let here : suc (length (declarations g y.parameters)) ≤ most_arguments = omega (arith, count, less) in
    subst (λ z. suc (length (declarations g z.parameters)) ≤ most_arguments) (ap (system_or y) is) here
all_short g (a.SystemDef x y ∷ ds) h (suc i) s is = all_short g ds (rest_short (is_short y.parameters) (are_short ds) h) i s is
