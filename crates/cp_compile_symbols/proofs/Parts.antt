-- The types of parts.
use Rattle.std.proofs.Common.{◌≡◌, ◌∷◌, ◌+◌, Bool, true, false, ℕ, List, [], Option, None, Some, if◌then◌else◌, map, option_map, refl, subst, sym}
use Rattle.std.specs.Str.{bytes_eq}
use Rattle.cp_model.proofs.Views.{view_field}
use Rattle.cp_model.specs.Abstract as a
use Rattle.cp_model.specs.Abstract.{Name}
use Rattle.cp_model.specs.Erase as erase
use Rattle.cp_model.specs.View as view
use Rattle.cp_model.specs.declared.tree.Index.{Index}
use Rattle.cp_model.specs.declared.tree.Identifier.{Identifier}
use Rattle.cp_model.specs.declared.tree.Selector.{Selector}
use Rattle.cp_model.specs.declared.tree.Selector.TheVariants as tree
use Rattle.cp_model.specs.Locations.{ByName}
use Rattle.cp_model.specs.Places.{field_type, member_type}
use Rattle.cp_model.specs.Types.{ArrayOf, ComponentOf, GlobalScope, Members, MoreMembers, NoMembers, NoType, Queue, RecordOf, ResolvedType, Simple}
use Rattle.cp_law_typing.specs.StaticTypes.{element_type, place_type}
use Rattle.cp_law_typing.specs.Words.{words}
use Rattle.cp_model_program.specs.Layout as code
use Rattle.cp_model_program.specs.Scopes as code_scope
use Rattle.cp_model_program.specs.Scopes.{environment}
use Rattle.cp_model_program.specs.Layout.{member_part, part}
use Rattle.cp_compile_symbols.specs.declared.layout.Part.{Part}
use Rattle.cp_compile_symbols.specs.declared.places.Elements.{Elements}
use Rattle.cp_compile_symbols.specs.declared.scope.Scope.{Scope}
use Rattle.cp_compile_symbols.specs.declared.types.Types.{Types}
use Rattle.cp_compile_symbols.specs.Layouts.{PartIs}
use Rattle.cp_compile_symbols.specs.Places.{PlaceIs, TypeIs, elements_of, is_record}
use Rattle.cp_compile_symbols.specs.Representing.{Represents, row_at}

abbrev elements_type : Option Elements → Option ℕ
elements_type o = option_map (λ e. e.of) o

pub element_typed : (types : Types) (n : ℕ) (t : ResolvedType) → Represents types n t → TypeIs types (elements_type (elements_of (row_at types n))) (element_type t)
element_typed types n (Simple b low high start) h = rw h.1 refl
element_typed types n (ArrayOf low high t) h = rw h.1 h.2
element_typed types n (RecordOf ms) h = rw h.1 refl
element_typed types n Queue h = rw h refl
element_typed types n (ComponentOf s ms) h = rw h.3 refl
element_typed types n NoType h = rw h refl

-- ---- Fields

abbrev type_or_none : Option code.Part → ResolvedType
type_or_none None = NoType
type_or_none (Some q) = q.1

member_typed : (g : GlobalScope) (at : ℕ) (ms : Members) (x : Name) → type_or_none (member_part g at ms x []) ≡ member_type x ms
member_typed g at NoMembers x = refl
member_typed g at (MoreMembers y t ms) x = go (bytes_eq x y) (member_typed g (at + words g t) ms x)
  where
    go : (b : Bool) → type_or_none (member_part g (at + words g t) ms x []) ≡ member_type x ms
        → type_or_none (if b then Some (at + 0, t) else member_part g (at + words g t) ms x []) ≡ (if b then t else member_type x ms)
    go true h = refl
    go false h = h

part_typed : (types : Types) (p : Option Part) (q : Option code.Part) → PartIs types p q → TypeIs types (option_map (λ r. r.of) p) (type_or_none q)
part_typed types None None h = refl
part_typed types (Some p) (Some q) h = h.1
part_typed types None (Some q) h = absurd h
part_typed types (Some p) None h = absurd h

pub field_typed : (types : Types) (g : GlobalScope) (t : ResolvedType) (x : Name) (p : Option Part) → is_record t ≡ true
    → PartIs types p (part g t (ByName x ∷ [])) → TypeIs types (option_map (λ r. r.of) p) (field_type x t)
field_typed types g (RecordOf ms) x p is h =
    subst (TypeIs types (option_map (λ r. r.of) p)) (member_typed g 0 ms x) (part_typed types p (member_part g 0 ms x []) h)
field_typed types g (Simple b low high start) x p is h = absurd (cc)
field_typed types g (ArrayOf low high t) x p is h = absurd (cc)
field_typed types g Queue x p is h = absurd (cc)
field_typed types g (ComponentOf s ms) x p is h = absurd (cc)
field_typed types g NoType x p is h = absurd (cc)

pub no_field : (t : ResolvedType) (x : Name) → is_record t ≡ false → field_type x t ≡ NoType
no_field (RecordOf ms) x is = absurd (cc)
no_field (Simple b low high start) x is = refl
no_field (ArrayOf low high t) x is = refl
no_field Queue x is = refl
no_field (ComponentOf s ms) x is = refl
no_field NoType x is = refl

-- ---- Selectors

-- Selecting the remaining selectors of a part selects what all selectors select.
pub record PartlyIndexed (scope : Scope) (s : code_scope.Scope) (whole : a.Designator) (of : Option ℕ) (left : List Index) : Type 0 where
  pub part_of : a.Designator
  pub typed : PlaceIs scope s of part_of
  pub rest : erase.with_indices part_of (view.indices_of (map view.index left)) ≡ whole

pub one_indexed : (scope : Scope) (s : code_scope.Scope) (whole : a.Designator) (of more : Option ℕ) (i : Index) (left : List Index)
    → ((t : ResolvedType) → TypeIs scope.tables.now.types of t → TypeIs scope.tables.now.types more (element_type t))
    → PartlyIndexed scope s whole of (i ∷ left) → PartlyIndexed scope s whole more left
one_indexed scope s whole of more i left typed partly = record {
  part_of = a.At partly.part_of (erase.expression (view.index i).value);
  typed = typed (place_type (environment s) partly.part_of) partly.typed;
  rest = partly.rest;
}

pub all_indexed : (scope : Scope) (s : code_scope.Scope) (whole : a.Designator) (of : Option ℕ) (left : List Index) → left ≡ []
    → PartlyIndexed scope s whole of left → PlaceIs scope s of whole
all_indexed scope s whole of left none partly =
    subst (PlaceIs scope s of) (subst (λ is. erase.with_indices partly.part_of (view.indices_of (map view.index is)) ≡ whole) none partly.rest) partly.typed

pub record PartlySelected (scope : Scope) (s : code_scope.Scope) (whole : a.Designator) (of : Option ℕ) (left : List Selector) : Type 0 where
  pub part_of : a.Designator
  pub typed : PlaceIs scope s of part_of
  pub rest : erase.with_selectors part_of (view.selectors_of (map view.selector left)) ≡ whole

pub one_selected : (scope : Scope) (s : code_scope.Scope) (whole : a.Designator) (of more : Option ℕ) (y : Selector) (left : List Selector)
    → ((d : a.Designator) → PlaceIs scope s of d → PlaceIs scope s more (erase.select d (view.selector y)))
    → PartlySelected scope s whole of (y ∷ left) → PartlySelected scope s whole more left
one_selected scope s whole of more y left typed partly = record {
  part_of = erase.select partly.part_of (view.selector y);
  typed = typed partly.part_of partly.typed;
  rest = partly.rest;
}

pub all_selected : (scope : Scope) (s : code_scope.Scope) (whole : a.Designator) (of : Option ℕ) (left : List Selector) → left ≡ []
    → PartlySelected scope s whole of left → PlaceIs scope s of whole
all_selected scope s whole of left none partly =
    subst (PlaceIs scope s of) (subst (λ ys. erase.with_selectors partly.part_of (view.selectors_of (map view.selector ys)) ≡ whole) none partly.rest) partly.typed

pub field_selected : (scope : Scope) (s : code_scope.Scope) (of : Option ℕ) (d : a.Designator) (at : ℕ) (x : Identifier)
    → TypeIs scope.tables.now.types of (field_type x.name (place_type (environment s) d)) → PlaceIs scope s of (erase.select d (view.selector (tree.Field at x)))
field_selected scope s of d at x h = subst (λ y. PlaceIs scope s of (erase.select d y)) (sym (view_field at x)) h
