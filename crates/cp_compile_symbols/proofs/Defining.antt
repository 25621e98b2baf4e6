-- What is found in a table after a name is added.
use Rattle.std.proofs.Common.{◌≡◌, ◌++◌, ◌∷◌, ◌∙◌, Bool, true, false, ℕ, List, [], Option, None, Some, ap, option_map, refl, subst, sym, if◌then◌else◌}
use Rattle.std.specs.Str.{bytes_eq}
use Rattle.std.proofs.lemmas.Slice.Eq.{bytes_eq-Decides}
use Rattle.cp_model.specs.Abstract.{Name}
use Rattle.cp_model.specs.Names.{lookup}
use Rattle.cp_model.specs.Types.{GlobalScope, ResolvedType}
use Rattle.cp_compile_symbols.specs.declared.types.Types.{Types}
use Rattle.cp_compile_symbols.specs.declared.names.Names.{Names}
use Rattle.cp_compile_symbols.specs.declared.names.Value.{Value}
use Rattle.cp_compile_symbols.specs.Outer.{with_type, with_value}
use Rattle.cp_compile_symbols.specs.Representing.{ScopeRepresents, Represents, TypeMeans, value_of}
use Rattle.cp_compile_symbols.specs.Tables.{InFront, or_last}

pub behind_others : {A : Type 0} (es : List (Name × A)) (x : Name) (v : A) (y : Name)
    → lookup y (es ++ (x, v) ∷ []) ≡ or_last (lookup y es) (bytes_eq y x) v
behind_others [] x v y = go (bytes_eq y x)
  where
    go : (b : Bool) → (if b then Some v else None) ≡ or_last None b v
    go true = refl
    go false = refl
behind_others {A} (e ∷ es) x v y = go (bytes_eq y e.0) (behind_others es x v y)
  where
    go : (b : Bool) → lookup y (es ++ (x, v) ∷ []) ≡ or_last (lookup y es) (bytes_eq y x) v
        → (if b then Some e.1 else lookup y (es ++ (x, v) ∷ [])) ≡ or_last (if b then Some e.1 else lookup y es) (bytes_eq y x) v
    go true h = refl
    go false h = h

-- Adding a name that is there already changes nothing.
pub behind_itself : {A : Type 0} (es : List (Name × A)) (x : Name) (v w : A) (y : Name) → lookup x es ≡ Some w
    → lookup y es ≡ or_last (lookup y es) (bytes_eq y x) v
behind_itself {A} es x v w y there = go (lookup y es) (bytes_eq y x) refl refl
  where
    go : (o : Option A) (b : Bool) → lookup y es ≡ o → bytes_eq y x ≡ b → o ≡ or_last o b v
    go (Some a) b is same = refl
    go None false is same = refl
    go None true is same =
        let found : lookup y es ≡ Some w = ap (λ z. lookup z es) ((bytes_eq-Decides y x).0 same) ∙ there in
        absurd (let both : None ≡ Some w = sym is ∙ found in cc)

-- ---- The scope with one more name

pub type_named : (names later : Names) (types : Types) (g : GlobalScope) (x : Name) (n : ℕ) (t : ResolvedType) → ScopeRepresents names types g
    → later.constants ≡ names.constants → InFront x n names.types later.types → Represents types n t → ScopeRepresents later types (with_type x (λ h. t) g)
type_named names later types g x n t scope same front represents = record {
  constants = λ y. ap (λ cs. option_map value_of (lookup y cs)) same ∙ scope.constants y;
  types = λ y. subst (λ m. TypeMeans types m (lookup y ((x, t) ∷ g.types))) (sym (front y)) (means y (bytes_eq y x) refl);
}
  where
    means : (y : Name) (b : Bool) → bytes_eq y x ≡ b → TypeMeans types (if b then Some n else lookup y names.types) (if b then Some t else lookup y g.types)
    means y true is = represents
    means y false is = scope.types y

pub constant_named : (names later : Names) (types : Types) (g : GlobalScope) (x : Name) (v : Value) → ScopeRepresents names types g
    → later.types ≡ names.types → InFront x v names.constants later.constants → ScopeRepresents later types (with_value x (value_of v) g)
constant_named names later types g x v scope same front = record {
  constants = λ y. ap (option_map value_of) (front y) ∙ means y (bytes_eq y x) refl;
  types = λ y. subst (λ ts. TypeMeans types (lookup y ts) (lookup y g.types)) (sym same) (scope.types y);
}
  where
    means : (y : Name) (b : Bool) → bytes_eq y x ≡ b
        → option_map value_of (if b then Some v else lookup y names.constants) ≡ (if b then Some (value_of v) else lookup y g.constants)
    means y true is = refl
    means y false is = scope.constants y
