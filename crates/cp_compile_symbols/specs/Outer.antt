-- The outermost scope: when the tables represent it, and how definitions change it.
use Rattle.std.specs.Prelude.{◌++◌, ◌∷◌, ℕ, ℤ, List, map}
use Rattle.cp_model.specs.Abstract as a
use Rattle.cp_model.specs.Abstract.{Definition, Name}
use Rattle.cp_model.specs.Declarations.{define, define_all, enumeration_constants, reported_members}
use Rattle.cp_model.specs.Erase as erase
use Rattle.cp_model.specs.View as view
use Rattle.cp_model.specs.Types.{ComponentOf, GlobalScope, ResolvedType, standard_scope}
use Rattle.cp_model.specs.declared.tree.Identifier.{Identifier}
use Rattle.cp_model.specs.declared.tree.System.{System}
use Rattle.cp_compile_symbols.specs.declared.names.Names.{Names}
use Rattle.cp_compile_symbols.specs.declared.outer.Outer.{Outer}
use Rattle.cp_compile_symbols.specs.declared.types.Types.{Types}
use Rattle.cp_compile_symbols.specs.Representing.{Keeps, ScopeRepresents, Represents}

abbrev pub OuterRepresents : Outer → GlobalScope → Type 0
OuterRepresents outer g = ScopeRepresents outer.names outer.types g

-- If the old tables represent a scope `g`, the new ones represent `f g`.
abbrev pub Defines : Outer → Outer → (GlobalScope → GlobalScope) → Type 0
Defines old new f = (g : GlobalScope) → OuterRepresents old g → OuterRepresents new (f g)

abbrev pub with_value : Name → a.BaseType × ℤ → GlobalScope → GlobalScope
with_value x v g = record g { constants = (x, v) ∷ g.constants }

abbrev pub with_values : a.BaseType → ℕ → List Identifier → GlobalScope → GlobalScope
with_values b k xs g = record g { constants = enumeration_constants b k (map erase.name xs) ++ g.constants }

abbrev pub with_type : Name → (GlobalScope → ResolvedType) → GlobalScope → GlobalScope
with_type x of g = record g { types = (x, of g) ∷ g.types }

abbrev pub with_standard : GlobalScope → GlobalScope
with_standard g = record { constants = standard_scope.constants ++ g.constants; types = standard_scope.types ++ g.types }

-- The new tables give the name `x` to type number `n`, whatever type that number represents.
abbrev pub NamesType : Outer → Outer → Name → ℕ → Type 0
NamesType old new x n =
    (g : GlobalScope) (t : ResolvedType) → OuterRepresents old g → Represents old.types n t → OuterRepresents new (with_type x (λ h. t) g)

abbrev pub component_of : System → GlobalScope → ResolvedType
component_of y g = let s = erase.system (view.system y) in ComponentOf s (reported_members g s)

-- The type of the components of `y` is made, with the number `n`.
pub record MakesComponents (names : Names) (old new : Types) (y : System) (n : ℕ) : Type 0 where
  pub keeps : Keeps old new
  pub represents : (g : GlobalScope) → ScopeRepresents names old g → Represents new n (component_of y g)

abbrev pub defining : Definition → GlobalScope → GlobalScope
defining d g = define g d

abbrev pub defining_all : List Definition → GlobalScope → GlobalScope
defining_all ds g = define_all g ds
