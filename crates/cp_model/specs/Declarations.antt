-- Declarations: the variables that groups of names declare, and the definitions of a text in order.
--
-- A definition refers only to earlier definitions, so one pass in text order makes the outermost
-- scope.
use Rattle.std.specs.Prelude.{Bool, List, None, Option, Some, [], false, filter, length, not, pos, suc, true, ℕ, ℤ, ◌++◌, ◌-◌, ◌∷◌}
use Rattle.cp_model.specs.Abstract.{BaseType, ConstantDef, Definition, EnumDef, Enumeration, Group, Name, System, SystemDef, Tree, TypeDef}
use Rattle.cp_model.specs.Types.{ComponentOf, GlobalScope, Members, MoreMembers, NoMembers, ResolvedType, constant_value, full_range, resolved_type, standard_scope}

-- ---- Variables and parameters

-- A declared variable or parameter. `by_reference` marks a `var` parameter.
pub record Variable : Type 0 where
  pub by_reference : Bool
  pub type : ResolvedType

abbrev pub declared_group : Bool → ResolvedType → List Name → List (Name × Variable) → List (Name × Variable)
declared_group r t [] rest = rest
declared_group r t (x ∷ xs) rest = (x, record { by_reference = r; type = t }) ∷ declared_group r t xs rest

-- The names that groups declare, in text order.
abbrev pub declarations : GlobalScope → List Group → List (Name × Variable)
declarations g [] = []
declarations g (d ∷ ds) = declared_group d.by_reference (resolved_type g d.type) d.names (declarations g ds)

abbrev pub is_component : ResolvedType → Bool
is_component (ComponentOf s inner) = true
is_component _ = false

abbrev pub members_from : List (Name × Variable) → Members → Members
members_from [] rest = rest
members_from (v ∷ vs) rest = MoreMembers v.0 v.1.type (members_from vs rest)

-- The members of a component that are its own: all parameters except rights to components, then all
-- variables.
abbrev pub reported_members : GlobalScope → System → Members
reported_members g s =
    members_from (filter (λ v. not (is_component v.1.type)) (declarations g s.parameters))
    (members_from (declarations g s.variables) NoMembers)

-- ---- Definitions

-- The values of an enumeration, numbered from k.
abbrev pub enumeration_constants : BaseType → ℕ → List Name → List (Name × (BaseType × ℤ))
enumeration_constants b k [] = []
enumeration_constants b k (x ∷ xs) = (x, (b, pos k)) ∷ enumeration_constants b (suc k) xs

abbrev pub with_constant : Name → Option (BaseType × ℤ) → GlobalScope → GlobalScope
with_constant x (Some c) g = record g { constants = (x, c) ∷ g.constants }
with_constant x None g = g

-- The outermost scope after one more definition.
abbrev pub define : GlobalScope → Definition → GlobalScope
define g (ConstantDef x c) = with_constant x (constant_value g c) g
define g (TypeDef x t) = record g { types = (x, resolved_type g t) ∷ g.types }
define g (EnumDef x values) =
    let b = Enumeration x (length values - 1) in
    record { constants = enumeration_constants b 0 values ++ g.constants; types = (x, full_range b) ∷ g.types }
define g (SystemDef x s) = record g { types = (x, ComponentOf s (reported_members g s)) ∷ g.types }

abbrev pub define_all : GlobalScope → List Definition → GlobalScope
define_all g [] = g
define_all g (d ∷ ds) = define_all (define g d) ds

-- The outermost scope of a text.
abbrev pub globals : Tree → GlobalScope
globals tree = define_all standard_scope tree.definitions
