-- Magnitudes: if all numbers of a text are at most n, and no enumeration has more than n values,
-- all bounds and ordinals of its types are at most n away from 0. No rule limits these numbers: how
-- large the number of a token may be is a matter of tokens.
use Rattle.std.specs.Prelude.{◌≤◌, ℕ, ℤ, nat_abs, pos, negsuc, suc, List, [], ◌∷◌, length}
use Rattle.cp_model.specs.Abstract.{Array, Character, Constant, ConstantDef, Definition, EnumDef, Fields, Group, Minus, MoreFields, Name, Named, NoFields, Number, Range, Record, Routine, System, SystemDef, TypeDef, TypeExpression, TypeName}
use Rattle.cp_model.specs.Types.{ArrayOf, ComponentOf, GlobalScope, Members, MoreMembers, NoMembers, NoType, Queue, RecordOf, ResolvedType, Simple}
use Rattle.cp_model.specs.Abstract.{BaseType}
use Rattle.cp_model.specs.Declarations.{Variable}

-- ---- What is written

abbrev pub IsSmallConstant : ℕ → Constant → Type 0
IsSmallConstant n (Number k) = k ≤ n
IsSmallConstant n (Minus k) = k ≤ n
IsSmallConstant n (Character c) = c ≤ n
IsSmallConstant n (Named x) = Unit {0}

abbrev mutual
  pub IsSmallType : ℕ → TypeExpression → Type 0
  IsSmallType n (TypeName x) = Unit {0}
  IsSmallType n (Range a b) = IsSmallConstant n a × IsSmallConstant n b
  IsSmallType n (Array i e) = IsSmallType n i × IsSmallType n e
  IsSmallType n (Record fs) = AreSmallFields n fs

  pub AreSmallFields : ℕ → Fields → Type 0
  AreSmallFields n NoFields = Unit {0}
  AreSmallFields n (MoreFields xs t fs) = IsSmallType n t × AreSmallFields n fs

abbrev pub AreSmallGroups : ℕ → List Group → Type 0
AreSmallGroups n [] = Unit {0}
AreSmallGroups n (d ∷ ds) = IsSmallType n d.type × AreSmallGroups n ds

abbrev pub AreSmallRoutines : ℕ → List Routine → Type 0
AreSmallRoutines n [] = Unit {0}
AreSmallRoutines n (r ∷ rs) = (AreSmallGroups n r.parameters × AreSmallGroups n r.variables) × AreSmallRoutines n rs

pub record IsSmallSystem (n : ℕ) (s : System) : Type 0 where
  pub parameters : AreSmallGroups n s.parameters
  pub variables : AreSmallGroups n s.variables
  pub routines : AreSmallRoutines n s.routines

abbrev pub AreSmallDefinitions : ℕ → List Definition → Type 0
AreSmallDefinitions n [] = Unit {0}
AreSmallDefinitions n (ConstantDef x c ∷ ds) = IsSmallConstant n c × AreSmallDefinitions n ds
AreSmallDefinitions n (TypeDef x t ∷ ds) = IsSmallType n t × AreSmallDefinitions n ds
AreSmallDefinitions n (EnumDef x values ∷ ds) = (length values ≤ n) × AreSmallDefinitions n ds
AreSmallDefinitions n (SystemDef x s ∷ ds) = IsSmallSystem n s × AreSmallDefinitions n ds

-- ---- What it represents

abbrev mutual
  pub HasSmallBounds : ℕ → ResolvedType → Type 0
  HasSmallBounds n (Simple b low high start) = (nat_abs low ≤ n) × (nat_abs high ≤ n)
  HasSmallBounds n (ArrayOf low high t) = (nat_abs low ≤ n) × (nat_abs high ≤ n) × HasSmallBounds n t
  HasSmallBounds n (RecordOf ps) = HaveSmallBounds n ps
  HasSmallBounds n (ComponentOf s inner) = HaveSmallBounds n inner
  HasSmallBounds n Queue = Unit {0}
  HasSmallBounds n NoType = Unit {0}

  pub HaveSmallBounds : ℕ → Members → Type 0
  HaveSmallBounds n NoMembers = Unit {0}
  HaveSmallBounds n (MoreMembers x t ps) = HasSmallBounds n t × HaveSmallBounds n ps

abbrev pub AllSmallBounds : ℕ → List (Name × Variable) → Type 0
AllSmallBounds n [] = Unit {0}
AllSmallBounds n (v ∷ vs) = HasSmallBounds n v.1.type × AllSmallBounds n vs

abbrev pub AreSmallConstants : ℕ → List (Name × (BaseType × ℤ)) → Type 0
AreSmallConstants n [] = Unit {0}
AreSmallConstants n (c ∷ cs) = (nat_abs c.1.1 ≤ n) × AreSmallConstants n cs

abbrev pub AreSmallTypes : ℕ → List (Name × ResolvedType) → Type 0
AreSmallTypes n [] = Unit {0}
AreSmallTypes n (t ∷ ts) = HasSmallBounds n t.1 × AreSmallTypes n ts

pub record IsSmallScope (n : ℕ) (g : GlobalScope) : Type 0 where
  pub constants : AreSmallConstants n g.constants
  pub types : AreSmallTypes n g.types

-- ---- Below 0

-- Only numbers after a minus: those of constants and of the lower bounds of subranges are at most
-- n.
abbrev pub IsNegativeWithin : ℕ → Constant → Type 0
IsNegativeWithin n (Number k) = Unit {0}
IsNegativeWithin n (Minus k) = k ≤ n
IsNegativeWithin n (Character c) = Unit {0}
IsNegativeWithin n (Named x) = Unit {0}

abbrev pub BeginsWithin : ℕ → TypeExpression → Type 0
BeginsWithin n (TypeName x) = Unit {0}
BeginsWithin n (Range a b) = IsNegativeWithin n a
BeginsWithin n (Array i e) = Unit {0}
BeginsWithin n (Record fs) = Unit {0}

abbrev pub AreNegativesWithin : ℕ → List Definition → Type 0
AreNegativesWithin n [] = Unit {0}
AreNegativesWithin n (ConstantDef x c ∷ ds) = IsNegativeWithin n c × AreNegativesWithin n ds
AreNegativesWithin n (TypeDef x t ∷ ds) = BeginsWithin n t × AreNegativesWithin n ds
AreNegativesWithin n (EnumDef x values ∷ ds) = AreNegativesWithin n ds
AreNegativesWithin n (SystemDef x s ∷ ds) = AreNegativesWithin n ds

-- at most n below 0
abbrev pub IsAbove : ℕ → ℤ → Type 0
IsAbove n (pos k) = Unit {0}
IsAbove n (negsuc k) = suc k ≤ n
