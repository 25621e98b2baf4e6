-- The lower bounds of named types come from the numbers that are written after a minus, so they are
-- no further below 0.
use Rattle.std.proofs.Common.{◌≤◌, ℕ, zero, suc, ℤ, pos, neg_ℤ, Bool, true, false, List, [], ◌∷◌, ◌++◌, Option, Some, None, if◌then◌else◌, bytes_eq, subst}
use Rattle.cp_model.specs.Abstract.{Array, BaseType, Character, Constant, ConstantDef, Definition, EnumDef, Minus, Name, Named, Number, Range, Record, SystemDef, TypeDef, TypeExpression, TypeName}
use Rattle.cp_model.specs.Names.{lookup}
use Rattle.cp_model.specs.Types.{ArrayOf, ComponentOf, GlobalScope, NoType, Queue, RecordOf, ResolvedType, Simple, array_type, constant_value, or_no_type, resolved_type, standard_scope, subrange_type}
use Rattle.cp_model.specs.Declarations.{define, define_all, enumeration_constants, globals, with_constant}
use Rattle.cp_law_typing.specs.Magnitudes.{AreNegativesWithin, BeginsWithin, IsAbove, IsNegativeWithin}
use Rattle.cp_law_typing.specs.Laws.{LowerBoundsAreAsWritten}

module _ (n : ℕ) (large : 32768 ≤ n) where
  abbrev BeginsAbove : ResolvedType → Type 0
  BeginsAbove (Simple b low high start) = IsAbove n low
  BeginsAbove _ = Unit {0}

  abbrev AllAbove : List (Name × (BaseType × ℤ)) → Type 0
  AllAbove [] = Unit {0}
  AllAbove (c ∷ cs) = IsAbove n c.1.1 × AllAbove cs

  abbrev AllBeginAbove : List (Name × ResolvedType) → Type 0
  AllBeginAbove [] = Unit {0}
  AllBeginAbove (t ∷ ts) = BeginsAbove t.1 × AllBeginAbove ts

  record ScopeAbove (g : GlobalScope) : Type 0 where
    constants : AllAbove g.constants
    types : AllBeginAbove g.types

  -- ---- What is found

  abbrev ValueAbove : Option (BaseType × ℤ) → Type 0
  ValueAbove (Some c) = IsAbove n c.1
  ValueAbove None = Unit {0}

  constant_found : (x : Name) (cs : List (Name × (BaseType × ℤ))) → AllAbove cs → ValueAbove (lookup x cs)
  constant_found x [] h = tt
  constant_found x (c ∷ cs) h = go (bytes_eq x c.0) (constant_found x cs h.1)
    where
      go : (b : Bool) → ValueAbove (lookup x cs) → ValueAbove (if b then Some c.1 else lookup x cs)
      go true rest = h.0
      go false rest = rest

  type_found : (x : Name) (ts : List (Name × ResolvedType)) → AllBeginAbove ts → BeginsAbove (or_no_type (lookup x ts))
  type_found x [] h = tt
  type_found x (t ∷ ts) h = go (bytes_eq x t.0) (type_found x ts h.1)
    where
      go : (b : Bool) → BeginsAbove (or_no_type (lookup x ts)) → BeginsAbove (or_no_type (if b then Some t.1 else lookup x ts))
      go true rest = h.0
      go false rest = rest

  -- ---- What is written

  opposite : (k : ℕ) → k ≤ n → IsAbove n (neg_ℤ (pos k))
  opposite zero h = tt
  opposite (suc k) h = h

  constant_above : (g : GlobalScope) (c : Constant) → ScopeAbove g → IsNegativeWithin n c → ValueAbove (constant_value g c)
  constant_above g (Number k) s h = tt
  constant_above g (Minus k) s h = opposite k h
  constant_above g (Character c) s h = tt
  constant_above g (Named x) s h = constant_found x g.constants s.constants

  subrange_above : (a b : Option (BaseType × ℤ)) → ValueAbove a → BeginsAbove (subrange_type a b)
  subrange_above (Some a) (Some b) h = h
  subrange_above (Some a) None h = tt
  subrange_above None b h = tt

  array_above : (i t : ResolvedType) → BeginsAbove (array_type i t)
  array_above (Simple b low high start) t = tt
  array_above (ArrayOf low high u) t = tt
  array_above (RecordOf ps) t = tt
  array_above Queue t = tt
  array_above (ComponentOf s inner) t = tt
  array_above NoType t = tt

  type_above : (g : GlobalScope) (te : TypeExpression) → ScopeAbove g → BeginsWithin n te → BeginsAbove (resolved_type g te)
  type_above g (TypeName x) s h = type_found x g.types s.types
  type_above g (Range a b) s h = subrange_above (constant_value g a) (constant_value g b) (constant_above g a s h)
  type_above g (Array i e) s h = array_above (resolved_type g i) (resolved_type g e)
  type_above g (Record fs) s h = tt

  -- ---- Definitions

  values_above : (b : BaseType) (k : ℕ) (xs : List Name) (rest : List (Name × (BaseType × ℤ))) → AllAbove rest → AllAbove (enumeration_constants b k xs ++ rest)
  values_above b k [] rest h = h
  values_above b k (x ∷ xs) rest h = (tt, values_above b (suc k) xs rest h)

  constant_defined : (x : Name) (o : Option (BaseType × ℤ)) (g : GlobalScope) → ScopeAbove g → ValueAbove o → ScopeAbove (with_constant x o g)
  constant_defined x (Some c) g s h = record { constants = (h, s.constants); types = s.types }
  constant_defined x None g s h = s

  definitions_above : (ds : List Definition) (g : GlobalScope) → ScopeAbove g → AreNegativesWithin n ds → ScopeAbove (define_all g ds)
  definitions_above [] g s h = s
  definitions_above (ConstantDef x c ∷ ds) g s h =
      definitions_above ds (with_constant x (constant_value g c) g) (constant_defined x (constant_value g c) g s (constant_above g c s h.0)) h.1
  definitions_above (TypeDef x t ∷ ds) g s h =
      definitions_above ds (define g (TypeDef x t)) (record { constants = s.constants; types = (type_above g t s h.0, s.types) }) h.1
  definitions_above (EnumDef x values ∷ ds) g s h =
      definitions_above ds (define g (EnumDef x values)) (record { constants = values_above _ 0 values g.constants s.constants; types = (tt, s.types) }) h
  definitions_above (SystemDef x y ∷ ds) g s h =
      definitions_above ds (define g (SystemDef x y)) (record { constants = s.constants; types = (tt, s.types) }) h

  standard_above : ScopeAbove standard_scope
  standard_above = record { constants = (tt, (tt, tt)); types = (large, (tt, (tt, (tt, tt)))) }

pub lower_bounds : LowerBoundsAreAsWritten
lower_bounds n tree x b low high start large h is =
    let scope : ScopeAbove n large (globals tree) = definitions_above n large tree.definitions standard_scope (standard_above n large) h in
    subst (BeginsAbove n large) is (type_found n large x (globals tree).types scope.types)
