-- The types that rows represent.
use Rattle.std.proofs.Common.{◌≡◌, ℕ, ℤ, List, map, Some, refl, ap, sym, subst, ◌∙◌}
use Rattle.std.specs.Prelude.{Vec}
use Rattle.std.specs.Borrow.{Bor}
use Rattle.std.specs.Global.{Global}
use Rattle.cp_model.specs.Abstract.{Name}
use Rattle.cp_model.specs.Erase as erase
use Rattle.cp_model.specs.Types.{ArrayOf, ComponentOf, Members, NoType, Queue, RecordOf, ResolvedType, Simple}
use Rattle.cp_model.specs.View as view
use Rattle.cp_model.proofs.Options.{same_some}
use Rattle.cp_model.specs.declared.tree.System.{System}
use Rattle.cp_compile_symbols.specs.Representing.{AreMembers, Represents, entry, row_at, system_at}
use Rattle.cp_compile_symbols.specs.declared.types.Field.{Field}
use Rattle.cp_compile_symbols.specs.declared.types.TypeRow.{TypeRow}
use Rattle.cp_compile_symbols.specs.declared.types.TypeRow.TheVariants as row
use Rattle.cp_compile_symbols.specs.declared.types.Types.{Types}

abbrev IsSimpleType : ResolvedType → Type 0
IsSimpleType (Simple b low high start) = Unit {0}
IsSimpleType _ = ⊥

abbrev IsQueueType : ResolvedType → Type 0
IsQueueType Queue = Unit {0}
IsQueueType _ = ⊥

pub record IsArray (types : Types) (low high : ℤ) (e : ℕ) (t : ResolvedType) : Type 0 where
  pub of : ResolvedType
  pub is : t ≡ ArrayOf low high of
  pub element : Represents types e of

pub record IsRecord (types : Types) (es : List (Name × ℕ)) (t : ResolvedType) : Type 0 where
  pub members : Members
  pub is : t ≡ RecordOf members
  pub represent : AreMembers types es members

pub record IsComponent (types : Types) (k : ℕ) (es : List (Name × ℕ)) (t : ResolvedType) : Type 0 where
  pub system : Bor System
  pub there : system_at types k ≡ Some system
  pub members : Members
  pub is : t ≡ ComponentOf (erase.system (view.system system.now)) members
  pub represent : AreMembers types es members

module _ (types : Types) (n : ℕ) where
  pub array_is : (t : ResolvedType) (low high : ℤ) (e : ℕ) → row_at types n ≡ Some (row.Array low high e) → Represents types n t → IsArray types low high e t
  array_is (Simple b x y z) low high e at s = absurd (let same = same_some _ _ (sym at ∙ s.1) in cc)
  array_is (ArrayOf x y u) low high e at s =
      let same = same_some _ _ (sym at ∙ s.1) in
      record {
        of = u;
        is = (λ i. ArrayOf (low_of (sym same i)) (high_of (sym same i)) u);
        element = subst (λ r. Represents types (element_of r) u) (sym same) s.2;
      }
    where
      low_of : TypeRow → ℤ
      low_of (row.Array a b c) = a
      low_of _ = low

      high_of : TypeRow → ℤ
      high_of (row.Array a b c) = b
      high_of _ = high

      element_of : TypeRow → ℕ
      element_of (row.Array a b c) = c
      element_of _ = e
  array_is (RecordOf ms) low high e at s = absurd (let same = same_some _ _ (sym at ∙ s.1) in cc)
  array_is Queue low high e at s = absurd (let same = same_some _ _ (sym at ∙ s) in cc)
  array_is (ComponentOf y ms) low high e at s = absurd (let same = same_some _ _ (sym at ∙ s.3) in cc)
  array_is NoType low high e at s = absurd (let same = same_some _ _ (sym at ∙ s) in cc)

  pub record_is : (t : ResolvedType) (fields : Vec Field Global) → row_at types n ≡ Some (row.Record fields) → Represents types n t → IsRecord types (map entry fields.items) t
  record_is (Simple b x y z) fields at s = absurd (let same = same_some _ _ (sym at ∙ s.1) in cc)
  record_is (ArrayOf x y u) fields at s = absurd (let same = same_some _ _ (sym at ∙ s.1) in cc)
  record_is (RecordOf ms) fields at s = record {
    members = ms;
    is = refl;
    represent = subst (λ r. AreMembers types (map entry (fields_of r).items) ms) (sym (same_some _ _ (sym at ∙ s.1))) s.2;
  }
    where
      fields_of : TypeRow → Vec Field Global
      fields_of (row.Record f) = f
      fields_of _ = fields
  record_is Queue fields at s = absurd (let same = same_some _ _ (sym at ∙ s) in cc)
  record_is (ComponentOf y ms) fields at s = absurd (let same = same_some _ _ (sym at ∙ s.3) in cc)
  record_is NoType fields at s = absurd (let same = same_some _ _ (sym at ∙ s) in cc)

  pub component_is : (t : ResolvedType) (k : ℕ) (members : Vec Field Global) → row_at types n ≡ Some (row.Component k members) → Represents types n t → IsComponent types k (map entry members.items) t
  component_is (Simple b u v z) k members at s = absurd (let same = same_some _ _ (sym at ∙ s.1) in cc)
  component_is (ArrayOf u v w) k members at s = absurd (let same = same_some _ _ (sym at ∙ s.1) in cc)
  component_is (RecordOf ms) k members at s = absurd (let same = same_some _ _ (sym at ∙ s.1) in cc)
  component_is Queue k members at s = absurd (let same = same_some _ _ (sym at ∙ s) in cc)
  component_is (ComponentOf y ms) k members at s = record {
    system = s.2;
    there = subst (λ r. system_at types (number_of r) ≡ Some s.2) (sym (same_some _ _ (sym at ∙ s.3))) s.4;
    members = ms;
    is = ap (λ z. ComponentOf z ms) (sym s.5);
    represent = subst (λ r. AreMembers types (map entry (members_of r).items) ms) (sym (same_some _ _ (sym at ∙ s.3))) s.6;
  }
    where
      number_of : TypeRow → ℕ
      number_of (row.Component j f) = j
      number_of _ = k

      members_of : TypeRow → Vec Field Global
      members_of (row.Component j f) = f
      members_of _ = members
  component_is NoType k members at s = absurd (let same = same_some _ _ (sym at ∙ s) in cc)
