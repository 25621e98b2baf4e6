-- The plan of a type is that of its row.
use Rattle.std.proofs.Common.{◌≡◌, ◌≢◌, ◌∙◌, ℕ, zero, suc, ℤ, pos, negsuc, List, [], ◌∷◌, Bool, true, false, None, Some, Vec, Global, get_or, refl, ap, sym, subst, length, map, arith}
use Rattle.std.specs.Prelude.{if◌then◌else◌, nat_le}
use Rattle.std.specs.Borrow.{Bor}
use Rattle.std.proofs.lemmas.Option.{same_Some}
use Rattle.cp_model.specs.Erase as erase
use Rattle.cp_model.specs.Types.{ArrayOf, ComponentOf, Members, NoType, Queue, RecordOf, ResolvedType, Simple}
use Rattle.cp_model.specs.View as tree_view
use Rattle.cp_model.specs.declared.tree.System.{System}
use Rattle.cp_model_program.specs.Plans.{plan_before, plan_of_elements, plan_of_word, repeats, value_of_fill}
use Rattle.cp_model_program.specs.Programs as code
use Rattle.cp_program.specs.declared.program.StartPiece.{StartPiece}
use Rattle.cp_program.specs.declared.program.StartPiece.TheVariants as start
use Rattle.cp_program.specs.View.{plan_of}
use Rattle.cp_compile_symbols.specs.declared.types.Field.{Field}
use Rattle.cp_compile_symbols.specs.declared.types.Simple as simple_row
use Rattle.cp_compile_symbols.specs.declared.types.Types.{Types}
use Rattle.cp_compile_symbols.specs.declared.types.TypeRow.{TypeRow}
use Rattle.cp_compile_symbols.specs.declared.types.TypeRow.TheVariants as row
use Rattle.cp_compile_symbols.specs.Representing.{AreMembers, Represents, entry, row_at, simple_of, system_at}

-- ---- Elements

-- A plan of none or of several pieces is no fill.
pub no_fill : (known : List code.StartPlan) (size : ℕ) (xs : List StartPiece) → length xs ≢ 1 → value_of_fill size (plan_of known xs) ≡ None
no_fill known size [] other = refl
no_fill known size (x ∷ []) other = absurd (other refl)
no_fill known size (start.Fill a c v ∷ start.Fill b d w ∷ xs) other = refl
no_fill known size (start.Fill a c v ∷ start.Repeat b d w ∷ xs) other = refl
no_fill known size (start.Fill a c v ∷ start.Part b p ∷ xs) other = refl
no_fill known size (start.Repeat a s c ∷ y ∷ xs) other = refl
no_fill known size (start.Part a p ∷ y ∷ xs) other = refl

-- A plan that has pieces is put before the repeats of its words.
pub elements_put : (known : List code.StartPlan) (size count : ℕ) (xs : List StartPiece) → length xs ≢ 0
    → plan_of_elements size count None (plan_of known xs) ≡ plan_before 0 (plan_of known xs) (repeats size count)
elements_put known size count [] some = absurd (some refl)
elements_put known size count (start.Fill a c v ∷ xs) some = refl
elements_put known size count (start.Repeat a s c ∷ xs) some = refl
elements_put known size count (start.Part a p ∷ xs) some = refl

-- Elements whose plan is no fill are put before the repeats of their words.
pub elements_before : (known : List code.StartPlan) (size count : ℕ) (xs : List StartPiece) (p : code.StartPlan) → plan_of known xs ≡ p → length xs ≢ 0 → value_of_fill size p ≡ None
    → plan_before 0 p (repeats size count) ≡ plan_of_elements size count (value_of_fill size p) p
elements_before known size count xs p is some none =
    sym (ap (λ o. plan_of_elements size count o p) none
    ∙ subst (λ q. plan_of_elements size count None q ≡ plan_before 0 q (repeats size count)) is (elements_put known size count xs some))

pub no_pieces : (xs : List StartPiece) → length xs ≡ 0 → xs ≡ []
no_pieces [] is = refl
no_pieces (x ∷ xs) is = absurd (omega (arith, is))

pub one_only : (xs : List StartPiece) (none : StartPiece) → length xs ≡ 1 → get_or xs 0 none ∷ [] ≡ xs
one_only [] none is = absurd (omega (arith, is))
one_only (x ∷ []) none is = refl
one_only (x ∷ y ∷ xs) none is = absurd (omega (arith, is))

pub no_repeats : (size count : ℕ) → nat_le count 1 ≡ true → code.Done ≡ repeats size count
no_repeats size count is = sym (ap (λ b. if b then code.Done else code.Repeat 0 size count code.Done) is)

pub some_repeats : (size count : ℕ) → nat_le count 1 ≡ false → code.Repeat 0 size count code.Done ≡ repeats size count
some_repeats size count is = sym (ap (λ b. if b then code.Done else code.Repeat 0 size count code.Done) is)

-- ---- Words

pub any_word : (zeros : Bool) (n : ℤ) → zeros ≡ false → plan_of_word zeros n ≡ code.Fill 0 1 n code.Done
any_word zeros n is = ap (λ z. plan_of_word z n) is

pub zero_word : (zeros : Bool) (n : ℤ) → zeros ≡ true → n ≡ pos 0 → plan_of_word zeros n ≡ code.Done
zero_word zeros n is nothing = λ i. plan_of_word (is i) (nothing i)

pub other_word : (zeros : Bool) (n : ℤ) → (n ≡ pos 0 → ⊥) → plan_of_word zeros n ≡ code.Fill 0 1 n code.Done
other_word false n other = refl
other_word true (pos zero) other = absurd (other refl)
other_word true (pos (suc k)) other = refl
other_word true (negsuc k) other = refl

-- ---- Rows

same_row : (types : Types) (n : ℕ) (r s : TypeRow) → row_at types n ≡ Some r → row_at types n ≡ Some s → r ≡ s
same_row types n r s p q = same_Some r s (sym p ∙ q)

module _ (types : Types) (n : ℕ) (P : ResolvedType → Type 0) where
  pub as_simple : (s : simple_row.Simple) → row_at types n ≡ Some (row.Simple s)
      → ((t : ResolvedType) → simple_of s ≡ t → P t) → (t : ResolvedType) → Represents types n t → P t
  as_simple s at is (Simple b x y z) h =
      let same : row.Simple s ≡ row.Simple h.0 = same_row types n (row.Simple s) (row.Simple h.0) at h.1 in
      let one : s ≡ h.0 = cc in
      is (Simple b x y z) (ap simple_of one ∙ h.2)
  as_simple s at is (ArrayOf x y u) h = absurd (let same = same_row types n (row.Simple s) (row.Array x y h.0) at h.1 in cc)
  as_simple s at is (RecordOf ms) h = absurd (let same = same_row types n (row.Simple s) (row.Record h.0) at h.1 in cc)
  as_simple s at is Queue h = absurd (let same = same_row types n (row.Simple s) row.Queue at h in cc)
  as_simple s at is (ComponentOf y ms) h = absurd (let same = same_row types n (row.Simple s) (row.Component h.0 h.1) at h.3 in cc)
  as_simple s at is NoType h = absurd (let same = same_row types n (row.Simple s) row.Unknown at h in cc)

  pub as_array : (low high : ℤ) (e : ℕ) → row_at types n ≡ Some (row.Array low high e)
      → ((t : ResolvedType) → Represents types e t → P (ArrayOf low high t)) → (t : ResolvedType) → Represents types n t → P t
  as_array low high e at is (Simple b x y z) h = absurd (let same = same_row types n _ _ at h.1 in cc)
  as_array low high e at is (ArrayOf x y u) h =
      let same = same_row types n _ _ at h.1 in
      let lows : low ≡ x = cc in
      let highs : high ≡ y = cc in
      let elements : e ≡ h.0 = cc in
      let element : Represents types e u = subst (λ k. Represents types k u) (sym elements) h.2 in
      subst (λ l. P (ArrayOf l y u)) lows (subst (λ k. P (ArrayOf low k u)) highs (is u element))
  as_array low high e at is (RecordOf ms) h = absurd (let same = same_row types n _ _ at h.1 in cc)
  as_array low high e at is Queue h = absurd (let same = same_row types n _ _ at h in cc)
  as_array low high e at is (ComponentOf y ms) h = absurd (let same = same_row types n _ _ at h.3 in cc)
  as_array low high e at is NoType h = absurd (let same = same_row types n _ _ at h in cc)

  pub as_record : (fields : Vec Field Global) → row_at types n ≡ Some (row.Record fields)
      → ((ms : Members) → AreMembers types (map entry fields.items) ms → P (RecordOf ms)) → (t : ResolvedType) → Represents types n t → P t
  as_record fields at is (Simple b x y z) h = absurd (let same = same_row types n _ _ at h.1 in cc)
  as_record fields at is (ArrayOf x y u) h = absurd (let same = same_row types n _ _ at h.1 in cc)
  as_record fields at is (RecordOf ms) h =
      let same : row.Record fields ≡ row.Record h.0 = same_row types n _ _ at h.1 in
      let one : fields ≡ h.0 = cc in
      is ms (subst (λ (v : Vec Field Global). AreMembers types (map entry v.items) ms) (sym one) h.2)
  as_record fields at is Queue h = absurd (let same = same_row types n _ _ at h in cc)
  as_record fields at is (ComponentOf y ms) h = absurd (let same = same_row types n _ _ at h.3 in cc)
  as_record fields at is NoType h = absurd (let same = same_row types n _ _ at h in cc)

  pub as_queue : row_at types n ≡ Some row.Queue → P Queue → (t : ResolvedType) → Represents types n t → P t
  as_queue at is (Simple b x y z) h = absurd (let same = same_row types n _ _ at h.1 in cc)
  as_queue at is (ArrayOf x y u) h = absurd (let same = same_row types n _ _ at h.1 in cc)
  as_queue at is (RecordOf ms) h = absurd (let same = same_row types n _ _ at h.1 in cc)
  as_queue at is Queue h = is
  as_queue at is (ComponentOf y ms) h = absurd (let same = same_row types n _ _ at h.3 in cc)
  as_queue at is NoType h = absurd (let same = same_row types n _ _ at h in cc)

  pub as_unknown : row_at types n ≡ Some row.Unknown → P NoType → (t : ResolvedType) → Represents types n t → P t
  as_unknown at is (Simple b x y z) h = absurd (let same = same_row types n _ _ at h.1 in cc)
  as_unknown at is (ArrayOf x y u) h = absurd (let same = same_row types n _ _ at h.1 in cc)
  as_unknown at is (RecordOf ms) h = absurd (let same = same_row types n _ _ at h.1 in cc)
  as_unknown at is Queue h = absurd (let same = same_row types n _ _ at h in cc)
  as_unknown at is (ComponentOf y ms) h = absurd (let same = same_row types n _ _ at h.3 in cc)
  as_unknown at is NoType h = is

  pub as_component : (k : ℕ) (members : Vec Field Global) (system : Bor System) → row_at types n ≡ Some (row.Component k members) → system_at types k ≡ Some system
      → ((ms : Members) → AreMembers types (map entry members.items) ms → P (ComponentOf (erase.system (tree_view.system system.now)) ms))
      → (t : ResolvedType) → Represents types n t → P t
  as_component k members system at there is (Simple b x y z) h = absurd (let same = same_row types n _ _ at h.1 in cc)
  as_component k members system at there is (ArrayOf x y u) h = absurd (let same = same_row types n _ _ at h.1 in cc)
  as_component k members system at there is (RecordOf ms) h = absurd (let same = same_row types n _ _ at h.1 in cc)
  as_component k members system at there is Queue h = absurd (let same = same_row types n _ _ at h in cc)
  as_component k members system at there is (ComponentOf y ms) h =
      let same : row.Component k members ≡ row.Component h.0 h.1 = same_row types n _ _ at h.3 in
      let numbers : k ≡ h.0 = cc in
      let lists : members ≡ h.1 = cc in
      let own : system ≡ h.2 = same_Some system h.2 (sym there ∙ ap (system_at types) numbers ∙ h.4) in
      subst (λ s. P (ComponentOf s ms)) (ap (λ (b : Bor System). erase.system (tree_view.system b.now)) own ∙ h.5)
      (is ms (subst (λ (v : Vec Field Global). AreMembers types (map entry v.items) ms) (sym lists) h.6))
  as_component k members system at there is NoType h = absurd (let same = same_row types n _ _ at h in cc)
