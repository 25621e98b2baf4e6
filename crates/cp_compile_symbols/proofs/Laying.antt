-- Members are laid out one after another.
use Rattle.std.proofs.Common.{◌≡◌, ◌+◌, ◌*◌, ◌⊎◌, inl, inr, ⊎_elim, zero, suc, ℤ, Bor, Vec, Global, length, map, slice_get, ◌++◌, ◌∷◌, ◌∙◌, Bool, true, false, ℕ, List, [], Option, None, Some, ap, refl, subst, sym, arith, if◌then◌else◌}
use Rattle.std.specs.Str.{bytes_eq}
use Rattle.cp_model.specs.Abstract.{Name}
use Rattle.cp_model.specs.Names.{lookup}
use Rattle.cp_model.specs.Types.{ArrayOf, ComponentOf, GlobalScope, Members, MoreMembers, NoMembers, NoType, Queue, RecordOf, ResolvedType, Simple}
use Rattle.cp_model.specs.Erase as erase
use Rattle.cp_model.specs.View as view
use Rattle.cp_model.specs.Integers.{count_between}
use Rattle.std.proofs.lemmas.Option.{same_Some}
use Rattle.cp_law_typing.specs.Words.{words, words_of_members}
use Rattle.cp_model_program.specs.Layout as code
use Rattle.cp_model_program.specs.Layout.{farther, member_part}
use Rattle.cp_compile_symbols.specs.declared.layout.Layout.{Layout}
use Rattle.cp_compile_symbols.specs.declared.layout.Part.{Part}
use Rattle.cp_compile_symbols.specs.declared.types.Types.{Types}
use Rattle.cp_model.specs.declared.tree.Sort.{Sort}
use Rattle.cp_model.specs.declared.tree.Sort.TheVariants as sort
use Rattle.cp_model.specs.declared.tree.System.{System}
use Rattle.cp_compile_symbols.proofs.Representing.{grows_more}
use Rattle.cp_compile_symbols.specs.declared.names.Names.{Names}
use Rattle.cp_compile_symbols.specs.declared.types.Field.{Field}
use Rattle.cp_compile_symbols.specs.declared.types.TypeRow.{TypeRow}
use Rattle.cp_compile_symbols.specs.declared.types.TypeRow.TheVariants as row
use Rattle.cp_compile_symbols.specs.Layouts.{AreLaid, Counts, LaysRow, LayoutIs, MembersLie, PartIs, rights_of}
use Rattle.cp_compile_symbols.specs.Representing.{AreMembers, Grows, ScopeRepresents, Represents, entry, row_at, system_at}
use Rattle.cp_compile_symbols.specs.Tables.{Behind, or_last}

-- Where a part is: as recorded if it is laid out already, and otherwise among those that remain.
abbrev pub PartFound : GlobalScope → Types → Option Part → Option code.Part → Option code.Part → Type 0
PartFound g types None wanted left = wanted ≡ left
PartFound g types (Some p) wanted left = PartIs types (Some p) wanted

-- The remaining members are after those that are laid out.
pub record PartlyLaid (g : GlobalScope) (types : Types) (at : ℕ) (ms : Members) (left : List (Name × ℕ)) (l : Layout) : Type 0 where
  pub here : ℕ
  pub others : Members
  pub represent : AreMembers types left others
  pub counts : Counts l.words here
  pub words : here + words_of_members g others ≡ at + words_of_members g ms
  pub parts : (x : Name) → PartFound g types (lookup x l.parts) (member_part g at ms x []) (member_part g here others x [])

pub all_laid : (g : GlobalScope) (types : Types) (at : ℕ) (ms : Members) (left : List (Name × ℕ)) (l : Layout) → left ≡ [] → PartlyLaid g types at ms left l
    → MembersLie g types at ms l
all_laid g types at ms left l none partly = go partly.others (subst (λ fs. AreMembers types fs partly.others) none partly.represent) partly.words partly.parts
  where
    go : (others : Members) → AreMembers types [] others → partly.here + words_of_members g others ≡ at + words_of_members g ms
        → ((x : Name) → PartFound g types (lookup x l.parts) (member_part g at ms x []) (member_part g partly.here others x [])) → MembersLie g types at ms l
    go (MoreMembers x t rest) represent words parts = absurd represent
    go NoMembers represent words parts = record {
      words = subst (Counts l.words) (omega (arith, words)) partly.counts;
      parts = λ x. found (lookup x l.parts) _ (parts x);
    }
      where
        found : (p : Option Part) (q : Option code.Part) → PartFound g types p q None → PartIs types p q
        found None q h = subst (PartIs types None) (sym h) tt
        found (Some p) q h = h

pub none_laid : (g : GlobalScope) (types : Types) (at : ℕ) (ms : Members) (fs : List (Name × ℕ)) (l : Layout) → l.parts ≡ [] → Counts l.words at
    → AreMembers types fs ms → PartlyLaid g types at ms fs l
none_laid g types at ms fs l none counts represent = record {
  here = at;
  others = ms;
  represent = represent;
  counts = counts;
  words = refl;
  parts = λ x. rw none refl;
}

-- One member more.
pub one_laid : (g : GlobalScope) (types : Types) (at : ℕ) (ms : Members) (x : Name) (n : ℕ) (fs : List (Name × ℕ)) (l m : Layout) (p : Part) (size : Option ℕ)
    → ((t : ResolvedType) → Represents types n t → Counts size (words g t)) → ((i j : ℕ) → Counts l.words i → Counts size j → Counts m.words (i + j))
    → p.at ≡ l.words → p.of ≡ n → Behind x p l.parts m.parts → PartlyLaid g types at ms ((x, n) ∷ fs) l → PartlyLaid g types at ms fs m
one_laid g types at ms x n fs l m p size sized added at_is of_is behind partly = go partly.others partly.represent partly.words partly.parts
  where
    go : (others : Members) → AreMembers types ((x, n) ∷ fs) others → partly.here + words_of_members g others ≡ at + words_of_members g ms
        → ((z : Name) → PartFound g types (lookup z l.parts) (member_part g at ms z []) (member_part g partly.here others z []))
        → PartlyLaid g types at ms fs m
    go NoMembers represent total parts = absurd represent
    go (MoreMembers y t rest) represent total parts = record {
      here = partly.here + words g t;
      others = rest;
      represent = represent.2;
      counts = added partly.here (words g t) partly.counts (sized t represent.1);
      words = omega (arith, total);
      parts = λ z.
          subst (λ o. PartFound g types o (member_part g at ms z []) (member_part g (partly.here + words g t) rest z [])) (sym (behind z))
          (found z (lookup z l.parts) (bytes_eq z x) (subst (λ w. PartFound g types (lookup z l.parts) (member_part g at ms z [])
          (if bytes_eq z w then farther partly.here (Some (0, t)) else member_part g (partly.here + words g t) rest z [])) (sym represent.0) (parts z)));
    }
      where
        is_part : Counts p.at (partly.here + 0) × Represents types p.of t
        is_part = (subst (λ o. Counts o (partly.here + 0)) (sym at_is) (subst (Counts l.words) (omega arith) partly.counts), subst (λ k. Represents types k t) (sym of_is) represent.1)

        found : (z : Name) (o : Option Part) (b : Bool)
            → PartFound g types o (member_part g at ms z []) (if b then farther partly.here (Some (0, t)) else member_part g (partly.here + words g t) rest z [])
            → PartFound g types (or_last o b p) (member_part g at ms z []) (member_part g (partly.here + words g t) rest z [])
        found z (Some q) b h = h
        found z None true h = subst (PartIs types (Some p)) (sym h) is_part
        found z None false h = h

-- ---- Rows

module _ (g : GlobalScope) (types : Types) (n : ℕ) (l : Layout) where
  same_row : (r s : TypeRow) → row_at types n ≡ Some r → row_at types n ≡ Some s → r ≡ s
  same_row r s p q = same_Some r s (sym p ∙ q)

  pub array_laid : (t : ResolvedType) (low high : ℤ) (e : ℕ) → row_at types n ≡ Some (row.Array low high e) → Represents types n t → l.parts ≡ []
      → ((u : ResolvedType) → Represents types e u → Counts l.words (count_between low high * words g u)) → LayoutIs g types l t
  array_laid (Simple b x y z) low high e at s none counts = absurd (let same = same_row _ _ at s.1 in cc)
  array_laid (ArrayOf x y u) low high e at s none counts =
      let same = same_row _ _ at s.1 in
      let lows : low ≡ x = cc in
      let highs : high ≡ y = cc in
      let elements : e ≡ s.0 = cc in
      record {
        words = rw (← lows, ← highs) (counts u (subst (λ k. Represents types k u) (sym elements) s.2));
        parts = λ x. rw none tt;
      }
  array_laid (RecordOf ms) low high e at s none counts = absurd (let same = same_row _ _ at s.1 in cc)
  array_laid Queue low high e at s none counts = absurd (let same = same_row _ _ at s in cc)
  array_laid (ComponentOf y ms) low high e at s none counts = absurd (let same = same_row _ _ at s.3 in cc)
  array_laid NoType low high e at s none counts = absurd (let same = same_row _ _ at s in cc)

  pub record_laid : (t : ResolvedType) (fields : Vec Field Global) → row_at types n ≡ Some (row.Record fields) → Represents types n t
      → ((ms : Members) → AreMembers types (map entry fields.items) ms → MembersLie g types 0 ms l) → LayoutIs g types l t
  record_laid (Simple b x y z) fields at s lie = absurd (let same = same_row _ _ at s.1 in cc)
  record_laid (ArrayOf x y u) fields at s lie = absurd (let same = same_row _ _ at s.1 in cc)
  record_laid (RecordOf ms) fields at s lie =
      let same = same_row _ _ at s.1 in
      let those : fields ≡ s.0 = cc in
      let all = lie ms (subst (λ (v : Vec Field Global). AreMembers types (map entry v.items) ms) (sym those) s.2) in
      record { words = subst (Counts l.words) (omega arith) all.words; parts = all.parts }
  record_laid Queue fields at s lie = absurd (let same = same_row _ _ at s in cc)
  record_laid (ComponentOf y ms) fields at s lie = absurd (let same = same_row _ _ at s.3 in cc)
  record_laid NoType fields at s lie = absurd (let same = same_row _ _ at s in cc)

  pub component_laid : (t : ResolvedType) (k : ℕ) (members : Vec Field Global) (y : Bor System) → row_at types n ≡ Some (row.Component k members)
      → system_at types k ≡ Some y → Represents types n t
      → ((ms : Members) → AreMembers types (map entry members.items) ms → LayoutIs g types l (ComponentOf (erase.system (view.system y.now)) ms))
      → LayoutIs g types l t
  component_laid (Simple b u v z) k members y at there s lie = absurd (let same = same_row _ _ at s.1 in cc)
  component_laid (ArrayOf u v z) k members y at there s lie = absurd (let same = same_row _ _ at s.1 in cc)
  component_laid (RecordOf ms) k members y at there s lie = absurd (let same = same_row _ _ at s.1 in cc)
  component_laid Queue k members y at there s lie = absurd (let same = same_row _ _ at s in cc)
  component_laid (ComponentOf z ms) k members y at there s lie =
      let same = same_row _ _ at s.3 in
      let number : k ≡ s.0 = cc in
      let those : members ≡ s.1 = cc in
      let system : y ≡ s.2 = same_Some y s.2 (sym there ∙ ap (system_at types) number ∙ s.4) in
      let is : erase.system (view.system y.now) ≡ z = ap (λ (w : Bor System). erase.system (view.system w.now)) system ∙ s.5 in
      subst (λ w. LayoutIs g types l (ComponentOf w ms)) is
      (lie ms (subst (λ (v : Vec Field Global). AreMembers types (map entry v.items) ms) (sym those) s.6))
  component_laid NoType k members y at there s lie = absurd (let same = same_row _ _ at s in cc)

-- ---- One layout more

pub last_or_before : {A : Type 0} (xs : List A) (d : A) (i : ℕ) (x : A) → slice_get (xs ++ d ∷ []) i ≡ Some x
    → (slice_get xs i ≡ Some x) ⊎ ((i ≡ length xs) × (d ≡ x))
last_or_before [] d zero x h = inr (refl, same_Some d x h)
last_or_before [] d (suc i) x h = absurd (cc)
last_or_before (y ∷ ys) d zero x h = inl h
last_or_before (y ∷ ys) d (suc i) x h = ⊎_elim (λ l. inl l) (λ r. inr (ap suc r.0, r.1)) (last_or_before ys d i x h)

pub one_more_laid : (names : Names) (types : Types) (ls : List Layout) (r : TypeRow) (l : Layout) (g : GlobalScope) → ScopeRepresents names types g
    → row_at types (length ls) ≡ Some r → LaysRow names types ls r l → AreLaid g types ls → AreLaid g types (ls ++ l ∷ [])
one_more_laid names types ls r l g scope at lays laid later grows n m t there represents =
    ⊎_elim
    (λ before. laid later grows n m t before represents)
    (λ last. subst (λ (z : Layout). LayoutIs g later z t) last.1
    (lays g later n t scope grows laid (grows.rows n r (subst (λ k. row_at types k ≡ Some r) (sym last.0) at)) represents))
    (last_or_before ls l n m there)

pub laid_later : (g : GlobalScope) (types later : Types) (ls : List Layout) → Grows types later → AreLaid g types ls → AreLaid g later ls
laid_later g types later ls grows laid last more = laid last (grows_more types later last grows more)

-- ---- Classes

sort_is : (y : System) (s : Sort) → y.sort ≡ s → (erase.system (view.system y)).sort ≡ erase.sort_of s
sort_is y s h = ap erase.sort_of h

pub class_laid : (g : GlobalScope) (types : Types) (y : System) (l : Layout) (ms : Members) → y.sort ≡ sort.Class
    → MembersLie g types (1 + rights_of g y.parameters.items) ms l → LayoutIs g types l (ComponentOf (erase.system (view.system y)) ms)
class_laid g types y l ms is lie =
    let class' = sort_is y sort.Class is in
    record { words = rw class' lie.words; parts = λ x. rw class' (subst (λ n. PartIs types (lookup x l.parts) (member_part g n ms x [])) (omega arith) (lie.parts x)) }

pub nothing_laid : (g : GlobalScope) (types : Types) (ls : List Layout) → ls ≡ [] → AreLaid g types ls
nothing_laid g types ls none later grows n l t there represents =
    absurd (nothing n (subst (λ (xs : List Layout). slice_get xs n ≡ Some l) none there))
  where
    nothing : (i : ℕ) → slice_get {X = Layout} [] i ≡ Some l → ⊥
    nothing i h = absurd (cc)
