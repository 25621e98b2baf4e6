-- What represents something still represents it after types are added.
use Rattle.std.proofs.Common.{◌≡◌, ◌<◌, ◌++◌, ◌∷◌, ◌∙◌, Global, Vec, ℕ, zero, suc, ℤ, List, [], Option, None, Some, ap, length, map, refl, slice_get, sym}
use Rattle.std.proofs.lemmas.Option.{slice_get_within}
use Rattle.cp_model.specs.Abstract.{BaseType, Name}
use Rattle.cp_model.specs.Types.{ArrayOf, ComponentOf, GlobalScope, Members, MoreMembers, NoMembers, NoType, Queue, RecordOf, ResolvedType, Simple, array_type}
use Rattle.cp_model.specs.declared.tree.TypeExpression.{TypeExpression}
use Rattle.cp_compile_symbols.specs.declared.types.Simple as plain
use Rattle.cp_compile_symbols.specs.declared.types.Field.{Field}
use Rattle.cp_compile_symbols.specs.declared.types.TypeRow.{TypeRow}
use Rattle.cp_compile_symbols.specs.declared.types.TypeRow.TheVariants as row
use Rattle.cp_compile_symbols.specs.declared.types.Types.{Types}
use Rattle.cp_compile_symbols.specs.declared.names.Names.{Names}
use Rattle.cp_compile_symbols.specs.Representing.{Adds, AreMembers, Grows, Keeps, Makes, MakesArray, MakesIndexed, ScopeRepresents, Represents, TypeMeans, array_row, array_type_over, row_at, simple_of, system_at, type_from}

pub grows_not : (types : Types) → Grows types types
grows_not types = record { rows = λ n r h. h; systems = refl }

pub grows_more : (a b c : Types) → Grows a b → Grows b c → Grows a c
grows_more a b c one two = record {
  rows = λ n r h. two.rows n r (one.rows n r h);
  systems = two.systems ∙ one.systems;
}

-- System types keep their numbers.
pub same_system : (old new : Types) → Grows old new → (k : ℕ) → system_at new k ≡ system_at old k
same_system old new grows k = ap (λ ys. slice_get ys k) grows.systems

pub kept : (old new : Types) → Grows old new → Keeps old new
kept old new grows = record { rows = grows.rows; systems = λ k s h. same_system old new grows k ∙ h }

pub kept_more : (a b c : Types) → Keeps a b → Keeps b c → Keeps a c
kept_more a b c one two = record {
  rows = λ n r h. two.rows n r (one.rows n r h);
  systems = λ k s h. two.systems k s (one.systems k s h);
}

module _ (old new : Types) (keeps : Keeps old new) where
  mutual
    pub kept_represents : (n : ℕ) (t : ResolvedType) → Represents old n t → Represents new n t
    kept_represents n (Simple b low high start) s = (s.0, keeps.rows n (row.Simple s.0) s.1, s.2)
    kept_represents n (ArrayOf low high t) s = (s.0, keeps.rows n (row.Array low high s.0) s.1, kept_represents s.0 t s.2)
    kept_represents n (RecordOf ms) s = (s.0, keeps.rows n (row.Record s.0) s.1, kept_members (map _ s.0.items) ms s.2)
    kept_represents n Queue s = keeps.rows n row.Queue s
    kept_represents n (ComponentOf y ms) s =
        (s.0, s.1, s.2, keeps.rows n (row.Component s.0 s.1) s.3, keeps.systems s.0 s.2 s.4, s.5, kept_members (map _ s.1.items) ms s.6)
    kept_represents n NoType s = keeps.rows n row.Unknown s

    pub kept_members : (fs : List (Name × ℕ)) (ms : Members) → AreMembers old fs ms → AreMembers new fs ms
    kept_members [] NoMembers s = tt
    kept_members (f ∷ fs) (MoreMembers x t ms) s = (s.0, kept_represents f.1 t s.1, kept_members fs ms s.2)
    kept_members [] (MoreMembers x t ms) s = absurd s
    kept_members (f ∷ fs) NoMembers s = absurd s

  kept_means : (n : Option ℕ) (t : Option ResolvedType) → TypeMeans old n t → TypeMeans new n t
  kept_means None None s = tt
  kept_means (Some n) (Some t) s = kept_represents n t s
  kept_means None (Some t) s = absurd s
  kept_means (Some n) None s = absurd s

  pub kept_scope : (names : Names) (g : GlobalScope) → ScopeRepresents names old g → ScopeRepresents names new g
  kept_scope names g s = record { constants = s.constants; types = λ x. kept_means _ _ (s.types x) }

module _ (old new : Types) (grows : Grows old new) where
  pub still_represents : (n : ℕ) (t : ResolvedType) → Represents old n t → Represents new n t
  still_represents = kept_represents old new (kept old new grows)

  pub still_members : (fs : List (Name × ℕ)) (ms : Members) → AreMembers old fs ms → AreMembers new fs ms
  still_members = kept_members old new (kept old new grows)

  pub still_scope : (names : Names) (g : GlobalScope) → ScopeRepresents names old g → ScopeRepresents names new g
  still_scope = kept_scope old new (kept old new grows)

-- The number of a type is that of a row.
pub has_row : (types : Types) (n : ℕ) (t : ResolvedType) → Represents types n t → n < length types.rows.items
has_row types n (Simple b low high start) s = slice_get_within types.rows.items n _ s.1
has_row types n (ArrayOf low high t) s = slice_get_within types.rows.items n _ s.1
has_row types n (RecordOf ms) s = slice_get_within types.rows.items n _ s.1
has_row types n Queue s = slice_get_within types.rows.items n _ s
has_row types n (ComponentOf y ms) s = slice_get_within types.rows.items n _ s.3
has_row types n NoType s = slice_get_within types.rows.items n _ s

-- A type of components has a system type.
pub has_system : (types : Types) (n : ℕ) (t : ResolvedType) (k : ℕ) (members : Vec Field Global) → row_at types n ≡ Some (row.Component k members)
    → Represents types n t → system_at types k ≡ None → ⊥
has_system types n (Simple b low high start) k members at s none = (let both = sym at ∙ s.1 in cc)
has_system types n (ArrayOf low high t) k members at s none = (let both = sym at ∙ s.1 in cc)
has_system types n (RecordOf ms) k members at s none = (let both = sym at ∙ s.1 in cc)
has_system types n Queue k members at s none = (let both = sym at ∙ s in cc)
has_system types n (ComponentOf y ms) k members at s none = (let both = sym at ∙ s.3 in let there = s.4 in cc)
has_system types n NoType k members at s none = (let both = sym at ∙ s in cc)

-- ---- One item more

pub still_item : {A : Type 0} (xs : List A) (d : A) (i : ℕ) (x : A) → slice_get xs i ≡ Some x → slice_get (xs ++ d ∷ []) i ≡ Some x
still_item [] d i x h = absurd (cc)
still_item (y ∷ ys) d zero x h = h
still_item (y ∷ ys) d (suc i) x h = still_item ys d i x h

pub last_item : {A : Type 0} (xs : List A) (d : A) → slice_get (xs ++ d ∷ []) (length xs) ≡ Some d
last_item [] d = refl
last_item (x ∷ xs) d = last_item xs d

-- ---- Arrays

same_bounds : (s : plain.Simple) (b : BaseType) (low high start : ℤ) → simple_of s ≡ Simple b low high start → (s.low ≡ low) × (s.high ≡ high)
same_bounds s b low high start h = (cc, cc)

pub array_made : (old new : Types) (r : TypeRow) (index element n : ℕ) → r ≡ array_row (row_at old index) element → Adds old new r n
    → MakesArray old new index element n
array_made old new r index element n is adds = record { grows = adds.grows; represents = made }
  where
    row_is : (q : TypeRow) → row_at old index ≡ Some q → row_at new n ≡ Some (array_row (Some q) element)
    row_is q h = adds.added ∙ ap Some (is ∙ ap (λ o. array_row o element) h)

    made : (i e : ResolvedType) → Represents old index i → Represents old element e → Represents new n (array_type i e)
    made (Simple b low high start) e s t =
        let same = same_bounds s.0 b low high start s.2 in
        let at : row_at new n ≡ Some (row.Array low high element) = rw (← same.0, ← same.1) (row_is (row.Simple s.0) s.1) in
        (element, at, still_represents old new adds.grows element e t)
    made (ArrayOf low high u) e s t = row_is _ s.1
    made (RecordOf ms) e s t = row_is _ s.1
    made Queue e s t = row_is _ s
    made (ComponentOf y ms) e s t = row_is _ s.3
    made NoType e s t = row_is _ s

-- What is made after something else is also made from the start.
pub made_later : (names : Names) (a b c : Types) (of : GlobalScope → ResolvedType) (n : ℕ) → Grows a b → Makes names b c of n → Makes names a c of n
made_later names a b c of n grows makes = record {
  grows = grows_more a b c grows makes.grows;
  represents = λ g s. makes.represents g (still_scope a b grows names g s);
}

-- Without index types, the array of arrays is the element itself.
pub indexed_none : (names : Names) (types : Types) (element : ℕ) → MakesIndexed names types types [] element element
indexed_none names types element = record { grows = grows_not types; represents = λ g e scope s. s }

-- One index type more, before the others.
pub indexed_more : (names : Names) (a b c d : Types) (i : TypeExpression) (is : List TypeExpression) (element of index n : ℕ)
    → MakesIndexed names a b is element of → Makes names b c (type_from i) index → MakesArray c d index of n
    → MakesIndexed names a d (i ∷ is) element n
indexed_more names a b c d i is element of index n one two three = record {
  grows = grows_more a b d one.grows (grows_more b c d two.grows three.grows);
  represents = λ g e scope s. three.represents (type_from i g) (array_type_over is e g) (two.represents g (still_scope a b one.grows names g scope))
      (still_represents b c two.grows of (array_type_over is e g) (one.represents g e scope s));
}
