-- The order of definitions, by the numbers of rows: a system type has a row of its own, after those
-- of all types that were defined before it. So of two system types the one with the lower row
-- is earlier in the text, by its name; two of them may be equal as values.
use Rattle.std.proofs.Common.{◌≡◌, ◌⊎◌, inl, inr, ◌<◌, ◌≤◌, ℕ, zero, suc, ◌-◌, ℤ, Bool, true, false, List, [], ◌∷◌, ◌++◌, Option, Some, None, if◌then◌else◌, slice_get, length, refl, ap, sym, subst, ◌∙◌, arith, bytes_eq}
use Rattle.std.proofs.lemmas.Bool.{true≢false}
use Rattle.cp_model.specs.Abstract as a
use Rattle.cp_model.specs.declared.rules.Entity.{Entity}
use Rattle.cp_model.specs.declared.rules.Entity.TheVariants as entity
use Rattle.cp_model.specs.declared.rules.Structure.{Structure}
use Rattle.cp_model.specs.declared.rules.Structure.TheVariants as structure
use Rattle.cp_model.specs.declared.rules.ParameterRow.{ParameterRow}
use Rattle.cp_model.specs.RulesEnvironment.{Environment, Names, Text, parameters_from, row_of, system_in, system_of, system_row}
use Rattle.cp_model.specs.Names.{lookup}
use Rattle.cp_model.specs.Types.{ComponentOf, GlobalScope, Members, ResolvedType, constant_value, full_range, resolved_type}
use Rattle.cp_model.specs.Declarations.{Variable, define, define_all, is_component, reported_members, with_constant}
use Rattle.cp_law_typing.specs.TypePlaces.{defined_name, place_of}
use Rattle.cp_law_typing.proofs.Names.{bytes_same}
use Rattle.cp_law_typing.proofs.TableMeanings.{Grows, OptionalAt, ParametersAs, StructureAs, SystemAs, Tables, TypeAt, Types}
use Rattle.cp_law_typing.proofs.Visible.{some_same}

-- ---- The parameters of a system type

-- The types of these parameters have rows before row `t`.
abbrev pub AllBefore : ℕ → List ParameterRow → Type 0
AllBefore t [] = Unit {0}
AllBefore t (q ∷ qs) = ((u : ℕ) → q.of ≡ Some u → u < t) × AllBefore t qs

-- The parameters of each system type have types that were defined before it.
abbrev pub ParametersBefore : Environment → Types → Type 0
ParametersBefore env rs =
    (t n : ℕ) (y : a.System) (inner : Members) → TypeAt rs t (ComponentOf y inner) → system_of env t ≡ Some n
    → AllBefore t (parameters_from env (system_row env n).first (system_row env n).count)

-- A row that is there has a number below the length.
pub row_within : {A : Type 0} (rs : List A) (t : ℕ) (r : A) → slice_get rs t ≡ Some r → t < length rs
row_within [] t r h = absurd (cc)
row_within (q ∷ rs) zero r h = omega arith
row_within (q ∷ rs) (suc t) r h = omega (arith, row_within rs t r h)

pub all_before : (rs : Types) (t : ℕ) → length rs ≤ t → (qs : List ParameterRow) (vs : List (Text × Variable)) → ParametersAs rs qs vs → AllBefore t qs
all_before rs t enough [] [] h = tt
all_before rs t enough (q ∷ qs) (v ∷ vs) h = (
  λ u e. omega (arith, enough, row_within rs u v.1.type (subst (λ o. OptionalAt rs o v.1.type) e h.1)),
  all_before rs t enough qs vs h.2,
)
all_before rs t enough [] (v ∷ vs) h = absurd h
all_before rs t enough (q ∷ qs) [] h = absurd h

module _ (G : GlobalScope → Type 0) (env after : Environment) (rs more : Types) (tables : Tables G env rs) (grows : Grows env after rs more) where
  system_at : (st : Structure) (y : a.System) (inner : Members) (n : ℕ) → StructureAs G env rs st (ComponentOf y inner) → system_in st ≡ Some n → SystemAs G env rs n y
  system_at (structure.System k) y inner n h e = subst (λ j. SystemAs G env rs j y) (some_same (Some k) k n refl e) h
  system_at (structure.Simple base low high) y inner n h e = absurd h
  system_at (structure.Array i k) y inner n h e = absurd h
  system_at (structure.Record k) y inner n h e = absurd h
  system_at structure.Queue y inner n h e = absurd h

  -- A row that was there before keeps its parameters.
  pub one_before : ParametersBefore env rs → (t n : ℕ) (y : a.System) (inner : Members) → TypeAt rs t (ComponentOf y inner) → system_of after t ≡ Some n
      → AllBefore t (parameters_from after (system_row after n).first (system_row after n).count)
  one_before before t n y inner there e =
      let within : t < length env.types = omega (arith, tables.lengths, row_within rs t (ComponentOf y inner) there) in
      let old : system_of env t ≡ Some n = ap (λ r. system_in r.structure) (sym (grows.rows t within)) ∙ e in
      let s : SystemAs G env rs n y = system_at (row_of env t).structure y inner n (tables.rows t (ComponentOf y inner) there).structure old in
      subst (AllBefore t) (sym (ap (λ r. parameters_from after r.first r.count) (grows.systems n s.within)
      ∙ grows.parameters (system_row env n).first (system_row env n).count s.heading.within))
      (before t n y inner there old)

  pub all_kept : ((t : ℕ) (y : a.System) (inner : Members) → TypeAt more t (ComponentOf y inner) → TypeAt rs t (ComponentOf y inner))
      → ParametersBefore env rs → ParametersBefore after more
  all_kept components before t n y inner there e = one_before before t n y inner (components t y inner there) e

-- ---- Rows ascend

-- What a name represents isn't a system type.
abbrev pub IsNoSystem : Types → Entity → Type 0
IsNoSystem rs (entity.Type t) = (r : ResolvedType) × TypeAt rs t r × (is_component r ≡ false)
IsNoSystem rs (entity.Constant base n) = Unit {0}
IsNoSystem rs _ = ⊥

-- What a name of a system type represents: a row that is at least the first one and below the last.
pub record SystemBetween (names : Names) (x : Text) (low high : ℕ) : Type 0 where
  pub row : ℕ
  pub is : lookup x names ≡ Some (entity.Type row)
  pub from : low ≤ row
  pub below : row < high

pub record OtherName (names : Names) (rs : Types) (x : Text) : Type 0 where
  pub represents : Entity
  pub is : lookup x names ≡ Some represents
  pub other : IsNoSystem rs represents

-- The system types of these definitions have ascending rows from `low` on, below `high`.
abbrev pub Ascend : Names → Types → ℕ → ℕ → List a.Definition → Type 0
Ascend names rs low high [] = low ≤ high
Ascend names rs low high (a.SystemDef x s ∷ ds) = (b : SystemBetween names x low high) × Ascend names rs (suc b.row) high ds
Ascend names rs low high (d ∷ ds) = OtherName names rs (defined_name d) × Ascend names rs low high ds

-- More names and types, which leave those that there were.
pub record MoreNames (before after : Names) (rs more : Types) : Type 0 where
  pub names : (x : Text) (e : Entity) → lookup x before ≡ Some e → lookup x after ≡ Some e
  pub types : (t : ℕ) (r : ResolvedType) → TypeAt rs t r → TypeAt more t r

pub no_more : (names : Names) (rs : Types) → MoreNames names names rs rs
no_more names rs = record { names = λ x e h. h; types = λ t r h. h }

pub more_on : (names between after : Names) (rs qs more : Types) → MoreNames names between rs qs → MoreNames between after qs more → MoreNames names after rs more
more_on names between after rs qs more p q = record { names = λ x e h. q.names x e (p.names x e h); types = λ t r h. q.types t r (p.types t r h) }

module _ (names after : Names) (rs more : Types) (m : MoreNames names after rs more) where
  other_kept : (x : Text) → OtherName names rs x → OtherName after more x
  other_kept x h = record { represents = h.represents; is = m.names x h.represents h.is; other = go h.represents h.other }
    where
      go : (e : Entity) → IsNoSystem rs e → IsNoSystem more e
      go (entity.Type t) h = (h.0, m.types t h.0 h.1, h.2)
      go (entity.Constant base n) h = tt
      go _ h = absurd h

  pub ascend_kept : (low high : ℕ) (ds : List a.Definition) → Ascend names rs low high ds → Ascend after more low high ds
  ascend_kept low high [] h = h
  ascend_kept low high (a.SystemDef x s ∷ ds) h = (
    record { row = h.0.row; is = m.names x (entity.Type h.0.row) h.0.is; from = h.0.from; below = h.0.below },
    ascend_kept (suc h.0.row) high ds h.1,
  )
  ascend_kept low high (d ∷ ds) h = (other_kept (defined_name d) h.0, ascend_kept low high ds h.1)

-- A place is at least 1.
pub place_positive : (x : Text) (ds : List a.Definition) → 1 ≤ place_of x ds
place_positive x [] = omega arith
place_positive x (d ∷ ds) = by (bytes_eq x (defined_name d))
  where
    by : (b : Bool) → 1 ≤ (if b then 1 else suc (place_of x ds))
    by true = omega arith
    by false = omega arith

module _ (names : Names) (rs : Types) where
  ascend_wider : (low middle high : ℕ) (ds : List a.Definition) → low ≤ middle → Ascend names rs middle high ds → Ascend names rs low high ds
  ascend_wider low middle high [] l h = omega (arith, l, h)
  ascend_wider low middle high (a.SystemDef x s ∷ ds) l h = (record { row = h.0.row; is = h.0.is; from = omega (arith, l, h.0.from); below = h.0.below }, h.1)
  ascend_wider low middle high (d ∷ ds) l h = (h.0, ascend_wider low middle high ds l h.1)

  high_enough : (low high : ℕ) (ds : List a.Definition) → Ascend names rs low high ds → low ≤ high
  high_enough low high [] h = h
  high_enough low high (a.SystemDef x s ∷ ds) h = omega (arith, h.0.from, h.0.below)
  high_enough low high (d ∷ ds) h = high_enough low high ds h.1

  pub ascend_on : (low middle high : ℕ) (ds es : List a.Definition) → Ascend names rs low middle ds → Ascend names rs middle high es → Ascend names rs low high (ds ++ es)
  ascend_on low middle high [] es h k = ascend_wider low middle high es h k
  ascend_on low middle high (a.SystemDef x s ∷ ds) es h k = (
    record { row = h.0.row; is = h.0.is; from = h.0.from; below = omega (arith, h.0.below, high_enough middle high es k) },
    ascend_on (suc h.0.row) middle high ds es h.1 k,
  )
  ascend_on low middle high (d ∷ ds) es h k = (h.0, ascend_on low middle high ds es h.1 k)

  -- ---- Rows and places

  -- A name of a system type.
  pub record SystemName (x : Text) (t : ℕ) : Type 0 where
    pub is : lookup x names ≡ Some (entity.Type t)
    pub system : a.System
    pub inner : Members
    pub there : TypeAt rs t (ComponentOf system inner)

  no_other : (x z : Text) (t : ℕ) → SystemName x t → OtherName names rs z → bytes_eq x z ≡ true → ⊥
  no_other x z t n o same = go o.represents (ap (λ w. lookup w names) (sym (bytes_same x z same)) ∙ n.is) o.is o.other
    where
      go : (e : Entity) → lookup z names ≡ Some (entity.Type t) → lookup z names ≡ Some e → IsNoSystem rs e → ⊥
      go e h k other =
          let o : IsNoSystem rs (entity.Type t) = subst (IsNoSystem rs) (some_same (lookup z names) e (entity.Type t) k h) other in
          true≢false (ap is_component (some_same (slice_get rs t) (ComponentOf n.system n.inner) o.0 n.there o.1) ∙ o.2)

  same_row : (x z : Text) (t u : ℕ) → lookup x names ≡ Some (entity.Type t) → lookup z names ≡ Some (entity.Type u) → bytes_eq x z ≡ true → t ≡ u
  same_row x z t u h k same = row_of_type (some_same (lookup z names) (entity.Type t) (entity.Type u) (ap (λ w. lookup w names) (sym (bytes_same x z same)) ∙ h) k)
    where
      number : Entity → ℕ
      number (entity.Type n) = n
      number _ = t

      row_of_type : entity.Type t ≡ entity.Type u → t ≡ u
      row_of_type e = ap number e

  -- A system type that is defined here has a row from `low` on.
  row_from : (low high : ℕ) (ds : List a.Definition) (x : Text) (t : ℕ) → SystemName x t → Ascend names rs low high ds → place_of x ds ≤ length ds → low ≤ t
  row_from low high [] x t n h there = absurd (omega (arith, there))
  row_from low high (a.SystemDef z s ∷ ds) x t n h there = go (bytes_eq x z) refl there (row_from (suc h.0.row) high ds x t n h.1)
    where
      go : (b : Bool) → bytes_eq x z ≡ b → (if b then 1 else suc (place_of x ds)) ≤ length (a.SystemDef z s ∷ ds)
          → (place_of x ds ≤ length ds → suc h.0.row ≤ t) → low ≤ t
      go true e k later = omega (arith, h.0.from, same_row x z t h.0.row n.is h.0.is e)
      go false e k later = omega (arith, h.0.from, later (omega (arith, k)))
  row_from low high (d ∷ ds) x t n h there = go (bytes_eq x (defined_name d)) refl there (row_from low high ds x t n h.1)
    where
      go : (b : Bool) → bytes_eq x (defined_name d) ≡ b → (if b then 1 else suc (place_of x ds)) ≤ length (d ∷ ds)
          → (place_of x ds ≤ length ds → low ≤ t) → low ≤ t
      go true e k later = absurd (no_other x (defined_name d) t n h.0 e)
      go false e k later = later (omega (arith, k))

  -- Of two system types that are defined here, the one with the lower row is before the other.
  pub places_ascend : (low high : ℕ) (ds : List a.Definition) (x z : Text) (t u : ℕ) → SystemName x t → SystemName z u → Ascend names rs low high ds
      → place_of x ds ≤ length ds → t < u → place_of x ds < place_of z ds
  places_ascend low high [] x z t u n m h there less = absurd (omega (arith, there))
  places_ascend low high (a.SystemDef w s ∷ ds) x z t u n m h there less =
      go (bytes_eq x w) (bytes_eq z w) refl refl there (places_ascend (suc h.0.row) high ds x z t u n m h.1)
    where
      go : (b c : Bool) → bytes_eq x w ≡ b → bytes_eq z w ≡ c → (if b then 1 else suc (place_of x ds)) ≤ length (a.SystemDef w s ∷ ds)
          → (place_of x ds ≤ length ds → t < u → place_of x ds < place_of z ds)
          → (if b then 1 else suc (place_of x ds)) < (if c then 1 else suc (place_of z ds))
      go true true e f k later = absurd (omega (arith, less, same_row x w t h.0.row n.is h.0.is e, same_row z w u h.0.row m.is h.0.is f))
      go true false e f k later = omega (arith, place_positive z ds)
      go false true e f k later =
          absurd (omega (arith, less, same_row z w u h.0.row m.is h.0.is f, row_from (suc h.0.row) high ds x t n h.1 (omega (arith, k))))
      go false false e f k later = omega (arith, later (omega (arith, k)) less)
  places_ascend low high (d ∷ ds) x z t u n m h there less =
      go (bytes_eq x (defined_name d)) (bytes_eq z (defined_name d)) refl refl there (places_ascend low high ds x z t u n m h.1)
    where
      go : (b c : Bool) → bytes_eq x (defined_name d) ≡ b → bytes_eq z (defined_name d) ≡ c → (if b then 1 else suc (place_of x ds)) ≤ length (d ∷ ds)
          → (place_of x ds ≤ length ds → t < u → place_of x ds < place_of z ds)
          → (if b then 1 else suc (place_of x ds)) < (if c then 1 else suc (place_of z ds))
      go true c e f k later = absurd (no_other x (defined_name d) t n h.0 e)
      go false true e f k later = absurd (no_other z (defined_name d) u m h.0 f)
      go false false e f k later = omega (arith, later (omega (arith, k)) less)

-- ---- Names that definitions add

module _ (x : Text) (r : ResolvedType) where
  -- What is found after a definition was found before it, or is what it defines.
  found_after : (g : GlobalScope) (d : a.Definition) → lookup x (define g d).types ≡ Some r → (lookup x g.types ≡ Some r) ⊎ (bytes_eq x (defined_name d) ≡ true)
  found_after g d h = by d h
    where
      go : (v : ResolvedType) (b : Bool) → (if b then Some v else lookup x g.types) ≡ Some r → (lookup x g.types ≡ Some r) ⊎ (b ≡ true)
      go v true k = inr refl
      go v false k = inl k

      constant : (z : Text) (o : Option (a.BaseType × ℤ)) → lookup x (with_constant z o g).types ≡ Some r → lookup x g.types ≡ Some r
      constant z None k = k
      constant z (Some v) k = k

      by : (d : a.Definition) → lookup x (define g d).types ≡ Some r → (lookup x g.types ≡ Some r) ⊎ (bytes_eq x (defined_name d) ≡ true)
      by (a.ConstantDef z c) k = inl (constant z (constant_value g c) k)
      by (a.TypeDef z t) k = go (resolved_type g t) (bytes_eq x z) k
      by (a.EnumDef z vs) k = go (full_range (a.Enumeration z (length vs - 1))) (bytes_eq x z) k
      by (a.SystemDef z s) k = go (ComponentOf s (reported_members g s)) (bytes_eq x z) k

  -- What is found behind definitions was found before them, or has a place among them.
  pub found_behind : (ds : List a.Definition) (g : GlobalScope) → lookup x (define_all g ds).types ≡ Some r → (lookup x g.types ≡ Some r) ⊎ (place_of x ds ≤ length ds)
  found_behind [] g h = inl h
  found_behind (d ∷ ds) g h = elim (found_behind ds (define g d) h) [
    | inl k ↦ elim (found_after g d k) [ inl f ↦ inl f | inr f ↦ inr (here (bytes_eq x (defined_name d)) f) ]
    | inr k ↦ inr (there (bytes_eq x (defined_name d)) k)
  ]
    where
      here : (b : Bool) → b ≡ true → (if b then 1 else suc (place_of x ds)) ≤ length (d ∷ ds)
      here true f = omega arith
      here false f = absurd (true≢false (sym f))

      there : (b : Bool) → place_of x ds ≤ length ds → (if b then 1 else suc (place_of x ds)) ≤ length (d ∷ ds)
      there true k = omega arith
      there false k = omega (arith, k)
