-- Subranges, arrays and records in which nothing is broken: the row of each, and what it
-- represents.
use Rattle.std.proofs.Common.{◌≡◌, ◌≤◌, ℕ, ℤ, Bool, true, false, ◌||◌, not, List, [], ◌∷◌, ◌++◌, length, map, ◌*◌, bytes_eq, refl, ap, ap₂, sym, subst, ◌∙◌, arith, append-nil, length-append}
use Rattle.std.proofs.lemmas.Bool.{true≢false}
use Rattle.std.proofs.Math.Seq.{get_or-append_seam}
use Rattle.std.specs.Prelude.{int_le}
use Rattle.cp_model.specs.Syntax as s
use Rattle.cp_model.specs.Abstract as a
use Rattle.cp_model.specs.Erase as erase
use Rattle.cp_model.specs.declared.tree.Identifier.{Identifier}
use Rattle.cp_model.specs.declared.tree.Constant.{Constant}
use Rattle.cp_model.specs.declared.rules.Rule.TheVariants.{C1, C13}
use Rattle.cp_model.specs.declared.rules.Structure.{Structure}
use Rattle.cp_model.specs.declared.rules.Structure.TheVariants as structure
use Rattle.cp_model.specs.declared.rules.TypeRow.{TypeRow}
use Rattle.cp_model.specs.RulesJudged.{Judged, Sound, unless, both}
use Rattle.cp_model.specs.RulesEnvironment.{Environment, Text, row_of}
use Rattle.cp_model.specs.RulesTypes.{FieldList, Made, add_type, array_row, arrays, at_most, c13_type, c1_fields, c2_c3_subrange, constant, constant_at, field_members, has_name, fields_of_type, is_within, made_record, made_type, name_of, record_row, type_of, values_in, word_limit, words_of_fields}
use Rattle.cp_model.specs.Declarations.{is_component}
use Rattle.cp_model.specs.Types.{ArrayOf, GlobalScope, Members, MoreMembers, NoMembers, RecordOf, ResolvedType, Simple, array_type, resolved_type, subrange_type, with_members}
use Rattle.cp_model.specs.Integers.{count_between}
use Rattle.cp_law_typing.specs.Judgement.{has_queues}
use Rattle.cp_law_typing.specs.Words.{words, words_of_members}
use Rattle.cp_law_typing.specs.SoundTypes.{SoundMembers, has_member}
use Rattle.cp_law_typing.proofs.Names.{AllDistinct, NewNames, keys}
use Rattle.cp_model.proofs.Judging.{both_sound, first_empty, provided_sound, rest_empty, sound_same}
use Rattle.cp_law_typing.proofs.Bounds.{at_most-int_le, capped_within, is_within_true, times_least, within_rises}
use Rattle.cp_law_typing.proofs.TableMeanings.{DataRow, FieldsAs, data_row, row_data, Grows, NamesAs, RowAs, StructureAs, Tables, TypeAt, Types, fields_kept, simple_data, slice_seam}
use Rattle.cp_law_typing.proofs.TypeRows.{grows_by, tables_added, TypeMade, made_none, made_on, made_sound, not_new, row_made, holds, subrange_parts, not_is, ValueAs, constant_valued}

module _ (G : GlobalScope → Type 0) where
  pub subrange_made : (env : Environment) (rs : Types) (x y : Constant) (n : ℕ) → NamesAs G rs env.names → Tables G env rs
      → (type_of env (s.Subrange x y)).of ≡ Sound n
      → TypeMade G env rs (type_of env (s.Subrange x y)).env n (erase.type_expression (s.Subrange x y))
  subrange_made env rs x y n names tables h =
      let j : Judged TypeRow = both (constant env x) (constant env y) (c2_c3_subrange (constant_at y)) in
      let is : (row : TypeRow) × (j ≡ Sound row) × (length env.types ≡ n) = made_sound env j n h in
      let parts : (v : ℕ × ℤ) × (w : ℕ × ℤ) × (constant env x ≡ Sound v) × (constant env y ≡ Sound w) × (c2_c3_subrange (constant_at y) v w ≡ Sound is.0) =
      both_sound (constant env x) (constant env y) (c2_c3_subrange (constant_at y)) is.0 is.1 in
      let low : ValueAs G rs x parts.0 = constant_valued G rs env x parts.0 names tables parts.2 in
      let high : ValueAs G rs y parts.1 = constant_valued G rs env y parts.1 names tables parts.3 in
      let inner : (parts.0.0 ≡ parts.1.0) × (at_most parts.0.1 parts.1.1 ≡ true)
      × (is.0 ≡ record { structure = structure.Simple parts.0.0 parts.0.1 parts.1.1; words = 1; has_queues = false }) =
      subrange_parts (constant_at y) parts.0 parts.1 is.0 parts.4 in
      let r : ResolvedType = Simple low.0 parts.0.1 parts.1.1 parts.0.1 in
      subst (λ q. TypeMade G env rs (made_type env q).env n (erase.type_expression (s.Subrange x y))) (sym is.1)
      (subst (λ k. TypeMade G env rs (add_type env is.0) k (erase.type_expression (s.Subrange x y))) is.2
      (row_made G env rs is.0 r (erase.type_expression (s.Subrange x y)) tables
      (subst (λ z. StructureAs G env rs z r) (sym (ap (λ z. z.structure) inner.2)) (refl, refl, low.1))
      (simple_data G is.0 low.0 parts.0.1 parts.1.1 parts.0.1 (ap (λ z. z.words) inner.2) (ap (λ z. z.has_queues) inner.2)
      (at_most-int_le parts.0.1 parts.1.1 inner.1))
      (λ g k. ap₂ subrange_type (low.2 g k) (high.2 g k))))

  -- ---- arrays

  pub record IndexAs (rs : Types) (n : ℕ) (te : a.TypeExpression) : Type 0 where
    pub base : a.BaseType
    pub low : ℤ
    pub high : ℤ
    pub start : ℤ
    pub there : TypeAt rs n (Simple base low high start)
    pub resolves : (g : GlobalScope) → G g → resolved_type g te ≡ Simple base low high start

  abbrev pub IndicesAs : Types → List ℕ → List a.TypeExpression → Type 0
  IndicesAs rs [] [] = Unit {0}
  IndicesAs rs (n ∷ ns) (te ∷ tes) = IndexAs rs n te × IndicesAs rs ns tes
  IndicesAs rs _ _ = ⊥

  pub indices_kept : (env after : Environment) (rs more : Types) → Grows env after rs more → (ns : List ℕ) (tes : List a.TypeExpression) → IndicesAs rs ns tes → IndicesAs more ns tes
  indices_kept env after rs more grows [] [] h = tt
  indices_kept env after rs more grows (n ∷ ns) (te ∷ tes) h = (
    record {
      base = h.0.base;
      low = h.0.low;
      high = h.0.high;
      start = h.0.start;
      there = grows.types n (Simple h.0.base h.0.low h.0.high h.0.start) h.0.there;
      resolves = h.0.resolves;
    },
    indices_kept env after rs more grows ns tes h.1,
  )
  indices_kept env after rs more grows [] (te ∷ tes) h = absurd h
  indices_kept env after rs more grows (n ∷ ns) [] h = absurd h

  pub c13_sound : (at : ℕ) (r row : TypeRow) → c13_type at r ≡ Sound row → (r.words ≤ word_limit) × (r ≡ row)
  c13_sound at r row h =
      let k : (is_within r.words ≡ true) × (r ≡ row) = provided_sound (is_within r.words) C13 at r row h in
      (is_within_true r.words k.0, k.1)

  pub values_as : (env : Environment) (rs : Types) (b : a.BaseType) (lo hi start : ℤ) (st : Structure) → StructureAs G env rs st (Simple b lo hi start) → values_in st ≡ count_between lo hi
  values_as env rs b lo hi start (structure.Simple base low high) h = sym (ap₂ count_between h.0 h.1)
  values_as env rs b lo hi start (structure.Array i e) h = absurd h
  values_as env rs b lo hi start (structure.Record k) h = absurd h
  values_as env rs b lo hi start structure.Queue h = absurd h
  values_as env rs b lo hi start (structure.System n) h = absurd h

  -- an array has the words of its elements
  pub array_data : (env : Environment) (i e : ℕ) (lo hi : ℤ) (r : ResolvedType) → values_in (row_of env i).structure ≡ count_between lo hi → int_le lo hi ≡ true
      → DataRow G (row_of env e) r → (array_row env i e).words ≤ word_limit → DataRow G (array_row env i e) (ArrayOf lo hi r)
  array_data env i e lo hi r values rise d fits = record {
    alone = refl;
    queues = d.queues;
    sound = (rise, d.sound);
    fits = fits;
    words = λ g k.
        let same : (array_row env i e).words ≡ values_in (row_of env i).structure * (row_of env e).words = capped_within _ fits in
        let more : count_between lo hi * words g r ≤ count_between lo hi * (row_of env e).words = times_least (count_between lo hi) (words g r) (row_of env e).words (d.words g k) in
        subst (λ n. count_between lo hi * words g r ≤ n) (ap (λ n. n * (row_of env e).words) (sym values) ∙ sym same) more;
  }

  pub arrays_made : (env : Environment) (rs : Types) (at : ℕ) (ns : List ℕ) (m : ℕ) (tes : List a.TypeExpression) (te : a.TypeExpression) (r : ResolvedType) (n : ℕ)
      → Tables G env rs → IndicesAs rs ns tes → TypeAt rs m r → is_component r ≡ false → ((g : GlobalScope) → G g → resolved_type g te ≡ r)
      → (arrays env at (map (λ i. Sound i) ns) (Sound m)).of ≡ Sound n
      → (made : TypeMade G env rs (arrays env at (map (λ i. Sound i) ns) (Sound m)).env n (erase.arrays tes te)) × (is_component made.type ≡ false)
  unfolding made_none made_on row_made
  arrays_made env rs at [] m [] te r n tables indices there alone resolves h = (
    record { made = made_none G env rs tables; type = r; there = subst (λ k. TypeAt rs k r) (sound_same m n h) there; resolves = resolves },
    alone,
  )
  arrays_made env rs at (i ∷ ns) m (ie ∷ tes) te r n tables indices there alone resolves h =
      let inner : Made (Judged ℕ) = arrays env at (map (λ k. Sound k) ns) (Sound m) in
      let row_of_two : ℕ → ℕ → Judged TypeRow = λ x y. c13_type at (array_row inner.env x y) in
      let j : Judged TypeRow = both (Sound i) inner.of row_of_two in
      let is : (row : TypeRow) × (j ≡ Sound row) × (length inner.env.types ≡ n) = made_sound inner.env j n h in
      let parts : (x : ℕ) × (y : ℕ) × (Sound i ≡ Sound x) × (inner.of ≡ Sound y) × (row_of_two x y ≡ Sound is.0) =
      both_sound (Sound i) inner.of row_of_two is.0 is.1 in
      let below : (made : TypeMade G env rs inner.env parts.1 (erase.arrays tes te)) × (is_component made.type ≡ false) =
      arrays_made env rs at ns m tes te r parts.1 tables indices.1 there alone resolves parts.3 in
      let rest : TypeMade G env rs inner.env parts.1 (erase.arrays tes te) = below.0 in
      let index : IndexAs rs i ie = indices.0 in
      let same_index : parts.0 ≡ i = sym (sound_same i parts.0 parts.2) in
      let limited : ((array_row inner.env parts.0 parts.1).words ≤ word_limit) × (array_row inner.env parts.0 parts.1 ≡ is.0) =
      c13_sound at (array_row inner.env parts.0 parts.1) is.0 parts.4 in
      let row : is.0 ≡ array_row inner.env i parts.1 = sym limited.1 ∙ ap (λ k. array_row inner.env k parts.1) same_index in
      let all : ResolvedType = ArrayOf index.low index.high rest.type in
      let index_there : TypeAt rest.made.more i (Simple index.base index.low index.high index.start) =
      rest.made.grows.types i (Simple index.base index.low index.high index.start) index.there in
      let index_row : RowAs G inner.env rest.made.more (row_of inner.env i) (Simple index.base index.low index.high index.start) = rest.made.tables.rows i _ index_there in
      let values_of : (st : Structure) → StructureAs G inner.env rest.made.more st (Simple index.base index.low index.high index.start)
      → values_in st ≡ count_between index.low index.high = values_as inner.env rest.made.more index.base index.low index.high index.start in
      let element_row : RowAs G inner.env rest.made.more (row_of inner.env parts.1) rest.type = rest.made.tables.rows parts.1 rest.type rest.there in
      let one : TypeMade G inner.env rest.made.more (add_type inner.env is.0) (length inner.env.types) (erase.arrays (ie ∷ tes) te) =
      row_made G inner.env rest.made.more is.0 all (erase.arrays (ie ∷ tes) te) rest.made.tables
      (subst (λ z. StructureAs G inner.env rest.made.more z all) (sym (ap (λ z. z.structure) row)) ((index.base, index.start, index_there), rest.there, below.1))
      (subst (λ z. DataRow G z all) (sym row)
      (array_data inner.env i parts.1 index.low index.high rest.type (values_of (row_of inner.env i).structure index_row.structure)
      (within_rises index.low index.high index.start (index_row.sound refl).0)
      (row_data G inner.env rest.made.more (row_of inner.env parts.1) rest.type element_row below.1) (subst (λ k. (array_row inner.env k parts.1).words ≤ word_limit) same_index limited.0)))
      (λ g k. ap₂ array_type (index.resolves g k) (rest.resolves g k)) in
      subst (λ q. (made : TypeMade G env rs (made_type inner.env q).env n (erase.arrays (ie ∷ tes) te)) × (is_component made.type ≡ false)) (sym is.1)
      (subst (λ k. (made : TypeMade G env rs (add_type inner.env is.0) k (erase.arrays (ie ∷ tes) te)) × (is_component made.type ≡ false)) is.2 (
        record { made = made_on G env rs inner.env (add_type inner.env is.0) rest.made one.made; type = one.type; there = one.there; resolves = one.resolves },
        refl,
      ))
  arrays_made env rs at [] m (ie ∷ tes) te r n tables indices there alone resolves h = absurd indices
  arrays_made env rs at (i ∷ ns) m [] te r n tables indices there alone resolves h = absurd indices

  -- ---- records

  pub fields_in : (rs : Types) (xs : List Identifier) (u : ℕ) (r : ResolvedType) (fs : FieldList) (ps : Members) → TypeAt rs u r → is_component r ≡ false → has_queues r ≡ false → FieldsAs rs fs ps
      → FieldsAs rs (fields_of_type xs u ++ fs) (with_members (map erase.name xs) r ps)
  fields_in rs [] u r fs ps there alone free h = h
  fields_in rs (x ∷ xs) u r fs ps there alone free h = (refl, there, fields_in rs xs u r fs ps there alone free h, alone, free)

  -- each field name is new
  pub fields_new : (seen : List Text) (xs : List Identifier) → c1_fields seen xs ≡ [] → NewNames seen (map name_of xs)
  fields_new seen [] h = tt
  fields_new seen (x ∷ xs) h = (
    not_is (has_name x.name seen) (holds (not (has_name x.name seen)) C1 x.at (first_empty _ (c1_fields (seen ++ x.name ∷ []) xs) h)),
    fields_new (seen ++ x.name ∷ []) xs (rest_empty (unless (not (has_name x.name seen)) C1 x.at) _ h),
  )

  pub fields_keys : (xs : List Identifier) (u : ℕ) (fs : FieldList) → keys (fields_of_type xs u ++ fs) ≡ map name_of xs ++ keys fs
  fields_keys [] u fs = refl
  fields_keys (x ∷ xs) u fs = ap (λ l. x.name ∷ l) (fields_keys xs u fs)

  abbrev pub behind_record : Environment → FieldList → Environment
  behind_record env fs = (made_record env (Sound fs)).env

  -- the words of a record are those of its fields
  pub fields_words : (env : Environment) (rs : Types) → Tables G env rs → (fs : FieldList) (ps : Members) → FieldsAs rs fs ps → (g : GlobalScope) → G g
      → words_of_members g ps ≤ words_of_fields env fs
  fields_words env rs tables [] NoMembers h g k = omega arith
  fields_words env rs tables (f ∷ fs) (MoreMembers y r ps) h g k =
      let d : DataRow G (row_of env f.1) r = row_data G env rs (row_of env f.1) r (tables.rows f.1 r h.1) h.3 in
      omega (arith, d.words g k, fields_words env rs tables fs ps h.2 g k)
  fields_words env rs tables [] (MoreMembers y r ps) h g k = absurd h
  fields_words env rs tables (f ∷ fs) NoMembers h g k = absurd h

  pub no_member : (rs : Types) (x : Text) (fs : FieldList) (ps : Members) → FieldsAs rs fs ps → has_name x (keys fs) ≡ false → has_member x ps ≡ false
  no_member rs x [] NoMembers h e = refl
  no_member rs x (f ∷ fs) (MoreMembers y r ps) h e =
      ap₂ (λ b c. b || c) (ap (bytes_eq x) (sym h.0) ∙ no_first (bytes_eq x f.0) e) (no_member rs x fs ps h.2 (no_rest (bytes_eq x f.0) e))
    where
      no_first : (b : Bool) → (b || has_name x (keys fs)) ≡ false → b ≡ false
      no_first true e = absurd (true≢false e)
      no_first false e = refl

      no_rest : (b : Bool) → (b || has_name x (keys fs)) ≡ false → has_name x (keys fs) ≡ false
      no_rest true e = absurd (true≢false e)
      no_rest false e = e
  no_member rs x [] (MoreMembers y r ps) h e = absurd h
  no_member rs x (f ∷ fs) NoMembers h e = absurd h

  pub fields_sound : (env : Environment) (rs : Types) → Tables G env rs → (fs : FieldList) (ps : Members) → FieldsAs rs fs ps → AllDistinct (keys fs) → SoundMembers ps
  fields_sound env rs tables [] NoMembers h d = tt
  fields_sound env rs tables (f ∷ fs) (MoreMembers y r ps) h d = (
    (row_data G env rs (row_of env f.1) r (tables.rows f.1 r h.1) h.3).sound,
    subst (λ z. has_member z ps ≡ false) h.0 (no_member rs f.0 fs ps h.2 d.0),
    fields_sound env rs tables fs ps h.2 d.1,
    h.4,
  )
  fields_sound env rs tables [] (MoreMembers y r ps) h d = absurd h
  fields_sound env rs tables (f ∷ fs) NoMembers h d = absurd h

  pub record_made : (env : Environment) (rs : Types) (fs : FieldList) (ps : Members) (te : a.TypeExpression) → Tables G env rs → FieldsAs rs fs ps → AllDistinct (keys fs)
      → (record_row env fs).words ≤ word_limit → ((g : GlobalScope) → G g → resolved_type g te ≡ RecordOf ps)
      → TypeMade G env rs (made_record env (Sound fs)).env (length env.types) te
  record_made env rs fs ps te tables fields distinct fits resolves = record {
    made = record {
      more = rs ++ RecordOf ps ∷ [];
      grows = grows;
      tables = tables_added G env (behind_record env fs) rs (record_row env fs) (RecordOf ps) tables refl grows
          (data_row G (behind_record env fs) (rs ++ RecordOf ps ∷ []) (record_row env fs) (RecordOf ps) (record {
            within = omega (arith, length-append env.members (field_members fs ∷ []));
            fields = fs;
            are = get_or-append_seam env.members (field_members fs) [] [];
            meets = fields_kept G env (behind_record env fs) rs (rs ++ RecordOf ps ∷ []) grows fs ps fields;
          }) (record {
            alone = refl;
            queues = refl;
            sound = fields_sound env rs tables fs ps fields distinct;
            fits = fits;
            words = λ g k. omega (arith, fields_words env rs tables fs ps fields g k, capped_within (words_of_fields env fs) fits);
          }));
      components = λ t y inner h. not_new rs (RecordOf ps) t y inner refl h;
      longer = omega (arith, length-append env.types (record_row env fs ∷ []));
      same = refl;
    };
    type = RecordOf ps;
    there = subst (λ n. TypeAt (rs ++ RecordOf ps ∷ []) n (RecordOf ps)) (sym tables.lengths) (slice_seam rs (RecordOf ps));
    resolves = resolves;
  }
    where
      grows : Grows env (behind_record env fs) rs (rs ++ RecordOf ps ∷ [])
      grows = grows_by env (behind_record env fs) rs (rs ++ RecordOf ps ∷ []) (RecordOf ps ∷ []) (record {
        types = record_row env fs ∷ [];
        types_are = refl;
        members = field_members fs ∷ [];
        members_are = refl;
        routines = [];
        routines_are = sym (append-nil env.routines);
        systems = [];
        systems_are = sym (append-nil env.systems);
        parameters = [];
        parameters_are = sym (append-nil env.parameters);
      }) refl
