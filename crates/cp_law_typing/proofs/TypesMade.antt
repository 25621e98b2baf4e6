-- A written type in which nothing is broken: the rules and the meaning agree about it.
use Rattle.std.proofs.Common.{◌≡◌, ℕ, ℤ, true, false, ◌||◌, not, List, [], ◌∷◌, ◌++◌, length, map, refl, ap, ap₂, sym, subst, ◌∙◌, is_some}
use Rattle.std.proofs.lemmas.Bool.{true≢false}
use Rattle.cp_model.specs.Syntax as s
use Rattle.cp_model.specs.Abstract as a
use Rattle.cp_model.specs.Erase as erase
use Rattle.cp_model.specs.declared.rules.Rule.TheVariants.{C2, C6, C8, C13}
use Rattle.cp_model.specs.declared.rules.Structure.{Structure}
use Rattle.cp_model.specs.declared.rules.Structure.TheVariants as structure
use Rattle.cp_model.specs.declared.rules.TypeRow.{TypeRow}
use Rattle.cp_model.specs.declared.rules.Position.{Position}
use Rattle.cp_model.specs.declared.rules.Position.TheVariants as position
use Rattle.cp_model.specs.RulesJudged.{Judged, Sound, unless, both, then_judge, guard, also}
use Rattle.cp_model.specs.RulesEnvironment.{Environment, Text, base_in, is_simple, row_of, system_row}
use Rattle.cp_model.specs.RulesTypes.{FieldList, Made, allows_queues, allows_structure, allows_system, append_fields, array_row, arrays, c13_record, c13_type, c1_fields, c2_index_type, c6_c8_placed, fields_of, fields_of_type, index_types, is_within, made_record, name_of, record_row, type_at, type_of, judge_in_position, c8_written, c2_written_index}
use Rattle.cp_model.specs.Declarations.{is_component}
use Rattle.cp_model.specs.Types.{ArrayOf, ComponentOf, GlobalScope, Members, NoMembers, NoType, Queue, RecordOf, ResolvedType, Simple, members_of, or_no_type, with_members}
use Rattle.cp_law_typing.proofs.Names.{NewNames, keys, new_append, new_is_distinct}
use Rattle.cp_model.proofs.Judging.{also_none, also_sound, both_sound, provided_sound, sound_same, then_sound}
use Rattle.cp_law_typing.proofs.Bounds.{is_within_true}
use Rattle.cp_law_typing.proofs.TableMeanings.{FieldsAs, NamesAs, RowAs, StructureAs, Tables, TypeAs, TypeAt, Types, names_kept}
use Rattle.cp_law_typing.proofs.TypeRows.{TablesMade, TypeMade, made_none, made_on, made_sound, record_sound, cons_same, holds, not_is, type_named}
use Rattle.cp_law_typing.proofs.StructuredTypes.{subrange_made, IndexAs, IndicesAs, indices_kept, arrays_made, fields_in, fields_new, fields_keys, record_made}

module _ (G : GlobalScope → Type 0) where
  -- ---- all written types

  -- the index types and the element type of an array of arrays are all sound
  arrays_are_sound : (env : Environment) (at : ℕ) (js : List (Judged ℕ)) (e : Judged ℕ) (n : ℕ) → (arrays env at js e).of ≡ Sound n
      → (ns : List ℕ) × (m : ℕ) × (js ≡ map (λ i. Sound i) ns) × (e ≡ Sound m)
  arrays_are_sound env at [] e n h = ([], n, refl, h)
  arrays_are_sound env at (j ∷ js) e n h =
      let inner : Made (Judged ℕ) = arrays env at js e in
      let row_of_two : ℕ → ℕ → Judged TypeRow = λ x y. c13_type at (array_row inner.env x y) in
      let is : (row : TypeRow) × (both j inner.of row_of_two ≡ Sound row) × (length inner.env.types ≡ n) = made_sound inner.env (both j inner.of row_of_two) n h in
      let parts : (x : ℕ) × (y : ℕ) × (j ≡ Sound x) × (inner.of ≡ Sound y) × (row_of_two x y ≡ Sound is.0) = both_sound j inner.of row_of_two is.0 is.1 in
      let rest : (ns : List ℕ) × (m : ℕ) × (js ≡ map (λ i. Sound i) ns) × (e ≡ Sound m) = arrays_are_sound env at js e parts.1 parts.3 in
      (parts.0 ∷ rest.0, rest.1, ap₂ (λ x y. x ∷ y) parts.2 rest.2, rest.3)

  -- a sound index type is simple
  simple_row : (env : Environment) (rs : Types) (st : Structure) (r : ResolvedType) → StructureAs G env rs st r → is_some (base_in st) ≡ true
      → (b : a.BaseType) × (low : ℤ) × (high : ℤ) × (start : ℤ) × (r ≡ Simple b low high start)
  simple_row env rs (structure.Simple base low high) (Simple b lo hi start) h e = (b, lo, hi, start, refl)
  simple_row env rs (structure.Array i t) r h e = absurd (true≢false (sym e))
  simple_row env rs (structure.Record k) r h e = absurd (true≢false (sym e))
  simple_row env rs structure.Queue r h e = absurd (true≢false (sym e))
  simple_row env rs (structure.System y) r h e = absurd (true≢false (sym e))
  simple_row env rs (structure.Simple base low high) _ h e = absurd h

  index_sound : (env : Environment) (rs : Types) (at : ℕ) (j : Judged ℕ) (n : ℕ) → c2_index_type env at j ≡ Sound n → (j ≡ Sound n) × (is_simple env n ≡ true)
  index_sound env rs at j n h =
      let inner : (x : ℕ) × (j ≡ Sound x) × (guard (is_simple env x) C2 at x ≡ Sound n) = then_sound j (λ t. guard (is_simple env t) C2 at t) n h in
      let last : (is_simple env inner.0 ≡ true) × (inner.0 ≡ n) = provided_sound (is_simple env inner.0) C2 at inner.0 n inner.2 in
      (inner.1 ∙ ap (λ x. Sound x) last.1, ap (is_simple env) (sym last.1) ∙ last.0)

  index_as : (env after : Environment) (rs : Types) (n : ℕ) (te : a.TypeExpression) → (m : TypeMade G env rs after n te) → is_simple after n ≡ true → IndexAs G m.made.more n te
  index_as env after rs n te m simple =
      let row : RowAs G after m.made.more (row_of after n) m.type = m.made.tables.rows n m.type m.there in
      let is : (b : a.BaseType) × (low : ℤ) × (high : ℤ) × (start : ℤ) × (m.type ≡ Simple b low high start) =
      simple_row after m.made.more (row_of after n).structure m.type row.structure simple in
      record {
        base = is.0;
        low = is.1;
        high = is.2;
        start = is.3;
        there = subst (TypeAt m.made.more n) is.4 m.there;
        resolves = λ g k. m.resolves g k ∙ is.4;
      }

  pub record IndicesMade (env : Environment) (rs : Types) (after : Environment) (ns : List ℕ) (tes : List a.TypeExpression) : Type 0 where
    pub made : TablesMade G env rs after
    pub all : IndicesAs G made.more ns tes

  pub record FieldsMade (env : Environment) (rs : Types) (seen : List Text) (after : Environment) (fs : FieldList) (gs : a.Fields) : Type 0 where
    pub made : TablesMade G env rs after
    pub new : NewNames seen (keys fs)
    pub members : Members
    pub all : FieldsAs made.more fs members
    pub resolves : (g : GlobalScope) → G g → members_of g gs ≡ members

  kept_same : (env : Environment) (rs : Types) (after : Environment) (m : TablesMade G env rs after) → NamesAs G rs env.names → NamesAs G m.more after.names
  kept_same env rs after m names = subst (λ e. NamesAs G m.more e.names) (sym m.same) (names_kept G env after rs m.more m.grows env.names names)

  -- what is sound at its position
  pub placed_inner : (env : Environment) (p : Position) (te : s.TypeExpression) (j : Judged ℕ) (u : ℕ) → judge_in_position env p te j ≡ Sound u
      → (t : ℕ) × (j ≡ Sound t) × (c6_c8_placed env p (type_at te) t ≡ Sound u)
  placed_inner env p te j u h = then_sound j (c6_c8_placed env p (type_at te)) u (also_sound (c8_written env p te j) _ u h)

  pub placed_sound : (env : Environment) (p : Position) (at t u : ℕ) → c6_c8_placed env p at t ≡ Sound u → t ≡ u
  placed_sound env p at t u h =
      (provided_sound (allows_queues p || not (row_of env t).has_queues) C8 at t u
      (also_sound (unless (allows_structure env p (row_of env t).structure) C6 at) _ u h)).1

  pub placed_allows : (env : Environment) (p : Position) (at t u : ℕ) → c6_c8_placed env p at t ≡ Sound u
      → (allows_structure env p (row_of env t).structure ≡ true) × ((allows_queues p || not (row_of env t).has_queues) ≡ true)
  placed_allows env p at t u h = (
    holds (allows_structure env p (row_of env t).structure) C6 at (also_none (unless (allows_structure env p (row_of env t).structure) C6 at) _ u h),
    (provided_sound (allows_queues p || not (row_of env t).has_queues) C8 at t u
        (also_sound (unless (allows_structure env p (row_of env t).structure) C6 at) _ u h)).0,
  )

  -- at a position where no system type may be
  abbrev pub NoSystem : Position → Type 0
  NoSystem p = (y : _) → allows_system p y ≡ false

  pub alone_in : (env : Environment) (rs : Types) (p : Position) → NoSystem p → (st : Structure) (r : ResolvedType) → StructureAs G env rs st r
      → allows_structure env p st ≡ true → is_component r ≡ false
  alone_in env rs p none st (Simple b low high start) h e = refl
  alone_in env rs p none st (ArrayOf low high r) h e = refl
  alone_in env rs p none st (RecordOf ps) h e = refl
  alone_in env rs p none st Queue h e = refl
  alone_in env rs p none st NoType h e = refl
  alone_in env rs p none (structure.System n) (ComponentOf y inner) h e = absurd (true≢false (sym e ∙ none (system_row env n).sort))
  alone_in env rs p none (structure.Simple base low high) (ComponentOf y inner) h e = absurd h
  alone_in env rs p none (structure.Array i k) (ComponentOf y inner) h e = absurd h
  alone_in env rs p none (structure.Record k) (ComponentOf y inner) h e = absurd h
  alone_in env rs p none structure.Queue (ComponentOf y inner) h e = absurd h

  mutual
    unfolding made_none made_on

    pub type_made : (te : s.TypeExpression) (env : Environment) (rs : Types) (n : ℕ) → NamesAs G rs env.names → Tables G env rs → (type_of env te).of ≡ Sound n
        → TypeMade G env rs (type_of env te).env n (erase.type_expression te)
    type_made (s.Named x) env rs n names tables h =
        let is : TypeAs G rs x.name n = type_named G rs env x n names h in
        record { made = made_none G env rs tables; type = is.0; there = is.1; resolves = λ g k. ap or_no_type (is.2 g k) }
    type_made (s.Subrange x y) env rs n names tables h = subrange_made G env rs x y n names tables h
    type_made (s.Array at is e) env rs n names tables h =
        let index : Made (List (Judged ℕ)) = index_types env is in
        let element : Made (Judged ℕ) = type_of index.env e in
        let judged : Judged ℕ = judge_in_position element.env position.Element e element.of in
        let sound : (ns : List ℕ) × (m : ℕ) × (index.of ≡ map (λ i. Sound i) ns) × (judged ≡ Sound m) = arrays_are_sound element.env at index.of judged n h in
        let indices : IndicesMade env rs index.env sound.0 (erase.type_expressions is) = indices_made is env rs sound.0 names tables sound.2 in
        let inner : (x : ℕ) × (element.of ≡ Sound x) × (c6_c8_placed element.env position.Element (type_at e) x ≡ Sound sound.1) =
        placed_inner element.env position.Element e element.of sound.1 sound.3 in
        let same : inner.0 ≡ sound.1 = placed_sound element.env position.Element (type_at e) inner.0 sound.1 inner.2 in
        let one : TypeMade G index.env indices.made.more element.env inner.0 (erase.type_expression e) =
        type_made e index.env indices.made.more inner.0 (kept_same env rs index.env indices.made names) indices.made.tables inner.1 in
        let both_made : TablesMade G env rs element.env = made_on G env rs index.env element.env indices.made one.made in
        let last : TypeMade G element.env one.made.more (arrays element.env at (map (λ i. Sound i) sound.0) (Sound sound.1)).env n
        (erase.arrays (erase.type_expressions is) (erase.type_expression e)) =
        (arrays_made G element.env one.made.more at sound.0 sound.1 (erase.type_expressions is) (erase.type_expression e) one.type n one.made.tables
        (indices_kept G index.env element.env indices.made.more one.made.more one.made.grows sound.0 (erase.type_expressions is) indices.all)
        (subst (λ k. TypeAt one.made.more k one.type) same one.there)
        (alone_in element.env one.made.more position.Element (λ y. refl) (row_of element.env inner.0).structure one.type (one.made.tables.rows inner.0 one.type one.there).structure
        (placed_allows element.env position.Element (type_at e) inner.0 sound.1 inner.2).0) one.resolves
        (sym (ap₂ (λ js j. (arrays element.env at js j).of) sound.2 sound.3) ∙ h)).0 in
        subst (λ z. TypeMade G env rs z n (erase.arrays (erase.type_expressions is) (erase.type_expression e)))
        (sym (ap₂ (λ js j. (arrays element.env at js j).env) sound.2 sound.3))
        (record { made = made_on G env rs element.env _ both_made last.made; type = last.type; there = last.there; resolves = last.resolves })
    type_made (s.Record at gs) env rs n names tables h =
        let fields : Made (Judged FieldList) = fields_of env [] gs in
        let judged : Judged FieldList = then_judge fields.of (c13_record fields.env at) in
        let sound : (fs : FieldList) × (judged ≡ Sound fs) × (length fields.env.types ≡ n) = record_sound fields.env judged n h in
        let inner : (fs : FieldList) × (fields.of ≡ Sound fs) × (c13_record fields.env at fs ≡ Sound sound.0) = then_sound fields.of (c13_record fields.env at) sound.0 sound.1 in
        let limited : (is_within (record_row fields.env inner.0).words ≡ true) × (inner.0 ≡ sound.0) =
        provided_sound (is_within (record_row fields.env inner.0).words) C13 at inner.0 sound.0 inner.2 in
        let same : inner.0 ≡ sound.0 = limited.1 in
        let all : FieldsMade env rs [] fields.env inner.0 (erase.fields gs) = fields_made gs env rs [] inner.0 names tables inner.1 in
        let one : TypeMade G fields.env all.made.more (made_record fields.env (Sound inner.0)).env (length fields.env.types) (a.Record (erase.fields gs)) =
        record_made G fields.env all.made.more inner.0 all.members (a.Record (erase.fields gs)) all.made.tables all.all
        (new_is_distinct [] (keys inner.0) all.new) (is_within_true (record_row fields.env inner.0).words limited.0) (λ g k. ap (λ ps. RecordOf ps) (all.resolves g k)) in
        subst (λ j. TypeMade G env rs (made_record fields.env j).env n (a.Record (erase.fields gs))) (sym (sound.1 ∙ ap (λ fs. Sound fs) (sym same)))
        (subst (λ k. TypeMade G env rs (made_record fields.env (Sound inner.0)).env k (a.Record (erase.fields gs))) sound.2
        (record { made = made_on G env rs fields.env _ all.made one.made; type = one.type; there = one.there; resolves = one.resolves }))

    indices_made : (is : s.TypeExpressions) (env : Environment) (rs : Types) (ns : List ℕ) → NamesAs G rs env.names → Tables G env rs
        → (index_types env is).of ≡ map (λ i. Sound i) ns → IndicesMade env rs (index_types env is).env ns (erase.type_expressions is)
    indices_made s.NoTypes env rs [] names tables h = record { made = made_none G env rs tables; all = tt }
    indices_made s.NoTypes env rs (n ∷ ns) names tables h = absurd (cc)
    indices_made (s.MoreTypes t ts) env rs [] names tables h = absurd (cc)
    indices_made (s.MoreTypes t ts) env rs (n ∷ ns) names tables h =
        let one : Made (Judged ℕ) = type_of env t in
        let parts : (also (c2_written_index t one.of) (c2_index_type one.env (type_at t) one.of) ≡ Sound n) × ((index_types one.env ts).of ≡ map (λ i. Sound i) ns) = cons_same _ _ _ _ h in
        let sound : (one.of ≡ Sound n) × (is_simple one.env n ≡ true) = index_sound one.env rs (type_at t) one.of n (also_sound (c2_written_index t one.of) _ n parts.0) in
        let first : TypeMade G env rs one.env n (erase.type_expression t) = type_made t env rs n names tables sound.0 in
        let index : IndexAs G first.made.more n (erase.type_expression t) = index_as env one.env rs n (erase.type_expression t) first sound.1 in
        let rest : IndicesMade one.env first.made.more (index_types one.env ts).env ns (erase.type_expressions ts) =
        indices_made ts one.env first.made.more ns (kept_same env rs one.env first.made names) first.made.tables parts.1 in
        record {
          made = made_on G env rs one.env _ first.made rest.made;
          all = (
            (indices_kept G one.env (index_types one.env ts).env first.made.more rest.made.more rest.made.grows (n ∷ []) (erase.type_expression t ∷ []) (index, tt)).0,
            rest.all,
          );
        }

    fields_made : (gs : s.FieldGroups) (env : Environment) (rs : Types) (seen : List Text) (fs : FieldList) → NamesAs G rs env.names → Tables G env rs
        → (fields_of env seen gs).of ≡ Sound fs → FieldsMade env rs seen (fields_of env seen gs).env fs (erase.fields gs)
    fields_made s.NoFields env rs seen fs names tables h = record {
      made = made_none G env rs tables;
      new = subst (λ l. NewNames seen (keys l)) (sound_same [] fs h) tt;
      members = NoMembers;
      all = subst (λ l. FieldsAs rs l NoMembers) (sound_same [] fs h) tt;
      resolves = λ g k. refl;
    }
    fields_made (s.MoreFields xs t gs) env rs seen fs names tables h =
        let one : Made (Judged ℕ) = type_of env t in
        let rest : Made (Judged FieldList) = fields_of one.env (seen ++ map name_of xs) gs in
        let judged : Judged ℕ = judge_in_position one.env position.Field t one.of in
        let inside : both judged rest.of (λ u fs. append_fields (fields_of_type xs u) fs) ≡ Sound fs = also_sound (c1_fields seen xs) _ fs h in
        let parts : (u : ℕ) × (more : FieldList) × (judged ≡ Sound u) × (rest.of ≡ Sound more) × (append_fields (fields_of_type xs u) more ≡ Sound fs) =
        both_sound judged rest.of (λ u fs. append_fields (fields_of_type xs u) fs) fs inside in
        let inner : (x : ℕ) × (one.of ≡ Sound x) × (c6_c8_placed one.env position.Field (type_at t) x ≡ Sound parts.0) =
        placed_inner one.env position.Field t one.of parts.0 parts.2 in
        let same : inner.0 ≡ parts.0 = placed_sound one.env position.Field (type_at t) inner.0 parts.0 inner.2 in
        let first : TypeMade G env rs one.env inner.0 (erase.type_expression t) = type_made t env rs inner.0 names tables inner.1 in
        let row : RowAs G one.env first.made.more (row_of one.env inner.0) first.type = first.made.tables.rows inner.0 first.type first.there in
        let allows : (allows_structure one.env position.Field (row_of one.env inner.0).structure ≡ true) × (not (row_of one.env inner.0).has_queues ≡ true) =
        placed_allows one.env position.Field (type_at t) inner.0 parts.0 inner.2 in
        let more : FieldsMade one.env first.made.more (seen ++ map name_of xs) rest.env parts.1 (erase.fields gs) =
        fields_made gs one.env first.made.more (seen ++ map name_of xs) parts.1 (kept_same env rs one.env first.made names) first.made.tables parts.3 in
        record {
          made = made_on G env rs one.env rest.env first.made more.made;
          new = subst (λ l. NewNames seen (keys l)) (sound_same _ fs parts.4) (subst (NewNames seen) (sym (fields_keys G xs parts.0 parts.1))
              (new_append seen (map name_of xs) (keys parts.1) (fields_new G seen xs (also_none (c1_fields seen xs) _ fs h)) more.new));
          members = with_members (map erase.name xs) first.type more.members;
          all = subst (λ l. FieldsAs more.made.more l (with_members (map erase.name xs) first.type more.members)) (sound_same _ fs parts.4)
              (fields_in G more.made.more xs parts.0 first.type parts.1 more.members
              (subst (λ k. TypeAt more.made.more k first.type) same (more.made.grows.types inner.0 first.type first.there))
              (alone_in one.env first.made.more position.Field (λ y. refl) (row_of one.env inner.0).structure first.type row.structure allows.0)
              (sym row.queues ∙ not_is (row_of one.env inner.0).has_queues allows.1) more.all);
          resolves = λ g k. ap₂ (with_members (map erase.name xs)) (first.resolves g k) (more.resolves g k);
        }
