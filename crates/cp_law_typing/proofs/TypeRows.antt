-- Rows of types: what is added to the tables, and that the existing rows are kept.
use Rattle.std.proofs.Common.{◌≡◌, ◌<◌, ◌≤◌, ◌⊎◌, inl, inr, ℕ, ◌+◌, ℤ, pos, neg_ℤ, Bool, true, false, ◌||◌, not, List, [], ◌∷◌, ◌++◌, Option, Some, None, nat_eq, eqb-true, get_or, slice_get, length, take, drop, refl, ap, sym, subst, ◌∙◌, arith, append-nil, length-append}
use Rattle.std.proofs.lemmas.Bool.{true≢false}
use Rattle.std.proofs.lemmas.List.{get_or_append_left}
use Rattle.std.proofs.Math.Seq.{get_or-append_seam}
use Rattle.std.proofs.lemmas.Option.{slice_get_within}
use Rattle.cp_model.specs.Abstract as a
use Rattle.cp_model.specs.Erase as erase
use Rattle.cp_model.specs.declared.tree.Identifier.{Identifier}
use Rattle.cp_model.specs.declared.tree.Constant.{Constant}
use Rattle.cp_model.specs.declared.tree.Constant.TheVariants as written
use Rattle.cp_model.specs.declared.rules.Rule.{Rule}
use Rattle.cp_model.specs.declared.rules.Rule.TheVariants.{C2, C3}
use Rattle.cp_model.specs.declared.rules.Entity.{Entity}
use Rattle.cp_model.specs.declared.rules.Entity.TheVariants as entity
use Rattle.cp_model.specs.declared.rules.Structure.TheVariants as structure
use Rattle.cp_model.specs.declared.rules.TypeRow.{TypeRow}
use Rattle.cp_model.specs.RulesJudged.{Judged, Sound, Broken, unless, then_judge}
use Rattle.cp_model.specs.RulesEnvironment.{Environment, Members as MemberList, no_routine, no_system, queue_row, resolve, row_of}
use Rattle.cp_model.specs.RulesTypes.{FieldList, add_type, at_most, c2_c3_subrange, c2_constant, c2_type, constant, made_record, made_type, named_type}
use Rattle.cp_model.specs.Declarations.{is_component}
use Rattle.cp_model.specs.Types.{ComponentOf, GlobalScope, Members, ResolvedType, constant_value, resolved_type}
use Rattle.cp_model.specs.Names.{lookup}
use Rattle.cp_model.proofs.Judging.{also_none, also_sound, provided_sound, sound_same}
use Rattle.cp_law_typing.proofs.TableMeanings.{BaseAt, ConstantAs, DataRow, data_row, GlobalAs, Grows, NamesAs, RowAs, StructureAs, Tables, TypeAs, TypeAt, Types, grows_on, grows_same, row_kept, slice_first, slice_last, slice_seam, taken_first}

-- ---- more rows

-- each table has more rows after the existing ones
pub record Longer (env after : Environment) : Type 0 where
  pub types : List TypeRow
  pub types_are : after.types ≡ env.types ++ types
  pub members : List MemberList
  pub members_are : after.members ≡ env.members ++ members
  pub routines : List _
  pub routines_are : after.routines ≡ env.routines ++ routines
  pub systems : List _
  pub systems_are : after.systems ≡ env.systems ++ systems
  pub parameters : List _
  pub parameters_are : after.parameters ≡ env.parameters ++ parameters

pub no_fewer : {A : Type 0} (xs ys zs : List A) → zs ≡ xs ++ ys → length xs ≤ length zs
no_fewer xs ys zs h = omega (arith, ap length h, length-append xs ys)

pub grows_by : (env after : Environment) (rs more new : Types) → Longer env after → more ≡ rs ++ new → Grows env after rs more
grows_by env after rs more new l h = record {
  types = λ t r e. ap (λ q. slice_get q t) h ∙ slice_first rs new t r e;
  rows = λ t e. ap (λ q. get_or q t queue_row) l.types_are ∙ get_or_append_left env.types l.types queue_row t e;
  members_length = no_fewer env.members l.members after.members l.members_are;
  members = λ k e. ap (λ q. get_or q k []) l.members_are ∙ get_or_append_left env.members l.members [] k e;
  routines_length = no_fewer env.routines l.routines after.routines l.routines_are;
  routines = λ k e. ap (λ q. get_or q k no_routine) l.routines_are ∙ get_or_append_left env.routines l.routines no_routine k e;
  systems_length = no_fewer env.systems l.systems after.systems l.systems_are;
  systems = λ k e. ap (λ q. get_or q k no_system) l.systems_are ∙ get_or_append_left env.systems l.systems no_system k e;
  parameters_length = no_fewer env.parameters l.parameters after.parameters l.parameters_are;
  parameters = λ k n e. ap (λ q. take n (drop k q)) l.parameters_are ∙ taken_first env.parameters l.parameters k n e;
}

-- the tables have the new row
pub tables_added : (G : GlobalScope → Type 0) (env after : Environment) (rs : Types) (row : TypeRow) (r : ResolvedType) → Tables G env rs
    → after.types ≡ env.types ++ row ∷ [] → Grows env after rs (rs ++ r ∷ []) → RowAs G after (rs ++ r ∷ []) row r → Tables G after (rs ++ r ∷ [])
tables_added G env after rs row r tables is grows as_row = record {
  rows = rows;
  lengths = ap length is ∙ length-append env.types (row ∷ []) ∙ ap (λ n. n + 1) tables.lengths ∙ sym (length-append rs (r ∷ []));
  integer = grows.types 0 _ tables.integer;
  boolean = grows.types 1 _ tables.boolean;
  char = grows.types 2 _ tables.char;
  queue = grows.types 3 _ tables.queue;
}
  where
    rows : (t : ℕ) (q : ResolvedType) → TypeAt (rs ++ r ∷ []) t q → RowAs G after (rs ++ r ∷ []) (row_of after t) q
    rows t q h = go (slice_last rs r t q h)
      where
        go : (TypeAt rs t q) ⊎ ((t ≡ length rs) × (r ≡ q)) → RowAs G after (rs ++ r ∷ []) (row_of after t) q
        go (inl e) =
            let within : t < length env.types = omega (arith, slice_get_within rs t q e, tables.lengths) in
            subst (λ z. RowAs G after (rs ++ r ∷ []) z q) (sym (grows.rows t within)) (row_kept G env after rs (rs ++ r ∷ []) grows (row_of env t) q (tables.rows t q e))
        go (inr e) =
            let place : t ≡ length env.types = e.0 ∙ sym tables.lengths in
            let new : row_of after t ≡ row =
            ap (row_of after) place ∙ ap (λ l. get_or l (length env.types) queue_row) is ∙ get_or-append_seam env.types row [] queue_row in
            subst (λ z. RowAs G after (rs ++ r ∷ []) z q) (sym new) (subst (RowAs G after (rs ++ r ∷ []) row) e.1 as_row)

-- ---- what is made of a written type

-- only rows were added to the tables of types and members
abbrev pub with_tables : Environment → Environment → Environment
with_tables env after = record env { types = after.types; members = after.members }

pub record TablesMade (G : GlobalScope → Type 0) (env : Environment) (rs : Types) (after : Environment) : Type 0 where
  pub more : Types
  pub grows : Grows env after rs more
  pub tables : Tables G after more
  -- no added type is a component's type
  pub components : (t : ℕ) (y : a.System) (inner : Members) → TypeAt more t (ComponentOf y inner) → TypeAt rs t (ComponentOf y inner)
  pub longer : length env.types ≤ length after.types
  pub same : after ≡ with_tables env after

pub record TypeMade (G : GlobalScope → Type 0) (env : Environment) (rs : Types) (after : Environment) (t : ℕ) (te : a.TypeExpression) : Type 0 where
  pub made : TablesMade G env rs after
  pub type : ResolvedType
  pub there : TypeAt made.more t type
  pub resolves : (g : GlobalScope) → G g → resolved_type g te ≡ type

unfoldable pub made_none : (G : GlobalScope → Type 0) (env : Environment) (rs : Types) → Tables G env rs → TablesMade G env rs env
made_none G env rs tables = record {
  more = rs;
  grows = grows_same env env rs refl refl refl refl refl;
  tables = tables;
  components = λ t y inner h. h;
  longer = omega arith;
  same = refl;
}

unfoldable pub made_on : (G : GlobalScope → Type 0) (env : Environment) (rs : Types) (between after : Environment) → (m : TablesMade G env rs between) → TablesMade G between m.more after → TablesMade G env rs after
made_on G env rs between after m n = record {
  more = n.more;
  grows = grows_on env between after rs m.more n.more m.longer m.grows n.grows;
  tables = n.tables;
  components = λ t y inner h. m.components t y inner (n.components t y inner h);
  longer = omega (arith, m.longer, n.longer);
  same = n.same ∙ ap (λ e. with_tables e after) m.same;
}

-- ---- names of types, and constants

module _ (G : GlobalScope → Type 0) (rs : Types) where
  found_type : (x : Identifier) (o : Option Entity) (n : ℕ) → ((e : Entity) → o ≡ Some e → GlobalAs G rs x.name e)
      → then_judge (resolve x o) (c2_type x) ≡ Sound n → TypeAs G rs x.name n
  found_type x None n k h = absurd (cc)
  found_type x (Some (entity.Type t)) n k h = subst (TypeAs G rs x.name) (sound_same t n h) (k (entity.Type t) refl)
  found_type x (Some (entity.Constant b v)) n k h = absurd (cc)
  found_type x (Some (entity.Variable t q)) n k h = absurd (cc)
  found_type x (Some (entity.Routine t)) n k h = absurd (cc)
  found_type x (Some (entity.Entry t)) n k h = absurd (cc)
  found_type x (Some (entity.Standard t)) n k h = absurd (cc)
  found_type x (Some entity.UnfinishedConstant) n k h = absurd (cc)
  found_type x (Some entity.UnfinishedType) n k h = absurd (cc)
  found_type x (Some (entity.UnfinishedRoutine r)) n k h = absurd (cc)
  found_type x (Some entity.Hidden) n k h = absurd (cc)
  found_type x (Some (entity.Broken v)) n k h = absurd (cc)

  pub type_named : (env : Environment) (x : Identifier) (n : ℕ) → NamesAs G rs env.names → named_type env x ≡ Sound n → TypeAs G rs x.name n
  type_named env x n names h = found_type x (lookup x.name env.names) n (names x.name) h

  found_constant : (x : Identifier) (o : Option Entity) (v : ℕ × ℤ) → ((e : Entity) → o ≡ Some e → GlobalAs G rs x.name e)
      → then_judge (resolve x o) (c2_constant x) ≡ Sound v → ConstantAs G rs x.name v.0 v.1
  found_constant x None v k h = absurd (cc)
  found_constant x (Some (entity.Constant b n)) v k h = subst (λ w. ConstantAs G rs x.name w.0 w.1) (sound_same (b, n) v h) (k (entity.Constant b n) refl)
  found_constant x (Some (entity.Type t)) v k h = absurd (cc)
  found_constant x (Some (entity.Variable t q)) v k h = absurd (cc)
  found_constant x (Some (entity.Routine t)) v k h = absurd (cc)
  found_constant x (Some (entity.Entry t)) v k h = absurd (cc)
  found_constant x (Some (entity.Standard t)) v k h = absurd (cc)
  found_constant x (Some entity.UnfinishedConstant) v k h = absurd (cc)
  found_constant x (Some entity.UnfinishedType) v k h = absurd (cc)
  found_constant x (Some (entity.UnfinishedRoutine r)) v k h = absurd (cc)
  found_constant x (Some entity.Hidden) v k h = absurd (cc)
  found_constant x (Some (entity.Broken w)) v k h = absurd (cc)

  -- the base type and the ordinal of a constant
  abbrev pub ValueAs : Constant → ℕ × ℤ → Type 0
  ValueAs c v = (b : a.BaseType) × BaseAt rs v.0 b × ((g : GlobalScope) → G g → constant_value g (erase.constant c) ≡ Some (b, v.1))

  pub constant_valued : (env : Environment) (c : Constant) (v : ℕ × ℤ) → NamesAs G rs env.names → Tables G env rs → constant env c ≡ Sound v → ValueAs c v
  constant_valued env (written.Number at n) v names tables h = subst (ValueAs (written.Number at n)) (sound_same (0, pos n) v h) (a.Integer, tables.integer, λ g k. refl)
  constant_valued env (written.Negative at n) v names tables h =
      subst (ValueAs (written.Negative at n)) (sound_same (0, neg_ℤ (pos n)) v h) (a.Integer, tables.integer, λ g k. refl)
  constant_valued env (written.Character at n) v names tables h = subst (ValueAs (written.Character at n)) (sound_same (2, pos n) v h) (a.Char, tables.char, λ g k. refl)
  constant_valued env (written.Named x) v names tables h = found_constant x (lookup x.name env.names) v (names x.name) h

-- ---- rows that are made

pub made_sound : (env : Environment) (j : Judged TypeRow) (n : ℕ) → (made_type env j).of ≡ Sound n → (row : TypeRow) × (j ≡ Sound row) × (length env.types ≡ n)
made_sound env (Sound r) n h = (r, refl, cc)
made_sound env (Broken v vs) n h = absurd (cc)

pub record_sound : (env : Environment) (j : Judged FieldList) (n : ℕ) → (made_record env j).of ≡ Sound n → (fs : FieldList) × (j ≡ Sound fs) × (length env.types ≡ n)
record_sound env (Sound fs) n h = (fs, refl, cc)
record_sound env (Broken v vs) n h = absurd (cc)

pub cons_same : {A : Type 0} (x y : A) (xs ys : List A) → x ∷ xs ≡ y ∷ ys → (x ≡ y) × (xs ≡ ys)
cons_same x y xs ys h = (cc, cc)

-- a type that isn't a component's type wasn't added as one
pub not_new : (rs : Types) (r : ResolvedType) (t : ℕ) (y : a.System) (inner : Members) → is_component r ≡ false → TypeAt (rs ++ r ∷ []) t (ComponentOf y inner)
    → TypeAt rs t (ComponentOf y inner)
not_new rs r t y inner alone h = elim (slice_last rs r t (ComponentOf y inner) h) [
  | inl e ↦ e
  | inr e ↦ absurd (true≢false (sym (ap is_component e.1) ∙ alone))
]

-- one more type, with a row of its own
unfoldable pub row_made : (G : GlobalScope → Type 0) (env : Environment) (rs : Types) (row : TypeRow) (r : ResolvedType) (te : a.TypeExpression) → Tables G env rs
    → StructureAs G env rs row.structure r → DataRow G row r → ((g : GlobalScope) → G g → resolved_type g te ≡ r)
    → TypeMade G env rs (add_type env row) (length env.types) te
row_made G env rs row r te tables structure data_is resolves = record {
  made = record {
    more = rs ++ r ∷ [];
    grows = grows;
    tables = tables_added G env (add_type env row) rs row r tables refl grows
        (row_kept G env (add_type env row) rs (rs ++ r ∷ []) grows row r (data_row G env rs row r structure data_is));
    components = λ t y inner h. not_new rs r t y inner data_is.alone h;
    longer = omega (arith, length-append env.types (row ∷ []));
    same = refl;
  };
  type = r;
  there = subst (λ n. TypeAt (rs ++ r ∷ []) n r) (sym tables.lengths) (slice_seam rs r);
  resolves = resolves;
}
  where
    grows : Grows env (add_type env row) rs (rs ++ r ∷ [])
    grows = grows_by env (add_type env row) rs (rs ++ r ∷ []) (r ∷ []) (record {
      types = row ∷ [];
      types_are = refl;
      members = [];
      members_are = sym (append-nil env.members);
      routines = [];
      routines_are = sym (append-nil env.routines);
      systems = [];
      systems_are = sym (append-nil env.systems);
      parameters = [];
      parameters_are = sym (append-nil env.parameters);
    }) refl

-- ---- subranges

pub holds : (b : Bool) (rule : Rule) (at : ℕ) → unless b rule at ≡ [] → b ≡ true
holds true rule at h = refl
holds false rule at h = absurd (cc)

pub subrange_parts : (at : ℕ) (x y : ℕ × ℤ) (row : TypeRow) → c2_c3_subrange at x y ≡ Sound row
    → (x.0 ≡ y.0) × (at_most x.1 y.1 ≡ true) × (row ≡ record { structure = structure.Simple x.0 x.1 y.1; words = 1; has_queues = false })
subrange_parts at x y row h =
    let new : TypeRow = record { structure = structure.Simple x.0 x.1 y.1; words = 1; has_queues = false } in
    let same : nat_eq x.0 y.0 ≡ true = holds (nat_eq x.0 y.0) C2 at (also_none (unless (nat_eq x.0 y.0) C2 at) _ row h) in
    let rest : ((not (nat_eq x.0 y.0) || at_most x.1 y.1) ≡ true) × (new ≡ row) =
    provided_sound _ C3 at new row (also_sound (unless (nat_eq x.0 y.0) C2 at) _ row h) in
    (eqb-true x.0 y.0 same, ap (λ b. not b || at_most x.1 y.1) (sym same) ∙ rest.0, sym rest.1)

pub not_is : (b : Bool) → not b ≡ true → b ≡ false
not_is true h = absurd (true≢false (sym h))
not_is false h = refl
