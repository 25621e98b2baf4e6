-- What the tables of the rules represent: each type of the table has a resolved type of the
-- meaning.
--
-- `G` selects the scopes about which facts are known: the scope of the definitions so far, and
-- those that define more names after them. So a fact that is shown at a definition holds for the
-- whole text.
use Rattle.std.proofs.Common.{◌≡◌, ◌<◌, ◌≤◌, ◌⊎◌, inl, inr, ℕ, zero, suc, ◌+◌, ℤ, false, List, [], ◌∷◌, ◌++◌, true, Option, Some, None, get_or, slice_get, length, take, drop, refl, ap, sym, subst, ◌∙◌, arith, codes}
use Rattle.std.proofs.lemmas.Bool.{true≢false}
use Rattle.cp_model.specs.Abstract as a
use Rattle.cp_model.specs.Erase as erase
use Rattle.cp_model.specs.declared.rules.Entity.{Entity}
use Rattle.cp_model.specs.declared.rules.Entity.TheVariants as entity
use Rattle.cp_model.specs.declared.rules.Structure.{Structure}
use Rattle.cp_model.specs.declared.rules.Structure.TheVariants as structure
use Rattle.cp_model.specs.declared.rules.Member.{Member}
use Rattle.cp_model.specs.declared.rules.Member.TheVariants as member
use Rattle.cp_model.specs.declared.rules.TypeRow.{TypeRow}
use Rattle.cp_model.specs.declared.rules.Returns.{Returns}
use Rattle.cp_model.specs.declared.rules.Returns.TheVariants as returns
use Rattle.cp_model.specs.declared.rules.RoutineRow.{RoutineRow}
use Rattle.cp_model.specs.declared.rules.ParameterRow.{ParameterRow}
use Rattle.cp_model.specs.declared.rules.Standard.{Standard}
use Rattle.cp_model.specs.declared.rules.Standard.TheVariants as standard
use Rattle.cp_model.specs.RulesEnvironment.{Environment, Names, Text, no_routine, no_system, parameters_from, queue_row, routine_of, row_of, system_row}
use Rattle.cp_model.specs.RulesTypes.{FieldList, field_members, word_limit}
use Rattle.cp_model.specs.Types.{ArrayOf, ComponentOf, GlobalScope, Members, MoreMembers, NoMembers, NoType, Queue, RecordOf, ResolvedType, Simple, full_range}
use Rattle.cp_model.specs.Declarations.{Variable, declarations, is_component}
use Rattle.cp_model.specs.Calls.{routine_named}
use Rattle.cp_model.specs.Places.{within}
use Rattle.cp_model.specs.Names.{lookup}
use Rattle.cp_law_typing.specs.Judgement.{IsSimple, has_queues}
use Rattle.cp_law_typing.specs.SoundTypes.{SoundType}
use Rattle.cp_law_typing.specs.Words.{words}
use Rattle.cp_law_typing.specs.Needs.{activation_words, owner_words, statement_need}
use Rattle.cp_law_typing.specs.Declared.{IsData, IsReported}

-- ---- lists that grow

pub slice_first : {A : Type 0} (xs ys : List A) (i : ℕ) (x : A) → slice_get xs i ≡ Some x → slice_get (xs ++ ys) i ≡ Some x
slice_first [] ys i x h = absurd (cc)
slice_first (z ∷ xs) ys zero x h = h
slice_first (z ∷ xs) ys (suc i) x h = slice_first xs ys i x h

pub slice_seam : {A : Type 0} (xs : List A) (x : A) → slice_get (xs ++ x ∷ []) (length xs) ≡ Some x
slice_seam [] x = refl
slice_seam (z ∷ xs) x = slice_seam xs x

-- the place is an old one, or that of the new element
pub slice_last : {A : Type 0} (xs : List A) (x : A) (i : ℕ) (y : A) → slice_get (xs ++ x ∷ []) i ≡ Some y
    → (slice_get xs i ≡ Some y) ⊎ ((i ≡ length xs) × (x ≡ y))
slice_last [] x zero y h = inr (refl, cc)
slice_last [] x (suc i) y h = absurd (cc)
slice_last (z ∷ xs) x zero y h = inl h
slice_last (z ∷ xs) x (suc i) y h = elim (slice_last xs x i y h) [ inl g ↦ inl g | inr g ↦ inr (ap suc g.0, g.1) ]

pub take_first : {A : Type 0} (xs ys : List A) (n : ℕ) → n ≤ length xs → take n (xs ++ ys) ≡ take n xs
take_first [] ys zero h = refl
take_first [] ys (suc n) h = absurd (omega (arith, h))
take_first (x ∷ xs) ys zero h = refl
take_first (x ∷ xs) ys (suc n) h = ap (λ l. x ∷ l) (take_first xs ys n (omega (arith, h)))

pub taken_first : {A : Type 0} (xs ys : List A) (k n : ℕ) → k + n ≤ length xs → take n (drop k (xs ++ ys)) ≡ take n (drop k xs)
taken_first xs ys zero n h = take_first xs ys n (omega (arith, h))
taken_first [] ys (suc k) n h = absurd (omega (arith, h))
taken_first (x ∷ xs) ys (suc k) n h = taken_first xs ys k n (omega (arith, h))

-- ---- what numbers of types represent

abbrev pub Types : Type 0
Types = List ResolvedType

abbrev pub TypeAt : Types → ℕ → ResolvedType → Type 0
TypeAt rs t r = slice_get rs t ≡ Some r

abbrev pub BaseAt : Types → ℕ → a.BaseType → Type 0
BaseAt rs t b = TypeAt rs t (full_range b)

-- the fields of a record, in their order
abbrev pub FieldsAs : Types → FieldList → Members → Type 0
FieldsAs rs [] NoMembers = Unit {0}
FieldsAs rs (f ∷ fs) (MoreMembers y r ps) = (f.0 ≡ y) × TypeAt rs f.1 r × FieldsAs rs fs ps × (is_component r ≡ false) × (has_queues r ≡ false)
FieldsAs rs _ _ = ⊥

abbrev pub OptionalAt : Types → Option ℕ → ResolvedType → Type 0
OptionalAt rs None r = ⊥
OptionalAt rs (Some t) r = TypeAt rs t r

-- the rows of parameters, in their order
abbrev pub ParametersAs : Types → List ParameterRow → List (Text × Variable) → Type 0
ParametersAs rs [] [] = Unit {0}
ParametersAs rs (p ∷ ps) (v ∷ vs) = (p.by_reference ≡ v.1.by_reference) × OptionalAt rs p.of v.1.type × ParametersAs rs ps vs
ParametersAs rs _ _ = ⊥

-- groups of a text declare these, in every scope
abbrev pub Declares : (GlobalScope → Type 0) → List a.Group → List (Text × Variable) → Type 0
Declares G gs vs = (g : GlobalScope) → G g → declarations g gs ≡ vs

pub record HeadingAs (G : GlobalScope → Type 0) (env : Environment) (rs : Types) (first count : ℕ) (gs : List a.Group) : Type 0 where
  pub variables : List (Text × Variable)
  pub declares : Declares G gs variables
  pub within : first + count ≤ length env.parameters
  pub rows : ParametersAs rs (parameters_from env first count) variables

abbrev pub ReturnsAs : (GlobalScope → Type 0) → Types → Returns → Option a.Name → Type 0
ReturnsAs G rs returns.Nothing None = Unit {0}
ReturnsAs G rs (returns.Value t) (Some x) =
    (r : ResolvedType) × TypeAt rs t r × ((g : GlobalScope) → G g → lookup x g.types ≡ Some r) × IsSimple r
ReturnsAs G rs _ _ = ⊥

pub record RoutineAs (G : GlobalScope → Type 0) (env : Environment) (rs : Types) (row : RoutineRow) (q : a.Routine) : Type 0 where
  pub entry : row.entry ≡ q.entry
  pub heading : HeadingAs G env rs row.first row.count q.parameters
  pub returns : ReturnsAs G rs row.returns q.result

-- counting calls to any depth, a call takes at most what the rules count
abbrev pub NeedAs : (GlobalScope → Type 0) → a.System → ℕ → a.Routine → Type 0
NeedAs G y need q = (n : ℕ) (g : GlobalScope) → G g → need ≤ word_limit → activation_words g q + statement_need n g y (Some q) q.body ≤ need

-- routine k of a system type, which is found by its name
pub record RoutineOf (G : GlobalScope → Type 0) (env : Environment) (rs : Types) (r : ℕ) (x : Text) (y : a.System) : Type 0 where
  pub within : r < length env.routines
  pub place : ℕ
  pub routine : a.Routine
  pub there : slice_get y.routines place ≡ Some routine
  pub named : routine_named x y ≡ Some routine
  pub meets : RoutineAs G env rs (routine_of env r) routine
  pub need : NeedAs G y (routine_of env r).need routine

pub record SystemAs (G : GlobalScope → Type 0) (env : Environment) (rs : Types) (n : ℕ) (y : a.System) : Type 0 where
  pub within : n < length env.systems
  pub sort : erase.sort_of (system_row env n).sort ≡ y.sort
  pub heading : HeadingAs G env rs (system_row env n).first (system_row env n).count y.parameters
  pub within_members : (system_row env n).members < length env.members
  pub routines : (x : Text) (m : Member) → lookup x (get_or env.members (system_row env n).members []) ≡ Some m
      → (r : ℕ) × (m ≡ member.Routine r) × RoutineOf G env rs r x y
  pub body_need : (k : ℕ) (g : GlobalScope) → G g → (system_row env n).body_need ≤ word_limit → statement_need k g y None y.body ≤ (system_row env n).body_need
  pub words : (k : ℕ) (g : GlobalScope) → G g → (system_row env n).words ≤ word_limit → owner_words k g y ≤ (system_row env n).words

pub record RecordAs (env : Environment) (rs : Types) (k : ℕ) (ps : Members) : Type 0 where
  pub within : k < length env.members
  pub fields : FieldList
  pub are : get_or env.members k [] ≡ field_members fields
  pub meets : FieldsAs rs fields ps

abbrev pub IsIndex : Types → ℕ → ℤ → ℤ → Type 0
IsIndex rs i low high = (b : a.BaseType) × (start : ℤ) × TypeAt rs i (Simple b low high start)

abbrev pub StructureAs : (GlobalScope → Type 0) → Environment → Types → Structure → ResolvedType → Type 0
StructureAs G env rs (structure.Simple base low high) (Simple b lo hi start) = (lo ≡ low) × (hi ≡ high) × BaseAt rs base b
StructureAs G env rs (structure.Array i e) (ArrayOf lo hi r) = IsIndex rs i lo hi × TypeAt rs e r × (is_component r ≡ false)
StructureAs G env rs (structure.Record k) (RecordOf ps) = RecordAs env rs k ps
StructureAs G env rs structure.Queue Queue = Unit {0}
StructureAs G env rs (structure.System n) (ComponentOf y inner) = SystemAs G env rs n y
StructureAs G env rs _ _ = ⊥

pub record RowAs (G : GlobalScope → Type 0) (env : Environment) (rs : Types) (row : TypeRow) (r : ResolvedType) : Type 0 where
  pub structure : StructureAs G env rs row.structure r
  pub queues : row.has_queues ≡ has_queues r
  -- for data: it is sound, and its words are within the limit
  pub sound : is_component r ≡ false → SoundType r × (row.words ≤ word_limit)
  pub words : (g : GlobalScope) → G g → row.words ≤ word_limit → words g r ≤ row.words
  pub reported : (g : GlobalScope) → G g → IsReported g r

-- what is known of the row of a type that isn't a component's type
pub record DataRow (G : GlobalScope → Type 0) (row : TypeRow) (r : ResolvedType) : Type 0 where
  pub alone : is_component r ≡ false
  pub queues : row.has_queues ≡ has_queues r
  pub sound : SoundType r
  pub fits : row.words ≤ word_limit
  pub words : (g : GlobalScope) → G g → words g r ≤ row.words

pub data_row : (G : GlobalScope → Type 0) (env : Environment) (rs : Types) (row : TypeRow) (r : ResolvedType) → StructureAs G env rs row.structure r → DataRow G row r
    → RowAs G env rs row r
data_row G env rs row r structure d =
    record { structure = structure; queues = d.queues; sound = λ h. (d.sound, d.fits); words = λ g k h. d.words g k; reported = λ g k. reported g r d.alone }
  where
    reported : (g : GlobalScope) (r : ResolvedType) → is_component r ≡ false → IsReported g r
    reported g (Simple b low high start) h = tt
    reported g (ArrayOf low high q) h = tt
    reported g (RecordOf ps) h = tt
    reported g Queue h = tt
    reported g NoType h = tt
    reported g (ComponentOf y inner) h = absurd (true≢false h)

pub row_data : (G : GlobalScope → Type 0) (env : Environment) (rs : Types) (row : TypeRow) (r : ResolvedType) → RowAs G env rs row r → is_component r ≡ false → DataRow G row r
row_data G env rs row r h alone = record { alone = alone; queues = h.queues; sound = (h.sound alone).0; fits = (h.sound alone).1; words = λ g k. h.words g k (h.sound alone).1 }

pub data_fits : (G : GlobalScope → Type 0) (row : TypeRow) (r : ResolvedType) → DataRow G row r → (g : GlobalScope) → G g → IsData g r
data_fits G row r d g k = (d.sound, omega (arith, d.words g k, d.fits))

-- for values that start at the first value, or at 0
pub simple_data : (G : GlobalScope → Type 0) (row : TypeRow) (b : a.BaseType) (low high start : ℤ) → row.words ≡ 1 → row.has_queues ≡ false → within low high start ≡ true
    → DataRow G row (Simple b low high start)
simple_data G row b low high start words queues sound = record {
  alone = refl;
  queues = queues;
  sound = sound;
  fits = omega (arith, words);
  words = λ g k. omega (arith, words);
}

pub queue_data : (G : GlobalScope → Type 0) → DataRow G queue_row Queue
queue_data G = record { alone = refl; queues = refl; sound = tt; fits = omega arith; words = λ g k. omega arith }

-- ---- what names represent

abbrev pub standard_name : Standard → Text
standard_name standard.Abs = codes "abs"
standard_name standard.Succ = codes "succ"
standard_name standard.Pred = codes "pred"
standard_name standard.Ord = codes "ord"
standard_name standard.Chr = codes "chr"
standard_name standard.Empty = codes "empty"
standard_name standard.Realtime = codes "realtime"
standard_name standard.Delay = codes "delay"
standard_name standard.Continue = codes "continue"
standard_name standard.Display = codes "display"
standard_name standard.Accept = codes "accept"
standard_name standard.Wait = codes "wait"

abbrev pub ConstantAs : (GlobalScope → Type 0) → Types → Text → ℕ → ℤ → Type 0
ConstantAs G rs x base n = (b : a.BaseType) × BaseAt rs base b × ((g : GlobalScope) → G g → lookup x g.constants ≡ Some (b, n))

abbrev pub TypeAs : (GlobalScope → Type 0) → Types → Text → ℕ → Type 0
TypeAs G rs x t = (r : ResolvedType) × TypeAt rs t r × ((g : GlobalScope) → G g → lookup x g.types ≡ Some r)

-- names of the outermost scope. Nothing is said about others
abbrev pub GlobalAs : (GlobalScope → Type 0) → Types → Text → Entity → Type 0
GlobalAs G rs x (entity.Constant base n) = ConstantAs G rs x base n
GlobalAs G rs x (entity.Type t) = TypeAs G rs x t
GlobalAs G rs x (entity.Standard d) = x ≡ standard_name d
GlobalAs G rs x _ = Unit {0}

abbrev pub NamesAs : (GlobalScope → Type 0) → Types → Names → Type 0
NamesAs G rs names = (x : Text) (e : Entity) → lookup x names ≡ Some e → GlobalAs G rs x e

-- the tables represent these types
pub record Tables (G : GlobalScope → Type 0) (env : Environment) (rs : Types) : Type 0 where
  pub rows : (t : ℕ) (r : ResolvedType) → TypeAt rs t r → RowAs G env rs (row_of env t) r
  pub lengths : length env.types ≡ length rs
  pub integer : BaseAt rs 0 a.Integer
  pub boolean : BaseAt rs 1 a.Boolean
  pub char : BaseAt rs 2 a.Char
  pub queue : TypeAt rs 3 Queue

-- ---- growth

-- what was in the tables is still there
pub record Grows (env after : Environment) (rs more : Types) : Type 0 where
  pub types : (t : ℕ) (r : ResolvedType) → TypeAt rs t r → TypeAt more t r
  pub rows : (t : ℕ) → t < length env.types → row_of after t ≡ row_of env t
  pub members_length : length env.members ≤ length after.members
  pub members : (k : ℕ) → k < length env.members → get_or after.members k [] ≡ get_or env.members k []
  pub routines_length : length env.routines ≤ length after.routines
  pub routines : (k : ℕ) → k < length env.routines → routine_of after k ≡ routine_of env k
  pub systems_length : length env.systems ≤ length after.systems
  pub systems : (k : ℕ) → k < length env.systems → system_row after k ≡ system_row env k
  pub parameters_length : length env.parameters ≤ length after.parameters
  pub parameters : (k n : ℕ) → k + n ≤ length env.parameters → parameters_from after k n ≡ parameters_from env k n

pub grows_same : (env after : Environment) (rs : Types) → env.types ≡ after.types → env.members ≡ after.members → env.routines ≡ after.routines
    → env.systems ≡ after.systems → env.parameters ≡ after.parameters → Grows env after rs rs
grows_same env after rs t m r y p = record {
  types = λ i q h. h;
  rows = λ i h. ap (λ l. get_or l i queue_row) (sym t);
  members_length = omega (arith, ap length m);
  members = λ i h. ap (λ l. get_or l i []) (sym m);
  routines_length = omega (arith, ap length r);
  routines = λ i h. ap (λ l. get_or l i no_routine) (sym r);
  systems_length = omega (arith, ap length y);
  systems = λ i h. ap (λ l. get_or l i no_system) (sym y);
  parameters_length = omega (arith, ap length p);
  parameters = λ k n h. ap (λ l. take n (drop k l)) (sym p);
}

pub grows_on : (a b c : Environment) (rs qs ps : Types) → length a.types ≤ length b.types → Grows a b rs qs → Grows b c qs ps → Grows a c rs ps
grows_on a b c rs qs ps l g h = record {
  types = λ t r e. h.types t r (g.types t r e);
  rows = λ t e. h.rows t (omega (arith, l, e)) ∙ g.rows t e;
  members_length = omega (arith, g.members_length, h.members_length);
  members = λ k e. h.members k (omega (arith, g.members_length, e)) ∙ g.members k e;
  routines_length = omega (arith, g.routines_length, h.routines_length);
  routines = λ k e. h.routines k (omega (arith, g.routines_length, e)) ∙ g.routines k e;
  systems_length = omega (arith, g.systems_length, h.systems_length);
  systems = λ k e. h.systems k (omega (arith, g.systems_length, e)) ∙ g.systems k e;
  parameters_length = omega (arith, g.parameters_length, h.parameters_length);
  parameters = λ k n e. h.parameters k n (omega (arith, g.parameters_length, e)) ∙ g.parameters k n e;
}

module _ (G : GlobalScope → Type 0) (env after : Environment) (rs more : Types) (grows : Grows env after rs more) where
  pub fields_kept : (fs : FieldList) (ps : Members) → FieldsAs rs fs ps → FieldsAs more fs ps
  fields_kept [] NoMembers h = tt
  fields_kept (f ∷ fs) (MoreMembers y r ps) h = (h.0, grows.types f.1 r h.1, fields_kept fs ps h.2, h.3, h.4)
  fields_kept [] (MoreMembers y r ps) h = absurd h
  fields_kept (f ∷ fs) NoMembers h = absurd h

  optional_kept : (o : Option ℕ) (r : ResolvedType) → OptionalAt rs o r → OptionalAt more o r
  optional_kept None r h = absurd h
  optional_kept (Some t) r h = grows.types t r h

  pub parameters_kept : (ps : List ParameterRow) (vs : List (Text × Variable)) → ParametersAs rs ps vs → ParametersAs more ps vs
  parameters_kept [] [] h = tt
  parameters_kept (p ∷ ps) (v ∷ vs) h = (h.0, optional_kept p.of v.1.type h.1, parameters_kept ps vs h.2)
  parameters_kept [] (v ∷ vs) h = absurd h
  parameters_kept (p ∷ ps) [] h = absurd h

  pub heading_kept : (first count : ℕ) (gs : List a.Group) → HeadingAs G env rs first count gs → HeadingAs G after more first count gs
  heading_kept first count gs h = record {
    variables = h.variables;
    declares = h.declares;
    within = omega (arith, h.within, grows.parameters_length);
    rows = subst (λ ps. ParametersAs more ps h.variables) (sym (grows.parameters first count h.within))
        (parameters_kept (parameters_from env first count) h.variables h.rows);
  }

  pub returns_kept : (r : Returns) (o : Option a.Name) → ReturnsAs G rs r o → ReturnsAs G more r o
  returns_kept returns.Nothing None h = tt
  returns_kept (returns.Value t) (Some x) h = (h.0, grows.types t h.0 h.1, h.2, h.3)
  returns_kept returns.Nothing (Some x) h = absurd h
  returns_kept (returns.Value t) None h = absurd h
  returns_kept (returns.Broken v) o h = absurd h

  pub routine_kept : (row : RoutineRow) (q : a.Routine) → RoutineAs G env rs row q → RoutineAs G after more row q
  routine_kept row q h = record {
    entry = h.entry;
    heading = heading_kept row.first row.count q.parameters h.heading;
    returns = returns_kept row.returns q.result h.returns;
  }

  pub routine_of_kept : (r : ℕ) (x : Text) (y : a.System) → RoutineOf G env rs r x y → RoutineOf G after more r x y
  routine_of_kept r x y h = record {
    within = omega (arith, h.within, grows.routines_length);
    place = h.place;
    routine = h.routine;
    there = h.there;
    named = h.named;
    meets = subst (λ row. RoutineAs G after more row h.routine) (sym (grows.routines r h.within)) (routine_kept (routine_of env r) h.routine h.meets);
    need = subst (λ row. NeedAs G y row.need h.routine) (sym (grows.routines r h.within)) h.need;
  }

  pub system_kept : (n : ℕ) (y : a.System) → SystemAs G env rs n y → SystemAs G after more n y
  system_kept n y h =
      let same : system_row after n ≡ system_row env n = grows.systems n h.within in
      let members : get_or after.members (system_row after n).members [] ≡ get_or env.members (system_row env n).members [] =
      ap (λ row. get_or after.members row.members []) same ∙ grows.members (system_row env n).members h.within_members in
      record {
        within = omega (arith, h.within, grows.systems_length);
        sort = ap (λ row. erase.sort_of row.sort) same ∙ h.sort;
        heading = subst (λ row. HeadingAs G after more row.first row.count y.parameters) (sym same)
            (heading_kept (system_row env n).first (system_row env n).count y.parameters h.heading);
        within_members = subst (λ row. row.members < length after.members) (sym same) (omega (arith, h.within_members, grows.members_length));
        routines = λ x m e.
            let old : (r : ℕ) × (m ≡ member.Routine r) × RoutineOf G env rs r x y = h.routines x m (sym (ap (lookup x) members) ∙ e) in
            (old.0, old.1, routine_of_kept old.0 x y old.2);
        body_need = λ k g i. subst (λ row. row.body_need ≤ word_limit → statement_need k g y None y.body ≤ row.body_need) (sym same) (h.body_need k g i);
        words = λ k g i. subst (λ row. row.words ≤ word_limit → owner_words k g y ≤ row.words) (sym same) (h.words k g i);
      }

  record_kept : (k : ℕ) (ps : Members) → RecordAs env rs k ps → RecordAs after more k ps
  record_kept k ps h = record {
    within = omega (arith, h.within, grows.members_length);
    fields = h.fields;
    are = grows.members k h.within ∙ h.are;
    meets = fields_kept h.fields ps h.meets;
  }

  pub structure_kept : (st : Structure) (r : ResolvedType) → StructureAs G env rs st r → StructureAs G after more st r
  structure_kept (structure.Simple base low high) (Simple b lo hi start) h = (h.0, h.1, grows.types base (full_range b) h.2)
  structure_kept (structure.Array i e) (ArrayOf lo hi r) h =
      ((h.0.0, h.0.1, grows.types i (Simple h.0.0 lo hi h.0.1) h.0.2), grows.types e r h.1, h.2)
  structure_kept (structure.Record k) (RecordOf ps) h = record_kept k ps h
  structure_kept structure.Queue Queue h = tt
  structure_kept (structure.System n) (ComponentOf y inner) h = system_kept n y h
  structure_kept _ _ h = absurd h

  pub row_kept : (row : TypeRow) (r : ResolvedType) → RowAs G env rs row r → RowAs G after more row r
  row_kept row r h = record {
    structure = structure_kept row.structure r h.structure;
    queues = h.queues;
    sound = h.sound;
    words = h.words;
    reported = h.reported;
  }

  pub names_kept : (names : Names) → NamesAs G rs names → NamesAs G more names
  names_kept names h x e found = go e (h x e found)
    where
      go : (e : Entity) → GlobalAs G rs x e → GlobalAs G more x e
      go (entity.Constant base n) k = (k.0, grows.types base (full_range k.0) k.1, k.2)
      go (entity.Type t) k = (k.0, grows.types t k.0 k.1, k.2)
      go (entity.Standard d) k = k
      go _ k = tt
