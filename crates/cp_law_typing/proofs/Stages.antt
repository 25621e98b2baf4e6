-- The outermost scope, definition by definition: what the rules and the meaning know of it.
use Rattle.std.proofs.Common.{◌≡◌, ℕ, ℤ, Bool, true, false, List, [], ◌∷◌, ◌++◌, Option, Some, None, if◌then◌else◌, slice_get, length, take, arith, refl, ap, sym, subst, ◌∙◌, append_assoc, append-nil, codes, bytes_eq}
use Rattle.std.specs.Option.{option_or}
use Rattle.cp_model.specs.Syntax as s
use Rattle.cp_model.specs.Abstract as a
use Rattle.cp_model.specs.Erase as erase
use Rattle.cp_model.specs.declared.tree.Identifier.{Identifier}
use Rattle.cp_model.specs.declared.tree.ConstantDefinition.{ConstantDefinition}
use Rattle.cp_model.specs.declared.rules.Entity.{Entity}
use Rattle.cp_model.specs.declared.rules.Entity.TheVariants as entity
use Rattle.cp_model.specs.declared.rules.Structure.{Structure}
use Rattle.cp_model.specs.declared.rules.Structure.TheVariants as structure
use Rattle.cp_model.specs.declared.rules.TypeRow.{TypeRow}
use Rattle.cp_model.specs.declared.rules.Member.TheVariants as member
use Rattle.cp_model.specs.declared.rules.Returns.{Returns}
use Rattle.cp_model.specs.declared.rules.Returns.TheVariants as returns
use Rattle.cp_model.specs.declared.rules.RoutineRow.{RoutineRow}
use Rattle.cp_model.specs.declared.rules.Standard.TheVariants as standard
use Rattle.cp_model.specs.declared.rules.Position.TheVariants as position
use Rattle.cp_model.specs.RulesJudged.{Judged, Sound}
use Rattle.cp_model.specs.RulesEnvironment.{Environment, Names, Text, c1_declared, process_body, declare, entity_of, routine_of, row_of, system_row, with_names}
use Rattle.cp_model.specs.RulesTypes.{Made, c6_c8_placed, constant, type_at, type_of, judge_in_position}
use Rattle.cp_model.specs.Rules.{define_constant, define_type}
use Rattle.cp_model.specs.Types.{ArrayOf, ComponentOf, GlobalScope, Members, Queue, RecordOf, ResolvedType, Simple, resolved_type}
use Rattle.cp_model.specs.Declarations.{define, define_all, is_component, with_constant}
use Rattle.cp_model.specs.Names.{lookup}
use Rattle.cp_law_typing.specs.Systems.{systems_of}
use Rattle.cp_law_typing.specs.Declared.{AllFormed, IsData}
use Rattle.cp_law_typing.specs.WellTyped.{Later, TypedInOrder, TypedSystem}
use Rattle.cp_law_typing.proofs.Names.{AllDistinct, bytes_eq-refl, bytes_same, lookup_first, lookup_later, keys, keys-append, lookup-append, none_has}
use Rattle.cp_model.proofs.Judging.{first_empty, rest_empty, sound_has}
use Rattle.cp_law_typing.proofs.TypesMade.{alone_in, placed_allows, placed_sound, type_made, placed_inner}
use Rattle.cp_law_typing.proofs.TypeRows.{TypeMade, ValueAs, constant_valued}
use Rattle.cp_law_typing.proofs.TableMeanings.{GlobalAs, Grows, HeadingAs, NamesAs, ReturnsAs, RoutineAs, RoutineOf, RowAs, StructureAs, SystemAs, Tables, data_fits, row_data, TypeAt, Types, grows_same, names_kept}
use Rattle.cp_law_typing.proofs.Visible.{some_same}
use Rattle.cp_law_typing.proofs.TypeOrder.{Ascend, MoreNames, ParametersBefore, all_kept}
use Rattle.cp_law_typing.proofs.Layers.{IsOuter}
use Rattle.cp_law_typing.proofs.DeclaredNames.{declare_new, declared_new, grows_between, names_more, tables_same}
use Rattle.cp_law_typing.proofs.RoutineNames.{all_distinct}

-- ---- scopes with more definitions

pub later_same : (g : GlobalScope) → Later g g
later_same g = record { constants = λ x v h. h; types = λ x r h. h }

pub later_on : (g h k : GlobalScope) → Later g h → Later h k → Later g k
later_on g h k p q = record { constants = λ x v e. q.constants x v (p.constants x v e); types = λ x r e. q.types x r (p.types x r e) }

-- ---- facts of fewer scopes

module _ (G H : GlobalScope → Type 0) (sub : (g : GlobalScope) → H g → G g) where
  heading_fewer : (env : Environment) (rs : Types) (first count : ℕ) (gs : List a.Group) → HeadingAs G env rs first count gs → HeadingAs H env rs first count gs
  heading_fewer env rs first count gs h = record { variables = h.variables; declares = λ g i. h.declares g (sub g i); within = h.within; rows = h.rows }

  returns_fewer : (rs : Types) (r : Returns) (o : Option a.Name) → ReturnsAs G rs r o → ReturnsAs H rs r o
  returns_fewer rs returns.Nothing None h = tt
  returns_fewer rs (returns.Value t) (Some x) h = (h.0, h.1, λ g i. h.2 g (sub g i), h.3)
  returns_fewer rs returns.Nothing (Some x) h = absurd h
  returns_fewer rs (returns.Value t) None h = absurd h
  returns_fewer rs (returns.Broken w) o h = absurd h

  routine_fewer : (env : Environment) (rs : Types) (row : RoutineRow) (q : a.Routine) → RoutineAs G env rs row q → RoutineAs H env rs row q
  routine_fewer env rs row q h = record {
    entry = h.entry;
    heading = heading_fewer env rs row.first row.count q.parameters h.heading;
    returns = returns_fewer rs row.returns q.result h.returns;
  }

  system_fewer : (env : Environment) (rs : Types) (n : ℕ) (y : a.System) → SystemAs G env rs n y → SystemAs H env rs n y
  system_fewer env rs n y h = record {
    within = h.within;
    sort = h.sort;
    heading = heading_fewer env rs (system_row env n).first (system_row env n).count y.parameters h.heading;
    within_members = h.within_members;
    routines = λ x m e.
        let k : (r : ℕ) × (m ≡ member.Routine r) × RoutineOf G env rs r x y = h.routines x m e in
        let w : RoutineOf G env rs k.0 x y = k.2 in
        (k.0, k.1, record { within = w.within; place = w.place; routine = w.routine; there = w.there; named = w.named; meets = routine_fewer env rs (routine_of env k.0) w.routine w.meets; need = λ n g i. w.need n g (sub g i) });
    body_need = λ k g i. h.body_need k g (sub g i);
    words = λ k g i. h.words k g (sub g i);
  }

  structure_fewer : (env : Environment) (rs : Types) (st : Structure) (r : ResolvedType) → StructureAs G env rs st r → StructureAs H env rs st r
  structure_fewer env rs (structure.Simple base low high) (Simple b lo hi start) h = h
  structure_fewer env rs (structure.Array i e) (ArrayOf lo hi r) h = h
  structure_fewer env rs (structure.Record k) (RecordOf ps) h = h
  structure_fewer env rs structure.Queue Queue h = tt
  structure_fewer env rs (structure.System n) (ComponentOf y inner) h = system_fewer env rs n y h
  structure_fewer env rs _ _ h = absurd h

  row_fewer : (env : Environment) (rs : Types) (row : TypeRow) (r : ResolvedType) → RowAs G env rs row r → RowAs H env rs row r
  row_fewer env rs row r h = record {
    structure = structure_fewer env rs row.structure r h.structure;
    queues = h.queues;
    sound = h.sound;
    words = λ g i. h.words g (sub g i);
    reported = λ g i. h.reported g (sub g i);
  }

  pub tables_fewer : (env : Environment) (rs : Types) → Tables G env rs → Tables H env rs
  tables_fewer env rs h = record {
    rows = λ t r e. row_fewer env rs (row_of env t) r (h.rows t r e);
    lengths = h.lengths;
    integer = h.integer;
    boolean = h.boolean;
    char = h.char;
    queue = h.queue;
  }

  pub names_fewer : (rs : Types) (names : Names) → NamesAs G rs names → NamesAs H rs names
  names_fewer rs names h x e found = go e (h x e found)
    where
      go : (e : Entity) → GlobalAs G rs x e → GlobalAs H rs x e
      go (entity.Constant base n) k = (k.0, k.1, λ g i. k.2 g (sub g i))
      go (entity.Type t) k = (k.0, k.1, λ g i. k.2 g (sub g i))
      go (entity.Standard d) k = k
      go _ k = tt

-- ---- the outermost scope

-- a name that isn't visible isn't defined
abbrev pub Seen : Names → GlobalScope → Type 0
Seen names g = (x : Text) → lookup x names ≡ None → (lookup x g.constants ≡ None) × (lookup x g.types ≡ None)

pub record SchedulingState (env : Environment) (g : GlobalScope) (rs : Types) (ys : List a.System) : Type 0 where
  pub globals : NamesAs (Later g) rs env.names
  pub tables : Tables (Later g) env rs
  pub is_outer : (x : Text) (e : Entity) → lookup x env.names ≡ Some e → IsOuter e
  pub distinct : AllDistinct (keys env.names)
  pub clock : lookup (codes "realtime") env.names ≡ Some (entity.Standard standard.Realtime)
  pub region : env.region ≡ process_body
  pub processes : env.processes ≡ 1
  pub monitors : env.monitors ≡ 0
  pub types : (h : GlobalScope) → Later g h → AllFormed h g.types
  pub seen : Seen env.names g
  pub systems : (t : ℕ) (w : a.System) (inner : Members) → TypeAt rs t (ComponentOf w inner) → (i : ℕ) × (slice_get ys i ≡ Some w)
  pub earlier : ParametersBefore env rs

-- a system type is typed after the system types before it, in every scope with more definitions
abbrev pub SystemTyped : GlobalScope → List a.System → a.System → Type 0
SystemTyped g before y = (h : GlobalScope) → Later g h → TypedSystem h before y

-- what definitions add
pub record Defined (env : Environment) (g : GlobalScope) (rs : Types) (ys : List a.System) (ds : List a.Definition) (after : Environment) : Type 0 where
  pub more : Types
  pub later : Later g (define_all g ds)
  pub stage : SchedulingState after (define_all g ds) more (ys ++ systems_of ds)
  pub typed : (i : ℕ) (y : a.System) → slice_get (systems_of ds) i ≡ Some y → SystemTyped (define_all g ds) (ys ++ take i (systems_of ds)) y
  pub in_order : (h : GlobalScope) → Later (define_all g ds) h → TypedInOrder h g ys ds
  pub added : MoreNames env.names after.names rs more
  pub ascend : Ascend after.names more (length rs) (length more) ds

-- a lookup in a scope with one more name before the others
front : {A : Type 0} (x y : Text) (v : A) (vs : List (Text × A)) (w : A) → lookup x vs ≡ None → lookup y vs ≡ Some w → lookup y ((x, v) ∷ vs) ≡ Some w
front x y v vs w none h = go (bytes_eq y x) refl
  where
    go : (b : Bool) → bytes_eq y x ≡ b → lookup y ((x, v) ∷ vs) ≡ Some w
    go false is = ap (λ c. if c then Some v else lookup y vs) is ∙ h
    go true is = absurd (cc (ap (λ z. lookup z vs) (bytes_same y x is), none, h))

pub first_there : {A : Type 0} (x : Text) (v : A) (vs : List (Text × A)) → lookup x ((x, v) ∷ vs) ≡ Some v
first_there x v vs = ap (λ c. if c then Some v else lookup x vs) (bytes_eq-refl x)

pub not_first : {A : Type 0} (x y : Text) (v : A) (vs : List (Text × A)) → bytes_eq y x ≡ false → lookup y ((x, v) ∷ vs) ≡ lookup y vs
not_first x y v vs h = ap (λ c. if c then Some v else lookup y vs) (h)

-- a name that isn't found after one was added is neither that one nor one of the earlier names
not_more : (names : Names) (x y : Text) (e : Entity) → lookup y (names ++ (x, e) ∷ []) ≡ None → (lookup y names ≡ None) × (bytes_eq y x ≡ false)
not_more names x y e h = go (lookup y names) refl (sym (lookup-append y names ((x, e) ∷ [])) ∙ h)
  where
    last : (b : Bool) → (if b then Some e else None) ≡ None → b ≡ false
    last true h = absurd (cc)
    last false h = refl

    go : (o : Option Entity) → lookup y names ≡ o → option_or o (if bytes_eq y x then Some e else None) ≡ None → (lookup y names ≡ None) × (bytes_eq y x ≡ false)
    go None is h = (is, last (bytes_eq y x) h)
    go (Some k) is h = absurd (cc)

pub outer_more : (names : Names) (x : Text) (e : Entity) → ((z : Text) (f : Entity) → lookup z names ≡ Some f → IsOuter f) → IsOuter e
    → (z : Text) (f : Entity) → lookup z (names ++ (x, e) ∷ []) ≡ Some f → IsOuter f
outer_more names x e h k z f found = go (lookup z names) refl (sym (lookup-append z names ((x, e) ∷ [])) ∙ found)
  where
    last : (b : Bool) → (if b then Some e else None) ≡ Some f → IsOuter f
    last true g = subst IsOuter (some_same (Some e) e f refl g) k
    last false g = absurd (cc)

    go : (o : Option Entity) → lookup z names ≡ o → option_or o (if bytes_eq z x then Some e else None) ≡ Some f → IsOuter f
    go (Some w) is g = h z f (is ∙ g)
    go None is g = last (bytes_eq z x) g

-- ---- constants

pub constant_later : (x : Text) (v : a.BaseType × ℤ) (g : GlobalScope) → lookup x g.constants ≡ None → Later g (record g { constants = (x, v) ∷ g.constants })
constant_later x v g none = record { constants = λ y w h. front x y v g.constants w none h; types = λ y r h. h }

pub type_later : (x : Text) (r : ResolvedType) (g : GlobalScope) → lookup x g.types ≡ None → Later g (record g { types = (x, r) ∷ g.types })
type_later x r g none = record { constants = λ y w h. h; types = λ y w h. front x y r g.types w none h }

-- what definitions leave unchanged
pub record KeepsRest (env after : Environment) : Type 0 where
  pub region : after.region ≡ env.region
  pub processes : after.processes ≡ env.processes
  pub monitors : after.monitors ≡ env.monitors

pub keeps_rest : (env : Environment) → KeepsRest env env
keeps_rest env = record { region = refl; processes = refl; monitors = refl }

-- one more name, with new rows
pub stage_named : (env env1 : Environment) (g g1 : GlobalScope) (rs more : Types) (ys zs : List a.System) (x : Text) (e : Entity) → SchedulingState env g rs ys → Tables (Later g) env1 more
    → Grows env env1 rs more
    → ((t : ℕ) (w : a.System) (inner : Members) → TypeAt more t (ComponentOf w inner) → (i : ℕ) × (slice_get zs i ≡ Some w))
    → ParametersBefore env1 more → KeepsRest env env1 → ((h : GlobalScope) → Later g1 h → AllFormed h g1.types) → Later g g1 → lookup x env.names ≡ None → IsOuter e → GlobalAs (Later g1) more x e
    → ((y : Text) → bytes_eq y x ≡ false → (lookup y g1.constants ≡ lookup y g.constants) × (lookup y g1.types ≡ lookup y g.types))
    → SchedulingState (with_names (env.names ++ (x, e) ∷ []) env1) g1 more zs
stage_named env env1 g g1 rs more ys zs x e stage tables grows systems earlier rest types later none outer new same =
    let sub : (h : GlobalScope) → Later g1 h → Later g h = λ h l. later_on g g1 h later l in
    let after : Environment = with_names (env.names ++ (x, e) ∷ []) env1 in
    record {
      globals = names_more (Later g1) more env.names x e (names_fewer (Later g) (Later g1) sub more env.names (names_kept (Later g) env env1 rs more grows env.names stage.globals)) new;
      tables = tables_same (Later g1) env1 after more refl refl refl refl refl (tables_fewer (Later g) (Later g1) sub env1 more tables);
      is_outer = outer_more env.names x e stage.is_outer outer;
      distinct = subst AllDistinct (sym (keys-append env.names ((x, e) ∷ []))) (all_distinct (keys env.names) (x ∷ []) stage.distinct (none_has x env.names none, tt));
      clock = lookup_first (codes "realtime") env.names ((x, e) ∷ []) (entity.Standard standard.Realtime) stage.clock;
      region = rest.region ∙ stage.region;
      processes = rest.processes ∙ stage.processes;
      monitors = rest.monitors ∙ stage.monitors;
      types = types;
      seen = λ y h.
          let parts : (lookup y env.names ≡ None) × (bytes_eq y x ≡ false) = not_more env.names x y e h in
          let old : (lookup y g.constants ≡ None) × (lookup y g.types ≡ None) = stage.seen y parts.0 in
          let eq : (lookup y g1.constants ≡ lookup y g.constants) × (lookup y g1.types ≡ lookup y g.types) = same y parts.1 in
          (eq.0 ∙ old.0, eq.1 ∙ old.1);
      systems = systems;
      earlier = earlier;
    }

-- the name that was added last
pub last_found : (names : Names) (x : Text) (e : Entity) → lookup x names ≡ None → lookup x (names ++ (x, e) ∷ []) ≡ Some e
last_found names x e none = lookup_later x names ((x, e) ∷ []) none ∙ first_there x e []

pub no_systems : (ys : List a.System) → ys ++ [] ≡ ys
no_systems ys = append-nil ys

pub constant_defined : (env : Environment) (g : GlobalScope) (rs : Types) (ys : List a.System) (d : ConstantDefinition) → SchedulingState env g rs ys → (define_constant env d).violations ≡ []
    → Defined env g rs ys (erase.constant_definition d ∷ []) (define_constant env d).env
constant_defined env g rs ys d stage h =
    let x : Text = d.name.name in
    let unfinished : Environment = declare d.name entity.UnfinishedConstant env in
    let value : Judged (ℕ × ℤ) = constant unfinished d.value in
    let none : lookup x env.names ≡ None = declared_new env d.name (first_empty (c1_declared env d.name) _ h) in
    let is : (v : ℕ × ℤ) × (value ≡ Sound v) = sound_has value (rest_empty (c1_declared env d.name) _ h) in
    let opened : unfinished ≡ with_names (env.names ++ (x, entity.UnfinishedConstant) ∷ []) env = declare_new env d.name entity.UnfinishedConstant none in
    let names_opened : NamesAs (Later g) rs unfinished.names =
    subst (λ z. NamesAs (Later g) rs z.names) (sym opened) (names_more (Later g) rs env.names x entity.UnfinishedConstant stage.globals tt) in
    let tables_opened : Tables (Later g) unfinished rs =
    subst (λ z. Tables (Later g) z rs) (sym opened) (tables_same (Later g) env (with_names (env.names ++ (x, entity.UnfinishedConstant) ∷ []) env) rs refl refl refl refl refl stage.tables) in
    let v : ValueAs (Later g) rs d.value is.0 = constant_valued (Later g) rs unfinished d.value is.0 names_opened tables_opened is.1 in
    let w : a.BaseType × ℤ = (v.0, is.0.1) in
    let e : Entity = entity.Constant is.0.0 is.0.1 in
    let g1 : GlobalScope = record g { constants = (x, w) ∷ g.constants } in
    let later : Later g g1 = constant_later x w g (stage.seen x none).0 in
    let behind : SchedulingState (with_names (env.names ++ (x, e) ∷ []) env) g1 rs ys =
    stage_named env env g g1 rs rs ys ys x e stage stage.tables (grows_same env env rs refl refl refl refl refl) stage.systems stage.earlier (keeps_rest env) (λ k l. stage.types k (later_on g g1 k later l)) later none tt
    (v.0, v.1, λ k l. l.constants x w (first_there x w g.constants)) (λ y n. (not_first x y w g.constants n, refl)) in
    let after_is : (define_constant env d).env ≡ with_names (env.names ++ (x, e) ∷ []) env =
    ap (λ k. declare d.name (entity_of (λ c. entity.Constant c.0 c.1) k) env) is.1 ∙ declare_new env d.name e none in
    let scope_is : define_all g (erase.constant_definition d ∷ []) ≡ g1 = ap (λ o. with_constant x o g) (v.2 g (later_same g)) in
    subst (Defined env g rs ys (erase.constant_definition d ∷ [])) (sym after_is) (record {
      more = rs;
      later = subst (Later g) (sym scope_is) later;
      stage = subst (λ k. SchedulingState (with_names (env.names ++ (x, e) ∷ []) env) k rs (ys ++ [])) (sym scope_is) (subst (SchedulingState (with_names (env.names ++ (x, e) ∷ []) env) g1 rs) (sym (no_systems ys)) behind);
      typed = λ i y e. absurd (cc);
      in_order = λ k l. tt;
      added = record { names = λ z f k. lookup_first z env.names ((x, e) ∷ []) f k; types = λ t r k. k };
      ascend = (record { represents = e; is = last_found env.names x e none; other = tt }, omega arith);
    })

-- ---- written types

row_fits : {G : GlobalScope → Type 0} {env : Environment} {rs : Types} (row : TypeRow) (r : ResolvedType) (h : GlobalScope) → RowAs G env rs row r → G h → is_component r ≡ false
    → IsData h r
row_fits {G} {env} {rs} row r h as_row i alone = data_fits G row r (row_data G env rs row r as_row alone) h i

pub type_defined : (env : Environment) (g : GlobalScope) (rs : Types) (ys : List a.System) (x : Identifier) (te : s.TypeExpression) → SchedulingState env g rs ys → (define_type env x te).violations ≡ []
    → Defined env g rs ys (a.TypeDef x.name (erase.type_expression te) ∷ []) (define_type env x te).env
type_defined env g rs ys x te stage h =
    let unfinished : Environment = declare x entity.UnfinishedType env in
    let m : Made (Judged ℕ) = type_of unfinished te in
    let judged : Judged ℕ = judge_in_position m.env position.Definition te m.of in
    let none : lookup x.name env.names ≡ None = declared_new env x (first_empty (c1_declared env x) _ h) in
    let is : (u : ℕ) × (judged ≡ Sound u) = sound_has judged (rest_empty (c1_declared env x) _ h) in
    let inner : (t : ℕ) × (m.of ≡ Sound t) × (c6_c8_placed m.env position.Definition (type_at te) t ≡ Sound is.0) = placed_inner (Later g) m.env position.Definition te m.of is.0 is.1 in
    let same : inner.0 ≡ is.0 = placed_sound (Later g) m.env position.Definition (type_at te) inner.0 is.0 inner.2 in
    let opened : unfinished ≡ with_names (env.names ++ (x.name, entity.UnfinishedType) ∷ []) env = declare_new env x entity.UnfinishedType none in
    let names_opened : NamesAs (Later g) rs unfinished.names =
    subst (λ z. NamesAs (Later g) rs z.names) (sym opened) (names_more (Later g) rs env.names x.name entity.UnfinishedType stage.globals tt) in
    let tables_opened : Tables (Later g) unfinished rs =
    subst (λ z. Tables (Later g) z rs) (sym opened) (tables_same (Later g) env (with_names (env.names ++ (x.name, entity.UnfinishedType) ∷ []) env) rs refl refl refl refl refl stage.tables) in
    let one : TypeMade (Later g) unfinished rs m.env inner.0 (erase.type_expression te) = type_made (Later g) te unfinished rs inner.0 names_opened tables_opened inner.1 in
    let e : Entity = entity.Type is.0 in
    let r : ResolvedType = resolved_type g (erase.type_expression te) in
    let r_is : r ≡ one.type = one.resolves g (later_same g) in
    let g1 : GlobalScope = record g { types = (x.name, r) ∷ g.types } in
    let later : Later g g1 = type_later x.name r g (stage.seen x.name none).1 in
    let grows : Grows env m.env rs one.made.more =
    grows_between env unfinished m.env m.env rs one.made.more one.made.longer one.made.grows
    (sym (ap (λ z. z.types) opened)) (sym (ap (λ z. z.members) opened)) (sym (ap (λ z. z.routines) opened)) (sym (ap (λ z. z.systems) opened)) (sym (ap (λ z. z.parameters) opened)) refl refl refl refl refl in
    let there : TypeAt one.made.more is.0 r = subst (TypeAt one.made.more is.0) (sym r_is) (subst (λ k. TypeAt one.made.more k one.type) same one.there) in
    let alone : is_component one.type ≡ false =
    alone_in (Later g) m.env one.made.more position.Definition (λ y. refl) (row_of m.env inner.0).structure one.type (one.made.tables.rows inner.0 one.type one.there).structure
    (placed_allows (Later g) m.env position.Definition (type_at te) inner.0 is.0 inner.2).0 in
    let behind : SchedulingState (with_names (env.names ++ (x.name, e) ∷ []) m.env) g1 one.made.more ys =
    stage_named env m.env g g1 rs one.made.more ys ys x.name e stage one.made.tables grows (λ t w i k. stage.systems t w i (one.made.components t w i k))
    (all_kept (Later g) env m.env rs one.made.more stage.tables grows one.made.components stage.earlier) (record {
      region = ap (λ z. z.region) one.made.same ∙ ap (λ z. z.region) opened;
      processes = ap (λ z. z.processes) one.made.same ∙ ap (λ z. z.processes) opened;
      monitors = ap (λ z. z.monitors) one.made.same ∙ ap (λ z. z.monitors) opened;
    }) (λ k l. (
      (row_fits (row_of m.env is.0) r k (one.made.tables.rows is.0 r there) (later_on g g1 k later l), (one.made.tables.rows is.0 r there).reported k (later_on g g1 k later l)),
      stage.types k (later_on g g1 k later l),
    )) later none tt
    (r, there, λ k l. l.types x.name r (first_there x.name r g.types)) (λ y n. (refl, not_first x.name y r g.types n)) in
    let after_is : (define_type env x te).env ≡ with_names (env.names ++ (x.name, e) ∷ []) m.env =
    ap (λ k. declare x (entity_of entity.Type k) (record m.env { names = env.names })) is.1 ∙ declare_new (record m.env { names = env.names }) x e none in
    subst (Defined env g rs ys (a.TypeDef x.name (erase.type_expression te) ∷ [])) (sym after_is) (record {
      more = one.made.more;
      later = later;
      stage = subst (SchedulingState (with_names (env.names ++ (x.name, e) ∷ []) m.env) g1 one.made.more) (sym (no_systems ys)) behind;
      typed = λ i y e. absurd (cc);
      in_order = λ k l. tt;
      added = record { names = λ z f k. lookup_first z env.names ((x.name, e) ∷ []) f k; types = grows.types };
      ascend = (
        record { represents = e; is = last_found env.names x.name e none; other = (one.type, subst (λ k. TypeAt one.made.more k one.type) same one.there, alone) },
        omega (arith, stage.tables.lengths, one.made.tables.lengths, one.made.longer, ap (λ z. length z.types) opened),
      );
    })

-- what is typed stays typed in scopes with more definitions
pub typed_later : (g h : GlobalScope) (ys : List a.System) (y : a.System) → Later g h → SystemTyped g ys y → SystemTyped h ys y
typed_later g h ys y later t i l = t i (later_on g h i later l)

-- more definitions in order
pub in_order_on : (k : GlobalScope) (ds es : List a.Definition) (g : GlobalScope) (ys : List a.System) → TypedInOrder k g ys ds
    → TypedInOrder k (define_all g ds) (ys ++ systems_of ds) es → TypedInOrder k g ys (ds ++ es)
in_order_on k [] es g ys h rest = subst (λ l. TypedInOrder k g l es) (append-nil ys) rest
in_order_on k (a.SystemDef x y ∷ ds) es g ys h rest = (
  h.0,
  in_order_on k ds es (define g (a.SystemDef x y)) (ys ++ y ∷ []) h.1
      (subst (λ l. TypedInOrder k (define_all (define g (a.SystemDef x y)) ds) l es) (sym (append_assoc ys (y ∷ []) (systems_of ds))) rest),
)
in_order_on k (a.TypeDef x t ∷ ds) es g ys h rest = in_order_on k ds es (define g (a.TypeDef x t)) ys h rest
in_order_on k (a.EnumDef x vs ∷ ds) es g ys h rest = in_order_on k ds es (define g (a.EnumDef x vs)) ys h rest
in_order_on k (a.ConstantDef x c ∷ ds) es g ys h rest = in_order_on k ds es (define g (a.ConstantDef x c)) ys h rest
