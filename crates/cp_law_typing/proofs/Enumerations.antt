-- An enumeration in which nothing is broken: its type and its values are those of the meaning.
use Rattle.std.proofs.Common.{◌≡◌, ℕ, suc, ◌-◌, ℤ, pos, Bool, true, false, ◌||◌, List, [], ◌∷◌, ◌++◌, Option, Some, None, if◌then◌else◌, length, map, arith, refl, ap, sym, subst, ◌∙◌, append_assoc, append-nil, length-append, codes, bytes_eq}
use Rattle.std.specs.Option.{option_or}
use Rattle.std.proofs.lemmas.Bool.{true≢false}
use Rattle.std.proofs.lemmas.List.{length-map}
use Rattle.cp_model.specs.Abstract as a
use Rattle.cp_model.specs.Erase as erase
use Rattle.cp_model.specs.declared.tree.Identifier.{Identifier}
use Rattle.cp_model.specs.declared.rules.Entity.{Entity}
use Rattle.cp_model.specs.declared.rules.Entity.TheVariants as entity
use Rattle.cp_model.specs.declared.rules.TypeRow.{TypeRow}
use Rattle.cp_model.specs.declared.rules.Standard.TheVariants as standard
use Rattle.cp_model.specs.RulesEnvironment.{Environment, Names, Text, c1_declared, declare, simple_row, with_names}
use Rattle.cp_model.specs.RulesTypes.{add_type, has_name}
use Rattle.cp_model.specs.Rules.{define_enumeration, values}
use Rattle.cp_model.specs.Types.{GlobalScope, full_range}
use Rattle.cp_model.specs.Declarations.{enumeration_constants}
use Rattle.cp_model.specs.Places.{within}
use Rattle.cp_model.specs.Names.{lookup}
use Rattle.cp_model.specs.RulesDeclarations.{declare_each}
use Rattle.cp_law_typing.specs.Declared.{IsData}
use Rattle.cp_law_typing.specs.WellTyped.{Later}
use Rattle.cp_law_typing.proofs.Names.{AllDistinct, NewNames, bytes_eq-refl, keys, keys-append, lookup-append, lookup_first, lookup_later, lookup_none, has_first, there_is_not_new, lookup_has}
use Rattle.cp_model.proofs.Judging.{first_empty, rest_empty}
use Rattle.cp_law_typing.proofs.TypeRows.{grows_by, not_new, tables_added}
use Rattle.cp_law_typing.proofs.TableMeanings.{data_row, simple_data, BaseAt, Grows, NamesAs, Tables, TypeAt, Types, slice_seam}
use Rattle.cp_law_typing.proofs.Layers.{IsOuter}
use Rattle.cp_law_typing.proofs.DeclaredNames.{declare_new, declared_new, names_more, tables_same, each_new, names_of, each_declared, text_of}
use Rattle.cp_law_typing.proofs.RoutineNames.{all_distinct}
use Rattle.cp_law_typing.proofs.TypeOrder.{all_kept}
use Rattle.cp_law_typing.proofs.Stages.{last_found, Defined, SchedulingState, first_there, no_systems, not_first, stage_named, tables_fewer, type_later, outer_more, later_on, names_fewer}
use Rattle.cp_law_typing.proofs.MemberNames.{new_fewer}

abbrev Constants : Type 0
Constants = List (Text × (a.BaseType × ℤ))

abbrev value_entries : ℕ → ℕ → List Identifier → Names
value_entries t n xs = names_of (values t n xs)

value_keys : (t n : ℕ) (xs : List Identifier) → keys (value_entries t n xs) ≡ map text_of xs
value_keys t n [] = refl
value_keys t n (x ∷ xs) = ap (λ l. x.name ∷ l) (value_keys t (suc n) xs)

abbrev value_constants : a.BaseType → ℕ → List Identifier → Constants
value_constants b n xs = enumeration_constants b n (map erase.name xs)

-- each value is found
abbrev AllFound : Constants → a.BaseType → ℕ → List Identifier → Type 0
AllFound l b n [] = Unit {0}
AllFound l b n (x ∷ xs) = (lookup x.name l ≡ Some (b, pos n)) × AllFound l b (suc n) xs

all_found : (before rest : Constants) (b : a.BaseType) (n : ℕ) (xs : List Identifier) → NewNames (keys before) (map text_of xs) → AllFound (before ++ (value_constants b n xs ++ rest)) b n xs
all_found before rest b n [] h = tt
all_found before rest b n (x ∷ xs) h =
    let one : (Text × (a.BaseType × ℤ)) = (x.name, (b, pos n)) in (
      lookup_later x.name before _ (lookup_none x.name before h.0)
          ∙ ap (λ c. if c then Some (b, pos n) else lookup x.name (value_constants b (suc n) xs ++ rest)) (bytes_eq-refl x.name),
      subst (λ l. AllFound l b (suc n) xs) (append_assoc before (one ∷ []) (value_constants b (suc n) xs ++ rest))
          (all_found (before ++ one ∷ []) rest b (suc n) xs (subst (λ ks. NewNames ks (map text_of xs)) (sym (keys-append before (one ∷ []))) h.1)),
    )

value_constants_none : (b : a.BaseType) (n : ℕ) (xs : List Identifier) (z : Text) → has_name z (map text_of xs) ≡ false → lookup z (value_constants b n xs) ≡ None
value_constants_none b n [] z h = refl
value_constants_none b n (x ∷ xs) z h = go (bytes_eq z x.name) h (value_constants_none b (suc n) xs z)
  where
    go : (c : Bool) → (c || has_name z (map text_of xs)) ≡ false → (has_name z (map text_of xs) ≡ false → lookup z (value_constants b (suc n) xs) ≡ None)
        → (if c then Some (b, pos n) else lookup z (value_constants b (suc n) xs)) ≡ None
    go true h rest = absurd (true≢false h)
    go false h rest = rest h

entries_none : (t n : ℕ) (xs : List Identifier) (z : Text) → lookup z (value_entries t n xs) ≡ None → has_name z (map text_of xs) ≡ false
entries_none t n [] z h = refl
entries_none t n (x ∷ xs) z h = go (bytes_eq z x.name) h (entries_none t (suc n) xs z)
  where
    go : (c : Bool) → (if c then Some (entity.Constant t (pos n)) else lookup z (value_entries t (suc n) xs)) ≡ None → (lookup z (value_entries t (suc n) xs) ≡ None → has_name z (map text_of xs) ≡ false)
        → (c || has_name z (map text_of xs)) ≡ false
    go true h rest = absurd (cc)
    go false h rest = rest h

-- names that represent values
pub record Named (g : GlobalScope) (rs : Types) (names : Names) : Type 0 where
  pub globals : NamesAs (Later g) rs names
  pub is_outer : (x : Text) (e : Entity) → lookup x names ≡ Some e → IsOuter e
  pub distinct : AllDistinct (keys names)

values_named : (g : GlobalScope) (rs : Types) (t n : ℕ) (b : a.BaseType) (names : Names) (xs : List Identifier) → BaseAt rs t b → AllFound g.constants b n xs
    → NewNames (keys names) (map text_of xs) → Named g rs names → Named g rs (names ++ value_entries t n xs)
values_named g rs t n b names [] base found new h = subst (Named g rs) (sym (append-nil names)) h
values_named g rs t n b names (x ∷ xs) base found new h =
    let e : Entity = entity.Constant t (pos n) in
    subst (Named g rs) (append_assoc names ((x.name, e) ∷ []) (value_entries t (suc n) xs))
    (values_named g rs t (suc n) b (names ++ (x.name, e) ∷ []) xs base found.1 (subst (λ ks. NewNames ks (map text_of xs)) (sym (keys-append names ((x.name, e) ∷ []))) new.1) (record {
      globals = names_more (Later g) rs names x.name e h.globals (b, base, λ k l. l.constants x.name (b, pos n) found.0);
      is_outer = outer_more names x.name e h.is_outer tt;
      distinct = subst AllDistinct (sym (keys-append names ((x.name, e) ∷ []))) (all_distinct (keys names) (x.name ∷ []) h.distinct (new.0, tt));
    }))

module _ (env : Environment) (g : GlobalScope) (rs : Types) (ys : List a.System) (x : Identifier) (xs : List Identifier) (stage : SchedulingState env g rs ys)
    (sound : (define_enumeration env x xs).violations ≡ []) where
  abbrev t : ℕ
  t = length env.types

  abbrev row : TypeRow
  row = simple_row t (pos 0) (pos (length xs - 1))

  abbrev own : Environment
  own = add_type env row

  abbrev b : a.BaseType
  b = a.Enumeration x.name (length (map erase.name xs) - 1)

  abbrev more : Types
  more = rs ++ full_range b ∷ []

  abbrev scope_a : GlobalScope
  scope_a = record g { types = (x.name, full_range b) ∷ g.types }

  abbrev scope_behind : GlobalScope
  scope_behind = record { constants = value_constants b 0 xs ++ g.constants; types = (x.name, full_range b) ∷ g.types }

  none : lookup x.name env.names ≡ None
  none = declared_new env x (first_empty (c1_declared env x) _ sound)

  abbrev named : Environment
  named = with_names (env.names ++ (x.name, entity.Type t) ∷ []) own

  new_values : NewNames (keys env.names ++ x.name ∷ []) (map text_of xs)
  new_values = subst (λ ks. NewNames ks (map text_of xs)) (ap (λ d. keys d.names) (declare_new own x entity.UnfinishedType none) ∙ keys-append env.names ((x.name, entity.UnfinishedType) ∷ []))
      (subst (NewNames (keys (declare x entity.UnfinishedType own).names)) (value_keys t 0 xs)
      (each_new (values t 0 xs) (declare x entity.UnfinishedType own) (rest_empty (c1_declared env x) _ sound)))

  new_named : NewNames (keys named.names) (map text_of xs)
  new_named = subst (λ ks. NewNames ks (map text_of xs)) (sym (keys-append env.names ((x.name, entity.Type t) ∷ []))) new_values

  later_a : Later g scope_a
  later_a = type_later x.name (full_range b) g (stage.seen x.name none).1

  -- an earlier constant isn't a value of the enumeration
  later_b : Later scope_a scope_behind
  later_b = record {
    constants = λ z v h. lookup_later z (value_constants b 0 xs) g.constants (value_constants_none b 0 xs z (there_is_not_new z (keys env.names ++ x.name ∷ []) (map text_of xs) new_values (visible z v h)))
        ∙ h;
    types = λ z r h. h;
  }
    where
      visible : (z : Text) (v : a.BaseType × ℤ) → lookup z g.constants ≡ Some v → has_name z (keys env.names ++ x.name ∷ []) ≡ true
      visible z v h = go (lookup z env.names) refl
        where
          go : (o : Option Entity) → lookup z env.names ≡ o → has_name z (keys env.names ++ x.name ∷ []) ≡ true
          go (Some e) is = has_first z (keys env.names) (x.name ∷ []) (lookup_has z env.names e is)
          go None is = absurd (cc ((stage.seen z is).0, h))

  grows_own : Grows env own rs more
  grows_own = grows_by env own rs more (full_range b ∷ []) (record {
    types = row ∷ [];
    types_are = refl;
    members = [];
    members_are = sym (append-nil env.members);
    routines = [];
    routines_are = sym (append-nil env.routines);
    systems = [];
    systems_are = sym (append-nil env.systems);
    parameters = [];
    parameters_are = sym (append-nil env.parameters);
  }) refl

  type_there : TypeAt more t (full_range b)
  type_there = subst (λ n. TypeAt more n (full_range b)) (sym stage.tables.lengths) (slice_seam rs (full_range b))

  starts_at_0 : (n : ℕ) → within (pos 0) (pos n) (pos 0) ≡ true
  starts_at_0 n = grind arith

  tables_own : Tables (Later g) own more
  tables_own = tables_added (Later g) env own rs row (full_range b) stage.tables refl grows_own
      (data_row (Later g) own more row (full_range b) (refl, ap (λ n. pos (n - 1)) (length-map xs erase.name), type_there)
      (simple_data (Later g) row b (pos 0) (pos (length (map erase.name xs) - 1)) (pos 0) refl refl (starts_at_0 (length (map erase.name xs) - 1))))

  enumeration_fits : (h : GlobalScope) → IsData h (full_range b)
  enumeration_fits h = (starts_at_0 (length (map erase.name xs) - 1), omega arith)

  stage_a : SchedulingState named scope_a more ys
  stage_a = stage_named env own g scope_a rs more ys ys x.name (entity.Type t) stage tables_own grows_own
      (λ n w i h. stage.systems n w i (not_new rs (full_range b) n w i refl h))
      (all_kept (Later g) env own rs more stage.tables grows_own (λ n w i h. not_new rs (full_range b) n w i refl h) stage.earlier) (record { region = refl; processes = refl; monitors = refl })
      (λ k l. ((λ alone. enumeration_fits k, tt), stage.types k (later_on g scope_a k later_a l))) later_a none tt
      (full_range b, type_there, λ k l. l.types x.name (full_range b) (first_there x.name (full_range b) g.types))
      (λ z n. (refl, not_first x.name z (full_range b) g.types n))

  sub : (h : GlobalScope) → Later scope_behind h → Later scope_a h
  sub h l = later_on scope_a scope_behind h later_b l

  abbrev names_behind : Names
  names_behind = named.names ++ value_entries t 0 xs

  named_behind : Named scope_behind more names_behind
  named_behind = values_named scope_behind more t 0 b named.names xs type_there (all_found [] g.constants b 0 xs (new_fewer (keys named.names) [] (map text_of xs) (subst (λ l. NewNames l (map text_of xs)) (sym (append-nil (keys named.names))) new_named)))
      new_named (record {
        globals = names_fewer (Later scope_a) (Later scope_behind) sub more named.names stage_a.globals;
        is_outer = stage_a.is_outer;
        distinct = stage_a.distinct;
      })

  abbrev after : Environment
  after = with_names names_behind named

  no_constant : (z : Text) → lookup z names_behind ≡ None → lookup z scope_behind.constants ≡ None
  no_constant z h = go (lookup z named.names) refl (sym (lookup-append z named.names (value_entries t 0 xs)) ∙ h)
    where
      go : (o : Option Entity) → lookup z named.names ≡ o → option_or o (lookup z (value_entries t 0 xs)) ≡ None → lookup z scope_behind.constants ≡ None
      go None is h =
          lookup_later z (value_constants b 0 xs) g.constants (value_constants_none b 0 xs z (entries_none t 0 xs z h))
          ∙ (stage_a.seen z is).0
      go (Some e) is h = absurd (cc)

  no_type : (z : Text) → lookup z names_behind ≡ None → lookup z scope_behind.types ≡ None
  no_type z h = go (lookup z named.names) refl (sym (lookup-append z named.names (value_entries t 0 xs)) ∙ h)
    where
      go : (o : Option Entity) → lookup z named.names ≡ o → option_or o (lookup z (value_entries t 0 xs)) ≡ None → lookup z scope_behind.types ≡ None
      go None is h = (stage_a.seen z is).1
      go (Some e) is h = absurd (cc)

  stage_behind : SchedulingState after scope_behind more ys
  stage_behind = record {
    globals = named_behind.globals;
    tables = tables_same (Later scope_behind) named after more refl refl refl refl refl (tables_fewer (Later scope_a) (Later scope_behind) sub named more stage_a.tables);
    is_outer = named_behind.is_outer;
    distinct = named_behind.distinct;
    region = stage_a.region;
    processes = stage_a.processes;
    monitors = stage_a.monitors;
    types = λ k l. stage_a.types k (sub k l);
    clock = lookup_first (codes "realtime") named.names (value_entries t 0 xs) (entity.Standard standard.Realtime) stage_a.clock;
    seen = λ z h. (no_constant z h, no_type z h);
    systems = stage_a.systems;
    earlier = stage_a.earlier;
  }

  after_is : (define_enumeration env x xs).env ≡ after
  after_is = ap (λ e. (declare_each e (values t 0 xs)).env) (declare_new own x (entity.Type t) none)
      ∙ each_declared (values t 0 xs) named (subst (NewNames (keys named.names)) (sym (value_keys t 0 xs)) new_named)

  pub enumeration_defined : Defined env g rs ys (a.EnumDef x.name (map erase.name xs) ∷ []) (define_enumeration env x xs).env
  enumeration_defined = subst (Defined env g rs ys (a.EnumDef x.name (map erase.name xs) ∷ [])) (sym after_is) (record {
    more = more;
    later = later_on g scope_a scope_behind later_a later_b;
    stage = subst (SchedulingState after scope_behind more) (sym (no_systems ys)) stage_behind;
    typed = λ i w h. absurd (cc);
    in_order = λ k l. tt;
    added = record {
      names = λ z f h. lookup_first z named.names (value_entries t 0 xs) f (lookup_first z env.names ((x.name, entity.Type t) ∷ []) f h);
      types = grows_own.types;
    };
    ascend = (
      record {
        represents = entity.Type t;
        is = lookup_first x.name named.names (value_entries t 0 xs) (entity.Type t) (last_found env.names x.name (entity.Type t) none);
        other = (full_range b, type_there, refl);
      },
      omega (arith, length-append rs (full_range b ∷ [])),
    );
  })
