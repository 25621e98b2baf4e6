-- Declared variables: what they add to the environment of the rules, and what the meaning says
-- about them.
use Rattle.std.proofs.Common.{◌≡◌, ◌≤◌, ◌+◌, ◌*◌, ℕ, Bool, true, false, ◌||◌, not, List, [], ◌∷◌, ◌++◌, Option, Some, None, if◌then◌else◌, slice_get, length, map, refl, ap, ap₂, sym, subst, ◌∙◌, arith, append_assoc, append-nil}
use Rattle.cp_model.specs.Syntax as s
use Rattle.cp_model.specs.Abstract as a
use Rattle.cp_model.specs.Erase as erase
use Rattle.cp_model.specs.declared.tree.Identifier.{Identifier}
use Rattle.cp_model.specs.declared.tree.Sort.{Sort}
use Rattle.cp_model.specs.declared.tree.Sort.TheVariants as sort
use Rattle.cp_model.specs.declared.rules.Entity.{Entity}
use Rattle.cp_model.specs.declared.rules.Entity.TheVariants as entity
use Rattle.cp_model.specs.declared.rules.Structure.{Structure}
use Rattle.cp_model.specs.declared.rules.Structure.TheVariants as structure
use Rattle.cp_model.specs.declared.rules.Position.{Position}
use Rattle.cp_model.specs.declared.rules.Position.TheVariants as position
use Rattle.cp_model.specs.RulesJudged.{Judged, Sound, violations_of}
use Rattle.cp_model.specs.RulesEnvironment.{Environment, Names, Text, entity_of, row_of, system_row, with_names}
use Rattle.cp_model.specs.RulesTypes.{Made, allows_queues, allows_structure, c6_c8_placed, type_at, type_of, word_limit, judge_in_position}
use Rattle.cp_model.specs.RulesDeclarations.{Declared, Variables, declare_all, is_owner, own_variable, owners, unfinished_variable, variable_group, variables, words_in, words_of}
use Rattle.cp_model.specs.Types.{ArrayOf, ComponentOf, GlobalScope, Members, Queue, RecordOf, ResolvedType, Simple, resolved_type}
use Rattle.cp_model.specs.Declarations.{Variable, declarations, declared_group}
use Rattle.cp_model.specs.States.{count_components}
use Rattle.cp_model.specs.Names.{lookup}
use Rattle.std.specs.Option.{option_or}
use Rattle.cp_model.specs.declared.rules.Access.{Access}
use Rattle.cp_law_typing.specs.Words.{component_words, rights_in, words, words_of_members, words_of_variables}
use Rattle.cp_law_typing.proofs.Bounds.{times_bound}
use Rattle.cp_law_typing.proofs.Owners.{CountedIn, CountsMore, OwnersFitIn, group_fits, owners_append, owners_none, counted_append, counted_none, group_counted, named_group}
use Rattle.cp_law_typing.proofs.Names.{NewNames, keys, keys-append, lookup-append, new_append}
use Rattle.cp_model.proofs.Judging.{first_empty, rest_empty, sound_has}
use Rattle.cp_law_typing.proofs.TypesMade.{placed_allows, placed_sound, type_made, placed_inner}
use Rattle.cp_law_typing.proofs.TypeRows.{TypeMade, with_tables}
use Rattle.cp_law_typing.proofs.TableMeanings.{Declares, Grows, NamesAs, RowAs, StructureAs, Tables, TypeAt, Types, grows_on, grows_same, names_kept}
use Rattle.cp_law_typing.proofs.LayerNames.{VariablesAs, variable_found, variables_append}
use Rattle.cp_law_typing.proofs.Visible.{some_same}
use Rattle.cp_law_typing.proofs.MonitorPlaces.{written_types}
use Rattle.cp_law_typing.proofs.NamedTypes.{AllNamed, EntryNamed, found_before, group_named, named_append, named_kept, only_names, type_found, types_append}
use Rattle.cp_law_typing.proofs.DeclaredNames.{entries, keys-entries, all_new, all_declared, names_added, tables_same, grows_between, with_counts, all_counted, AllowsSort, PlacedAs, AllPlaced, text_of}

module _ (G : GlobalScope → Type 0) where
  placed_structure : (env : Environment) (rs : Types) (p : Position) (st : Structure) (r : ResolvedType) → StructureAs G env rs st r → allows_structure env p st ≡ true
      → (y : a.System) (inner : Members) → r ≡ ComponentOf y inner → AllowsSort p y.sort
  placed_structure env rs p (structure.System n) (ComponentOf z k) h e y inner is =
      ((system_row env n).sort, h.sort ∙ ap sort_in is, e)
    where
      sort_in : ResolvedType → a.Sort
      sort_in (ComponentOf w j) = w.sort
      sort_in _ = a.Process
  placed_structure env rs p (structure.Simple base low high) (Simple b lo hi start) h e y inner is = absurd (cc)
  placed_structure env rs p (structure.Array i k) (ArrayOf lo hi r) h e y inner is = absurd (cc)
  placed_structure env rs p (structure.Record k) (RecordOf ps) h e y inner is = absurd (cc)
  placed_structure env rs p structure.Queue Queue h e y inner is = absurd (cc)
  placed_structure env rs p (structure.System n) _ h e y inner is = absurd h
  placed_structure env rs p (structure.Simple base low high) _ h e y inner is = absurd h
  placed_structure env rs p (structure.Array i k) _ h e y inner is = absurd h
  placed_structure env rs p (structure.Record k) _ h e y inner is = absurd h
  placed_structure env rs p structure.Queue _ h e y inner is = absurd h

  -- ---- variables

  -- what variables leave unchanged
  abbrev pub with_variables : Environment → Environment → Environment
  with_variables env after =
      record env { names = after.names; types = after.types; members = after.members; processes = after.processes; monitors = after.monitors }

  pub record VariablesMade (env : Environment) (rs : Types) (p : Position) (gs : List s.Variables) (after : Environment) (total : ℕ) : Type 0 where
    pub more : Types
    pub grows : Grows env after rs more
    pub tables : Tables G after more
    pub components : (t : ℕ) (y : a.System) (inner : Members) → TypeAt more t (ComponentOf y inner) → TypeAt rs t (ComponentOf y inner)
    pub longer : length env.types ≤ length after.types
    pub entries_of : Names
    pub names_are : after.names ≡ env.names ++ entries_of
    pub new : NewNames (keys env.names) (keys entries_of)
    pub globals : NamesAs G more after.names
    pub declared : List (Text × Variable)
    pub declares : Declares G (map erase.variable_group gs) declared
    pub meets : VariablesAs false more entries_of declared
    pub placed : AllPlaced p declared
    -- the row of a component's type is that of the name by which the type is written
    pub named : (g : GlobalScope) → G g → AllNamed env.names more entries_of (written_types (map erase.variable_group gs))
    pub words : (g : GlobalScope) → G g → total ≤ word_limit → words_of_variables g declared ≤ total
    pub counted : CountedIn p env after declared
    pub owners_fit : OwnersFitIn p G declared
    pub same : after ≡ with_variables env after

  group_as : (rs : Types) (t : ℕ) (r : ResolvedType) (xs : List Identifier) → TypeAt rs t r → VariablesAs false rs (entries (own_variable t) xs) (declared_group false r (map erase.name xs) [])
  group_as rs t r [] there = tt
  group_as rs t r (x ∷ xs) there = (refl, (there, (refl, refl)), group_as rs t r xs there)

  group_placed : (p : Position) (r : ResolvedType) (xs : List Identifier) → PlacedAs p r → AllPlaced p (declared_group false r (map erase.name xs) [])
  group_placed p r [] h = tt
  group_placed p r (x ∷ xs) h = (h, group_placed p r xs h)

  pub placed_append : (p : Position) (ds es : List (Text × Variable)) → AllPlaced p ds → AllPlaced p es → AllPlaced p (ds ++ es)
  placed_append p [] es h g = g
  placed_append p (d ∷ ds) es h g = (h.0, placed_append p ds es h.1 g)

  pub group_append : (b : Bool) (r : ResolvedType) (xs : List Text) (rest : List (Text × Variable)) → declared_group b r xs rest ≡ declared_group b r xs [] ++ rest
  group_append b r [] rest = refl
  group_append b r (x ∷ xs) rest = ap (λ l. (x, record { by_reference = b; type = r }) ∷ l) (group_append b r xs rest)

  pub entries_kept : (q : Bool) (env after : Environment) (rs more : Types) → Grows env after rs more → (vs : Names) (ds : List (Text × Variable))
      → VariablesAs q rs vs ds → VariablesAs q more vs ds
  entries_kept q env after rs more grows [] [] h = tt
  entries_kept q env after rs more grows ((x, entity.Variable t acc) ∷ vs) (d ∷ ds) h =
      (h.0, (grows.types t d.1.type h.1.0, h.1.1), entries_kept q env after rs more grows vs ds h.2)
  entries_kept q env after rs more grows [] (d ∷ ds) h = absurd h
  entries_kept q env after rs more grows (x ∷ vs) [] h = absurd h
  entries_kept q env after rs more grows ((x, e) ∷ vs) (d ∷ ds) h = absurd h.1

  -- the words that a variable takes from its owner
  pub placed_words : (env : Environment) (rs : Types) (t : ℕ) (r : ResolvedType) (g : GlobalScope) → G g → RowAs G env rs (row_of env t) r
      → words_of env (Sound t) ≤ word_limit → words g r ≤ words_of env (Sound t)
  placed_words env rs t r g in_scope row = go (row_of env t).structure r row.structure (row.words g in_scope)
    where
      owner : (z : Sort) (v : ℕ) (n : ℕ) → (v ≤ word_limit → component_words (erase.sort_of z) n ≤ v) → (if is_owner z then 0 else v) ≤ word_limit
          → component_words (erase.sort_of z) n ≤ (if is_owner z then 0 else v)
      owner sort.Process v n h k = omega arith
      owner sort.Monitor v n h k = omega arith
      owner sort.Class v n h k = h k

      go : (st : Structure) (q : ResolvedType) → StructureAs G env rs st q → ((row_of env t).words ≤ word_limit → words g q ≤ (row_of env t).words)
          → words_in env (row_of env t).words st ≤ word_limit → words g q ≤ words_in env (row_of env t).words st
      go (structure.System n) (ComponentOf y inner) h w k =
          let total : ℕ = 1 + rights_in g y + words_of_members g inner in
          subst (λ z. component_words z total ≤ words_in env (row_of env t).words (structure.System n)) h.sort
          (owner (system_row env n).sort (row_of env t).words total (subst (λ z. (row_of env t).words ≤ word_limit → component_words z total ≤ (row_of env t).words) (sym h.sort) w) k)
      go (structure.Simple base low high) q h w k = w k
      go (structure.Array i e) q h w k = w k
      go (structure.Record n) q h w k = w k
      go structure.Queue q h w k = w k
      go (structure.System n) _ h w k = absurd h

  pub group_words : (g : GlobalScope) (r : ResolvedType) (xs : List Identifier) (n : ℕ) → (n ≤ word_limit → words g r ≤ n) → length xs * n ≤ word_limit
      → words_of_variables g (named_group r xs) ≤ length xs * n
  group_words g r xs n h k = subst (λ m. m ≤ length xs * n) (sym (all xs)) (times_bound (length xs) (words g r) n h k)
    where
      all : (xs : List Identifier) → words_of_variables g (named_group r xs) ≡ length xs * words g r
      all [] = grind arith
      all (x ∷ xs) = ap (λ m. words g r + m) (all xs) ∙ grind arith

  pub words-append : (g : GlobalScope) (ds es : List (Text × Variable)) → words_of_variables g (ds ++ es) ≡ words_of_variables g ds + words_of_variables g es
  words-append g [] es = omega arith
  words-append g (d ∷ ds) es = ap (λ n. words g d.1.type + n) (words-append g ds es) ∙ omega arith

  -- if the counts were the same before
  counted_from : (p : Position) (env before after : Environment) (ds : List (Text × Variable)) → env.processes ≡ before.processes → env.monitors ≡ before.monitors
      → CountedIn p env after ds → CountedIn p before after ds
  counted_from position.InitialVariable env before after ds e f c = λ h k.
      let m : CountsMore env after (count_components a.Process ds) (count_components a.Monitor ds) = c (omega (arith, e, h)) (omega (arith, f, k)) in
      record { processes = omega (arith, e, m.processes); monitors = omega (arith, f, m.monitors); processes_fit = m.processes_fit; monitors_fit = m.monitors_fit }
  counted_from position.Definition env before after ds e f c = (c.0 ∙ e, c.1 ∙ f)
  counted_from position.Element env before after ds e f c = (c.0 ∙ e, c.1 ∙ f)
  counted_from position.Field env before after ds e f c = (c.0 ∙ e, c.1 ∙ f)
  counted_from position.MonitorVariable env before after ds e f c = (c.0 ∙ e, c.1 ∙ f)
  counted_from position.ComponentVariable env before after ds e f c = (c.0 ∙ e, c.1 ∙ f)
  counted_from position.RoutineVariable env before after ds e f c = (c.0 ∙ e, c.1 ∙ f)

  -- the written type of a group's variables, in scopes of which something is known
  group_entry : (env before : Environment) (rs : Types) (te : s.TypeExpression) (n t : ℕ) → (type_of before te).of ≡ Sound n → n ≡ t
      → (m : TypeMade G before rs (type_of before te).env n (erase.type_expression te))
      → ((x : Text) (u : ℕ) → lookup x before.names ≡ Some (entity.Type u) → lookup x env.names ≡ Some (entity.Type u))
      → (g : GlobalScope) → G g → EntryNamed env.names m.made.more (own_variable t) (erase.type_expression te)
  group_entry env before rs te n t h same m back g in_scope = λ y inner there.
      let is : m.type ≡ ComponentOf y inner = some_same (slice_get m.made.more t) m.type (ComponentOf y inner) (subst (λ k. TypeAt m.made.more k m.type) same m.there) there in
      let x : (x : Identifier) × (te ≡ s.Named x) = only_names G before rs g in_scope te n h m y inner is in (
        x.0.name,
        ap erase.type_expression x.1,
        back x.0.name t (type_found x.0 (lookup x.0.name before.names) t (ap (λ z. (type_of before z).of) (sym x.1) ∙ h ∙ ap (λ k. Sound k) same)),
      )

  group_made : (env : Environment) (rs : Types) (p : Position) (g : s.Variables) → NamesAs G rs env.names → Tables G env rs → (variable_group env p g).violations ≡ []
      → VariablesMade env rs p (g ∷ []) (variable_group env p g).env (variable_group env p g).words
  group_made env rs p g names tables h =
      let defined : Declared = declare_all env unfinished_variable g.names in
      let m : Made (Judged ℕ) = type_of defined.env g.of in
      let judged : Judged ℕ = judge_in_position m.env p g.of m.of in
      let base : Environment = record m.env { names = env.names } in
      let e : Entity = entity_of own_variable judged in
      let visible : Declared = declare_all base e g.names in
      let counted : Declared = owners visible.env p judged g.names in
      let two : defined.violations ++ violations_of judged ≡ [] = first_empty _ counted.violations h in
      let new : NewNames (keys env.names) (map text_of g.names) = all_new env unfinished_variable g.names (first_empty defined.violations _ two) in
      let is : (u : ℕ) × (judged ≡ Sound u) = sound_has judged (rest_empty defined.violations _ two) in
      let inner : (t : ℕ) × (m.of ≡ Sound t) × (c6_c8_placed m.env p (type_at g.of) t ≡ Sound is.0) = placed_inner G m.env p g.of m.of is.0 is.1 in
      let same_type : inner.0 ≡ is.0 = placed_sound G m.env p (type_at g.of) inner.0 is.0 inner.2 in
      let inside : defined.env ≡ with_names (env.names ++ entries unfinished_variable g.names) env = all_declared env unfinished_variable g.names new in
      let names_inside : NamesAs G rs defined.env.names =
      subst (λ z. NamesAs G rs z.names) (sym inside) (names_added G rs env.names unfinished_variable g.names names (λ x. tt)) in
      let tables_inside : Tables G defined.env rs = subst (λ z. Tables G z rs) (sym inside) (tables_same G env (with_names (env.names ++ entries unfinished_variable g.names) env) rs refl refl refl refl refl tables) in
      let one : TypeMade G defined.env rs m.env inner.0 (erase.type_expression g.of) = type_made G g.of defined.env rs inner.0 names_inside tables_inside inner.1 in
      let is_entity : e ≡ own_variable is.0 = ap (entity_of own_variable) is.1 in
      let more_names : Names = env.names ++ entries (own_variable is.0) g.names in
      let visible_is : visible.env ≡ with_names more_names base =
      all_declared base e g.names new ∙ ap (λ k. with_names (env.names ++ entries k g.names) base) is_entity in
      let final : Environment = record base { names = more_names; processes = counted.env.processes; monitors = counted.env.monitors } in
      let final_is : counted.env ≡ final = all_counted visible.env p judged g.names ∙ ap (λ z. with_counts z counted.env) visible_is in
      let tables_visible : Tables G visible.env one.made.more =
      subst (λ z. Tables G z one.made.more) (sym visible_is) (tables_same G m.env (with_names more_names base) one.made.more refl refl refl refl refl one.made.tables) in
      let owners_sound : (owners visible.env p (Sound is.0) g.names).violations ≡ [] =
      subst (λ j. (owners visible.env p j g.names).violations ≡ []) is.1 (rest_empty (defined.violations ++ violations_of judged) counted.violations h) in
      let there : TypeAt one.made.more is.0 one.type = subst (λ k. TypeAt one.made.more k one.type) same_type one.there in
      let row : RowAs G m.env one.made.more (row_of m.env inner.0) one.type = one.made.tables.rows inner.0 one.type one.there in
      let allows : (allows_structure m.env p (row_of m.env inner.0).structure ≡ true) × ((allows_queues p || not (row_of m.env inner.0).has_queues) ≡ true) =
      placed_allows G m.env p (type_at g.of) inner.0 is.0 inner.2 in
      let grows : Grows env final rs one.made.more =
      grows_between env defined.env m.env final rs one.made.more one.made.longer one.made.grows
      (sym (ap (λ z. z.types) inside)) (sym (ap (λ z. z.members) inside)) (sym (ap (λ z. z.routines) inside)) (sym (ap (λ z. z.systems) inside)) (sym (ap (λ z. z.parameters) inside)) refl refl refl refl refl in
      subst (λ z. VariablesMade env rs p (g ∷ []) z (length g.names * words_of m.env judged)) (sym final_is) (record {
        more = one.made.more;
        grows = grows;
        tables = tables_same G m.env final one.made.more refl refl refl refl refl one.made.tables;
        components = one.made.components;
        longer = omega (arith, one.made.longer, ap (λ z. length z.types) inside);
        entries_of = entries (own_variable is.0) g.names;
        names_are = refl;
        new = subst (NewNames (keys env.names)) (sym (keys-entries (own_variable is.0) g.names)) new;
        globals = names_added G one.made.more env.names (own_variable is.0) g.names (names_kept G env final rs one.made.more grows env.names names) (λ x. tt);
        declared = declared_group false one.type (map erase.name g.names) [];
        declares = λ z k. ap (λ r. declared_group false r (map erase.name g.names) []) (one.resolves z k);
        meets = group_as one.made.more is.0 one.type g.names there;
        placed = group_placed p one.type g.names
            (placed_structure m.env one.made.more p (row_of m.env inner.0).structure one.type row.structure allows.0, ap (λ q. allows_queues p || not q) (sym row.queues) ∙ allows.1);
        named = λ z k. group_named env.names one.made.more is.0 (erase.type_expression g.of)
            (group_entry env defined.env rs g.of inner.0 is.0 inner.1 same_type one
            (λ x u f. found_before env.names unfinished_variable g.names no_type x u (sym (ap (λ w. lookup x w.names) inside) ∙ f)) z k) g.names;
        words = λ z k l. group_words z one.type g.names (words_of m.env judged)
            (subst (λ j. words_of m.env j ≤ word_limit → words z one.type ≤ words_of m.env j) (sym is.1)
            (placed_words m.env one.made.more is.0 one.type z k (one.made.tables.rows is.0 one.type there))) l;
        counted = subst (λ z. CountedIn p env z (named_group one.type g.names)) final_is
            (counted_from p visible.env env counted.env (named_group one.type g.names)
            (ap (λ z. z.processes) visible_is ∙ ap (λ z. z.processes) one.made.same ∙ ap (λ z. z.processes) inside)
            (ap (λ z. z.monitors) visible_is ∙ ap (λ z. z.monitors) one.made.same ∙ ap (λ z. z.monitors) inside)
            (subst (λ j. CountedIn p visible.env (owners visible.env p j g.names).env (named_group one.type g.names)) (sym is.1)
            (group_counted G visible.env one.made.more p is.0 one.type g.names (tables_visible.rows is.0 one.type there).structure owners_sound)));
        owners_fit = group_fits G visible.env one.made.more p is.0 one.type g.names (tables_visible.rows is.0 one.type there).structure owners_sound;
        same = ap (λ (z : Environment). record z { names = more_names; processes = counted.env.processes; monitors = counted.env.monitors })
            (one.made.same ∙ ap (λ z. with_tables z m.env) inside);
      })
    where
      no_type : (t : ℕ) → unfinished_variable ≡ entity.Type t → ⊥
      no_type t h = absurd (cc)

  pub variables_none : (env : Environment) (rs : Types) (p : Position) → NamesAs G rs env.names → Tables G env rs → VariablesMade env rs p [] env 0
  variables_none env rs p names tables = record {
    more = rs;
    grows = grows_same env env rs refl refl refl refl refl;
    tables = tables;
    components = λ t y inner h. h;
    longer = omega arith;
    entries_of = [];
    names_are = sym (append-nil env.names);
    new = tt;
    globals = names;
    declared = [];
    declares = λ z k. refl;
    meets = tt;
    placed = tt;
    named = λ g k. tt;
    words = λ g k h. omega arith;
    counted = counted_none p env;
    owners_fit = owners_none p G;
    same = refl;
  }

  -- a type that is found behind variables was found before them
  not_variable : (rs : Types) (names vs : Names) (ds : List (Text × Variable)) → VariablesAs false rs vs ds → (n : Text) (t : ℕ)
      → lookup n (names ++ vs) ≡ Some (entity.Type t) → lookup n names ≡ Some (entity.Type t)
  not_variable rs names vs ds meets n t h = go (lookup n names) (sym (lookup-append n names vs) ∙ h)
    where
      go : (o : Option Entity) → option_or o (lookup n vs) ≡ Some (entity.Type t) → o ≡ Some (entity.Type t)
      go (Some e) k = k
      go None k = absurd (variable_no_type (variable_found false rs n (entity.Type t) vs ds meets k).is)
        where
          variable_no_type : {u : ℕ} {acc : Access} → entity.Type t ≡ entity.Variable u acc → ⊥
          variable_no_type e = absurd (cc)

  declares_on : (g : s.Variables) (gs : List s.Variables) (ds es : List (Text × Variable)) → Declares G (map erase.variable_group (g ∷ [])) ds → Declares G (map erase.variable_group gs) es
      → Declares G (map erase.variable_group (g ∷ gs)) (ds ++ es)
  declares_on g gs ds es h k z in_scope =
      group_append false (resolved_type z (erase.type_expression g.of)) (map erase.name g.names) (declarations z (map erase.variable_group gs))
      ∙ ap₂ (λ x y. x ++ y) (h z in_scope) (k z in_scope)

  pub variables_made : (gs : List s.Variables) (env : Environment) (rs : Types) (p : Position) → NamesAs G rs env.names → Tables G env rs → (variables env p gs).violations ≡ []
      → VariablesMade env rs p gs (variables env p gs).env (variables env p gs).words
  variables_made [] env rs p names tables h = variables_none env rs p names tables
  variables_made (g ∷ gs) env rs p names tables h =
      let one : Variables = variable_group env p g in
      let rest : Variables = variables one.env p gs in
      let first : VariablesMade env rs p (g ∷ []) one.env one.words = group_made env rs p g names tables (first_empty one.violations _ h) in
      let more : VariablesMade one.env first.more p gs rest.env rest.words = variables_made gs one.env first.more p first.globals first.tables (rest_empty one.violations _ h) in
      let keys_are : keys one.env.names ≡ keys env.names ++ keys first.entries_of = ap keys first.names_are ∙ keys-append env.names first.entries_of in
      record {
        more = more.more;
        grows = grows_on env one.env rest.env rs first.more more.more first.longer first.grows more.grows;
        tables = more.tables;
        components = λ t y inner h. first.components t y inner (more.components t y inner h);
        longer = omega (arith, first.longer, more.longer);
        entries_of = first.entries_of ++ more.entries_of;
        names_are = more.names_are ∙ ap (λ l. l ++ more.entries_of) first.names_are ∙ append_assoc env.names first.entries_of more.entries_of;
        new = subst (NewNames (keys env.names)) (sym (keys-append first.entries_of more.entries_of))
            (new_append (keys env.names) (keys first.entries_of) (keys more.entries_of) first.new (subst (λ l. NewNames l (keys more.entries_of)) keys_are more.new));
        globals = more.globals;
        declared = first.declared ++ more.declared;
        declares = declares_on g gs first.declared more.declared first.declares more.declares;
        meets = variables_append false more.more first.entries_of more.entries_of first.declared more.declared
            (entries_kept false one.env rest.env first.more more.more more.grows first.entries_of first.declared first.meets) more.meets;
        placed = placed_append p first.declared more.declared first.placed more.placed;
        named = λ z k. subst (AllNamed env.names more.more (first.entries_of ++ more.entries_of)) (sym (types_append (erase.type_expression g.of) (map erase.name g.names) (written_types (map erase.variable_group gs))))
            (named_append env.names more.more first.entries_of more.entries_of (written_types (map erase.variable_group (g ∷ []))) (written_types (map erase.variable_group gs))
            (named_kept env.names env.names first.more more.more (λ n t f. f) more.components first.entries_of (written_types (map erase.variable_group (g ∷ []))) (first.named z k))
            (named_kept env.names one.env.names more.more more.more (λ n t f. not_variable first.more env.names first.entries_of first.declared first.meets n t (sym (ap (lookup n) first.names_are) ∙ f))
            (λ t y inner f. f) more.entries_of (written_types (map erase.variable_group gs)) (more.named z k)));
        words = λ z k l. omega (arith, words-append z first.declared more.declared, first.words z k (omega (arith, l)), more.words z k (omega (arith, l)));
        counted = counted_append p env one.env rest.env first.declared more.declared first.counted more.counted;
        owners_fit = owners_append p G first.declared more.declared first.owners_fit more.owners_fit;
        same = more.same ∙ ap (λ z. with_variables z rest.env) first.same;
      }
