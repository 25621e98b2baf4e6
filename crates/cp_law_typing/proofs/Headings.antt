-- Headings: what parameters add to the environment of the rules, and what the meaning says about
-- them.
use Rattle.std.proofs.Common.{◌≡◌, ◌≤◌, ◌+◌, ◌*◌, arith, ◌⊎◌, inl, inr, ℕ, Bool, true, false, ◌&&◌, not, List, [], ◌∷◌, ◌++◌, Option, Some, None, if◌then◌else◌, length, map, replicate, refl, ap, ap₂, sym, subst, ◌∙◌, append_assoc, append-nil, is_some}
use Rattle.std.proofs.lemmas.Bool.{true≢false}
use Rattle.cp_model.specs.Syntax as s
use Rattle.cp_model.specs.Abstract as a
use Rattle.cp_model.specs.Erase as erase
use Rattle.cp_model.specs.declared.tree.Identifier.{Identifier}
use Rattle.cp_model.specs.declared.tree.Sort.{Sort}
use Rattle.cp_model.specs.declared.rules.Rule.TheVariants.{C7, C8}
use Rattle.cp_model.specs.declared.rules.Entity.{Entity}
use Rattle.cp_model.specs.declared.rules.Entity.TheVariants as entity
use Rattle.cp_model.specs.declared.rules.Structure.{Structure}
use Rattle.cp_model.specs.declared.rules.Structure.TheVariants as structure
use Rattle.cp_model.specs.declared.rules.ParameterRow.{ParameterRow}
use Rattle.cp_model.specs.RulesJudged.{Judged, Sound, Violations, breaks, meaning_of, guard, then_judge, violations_of}
use Rattle.cp_model.specs.RulesEnvironment.{Environment, Names, Text, entity_of, row_of, system_row, with_names}
use Rattle.cp_model.specs.RulesTypes.{named_type, word_limit}
use Rattle.cp_model.specs.RulesDeclarations.{Declared, Heading, allows_component, allows_parameter, c7_c11_var, c7_c8_parameter, declare_all, heading, parameter_entity, parameter_group, parameter_words, unfinished_variable, var_rule}
use Rattle.cp_model.specs.Types.{ArrayOf, ComponentOf, GlobalScope, Members, Queue, RecordOf, ResolvedType, Simple, or_no_type, resolved_type}
use Rattle.cp_model.specs.Declarations.{Variable, declarations, declared_group, is_component}
use Rattle.cp_law_typing.specs.Judgement.{IsSimple, has_queues}
use Rattle.cp_law_typing.specs.Words.{words}
use Rattle.cp_law_typing.specs.Needs as needs
use Rattle.cp_law_typing.proofs.Bounds.{times_bound}
use Rattle.cp_law_typing.proofs.Names.{NewNames, keys, keys-append, new_append}
use Rattle.cp_model.proofs.Judging.{first_empty, provided_sound, rest_empty, sound_has, then_sound}
use Rattle.cp_law_typing.proofs.TableMeanings.{Declares, NamesAs, ParametersAs, RowAs, StructureAs, Tables, TypeAs, TypeAt, Types}
use Rattle.cp_law_typing.proofs.LayerNames.{VariablesAs, variables_append}
use Rattle.cp_law_typing.proofs.DeclaredVariables.{group_append, placed_words}
use Rattle.cp_law_typing.proofs.DeclaredNames.{all_declared, all_new, entries, keys-entries, names_added, tables_same, names_of, names_of-append, text_of}
use Rattle.cp_law_typing.proofs.TypeRows.{type_named}

-- what a parameter may be
abbrev pub ParameterAs : Option Sort → ResolvedType → Type 0
ParameterAs None r = (is_component r ≡ false) × (has_queues r ≡ false)
ParameterAs (Some z) r =
    (IsSimple r ⊎ ((y : a.System) × (inner : Members) × (r ≡ ComponentOf y inner) × (w : Sort) × (erase.sort_of w ≡ y.sort) × (allows_component z w ≡ true)))
    × (has_queues r ≡ false)

abbrev pub AllParameters : Option Sort → List (Text × Variable) → Type 0
AllParameters of [] = Unit {0}
AllParameters of (d ∷ ds) = ParameterAs of d.1.type × AllParameters of ds

pub all_parameters_append : (of : Option Sort) (ds es : List (Text × Variable)) → AllParameters of ds → AllParameters of es → AllParameters of (ds ++ es)
all_parameters_append of [] es h g = g
all_parameters_append of (d ∷ ds) es h g = (h.0, all_parameters_append of ds es h.1 g)

-- parameters of system types and of functions have no `var`
abbrev pub WrittenAs : Option Sort → Bool → Bool → Type 0
WrittenAs (Some z) is_function b = b ≡ false
WrittenAs None is_function b = is_function ≡ true → b ≡ false

abbrev pub AllWritten : Option Sort → Bool → List (Text × Variable) → Type 0
AllWritten of is_function [] = Unit {0}
AllWritten of is_function (d ∷ ds) = WrittenAs of is_function d.1.by_reference × AllWritten of is_function ds

all_written_append : (of : Option Sort) (f : Bool) (ds es : List (Text × Variable)) → AllWritten of f ds → AllWritten of f es → AllWritten of f (ds ++ es)
all_written_append of f [] es h g = g
all_written_append of f (d ∷ ds) es h g = (h.0, all_written_append of f ds es h.1 g)

module _ (G : GlobalScope → Type 0) where
  pub record HeadingMade (env : Environment) (rs : Types) (of : Option Sort) (is_function : Bool) (gs : List s.Parameters) (head : Heading) : Type 0 where
    pub declared : List (Text × Variable)
    pub declares : Declares G (map erase.parameter_group gs) declared
    pub meets : VariablesAs true rs (names_of head.bound) declared
    pub rows : ParametersAs rs head.rows declared
    pub new : NewNames (keys env.names) (keys (names_of head.bound))
    pub parameters : AllParameters of declared
    pub written : AllWritten of is_function declared
    pub words : (g : GlobalScope) → G g → head.words ≤ word_limit → needs.parameter_words g declared ≤ head.words
    -- the names are hidden after their group
    pub hidden : Names
    pub env_is : head.env ≡ with_names (env.names ++ hidden) env
    pub hidden_keys : keys hidden ≡ keys (names_of head.bound)
    pub globals : NamesAs G rs head.env.names

  -- ---- one group

  by_reference_is : (of : Option Sort) (f : Bool) (o : Option ℕ) → c7_c11_var (var_rule of f) o ≡ []
      → ((is_some o && not (is_some of)) ≡ is_some o) × WrittenAs of f (is_some o)
  by_reference_is (Some z) f None h = (refl, refl)
  by_reference_is (Some z) f (Some at) h = absurd (cc)
  by_reference_is None true None h = (refl, λ e. refl)
  by_reference_is None true (Some at) h = absurd (cc)
  by_reference_is None false None h = (refl, λ e. refl)
  by_reference_is None false (Some at) h = (refl, λ e. absurd (true≢false (sym e)))

  group_names : (rs : Types) (t : ℕ) (b : Bool) (r : ResolvedType) (xs : List Identifier) → TypeAt rs t r
      → VariablesAs true rs (names_of (map (λ x. (x, parameter_entity b t)) xs)) (declared_group b r (map erase.name xs) [])
  group_names rs t b r [] there = tt
  group_names rs t b r (x ∷ xs) there = (refl, (there, refl), group_names rs t b r xs there)

  group_rows : (rs : Types) (t : ℕ) (b : Bool) (r : ResolvedType) (xs : List Identifier) → TypeAt rs t r
      → ParametersAs rs (replicate (length xs) (record { by_reference = b; of = Some t })) (declared_group b r (map erase.name xs) [])
  group_rows rs t b r [] there = tt
  group_rows rs t b r (x ∷ xs) there = (refl, there, group_rows rs t b r xs there)

  group_parameters : (of : Option Sort) (b : Bool) (r : ResolvedType) (xs : List Identifier) → ParameterAs of r → AllParameters of (declared_group b r (map erase.name xs) [])
  group_parameters of b r [] h = tt
  group_parameters of b r (x ∷ xs) h = (h, group_parameters of b r xs h)

  group_written : (of : Option Sort) (f b : Bool) (r : ResolvedType) (xs : List Identifier) → WrittenAs of f b → AllWritten of f (declared_group b r (map erase.name xs) [])
  group_written of f b r [] h = tt
  group_written of f b r (x ∷ xs) h = (h, group_written of f b r xs h)

  group_keys : (e : Entity) (xs : List Identifier) → keys (names_of (map (λ x. (x, e)) xs)) ≡ map text_of xs
  group_keys e [] = refl
  group_keys e (x ∷ xs) = ap (λ l. x.name ∷ l) (group_keys e xs)

  allowed_as : (env : Environment) (rs : Types) (of : Option Sort) (st : Structure) (r : ResolvedType) → StructureAs G env rs st r → allows_parameter env of st ≡ true
      → has_queues r ≡ false → ParameterAs of r
  allowed_as env rs (Some z) (structure.Simple base low high) (Simple b lo hi start) h e f = (inl (b, record { low = lo; high = hi; start = start; is = refl }), f)
  allowed_as env rs (Some z) (structure.System n) (ComponentOf y inner) h e f = (inr (y, inner, refl, (system_row env n).sort, h.sort, e), f)
  allowed_as env rs (Some z) (structure.Array i k) r h e f = absurd (true≢false (sym e))
  allowed_as env rs (Some z) (structure.Record k) r h e f = absurd (true≢false (sym e))
  allowed_as env rs (Some z) structure.Queue r h e f = absurd (true≢false (sym e))
  allowed_as env rs None (structure.System n) r h e f = absurd (true≢false (sym e))
  allowed_as env rs None (structure.Simple base low high) (Simple b lo hi start) h e f = (refl, f)
  allowed_as env rs None (structure.Array i k) (ArrayOf lo hi r) h e f = (refl, f)
  allowed_as env rs None (structure.Record k) (RecordOf ps) h e f = (refl, f)
  allowed_as env rs None structure.Queue Queue h e f = absurd (true≢false f)
  allowed_as env rs (Some z) (structure.Simple base low high) _ h e f = absurd h
  allowed_as env rs (Some z) (structure.System n) _ h e f = absurd h
  allowed_as env rs None (structure.Simple base low high) _ h e f = absurd h
  allowed_as env rs None (structure.Array i k) _ h e f = absurd h
  allowed_as env rs None (structure.Record k) _ h e f = absurd h
  allowed_as env rs None structure.Queue _ h e f = absurd h

  parameter_sound : (env : Environment) (of : Option Sort) (at t u : ℕ) → c7_c8_parameter env of at t ≡ Sound u
      → (t ≡ u) × ((row_of env t).has_queues ≡ false) × (allows_parameter env of (row_of env t).structure ≡ true)
  parameter_sound env of at t u h = go (row_of env t).has_queues refl h
    where
      go : (b : Bool) → (row_of env t).has_queues ≡ b → (if b then breaks C8 at else guard (allows_parameter env of (row_of env t).structure) C7 at t) ≡ Sound u
          → (t ≡ u) × ((row_of env t).has_queues ≡ false) × (allows_parameter env of (row_of env t).structure ≡ true)
      go true is h = absurd (cc)
      go false is h =
          let k : (allows_parameter env of (row_of env t).structure ≡ true) × (t ≡ u) = provided_sound (allows_parameter env of (row_of env t).structure) C7 at t u h in
          (k.1, is, k.0)

  parameter_words-append : (g : GlobalScope) (ds es : List (Text × Variable)) → needs.parameter_words g (ds ++ es) ≡ needs.parameter_words g ds + needs.parameter_words g es
  parameter_words-append g [] es = omega arith
  parameter_words-append g (d ∷ ds) es = ap (λ n. (if d.1.by_reference then 1 else words g d.1.type) + n) (parameter_words-append g ds es) ∙ omega arith

  one_words : (b : Bool) (env : Environment) (rs : Types) (t : ℕ) (r : ResolvedType) (g : GlobalScope) → G g → RowAs G env rs (row_of env t) r
      → parameter_words env b (Sound t) ≤ word_limit → (if b then 1 else words g r) ≤ parameter_words env b (Sound t)
  one_words true env rs t r g i row h = omega arith
  one_words false env rs t r g i row h = placed_words G env rs t r g i row h

  group_words : (g : GlobalScope) (b : Bool) (r : ResolvedType) (xs : List Identifier) (n : ℕ) → (n ≤ word_limit → (if b then 1 else words g r) ≤ n) → length xs * n ≤ word_limit
      → needs.parameter_words g (declared_group b r (map erase.name xs) []) ≤ length xs * n
  group_words g b r xs n h k = subst (λ m. m ≤ length xs * n) (sym (all xs)) (times_bound (length xs) (if b then 1 else words g r) n h k)
    where
      all : (xs : List Identifier) → needs.parameter_words g (declared_group b r (map erase.name xs) []) ≡ length xs * (if b then 1 else words g r)
      all [] = grind arith
      all (x ∷ xs) = ap (λ m. (if b then 1 else words g r) + m) (all xs) ∙ grind arith

  group_made : (env : Environment) (rs : Types) (of : Option Sort) (f : Bool) (g : s.Parameters) → NamesAs G rs env.names → Tables G env rs
      → (parameter_group env of f g).violations ≡ [] → HeadingMade env rs of f (g ∷ []) (parameter_group env of f g)
  group_made env rs of f g names tables h =
      let defined : Declared = declare_all env unfinished_variable g.names in
      let judged : Judged ℕ = then_judge (named_type defined.env g.of) (c7_c8_parameter env of g.of.at) in
      let b : Bool = is_some g.by_reference && not (is_some of) in
      let var : Violations = c7_c11_var (var_rule of f) g.by_reference in
      let two : defined.violations ++ var ≡ [] = first_empty _ (violations_of judged) h in
      let new : NewNames (keys env.names) (map text_of g.names) = all_new env unfinished_variable g.names (first_empty defined.violations _ two) in
      let inside : defined.env ≡ with_names (env.names ++ entries unfinished_variable g.names) env = all_declared env unfinished_variable g.names new in
      let is : (u : ℕ) × (judged ≡ Sound u) = sound_has judged (rest_empty (defined.violations ++ var) _ h) in
      let inner : (t : ℕ) × (named_type defined.env g.of ≡ Sound t) × (c7_c8_parameter env of g.of.at t ≡ Sound is.0) = then_sound (named_type defined.env g.of) (c7_c8_parameter env of g.of.at) is.0 is.1 in
      let k : (inner.0 ≡ is.0) × ((row_of env inner.0).has_queues ≡ false) × (allows_parameter env of (row_of env inner.0).structure ≡ true) = parameter_sound env of g.of.at inner.0 is.0 inner.2 in
      let names_inside : NamesAs G rs defined.env.names =
      subst (λ z. NamesAs G rs z.names) (sym inside) (names_added G rs env.names unfinished_variable g.names names (λ x. tt)) in
      let type : TypeAs G rs g.of.name inner.0 = type_named G rs defined.env g.of inner.0 names_inside inner.1 in
      let there : TypeAt rs is.0 type.0 = subst (λ n. TypeAt rs n type.0) k.0 type.1 in
      let row : RowAs G env rs (row_of env inner.0) type.0 = tables.rows inner.0 type.0 type.1 in
      let w : (b ≡ is_some g.by_reference) × WrittenAs of f (is_some g.by_reference) = by_reference_is of f g.by_reference (rest_empty defined.violations _ two) in
      let bound_is : map (λ x. (x, entity_of (parameter_entity b) judged)) g.names ≡ map (λ x. (x, parameter_entity (is_some g.by_reference) is.0)) g.names =
      ap₂ (λ c j. map (λ (x : Identifier). (x, entity_of (parameter_entity c) j)) g.names) w.0 is.1 in
      let rows_are : replicate (length g.names) (record { by_reference = b; of = meaning_of judged }) ≡ replicate (length g.names) (record { by_reference = is_some g.by_reference; of = Some is.0 }) =
      ap₂ (λ c j. row_list (length g.names) c (meaning_of j)) w.0 is.1 in
      let there_row : RowAs G env rs (row_of env is.0) type.0 = tables.rows is.0 type.0 there in
      let words_are : parameter_words env b judged ≡ parameter_words env (is_some g.by_reference) (Sound is.0) = ap₂ (parameter_words env) w.0 is.1 in
      let hidden_is : (declare_all env entity.Hidden g.names).env ≡ with_names (env.names ++ entries entity.Hidden g.names) env = all_declared env entity.Hidden g.names new in
      record {
        declared = declared_group (is_some g.by_reference) type.0 (map erase.name g.names) [];
        declares = λ z i. ap (λ r. declared_group (is_some g.by_reference) r (map erase.name g.names) []) (ap or_no_type (type.2 z i));
        meets = subst (λ l. VariablesAs true rs (names_of l) (declared_group (is_some g.by_reference) type.0 (map erase.name g.names) [])) (sym bound_is)
            (group_names rs is.0 (is_some g.by_reference) type.0 g.names there);
        rows = subst (λ l. ParametersAs rs l (declared_group (is_some g.by_reference) type.0 (map erase.name g.names) [])) (sym rows_are)
            (group_rows rs is.0 (is_some g.by_reference) type.0 g.names there);
        new = subst (NewNames (keys env.names)) (sym (group_keys (entity_of (parameter_entity b) judged) g.names)) new;
        parameters = group_parameters of (is_some g.by_reference) type.0 g.names
            (allowed_as env rs of (row_of env inner.0).structure type.0 row.structure k.2 (sym row.queues ∙ k.1));
        written = group_written of f (is_some g.by_reference) type.0 g.names w.1;
        words = λ z i l. group_words z (is_some g.by_reference) type.0 g.names (parameter_words env b judged)
            (λ l. subst (λ n. (if is_some g.by_reference then 1 else words z type.0) ≤ n) (sym words_are)
            (one_words (is_some g.by_reference) env rs is.0 type.0 z i there_row (subst (λ n. n ≤ word_limit) words_are l))) l;
        hidden = entries entity.Hidden g.names;
        env_is = hidden_is;
        hidden_keys = keys-entries entity.Hidden g.names ∙ sym (group_keys (entity_of (parameter_entity b) judged) g.names);
        globals = subst (λ z. NamesAs G rs z.names) (sym hidden_is) (names_added G rs env.names entity.Hidden g.names names (λ x. tt));
      }
    where
      row_list : ℕ → Bool → Option ℕ → List ParameterRow
      row_list n c o = replicate n (record { by_reference = c; of = o })

  parameters_append : (rs : Types) (qs ps : List ParameterRow) (ds es : List (Text × Variable)) → ParametersAs rs qs ds → ParametersAs rs ps es → ParametersAs rs (qs ++ ps) (ds ++ es)
  parameters_append rs [] ps [] es h g = g
  parameters_append rs (q ∷ qs) ps (d ∷ ds) es h g = (h.0, h.1, parameters_append rs qs ps ds es h.2 g)
  parameters_append rs [] ps (d ∷ ds) es h g = absurd h
  parameters_append rs (q ∷ qs) ps [] es h g = absurd h

  declares_on : (g : s.Parameters) (gs : List s.Parameters) (ds es : List (Text × Variable)) → Declares G (map erase.parameter_group (g ∷ [])) ds
      → Declares G (map erase.parameter_group gs) es → Declares G (map erase.parameter_group (g ∷ gs)) (ds ++ es)
  declares_on g gs ds es h k z i =
      group_append G (is_some g.by_reference) (resolved_type z (a.TypeName g.of.name)) (map erase.name g.names) (declarations z (map erase.parameter_group gs))
      ∙ ap₂ (λ x y. x ++ y) (h z i) (k z i)

  pub heading_made : (gs : List s.Parameters) (env : Environment) (rs : Types) (of : Option Sort) (f : Bool) → NamesAs G rs env.names → Tables G env rs
      → (heading env of f gs).violations ≡ [] → HeadingMade env rs of f gs (heading env of f gs)
  heading_made [] env rs of f names tables h = record {
    declared = [];
    declares = λ z i. refl;
    meets = tt;
    rows = tt;
    new = tt;
    parameters = tt;
    written = tt;
    words = λ z i h. omega arith;
    hidden = [];
    env_is = ap (λ ns. with_names ns env) (sym (append-nil env.names));
    hidden_keys = refl;
    globals = names;
  }
  heading_made (g ∷ gs) env rs of f names tables h =
      let one : Heading = parameter_group env of f g in
      let first : HeadingMade env rs of f (g ∷ []) one = group_made env rs of f g names tables (first_empty one.violations _ h) in
      let tables_one : Tables G one.env rs =
      subst (λ z. Tables G z rs) (sym first.env_is) (tables_same G env (with_names (env.names ++ first.hidden) env) rs refl refl refl refl refl tables) in
      let rest : HeadingMade one.env rs of f gs (heading one.env of f gs) = heading_made gs one.env rs of f first.globals tables_one (rest_empty one.violations _ h) in
      let more : Heading = heading one.env of f gs in
      let names_one : one.env.names ≡ env.names ++ first.hidden = ap (λ z. z.names) first.env_is in
      let keys_one : keys one.env.names ≡ keys env.names ++ keys (names_of one.bound) =
      ap keys names_one ∙ keys-append env.names first.hidden ∙ ap (λ l. keys env.names ++ l) first.hidden_keys in
      record {
        declared = first.declared ++ rest.declared;
        declares = declares_on g gs first.declared rest.declared first.declares rest.declares;
        meets = subst (λ l. VariablesAs true rs l (first.declared ++ rest.declared)) (sym (names_of-append one.bound more.bound))
            (variables_append true rs (names_of one.bound) (names_of more.bound) first.declared rest.declared first.meets rest.meets);
        rows = parameters_append rs one.rows more.rows first.declared rest.declared first.rows rest.rows;
        new = subst (NewNames (keys env.names)) (sym (ap keys (names_of-append one.bound more.bound) ∙ keys-append (names_of one.bound) (names_of more.bound)))
            (new_append (keys env.names) (keys (names_of one.bound)) (keys (names_of more.bound)) first.new (subst (λ l. NewNames l (keys (names_of more.bound))) keys_one rest.new));
        parameters = all_parameters_append of first.declared rest.declared first.parameters rest.parameters;
        written = all_written_append of f first.declared rest.declared first.written rest.written;
        words = λ z i l. omega (arith, parameter_words-append z first.declared rest.declared, first.words z i (omega (arith, l)), rest.words z i (omega (arith, l)));
        hidden = first.hidden ++ rest.hidden;
        env_is = rest.env_is ∙ ap (λ z. with_names (z.names ++ rest.hidden) z) first.env_is ∙ ap (λ ns. with_names ns env) (append_assoc env.names first.hidden rest.hidden);
        hidden_keys = keys-append first.hidden rest.hidden ∙ ap₂ (λ x y. x ++ y) first.hidden_keys rest.hidden_keys
            ∙ sym (ap keys (names_of-append one.bound more.bound) ∙ keys-append (names_of one.bound) (names_of more.bound));
        globals = rest.globals;
      }
