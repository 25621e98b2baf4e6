-- Items of `init` in which nothing is broken: their components and arguments.
use Rattle.std.proofs.Common.{◌≡◌, ℕ, Bool, true, false, not, List, [], ◌∷◌, ◌++◌, Option, Some, None, if◌then◌else◌, nat_eq, eqb-true, slice_get, length, drop, refl, ap, sym, subst, ◌∙◌, arith, is_some}
use Rattle.std.proofs.lemmas.Bool.{true≢false}
use Rattle.std.proofs.lemmas.List.{length-drop, length-take-le}
use Rattle.cp_model.specs.Syntax as s
use Rattle.cp_model.specs.Abstract as a
use Rattle.cp_model.specs.Erase as erase
use Rattle.cp_model.specs.declared.tree.Identifier.{Identifier}
use Rattle.cp_model.specs.declared.rules.Rule.TheVariants.{C12}
use Rattle.cp_model.specs.declared.rules.Access.{Access}
use Rattle.cp_model.specs.declared.rules.Access.TheVariants as access
use Rattle.cp_model.specs.declared.rules.Entity.{Entity}
use Rattle.cp_model.specs.declared.rules.Entity.TheVariants as entity
use Rattle.cp_model.specs.declared.rules.Structure.{Structure}
use Rattle.cp_model.specs.declared.rules.Structure.TheVariants as structure
use Rattle.cp_model.specs.declared.rules.ParameterRow.{ParameterRow}
use Rattle.cp_model.specs.declared.rules.SystemRow.{SystemRow}
use Rattle.cp_model.specs.declared.rules.Mode.TheVariants as mode
use Rattle.cp_model.specs.RulesJudged.{Judged, Sound, Violations, then_judge, guard, violations_of}
use Rattle.cp_model.specs.RulesEnvironment.{Environment, Text, agree, c1_named, c4_c9_named, is_component, is_in_routine, parameters_from, row_of, system_in, system_of, system_row}
use Rattle.cp_model.specs.RulesNames.{c8_named, count_of, first_token}
use Rattle.cp_model.specs.RulesExpressions.{judge}
use Rattle.cp_model.specs.RulesStatements.{c12_component, c12_count, c12_init, c12_passed, component_argument, init_argument, init_arguments, init_item, init_items, parameters_in, system_initialised}
use Rattle.cp_model.specs.Types.{ArrayOf, ComponentOf, GlobalScope, Members, NoType, Queue, RecordOf, ResolvedType, Simple}
use Rattle.cp_model.specs.Declarations as d
use Rattle.cp_model.specs.Declarations.{Variable, declarations}
use Rattle.cp_law_typing.specs.StaticTypes.{expression_type}
use Rattle.cp_law_typing.specs.Judgement.{Agree, AllInitFit, InitFits, Initialises, IsComponentArgument, Place, TypedExpression, TypedStatement}
use Rattle.cp_model.proofs.Judging.{also_rest, also_sound, first_empty, provided_holds, provided_sound, rest_empty, sound_has, sound_same, then_sound}
use Rattle.cp_law_typing.proofs.TypeRows.{holds}
use Rattle.cp_law_typing.proofs.TableMeanings.{ParametersAs, StructureAs, SystemAs, TypeAt, Types}
use Rattle.cp_law_typing.proofs.Visible.{EntityAs, ExpressionAs, PartAs, Visible, agree_as, agree_value, component_of, some_same}
use Rattle.cp_law_typing.proofs.Designators.{named_as}
use Rattle.cp_law_typing.proofs.Arguments.{optional_same}
use Rattle.cp_law_typing.proofs.Expressions.{judged_as}

module _ (G : GlobalScope → Type 0) (env : Environment) (rs : Types) (p : Place) (v : Visible G env rs p) where
  -- ---- init

  pub record ComponentType (r : ResolvedType) (o : Option ℕ) : Type 0 where
    pub number : ℕ
    pub is : o ≡ Some number
    pub system : a.System
    pub inner : Members
    pub type : r ≡ ComponentOf system inner
    pub meets : SystemAs G env rs number system

  pub in_structure : (y : Structure) (r : ResolvedType) → StructureAs G env rs y r → is_some (system_in y) ≡ true → ComponentType r (system_in y)
  in_structure (structure.System n) (ComponentOf y inner) h e = record { number = n; is = refl; system = y; inner = inner; type = refl; meets = h }
  in_structure (structure.Simple base low high) r h e = absurd (true≢false (sym e))
  in_structure (structure.Array i k) r h e = absurd (true≢false (sym e))
  in_structure (structure.Record k) r h e = absurd (true≢false (sym e))
  in_structure structure.Queue r h e = absurd (true≢false (sym e))
  in_structure (structure.System n) _ h e = absurd h

  pub component_type : (t : ℕ) (r : ResolvedType) → TypeAt rs t r → is_component env t ≡ true → ComponentType r (system_of env t)
  component_type t r there h = in_structure (row_of env t).structure r (v.tables.rows t r there).structure h

  pub alone_structure : (y : Structure) (r : ResolvedType) → StructureAs G env rs y r → is_some (system_in y) ≡ false → d.is_component r ≡ false
  alone_structure (structure.Simple base low high) (Simple b lo hi start) h e = refl
  alone_structure (structure.Array i k) (ArrayOf lo hi r) h e = refl
  alone_structure (structure.Record k) (RecordOf ps) h e = refl
  alone_structure structure.Queue Queue h e = refl
  alone_structure (structure.System n) r h e = absurd (true≢false e)
  alone_structure (structure.Simple base low high) _ h e = absurd h
  alone_structure (structure.Array i k) _ h e = absurd h
  alone_structure (structure.Record k) _ h e = absurd h
  alone_structure structure.Queue _ h e = absurd h

  pub init_value : (r : ResolvedType) (e : a.Expression) → d.is_component r ≡ false → TypedExpression p e → Agree r (expression_type p.env e) → InitFits p r e
  init_value (Simple b low high start) e alone k h = (k, h)
  init_value (ArrayOf low high r) e alone k h = (k, h)
  init_value (RecordOf ps) e alone k h = (k, h)
  init_value Queue e alone k h = (k, h)
  init_value NoType e alone k h = (k, h)
  init_value (ComponentOf y inner) e alone k h = absurd (true≢false alone)

  -- a name that is passed on as a component
  pub passed_on : (u : ℕ) (x : Identifier) (e0 : Entity) (y : a.System) (inner : Members) → TypeAt rs u (ComponentOf y inner) → EntityAs G env rs p x.name e0
      → violations_of (c12_passed env u x e0) ≡ [] → IsComponentArgument p.env y (a.Use (a.Plain x.name))
  passed_on u x (entity.Variable t acc) y inner there q h =
      let same : t ≡ u = eqb-true t u (provided_holds (nat_eq t u) C12 x.at t h) in
      let type : q.type ≡ ComponentOf y inner = some_same (slice_get rs t) q.type (ComponentOf y inner) q.there (ap (slice_get rs) same ∙ there) in
      (q.no_call, _, q.component ∙ ap (component_of x.name acc) type, refl)
  passed_on u x (entity.Constant b n) y inner there q h = absurd (cc)
  passed_on u x (entity.Type t) y inner there q h = absurd (cc)
  passed_on u x (entity.Routine r) y inner there q h = absurd (cc)
  passed_on u x (entity.Entry r) y inner there q h = absurd q
  passed_on u x (entity.Standard f) y inner there q h = absurd (cc (also_rest (c4_c9_named env x (entity.Standard f)) _ h))
  passed_on u x entity.UnfinishedConstant y inner there q h = absurd (cc)
  passed_on u x entity.UnfinishedType y inner there q h = absurd (cc)
  passed_on u x (entity.UnfinishedRoutine r) y inner there q h = absurd (cc)
  passed_on u x entity.Hidden y inner there q h = absurd (cc)
  passed_on u x (entity.Broken w) y inner there q h = absurd (cc)

  pub component_passed : (u : ℕ) (e : s.Expression) (y : a.System) (inner : Members) → TypeAt rs u (ComponentOf y inner) → violations_of (component_argument env u e) ≡ []
      → IsComponentArgument p.env y (erase.expression e)
  component_passed u (s.Designated (s.Designate x s.NoSelectors)) y inner there h =
      let rest : violations_of (then_judge (c1_named env x) (c12_passed env u x)) ≡ [] = also_rest (c8_named env mode.Value x) _ h in
      let is : (t : ℕ) × (then_judge (c1_named env x) (c12_passed env u x) ≡ Sound t) = sound_has _ rest in
      let of : (e0 : Entity) × (c1_named env x ≡ Sound e0) × (c12_passed env u x e0 ≡ Sound is.0) = then_sound (c1_named env x) (c12_passed env u x) is.0 is.1 in
      passed_on u x of.0 y inner there (named_as G env rs p v x of.0 of.1) (ap violations_of of.2)
  component_passed u (s.Designated (s.Designate x (s.MoreSelectors z zs))) y inner there h = absurd (cc)
  component_passed u (s.Number at n) y inner there h = absurd (cc)
  component_passed u (s.Character at n) y inner there h = absurd (cc)
  component_passed u (s.Call e es) y inner there h = absurd (cc)
  component_passed u (s.Parenthesized at e) y inner there h = absurd (cc)
  component_passed u (s.Not at e) y inner there h = absurd (cc)
  component_passed u (s.Signed sg at e) y inner there h = absurd (cc)
  component_passed u (s.Binary e o at f) y inner there h = absurd (cc)

  pub init_passed : (u : ℕ) (r : ResolvedType) (e : s.Expression) → TypeAt rs u r → violations_of (init_argument env (Some u) e) ≡ [] → InitFits p r (erase.expression e)
  init_passed u r e there h = go (is_component env u) refl h
    where
      value : s.Expression → Judged ℕ
      value e = then_judge (judge env mode.Value e) (λ t. guard (agree env u t) C12 (first_token e) t)

      go : (b : Bool) → is_component env u ≡ b → violations_of (if b then component_argument env u e else value e) ≡ [] → InitFits p r (erase.expression e)
      go true is h =
          let k : ComponentType r (system_of env u) = component_type u r there is in
          subst (λ z. InitFits p z (erase.expression e)) (sym k.type) (component_passed u e k.system k.inner (subst (TypeAt rs u) k.type there) h)
      go false is h =
          let sound : (t : ℕ) × (value e ≡ Sound t) = sound_has (value e) h in
          let parts : (t : ℕ) × (judge env mode.Value e ≡ Sound t) × (guard (agree env u t) C12 (first_token e) t ≡ Sound sound.0) =
          then_sound (judge env mode.Value e) (λ t. guard (agree env u t) C12 (first_token e) t) sound.0 sound.1 in
          let m : ExpressionAs G env rs p (erase.expression e) parts.0 = judged_as G env rs p v e mode.Value parts.0 parts.1 in
          init_value r (erase.expression e) (alone_structure (row_of env u).structure r (v.tables.rows u r there).structure is) m.typed
          (agree_value r m.type _ (agree_as G env rs v.tables u parts.0 r m.type there m.there (provided_sound (agree env u parts.0) C12 (first_token e) parts.0 sound.0 parts.2).0) m.same)

  pub all_init_fit : (qs : List ParameterRow) (xs : List (Text × Variable)) (es : s.Expressions) → ParametersAs rs qs xs → length qs ≡ count_of es
      → init_arguments env qs es ≡ [] → AllInitFit p xs (erase.expressions es)
  all_init_fit [] [] s.NoExpressions h n e = tt
  all_init_fit [] [] (s.MoreExpressions x es) h n e = absurd (omega (arith, n))
  all_init_fit (q ∷ qs) (x ∷ xs) s.NoExpressions h n e = absurd (omega (arith, n))
  all_init_fit (q ∷ qs) (x ∷ xs) (s.MoreExpressions e es) h n g =
      let of : (t : ℕ) × (q.of ≡ Some t) × TypeAt rs t x.1.type = optional_same G env rs p v q.of x.1.type h.1 in (
        init_passed of.0 x.1.type e of.2 (sym (ap (λ o. violations_of (init_argument env o e)) of.1) ∙ first_empty (violations_of (init_argument env q.of e)) _ g),
        all_init_fit qs xs es h.2 (omega (arith, n)) (rest_empty (violations_of (init_argument env q.of e)) _ g),
      )
  all_init_fit [] (x ∷ xs) es h n e = absurd h
  all_init_fit (q ∷ qs) [] es h n e = absurd h

  -- a component variable of the component itself
  pub record OwnComponent (x : Identifier) (y : ℕ) : Type 0 where
    pub type : ℕ
    pub is : c1_named env x ≡ Sound (entity.Variable type access.Own)
    pub system : system_of env type ≡ Some y

  pub own_component : (x : Identifier) (y : ℕ) → then_judge (c1_named env x) (c12_component env x) ≡ Sound y → OwnComponent x y
  own_component x y h =
      let is : (e : Entity) × (c1_named env x ≡ Sound e) × (c12_component env x e ≡ Sound y) = then_sound (c1_named env x) (c12_component env x) y h in
      go is.0 is.1 is.2
    where
      initialised : (t : ℕ) (acc : Access) (o : Option ℕ) → c1_named env x ≡ Sound (entity.Variable t acc) → system_of env t ≡ o → system_initialised x acc o ≡ Sound y → OwnComponent x y
      initialised t access.Own (Some z) is e h = record { type = t; is = is; system = e ∙ ap (λ k. Some k) (sound_same z y h) }
      initialised t access.Own None is e h = absurd (cc)
      initialised t access.ByReference o is e h = absurd (cc)
      initialised t access.Passive o is e h = absurd (cc)

      go : (e : Entity) → c1_named env x ≡ Sound e → c12_component env x e ≡ Sound y → OwnComponent x y
      go (entity.Variable t acc) is h = initialised t acc (system_of env t) is refl h
      go (entity.Constant b n) is h = absurd (cc)
      go (entity.Type t) is h = absurd (cc)
      go (entity.Routine r) is h = absurd (cc)
      go (entity.Entry r) is h = absurd (cc)
      go (entity.Standard f) is h = absurd (cc (also_sound (c4_c9_named env x (entity.Standard f)) _ y h))
      go entity.UnfinishedConstant is h = absurd (cc)
      go entity.UnfinishedType is h = absurd (cc)
      go (entity.UnfinishedRoutine r) is h = absurd (cc)
      go entity.Hidden is h = absurd (cc)
      go (entity.Broken w) is h = absurd (cc)

  -- what is known of an item: its component, and that its arguments are judged against the parameters of the component's type
  pub record ItemParts (i : s.InitItem) : Type 0 where
    pub number : ℕ
    pub own : OwnComponent i.component number
    pub part : PartAs G env rs p (a.Plain i.component.name) own.type access.Own
    pub system : a.System
    pub inner : Members
    pub type : part.type ≡ ComponentOf system inner
    pub meets : SystemAs G env rs number system
    pub rows : List ParameterRow
    pub rows_are : rows ≡ parameters_from env (system_row env number).first (system_row env number).count
    pub rows_as : ParametersAs rs rows meets.heading.variables
    pub count : length rows ≡ count_of i.arguments
    pub arguments_sound : init_arguments env rows i.arguments ≡ []

  pub item_parts : (i : s.InitItem) → init_item env i ≡ [] → ItemParts i
  item_parts i h =
      let x : Identifier = i.component in
      let system : Judged ℕ = then_judge (c1_named env x) (c12_component env x) in
      let component : Judged SystemRow = then_judge system (c12_count env x (count_of i.arguments)) in
      let all : Violations = init_arguments env (parameters_in env system) i.arguments in
      let is : (row : SystemRow) × (component ≡ Sound row) =
      sound_has component (rest_empty (c8_named env mode.Value x) _ (first_empty (c8_named env mode.Value x ++ violations_of component) all h)) in
      let parts : (y : ℕ) × (system ≡ Sound y) × (c12_count env x (count_of i.arguments) y ≡ Sound is.0) =
      then_sound system (c12_count env x (count_of i.arguments)) is.0 is.1 in
      let own : OwnComponent x parts.0 = own_component x parts.0 parts.1 in
      let row : SystemRow = system_row env parts.0 in
      let count : (nat_eq row.count (count_of i.arguments) ≡ true) × (row ≡ is.0) = provided_sound (nat_eq row.count (count_of i.arguments)) C12 x.at row is.0 parts.2 in
      let q : PartAs G env rs p (a.Plain x.name) own.type access.Own = named_as G env rs p v x (entity.Variable own.type access.Own) own.is in
      let k : ComponentType q.type (system_of env own.type) = component_type own.type q.type q.there (ap is_some own.system) in
      let number : k.number ≡ parts.0 = some_same (system_of env own.type) k.number parts.0 k.is own.system in
      let meets : SystemAs G env rs parts.0 k.system = subst (λ n. SystemAs G env rs n k.system) number k.meets in
      let rows : length (parameters_from env row.first row.count) ≡ row.count =
      length-take-le row.count (drop row.first env.parameters) (omega (arith, meets.heading.within, length-drop row.first env.parameters)) in
      record {
        number = parts.0;
        own = own;
        part = q;
        system = k.system;
        inner = k.inner;
        type = k.type;
        meets = meets;
        rows = parameters_from env row.first row.count;
        rows_are = refl;
        rows_as = meets.heading.rows;
        count = rows ∙ eqb-true row.count (count_of i.arguments) count.0;
        arguments_sound = ap (λ j. init_arguments env (parameters_in env j) i.arguments) (sym parts.1) ∙ rest_empty (c8_named env mode.Value x ++ violations_of component) all h;
      }

  pub item_as : (i : s.InitItem) → is_in_routine env.region.part ≡ false → init_item env i ≡ [] → Initialises p i.component.name (erase.expressions i.arguments)
  item_as i body h =
      let x : Identifier = i.component in
      let k : ItemParts i = item_parts i h in
      let defined : (n : ℕ) × (slice_get p.systems n ≡ Some k.system) = v.systems k.own.type k.system k.inner (subst (TypeAt rs k.own.type) k.type k.part.there) in
      record {
        component = record { name = x.name; system = k.system; is_parameter = false };
        named = k.part.component ∙ ap (component_of x.name access.Own) k.type;
        own = refl;
        outside = v.region.body body;
        place = defined.0;
        defined = defined.1;
        fit = subst (λ l. AllInitFit p l (erase.expressions i.arguments)) (sym (k.meets.heading.declares p.env.globals v.scope))
            (all_init_fit k.rows k.meets.heading.variables i.arguments k.rows_as k.count k.arguments_sound);
      }

  pub items_as : (is : List s.InitItem) → is_in_routine env.region.part ≡ false → init_items env is ≡ [] → TypedStatement p (erase.items is)
  items_as [] body h = tt
  items_as (i ∷ is) body h = (item_as i body (first_empty (init_item env i) _ h), items_as is body (rest_empty (init_item env i) _ h))

  pub init_body : (at : ℕ) → c12_init env at ≡ [] → is_in_routine env.region.part ≡ false
  init_body at h = not_true (is_in_routine env.region.part) (holds (not (is_in_routine env.region.part)) C12 at h)
    where
      not_true : (b : Bool) → not b ≡ true → b ≡ false
      not_true true h = absurd (true≢false (sym h))
      not_true false h = refl
