-- What is reported of definitions that are later is later, and so is the environment with them.
use Rattle.std.proofs.Common.{◌≡◌, ◌∷◌, ◌++◌, ◌+◌, ◌-◌, ℕ, ℤ, pos, Bool, List, Some, [], drop, false, length, refl, suc, true}
use Rattle.std.specs.Prelude.{if◌then◌else◌, nat_lt}
use Rattle.std.proofs.lemmas.Bool.{and_from, and_parts}
use Rattle.cp_model.specs.Syntax as s
use Rattle.cp_model.specs.declared.tree.ConstantDefinition.{ConstantDefinition}
use Rattle.cp_model.specs.declared.tree.Identifier.{Identifier}
use Rattle.cp_model.specs.declared.rules.Entity.{Entity}
use Rattle.cp_model.specs.declared.rules.Entity.TheVariants as entity
use Rattle.cp_model.specs.declared.rules.Part.TheVariants as part
use Rattle.cp_model.specs.declared.rules.Position.TheVariants as position
use Rattle.cp_model.specs.declared.rules.Rule.TheVariants.{C13}
use Rattle.cp_model.specs.declared.rules.Structure.TheVariants as structure
use Rattle.cp_model.specs.declared.rules.SystemRow.{SystemRow}
use Rattle.cp_model.specs.declared.rules.TypeRow.{TypeRow}
use Rattle.cp_model.specs.declared.rules.Violation.{Violation}
use Rattle.cp_model.specs.Rules as r
use Rattle.cp_model.specs.RulesDeclarations as d
use Rattle.cp_model.specs.RulesEnvironment.{Environment, declare, entity_of, is_process, simple_row}
use Rattle.cp_model.specs.RulesJudged.{Violations}
use Rattle.cp_model.specs.RulesNeeds.{need_statements}
use Rattle.cp_model.specs.RulesTypes.{add_type, cap_words, constant, is_within, type_placed}
use Rattle.cp_rules_cutoff.specs.After as after
use Rattle.cp_rules_cutoff.specs.After.{all_after, name_after}
use Rattle.cp_rules_cutoff.specs.Later.{environment_later, violations_later}
use Rattle.cp_rules_cutoff.proofs.Combinators.{later_append, unless_later}
use Rattle.cp_rules_cutoff.proofs.Environments.{declare_later, declared_later, each_reported, each_visible, entity_of_later}
use Rattle.cp_rules_cutoff.proofs.Environments.{known_again, known_names, known_routines}
use Rattle.cp_rules_cutoff.proofs.Found.{constant_later}
use Rattle.cp_rules_cutoff.proofs.Headings.{bound_later, heading_later}
use Rattle.cp_rules_cutoff.proofs.Routines.{routines_reported}
use Rattle.cp_rules_cutoff.proofs.Statements.{statements_later}
use Rattle.cp_rules_cutoff.proofs.Types.{type_placed_later}
use Rattle.cp_rules_cutoff.proofs.Variables.{DeclaredLater, variables_later}

module _ (w : Violation) where
  -- ---- constants

  constant_reported : (env : Environment) (c : ConstantDefinition)
      → environment_later w env ≡ true → after.constant_definition_after w.at c ≡ true → DeclaredLater w (r.define_constant env c)
  constant_reported env c h g =
      let parts = and_parts _ _ g in
      let own = declare c.name entity.UnfinishedConstant env in
      let value = constant own c.value in
      let judged = constant_later w own (declare_later w c.name entity.UnfinishedConstant env refl h) c.value parts.1 in
      let known = entity_of_later w (λ (v : ℕ × ℤ). entity.Constant v.0 v.1) value (λ v. refl) judged in (
        declare_later w c.name (entity_of (λ (v : ℕ × ℤ). entity.Constant v.0 v.1) value) env known h,
        later_append w _ _ (declared_later w env c.name parts.0) judged,
      )

  -- ---- enumerations

  values_bound : (base n : ℕ) (xs : List Identifier) → bound_later w (r.values base n xs) ≡ true
  values_bound base n [] = refl
  values_bound base n (x ∷ xs) = values_bound base (suc n) xs

  values_after : (base n : ℕ) (xs : List Identifier)
      → all_after (name_after w.at) xs ≡ true → all_after (λ (b : Identifier × Entity). name_after w.at b.0) (r.values base n xs) ≡ true
  values_after base n [] h = refl
  values_after base n (x ∷ xs) h =
      let parts = and_parts _ _ h in
      and_from _ _ parts.0 (values_after base (suc n) xs parts.1)

  enumeration_reported : (env : Environment) (x : Identifier) (xs : List Identifier)
      → environment_later w env ≡ true → name_after w.at x ≡ true → all_after (name_after w.at) xs ≡ true
      → DeclaredLater w (r.define_enumeration env x xs)
  enumeration_reported env x xs h g after =
      let t = length env.types in
      let own = add_type env (simple_row t (pos 0) (pos (length xs - 1))) in (
        each_visible w (declare x (entity.Type t) own) (r.values t 0 xs) (declare_later w x (entity.Type t) own refl h) (values_bound t 0 xs),
        later_append w _ _ (declared_later w env x g)
            (each_reported w (declare x entity.UnfinishedType own) (r.values t 0 xs) (values_after t 0 xs after)),
      )

  -- ---- types

  type_reported : (env : Environment) (x : Identifier) (t : s.TypeExpression)
      → environment_later w env ≡ true → name_after w.at x ≡ true → after.type_after w.at t ≡ true → DeclaredLater w (r.define_type env x t)
  type_reported env x t h g after =
      let own = declare x entity.UnfinishedType env in
      let m = type_placed own position.Definition t in
      let made = type_placed_later w own position.Definition t (declare_later w x entity.UnfinishedType env refl h) after in
      let kept : Environment = record m.env { names = env.names } in
      let known = known_again w kept (known_names w env h) (known_routines w m.env made.0) in (
        declare_later w x (entity_of entity.Type m.of) kept (entity_of_later w entity.Type m.of (λ u. refl) made.1) known,
        later_append w _ _ (declared_later w env x g) made.1,
      )

  system_reported : (env : Environment) (x : Identifier) (y : s.System)
      → environment_later w env ≡ true → name_after w.at x ≡ true → after.system_after w.at y ≡ true → DeclaredLater w (r.define_system env x y)
  system_reported env x y h g after =
      let to_routines = and_parts _ _ after in
      let to_variables = and_parts _ _ to_routines.0 in
      let to_parameters = and_parts _ _ to_variables.0 in
      let body = and_parts _ _ to_routines.1 in
      let named = declare x entity.UnfinishedType env in
      let start = declare_later w x entity.UnfinishedType env refl h in
      let head = d.heading named (Some y.sort) false y.parameters in
      let headed = heading_later w named (Some y.sort) false y.parameters start to_parameters.0 in
      let around : Environment = record named {
        parameters = env.parameters ++ head.rows;
        region = record { sort = y.sort; part = part.Body };
      } in
      let inside = d.declare_each around head.bound in
      let visible = each_visible w around head.bound start headed.bound in
      let own = d.variables inside.env (r.variable_position y.sort) y.variables in
      let owned = variables_later w inside.env (r.variable_position y.sort) y.variables visible to_parameters.1 in
      let all = d.routines own.env y.sort y.routines in
      let each = routines_reported w own.env y.sort y.routines owned.0 to_variables.1 in
      let body_need = need_statements all.env y.body.list in
      let count = length head.rows in
      let words = cap_words (1 + count + own.words + (if is_process y.sort then body_need else 0)) in
      let row : TypeRow = record { structure = structure.System (length all.env.systems); words = words; has_queues = false } in
      let system : SystemRow = record {
        sort = y.sort;
        first = length env.parameters;
        count = count;
        words = words;
        body_need = body_need;
        members = length all.env.members;
      } in
      let after_it : Environment = record all.env {
        names = env.names;
        types = all.env.types ++ row ∷ [];
        members = all.env.members ++ r.routine_members (drop (length named.names) all.env.names) ∷ [];
        systems = all.env.systems ++ system ∷ [];
        region = env.region;
      } in
      let known = known_again w after_it (known_names w env h) (known_routines w all.env each.0) in (
        declare_later w x (entity.Type (length all.env.types)) after_it refl known,
        later_append w _ _
            (later_append w _ _ (later_append w _ _ (later_append w _ _ (declared_later w env x g) headed.diagnostics) owned.1) each.1)
            (statements_later w all.env each.0 y.body.list body.1),
      )

  -- ---- sections

  pub defined_reported : (env : Environment) (t : s.TypeDefinition)
      → environment_later w env ≡ true → after.type_definition_after w.at t ≡ true → DeclaredLater w (r.define_as env t.name t.defined)
  defined_reported env t h g = go t.defined (and_parts _ _ g).1
    where
      go : (what : s.Defined) → after.defined_after w.at what ≡ true → DeclaredLater w (r.define_as env t.name what)
      go (s.Written u) k = type_reported env t.name u h (and_parts _ _ g).0 k
      go (s.Enumeration xs) k = enumeration_reported env t.name xs h (and_parts _ _ g).0 k
      go (s.SystemType y) k = system_reported env t.name y h (and_parts _ _ g).0 k

  module _ {A : Type 0} (f : Environment → A → d.Declared) (represents : A → Bool)
      (one : (env : Environment) (x : A) → environment_later w env ≡ true → represents x ≡ true → DeclaredLater w (f env x)) where
    pub each_defined : (env : Environment) (xs : List A)
        → environment_later w env ≡ true → all_after represents xs ≡ true → DeclaredLater w (r.define_each f env xs)
    each_defined env [] h g = (h, refl)
    each_defined env (x ∷ xs) h g =
        let parts = and_parts _ _ g in
        let first = one env x h parts.0 in
        let rest = each_defined (f env x).env xs first.0 parts.1 in
        (rest.0, later_append w _ _ first.1 rest.1)

  pub types_reported : (env : Environment) (ts : List s.TypeDefinition)
      → environment_later w env ≡ true → all_after (after.type_definition_after w.at) ts ≡ true
      → DeclaredLater w (r.define_each (λ e (t : s.TypeDefinition). r.define_as e t.name t.defined) env ts)
  types_reported = each_defined (λ e (t : s.TypeDefinition). r.define_as e t.name t.defined) (after.type_definition_after w.at) defined_reported

  section_reported : (env : Environment) (z : s.Section)
      → environment_later w env ≡ true → after.section_after w.at z ≡ true → DeclaredLater w (r.define_section env z)
  section_reported env (s.Constants cs) h g = each_defined r.define_constant (after.constant_definition_after w.at) constant_reported env cs h g
  section_reported env (s.Types ts) h g = types_reported env ts h g

  pub sections_reported : (env : Environment) (zs : List s.Section)
      → environment_later w env ≡ true → all_after (after.section_after w.at) zs ≡ true → DeclaredLater w (r.define_each r.define_section env zs)
  sections_reported = each_defined r.define_section (after.section_after w.at) section_reported

  -- ---- the initial process

  pub initial_reported : (at words : ℕ) (body : Violations) → nat_lt w.at at ≡ true → violations_later w (r.c13_initial at words body) ≡ true
  initial_reported at words [] h = unless_later w (is_within words) C13 at h
  initial_reported at words (v ∷ vs) h = refl
