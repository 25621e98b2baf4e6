-- Definitions: a name is visible while it is being defined. Then it represents what it was judged
-- to be.
use Rattle.std.proofs.Common.{◌≡◌, ◌∷◌, ◌++◌, ◌-◌, ℕ, ℤ, pos, List, [], Result, length, subst, refl, ap, ◌∙◌}
use Rattle.cp_model.specs.Syntax as s
use Rattle.cp_model.specs.declared.tree.Constant.{Constant}
use Rattle.cp_model.specs.declared.tree.Identifier.{Identifier}
use Rattle.cp_model.specs.declared.rules.Entity.{Entity}
use Rattle.cp_model.specs.declared.rules.Entity.TheVariants as entity
use Rattle.cp_model.specs.declared.rules.Position.TheVariants as position
use Rattle.cp_model.specs.declared.rules.Violation.{Violation}
use Rattle.cp_model.specs.RulesEnvironment.{Environment, declare, entity_of, simple_row, with_names}
use Rattle.cp_model.specs.RulesJudged.{Broken, Judged, Sound, Violations, violations_of}
use Rattle.cp_model.specs.RulesTypes.{Made, add_type, constant, type_placed}
use Rattle.cp_model.specs.RulesDeclarations as d
use Rattle.cp_model.specs.Rules.{define_constant, define_each, define_enumeration, define_type, values}
use Rattle.cp_rules.specs.Checking.{Judges, Makes, State, after, declared_name, first_of, with_set}
use Rattle.cp_rules.specs.Definitions.{constant_entity, type_entity}
use Rattle.cp_rules.proofs.Finished.{set_in}
use Rattle.cp_rules.proofs.Kept.{placed_keeps}
use Rattle.cp_rules.proofs.Reporting.{reported_in, reported_more}
use Rattle.cp_rules.proofs.Visible.{reported_alike}

constant_is : (j : Judged (ℕ × ℤ)) → constant_entity (first_of j) ≡ entity_of (λ c. entity.Constant c.0 c.1) j
constant_is (Sound c) = refl
constant_is (Broken v vs) = refl

type_is : (j : Judged ℕ) → type_entity (first_of j) ≡ entity_of entity.Type j
type_is (Sound t) = refl
type_is (Broken v vs) = refl

module _ (old s1 s2 s3 : State) (x : Identifier) (e : Entity) (mark : ℕ) (at : mark ≡ length old.env.names) (set : s3 ≡ with_set s2 mark e) where
  -- the name represents what was judged
  represents : (now : Environment) (u f : Entity) (vs : Violations) → s2 ≡ reported_in now old.diagnostics vs → now.names ≡ (declare x u old.env).names → e ≡ f
      → s3 ≡ reported_in (declare x f (with_names old.env.names now)) old.diagnostics vs
  represents now u f vs diagnostics names is =
      set ∙ (λ i. with_set (diagnostics i) (at i) (is i))
      ∙ ap (λ (v : Environment). reported_in v old.diagnostics vs) (set_in old.env now u f (x ∷ []) names)

  pub constant_defined : (v : Constant) (r : Result (ℕ × ℤ) Violation) → s1 ≡ after old (declared_name old.env x entity.UnfinishedConstant)
      → Judges s1 s2 r (constant s1.env v) → e ≡ constant_entity r → s3 ≡ after old (define_constant old.env (record { name = x; value = v }))
  constant_defined v r declared judged entity_is =
      let inner : d.Declared = declared_name old.env x entity.UnfinishedConstant in
      let value : Judged (ℕ × ℤ) = constant inner.env v in
      let judges : Judges (after old inner) s2 r value = subst (λ (z : State). Judges z s2 r (constant z.env v)) declared judged in
      represents inner.env entity.UnfinishedConstant (entity_of (λ c. entity.Constant c.0 c.1) value) (inner.violations ++ violations_of value)
      (judges.0 ∙ reported_more inner.env old.diagnostics inner.violations (violations_of value)) refl
      (entity_is ∙ ap constant_entity judges.1 ∙ constant_is value)

  pub type_defined : (t : s.TypeExpression) (r : Result ℕ Violation) → s1 ≡ after old (declared_name old.env x entity.UnfinishedType)
      → Makes s1 s2 r (type_placed s1.env position.Definition t) → e ≡ type_entity r → s3 ≡ after old (define_type old.env x t)
  type_defined t r declared judged entity_is =
      let inner : d.Declared = declared_name old.env x entity.UnfinishedType in
      let made : Made (Judged ℕ) = type_placed inner.env position.Definition t in
      let makes : Makes (after old inner) s2 r made = subst (λ (z : State). Makes z s2 r (type_placed z.env position.Definition t)) declared judged in
      represents made.env entity.UnfinishedType (entity_of entity.Type made.of) (inner.violations ++ violations_of made.of)
      (makes.0 ∙ reported_more made.env old.diagnostics inner.violations (violations_of made.of)) (placed_keeps inner.env position.Definition t).names
      (entity_is ∙ ap type_entity makes.1 ∙ type_is made.of)

-- ---- enumerations

pub enumeration_defined : (old s1 s2 s3 : State) (x : Identifier) (xs : List Identifier) (t : ℕ)
    → t ≡ length old.env.types → s1 ≡ record old { env = add_type old.env (simple_row t (pos 0) (pos (length xs - 1))) }
    → s2 ≡ after s1 (declared_name s1.env x (entity.Type t))
    → s3 ≡ after s2 (d.declare_each s2.env (values t 0 xs))
    → s3 ≡ after old (define_enumeration old.env x xs)
enumeration_defined old s1 s2 s3 x xs t t_is made declared valued =
    let n : ℕ = length old.env.types in
    let own : Environment = add_type old.env (simple_row n (pos 0) (pos (length xs - 1))) in
    let vs : List (Identifier × Entity) = values n 0 xs in
    let vs_are : values t 0 xs ≡ vs = ap (λ m. values m 0 xs) t_is in
    let made_is : s1 ≡ reported_in own old.diagnostics [] =
    made ∙ ap (λ m. reported_in (add_type old.env (simple_row m (pos 0) (pos (length xs - 1)))) old.diagnostics []) t_is in
    let inner : d.Declared = declared_name own x (entity.Type n) in
    let told2 : s2 ≡ reported_in inner.env old.diagnostics inner.violations =
    declared ∙ (λ i. after (made_is i) (declared_name (made_is i).env x (entity.Type (t_is i)))) in
    let all : d.Declared = d.declare_each inner.env vs in
    let told3 : s3 ≡ reported_in all.env old.diagnostics (inner.violations ++ all.violations) =
    valued ∙ (λ i. after (told2 i) (d.declare_each (told2 i).env (vs_are i))) ∙ reported_more all.env old.diagnostics inner.violations all.violations in
    told3 ∙ ap (λ (ws : Violations). reported_in all.env old.diagnostics (inner.violations ++ ws)) (reported_alike x (entity.Type n) entity.UnfinishedType own vs)

-- ---- one definition, and then the rest

pub rest_defined : {A : Type 0} (f : Environment → A → d.Declared) (old new : State) (e : A) (es : List A) → new ≡ after old (f old.env e)
    → after new (define_each f new.env es) ≡ after old (define_each f old.env (e ∷ es))
rest_defined f old new e es same =
    let one = f old.env e in
    let rest = define_each f one.env es in
    ap (λ (z : State). after z (define_each f z.env es)) same ∙ reported_more rest.env old.diagnostics one.violations rest.violations
