-- A group of variables: its names are visible while its type is judged. Then they represent
-- variables of that type.
use Rattle.std.proofs.Common.{◌≡◌, ◌*◌, ◌+◌, ◌∷◌, ◌++◌, ℕ, List, Result, length, subst, refl, ap, sym, ◌∙◌}
use Rattle.cp_model.specs.Syntax as s
use Rattle.cp_model.specs.declared.tree.Identifier.{Identifier}
use Rattle.cp_model.specs.declared.rules.Entity.{Entity}
use Rattle.cp_model.specs.declared.rules.Position.{Position}
use Rattle.cp_model.specs.declared.rules.Position.TheVariants as position
use Rattle.cp_model.specs.declared.rules.Violation.{Violation}
use Rattle.cp_model.specs.RulesEnvironment.{Environment, entity_of, with_names}
use Rattle.cp_model.specs.RulesDeclarations as d
use Rattle.cp_model.specs.RulesJudged.{Broken, Judged, Sound, Violations, least, violations_of}
use Rattle.cp_model.specs.RulesTypes.{Made, cap_words, type_placed}
use Rattle.cp_rules_body.proofs.Reports.{least_append}
use Rattle.cp_rules.specs.Checking.{Makes, State, after, first_of, with_set}
use Rattle.cp_rules.specs.Declaring.{Declares, entity_of_type, owners_of_type, with_variables, words_of_type}
use Rattle.cp_rules.proofs.CappedWords.{capped_more}
use Rattle.cp_rules.proofs.Finished.{set_in}
use Rattle.cp_rules.proofs.Kept.{placed_keeps}
use Rattle.cp_rules.proofs.Reporting.{reported_in, reported_more}

-- ---- what the code keeps of a judged type is enough

pub entity_is : (f : ℕ → Entity) (j : Judged ℕ) → entity_of_type f (first_of j) ≡ entity_of f j
entity_is f (Sound t) = refl
entity_is f (Broken v vs) = refl

pub words_is : (env : Environment) (j : Judged ℕ) → words_of_type env (first_of j) ≡ d.words_of env j
words_is env (Sound t) = refl
words_is env (Broken v vs) = refl

owners_is : (env : Environment) (p : Position) (j : Judged ℕ) (xs : List Identifier) → owners_of_type env p (first_of j) xs ≡ d.owners env p j xs
owners_is env position.InitialVariable (Sound t) xs = refl
owners_is env position.InitialVariable (Broken v vs) xs = refl
owners_is env position.Definition j xs = refl
owners_is env position.Element j xs = refl
owners_is env position.Field j xs = refl
owners_is env position.MonitorVariable j xs = refl
owners_is env position.ComponentVariable j xs = refl
owners_is env position.RoutineVariable j xs = refl

-- ---- the group

module _ (old : State) (p : Position) (g : s.Variables) where
  abbrev defined : d.Declared
  defined = d.declare_all old.env d.unfinished_variable g.names

  -- its type, judged while its names are being defined
  abbrev made : Made (Judged ℕ)
  made = type_placed defined.env p g.of

  abbrev base : Environment
  base = with_names old.env.names made.env

  abbrev diagnostics : Violations
  diagnostics = defined.violations ++ violations_of made.of

  -- the state if the names are declared as this entity
  abbrev visible : Entity → State
  visible e = record { env = (d.declare_all base e g.names).env; diagnostics = least old.diagnostics diagnostics }

  abbrev counted : Result ℕ Violation → State
  counted of =
      let v = visible (entity_of_type d.own_variable of) in
      after v (owners_of_type v.env p of g.names)

  counted_is : counted (first_of made.of) ≡ with_variables old (d.variable_group old.env p g)
  counted_is =
      ap (λ (e : Entity). after (visible e) (owners_of_type (visible e).env p (first_of made.of) g.names)) (entity_is d.own_variable made.of)
      ∙ (let v = visible (entity_of d.own_variable made.of) in
      let owned = d.owners v.env p made.of g.names in
      ap (after v) (owners_is v.env p made.of g.names)
      ∙ ap (λ t. let st : State = record { env = owned.env; diagnostics = t } in st) (sym (least_append old.diagnostics diagnostics owned.violations)))

  pub group_declared : (s1 s2 s3 s4 : State) (mark : ℕ) (of : Result ℕ Violation) (e : Entity) (each n : ℕ)
      → mark ≡ length old.env.names → s1 ≡ after old defined → Makes s1 s2 of (type_placed s1.env p g.of)
      → each ≡ words_of_type s2.env of → e ≡ entity_of_type d.own_variable of → s3 ≡ with_set s2 mark e
      → s4 ≡ after s3 (owners_of_type s3.env p of g.names)
      → n ≡ cap_words (length g.names * each) → Declares old s4 n (d.variable_group old.env p g)
  group_declared s1 s2 s3 s4 mark of e each n at inside judged words entity set owners counting =
      let makes : Makes (after old defined) s2 of made = subst (λ (z : State). Makes z s2 of (type_placed z.env p g.of)) inside judged in
      let typed : s2 ≡ reported_in made.env old.diagnostics diagnostics = makes.0 ∙ reported_more made.env old.diagnostics defined.violations (violations_of made.of) in
      let is = entity_of_type d.own_variable of in
      let shown : s3 ≡ visible is =
      set ∙ (λ i. with_set (typed i) (at i) (entity i))
      ∙ ap (λ (v : Environment). reported_in v old.diagnostics diagnostics)
      (set_in old.env made.env d.unfinished_variable is g.names (placed_keeps defined.env p g.of).names) in
      let all : s4 ≡ counted of = owners ∙ ap (λ (z : State). after z (owners_of_type z.env p of g.names)) shown in
      let one : each ≡ d.words_of made.env made.of =
      words ∙ ap (λ (z : State). words_of_type z.env of) typed ∙ ap (words_of_type made.env) makes.1 ∙ words_is made.env made.of in
      (all ∙ ap counted makes.1 ∙ counted_is, counting ∙ ap (λ (w : ℕ). cap_words (length g.names * w)) one)

-- ---- one group, and then the rest

module _ (old new : State) (p : Position) (g : s.Variables) (gs : List s.Variables) where
  abbrev one : d.Variables
  one = d.variable_group old.env p g

  pub rest_declared : new ≡ with_variables old one → with_variables new (d.variables new.env p gs) ≡ with_variables old (d.variables old.env p (g ∷ gs))
  rest_declared same =
      let rest = d.variables one.env p gs in
      ap (λ (z : State). with_variables z (d.variables z.env p gs)) same
      ∙ ap (λ t. let st : State = record { env = rest.env; diagnostics = t } in st) (sym (least_append old.diagnostics one.violations rest.violations))

  pub rest_counted : new ≡ with_variables old one → (words more sum : ℕ) → more ≡ cap_words one.words → sum ≡ cap_words (words + more)
      → cap_words (sum + (d.variables new.env p gs).words) ≡ cap_words (words + (d.variables old.env p (g ∷ gs)).words)
  rest_counted same words more sum h k =
      ap (λ (z : State). cap_words (sum + (d.variables z.env p gs).words)) same
      ∙ capped_more words more one.words sum (d.variables one.env p gs).words h k
