-- Names that are declared keep an environment later, if what they represent is.
use Rattle.std.proofs.Common.{◌≡◌, ◌∷◌, ◌++◌, List, Option, None, Some, [], refl, true}
use Rattle.std.specs.Prelude.{is_some, not}
use Rattle.std.proofs.lemmas.Bool.{and_from, and_parts}
use Rattle.cp_model.specs.declared.tree.Identifier.{Identifier}
use Rattle.cp_model.specs.declared.rules.Entity.{Entity}
use Rattle.cp_model.specs.declared.rules.Rule.TheVariants.{C1}
use Rattle.cp_model.specs.declared.rules.Violation.{Violation}
use Rattle.cp_model.specs.Names.{lookup}
use Rattle.cp_model.specs.RulesDeclarations.{declare_all, declare_each}
use Rattle.cp_model.specs.RulesEnvironment.{Environment, Names, c1_declared, declare, declare_if_new, entity_of}
use Rattle.cp_model.specs.RulesJudged.{Broken, Judged, Sound}
use Rattle.cp_rules_cutoff.specs.After.{all_after, name_after}
use Rattle.cp_rules_cutoff.specs.Later.{entity_later, environment_later, judged_later, names_later, routines_later, violations_later}
use Rattle.cp_rules_cutoff.proofs.Combinators.{later_append, unless_later}

module _ (w : Violation) where
  -- ---- parts of an environment

  pub known_names : (env : Environment) → environment_later w env ≡ true → names_later w env.names ≡ true
  known_names env h = (and_parts (names_later w env.names) (routines_later w env.routines) h).0

  pub known_routines : (env : Environment) → environment_later w env ≡ true → routines_later w env.routines ≡ true
  known_routines env h = (and_parts (names_later w env.names) (routines_later w env.routines) h).1

  pub known_again : (env : Environment) → names_later w env.names ≡ true → routines_later w env.routines ≡ true → environment_later w env ≡ true
  known_again env h g = and_from (names_later w env.names) (routines_later w env.routines) h g

  -- ---- one name

  names_append : (xs ys : Names) → names_later w xs ≡ true → names_later w ys ≡ true → names_later w (xs ++ ys) ≡ true
  names_append [] ys h g = g
  names_append (x ∷ xs) ys h g = and_from _ _ (and_parts _ _ h).0 (names_append xs ys (and_parts _ _ h).1 g)

  added : (x : Identifier) (e : Entity) (names : Names) (old : Option Entity)
      → entity_later w e ≡ true → names_later w names ≡ true → names_later w (declare_if_new x e names old) ≡ true
  added x e names None h g = names_append names _ g (and_from _ _ h refl)
  added x e names (Some old) h g = g

  pub declare_later : (x : Identifier) (e : Entity) (env : Environment)
      → entity_later w e ≡ true → environment_later w env ≡ true → environment_later w (declare x e env) ≡ true
  declare_later x e env h g =
      known_again (declare x e env) (added x e env.names (lookup x.name env.names) h (known_names env g)) (known_routines env g)

  pub declared_later : (env : Environment) (x : Identifier) → name_after w.at x ≡ true → violations_later w (c1_declared env x) ≡ true
  declared_later env x h = unless_later w (not (is_some (lookup x.name env.names))) C1 x.at h

  pub entity_of_later : {A : Type 0} (f : A → Entity) (j : Judged A)
      → ((x : A) → entity_later w (f x) ≡ true) → judged_later w j ≡ true → entity_later w (entity_of f j) ≡ true
  entity_of_later f (Sound x) h g = h x
  entity_of_later f (Broken v vs) h g = (and_parts _ _ g).0

  -- ---- names in order

  pub each_visible : (env : Environment) (ds : List (Identifier × Entity))
      → environment_later w env ≡ true → all_after (λ (d : Identifier × Entity). entity_later w d.1) ds ≡ true
      → environment_later w (declare_each env ds).env ≡ true
  each_visible env [] h g = h
  each_visible env (d ∷ ds) h g =
      let parts = and_parts _ _ g in
      each_visible (declare d.0 d.1 env) ds (declare_later d.0 d.1 env parts.0 h) parts.1

  pub each_reported : (env : Environment) (ds : List (Identifier × Entity))
      → all_after (λ (d : Identifier × Entity). name_after w.at d.0) ds ≡ true → violations_later w (declare_each env ds).violations ≡ true
  each_reported env [] h = refl
  each_reported env (d ∷ ds) h =
      let parts = and_parts _ _ h in
      later_append w _ _ (declared_later env d.0 parts.0) (each_reported (declare d.0 d.1 env) ds parts.1)

  pub all_visible : (env : Environment) (e : Entity) (xs : List Identifier)
      → environment_later w env ≡ true → entity_later w e ≡ true → environment_later w (declare_all env e xs).env ≡ true
  all_visible env e [] h g = h
  all_visible env e (x ∷ xs) h g = all_visible (declare x e env) e xs (declare_later x e env g h) g

  pub all_reported : (env : Environment) (e : Entity) (xs : List Identifier)
      → all_after (name_after w.at) xs ≡ true → violations_later w (declare_all env e xs).violations ≡ true
  all_reported env e [] h = refl
  all_reported env e (x ∷ xs) h =
      let parts = and_parts _ _ h in
      later_append w _ _ (declared_later env x parts.0) (all_reported (declare x e env) e xs parts.1)
