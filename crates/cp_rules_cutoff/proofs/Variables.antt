-- What is reported of variables that are later is later, and so is the environment with them.
use Rattle.std.proofs.Common.{◌≡◌, ◌∷◌, ℕ, List, [], nat_eq, refl, suc, true}
use Rattle.std.specs.Prelude.{not, ◌&&◌}
use Rattle.std.proofs.lemmas.Bool.{and_parts}
use Rattle.cp_model.specs.Syntax as s
use Rattle.cp_model.specs.declared.tree.Identifier.{Identifier}
use Rattle.cp_model.specs.declared.tree.Sort.{Sort}
use Rattle.cp_model.specs.declared.tree.Sort.TheVariants as sort
use Rattle.cp_model.specs.declared.rules.Position.{Position}
use Rattle.cp_model.specs.declared.rules.Position.TheVariants as position
use Rattle.cp_model.specs.declared.rules.Rule.TheVariants.{C13}
use Rattle.cp_model.specs.declared.rules.Structure.{Structure}
use Rattle.cp_model.specs.declared.rules.Structure.TheVariants as structure
use Rattle.cp_model.specs.declared.rules.SystemRow.{SystemRow}
use Rattle.cp_model.specs.declared.rules.Violation.{Violation}
use Rattle.cp_model.specs.RulesDeclarations as d
use Rattle.cp_model.specs.RulesEnvironment.{Environment, entity_of, row_of, system_row}
use Rattle.cp_model.specs.RulesJudged.{Broken, Judged, Sound}
use Rattle.cp_model.specs.RulesTypes.{is_within, type_placed}
use Rattle.cp_rules_cutoff.specs.After.{all_after, name_after, variables_after}
use Rattle.cp_rules_cutoff.specs.Later.{environment_later, violations_later}
use Rattle.cp_rules_cutoff.proofs.Combinators.{later_append, unless_later}
use Rattle.cp_rules_cutoff.proofs.Environments.{all_reported, all_visible, entity_of_later, known_again, known_names, known_routines}
use Rattle.cp_rules_cutoff.proofs.Types.{type_placed_later}

-- what is reported of declarations and the environment with them are later
abbrev pub DeclaredLater : Violation → d.Declared → Type 0
DeclaredLater w m = (environment_later w m.env ≡ true) × (violations_later w m.violations ≡ true)

abbrev pub VariablesLater : Violation → d.Variables → Type 0
VariablesLater w m = (environment_later w m.env ≡ true) × (violations_later w m.violations ≡ true)

module _ (w : Violation) where
  -- ---- owners

  owner_reported : (env : Environment) (x : Identifier) (y : SystemRow) (of : Sort)
      → name_after w.at x ≡ true → violations_later w (d.c13_owner env x y of) ≡ true
  owner_reported env x y sort.Process h = unless_later w (not (nat_eq (suc env.processes) d.one_too_many) && is_within y.words) C13 x.at h
  owner_reported env x y sort.Monitor h = unless_later w (not (nat_eq (suc env.monitors) d.one_too_many) && is_within y.words) C13 x.at h
  owner_reported env x y sort.Class h = refl

  owner_visible : (env : Environment) (of : Sort) → environment_later w env ≡ true → environment_later w (d.with_owner env of) ≡ true
  owner_visible env sort.Process h = h
  owner_visible env sort.Monitor h = h
  owner_visible env sort.Class h = h

  owners_of_later : (env : Environment) (y : SystemRow) (xs : List Identifier)
      → environment_later w env ≡ true → all_after (name_after w.at) xs ≡ true → DeclaredLater w (d.owners_of env y xs)
  owners_of_later env y [] h g = (h, refl)
  owners_of_later env y (x ∷ xs) h g =
      let parts = and_parts _ _ g in
      let rest = owners_of_later (d.with_owner env y.sort) y xs (owner_visible env y.sort h) parts.1 in
      (rest.0, later_append w _ _ (owner_reported env x y y.sort parts.0) rest.1)

  owners_in_later : (env : Environment) (row : Structure) (xs : List Identifier)
      → environment_later w env ≡ true → all_after (name_after w.at) xs ≡ true → DeclaredLater w (d.owners_in env row xs)
  owners_in_later env (structure.System y) xs h g = owners_of_later env (system_row env y) xs h g
  owners_in_later env (structure.Simple base low high) xs h g = (h, refl)
  owners_in_later env (structure.Array index element) xs h g = (h, refl)
  owners_in_later env (structure.Record k) xs h g = (h, refl)
  owners_in_later env structure.Queue xs h g = (h, refl)

  owners_later : (env : Environment) (p : Position) (j : Judged ℕ) (xs : List Identifier)
      → environment_later w env ≡ true → all_after (name_after w.at) xs ≡ true → DeclaredLater w (d.owners env p j xs)
  owners_later env position.InitialVariable (Sound t) xs h g = owners_in_later env (row_of env t).structure xs h g
  owners_later env position.InitialVariable (Broken v vs) xs h g = (h, refl)
  owners_later env p j xs h g = (h, refl)

  -- ---- variables

  group_later : (env : Environment) (p : Position) (g : s.Variables)
      → environment_later w env ≡ true → variables_after w.at g ≡ true → VariablesLater w (d.variable_group env p g)
  group_later env p g h after =
      let parts = and_parts _ _ after in
      let defined = d.declare_all env d.unfinished_variable g.names in
      let m = type_placed defined.env p g.of in
      let made = type_placed_later w defined.env p g.of (all_visible w env d.unfinished_variable g.names h refl) parts.1 in
      let kept : Environment = record m.env { names = env.names } in
      let visible = d.declare_all kept (entity_of d.own_variable m.of) g.names in
      let known = known_again w kept (known_names w env h) (known_routines w m.env made.0) in
      let declared = all_visible w kept (entity_of d.own_variable m.of) g.names known (entity_of_later w d.own_variable m.of (λ t. refl) made.1) in
      let counted = owners_later visible.env p m.of g.names declared parts.0 in
      (counted.0, later_append w _ _ (later_append w _ _ (all_reported w env d.unfinished_variable g.names parts.0) made.1) counted.1)

  pub variables_later : (env : Environment) (p : Position) (gs : List s.Variables)
      → environment_later w env ≡ true → all_after (variables_after w.at) gs ≡ true → VariablesLater w (d.variables env p gs)
  variables_later env p [] h after = (h, refl)
  variables_later env p (g ∷ gs) h after =
      let parts = and_parts _ _ after in
      let one = group_later env p g h parts.0 in
      let rest = variables_later (d.variable_group env p g).env p gs one.0 parts.1 in
      (rest.0, later_append w _ _ one.1 rest.1)
