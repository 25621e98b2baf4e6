-- What is reported of a heading that is later is later, and so is what its names represent.
use Rattle.std.proofs.Common.{◌≡◌, ◌∷◌, ◌++◌, ℕ, Bool, List, None, Option, Some, [], false, map, refl, true}
use Rattle.std.specs.Prelude.{if◌then◌else◌, is_some, nat_lt, not, ◌&&◌}
use Rattle.std.proofs.lemmas.Bool.{and_from, and_parts}
use Rattle.cp_model.specs.Syntax as s
use Rattle.cp_model.specs.declared.tree.Identifier.{Identifier}
use Rattle.cp_model.specs.declared.tree.Sort.{Sort}
use Rattle.cp_model.specs.declared.rules.Entity.{Entity}
use Rattle.cp_model.specs.declared.rules.Entity.TheVariants as entity
use Rattle.cp_model.specs.declared.rules.Rule.{Rule}
use Rattle.cp_model.specs.declared.rules.Rule.TheVariants.{C7, C8}
use Rattle.cp_model.specs.declared.rules.Violation.{Violation}
use Rattle.cp_model.specs.RulesDeclarations as d
use Rattle.cp_model.specs.RulesEnvironment.{Environment, entity_of, row_of}
use Rattle.cp_model.specs.RulesJudged.{breaks, guard, then_judge}
use Rattle.cp_model.specs.RulesTypes.{named_type}
use Rattle.cp_rules_cutoff.specs.After.{all_after, optional_after, parameters_after}
use Rattle.cp_rules_cutoff.specs.Later.{entity_later, environment_later, judged_later, violations_later}
use Rattle.cp_rules_cutoff.proofs.Combinators.{breaks_later, guard_later, later_append, then_later}
use Rattle.cp_rules_cutoff.proofs.Environments.{all_reported, all_visible, entity_of_later}
use Rattle.cp_rules_cutoff.proofs.Types.{named_type_later}

abbrev pub bound_later : Violation → List (Identifier × Entity) → Bool
bound_later w bound = all_after (λ (b : Identifier × Entity). entity_later w b.1) bound

-- what is reported of a heading, its environment and what its names will represent are later
pub record HeadingLater (w : Violation) (m : d.Heading) : Type 0 where
  pub known : environment_later w m.env ≡ true
  pub diagnostics : violations_later w m.violations ≡ true
  pub bound : bound_later w m.bound ≡ true

module _ (w : Violation) where
  -- ---- parameters of one type

  parameter_later : (env : Environment) (of : Option Sort) (at t : ℕ) → nat_lt w.at at ≡ true → judged_later w (d.c7_c8_parameter env of at t) ≡ true
  parameter_later env of at t h = go (row_of env t).has_queues
    where
      go : (b : Bool) → judged_later w (if b then breaks C8 at else guard (d.allows_parameter env of (row_of env t).structure) C7 at t) ≡ true
      go true = breaks_later w C8 at h
      go false = guard_later w (d.allows_parameter env of (row_of env t).structure) C7 at t h

  var_later : (rule : Option Rule) (by : Option ℕ) → optional_after (nat_lt w.at) by ≡ true → violations_later w (d.c7_c11_var rule by) ≡ true
  var_later (Some rule) (Some at) h = breaks_later w rule at h
  var_later (Some rule) None h = refl
  var_later None by h = refl

  all_bound : (e : Entity) (xs : List Identifier) → entity_later w e ≡ true → bound_later w (map (λ (x : Identifier). (x, e)) xs) ≡ true
  all_bound e [] h = refl
  all_bound e (x ∷ xs) h = and_from (entity_later w e) _ h (all_bound e xs h)

  bound_append : (bs cs : List (Identifier × Entity)) → bound_later w bs ≡ true → bound_later w cs ≡ true → bound_later w (bs ++ cs) ≡ true
  bound_append [] cs h g = g
  bound_append (b ∷ bs) cs h g =
      let parts = and_parts _ _ h in
      and_from _ _ parts.0 (bound_append bs cs parts.1 g)

  group_later : (env : Environment) (of : Option Sort) (is_function : Bool) (g : s.Parameters)
      → environment_later w env ≡ true → parameters_after w.at g ≡ true → HeadingLater w (d.parameter_group env of is_function g)
  group_later env of is_function g h after =
      let parts = and_parts _ _ after in
      let first = and_parts _ _ parts.0 in
      let defined = d.declare_all env d.unfinished_variable g.names in
      let by_reference = is_some g.by_reference && not (is_some of) in
      let of_type = named_type defined.env g.of in
      let t = then_judge of_type (d.c7_c8_parameter env of g.of.at) in
      let named = named_type_later w defined.env g.of (all_visible w env d.unfinished_variable g.names h refl) parts.1 in
      let judged = then_later w of_type (d.c7_c8_parameter env of g.of.at) named (λ u. parameter_later env of g.of.at u parts.1) in
      let var = var_later (d.var_rule of is_function) g.by_reference first.0 in
      record {
        known = all_visible w env entity.Hidden g.names h refl;
        diagnostics = later_append w _ _ (later_append w _ _ (all_reported w env d.unfinished_variable g.names first.1) var) judged;
        bound = all_bound (entity_of (d.parameter_entity by_reference) t) g.names
            (entity_of_later w (d.parameter_entity by_reference) t (λ u. refl) judged);
      }

  -- ---- headings

  pub heading_later : (env : Environment) (of : Option Sort) (is_function : Bool) (gs : List s.Parameters)
      → environment_later w env ≡ true → all_after (parameters_after w.at) gs ≡ true → HeadingLater w (d.heading env of is_function gs)
  heading_later env of is_function [] h after = record { known = h; diagnostics = refl; bound = refl }
  heading_later env of is_function (g ∷ gs) h after =
      let parts = and_parts _ _ after in
      let group = d.parameter_group env of is_function g in
      let one = group_later env of is_function g h parts.0 in
      let rest = heading_later group.env of is_function gs one.known parts.1 in
      record {
        known = rest.known;
        diagnostics = later_append w _ _ one.diagnostics rest.diagnostics;
        bound = bound_append group.bound (d.heading group.env of is_function gs).bound one.bound rest.bound;
      }
