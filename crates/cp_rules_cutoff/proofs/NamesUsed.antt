-- What is reported of a designator's names, and of what they represent, is later.
use Rattle.std.proofs.Common.{Bool, false, None, Option, Some, [], refl, true, ℕ, ◌≡◌, ◌++◌, ◌∷◌}
use Rattle.std.specs.Prelude.{nat_lt}
use Rattle.std.proofs.lemmas.Bool.{and_parts}
use Rattle.cp_model.specs.Syntax as s
use Rattle.cp_model.specs.declared.rules.Access.{Access}
use Rattle.cp_model.specs.declared.rules.ArrayPart.{ArrayPart}
use Rattle.cp_model.specs.declared.rules.Entity.{Entity}
use Rattle.cp_model.specs.declared.rules.Entity.TheVariants as entity
use Rattle.cp_model.specs.declared.rules.Member.{Member}
use Rattle.cp_model.specs.declared.rules.Member.TheVariants as member
use Rattle.cp_model.specs.declared.rules.Mode.{Mode}
use Rattle.cp_model.specs.declared.rules.Mode.TheVariants as mode
use Rattle.cp_model.specs.declared.rules.Rule.TheVariants.{C2, C10}
use Rattle.cp_model.specs.declared.rules.Structure.{Structure}
use Rattle.cp_model.specs.declared.rules.Structure.TheVariants as structure
use Rattle.cp_model.specs.declared.rules.Violation.{Violation}
use Rattle.cp_model.specs.declared.tree.Identifier.{Identifier}
use Rattle.cp_model.specs.Names.{lookup}
use Rattle.cp_model.specs.RulesEnvironment.{Environment, Members, agree, c1_named, c4_c9_named, members_in, row_of}
use Rattle.cp_model.specs.RulesJudged.{Sound, guard, violation}
use Rattle.cp_model.specs.RulesNames as n
use Rattle.cp_rules_cutoff.specs.After.{designator_after, expression_after, name_after, selector_after, selectors_after}
use Rattle.cp_rules_cutoff.specs.Later.{entity_later, judged_later, violations_later}
use Rattle.cp_rules_cutoff.proofs.Combinators.{breaks_later, later_append, unless_later}
use Rattle.cp_rules_cutoff.proofs.Entities.{also_entity_later, entity_judged}
use Rattle.cp_rules_cutoff.proofs.Found.{always_later}
use Rattle.cp_rules_cutoff.proofs.Places.{first_after, last_after, token_after}

-- ---- What is selected

module _ (w : Violation) (env : Environment) where
  member_named_later : (x : Identifier) (a : Access) (m : Option Member) → name_after w.at x ≡ true
      → entity_judged w (n.member_named env x a m) ≡ true
  member_named_later x a None h = search breaks_later
  member_named_later x a (Some (member.Field t)) h = refl
  member_named_later x a (Some (member.Routine r)) h = refl

  member_among_later : (at : ℕ) (x : Identifier) (a : Access) (ms : Option Members) → nat_lt w.at at ≡ true → name_after w.at x ≡ true
      → entity_judged w (n.member_among env at x a ms) ≡ true
  member_among_later at x a None h g = search breaks_later
  member_among_later at x a (Some ms) h g = member_named_later x a (lookup x.name ms) g

  pub member_later : (at : ℕ) (x : Identifier) (e : Entity) → nat_lt w.at at ≡ true → name_after w.at x ≡ true
      → entity_judged w (n.member_of env at x e) ≡ true
  member_later at x (entity.Variable t a) h g = member_among_later at x a (members_in env (row_of env t).structure) h g
  member_later at x (entity.Constant base k) h g = search breaks_later
  member_later at x (entity.Type t) h g = search breaks_later
  member_later at x (entity.Routine r) h g = search breaks_later
  member_later at x (entity.Entry r) h g = search breaks_later
  member_later at x (entity.Standard f) h g = search breaks_later
  member_later at x entity.UnfinishedConstant h g = search breaks_later
  member_later at x entity.UnfinishedType h g = search breaks_later
  member_later at x (entity.UnfinishedRoutine r) h g = search breaks_later
  member_later at x entity.Hidden h g = search breaks_later
  member_later at x (entity.Broken v) h g = search breaks_later

  array_in_later : (at : ℕ) (a : Access) (row : Structure) → nat_lt w.at at ≡ true → judged_later w (n.array_in at a row) ≡ true
  array_in_later at a (structure.Array index element) h = refl
  array_in_later at a (structure.Simple base low high) h = search breaks_later
  array_in_later at a (structure.Record k) h = search breaks_later
  array_in_later at a (structure.System y) h = search breaks_later
  array_in_later at a structure.Queue h = search breaks_later

  pub array_later : (at : ℕ) (e : Entity) → nat_lt w.at at ≡ true → judged_later w (n.c2_array env at e) ≡ true
  array_later at (entity.Variable t a) h = array_in_later at a (row_of env t).structure h
  array_later at (entity.Constant base k) h = search breaks_later
  array_later at (entity.Type t) h = search breaks_later
  array_later at (entity.Routine r) h = search breaks_later
  array_later at (entity.Entry r) h = search breaks_later
  array_later at (entity.Standard f) h = search breaks_later
  array_later at entity.UnfinishedConstant h = search breaks_later
  array_later at entity.UnfinishedType h = search breaks_later
  array_later at (entity.UnfinishedRoutine r) h = search breaks_later
  array_later at entity.Hidden h = search breaks_later
  array_later at (entity.Broken v) h = search breaks_later

  pub index_later : (at : ℕ) (part : ArrayPart) (t : ℕ) → nat_lt w.at at ≡ true → entity_judged w (n.c2_index env at part t) ≡ true
  index_later at part t h = go (agree env part.index t)
    where
      go : (b : Bool) → entity_judged w (guard b C2 at (entity.Variable part.element part.access)) ≡ true
      go true = refl
      go false = breaks_later w C2 at h

  pub before_selectors_later : (x : Identifier) (ss : s.Selectors) (e : Entity) → name_after w.at x ≡ true → entity_later w e ≡ true
      → entity_judged w (n.before_selectors env x ss e) ≡ true
  before_selectors_later x s.NoSelectors e h g = g
  before_selectors_later x (s.MoreSelectors y ys) e h g = also_entity_later w (c4_c9_named env x e) (Sound e) (always_later w env x e h) g

-- ---- What is judged of the names, whatever is broken

module _ (w : Violation) (env : Environment) where
  before_index_later : (m : Mode) (d : s.Designator) → designator_after w.at d ≡ true → violations_later w (n.c2_before_index env m d) ≡ true
  before_index_later m (s.Designate x ss) h =
      unless_later w _ (n.first_rule m) x.at (first_after w.at (s.Designate x ss) h)

  member_entry_later : (y : Identifier) (o : Option Member) → name_after w.at y ≡ true → violations_later w (n.c5_member env y o) ≡ true
  member_entry_later y (Some (member.Routine r)) h = search unless_later
  member_entry_later y (Some (member.Field t)) h = refl
  member_entry_later y None h = refl

  selected_later : (x : Identifier) (ss : s.Selectors) → selectors_after w.at ss ≡ true → violations_later w (n.c5_selected env x ss) ≡ true
  selected_later x s.NoSelectors h = refl
  selected_later x (s.MoreSelectors (s.Indexed is) ss) h = refl
  selected_later x (s.MoreSelectors (s.Field at y) ss) h =
      let parts = and_parts (selector_after w.at (s.Field at y)) (selectors_after w.at ss) h in
      member_entry_later y (n.member_selected env y.name (c1_named env x)) (and_parts (nat_lt w.at at) (name_after w.at y) parts.0).1

  after_point_later : (d : s.Designator) → designator_after w.at d ≡ true → violations_later w (n.c5_after_point env d) ≡ true
  after_point_later (s.Designate x ss) h = selected_later x ss (and_parts (name_after w.at x) (selectors_after w.at ss) h).1

  pub queue_named_later : (m : Mode) (x : Identifier) → name_after w.at x ≡ true → violations_later w (n.c8_named env m x) ≡ true
  queue_named_later mode.Queue x h = refl
  queue_named_later mode.Value x h = search unless_later
  queue_named_later mode.Variable x h = search unless_later
  queue_named_later mode.FirstOperand x h = search unless_later

  pub names_used_later : (m : Mode) (d : s.Designator) → designator_after w.at d ≡ true → violations_later w (n.c2_c5_c8_named env m d) ≡ true
  names_used_later m d h =
      later_append w (n.c2_before_index env m d ++ n.c5_after_point env d) (n.c8_named env m (n.first_name d))
      (later_append w (n.c2_before_index env m d) (n.c5_after_point env d) (before_index_later m d h) (after_point_later d h))
      (queue_named_later m (n.first_name d) (first_after w.at d h))

  pub indexed_later : (m : Mode) (d : s.Designator) → designator_after w.at d ≡ true → violations_later w (n.c2_indexed env m d) ≡ true
  indexed_later m d h = unless_later w _ (n.sort_rule m d) (n.last_name d).at (last_after w.at d h)

  pub designator_changed_later : (d : s.Designator) → designator_after w.at d ≡ true → violations_later w (n.c10_designator env d) ≡ true
  designator_changed_later (s.Designate x ss) h = search (unless_later, first_after)

  no_variable_later : (e : s.Expression) → expression_after w.at e ≡ true → violations_later w (violation C10 (n.first_token e) ∷ []) ≡ true
  no_variable_later e h = breaks_later w C10 (n.first_token e) (token_after w.at e h)

  pub changed_later : (e : s.Expression) → expression_after w.at e ≡ true → violations_later w (n.c10_variable env e) ≡ true
  changed_later (s.Designated d) h = designator_changed_later d h
  changed_later (s.Number at k) h = no_variable_later (s.Number at k) h
  changed_later (s.Character at k) h = no_variable_later (s.Character at k) h
  changed_later (s.Call d es) h = no_variable_later (s.Call d es) h
  changed_later (s.Parenthesized at e) h = no_variable_later (s.Parenthesized at e) h
  changed_later (s.Not at e) h = no_variable_later (s.Not at e) h
  changed_later (s.Signed sign at e) h = no_variable_later (s.Signed sign at e) h
  changed_later (s.Binary a o at b) h = no_variable_later (s.Binary a o at b) h
