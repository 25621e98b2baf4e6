-- The places of a part that the rules name are places of the part: so they are later if the whole part is.
use Rattle.std.proofs.Common.{true, ℕ, ◌≡◌}
use Rattle.std.specs.Prelude.{nat_lt, ◌&&◌}
use Rattle.std.proofs.lemmas.Bool.{and_parts}
use Rattle.cp_model.specs.Syntax as s
use Rattle.cp_model.specs.declared.tree.Identifier.{Identifier}
use Rattle.cp_model.specs.RulesNames.{first_name, first_token, last_name, last_of}
use Rattle.cp_rules_cutoff.specs.After.{designator_after, expression_after, expressions_after, indices_after, name_after, selector_after, selectors_after}

module _ (p : ℕ) where
  pub first_after : (d : s.Designator) → designator_after p d ≡ true → name_after p (first_name d) ≡ true
  first_after (s.Designate x ss) h = (and_parts (name_after p x) (selectors_after p ss) h).0

  last_of_after : (x : Identifier) (ss : s.Selectors) → name_after p x ≡ true → selectors_after p ss ≡ true → name_after p (last_of x ss) ≡ true
  last_of_after x s.NoSelectors h g = h
  last_of_after x (s.MoreSelectors (s.Field at y) ss) h g =
      let parts = and_parts (selector_after p (s.Field at y)) (selectors_after p ss) g in
      last_of_after y ss (and_parts (nat_lt p at) (name_after p y) parts.0).1 parts.1
  last_of_after x (s.MoreSelectors (s.Indexed is) ss) h g = last_of_after x ss h (and_parts (indices_after p is) (selectors_after p ss) g).1

  pub last_after : (d : s.Designator) → designator_after p d ≡ true → name_after p (last_name d) ≡ true
  last_after (s.Designate x ss) h = let parts = and_parts (name_after p x) (selectors_after p ss) h in last_of_after x ss parts.0 parts.1

  pub token_after : (e : s.Expression) → expression_after p e ≡ true → nat_lt p (first_token e) ≡ true
  token_after (s.Number at n) h = h
  token_after (s.Character at n) h = h
  token_after (s.Designated d) h = first_after d h
  token_after (s.Call d es) h = first_after d (and_parts (designator_after p d) (expressions_after p es) h).0
  token_after (s.Parenthesized at e) h = (and_parts (nat_lt p at) (expression_after p e) h).0
  token_after (s.Not at e) h = (and_parts (nat_lt p at) (expression_after p e) h).0
  token_after (s.Signed sign at e) h = (and_parts (nat_lt p at) (expression_after p e) h).0
  token_after (s.Binary a o at b) h =
      token_after a (and_parts (expression_after p a) (nat_lt p at) (and_parts (expression_after p a && nat_lt p at) (expression_after p b) h).0).0
