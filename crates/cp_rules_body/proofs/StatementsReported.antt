-- The violations of a statement are those of its parts.
use Rattle.std.proofs.Common.{◌≡◌, ◌≤◌, ℕ, List, [], ◌∷◌, Option, None, refl, ap, map, length, arith}
use Rattle.cp_model.specs.declared.tree.Identifier.{Identifier}
use Rattle.cp_model.specs.declared.tree.Selector.{Selector}
use Rattle.cp_model.specs.declared.rules.Returns.{Returns}
use Rattle.cp_model.specs.declared.rules.Returns.TheVariants as returns
use Rattle.cp_model.specs.RulesJudged.{Judged, Sound, Broken, meaning_of}
use Rattle.cp_model.specs.RulesEnvironment.{Environment}
use Rattle.cp_model.specs.RulesStatements as st
use Rattle.cp_model.specs.View.{selector, selectors_of}
use Rattle.cp_rules_body.specs.StatementParts as parts

-- ---- with selectors

pub own_result_some : (x : Identifier) (ss : List Selector) (r : Returns) → 1 ≤ length ss → st.own_result x (selectors_of (map selector ss)) r ≡ parts.part_of_result x r
own_result_some x [] r some = absurd (omega (arith, some))
own_result_some x (y ∷ ys) returns.Nothing some = refl
own_result_some x (y ∷ ys) (returns.Value t) some = refl
own_result_some x (y ∷ ys) (returns.Broken v) some = refl

pub component_alone_some : (env : Environment) (x : Identifier) (ss : List Selector) → 1 ≤ length ss → parts.component_alone env x (selectors_of (map selector ss)) ≡ None
component_alone_some env x [] some = absurd (omega (arith, some))
component_alone_some env x (y ∷ ys) some = refl

-- ---- assignments

pub component_reported : (env : Environment) (j : Judged ℕ) (t : Option ℕ) → t ≡ meaning_of j → parts.is_component_if env t ≡ st.is_component_type env j
component_reported env (Sound x) t h = ap (parts.is_component_if env) h
component_reported env (Broken v vs) t h = ap (parts.is_component_if env) h
