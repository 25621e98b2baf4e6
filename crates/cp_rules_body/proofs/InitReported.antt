-- The violations of the parts of `init`.
use Rattle.std.proofs.Common.{◌≡◌, ◌≤◌, ◌+◌, ◌++◌, ℕ, zero, suc, List, [], ◌∷◌, Option, Some, None, refl, ap, length, drop, slice_get, arith}
use Rattle.cp_model.specs.Syntax as s
use Rattle.cp_model.specs.declared.tree.Identifier.{Identifier}
use Rattle.cp_model.specs.declared.tree.Selector.{Selector}
use Rattle.cp_model.specs.declared.rules.ParameterRow.{ParameterRow}
use Rattle.cp_model.specs.declared.rules.Rule.TheVariants.{C12}
use Rattle.cp_model.specs.declared.rules.Mode.TheVariants as mode
use Rattle.cp_model.specs.RulesJudged.{Judged, Sound, Broken, also, breaks, meaning_of, violation, violations_of}
use Rattle.cp_model.specs.RulesEnvironment.{Environment, c4_c9_named}
use Rattle.cp_model.specs.declared.rules.Access.{Access}
use Rattle.cp_model.specs.declared.rules.Entity.{Entity}
use Rattle.cp_model.specs.declared.rules.Entity.TheVariants as entity
use Rattle.cp_model.specs.RulesNames.{first_token}
use Rattle.cp_model.specs.RulesExpressions.{judge}
use Rattle.cp_model.specs.RulesStatements as st
use Rattle.cp_rules_body.specs.Designated.{designator_in}
use Rattle.cp_rules_body.specs.InitParts as parts

pub whole_name_some : (x : Identifier) (ss : List Selector) → 1 ≤ length ss → parts.whole_name x (parts.selectors ss) ≡ None
whole_name_some x [] some = absurd (omega (arith, some))
whole_name_some x (y ∷ ys) some = refl

pub argument_named : (env : Environment) (u : ℕ) (e : s.Expression) (x : Identifier) → Some x ≡ parts.name_alone e → st.component_argument env u e ≡ parts.name_argument env u x
argument_named env u (s.Designated (s.Designate y s.NoSelectors)) x h = let same : y ≡ x = cc in ap (parts.name_argument env u) same
argument_named env u (s.Designated (s.Designate y (s.MoreSelectors z zs))) x h = absurd (cc)
argument_named env u (s.Number at n) x h = absurd (cc)
argument_named env u (s.Character at n) x h = absurd (cc)
argument_named env u (s.Call d es) x h = absurd (cc)
argument_named env u (s.Parenthesized at e) x h = absurd (cc)
argument_named env u (s.Not at e) x h = absurd (cc)
argument_named env u (s.Signed sign at e) x h = absurd (cc)
argument_named env u (s.Binary a o at b) x h = absurd (cc)

pub argument_unnamed : (env : Environment) (u : ℕ) (e : s.Expression) → None ≡ parts.name_alone e
    → st.component_argument env u e ≡ also (violation C12 (first_token e) ∷ []) (st.surplus_argument env e)
argument_unnamed env u (s.Designated (s.Designate y s.NoSelectors)) h = absurd (cc)
argument_unnamed env u (s.Designated (s.Designate y (s.MoreSelectors z zs))) h = refl
argument_unnamed env u (s.Number at n) h = refl
argument_unnamed env u (s.Character at n) h = refl
argument_unnamed env u (s.Call d es) h = refl
argument_unnamed env u (s.Parenthesized at e) h = refl
argument_unnamed env u (s.Not at e) h = refl
argument_unnamed env u (s.Signed sign at e) h = refl
argument_unnamed env u (s.Binary a o at b) h = refl

pub unwanted_some : (env : Environment) (e : s.Expression) (d : s.Designator) → Some d ≡ designator_in e → st.surplus_argument env e ≡ parts.unwanted_designator env d
unwanted_some env (s.Designated z) d h = let same : z ≡ d = cc in ap (parts.unwanted_designator env) same
unwanted_some env (s.Number at n) d h = absurd (cc)
unwanted_some env (s.Character at n) d h = absurd (cc)
unwanted_some env (s.Call z es) d h = absurd (cc)
unwanted_some env (s.Parenthesized at e) d h = absurd (cc)
unwanted_some env (s.Not at e) d h = absurd (cc)
unwanted_some env (s.Signed sign at e) d h = absurd (cc)
unwanted_some env (s.Binary a o at b) d h = absurd (cc)

pub unwanted_none : (env : Environment) (e : s.Expression) → None ≡ designator_in e → st.surplus_argument env e ≡ judge env mode.Value e
unwanted_none env (s.Designated z) h = absurd (cc)
unwanted_none env (s.Number at n) h = refl
unwanted_none env (s.Character at n) h = refl
unwanted_none env (s.Call z es) h = refl
unwanted_none env (s.Parenthesized at e) h = refl
unwanted_none env (s.Not at e) h = refl
unwanted_none env (s.Signed sign at e) h = refl
unwanted_none env (s.Binary a o at b) h = refl

-- the argument with number k, and those after it
pub arguments_step : (env : Environment) (ps : List ParameterRow) (k m : ℕ) (e : s.Expression) (es : s.Expressions) → k + 1 ≡ m
    → st.init_arguments env (drop k ps) (s.MoreExpressions e es) ≡ violations_of (st.init_argument env (parts.type_if (slice_get ps k)) e) ++ st.init_arguments env (drop m ps) es
arguments_step env ps k zero e es next = absurd (omega (arith, next))
arguments_step env [] zero (suc m) e es next = refl
arguments_step env [] (suc k) (suc m) e es next = refl
arguments_step env (p ∷ ps) zero (suc m) e es next =
    let same : 0 ≡ m = omega (arith, next) in
    ap (λ i. violations_of (st.init_argument env p.of e) ++ st.init_arguments env (drop i ps) es) same
arguments_step env (p ∷ ps) (suc k) (suc m) e es next = arguments_step env ps k m e es (omega (arith, next))

pub parameters_reported : (env : Environment) (y : Option ℕ) (j : Judged ℕ) → y ≡ meaning_of j → parts.parameters_if env y ≡ st.parameters_in env j
parameters_reported env y (Sound x) h = ap (parts.parameters_if env) h
parameters_reported env y (Broken v vs) h = ap (parts.parameters_if env) h

-- ---- what isn't a variable

abbrev IsNoVariable : Entity → Type 0
IsNoVariable e = (t : ℕ) (a : Access) → e ≡ entity.Variable t a → ⊥

pub passed_other : (env : Environment) (u : ℕ) (x : Identifier) (e : Entity) → IsNoVariable e → st.c12_passed env u x e ≡ also (c4_c9_named env x e) (breaks C12 x.at)
passed_other env u x (entity.Variable t a) h = absurd (h t a refl)
passed_other env u x _ h = refl

pub component_other : (env : Environment) (x : Identifier) (e : Entity) → IsNoVariable e → st.c12_component env x e ≡ also (c4_c9_named env x e) (breaks C12 x.at)
component_other env x (entity.Variable t a) h = absurd (h t a refl)
component_other env x _ h = refl
