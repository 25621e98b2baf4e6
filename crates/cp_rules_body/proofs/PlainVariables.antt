-- A variable that is named as a whole: nothing is broken in its use, if it has no queues and isn't
-- a component that is used as a value.
use Rattle.std.proofs.Common.{◌≡◌, ◌&&◌, ◌++◌, [], Bool, true, false, not, ℕ, Some, ap, refl, sym, ◌∙◌}
use Rattle.std.proofs.lemmas.Option.{same_Some}
use Rattle.cp_model.specs.Syntax as s
use Rattle.cp_model.specs.declared.tree.Identifier.{Identifier}
use Rattle.cp_model.specs.declared.rules.Access.{Access}
use Rattle.cp_model.specs.declared.rules.Entity.{Entity}
use Rattle.cp_model.specs.declared.rules.Entity.TheVariants as entity
use Rattle.cp_model.specs.declared.rules.Mode.{Mode}
use Rattle.cp_model.specs.declared.rules.Mode.TheVariants as mode
use Rattle.cp_model.specs.declared.rules.Rule.{Rule}
use Rattle.cp_model.specs.declared.rules.Rule.TheVariants.{C8}
use Rattle.cp_model.specs.RulesJudged.{Broken, Judged, Sound, Violations, also, guard, meaning_of, then_judge, unless}
use Rattle.cp_model.specs.RulesEnvironment.{Environment, c1_named, row_of}
use Rattle.cp_model.specs.RulesNames as n
use Rattle.cp_rules_body.specs.ExpressionParts.{judge_use}

meaning_is : (j : Judged Entity) (e : Entity) → Some e ≡ meaning_of j → j ≡ Sound e
meaning_is (Sound f) e h = ap Sound (same_Some f e (sym h))
meaning_is (Broken v vs) e h = absurd (cc)

passes : (t : ℕ) (has_queues fits : Bool) (r : Rule) (at to : ℕ) → not has_queues && fits ≡ true
    → also (unless (not has_queues) C8 at) (guard fits r to t) ≡ Sound t
passes t false true r at to h = refl
passes t false false r at to h = absurd (cc)
passes t true fits r at to h = absurd (cc)

passes_queue : (t : ℕ) (has_queues fits : Bool) (r : Rule) (to : ℕ) → not has_queues && fits ≡ true → guard fits r to t ≡ Sound t
passes_queue t false true r to h = refl
passes_queue t false false r to h = absurd (cc)
passes_queue t true fits r to h = absurd (cc)

-- the use of a name alone, by what the name is judged to be
abbrev use_as : Environment → Mode → Identifier → Violations → Judged Entity → Judged ℕ
use_as env m x queues j =
    also (unless (not (n.is_indexed_first s.NoSelectors && n.is_type j)) (n.first_rule m) x.at ++ [] ++ queues)
    (then_judge (then_judge j (n.before_selectors env x s.NoSelectors)) (n.value_of env m (s.Designate x s.NoSelectors)))

pub plain_use : (env : Environment) (m : Mode) (x : Identifier) (t : ℕ) (a : Access) → Some (entity.Variable t a) ≡ meaning_of (c1_named env x)
    → not (row_of env t).has_queues && n.is_used_as_component m env t ≡ true → judge_use env m (s.Designate x s.NoSelectors) ≡ Sound t
plain_use env mode.Value x t a found fits =
    ap (λ j. use_as env mode.Value x (unless (not (n.has_queues env j)) C8 x.at) j) (meaning_is (c1_named env x) (entity.Variable t a) found)
    ∙ passes t (row_of env t).has_queues (n.is_used_as_component mode.Value env t) _ x.at _ fits
plain_use env mode.Variable x t a found fits =
    ap (λ j. use_as env mode.Variable x (unless (not (n.has_queues env j)) C8 x.at) j) (meaning_is (c1_named env x) (entity.Variable t a) found)
    ∙ passes t (row_of env t).has_queues (n.is_used_as_component mode.Variable env t) C8 x.at x.at fits
plain_use env mode.FirstOperand x t a found fits =
    ap (λ j. use_as env mode.FirstOperand x (unless (not (n.has_queues env j)) C8 x.at) j) (meaning_is (c1_named env x) (entity.Variable t a) found)
    ∙ passes t (row_of env t).has_queues (n.is_used_as_component mode.FirstOperand env t) _ x.at _ fits
plain_use env mode.Queue x t a found fits =
    ap (λ j. use_as env mode.Queue x [] j) (meaning_is (c1_named env x) (entity.Variable t a) found)
    ∙ passes_queue t (row_of env t).has_queues (n.is_used_as_component mode.Queue env t) _ _ fits
