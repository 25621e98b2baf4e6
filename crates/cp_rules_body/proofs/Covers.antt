-- What the names of a designator represent covers what the designator represents: if nothing is
-- broken in it, the two are the same.
--
-- What is selected of something covered is covered too: a field is found by its name alone, and of
-- an index only its place in the text and its type count, which may be broken.
use Rattle.std.proofs.Common.{◌≡◌, ℕ, Bool, true, false, Option, Some, [], ◌∷◌, refl, sym, subst}
use Rattle.std.specs.Bool.{⊤}
use Rattle.cp_model.specs.Syntax as s
use Rattle.cp_model.specs.declared.rules.Entity.{Entity}
use Rattle.cp_model.specs.declared.rules.Entity.TheVariants as entity
use Rattle.cp_model.specs.declared.rules.ArrayPart.{ArrayPart}
use Rattle.cp_model.specs.declared.rules.Mode.TheVariants as mode
use Rattle.cp_model.specs.declared.rules.Rule.TheVariants.{C2}
use Rattle.cp_model.specs.declared.tree.Identifier.{Identifier}
use Rattle.cp_model.specs.RulesJudged.{Judged, Sound, Broken, Violations, also, both, then_judge, meaning_of, guard}
use Rattle.cp_model.specs.RulesEnvironment.{Environment, agree, c1_named, c4_c9_named}
use Rattle.cp_model.specs.RulesNames.{before_selectors, c2_array, c2_index, first_token, member_of}
use Rattle.cp_model.specs.RulesExpressions.{designate, apply_indices, judge, select, apply_selectors}
use Rattle.cp_model.specs.RulesNeeds.{need_called}
use Rattle.cp_rules_body.specs.EntitiesNamed as names

abbrev Covers : Option Entity → Judged Entity → Type 0
Covers known (Sound e) = known ≡ Some e
Covers known (Broken v vs) = ⊤

covers_meaning : (j : Judged Entity) → Covers (meaning_of j) j
covers_meaning (Sound e) = refl
covers_meaning (Broken v vs) = tt

covers_member : (env : Environment) (at : ℕ) (x : Identifier) (known : Option Entity) (j : Judged Entity)
    → Covers known j → Covers (names.member env at x known) (then_judge j (member_of env at x))
covers_member env at x known (Sound e) c = subst (λ k. Covers (names.member env at x k) (member_of env at x e)) (sym c) (covers_meaning (member_of env at x e))
covers_member env at x known (Broken v vs) c = tt

covers_agreed : (fits : Bool) (at : ℕ) (part : ArrayPart) → Covers (names.element_of (Some part)) (guard fits C2 at (entity.Variable part.element part.access))
covers_agreed true at part = refl
covers_agreed false at part = tt

covers_index : (env : Environment) (at : ℕ) (j : Judged ArrayPart) (i : Judged ℕ) → Covers (names.element_of (meaning_of j)) (both j i (c2_index env at))
covers_index env at (Sound part) (Sound t) = covers_agreed (agree env part.index t) at part
covers_index env at (Sound part) (Broken v vs) = tt
covers_index env at (Broken v vs) i = tt

covers_element : (env : Environment) (at place : ℕ) (known : Option Entity) (j : Judged Entity) (i : Judged ℕ)
    → Covers known j → Covers (names.element env at known) (both (then_judge j (c2_array env at)) i (c2_index env place))
covers_element env at place known (Sound e) i c =
    subst (λ k. Covers (names.element env at k) (both (c2_array env at e) i (c2_index env place))) (sym c) (covers_index env place (c2_array env at e) i)
covers_element env at place known (Broken v vs) i c = tt

covers_elements : (env : Environment) (known : Option Entity) (j : Judged Entity) (is : s.Indices) → Covers known j → Covers (names.elements env known is) (apply_indices env j is)
covers_elements env known j s.NoIndices c = c
covers_elements env known j (s.MoreIndices at i is) c =
    let element = both (then_judge j (c2_array env at)) (judge env mode.Value i) (c2_index env (first_token i)) in
    covers_elements env (names.element env at known) element is (covers_element env at (first_token i) known j (judge env mode.Value i) c)

covers_part : (env : Environment) (known : Option Entity) (j : Judged Entity) (y : s.Selector) → Covers known j → Covers (names.part env known y) (select env j y)
covers_part env known j (s.Field at x) c = covers_member env at x known j c
covers_part env known j (s.Indexed is) c = covers_elements env known j is c

covers_parts : (env : Environment) (known : Option Entity) (j : Judged Entity) (ss : s.Selectors) → Covers known j → Covers (names.parts env known ss) (apply_selectors env j ss)
covers_parts env known j s.NoSelectors c = c
covers_parts env known j (s.MoreSelectors y ys) c = covers_parts env (names.part env known y) (select env j y) ys (covers_part env known j y c)

covers_beside : (vs : Violations) (e : Entity) → Covers (Some e) (also vs (Sound e))
covers_beside [] e = refl
covers_beside (v ∷ vs) e = tt

covers_first : (env : Environment) (x : Identifier) (ss : s.Selectors) (e : Entity) → Covers (Some e) (before_selectors env x ss e)
covers_first env x s.NoSelectors e = refl
covers_first env x (s.MoreSelectors y ys) e = covers_beside (c4_c9_named env x e) e

covers_root : (env : Environment) (x : Identifier) (ss : s.Selectors) (j : Judged Entity) → Covers (meaning_of j) (then_judge j (before_selectors env x ss))
covers_root env x ss (Sound e) = covers_first env x ss e
covers_root env x ss (Broken v vs) = tt

pub covers : (env : Environment) (d : s.Designator) → Covers (names.designated_entity env d) (designate env d)
covers env (s.Designate x ss) = covers_parts env (meaning_of (c1_named env x)) (then_judge (c1_named env x) (before_selectors env x ss)) ss (covers_root env x ss (c1_named env x))

-- what is covered by something that isn't a routine has no need
no_need : (env : Environment) (known : Option Entity) (j : Judged Entity) → Covers known j → names.is_routine known ≡ false → need_called env j ≡ 0
no_need env known (Sound e) c h = of e (subst (λ k. names.is_routine k ≡ false) c h)
  where
    of : (e : Entity) → names.is_routine (Some e) ≡ false → need_called env (Sound e) ≡ 0
    of (entity.Routine r) g = absurd (cc)
    of (entity.Entry r) g = absurd (cc)
    of _ g = refl
no_need env known (Broken v vs) c h = refl

pub needs_nothing : (env : Environment) (d : s.Designator) → names.is_routine (names.designated_entity env d) ≡ false → need_called env (designate env d) ≡ 0
needs_nothing env d = no_need env (names.designated_entity env d) (designate env d) (covers env d)
