-- What is reported of a written type that is later is later, and so is the environment with what
-- was made of it.
use Rattle.std.proofs.Common.{◌≡◌, ◌∷◌, ◌++◌, ℕ, ℤ, Bool, List, [], map, nat_eq, refl, true}
use Rattle.std.specs.Prelude.{nat_lt, not, ◌||◌, ◌&&◌}
use Rattle.std.proofs.lemmas.Bool.{and_from, and_parts}
use Rattle.cp_model.specs.Syntax as s
use Rattle.cp_model.specs.declared.tree.Identifier.{Identifier}
use Rattle.cp_model.specs.declared.rules.Entity.{Entity}
use Rattle.cp_model.specs.declared.rules.Entity.TheVariants as entity
use Rattle.cp_model.specs.declared.rules.Position.{Position}
use Rattle.cp_model.specs.declared.rules.Position.TheVariants as position
use Rattle.cp_model.specs.declared.rules.Rule.TheVariants.{C1, C2, C3, C4, C6, C8, C13}
use Rattle.cp_model.specs.declared.rules.TypeRow.{TypeRow}
use Rattle.cp_model.specs.declared.rules.Violation.{Violation}
use Rattle.cp_model.specs.RulesEnvironment.{Environment, Text, c1_named, c4_unfinished, is_simple, row_of}
use Rattle.cp_model.specs.RulesJudged.{Broken, Judged, Sound, also, breaks}
use Rattle.cp_model.specs.RulesTypes as ty
use Rattle.cp_rules_cutoff.specs.After.{all_after, fields_after, name_after, type_after, types_after}
use Rattle.cp_rules_cutoff.specs.Later.{environment_later, judged_later, violations_later}
use Rattle.cp_rules_cutoff.proofs.Combinators.{also_later, both_later, breaks_later, guard_later, later_append, then_later, unless_later}
use Rattle.cp_rules_cutoff.proofs.Found.{constant_later, named_later, unfinished_later}

-- what was made and its environment are later
abbrev pub MadeLater : {A : Type 0} → Violation → ty.Made (Judged A) → Type 0
MadeLater w m = (environment_later w m.env ≡ true) × (judged_later w m.of ≡ true)

abbrev pub all_later : Violation → List (Judged ℕ) → Bool
all_later w [] = true
all_later w (j ∷ js) = judged_later w j && all_later w js

module _ (w : Violation) where
  -- ---- names of types

  unfinished : (x : Identifier) (e : Entity) → name_after w.at x ≡ true → judged_later w (also (c4_unfinished x e) (breaks {A = ℕ} C2 x.at)) ≡ true
  unfinished x e h = also_later w (c4_unfinished x e) (breaks {A = ℕ} C2 x.at) (unfinished_later w x e h) (breaks_later w C2 x.at h)

  type_meant : (x : Identifier) (e : Entity) → name_after w.at x ≡ true → judged_later w (ty.c2_type x e) ≡ true
  type_meant x (entity.Type t) h = refl
  type_meant x entity.UnfinishedType h = breaks_later w C4 x.at h
  type_meant x (entity.Constant base n) h = breaks_later w C2 x.at h
  type_meant x (entity.Variable t access) h = breaks_later w C2 x.at h
  type_meant x (entity.Routine r) h = breaks_later w C2 x.at h
  type_meant x (entity.Entry r) h = breaks_later w C2 x.at h
  type_meant x (entity.Standard f) h = breaks_later w C2 x.at h
  type_meant x entity.UnfinishedConstant h = unfinished x entity.UnfinishedConstant h
  type_meant x (entity.UnfinishedRoutine r) h = unfinished x (entity.UnfinishedRoutine r) h
  type_meant x entity.Hidden h = breaks_later w C2 x.at h
  type_meant x (entity.Broken v) h = breaks_later w C2 x.at h

  pub named_type_later : (env : Environment) (x : Identifier)
      → environment_later w env ≡ true → name_after w.at x ≡ true → judged_later w (ty.named_type env x) ≡ true
  named_type_later env x h g = then_later w (c1_named env x) (ty.c2_type x) (named_later w env h x g) (λ e. type_meant x e g)

  -- ---- types at their positions

  type_at_after : (t : s.TypeExpression) → type_after w.at t ≡ true → nat_lt w.at (ty.type_at t) ≡ true
  type_at_after (s.Named x) h = h
  type_at_after (s.Subrange a b) h = (and_parts _ _ h).0
  type_at_after (s.Array at is e) h = (and_parts _ _ (and_parts _ _ h).0).0
  type_at_after (s.Record at gs) h = (and_parts _ _ h).0

  placed_later : (env : Environment) (p : Position) (at : ℕ) (t : ℕ) → nat_lt w.at at ≡ true → judged_later w (ty.c6_c8_placed env p at t) ≡ true
  placed_later env p at t h =
      also_later w _ _ (unless_later w (ty.allows_structure env p (row_of env t).structure) C6 at h)
      (guard_later w (ty.allows_queues p || not (row_of env t).has_queues) C8 at t h)

  queues_later : (env : Environment) (p : Position) (t : s.TypeExpression) (j : Judged ℕ)
      → type_after w.at t ≡ true → violations_later w (ty.c8_written env p t j) ≡ true
  queues_later env p (s.Array at is e) (Broken v vs) h =
      unless_later w (ty.allows_queues p || not (ty.holds_queues env e)) C8 at (and_parts _ _ (and_parts _ _ h).0).0
  queues_later env p (s.Array at is e) (Sound x) h = refl
  queues_later env p (s.Named x) j h = refl
  queues_later env p (s.Subrange a b) j h = refl
  queues_later env p (s.Record at gs) j h = refl

  pub position_later : (env : Environment) (p : Position) (t : s.TypeExpression) (j : Judged ℕ)
      → type_after w.at t ≡ true → judged_later w j ≡ true → judged_later w (ty.judge_in_position env p t j) ≡ true
  position_later env p t j h g =
      also_later w _ _ (queues_later env p t j h) (then_later w j _ g (λ u. placed_later env p (ty.type_at t) u (type_at_after t h)))

  -- ---- subranges and arrays

  subrange_later : (at : ℕ) (a b : ℕ × ℤ) → nat_lt w.at at ≡ true → judged_later w (ty.c2_c3_subrange at a b) ≡ true
  subrange_later at a b h =
      also_later w _ _ (unless_later w (nat_eq a.0 b.0) C2 at h)
      (guard_later w (not (nat_eq a.0 b.0) || ty.at_most a.1 b.1) C3 at _ h)

  row_made : (env : Environment) (j : Judged TypeRow) → environment_later w env ≡ true → judged_later w j ≡ true → MadeLater w (ty.made_type env j)
  row_made env (Sound r) h g = (h, refl)
  row_made env (Broken v vs) h g = (h, g)

  written_index_later : (t : s.TypeExpression) (j : Judged ℕ) → type_after w.at t ≡ true → violations_later w (ty.c2_written_index t j) ≡ true
  written_index_later (s.Array at is e) (Broken v vs) h = breaks_later w C2 at (and_parts _ _ (and_parts _ _ h).0).0
  written_index_later (s.Array at is e) (Sound x) h = refl
  written_index_later (s.Record at gs) (Broken v vs) h = breaks_later w C2 at (and_parts _ _ h).0
  written_index_later (s.Record at gs) (Sound x) h = refl
  written_index_later (s.Named x) j h = refl
  written_index_later (s.Subrange a b) j h = refl

  arrays_later : (env : Environment) (at : ℕ) (is : List (Judged ℕ)) (e : Judged ℕ)
      → environment_later w env ≡ true → nat_lt w.at at ≡ true → all_later w is ≡ true → judged_later w e ≡ true → MadeLater w (ty.arrays env at is e)
  arrays_later env at [] e h after index element = (h, element)
  arrays_later env at (i ∷ is) e h after index element =
      let parts = and_parts _ _ index in
      let inner = arrays_later env at is e h after parts.1 element in
      row_made _ _ inner.0 (both_later w i _ _ parts.0 inner.1 (λ a b. guard_later w _ C13 at _ after))

  -- ---- records

  names_later : (seen : List Text) (xs : List Identifier) → all_after (name_after w.at) xs ≡ true → violations_later w (ty.c1_fields seen xs) ≡ true
  names_later seen [] h = refl
  names_later seen (x ∷ xs) h =
      let parts = and_parts _ _ h in
      later_append w _ _ (unless_later w (not (ty.has_name x.name seen)) C1 x.at parts.0) (names_later (seen ++ x.name ∷ []) xs parts.1)

  record_made : (env : Environment) (j : Judged ty.FieldList)
      → environment_later w env ≡ true → judged_later w j ≡ true → MadeLater w (ty.made_record env j)
  record_made env (Sound fs) h g = (h, refl)
  record_made env (Broken v vs) h g = (h, g)

  -- ---- written types

  mutual
    pub type_later : (env : Environment) (t : s.TypeExpression)
        → environment_later w env ≡ true → type_after w.at t ≡ true → MadeLater w (ty.type_of env t)
    type_later env (s.Named x) h g = (h, named_type_later env x h g)
    type_later env (s.Subrange a b) h g =
        let parts = and_parts _ _ g in
        row_made env _ h
        (both_later w _ _ _ (constant_later w env h a parts.0) (constant_later w env h b parts.1)
        (λ x y. subrange_later (ty.constant_at b) x y parts.1))
    type_later env (s.Array at is e) h g =
        let parts = and_parts _ _ g in
        let first = and_parts _ _ parts.0 in
        let indices = ty.index_types env is in
        let made = ty.type_of indices.env e in
        let index = indices_later env is h first.1 in
        let element = type_later indices.env e index.0 parts.1 in
        arrays_later made.env at indices.of _ element.0 first.0 index.1 (position_later made.env position.Element e made.of parts.1 element.1)
    type_later env (s.Record at gs) h g =
        let parts = and_parts _ _ g in
        let fields = fields_later env [] gs h parts.1 in
        record_made _ _ fields.0 (then_later w _ _ fields.1 (λ fs. guard_later w _ C13 at fs parts.0))

    indices_later : (env : Environment) (ts : s.TypeExpressions)
        → environment_later w env ≡ true → types_after w.at ts ≡ true
        → (environment_later w (ty.index_types env ts).env ≡ true) × (all_later w (ty.index_types env ts).of ≡ true)
    indices_later env s.NoTypes h g = (h, refl)
    indices_later env (s.MoreTypes t ts) h g =
        let parts = and_parts _ _ g in
        let one = type_later env t h parts.0 in
        let rest = indices_later (ty.type_of env t).env ts one.0 parts.1 in
        let here = then_later w _ _ one.1 (λ u. guard_later w (is_simple (ty.type_of env t).env u) C2 (ty.type_at t) u (type_at_after t parts.0)) in
        (rest.0, and_from _ _ (also_later w _ _ (written_index_later t (ty.type_of env t).of parts.0) here) rest.1)

    fields_later : (env : Environment) (seen : List Text) (gs : s.FieldGroups)
        → environment_later w env ≡ true → fields_after w.at gs ≡ true → MadeLater w (ty.fields_of env seen gs)
    fields_later env seen s.NoFields h g = (h, refl)
    fields_later env seen (s.MoreFields xs t gs) h g =
        let parts = and_parts _ _ g in
        let first = and_parts _ _ parts.0 in
        let one = type_later env t h first.1 in
        let rest = fields_later (ty.type_of env t).env (seen ++ map ty.name_of xs) gs one.0 parts.1 in
        let here = position_later (ty.type_of env t).env position.Field t (ty.type_of env t).of first.1 one.1 in
        (rest.0, also_later w _ _ (names_later seen xs first.0) (both_later w _ _ _ here rest.1 (λ u fs. refl)))

  pub type_placed_later : (env : Environment) (p : Position) (t : s.TypeExpression)
      → environment_later w env ≡ true → type_after w.at t ≡ true → MadeLater w (ty.type_placed env p t)
  type_placed_later env p t h g =
      let made = type_later env t h g in
      (made.0, position_later (ty.type_of env t).env p t (ty.type_of env t).of g made.1)
