-- The words by which the rules join their judgements, where the meaning is an entity, which may know
-- of a broken declaration.
use Rattle.std.proofs.Common.{Bool, [], refl, true, ◌≡◌, ◌∷◌}
use Rattle.cp_model.specs.declared.rules.Entity.{Entity}
use Rattle.cp_model.specs.declared.rules.Violation.{Violation}
use Rattle.cp_model.specs.RulesJudged.{Broken, Judged, Sound, Violations, also, both, then_judge}
use Rattle.cp_rules_cutoff.specs.Later.{entity_later, judged_later, violations_later}
use Rattle.cp_rules_cutoff.proofs.Combinators.{later_append}

-- Nothing that is reported is earlier, and neither is what the entity knows of a broken
-- declaration.
abbrev pub entity_judged : Violation → Judged Entity → Bool
entity_judged w (Sound e) = entity_later w e
entity_judged w (Broken v vs) = violations_later w (v ∷ vs)

module _ (w : Violation) where
  pub entity_reported : (j : Judged Entity) → entity_judged w j ≡ true → judged_later w j ≡ true
  entity_reported (Sound e) h = refl
  entity_reported (Broken v vs) h = h

  pub with_entity_later : {A : Type 0} (j : Judged Entity) (k : Entity → Judged A)
      → entity_judged w j ≡ true → ((e : Entity) → entity_later w e ≡ true → judged_later w (k e) ≡ true) → judged_later w (then_judge j k) ≡ true
  with_entity_later (Sound e) k h g = g e h
  with_entity_later (Broken v vs) k h g = h

  pub also_entity_later : (vs : Violations) (j : Judged Entity) → violations_later w vs ≡ true → entity_judged w j ≡ true
      → entity_judged w (also vs j) ≡ true
  also_entity_later [] j h g = g
  also_entity_later (v ∷ vs) (Sound x) h g = later_append w (v ∷ vs) [] h refl
  also_entity_later (v ∷ vs) (Broken u us) h g = later_append w (v ∷ vs) (u ∷ us) h g

  pub then_entity_later : (j : Judged Entity) (k : Entity → Judged Entity)
      → entity_judged w j ≡ true → ((e : Entity) → entity_later w e ≡ true → entity_judged w (k e) ≡ true) → entity_judged w (then_judge j k) ≡ true
  then_entity_later (Sound x) k h g = g x h
  then_entity_later (Broken v vs) k h g = h

  pub both_entity_later : {A B : Type 0} (a : Judged A) (b : Judged B) (k : A → B → Judged Entity)
      → judged_later w a ≡ true → judged_later w b ≡ true → ((x : A) (y : B) → entity_judged w (k x y) ≡ true) → entity_judged w (both a b k) ≡ true
  both_entity_later (Sound x) (Sound y) k h g f = f x y
  both_entity_later (Sound x) (Broken u us) k h g f = g
  both_entity_later (Broken v vs) (Sound y) k h g f = later_append w (v ∷ vs) [] h refl
  both_entity_later (Broken v vs) (Broken u us) k h g f = later_append w (v ∷ vs) (u ∷ us) h g
