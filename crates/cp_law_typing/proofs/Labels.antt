-- The labels of a `case`: constants of the base of its selector, each once.
use Rattle.std.proofs.Common.{◌≡◌, ℕ, ℤ, Bool, true, false, ◌&&◌, ◌||◌, not, List, [], ◌∷◌, ◌++◌, Option, Some, None, if◌then◌else◌, nat_eq, eqb-true, eq-eqb, slice_get, map, refl, ap, ap₂, sym, subst, ◌∙◌}
use Rattle.std.proofs.lemmas.Bool.{true≢false}
use Rattle.cp_model.specs.Abstract as a
use Rattle.cp_model.specs.Erase as erase
use Rattle.cp_model.specs.declared.tree.Constant.{Constant}
use Rattle.cp_model.specs.declared.rules.Rule.TheVariants.{C2, C3}
use Rattle.cp_model.specs.RulesJudged.{Judged, Sound, then_judge, unless, violations_of}
use Rattle.cp_model.specs.RulesEnvironment.{Environment}
use Rattle.cp_model.specs.RulesTypes.{constant, constant_at}
use Rattle.cp_model.specs.RulesStatements.{Label, c2_c3_label, is_among, labels, more_seen}
use Rattle.cp_model.specs.Types.{GlobalScope, base_of_type, constant_value, full_range}
use Rattle.cp_model.specs.Integers.{same_integer}
use Rattle.cp_law_typing.specs.Judgement.{IsNew, Place, TypedLabels, labels_seen}
use Rattle.cp_model.proofs.Judging.{also_none, also_sound, first_empty, provided_sound, rest_empty, sound_has, then_sound}
use Rattle.cp_law_typing.proofs.TypeRows.{holds, ValueAs, constant_valued}
use Rattle.cp_law_typing.proofs.TableMeanings.{BaseAt, Types}
use Rattle.cp_law_typing.proofs.Visible.{Visible, some_same}

module _ (G : GlobalScope → Type 0) (env : Environment) (rs : Types) (p : Place) (v : Visible G env rs p) where
  -- ---- labels

  -- the labels so far are of the selector's base
  abbrev pub AllOf : ℕ → List Label → Type 0
  AllOf k [] = Unit {0}
  AllOf k (c ∷ cs) = (c.0 ≡ k) × AllOf k cs

  abbrev pub ordinals : List Label → List ℤ
  ordinals [] = []
  ordinals (c ∷ cs) = c.1 ∷ ordinals cs

  pub of_more : (k : ℕ) (cs : List Label) (c : Label) → AllOf k cs → c.0 ≡ k → AllOf k (cs ++ c ∷ [])
  of_more k [] c h e = (e, tt)
  of_more k (x ∷ cs) c h e = (h.0, of_more k cs c h.1 e)

  pub ordinals_more : (cs : List Label) (c : Label) → ordinals (cs ++ c ∷ []) ≡ ordinals cs ++ c.1 ∷ []
  ordinals_more [] c = refl
  ordinals_more (x ∷ cs) c = ap (λ l. x.1 ∷ l) (ordinals_more cs c)

  pub new_label : (k : ℕ) (c : Label) (cs : List Label) → c.0 ≡ k → AllOf k cs → is_among c cs ≡ false → IsNew c.1 (ordinals cs)
  new_label k c [] e h g = tt
  new_label k c (x ∷ cs) e h g =
      let same : nat_eq c.0 x.0 ≡ true = ap₂ nat_eq e h.0 ∙ eq-true k in
      let parts : (same_integer c.1 x.1 ≡ false) × (is_among c cs ≡ false) =
      either (same_integer c.1 x.1) (is_among c cs) (sym (ap (λ b. (b && same_integer c.1 x.1) || is_among c cs) same) ∙ g) in
      (parts.0, new_label k c cs e h.1 parts.1)
    where
      eq-true : (n : ℕ) → nat_eq n n ≡ true
      eq-true n = eq-eqb n n refl

      either : (a b : Bool) → (a || b) ≡ false → (a ≡ false) × (b ≡ false)
      either true b h = absurd (true≢false h)
      either false b h = (refl, h)

  pub record LabelsAs (b : a.BaseType) (k : ℕ) (seen : List Label) (cs : List Constant) (after : List Label) : Type 0 where
    pub typed : TypedLabels p.env.globals b (ordinals seen) (map erase.constant cs)
    pub seen_is : labels_seen p.env.globals (map erase.constant cs) (ordinals seen) ≡ ordinals after
    pub of : AllOf k after

  pub labels_as : (cs : List Constant) (b : a.BaseType) (k : ℕ) (seen : List Label) → BaseAt rs k b → AllOf k seen → (labels env (Some k) seen cs).violations ≡ []
      → LabelsAs b k seen cs (labels env (Some k) seen cs).seen
  labels_as [] b k seen base all h = record { typed = tt; seen_is = refl; of = all }
  labels_as (c ∷ cs) b k seen base all h =
      let one : Judged Label = constant env c in
      let judged : Judged Label = then_judge one (c2_c3_label (Some k) seen (constant_at c)) in
      let first : violations_of judged ≡ [] = first_empty (violations_of judged) _ h in
      let is : (w : Label) × (judged ≡ Sound w) = sound_has judged first in
      let inner : (x : Label) × (one ≡ Sound x) × (c2_c3_label (Some k) seen (constant_at c) x ≡ Sound is.0) = then_sound one (c2_c3_label (Some k) seen (constant_at c)) is.0 is.1 in
      let x : Label = inner.0 in
      let base_same : k ≡ x.0 = eqb-true k x.0 (holds (nat_eq k x.0) C2 (constant_at c) (also_none (unless (nat_eq k x.0) C2 (constant_at c)) _ is.0 inner.2)) in
      let fresh : is_among x seen ≡ false =
      not_true (is_among x seen) (provided_sound (not (is_among x seen)) C3 (constant_at c) x is.0 (also_sound (unless (nat_eq k x.0) C2 (constant_at c)) _ is.0 inner.2)).0 in
      let value : ValueAs G rs c x = constant_valued G rs env c x v.globals v.tables inner.1 in
      let same : value.0 ≡ b = ap base_of_type (some_same (slice_get rs k) (full_range value.0) (full_range b) (ap (slice_get rs) base_same ∙ value.1) base) in
      let valued : constant_value p.env.globals (erase.constant c) ≡ Some (b, x.1) = value.2 p.env.globals v.scope ∙ ap (λ y. Some (y, x.1)) same in
      let more : more_seen seen one ≡ seen ++ x ∷ [] = ap (more_seen seen) inner.1 ∙ ap (λ z. if z then seen else seen ++ x ∷ []) fresh in
      let rest : LabelsAs b k (seen ++ x ∷ []) cs (labels env (Some k) (seen ++ x ∷ []) cs).seen =
      labels_as cs b k (seen ++ x ∷ []) base (of_more k seen x all (sym base_same))
      (sym (ap (λ z. (labels env (Some k) z cs).violations) more) ∙ rest_empty (violations_of judged) _ h) in
      subst (λ z. LabelsAs b k seen (c ∷ cs) (labels env (Some k) z cs).seen) (sym more) (record {
        typed = (
          x.1,
          valued,
          new_label k x seen (sym base_same) all fresh,
          subst (λ l. TypedLabels p.env.globals b l (map erase.constant cs)) (ordinals_more seen x) rest.typed,
        );
        seen_is = ap (λ o. seen_by o (map erase.constant cs) (ordinals seen)) valued
            ∙ ap (labels_seen p.env.globals (map erase.constant cs)) (sym (ordinals_more seen x)) ∙ rest.seen_is;
        of = rest.of;
      })
    where
      not_true : (b : Bool) → not b ≡ true → b ≡ false
      not_true true h = absurd (true≢false (sym h))
      not_true false h = refl

      seen_by : Option (a.BaseType × ℤ) → List a.Constant → List ℤ → List ℤ
      seen_by o cs seen = elim o [ Some v ↦ labels_seen p.env.globals cs (seen ++ v.1 ∷ []) | None ↦ labels_seen p.env.globals cs seen ]
