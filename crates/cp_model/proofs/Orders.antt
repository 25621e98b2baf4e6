-- If steps of different processes commute, every lawful order of events leaves what one complete
-- turn after the other leaves.
--
-- This part knows nothing of the language: `one` is a step and `turn` a kernel turn, on any kind of
-- state.
use Rattle.std.specs.Prelude.{Bool, List, [], false, if◌then◌else◌, nat_eq, refl, suc, true, zero, ℕ, ◌∷◌, ◌≡◌, ◌≢◌}
use Rattle.std.proofs.Common.{ap, arith, subst, sym, ◌∙◌}
use Rattle.std.proofs.lemmas.Bool.{eq-eqb, eqb-false, eqb-true}
use Rattle.cp_model.specs.States.{is_in}
use Rattle.cp_model.specs.Rounds.{Event, KernelTurn, PrivateStep}
use Rattle.cp_model.specs.Orders.{ArePrivateStepsFirst, IsLawful, kernel_turn_order, private_steps}

-- No number occurs twice.
abbrev pub AreDistinct : List ℕ → Type 0
AreDistinct [] = Unit {0}
AreDistinct (p ∷ ps) = (is_in p ps ≡ false) × AreDistinct ps

-- The events except the private steps of p.
abbrev without : ℕ → List Event → List Event
without p [] = []
without p (PrivateStep q ∷ es) = if nat_eq p q then without p es else PrivateStep q ∷ without p es
without p (KernelTurn q ∷ es) = KernelTurn q ∷ without p es

-- The events except the first kernel turn.
abbrev past_turn : List Event → List Event
past_turn [] = []
past_turn (PrivateStep q ∷ es) = PrivateStep q ∷ past_turn es
past_turn (KernelTurn q ∷ es) = es

module _ {S : Type 0} (one turn : S → ℕ → S) where
  abbrev pub after : S → List Event → S
  after s [] = s
  after s (PrivateStep p ∷ es) = after (one s p) es
  after s (KernelTurn p ∷ es) = after (turn s p) es

  abbrev pub many : ℕ → S → ℕ → S
  many zero s p = s
  many (suc n) s p = many n (one s p) p

  -- Each process's steps and then its turn.
  abbrev pub one_by_one : ℕ → S → List ℕ → S
  one_by_one t s [] = s
  one_by_one t s (p ∷ ps) = one_by_one t (turn (many t s p) p) ps

  pub record MayChangePlaces (Good : S → Type 0) : Type 0 where
    pub good_one : (s : S) (p : ℕ) → Good s → Good (one s p)
    pub good_turn : (s : S) (p : ℕ) → Good s → Good (turn s p)
    pub ones : (s : S) (p q : ℕ) → p ≢ q → Good s → one (one s p) q ≡ one (one s q) p
    pub turns : (s : S) (p q : ℕ) → p ≢ q → Good s → turn (one s p) q ≡ one (turn s q) p

  module _ (Good : S → Type 0) (m : MayChangePlaces Good) where
    good_many : (n : ℕ) (s : S) (p : ℕ) → Good s → Good (many n s p)
    good_many zero s p g = g
    good_many (suc n) s p g = good_many n (one s p) p (m.good_one s p g)

    many_past_one : (n : ℕ) (s : S) (p q : ℕ) → q ≢ p → Good s → many n (one s q) p ≡ one (many n s p) q
    many_past_one zero s p q d g = refl
    many_past_one (suc n) s p q d g =
        ap (λ x. many n x p) (m.ones s q p d g) ∙ many_past_one n (one s p) p q d (m.good_one s p g)

    many_past_turn : (n : ℕ) (s : S) (p q : ℕ) → p ≢ q → Good s → many n (turn s q) p ≡ turn (many n s p) q
    many_past_turn zero s p q d g = refl
    many_past_turn (suc n) s p q d g =
        ap (λ x. many n x p) (sym (m.turns s p q d g)) ∙ many_past_turn n (one s p) p q d (m.good_one s p g)

    -- If none of p's steps is left.
    none_left : (p : ℕ) (es : List Event) → private_steps p es ≡ 0 → without p es ≡ es
    none_left p [] h = refl
    none_left p (KernelTurn q ∷ es) h = ap (λ x. KernelTurn q ∷ x) (none_left p es h)
    none_left p (PrivateStep q ∷ es) h = go (nat_eq p q) h (none_left p es)
      where
        go : (b : Bool) → (if b then suc (private_steps p es) else private_steps p es) ≡ 0
            → (private_steps p es ≡ 0 → without p es ≡ es)
            → (if b then without p es else PrivateStep q ∷ without p es) ≡ PrivateStep q ∷ es
        go true h ih = Prim.grind arith
        go false h ih = ap (λ x. PrivateStep q ∷ x) (ih h)

    -- p's steps may come first.
    first_steps : (p : ℕ) (es : List Event) (s : S) → Good s → ArePrivateStepsFirst es
        → after s es ≡ after (many (private_steps p es) s p) (without p es)
    first_steps p [] s g b = refl
    first_steps p (PrivateStep q ∷ es) s g b = go (nat_eq p q) refl (first_steps p es (one s q) (m.good_one s q g) b)
      where
        go : (e : Bool) → nat_eq p q ≡ e → after (one s q) es ≡ after (many (private_steps p es) (one s q) p) (without p es)
            → after (one s q) es ≡ after (many (if e then suc (private_steps p es) else private_steps p es) s p)
            (if e then without p es else PrivateStep q ∷ without p es)
        go true e ih = ih ∙ ap (λ x. after (many (private_steps p es) (one s x) p) (without p es)) (sym (eqb-true p q e))
        go false e ih =
            ih ∙ ap (λ x. after x (without p es)) (many_past_one (private_steps p es) s p q (λ f. eqb-false p q e (sym f)) g)
    first_steps p (KernelTurn q ∷ es) s g b = go (nat_eq p q) refl (first_steps p es (turn s q) (m.good_turn s q g) b.1)
      where
        go : (e : Bool) → nat_eq p q ≡ e → after (turn s q) es ≡ after (many (private_steps p es) (turn s q) p)
            (without p es)
            → after (turn s q) es ≡ after (many (private_steps p es) s p) (KernelTurn q ∷ without p es)
        go true e ih =
            let none : private_steps p es ≡ 0 = subst (λ x. private_steps x es ≡ 0) (sym (eqb-true p q e)) b.0 in
            rw (none, none_left p es none) refl
        go false e ih =
            ih ∙ ap (λ x. after x (without p es)) (many_past_turn (private_steps p es) s p q (eqb-false p q e) g)

    -- Then the first kernel turn may come, if none of its process's steps is left.
    then_turn : (p : ℕ) (ps : List ℕ) (es : List Event) (s : S) → Good s → private_steps p es ≡ 0 → kernel_turn_order es
        ≡ p ∷ ps
        → after s es ≡ after (turn s p) (past_turn es)
    then_turn p ps [] s g n k = Prim.grind arith
    then_turn p ps (KernelTurn q ∷ es) s g n k = ap (λ x. after (turn s x) es) (Prim.grind arith)
    then_turn p ps (PrivateStep q ∷ es) s g n k = go (nat_eq p q) refl n (then_turn p ps es (one s q) (m.good_one s q g))
      where
        go : (e : Bool) → nat_eq p q ≡ e → (if e then suc (private_steps p es) else private_steps p es) ≡ 0
            → (private_steps p es ≡ 0 → kernel_turn_order es ≡ p ∷ ps → after (one s q) es
            ≡ after (turn (one s q) p) (past_turn es))
            → after (one s q) es ≡ after (one (turn s p) q) (past_turn es)
        go true e n ih = Prim.grind arith
        go false e n ih = ih n k ∙ ap (λ x. after x (past_turn es)) (m.turns s q p (λ f. eqb-false p q e (sym f)) g)

-- ---- What is left of a lawful list is lawful

kernel_turn_order-without : (p : ℕ) (es : List Event) → kernel_turn_order (without p es) ≡ kernel_turn_order es
kernel_turn_order-without p [] = refl
kernel_turn_order-without p (KernelTurn q ∷ es) = ap (λ x. q ∷ x) (kernel_turn_order-without p es)
kernel_turn_order-without p (PrivateStep q ∷ es) = go (nat_eq p q) (kernel_turn_order-without p es)
  where
    go : (b : Bool) → kernel_turn_order (without p es) ≡ kernel_turn_order es
        → kernel_turn_order (if b then without p es else PrivateStep q ∷ without p es) ≡ kernel_turn_order es
    go true ih = ih
    go false ih = ih

private_steps-without : (p : ℕ) (es : List Event) → private_steps p (without p es) ≡ 0
private_steps-without p [] = refl
private_steps-without p (KernelTurn q ∷ es) = private_steps-without p es
private_steps-without p (PrivateStep q ∷ es) = go (nat_eq p q) refl (private_steps-without p es)
  where
    go : (b : Bool) → nat_eq p q ≡ b → private_steps p (without p es) ≡ 0
        → private_steps p (if b then without p es else PrivateStep q ∷ without p es) ≡ 0
    go true e ih = ih
    go false e ih = rw e ih

other_private_steps-without : (p r : ℕ) (es : List Event) → nat_eq r p ≡ false → private_steps r (without p es)
    ≡ private_steps r es
other_private_steps-without p r [] d = refl
other_private_steps-without p r (KernelTurn q ∷ es) d = other_private_steps-without p r es d
other_private_steps-without p r (PrivateStep q ∷ es) d = go (nat_eq p q) refl (other_private_steps-without p r es d)
  where
    go : (b : Bool) → nat_eq p q ≡ b → private_steps r (without p es) ≡ private_steps r es
        → private_steps r (if b then without p es else PrivateStep q ∷ without p es)
        ≡ (if nat_eq r q then suc (private_steps r es) else private_steps r es)
    go true e ih = rw (← eqb-true p q e, d) ih
    go false e ih = ap (λ x. if nat_eq r q then suc x else x) ih

in_order-without : (p : ℕ) (es : List Event) → ArePrivateStepsFirst es → ArePrivateStepsFirst (without p es)
in_order-without p [] b = tt
in_order-without p (KernelTurn q ∷ es) b = (go (nat_eq q p) refl, in_order-without p es b.1)
  where
    go : (e : Bool) → nat_eq q p ≡ e → private_steps q (without p es) ≡ 0
    go true e = rw (eqb-true q p e) (private_steps-without p es)
    go false e = other_private_steps-without p q es e ∙ b.0
in_order-without p (PrivateStep q ∷ es) b = go (nat_eq p q) (in_order-without p es b)
  where
    go : (e : Bool) → ArePrivateStepsFirst (without p es)
        → ArePrivateStepsFirst (if e then without p es else PrivateStep q ∷ without p es)
    go true ih = ih
    go false ih = ih

kernel_turn_order-past_turn : (p : ℕ) (ps : List ℕ) (es : List Event) → kernel_turn_order es ≡ p ∷ ps
    → kernel_turn_order (past_turn es) ≡ ps
kernel_turn_order-past_turn p ps [] h = Prim.grind arith
kernel_turn_order-past_turn p ps (PrivateStep q ∷ es) h = kernel_turn_order-past_turn p ps es h
kernel_turn_order-past_turn p ps (KernelTurn q ∷ es) h = Prim.grind arith

private_steps-past_turn : (r : ℕ) (es : List Event) → private_steps r (past_turn es) ≡ private_steps r es
private_steps-past_turn r [] = refl
private_steps-past_turn r (PrivateStep q ∷ es) = ap (λ x. if nat_eq r q then suc x else x) (private_steps-past_turn r es)
private_steps-past_turn r (KernelTurn q ∷ es) = refl

in_order-past_turn : (es : List Event) → ArePrivateStepsFirst es → ArePrivateStepsFirst (past_turn es)
in_order-past_turn [] b = tt
in_order-past_turn (PrivateStep q ∷ es) b = in_order-past_turn es b
in_order-past_turn (KernelTurn q ∷ es) b = b.1

rest_of : ℕ → List Event → List Event
rest_of p es = past_turn (without p es)

rest_is_lawful : (t p : ℕ) (ps : List ℕ) (es : List Event) → is_in p ps ≡ false → IsLawful t (p ∷ ps) es
    → IsLawful t ps (rest_of p es)
unfolding rest_of
rest_is_lawful t p ps es d h = record {
  order = kernel_turn_order-past_turn p ps (without p es) (kernel_turn_order-without p es ∙ h.order);
  steps = λ r. private_steps-past_turn r (without p es) ∙ go r (nat_eq r p) refl;
  in_order = in_order-past_turn (without p es) (in_order-without p es h.in_order);
}
  where
    go : (r : ℕ) (e : Bool) → nat_eq r p ≡ e → private_steps r (without p es) ≡ (if is_in r ps then t else 0)
    go r true e = rw (eqb-true r p e, d) (private_steps-without p es)
    go r false e = other_private_steps-without p r es e ∙ (rw e at (h.steps r))

no_events : (t : ℕ) (es : List Event) → IsLawful t [] es → es ≡ []
no_events t [] h = refl
no_events t (PrivateStep q ∷ es) h = let n = h.steps q in absurd (go (nat_eq q q) (eq-eqb q q refl) n)
  where
    go : (b : Bool) → b ≡ true → (if b then suc (private_steps q es) else private_steps q es) ≡ 0 → ⊥
    go true e n = Prim.grind arith
    go false e n = Prim.grind arith
no_events t (KernelTurn q ∷ es) h = let o = h.order in absurd (Prim.grind arith)

module _ {S : Type 0} (one turn : S → ℕ → S) (Good : S → Type 0) (m : MayChangePlaces one turn Good) where
  good_past : (t : ℕ) (s : S) (p : ℕ) → Good s → Good (turn (many one turn t s p) p)
  good_past t s p g = m.good_turn _ p (good_many one turn Good m t s p g)

  pub lawful_is_one_by_one : (t : ℕ) (ps : List ℕ) (es : List Event) (s : S) → AreDistinct ps → Good s → IsLawful t ps es
      → after one turn s es ≡ one_by_one one turn t s ps
  unfolding rest_of
  lawful_is_one_by_one t [] es s d g h = rw (no_events t es h) refl
  lawful_is_one_by_one t (p ∷ ps) es s d g h =
      first_steps one turn Good m p es s g h.in_order
      ∙ ap (λ n. after one turn (many one turn n s p) (without p es)) (rw (eq-eqb p p refl) at (h.steps p))
      ∙ then_turn one turn Good m p ps (without p es) (many one turn t s p) (good_many one turn Good m t s p g)
      (private_steps-without p es) (kernel_turn_order-without p es ∙ h.order)
      ∙ lawful_is_one_by_one t ps (rest_of p es) (turn (many one turn t s p) p) d.1 (good_past t s p g)
      (rest_is_lawful t p ps es d.0 h)
