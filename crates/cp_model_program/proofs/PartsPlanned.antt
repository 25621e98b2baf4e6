-- The plan of parts that are one after another writes their start values, whichever of them is
-- planned last.
use Rattle.std.proofs.Common.{◌≡◌, ◌≤◌, inl, inr, ℕ, ◌+◌, ℤ, List, [], ◌∷◌, ◌++◌, refl, ap, sym, subst, ◌∙◌, Bool, true, false, if◌then◌else◌, length, arith}
use Rattle.std.specs.Prelude.{nat_lt}
use Rattle.std.proofs.lemmas.List.{length-append}
use Rattle.cp_model_program.specs.Starts.{paste, carry_out}
use Rattle.cp_model_program.specs.Plans.{Placed, heaviest_last, plan_in_order, plan_of_parts, weight}
use Rattle.cp_model_program.proofs.Pasting.{paste_append, paste_length, paste_swap}
use Rattle.cp_model_program.proofs.PlansWrite.{Blank, farther_on, plan_before_is, Writes, blank_part, blank_first, blank_beside}

-- The part writes some values.
pub record WritesPart (zeros : Bool) (p : Placed) : Type 0 where
  pub values : List ℤ
  pub size_is : length values ≡ p.size
  pub writes : Writes zeros p.size p.plan values

abbrev WriteParts : Bool → List Placed → Type 0
WriteParts zeros [] = Unit {0}
WriteParts zeros (p ∷ ps) = WritesPart zeros p × WriteParts zeros ps

-- All parts begin at a word or behind it.
abbrev Behind : ℕ → List Placed → Type 0
Behind n [] = Unit {0}
Behind n (p ∷ ps) = (n ≤ p.at) × Behind n ps

-- Each part is before those that follow it.
abbrev Ascend : List Placed → Type 0
Ascend [] = Unit {0}
Ascend (p ∷ ps) = Behind (p.at + p.size) ps × Ascend ps

-- There is room for all parts, and their words are 0 if they have to be.
abbrev Ready : Bool → ℕ → List ℤ → List Placed → Type 0
Ready zeros base ws [] = Unit {0}
Ready zeros base ws (p ∷ ps) = (base + p.at + p.size ≤ length ws) × Blank zeros ws (base + p.at) p.size × Ready zeros base ws ps

part_written : (zeros : Bool) (p : Placed) (w : WritesPart zeros p) (base : ℕ) (ws : List ℤ) → base + p.at + p.size ≤ length ws → Blank zeros ws (base + p.at) p.size
    → carry_out (base + p.at) p.plan ws ≡ paste (base + p.at) w.values ws
part_written zeros p w base ws room blank = w.writes (base + p.at) ws room blank

-- What is written before parts leaves them ready.
ready_behind : (zeros : Bool) (base at n : ℕ) (xs ws : List ℤ) → length xs ≡ n → (ps : List Placed) → Behind (at + n) ps → Ready zeros base ws ps
    → Ready zeros base (paste (base + at) xs ws) ps
ready_behind zeros base at n xs ws is [] behind ready = tt
ready_behind zeros base at n xs ws is (p ∷ ps) behind ready = (
  omega (arith, ready.0, paste_length (base + at) xs ws),
  blank_beside zeros xs ws (base + at) (base + p.at) p.size (inr (omega (arith, is, behind.0))) ready.1,
  ready_behind zeros base at n xs ws is ps behind.1 ready.2,
)

-- Parts that are beside one another can be written in either order.
module _ (zeros : Bool) (base : ℕ) (p q : Placed) (qs : List Placed) (w : WritesPart zeros p) (v : WritesPart zeros q)
    (behind : Behind (p.at + p.size) (q ∷ qs)) (ascend : Ascend (q ∷ qs)) (ws : List ℤ) (ready : Ready zeros base ws (p ∷ q ∷ qs)) where
  abbrev after_p : List ℤ
  after_p = carry_out (base + p.at) p.plan ws

  abbrev after_q : List ℤ
  after_q = carry_out (base + q.at) q.plan ws

  p_written : after_p ≡ paste (base + p.at) w.values ws
  p_written = part_written zeros p w base ws ready.0 ready.1

  q_written : after_q ≡ paste (base + q.at) v.values ws
  q_written = part_written zeros q v base ws ready.2.0 ready.2.1

  ready_p : Ready zeros base after_p (q ∷ qs)
  ready_p = subst (λ z. Ready zeros base z (q ∷ qs)) (sym p_written) (ready_behind zeros base p.at p.size w.values ws w.size_is (q ∷ qs) behind ready.2)

  ready_q : Ready zeros base after_q (p ∷ qs)
  ready_q =
      subst (λ z. Ready zeros base z (p ∷ qs)) (sym q_written) (
        omega (arith, ready.0, paste_length (base + q.at) v.values ws),
        blank_beside zeros v.values ws (base + q.at) (base + p.at) p.size (inl (omega (arith, behind.0))) ready.1,
        ready_behind zeros base q.at q.size v.values ws v.size_is qs ascend.0 ready.2.2,
      )

  either_first : carry_out (base + p.at) p.plan after_q ≡ carry_out (base + q.at) q.plan after_p
  either_first =
      part_written zeros p w base after_q ready_q.0 ready_q.1
      ∙ ap (paste (base + p.at) w.values) q_written
      ∙ paste_swap (base + p.at) w.values (base + q.at) v.values ws (omega (arith, behind.0, w.size_is))
      ∙ ap (paste (base + q.at) v.values) (sym p_written)
      ∙ sym (part_written zeros q v base after_p ready_p.0 ready_p.1)

  one_step : ((z : List ℤ) → Ready zeros base z (p ∷ qs) → carry_out base (plan_in_order (heaviest_last p qs)) z ≡ carry_out base (plan_in_order (p ∷ qs)) z)
      → ((z : List ℤ) → Ready zeros base z (q ∷ qs) → carry_out base (plan_in_order (heaviest_last q qs)) z ≡ carry_out base (plan_in_order (q ∷ qs)) z)
      → (b : Bool) → carry_out base (plan_in_order (if b then q ∷ heaviest_last p qs else p ∷ heaviest_last q qs)) ws ≡ carry_out base (plan_in_order (p ∷ q ∷ qs)) ws
  one_step with_p with_q true =
      plan_before_is q.at q.plan (plan_in_order (heaviest_last p qs)) base ws
      ∙ with_p after_q ready_q
      ∙ plan_before_is p.at p.plan (plan_in_order qs) base after_q
      ∙ ap (carry_out base (plan_in_order qs)) either_first
      ∙ sym (plan_before_is q.at q.plan (plan_in_order qs) base after_p)
      ∙ sym (plan_before_is p.at p.plan (plan_in_order (q ∷ qs)) base ws)
  one_step with_p with_q false =
      plan_before_is p.at p.plan (plan_in_order (heaviest_last q qs)) base ws
      ∙ with_q after_p ready_p
      ∙ sym (plan_before_is p.at p.plan (plan_in_order (q ∷ qs)) base ws)

heaviest_last_is : (zeros : Bool) (base : ℕ) (p : Placed) (qs : List Placed) → WritesPart zeros p → WriteParts zeros qs → Behind (p.at + p.size) qs → Ascend qs
    → (ws : List ℤ) → Ready zeros base ws (p ∷ qs)
    → carry_out base (plan_in_order (heaviest_last p qs)) ws ≡ carry_out base (plan_in_order (p ∷ qs)) ws
heaviest_last_is zeros base p [] w all behind ascend ws ready = refl
heaviest_last_is zeros base p (q ∷ qs) w all behind ascend ws ready =
    one_step zeros base p q qs w all.0 behind ascend ws ready
    (heaviest_last_is zeros base p qs w all.1 behind.1 ascend.1)
    (heaviest_last_is zeros base q qs all.0 all.1 ascend.0 ascend.1)
    (nat_lt (weight q) (weight p))

arranged_is : (zeros : Bool) (base : ℕ) (ps : List Placed) → WriteParts zeros ps → Ascend ps → (ws : List ℤ) → Ready zeros base ws ps
    → carry_out base (plan_of_parts ps) ws ≡ carry_out base (plan_in_order ps) ws
arranged_is zeros base [] all ascend ws ready = refl
arranged_is zeros base (p ∷ ps) all ascend ws ready = heaviest_last_is zeros base p ps all.0 all.1 ascend.0 ascend.1 ws ready

-- The parts are one after the other from a word on, and write these values.
abbrev pub Follow : Bool → ℕ → List Placed → List ℤ → Type 0
Follow zeros at [] values = values ≡ []
Follow zeros at (p ∷ ps) values =
    (p.at ≡ at) × (w : WritesPart zeros p) × (others : List ℤ) × (values ≡ w.values ++ others) × Follow zeros (at + p.size) ps others

module _ (zeros : Bool) where
  follow_write : (at : ℕ) (ps : List Placed) (values : List ℤ) → Follow zeros at ps values → WriteParts zeros ps
  follow_write at [] values h = tt
  follow_write at (p ∷ ps) values h = (h.1, follow_write (at + p.size) ps h.2 h.4)

  follow_behind : (n at : ℕ) (ps : List Placed) (values : List ℤ) → n ≤ at → Follow zeros at ps values → Behind n ps
  follow_behind n at [] values less h = tt
  follow_behind n at (p ∷ ps) values less h =
      (omega (arith, less, h.0), follow_behind n (at + p.size) ps h.2 (omega (arith, less)) h.4)

  follow_ascend : (at : ℕ) (ps : List Placed) (values : List ℤ) → Follow zeros at ps values → Ascend ps
  follow_ascend at [] values h = tt
  follow_ascend at (p ∷ ps) values h = (
    follow_behind (p.at + p.size) (at + p.size) ps h.2 (omega (arith, h.0)) h.4,
    follow_ascend (at + p.size) ps h.2 h.4,
  )

  follow_length : (at : ℕ) (p : Placed) (ps : List Placed) (values : List ℤ) (h : Follow zeros at (p ∷ ps) values) → length values ≡ p.size + length h.2
  follow_length at p ps values h =
      ap length h.3 ∙ length-append h.1.values h.2 ∙ ap (λ n. n + length h.2) h.1.size_is

  follow_ready : (base at : ℕ) (ps : List Placed) (values : List ℤ) (ws : List ℤ) → Follow zeros at ps values → base + at + length values ≤ length ws
      → Blank zeros ws (base + at) (length values) → Ready zeros base ws ps
  follow_ready base at [] values ws h room blank = tt
  follow_ready base at (p ∷ ps) values ws h room blank = (
    omega (arith, room, size, h.0),
    subst (λ n. Blank zeros ws (base + n) p.size) (sym h.0) (blank_first zeros ws (base + at) (length values) p.size blank (omega (arith, size))),
    follow_ready base (at + p.size) ps h.2 ws h.4 (omega (arith, room, size))
        (subst (λ n. Blank zeros ws n (length h.2)) (sym (farther_on base at p.size))
        (blank_part zeros ws (base + at) (length values) p.size (length h.2) blank (omega (arith, size)))),
  )
    where
      size : length values ≡ p.size + length h.2
      size = follow_length at p ps values h

  in_order_is : (base at : ℕ) (ps : List Placed) (values : List ℤ) (ws : List ℤ) → Follow zeros at ps values → base + at + length values ≤ length ws
      → Blank zeros ws (base + at) (length values) → carry_out base (plan_in_order ps) ws ≡ paste (base + at) values ws
  in_order_is base at [] values ws h room blank = ap (λ xs. paste (base + at) xs ws) (sym h)
  in_order_is base at (p ∷ ps) values ws h room blank =
      plan_before_is p.at p.plan (plan_in_order ps) base ws
      ∙ ap (carry_out base (plan_in_order ps)) (part_written zeros p w base ws ready.0 ready.1 ∙ ap (λ n. paste (base + n) w.values ws) h.0)
      ∙ in_order_is base (at + p.size) ps others ws' h.4 (omega (arith, room, size, paste_length (base + at) w.values ws)) later
      ∙ ap (λ n. paste n others ws') (place (length w.values) w.size_is)
      ∙ sym (paste_append (base + at) w.values others ws)
      ∙ ap (λ xs. paste (base + at) xs ws) (sym h.3)
    where
      w : WritesPart zeros p
      w = h.1

      others : List ℤ
      others = h.2

      ws' : List ℤ
      ws' = paste (base + at) w.values ws

      size : length values ≡ p.size + length others
      size = follow_length at p ps values h

      ready : Ready zeros base ws (p ∷ ps)
      ready = follow_ready base at (p ∷ ps) values ws h room blank

      place : (n : ℕ) → n ≡ p.size → base + (at + p.size) ≡ base + at + n
      place n e = omega (arith, e)

      later : Blank zeros ws' (base + (at + p.size)) (length others)
      later =
          blank_beside zeros w.values ws (base + at) (base + (at + p.size)) (length others) (inr (omega (arith, w.size_is)))
          (subst (λ n. Blank zeros ws n (length others)) (sym (farther_on base at p.size))
          (blank_part zeros ws (base + at) (length values) p.size (length others) blank (omega (arith, size))))

  pub parts_planned : (base at : ℕ) (ps : List Placed) (values : List ℤ) (ws : List ℤ) → Follow zeros at ps values → base + at + length values ≤ length ws
      → Blank zeros ws (base + at) (length values) → carry_out base (plan_of_parts ps) ws ≡ paste (base + at) values ws
  parts_planned base at ps values ws h room blank =
      arranged_is zeros base ps (follow_write at ps values h) (follow_ascend at ps values h) ws (follow_ready base at ps values ws h room blank)
      ∙ in_order_is base at ps values ws h room blank
