-- The events of a lawful order are of processes of the text: each number that it names is among
-- those for which it has steps or a kernel turn.
use Rattle.std.proofs.Common.{◌≡◌, ℕ, zero, suc, ◌+◌, ◌≤◌, ◌<◌, List, [], ◌∷◌, Bool, true, false, refl, ap, sym, ◌∙◌, arith}
use Rattle.std.specs.Prelude.{if◌then◌else◌, nat_eq}
use Rattle.std.proofs.lemmas.Bool.{eq-eqb, eqb-true, true≢false}
use Rattle.cp_model.specs.Orders.{IsLawful, kernel_turn_order, private_steps}
use Rattle.cp_model.specs.Rounds.{Event, KernelTurn, PrivateStep}
use Rattle.cp_model.specs.States.{is_in, numbers_from}
use Rattle.cp_model.proofs.Lists.{in_head, in_more}
use Rattle.cp_model_machine.specs.Replays.{AreWithin}

numbers_between : (p q n : ℕ) → is_in p (numbers_from q n) ≡ true → (q ≤ p) × (p < q + n)
numbers_between p q zero h = absurd (true≢false (sym h))
numbers_between p q (suc n) h = by (nat_eq p q) refl h (numbers_between p (suc q) n)
  where
    by : (b : Bool) → nat_eq p q ≡ b → (if b then true else is_in p (numbers_from (suc q) n)) ≡ true
        → (is_in p (numbers_from (suc q) n) ≡ true → (suc q ≤ p) × (p < suc q + n)) → (q ≤ p) × (p < q + suc n)
    by true e h rest = (omega (arith, eqb-true p q e), omega (arith, eqb-true p q e))
    by false e h rest = let r = rest h in (omega (arith, r.0), omega (arith, r.1))

not_counted : (b : Bool) (n : ℕ) → (if b then suc n else n) ≡ 0 → (b ≡ false) × (n ≡ 0)
not_counted true n h = absurd (omega (arith, h))
not_counted false n h = (refl, h)

within : (n : ℕ) (es : List Event)
    → ((p : ℕ) → is_in p (numbers_from 1 n) ≡ false → private_steps p es ≡ 0)
    → ((p : ℕ) → is_in p (kernel_turn_order es) ≡ true → is_in p (numbers_from 1 n) ≡ true)
    → AreWithin n es
within n [] steps turns = tt
within n (PrivateStep q ∷ es) steps turns =
    let r = numbers_between q 1 n (known (is_in q (numbers_from 1 n)) refl) in
    (r.0, omega (arith, r.1), within n es (λ p out. (not_counted (nat_eq p q) (private_steps p es) (steps p out)).1) turns)
  where
    known : (b : Bool) → is_in q (numbers_from 1 n) ≡ b → is_in q (numbers_from 1 n) ≡ true
    known true e = e
    known false e = absurd (true≢false (sym (eq-eqb q q refl) ∙ (not_counted (nat_eq q q) (private_steps q es) (steps q e)).0))
within n (KernelTurn q ∷ es) steps turns =
    let r = numbers_between q 1 n (turns q (in_head q (kernel_turn_order es))) in
    (r.0, omega (arith, r.1), within n es steps (λ p h. turns p (in_more p q (kernel_turn_order es) h)))

pub lawful_within : (t n : ℕ) (es : List Event) → IsLawful t (numbers_from 1 n) es → AreWithin n es
lawful_within t n es lawful =
    within n es
    (λ p out. lawful.steps p ∙ ap (λ b. if b then t else 0) out)
    (λ p h. sym (ap (is_in p) lawful.order) ∙ h)
