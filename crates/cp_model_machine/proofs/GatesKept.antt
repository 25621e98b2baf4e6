-- The kernel's gates are those of the state, even after one of them is set.
use Rattle.std.proofs.Common.{◌≡◌, ℕ, zero, suc, ◌-◌, ◌≤◌, List, [], ◌∷◌, length, Bool, true, false, refl, ap, sym, ◌∙◌, arith}
use Rattle.std.specs.Prelude.{get_or, if◌then◌else◌, nat_eq, slice_set}
use Rattle.std.proofs.lemmas.Bool.{eqb-true, eq-eqb, true≢false, ne_eqb}
use Rattle.std.proofs.lemmas.List.{get_or-set_other, get_or-set_same}
use Rattle.cp_model.specs.States.{Gate, Unset, with_at}
use Rattle.cp_model_machine.specs.KernelSteps.{gate_of}
use Rattle.cp_model_machine.proofs.Tables.{one_less}

abbrev pub GatesAre : List Gate → (ℕ → Gate) → Type 0
GatesAre gs f = (m : ℕ) → gate_of gs m ≡ f m

abbrev no_gate : Gate
no_gate = record { holder = Unset; askers = [] }

gate_is : (gs : List Gate) (m : ℕ) → gate_of gs (suc m) ≡ get_or gs m no_gate
gate_is [] m = refl
gate_is (g ∷ gs) zero = refl
gate_is (g ∷ gs) (suc m) = gate_is gs m

-- A gate that exists can be set.
pub gate_set : (gs : List Gate) (f : ℕ → Gate) (m : ℕ) (g : Gate) → 1 ≤ m → m ≤ length gs → GatesAre gs f → GatesAre (slice_set gs (m - 1) g) (with_at m g f)
gate_set gs f zero g low high same j = absurd (omega (arith, low))
gate_set gs f (suc i) g low high same zero = same zero ∙ ap (λ b. if b then g else f zero) (sym (ne_eqb (suc i) zero (λ e. absurd (omega (arith, e)))))
gate_set gs f (suc i) g low high same (suc n) =
    gate_is (slice_set gs (suc i - 1) g) n ∙ (ap (λ k. get_or (slice_set gs k g) n no_gate) (one_less i) ∙ by (nat_eq (suc i) (suc n)) refl)
  where
    by : (b : Bool) → nat_eq (suc i) (suc n) ≡ b → get_or (slice_set gs i g) n no_gate ≡ (if b then g else f (suc n))
    by true e =
        let here : n ≡ i = omega (arith, eqb-true (suc i) (suc n) e) in
        ap (λ k. get_or (slice_set gs i g) k no_gate) here ∙ get_or-set_same gs i g no_gate (omega (arith, high))
    by false e =
        get_or-set_other gs i n g no_gate (λ h. true≢false (sym (eq-eqb (suc i) (suc n) (omega (arith, h))) ∙ e)) ∙ (sym (gate_is gs n) ∙ same (suc n))
