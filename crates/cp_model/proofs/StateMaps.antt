-- Numbers of processes, functions of them, and when two states are equal.
use Rattle.std.specs.Prelude.{Bool, false, if◌then◌else◌, nat_eq, not, refl, true, ℕ, ◌≡◌, ◌≢◌}
use Rattle.std.proofs.Common.{ap, sym, ◌∙◌}
use Rattle.std.proofs.lemmas.Bool.{eq-eqb, eqb-true, ne_eqb}
use Rattle.cp_model.specs.Locations.{OfActivation, OfMonitor, OfProcess, Owner}
use Rattle.cp_model.specs.States.{State, with_at}
use Rattle.cp_model.specs.Parts.{is_own}

abbrev pub is_foreign : ℕ → Owner → Bool
is_foreign p o = not (is_own p o)

-- No owner belongs to two processes.
pub own_apart : (p q : ℕ) (o : Owner) → p ≢ q → is_own p o ≡ true → is_own q o ≡ false
own_apart p q (OfProcess r) d h = ne_eqb q r (λ e. d (eqb-true p r h ∙ sym e))
own_apart p q (OfActivation r k) d h = ne_eqb q r (λ e. d (eqb-true p r h ∙ sym e))
own_apart p q (OfMonitor m) d h = refl

-- ---- Functions of a process's number

pub with_at_here : {A : Type 0} (p : ℕ) (v : A) (f : ℕ → A) → with_at p v f p ≡ v
with_at_here p v f = rw (eq-eqb p p refl) refl

pub with_at_there : {A : Type 0} (p q : ℕ) (v : A) (f : ℕ → A) → nat_eq p q ≡ false → with_at p v f q ≡ f q
with_at_there p q v f h = rw h refl

pub with_at_same : {A : Type 0} (p : ℕ) (v : A) (f : ℕ → A) → f p ≡ v → with_at p v f ≡ f
with_at_same p v f h = λ i k. go k (nat_eq p k) refl i
  where
    go : (k : ℕ) (b : Bool) → nat_eq p k ≡ b → (if b then v else f k) ≡ f k
    go k true e = sym h ∙ ap f (eqb-true p k e)
    go k false e = refl

pub with_at_swap : {A : Type 0} (p q : ℕ) (v u : A) (f : ℕ → A) → p ≢ q → with_at p v (with_at q u f)
    ≡ with_at q u (with_at p v f)
with_at_swap p q v u f d = λ i k. go k (nat_eq p k) (nat_eq q k) refl refl i
  where
    go : (k : ℕ) (a b : Bool) → nat_eq p k ≡ a → nat_eq q k ≡ b → (if a then v else (if b then u else f k))
        ≡ (if b then u else (if a then v else f k))
    go k true true e g = absurd (d (eqb-true p k e ∙ sym (eqb-true q k g)))
    go k true false e g = refl
    go k false true e g = refl
    go k false false e g = refl

-- ---- States

pub state_is : (a b : State) → a.store ≡ b.store → a.continuation ≡ b.continuation → a.transcript ≡ b.transcript
    → a.consumed ≡ b.consumed → a.status ≡ b.status → a.gates ≡ b.gates → a.rounds ≡ b.rounds → a ≡ b
state_is a b s l o t u g r = λ i. record { store = s i; continuation = l i; transcript = o i; consumed = t i; status = u i; gates = g i; rounds = r i }
