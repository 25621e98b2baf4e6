-- What is in a list of numbers.
use Rattle.std.specs.Prelude.{Bool, List, false, if◌then◌else◌, nat_eq, refl, true, ℕ, ◌∷◌, ◌≡◌}
use Rattle.std.proofs.lemmas.Bool.{eq-eqb}
use Rattle.cp_model.specs.States.{is_in}

pub in_head : (p : ℕ) (ps : List ℕ) → is_in p (p ∷ ps) ≡ true
in_head p ps = rw (eq-eqb p p refl) refl

pub in_more : (p q : ℕ) (ps : List ℕ) → is_in p ps ≡ true → is_in p (q ∷ ps) ≡ true
in_more p q ps h = go (nat_eq p q)
  where
    go : (b : Bool) → (if b then true else is_in p ps) ≡ true
    go true = refl
    go false = h
