-- Private turns that are shared out in any way, followed by the kernel turns, make a lawful order.
use Rattle.std.specs.Prelude.{AllPairs, Bool, Contains, List, [], false, if◌then◌else◌, map, nat_eq, refl, replicate, suc, true, zero, ℕ, ◌++◌, ◌+◌, ◌∷◌, ◌≡◌, ◌≢◌}
use Rattle.std.proofs.Common.{ap, arith, sym, ◌∙◌}
use Rattle.std.proofs.lemmas.Bool.{eq-eqb, eqb-true}
use Rattle.cp_model.specs.States.{is_in}
use Rattle.cp_model.specs.Rounds.{Event, KernelTurn, PrivateStep}
use Rattle.cp_model.specs.Orders.{ArePrivateStepsFirst, AreStepsOf, IsDrawnOnce, IsLawful, kernel_turn_order, private_steps, steps_of}

-- ---- What is in a list

is_in-contained : (p : ℕ) (xs : List ℕ) → Contains xs p → is_in p xs ≡ true
is_in-contained p [] (k, below, at) = absurd (Prim.grind arith)
is_in-contained p (x ∷ xs) (zero, below, at) = rw (sym at, eq-eqb x x refl) refl
is_in-contained p (x ∷ xs) (suc k, below, at) = go (nat_eq p x) (is_in-contained p xs (k, Prim.omega arith, at))
  where
    go : (b : Bool) → is_in p xs ≡ true → (if b then true else is_in p xs) ≡ true
    go true h = refl
    go false h = h

contained-is_in : (p : ℕ) (xs : List ℕ) → is_in p xs ≡ true → Contains xs p
contained-is_in p [] h = absurd (Prim.grind arith)
contained-is_in p (x ∷ xs) h = go (nat_eq p x) refl h (contained-is_in p xs)
  where
    go : (b : Bool) → nat_eq p x ≡ b → (if b then true else is_in p xs) ≡ true → (is_in p xs ≡ true → Contains xs p)
        → Contains (x ∷ xs) p
    go true e h rest = (0, Prim.omega arith, sym (eqb-true p x e))
    go false e h rest = let c = rest h in (suc c.0, Prim.omega arith, c.2)

is_in-same : (p : ℕ) (xs ys : List ℕ) → (Contains xs p → Contains ys p) → (Contains ys p → Contains xs p)
    → is_in p xs ≡ is_in p ys
is_in-same p xs ys there back = go (is_in p xs) (is_in p ys) refl refl
  where
    go : (a b : Bool) → is_in p xs ≡ a → is_in p ys ≡ b → a ≡ b
    go true true f g = refl
    go false false f g = refl
    go true false f g = sym (is_in-contained p ys (there (contained-is_in p xs f))) ∙ g
    go false true f g = sym f ∙ is_in-contained p xs (back (contained-is_in p ys g))

-- ---- The number of steps of a process

private_steps-append : (p : ℕ) (es fs : List Event) → private_steps p (es ++ fs) ≡ private_steps p es + private_steps p fs
private_steps-append p [] fs = Prim.omega arith
private_steps-append p (KernelTurn q ∷ es) fs = private_steps-append p es fs
private_steps-append p (PrivateStep q ∷ es) fs = go (nat_eq p q) (private_steps-append p es fs)
  where
    go : (b : Bool) → private_steps p (es ++ fs) ≡ private_steps p es + private_steps p fs
        → (if b then suc (private_steps p (es ++ fs)) else private_steps p (es ++ fs))
        ≡ (if b then suc (private_steps p es) else private_steps p es) + private_steps p fs
    go true h = Prim.omega arith
    go false h = h

private_steps-replicate : (p q t : ℕ) → private_steps p (replicate t (PrivateStep q)) ≡ (if nat_eq p q then t else 0)
private_steps-replicate p q t = go t (nat_eq p q) refl
  where
    go : (n : ℕ) (b : Bool) → nat_eq p q ≡ b → private_steps p (replicate n (PrivateStep q)) ≡ (if b then n else 0)
    go zero true e = refl
    go zero false e = refl
    go (suc n) true e = rw e (ap suc (go n true e))
    go (suc n) false e = rw e (go n false e)

-- For processes that are drawn once each.
private_steps-steps_of : (p t : ℕ) (drawn : List ℕ) → AllPairs (λ a b. a ≢ b) drawn
    → private_steps p (steps_of t drawn) ≡ (if is_in p drawn then t else 0)
private_steps-steps_of p t [] distinct = refl
private_steps-steps_of p t (q ∷ drawn) distinct =
    private_steps-append p (replicate t (PrivateStep q)) (steps_of t drawn)
    ∙ ap (λ n. n + private_steps p (steps_of t drawn)) (private_steps-replicate p q t)
    ∙ go (nat_eq p q) (is_in p drawn) refl refl (private_steps-steps_of p t drawn tail)
  where
    tail : AllPairs (λ a b. a ≢ b) drawn
    tail i j d before below = distinct (suc i) (suc j) d (Prim.omega arith) (Prim.omega arith)

    again : nat_eq p q ≡ true → is_in p drawn ≡ true → ⊥
    again e h = let c = contained-is_in p drawn h in
        distinct 0 (suc c.0) p (Prim.omega arith) (Prim.omega arith) (sym (eqb-true p q e) ∙ sym c.2)

    go : (a b : Bool) → nat_eq p q ≡ a → is_in p drawn ≡ b → private_steps p (steps_of t drawn) ≡ (if b then t else 0)
        → (if a then t else 0) + private_steps p (steps_of t drawn) ≡ (if (if a then true else b) then t else 0)
    go true true e h n = absurd (again e h)
    go true false e h n = Prim.omega arith
    go false b e h n = Prim.omega arith ∙ n

-- ---- The kernel turns after them

private_steps-kernel_turns : (p : ℕ) (ps : List ℕ) → private_steps p (map KernelTurn ps) ≡ 0
private_steps-kernel_turns p [] = refl
private_steps-kernel_turns p (q ∷ ps) = private_steps-kernel_turns p ps

in_order-kernel_turns : (ps : List ℕ) → ArePrivateStepsFirst (map KernelTurn ps)
in_order-kernel_turns [] = tt
in_order-kernel_turns (q ∷ ps) = (private_steps-kernel_turns q ps, in_order-kernel_turns ps)

kernel_turn_order-kernel_turns : (ps : List ℕ) → kernel_turn_order (map KernelTurn ps) ≡ ps
kernel_turn_order-kernel_turns [] = refl
kernel_turn_order-kernel_turns (q ∷ ps) = ap (λ qs. q ∷ qs) (kernel_turn_order-kernel_turns ps)

order-after_steps : (es : List Event) (ps : List ℕ) → kernel_turn_order es ≡ []
    → kernel_turn_order (es ++ map KernelTurn ps) ≡ ps
order-after_steps [] ps private = kernel_turn_order-kernel_turns ps
order-after_steps (PrivateStep q ∷ es) ps private = order-after_steps es ps private
order-after_steps (KernelTurn q ∷ es) ps private = absurd (Prim.grind arith)

in_order-after_steps : (es : List Event) (ps : List ℕ) → kernel_turn_order es ≡ []
    → ArePrivateStepsFirst (es ++ map KernelTurn ps)
in_order-after_steps [] ps private = in_order-kernel_turns ps
in_order-after_steps (PrivateStep q ∷ es) ps private = in_order-after_steps es ps private
in_order-after_steps (KernelTurn q ∷ es) ps private = absurd (Prim.grind arith)

pub shared_turns_are_lawful : (t : ℕ) (ps drawn : List ℕ) (steps : List Event)
    → IsDrawnOnce ps drawn → AreStepsOf t drawn steps → IsLawful t ps (steps ++ map KernelTurn ps)
shared_turns_are_lawful t ps drawn steps once of = record {
  order = order-after_steps steps ps of.private;
  steps = λ p.
      private_steps-append p steps (map KernelTurn ps)
      ∙ ap (λ n. private_steps p steps + n) (private_steps-kernel_turns p ps)
      ∙ no_more (private_steps p steps)
      ∙ of.count p ∙ private_steps-steps_of p t drawn once.distinct
      ∙ ap (λ (b : Bool). if b then t else 0) (is_in-same p drawn ps (once.known p) (once.whole p));
  in_order = in_order-after_steps steps ps of.private;
}
  where
    no_more : (n : ℕ) → n + 0 ≡ n
    no_more n = Prim.omega arith
