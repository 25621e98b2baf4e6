-- What a kernel has at the start, element by element.
use Rattle.std.proofs.Common.{◌≡◌, ◌<◌, ℕ, zero, suc, ℤ, List, [], ◌∷◌, ◌++◌, Some, slice_get, slice_set, map, length, drop, refl, ap, sym, ◌∙◌, arith}
use Rattle.std.specs.Prelude.{replicate, slice_index_or}
use Rattle.cp_model_program.specs.Programs as code
use Rattle.cp_model_machine.specs.KernelSteps as plain
use Rattle.cp_model_machine.specs.Machines as machines
use Rattle.cp_private.specs.States as states
use Rattle.cp_kernel.specs.KernelOf.{unset_gate}
use Rattle.cp_private.specs.declared.kernel_view.SchedulingState.TheVariants as stage

pub one_more : {X Y : Type 0} (f : X → Y) (xs : List X) (n : ℕ) (x : X) (y : Y) → map f xs ≡ replicate n y → f x ≡ y
    → map f (xs ++ x ∷ []) ≡ replicate (suc n) y
one_more f [] zero x y all is = ap (λ z. z ∷ []) is
one_more f [] (suc n) x y all is = absurd (cc)
one_more f (z ∷ xs) zero x y all is = absurd (cc)
one_more f (z ∷ xs) (suc n) x y all is =
    let first = ap (λ ys. slice_index_or ys 0 y) all in
    let rest = ap (λ ys. drop 1 ys) all in
    (λ i. first i ∷ one_more f xs n x y rest is i)

unstarted : (processes : List code.Process)
    → map states.stage (replicate (length processes) stage.Unstarted) ≡ map (λ y. plain.Unstarted) processes
unstarted [] = refl
unstarted (x ∷ xs) = ap (λ gs. plain.Unstarted ∷ gs) (unstarted xs)

pub first_begun : (processes : List code.Process) (count : ℕ) → length processes ≡ count
    → map states.stage (slice_set (replicate count stage.Unstarted) 0 stage.Begun) ≡ machines.first_stages processes
first_begun [] count is = ap (λ n. map states.stage (slice_set (replicate n stage.Unstarted) 0 stage.Begun)) (sym is)
first_begun (x ∷ xs) count is =
    ap (λ n. map states.stage (slice_set (replicate n stage.Unstarted) 0 stage.Begun)) (sym is) ∙ ap (λ gs. plain.Begun ∷ gs) (unstarted xs)

pub next_monitor : (ms : List code.Monitor) (i : ℕ) → i < length ms
    → (m : code.Monitor) × (slice_get ms i ≡ Some m) × (drop i ms ≡ m ∷ drop (suc i) ms)
next_monitor [] i below = absurd (omega (arith, below))
next_monitor (m ∷ ms) zero below = (m, refl, refl)
next_monitor (m ∷ ms) (suc i) below = next_monitor ms i (omega (arith, below))

pub none_left : (ms : List code.Monitor) (ws : List ℤ) → machines.first_shared (drop (length ms) ms) ws ≡ ws
none_left [] ws = refl
none_left (m ∷ ms) ws = none_left ms ws

pub unset_of : (ms : List code.Monitor) (n : ℕ) → n ≡ length ms → replicate n unset_gate ≡ map (λ (m : code.Monitor). unset_gate) ms
unset_of [] n is = ap (λ k. replicate k unset_gate) is
unset_of (m ∷ ms) n is = ap (λ k. replicate k unset_gate) is ∙ ap (λ gs. unset_gate ∷ gs) (unset_of ms (length ms) refl)

pub empty_of : (ps : List code.Process) (n : ℕ) → n ≡ length ps → replicate {A = List ℕ} n [] ≡ map (λ (p : code.Process). []) ps
empty_of [] n is = ap (λ k. replicate {A = List ℕ} k []) is
empty_of (p ∷ ps) n is = ap (λ k. replicate {A = List ℕ} k []) is ∙ ap (λ xs. [] ∷ xs) (empty_of ps (length ps) refl)
