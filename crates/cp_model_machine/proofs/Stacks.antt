-- Activations are one after another, and all after the component of the process.
use Rattle.std.proofs.Common.{◌≡◌, ◌⊎◌, inl, inr, ℕ, ◌+◌, ◌≤◌, ℤ, List, [], ◌∷◌, length, Bool, true, false, Option, Some, None, refl, ap, sym, subst, ◌∙◌, arith}
use Rattle.std.specs.Prelude.{if◌then◌else◌, nat_eq}
use Rattle.std.proofs.lemmas.Bool.{eqb-true, true≢false}
use Rattle.cp_model.specs.Abstract.{System}
use Rattle.cp_model.specs.Continuations.{Do, EndBody, EndCall, EndProcess, ForNext, RepeatTest, Task, WhileTest}
use Rattle.cp_model.specs.Environments.{Environment, Frame}
use Rattle.cp_model.specs.Types.{GlobalScope}
use Rattle.cp_model_program.specs.Layout.{activation_words, component_words}
use Rattle.cp_model_program.specs.TermsFor.{Knowns, nothing_known}
use Rattle.cp_model_program.specs.Sites.{BodyOf, LeftOut, RoutineOf, UnitText}
use Rattle.cp_model_program.specs.IsProgramFor.{own_words, system_of_process}
use Rattle.cp_model_machine.specs.PrivateStates as machine
use Rattle.cp_model_machine.specs.Addresses.{Activation, AllWords, Ground, MonitorsLie, OwnWords, Sight, WhereMonitorsLie, activation_at, activation_of, activations, in_sight, scope, sees, whole, words_seen}
use Rattle.cp_model_machine.specs.Remaining.{FrameFor, Remaining, Running, kept_below, site}
use Rattle.cp_model_machine.proofs.Finding.{some_is_not_none}
use Rattle.cp_model.specs.Locations.{OfMonitor}
use Rattle.cp_model.proofs.Options.{same_some}

-- The activations are below `top`, each after the next one in the list, and all after the
-- component.
abbrev pub Stack : Ground → ℕ → List Activation → Type 0
Stack G top [] = (s : System) × (system_of_process G.setup G.p ≡ Some s) × (component_words (scope G) s ≤ top)
Stack G top (x ∷ xs) = (x.base + activation_words (scope G) x.routine ≤ top) × Stack G x.base xs

-- So the process has a system type.
pub process_of_stack : (G : Ground) (top : ℕ) (xs : List Activation) → Stack G top xs → (s : System) × (system_of_process G.setup G.p ≡ Some s)
process_of_stack G top [] h = (h.0, h.1)
process_of_stack G top (x ∷ xs) h = process_of_stack G x.base xs h.1

-- The activations are among the process's own words.
pub record Stacked (G : Ground) (top : ℕ) (xs : List Activation) : Type 0 where
  pub stack : Stack G top xs
  pub fits : top ≤ G.own

stacked_higher : (G : Ground) (n m : ℕ) (xs : List Activation) → n ≤ m → Stack G n xs → Stack G m xs
stacked_higher G n m [] p h = (h.0, h.1, omega (arith, p, h.2))
stacked_higher G n m (x ∷ xs) p h = (omega (arith, p, h.0), h.1)

-- A routine's own words hold its activation.
pub frame_words : (g : GlobalScope) (t : UnitText) (f : Option Frame) (r : Frame) → f ≡ Some r → FrameFor t f → own_words g t ≡ activation_words g r.routine
frame_words g t None r e h = absurd (some_is_not_none r (sym e))
frame_words g (RoutineOf s q) (Some f) r e h = ap (activation_words g) (sym h ∙ ap (λ (y : Frame). y.routine) (same_some f r e))
frame_words g (BodyOf s) (Some f) r e h = absurd h
frame_words g (LeftOut s) (Some f) r e h = absurd h

pub stacked : (G : Ground) (temps : List ℤ) (limit : ℕ) (K : Knowns) (R : Running) (fs : List machine.Frame) (place low : ℕ) (k : List Task)
    → R.env.globals ≡ scope G → FrameFor R.text R.env.frame → Remaining G temps limit K R fs place low k
    → Stack G (R.base + (site G R).words) (activations R.base fs k)
stacked G temps limit K R fs place low [] gl w h = absurd h
stacked G temps limit K R fs place low (Do s e ∷ k) gl w h = stacked G temps limit nothing_known R fs h.2.0 h.2.1 k gl w h.2.4
stacked G temps limit K R fs place low (WhileTest now e s env ∷ k) gl w h =
    stacked G temps limit nothing_known R fs h.1.0 h.1.1 k gl w h.1.4
stacked G temps limit K R fs place low (RepeatTest now s e env ∷ k) gl w h =
    stacked G temps limit nothing_known R fs h.1.0 h.1.1 k gl w h.1.4
stacked G temps limit K R fs place low (ForNext x down n last s env ∷ k) gl w h =
    stacked G temps limit nothing_known R fs h.1.0 h.1.1 k gl w h.1.4
stacked G temps limit K R (f ∷ fs) place low (EndCall env gate ∷ k) gl w h =
    let c = h.3 in
    let keeps = c.5 in
    let below = stacked G temps limit (kept_below c.2 c.3 temps c.0.temp) c.0 fs c.1 c.2 k c.4.globals c.4.frame c.7 in
    let rest = subst (λ b. Stack G (c.0.base + (site G c.0).words) (activations b fs k)) (sym keeps.base) below in
    let own = ap (λ g. own_words g R.text) gl ∙ frame_words (scope G) R.text R.env.frame h.1.frame h.1.runs w in
    subst (λ z. Stack G (R.base + (site G R).words) (activation_of R.base z (activations f.base fs k)))
    (sym (ap (λ (y : Environment). y.frame) h.0 ∙ h.1.runs))
    (stack_frame own (stacked_higher G (c.0.base + (site G c.0).words) R.base (activations f.base fs k) keeps.words_apart rest))
  where
    stack_frame : (site G R).words ≡ activation_words (scope G) h.1.frame.routine → Stack G R.base (activations f.base fs k)
        → Stack G (R.base + (site G R).words) (record { base = R.base; routine = h.1.frame.routine } ∷ activations f.base fs k)
    stack_frame own rest = (omega (arith, own), rest)
stacked G temps limit K R (f ∷ fs) place low (EndBody gate ∷ k) gl w h =
    let c = h.3 in
    let keeps = c.3 in
    let below = stacked G temps limit nothing_known c.0 fs f.counter c.1 k c.2.globals c.2.frame c.4 in
    let rest = subst (λ b. Stack G (c.0.base + (site G c.0).words) (activations b fs k)) (sym keeps.base) below in
    stacked_higher G (c.0.base + (site G c.0).words) (R.base + (site G R).words) (activations f.base fs k)
    (omega (arith, keeps.words_apart)) rest
stacked G temps limit K R fs place low (EndProcess ∷ k) gl w h =
    subst (λ z. Stack G (R.base + (site G R).words) (activations R.base fs z)) (sym h.1) (h.4.0, h.4.1, omega (arith, h.4.2))
stacked G temps limit K R [] place low (EndCall env gate ∷ k) gl w h = absurd h
stacked G temps limit K R [] place low (EndBody gate ∷ k) gl w h = absurd h

-- ---- look-ups of activations

-- The activations are after the component of the process.
pub bottom_below : (G : Ground) (n : ℕ) (zs : List Activation) → Stack G n zs → (s : System) → system_of_process G.setup G.p ≡ Some s → component_words (scope G) s ≤ n
bottom_below G n [] h s i = omega (arith, h.2, ap (component_words (scope G)) (same_some s h.0 (sym i ∙ h.1)))
bottom_below G n (z ∷ zs) h s i = omega (arith, h.0, bottom_below G z.base zs h.1 s i)

-- An activation that is found is below the top and after the component.
pub found_inside : (G : Ground) (top d : ℕ) (xs : List Activation) (x : Activation) → Stack G top xs → activation_at d xs ≡ Some x
    → (x.base + activation_words (scope G) x.routine ≤ top) × ((s : System) → system_of_process G.setup G.p ≡ Some s → component_words (scope G) s ≤ x.base)
found_inside G top d [] x h e = absurd (some_is_not_none x (sym e))
found_inside G top d (y ∷ xs) x h e = by (nat_eq d (length xs)) e (found_inside G y.base d xs x h.1)
  where
    by : (b : Bool) → (if b then Some y else activation_at d xs) ≡ Some x
        → (activation_at d xs ≡ Some x → (x.base + activation_words (scope G) x.routine ≤ y.base) × ((s : System) → system_of_process G.setup G.p ≡ Some s → component_words (scope G) s ≤ x.base))
        → (x.base + activation_words (scope G) x.routine ≤ top) × ((s : System) → system_of_process G.setup G.p ≡ Some s → component_words (scope G) s ≤ x.base)
    by true e go =
        let same : y ≡ x = same_some y x e in
        subst (λ z. (z.base + activation_words (scope G) z.routine ≤ top) × ((s : System) → system_of_process G.setup G.p ≡ Some s → component_words (scope G) s ≤ z.base)) same
        (h.0, bottom_below G y.base xs h.1)
    by false e go = (omega (arith, (go e).0, h.0), (go e).1)

-- Two activations are the same, or one is after the other.
pub found_apart : (G : Ground) (top d c : ℕ) (xs : List Activation) (x y : Activation) → Stack G top xs → activation_at d xs ≡ Some x → activation_at c xs ≡ Some y
    → (d ≡ c) ⊎ ((x.base + activation_words (scope G) x.routine ≤ y.base) ⊎ (y.base + activation_words (scope G) y.routine ≤ x.base))
found_apart G top d c [] x y h e f = absurd (some_is_not_none x (sym e))
found_apart G top d c (z ∷ xs) x y h e f = by (nat_eq d (length xs)) (nat_eq c (length xs)) refl refl e f (found_apart G z.base d c xs x y h.1)
  where
    Answer : Type 0
    Answer = (d ≡ c) ⊎ ((x.base + activation_words (scope G) x.routine ≤ y.base) ⊎ (y.base + activation_words (scope G) y.routine ≤ x.base))

    by : (a b : Bool) → nat_eq d (length xs) ≡ a → nat_eq c (length xs) ≡ b → (if a then Some z else activation_at d xs) ≡ Some x → (if b then Some z else activation_at c xs) ≡ Some y
        → (activation_at d xs ≡ Some x → activation_at c xs ≡ Some y → Answer) → Answer
    by true true a b e f go = inl (eqb-true d (length xs) a ∙ sym (eqb-true c (length xs) b))
    by true false a b e f go = inr (inr (omega (arith, (found_inside G z.base c xs y h.1 f).0, ap (λ (q : Activation). q.base) (same_some z x e))))
    by false true a b e f go = inr (inl (omega (arith, (found_inside G z.base d xs x h.1 e).0, ap (λ (q : Activation). q.base) (same_some z y f))))
    by false false a b e f go = go e f

-- ---- what is in reach

-- A monitor is in reach only with all others.
pub monitor_seen : (G : Ground) (m : ℕ) → in_sight G (OfMonitor m) ≡ true → MonitorsLie G.program G.setup × (whole G ≡ G.own + G.program.shared)
monitor_seen G m h = by G.sight G.monitors_lie h
  where
    by : (v : Sight) → WhereMonitorsLie v G.program G.setup → sees v G.p (OfMonitor m) ≡ true → MonitorsLie G.program G.setup × (words_seen v G.program G.own ≡ G.own + G.program.shared)
    by OwnWords lie h = absurd (true≢false (sym h))
    by AllWords lie h = (lie, refl)

-- With all words in reach, the places of the monitors are known.
pub all_lie : (G : Ground) → G.sight ≡ AllWords → MonitorsLie G.program G.setup
all_lie G all = (monitor_seen G 0 (ap (λ v. sees v G.p (OfMonitor 0)) all)).0

pub own_in_whole : (G : Ground) → G.own ≤ whole G
own_in_whole G = by G.sight
  where
    by : (v : Sight) → G.own ≤ words_seen v G.program G.own
    by OwnWords = omega arith
    by AllWords = omega arith
