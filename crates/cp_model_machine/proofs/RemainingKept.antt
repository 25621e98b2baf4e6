-- What is left to do stays the same if the temps below its own are the same, or if more is known.
use Rattle.std.proofs.Common.{◌≡◌, ℕ, ◌+◌, ◌≤◌, ◌<◌, ℤ, List, [], ◌∷◌, length, subst, ◌∙◌, arith}
use Rattle.cp_model.specs.Continuations.{Do, EndBody, EndCall, EndProcess, ForNext, RepeatTest, Task, WhileTest}
use Rattle.cp_model.specs.Abstract as a
use Rattle.cp_model_program.specs.Sites.{Site}
use Rattle.cp_model_program.specs.Starts.{word}
use Rattle.cp_model_program.specs.TermsFor.{Knowns, nothing_known}
use Rattle.cp_model_machine.specs.PrivateStates as machine
use Rattle.cp_model_machine.specs.Addresses.{Ground}
use Rattle.cp_model_machine.specs.Remaining.{Remaining, Loop, LoopRemaining, Repeat, Running, Runs, While, held_below, kept_below, site}
use Rattle.cp_model_machine.proofs.CallsKept.{Keeps, term_kept}
use Rattle.cp_model_machine.proofs.CodeKept.{code_kept}

-- The temps below number `n` are as before.
abbrev pub SameBelow : ℕ → List ℤ → List ℤ → Type 0
SameBelow n ts us = (i : ℕ) → i < n → word us i ≡ word ts i

-- Everything that is known in `K` is known in `L`.
abbrev pub Within : Knowns → Knowns → Type 0
Within K L = (s : ℕ) (m : ℤ) → K s m → L s m

kept_within : (ts us : List ℤ) (temp kept live : ℕ) → SameBelow (temp + kept) ts us
    → Within (kept_below kept live ts temp) (kept_below kept live us temp)
kept_within ts us temp kept live same s m h = (h.0, λ q. same (temp + s) (omega (arith, q)) ∙ h.1 q)

-- What a call keeps of the temps in use.
pub held_within : (ts : List ℤ) (temp kept live : ℕ) → Within (held_below live ts temp) (kept_below kept live ts temp)
held_within ts temp kept live s m h = (h.0, λ q. h.1)

runs_kept : (G : Ground) (n m limit : ℕ) (R : Running) (fs : List machine.Frame) → n ≡ m → Runs G n limit R fs → Runs G m limit R fs
runs_kept G n m limit R fs e h = subst (λ z. Runs G z limit R fs) e h

-- The test of a loop stays the same, where more is known.
loop_kept : (loop : Loop) (s : Site) (K L : Knowns) (now e : a.Expression) (body : a.Statement) (place next low : ℕ) → Keeps K L low s.unit.temps
    → LoopRemaining loop s K now e body place next low → LoopRemaining loop s L now e body place next low
loop_kept loop s K L now e body place next low keeps W = record {
  start = W.start;
  last = W.last;
  way = W.way;
  term = W.term;
  base = W.base;
  test = W.test;
  rest = term_kept s K L now W.term W.base place W.last low s.unit.temps keeps W.rest;
  whole = W.whole;
  again = W.again;
}

module _ (G : Ground) (ts us : List ℤ) (limit : ℕ) (same_length : length ts ≡ length us) where
  -- What is left to do doesn't depend on the temps of later calls.
  pub left_kept : (K L : Knowns) (R : Running) (fs : List machine.Frame) (place low : ℕ) (k : List Task) → Within K L → SameBelow (R.temp + low) ts us
      → Remaining G ts limit K R fs place low k → Remaining G us limit L R fs place low k
  left_kept K L R fs place low [] more same h = absurd h
  left_kept K L R fs place low (Do s e ∷ k) more same h = (
    h.0,
    h.1,
    (
      h.2.0,
      h.2.1,
      h.2.2,
      code_kept (site G R) K L s place h.2.0 h.2.1 (λ n m p q. more n m) h.2.3,
      left_kept nothing_known nothing_known R fs h.2.0 h.2.1 k (λ n m z. z) (λ i q. same i (omega (arith, q, h.2.2))) h.2.4,
    ),
  )
  left_kept K L R fs place low (WhileTest now e s env ∷ k) more same h = (
    h.0,
    (
      h.1.0,
      h.1.1,
      h.1.2,
      loop_kept While (site G R) K L now e s place h.1.0 h.1.1 (λ n m p q. more n m) h.1.3,
      left_kept nothing_known nothing_known R fs h.1.0 h.1.1 k (λ n m z. z) (λ i q. same i (omega (arith, q, h.1.2))) h.1.4,
    ),
  )
  left_kept K L R fs place low (RepeatTest now s e env ∷ k) more same h = (
    h.0,
    (
      h.1.0,
      h.1.1,
      h.1.2,
      loop_kept Repeat (site G R) K L now e s place h.1.0 h.1.1 (λ n m p q. more n m) h.1.3,
      left_kept nothing_known nothing_known R fs h.1.0 h.1.1 k (λ n m z. z) (λ i q. same i (omega (arith, q, h.1.2))) h.1.4,
    ),
  )
  left_kept K L R fs place low (ForNext x down n last s env ∷ k) more same h =
      let F = h.1.3 in (
        h.0,
        (
          h.1.0,
          h.1.1,
          h.1.2,
          record {
            counting = F.counting;
            test = F.test;
            counts = F.counts;
            counter = same (R.temp + h.1.1) (omega (arith, h.1.2)) ∙ F.counter;
            last_is = same (R.temp + (h.1.1 + 1)) (omega (arith, h.1.2)) ∙ F.last_is;
            again = F.again;
          },
          left_kept nothing_known nothing_known R fs h.1.0 h.1.1 k (λ n m z. z) (λ i q. same i (omega (arith, q, h.1.2))) h.1.4,
        ),
      )
  left_kept K L R (f ∷ fs) place low (EndCall env gate ∷ k) more same h =
      let c = h.3 in
      let below : SameBelow (c.0.temp + c.2) ts us = λ i q. same i (omega (arith, q, c.5.temps_apart)) in (
        h.0,
        h.1,
        h.2,
        (
          c.0,
          c.1,
          c.2,
          c.3,
          runs_kept G (length ts) (length us) limit c.0 fs same_length c.4,
          c.5,
          c.6,
          left_kept (kept_below c.2 c.3 ts c.0.temp) (kept_below c.2 c.3 us c.0.temp) c.0 fs c.1 c.2 k
              (kept_within ts us c.0.temp c.2 c.3 below) below c.7,
        ),
      )
  left_kept K L R (f ∷ fs) place low (EndBody gate ∷ k) more same h =
      let c = h.3 in (
        h.0,
        h.1,
        h.2,
        (
          c.0,
          c.1,
          runs_kept G (length ts) (length us) limit c.0 fs same_length c.2,
          c.3,
          left_kept nothing_known nothing_known c.0 fs f.counter c.1 k (λ n m z. z) (λ i q. same i (omega (arith, q, c.3.temps_apart))) c.4,
        ),
      )
  left_kept K L R fs place low (EndProcess ∷ k) more same h = h
  left_kept K L R [] place low (EndCall env gate ∷ k) more same h = absurd h
  left_kept K L R [] place low (EndBody gate ∷ k) more same h = absurd h

-- More temps may be in use.
pub left_raised : (G : Ground) (ts : List ℤ) (limit : ℕ) (K : Knowns) (R : Running) (fs : List machine.Frame) (place low high : ℕ) (k : List Task) → low ≤ high
    → Remaining G ts limit K R fs place low k → Remaining G ts limit K R fs place high k
left_raised G ts limit K R fs place low high [] up h = absurd h
left_raised G ts limit K R fs place low high (Do s e ∷ k) up h =
    (h.0, h.1, (h.2.0, h.2.1, omega (arith, up, h.2.2), h.2.3, h.2.4))
left_raised G ts limit K R fs place low high (WhileTest now e s env ∷ k) up h =
    (h.0, (h.1.0, h.1.1, omega (arith, up, h.1.2), h.1.3, h.1.4))
left_raised G ts limit K R fs place low high (RepeatTest now s e env ∷ k) up h =
    (h.0, (h.1.0, h.1.1, omega (arith, up, h.1.2), h.1.3, h.1.4))
left_raised G ts limit K R fs place low high (ForNext x down n last s env ∷ k) up h =
    (h.0, (h.1.0, h.1.1, omega (arith, up, h.1.2), h.1.3, h.1.4))
left_raised G ts limit K R (f ∷ fs) place low high (EndCall env gate ∷ k) up h = h
left_raised G ts limit K R (f ∷ fs) place low high (EndBody gate ∷ k) up h = h
left_raised G ts limit K R fs place low high (EndProcess ∷ k) up h = h
left_raised G ts limit K R [] place low high (EndCall env gate ∷ k) up h = absurd h
left_raised G ts limit K R [] place low high (EndBody gate ∷ k) up h = absurd h
