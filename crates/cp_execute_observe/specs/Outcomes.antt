-- What the outcome of a run promises about the bytes that it reads and writes.
use Rattle.std.specs.Prelude.{◌≡◌, ◌<◌, ◌≤◌, ℕ, Bool, false, true, List, Ok, Option, Some}
use Rattle.std.specs.Borrow.{Bor}
use Rattle.std.specs.Io.KnownBytes.{Appends}
use Rattle.cp_model.specs.Input.{cut}
use Rattle.cp_model.specs.Syntax as s
use Rattle.cp_model.specs.Rounds.{run}
use Rattle.cp_model.specs.Start.{start}
use Rattle.cp_model.specs.States.{State}
use Rattle.cp_outcome.specs.Verdicts.{IsEndOf, verdict_of}
use Rattle.cp_outcome.specs.declared.verdict.Verdict.{Verdict}
use Rattle.cp_law_stillness.specs.Stillness.{is_still}
use Rattle.cp_base_config.specs.declared.outcome.OutcomeForm.{OutcomeForm}
use Rattle.cp_base_config.specs.declared.outcome.UntilStill.{UntilStill}
use Rattle.cp_frontend.specs.Cutting.{judge_input}
use Rattle.cp_execute_start.specs.Starts.{setup_of}
use Rattle.cp_execute_observe.specs.Forms.{Reports}
use Rattle.cp_frontend.specs.Takings.{AppendsSome}
use Rattle.cp_frontend.specs.Texts.{IsAccepted}

-- The state that one processor reaches by so many rounds.
abbrev pub state_after : UntilStill → s.Tree → (ℕ → List ℕ) → ℕ → State
state_after how t inputs n = let setup = setup_of t inputs how.tick.rounds in run setup how.plan.turn.steps n (start setup)

abbrev pub is_still_after : UntilStill → s.Tree → (ℕ → List ℕ) → ℕ → Bool
is_still_after how t inputs n = is_still (setup_of t inputs how.tick.rounds) (state_after how t inputs n)

-- After so many rounds nothing can move or the limit is reached, and after no fewer. The verdict is
-- that on the state then, if servers may wait forever. It is `Ended` exactly if each process has
-- ended, or is a server and is delayed. The bytes report all this in the form.
pub record IsOutcome (how : UntilStill) (servers : List ℕ) (form : OutcomeForm (Bor (List ℕ))) (t : s.Tree) (inputs : ℕ → List ℕ) (v : Verdict) (bytes : List ℕ) : Type 0 where
  pub rounds : ℕ
  pub most : rounds ≤ how.limit
  pub still : rounds < how.limit → is_still_after how t inputs rounds ≡ true
  pub first : (k : ℕ) → k < rounds → is_still_after how t inputs k ≡ false
  pub verdict : verdict_of servers (setup_of t inputs how.tick.rounds) (state_after how t inputs rounds) ≡ v
  pub ended : IsEndOf servers (setup_of t inputs how.tick.rounds) (state_after how t inputs rounds) v
  pub reported : Reports form (setup_of t inputs how.tick.rounds) (state_after how t inputs rounds) v rounds bytes

-- If the text is known, then it is accepted. If the input is known too, it isn't refused, and
-- `Writes` holds of an outcome with this verdict.
abbrev pub Due : UntilStill → List ℕ → OutcomeForm (Bor (List ℕ)) → Verdict → Option (List ℕ) → Option (List ℕ) → (List ℕ → Type 0) → Type 0
Due how servers form v text input Writes =
    (xs : List ℕ) → text ≡ Some xs
    → (t : s.Tree) × IsAccepted xs t
    × ((ys : List ℕ) → input ≡ Some ys → (judge_input ys ≡ Ok tt) × (bytes : List ℕ) × IsOutcome how servers form t (cut ys) v bytes × Writes bytes)

-- What was written is an outcome with this verdict.
abbrev pub ReportsOutcome : UntilStill → List ℕ → OutcomeForm (Bor (List ℕ)) → Verdict → Option (List ℕ) → Option (List ℕ) → Option (List ℕ) → Option (List ℕ) → Type 0
ReportsOutcome how servers form v text input old new = Due how servers form v text input (Appends old new)

-- After a write that failed: a prefix of an outcome was written.
abbrev pub BeginsOutcome : UntilStill → List ℕ → OutcomeForm (Bor (List ℕ)) → Option (List ℕ) → Option (List ℕ) → Option (List ℕ) → Option (List ℕ) → Type 0
BeginsOutcome how servers form text input old new = (v : Verdict) × Due how servers form v text input (AppendsSome old new)
