-- What a replay promises about the bytes that it reads and writes.
use Rattle.std.specs.Prelude.{◌≡◌, ◌⊎◌, ℕ, List, Option, Some, Result, Ok, Err, IfSome, map}
use Rattle.std.specs.Io.KnownBytes.{Appends}
use Rattle.cp_model.specs.Input.{cut}
use Rattle.cp_model.specs.Syntax as s
use Rattle.cp_model.specs.OrderText.{NotALine, Orders, OrderText}
use Rattle.cp_model.specs.Orders.{replay}
use Rattle.cp_model.specs.Rounds.{Event}
use Rattle.cp_model.specs.Start.{start}
use Rattle.cp_model.specs.States.{Setup, State, process_count}
use Rattle.cp_model_machine.specs.InState.{IsIn}
use Rattle.cp_base_schedule.specs.Reading.{judged}
use Rattle.cp_rounds.specs.Views.{machine_of}
use Rattle.cp_rounds.specs.declared.machine.Machine.{Machine}
use Rattle.cp_frontend.specs.declared.refusal.Refusal.{Refusal}
use Rattle.cp_frontend.specs.declared.refusal.Refusal.TheVariants as refusal
use Rattle.cp_base_config.specs.declared.run.Replay.{Replay}
use Rattle.cp_frontend.specs.Cutting.{judge_input}
use Rattle.cp_frontend.specs.KnownRefusals.{RefusesInputOf, RefusesText}
use Rattle.cp_execute.specs.Executed.{IsReportOf}
use Rattle.cp_execute_start.specs.Starts.{nothing_read, setup_of}
use Rattle.cp_frontend.specs.Takings.{AppendsSome, Concern, IsAboutOrder, Text, concern, front}
use Rattle.cp_frontend.specs.Texts.{IsAccepted}

-- ---- Orders

-- How many processes a text has.
abbrev pub processes_in : s.Tree → ℕ
processes_in t = process_count (setup_of t nothing_read 1)

-- The rounds of an order text, or why it is refused.
abbrev pub rounds_reported : OrderText → Result (List (List Event)) Refusal
rounds_reported (Orders rounds) = Ok rounds
rounds_reported (NotALine at) = Err (refusal.Order at)

-- The rounds of an order for so many processes.
abbrev pub judge_order_of : ℕ → List ℕ → Result (List (List Event)) Refusal
judge_order_of n order = rounds_reported (judged n order)

abbrev pub judge_order : s.Tree → List ℕ → Result (List (List Event)) Refusal
judge_order t order = judge_order_of (processes_in t) order

-- ---- Rounds

-- The rounds with their turn length.
abbrev pub timed : ℕ → List (List Event) → List (ℕ × List Event)
timed t rounds = map (λ events. (t, events)) rounds

-- Whatever state the machine was in, it is now in the state that these rounds lead to.
abbrev pub MakesReplays : ℕ → List (List Event) → Machine → Machine → Type 0
MakesReplays t rounds old new =
    (setup : Setup) (s : State) → IsIn (machine_of old) setup s → IsIn (machine_of new) setup (replay setup s (timed t rounds))

-- The bytes are the report of the state that these rounds lead to from the start, each by the fold
-- of its events.
abbrev pub IsDueAfter : Replay → s.Tree → (ℕ → List ℕ) → List (List Event) → List ℕ → Type 0
IsDueAfter how t inputs rounds bytes =
    let setup = setup_of t inputs how.tick.rounds in
    IsReportOf how.chains setup (replay setup (start setup) (timed how.turn.steps rounds)) bytes

-- The order is none that is refused, and the bytes are the report after its rounds.
abbrev pub IsReplayed : Replay → s.Tree → (ℕ → List ℕ) → List ℕ → List ℕ → Type 0
IsReplayed how t inputs order bytes = (rounds : List (List Event)) × (judge_order t order ≡ Ok rounds) × IsDueAfter how t inputs rounds bytes

-- ---- What was written

-- If the input is known, it isn't refused.
abbrev pub IsFit : Option (List ℕ) → Type 0
IsFit input = IfSome input (λ ys. judge_input ys ≡ Ok tt)

-- If the text is known, it is accepted. If the input or the order is known too, it isn't refused, and
-- if all are, `Writes` holds of the report that is due.
abbrev pub Due : Replay → Option (List ℕ) → Option (List ℕ) → Option (List ℕ) → (List ℕ → Type 0) → Type 0
Due how text input order Writes =
    (xs : List ℕ) → text ≡ Some xs
    → (t : s.Tree) × IsAccepted xs t × IsFit input
    × ((zs : List ℕ) → order ≡ Some zs
    → (rounds : List (List Event)) × (judge_order t zs ≡ Ok rounds)
    × ((ys : List ℕ) → input ≡ Some ys → (bytes : List ℕ) × IsDueAfter how t (cut ys) rounds bytes × Writes bytes))

abbrev pub Replays : Replay → Option (List ℕ) → Option (List ℕ) → Option (List ℕ) → Option (List ℕ) → Option (List ℕ) → Type 0
Replays how text input order old new = Due how text input order (Appends old new)

-- After a write that failed: a prefix of the report was written.
abbrev pub BeginsReplay : Replay → Option (List ℕ) → Option (List ℕ) → Option (List ℕ) → Option (List ℕ) → Option (List ℕ) → Type 0
BeginsReplay how text input order old new = Due how text input order (AppendsSome old new)

-- ---- refusals

-- Why the bytes that were read aren't an order of so many processes. A failed read and running out of memory
-- say nothing about them.
abbrev pub RefusesOrderFor : ℕ → List ℕ → Refusal → Type 0
RefusesOrderFor n bytes (refusal.Order at) = judge_order_of n bytes ≡ Err (refusal.Order at)
RefusesOrderFor n bytes e = IsAboutOrder (concern e)

abbrev pub RefusesOrder : s.Tree → List ℕ → Refusal → Type 0
RefusesOrder t = RefusesOrderFor (processes_in t)

abbrev pub RefusesOrderOf : s.Tree → Option (List ℕ) → Refusal → Type 0
RefusesOrderOf t order e = IsAboutOrder (concern e) × IfSome order (λ zs. RefusesOrder t (front zs) e)

-- A replay is refused because of the text or, if that is accepted, of the input or, if that is fit,
-- of the order. Running out of memory says nothing.
abbrev pub RefusesReplay : List ℕ → Option (List ℕ) → Option (List ℕ) → Refusal → Type 0
RefusesReplay xs input order e =
    RefusesText xs e ⊎ ((t : s.Tree) × IsAccepted xs t × (RefusesInputOf input e ⊎ (IsFit input × RefusesOrderOf t order e)))

-- A known text that is accepted isn't refused for itself.
abbrev pub IsNotText : Concern → Type 0
IsNotText Text = ⊥
IsNotText _ = Unit {0}

abbrev pub RefusesNoAccepted : Option (List ℕ) → Refusal → Type 0
RefusesNoAccepted text e = (xs : List ℕ) (t : s.Tree) → text ≡ Some xs → IsAccepted xs t → IsNotText (concern e)
