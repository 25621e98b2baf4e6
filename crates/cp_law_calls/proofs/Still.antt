-- A still state is settled once it is closed: nobody can move, and closing makes only fresh processes ready.
use Rattle.std.specs.Prelude.{List, false, true, ◌≡◌}
use Rattle.std.proofs.Common.{arith}
use Rattle.std.proofs.lemmas.Bool.{true≢false}
use Rattle.cp_model.specs.Configurations.{Asking, Delayed, Ended, Faulted, Fresh, Ready, Status, Unstarted, Waiting}
use Rattle.cp_model.specs.Continuations.{Task}
use Rattle.cp_model.specs.Rounds.{after_closing}
use Rattle.cp_model.specs.States.{Setup, State}
use Rattle.cp_law_stillness.specs.Stillness.{can_move, is_still}
use Rattle.cp_law_stillness.proofs.Resting.{rests}
use Rattle.cp_law_calls.specs.Orders.{closed, machine}
use Rattle.cp_law_calls.specs.Runs.{IsSettled}
use Rattle.cp_law_calls.specs.Ways.{Eager, Idle, way_of}

pub still_settled : (setup : Setup) (s : State) → is_still setup s ≡ true → IsSettled (machine setup) (closed s)
still_settled setup s still = record { none = λ p there e. by (s.status p) (s.continuation p) (rests setup s still p there) e }
  where
    idle_no_eager : Idle ≡ Eager → ⊥
    idle_no_eager e = grind arith

    by : (x : Status) (k : List Task) → can_move x ≡ false → way_of (after_closing x) k ≡ Eager → ⊥
    by Unstarted k h e = idle_no_eager e
    by Fresh k h e = true≢false h
    by Ready k h e = true≢false h
    by Ended k h e = idle_no_eager e
    by Waiting k h e = true≢false h
    by (Asking m) k h e = idle_no_eager e
    by (Delayed m l) k h e = idle_no_eager e
    by (Faulted n) k h e = idle_no_eager e
