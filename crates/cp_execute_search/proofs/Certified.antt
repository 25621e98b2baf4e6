-- A schedule whose replay leads to a state of its kind.
use Rattle.std.proofs.Common.{◌≡◌, ℕ, List, None, Ok, Option, Some, ap, subst}
use Rattle.cp_model.specs.Orders.{replay}
use Rattle.cp_model.specs.OrderText.{Orders}
use Rattle.cp_model.specs.Rounds.{Event}
use Rattle.cp_model.specs.Start.{start}
use Rattle.cp_model.specs.Syntax as s
use Rattle.cp_outcome_reasons.specs.declared.snapshot.StatusSnapshot.{StatusSnapshot}
use Rattle.cp_base_schedule.specs.Reading.{judged}
use Rattle.cp_rounds.specs.declared.machine.Machine.{Machine}
use Rattle.cp_execute.specs.Replayed.{MakesReplays, judge_order_of, processes_in, rounds_reported, timed}
use Rattle.cp_execute_start.specs.Starts.{IsAtStart, setup_of}
use Rattle.cp_execute_search.specs.Certificates.{LeadsIfSome, LeadsTo, ReachesIfSome, ReachesKind, ShowsKind}
use Rattle.cp_execute_search.specs.declared.kind.Kind.{Kind}

-- A machine that has made the rounds shows what they lead to.
pub kind_reached : (k : Kind) (servers : List ℕ) (rounds : List (List Event)) (old new : Machine) → MakesReplays 1 rounds old new → ShowsKind k servers new → ReachesKind k servers rounds old
kind_reached k servers rounds old new made shows = record { each = λ setup z I. shows.each setup (replay setup z (timed 1 rounds)) (made setup z I) }

-- So do rounds that were read from an order, on a machine at its start.
pub order_leads : (k : Kind) (servers : List ℕ) (t : s.Tree) (inputs : ℕ → List ℕ) (order : List ℕ) (n : ℕ) (rounds : List (List Event)) (m : Machine) (o : Option StatusSnapshot)
    → n ≡ processes_in t → judged n order ≡ Orders rounds → IsAtStart (setup_of t inputs 1) m → ReachesIfSome k servers rounds m o → LeadsIfSome k servers t inputs order o
order_leads k servers t inputs order n rounds m None count read starts reached = tt
order_leads k servers t inputs order n rounds m (Some snapshot) count read starts reached = record {
  rounds = rounds;
  read = subst (λ c. judge_order_of c order ≡ Ok rounds) count (ap rounds_reported read);
  reached = reached.each (setup_of t inputs 1) (start (setup_of t inputs 1)) starts;
}
