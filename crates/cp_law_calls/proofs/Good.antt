-- Good states: the start is good, and steps, wakings and ends of rounds keep states good.
--
-- A turn is a number of steps, and a round a number of turns. So all follows from one step.
use Rattle.std.specs.Prelude.{Bool, List, [], false, fold, if◌then◌else◌, nat_eq, refl, suc, true, zero, ℕ, ◌%◌, ◌∷◌, ◌≡◌}
use Rattle.std.proofs.Common.{subst}
use Rattle.cp_model.specs.Continuations.{Task}
use Rattle.cp_model.specs.Configurations.{Asking, Delayed, Ended, Faulted, Fresh, Ready, Status, Unstarted, Waiting, held_gates}
use Rattle.cp_model.specs.Orders.{replay}
use Rattle.cp_model.specs.Rounds.{Event, KernelTurn, PrivateStep, close_round, replay_event, replay_round, wake, wake_status}
use Rattle.cp_model.specs.Start.{start}
use Rattle.cp_model.specs.States.{Setup, State, is_in}
use Rattle.cp_model.specs.Turns.{Kernel, Kind, NoStep, Private, if_kernel, if_private, kernel_step, kernel_turn, kind, private_step, step}
use Rattle.cp_model.proofs.OwnSteps.{kind_private}
use Rattle.cp_model.proofs.StateInvariant.{kind_kernel, wake_keeps}
use Rattle.cp_law_gates.specs.InOrder.{AllFit, InOrder, RightsDescend, world}
use Rattle.cp_law_gates.proofs.Keeping.{wake_keeps_gates}
use Rattle.cp_law_gates.proofs.Reached.{closes, start_in_order}
use Rattle.cp_law_gates.proofs.Texts.{text_is_ordered}
use Rattle.cp_law_typing.specs.WellTyped.{WellTyped}
use Rattle.cp_law_calls.specs.Orders.{closed}
use Rattle.cp_law_calls.specs.Ways.{HoldsMarked, IsGood}
use Rattle.cp_law_calls.proofs.Holding.{close_holds, start_holds, step_holds}
use Rattle.cp_law_calls.proofs.StepKeeps.{ready_step}

pub start_good : (setup : Setup) → WellTyped setup → IsGood setup (start setup)
start_good setup typed = record { in_order = start_in_order setup (text_is_ordered setup typed); holds = start_holds setup }

pub step_good : (setup : Setup) (s : State) (p : ℕ) → WellTyped setup → IsGood setup s → s.status p ≡ Ready → IsGood setup (step setup s p)
step_good setup s p typed g ready =
    let O = text_is_ordered setup typed in record {
      in_order = ready_step (world setup) O setup s p ready g.in_order;
      holds = step_holds (world setup) O setup s p g.in_order g.holds ready;
    }

pub close_good : (setup : Setup) (s : State) → WellTyped setup → IsGood setup s → IsGood setup (close_round s)
close_good setup s typed g =
    record { in_order = closes (world setup) (text_is_ordered setup typed) setup s g.in_order; holds = close_holds s g.holds }

-- The count of rounds doesn't matter.
pub count_good : (setup : Setup) (s : State) (n : ℕ) → IsGood setup s → IsGood setup (record s { rounds = n })
count_good setup s n g = record {
  in_order = record {
    invariant = record { store = i.invariant.store; continuations = i.invariant.continuations; blocked = i.invariant.blocked; unstarted = i.invariant.unstarted };
    gates = record {
      marked = i.gates.marked;
      taken = i.gates.taken;
      asks = i.gates.asks;
      listed = i.gates.listed;
      once = i.gates.once;
      stopped = i.gates.stopped;
      queues = λ l p e. let S = i.gates.queues l p e in record { monitor = S.monitor; owner = S.owner; delayed = S.delayed };
      known = i.gates.known;
      within = i.gates.within;
      unstarted = i.gates.unstarted;
      waiting = i.gates.waiting;
      descends = i.gates.descends;
    };
    fits = i.fits;
    rights = i.rights;
  };
  holds = record { holder = g.holds.holder };
}
  where
    i : InOrder (world setup) s
    i = g.in_order

pub closed_good : (setup : Setup) (s : State) → WellTyped setup → IsGood setup s → IsGood setup (closed s)
closed_good setup s typed g = count_good setup (close_round s) 0 (close_good setup s typed g)

-- ---- Wakings

woken_held : (x : Status) (k : List Task) → held_gates (wake_status x) k ≡ held_gates x k
woken_held Unstarted k = refl
woken_held Fresh k = refl
woken_held Ready k = refl
woken_held Ended k = refl
woken_held Waiting k = refl
woken_held (Asking m) k = refl
woken_held (Delayed m l) k = refl
woken_held (Faulted n) k = refl

pub wake_good : (setup : Setup) (s : State) → IsGood setup s → IsGood setup (wake setup s)
wake_good setup s g = record {
  in_order = record {
    invariant = wake_keeps setup s g.in_order.invariant;
    gates = wake_keeps_gates (world setup).place (world setup).monitors s g.in_order.gates setup;
    fits = (rest (nat_eq (suc s.rounds % setup.tick) 0)).0;
    rights = (rest (nat_eq (suc s.rounds % setup.tick) 0)).1;
  };
  holds = holds (nat_eq (suc s.rounds % setup.tick) 0);
}
  where
    rest : (b : Bool) → ((q : ℕ) → AllFit (world setup) ((if b then record s { status = λ p. wake_status (s.status p) } else s).continuation q))
        × RightsDescend (world setup).place (if b then record s { status = λ p. wake_status (s.status p) } else s).store
    rest true = (g.in_order.fits, g.in_order.rights)
    rest false = (g.in_order.fits, g.in_order.rights)

    holds : (b : Bool) → HoldsMarked (if b then record s { status = λ p. wake_status (s.status p) } else s)
    holds true = record { holder = λ p m e. g.holds.holder p m (subst (λ ms. is_in m ms ≡ true) (woken_held (s.status p) (s.continuation p)) e) }
    holds false = g.holds

-- ---- Rounds

pub private_good : (setup : Setup) (s : State) (p : ℕ) → WellTyped setup → IsGood setup s → IsGood setup (private_step setup s p)
private_good setup s p typed g = by (kind s p) refl
  where
    by : (k : Kind) → kind s p ≡ k → IsGood setup (if_private k (step setup s p) s)
    by Private h = step_good setup s p typed g (kind_private (s.status p) (s.continuation p) h).0
    by NoStep h = g
    by Kernel h = g

pub kernel_good : (setup : Setup) (s : State) (p : ℕ) → WellTyped setup → IsGood setup s → IsGood setup (kernel_step setup s p)
kernel_good setup s p typed g = by (kind s p) refl
  where
    by : (k : Kind) → kind s p ≡ k → IsGood setup (if_kernel k (step setup s p) s)
    by Kernel h = step_good setup s p typed g (kind_kernel setup (s.status p) (s.continuation p) h)
    by NoStep h = g
    by Private h = g

kernel_turn_good : (n : ℕ) (setup : Setup) (s : State) (p : ℕ) → WellTyped setup → IsGood setup s → IsGood setup (kernel_turn setup n s p)
kernel_turn_good zero setup s p typed g = g
kernel_turn_good (suc n) setup s p typed g = kernel_turn_good n setup (kernel_step setup s p) p typed (kernel_good setup s p typed g)

event_good : (setup : Setup) (t : ℕ) (s : State) (e : Event) → WellTyped setup → IsGood setup s → IsGood setup (replay_event setup t s e)
event_good setup t s (PrivateStep p) typed g = private_good setup s p typed g
event_good setup t s (KernelTurn p) typed g = kernel_turn_good t setup s p typed g

events_good : (es : List Event) (setup : Setup) (t : ℕ) (s : State) → WellTyped setup → IsGood setup s → IsGood setup (fold (replay_event setup t) s es)
events_good [] setup t s typed g = g
events_good (e ∷ es) setup t s typed g = events_good es setup t (replay_event setup t s e) typed (event_good setup t s e typed g)

pub round_good : (setup : Setup) (t : ℕ) (s : State) (es : List Event) → WellTyped setup → IsGood setup s → IsGood setup (replay_round setup t s es)
round_good setup t s es typed g = close_good setup _ typed (events_good es setup t (wake setup s) typed (wake_good setup s g))

pub rounds_good : (rounds : List (ℕ × List Event)) (setup : Setup) (s : State) → WellTyped setup → IsGood setup s → IsGood setup (replay setup s rounds)
rounds_good [] setup s typed g = g
rounds_good (r ∷ rs) setup s typed g = rounds_good rs setup (replay_round setup r.0 s r.1) typed (round_good setup r.0 s r.1 typed g)
