-- Rounds in given orders, one after another.
use Rattle.std.proofs.Common.{◌≡◌, ◌<◌, ℕ, zero, suc, List, [], ◌∷◌, ◌++◌, length, take, None, Some, refl, sym, ap, subst, arith}
use Rattle.std.specs.Prelude.{fold, slice_get}
use Rattle.cp_model.specs.Orders.{replay}
use Rattle.cp_model.specs.Rounds.{Event, replay_event, replay_round, wake}
use Rattle.cp_model.specs.States.{Setup, State}
use Rattle.cp_model.proofs.Options.{same_some}
use Rattle.cp_model_machine.specs.InState.{IsIn, NoneFresh}
use Rattle.cp_model_machine.proofs.MachineStarts.{closed_calm}
use Rattle.cp_rounds.specs.InStates.{MakesReplay}
use Rattle.cp_rounds.specs.Views.{machine_of}
use Rattle.cp_rounds.specs.declared.machine.Machine.{Machine}
use Rattle.cp_execute.specs.Replayed.{MakesReplays, timed}

pub replay_more : (setup : Setup) (t : ℕ) (events : List Event) (rounds : List (List Event)) (s : State)
    → replay setup s (timed t (rounds ++ events ∷ [])) ≡ replay_round setup t (replay setup s (timed t rounds)) events
replay_more setup t events [] s = refl
replay_more setup t events (r ∷ rounds) s = replay_more setup t events rounds (replay_round setup t s r)

pub replay_calm : (setup : Setup) (rounds : List (ℕ × List Event)) (s : State) → NoneFresh s → NoneFresh (replay setup s rounds)
replay_calm setup [] s h = h
replay_calm setup (r ∷ rounds) s h =
    replay_calm setup rounds (replay_round setup r.0 s r.1) (closed_calm (fold (replay_event setup r.0) (wake setup s) r.1))

pub take_more : {A : Type 0} (k : ℕ) (xs : List A) (x : A) → slice_get xs k ≡ Some x → take (suc k) xs ≡ take k xs ++ x ∷ []
take_more k [] x is = absurd (Prim.grind (arith, is))
take_more zero (y ∷ xs) x is = ap (λ z. z ∷ []) (same_some y x is)
take_more (suc k) (y ∷ xs) x is = ap (λ zs. y ∷ zs) (take_more k xs x is)

pub none_past : {A : Type 0} (k : ℕ) (xs : List A) → k < length xs → slice_get xs k ≡ None → ⊥
none_past k [] below is = Prim.omega (arith, below)
none_past zero (x ∷ xs) below is = Prim.grind (arith, is)
none_past (suc k) (x ∷ xs) below is = none_past k xs (Prim.omega (arith, below)) is

-- One more round after the first k.
pub one_more : (t k : ℕ) (rounds : List (List Event)) (events : List Event) (old mid new : Machine) → slice_get rounds k ≡ Some events
    → MakesReplays t (take k rounds) old mid → MakesReplay t events mid new → MakesReplays t (take (suc k) rounds) old new
one_more t k rounds events old mid new at before here setup s I =
    let next = here.replay setup (replay setup s (timed t (take k rounds))) (before setup s I) in
    let more : replay setup s (timed t (take k rounds ++ events ∷ [])) ≡ replay_round setup t (replay setup s (timed t (take k rounds))) events =
    replay_more setup t events (take k rounds) s in
    subst (λ (rs : List (List Event)). IsIn (machine_of new) setup (replay setup s (timed t rs))) (sym (take_more k rounds events at))
    (subst (λ (z : State). IsIn (machine_of new) setup z) (sym more) next)
