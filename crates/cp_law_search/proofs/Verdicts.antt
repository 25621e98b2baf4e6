-- What a core reports of its states, and that closing a state changes none of it.
use Rattle.std.specs.Prelude.{Bool, List, [], false, if◌then◌else◌, refl, true, ℕ, ◌∷◌, ◌≡◌}
use Rattle.std.proofs.Common.{arith}
use Rattle.std.proofs.lemmas.Bool.{true≢false}
use Rattle.cp_model.specs.Configurations as status
use Rattle.cp_model.specs.Configurations.{Faulted, Ready, Status}
use Rattle.cp_model.specs.Continuations.{Task}
use Rattle.cp_model.specs.Rounds.{after_closing}
use Rattle.cp_model.specs.States.{Setup, State, is_in, process_count, processes}
use Rattle.cp_model_program.specs.Programs.{Program}
use Rattle.cp_law_stillness.specs.Stillness.{can_move, is_still, none_can_move}
use Rattle.cp_law_stillness.proofs.Resting.{rests}
use Rattle.cp_law_calls.specs.Orders.{closed}
use Rattle.cp_law_calls.specs.Runs.{IsSettled}
use Rattle.cp_law_calls.specs.Ways.{Eager, Idle, way_of}
use Rattle.cp_law_cores.specs.Cores.{Core}
use Rattle.cp_law_cores.specs.CoresOfStates.{IsCoreIn}
use Rattle.cp_law_cores.specs.Verdicts.{HasFault, all_pass, core_has_ended, core_is_sound, core_is_still, has_ended, has_no_fault}
use Rattle.cp_law_cores.proofs.Reached.{as_core_of}
use Rattle.cp_law_cores.proofs.Verdicts.{core_reports_end, core_reports_faults, core_reports_sound, core_reports_still}
use Rattle.cp_law_search.specs.Laws.{IsClockless}
use Rattle.cp_law_search.proofs.Following.{M}

-- ---- What a core reports

module _ (program : Program) (setup : Setup) (s : State) (c : Core) (h : IsCoreIn program setup s c) where
  pub reports_still : core_is_still (process_count setup) c ≡ is_still setup s
  reports_still = core_reports_still setup s c (as_core_of program setup s c h)

  pub reports_end : core_has_ended (process_count setup) c ≡ all_pass has_ended s (processes setup)
  reports_end = core_reports_end setup s c (as_core_of program setup s c h)

  pub reports_sound : core_is_sound (process_count setup) c ≡ all_pass has_no_fault s (processes setup)
  reports_sound = core_reports_sound setup s c (as_core_of program setup s c h)

  -- Who has faulted, has faulted in the core, and the other way round.
  pub has_fault : (p number : ℕ) → is_in p (processes setup) ≡ true → s.status p ≡ Faulted number → HasFault c p number
  has_fault p number there = (core_reports_faults setup s c p number (as_core_of program setup s c h) there).0

  pub fault_is : (p number : ℕ) → is_in p (processes setup) ≡ true → HasFault c p number → s.status p ≡ Faulted number
  fault_is p number there = (core_reports_faults setup s c p number (as_core_of program setup s c h) there).1

-- ---- What closing changes

can_closing : (x : Status) → can_move (after_closing x) ≡ can_move x
can_closing status.Unstarted = refl
can_closing status.Fresh = refl
can_closing status.Ready = refl
can_closing status.Ended = refl
can_closing status.Waiting = refl
can_closing (status.Asking m) = refl
can_closing (status.Delayed m q) = refl
can_closing (status.Faulted n) = refl

ended_closing : (x : Status) → has_ended (after_closing x) ≡ has_ended x
ended_closing status.Unstarted = refl
ended_closing status.Fresh = refl
ended_closing status.Ready = refl
ended_closing status.Ended = refl
ended_closing status.Waiting = refl
ended_closing (status.Asking m) = refl
ended_closing (status.Delayed m q) = refl
ended_closing (status.Faulted n) = refl

sound_closing : (x : Status) → has_no_fault (after_closing x) ≡ has_no_fault x
sound_closing status.Unstarted = refl
sound_closing status.Fresh = refl
sound_closing status.Ready = refl
sound_closing status.Ended = refl
sound_closing status.Waiting = refl
sound_closing (status.Asking m) = refl
sound_closing (status.Delayed m q) = refl
sound_closing (status.Faulted n) = refl

none_closing : (s : State) (ps : List ℕ) → none_can_move (closed s) ps ≡ none_can_move s ps
none_closing s [] = refl
none_closing s (p ∷ ps) =
    let here = can_closing (s.status p) in
    let rest = none_closing s ps in
    λ i. if here i then false else rest i

pass_closing : (test : Status → Bool) → ((x : Status) → test (after_closing x) ≡ test x) → (s : State) (ps : List ℕ) → all_pass test (closed s) ps ≡ all_pass test s ps
pass_closing test same s [] = refl
pass_closing test same s (p ∷ ps) =
    let here = same (s.status p) in
    let rest = pass_closing test same s ps in
    λ i. if here i then rest i else false

-- Closing changes no verdict.
module _ (setup : Setup) (s : State) where
  pub closed_still : is_still setup (closed s) ≡ is_still setup s
  closed_still = none_closing s (processes setup)

  pub closed_ended : all_pass has_ended (closed s) (processes setup) ≡ all_pass has_ended s (processes setup)
  closed_ended = pass_closing has_ended ended_closing s (processes setup)

  pub closed_sound : all_pass has_no_fault (closed s) (processes setup) ≡ all_pass has_no_fault s (processes setup)
  closed_sound = pass_closing has_no_fault sound_closing s (processes setup)
