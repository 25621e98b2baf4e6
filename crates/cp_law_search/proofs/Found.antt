-- What a search finds is real: rounds lead to a state for which the found core reports the right
-- verdict.
--
-- Each move of a core is a round of one event. If a search keeps other cores of the same states, the
-- same calls are made once more from the first core, and lead to a core of a state that has the found
-- one too.
use Rattle.std.specs.Prelude.{Bool, List, [], false, if◌then◌else◌, refl, true, ℕ, ◌∷◌, ◌≡◌}
use Rattle.std.proofs.Common.{ap, arith, subst, sym, ◌∙◌}
use Rattle.cp_model.specs.Orders.{replay}
use Rattle.cp_model.specs.Rounds.{Event, KernelTurn, PrivateStep}
use Rattle.cp_model.specs.Start.{start}
use Rattle.cp_model.specs.States.{Setup, State, is_in, process_count, processes}
use Rattle.cp_model_program.specs.Programs.{Program}
use Rattle.cp_law_stillness.specs.Stillness.{AreAllOfProcesses}
use Rattle.cp_law_calls.specs.Orders.{closed}
use Rattle.cp_law_calls.specs.Runs.{ByCalls, CallsLead, Machine, Runs, RunsEagerly}
use Rattle.cp_law_calls.specs.Ways.{Eager, Idle, Late, way}
use Rattle.cp_law_calls.proofs.Movers.{late_ready}
use Rattle.cp_law_cores.specs.Cores.{Core, close, is_private_on, kernel_at, part, private_at}
use Rattle.cp_law_cores.specs.Laws.{first_core}
use Rattle.cp_law_cores.specs.CoresOfStates.{IsCoreIn, with_one}
use Rattle.cp_law_cores.specs.Verdicts.{HasFault, core_has_ended, core_is_sound, core_is_still}
use Rattle.cp_law_cores.proofs.InStates.{close_in, kernel_in, private_in, wake_in}
use Rattle.cp_law_cores.proofs.Reached.{first_in}
use Rattle.cp_law_calls.proofs.Runs.{by_calls_runs}
use Rattle.cp_law_search.specs.Calls.{LeadOn, core_machine, move_at}
use Rattle.cp_law_search.specs.Laws.{FoundByCallsIsReal, FoundIsExact, IsClockless, IsReal, RunIsReal}
use Rattle.cp_law_search.proofs.Searched.{closed_fine, first_at, first_fine}
use Rattle.cp_law_search.proofs.Verdicts.{fault_is, has_fault, reports_end, reports_sound, reports_still}
use Rattle.cp_law_search.proofs.Following.{IsFine, M, arrives, follows_to, move_fine_here, moved, ways}

-- Rounds of one event each lead to a state that has the core.
record Reached (program : Program) (setup : Setup) (x : State) (d : Core) : Type 0 where
  rounds : List (List Event)
  within : AreAllOfProcesses setup (with_one rounds)
  represents : IsCoreIn program setup (replay setup x (with_one rounds)) d

reaches : (program : Program) (setup : Setup) (C : IsClockless program setup) (ps : List ℕ) (x : State) (c d : Core) → IsCoreIn program setup x c
    → Runs (core_machine program (process_count setup)) c ps d → Reached program setup x d
reaches program setup C [] x c d h run = record { rounds = []; within = tt; represents = subst (IsCoreIn program setup x) run h }
reaches program setup C (p ∷ ps) x c d h run =
    by (is_private_on program (part c.parts p)) refl (λ y k. reaches program setup C ps y (move_at program c p) d k run.2)
  where
    by : (b : Bool) → is_private_on program (part c.parts p) ≡ b → ((y : State) → IsCoreIn program setup y (move_at program c p) → Reached program setup y d)
        → Reached program setup x d
    by true e more =
        let woken = wake_in program setup x c h in
        let k = close_in program setup C.free _ _ (private_in program setup C.free p run.0 _ c woken) in
        let r = more _ (subst (IsCoreIn program setup _) (sym (ap (λ b. close program (if b then private_at program c p else kernel_at program c p)) e)) k) in
        record { rounds = (PrivateStep p ∷ []) ∷ r.rounds; within = ((run.0, tt), r.within); represents = r.represents }
    by false e more =
        let woken = wake_in program setup x c h in
        let k = close_in program setup C.free _ _ (kernel_in program setup C.free p run.0 _ c woken) in
        let r = more _ (subst (IsCoreIn program setup _) (sym (ap (λ b. close program (if b then private_at program c p else kernel_at program c p)) e)) k) in
        record { rounds = (KernelTurn p ∷ []) ∷ r.rounds; within = ((run.0, tt), r.within); represents = r.represents }

pub run_is_real : RunIsReal
run_is_real program setup ps c C run =
    let r = reaches program setup C ps (start setup) (first_core program setup) c (first_in program setup C.represents C.free) run in
    let s = replay setup (start setup) (with_one r.rounds) in
    record {
      rounds = r.rounds;
      within = r.within;
      still = λ still. sym (reports_still program setup s c r.represents) ∙ still;
      ended = sym (reports_end program setup s c r.represents);
      sound = sym (reports_sound program setup s c r.represents);
      fault = λ p number there h. fault_is program setup s c r.represents p number there h;
    }

pub found_by_calls_is_real : FoundByCallsIsReal
found_by_calls_is_real program setup calls c C run =
    let r = by_calls_runs (core_machine program (process_count setup)) calls (first_core program setup) c run in
    run_is_real program setup r.0 c C r.1

-- ---- Up to cores that represent the same states

module _ (program : Program) (setup : Setup) (C : IsClockless program setup) where
  -- What the same calls lead to, and a state of both.
  record Alike (calls : List ℕ) (c u : Core) : Type 0 where
    exact : Core
    lead : CallsLead (core_machine program (process_count setup)) c calls exact
    state : State
    one : IsCoreIn program setup state exact
    other : IsCoreIn program setup state u

  leads_alike : (calls : List ℕ) (s : State) (c v u : Core) → IsFine program setup C s → IsCoreIn program setup s c → IsCoreIn program setup s v → LeadOn program setup v calls u → Alike calls c u
  leads_alike [] s c v u fine one other lead = record { exact = c; lead = refl; state = s; one = one; other = subst (IsCoreIn program setup s) lead other }
  leads_alike (p ∷ calls) s c v u fine one other lead =
      let late : way s p ≡ Late = sym (ways program setup C s v p other lead.0) ∙ lead.1 in
      let ready = late_ready s p late in
      let next = move_fine_here program setup C s p fine lead.0 ready in
      let a = arrives program setup C ((M program setup C).move s p) (move_at program v p) lead.2 next (moved program setup C s v p fine lead.0 ready other) lead.3 in
      let f = follows_to program setup C ((M program setup C).move s p) a.end (move_at program c p) next (moved program setup C s c p fine lead.0 ready one) a.settles in
      let r = leads_alike calls a.end f.end lead.2 u a.fine f.at a.at lead.4 in
      record {
        exact = r.exact;
        lead = (lead.0, ways program setup C s c p one lead.0 ∙ late, f.end, f.settles, r.lead);
        state = r.state;
        one = r.one;
        other = r.other;
      }

-- What reports the same for each state is as real.
as_real : (setup : Setup) (c u : Core)
    → core_is_still (process_count setup) c ≡ core_is_still (process_count setup) u
    → core_has_ended (process_count setup) c ≡ core_has_ended (process_count setup) u
    → core_is_sound (process_count setup) c ≡ core_is_sound (process_count setup) u
    → ((p number : ℕ) → is_in p (processes setup) ≡ true → HasFault u p number → HasFault c p number)
    → IsReal setup c → IsReal setup u
as_real setup c u still ended sound faults r = record {
  rounds = r.rounds;
  within = r.within;
  still = λ h. r.still (still ∙ h);
  ended = r.ended ∙ ended;
  sound = r.sound ∙ sound;
  fault = λ p number there h. r.fault p number there (faults p number there h);
}

pub found_is_exact : FoundIsExact
found_is_exact program setup calls u C found =
    let s = closed (start setup) in
    let fine = closed_fine program setup C (start setup) (first_fine program setup C) in
    let at = first_at program setup C in
    let a = arrives program setup C s (first_core program setup) found.first fine at found.begins in
    let f = follows_to program setup C s a.end (first_core program setup) fine at a.settles in
    let r = leads_alike program setup C calls a.end f.end found.first u a.fine f.at a.at found.lead in
    let reached : ByCalls (core_machine program (process_count setup)) (first_core program setup) calls r.exact = record { first = f.end; settles = f.settles; lead = r.lead } in
    let still = reports_still program setup r.state r.exact r.one ∙ sym (reports_still program setup r.state u r.other) in
    let ended = reports_end program setup r.state r.exact r.one ∙ sym (reports_end program setup r.state u r.other) in
    let sound = reports_sound program setup r.state r.exact r.one ∙ sym (reports_sound program setup r.state u r.other) in
    let faults : (p number : ℕ) → is_in p (processes setup) ≡ true → HasFault u p number → HasFault r.exact p number =
    λ p number there h.
    has_fault program setup r.state r.exact r.one p number there
    (fault_is program setup r.state u r.other p number there h) in (
      record { at = r.exact; reached = reached; still = still; ended = ended; sound = sound },
      as_real setup r.exact u still ended sound faults (found_by_calls_is_real program setup calls r.exact C reached),
    )
