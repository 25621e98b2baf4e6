-- What a set of cores that is closed by calls reports of all orders.
--
-- Rounds lead to a state that has a core. Acts lead from the first core to it, and the same acts, each
-- followed by the end of a round, lead from the start to a closed state with the same core, its twin.
-- The twin is near the set, since each move of a run keeps near it. So the twin settles as a state that
-- has a member as its core, and one core reports the verdict of both states.
use Rattle.std.specs.Prelude.{Bool, Contains, List, [], false, if◌then◌else◌, nat_eq, refl, true, ℕ, ◌∷◌, ◌≡◌}
use Rattle.std.proofs.Common.{ap, subst, sym, ◌∙◌}
use Rattle.std.proofs.lemmas.Bool.{true≢false}
use Rattle.cp_model.proofs.Lists.{in_head, in_more}
use Rattle.cp_model.proofs.StateMaps.{state_is}
use Rattle.cp_model.specs.Configurations as status
use Rattle.cp_model.specs.Configurations.{Faulted, Ready, Status}
use Rattle.cp_model.specs.Orders.{replay}
use Rattle.cp_model.specs.Rounds.{Event, after_closing}
use Rattle.cp_model.specs.Start.{start}
use Rattle.cp_model.specs.States.{Setup, State, is_in, process_count, processes}
use Rattle.cp_model_program.specs.Compile.{compile}
use Rattle.cp_model_program.specs.Programs.{Program}
use Rattle.cp_law_stillness.specs.Stillness.{AreAllOfProcesses, is_still}
use Rattle.cp_law_calls.specs.Clocks.{text_is_timeless}
use Rattle.cp_law_calls.specs.Orders.{closed}
use Rattle.cp_law_calls.specs.Runs.{IsSettled, Runs, RunsEagerly}
use Rattle.cp_law_calls.proofs.Good.{closed_good, start_good}
use Rattle.cp_law_calls.proofs.LawProofs.{order_is_run}
use Rattle.cp_law_calls.proofs.Runs.{settled_is}
use Rattle.cp_law_calls.proofs.Still.{still_settled}
use Rattle.cp_law_calls.proofs.TimelessTexts.{text_timeless}
use Rattle.cp_law_cores.specs.Cores.{Core, close}
use Rattle.cp_law_cores.specs.Laws.{first_core}
use Rattle.cp_law_cores.specs.CoresOfStates.{IsCoreIn}
use Rattle.cp_law_cores.specs.Verdicts.{HasFault, all_parts, all_pass, core_has_ended, core_is_sound, core_is_still, has_ended, has_no_fault, is_sound, part_passes}
use Rattle.cp_law_cores.proofs.Reached.{acts, acts_are_of, first_in, last_core, last_in}
use Rattle.cp_law_cores.proofs.Verdicts.{unsound_if}
use Rattle.cp_law_search.specs.Calls.{SettlesByCalls}
use Rattle.cp_law_search.specs.Laws.{CompiledStillStatesAreMembers, FaultsAreInMembers, IsClockless, IsSearched, NoOrderIsStuckByCalls, OrdersSettleByCalls, StillStatesAreMembers, VerdictsAreOfMembers}
use Rattle.cp_law_search.proofs.Verdicts.{closed_ended, closed_sound, closed_still, fault_is, has_fault, reports_end, reports_sound, reports_still}
use Rattle.cp_law_search.proofs.CompiledTexts.{compiled_texts_are_clockless}
use Rattle.cp_law_search.proofs.Following.{Acted, IsFine, M, Near, fault_lasts, follows_acts, follows_to, near, shuts, stays_near}

-- ---- Orders

start_is : (setup : Setup) → closed (start setup) ≡ start setup
start_is setup = state_is _ _ refl refl refl refl (λ i p. by (nat_eq 1 p) i) refl refl
  where
    by : (b : Bool) → after_closing (if b then Ready else status.Unstarted) ≡ (if b then Ready else status.Unstarted)
    by true = refl
    by false = refl

module _ (program : Program) (setup : Setup) (C : IsClockless program setup) where
  pub first_fine : IsFine program setup C (start setup)
  first_fine = record { good = start_good setup C.represents.typed; count = refl }

  pub closed_fine : (v : State) → IsFine program setup C v → IsFine program setup C (closed v)
  closed_fine v fine = record { good = closed_good setup v C.represents.typed fine.good; count = refl }

  pub first_at : IsCoreIn program setup (closed (start setup)) (first_core program setup)
  first_at = subst (λ (z : State). IsCoreIn program setup z (first_core program setup)) (sym (start_is setup)) (first_in program setup C.represents C.free)

  module _ (rounds : List (ℕ × List Event)) (within : AreAllOfProcesses setup rounds) where
    abbrev reached : State
    reached = replay setup (start setup) rounds

    abbrev its_core : Core
    its_core = last_core program setup C.represents C.free rounds within

    has_core : IsCoreIn program setup reached its_core
    has_core = last_in program setup C.represents C.free rounds within

    acted : Acted program setup C (start setup) its_core
    acted =
        follows_acts program setup C (acts program setup C.represents C.free rounds within) (start setup) (first_core program setup) first_fine
        (acts_are_of program setup C.represents C.free rounds within) (first_in program setup C.represents C.free)

  module _ (vs : List Core) (searched : IsSearched program setup vs) where
    near_first : Near program setup C (Contains vs) (closed (start setup))
    near_first = near program setup C (Contains vs) (closed (start setup)) (first_core program setup) (closed_fine (start setup) first_fine) first_at searched.first

    -- What a run from the start reaches.
    near_run : (ps : List ℕ) (u : State) → Runs (M program setup C) (closed (start setup)) ps u → Near program setup C (Contains vs) u
    near_run ps u run = stays_near program setup C (Contains vs) searched.closed ps (closed (start setup)) u (closed_fine (start setup) first_fine) run near_first

    still_is : (u : State) (h : Near program setup C (Contains vs) (closed u)) → is_still setup u ≡ true → closed u ≡ h.at
    still_is u h still = settled_is (M program setup C) h.settles.made (closed u) h.at (still_settled setup u still) h.settles.run

    module _ (rounds : List (ℕ × List Event)) (within : AreAllOfProcesses setup rounds) where
      twin : Acted program setup C (start setup) (its_core rounds within)
      twin = acted rounds within

      near_twin : Near program setup C (Contains vs) (closed twin.end)
      near_twin = near_run twin.made (closed twin.end) twin.run

      settles_within : SettlesByCalls program setup (Contains vs) (reached rounds within)
      settles_within =
          let c = its_core rounds within in
          let h = near_twin in
          let f = follows_to program setup C (closed twin.end) h.at (close program c) (closed_fine twin.end twin.fine)
          (shuts program setup C twin.end c twin.fine.good twin.represents) h.settles in
          record {
            core = c;
            represents = has_core rounds within;
            at = f.end;
            settles = f.settles;
            member = h.member;
            known = h.known;
            twins = record { state = h.at; one = f.at; other = h.represents };
          }

      verdict_within : is_still setup (reached rounds within) ≡ true
          → (w : Core) × Contains vs w × (core_is_still (process_count setup) w ≡ true)
          × (core_has_ended (process_count setup) w ≡ all_pass has_ended (reached rounds within) (processes setup))
          × (core_is_sound (process_count setup) w ≡ all_pass has_no_fault (reached rounds within) (processes setup))
      verdict_within still =
          let c = its_core rounds within in
          let x = reached rounds within in
          let v = twin.end in
          let h = near_twin in
          let here = has_core rounds within in
          let quiet : is_still setup v ≡ true = sym (reports_still program setup v c twin.represents) ∙ (reports_still program setup x c here ∙ still) in
          let is = still_is v h quiet in (
            h.member,
            h.known,
            reports_still program setup h.at h.member h.represents ∙ (ap (is_still setup) (sym is) ∙ (closed_still setup v ∙ quiet)),
            reports_end program setup h.at h.member h.represents
                ∙ (ap (λ (z : State). all_pass has_ended z (processes setup)) (sym is)
                ∙ (closed_ended setup v ∙ (sym (reports_end program setup v c twin.represents) ∙ reports_end program setup x c here))),
            reports_sound program setup h.at h.member h.represents
                ∙ (ap (λ (z : State). all_pass has_no_fault z (processes setup)) (sym is)
                ∙ (closed_sound setup v ∙ (sym (reports_sound program setup v c twin.represents) ∙ reports_sound program setup x c here))),
          )

      fault_within : (p number : ℕ) → is_in p (processes setup) ≡ true → (reached rounds within).status p ≡ Faulted number → (w : Core) × Contains vs w × HasFault w p number
      fault_within p number there e =
          let c = its_core rounds within in
          let v = twin.end in
          let h = near_twin in
          let own = has_fault program setup (reached rounds within) c (has_core rounds within) p number there e in
          let same : v.status p ≡ Faulted number = fault_is program setup v c twin.represents p number there own in
          let lasts = fault_lasts program setup C h.settles.made (closed v) h.at p number (closed_fine v twin.fine) h.settles.run (ap after_closing same) in
          (h.member, h.known, has_fault program setup h.at h.member h.represents p number there lasts)

    -- ---- Texts that have nothing to do with the clock either

    still_member : text_is_timeless setup.tree ≡ true → (rounds : List (ℕ × List Event)) → AreAllOfProcesses setup rounds
        → is_still setup (replay setup (start setup) rounds) ≡ true → (w : Core) × Contains vs w × IsCoreIn program setup (closed (replay setup (start setup) rounds)) w
    still_member free rounds within still =
        let x = replay setup (start setup) rounds in
        let run = order_is_run setup rounds C.represents.typed (text_timeless setup C.represents.typed free) within in
        let h = near_run run.0 (closed x) run.1 in
        (h.member, h.known, subst (λ (z : State). IsCoreIn program setup z h.member) (sym (still_is x h still)) h.represents)

pub orders_settle_by_calls : OrdersSettleByCalls
orders_settle_by_calls program setup vs rounds C searched within = settles_within program setup C vs searched rounds within

pub verdicts_are_of_members : VerdictsAreOfMembers
verdicts_are_of_members program setup vs rounds C searched within still = verdict_within program setup C vs searched rounds within still

pub faults_are_in_members : FaultsAreInMembers
faults_are_in_members program setup vs rounds p number C searched within there e = fault_within program setup C vs searched rounds within p number there e

pub still_states_are_members : StillStatesAreMembers
still_states_are_members program setup vs rounds C free searched within still = still_member program setup C vs searched free rounds within still

pub compiled_still_states_are_members : CompiledStillStatesAreMembers
compiled_still_states_are_members setup vs rounds represents free searched within still =
    still_states_are_members (compile setup.tree) setup vs rounds (compiled_texts_are_clockless setup represents free) free searched within still

-- ---- The verdict on all orders

fault_is_unsound : (c : Core) (p number : ℕ) → (ps : List ℕ) → is_in p ps ≡ true → HasFault c p number → all_parts is_sound c ps ≡ false
fault_is_unsound c p number ps there h =
    unsound_if c ps p there (ap (part_passes is_sound) h.there ∙ ap is_sound h.stopped)

all_sound : (s : State) (ps : List ℕ) → ((p n : ℕ) → is_in p ps ≡ true → s.status p ≡ Faulted n → ⊥) → all_pass has_no_fault s ps ≡ true
all_sound s [] never = refl
all_sound s (p ∷ ps) never =
    ap (λ b. if b then all_pass has_no_fault s ps else false) (by (s.status p) refl)
    ∙ all_sound s ps (λ q n there e. never q n (in_more q p ps there) e)
  where
    by : (x : Status) → s.status p ≡ x → has_no_fault (s.status p) ≡ true
    by (status.Faulted n) e = absurd (never p n (in_head p ps) e)
    by status.Unstarted e = ap has_no_fault e
    by status.Fresh e = ap has_no_fault e
    by status.Ready e = ap has_no_fault e
    by status.Ended e = ap has_no_fault e
    by status.Waiting e = ap has_no_fault e
    by (status.Asking m) e = ap has_no_fault e
    by (status.Delayed m q) e = ap has_no_fault e

pub no_order_is_stuck_by_calls : NoOrderIsStuckByCalls
no_order_is_stuck_by_calls program setup vs rounds C searched fine within =
    let s = replay setup (start setup) rounds in (
      all_sound s (processes setup) (λ p number there e.
          let w = fault_within program setup C vs searched rounds within p number there e in
          true≢false (sym (fine.sound w.0 w.1) ∙ fault_is_unsound w.0 p number (processes setup) there w.2)),
      λ still.
          let w = verdict_within program setup C vs searched rounds within still in
          sym w.3 ∙ fine.ended w.0 w.1 w.2,
    )
