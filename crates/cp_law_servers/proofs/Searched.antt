-- What a set of cores that is closed by calls reports if servers may wait forever.
--
-- A still state has a core that is settled after the end of the round. So the core has a state in common
-- with a member, and the member reports of the still state whether all are done.
use Rattle.std.specs.Prelude.{Contains, List, Some, [], false, if◌then◌else◌, length, refl, slice_get, true, ℕ, ◌∷◌, ◌≡◌}
use Rattle.std.proofs.Common.{ap, arith, subst, sym, ◌∙◌}
use Rattle.std.proofs.lemmas.Bool.{true≢false}
use Rattle.std.proofs.lemmas.Option.{slice_get-get_or}
use Rattle.cp_model.proofs.Lists.{in_head, in_more}
use Rattle.cp_model.specs.Configurations as status
use Rattle.cp_model.specs.Configurations.{Faulted, Status}
use Rattle.cp_model.specs.Orders.{replay}
use Rattle.cp_model.specs.Rounds.{close_round}
use Rattle.cp_model.specs.Start.{start}
use Rattle.cp_model.specs.States.{Setup, State, is_in, process_count, processes}
use Rattle.cp_model_program.specs.Programs.{Program}
use Rattle.cp_model_program.specs.IsProgramFor.{IsProgramFor}
use Rattle.cp_law_stillness.specs.Stillness.{is_still}
use Rattle.cp_law_calls.specs.Runs.{IsSettled, Settles}
use Rattle.cp_law_calls.proofs.Runs.{settled_is}
use Rattle.cp_law_calls.proofs.Still.{still_settled}
use Rattle.cp_law_cores.specs.Cores.{Core, close}
use Rattle.cp_law_cores.specs.CoresOfStates.{IsCoreIn}
use Rattle.cp_law_cores.specs.Laws.{first_core}
use Rattle.cp_law_cores.specs.Verdicts.{HasFault, all_parts, all_pass, core_is_still, has_no_fault, is_sound, part_passes}
use Rattle.cp_law_cores.proofs.InStates.{close_in}
use Rattle.cp_law_cores.proofs.Parts.{numbered}
use Rattle.cp_law_cores.proofs.Reached.{as_core_of}
use Rattle.cp_law_cores.proofs.Verdicts.{unsound_if}
use Rattle.cp_law_search.specs.Calls.{LeadsByCalls, SettlesByCalls, core_machine}
use Rattle.cp_law_search.specs.Laws.{IsClockless, IsSearched}
use Rattle.cp_law_search.proofs.Searched.{faults_are_in_members, orders_settle_by_calls}
use Rattle.cp_law_search.proofs.Verdicts.{closed_still, reports_still}
use Rattle.cp_law_search.proofs.Ways.{core_reports_way}
use Rattle.cp_law_exploring.specs.Exploring.{AreExpanded, LeadsInto}
use Rattle.cp_law_servers.specs.Laws.{ExpandedReportsServed, NoOrderIsStuckButServers}
use Rattle.cp_law_servers.specs.Servers.{AreServed, all_done, core_is_done}
use Rattle.cp_law_servers.proofs.Cores.{core_reports_done}
use Rattle.cp_law_servers.proofs.States.{closing_done}

-- ---- Still states

module _ (servers : List ℕ) (program : Program) (setup : Setup) (C : IsClockless program setup) where
  reports_done : (s : State) (c : Core) → IsCoreIn program setup s c → core_is_done servers (process_count setup) c ≡ all_done servers s (processes setup)
  reports_done s c h = core_reports_done servers setup s c (as_core_of program setup s c h)

  -- The core of a still state is settled after the end of the round.
  still_core : (s : State) (c : Core) → IsCoreIn program setup (close_round s) c → is_still setup s ≡ true → IsSettled (core_machine program (process_count setup)) c
  still_core s c h still = record {
    none = λ p there e. (still_settled setup s still).none p there (sym (core_reports_way program setup (close_round s) c p h there) ∙ e);
  }

  still_is_done : (vs : List Core) (s : State) → AreServed servers (process_count setup) vs → SettlesByCalls program setup (Contains vs) s → is_still setup s ≡ true
      → all_done servers s (processes setup) ≡ true
  still_is_done vs s served h still =
      let n = process_count setup in
      let c = close program h.core in
      let v = close_round s in
      let closed = close_in program setup C.free s h.core h.represents in
      let is : c ≡ h.at = settled_is (core_machine program n) h.settles.made c h.at (still_core s c closed still) h.settles.run in
      let u = h.twins.state in
      let there : IsCoreIn program setup u c = subst (IsCoreIn program setup u) (sym is) h.twins.one in
      let quiet : is_still setup v ≡ true = closed_still setup s ∙ still in
      let member_still : core_is_still n h.member ≡ true =
      reports_still program setup u h.member h.twins.other
      ∙ (sym (reports_still program setup u c there) ∙ (reports_still program setup v c closed ∙ quiet)) in
      sym (closing_done servers s (processes setup))
      ∙ (sym (reports_done v c closed)
      ∙ (reports_done u c there ∙ (sym (reports_done u h.member h.twins.other) ∙ served.done h.member h.known member_still)))

-- ---- Faults

fault_is_unsound : (c : Core) (p number : ℕ) → (ps : List ℕ) → is_in p ps ≡ true → HasFault c p number → all_parts is_sound c ps ≡ false
fault_is_unsound c p number ps there h = unsound_if c ps p there (ap (part_passes is_sound) h.there ∙ ap is_sound h.stopped)

all_sound : (s : State) (ps : List ℕ) → ((p n : ℕ) → is_in p ps ≡ true → s.status p ≡ Faulted n → ⊥) → all_pass has_no_fault s ps ≡ true
all_sound s [] never = refl
all_sound s (p ∷ ps) never =
    ap (λ b. if b then all_pass has_no_fault s ps else false) (by (s.status p) refl)
    ∙ all_sound s ps (λ q n there e. never q n (in_more q p ps there) e)
  where
    by : (x : Status) → s.status p ≡ x → has_no_fault (s.status p) ≡ true
    by (status.Faulted n) e = absurd (never p n (in_head p ps) e)
    by status.Unstarted e = ap has_no_fault e
    by status.Fresh e = ap has_no_fault e
    by status.Ready e = ap has_no_fault e
    by status.Ended e = ap has_no_fault e
    by status.Waiting e = ap has_no_fault e
    by (status.Asking m) e = ap has_no_fault e
    by (status.Delayed m q) e = ap has_no_fault e

-- ---- All orders

pub no_order_is_stuck_but_servers : NoOrderIsStuckButServers
no_order_is_stuck_but_servers servers program setup vs C searched served rounds within =
    let s = replay setup (start setup) rounds in (
      all_sound s (processes setup) (λ p number there e.
          let w = faults_are_in_members program setup vs rounds p number C searched within there e in
          true≢false (sym (served.sound w.0 w.1) ∙ fault_is_unsound w.0 p number (processes setup) there w.2)),
      λ still. still_is_done servers program setup C vs s served (orders_settle_by_calls program setup vs rounds C searched within) still,
    )

module _ (program : Program) (setup : Setup) (represents : IsProgramFor program setup) (vs : List Core) where
  leads : (x : Core) → LeadsInto program vs x → LeadsByCalls program setup (Contains vs) x
  leads x h = record {
    member = h.member;
    known = h.known;
    leads = record {
      at = h.member;
      settles = subst (λ n. Settles (core_machine program n) x h.member) represents.process_rows h.settles;
      represents = λ s is. is;
    };
  }

  searched : AreExpanded program vs (length vs) → LeadsInto program vs (first_core program setup) → IsSearched program setup vs
  searched all first = record {
    closed = record {
      late = λ v p known there late.
          let range = numbered (process_count setup) p 1 there in
          let rows = represents.process_rows in
          let got : slice_get vs known.0 ≡ Some v = slice_get-get_or vs known.0 v known.1 ∙ ap (λ (z : Core). Some z) known.2 in
          leads _ (all.each known.0 p v known.1 got range.0 (omega arith) late);
    };
    first = leads _ first;
  }

pub expanded_reports_served : ExpandedReportsServed
expanded_reports_served servers program setup vs represents timeless all first served =
    no_order_is_stuck_but_servers servers program setup vs (record { represents = represents; free = timeless }) (searched program setup represents vs all first)
    (subst (λ n. AreServed servers n vs) represents.process_rows served)
