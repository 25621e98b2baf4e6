-- What a list of cores reports whose late steps lead into the list.
use Rattle.std.specs.Prelude.{Contains, List, Some, length, slice_get, ◌≡◌}
use Rattle.std.proofs.Common.{ap, arith, subst, ◌∙◌}
use Rattle.std.proofs.lemmas.Option.{slice_get-get_or}
use Rattle.cp_model.specs.States.{Setup, process_count}
use Rattle.cp_model_program.specs.Programs.{Program}
use Rattle.cp_model_program.specs.IsProgramFor.{IsProgramFor}
use Rattle.cp_law_calls.specs.Runs.{Settles}
use Rattle.cp_law_cores.specs.Cores.{Core}
use Rattle.cp_law_cores.specs.Laws.{AreFine, first_core}
use Rattle.cp_law_cores.proofs.Parts.{numbered}
use Rattle.cp_law_search.specs.Calls.{LeadsByCalls, core_machine}
use Rattle.cp_law_search.specs.Laws.{IsSearched}
use Rattle.cp_law_search.proofs.Searched.{no_order_is_stuck_by_calls}
use Rattle.cp_law_exploring.specs.Laws.{ExpandedReports}
use Rattle.cp_law_exploring.specs.Exploring.{AreExpanded, LeadsInto}

module _ (program : Program) (setup : Setup) (represents : IsProgramFor program setup) (vs : List Core) where
  leads : (x : Core) → LeadsInto program vs x → LeadsByCalls program setup (Contains vs) x
  leads x h = record {
    member = h.member;
    known = h.known;
    leads = record {
      at = h.member;
      settles = subst (λ n. Settles (core_machine program n) x h.member) represents.process_rows h.settles;
      represents = λ s is. is;
    };
  }

  searched : AreExpanded program vs (length vs) → LeadsInto program vs (first_core program setup) → IsSearched program setup vs
  searched all first = record {
    closed = record {
      late = λ v p known there late.
          let range = numbered (process_count setup) p 1 there in
          let rows = represents.process_rows in
          let got : slice_get vs known.0 ≡ Some v = slice_get-get_or vs known.0 v known.1 ∙ ap (λ (z : Core). Some z) known.2 in
          leads _ (all.each known.0 p v known.1 got range.0 (omega arith) late);
    };
    first = leads _ first;
  }

pub expanded_reports : ExpandedReports
expanded_reports program setup vs represents timeless all first fine rounds within =
    no_order_is_stuck_by_calls program setup vs rounds (record { represents = represents; free = timeless }) (searched program setup represents vs all first)
    (subst (λ n. AreFine n vs) represents.process_rows fine) within
