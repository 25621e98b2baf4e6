-- States in which a kernel and a private state are exchanged.
use Rattle.std.specs.Prelude.{All, List, Some, length, refl, slice_get, slice_index_or, slice_set, suc, zero, ℕ, ◌+◌, ◌-◌, ◌<◌, ◌≡◌, ◌≤◌}
use Rattle.std.proofs.Common.{ap, arith, subst, sym, ◌∙◌}
use Rattle.std.proofs.lemmas.Option.{get_or_from_slice_get}
use Rattle.cp_model_program.specs.Programs.{Program}
use Rattle.cp_model_machine.specs.PrivateStates.{PrivateState}
use Rattle.cp_law_calls.specs.Ways.{Late}
use Rattle.cp_law_cores.specs.Cores.{Core, part, put}
use Rattle.cp_law_search.specs.Calls.{move_at, way_at, way_on}
use Rattle.cp_law_exploring.specs.Exploring.{SettlesQuietly, count}
use Rattle.cp_search_states.specs.Alone.{IsResting, core_from}
use Rattle.cp_search_store.specs.Moves.{IsOutcome, IsTrue, LeadsTo}
use Rattle.cp_search_store.specs.States.{HasMoreParts, core_at, core_numbered}
use Rattle.cp_search_store.specs.Stored.{kernel_at, part_at, parts_at, row}
use Rattle.cp_search_store.specs.declared.moves.Key.{Key}
use Rattle.cp_search_store.specs.declared.moves.Outcome.TheVariants.{Leads, NotLate}
use Rattle.cp_search_store.specs.declared.store.Store.{Store}
use Rattle.cp_search_store.proofs.Made.{parts_at_got, parts_at_set}
use Rattle.cp_search.specs.SearchResults.{IsKeyAt, exchanged}

less_one : (n : ℕ) → suc n - 1 ≡ n
less_one n = omega arith

one_more : (n : ℕ) → 1 + n ≡ suc n
one_more n = omega arith

pub key_after : (old new : Store) (i p : ℕ) (key : Key) → HasMoreParts old new → IsKeyAt old i p key → IsKeyAt new i p key
key_after old new i p key more at = record {
  process = at.process;
  kernel = ap (λ (l : List ℕ). slice_get l i) more.kernel_numbers ∙ at.kernel;
  part = (λ j. slice_get (row (more.width j) (more.part_numbers j) i) (p - 1)) ∙ at.part;
}

module _ (inputs : ℕ → List ℕ) (s : Store) (i p : ℕ) (key : Key) (at : IsKeyAt s i p key) (low : 1 ≤ p) where
  kernel_there : (core_at inputs s i).kernel ≡ kernel_at s.kernels.kernels.items key.kernel
  kernel_there = ap (kernel_at s.kernels.kernels.items) (get_or_from_slice_get s.kernel_numbers.items i key.kernel 0 at.kernel)

  pub part_there : part (core_at inputs s i).parts p ≡ Some (part_at s.parts.privates.items key.part (inputs p))
  part_there = by p low at.part
    where
      by : (q : ℕ) → 1 ≤ q → slice_get (row s.width s.part_numbers.items i) (q - 1) ≡ Some key.part
          → part (core_at inputs s i).parts q ≡ Some (part_at s.parts.privates.items key.part (inputs q))
      by zero one e = absurd (omega (arith, one))
      by (suc q) one e =
          parts_at_got inputs s.parts.privates.items 1 (row s.width s.part_numbers.items i) q key.part (ap (slice_get (row s.width s.part_numbers.items i)) (sym (less_one q)) ∙ e)
          ∙ ap (λ n. Some (part_at s.parts.privates.items key.part (inputs n))) (one_more q)

  pub way_there : (program : Program)
      → way_at program (core_at inputs s i) p ≡ way_on program (kernel_at s.kernels.kernels.items key.kernel) (Some (part_at s.parts.privates.items key.part (inputs p)))
  way_there program = λ j. way_on program (kernel_there j) (part_there j)

  module _ (program : Program) where
    pub not_late : IsTrue program inputs s.kernels.kernels.items s.parts.privates.items key NotLate → way_at program (core_at inputs s i) p ≡ Late → ⊥
    not_late true_of late =
        subst (λ q. IsOutcome program s.kernels.kernels.items s.parts.privates.items (inputs q) (kernel_at s.kernels.kernels.items key.kernel)
        (part_at s.parts.privates.items key.part (inputs q)) NotLate) at.process true_of.is
        (sym (way_there program) ∙ late)

    pub exchanged_rests : (kernel part : ℕ) → IsTrue program inputs s.kernels.kernels.items s.parts.privates.items key (Leads kernel part) → p ≤ count program
        → IsResting program (core_at inputs s i)
        → SettlesQuietly program (move_at program (core_at inputs s i) p) (exchanged inputs s i p kernel part) × IsResting program (exchanged inputs s i p kernel part)
    exchanged_rests kernel part true_of high rest =
        let ks = s.kernels.kernels.items in
        let xs = s.parts.privates.items in
        let c : Core = core_at inputs s i in
        let leads : LeadsTo program ks xs (inputs p) (kernel_at ks key.kernel) (part_at xs key.part (inputs p)) kernel part =
        subst (λ q. LeadsTo program ks xs (inputs q) (kernel_at ks key.kernel) (part_at xs key.part (inputs q)) kernel part) at.process true_of.is in
        let same : core_from (kernel_at ks key.kernel) c.parts ≡ c = λ j. core_from (sym kernel_there j) c.parts in
        let both = leads.move.each c.parts p low high part_there leads.late (subst (IsResting program) (sym same) rest) in
        (subst (λ z. SettlesQuietly program (move_at program z p) (exchanged inputs s i p kernel part)) same both.0, both.1)

-- The row of a state with one number exchanged has the parts of the exchanged state.
pub exchanged_is : (inputs : ℕ → List ℕ) (s : Store) (i p kernel part : ℕ) (numbers : List ℕ) → 1 ≤ p → numbers ≡ slice_set (row s.width s.part_numbers.items i) (p - 1) part
    → core_numbered inputs s kernel numbers ≡ exchanged inputs s i p kernel part
exchanged_is inputs s i p kernel part numbers low is = ap (λ l. core_from (kernel_at s.kernels.kernels.items kernel) (parts_at inputs s.parts.privates.items 1 l)) is ∙ by p low
  where
    ns : List ℕ
    ns = row s.width s.part_numbers.items i

    by : (q : ℕ) → 1 ≤ q → core_numbered inputs s kernel (slice_set ns (q - 1) part) ≡ exchanged inputs s i q kernel part
    by zero one = absurd (omega (arith, one))
    by (suc q) one =
        ap (λ (os : List PrivateState). core_from (kernel_at s.kernels.kernels.items kernel) os)
        (ap (λ m. parts_at inputs s.parts.privates.items 1 (slice_set ns m part)) (less_one q)
        ∙ (parts_at_set inputs s.parts.privates.items 1 ns q part
        ∙ ap (λ n. slice_set (parts_at inputs s.parts.privates.items 1 ns) q (part_at s.parts.privates.items part (inputs n))) (one_more q)))
