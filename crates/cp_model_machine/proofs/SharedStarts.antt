-- How the shared words start: the block of each monitor by the monitor's plan, one after another.
use Rattle.std.proofs.Common.{Bool, List, Some, [], ap, arith, false, inl, inr, length, pos, refl, subst, suc, sym, true, ℕ, ℤ, ◌+◌, ◌-◌, ◌<◌, ◌∙◌, ◌∷◌, ◌≡◌, ◌≤◌, ◌⊎◌}
use Rattle.std.specs.Prelude.{nat_eq, replicate, slice_get}
use Rattle.std.proofs.lemmas.List.{get_or-replicate, length-replicate}
use Rattle.cp_model.specs.Abstract.{BaseType, Class, Name, System}
use Rattle.cp_model.specs.Declarations.{globals, reported_members}
use Rattle.cp_model.specs.Locations.{Path}
use Rattle.cp_model.specs.States.{Setup, monitor_count}
use Rattle.cp_model.specs.Types.{ComponentOf, GlobalScope, Members, Queue, Simple}
use Rattle.cp_model.proofs.Options.{same_some}
use Rattle.cp_model_program.specs.Layout.{component_words, head_words, member_part}
use Rattle.cp_model_program.specs.Programs as code
use Rattle.cp_model_program.specs.Programs.{Program, StartPlan}
use Rattle.cp_model_program.specs.IsProgramFor.{Apart, MonitorRepresents, IsProgramFor}
use Rattle.cp_model_program.specs.Starts.{AreZero, StartsComponent, carry_out, word}
use Rattle.cp_model_machine.specs.Machines.{first_shared}
use Rattle.cp_model_machine.proofs.Apart.{IsClass, head_inside}
use Rattle.cp_model_machine.proofs.Bounds.{member_fits}
use Rattle.std.proofs.lemmas.Bool.{eq-eqb, eqb-true, true≢false}
use Rattle.std.proofs.lemmas.Option.{slice_get_within}
use Rattle.cp_model_machine.proofs.Tables.{one_less}

-- ---- one block

-- The component from `base` on has its start values.
pub record BlockStarts (g : GlobalScope) (s : System) (base : ℕ) (ws : List ℤ) : Type 0 where
  pub cells : (x : Name) (path : Path) (m : ℕ) (b : BaseType) (low high n : ℤ)
      → member_part g (head_words g s) (reported_members g s) x path ≡ Some (m, Simple b low high n) → word ws (base + m) ≡ n
  pub head : (i : ℕ) → i < head_words g s → word ws (base + i) ≡ pos 0
  pub queues : (x : Name) (path : Path) (m : ℕ) → member_part g (head_words g s) (reported_members g s) x path ≡ Some (m, Queue) → word ws (base + m) ≡ pos 0
  pub heads : (x : Name) (path : Path) (m i : ℕ) (r : System) (inner : Members)
      → member_part g (head_words g s) (reported_members g s) x path ≡ Some (m, ComponentOf r inner) → r.sort ≡ Class → i < head_words g r → word ws (base + (m + i)) ≡ pos 0

block_started : (g : GlobalScope) (s : System) (plan : StartPlan) (base : ℕ) (ws : List ℤ) → StartsComponent g s plan → base + component_words g s ≤ length ws → AreZero g s base ws
    → BlockStarts g s base (carry_out base plan ws)
block_started g s plan base ws S room zeros = record {
  cells = S.cells base ws room zeros;
  head = λ i h. S.head base ws room i zeros h;
  queues = λ x path m e. S.queues base ws room x path m zeros e;
  heads = λ x path m i r inner e sort h. S.heads base ws room x path m i r inner zeros e sort h;
}

-- The component still has its start values if its words are the same.
block_kept : (g : GlobalScope) (s : System) (base : ℕ) (ws us : List ℤ) → BlockStarts g s base ws → ((i : ℕ) → i < component_words g s → word us (base + i) ≡ word ws (base + i))
    → BlockStarts g s base us
block_kept g s base ws us B same = record {
  cells = λ x path m b low high n e. same m (omega (arith, member_fits g (head_words g s) (reported_members g s) x path m (Simple b low high n) e)) ∙ B.cells x path m b low high n e;
  head = λ i h. same i (omega (arith, h)) ∙ B.head i h;
  queues = λ x path m e. same m (omega (arith, member_fits g (head_words g s) (reported_members g s) x path m Queue e)) ∙ B.queues x path m e;
  heads = λ x path m i r inner e sort h.
      same (m + i) (omega (arith, member_fits g (head_words g s) (reported_members g s) x path m (ComponentOf r inner) e, head_inside g (ComponentOf r inner) i (subst IsClass (sym sort) tt, h)))
      ∙ B.heads x path m i r inner e sort h;
}

-- ---- all blocks

module _ (program : Program) (setup : Setup) (F : IsProgramFor program setup) where
  abbrev g : GlobalScope
  g = globals setup.tree

  abbrev Represents : ℕ → Type 0
  Represents m = MonitorRepresents program F.texts setup m

  -- The blocks of the first `k` monitors have their start values, and the others are 0.
  record Until (k : ℕ) (ws : List ℤ) : Type 0 where
    count : length ws ≡ program.shared
    done : (m : ℕ) → 1 ≤ m → m ≤ k → (M : Represents m) → BlockStarts g M.system M.row.start ws
    zeros : (m : ℕ) → k < m → (M : Represents m) → AreZero g M.system M.row.start ws

  module _ (k : ℕ) (ws : List ℤ) (U : Until k ws) (N : Represents (suc k)) where
    abbrev after : List ℤ
    after = carry_out N.row.start N.row.starts ws

    room : N.row.start + component_words g N.system ≤ length ws
    room = omega (arith, N.lies, N.words, U.count)

    -- The block of another monitor is as it was.
    beside : (m : ℕ) (M : Represents m) → (m ≡ suc k → ⊥) → (i : ℕ) → i < component_words g M.system → word after (M.row.start + i) ≡ word ws (M.row.start + i)
    beside m M other i h = N.starts.outside N.row.start ws room (M.row.start + i) (U.zeros (suc k) (omega arith) N) (by (F.monitors_apart m (suc k) M N other))
      where
        by : Apart M.row.start M.row.words N.row.start N.row.words → (M.row.start + i < N.row.start) ⊎ (N.row.start + component_words g N.system ≤ M.row.start + i)
        by (inl q) = inl (omega (arith, q, h, M.words))
        by (inr q) = inr (omega (arith, q, N.words))

    started_more : Until (suc k) after
    started_more = record {
      count = N.starts.length_is N.row.start ws ∙ U.count;
      done = λ m low high M. by m low high M (nat_eq m (suc k)) refl;
      zeros = λ m above M i h. beside m M (λ e. absurd (omega (arith, e, above))) i h ∙ U.zeros m (omega (arith, above)) M i h;
    }
      where
        here : (m : ℕ) → m ≡ suc k → (M : Represents m) → BlockStarts g M.system M.row.start after
        here m e M =
            let row : M.row ≡ N.row = same_some M.row N.row (sym M.there ∙ (ap (λ z. slice_get program.monitors (z - 1)) e ∙ N.there)) in
            subst (λ (r : code.Monitor). BlockStarts g M.system M.row.start (carry_out r.start r.starts ws)) row
            (block_started g M.system M.row.starts M.row.start ws M.starts (omega (arith, M.lies, M.words, U.count)) (U.zeros m (omega (arith, e)) M))

        by : (m : ℕ) → 1 ≤ m → m ≤ suc k → (M : Represents m) → (b : Bool) → nat_eq m (suc k) ≡ b → BlockStarts g M.system M.row.start after
        by m low high M true e = here m (eqb-true m (suc k) e) M
        by m low high M false e =
            let other : m ≡ suc k → ⊥ = λ q. true≢false (sym (eq-eqb m (suc k) q) ∙ e) in
            block_kept g M.system M.row.start ws after (U.done m low (below m high other) M) (beside m M other)
          where
            below : (m : ℕ) → m ≤ suc k → (m ≡ suc k → ⊥) → m ≤ k
            below m high other = Prim.grind (arith, high, other)

  all_started : (rows : List code.Monitor) (k : ℕ) (ws : List ℤ) → ((i : ℕ) → slice_get program.monitors (k + i) ≡ slice_get rows i) → Until k ws → Until (k + length rows) (first_shared rows ws)
  all_started [] k ws there U = subst (λ n. Until n ws) (nothing_more k) U
    where
      nothing_more : (n : ℕ) → n ≡ n + 0
      nothing_more n = omega arith
  all_started (r ∷ rows) k ws there U =
      subst (λ n. Until n (first_shared rows (carry_out r.start r.starts ws))) (one_more k (length rows))
      (all_started rows (suc k) (carry_out r.start r.starts ws) (λ i. ap (slice_get program.monitors) (one_more k i) ∙ there (suc i))
      (subst (λ (z : code.Monitor). Until (suc k) (carry_out z.start z.starts ws)) row (started_more k ws U N)))
    where
      one_more : (n m : ℕ) → suc n + m ≡ n + suc m
      one_more n m = omega arith

      here : slice_get program.monitors k ≡ Some r
      here = ap (slice_get program.monitors) (nothing_more k) ∙ there 0
        where
          nothing_more : (n : ℕ) → n ≡ n + 0
          nothing_more n = omega arith

      N : Represents (suc k)
      N = F.monitors (suc k) (omega arith) (omega (arith, slice_get_within program.monitors k r here, F.monitor_rows))

      row : N.row ≡ r
      row = same_some N.row r (sym N.there ∙ (ap (slice_get program.monitors) (one_less k) ∙ here))

  abbrev zeroed : List ℤ
  zeroed = replicate program.shared (pos 0)

  none_yet : Until 0 zeroed
  none_yet = record {
    count = length-replicate program.shared (pos 0);
    done = λ m low high M. absurd (omega (arith, low, high));
    zeros = λ m above M i h. get_or-replicate program.shared (M.row.start + i) (pos 0) (pos 0) (omega (arith, h, M.lies, M.words));
  }

  shared_until : Until (length program.monitors) (first_shared program.monitors zeroed)
  shared_until = subst (λ n. Until n (first_shared program.monitors zeroed)) (nothing_before (length program.monitors)) (all_started program.monitors 0 zeroed (λ i. ap (slice_get program.monitors) (nothing_before i)) none_yet)
    where
      nothing_before : (n : ℕ) → 0 + n ≡ n
      nothing_before n = omega arith

  pub shared_length : length (first_shared program.monitors zeroed) ≡ program.shared
  shared_length = shared_until.count

  -- At the start each monitor's block has its start values.
  pub shared_starts : (m : ℕ) → 1 ≤ m → m ≤ monitor_count setup → (M : Represents m) → BlockStarts g M.system M.row.start (first_shared program.monitors zeroed)
  shared_starts m low high M = shared_until.done m low (omega (arith, high, F.monitor_rows)) M
