-- A process that hasn't begun is kept if nothing that belongs to it changed, nor the words in which
-- its parameters wait.
use Rattle.std.proofs.Common.{◌≡◌, ℕ, zero, suc, ◌+◌, ◌-◌, ◌≤◌, ◌<◌, ℤ, List, [], ◌∷◌, map, Some, None, refl, ap, sym, subst, ◌∙◌, arith}
use Rattle.std.specs.Prelude.{drop, slice_get}
use Rattle.cp_model.specs.States.{State}
use Rattle.cp_model_program.specs.Sites.{UnitText}
use Rattle.cp_model_program.specs.IsProgramFor.{ProcessRepresents}
use Rattle.cp_model_program.specs.Starts.{block, paste, word}
use Rattle.cp_model_machine.specs.Addresses.{AllHaveRights, Ground}
use Rattle.cp_model_machine.specs.Beginning.{Begins}
use Rattle.cp_model_machine.specs.KernelSteps.{Kernel}
use Rattle.cp_model_machine.specs.Machines.{begin_from}
use Rattle.cp_model_machine.specs.PartOf.{RunsOn, components}
use Rattle.cp_model_machine.specs.PrivateStates as machine
use Rattle.cp_model_machine.specs.PrivateStates.{PrivateState}
use Rattle.cp_model_machine.proofs.OtherGround.{data_owned, first_has_rights, other_ground, runs_owned}
use Rattle.cp_model_machine.proofs.OthersKept.{KeepsOwned, NotStarted}

-- ---- words

pub block_same : (ws us : List ℤ) (from n : ℕ) → ((i : ℕ) → from ≤ i → i < from + n → word us i ≡ word ws i) → block us from n ≡ block ws from n
block_same ws us from zero same = refl
block_same ws us from (suc n) same =
    let first = same from (omega arith) (omega arith) in
    let rest = block_same ws us (suc from) n (λ i low high. same i (omega (arith, low)) (omega (arith, high))) in
    λ z. first z ∷ rest z

pub dropped : (n i : ℕ) (ws : List ℤ) → word (drop n ws) i ≡ word ws (n + i)
dropped zero i ws = ap (word ws) (omega arith)
dropped (suc n) i [] = refl
dropped (suc n) i (x ∷ ws) = dropped n i ws ∙ ap (word (x ∷ ws)) (more n i)
  where
    more : (n i : ℕ) → suc (n + i) ≡ suc n + i
    more n i = omega arith

-- ---- where it stays as it was

module _ (G : Ground) (q own : ℕ) (o : PrivateState) (number : o.number ≡ q) (texts : List UnitText) (P : ProcessRepresents G.program texts G.setup q) where
  abbrev H : Ground
  H = other_ground G q own

  -- The process begins with the parameters that wait for it.
  abbrev pub begun : Kernel → PrivateState
  begun k = record o { activity = machine.Running; words = paste 1 (block k.shared (suc P.row.parameters) (P.row.waiting - 1)) o.words }

  pub begun_is : (k : Kernel) → begin_from G.program k o ≡ begun k
  begun_is k =
      ap (λ n. elim (slice_get G.program.processes (n - 1)) as (λ z. PrivateState) [
        | None ↦ o
        | Some x ↦ record o { activity = machine.Running; words = paste 1 (block k.shared (suc x.parameters) (x.waiting - 1)) o.words }
      ]) number
      ∙ (λ i. elim (P.there i) as (λ z. PrivateState) [
        | None ↦ o
        | Some x ↦ record o { activity = machine.Running; words = paste 1 (block k.shared (suc x.parameters) (x.waiting - 1)) o.words }
      ])

  -- The words in which its parameters wait are the same.
  abbrev pub SameWaiting : Kernel → Kernel → Type 0
  SameWaiting k l = (i : ℕ) → P.row.parameters ≤ i → i < P.row.parameters + P.row.waiting → word l.shared i ≡ word k.shared i

  pub kept_begins : (s u : State) (k l : Kernel) → NotStarted q s u → KeepsOwned q s u → SameWaiting k l → Begins H s k o → Begins H u l o
  kept_begins s u k l N owned waiting B = record {
    activity_is = B.activity_is;
    at_start = B.at_start;
    unstarted = λ e. data_owned G q own s.store u.store owned [] o.words (B.unstarted (N.unstarted e));
    fresh = λ e.
        subst (λ x. RunsOn H u.store x (u.continuation q)) (sym (begun_is l))
        (subst (RunsOn H u.store (begun l)) (sym N.continuation)
        (subst (λ ws. RunsOn H u.store (record o { activity = machine.Running; words = paste 1 ws o.words }) (s.continuation q)) (sym same)
        (runs_owned G q own s.store u.store owned (begun k) (s.continuation q)
        (subst (λ x. RunsOn H s.store x (s.continuation q)) (begun_is k) (B.fresh (N.fresh e))) given)));
  }
    where
      same : block l.shared (suc P.row.parameters) (P.row.waiting - 1) ≡ block k.shared (suc P.row.parameters) (P.row.waiting - 1)
      same = block_same k.shared l.shared (suc P.row.parameters) (P.row.waiting - 1) (λ i low high. waiting i (omega (arith, low)) (omega (arith, high, low)))

      given : AllHaveRights H u.store (components o.component o.frames)
      given = subst (AllHaveRights H u.store) (λ i. sym B.at_start.component i ∷ map (λ (f : machine.Frame). f.component) (sym B.at_start.frames i)) (first_has_rights H u.store)
