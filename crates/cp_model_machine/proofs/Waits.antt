-- The chain of askers that is read off a kernel is that of the state.
--
-- A process asks in the state for the gate for which its stage asks, and the gates are the same. A
-- process that the text doesn't have asks for none, since every asker is a process of the text.
use Rattle.std.proofs.Common.{◌≡◌, ℕ, zero, suc, ◌≤◌, List, [], ◌∷◌, length, Bool, true, false, Option, Some, None, refl, ap, sym, subst, ◌∙◌, arith}
use Rattle.std.specs.Prelude.{if◌then◌else◌, nat_eq, slice_get}
use Rattle.std.proofs.lemmas.Bool.{eqb-true, true≢false}
use Rattle.std.proofs.lemmas.Option.{slice_get-get_or, slice_get_within}
use Rattle.cp_model.specs.Chains as meaning
use Rattle.cp_model.specs.Chains.{IsAskingChain, holding_process}
use Rattle.cp_model.specs.Configurations as status
use Rattle.cp_model.specs.Configurations.{Status}
use Rattle.cp_model.specs.Report.{is_asking}
use Rattle.cp_model.specs.States.{Gate, Setup, State, is_in, monitor_count, process_count}
use Rattle.cp_law_typing.specs.TypePlaces.{type_place}
use Rattle.cp_law_gates.specs.Hierarchy.{Hierarchy}
use Rattle.cp_law_gates.proofs.Chains.{hierarchy}
use Rattle.cp_model_machine.specs.Addresses.{Ground}
use Rattle.cp_model_machine.specs.Chains.{ChainIsChain, StatesMakeHierarchies, chain_within, holder_asked, is_asker, waits_for}
use Rattle.cp_model_machine.specs.InState.{IsIn}
use Rattle.cp_model_machine.specs.KernelOf.{AreProcesses, GatesRepresent, StageMeans, kernel_ground}
use Rattle.cp_model_machine.specs.KernelSteps.{Asking, Begun, Delayed, Fresh, Kernel, SchedulingState, Unstarted, gate_of, stage_of}
use Rattle.cp_model_machine.specs.Machines.{Machine}
use Rattle.cp_model_machine.proofs.Finding.{some_is_not_none}

module _ (G : Ground) (monitors processes : ℕ) (s : State) (k : Kernel) (S : GatesRepresent G monitors processes s k)
    (listed : (m p : ℕ) → s.status p ≡ status.Asking m → is_in p (s.gates m).askers ≡ true) where
  -- The status and the stage wait for the same process, and both ask for a gate or neither does.
  abbrev Alike : Status → SchedulingState → Type 0
  Alike x g = (meaning.holder_asked s x ≡ holder_asked k g) × (is_asking x ≡ is_asker g)

  asks_same : (x : Status) (g : SchedulingState) → StageMeans G x g → Alike x g
  asks_same status.Unstarted Unstarted h = (refl, refl)
  asks_same status.Fresh Fresh h = (refl, refl)
  asks_same status.Ready Begun h = (refl, refl)
  asks_same status.Ended Begun h = (refl, refl)
  asks_same status.Waiting Begun h = (refl, refl)
  asks_same (status.Faulted n) Begun h = (refl, refl)
  asks_same (status.Delayed m q) (Delayed n at) h = (refl, refl)
  asks_same (status.Asking m) (Asking n) h =
      (ap (λ (g : Gate). holding_process g.holder) (sym (S.gates m)) ∙ ap (λ j. holding_process (gate_of k.gates j).holder) h, refl)
  asks_same _ _ h = absurd h

  among : (p : ℕ) (ps : List ℕ) → AreProcesses processes ps → is_in p ps ≡ true → (1 ≤ p) × (p ≤ processes)
  among p [] h e = absurd (true≢false (sym e))
  among p (q ∷ ps) h e = by (nat_eq p q) refl e (among p ps h.2)
    where
      by : (b : Bool) → nat_eq p q ≡ b → (if b then true else is_in p ps) ≡ true → (is_in p ps ≡ true → (1 ≤ p) × (p ≤ processes)) → (1 ≤ p) × (p ≤ processes)
      by true same e rest = let is : p ≡ q = eqb-true p q same in (omega (arith, is, h.0), omega (arith, is, h.1))
      by false same e rest = rest e

  -- Who isn't among the processes asks for no gate.
  others_ask_none : (p : ℕ) → ((1 ≤ p) × (p ≤ processes) → ⊥) → Alike (s.status p) Begun
  others_ask_none p outside = by (s.status p) refl
    where
      by : (x : Status) → s.status p ≡ x → Alike x Begun
      by (status.Asking m) e = absurd (outside (among p (s.gates m).askers (S.askers m) (listed m p e)))
      by status.Unstarted e = (refl, refl)
      by status.Fresh e = (refl, refl)
      by status.Ready e = (refl, refl)
      by status.Ended e = (refl, refl)
      by status.Waiting e = (refl, refl)
      by (status.Faulted n) e = (refl, refl)
      by (status.Delayed m q) e = (refl, refl)

  all_alike : (p : ℕ) → Alike (s.status p) (stage_of k.stages p)
  all_alike zero = others_ask_none zero (λ h. omega (arith, h.0))
  all_alike (suc p) = by (slice_get k.stages p) refl
    where
      by : (o : Option SchedulingState) → slice_get k.stages p ≡ o → Alike (s.status (suc p)) (stage_of k.stages (suc p))
      by (Some g) e =
          asks_same (s.status (suc p)) (stage_of k.stages (suc p)) (S.stages (suc p) (omega arith) (omega (arith, slice_get_within k.stages p g e)))
      by None e =
          subst (Alike (s.status (suc p))) (sym (ap (λ o. elim o as (λ z. SchedulingState) [ None ↦ Begun | Some g ↦ g ]) e))
          (others_ask_none (suc p) (λ h. some_is_not_none _ (sym (slice_get-get_or k.stages p Begun (omega (arith, h.1, S.stage_count))) ∙ e)))

  waits_same : (p : ℕ) → meaning.holder_asked s (s.status p) ≡ waits_for k p
  waits_same p = (all_alike p).0

  pub asks_both : (p : ℕ) → is_asking (s.status p) ≡ is_asker (stage_of k.stages p)
  asks_both p = (all_alike p).1

  pub chain_same : (n p : ℕ) (c : List ℕ) → length c ≤ n → IsAskingChain s p c → c ≡ chain_within n k (Some p)
  chain_same n p [] h i = absurd i
  chain_same zero p (q ∷ c) h i = absurd (omega (arith, h))
  chain_same (suc n) p (q ∷ []) h i =
      ap (λ z. z ∷ []) i.0 ∙ ap (λ o. p ∷ chain_within n k o) (sym i.1 ∙ waits_same p)
  chain_same (suc n) p (q ∷ r ∷ rs) h i =
      ap (λ z. z ∷ r ∷ rs) i.0 ∙ ap (λ l. p ∷ l) (chain_same n r (r ∷ rs) (omega (arith, h)) i.2)
      ∙ ap (λ o. p ∷ chain_within n k o) (sym i.1 ∙ waits_same p)

pub states_make_hierarchies : StatesMakeHierarchies
states_make_hierarchies m setup s I = hierarchy (type_place setup) (monitor_count setup) s I.order.gates

pub chain_is_chain : ChainIsChain
chain_is_chain m setup s p I =
    let H : Hierarchy (type_place setup) (monitor_count setup) s = states_make_hierarchies m setup s I in
    let E = H.chains p in
    let represent = I.kernel.gates_represent in (
      E,
      chain_same (kernel_ground m.program I.represents.texts setup) (monitor_count setup) (process_count setup) s m.kernel represent H.listed
          (suc (length m.kernel.gates)) p E.chain (omega (arith, E.short, represent.gate_count)) E.is,
    )

pub asks_alike : (m : Machine) (setup : Setup) (s : State) → IsIn m setup s → (p : ℕ) → is_asking (s.status p) ≡ is_asker (stage_of m.kernel.stages p)
asks_alike m setup s I =
    asks_both (kernel_ground m.program I.represents.texts setup) (monitor_count setup) (process_count setup) s m.kernel I.kernel.gates_represent (states_make_hierarchies m setup s I).listed
