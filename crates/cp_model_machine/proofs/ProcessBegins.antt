-- If another process hasn't begun, then after a kernel step it is still ready to begin. Either the
-- step starts it, or nothing that belongs to it changes, nor do the words in which its parameters
-- wait.
use Rattle.std.proofs.Common.{◌≡◌, ◌⊎◌, inl, inr, ℕ, zero, suc, ◌+◌, ◌-◌, ◌++◌, ◌≤◌, ◌<◌, ℤ, List, [], ◌∷◌, length, Bool, true, false, Some, refl, ap, sym, subst, ◌∙◌, arith}
use Rattle.std.specs.Prelude.{drop, nat_eq}
use Rattle.std.proofs.lemmas.Bool.{eq-eqb, eqb-true, true≢false}
use Rattle.cp_model.specs.Abstract as a
use Rattle.cp_model.specs.Abstract.{System}
use Rattle.cp_model.specs.Configurations as stage
use Rattle.cp_model.specs.Configurations.{Status, StepResult}
use Rattle.cp_model.specs.Continuations.{Task}
use Rattle.cp_model.specs.Invariant.{Invariant}
use Rattle.cp_model.specs.Locations.{Location}
use Rattle.cp_model.specs.Outcomes.{Fault, Gives}
use Rattle.cp_model.specs.Parts.{is_own}
use Rattle.cp_model.specs.States.{HeldBy, Holder, State, configuration, context, is_started, process_count}
use Rattle.cp_model.specs.StatementSteps.{execute}
use Rattle.cp_model.specs.Step.{take_action}
use Rattle.cp_model.specs.Stores.{Writes, put_all}
use Rattle.cp_model.specs.Turns as turns
use Rattle.cp_model.specs.Turns.{after_step, kind, kind_of}
use Rattle.cp_model.proofs.Options.{same_some}
use Rattle.cp_model_program.specs.Layout.{component_words, natural}
use Rattle.cp_model_program.specs.Programs as op
use Rattle.cp_model_program.specs.Programs.{Operation}
use Rattle.cp_model_program.specs.Sites.{operation_at}
use Rattle.cp_model_program.specs.IsProgramFor.{Apart, ProcessRepresents, IsProgramFor}
use Rattle.cp_model_program.specs.Starts.{word}
use Rattle.cp_model_machine.specs.Addresses.{Ground, scope}
use Rattle.cp_model_machine.specs.Beginning.{Begins}
use Rattle.cp_model_machine.specs.KernelSteps.{Delayed, Kernel, SchedulingState, Turning, Unstarted, apply_effect, enter_gate, gate_of, join_words, part_words, pass_to, resume, set_stage, stage_of, start_process}
use Rattle.cp_model_machine.specs.Passing.{monitor_start}
use Rattle.cp_model_machine.specs.PartOf.{PartOf, RunsOn}
use Rattle.cp_model_machine.specs.PrivateStates as machine
use Rattle.cp_model_machine.specs.PrivateStates.{Acting, StepContext, PrivateState}
use Rattle.cp_model_machine.specs.Steps.{act}
use Rattle.cp_model_machine.proofs.BeginsKept.{SameWaiting, dropped, kept_begins}
use Rattle.cp_model_machine.proofs.BeginsStarted as started
use Rattle.cp_model_machine.proofs.Deciding.{Reaches}
use Rattle.cp_model_machine.proofs.InitProcesses.{Bound, BothFault, BothInit, BothStart, InitOfProcess, Kept, body, both_init, here, moved, row_represents}
use Rattle.cp_model_machine.proofs.OtherGround.{other_ground}
use Rattle.cp_model_machine.proofs.OthersKept.{KeepsOwned, NotStarted, after_other_start, after_start_stored, after_started, step_started, step_stored}
use Rattle.cp_model_machine.proofs.ProcessSteps.{moved_same, passes_same}
use Rattle.cp_model_machine.proofs.Spares.{IsSpared, Spares}
use Rattle.cp_model_machine.proofs.Sparing.{Sparing, SparesAll, StartsOne, ready_spares}
use Rattle.cp_model_machine.proofs.Stepping.{Around, AroundAll, acted}
use Rattle.cp_model_machine.proofs.Waiting.{waits_apart}

-- A process whose next step is a kernel step is ready.
kernel_ready : (x : Status) (k : List Task) → kind_of x k ≡ turns.Kernel → x ≡ stage.Ready
kernel_ready stage.Ready k e = refl
kernel_ready _ k e = absurd (subst is_none e tt)
  where
    is_none : turns.Kind → Type 0
    is_none turns.NoStep = Unit {0}
    is_none _ = ⊥

module _ (G : Ground) (s : State) (w : StepContext) (before : List ℕ) (o : PrivateState) (around : Around G s w) (q own : ℕ) (oq : PrivateState) (low : 1 ≤ q) (high : q ≤ process_count G.setup) (other : G.p ≡ q → ⊥)
    (number : oq.number ≡ q) (count : length oq.words ≡ own) (k l : Kernel) (shared : k.shared ≡ drop G.own o.words) where
  abbrev H : Ground
  H = other_ground G q own

  module _ (F : IsProgramFor G.program G.setup) where
    abbrev P : ProcessRepresents G.program F.texts G.setup q
    P = F.processes q low high

    -- No monitor is in the words where the parameters wait.
    waiting_spared : (i : ℕ) → P.row.parameters ≤ i → i < P.row.parameters + P.row.waiting → IsSpared G (G.own + i)
    waiting_spared i from below = (omega arith, λ m y is. by m y (waits_apart G F q P m y is))
      where
        by : (m : ℕ) (y : System) → Apart (monitor_start G.program m) (component_words (scope G) y) P.row.parameters P.row.waiting
            → (G.own + i < G.own + monitor_start G.program m) ⊎ (G.own + monitor_start G.program m + component_words (scope G) y ≤ G.own + i)
        by m y (inl h) = inr (omega (arith, h, from))
        by m y (inr h) = inl (omega (arith, h, below))

    abbrev SameAfter : List ℤ → Type 0
    SameAfter new = (i : ℕ) → P.row.parameters ≤ i → i < P.row.parameters + P.row.waiting → word new (G.own + i) ≡ word o.words (G.own + i)

    same_waiting : (new : List ℤ) → l.shared ≡ drop G.own new → SameAfter new → SameWaiting G q own oq number F.texts P k l
    same_waiting new is same i from below =
        ap (λ zs. word zs i) is ∙ (dropped G.own i new ∙ (same i from below ∙ (sym (dropped G.own i o.words) ∙ sym (ap (λ zs. word zs i) shared))))

    pub kept : (u : State) (new : List ℤ) → l.shared ≡ drop G.own new → NotStarted q s u → KeepsOwned q s u → SameAfter new → Begins H s k oq → Begins H u l oq
    kept u new is N owned same B = kept_begins G q own oq number F.texts P s u k l N owned (same_waiting new is same) B

  -- ---- where it is started, or another one

  module _ (Z : InitOfProcess G s w before o) (B : Begins H s k oq) where
    faulted_begins : (n : ℕ) (us : List ℤ) → l.shared ≡ drop G.own us → Kept Z us → Begins H (after_step s G.p (Fault n)) l oq
    faulted_begins n us is same =
        kept Z.represents (after_step s G.p (Fault n)) us is (after_started s G.p q other (Fault n) tt) (λ j mine. refl) (λ i from below. same.1 (G.own + i) (inr (omega (arith, around.own)))) B

    module _ (free : is_started (s.status Z.number) ≡ false) (ws : Writes) (us : List ℤ) (bound : Bound Z ws us) (is : l.shared ≡ drop G.own (moved Z us)) where
      abbrev after : State
      after = after_step s G.p (Gives (record (configuration s G.p) { store = put_all ws s.store; continuation = Z.rest }, stage.Starts Z.number (body Z)))

      other_begins : (Z.number ≡ q → ⊥) → Begins H after l oq
      other_begins differ =
          kept Z.represents after (moved Z us) is (after_other_start s G.p q other _ Z.number (body Z) differ) (after_start_stored s G.p q other _ Z.number (body Z) unwritten)
          (λ i from below. moved_same Z us (G.own + i) (by i from below (Z.represents.parameters_apart Z.number q (row_represents Z) (P Z.represents) differ)) ∙ passes_same Z ws us bound (G.own + i) (inr (omega arith))) B
        where
          unwritten : (j : Location) → is_own q j.owner ≡ true → put_all ws s.store j ≡ s.store j
          unwritten j mine = bound.unwritten j s.store (λ p i e. differ (sym (eqb-true q Z.number (ap (λ (z : Location). is_own q z.owner) (sym e) ∙ mine))))

          by : (i : ℕ) → (P Z.represents).row.parameters ≤ i → i < (P Z.represents).row.parameters + (P Z.represents).row.waiting
              → Apart (row_represents Z).row.parameters (row_represents Z).row.waiting (P Z.represents).row.parameters (P Z.represents).row.waiting
              → (G.own + i < G.own + (row_represents Z).row.parameters) ⊎ (G.own + (row_represents Z).row.parameters + (row_represents Z).row.waiting ≤ G.own + i)
          by i from below (inl h) = inr (omega (arith, h, from))
          by i from below (inr h) = inl (omega (arith, h, below))

      same_begins : Z.number ≡ q → Begins H after l oq
      same_begins same =
          subst (λ r. Begins (other_ground G r own) after l oq) same
          (started.started_begins Z free ws us bound own oq (number ∙ sym same) count k l is (subst (λ r. Begins (other_ground G r own) s k oq) (sym same) B))

      start_begins : Begins H after l oq
      start_begins = by (nat_eq Z.number q) refl
        where
          by : (b : Bool) → nat_eq Z.number q ≡ b → Begins H after l oq
          by true e = same_begins (eqb-true Z.number q e)
          by false e = other_begins (λ h. true≢false (sym (eq-eqb Z.number q h) ∙ e))

    both_begins : (R : StepResult) (M : Acting) → BothInit Z R M → l.shared ≡ drop G.own M.0.words → Begins H (after_step s G.p R) l oq
    both_begins R M (BothFault n f us result acting same kept') is =
        subst (λ z. Begins H (after_step s G.p z) l oq) (sym result) (faulted_begins n us (is ∙ ap (λ (z : Acting). drop G.own z.0.words) acting) kept')
    both_begins R M (BothStart ws us free result acting bound) is =
        subst (λ z. Begins H (after_step s G.p z) l oq) (sym result) (start_begins free ws us bound (is ∙ ap (λ (z : Acting). drop G.own z.0.words) acting))

-- Process `p` takes its next step, which is a kernel step, with all words in reach. The words after
-- its own are those of the kernel, both before and after the step.
pub started_begins : (G : Ground) (s : State) (w : StepContext) (before : List ℕ) (o : PrivateState) (F : IsProgramFor G.program G.setup) → F.texts ≡ G.texts → PartOf G s before o → Invariant s
    → Around G s w → Reaches G s → AroundAll G s w → kind s G.p ≡ turns.Kernel → RunsOn G s.store o (s.continuation G.p)
    → (y : Operation) → operation_at G.program o.counter ≡ Some y → (k l : Kernel) → k.shared ≡ drop G.own o.words → l.shared ≡ drop G.own (act G.program w o y).0.words
    → (q own : ℕ) (oq : PrivateState) (previous : List ℕ) → 1 ≤ q → q ≤ process_count G.setup → (G.p ≡ q → ⊥)
    → PartOf (other_ground G q own) s previous oq → Begins (other_ground G q own) s k oq → Begins (other_ground G q own) (acted G s) l oq
started_begins G s w before o F texts part I around reaches K kernel R y there k l shared shared' q own oq previous low high other partq B =
    by (ready_spares G s w before o F texts part I around reaches K (s.continuation G.p) refl (kernel_ready (s.status G.p) (s.continuation G.p) kernel) R)
  where
    by : Sparing G s w before o → Begins (other_ground G q own) (acted G s) l oq
    by (SparesAll x there' none spares) =
        let same : x ≡ y = same_some x y (sym there' ∙ there) in
        kept G s w before o around q own oq low high other partq.number partq.count k l shared F (acted G s) (act G.program w o y).0.words shared'
        (step_started G.setup s G.p q other I kernel none) (step_stored G.setup s G.p q other I kernel none)
        (λ i from below. subst (λ z. Spares G o.words (act G.program w o z).0.words) same spares (G.own + i)
        (waiting_spared G s w before o around q own oq low high other partq.number partq.count k l shared F i from below)) B
    by (StartsOne Z there' acts) =
        let same : y ≡ op.InitProcess Z.number Z.passes Z.words Z.next = same_some y (op.InitProcess Z.number Z.passes Z.words Z.next) (sym there ∙ there') in
        subst (λ x. Begins (other_ground G q own) (after_step s G.p (take_action (context G.setup s G.p) (configuration s G.p) x)) l oq) (sym acts)
        (both_begins G s w before o around q own oq low high other partq.number partq.count k l shared Z B
        (execute (context G.setup s G.p) (configuration s G.p) (here Z) Z.rest (a.Init Z.name Z.given)) (act G.program w o (op.InitProcess Z.number Z.passes Z.words Z.next)) (both_init Z)
        (shared' ∙ ap (λ z. drop G.own (act G.program w o z).0.words) same))

-- ---- the kernel's turn

passed : (m : ℕ) (rs : List ℕ) (k : Kernel) → (pass_to m rs k).shared ≡ k.shared
passed m [] k = refl
passed m (r ∷ rs) k = refl

drop_append : (xs ys : List ℤ) → drop (length xs) (xs ++ ys) ≡ ys
drop_append [] ys = refl
drop_append (x ∷ xs) ys = drop_append xs ys

-- An effect changes only gates and stages.
pub effect_shared : (own p : ℕ) (e : machine.Effect) (k : Kernel) → (apply_effect own p e k).shared ≡ k.shared
effect_shared own p machine.NoEffect k = refl
effect_shared own p (machine.Enters m) k = by (gate_of k.gates m).holder
  where
    by : (h : Holder) → (enter_gate p m h k).shared ≡ k.shared
    by (HeldBy q) = refl
    by _ = refl
effect_shared own p (machine.Leaves m) k = passed m (gate_of k.gates m).askers k
effect_shared own p (machine.Delays m q) k = passed m (gate_of k.gates m).askers (set_stage p (Delayed m (q - own)) k)
effect_shared own p (machine.Continues m r) k = by (natural r)
  where
    by : (n : ℕ) → (resume m n k).shared ≡ k.shared
    by zero = passed m (gate_of k.gates m).askers k
    by (suc n) = refl
effect_shared own p (machine.Opens m) k = refl
effect_shared own p (machine.Starts r) k = by (stage_of k.stages r)
  where
    by : (g : SchedulingState) → (start_process r g k).shared ≡ k.shared
    by Unstarted = refl
    by _ = refl

-- The same for a step in the kernel turn of the process.
pub step_begins : (G : Ground) (s : State) (w : StepContext) (before : List ℕ) (x : Turning) → length x.own.words ≡ G.own → (F : IsProgramFor G.program G.setup) → F.texts ≡ G.texts → PartOf G s before (join_words x) → Invariant s
    → Around G s w → Reaches G s → AroundAll G s w → kind s G.p ≡ turns.Kernel → RunsOn G s.store (join_words x) (s.continuation G.p)
    → (y : Operation) → operation_at G.program x.own.counter ≡ Some y
    → (q own : ℕ) (oq : PrivateState) (previous : List ℕ) → 1 ≤ q → q ≤ process_count G.setup → (G.p ≡ q → ⊥)
    → PartOf (other_ground G q own) s previous oq → Begins (other_ground G q own) s x.kernel oq
    → Begins (other_ground G q own) (acted G s) (part_words G.own x (act G.program w (join_words x) y)).kernel oq
step_begins G s w before x count F texts part I around reaches K kernel R y there =
    started_begins G s w before (join_words x) F texts part I around reaches K kernel R y there x.kernel (part_words G.own x (act G.program w (join_words x) y)).kernel
    (sym (ap (λ n. drop n (x.own.words ++ x.kernel.shared)) (sym count) ∙ drop_append x.own.words x.kernel.shared))
    (effect_shared G.own x.own.number (act G.program w (join_words x) y).1 _)
