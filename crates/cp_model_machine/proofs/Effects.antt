-- What a step leaves to the kernel, stated for each of the two sides separately.
--
-- A step that faults leaves nothing, in the machine and in the meaning. The private state after a
-- step shows whether it faulted: if it is that of the process, then both fault or neither does. So
-- it is enough to say what each side leaves if it doesn't fault.
use Rattle.std.proofs.Common.{Bool, Err, List, None, Ok, Option, Result, Some, [], ap, arith, false, refl, subst, suc, sym, true, zero, ℕ, ℤ, ◌+◌, ◌∙◌, ◌∷◌, ◌≡◌}
use Rattle.std.specs.Prelude.{if◌then◌else◌, nat_eq}
use Rattle.std.proofs.lemmas.Bool.{eqb-true}
use Rattle.cp_model.specs.CallSteps.{entering, leaving}
use Rattle.cp_model.specs.Configurations as effect
use Rattle.cp_model.specs.Configurations.{Asking, Configuration, Delayed, Effect, Ended, Faulted, Fresh, Ready, Status, StepResult, Unstarted, Waiting}
use Rattle.cp_model.specs.Gates.{enter, made_ready, pass_to, start_process}
use Rattle.cp_model.specs.Outcomes.{Fault, Gives, Outcome, and_then}
use Rattle.cp_model.specs.Parts.{Failed, Finished, PrivateStatus, Running, Sleeping, private_status}
use Rattle.cp_model.specs.States.{Free, HeldBy, Holder, State, Unset, monitor_count, process_count, set_status, with_at, with_configuration}
use Rattle.cp_model.specs.Turns.{after_step}
use Rattle.cp_model.specs.Integers.{same_integer}
use Rattle.cp_model.specs.Places.{within}
use Rattle.cp_model.specs.declared.state.Fault as fault
use Rattle.cp_model.specs.declared.state.Fault.TheVariants as faults
use Rattle.cp_model.proofs.ExpressionReach.{IfGives}
use Rattle.cp_model.proofs.QuietSteps.{Quietly}
use Rattle.cp_model.proofs.StateMaps.{with_at_here}
use Rattle.cp_model_program.specs.IsProgramFor.{system_of_monitor}
use Rattle.cp_model_program.specs.Starts.{unset, word}
use Rattle.cp_model_program.specs.Terms.{Argument, Copy, Reference, Right, Value}
use Rattle.cp_model_machine.specs.Addresses.{Ground}
use Rattle.cp_model_machine.specs.Calling.{gate_effect, leave, return_with}
use Rattle.cp_model_machine.specs.Passing.{Passing, pass_all, pass_copy, pass_one, pass_result, pass_value, pass_word, reference_word, when_passed}
use Rattle.cp_model_machine.specs.Values.{place_of, value_of}
use Rattle.cp_model_machine.specs.EffectOf.{EffectMeans, IsEffectOf}
use Rattle.cp_model_machine.specs.KernelOf.{kernel_ground}
use Rattle.cp_model_machine.specs.Remaining.{IsGate, gate_number}
use Rattle.cp_model_machine.specs.PartOf.{PartOf, status_of}
use Rattle.cp_model_machine.specs.PrivateStates as machine
use Rattle.cp_model_machine.specs.PrivateStates.{Acting, Activity, Frame, NoEffect, StepContext, PrivateState, fault_in, guard, set_temp, view_of}
use Rattle.cp_model_machine.proofs.MonitorsThere.{monitor_below}

-- The effect that the machine leaves means the effect that the meaning leaves, if `own` words are
-- the process's own.
abbrev pub Means : Ground → ℕ → Effect → machine.Effect → Type 0
Means G own x e = EffectMeans (kernel_ground G.program G.texts G.setup) (monitor_count G.setup) (process_count G.setup) own x e

abbrev pub EffectAgrees : Ground → ℕ → StepResult → machine.Effect → Type 0
EffectAgrees G own x e = IsEffectOf (kernel_ground G.program G.texts G.setup) (monitor_count G.setup) (process_count G.setup) own x e

pub quiet_agrees : (G : Ground) (own : ℕ) (x : StepResult) (e : machine.Effect) → Quietly x → e ≡ NoEffect → EffectAgrees G own x e
quiet_agrees G own (Fault n) e q none = none
quiet_agrees G own (Gives (c, effect.Own)) e q none = subst (Means G own effect.Own) (sym none) tt
quiet_agrees G own (Gives (c, effect.Ends)) e q none = subst (Means G own effect.Ends) (sym none) tt
quiet_agrees G own (Gives (c, effect.Waits)) e q none = subst (Means G own effect.Waits) (sym none) tt
quiet_agrees G own (Gives (c, _)) e q none = absurd q

-- ---- gates that are entered and left

module _ (G : Ground) (own : ℕ) where
  pub enters : (gate : Option ℕ) (n : ℕ) → n ≡ gate_number gate → IsGate G gate → Means G own (entering gate) (gate_effect n machine.Enters)
  enters None n same is = subst (λ z. Means G own effect.Own (gate_effect z machine.Enters)) (sym same) tt
  enters (Some m) n same is = subst (λ z. Means G own (effect.Enters m) (gate_effect z machine.Enters)) (sym same) (by m is.1)
    where
      by : (m : ℕ) → system_of_monitor G.setup m ≡ Some is.0 → Means G own (effect.Enters m) (gate_effect m machine.Enters)
      by zero e = absurd (omega (arith, (monitor_below G.setup 0 is.0 e).0))
      by (suc j) e = (refl, monitor_below G.setup (suc j) is.0 e)

  pub leaves : (gate : Option ℕ) (n : ℕ) → n ≡ gate_number gate → IsGate G gate → Means G own (leaving gate) (gate_effect n machine.Leaves)
  leaves None n same is = subst (λ z. Means G own effect.Own (gate_effect z machine.Leaves)) (sym same) tt
  leaves (Some m) n same is = subst (λ z. Means G own (effect.Leaves m) (gate_effect z machine.Leaves)) (sym same) (by m is.1)
    where
      by : (m : ℕ) → system_of_monitor G.setup m ≡ Some is.0 → Means G own (effect.Leaves m) (gate_effect m machine.Leaves)
      by zero e = absurd (omega (arith, (monitor_below G.setup 0 is.0 e).0))
      by (suc j) e = (refl, monitor_below G.setup (suc j) is.0 e)

-- ---- steps that continue

abbrev pub HasFaulted : Activity → Type 0
HasFaulted (machine.Faulted f) = Unit {0}
HasFaulted _ = ⊥

-- The machine's step doesn't fault and leaves `e`, or it faults and leaves nothing.
pub data LeavesIt (e : machine.Effect) (r : Acting) : Type 0 where
  WentOn : r.1 ≡ e → (HasFaulted r.0.activity → ⊥) → LeavesIt e r
  Stopped : r.1 ≡ NoEffect → HasFaulted r.0.activity → LeavesIt e r

abbrev pub HasFailed : PrivateStatus → Type 0
HasFailed (Failed n) = Unit {0}
HasFailed _ = ⊥

pub failed : (x : Activity) → HasFaulted x → HasFailed (status_of x)
failed (machine.Faulted f) h = tt
failed _ h = absurd h

faulted : (x : Activity) → HasFailed (status_of x) → HasFaulted x
faulted (machine.Faulted f) h = tt
faulted machine.NotBegun h = absurd h
faulted machine.Running h = absurd h
faulted machine.Waiting h = absurd h
faulted machine.Ended h = absurd h

-- Making a process ready doesn't change its private status.
pub private_ready : (x : Status) → private_status (made_ready x) ≡ private_status x
private_ready (Asking m) = refl
private_ready (Delayed m q) = refl
private_ready Unstarted = refl
private_ready Fresh = refl
private_ready Ready = refl
private_ready Ended = refl
private_ready Waiting = refl
private_ready (Faulted n) = refl

-- Making a process ready and passing on a gate change no private status.
pub ready_same : (r p : ℕ) (f : ℕ → Status) → private_status (with_at r (made_ready (f r)) f p) ≡ private_status (f p)
ready_same r p f = by (nat_eq r p) refl
  where
    by : (b : Bool) → nat_eq r p ≡ b → private_status (if b then made_ready (f r) else f p) ≡ private_status (f p)
    by true e = private_ready (f r) ∙ ap (λ z. private_status (f z)) (eqb-true r p e)
    by false e = refl

pub passed_same : (m p : ℕ) (rs : List ℕ) (u : State) → private_status ((pass_to m rs u).status p) ≡ private_status (u.status p)
passed_same m p [] u = refl
passed_same m p (r ∷ rs) u = ready_same r p u.status

-- The private status of a ready process after an effect of its own step.
abbrev pub private_by : Effect → PrivateStatus
private_by effect.Ends = Finished
private_by effect.Waits = Sleeping
private_by _ = Running

pub private_after : (s : State) (p : ℕ) → s.status p ≡ Ready → (c : Configuration) (x : Effect) → private_status ((after_step s p (Gives (c, x))).status p) ≡ private_by x
private_after s p ready c x = by x
  where
    is_ready : private_status (s.status p) ≡ Running
    is_ready = ap private_status ready

    gets : (y : Status) → private_status (with_at p y s.status p) ≡ private_status y
    gets y = ap private_status (with_at_here p y s.status)

    by : (x : Effect) → private_status ((after_step s p (Gives (c, x))).status p) ≡ private_by x
    by effect.Own = is_ready
    by effect.Ends = gets Ended
    by effect.Waits = gets Waiting
    by (effect.Enters m) = inner (s.gates m).holder
      where
        inner : (h : Holder) → private_status ((enter p m h (with_configuration s p c)).status p) ≡ Running
        inner (HeldBy q) = gets (Asking m)
        inner Free = is_ready
        inner Unset = is_ready
    by (effect.Leaves m) = passed_same m p (s.gates m).askers (with_configuration s p c) ∙ is_ready
    by (effect.Delays m q) = passed_same m p (s.gates m).askers (set_status p (Delayed m q) (with_configuration s p c)) ∙ gets (Delayed m q)
    by (effect.Continues m None) = passed_same m p (s.gates m).askers (with_configuration s p c) ∙ is_ready
    by (effect.Continues m (Some r)) = ready_same r p s.status ∙ is_ready
    by (effect.Opens m) = is_ready
    by (effect.Starts r k) = inner (s.status r) refl
      where
        fresh : (b : Bool) → nat_eq r p ≡ b → s.status r ≡ Unstarted → private_status (if b then Fresh else s.status p) ≡ Running
        fresh true e is = ap (λ y. private_status (begun y)) (sym is ∙ (ap s.status (eqb-true r p e) ∙ ready))
          where
            begun : Status → Status
            begun Unstarted = Fresh
            begun y = y
        fresh false e is = is_ready

        inner : (y : Status) → s.status r ≡ y → private_status ((start_process r k y (with_configuration s p c)).status p) ≡ Running
        inner Unstarted is = fresh (nat_eq r p) refl is
        inner Fresh is = is_ready
        inner Ready is = is_ready
        inner Ended is = is_ready
        inner Waiting is = is_ready
        inner (Asking m) is = is_ready
        inner (Delayed m q) is = is_ready
        inner (Faulted n) is = is_ready

-- A process that hasn't faulted in a step hasn't failed after it.
pub unfailed : (s : State) (p : ℕ) → s.status p ≡ Ready → (c : Configuration) (x : Effect) → HasFailed (private_status ((after_step s p (Gives (c, x))).status p)) → ⊥
unfailed s p ready c x h = by x (subst HasFailed (private_after s p ready c x) h)
  where
    by : (x : Effect) → HasFailed (private_by x) → ⊥
    by effect.Ends h = h
    by effect.Waits h = h
    by _ h = h

-- The two sides agree if the machine leaves `e` when it doesn't fault, and `e` means what the
-- meaning leaves then.
pub reported : (G : Ground) (own : ℕ) (s : State) (before : List ℕ) → s.status G.p ≡ Ready → (x : StepResult) (e : machine.Effect) (r : Acting)
    → PartOf G (after_step s G.p x) before r.0 → IfGives (λ y. Means G own y.1 e) x → LeavesIt e r → EffectAgrees G own x r.1
reported G own s before ready (Gives (c, x)) e r P means (WentOn same on) = subst (Means G own x) (sym same) means
reported G own s before ready (Gives (c, x)) e r P means (Stopped none off) =
    absurd (unfailed s G.p ready c x (subst HasFailed (sym P.status) (failed r.0.activity off)))
reported G own s before ready (Fault n) e r P means (WentOn same on) =
    absurd (on (faulted r.0.activity (subst HasFailed (ap private_status (sym (with_at_here G.p (Faulted n) s.status)) ∙ P.status) tt)))
reported G own s before ready (Fault n) e r P means (Stopped none off) = none

-- ---- what is left if the step continues

-- Passing changes only words.
module _ (w : StepContext) (to home : ℕ) where
  abbrev OnlyWords : PrivateState → PrivateState → Type 0
  OnlyWords o after = after ≡ record o { words = after.words }

  one_words : (x : Argument) (o : PrivateState) → OnlyWords o (pass_one w to home o x).own
  one_words (Value at low high c) o = by (value_of (view_of w o) c)
    where
      inner : (n : ℤ) (b : Bool) → OnlyWords o (if b then pass_word o (to + at) n else record { own = o; fault = Some faults.Range }).own
      inner n true = refl
      inner n false = refl

      by : (r : Result ℤ fault.Fault) → OnlyWords o (pass_result o r (λ n. pass_value o (to + at) low high n)).own
      by (Ok n) = inner n (within low high n)
      by (Err f) = refl
  one_words (Copy at size from) o = by (place_of (view_of w o) from)
    where
      by : (r : Result ℕ fault.Fault) → OnlyWords o (pass_result o r (λ n. pass_copy o (to + at) size n)).own
      by (Ok n) = refl
      by (Err f) = refl
  one_words (Reference at s) o = by (place_of (view_of w o) s)
    where
      by : (r : Result ℕ fault.Fault) → OnlyWords o (pass_result o r (λ n. pass_word o (to + at) (reference_word o n))).own
      by (Ok n) = refl
      by (Err f) = refl
  one_words (Right at t) o = refl

  pub passed_words : (xs : List Argument) (o : PrivateState) → OnlyWords o (pass_all w to home xs o).own
  passed_words [] o = refl
  passed_words (x ∷ xs) o = by (pass_one w to home o x).fault (one_words x o) (passed_words xs (pass_one w to home o x).own)
    where
      by : (f : Option fault.Fault) → OnlyWords o (pass_one w to home o x).own → OnlyWords (pass_one w to home o x).own (pass_all w to home xs (pass_one w to home o x).own).own
          → OnlyWords o (elim f as (λ y. Passing) [ None ↦ pass_all w to home xs (pass_one w to home o x).own | Some g ↦ pass_one w to home o x ]).own
      by None e rest = rest ∙ ap (λ (z : PrivateState). record z { words = (pass_all w to home xs (pass_one w to home o x).own).own.words }) e
      by (Some g) e rest = e

-- A ready process hasn't faulted.
pub going : (G : Ground) (s : State) (before : List ℕ) (o : PrivateState) → PartOf G s before o → s.status G.p ≡ Ready → HasFaulted o.activity → ⊥
going G s before o P ready h = subst (λ x. HasFailed (private_status x)) ready (subst HasFailed (sym P.status) (failed o.activity h))

pub then_means : {A : Type 0} (G : Ground) (own : ℕ) (e : machine.Effect) (O : Outcome A) (f : A → StepResult) → ((x : A) → IfGives (λ y. Means G own y.1 e) (f x))
    → IfGives (λ y. Means G own y.1 e) (and_then O f)
then_means G own e (Fault n) f h = tt
then_means G own e (Gives x) f h = h x

pub return_leaves : (o changed : PrivateState) (f : Frame) (fs : List Frame) (function : Bool) (e : machine.Effect) → (HasFaulted changed.activity → ⊥)
    → LeavesIt e (return_with o changed f fs function e)
return_leaves o changed f fs false e on = WentOn refl on
return_leaves o changed f fs true e on = by (same_integer (word o.words o.base) unset)
  where
    by : (b : Bool) → LeavesIt e (if b then fault_in o faults.NoResult else (leave (set_temp changed (f.temp + f.into) (word o.words o.base)) f fs, e))
    by true = Stopped refl tt
    by false = WentOn refl on

pub provided_leaves : (b : Bool) (o : PrivateState) (f : fault.Fault) (e : machine.Effect) (r : Acting) → LeavesIt e r → LeavesIt e (guard b o f r)
provided_leaves true o f e r h = h
provided_leaves false o f e r h = Stopped refl tt

-- Passing the arguments, which comes first, changes no activity.
pub passed_leaves : (w : StepContext) (from to : ℕ) (xs : List Argument) (o : PrivateState) (e : machine.Effect) (go : PrivateState → Acting) → (HasFaulted o.activity → ⊥)
    → ((p : PrivateState) → (HasFaulted p.activity → ⊥) → LeavesIt e (go p)) → LeavesIt e (when_passed (pass_all w from to xs o) go)
passed_leaves w from to xs o e go on h = by (pass_all w from to xs o).fault
  where
    by : (x : Option fault.Fault) → LeavesIt e (elim x as (λ y. Acting) [ None ↦ go (pass_all w from to xs o).own | Some f ↦ fault_in (pass_all w from to xs o).own f ])
    by None = h (pass_all w from to xs o).own (subst (λ x. HasFaulted x → ⊥) (sym (ap (λ (z : PrivateState). z.activity) (passed_words w from to xs o))) on)
    by (Some f) = Stopped refl tt
