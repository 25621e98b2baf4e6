-- Queues are only in monitors: no routine, class or process declares one.
use Rattle.std.proofs.Common.{◌≡◌, ℕ, ◌+◌, ℤ, Bool, true, false, List, [], ◌∷◌, ◌++◌, length, Some, refl, ap, sym, subst, ◌∙◌}
use Rattle.std.specs.Prelude.{if◌then◌else◌, nat_eq}
use Rattle.std.specs.Str.{bytes_eq}
use Rattle.cp_model.specs.Abstract.{Name, Routine}
use Rattle.cp_model.specs.Continuations.{Do, EndBody, EndCall, EndProcess, ForNext, RepeatTest, Task, WhileTest}
use Rattle.cp_model.specs.Declarations.{Variable, declarations}
use Rattle.cp_model.specs.Environments.{Environment, Frame}
use Rattle.cp_model.specs.Locations.{ByIndex, ByName, Location, OfActivation, OfMonitor, OfProcess, Owner, Path}
use Rattle.cp_model.specs.Types.{GlobalScope, Queue}
use Rattle.cp_model.proofs.Options.{same_some}
use Rattle.cp_law_typing.specs.Declared.{Each, RoutineParameter, RoutineVariable}
use Rattle.cp_law_typing.specs.Needs.{result_words}
use Rattle.cp_law_typing.specs.WellTyped.{WellTyped}
use Rattle.cp_model_program.specs.Layout.{local_at, local_words, locals}
use Rattle.cp_model_program.specs.IsProgramFor.{UnitRepresents}
use Rattle.cp_model_program.specs.TermsFor.{Knowns, nothing_known}
use Rattle.cp_model_machine.specs.PrivateStates as machine
use Rattle.cp_model_machine.specs.Addresses.{Activation, Ground, activation_at, activation_of, activations, lies, part_at, scope}
use Rattle.cp_model_machine.specs.KernelOf.{is_shared}
use Rattle.cp_model_machine.specs.Remaining.{Remaining, Running, Runs, kept_below}
use Rattle.cp_model_machine.proofs.CallSteps.{UnitsRepresent}
use Rattle.cp_model_machine.proofs.Finding.{some_is_not_none}
use Rattle.cp_model_machine.proofs.Owned.{activation_cell, component_part}
use Rattle.cp_model_machine.proofs.Returning.{text_is}
use Rattle.cp_model_machine.proofs.QueueTypes.{NoQueues, data_no_queue, member_no_queue, part_no_queue, process_none}

abbrev pub QueuesShared : Ground → List Activation → Type 0
QueuesShared G xs = (q : Location) (at : ℕ) → lies G xs q ≡ Some (at, Queue) → is_shared q.owner ≡ true

-- ---- activations

abbrev HasNoQueues : GlobalScope → Routine → Type 0
HasNoQueues g r = Each (λ v. NoQueues v.1.type) (locals g r)

locals_none : (g : GlobalScope) (b : Bool) (ps vs : List (Name × Variable)) → Each (RoutineParameter g b) ps → Each (RoutineVariable g) vs → Each (λ v. NoQueues v.1.type) (ps ++ vs)
locals_none g b [] [] h k = tt
locals_none g b [] (v ∷ vs) h k = (data_no_queue v.1.type k.0.0.0 k.0.1, locals_none g b [] vs h k.1)
locals_none g b (p ∷ ps) vs h k = (data_no_queue p.1.type h.0.0.0 h.0.1, locals_none g b ps vs h.1 k)

abbrev NoneIn : GlobalScope → List Activation → Type 0
NoneIn g [] = Unit {0}
NoneIn g (x ∷ xs) = HasNoQueues g x.routine × NoneIn g xs

module _ (G : Ground) (units : UnitsRepresent G) (temps : List ℤ) (limit : ℕ) where
  routine_none : (R : Running) (fs : List machine.Frame) → Runs G (length temps) limit R fs → (f : Frame) → R.env.frame ≡ Some f → HasNoQueues (scope G) f.routine
  routine_none R fs runs f is =
      let y = text_is R.text R.env.frame f is runs.frame in
      let represents = subst (UnitRepresents G.program G.texts (scope G) R.unit) y.1 (units.1 R.number R.unit R.text runs.unit runs.text) in
      locals_none (scope G) _ (declarations (scope G) f.routine.parameters) (declarations (scope G) f.routine.variables) represents.5 represents.3

  pub activations_none : (b : ℕ) (K : Knowns) (R : Running) (fs : List machine.Frame) (place low : ℕ) (k : List Task) → Runs G (length temps) limit R fs → Remaining G temps limit K R fs place low k
      → NoneIn (scope G) (activations b fs k)
  activations_none b K R fs place low [] runs h = absurd h
  activations_none b K R fs place low (Do s e ∷ k) runs h = activations_none b nothing_known R fs h.2.0 h.2.1 k runs h.2.4
  activations_none b K R fs place low (WhileTest now e s env ∷ k) runs h = activations_none b nothing_known R fs h.1.0 h.1.1 k runs h.1.4
  activations_none b K R fs place low (RepeatTest now s e env ∷ k) runs h = activations_none b nothing_known R fs h.1.0 h.1.1 k runs h.1.4
  activations_none b K R fs place low (ForNext x down n last s env ∷ k) runs h = activations_none b nothing_known R fs h.1.0 h.1.1 k runs h.1.4
  activations_none b K R (f ∷ fs) place low (EndCall env gate ∷ k) runs h =
      let c = h.3 in
      subst (λ z. NoneIn (scope G) (activation_of b z (activations f.base fs k))) (sym (ap (λ (y : Environment). y.frame) h.0 ∙ h.1.runs))
      (routine_none R (f ∷ fs) runs h.1.frame h.1.runs, activations_none f.base (kept_below c.2 c.3 temps c.0.temp) c.0 fs c.1 c.2 k c.4 c.7)
  activations_none b K R (f ∷ fs) place low (EndBody gate ∷ k) runs h =
      let c = h.3 in activations_none f.base nothing_known c.0 fs f.counter c.1 k c.2 c.4
  activations_none b K R fs place low (EndProcess ∷ k) runs h = subst (λ z. NoneIn (scope G) (activations b fs z)) (sym h.1) tt
  activations_none b K R [] place low (EndCall env gate ∷ k) runs h = absurd h
  activations_none b K R [] place low (EndBody gate ∷ k) runs h = absurd h

-- ---- look-ups

none_found : (g : GlobalScope) (d : ℕ) (xs : List Activation) (z : Activation) → NoneIn g xs → activation_at d xs ≡ Some z → HasNoQueues g z.routine
none_found g d [] z h e = absurd (some_is_not_none z (sym e))
none_found g d (x ∷ xs) z h e = by (nat_eq d (length xs)) e (none_found g d xs z h.1)
  where
    by : (b : Bool) → (if b then Some x else activation_at d xs) ≡ Some z → (activation_at d xs ≡ Some z → HasNoQueues g z.routine) → HasNoQueues g z.routine
    by true e go = subst (λ (y : Activation). HasNoQueues g y.routine) (same_some x z e) h.0
    by false e go = go e

local_none : (g : GlobalScope) (at : ℕ) (vs : List (Name × Variable)) (x : Name) (k : ℕ) (v : Variable) → Each (λ y. NoQueues y.1.type) vs → local_at g at vs x ≡ Some (k, v) → NoQueues v.type
local_none g at [] x k v h e = absurd (some_is_not_none (k, v) (sym e))
local_none g at (y ∷ vs) x k v h e = by (bytes_eq x y.0) e (local_none g (at + local_words g y.1) vs x k v h.1)
  where
    by : (b : Bool) → (if b then Some (at, y.1) else local_at g (at + local_words g y.1) vs x) ≡ Some (k, v) → (local_at g (at + local_words g y.1) vs x ≡ Some (k, v) → NoQueues v.type) → NoQueues v.type
    by true e go = subst (λ (z : Variable). NoQueues z.type) (ap (λ z. z.1) (same_some {A = ℕ × Variable} (at, y.1) (k, v) e)) h.0
    by false e go = go e

pub queues_shared : (G : Ground) → WellTyped G.setup → (xs : List Activation) → NoneIn (scope G) xs → QueuesShared G xs
queues_shared G typed xs none q at h = by q.owner q.path h
  where
    by : (o : Owner) (path : Path) → part_at G xs o path ≡ Some (at, Queue) → is_shared o ≡ true
    by o [] h = absurd (some_is_not_none _ (sym h))
    by o (ByIndex i ∷ path) h = absurd (some_is_not_none _ (sym h))
    by (OfMonitor m) (ByName x ∷ path) h = refl
    by (OfProcess r) (ByName x ∷ path) h =
        let C = component_part G xs r x path at Queue h in
        absurd (member_no_queue (scope G) _ _ x path at (process_none G.setup typed r C.1.0 C.1.1) C.1.2)
    by (OfActivation r d) (ByName x ∷ path) h =
        let A = activation_cell G xs r d x path at Queue h in
        let V = A.found in
        absurd (part_no_queue (scope G) V.variable.type path V.far
        (local_none (scope G) (result_words A.activation.routine.result) (locals (scope G) A.activation.routine) x V.at V.variable (none_found (scope G) d xs A.activation none A.is) V.is) V.there)
