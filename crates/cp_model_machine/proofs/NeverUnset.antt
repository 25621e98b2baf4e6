-- No step unsets what a monitor holds: only what an activation held is forgotten, and only values
-- are written.
use Rattle.std.proofs.Common.{◌≡◌, ℕ, ℤ, List, [], ◌∷◌, ◌++◌, Bool, true, false, Option, Some, None, map, refl, ap, sym, subst, ◌∙◌}
use Rattle.std.specs.Prelude.{codes, if◌then◌else◌, zip}
use Rattle.std.specs.Str.{bytes_eq}
use Rattle.cp_model.specs.Abstract as a
use Rattle.cp_model.specs.Abstract.{Class, Designator, Expression, Expressions, Monitor, MoreExpressions, Name, NoExpression, Process, Sort, Statement}
use Rattle.cp_model.specs.Actions.{Action, Acts, Calls, Rests}
use Rattle.cp_model.specs.Arguments.{argument_writes, bind, designator_of, init_argument_writes, named_right_writes, right_writes}
use Rattle.cp_model.specs.Assignments.{starting_writes, writes_of}
use Rattle.cp_model.specs.Calls.{UserCall}
use Rattle.cp_model.specs.CallSteps.{call, innermost_call, is_initialised, result_location, return_value, returns, target}
use Rattle.cp_model.specs.Components.{Component, class_location, component_named, monitor_location, monitor_number, process_location, process_number}
use Rattle.cp_model.specs.Configurations.{Configuration, Context, StepResult, own_step, with_continuation, with_writes}
use Rattle.cp_model.specs.Continuations.{Do, EndBody, EndCall, EndProcess, ForNext, RepeatTest, Task, WhileTest, depth, marked_monitors, push}
use Rattle.cp_model.specs.Declarations.{Variable, declarations}
use Rattle.cp_model.specs.Environments.{Environment, Frame}
use Rattle.cp_model.specs.Expressions.{name_of, place, value}
use Rattle.cp_model.specs.Initialisation.{init_arguments, init_component}
use Rattle.cp_model.specs.Integers.{same_integer}
use Rattle.cp_model.specs.Invariant.{FramesInvariant, IsFrameOf}
use Rattle.cp_model.specs.Leaves.{Leaf, leaves}
use Rattle.cp_model.specs.Locations.{ByName, Location, OfActivation, OfMonitor, Owner, root, same_location, same_owner, under}
use Rattle.cp_model.specs.Operators.{Clock}
use Rattle.cp_model.specs.Outcomes as outcomes
use Rattle.cp_model.specs.Outcomes.{Fault, Gives, Outcome, and_then}
use Rattle.cp_model.specs.Places.{TypedValue, ordinal_in, ordinal_of, simple_value, within}
use Rattle.cp_model.specs.StandardCalls.{continue, delay, enqueue, next_input, process_in_queue, standard_statement}
use Rattle.cp_model.specs.StatementSteps.{chosen_arm, execute, for_step, is_past, next_counter}
use Rattle.cp_model.specs.Step.{run_task, take_action}
use Rattle.cp_model.specs.Stores.{Absent, Initialised, Ordinal, QueueHolds, Store, Value, Writes, forget, put, put_all}
use Rattle.cp_model.specs.Types.{ArrayOf, ComponentOf, NoType, Queue, RecordOf, ResolvedType, Simple}
use Rattle.cp_model.proofs.ExpressionReach.{IfGives, then_gives}
use Rattle.cp_model.proofs.WriteReach.{WritesIn, bind_in, starting_writes_in}
use Rattle.cp_model.proofs.Options.{same_some}
use Rattle.cp_model_machine.proofs.Finding.{some_is_not_none}
use Rattle.cp_model_machine.proofs.Invoking.{argument_in, put_outside}
use Rattle.cp_law_typing.proofs.Locations.{same_owner_itself}

-- ---- stores

abbrev pub IsSet : Value → Type 0
IsSet Absent = ⊥
IsSet _ = Unit {0}

abbrev pub KeepsSet : Store → Store → Type 0
KeepsSet store after = (l : Location) (m : ℕ) → l.owner ≡ OfMonitor m → IsSet (store l) → IsSet (after l)

abbrev AllSet : Writes → Type 0
AllSet [] = Unit {0}
AllSet (w ∷ ws) = IsSet w.1 × AllSet ws

put_set : (l : Location) (v : Value) (store : Store) → IsSet v → KeepsSet store (put l v store)
put_set l v store set k m owner h = by (same_location l k)
  where
    by : (b : Bool) → IsSet (if b then v else store k)
    by true = set
    by false = h

all_set : (ws : Writes) (store : Store) → AllSet ws → KeepsSet store (put_all ws store)
all_set [] store set k m owner h = h
all_set (w ∷ ws) store set k m owner h = all_set ws (put w.0 w.1 store) set.1 k m owner (put_set w.0 w.1 store set.0 k m owner h)

-- What an activation holds doesn't matter for monitors.
no_monitor : (p d : ℕ) (l : Location) (m : ℕ) → l.owner ≡ OfMonitor m → same_owner (OfActivation p d) l.owner ≡ false
no_monitor p d l m owner = ap (same_owner (OfActivation p d)) owner

forget_set : (p d : ℕ) (o : Owner) (store : Store) → o ≡ OfActivation p d → KeepsSet store (forget o store)
forget_set p d o store is l m owner h =
    subst IsSet (sym (ap (λ b. if b then Absent else store l) (ap (λ z. same_owner z l.owner) is ∙ no_monitor p d l m owner))) h

-- ---- writes

then_set : {A : Type 0} (o : Outcome A) (f : A → Outcome Writes) → ((x : A) → IfGives AllSet (f x)) → IfGives AllSet (and_then o f)
then_set (Fault n) f h = tt
then_set (Gives x) f h = h x

append_set : (ws vs : Writes) → AllSet ws → AllSet vs → AllSet (ws ++ vs)
append_set [] vs h k = k
append_set (w ∷ ws) vs h k = (h.0, append_set ws vs h.1 k)

zip_set : (at : Location) (ls : List Leaf) (vs : List Value) → AllSet (zip (map (λ leaf. under at leaf.0) ls) (map (λ x. Ordinal (ordinal_in x)) vs))
zip_set at [] vs = tt
zip_set at (l ∷ ls) [] = tt
zip_set at (l ∷ ls) (v ∷ vs) = (tt, zip_set at ls vs)

writes_set : (at : Location) (t : ResolvedType) (v : TypedValue) → IfGives AllSet (writes_of at t v)
writes_set at (Simple b low high start) v = by (within low high (ordinal_of v))
  where
    by : (b : Bool) → IfGives AllSet (outcomes.guard b 1 ((at, Ordinal (ordinal_of v)) ∷ []))
    by true = (tt, tt)
    by false = tt
writes_set at (ArrayOf low high t) v = zip_set at (leaves (ArrayOf low high t)) v.values
writes_set at (RecordOf ms) v = zip_set at (leaves (RecordOf ms)) v.values
writes_set at Queue v = zip_set at (leaves Queue) v.values
writes_set at (ComponentOf s inner) v = zip_set at (leaves (ComponentOf s inner)) v.values
writes_set at NoType v = tt

right_set : (env : Environment) (store : Store) (to : Sort) (at : Location) (n : Option Component) → AllSet (named_right_writes env store to at n)
right_set env store to at None = tt
right_set env store to at (Some n) = by to n.system.sort
  where
    by : (to z : Sort) → AllSet (right_writes env store to at z n)
    by Class Class = (tt, tt)
    by Class Monitor = (tt, tt)
    by Monitor Monitor = (tt, tt)
    by Process Monitor = (tt, tt)
    by Class Process = tt
    by Monitor Class = tt
    by Monitor Process = tt
    by Process Class = tt
    by Process Process = tt

init_argument_set : (to : Sort) (clock : Clock) (env : Environment) (store : Store) (at : Location) (t : ResolvedType) (e : Expression) → IfGives AllSet (init_argument_writes to clock env store at t e)
init_argument_set to clock env store at (ComponentOf s inner) e = right_set env store to at (component_named env (name_of (designator_of e)))
init_argument_set to clock env store at (Simple b low high start) e = then_set (value clock env store e) _ (writes_set at (Simple b low high start))
init_argument_set to clock env store at (ArrayOf low high t) e = then_set (value clock env store e) _ (writes_set at (ArrayOf low high t))
init_argument_set to clock env store at (RecordOf ms) e = then_set (value clock env store e) _ (writes_set at (RecordOf ms))
init_argument_set to clock env store at Queue e = then_set (value clock env store e) _ (writes_set at Queue)
init_argument_set to clock env store at NoType e = then_set (value clock env store e) _ (writes_set at NoType)

bind_set : (one : Location → Variable → Expression → Outcome Writes) → ((l : Location) (v : Variable) (e : Expression) → IfGives AllSet (one l v e)) → (at : Location) (ps : List (Name × Variable)) (es : Expressions)
    → IfGives AllSet (bind one at ps es)
bind_set one h at [] es = tt
bind_set one h at (p ∷ ps) NoExpression = tt
bind_set one h at (p ∷ ps) (MoreExpressions e es) =
    then_gives AllSet AllSet (one (under at (ByName p.0 ∷ [])) p.1 e) _ (h (under at (ByName p.0 ∷ [])) p.1 e)
    (λ ws set. then_gives AllSet AllSet (bind one at ps es) (λ more. Gives (ws ++ more)) (bind_set one h at ps es) (λ more rest. append_set ws more set rest))

-- ---- steps

-- If a task is done without a call.
abbrev pub IfActs : (Task → List Task → Type 0) → Action → Type 0
IfActs P (Acts i k) = P i k
IfActs P _ = Unit {0}

abbrev pub SetStill : Store → StepResult → Type 0
SetStill store x = IfGives (λ y. KeepsSet store y.0.store) x

nothing_changed : (store : Store) → KeepsSet store store
nothing_changed store l m owner h = h

-- If the step makes writes first.
written : (store : Store) (ws : Outcome Writes) (go : Writes → StepResult) → IfGives AllSet ws → ((w : Writes) → KeepsSet store (put_all w store) → SetStill store (go w)) → SetStill store (and_then ws go)
written store ws go set h = then_gives AllSet (λ y. KeepsSet store y.0.store) ws go set (λ w each. h w (all_set w store each))

then_still : {A : Type 0} (store : Store) (o : Outcome A) (f : A → StepResult) → ((x : A) → SetStill store (f x)) → SetStill store (and_then o f)
then_still store (Fault n) f h = tt
then_still store (Gives x) f h = h x

either_still : (store : Store) (b : Bool) (x y : StepResult) → SetStill store x → SetStill store y → SetStill store (if b then x else y)
either_still store true x y h k = h
either_still store false x y h k = k

module _ (c : Context) (config : Configuration) where
  abbrev st : Store
  st = config.store

  same : KeepsSet st st
  same = nothing_changed st

  -- A return frees the innermost activation.
  returned : (env : Environment) (k : List Task) (p d : ℕ) → IsFrameOf env.frame (OfActivation p d) → IfGives (λ (after : Configuration). KeepsSet st after.store) (returns config env k)
  returned env k p d owns = by env.frame owns
    where
      valued : (f : Frame) (t : Name) (v : Value) → f.owner ≡ OfActivation p d → IfGives (λ (after : Configuration). KeepsSet st after.store) (return_value config env f.owner k t v)
      valued f t (Ordinal n) owner = forget_set p d f.owner st owner
      valued f t _ owner = tt

      ends : (f : Frame) (t : Option Name) → f.owner ≡ OfActivation p d
          → IfGives (λ (after : Configuration). KeepsSet st after.store) (elim t as (λ x. Outcome Configuration) [
            | None ↦ Gives (record config { store = forget f.owner st; continuation = k })
            | Some x ↦ return_value config env f.owner k x (st (result_location f))
          ])
      ends f None owner = forget_set p d f.owner st owner
      ends f (Some t) owner = valued f t (st (result_location f)) owner

      by : (y : Option Frame) → IsFrameOf y (OfActivation p d)
          → IfGives (λ (after : Configuration). KeepsSet st after.store) (elim y as (λ x. Outcome Configuration) [
            | None ↦ Gives config
            | Some f ↦ elim f.routine.result [ None ↦ Gives (record config { store = forget f.owner st; continuation = k }) | Some t ↦ return_value config env f.owner k t (st (result_location f)) ]
          ])
      by None owner = absurd owner
      by (Some f) owner = ends f f.routine.result owner

-- The innermost end mark is that of an activation.
innermost_owned : (p : ℕ) (store : Store) (k : List Task) (env : Environment) (gate : Option ℕ) (rest : List Task) → FramesInvariant p store k → innermost_call k ≡ Some (env, gate, rest)
    → IsFrameOf env.frame (OfActivation p (depth rest))
innermost_owned p store [] env gate rest I e = absurd (some_is_not_none _ (sym e))
innermost_owned p store (EndCall mark g ∷ k) env gate rest I e =
    let same = same_some {A = Environment × Option ℕ × List Task} (mark, g, k) (env, gate, rest) e in
    subst (λ z. IsFrameOf z.0.frame (OfActivation p (depth z.2))) same I.0.frame
innermost_owned p store (Do s f ∷ k) env gate rest I e = innermost_owned p store k env gate rest I e
innermost_owned p store (WhileTest now x s f ∷ k) env gate rest I e = innermost_owned p store k env gate rest I e
innermost_owned p store (RepeatTest now s x f ∷ k) env gate rest I e = innermost_owned p store k env gate rest I e
innermost_owned p store (ForNext x down n last s f ∷ k) env gate rest I e = innermost_owned p store k env gate rest I e
innermost_owned p store (EndBody g ∷ k) env gate rest I e = innermost_owned p store k env gate rest I e
innermost_owned p store (EndProcess ∷ k) env gate rest I e = innermost_owned p store k env gate rest I e

module _ (c : Context) (config : Configuration) (p : ℕ) where
  abbrev store : Store
  store = config.store

  delayed : (k : List Task) (q : Location) (ms : List ℕ) → SetStill store (delay c.process config k q ms)
  delayed k q [] = nothing_changed store
  delayed k q (m ∷ ms) = by (process_in_queue (store q))
    where
      by : (x : Option ℕ) → SetStill store (enqueue c.process config k q m x)
      by None = put_set q (QueueHolds (Some c.process)) store tt
      by (Some r) = tt

  continued : (k : List Task) (q : Location) → FramesInvariant p store k → SetStill store (continue config q (innermost_call k))
  continued k q I = by (innermost_call k) refl
    where
      by : (x : Option (Environment × Option ℕ × List Task)) → innermost_call k ≡ x → SetStill store (continue config q x)
      by None e = nothing_changed store
      by (Some (env, None, rest)) e = nothing_changed store
      by (Some (env, Some m, rest)) e =
          then_gives (λ (after : Configuration). KeepsSet (put q (QueueHolds None) store) after.store) (λ y. KeepsSet store y.0.store)
          (returns (record config { store = put q (QueueHolds None) store }) env rest) _
          (returned c (record config { store = put q (QueueHolds None) store }) env rest p (depth rest) (innermost_owned p store k env (Some m) rest I e))
          (λ after keeps l n owner h. keeps l n owner (put_set q (QueueHolds None) store tt l n owner h))

  performed : (env : Environment) (k : List Task) (d : Designator) (es : Expressions) → FramesInvariant p store k → SetStill store (standard_statement c config env k d es)
  performed env k d NoExpression I = nothing_changed store
  performed env k d (MoreExpressions e es) I =
      either_still store (bytes_eq x (codes "display")) _ _ (then_still store (value c.clock env store e) _ (λ v. nothing_changed store))
      (either_still store (bytes_eq x (codes "accept")) _ _
      (then_still store (place c.clock env store (designator_of e)) _ (λ at. written store (writes_of at.at at.type (simple_value a.Char (next_input c.input config.consumed))) _ (writes_set at.at at.type _) (λ ws keeps. keeps)))
      (either_still store (bytes_eq x (codes "delay")) _ _
      (then_still store (place c.clock env store (designator_of e)) _ (λ at. delayed k at.at (marked_monitors k)))
      (then_still store (place c.clock env store (designator_of e)) _ (λ at. continued k at.at I))))
    where
      x : Name
      x = name_of d

  counted : (env : Environment) (k : List Task) (x : Name) (down : Bool) (n last : ℤ) (s : Statement) → SetStill store (for_step c config env k x down n last s)
  counted env k x down n last s =
      then_still store (place c.clock env store (a.Plain x)) (λ at. and_then (writes_of at.at at.type (simple_value a.Integer n)) after)
      (λ at. written store (writes_of at.at at.type (simple_value a.Integer n)) after (writes_set at.at at.type (simple_value a.Integer n)) (λ ws keeps. keeps))
    where
      after : Writes → StepResult
      after ws = own_step (with_writes config ws (push s env (ForNext x down n last s env ∷ k)))

  initialised : (env : Environment) (k : List Task) (es : Expressions) (n : Component) (z : Sort) → SetStill store (init_component z c config env k es n)
  initialised env k es n Class =
      let at = class_location env store n in
      either_still store (is_initialised (store at)) _ _ tt
      (written store (init_arguments c config env es n at) _ (bind_set _ (λ l v e. init_argument_set n.system.sort c.clock env store l v.type e) at (declarations env.globals n.system.parameters) es)
      (λ ws keeps l m owner h. put_set at (Initialised true) (put_all ws store) tt l m owner (keeps l m owner h)))
  initialised env k es n Monitor =
      let m = monitor_number env store n in
      either_still store (c.is_set m) _ _ tt
      (written store (init_arguments c config env es n (monitor_location m)) _
      (bind_set _ (λ l v e. init_argument_set n.system.sort c.clock env store l v.type e) (monitor_location m) (declarations env.globals n.system.parameters) es) (λ ws keeps. keeps))
  initialised env k es n Process =
      let r = process_number env n in
      either_still store (c.is_started r) _ _ tt
      (written store (init_arguments c config env es n (process_location r)) _
      (bind_set _ (λ l v e. init_argument_set n.system.sort c.clock env store l v.type e) (process_location r) (declarations env.globals n.system.parameters) es) (λ ws keeps. keeps))

  executed : (env : Environment) (k : List Task) (s : Statement) → FramesInvariant p store k → SetStill store (execute c config env k s)
  executed env k (a.Assign d e) I =
      then_still store (place c.clock env store d) _ (λ at. then_still store (value c.clock env store e) _ (λ v. written store (writes_of at.at at.type v) _ (writes_set at.at at.type v) (λ ws keeps. keeps)))
  executed env k (a.Perform d es) I = performed env k d es I
  executed env k (a.If e s t) I = then_still store (value c.clock env store e) _ (λ v. nothing_changed store)
  executed env k (a.Case e arms) I = then_still store (value c.clock env store e) _ (λ v. by (chosen_arm env.globals (ordinal_of v) arms))
    where
      by : (x : Option Statement) → SetStill store (elim x as (λ y. StepResult) [ None ↦ Fault 8 | Some s ↦ own_step (with_continuation config (push s env k)) ])
      by None = tt
      by (Some s) = nothing_changed store
  executed env k (a.For x down e f s) I =
      then_still store (value c.clock env store e) _ (λ v. then_still store (value c.clock env store f) _ (λ y.
      either_still store (is_past down (ordinal_of v) (ordinal_of y)) _ _ (nothing_changed store) (counted env k x down (ordinal_of v) (ordinal_of y) s)))
  executed env k (a.Cycle s) I = nothing_changed store
  executed env k (a.Init x es) I = by (component_named env x)
    where
      by : (y : Option Component) → SetStill store (elim y as (λ z. StepResult) [ None ↦ own_step (with_continuation config k) | Some n ↦ init_component n.system.sort c config env k es n ])
      by None = nothing_changed store
      by (Some n) = initialised env k es n n.system.sort
  executed env k a.Nothing I = nothing_changed store
  executed env k (a.Seq s t) I = nothing_changed store
  executed env k (a.While e s) I = nothing_changed store
  executed env k (a.Repeat s e) I = nothing_changed store

  -- A call writes only a new activation.
  entered : (u : UserCall) (k : List Task) → SetStill store (call c config u k)
  entered u k =
      either_still store (target c store u.environment u.callee.of).is_callable _ _
      (then_gives (WritesIn (same_owner o)) (λ y. KeepsSet store y.0.store) (bind (argument_writes c.clock u.environment store) (root o) (declarations u.environment.globals u.callee.routine.parameters) u.arguments) _
      (bind_in (same_owner o) (argument_writes c.clock u.environment store) (λ at d x h. argument_in (same_owner o) c.clock u.environment store at d x h) (root o)
      (declarations u.environment.globals u.callee.routine.parameters) u.arguments (same_owner_itself o))
      (λ ws inside l m owner h.
      let other = no_monitor c.process (depth k) l m owner in
      subst IsSet (sym (put_outside (same_owner o) (starting_writes (root o) variables) (put_all ws (forget o store)) l (starting_writes_in (same_owner o) (root o) variables (same_owner_itself o)) other
      ∙ put_outside (same_owner o) ws (forget o store) l inside other))
      (forget_set c.process (depth k) o store refl l m owner h)))
      tt
    where
      o : Owner
      o = OfActivation c.process (depth k)

      variables : List (Name × Variable)
      variables = declarations u.environment.globals u.callee.routine.variables

  task_keeps : (i : Task) (k : List Task) → FramesInvariant p store (i ∷ k) → SetStill store (run_task c config i k)
  task_keeps (Do s env) k I = executed env k s I
  task_keeps (WhileTest now e s env) k I = then_still store (value c.clock env store now) _ (λ v. nothing_changed store)
  task_keeps (RepeatTest now s e env) k I = then_still store (value c.clock env store now) _ (λ v. nothing_changed store)
  task_keeps (ForNext x down n last s env) k I = either_still store (same_integer n last) _ _ (nothing_changed store) (counted env k x down (next_counter down n) last s)
  task_keeps (EndCall env gate) k I =
      then_gives (λ (after : Configuration). KeepsSet store after.store) (λ y. KeepsSet store y.0.store) (returns config env k) _ (returned c config env k p (depth k) I.0.frame) (λ after keeps. keeps)
  task_keeps (EndBody gate) k I = nothing_changed store
  task_keeps EndProcess k I = nothing_changed store

  pub action_keeps : (x : Action) → IfActs (λ i k. FramesInvariant p store (i ∷ k)) x → SetStill store (take_action c config x)
  action_keeps Rests I = nothing_changed store
  action_keeps (Calls u k) I = entered u k
  action_keeps (Acts i k) I = task_keeps i k I
