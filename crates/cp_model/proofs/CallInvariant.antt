-- A call and a return keep the invariant, and so does every step.
use Rattle.std.specs.Prelude.{Bool, List, None, Option, Some, [], false, if◌then◌else◌, map, refl, suc, true, zip, ℕ, ◌++◌, ◌∷◌, ◌≡◌, ◌≤◌, ◌⊎◌}
use Rattle.std.proofs.Common.{ap, arith, inl, inr, subst, sym, ◌∙◌}
use Rattle.std.proofs.lemmas.Bool.{eq-eqb}
use Rattle.cp_model.specs.Abstract.{Class, Designator, Expression, Expressions, Literal, Monitor, MoreExpressions, Name, NoExpression, Perform, Process, Sort, Statement}
use Rattle.cp_model.specs.Types.{ArrayOf, ComponentOf, NoType, Queue, RecordOf, ResolvedType, Simple}
use Rattle.cp_model.specs.Declarations.{Variable, declarations}
use Rattle.cp_model.specs.Locations.{ByName, Location, OfActivation, Owner, same_location, under}
use Rattle.cp_model.specs.Stores.{Absent, ClassRight, Initialised, MonitorRight, Ordinal, QueueHolds, Reference, Store, Value, Writes, forget, put, put_all}
use Rattle.cp_model.specs.Leaves.{Leaf, leaves}
use Rattle.cp_model.specs.Outcomes.{Fault, Gives, Outcome, and_then, guard}
use Rattle.cp_model.specs.Environments.{Environment}
use Rattle.cp_model.specs.Places.{TypedValue, ordinal_in, ordinal_of, referent, within}
use Rattle.cp_model.specs.Expressions.{place, value}
use Rattle.cp_model.specs.Continuations.{Do, EndBody, EndCall, EndProcess, ForNext, RepeatTest, Task, WhileTest, depth, marked_monitors, is_in_monitor, push}
use Rattle.cp_model.specs.Components.{Component, monitor_number}
use Rattle.cp_model.specs.Calls.{Callee, Found, UserCall, call_in_task, callee, procedure_call}
use Rattle.cp_model.specs.Actions.{Action, Acts, Calls, Rests, action}
use Rattle.cp_model.specs.Configurations.{Configuration, Context}
use Rattle.cp_model.specs.Assignments.{starting_writes, writes_of}
use Rattle.cp_model.specs.Arguments.{argument_writes, bind, designator_of, reference_writes}
use Rattle.cp_model.specs.CallSteps.{Target, activation_environment, call, called_configuration, component_target, entering, target}
use Rattle.cp_model.specs.Step.{step_of, take_action}
use Rattle.cp_model.specs.Start.{start}
use Rattle.cp_model.specs.Reach.{in_reach}
use Rattle.cp_model.specs.Invariant.{ContinuationInvariant, EnvironmentIn, FramesInvariant, IsActivation, IsFrameOf, StoreInvariant}
use Rattle.cp_model.proofs.MixedStores.{IsClosed}
use Rattle.cp_model.proofs.ExpressionReach.{IfGives, PlaceIn, anything, place_in, then_gives}
use Rattle.cp_model.proofs.ActionReach.{FoundIn, call_in_task_in}
use Rattle.cp_model.proofs.StoreInvariants.{AllPlain, IsPlain, forget_no_new_reference, forget_store, forgotten, frames_keep_store, is_closed, leaves_plain, push_continuation, push_keeps, same_owner_of}
use Rattle.cp_model.proofs.ReturnInvariant.{EffectInvariant, StepInvariant, continuation_tail}
use Rattle.cp_model.proofs.StatementInvariant.{class_location_owner, if_after, run_task_after}
use Rattle.cp_model.proofs.Lists.{in_head}

abbrev CallWrite : (Owner → Bool) → Owner → Location → Value → Type 0
CallWrite t o l (Reference j) = (l.owner ≡ o) × (t j.owner ≡ true)
CallWrite t o l (ClassRight j) = ⊥
CallWrite t o l _ = l.owner ≡ o

abbrev CallWrites : (Owner → Bool) → Owner → Writes → Type 0
CallWrites t o [] = Unit {0}
CallWrites t o (x ∷ ws) = CallWrite t o x.0 x.1 × CallWrites t o ws

-- Each reference was there before, or belongs to the new activation and leads into the caller's
-- reach.
record NewReferences (t : Owner → Bool) (o : Owner) (st st' : Store) : Type 0 where
  pub references : (l j : Location) → st' l ≡ Reference j → (st l ≡ Reference j) ⊎ ((l.owner ≡ o) × (t j.owner ≡ true))
  pub classes : (l j : Location) → st' l ≡ ClassRight j → st l ≡ ClassRight j

put_new : (t : Owner → Bool) (o : Owner) (st : Store) (l : Location) (v : Value) → CallWrite t o l v
    → NewReferences t o st (put l v st)
put_new t o st l v h = record { references = λ k j e. go k j (same_location l k) refl e; classes = λ k j e. at k j (same_location l k) e }
  where
    ref : (k j : Location) (x : Value) → CallWrite t o l x → l.owner ≡ k.owner → x ≡ Reference j
        → (k.owner ≡ o) × (t j.owner ≡ true)
    ref k j (Reference i) h f e = (sym f ∙ h.0, ap (λ (y : Location). t y.owner) (sym (ap (referent i) e)) ∙ h.1)
    ref k j (ClassRight i) h f e = absurd h
    ref k j Absent h f e = absurd (Prim.grind arith)
    ref k j (Ordinal n) h f e = absurd (Prim.grind arith)
    ref k j (QueueHolds x) h f e = absurd (Prim.grind arith)
    ref k j (MonitorRight m) h f e = absurd (Prim.grind arith)
    ref k j (Initialised b) h f e = absurd (Prim.grind arith)

    no_class : (j : Location) (x : Value) → CallWrite t o l x → x ≡ ClassRight j → ⊥
    no_class j (ClassRight i) h e = h
    no_class j (Reference i) h e = Prim.grind arith
    no_class j Absent h e = Prim.grind arith
    no_class j (Ordinal n) h e = Prim.grind arith
    no_class j (QueueHolds x) h e = Prim.grind arith
    no_class j (MonitorRight m) h e = Prim.grind arith
    no_class j (Initialised b) h e = Prim.grind arith

    go : (k j : Location) (b : Bool) → same_location l k ≡ b → (if b then v else st k) ≡ Reference j
        → (st k ≡ Reference j) ⊎ ((k.owner ≡ o) × (t j.owner ≡ true))
    go k j true f e = inr (ref k j v h (same_owner_of l k f) e)
    go k j false f e = inl e

    at : (k j : Location) (b : Bool) → (if b then v else st k) ≡ ClassRight j → st k ≡ ClassRight j
    at k j true e = absurd (no_class j v h e)
    at k j false e = e

puts_new : (t : Owner → Bool) (o : Owner) (ws : Writes) (st : Store) → CallWrites t o ws
    → NewReferences t o st (put_all ws st)
puts_new t o [] st h = record { references = λ l j e. inl e; classes = λ l j e. e }
puts_new t o (x ∷ ws) st h =
    let a = put_new t o st x.0 x.1 h.0 in
    let b = puts_new t o ws (put x.0 x.1 st) h.1 in
    record { references = λ l j e. elim (b.references l j e) [ inl f ↦ a.references l j f | inr f ↦ inr f ]; classes = λ l j e. a.classes l j (b.classes l j e) }

zip_new : (t : Owner → Bool) (o : Owner) (at : Location) (ps : List Leaf) (vs : List Value) → at.owner ≡ o
    → CallWrites t o (zip (map (λ leaf. under at leaf.0) ps) (map (λ x. Ordinal (ordinal_in x)) vs))
zip_new t o at [] vs h = tt
zip_new t o at (p ∷ ps) [] h = tt
zip_new t o at (p ∷ ps) (v ∷ vs) h = (h, zip_new t o at ps vs h)

writes_new : (t : Owner → Bool) (o : Owner) (at : Location) (x : ResolvedType) (v : TypedValue) → at.owner ≡ o
    → IfGives (CallWrites t o) (writes_of at x v)
writes_new t o at (Simple b low high start) v h = go (within low high (ordinal_of v))
  where
    go : (y : Bool) → IfGives (CallWrites t o) (guard y 1 ((at, Ordinal (ordinal_of v)) ∷ []))
    go true = (h, tt)
    go false = tt
writes_new t o at (ArrayOf low high e) v h = zip_new t o at (leaves (ArrayOf low high e)) v.values h
writes_new t o at (RecordOf ps) v h = zip_new t o at (leaves (RecordOf ps)) v.values h
writes_new t o at Queue v h = zip_new t o at (leaves Queue) v.values h
writes_new t o at (ComponentOf s i) v h = zip_new t o at (leaves (ComponentOf s i)) v.values h
writes_new t o at NoType v h = tt

append_new : (t : Owner → Bool) (o : Owner) (ws vs : Writes) → CallWrites t o ws → CallWrites t o vs
    → CallWrites t o (ws ++ vs)
append_new t o [] vs h k = k
append_new t o (x ∷ ws) vs h k = (h.0, append_new t o ws vs h.1 k)

bind_new : (t : Owner → Bool) (one : Location → Variable → Expression → Outcome Writes) (at : Location)
    (ps : List (Name × Variable)) (es : Expressions)
    → ((l : Location) (v : Variable) (e : Expression) → l.owner ≡ at.owner → IfGives (CallWrites t at.owner) (one l v e))
    → IfGives (CallWrites t at.owner) (bind one at ps es)
bind_new t one at [] es h = tt
bind_new t one at (q ∷ qs) NoExpression h = tt
bind_new t one at (q ∷ qs) (MoreExpressions e es) h =
    then_gives (CallWrites t at.owner) (CallWrites t at.owner) (one (under at (ByName q.0 ∷ [])) q.1 e) _
    (h (under at (ByName q.0 ∷ [])) q.1 e refl) (λ ws i.
    then_gives (CallWrites t at.owner) (CallWrites t at.owner) (bind one at qs es) _ (bind_new t one at qs es h)
    (λ vs j. append_new t at.owner ws vs i j))

-- The invariant of the frames below a depth is kept.
frames_below : (p n : ℕ) (t : Owner → Bool) (st st' : Store) (k : List Task) → NewReferences t (OfActivation p n) st st'
    → depth k ≤ n → FramesInvariant p st k → FramesInvariant p st' k
frames_below p n t st st' [] r d h = tt
frames_below p n t st st' (EndCall env gate ∷ k) r d h = (
  record { frame = h.0.frame; references = λ l j o e. elim (r.references l j e) [ inl f ↦ h.0.references l j o f | inr f ↦ absurd (differs (same_depth (sym o ∙ f.0))) ] },
  frames_below p n t st st' k r (Prim.omega arith) h.1,
)
  where
    depth_of : Owner → ℕ
    depth_of (OfActivation q e) = e
    depth_of _ = 0

    same_depth : OfActivation p (depth k) ≡ OfActivation p n → depth k ≡ n
    same_depth e = ap depth_of e

    differs : depth k ≡ n → ⊥
    differs e = Prim.omega arith
frames_below p n t st st' (Do s env ∷ k) r d h = frames_below p n t st st' k r d h
frames_below p n t st st' (WhileTest now e s env ∷ k) r d h = frames_below p n t st st' k r d h
frames_below p n t st st' (RepeatTest now s e env ∷ k) r d h = frames_below p n t st st' k r d h
frames_below p n t st st' (ForNext v down x last s env ∷ k) r d h = frames_below p n t st st' k r d h
frames_below p n t st st' (EndBody gate ∷ k) r d h = frames_below p n t st st' k r d h
frames_below p n t st st' (EndProcess ∷ k) r d h = frames_below p n t st st' k r d h

-- A call: the new frame refers into its caller's reach.
call_continuation : (p : ℕ) (st st' : Store) (k : List Task) (env : Environment) (gate : Option ℕ) (x : Statement)
    → NewReferences (in_reach p (marked_monitors k)) (OfActivation p (depth k)) (forget (OfActivation p (depth k)) st) st'
    → IsFrameOf env.frame (OfActivation p (depth k)) → EnvironmentIn (in_reach p (marked_monitors (EndCall env gate ∷ k))) env
    → ContinuationInvariant p st k → ContinuationInvariant p st' (push x env (EndCall env gate ∷ k))
call_continuation p st st' k env gate x r f h o =
    push_continuation p st' x env (EndCall env gate ∷ k) h (record {
      tasks = (h, o.tasks);
      frames = (
        record { frame = f; references = λ l j e g. elim (r.references l j g) [ inl y ↦ absurd (forgotten (OfActivation p (depth k)) st l j e y) | inr y ↦ y.1 ] },
        frames_below p (depth k) (in_reach p (marked_monitors k)) (forget (OfActivation p (depth k)) st) st' k r (Prim.omega arith)
            (frames_keep_store p st (forget (OfActivation p (depth k)) st) k
            (forget_no_new_reference (OfActivation p (depth k)) st) o.frames),
      );
      beyond = λ l j d n e g. elim (r.references l j g) [
        | inl y ↦ o.beyond l j d (less n) e (forget_no_new_reference (OfActivation p (depth k)) st l j y)
        | inr y ↦ clash n (ap depth_of (sym e ∙ y.0))
      ];
    })
  where
    depth_of : Owner → ℕ
    depth_of (OfActivation q e) = e
    depth_of _ = 0

    less : {d : ℕ} → suc (depth k) ≤ d → depth k ≤ d
    less n = Prim.omega arith

    clash : {d : ℕ} → suc (depth k) ≤ d → d ≡ depth k → ⊥
    clash n e = Prim.omega arith

starting_writes_new_one : (t : Owner → Bool) (at : Location) (x : Name) (ps : List Leaf) (rest : Writes) → AllPlain ps
    → CallWrites t at.owner rest
    → CallWrites t at.owner (map (λ leaf. (under at (ByName x ∷ leaf.0), leaf.1)) ps ++ rest)
starting_writes_new_one t at x [] rest h k = k
starting_writes_new_one t at x (p ∷ ps) rest h k = (plain p.1 h.0, starting_writes_new_one t at x ps rest h.1 k)
  where
    plain : (v : Value) → IsPlain v → CallWrite t at.owner (under at (ByName x ∷ p.0)) v
    plain (Reference j) h = absurd h
    plain (ClassRight j) h = h
    plain Absent h = refl
    plain (Ordinal n) h = refl
    plain (QueueHolds w) h = refl
    plain (MonitorRight m) h = refl
    plain (Initialised b) h = refl

starting_writes_new : (t : Owner → Bool) (at : Location) (vs : List (Name × Variable))
    → CallWrites t at.owner (starting_writes at vs)
starting_writes_new t at [] = tt
starting_writes_new t at (v ∷ vs) = starting_writes_new_one t at v.0 (leaves v.1.type) (starting_writes at vs)
    (leaves_plain v.1.type) (starting_writes_new t at vs)

new_then : (t : Owner → Bool) (o : Owner) (a b c : Store) → NewReferences t o a b → NewReferences t o b c
    → NewReferences t o a c
new_then t o a b c f g = record {
  references = λ l j e. elim (g.references l j e) [ inl x ↦ f.references l j x | inr x ↦ inr x ];
  classes = λ l j e. f.classes l j (g.classes l j e);
}

new_store : (t : Owner → Bool) (q d : ℕ) (a b : Store) → NewReferences t (OfActivation q d) a b → StoreInvariant a
    → StoreInvariant b
new_store t q d a b n s = record {
  references = λ l j e. elim (n.references l j e) [ inl x ↦ s.references l j x | inr x ↦ subst (λ y. IsActivation y) (sym x.0) tt ];
  classes = λ l j e. s.classes l j (n.classes l j e);
}

module _ (w : Context) (config : Configuration) (s : StoreInvariant config.store) where
  call_after : (u : UserCall) (k : List Task) → EnvironmentIn (in_reach w.process (marked_monitors k)) u.environment
      → ContinuationInvariant w.process config.store k → IfGives (StepInvariant w.process) (call w config u k)
  call_after u k h o = go (target w config.store u.environment u.callee.of) (target_in u.callee.of)
    where
      at : Location
      at = record { owner = OfActivation w.process (depth k); path = [] }

      target_in : (n : Option Component) → in_reach w.process
          (marked_monitors (EndCall u.environment (target w config.store u.environment n).gate ∷ k))
          (target w config.store u.environment n).component.owner ≡ true
      target_in None = h.component
      target_in (Some n) = by_sort n.system.sort
        where
          by_sort : (y : Sort) → in_reach w.process (marked_monitors
              (EndCall u.environment (component_target w u.environment config.store y n).gate ∷ k))
              (component_target w u.environment config.store y n).component.owner ≡ true
          by_sort Class = rw (class_location_owner w config s u.environment n) h.component
          by_sort Monitor = in_head (monitor_number u.environment config.store n) (marked_monitors k)
          by_sort Process = h.component

      closed : IsClosed (in_reach w.process (marked_monitors k)) config.store
      closed = is_closed w.process config.store k s o

      arg_new : (l : Location) (v : Variable) (e : Expression) → l.owner ≡ OfActivation w.process (depth k)
          → IfGives (CallWrites (in_reach w.process (marked_monitors k)) (OfActivation w.process (depth k)))
          (argument_writes w.clock u.environment config.store l v e)
      arg_new l v e g = by_kind v.by_reference
        where
          by_kind : (b : Bool) → IfGives (CallWrites (in_reach w.process (marked_monitors k)) (OfActivation w.process (depth k)))
              (if b then reference_writes l (place w.clock u.environment config.store (designator_of e)) else and_then
              (value w.clock u.environment config.store e) (writes_of l v.type))
          by_kind true =
              then_gives (PlaceIn (in_reach w.process (marked_monitors k)))
              (CallWrites (in_reach w.process (marked_monitors k)) (OfActivation w.process (depth k)))
              (place w.clock u.environment config.store (designator_of e)) _
              (place_in (in_reach w.process (marked_monitors k)) config.store config.store w.clock u.environment closed h
              (designator_of e)) (λ p i. ((g, i), tt))
          by_kind false =
              then_gives (λ y. Unit {0}) (CallWrites (in_reach w.process (marked_monitors k)) (OfActivation w.process (depth k))) (value w.clock u.environment config.store e) _ (anything (value w.clock u.environment config.store e))
              (λ y i. writes_new (in_reach w.process (marked_monitors k)) (OfActivation w.process (depth k)) l v.type y g)

      called_after : (t : Target) (ws : Writes) → in_reach w.process (marked_monitors (EndCall u.environment t.gate ∷ k))
          t.component.owner ≡ true
          → CallWrites (in_reach w.process (marked_monitors k)) (OfActivation w.process (depth k)) ws
          → StepInvariant w.process (called_configuration config u k t (OfActivation w.process (depth k)) ws)
      called_after t ws i n =
          let f : Store = forget (OfActivation w.process (depth k)) config.store in
          let vs : List (Name × Variable) = declarations u.environment.globals u.callee.routine.variables in
          let both : NewReferences (in_reach w.process (marked_monitors k)) (OfActivation w.process (depth k)) f
          (put_all (starting_writes at vs) (put_all ws f)) =
          new_then (in_reach w.process (marked_monitors k)) (OfActivation w.process (depth k)) f (put_all ws f)
          (put_all (starting_writes at vs) (put_all ws f))
          (puts_new (in_reach w.process (marked_monitors k)) (OfActivation w.process (depth k)) ws f n)
          (puts_new (in_reach w.process (marked_monitors k)) (OfActivation w.process (depth k)) (starting_writes at vs)
          (put_all ws f) (starting_writes_new (in_reach w.process (marked_monitors k)) at vs)) in
          let env : Environment = activation_environment u t (OfActivation w.process (depth k)) in
          let ok : ContinuationInvariant w.process (put_all (starting_writes at vs) (put_all ws f))
          (push u.callee.routine.body env (EndCall env t.gate ∷ k)) =
          call_continuation w.process config.store (put_all (starting_writes at vs) (put_all ws f)) k env t.gate
          u.callee.routine.body both refl
          (record { component = by_gate t.gate i; frame = eq-eqb w.process w.process refl }) o in
          record {
            store = new_store (in_reach w.process (marked_monitors k)) w.process (depth k) f
                (put_all (starting_writes at vs) (put_all ws f)) both
                (forget_store (OfActivation w.process (depth k)) config.store s);
            ok = ok;
            effect = by_effect t.gate env;
          }
        where
          by_gate : (g : Option ℕ) → in_reach w.process (marked_monitors (EndCall u.environment g ∷ k)) t.component.owner ≡ true
              → in_reach w.process (marked_monitors (EndCall (activation_environment u t (OfActivation w.process (depth k))) g ∷
              k)) t.component.owner ≡ true
          by_gate None i = i
          by_gate (Some m) i = i

          has : (x : Statement) (env : Environment) (m : ℕ) → is_in_monitor (push x env (EndCall env (Some m) ∷ k)) ≡ true
          has x env m = push_keeps (λ l. is_in_monitor l ≡ true) env (λ y l g. g) (λ a b y l g. g) (λ a b y l g. g) x (EndCall env (Some m) ∷ k) refl

          by_effect : (g : Option ℕ) (env : Environment)
              → EffectInvariant (push u.callee.routine.body env (EndCall env g ∷ k)) (entering g)
          by_effect None env = tt
          by_effect (Some m) env = has u.callee.routine.body env m

      go : (t : Target) → in_reach w.process (marked_monitors (EndCall u.environment t.gate ∷ k)) t.component.owner ≡ true
          → IfGives (StepInvariant w.process) (if t.is_callable then and_then
          (bind (argument_writes w.clock u.environment config.store)
          (record { owner = OfActivation w.process (depth k); path = [] })
          (declarations u.environment.globals u.callee.routine.parameters) u.arguments)
          (λ ws. Gives (called_configuration config u k t (OfActivation w.process (depth k)) ws)) else Fault 6)
      go t i = if_after w config s t.is_callable _ (Fault 6)
          (then_gives (CallWrites (in_reach w.process (marked_monitors k)) (OfActivation w.process (depth k)))
          (StepInvariant w.process) (bind (argument_writes w.clock u.environment config.store) at
          (declarations u.environment.globals u.callee.routine.parameters) u.arguments)
          (λ ws. Gives (called_configuration config u k t (OfActivation w.process (depth k)) ws))
          (bind_new (in_reach w.process (marked_monitors k)) (argument_writes w.clock u.environment config.store) at
          (declarations u.environment.globals u.callee.routine.parameters) u.arguments arg_new)
          (λ ws n. called_after t ws i n))
          tt

-- ---- The next action

abbrev ActionInvariant : ℕ → Store → Action → Type 0
ActionInvariant p st Rests = Unit {0}
ActionInvariant p st (Calls u k) = EnvironmentIn (in_reach p (marked_monitors k)) u.environment × ContinuationInvariant p st k
ActionInvariant p st (Acts i k) = ContinuationInvariant p st (i ∷ k)

action_invariant : (p : ℕ) (st : Store) (k : List Task) → ContinuationInvariant p st k → ActionInvariant p st (action k)
action_invariant p st [] o = tt
action_invariant p st (i ∷ k) o = go (call_in_task (Literal 0) i)
    (call_in_task_in (in_reach p (marked_monitors (i ∷ k))) (Literal 0) i o.tasks.0)
  where
    ProcOk : Option UserCall → Type 0
    ProcOk None = Unit {0}
    ProcOk (Some u) = EnvironmentIn (in_reach p (marked_monitors k)) u.environment × ContinuationInvariant p st k

    in_do : (d : Designator) (arguments : Expressions) (env : Environment) (c : Option Callee)
        → EnvironmentIn (in_reach p (marked_monitors k)) env → ContinuationInvariant p st k
        → ProcOk (elim c as (λ x. Option UserCall) [ None ↦ None | Some c ↦ Some (record { callee = c; arguments = arguments; environment = env }) ])
    in_do d arguments env None h o = tt
    in_do d arguments env (Some c) h o = (h, o)

    procedure : (i : Task) → ContinuationInvariant p st (i ∷ k) → ProcOk (procedure_call i)
    procedure (Do (Perform d arguments) env) o = in_do d arguments env (callee env d) o.tasks.0
        (continuation_tail p st (Do (Perform d arguments) env) k tt o)
    procedure _ o = tt

    by_procedure : (u : Option UserCall) → ProcOk u
        → ActionInvariant p st (elim u as (λ x. Action) [ Some u ↦ Calls u k | None ↦ Acts i k ])
    by_procedure None h = o
    by_procedure (Some u) h = h

    go : (f : Found Task) → FoundIn (in_reach p (marked_monitors (i ∷ k))) f
        → ActionInvariant p st (elim f as (λ x. Action) [ Some f ↦ Calls f.0 (i ∷ k) | None ↦ elim (procedure_call i) as (λ x. Action) [ Some u ↦ Calls u k | None ↦ Acts i k ] ])
    go None h = by_procedure (procedure_call i) (procedure i o)
    go (Some f) h = (h, o)

-- A step keeps the invariant.
pub step_invariant : (w : Context) (config : Configuration) → StoreInvariant config.store
    → ContinuationInvariant w.process config.store config.continuation
    → IfGives (StepInvariant w.process) (step_of w config)
step_invariant w config s o = go (action config.continuation)
    (action_invariant w.process config.store config.continuation o)
  where
    go : (a : Action) → ActionInvariant w.process config.store a
        → IfGives (StepInvariant w.process) (take_action w config a)
    go Rests h = record { store = s; ok = o; effect = tt }
    go (Calls u k) h = call_after w config s u k h.0 h.1
    go (Acts i k) h = run_task_after w config s i k h o
