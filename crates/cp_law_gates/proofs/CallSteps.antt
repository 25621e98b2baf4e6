-- Calls. A monitor that is called has an earlier place than that of the innermost gate, since the
-- right to it is one that descends, so the end marks still descend with it before them.
use Rattle.std.proofs.Common.{◌≡◌, ℕ, ◌<◌, ◌≤◌, List, [], ◌∷◌, Bool, true, false, Option, Some, None, refl, ap, sym, subst, ◌∙◌, inl, inr}
use Rattle.std.specs.Prelude.{if◌then◌else◌, slice_get}
use Rattle.cp_model.specs.Abstract.{Class, Expression, Expressions, Monitor, MoreExpressions, Name, NoExpression, Process, Sort}
use Rattle.cp_model.specs.Types.{ResolvedType}
use Rattle.cp_model.specs.Declarations.{Variable, declarations}
use Rattle.cp_model.specs.Locations.{ByName, Location, OfActivation, OfMonitor, OfProcess, Owner, root, under}
use Rattle.cp_model.specs.Stores.{Store, Writes, forget, put_all}
use Rattle.cp_model.specs.Environments.{Environment}
use Rattle.cp_model.specs.Places.{Place, TypedValue}
use Rattle.cp_model.specs.Outcomes.{Fault, Gives, Outcome, and_then}
use Rattle.cp_model.specs.Expressions.{place, value}
use Rattle.cp_model.specs.Continuations.{EndCall, Task, depth, marked_monitors, push}
use Rattle.cp_model.specs.Components.{Component, class_location, component_named, monitor_number}
use Rattle.cp_model.specs.Calls.{UserCall}
use Rattle.cp_model.specs.Configurations.{Configuration, Context}
use Rattle.cp_model.specs.Assignments.{starting_writes, writes_of}
use Rattle.cp_model.specs.Arguments.{argument_writes, bind, designator_of, reference_writes}
use Rattle.cp_model.specs.CallSteps.{Target, activation_environment, call, called_configuration, component_target, entering, target}
use Rattle.cp_model.proofs.ExpressionReach.{IfGives, then_gives}
use Rattle.cp_model.proofs.StatementInvariant.{class_location_owner}
use Rattle.cp_model.proofs.Lists.{in_head}
use Rattle.cp_law_gates.specs.Hierarchy.{Descends}
use Rattle.cp_law_gates.specs.Gates.{IsInnermost}
use Rattle.cp_law_gates.specs.Effects.{NoNewQueue}
use Rattle.cp_law_typing.specs.PassedRights.{AllPassEarlier, PassesEarlier}
use Rattle.cp_law_gates.specs.InOrder.{AllFit, Fits, Here, Keeps, OwnerFits, RightsDescend, SortFits, World}
use Rattle.cp_law_gates.proofs.Writes.{AllTame, append_tame, forget_queues, forget_rights, puts_queues, puts_rights, starting_tame, writes_tame}
use Rattle.cp_law_gates.proofs.Pushing.{Put, push_fits}
use Rattle.cp_law_gates.proofs.Found.{IsCallable, number_earlier}
use Rattle.cp_model.specs.States.{is_in}
use Rattle.cp_law_gates.proofs.Stepping.{IsBefore}
use Rattle.cp_law_gates.proofs.Stepping.{StepFits, either}

module _ (w : World) (c : Context) (config : Configuration) (S : IsBefore w c config) where
  -- ---- Arguments

  pub bind_tame : (one : Location → Variable → Expression → Outcome Writes) (at : Location) (ps : List (Name × Variable)) (es : Expressions)
      → ((l : Location) (v : Variable) (e : Expression) → l.owner ≡ at.owner → IfGives (AllTame w.place) (one l v e)) → IfGives (AllTame w.place) (bind one at ps es)
  bind_tame one at [] es h = tt
  bind_tame one at (q ∷ qs) NoExpression h = tt
  bind_tame one at (q ∷ qs) (MoreExpressions e es) h =
      then_gives (AllTame w.place) (AllTame w.place) (one (under at (ByName q.0 ∷ [])) q.1 e) _ (h (under at (ByName q.0 ∷ [])) q.1 e refl) (λ ws i.
      then_gives (AllTame w.place) (AllTame w.place) (bind one at qs es) _ (bind_tame one at qs es h) (λ vs j. append_tame w.place ws vs i j))

  pub bind_earlier : (env : Environment) (n : ℕ) (one : Location → Variable → Expression → Outcome Writes) (at : Location) (ps : List (Name × Variable)) (es : Expressions)
      → ((l : Location) (v : Variable) (e : Expression) → l.owner ≡ at.owner → PassesEarlier w.place env n v.type e → IfGives (AllTame w.place) (one l v e))
      → AllPassEarlier w.place env n ps es → IfGives (AllTame w.place) (bind one at ps es)
  bind_earlier env n one at [] es h k = tt
  bind_earlier env n one at (q ∷ qs) NoExpression h k = tt
  bind_earlier env n one at (q ∷ qs) (MoreExpressions e es) h k =
      then_gives (AllTame w.place) (AllTame w.place) (one (under at (ByName q.0 ∷ [])) q.1 e) _ (h (under at (ByName q.0 ∷ [])) q.1 e refl k.0) (λ ws i.
      then_gives (AllTame w.place) (AllTame w.place) (bind one at qs es) _ (bind_earlier env n one at qs es h k.1) (λ vs j. append_tame w.place ws vs i j))

  pub valued : (env : Environment) (l : Location) (t : ResolvedType) (e : Expression) → IfGives (AllTame w.place) (and_then (value c.clock env config.store e) (writes_of l t))
  valued env l t e = by (value c.clock env config.store e)
    where
      by : (v : Outcome TypedValue) → IfGives (AllTame w.place) (and_then v (writes_of l t))
      by (Fault n) = tt
      by (Gives v) = writes_tame w.place l t v

  pub argument : (env : Environment) (l : Location) (v : Variable) (e : Expression) → IfGives (AllTame w.place) (argument_writes c.clock env config.store l v e)
  argument env l v e = by v.by_reference
    where
      refers : (p : Outcome Place) → IfGives (AllTame w.place) (reference_writes l p)
      refers (Fault n) = tt
      refers (Gives p) = (tt, tt)

      by : (b : Bool) → IfGives (AllTame w.place) (if b then reference_writes l (place c.clock env config.store (designator_of e)) else and_then (value c.clock env config.store e) (writes_of l v.type))
      by true = refers (place c.clock env config.store (designator_of e))
      by false = valued env l v.type e

  -- ---- Calls

  abbrev pub GateFits : Option ℕ → Type 0
  GateFits None = Unit {0}
  GateFits (Some m) = (c.is_set m ≡ true) × Descends w.place (m ∷ marked_monitors config.continuation)

  pub called : (u : UserCall) (k : List Task) (t : Target) → AllFit w k → marked_monitors k ≡ marked_monitors config.continuation
      → let env' = activation_environment u t (OfActivation c.process (depth k)) in
      Here w env' → (g : Option ℕ) → OwnerFits t.component.owner (marked_monitors (EndCall env' g ∷ k)) → (j : ℕ) → slice_get t.system.routines j ≡ Some u.callee.routine → GateFits g
      → (ws : Writes) → AllTame w.place ws
      → StepFits w c config S (
        record config {
          store = put_all (starting_writes (root (OfActivation c.process (depth k))) (declarations u.environment.globals u.callee.routine.variables)) (put_all ws (forget (OfActivation c.process (depth k)) config.store));
          continuation = push u.callee.routine.body (activation_environment u t (OfActivation c.process (depth k))) (EndCall (activation_environment u t (OfActivation c.process (depth k))) g ∷ k);
        },
        entering g,
      )
  called u k t o e here g owner j found gate ws tame = by g owner gate
    where
      at : Owner
      at = OfActivation c.process (depth k)

      env' : Environment
      env' = activation_environment u t (OfActivation c.process (depth k))

      store : Store
      store = put_all (starting_writes (root (OfActivation c.process (depth k))) (declarations u.environment.globals u.callee.routine.variables)) (put_all ws (forget (OfActivation c.process (depth k)) config.store))

      rights : RightsDescend w.place (put_all (starting_writes (root (OfActivation c.process (depth k))) (declarations u.environment.globals u.callee.routine.variables)) (put_all ws (forget (OfActivation c.process (depth k)) config.store)))
      rights = puts_rights w.place _ _ (starting_tame w.place (root (OfActivation c.process (depth k))) (declarations u.environment.globals u.callee.routine.variables))
          (puts_rights w.place ws _ tame (forget_rights w.place (OfActivation c.process (depth k)) config.store S.rights))

      queues : NoNewQueue config.store (put_all (starting_writes (root (OfActivation c.process (depth k))) (declarations u.environment.globals u.callee.routine.variables)) (put_all ws (forget (OfActivation c.process (depth k)) config.store)))
      queues l r x =
          forget_queues (OfActivation c.process (depth k)) config.store l r
          (puts_queues w.place ws (forget (OfActivation c.process (depth k)) config.store) tame l r
          (puts_queues w.place (starting_writes (root (OfActivation c.process (depth k))) (declarations u.environment.globals u.callee.routine.variables)) (put_all ws (forget (OfActivation c.process (depth k)) config.store)) (starting_tame w.place (root (OfActivation c.process (depth k))) (declarations u.environment.globals u.callee.routine.variables)) l r x))

      keep : Keeps w (activation_environment u t (OfActivation c.process (depth k))) u.callee.routine.body
      keep = S.ordered.routines (activation_environment u t (OfActivation c.process (depth k))) (record { owner = OfActivation c.process (depth k); routine = u.callee.routine }) j here found refl

      P : (g : Option ℕ) → OwnerFits t.component.owner (marked_monitors (EndCall (activation_environment u t (OfActivation c.process (depth k))) g ∷ k))
          → Put w (EndCall (activation_environment u t (OfActivation c.process (depth k))) g ∷ k) (push u.callee.routine.body (activation_environment u t (OfActivation c.process (depth k))) (EndCall (activation_environment u t (OfActivation c.process (depth k))) g ∷ k))
      P g x = push_fits w u.callee.routine.body (activation_environment u t (OfActivation c.process (depth k))) (EndCall (activation_environment u t (OfActivation c.process (depth k))) g ∷ k)
          (record { here = here; owner = x; frame = tt }) keep (tt, o)

      by : (g : Option ℕ) → OwnerFits t.component.owner (marked_monitors (EndCall (activation_environment u t (OfActivation c.process (depth k))) g ∷ k)) → GateFits g
          → StepFits w c config S (
            record config {
              store = put_all (starting_writes (root (OfActivation c.process (depth k))) (declarations u.environment.globals u.callee.routine.variables)) (put_all ws (forget (OfActivation c.process (depth k)) config.store));
              continuation = push u.callee.routine.body (activation_environment u t (OfActivation c.process (depth k))) (EndCall (activation_environment u t (OfActivation c.process (depth k))) g ∷ k);
            },
            entering g,
          )
      by None x h = let B = P None x in record {
        rights = rights;
        fits = B.fits;
        descends = subst (Descends w.place) (sym (B.marks ∙ e)) S.descends;
        effect = (B.marks ∙ e, queues);
        starts = tt;
      }
      by (Some m) x h = let B = P (Some m) x in record {
        rights = rights;
        fits = B.fits;
        descends = subst (Descends w.place) (sym (B.marks ∙ ap (λ ms. m ∷ ms) e)) h.1;
        effect = (B.marks ∙ ap (λ ms. m ∷ ms) e, queues, h.0);
        starts = tt;
      }

  pub bounded : (m : ℕ) (k : List Task) → IsInnermost m (marked_monitors k) → marked_monitors k ≡ marked_monitors config.continuation → (1 ≤ m) × (m ≤ w.monitors)
  bounded m k h e = S.within m (ap (is_in m) (sym e) ∙ inside (marked_monitors k) h)
    where
      inside : (ms : List ℕ) → IsInnermost m ms → is_in m ms ≡ true
      inside [] h = absurd h
      inside (n ∷ ms) h = subst (λ x. is_in m (x ∷ ms) ≡ true) (sym h) (in_head m ms)

  -- S.fits monitor that is called may be before those whose gates are held.
  pub next_down : (env : Environment) (k : List Task) (x : Name) (n : Component) → Fits w env k → component_named env x ≡ Some n → n.system.sort ≡ Monitor → marked_monitors k ≡ marked_monitors config.continuation
      → Descends w.place (monitor_number env config.store n ∷ marked_monitors config.continuation)
  next_down env k x n F is sort e = subst (λ ms. Descends w.place (monitor_number env config.store n ∷ ms)) e (by env.component.owner refl F.owner)
    where
      number : ℕ
      number = monitor_number env config.store n

      above : (m : ℕ) (ms : List ℕ) → marked_monitors k ≡ ms → env.component.owner ≡ OfMonitor m → IsInnermost m ms → Descends w.place (monitor_number env config.store n ∷ ms)
      above m [] y own h = absurd h
      above m (a ∷ ms) y own h =
          let b = bounded m k (subst (IsInnermost m) (sym y) h) e in
          (subst (λ z. w.place (monitor_number env config.store n) < w.place z) (sym h) (number_earlier w S.ordered config.store S.rights env k x n m F is sort own b.0 b.1), subst (Descends w.place) (sym e ∙ y) S.descends)

      by : (o : Owner) → env.component.owner ≡ o → OwnerFits o (marked_monitors k) → Descends w.place (monitor_number env config.store n ∷ marked_monitors k)
      by (OfProcess p) y h = subst (λ ms. Descends w.place (monitor_number env config.store n ∷ ms)) (sym h) tt
      by (OfMonitor m) y h = above m (marked_monitors k) refl y h
      by (OfActivation p d) y h = absurd h

  pub inner : (env : Environment) (x : Name) (n : Component) → Here w env → component_named env x ≡ Some n → w.IsInner n.system
  inner env x n H is = elim H.kind [ inl o ↦ (S.ordered.initial_bare env x n H.scope o.0 is).1 | inr i ↦ (S.ordered.inner_components env x n H.scope i is).1 ]

  pub call_step : (u : UserCall) (k : List Task) → Fits w u.environment k → AllFit w k → marked_monitors k ≡ marked_monitors config.continuation → IsCallable u.environment u.callee.routine u.callee.of → IfGives (StepFits w c config S) (call c config u k)
  call_step u k F o e C = by u.callee.of C
    where
      at : Location
      at = record { owner = OfActivation c.process (depth k); path = [] }

      tame : IfGives (AllTame w.place) (bind (argument_writes c.clock u.environment config.store) (root (OfActivation c.process (depth k))) (declarations u.environment.globals u.callee.routine.parameters) u.arguments)
      tame = bind_tame (argument_writes c.clock u.environment config.store) (root (OfActivation c.process (depth k))) (declarations u.environment.globals u.callee.routine.parameters) u.arguments (λ l v x h. argument u.environment l v x)

      tested : (t : Target) → Here w (activation_environment u t (OfActivation c.process (depth k))) → OwnerFits t.component.owner (marked_monitors (EndCall (activation_environment u t (OfActivation c.process (depth k))) t.gate ∷ k))
          → (j : ℕ) → slice_get t.system.routines j ≡ Some u.callee.routine → (t.is_callable ≡ true → GateFits t.gate)
          → IfGives (StepFits w c config S) (if t.is_callable then and_then (bind (argument_writes c.clock u.environment config.store) (root (OfActivation c.process (depth k))) (declarations u.environment.globals u.callee.routine.parameters) u.arguments)
          (λ ws. Gives (called_configuration config u k t (OfActivation c.process (depth k)) ws)) else Fault 6)
      tested t here owner j found gate =
          either w c config S t.is_callable _ (Fault 6)
          (λ y. then_gives (AllTame w.place) (StepFits w c config S) (bind (argument_writes c.clock u.environment config.store) (root (OfActivation c.process (depth k))) (declarations u.environment.globals u.callee.routine.parameters) u.arguments) _ tame
          (λ ws z. called u k t o e here t.gate owner j found (gate y) ws z))
          (λ y. tt)

      by : (n : Option Component) → IsCallable u.environment u.callee.routine n
          → IfGives (StepFits w c config S) (if (target c config.store u.environment n).is_callable then and_then (bind (argument_writes c.clock u.environment config.store) (root (OfActivation c.process (depth k))) (declarations u.environment.globals u.callee.routine.parameters) u.arguments)
          (λ ws. Gives (called_configuration config u k (target c config.store u.environment n) (OfActivation c.process (depth k)) ws)) else Fault 6)
      by None C = tested (target c config.store u.environment None) (record { scope = F.here.scope; sort = F.here.sort; kind = F.here.kind }) F.owner C.0 C.1 (λ y. tt)
      by (Some n) C = by_sort n.system.sort refl
        where
          by_sort : (s : Sort) → n.system.sort ≡ s
              → IfGives (StepFits w c config S) (if (component_target c u.environment config.store s n).is_callable then and_then (bind (argument_writes c.clock u.environment config.store) (root (OfActivation c.process (depth k))) (declarations u.environment.globals u.callee.routine.parameters) u.arguments)
              (λ ws. Gives (called_configuration config u k (component_target c u.environment config.store s n) (OfActivation c.process (depth k)) ws)) else Fault 6)
          by_sort Class is =
              tested (component_target c u.environment config.store Class n)
              (record { scope = F.here.scope; sort = subst (λ s. SortFits s (class_location u.environment config.store n).owner) (sym is) tt; kind = inr (inner u.environment C.0 n F.here C.1) })
              (subst (λ z. OwnerFits z (marked_monitors k)) (sym (class_location_owner c config S.invariant u.environment n)) F.owner) C.2.0 C.2.1 (λ y. tt)
          by_sort Monitor is =
              tested (component_target c u.environment config.store Monitor n)
              (record { scope = F.here.scope; sort = subst (λ s. SortFits s (OfMonitor (monitor_number u.environment config.store n))) (sym is) tt; kind = inr (inner u.environment C.0 n F.here C.1) })
              refl C.2.0 C.2.1 (λ y. (y, next_down u.environment k C.0 n F C.1 is e))
          by_sort Process is = tt
