-- `init`. Only the initial process passes rights on to monitors, and those it passes descend. It
-- holds no gate then, so the gate of the new monitor is its only one.
use Rattle.std.proofs.Common.{◌≡◌, ℕ, ◌<◌, ◌≤◌, List, [], ◌∷◌, true, false, Option, Some, None, refl, ap, sym, subst, ◌∙◌, inr}
use Rattle.std.specs.Prelude.{if◌then◌else◌}
use Rattle.cp_model.specs.Abstract.{At, Binary, Call, Class, Expression, Expressions, Known, Letter, Literal, Monitor, Name, Negative, Not, Part, Plain, Positive, Process, Sort, Use}
use Rattle.cp_model.specs.Types.{ArrayOf, ComponentOf, NoType, Queue, RecordOf, ResolvedType, Simple}
use Rattle.cp_model.specs.Declarations.{declarations}
use Rattle.cp_model.specs.Locations.{Location, OfMonitor, OfProcess, Owner}
use Rattle.cp_model.specs.Stores.{Initialised, Writes, put, put_all}
use Rattle.cp_model.specs.Environments.{Environment}
use Rattle.cp_model.specs.Outcomes.{Fault}
use Rattle.cp_model.specs.Expressions.{name_of}
use Rattle.cp_model.specs.Continuations.{EndBody, EndProcess, Task, marked_monitors, push}
use Rattle.cp_model.specs.Components.{monitor_right, name_location, Component, class_location, component_named, declared_monitor, monitor_location, monitor_number, process_location, process_number}
use Rattle.cp_model.specs.Configurations.{Configuration, Context, Opens, Own, Starts}
use Rattle.cp_model.specs.Arguments.{designator_of, init_argument_writes, named_right_writes, right_writes}
use Rattle.cp_model.specs.CallSteps.{is_initialised}
use Rattle.cp_model.specs.Initialisation.{body_environment, init_arguments, init_component}
use Rattle.cp_model.proofs.ExpressionReach.{IfGives, then_gives}
use Rattle.cp_model.proofs.StatementInvariant.{class_location_owner}
use Rattle.cp_law_gates.specs.Hierarchy.{Descends}
use Rattle.cp_law_gates.specs.Gates.{IsInnermost}
use Rattle.cp_law_typing.specs.PassedRights.{AllPassEarlier, IsEarlier, PassesEarlier}
use Rattle.cp_law_gates.specs.InOrder.{AllFit, Fits, Here, InitFits, OwnerFits, SortFits, World}
use Rattle.cp_law_gates.proofs.Writes.{AllTame, puts_queues, puts_rights, queues_then}
use Rattle.cp_law_gates.proofs.Pushing.{Put, push_fits}
use Rattle.cp_law_gates.proofs.Found.{number_earlier, process_no_monitor}
use Rattle.cp_law_gates.proofs.Stepping.{IsBefore}
use Rattle.cp_law_gates.proofs.Stepping.{StepFits, either}
use Rattle.cp_law_gates.proofs.CallSteps.{bind_earlier, bind_tame, bounded, inner, valued}

owners_same : (m n : ℕ) → OfMonitor m ≡ OfMonitor n → m ≡ n
owners_same m n e = ap number e
  where
    number : Owner → ℕ
    number (OfMonitor x) = x
    number _ = 0

module _ (w : World) (c : Context) (config : Configuration) (S : IsBefore w c config) where
  -- ---- Init

  pub class_rights : (env : Environment) (k : List Task) (x : Name) (n : Component) (l : Location) → Fits w env k → marked_monitors k ≡ marked_monitors config.continuation → component_named env x ≡ Some n → l.owner ≡ env.component.owner
      → (s : Sort) → n.system.sort ≡ s → AllTame w.place (right_writes env config.store Class l s n)
  class_rights env k x n l F e is own Monitor y = ((λ m h. let b = bounded w c config S m k (inside m (sym own ∙ h)) e in number_earlier w S.ordered config.store S.rights env k x n m F is y (sym own ∙ h) b.0 b.1), tt)
    where
      inside : (m : ℕ) → env.component.owner ≡ OfMonitor m → IsInnermost m (marked_monitors k)
      inside m h = subst (λ z. OwnerFits z (marked_monitors k)) h F.owner
  class_rights env k x n l F e is own Class y = (tt, tt)
  class_rights env k x n l F e is own Process y = tt

  pub class_argument : (env : Environment) (k : List Task) (l : Location) (t : ResolvedType) (e : Expression) → Fits w env k → marked_monitors k ≡ marked_monitors config.continuation → l.owner ≡ env.component.owner
      → IfGives (AllTame w.place) (init_argument_writes Class c.clock env config.store l t e)
  class_argument env k l (ComponentOf s inner) e F same own = by (component_named env (name_of (designator_of e))) refl
    where
      by : (o : Option Component) → component_named env (name_of (designator_of e)) ≡ o → AllTame w.place (named_right_writes env config.store Class l o)
      by None is = tt
      by (Some n) is = class_rights env k (name_of (designator_of e)) n l F same is own n.system.sort refl
  class_argument env k l (Simple b low high start) e F same own = valued w c config S env l (Simple b low high start) e
  class_argument env k l (ArrayOf low high t) e F same own = valued w c config S env l (ArrayOf low high t) e
  class_argument env k l (RecordOf ps) e F same own = valued w c config S env l (RecordOf ps) e
  class_argument env k l Queue e F same own = valued w c config S env l Queue e
  class_argument env k l NoType e F same own = valued w c config S env l NoType e

  pub process_argument : (env : Environment) (r : ℕ) (l : Location) (t : ResolvedType) (e : Expression) → l.owner ≡ OfProcess r → IfGives (AllTame w.place) (init_argument_writes Process c.clock env config.store l t e)
  process_argument env r l (ComponentOf s inner) e own = by (component_named env (name_of (designator_of e)))
    where
      rights : (n : Component) (s : Sort) → AllTame w.place (right_writes env config.store Process l s n)
      rights n Monitor = ((λ m h. absurd (process_no_monitor r m (sym own ∙ h))), tt)
      rights n Class = tt
      rights n Process = tt

      by : (o : Option Component) → AllTame w.place (named_right_writes env config.store Process l o)
      by None = tt
      by (Some n) = rights n n.system.sort
  process_argument env r l (Simple b low high start) e own = valued w c config S env l (Simple b low high start) e
  process_argument env r l (ArrayOf low high t) e own = valued w c config S env l (ArrayOf low high t) e
  process_argument env r l (RecordOf ps) e own = valued w c config S env l (RecordOf ps) e
  process_argument env r l Queue e own = valued w c config S env l Queue e
  process_argument env r l NoType e own = valued w c config S env l NoType e

  pub as_declared : (env : Environment) (n : Component) → n.is_parameter ≡ false → monitor_number env config.store n ≡ declared_monitor env n
  as_declared env n h = ap (λ b. if b then monitor_right (config.store (name_location env n)) else declared_monitor env n) h

  pub monitor_argument : (env : Environment) (m : ℕ) (l : Location) (t : ResolvedType) (e : Expression) → l.owner ≡ OfMonitor m → PassesEarlier w.place env (w.place m) t e
      → IfGives (AllTame w.place) (init_argument_writes Monitor c.clock env config.store l t e)
  monitor_argument env m l (ComponentOf s inner) (Use (Plain x)) own h = by (component_named env x) h.1
    where
      rights : (n : Component) → n.is_parameter ≡ false → (n.system.sort ≡ Monitor → w.place (declared_monitor env n) < w.place m) → (s : Sort) → n.system.sort ≡ s → AllTame w.place (right_writes env config.store Monitor l s n)
      rights n bare less Monitor is = (
        (λ a h. subst (λ z. w.place (monitor_number env config.store n) < w.place z) (owners_same m a (sym own ∙ h)) (subst (λ z. w.place z < w.place m) (sym (as_declared env n bare)) (less is))),
        tt,
      )
      rights n bare less Class is = tt
      rights n bare less Process is = tt

      by : (o : Option Component) → IsEarlier w.place env (w.place m) o → AllTame w.place (named_right_writes env config.store Monitor l o)
      by None h = tt
      by (Some n) h = rights n h.0 h.1 n.system.sort refl
  monitor_argument env m l (ComponentOf s inner) (Use (Part d x)) own h = absurd h
  monitor_argument env m l (ComponentOf s inner) (Use (At d e)) own h = absurd h
  monitor_argument env m l (ComponentOf s inner) (Literal n) own h = absurd h
  monitor_argument env m l (ComponentOf s inner) (Letter n) own h = absurd h
  monitor_argument env m l (ComponentOf s inner) (Call d es) own h = absurd h
  monitor_argument env m l (ComponentOf s inner) (Not e) own h = absurd h
  monitor_argument env m l (ComponentOf s inner) (Negative e) own h = absurd h
  monitor_argument env m l (ComponentOf s inner) (Positive e) own h = absurd h
  monitor_argument env m l (ComponentOf s inner) (Binary o a b) own h = absurd h
  monitor_argument env m l (ComponentOf s inner) (Known b n) own h = absurd h
  monitor_argument env m l (Simple b low high start) e own h = valued w c config S env l (Simple b low high start) e
  monitor_argument env m l (ArrayOf low high t) e own h = valued w c config S env l (ArrayOf low high t) e
  monitor_argument env m l (RecordOf ps) e own h = valued w c config S env l (RecordOf ps) e
  monitor_argument env m l Queue e own h = valued w c config S env l Queue e
  monitor_argument env m l NoType e own h = valued w c config S env l NoType e

  pub init_step : (s : Sort) (env : Environment) (k : List Task) (x : Name) (n : Component) (es : Expressions) → n.system.sort ≡ s → Fits w env k → AllFit w k → marked_monitors k ≡ marked_monitors config.continuation
      → component_named env x ≡ Some n → n.is_parameter ≡ false → InitFits s w env n es → IfGives (StepFits w c config S) (init_component s c config env k es n)
  init_step Class env k x n es sort F o e is bare h =
      either w c config S (is_initialised (config.store (class_location env config.store n))) (Fault 7) _ (λ y. tt) (λ y.
      then_gives (AllTame w.place) (StepFits w c config S) (init_arguments c config env es n (class_location env config.store n)) _
      (bind_tame w c config S _ (class_location env config.store n) (declarations env.globals n.system.parameters) es
      (λ l v a own. subst (λ z. IfGives (AllTame w.place) (init_argument_writes z c.clock env config.store l v.type a)) (sym sort) (class_argument env k l v.type a F e (own ∙ class_location_owner c config S.invariant env n))))
      (λ ws t. done ws t))
    where
      at : Location
      at = class_location env config.store n

      body : Environment
      body = body_environment env n.system (class_location env config.store n)

      here : Here w (body_environment env n.system (class_location env config.store n))
      here = record { scope = F.here.scope; sort = subst (λ s. SortFits s (class_location env config.store n).owner) (sym sort) tt; kind = inr (inner w c config S env x n F.here is) }

      P : Put w (EndBody None ∷ k) (push n.system.body (body_environment env n.system (class_location env config.store n)) (EndBody None ∷ k))
      P = push_fits w n.system.body (body_environment env n.system (class_location env config.store n)) (EndBody None ∷ k)
          (record { here = here; owner = subst (λ z. OwnerFits z (marked_monitors k)) (sym (class_location_owner c config S.invariant env n)) F.owner; frame = tt })
          (S.ordered.bodies (body_environment env n.system (class_location env config.store n)) here refl) (tt, o)

      done : (ws : Writes) → AllTame w.place ws
          → StepFits w c config S (record config { store = put (class_location env config.store n) (Initialised true) (put_all ws config.store); continuation = push n.system.body (body_environment env n.system (class_location env config.store n)) (EndBody None ∷ k) }, Own)
      done ws t = record {
        rights = puts_rights w.place ((class_location env config.store n, Initialised true) ∷ []) (put_all ws config.store) (tt, tt) (puts_rights w.place ws config.store t S.rights);
        fits = P.fits;
        descends = subst (Descends w.place) (sym (P.marks ∙ e)) S.descends;
        effect = (P.marks ∙ e, queues_then config.store (put_all ws config.store) (put (class_location env config.store n) (Initialised true) (put_all ws config.store)) (puts_queues w.place ws config.store t) (puts_queues w.place ((class_location env config.store n, Initialised true) ∷ []) (put_all ws config.store) (tt, tt)));
        starts = tt;
      }
  init_step Monitor env k x n es sort F o e is bare h =
      either w c config S (c.is_set (monitor_number env config.store n)) (Fault 7) _ (λ y. tt) (λ y.
      then_gives (AllTame w.place) (StepFits w c config S) (init_arguments c config env es n (monitor_location (monitor_number env config.store n))) _
      (bind_earlier w c config S env (w.place (monitor_number env config.store n)) _ (monitor_location (monitor_number env config.store n)) (declarations env.globals n.system.parameters) es
      (λ l v a own p. subst (λ z. IfGives (AllTame w.place) (init_argument_writes z c.clock env config.store l v.type a)) (sym sort) (monitor_argument env (monitor_number env config.store n) l v.type a own p))
      (subst (λ z. AllPassEarlier w.place env (w.place z) (declarations env.globals n.system.parameters) es) (sym (as_declared env n bare)) h.3))
      (λ ws t. done y ws t))
    where
      nothing_held : marked_monitors k ≡ []
      nothing_held = subst (λ z. OwnerFits z (marked_monitors k)) (ap (λ (l : Location). l.owner) h.0.1) F.owner

      here : Here w (body_environment env n.system (monitor_location (monitor_number env config.store n)))
      here = record { scope = F.here.scope; sort = subst (λ s. SortFits s (OfMonitor (monitor_number env config.store n))) (sym sort) tt; kind = inr (inner w c config S env x n F.here is) }

      P : Put w (EndBody (Some (monitor_number env config.store n)) ∷ k) (push n.system.body (body_environment env n.system (monitor_location (monitor_number env config.store n))) (EndBody (Some (monitor_number env config.store n)) ∷ k))
      P = push_fits w n.system.body (body_environment env n.system (monitor_location (monitor_number env config.store n))) (EndBody (Some (monitor_number env config.store n)) ∷ k)
          (record { here = here; owner = refl; frame = tt }) (S.ordered.bodies (body_environment env n.system (monitor_location (monitor_number env config.store n))) here refl) (tt, o)

      done : c.is_set (monitor_number env config.store n) ≡ false → (ws : Writes) → AllTame w.place ws
          → StepFits w c config S (record config { store = put_all ws config.store; continuation = push n.system.body (body_environment env n.system (monitor_location (monitor_number env config.store n))) (EndBody (Some (monitor_number env config.store n)) ∷ k) }, Opens (monitor_number env config.store n))
      done y ws t = record {
        rights = puts_rights w.place ws config.store t S.rights;
        fits = P.fits;
        descends = subst (Descends w.place) (sym (P.marks ∙ ap (λ ms. monitor_number env config.store n ∷ ms) nothing_held)) tt;
        effect = (
          P.marks ∙ ap (λ ms. monitor_number env config.store n ∷ ms) e,
          puts_queues w.place ws config.store t,
          y,
          subst (λ z. 1 ≤ z) (sym (as_declared env n bare)) h.1,
          subst (λ z. z ≤ w.monitors) (sym (as_declared env n bare)) h.2,
        );
        starts = tt;
      }
  init_step Process env k x n es sort F o e is bare h =
      either w c config S (c.is_started (process_number env n)) (Fault 7) _ (λ y. tt) (λ y.
      then_gives (AllTame w.place) (StepFits w c config S) (init_arguments c config env es n (process_location (process_number env n))) _
      (bind_tame w c config S _ (process_location (process_number env n)) (declarations env.globals n.system.parameters) es
      (λ l v a own. subst (λ z. IfGives (AllTame w.place) (init_argument_writes z c.clock env config.store l v.type a)) (sym sort) (process_argument env (process_number env n) l v.type a own)))
      (λ ws t. done ws t))
    where
      here : Here w (body_environment env n.system (process_location (process_number env n)))
      here = record { scope = F.here.scope; sort = subst (λ s. SortFits s (OfProcess (process_number env n))) (sym sort) tt; kind = inr (inner w c config S env x n F.here is) }

      P : Put w (EndProcess ∷ []) (push n.system.body (body_environment env n.system (process_location (process_number env n))) (EndProcess ∷ []))
      P = push_fits w n.system.body (body_environment env n.system (process_location (process_number env n))) (EndProcess ∷ [])
          (record { here = here; owner = refl; frame = tt }) (S.ordered.bodies (body_environment env n.system (process_location (process_number env n))) here refl) (tt, tt)

      done : (ws : Writes) → AllTame w.place ws
          → StepFits w c config S (record config { store = put_all ws config.store; continuation = k }, Starts (process_number env n) (push n.system.body (body_environment env n.system (process_location (process_number env n))) (EndProcess ∷ [])))
      done ws t = record {
        rights = puts_rights w.place ws config.store t S.rights;
        fits = o;
        descends = subst (Descends w.place) (sym e) S.descends;
        effect = (e, puts_queues w.place ws config.store t, P.marks);
        starts = P.fits;
      }
