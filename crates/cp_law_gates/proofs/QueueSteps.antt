-- `delay`, `continue`, returns and the other standard statements. A queue belongs to the monitor of
-- the innermost end mark, so what `continue` hands on is the gate that the process leaves.
use Rattle.std.proofs.Common.{◌≡◌, ℕ, ◌<◌, List, [], ◌∷◌, ◌++◌, Bool, true, false, not, ◌&&◌, Option, Some, None, codes, refl, ap, sym, subst, ◌∙◌, ◌⊎◌, inl, inr, arith}
use Rattle.std.specs.Prelude.{if◌then◌else◌}
use Rattle.std.specs.Str.{bytes_eq}
use Rattle.std.proofs.lemmas.Bool.{true≢false}
use Rattle.cp_model.proofs.Options.{same_some}
use Rattle.cp_model.specs.Abstract.{Char, Binary, Call, Designator, Expression, Expressions, Known, Letter, Literal, Monitor, MoreExpressions, Name, Negative, NoExpression, Not, Positive, Process, Use}
use Rattle.cp_model.specs.Types.{base_of_type, named_type}
use Rattle.cp_model.specs.Locations.{ByName, Location, OfActivation, OfMonitor, OfProcess, Owner, same_location}
use Rattle.cp_model.specs.Stores.{Absent, ClassRight, Initialised, MonitorRight, Ordinal, QueueHolds, Reference, Store, Value, forget, put}
use Rattle.cp_model.specs.Environments.{Environment, Frame}
use Rattle.cp_model.specs.Places.{Place, simple_value}
use Rattle.cp_model.specs.Outcomes.{Gives, Outcome}
use Rattle.cp_model.specs.Expressions.{name_of, place, value}
use Rattle.cp_model.specs.Continuations.{Do, EndBody, EndCall, EndProcess, ForNext, RepeatTest, Task, WhileTest, marked_monitors}
use Rattle.cp_model.specs.Configurations.{Configuration, Context}
use Rattle.cp_model.specs.Arguments.{designator_of}
use Rattle.cp_model.specs.CallSteps.{innermost_call, return_value, returns}
use Rattle.cp_model.specs.StandardCalls.{display_text, continue, delay, enqueue, next_input, next_place, process_in_queue, standard_statement}
use Rattle.cp_model.proofs.ExpressionReach.{IfGives, then_gives}
use Rattle.cp_law_typing.proofs.Locations.{location_is, location_itself}
use Rattle.cp_law_gates.specs.Hierarchy.{Descends}
use Rattle.cp_law_gates.specs.Gates.{IsInnermost}
use Rattle.cp_law_gates.specs.Effects.{NoNewQueue, OneNewQueue, Resumes}
use Rattle.cp_law_gates.specs.InOrder.{AllFit, CallEndsNext, Fits, FrameFits, HasFrame, OwnQueue, OwnerFits, RightsDescend, SortFits, StandardFits, World}
use Rattle.cp_law_gates.proofs.Lists.{descends_rest}
use Rattle.cp_law_gates.proofs.Writes.{forget_queues, forget_rights, puts_queues, puts_rights, queues_then}
use Rattle.cp_law_gates.proofs.Pushing.{answer_put}
use Rattle.cp_law_gates.proofs.Found.{own_place}
use Rattle.cp_law_gates.proofs.Stepping.{IsBefore}
use Rattle.cp_law_gates.proofs.Stepping.{StepFits, either, proceeds, stays, then_fits, then_writes}

module _ (w : World) (c : Context) (config : Configuration) (S : IsBefore w c config) where
  -- ---- Queues

  -- In a routine of a monitor, the monitor is that of the innermost end mark.
  pub inner_monitor : (env : Environment) (k : List Task) → Fits w env k → env.system.sort ≡ Monitor → (m : ℕ) × (env.component.owner ≡ OfMonitor m) × IsInnermost m (marked_monitors k)
  inner_monitor env k F e = by env.component.owner refl (subst (λ s. SortFits s env.component.owner) e F.here.sort) F.owner
    where
      by : (o : Owner) → env.component.owner ≡ o → SortFits Monitor o → OwnerFits o (marked_monitors k) → (m : ℕ) × (env.component.owner ≡ OfMonitor m) × IsInnermost m (marked_monitors k)
      by (OfMonitor m) is h x = (m, is, x)
      by (OfProcess p) is h x = absurd h
      by (OfActivation p d) is h x = absurd h

  pub one_new : (q : Location) → OneNewQueue c.process q config.store (put q (QueueHolds (Some c.process)) config.store)
  one_new q l r e = by (same_location q l) refl e
    where
      queue_in : Value → Option ℕ
      queue_in (QueueHolds x) = x
      queue_in _ = None

      held_same : (a b : ℕ) → QueueHolds (Some a) ≡ QueueHolds (Some b) → a ≡ b
      held_same a b e = same_some a b (ap queue_in e)

      by : (b : Bool) → same_location q l ≡ b → (if b then QueueHolds (Some c.process) else config.store l) ≡ QueueHolds (Some r) → (config.store l ≡ QueueHolds (Some r)) ⊎ ((l ≡ q) × (r ≡ c.process))
      by true x h = inr (sym (location_is q l x), sym (held_same c.process r h))
      by false x h = inl h

  pub delays : (env : Environment) (k : List Task) (q : Location) → Fits w env k → AllFit w k → marked_monitors k ≡ marked_monitors config.continuation → env.system.sort ≡ Monitor → q.owner ≡ env.component.owner
      → IfGives (StepFits w c config S) (delay c.process config k q (marked_monitors k))
  delays env k q F o e sort own = by (marked_monitors k) refl
    where
      by : (ms : List ℕ) → marked_monitors k ≡ ms → IfGives (StepFits w c config S) (delay c.process config k q ms)
      by [] x = stays w c config S
      by (m ∷ ms) x = taken (process_in_queue (config.store q))
        where
          at : (n : ℕ) × (env.component.owner ≡ OfMonitor n) × IsInnermost n (marked_monitors k)
          at = inner_monitor env k F sort

          first : m ≡ at.0
          first = subst (IsInnermost at.0) x at.2

          taken : (p : Option ℕ) → IfGives (StepFits w c config S) (enqueue c.process config k q m p)
          taken (Some r) = tt
          taken None = record {
            rights = λ l a b h g. rights l a b h g;
            fits = o;
            descends = subst (Descends w.place) (sym e) S.descends;
            effect = (e, one_new q, subst (IsInnermost m) (sym x ∙ e) refl, own ∙ at.1 ∙ ap OfMonitor (sym first));
            starts = tt;
          }
            where
              rights : RightsDescend w.place (put q (QueueHolds (Some c.process)) config.store)
              rights l a b h g = go (same_location q l) g
                where
                  go : (z : Bool) → (if z then QueueHolds (Some c.process) else config.store l) ≡ MonitorRight b → w.place b < w.place a
                  go true y = absurd (grind arith)
                  go false y = S.rights l a b h y

  -- ---- Returns

  pub record Returned (k : List Task) (st : Store) (after : Configuration) : Type 0 where
    pub fits : AllFit w after.continuation
    pub marks_are : marked_monitors after.continuation ≡ marked_monitors k
    pub rights : RightsDescend w.place after.store
    pub queues : NoNewQueue st after.store

  pub returned : (before : Configuration) (env : Environment) (k : List Task) → HasFrame env.frame → AllFit w k → RightsDescend w.place before.store
      → IfGives (Returned k before.store) (returns before env k)
  returned before env k h o r = by env.frame h
    where
      result : (f : Frame) (t : Name) (v : Value) → IfGives (Returned k before.store) (return_value before env f.owner k t v)
      result f t (Ordinal n) =
          let P = answer_put w (Known (base_of_type (named_type env.globals t)) n) k o in
          record { fits = P.fits; marks_are = P.marks; rights = forget_rights w.place f.owner before.store r; queues = forget_queues f.owner before.store }
      result f t Absent = tt
      result f t (QueueHolds x) = tt
      result f t (MonitorRight m) = tt
      result f t (ClassRight l) = tt
      result f t (Reference l) = tt
      result f t (Initialised b) = tt

      by_result : (f : Frame) (x : Option Name) → IfGives (Returned k before.store) (elim x
          as (λ x. Outcome Configuration) [ None ↦ Gives (record before { store = forget f.owner before.store; continuation = k }) | Some t ↦ return_value before env f.owner k t (before.store (record { owner = f.owner; path = ByName f.routine.name ∷ [] })) ])
      by_result f None = record { fits = o; marks_are = refl; rights = forget_rights w.place f.owner before.store r; queues = forget_queues f.owner before.store }
      by_result f (Some t) = result f t (before.store (record { owner = f.owner; path = ByName f.routine.name ∷ [] }))

      by : (f : Option Frame) → HasFrame f → IfGives (Returned k before.store) (elim f
          as (λ x. Outcome Configuration) [ None ↦ Gives before | Some f ↦ elim f.routine.result as (λ x. Outcome Configuration) [ None ↦ Gives (record before { store = forget f.owner before.store; continuation = k }) | Some x ↦ return_value before env f.owner k x (before.store (record { owner = f.owner; path = ByName f.routine.name ∷ [] })) ] ])
      by None h = absurd h
      by (Some f) h = by_result f f.routine.result

  -- ---- continue

  abbrev pub CallFits : List Task → Option (Environment × Option ℕ × List Task) → Type 0
  CallFits k None = ⊥
  CallFits k (Some e) = (marked_monitors k ≡ marked_monitors (EndCall e.0 e.1 ∷ e.2)) × HasFrame e.0.frame × AllFit w e.2

  pub call_fits : (k : List Task) → CallEndsNext k → AllFit w k → CallFits k (innermost_call k)
  call_fits [] n o = n
  call_fits (EndCall env gate ∷ k) n o = (refl, o.0, o.1)
  call_fits (EndBody gate ∷ k) n o = absurd n
  call_fits (EndProcess ∷ k) n o = absurd n
  call_fits (Do s env ∷ k) n o = later (innermost_call k) (call_fits k n o.1)
    where
      later : (x : Option (Environment × Option ℕ × List Task)) → CallFits k x → CallFits (Do s env ∷ k) x
      later None h = h
      later (Some e) h = h
  call_fits (WhileTest now e s env ∷ k) n o = later (innermost_call k) (call_fits k n o.1)
    where
      later : (x : Option (Environment × Option ℕ × List Task)) → CallFits k x → CallFits (WhileTest now e s env ∷ k) x
      later None h = h
      later (Some e) h = h
  call_fits (RepeatTest now s e env ∷ k) n o = later (innermost_call k) (call_fits k n o.1)
    where
      later : (x : Option (Environment × Option ℕ × List Task)) → CallFits k x → CallFits (RepeatTest now s e env ∷ k) x
      later None h = h
      later (Some e) h = h
  call_fits (ForNext v down a last s env ∷ k) n o = later (innermost_call k) (call_fits k n o.1)
    where
      later : (x : Option (Environment × Option ℕ × List Task)) → CallFits k x → CallFits (ForNext v down a last s env ∷ k) x
      later None h = h
      later (Some e) h = h

  pub continues : (env : Environment) (k : List Task) (q : Location) → Fits w env k → AllFit w k → marked_monitors k ≡ marked_monitors config.continuation → env.system.sort ≡ Monitor → HasFrame env.frame
      → q.owner ≡ env.component.owner → IfGives (StepFits w c config S) (continue config q (innermost_call k))
  continues env k q F o e sort framed own = by (innermost_call k) (call_fits k (next env.frame framed F.frame) o)
    where
      next : (f : Option Frame) → HasFrame f → FrameFits f k → CallEndsNext k
      next None h x = absurd h
      next (Some f) h x = x

      at : (n : ℕ) × (env.component.owner ≡ OfMonitor n) × IsInnermost n (marked_monitors k)
      at = inner_monitor env k F sort

      cleared : Store
      cleared = put q (QueueHolds None) config.store

      rights : RightsDescend w.place (put q (QueueHolds None) config.store)
      rights = puts_rights w.place ((q, QueueHolds None) ∷ []) config.store (tt, tt) S.rights

      queues : NoNewQueue config.store (put q (QueueHolds None) config.store)
      queues = puts_queues w.place ((q, QueueHolds None) ∷ []) config.store (tt, tt)

      emptied : (x : ℕ) → put q (QueueHolds None) config.store q ≡ QueueHolds (Some x) → ⊥
      emptied x h = grind (arith, sym (ap (λ b. if b then QueueHolds None else config.store q) (location_itself q)) ∙ h)

      resumes : (m : ℕ) (after : Store) → q.owner ≡ OfMonitor m → ((x : ℕ) → after q ≡ QueueHolds (Some x) → ⊥) → Resumes m config.store after (process_in_queue (config.store q))
      resumes m after h none = by (config.store q) refl
        where
          by : (v : Value) → config.store q ≡ v → Resumes m config.store after (process_in_queue v)
          by (QueueHolds None) x = tt
          by (QueueHolds (Some r)) x = (q, h, x, none)
          by Absent x = tt
          by (Ordinal n) x = tt
          by (MonitorRight n) x = tt
          by (ClassRight l) x = tt
          by (Reference l) x = tt
          by (Initialised b) x = tt

      by : (x : Option (Environment × Option ℕ × List Task)) → CallFits k x → IfGives (StepFits w c config S) (continue config q x)
      by None h = absurd h
      by (Some (env', None, l)) h = stays w c config S
      by (Some (env', Some m, l)) h =
          let first : m ≡ at.0 = subst (IsInnermost at.0) h.0 at.2 in
          then_gives (Returned l (put q (QueueHolds None) config.store)) (StepFits w c config S) (returns (record config { store = put q (QueueHolds None) config.store }) env' l) _
          (returned (record config { store = put q (QueueHolds None) config.store }) env' l h.1 h.2 rights)
          (λ after z. record {
            rights = z.rights;
            fits = z.fits;
            descends = subst (Descends w.place) (sym z.marks_are) (rest m (marked_monitors l) (subst (Descends w.place) (sym e ∙ h.0) S.descends));
            effect = (
              sym e ∙ h.0 ∙ ap (λ ms. m ∷ ms) (sym z.marks_are),
              queues_then config.store (put q (QueueHolds None) config.store) after.store queues z.queues,
              resumes m after.store (own ∙ at.1 ∙ ap OfMonitor (sym first)) (λ x y. emptied x (z.queues q x y)),
            );
            starts = tt;
          })
        where
          rest : (m : ℕ) (ms : List ℕ) → Descends w.place (m ∷ ms) → Descends w.place ms
          rest m ms h = descends_rest w.place m ms h

  -- ---- Standard statements

  pub standard : (env : Environment) (k : List Task) (d : Designator) (es : Expressions) → Fits w env k → AllFit w k → marked_monitors k ≡ marked_monitors config.continuation → StandardFits env d es
      → IfGives (StepFits w c config S) (standard_statement c config env k d es)
  standard env k d NoExpression F o e h = record {
    rights = S.rights;
    fits = o;
    descends = subst (Descends w.place) (sym e) S.descends;
    effect = (e, (λ l r x. x), by env.component.owner (subst (λ s. SortFits s env.component.owner) h F.here.sort) F.owner);
    starts = tt;
  }
    where
      by : (p : Owner) → SortFits Process p → OwnerFits p (marked_monitors k) → marked_monitors k ≡ []
      by (OfProcess p) s x = x
      by (OfMonitor m) s x = absurd s
      by (OfActivation p n) s x = absurd s
  standard env k d (MoreExpressions e es) F o same h =
      either w c config S (bytes_eq (name_of d) (codes "display")) _ _
      (λ x. then_fits w c config S (value c.clock env config.store e) _ (λ v. proceeds w c config S k (config.transcript ++ display_text v) config.consumed [] tt o same))
      (λ display. either w c config S (bytes_eq (name_of d) (codes "accept")) _ _
      (λ x. then_fits w c config S (place c.clock env config.store (designator_of e)) _
      (λ at. then_writes w c config S at.at at.type (simple_value Char (next_input c.input config.consumed)) _ (λ ws t. proceeds w c config S k config.transcript (next_place c.input config.consumed) ws t o same)))
      (λ accept.
      let q = h (of_queues (bytes_eq (name_of d) (codes "display")) (bytes_eq (name_of d) (codes "accept")) display accept) in
      either w c config S (bytes_eq (name_of d) (codes "delay")) _ _
      (λ x. then_gives (λ (p : Place). p.at.owner ≡ env.component.owner) (StepFits w c config S) (place c.clock env config.store (designator_of e)) _ (placed e q.2) (λ p own. delays env k p.at F o same q.0 own))
      (λ x. then_gives (λ (p : Place). p.at.owner ≡ env.component.owner) (StepFits w c config S) (place c.clock env config.store (designator_of e)) _ (placed e q.2) (λ p own. continues env k p.at F o same q.0 q.1 own))))
    where
      of_queues : (a b : Bool) → a ≡ false → b ≡ false → (not a && not b) ≡ true
      of_queues false false x y = refl
      of_queues true b x y = absurd (true≢false x)
      of_queues false true x y = absurd (true≢false y)

      placed : (e : Expression) → OwnQueue env e → IfGives (λ (p : Place). p.at.owner ≡ env.component.owner) (place c.clock env config.store (designator_of e))
      placed (Use d) h = own_place c.clock env config.store d h.1
      placed (Literal n) h = absurd h
      placed (Letter n) h = absurd h
      placed (Call d es) h = absurd h
      placed (Not e) h = absurd h
      placed (Negative e) h = absurd h
      placed (Positive e) h = absurd h
      placed (Binary o a b) h = absurd h
      placed (Known b n) h = absurd h
