-- A well-typed text without `realtime` and `wait` doesn't use the clock, in any state that rounds reach.
--
-- In a typed text a statement without arguments calls a procedure, unless it is `wait`. So all bodies and
-- routines are calm, and steps keep processes calm.
use Rattle.std.specs.Prelude.{Bool, List, None, Some, [], codes, false, fold, if◌then◌else◌, nat_eq, refl, slice_get, suc, take, true, zero, ℕ, ℤ, ◌∷◌, ◌≡◌, ◌≢◌, ◌⊎◌}
use Rattle.std.proofs.Common.{ap, arith, inl, inr, subst, sym, ◌∙◌}
use Rattle.std.proofs.lemmas.Bool.{true≢false}
use Rattle.std.specs.Str.{bytes_eq}
use Rattle.cp_model.specs.Abstract.{Arms, Assign, At, BaseType, Case, Cycle, Designator, Expressions, For, If, Init, MoreArms, MoreExpressions, Name, NoArm, NoExpression, Nothing, Part, Perform, Plain, Repeat, Routine, Seq, Statement, System, While}
use Rattle.cp_model.specs.Declarations.{globals}
use Rattle.cp_model.specs.Environments.{Environment, Frame}
use Rattle.cp_model.specs.Continuations.{EndProcess, push}
use Rattle.cp_model.specs.Components.{process_location}
use Rattle.cp_model.specs.Calls.{callee}
use Rattle.cp_model.specs.Configurations.{Asking, Delayed, Ended, Faulted, Fresh, Ready, Status, Unstarted, Waiting}
use Rattle.cp_model.specs.Orders.{replay}
use Rattle.cp_model.specs.Rounds.{Event, KernelTurn, PrivateStep, after_closing, close_round, replay_event, replay_round, wake}
use Rattle.cp_model.specs.Start.{initial_environment, start}
use Rattle.cp_model.specs.States.{Setup, State, configuration, context, running_clock}
use Rattle.cp_model.specs.Turns.{Kernel, Kind, NoStep, Private, after_step, if_kernel, if_private, kernel_step, kernel_turn, kind, private_step, step}
use Rattle.cp_model.proofs.OwnSteps.{outcome}
use Rattle.cp_law_gates.specs.InOrder.{world}
use Rattle.cp_law_gates.proofs.Texts.{text_is_ordered}
use Rattle.cp_law_typing.specs.Judgement.{IsProcedureCall, Place, TypedArms, TypedStatement}
use Rattle.cp_law_typing.specs.WellTyped.{TypedRoutine, WellTyped, body_place, routine_place, text_systems}
use Rattle.cp_law_calls.specs.Clocks.{arms_are_timeless, designator_is_timeless, expression_is_timeless, expressions_are_timeless, is_wait, routines_are_timeless, statement_is_timeless, system_is_timeless, systems_are_timeless, text_is_timeless}
use Rattle.cp_law_calls.specs.Orders.{IsTimeless, closed}
use Rattle.cp_law_calls.specs.Ways.{IsGood}
use Rattle.cp_law_calls.proofs.Calm.{AllCalm, ArmsCalm, Calm, MayPerform, both, push_calm}
use Rattle.cp_law_calls.proofs.CalmSteps.{CalmState, IsCalmWorld, step_keeps_calm}
use Rattle.cp_law_calls.proofs.Closing.{alike_after, alike_closed}
use Rattle.cp_law_calls.proofs.Good.{close_good, kernel_good, private_good, start_good}
use Rattle.cp_law_calls.proofs.Ordering.{wakes_nobody}
use Rattle.cp_law_calls.proofs.Unclocked.{step_same}

-- ---- Typed statements

none_or : (a b : Bool) → (if a then false else b) ≡ true → (a ≡ false) × (b ≡ true)
none_or true b h = absurd (true≢false (sym h))
none_or false b h = (refl, h)

module _ (p : Place) where
  waits : (x : Name) → IsProcedureCall p None (Plain x) NoExpression → bytes_eq x (codes "wait") ≡ false → ⊥
  waits x h e = true≢false (sym (ap (λ y. bytes_eq y (codes "wait")) h.0) ∙ e)

  may_perform : (d : Designator) (es : Expressions) → IsProcedureCall p (callee p.env d) d es → is_wait d es ≡ false → MayPerform p.env d es
  may_perform d (MoreExpressions e es) h n = tt
  may_perform (Plain x) NoExpression h n = λ none. waits x (subst (λ o. IsProcedureCall p o (Plain x) NoExpression) none h) n
  may_perform (Part d x) NoExpression h n = λ none. subst (λ o. IsProcedureCall p o (Part d x) NoExpression) none h
  may_perform (At d e) NoExpression h n = λ none. subst (λ o. IsProcedureCall p o (At d e) NoExpression) none h

  mutual
    pub calm_typed : (s : Statement) → TypedStatement p s → statement_is_timeless s ≡ true → Calm p.env s
    calm_typed Nothing h k = tt
    calm_typed (Seq a b) h k =
        let e = both (statement_is_timeless a) (statement_is_timeless b) k in
        (calm_typed a h.0 e.0, calm_typed b h.1 e.1)
    calm_typed (Assign d e) h k = both (designator_is_timeless d) (expression_is_timeless e) k
    calm_typed (Perform d es) h k = let e = none_or (is_wait d es) (expressions_are_timeless es) k in (e.1, may_perform d es h.1 e.0)
    calm_typed (If e a b) h k =
        let x = both (expression_is_timeless e) (if statement_is_timeless a then statement_is_timeless b else false) k in
        let y = both (statement_is_timeless a) (statement_is_timeless b) x.1 in
        (x.0, calm_typed a h.2 y.0, calm_typed b h.3 y.1)
    calm_typed (Case e arms) h k =
        let x = both (expression_is_timeless e) (arms_are_timeless arms) k in
        (x.0, arms_calm arms h.1 _ h.3 x.1)
    calm_typed (While e s) h k = let x = both (expression_is_timeless e) (statement_is_timeless s) k in (x.0, calm_typed s h.2 x.1)
    calm_typed (Repeat s e) h k = let x = both (expression_is_timeless e) (statement_is_timeless s) k in (x.0, calm_typed s h.0 x.1)
    calm_typed (For v down a b s) h k =
        let x = both (expression_is_timeless a) (if expression_is_timeless b then statement_is_timeless s else false) k in
        let y = both (expression_is_timeless b) (statement_is_timeless s) x.1 in
        (x.0, y.0, calm_typed s h.6 y.1)
    calm_typed (Cycle s) h k = calm_typed s h k
    calm_typed (Init x es) h k = k

    arms_calm : (arms : Arms) (b : BaseType) (seen : List ℤ) → TypedArms p b seen arms → arms_are_timeless arms ≡ true → ArmsCalm p.env arms
    arms_calm NoArm b seen h k = tt
    arms_calm (MoreArms ls s rest) b seen h k =
        let x = both (statement_is_timeless s) (arms_are_timeless rest) k in
        (calm_typed s h.1 x.0, arms_calm rest b _ h.2 x.1)

-- ---- The systems of a text

no_place : {A : Type 0} (x : A) → None ≡ Some x → ⊥
no_place x e = grind arith

some_same : {A : Type 0} (x y : A) → Some x ≡ Some y → x ≡ y
some_same x y e = Prim.cc

pub system_at : (ss : List System) (i : ℕ) (s : System) → systems_are_timeless ss ≡ true → slice_get ss i ≡ Some s → system_is_timeless s ≡ true
system_at [] i s h e = absurd (no_place s e)
system_at (x ∷ ss) zero s h e = subst (λ y. system_is_timeless y ≡ true) (some_same x s e) (both (system_is_timeless x) (systems_are_timeless ss) h).0
system_at (x ∷ ss) (suc i) s h e = system_at ss i s (both (system_is_timeless x) (systems_are_timeless ss) h).1 e

pub routine_at : (rs : List Routine) (i : ℕ) (r : Routine) → routines_are_timeless rs ≡ true → slice_get rs i ≡ Some r → statement_is_timeless r.body ≡ true
routine_at [] i r h e = absurd (no_place r e)
routine_at (x ∷ rs) zero r h e = subst (λ (y : Routine). statement_is_timeless y.body ≡ true) (some_same x r e) (both (statement_is_timeless x.body) (routines_are_timeless rs) h).0
routine_at (x ∷ rs) (suc i) r h e = routine_at rs i r (both (statement_is_timeless x.body) (routines_are_timeless rs) h).1 e

module _ (setup : Setup) (W : WellTyped setup) (timeless : text_is_timeless setup.tree ≡ true) where
  parts : (system_is_timeless setup.tree.initial ≡ true) × (systems_are_timeless (text_systems setup) ≡ true)
  parts = both (system_is_timeless setup.tree.initial) (systems_are_timeless (text_systems setup)) timeless

  environment_is : (a b : Environment) → a.globals ≡ b.globals → a.system ≡ b.system → a.component ≡ b.component → a.frame ≡ b.frame → a ≡ b
  environment_is a b g s c f i = record { globals = g i; system = s i; component = c i; frame = f i }

  bodies : (env : Environment) → env.globals ≡ globals setup.tree → (i : ℕ) × (slice_get (text_systems setup) i ≡ Some env.system) → env.frame ≡ None → Calm env env.system.body
  bodies env g i none =
      let P : Place = body_place (globals setup.tree) (take i.0 (text_systems setup)) env.system env.component in
      let is : env ≡ P.env = environment_is env P.env g refl refl none in
      let t = both (statement_is_timeless env.system.body) (routines_are_timeless env.system.routines) (system_at (text_systems setup) i.0 env.system parts.1 i.1) in
      subst (λ e. Calm e env.system.body) (sym is) (calm_typed P env.system.body ((W.systems i.0 env.system i.1).bodies.body env.component) t.0)

  routines : (env : Environment) (f : Frame) (j : ℕ) → env.globals ≡ globals setup.tree
      → (env.system ≡ setup.tree.initial) ⊎ ((i : ℕ) × (slice_get (text_systems setup) i ≡ Some env.system))
      → slice_get env.system.routines j ≡ Some f.routine → env.frame ≡ Some f → Calm env f.routine.body
  routines env f j g (inl o) found running =
      let P : Place = routine_place (globals setup.tree) (text_systems setup) setup.tree.initial j f.routine env.component f.owner in
      let is : env ≡ P.env = environment_is env P.env g o refl running in
      let there = ap (λ (s : System). slice_get s.routines j) (sym o) ∙ found in
      let T : TypedRoutine (globals setup.tree) (text_systems setup) setup.tree.initial j f.routine = W.initial_bodies.routines j f.routine there in
      let t = both (statement_is_timeless setup.tree.initial.body) (routines_are_timeless setup.tree.initial.routines) parts.0 in
      subst (λ e. Calm e f.routine.body) (sym is) (calm_typed P f.routine.body (T.body env.component f.owner) (routine_at setup.tree.initial.routines j f.routine t.1 there))
  routines env f j g (inr i) found running =
      let P : Place = routine_place (globals setup.tree) (take i.0 (text_systems setup)) env.system j f.routine env.component f.owner in
      let is : env ≡ P.env = environment_is env P.env g refl refl running in
      let T : TypedRoutine (globals setup.tree) (take i.0 (text_systems setup)) env.system j f.routine = (W.systems i.0 env.system i.1).bodies.routines j f.routine found in
      let t = both (statement_is_timeless env.system.body) (routines_are_timeless env.system.routines) (system_at (text_systems setup) i.0 env.system parts.1 i.1) in
      subst (λ e. Calm e f.routine.body) (sym is) (calm_typed P f.routine.body (T.body env.component f.owner) (routine_at env.system.routines j f.routine t.1 found))

  calm_world : IsCalmWorld (world setup)
  calm_world = record { bodies = bodies; routines = routines }

  -- ---- States

  start_calm : CalmState (start setup)
  start_calm = record { tasks = λ q. at q (nat_eq 1 q); awake = λ q. up q (nat_eq 1 q) }
    where
      first : AllCalm (push setup.tree.initial.body (initial_environment setup) (EndProcess ∷ []))
      first =
          push_calm setup.tree.initial.body (initial_environment setup) (EndProcess ∷ [])
          (calm_typed (body_place (globals setup.tree) (text_systems setup) setup.tree.initial (process_location 1)) setup.tree.initial.body (W.initial_bodies.body (process_location 1))
          (both (statement_is_timeless setup.tree.initial.body) (routines_are_timeless setup.tree.initial.routines) parts.0).0) (tt, tt)

      at : (q : ℕ) (b : Bool) → AllCalm (if b then push setup.tree.initial.body (initial_environment setup) (EndProcess ∷ []) else [])
      at q true = first
      at q false = tt

      ready_awake : Ready ≢ Waiting
      ready_awake e = grind arith

      unstarted_awake : Unstarted ≢ Waiting
      unstarted_awake e = grind arith

      up : (q : ℕ) (b : Bool) → (if b then Ready else Unstarted) ≢ Waiting
      up q true = ready_awake
      up q false = unstarted_awake

  record Quiet (s : State) : Type 0 where
    good : IsGood setup s
    calm : CalmState s

  stepped : (s : State) (p : ℕ) → Quiet s → CalmState (step setup s p)
  stepped s p q = step_keeps_calm (world setup) (text_is_ordered setup W) calm_world setup s p q.good.in_order q.calm

  private_quiet : (s : State) (p : ℕ) → Quiet s → Quiet (private_step setup s p)
  private_quiet s p q = record { good = private_good setup s p W q.good; calm = by (kind s p) }
    where
      by : (k : Kind) → CalmState (if_private k (step setup s p) s)
      by Private = stepped s p q
      by Kernel = q.calm
      by NoStep = q.calm

  kernel_quiet : (s : State) (p : ℕ) → Quiet s → Quiet (kernel_step setup s p)
  kernel_quiet s p q = record { good = kernel_good setup s p W q.good; calm = by (kind s p) }
    where
      by : (k : Kind) → CalmState (if_kernel k (step setup s p) s)
      by Kernel = stepped s p q
      by Private = q.calm
      by NoStep = q.calm

  turn_quiet : (n : ℕ) (s : State) (p : ℕ) → Quiet s → Quiet (kernel_turn setup n s p)
  turn_quiet zero s p q = q
  turn_quiet (suc n) s p q = turn_quiet n (kernel_step setup s p) p (kernel_quiet s p q)

  events_quiet : (es : List Event) (t : ℕ) (s : State) → Quiet s → Quiet (fold (replay_event setup t) s es)
  events_quiet [] t s q = q
  events_quiet (PrivateStep p ∷ es) t s q = events_quiet es t (private_step setup s p) (private_quiet s p q)
  events_quiet (KernelTurn p ∷ es) t s q = events_quiet es t (kernel_turn setup t s p) (turn_quiet t s p q)

  closing_awake : (x : Status) → x ≢ Waiting → after_closing x ≢ Waiting
  closing_awake Fresh h e = absurd (grind arith)
  closing_awake Ready h e = h e
  closing_awake Unstarted h e = h e
  closing_awake Ended h e = h e
  closing_awake Waiting h e = h e
  closing_awake (Asking m) h e = h e
  closing_awake (Delayed m l) h e = h e
  closing_awake (Faulted n) h e = h e

  closes_quiet : (s : State) → Quiet s → Quiet (close_round s)
  closes_quiet s q = record { good = close_good setup s W q.good; calm = record { tasks = q.calm.tasks; awake = λ p. closing_awake (s.status p) (q.calm.awake p) } }

  round_quiet : (t : ℕ) (s : State) (es : List Event) → Quiet s → Quiet (replay_round setup t s es)
  round_quiet t s es q =
      closes_quiet _ (events_quiet es t (wake setup s) (subst Quiet (sym (wakes_nobody setup s q.calm.awake)) q))

  rounds_quiet : (rounds : List (ℕ × List Event)) (s : State) → Quiet s → Quiet (replay setup s rounds)
  rounds_quiet [] s q = q
  rounds_quiet (r ∷ rs) s q = rounds_quiet rs (replay_round setup r.0 s r.1) (round_quiet r.0 s r.1 q)

  -- A step with another count of rounds.
  counted : (s : State) (p n : ℕ) → CalmState s → closed (step setup (record s { rounds = n }) p) ≡ closed (step setup s p)
  counted s p n c =
      ap (λ o. closed (after_step (record s { rounds = n }) p o))
      (step_same (context setup s p) (running_clock setup (record s { rounds = n })) (configuration s p) (c.tasks p))
      ∙ alike_closed (after_step (record s { rounds = n }) p (outcome setup s p)) (after_step s p (outcome setup s p))
      (alike_after (record s { rounds = n }) s p (outcome setup s p) (record {
        store = refl;
        continuation = refl;
        transcript = refl;
        consumed = refl;
        status = λ q. refl;
        gates = refl;
      }))

  pub text_timeless : IsTimeless setup
  text_timeless = record {
    count = λ rounds p n a there. counted (replay setup (start setup) rounds) p n (quiet rounds).calm;
    awake = λ rounds p a. (quiet rounds).calm.awake p;
  }
    where
      quiet : (rounds : List (ℕ × List Event)) → Quiet (replay setup (start setup) rounds)
      quiet rounds = rounds_quiet rounds (start setup) (record { good = start_good setup W; calm = start_calm })
