-- Rounds in any order are runs of a machine whose states are closed after each step.
--
-- If nothing uses the clock, a step may come before the end of a round or after it. So an event is a
-- number of moves, and the end of a round is none. Conversely, a move is a round of one event.
use Rattle.std.specs.Prelude.{Bool, List, Some, [], false, fold, if◌then◌else◌, nat_eq, refl, suc, true, zero, ℕ, ◌%◌, ◌++◌, ◌∷◌, ◌||◌, ◌≡◌, ◌≢◌}
use Rattle.std.proofs.Common.{ap, arith, subst, sym, ◌∙◌}
use Rattle.cp_model.specs.Continuations.{Task}
use Rattle.cp_model.specs.Configurations.{Asking, Delayed, Ended, Faulted, Fresh, Ready, Status, Unstarted, Waiting, holds_gate}
use Rattle.cp_model.specs.Actions.{action, is_kernel_action}
use Rattle.cp_model.specs.Orders.{replay}
use Rattle.cp_model.specs.Rounds.{Event, KernelTurn, PrivateStep, after_closing, close_round, replay_event, replay_round, wake, wake_status}
use Rattle.cp_model.specs.Start.{start}
use Rattle.cp_model.specs.States.{Setup, State, is_in, processes}
use Rattle.cp_model.specs.Turns.{Kernel, Kind, NoStep, Private, if_kernel, if_private, kernel_step, kernel_turn, kind, kind_of, private_step, step}
use Rattle.cp_model.proofs.OwnSteps.{kind_private}
use Rattle.cp_model.proofs.StateInvariant.{kind_kernel}
use Rattle.cp_model.proofs.StateMaps.{state_is}
use Rattle.cp_law_gates.specs.InOrder.{world}
use Rattle.cp_law_gates.proofs.Texts.{text_is_ordered}
use Rattle.cp_law_stillness.specs.Stillness.{AreAllOfProcesses, AreOfProcesses}
use Rattle.cp_law_typing.specs.WellTyped.{WellTyped}
use Rattle.cp_law_calls.specs.Orders.{IsTimeless, closed, machine}
use Rattle.cp_law_calls.specs.Runs.{AreMovers, CallsChangePlaces, IsClosedByCalls, Runs, Settles}
use Rattle.cp_law_calls.specs.Ways.{Eager, Idle, IsGood, Late, called, is_late, way, way_of}
use Rattle.cp_law_calls.proofs.Closing.{closed_round, closed_twice, shut_step}
use Rattle.cp_law_calls.proofs.Good.{closed_good, start_good, step_good}
use Rattle.cp_law_calls.proofs.Movers.{calls_change_places, changes_places, eager_is, eager_ready, late_ready, same_for, stepped, way_ready, way_stays}
use Rattle.cp_law_calls.proofs.Runs.{runs_on}
use Rattle.cp_law_calls.proofs.Settling.{stays_within}

-- Nobody is fresh.
abbrev pub IsFlat : State → Type 0
IsFlat s = (p : ℕ) → after_closing (s.status p) ≡ s.status p

round_flat : (setup : Setup) (t : ℕ) (s : State) (es : List Event) → IsFlat (replay_round setup t s es)
round_flat setup t s es p = closed_twice ((fold (replay_event setup t) (wake setup s) es).status p)

replay_flat : (rounds : List (ℕ × List Event)) (setup : Setup) (s : State) → IsFlat s → IsFlat (replay setup s rounds)
replay_flat [] setup s f = f
replay_flat (r ∷ rs) setup s f = replay_flat rs setup (replay_round setup r.0 s r.1) (round_flat setup r.0 s r.1)

start_flat : (setup : Setup) → IsFlat (start setup)
start_flat setup p = by (nat_eq 1 p)
  where
    by : (b : Bool) → after_closing (if b then Ready else Unstarted) ≡ (if b then Ready else Unstarted)
    by true = refl
    by false = refl

-- One more round.
replay_more : (rounds : List (ℕ × List Event)) (setup : Setup) (s : State) (t : ℕ) (es : List Event)
    → replay setup s (rounds ++ (t, es) ∷ []) ≡ replay_round setup t (replay setup s rounds) es
replay_more [] setup s t es = refl
replay_more (r ∷ rs) setup s t es = replay_more rs setup (replay_round setup r.0 s r.1) t es

rounds_more : (setup : Setup) (rounds : List (ℕ × List Event)) (t : ℕ) (es : List Event) → AreAllOfProcesses setup rounds → AreOfProcesses setup es
    → AreAllOfProcesses setup (rounds ++ (t, es) ∷ [])
rounds_more setup [] t es a b = (b, tt)
rounds_more setup (r ∷ rs) t es a b = (a.0, rounds_more setup rs t es a.1 b)

-- ---- Statuses

closed_is_ready : (x : Status) → x ≡ Ready → after_closing x ≡ Ready
closed_is_ready x e = ap after_closing e

not_waiting : (x : Status) → x ≢ Waiting → wake_status x ≡ x
not_waiting Unstarted h = refl
not_waiting Fresh h = refl
not_waiting Ready h = refl
not_waiting Ended h = refl
not_waiting Waiting h = absurd (h refl)
not_waiting (Asking m) h = refl
not_waiting (Delayed m l) h = refl
not_waiting (Faulted n) h = refl

waiting_closed : (x : Status) → x ≡ Waiting → after_closing x ≡ Waiting
waiting_closed x e = ap after_closing e

pub wakes_nobody : (setup : Setup) (s : State) → ((p : ℕ) → s.status p ≢ Waiting) → wake setup s ≡ s
wakes_nobody setup s h = by (nat_eq (suc s.rounds % setup.tick) 0)
  where
    by : (b : Bool) → (if b then record s { status = λ p. wake_status (s.status p) } else s) ≡ s
    by true = state_is _ _ refl refl refl refl (λ i p. not_waiting (s.status p) (h p) i) refl refl
    by false = refl

-- ---- The event of a ready process

event_of : Kind → ℕ → Event
event_of Private p = PrivateStep p
event_of _ p = KernelTurn p

ready_kind : (setup : Setup) (s : State) (p : ℕ) → s.status p ≡ Ready → replay_event setup 1 s (event_of (kind s p) p) ≡ step setup s p
unfolding event_of
ready_kind setup s p ready = by (kind s p) refl
  where
    no_step : kind s p ≡ NoStep → ⊥
    no_step e = on (holds_gate Ready (s.continuation p) || is_kernel_action (action (s.continuation p))) (sym (ap (λ x. kind_of x (s.continuation p)) ready) ∙ e)
      where
        clash : Kernel ≡ NoStep → ⊥
        clash e = grind arith

        clash' : Private ≡ NoStep → ⊥
        clash' e = grind arith

        on : (b : Bool) → (if b then Kernel else Private) ≡ NoStep → ⊥
        on true e = clash e
        on false e = clash' e

    by : (k : Kind) → kind s p ≡ k → replay_event setup 1 s (event_of k p) ≡ step setup s p
    by Private e = ap (λ x. if_private x (step setup s p) s) e
    by Kernel e = ap (λ x. if_kernel x (step setup s p) s) e
    by NoStep e = absurd (no_step e)

event_within : (setup : Setup) (k : Kind) (p : ℕ) → is_in p (processes setup) ≡ true → AreOfProcesses setup (event_of k p ∷ [])
unfolding event_of
event_within setup Private p h = (h, tt)
event_within setup Kernel p h = (h, tt)
event_within setup NoStep p h = (h, tt)

-- ---- Closed states that orders reach

module _ (setup : Setup) (typed : WellTyped setup) (T : IsTimeless setup) where
  pub record Fine (v : State) : Type 0 where
    pub good : IsGood setup v
    pub rounds : List (ℕ × List Event)
    pub within : AreAllOfProcesses setup rounds
    pub at : closed (replay setup (start setup) rounds) ≡ v

  pub start_fine : Fine (closed (start setup))
  start_fine = record { good = closed_good setup (start setup) typed (start_good setup typed); rounds = []; within = tt; at = refl }

  abbrev reached : List (ℕ × List Event) → State
  reached rounds = replay setup (start setup) rounds

  -- With any count, the closed state is the reached one with that count.
  counted : (v : State) (f : Fine v) (n : ℕ) → record v { rounds = n } ≡ record (reached f.rounds) { rounds = n }
  counted v f n =
      ap (λ (x : State). record x { rounds = n }) (sym f.at)
      ∙ state_is _ _ refl refl refl refl (λ i p. replay_flat f.rounds setup (start setup) (start_flat setup) p i) refl refl

  pub fine_count : (v : State) (f : Fine v) (n p : ℕ) → is_in p (processes setup) ≡ true
      → closed (step setup (record v { rounds = n }) p) ≡ closed (step setup (reached f.rounds) p)
  fine_count v f n p there = ap (λ x. closed (step setup x p)) (counted v f n) ∙ T.count f.rounds p n f.within there

  -- A step may be made before the end of the round or after it.
  pub step_closed : (x : State) (p : ℕ) → Fine (closed x) → is_in p (processes setup) ≡ true → closed (step setup (closed x) p) ≡ closed (step setup x p)
  step_closed x p f there = fine_count (closed x) f 0 p there ∙ sym (fine_count (closed x) f x.rounds p there) ∙ shut_step setup x p

  same_status : (v : State) (f : Fine v) (p : ℕ) → (reached f.rounds).status p ≡ v.status p
  same_status v f p = sym (replay_flat f.rounds setup (start setup) (start_flat setup) p) ∙ ap (λ (x : State). x.status p) f.at

  pub awake : (v : State) → Fine v → (p : ℕ) → v.status p ≢ Waiting
  awake v f p e = T.awake f.rounds p f.within (same_status v f p ∙ e)

  reached_awake : (v : State) (f : Fine v) (p : ℕ) → (reached f.rounds).status p ≢ Waiting
  reached_awake v f p e = T.awake f.rounds p f.within e

  one_round : (r : State) (p : ℕ) → ((n : ℕ) → r.status n ≢ Waiting) → r.status p ≡ Ready
      → closed (replay_round setup 1 r (event_of (kind r p) p ∷ [])) ≡ closed (step setup r p)
  one_round r p sleepless ready =
      closed_round (replay_event setup 1 (wake setup r) (event_of (kind r p) p))
      ∙ ap (λ x. closed (replay_event setup 1 x (event_of (kind r p) p))) (wakes_nobody setup r sleepless)
      ∙ ap closed (ready_kind setup r p ready)

  pub move_fine : (v : State) (p : ℕ) → Fine v → is_in p (processes setup) ≡ true → v.status p ≡ Ready → Fine (closed (step setup v p))
  move_fine v p f there ready =
      let r = reached f.rounds in
      let e = event_of (kind r p) p in
      record {
        good = closed_good setup (step setup v p) typed (step_good setup v p typed f.good ready);
        rounds = f.rounds ++ (1, e ∷ []) ∷ [];
        within = rounds_more setup f.rounds 1 (e ∷ []) f.within (event_within setup (kind r p) p there);
        at = ap closed (replay_more f.rounds setup (start setup) 1 (e ∷ []))
            ∙ one_round r p (reached_awake v f) (same_status v f p ∙ ready)
            ∙ sym (fine_count v f v.rounds p there);
      }

  -- ---- They are states of a machine with movers

  ready : (s : State) (p : ℕ) → (way s p ≡ Idle → ⊥) → s.status p ≡ Ready
  ready s p h = way_ready (s.status p) (s.continuation p) h

  pub movers : AreMovers (machine setup) Fine
  movers = record {
    good = λ s p f there h. move_fine s p f there (ready s p h);
    swap = λ s p q f in_p in_q d h e.
        let rp = ready s p h in
        let rq = eager_ready s q e in
        step_closed (step setup s p) q (move_fine s p f in_p rp) in_q
        ∙ ap closed (changes_places (world setup) (text_is_ordered setup typed) setup s f.good.in_order f.good.holds p q d rp rq (eager_is s q e))
        ∙ sym (step_closed (step setup s q) p (move_fine s q f in_q rq) in_p);
    stays = λ s p q f d h k.
        let rp = ready s p h in
        let rq = ready s q k in
        let O = text_is_ordered setup typed in
        let now : (step setup s p).status q ≡ Ready =
        ap (λ (x : State). x.status q) (stepped (world setup) O setup s f.good.in_order f.good.holds p)
        ∙ (same_for (world setup) O setup s f.good.in_order f.good.holds p q d rp rq).status ∙ rq in
        ap (λ x. way_of x ((step setup s p).continuation q)) (ap after_closing now ∙ sym now)
        ∙ way_stays (world setup) O setup s f.good.in_order f.good.holds p q d rp rq;
  }

  -- ---- Calls of different monitors

  abbrev pub CallDifferent : State → ℕ → ℕ → Type 0
  CallDifferent s p q = (m : ℕ) × (n : ℕ) × (called s p ≡ Some m) × (called s q ≡ Some n) × (m ≢ n)

  pub different_calls : CallsChangePlaces (machine setup) Fine CallDifferent
  different_calls = record {
    swap = λ s p q f in_p in_q d late_p late_q c.
        let rp = late_ready s p late_p in
        let rq = late_ready s q late_q in
        step_closed (step setup s p) q (move_fine s p f in_p rp) in_q
        ∙ ap closed (calls_change_places (world setup) (text_is_ordered setup typed) setup s f.good.in_order f.good.holds p q c.0 c.1 d rp rq c.2 c.3 c.4)
        ∙ sym (step_closed (step setup s q) p (move_fine s q f in_q rq) in_p);
  }

  -- ---- Orders are runs of it

  abbrev Reaches : State → State → Type 0
  Reaches v u = (ps : List ℕ) × Runs (machine setup) v ps u

  pub record Led (x y : State) : Type 0 where
    pub fine : Fine (closed y)
    pub run : (ps : List ℕ) × Runs (machine setup) (closed x) ps (closed y)

  led_here : (x : State) → Fine (closed x) → Led x x
  led_here x f = record { fine = f; run = ([], refl) }

  led_on : (x y z : State) → Led x y → Led y z → Led x z
  led_on x y z a b = record {
    fine = b.fine;
    run = runs_on (machine setup) a.run.0 b.run.0 (closed x) (closed y) (closed z) a.run.1 b.run.1;
  }

  ready_not_idle : (x : Status) (k : List Task) → x ≡ Ready → way_of x k ≡ Idle → ⊥
  ready_not_idle x k e h = on (is_late (action k)) (sym (ap (λ y. way_of y k) e) ∙ h)
    where
      late_clash : Late ≡ Idle → ⊥
      late_clash e = grind arith

      eager_clash : Eager ≡ Idle → ⊥
      eager_clash e = grind arith

      on : (b : Bool) → (if b then Late else Eager) ≡ Idle → ⊥
      on true e = late_clash e
      on false e = eager_clash e

  step_led : (x : State) (p : ℕ) → Fine (closed x) → is_in p (processes setup) ≡ true → x.status p ≡ Ready → Led x (step setup x p)
  step_led x p f there e =
      let now : (closed x).status p ≡ Ready = ap after_closing e in
      let same = step_closed x p f there in
      record {
        fine = subst Fine same (move_fine (closed x) p f there now);
        run = (p ∷ [], (there, ready_not_idle ((closed x).status p) (x.continuation p) now, same));
      }

  private_led : (x : State) (p : ℕ) → Fine (closed x) → is_in p (processes setup) ≡ true → Led x (private_step setup x p)
  private_led x p f there = by (kind x p) refl
    where
      by : (k : Kind) → kind x p ≡ k → Led x (if_private k (step setup x p) x)
      by Private h = step_led x p f there (kind_private (x.status p) (x.continuation p) h).0
      by NoStep h = led_here x f
      by Kernel h = led_here x f

  kernel_led : (x : State) (p : ℕ) → Fine (closed x) → is_in p (processes setup) ≡ true → Led x (kernel_step setup x p)
  kernel_led x p f there = by (kind x p) refl
    where
      by : (k : Kind) → kind x p ≡ k → Led x (if_kernel k (step setup x p) x)
      by Kernel h = step_led x p f there (kind_kernel setup (x.status p) (x.continuation p) h)
      by NoStep h = led_here x f
      by Private h = led_here x f

  turn_led : (n : ℕ) (x : State) (p : ℕ) → Fine (closed x) → is_in p (processes setup) ≡ true → Led x (kernel_turn setup n x p)
  turn_led zero x p f there = led_here x f
  turn_led (suc n) x p f there =
      let first = kernel_led x p f there in
      led_on x (kernel_step setup x p) _ first (turn_led n (kernel_step setup x p) p first.fine there)

  events_led : (es : List Event) (t : ℕ) (x : State) → Fine (closed x) → AreOfProcesses setup es → Led x (fold (replay_event setup t) x es)
  events_led [] t x f a = led_here x f
  events_led (PrivateStep p ∷ es) t x f a =
      let first = private_led x p f a.0 in
      led_on x (private_step setup x p) _ first (events_led es t (private_step setup x p) first.fine a.1)
  events_led (KernelTurn p ∷ es) t x f a =
      let first = turn_led t x p f a.0 in
      led_on x (kernel_turn setup t x p) _ first (events_led es t (kernel_turn setup t x p) first.fine a.1)

  closes_led : (x : State) → Fine (closed x) → Led x (close_round x)
  closes_led x f = record {
    fine = subst Fine (sym (closed_round x)) f;
    run = ([], sym (closed_round x));
  }

  asleep_not : (x : State) → Fine (closed x) → (p : ℕ) → x.status p ≢ Waiting
  asleep_not x f p e = awake (closed x) f p (ap after_closing e)

  round_led : (t : ℕ) (x : State) (es : List Event) → Fine (closed x) → AreOfProcesses setup es → Led x (replay_round setup t x es)
  round_led t x es f a =
      subst (λ z. Led x (close_round (fold (replay_event setup t) z es))) (sym (wakes_nobody setup x (asleep_not x f)))
      (let r = events_led es t x f a in led_on x (fold (replay_event setup t) x es) _ r (closes_led _ r.fine))

  pub rounds_led : (rounds : List (ℕ × List Event)) (x : State) → Fine (closed x) → AreAllOfProcesses setup rounds → Led x (replay setup x rounds)
  rounds_led [] x f a = led_here x f
  rounds_led (r ∷ rs) x f a =
      let first = round_led r.0 x r.1 f a.0 in
      led_on x (replay_round setup r.0 x r.1) _ first (rounds_led rs (replay_round setup r.0 x r.1) first.fine a.1)

  -- ---- Closed sets

  -- Of a closed set of settled states in which the start settles, each state that orders reach settles as a
  -- member.
  pub orders_stay_within : (V : State → Type 0) → IsClosedByCalls (machine setup) V → (v : State) → V v → Settles (machine setup) (closed (start setup)) v
      → (rounds : List (ℕ × List Event)) → AreAllOfProcesses setup rounds
      → (w : State) × V w × Settles (machine setup) (closed (replay setup (start setup) rounds)) w
  orders_stay_within V c v known h rounds a =
      let r = (rounds_led rounds (start setup) start_fine a).run in
      stays_within (machine setup) Fine movers V c r.0 (closed (start setup)) _ v start_fine r.1 known h
