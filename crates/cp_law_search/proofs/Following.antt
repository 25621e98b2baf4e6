-- States follow their cores step by step, and cores follow their states. What runs reach is near a closed
-- set.
--
-- A state is near the set if it settles as one that has a member as its core. After an eager step it still
-- settles as the same state. A late step may be made after settling, too. There it is a late step of the
-- member, so it leads near the set again.
use Rattle.std.specs.Prelude.{Bool, List, [], false, if◌then◌else◌, refl, true, ℕ, ◌||◌, ◌∷◌, ◌≡◌}
use Rattle.std.proofs.Common.{ap, arith, subst, sym, ◌∙◌}
use Rattle.cp_model.specs.Actions.{action, is_kernel_action}
use Rattle.cp_model.specs.Configurations.{Faulted, Ready, Status, holds_gate}
use Rattle.cp_model.specs.Continuations.{Task}
use Rattle.cp_model.specs.Parts.{SamePrivateState, private_status}
use Rattle.cp_model.specs.Rounds.{after_closing, close_round}
use Rattle.cp_model.specs.States.{Setup, State, is_in, process_count, processes}
use Rattle.cp_model.specs.Turns.{Kernel, Kind, NoStep, Private, if_kernel, if_private, kernel_step, kind, kind_of, private_step, step}
use Rattle.cp_model.proofs.PartsKept.{kernel_turn_other_parts, private_step_other_parts}
use Rattle.cp_model.proofs.OwnSteps.{kind_private}
use Rattle.cp_model.proofs.RoundCount.{step_count}
use Rattle.cp_model.proofs.StateInvariant.{kind_kernel}
use Rattle.cp_model_program.specs.Programs.{Program}
use Rattle.cp_law_calls.specs.Orders as orders
use Rattle.cp_law_calls.specs.Orders.{closed}
use Rattle.cp_law_calls.specs.Runs.{AreMovers, IsSettled, Machine, Runs, RunsEagerly, Settles}
use Rattle.cp_law_calls.specs.Ways.{Eager, Idle, IsGood, Late, Way, is_late, way, way_of}
use Rattle.cp_law_calls.proofs.Movers.{eager_ready, late_ready}
use Rattle.cp_law_calls.proofs.Good.{close_good, closed_good, kernel_good, private_good, step_good}
use Rattle.cp_law_calls.proofs.Runs.{settles_on}
use Rattle.cp_law_calls.proofs.Settling.{late_past, still_settles}
use Rattle.cp_law_cores.specs.Cores.{Core, close, is_private_on, kernel_at, part, private_at}
use Rattle.cp_law_cores.specs.CoresOfStates.{IsCoreIn, is_private_kind}
use Rattle.cp_law_cores.proofs.Acts.{Act, AreOf, EndRound, KernelStep, PrivateStep, after}
use Rattle.cp_law_cores.proofs.InStates.{close_in, kernel_in, kinds_agree, private_in}
use Rattle.cp_law_cores.proofs.Verdicts.{faulted_is}
use Rattle.cp_law_search.specs.Calls.{IsClosedByCalls, LeadsAs, LeadsByCalls, core_machine, step_at, way_at}
use Rattle.cp_law_search.specs.Laws.{IsClockless}
use Rattle.cp_law_search.proofs.Counts.{recount}
use Rattle.cp_law_search.proofs.ClosedStates.{Sound, closed_again, move_sound, movers, step_closed}
use Rattle.cp_law_search.proofs.Ways.{core_reports_way}

eager_no_idle : Eager ≡ Idle → ⊥
eager_no_idle e = grind arith

late_no_idle : Late ≡ Idle → ⊥
late_no_idle e = grind arith

-- ---- The step of a ready process

pub data Which (setup : Setup) (s : State) (p : ℕ) : Type 0 where
  OfItself : kind s p ≡ Private → private_step setup s p ≡ step setup s p → Which setup s p
  OfKernel : kind s p ≡ Kernel → kernel_step setup s p ≡ step setup s p → Which setup s p

pub which : (setup : Setup) (s : State) (p : ℕ) → s.status p ≡ Ready → Which setup s p
which setup s p ready = by (holds_gate Ready (s.continuation p) || is_kernel_action (action (s.continuation p))) (ap (λ x. kind_of x (s.continuation p)) ready)
  where
    by : (b : Bool) → kind s p ≡ (if b then Kernel else Private) → Which setup s p
    by true e = OfKernel e (ap (λ k. if_kernel k (step setup s p) s) e)
    by false e = OfItself e (ap (λ k. if_private k (step setup s p) s) e)

module _ (program : Program) (setup : Setup) (C : IsClockless program setup) where
  abbrev pub M : Machine State
  M = orders.machine setup

  abbrev pub K : Machine Core
  K = core_machine program (process_count setup)

  abbrev pub IsFine : State → Type 0
  IsFine s = Sound setup C.represents.typed s

  abbrev pub A : AreMovers M IsFine
  A = movers setup C.represents.typed

  abbrev pub At : State → Core → Type 0
  At s c = IsCoreIn program setup s c

  pub ways : (s : State) (c : Core) (p : ℕ) → At s c → is_in p (processes setup) ≡ true → way_at program c p ≡ way s p
  ways s c p h there = core_reports_way program setup s c p h there

  stepped : (x : State) (c : Core) (p : ℕ) → is_in p (processes setup) ≡ true → IsCoreIn program setup x c → Which setup x p → IsCoreIn program setup (step setup x p) (step_at program c p)
  stepped x c p there h (OfItself e f) =
      let private : is_private_on program (part c.parts p) ≡ true = kinds_agree program setup x c p h there ∙ ap is_private_kind e in
      subst (λ (z : State). IsCoreIn program setup z (step_at program c p)) f
      (subst (λ (z : Core). IsCoreIn program setup (private_step setup x p) z) (sym (ap (λ b. if b then private_at program c p else kernel_at program c p) private))
      (private_in program setup C.free p there x c h))
  stepped x c p there h (OfKernel e f) =
      let private : is_private_on program (part c.parts p) ≡ false = kinds_agree program setup x c p h there ∙ ap is_private_kind e in
      subst (λ (z : State). IsCoreIn program setup z (step_at program c p)) f
      (subst (λ (z : Core). IsCoreIn program setup (kernel_step setup x p) z) (sym (ap (λ b. if b then private_at program c p else kernel_at program c p) private))
      (kernel_in program setup C.free p there x c h))

  pub shuts : (s : State) (c : Core) → IsGood setup s → IsCoreIn program setup s c → IsCoreIn program setup (closed s) (close program c)
  shuts s c g h = recount program setup (close_round s) (close program c) 0 (close_good setup s C.represents.typed g) (close_in program setup C.free s c h)

  pub moved : (s : State) (c : Core) (p : ℕ) → IsFine s → is_in p (processes setup) ≡ true → s.status p ≡ Ready → At s c → At (M.move s p) (K.move c p)
  moved s c p fine there ready h =
      shuts (step setup s p) (step_at program c p) (step_good setup s p C.represents.typed fine.good ready) (stepped s c p there h (which setup s p ready))

  pub move_fine_here : (s : State) (p : ℕ) → IsFine s → is_in p (processes setup) ≡ true → s.status p ≡ Ready → IsFine (M.move s p)
  move_fine_here s p fine there ready = move_sound setup C.represents.typed s p fine ready

  -- ---- States follow cores

  record FollowsEagerly (s : State) (ps : List ℕ) (d : Core) : Type 0 where
    end : State
    fine : IsFine end
    at : At end d
    run : RunsEagerly M s ps end

  follows_eagerly : (ps : List ℕ) (s : State) (c d : Core) → IsFine s → At s c → RunsEagerly K c ps d → FollowsEagerly s ps d
  follows_eagerly [] s c d fine h run = record { end = s; fine = fine; at = subst (At s) run h; run = refl }
  follows_eagerly (p ∷ ps) s c d fine h run =
      let eager : way s p ≡ Eager = sym (ways s c p h run.0) ∙ run.1 in
      let here = eager_ready s p eager in
      let r = follows_eagerly ps (M.move s p) (K.move c p) d (move_fine_here s p fine run.0 here) (moved s c p fine run.0 here h) run.2 in
      record { end = r.end; fine = r.fine; at = r.at; run = (run.0, eager, r.run) }

  settled_like : (s : State) (c : Core) → At s c → IsSettled K c → IsSettled M s
  settled_like s c h settled = record { none = λ p there e. settled.none p there (ways s c p h there ∙ e) }

  -- As a core of the state settles, so does the state.
  pub record Arrives (s : State) (w : Core) : Type 0 where
    pub end : State
    pub settles : Settles M s end
    pub fine : IsFine end
    pub at : At end w

  pub arrives : (s : State) (c w : Core) → IsFine s → At s c → LeadsAs program setup c w → Arrives s w
  arrives s c w fine h leads =
      let r = follows_eagerly leads.settles.made s c leads.at fine h leads.settles.run in
      record {
        end = r.end;
        settles = record { made = leads.settles.made; run = r.run; settled = settled_like r.end leads.at r.at leads.settles.settled };
        fine = r.fine;
        at = leads.represents r.end r.at;
      }

  -- ---- Cores follow states

  pub record FollowsTo (c : Core) (u : State) : Type 0 where
    pub end : Core
    pub settles : Settles K c end
    pub at : At u end

  run_alike : (ps : List ℕ) (s u : State) (c : Core) → IsFine s → At s c → RunsEagerly M s ps u → (d : Core) × RunsEagerly K c ps d × At u d
  run_alike [] s u c fine h run = (c, refl, subst (λ z. At z c) run h)
  run_alike (p ∷ ps) s u c fine h run =
      let here = eager_ready s p run.1 in
      let r = run_alike ps (M.move s p) u (K.move c p) (move_fine_here s p fine run.0 here) (moved s c p fine run.0 here h) run.2 in
      (r.0, (run.0, ways s c p h run.0 ∙ run.1, r.1), r.2)

  pub follows_to : (s u : State) (c : Core) → IsFine s → At s c → Settles M s u → FollowsTo c u
  follows_to s u c fine h settles =
      let r = run_alike settles.made s u c fine h settles.run in
      record {
        end = r.0;
        settles = record {
          made = settles.made;
          run = r.1;
          settled = record { none = λ p there e. settles.settled.none p there (sym (ways u r.0 p r.2 there) ∙ e) };
        };
        at = r.2;
      }

  -- ---- Near a closed set

  module _ (V : Core → Type 0) where
    -- Eager steps lead from the state to a settled one that has a member as its core.
    pub record Near (s : State) : Type 0 where
      pub at : State
      pub settles : Settles M s at
      pub fine : IsFine at
      pub member : Core
      pub known : V member
      pub represents : At at member

    pub near : (s : State) (c : Core) → IsFine s → At s c → LeadsByCalls program setup V c → Near s
    near s c fine h leads =
        let r = arrives s c leads.member fine h leads.leads in
        record { at = r.end; settles = r.settles; fine = r.fine; member = leads.member; known = leads.known; represents = r.at }

    module _ (closed_set : IsClosedByCalls program setup V) where
      after_late : (s : State) (p : ℕ) → IsFine s → is_in p (processes setup) ≡ true → way s p ≡ Late → Near s → Near (M.move s p)
      after_late s p fine there late h =
          let past = late_past M IsFine A h.settles.made s h.at p fine there late h.settles.run in
          let here = late_ready h.at p past.0 in
          let w = near (M.move h.at p) (K.move h.member p) (move_fine_here h.at p h.fine there here) (moved h.at h.member p h.fine there here h.represents)
          (closed_set.late h.member p h.known there (ways h.at h.member p h.represents there ∙ past.0)) in
          record {
            at = w.at;
            settles = settles_on M h.settles.made (M.move s p) (M.move h.at p) w.at past.1 w.settles;
            fine = w.fine;
            member = w.member;
            known = w.known;
            represents = w.represents;
          }

      after_eager : (s : State) (p : ℕ) → IsFine s → is_in p (processes setup) ≡ true → way s p ≡ Eager → Near s → Near (M.move s p)
      after_eager s p fine there eager h = record {
        at = h.at;
        settles = still_settles M IsFine A s h.at p fine there eager h.settles;
        fine = h.fine;
        member = h.member;
        known = h.known;
        represents = h.represents;
      }

      pub stays_near : (ps : List ℕ) (s u : State) → IsFine s → Runs M s ps u → Near s → Near u
      stays_near [] s u fine run h = subst Near run h
      stays_near (p ∷ ps) s u fine run h =
          stays_near ps (M.move s p) u (A.good s p fine run.0 run.1) run.2 (by (way s p) refl)
        where
          by : (x : Way) → way s p ≡ x → Near (M.move s p)
          by Idle e = absurd (run.1 e)
          by Eager e = after_eager s p fine run.0 e h
          by Late e = after_late s p fine run.0 e h

  -- ---- States follow the acts of cores

  -- A state of no rounds to which the acts lead, and a run to it, closed.
  pub record Acted (v : State) (c : Core) : Type 0 where
    pub end : State
    pub fine : IsFine end
    pub represents : IsCoreIn program setup end c
    pub made : List ℕ
    pub run : Runs M (closed v) made (closed end)

  private_fine : (v : State) (p : ℕ) → IsFine v → IsFine (private_step setup v p)
  private_fine v p fine = record { good = private_good setup v p C.represents.typed fine.good; count = by (kind v p) }
    where
      by : (k : Kind) → (if_private k (step setup v p) v).rounds ≡ 0
      by Private = step_count setup v p ∙ fine.count
      by Kernel = fine.count
      by NoStep = fine.count

  kernel_fine : (v : State) (p : ℕ) → IsFine v → IsFine (kernel_step setup v p)
  kernel_fine v p fine = record { good = kernel_good setup v p C.represents.typed fine.good; count = by (kind v p) }
    where
      by : (k : Kind) → (if_kernel k (step setup v p) v).rounds ≡ 0
      by Kernel = step_count setup v p ∙ fine.count
      by Private = fine.count
      by NoStep = fine.count

  ready_no_idle : (x : Status) (k : List Task) → x ≡ Ready → way_of (after_closing x) k ≡ Idle → ⊥
  ready_no_idle x k e h = on (is_late (action k)) (sym (ap (λ y. way_of (after_closing y) k) e) ∙ h)
    where
      on : (b : Bool) → (if b then Late else Eager) ≡ Idle → ⊥
      on true e = late_no_idle e
      on false e = eager_no_idle e

  one_step : (v : State) (p : ℕ) (ps : List ℕ) (u : State) → IsFine v → is_in p (processes setup) ≡ true → v.status p ≡ Ready → Runs M (closed (step setup v p)) ps u
      → Runs M (closed v) (p ∷ ps) u
  one_step v p ps u fine there ready run =
      (there, ready_no_idle (v.status p) (v.continuation p) ready, subst (λ z. Runs M z ps u) (sym (step_closed setup v p fine.count)) run)

  pub follows_acts : (acts : List Act) (v : State) (c : Core) → IsFine v → AreOf (processes setup) acts → IsCoreIn program setup v c
      → Acted v (after program c acts)
  follows_acts [] v c fine within h = record { end = v; fine = fine; represents = h; made = []; run = refl }
  follows_acts (PrivateStep p ∷ rest) v c fine within h =
      by (kind v p) refl (follows_acts rest (private_step setup v p) (private_at program c p) (private_fine v p fine) within.1 (private_in program setup C.free p within.0 v c h))
    where
      by : (k : Kind) → kind v p ≡ k → Acted (if_private k (step setup v p) v) (after program (private_at program c p) rest)
          → Acted v (after program (private_at program c p) rest)
      by Private e r =
          let ready = (kind_private (v.status p) (v.continuation p) e).0 in
          record { end = r.end; fine = r.fine; represents = r.represents; made = p ∷ r.made; run = one_step v p r.made (closed r.end) fine within.0 ready r.run }
      by Kernel e r = r
      by NoStep e r = r
  follows_acts (KernelStep p ∷ rest) v c fine within h =
      by (kind v p) refl (follows_acts rest (kernel_step setup v p) (kernel_at program c p) (kernel_fine v p fine) within.1 (kernel_in program setup C.free p within.0 v c h))
    where
      by : (k : Kind) → kind v p ≡ k → Acted (if_kernel k (step setup v p) v) (after program (kernel_at program c p) rest)
          → Acted v (after program (kernel_at program c p) rest)
      by Kernel e r =
          let ready = kind_kernel setup (v.status p) (v.continuation p) e in
          record { end = r.end; fine = r.fine; represents = r.represents; made = p ∷ r.made; run = one_step v p r.made (closed r.end) fine within.0 ready r.run }
      by Private e r = r
      by NoStep e r = r
  follows_acts (EndRound ∷ rest) v c fine within h =
      let r = follows_acts rest (closed v) (close program c) (record { good = closed_good setup v C.represents.typed fine.good; count = refl }) within.1 (shuts v c fine.good h) in
      record { end = r.end; fine = r.fine; represents = r.represents; made = r.made; run = subst (λ z. Runs M z r.made (closed r.end)) (closed_again v) r.run }

  -- ---- Faults last

  other_private : (s : State) (p q : ℕ) → (q ≡ p → ⊥) → IsFine s → Which setup s q → SamePrivateState p s (step setup s q)
  other_private s p q d fine (OfItself e f) = subst (SamePrivateState p s) f (private_step_other_parts setup p q s d fine.good.in_order.invariant)
  other_private s p q d fine (OfKernel e f) = subst (SamePrivateState p s) f (kernel_turn_other_parts setup 1 p q s d fine.good.in_order.invariant)

  pub fault_lasts : (ps : List ℕ) (s u : State) (p n : ℕ) → IsFine s → RunsEagerly M s ps u → s.status p ≡ Faulted n → u.status p ≡ Faulted n
  fault_lasts [] s u p n fine run e = ap (λ (z : State). z.status p) (sym run) ∙ e
  fault_lasts (q ∷ ps) s u p n fine run e =
      let here = eager_ready s q run.1 in
      let d : q ≡ p → ⊥ = λ f. clash (sym here ∙ (ap s.status f ∙ e)) in
      let same = other_private s p q d fine (which setup s q here) in
      fault_lasts ps (M.move s q) u p n (move_fine_here s q fine run.0 here) run.2
      (ap after_closing (faulted_is ((step setup s q).status p) n (same.status ∙ ap private_status e)))
    where
      clash : Ready ≡ Faulted n → ⊥
      clash g = grind arith
