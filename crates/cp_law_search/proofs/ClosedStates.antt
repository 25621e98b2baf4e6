-- Closed states make a machine whose eager steps change places with all others, whatever the text.
--
-- The count of rounds is 0 in all of them, so each step reads the same clock.
use Rattle.std.specs.Prelude.{refl, ℕ, ◌≡◌}
use Rattle.std.proofs.Common.{ap, sym, ◌∙◌}
use Rattle.cp_model.specs.Configurations.{Ready}
use Rattle.cp_model.specs.Rounds.{after_closing}
use Rattle.cp_model.specs.States.{Setup, State}
use Rattle.cp_model.specs.Turns.{step}
use Rattle.cp_model.proofs.RoundCount.{step_count}
use Rattle.cp_model.proofs.StateMaps.{state_is}
use Rattle.cp_law_gates.specs.InOrder.{world}
use Rattle.cp_law_gates.proofs.Texts.{text_is_ordered}
use Rattle.cp_law_typing.specs.WellTyped.{WellTyped}
use Rattle.cp_law_calls.specs.Orders.{closed, machine}
use Rattle.cp_law_calls.specs.Runs.{AreMovers}
use Rattle.cp_law_calls.specs.Ways.{Idle, IsGood, way, way_of}
use Rattle.cp_law_calls.proofs.Closing.{closed_twice, shut, shut_step}
use Rattle.cp_law_calls.proofs.Good.{closed_good, step_good}
use Rattle.cp_law_calls.proofs.Movers.{changes_places, eager_is, eager_ready, same_for, stepped, way_ready, way_stays}

pub closed_again : (s : State) → closed (closed s) ≡ closed s
closed_again s = state_is _ _ refl refl refl refl (λ i p. closed_twice (s.status p) i) refl refl

-- A step at the count 0 may be made before closing or after it.
pub step_closed : (setup : Setup) (x : State) (p : ℕ) → x.rounds ≡ 0 → closed (step setup (closed x) p) ≡ closed (step setup x p)
step_closed setup x p none = ap (λ z. closed (step setup z p)) shut_is ∙ shut_step setup x p
  where
    shut_is : closed x ≡ shut x
    shut_is = state_is _ _ refl refl refl refl refl refl (sym none)

module _ (setup : Setup) (typed : WellTyped setup) where
  -- A good state of no rounds.
  pub record Sound (s : State) : Type 0 where
    pub good : IsGood setup s
    pub count : s.rounds ≡ 0

  pub move_sound : (s : State) (p : ℕ) → Sound s → s.status p ≡ Ready → Sound (closed (step setup s p))
  move_sound s p f ready = record { good = closed_good setup (step setup s p) typed (step_good setup s p typed f.good ready); count = refl }

  ready : (s : State) (p : ℕ) → (way s p ≡ Idle → ⊥) → s.status p ≡ Ready
  ready s p h = way_ready (s.status p) (s.continuation p) h

  pub movers : AreMovers (machine setup) Sound
  movers = record {
    good = λ s p f there h. move_sound s p f (ready s p h);
    swap = λ s p q f in_p in_q d h e.
        let rp = ready s p h in
        let rq = eager_ready s q e in
        step_closed setup (step setup s p) q (step_count setup s p ∙ f.count)
        ∙ (ap closed (changes_places (world setup) (text_is_ordered setup typed) setup s f.good.in_order f.good.holds p q d rp rq (eager_is s q e))
        ∙ sym (step_closed setup (step setup s q) p (step_count setup s q ∙ f.count)));
    stays = λ s p q f d h k.
        let rp = ready s p h in
        let rq = ready s q k in
        let O = text_is_ordered setup typed in
        let now : (step setup s p).status q ≡ Ready =
        ap (λ (x : State). x.status q) (stepped (world setup) O setup s f.good.in_order f.good.holds p)
        ∙ (same_for (world setup) O setup s f.good.in_order f.good.holds p q d rp rq).status ∙ rq in
        ap (λ x. way_of x ((step setup s p).continuation q)) (ap after_closing now ∙ sym now)
        ∙ way_stays (world setup) O setup s f.good.in_order f.good.holds p q d rp rq;
  }
