-- Every run that ends settled is one by calls, with the same callers in the same order. The callers
-- determine where such a run ends.
--
-- An eager step that is due may be made first, since it changes places with all steps before it. So the
-- eager steps of a run can be made before its first late step, and what is left is shorter. Once no eager
-- step is due, the first step of the run is late, and it is the next call.
use Rattle.std.specs.Prelude.{Bool, List, [], false, if◌then◌else◌, length, nat_eq, refl, suc, true, zero, ℕ, ◌++◌, ◌∷◌, ◌≡◌, ◌⊎◌}
use Rattle.std.proofs.Common.{ap, arith, inl, inr, subst, sym, ◌∙◌}
use Rattle.std.proofs.lemmas.Bool.{eqb-false, eqb-true, true≢false}
use Rattle.cp_model.specs.States.{is_in}
use Rattle.cp_model.proofs.Lists.{in_head, in_more}
use Rattle.cp_law_calls.specs.Runs.{AreMovers, ByCalls, CallsChangePlaces, CallsLead, IsClosedByCalls, IsSettled, Machine, Runs, RunsEagerly, Settles, caller, callers}
use Rattle.cp_law_calls.specs.Ways.{Eager, Idle, Late, Way}
use Rattle.cp_law_calls.proofs.Runs.{Calling, by_calls_runs, eager_callers, eager_no_idle, eager_runs, eagerly_on, late_moves, late_no_eager, lead_calling, lead_settled, no_callers, not_idle, runs_on, settled_is, settles_here, settles_more, settles_on}

module _ {S : Type 0} (M : Machine S) (Good : S → Type 0) (A : AreMovers M Good) where
  -- ---- An eager step may come first

  -- The run without the first step of p.
  pub record Rest (s : S) (p : ℕ) (ps : List ℕ) (u : S) : Type 0 where
    pub steps : List ℕ
    pub run : Runs M (M.move s p) steps u
    pub shorter : length ps ≡ suc (length steps)
    pub same : callers M (M.move s p) steps ≡ callers M s ps

  pub forward : (ps : List ℕ) (s u : S) (p : ℕ) → Good s → is_in p M.processes ≡ true → M.way s p ≡ Eager → Runs M s ps u → IsSettled M u → Rest s p ps u
  forward [] s u p g there e run settled = absurd (settled.none p there (subst (λ x. M.way x p ≡ Eager) run e))
  forward (q ∷ ps) s u p g there e run settled = by (nat_eq p q) refl (λ f. forward ps (M.move s q) u p (A.good s q g run.0 run.1) there f run.2 settled)
    where
      by : (b : Bool) → nat_eq p q ≡ b → (M.way (M.move s q) p ≡ Eager → Rest (M.move s q) p ps u) → Rest s p (q ∷ ps) u
      by true f more =
          subst (λ x. Rest s p (x ∷ ps) u) (eqb-true p q f)
          (record { steps = ps; run = subst (λ x. Runs M (M.move s x) ps u) (sym (eqb-true p q f)) run.2; shorter = refl; same = sym (ap (λ x. caller x p (callers M (M.move s p) ps)) e) })
      by false f more =
          let d : p ≡ q → ⊥ = eqb-false p q f in
          let r = more (A.stays s q p g (λ x. d (sym x)) run.1 (not_idle M s p e) ∙ e) in
          let past = A.swap s q p g run.0 there (λ x. d (sym x)) run.1 e in
          let way_q = A.stays s p q g d (not_idle M s p e) run.1 in
          record {
            steps = q ∷ r.steps;
            run = (run.0, (λ x. run.1 (sym way_q ∙ x)), subst (λ x. Runs M x r.steps u) past r.run);
            shorter = ap suc r.shorter;
            same = ap (λ x. caller x q (callers M (M.move (M.move s p) q) r.steps)) way_q
                ∙ ap (caller (M.way s q) q) (ap (λ x. callers M x r.steps) (sym past) ∙ r.same);
          }

  -- ---- Settling

  -- After an eager step a state settles as it did before.
  pub still_settles : (s u : S) (p : ℕ) → Good s → is_in p M.processes ≡ true → M.way s p ≡ Eager → Settles M s u → Settles M (M.move s p) u
  still_settles s u p g there e h =
      let r = forward h.made s u p g there e (eager_runs M h.made s u h.run) h.settled in
      record { made = r.steps; run = no_callers M r.steps (M.move s p) u r.run (r.same ∙ eager_callers M h.made s u h.run); settled = h.settled }

  once : (ps : List ℕ) (s u v : S) → Good s → RunsEagerly M s ps u → IsSettled M u → Settles M s v → u ≡ v
  once [] s u v g run settled h = sym run ∙ settled_is M h.made s v (subst (IsSettled M) (sym run) settled) h.run
  once (p ∷ ps) s u v g run settled h =
      once ps (M.move s p) u v (A.good s p g run.0 (not_idle M s p run.1)) run.2 settled (still_settles s v p g run.0 run.1 h)

  -- A state settles as one state at most.
  pub settles_once : (s u v : S) → Good s → Settles M s u → Settles M s v → u ≡ v
  settles_once s u v g h k = once h.made s u v g h.run h.settled k

  -- ---- Whether a state is settled

  found : (s : S) (ps : List ℕ) → ((p : ℕ) × (is_in p ps ≡ true) × (M.way s p ≡ Eager)) ⊎ ((p : ℕ) → is_in p ps ≡ true → M.way s p ≡ Eager → ⊥)
  found s [] = inr (λ p there e. true≢false (sym there))
  found s (q ∷ ps) = by (M.way s q) refl (found s ps)
    where
      later : ((p : ℕ) × (is_in p ps ≡ true) × (M.way s p ≡ Eager)) ⊎ ((p : ℕ) → is_in p ps ≡ true → M.way s p ≡ Eager → ⊥) → (M.way s q ≡ Eager → ⊥)
          → ((p : ℕ) × (is_in p (q ∷ ps) ≡ true) × (M.way s p ≡ Eager)) ⊎ ((p : ℕ) → is_in p (q ∷ ps) ≡ true → M.way s p ≡ Eager → ⊥)
      later (inl x) never = inl (x.0, in_more x.0 q ps x.1, x.2)
      later (inr h) never = inr (λ p there e. at p (nat_eq p q) refl there e)
        where
          at : (p : ℕ) (b : Bool) → nat_eq p q ≡ b → (if b then true else is_in p ps) ≡ true → M.way s p ≡ Eager → ⊥
          at p true f there e = never (subst (λ x. M.way s x ≡ Eager) (eqb-true p q f) e)
          at p false f there e = h p there e

      by : (x : Way) → M.way s q ≡ x → ((p : ℕ) × (is_in p ps ≡ true) × (M.way s p ≡ Eager)) ⊎ ((p : ℕ) → is_in p ps ≡ true → M.way s p ≡ Eager → ⊥)
          → ((p : ℕ) × (is_in p (q ∷ ps) ≡ true) × (M.way s p ≡ Eager)) ⊎ ((p : ℕ) → is_in p (q ∷ ps) ≡ true → M.way s p ≡ Eager → ⊥)
      by Eager f r = inl (q, in_head q ps, f)
      by Idle f r = later r (λ e. eager_no_idle (sym e ∙ f))
      by Late f r = later r (λ e. late_no_eager (sym f ∙ e))

  -- ---- The reduction

  eager_first : (s u : S) (p : ℕ) (calls : List ℕ) → is_in p M.processes ≡ true → M.way s p ≡ Eager → ByCalls M (M.move s p) calls u → ByCalls M s calls u
  eager_first s u p calls there e h = record { first = h.first; settles = settles_more M s h.first p there e h.settles; lead = h.lead }

  call_first : (s u : S) (p : ℕ) (calls : List ℕ) → IsSettled M s → is_in p M.processes ≡ true → M.way s p ≡ Late → ByCalls M (M.move s p) calls u → ByCalls M s (p ∷ calls) u
  call_first s u p calls settled there e h = record { first = s; settles = settles_here M s settled; lead = (there, e, h.first, h.settles, h.lead) }

  suc_no_zero : (n : ℕ) → zero ≡ suc n → ⊥
  suc_no_zero n e = grind arith

  down : (m n : ℕ) → suc m ≡ suc n → m ≡ n
  down m n e = grind arith

  reduces : (n : ℕ) (ps : List ℕ) (s u : S) → length ps ≡ n → Good s → Runs M s ps u → IsSettled M u → ByCalls M s (callers M s ps) u
  reduces zero [] s u e g run settled = record { first = u; settles = record { made = []; run = run; settled = settled }; lead = refl }
  reduces zero (p ∷ ps) s u e g run settled = absurd (suc_no_zero (length ps) (sym e))
  reduces (suc n) [] s u e g run settled = absurd (suc_no_zero n e)
  reduces (suc n) (p ∷ ps) s u e g run settled = by (found s M.processes) (reduces n)
    where
      late : M.way s p ≡ Late → ByCalls M (M.move s p) (callers M (M.move s p) ps) u → IsSettled M s → ByCalls M s (callers M s (p ∷ ps)) u
      late f h here =
          subst (λ x. ByCalls M s x u) (sym (ap (λ x. caller x p (callers M (M.move s p) ps)) f)) (call_first s u p (callers M (M.move s p) ps) here run.0 f h)

      by : ((q : ℕ) × (is_in q M.processes ≡ true) × (M.way s q ≡ Eager)) ⊎ ((q : ℕ) → is_in q M.processes ≡ true → M.way s q ≡ Eager → ⊥)
          → ((ps : List ℕ) (s u : S) → length ps ≡ n → Good s → Runs M s ps u → IsSettled M u → ByCalls M s (callers M s ps) u)
          → ByCalls M s (callers M s (p ∷ ps)) u
      by (inl x) more =
          let r = forward (p ∷ ps) s u x.0 g x.1 x.2 run settled in
          subst (λ y. ByCalls M s y u) r.same
          (eager_first s u x.0 _ x.1 x.2 (more r.steps (M.move s x.0) u (down (length r.steps) n (sym r.shorter ∙ e)) (A.good s x.0 g x.1 (not_idle M s x.0 x.2)) r.run settled))
      by (inr h) more = on (M.way s p) refl
        where
          on : (x : Way) → M.way s p ≡ x → ByCalls M s (callers M s (p ∷ ps)) u
          on Idle f = absurd (run.1 f)
          on Eager f = absurd (h p run.0 f)
          on Late f = late f (more ps (M.move s p) u (down (length ps) n e) (A.good s p g run.0 run.1) run.2 settled) (record { none = h })

  -- Every run that ends settled is one by calls.
  pub run_by_calls : (ps : List ℕ) (s u : S) → Good s → Runs M s ps u → IsSettled M u → ByCalls M s (callers M s ps) u
  run_by_calls ps s u g run settled = reduces (length ps) ps s u refl g run settled

  -- ---- The callers determine the end

  good_eagerly : (ps : List ℕ) (s u : S) → Good s → RunsEagerly M s ps u → Good u
  good_eagerly [] s u g run = subst Good run g
  good_eagerly (p ∷ ps) s u g run = good_eagerly ps (M.move s p) u (A.good s p g run.0 (not_idle M s p run.1)) run.2

  lead_once : (calls : List ℕ) (s u v : S) → Good s → CallsLead M s calls u → CallsLead M s calls v → u ≡ v
  lead_once [] s u v g h k = sym h ∙ k
  lead_once (p ∷ calls) s u v g h k =
      let fine = A.good s p g h.0 (late_moves M s p h.1) in
      let same : h.2 ≡ k.2 = settles_once (M.move s p) h.2 k.2 fine h.3 k.3 in
      lead_once calls k.2 u v (good_eagerly k.3.made (M.move s p) k.2 fine k.3.run) (subst (λ x. CallsLead M x calls u) same h.4) k.4

  pub calls_determine : (s u v : S) (calls : List ℕ) → Good s → ByCalls M s calls u → ByCalls M s calls v → u ≡ v
  calls_determine s u v calls g h k =
      let same = settles_once s h.first k.first g h.settles k.settles in
      lead_once calls k.first u v (good_eagerly k.settles.made s k.first g k.settles.run) (subst (λ x. CallsLead M x calls u) same h.lead) k.lead

  pub same_callers_same_end : (ps qs : List ℕ) (s u v : S) → Good s → Runs M s ps u → IsSettled M u → Runs M s qs v → IsSettled M v
      → callers M s ps ≡ callers M s qs → u ≡ v
  same_callers_same_end ps qs s u v g run settled run' settled' e =
      calls_determine s u v (callers M s qs) g (subst (λ x. ByCalls M s x u) e (run_by_calls ps s u g run settled)) (run_by_calls qs s v g run' settled')

  -- ---- Closed sets

  -- A late step may be made before eager steps of others, and is still late after them.
  pub late_past : (es : List ℕ) (s u : S) (p : ℕ) → Good s → is_in p M.processes ≡ true → M.way s p ≡ Late → RunsEagerly M s es u
      → (M.way u p ≡ Late) × RunsEagerly M (M.move s p) es (M.move u p)
  late_past [] s u p g there late run = (ap (λ z. M.way z p) (sym run) ∙ late, ap (λ z. M.move z p) run)
  late_past (q ∷ es) s u p g there late run =
      let d : p ≡ q → ⊥ = λ e. late_no_eager (sym late ∙ ap (M.way s) e ∙ run.1) in
      let moves_p = late_moves M s p late in
      let moves_q = not_idle M s q run.1 in
      let r = late_past es (M.move s q) u p (A.good s q g run.0 moves_q) there (A.stays s q p g (λ e. d (sym e)) moves_q moves_p ∙ late) run.2 in (
        r.0,
        (
          run.0,
          A.stays s p q g d moves_p moves_q ∙ run.1,
          subst (λ z. RunsEagerly M z es (M.move u p)) (sym (A.swap s p q g there run.0 d moves_p run.1)) r.1,
        ),
      )

  -- If a state settles as a member of a closed set, so does each state that a run reaches from it.
  module _ (V : S → Type 0) (closed : IsClosedByCalls M V) where
    pub stays_within : (ps : List ℕ) (s u v : S) → Good s → Runs M s ps u → V v → Settles M s v → (w : S) × V w × Settles M u w
    stays_within [] s u v g run known h = (v, known, subst (λ x. Settles M x v) run h)
    stays_within (p ∷ ps) s u v g run known h =
        by (M.way s p) refl (λ w k m. stays_within ps (M.move s p) u w (A.good s p g run.0 run.1) run.2 k m)
      where
        by : (x : Way) → M.way s p ≡ x → ((w : S) → V w → Settles M (M.move s p) w → (w : S) × V w × Settles M u w) → (w : S) × V w × Settles M u w
        by Idle e more = absurd (run.1 e)
        by Eager e more = more v known (still_settles s v p g run.0 e h)
        by Late e more =
            let past = late_past h.made s v p g run.0 e h.run in
            let m = closed.calls v p known run.0 past.0 in
            more m.0 m.1 (settles_on M h.made (M.move s p) (M.move v p) m.0 past.1 m.2)

  -- ---- Calls that change places

  module _ (Apart : S → ℕ → ℕ → Type 0) (B : CallsChangePlaces M Good Apart) where
    pub calls_swap : (v u : S) (p q : ℕ) (calls : List ℕ) → Good v → CallsLead M v (p ∷ q ∷ calls) u → M.way v q ≡ Late → (p ≡ q → ⊥) → Apart v p q
        → ByCalls M v (q ∷ p ∷ calls) u
    calls_swap v u p q calls g h late d apart =
        let w = h.4 in
        let moves_p = late_moves M v p h.1 in
        let moves_q = late_moves M v q late in
        let way_q : M.way (M.move v p) q ≡ Late = A.stays v p q g d moves_p moves_q ∙ late in
        let way_p : M.way (M.move v q) p ≡ Late = A.stays v q p g (λ x. d (sym x)) moves_q moves_p ∙ h.1 in
        let swapped : M.move (M.move v p) q ≡ M.move (M.move v q) p = B.swap v p q g h.0 w.0 d h.1 late apart in
        let es = subst (λ x. RunsEagerly M x h.3.made (M.move h.2 q)) swapped
        (late_past h.3.made (M.move v p) h.2 q (A.good v p g h.0 moves_p) w.0 way_q h.3.run).1 in
        let rest = lead_calling M calls w.2 u w.4 in
        let second = eagerly_on M w.3.made rest.steps (M.move h.2 q) w.2 u w.3.run rest.run in
        let first = eagerly_on M h.3.made (w.3.made ++ rest.steps) (M.move (M.move v q) p) (M.move h.2 q) u es second.0 in
        let steps = h.3.made ++ (w.3.made ++ rest.steps) in
        let who : callers M v (q ∷ p ∷ steps) ≡ q ∷ p ∷ calls =
        ap (λ x. caller x q (callers M (M.move v q) (p ∷ steps))) late
        ∙ ap (λ xs. q ∷ xs) (ap (λ x. caller x p (callers M (M.move (M.move v q) p) steps)) way_p ∙ ap (λ xs. p ∷ xs) (first.1 ∙ second.1 ∙ rest.same)) in
        subst (λ cs. ByCalls M v cs u) who
        (run_by_calls (q ∷ p ∷ steps) v u g (w.0, moves_q, (h.0, (λ x. late_moves M (M.move v q) p way_p x), first.0)) (lead_settled M (q ∷ calls) p v u h))
