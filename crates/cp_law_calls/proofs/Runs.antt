-- Runs, eager runs and runs by calls, whatever the machine.
--
-- An eager run is a run in which nobody calls, and a run by calls is a run: its late steps and the eager
-- steps after each of them, one after another.
use Rattle.std.specs.Prelude.{Bool, List, [], false, if◌then◌else◌, length, nat_eq, refl, suc, true, zero, ℕ, ◌++◌, ◌∷◌, ◌≡◌, ◌⊎◌}
use Rattle.std.proofs.Common.{ap, arith, inl, inr, subst, sym, ◌∙◌}
use Rattle.std.proofs.lemmas.Bool.{eqb-false, eqb-true, true≢false}
use Rattle.cp_model.specs.States.{is_in}
use Rattle.cp_model.proofs.Lists.{in_head, in_more}
use Rattle.cp_law_calls.specs.Runs.{AreMovers, ByCalls, CallsChangePlaces, CallsLead, IsClosedByCalls, IsSettled, Machine, Runs, RunsEagerly, Settles, caller, callers}
use Rattle.cp_law_calls.specs.Ways.{Eager, Idle, Late, Way}

pub eager_no_idle : Eager ≡ Idle → ⊥
eager_no_idle e = grind arith

pub late_no_idle : Late ≡ Idle → ⊥
late_no_idle e = grind arith

pub late_no_eager : Late ≡ Eager → ⊥
late_no_eager e = grind arith

module _ {S : Type 0} (M : Machine S) where
  pub not_idle : (s : S) (p : ℕ) → M.way s p ≡ Eager → M.way s p ≡ Idle → ⊥
  not_idle s p e f = eager_no_idle (sym e ∙ f)

  pub late_moves : (s : S) (p : ℕ) → M.way s p ≡ Late → M.way s p ≡ Idle → ⊥
  late_moves s p e f = late_no_idle (sym e ∙ f)

  -- ---- Eager runs are runs without callers

  pub eager_runs : (ps : List ℕ) (s u : S) → RunsEagerly M s ps u → Runs M s ps u
  eager_runs [] s u h = h
  eager_runs (p ∷ ps) s u h = (h.0, (not_idle s p h.1), eager_runs ps (M.move s p) u h.2)

  pub eager_callers : (ps : List ℕ) (s u : S) → RunsEagerly M s ps u → callers M s ps ≡ []
  eager_callers [] s u h = refl
  eager_callers (p ∷ ps) s u h = ap (λ x. caller x p (callers M (M.move s p) ps)) h.1 ∙ eager_callers ps (M.move s p) u h.2

  -- A run without callers is eager.
  pub no_callers : (ps : List ℕ) (s u : S) → Runs M s ps u → callers M s ps ≡ [] → RunsEagerly M s ps u
  no_callers [] s u h e = h
  no_callers (p ∷ ps) s u h e = by (M.way s p) refl e (λ f. no_callers ps (M.move s p) u h.2 f)
    where
      cons_no_nil : (xs : List ℕ) → p ∷ xs ≡ [] → ⊥
      cons_no_nil xs e = grind arith

      by : (x : Way) → M.way s p ≡ x → caller x p (callers M (M.move s p) ps) ≡ [] → (callers M (M.move s p) ps ≡ [] → RunsEagerly M (M.move s p) ps u) → RunsEagerly M s (p ∷ ps) u
      by Idle f e more = absurd (h.1 f)
      by Eager f e more = (h.0, f, more e)
      by Late f e more = absurd (cons_no_nil (callers M (M.move s p) ps) e)

  -- ---- Settling

  pub settles_here : (s : S) → IsSettled M s → Settles M s s
  settles_here s h = record { made = []; run = refl; settled = h }

  pub settles_more : (s u : S) (p : ℕ) → is_in p M.processes ≡ true → M.way s p ≡ Eager → Settles M (M.move s p) u → Settles M s u
  settles_more s u p there e h = record { made = p ∷ h.made; run = (there, e, h.run); settled = h.settled }

  -- A settled state settles only as itself.
  pub settled_is : (ps : List ℕ) (s u : S) → IsSettled M s → RunsEagerly M s ps u → s ≡ u
  settled_is [] s u h run = run
  settled_is (p ∷ ps) s u h run = absurd (h.none p run.0 run.1)

  pub settles_on : (ps : List ℕ) (s u w : S) → RunsEagerly M s ps u → Settles M u w → Settles M s w
  settles_on [] s u w run h = subst (λ z. Settles M z w) (sym run) h
  settles_on (p ∷ ps) s u w run h = settles_more s w p run.0 run.1 (settles_on ps (M.move s p) u w run.2 h)

  -- ---- A run by calls is a run

  pub runs_on : (ps qs : List ℕ) (s v u : S) → Runs M s ps v → Runs M v qs u → (rs : List ℕ) × Runs M s rs u
  runs_on [] qs s v u h k = (qs, subst (λ x. Runs M x qs u) (sym h) k)
  runs_on (p ∷ ps) qs s v u h k = let r = runs_on ps qs (M.move s p) v u h.2 k in (p ∷ r.0, (h.0, h.1, r.1))

  lead_runs : (calls : List ℕ) (s u : S) → CallsLead M s calls u → (rs : List ℕ) × Runs M s rs u
  lead_runs [] s u h = ([], h)
  lead_runs (p ∷ calls) s u h =
      let later = lead_runs calls h.2 u h.4 in
      let r = runs_on h.3.made later.0 (M.move s p) h.2 u (eager_runs h.3.made (M.move s p) h.2 h.3.run) later.1 in
      (p ∷ r.0, (h.0, late_moves s p h.1, r.1))

  pub by_calls_runs : (calls : List ℕ) (s u : S) → ByCalls M s calls u → (rs : List ℕ) × Runs M s rs u
  by_calls_runs calls s u h =
      let later = lead_runs calls h.first u h.lead in
      runs_on h.settles.made later.0 s h.first u (eager_runs h.settles.made s h.first h.settles.run) later.1

  -- ---- Who calls in a run by calls

  -- After eager steps the callers are those of the rest.
  pub eagerly_on : (es qs : List ℕ) (s v u : S) → RunsEagerly M s es v → Runs M v qs u → Runs M s (es ++ qs) u × (callers M s (es ++ qs) ≡ callers M v qs)
  eagerly_on [] qs s v u run later = (subst (λ x. Runs M x qs u) (sym run) later, ap (λ x. callers M x qs) run)
  eagerly_on (p ∷ es) qs s v u run later =
      let r = eagerly_on es qs (M.move s p) v u run.2 later in
      ((run.0, not_idle s p run.1, r.0), ap (λ x. caller x p (callers M (M.move s p) (es ++ qs))) run.1 ∙ r.1)

  pub record Calling (s : S) (calls : List ℕ) (u : S) : Type 0 where
    pub steps : List ℕ
    pub run : Runs M s steps u
    pub same : callers M s steps ≡ calls

  pub lead_calling : (calls : List ℕ) (s u : S) → CallsLead M s calls u → Calling s calls u
  lead_calling [] s u h = record { steps = []; run = h; same = refl }
  lead_calling (p ∷ calls) s u h =
      let later = lead_calling calls h.2 u h.4 in
      let r = eagerly_on h.3.made later.steps (M.move s p) h.2 u h.3.run later.run in
      record {
        steps = p ∷ (h.3.made ++ later.steps);
        run = (h.0, late_moves s p h.1, r.0);
        same = ap (λ x. caller x p (callers M (M.move s p) (h.3.made ++ later.steps))) h.1 ∙ ap (λ xs. p ∷ xs) (r.1 ∙ later.same);
      }

  pub lead_settled : (calls : List ℕ) (p : ℕ) (s u : S) → CallsLead M s (p ∷ calls) u → IsSettled M u
  lead_settled [] p s u h = subst (IsSettled M) h.4 h.3.settled
  lead_settled (q ∷ calls) p s u h = lead_settled calls q h.2 u h.4
