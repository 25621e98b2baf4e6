-- If only the count of rounds has grown, the report differs only in its first line.
use Rattle.std.specs.Prelude.{Bool, List, [], codes, false, flat_map, if◌then◌else◌, length, nat_eq, refl, suc, true, zero, ℕ, ◌++◌, ◌+◌, ◌<◌, ◌∷◌, ◌≡◌, ◌≢◌, ◌≤◌}
use Rattle.std.proofs.Common.{arith, sym, ◌∙◌}
use Rattle.std.proofs.lemmas.Bool.{eq-eqb, true≢false}
use Rattle.cp_model.specs.Abstract.{Monitor, Name, Process}
use Rattle.cp_model.specs.Components.{monitor_location, process_location}
use Rattle.cp_model.specs.Decimal.{natural}
use Rattle.cp_model.specs.Declarations.{Variable, globals, reported_members}
use Rattle.cp_model.specs.Report.{askers_text, component_members, components_of, escape, gate_text, line, monitors_text, process_text, processes_text, report, status_text, variable_lines}
use Rattle.cp_model.specs.States.{Setup, State, initial_variables, is_in, numbers_from, process_count, processes}
use Rattle.cp_model.specs.Types.{Members}
use Rattle.cp_model.proofs.ComponentCounts.{counted}
use Rattle.cp_law_stillness.specs.Laws.{ReportOfCount}
use Rattle.cp_law_stillness.specs.Stillness.{OnlyCountGrows}

-- ---- Numbers of processes

numbered : (n p q : ℕ) → p ≤ q → q < p + n → is_in q (numbers_from p n) ≡ true
numbered zero p q first last = absurd (Prim.omega (arith, first, last))
numbered (suc n) p q first last =
    by (nat_eq q p) refl (λ d. numbered n (suc p) q (Prim.omega (arith, first, d)) (Prim.omega (arith, last)))
  where
    by : (b : Bool) → nat_eq q p ≡ b → (q ≢ p → is_in q (numbers_from (suc p) n) ≡ true) → (if b then true else is_in q (numbers_from (suc p) n)) ≡ true
    by true e later = refl
    by false e later = later (λ h. true≢false (sym (eq-eqb q p h) ∙ e))

-- ---- Lines

module _ (setup : Setup) (n : ℕ) (s u : State) (g : OnlyCountGrows setup n s u) where
  process_same : (p : ℕ) (x : Name) (ps : Members) → is_in p (processes setup) ≡ true → process_text setup u p x ps ≡ process_text setup s p x ps
  process_same p x ps there = λ i.
      line (codes "process " ++ (natural p ++ (codes " " ++ (x ++ (codes " " ++ status_text setup (g.status p there i))))))
      ++ (line (codes "out '" ++ (flat_map escape (g.transcript i p) ++ codes "'")) ++ variable_lines (g.store i) (process_location p) ps)

  processes_same : (p : ℕ) (vs : List (Name × Variable)) → ((q : ℕ) → p ≤ q → q < p + length vs → is_in q (processes setup) ≡ true)
      → processes_text setup u p vs ≡ processes_text setup s p vs
  processes_same p [] there = refl
  processes_same p (v ∷ vs) there =
      let first = process_same p v.0 (component_members v.1.type) (there p (Prim.omega arith) (Prim.omega arith)) in
      let rest = processes_same (suc p) vs (λ q a b. there q (Prim.omega (arith, a)) (Prim.omega (arith, b))) in
      λ i. first i ++ rest i

  monitors_same : (m : ℕ) (vs : List (Name × Variable)) → monitors_text u m vs ≡ monitors_text s m vs
  monitors_same m [] = refl
  monitors_same m (v ∷ vs) = λ i.
      (line (codes "monitor " ++ (v.0 ++ (codes " " ++ (gate_text (g.gates i m).holder ++ (codes " askers" ++ askers_text (g.gates i m).askers)))))
      ++ variable_lines (g.store i) (monitor_location m) (component_members v.1.type))
      ++ monitors_same (suc m) vs i

  report_same : report setup u ≡ report setup (record s { rounds = s.rounds + n })
  report_same =
      let count = counted Process (initial_variables setup) in
      let initial = process_same 1 (codes "initial") (reported_members (globals setup.tree) setup.tree.initial) (numbered (process_count setup) 1 1 (Prim.omega arith) (Prim.omega arith)) in
      let others = processes_same 2 (components_of setup Process) (λ q a b. numbered (process_count setup) 1 q (Prim.omega (arith, a)) (Prim.omega (arith, b, count))) in
      let monitors = monitors_same 1 (components_of setup Monitor) in
      λ i. line (codes "rounds " ++ natural (g.rounds i)) ++ (initial i ++ (others i ++ monitors i))

pub report_of_count : ReportOfCount
report_of_count = report_same
