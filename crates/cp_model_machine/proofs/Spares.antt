-- Steps that change no words but the process's own and those of monitors.
use Rattle.std.proofs.Common.{◌≡◌, ◌⊎◌, inl, inr, ℕ, ◌+◌, ◌≤◌, ◌<◌, ℤ, List, [], ◌∷◌, Bool, true, false, Option, Some, None, Result, Ok, Err, refl, ap, sym, subst, ◌∙◌, arith}
use Rattle.std.specs.Prelude.{slice_set}
use Rattle.cp_model.specs.Abstract.{System}
use Rattle.cp_model.specs.Declarations.{reported_members}
use Rattle.cp_model.specs.Locations.{ByIndex, ByName, Location, OfActivation, OfMonitor, OfProcess, Owner, Path}
use Rattle.cp_model.specs.Outcomes.{Fault, Gives, Outcome}
use Rattle.cp_model.specs.Places.{Place}
use Rattle.cp_model.specs.Types.{ResolvedType}
use Rattle.cp_model.specs.declared.state.Fault as faults
use Rattle.cp_law_typing.specs.Needs.{result_words}
use Rattle.cp_law_typing.specs.Words.{words}
use Rattle.cp_model_program.specs.Layout.{component_words, head_words, locals}
use Rattle.cp_model_program.specs.IsProgramFor.{system_of_monitor, system_of_process}
use Rattle.cp_model_program.specs.Starts.{block, paste, word}
use Rattle.cp_model_machine.specs.PrivateStates.{Acting, PrivateState, fault_in, guard, with_result}
use Rattle.cp_model_machine.specs.Passing.{Passing, monitor_start, when_passed}
use Rattle.cp_model_machine.specs.Means.{PlaceAgrees}
use Rattle.cp_model_machine.specs.Addresses.{Activation, Ground, in_sight, lies, part_at, scope, lies_in_sight}
use Rattle.cp_model_machine.proofs.Apart.{IsCell, cell_has_word}
use Rattle.cp_model_machine.proofs.Bounds.{member_fits, part_fits}
use Rattle.cp_model_machine.proofs.Copying.{copied_outside}
use Rattle.cp_model_machine.proofs.Finding.{some_is_not_none}
use Rattle.cp_model_machine.proofs.Heres.{seen_mine}
use Rattle.cp_model_machine.proofs.Owned.{activation_cell, component_part, found_monitor, local_inside}
use Rattle.cp_model_machine.proofs.Stacks.{Stacked, bottom_below, found_inside}
use Rattle.cp_model_machine.proofs.Writing.{changed_other}

-- A shared word that is no monitor's.
abbrev pub IsSpared : Ground → ℕ → Type 0
IsSpared G i =
    (G.own ≤ i)
    × ((m : ℕ) (s : System) → system_of_monitor G.setup m ≡ Some s → (i < G.own + monitor_start G.program m) ⊎ (G.own + monitor_start G.program m + component_words (scope G) s ≤ i))

abbrev pub Spares : Ground → List ℤ → List ℤ → Type 0
Spares G old new = (i : ℕ) → IsSpared G i → word new i ≡ word old i

pub spares_trans : (G : Ground) (old mid new : List ℤ) → Spares G old mid → Spares G mid new → Spares G old new
spares_trans G old mid new h k i spared = k i spared ∙ h i spared

-- ---- outcomes of a step

module _ (G : Ground) (o : PrivateState) where
  pub result_spares : {A : Type 0} (r : Result A faults.Fault) (go : A → Acting) → ((x : A) → r ≡ Ok x → Spares G o.words (go x).0.words) → Spares G o.words (with_result o r go).0.words
  result_spares (Ok x) go h = h x refl
  result_spares (Err f) go h = λ i spared. refl

  pub provided_spares : (b : Bool) (f : faults.Fault) (x : Acting) → Spares G o.words x.0.words → Spares G o.words (guard b o f x).0.words
  provided_spares true f x h = h
  provided_spares false f x h = λ i spared. refl

  pub passed_spares : (P : Passing) (go : PrivateState → Acting) → Spares G o.words P.own.words → Spares G P.own.words (go P.own).0.words → Spares G o.words (when_passed P go).0.words
  passed_spares P go first rest = by P.fault
    where
      by : (f : Option faults.Fault) → Spares G o.words (elim f as (λ z. Acting) [ None ↦ go P.own | Some e ↦ fault_in P.own e ]).0.words
      by None = spares_trans G o.words P.own.words (go P.own).0.words first rest
      by (Some e) = first

-- ---- what is somewhere

module _ (G : Ground) (xs : List Activation) (top : ℕ) (stack : Stacked G top xs) where
  -- A spared word belongs to no variable in reach.
  pub part_spared : (l : Location) (n : ℕ) (u : ResolvedType) → lies G xs l ≡ Some (n, u) → (i : ℕ) → IsSpared G i → (i < n) ⊎ (n + words (scope G) u ≤ i)
  part_spared l n u h i spared = by l.owner l.path h
    where
      by : (o : Owner) (q : Path) → part_at G xs o q ≡ Some (n, u) → (i < n) ⊎ (n + words (scope G) u ≤ i)
      by o [] h = absurd (some_is_not_none _ (sym h))
      by o (ByIndex j ∷ q) h = absurd (some_is_not_none _ (sym h))
      by (OfProcess p) (ByName x ∷ q) h =
          let C = component_part G xs p x q n u h in
          let fits = member_fits (scope G) (head_words (scope G) C.1.0) (reported_members (scope G) C.1.0) x q n u C.1.2 in
          inr (omega (arith, fits, bottom_below G top xs stack.stack C.1.0 (ap (system_of_process G.setup) C.0 ∙ C.1.1), stack.fits, spared.0))
      by (OfActivation p d) (ByName x ∷ q) h =
          let A = activation_cell G xs p d x q n u h in
          let inside = local_inside (scope G) (result_words A.activation.routine.result) (locals (scope G) A.activation.routine) x A.found.at A.found.variable A.found.is in
          inr (omega (arith, A.found.place, inside.1, A.found.words, part_fits (scope G) A.found.variable.type q A.found.far u A.found.there, (found_inside G top d xs A.activation stack.stack A.is).0, stack.fits, spared.0))
      by (OfMonitor m) (ByName x ∷ q) h =
          let M = found_monitor G xs m x q n u h in elim (spared.1 m M.system M.is) [ inl below ↦ inl (omega (arith, below, M.place)) | inr behind ↦ inr (omega (arith, behind, M.place, M.fits)) ]

  pub word_spares : (ws : List ℤ) (l : Location) (n : ℕ) (u : ResolvedType) (m : ℤ) → IsCell u → lies G xs l ≡ Some (n, u) → Spares G ws (slice_set ws n m)
  word_spares ws l n u m cell h i spared = changed_other ws i n m (λ e. by e (part_spared l n u h i spared))
    where
      by : i ≡ n → (i < n) ⊎ (n + words (scope G) u ≤ i) → ⊥
      by e (inl q) = absurd (omega (arith, e, q))
      by e (inr q) = absurd (omega (arith, e, q, cell_has_word (scope G) u cell))

  pub copy_spares : (ws us : List ℤ) (l : Location) (n from : ℕ) (u : ResolvedType) → lies G xs l ≡ Some (n, u) → Spares G ws (paste n (block us from (words (scope G) u)) ws)
  copy_spares ws us l n from u h i spared = copied_outside ws us n from (words (scope G) u) i (part_spared l n u h i spared)

-- The machine's place is where the meaning's does.
pub place_lies : (G : Ground) (xs : List Activation) (t : ResolvedType) (P : Outcome Place) (r : Result ℕ faults.Fault) (n : ℕ) → PlaceAgrees (lies_in_sight (in_sight G) G xs) t P r → r ≡ Ok n
    → (l : Location) × (lies G xs l ≡ Some (n, t))
place_lies G xs t (Gives p) (Ok k) n h e =
    let there = (seen_mine (in_sight G) G xs p.at (k, t) h.0).1 in (p.at, there ∙ ap (λ z. Some (z, t)) (same e))
  where
    number : Result ℕ faults.Fault → ℕ
    number (Ok j) = j
    number (Err f) = 0

    same : ◌≡◌ {A = Result ℕ faults.Fault} (Ok k) (Ok n) → k ≡ n
    same e = ap number e
place_lies G xs t (Fault i) (Err f) n h e = absurd (subst IsErr e tt)
  where
    IsErr : Result ℕ faults.Fault → Type 0
    IsErr (Ok j) = ⊥
    IsErr (Err f) = Unit {0}
place_lies G xs t (Gives p) (Err f) n h e = absurd h
place_lies G xs t (Fault i) (Ok k) n h e = absurd h
