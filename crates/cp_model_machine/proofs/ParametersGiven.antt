-- A process that is started has its parameters in its first words, just as they waited for it.
use Rattle.std.proofs.Common.{◌≡◌, ◌⊎◌, inl, inr, ℕ, ◌+◌, ◌-◌, ◌≤◌, ◌<◌, ℤ, List, [], length, true, false, Some, refl, ap, suc, sym, subst, ◌∙◌, arith}
use Rattle.std.proofs.lemmas.Bool.{eq-eqb}
use Rattle.cp_model.specs.Abstract.{Name, System}
use Rattle.cp_model.specs.Declarations.{Variable, declarations, is_component}
use Rattle.cp_model.specs.Environments.{permanent_variables}
use Rattle.cp_model.specs.Locations.{Location, OfProcess, root}
use Rattle.cp_model.specs.Stores.{Store, Writes, put_all}
use Rattle.cp_law_typing.specs.Declared.{Distinct}
use Rattle.cp_law_typing.specs.StartValues.{IsIn}
use Rattle.cp_law_typing.specs.Words.{words}
use Rattle.cp_model_program.specs.Layout.{component_words, head_words, rights}
use Rattle.cp_model_program.specs.IsProgramFor.{system_of_process}
use Rattle.cp_model_program.specs.Starts.{block, paste, word}
use Rattle.cp_model_machine.specs.Addresses.{Activation, ClassLies, ComponentLies, Ground, MonitorLies, ProcessLies, RightMeans, component_type, in_sight, lies, scope}
use Rattle.cp_model_machine.specs.Means.{CellMeans}
use Rattle.cp_model_machine.specs.PartOf.{DataMeans}
use Rattle.cp_model_machine.proofs.Apart.{InHead, IsCell, IsClass}
use Rattle.cp_model_machine.proofs.Copying.{copied_outside, copied_word}
use Rattle.cp_model_machine.proofs.InitOffsets.{Offset, offset_within}
use Rattle.cp_model_machine.proofs.InitPassing.{InitBound}
use Rattle.cp_model_machine.proofs.InitSettled.{component_below}
use Rattle.cp_model_machine.proofs.Keeping.{depth_of, right_place, right_within}
use Rattle.cp_model_machine.proofs.OtherGround.{other_ground, right_elsewhere}
use Rattle.cp_model_machine.proofs.Owned.{OwnRight}
use Rattle.cp_model_machine.proofs.Heres.{lies_any}
use Rattle.cp_model_machine.proofs.Placing.{Placed}
use Rattle.cp_model_machine.proofs.ProcessRights.{HasNoClassRight}
use Rattle.cp_model_machine.proofs.Separate.{cell_no_own_right, own_right_inside}
use Rattle.cp_model_machine.proofs.Settling.{Settled, data_settled, stored_at}
use Rattle.cp_model_machine.proofs.Stacks.{Stacked, bottom_below}

-- ---- the component of a process

module _ (G : Ground) (xs : List Activation) (top : ℕ) (stack : Stacked G top xs) (s : System) (is : system_of_process G.setup G.p ≡ Some s) (own : in_sight G (OfProcess G.p) ≡ true) where
  -- The component of the process is in its first words.
  pub process_placed : Placed G xs top (root (OfProcess G.p)) 0 s
  process_placed = record {
    own = own;
    there = ProcessLies refl is refl;
    no_activation = λ d e. absurd (omega (arith, ap (depth_of (suc d)) e));
    heads = λ l n u a k mine head lying right e. absurd (cell_no_own_right G xs top stack l n k u a mine head lying (own_right k right.1) (omega (arith, e)));
    rights = λ j r n i k x v mine cl is' right e. by j r n i k mine right.1 (right_within 1 _ x i v is').1 e cl (right_place G xs j r n i x v mine cl is');
    beyond = λ i k below behind right e none. absurd (omega (arith, behind s is, right.1, e));
    inside = λ k below. let inside = own_right_inside G xs top stack k (own_right k below) in omega (arith, inside);
  }
    where
      own_right : (k : ℕ) → k < head_words (scope G) s → OwnRight G k
      own_right k below = inl (s, is, below)

      bottom : component_words (scope G) s ≤ top
      bottom = bottom_below G top xs stack.stack s is

      by : (j : Location) (r : System) (n i k : ℕ) → in_sight G j.owner ≡ true → k < head_words (scope G) s → i < 1 + length (rights (scope G) r) → n + i ≡ 0 + k → ComponentLies G j r n
          → OwnRight G (n + i) ⊎ ((lies G xs j ≡ Some (n, component_type G r)) × InHead (scope G) (component_type G r) i × (1 ≤ i)) → j ≡ root (OfProcess G.p)
      by j r n i k mine below inside e (ProcessLies where' is' zero') o = where'
      by j r n i k mine below inside e (MonitorLies m where' is' from) o = absurd (omega (arith, from, e, below, bottom, stack.fits))
      by j r n i k mine below inside e (ClassLies class' lying) o =
          absurd (cell_no_own_right G xs top stack j n k (component_type G r) i mine (subst IsClass (sym class') tt, omega (arith, inside)) (lies_any G xs j _ lying) (own_right k below) (omega (arith, e)))

-- ---- what it is given

-- Another process bound the parameters for `q`, and they are among these shared words. The own
-- words of `q` had the start values.
module _ (G : Ground) (q own : ℕ) (s : System) (is : system_of_process G.setup q ≡ Some s) (fits : component_words (scope G) s ≤ own) (distinct : Distinct (permanent_variables (scope G) s))
    (names : Distinct (declarations (scope G) s.parameters))
    (one : (p : Name × Variable) → IsIn p (declarations (scope G) s.parameters) → is_component p.1.type ≡ false → (words (scope G) p.1.type ≡ 1) × IsCell p.1.type)
    (offsets : (p : Name × Variable) → IsIn p (declarations (scope G) s.parameters) → (k : ℕ) × Offset (scope G) s p k) (none : HasNoClassRight (scope G) s)
    (to from : ℕ) (store : Store) (ws : Writes) (before us : List ℤ) (B : InitBound G s (root (OfProcess q)) to from names one (declarations (scope G) s.parameters) ws before us)
    (shared : List ℤ) (start : ℕ) (waits : (j : ℕ) → j < length (declarations (scope G) s.parameters) → word shared (start + j) ≡ word us (from + 1 + j))
    (old : List ℤ) (count : length old ≡ own) (means : DataMeans (other_ground G q own) [] (in_sight (other_ground G q own)) store old) where
  abbrev H : Ground
  H = other_ground G q own

  abbrev at : Location
  at = root (OfProcess q)

  abbrev size : ℕ
  size = length (declarations (scope G) s.parameters)

  abbrev top : ℕ
  top = component_words (scope G) s

  abbrev pub given_words : List ℤ
  given_words = paste 1 (block shared start size) old

  stack : Stacked H top []
  stack = record { stack = (s, is, omega arith); fits = fits }

  placed : Placed H [] top at 0 s
  placed = process_placed H [] top stack s is (eq-eqb q q refl)

  below : 1 + size ≤ length old
  below =
      let inside : 0 + size < own = component_below H [] top stack at 0 from s placed names one in
      omega (arith, inside, count)

  -- Each parameter has the word in which it waited.
  moved : (k : ℕ) → (1 ≤ k) × (k ≤ size) → word given_words (0 + k) ≡ word us (from + k)
  moved k h =
      ap (word given_words) (there k h.0)
      ∙ (copied_word old shared 1 start size (k - 1) (omega (arith, h)) below ∙ (waits (k - 1) (omega (arith, h)) ∙ ap (word us) (back k h.0)))
    where
      there : (k : ℕ) → 1 ≤ k → 0 + k ≡ 1 + (k - 1)
      there k h = omega (arith, h)

      back : (k : ℕ) → 1 ≤ k → from + 1 + (k - 1) ≡ from + k
      back k h = omega (arith, h)

  settled : Settled H top store (put_all ws store) old given_words at 0 s
  settled = record {
    values = λ p k i component lying.
        subst (CellMeans p.1.type (put_all ws store (stored_at at p.0))) (sym (moved k (offset_within (scope G) s names one p k i (inr (component, lying, (one p i component).1)))))
        (B.values p k store i component lying);
    rights = λ p k i component lying.
        subst (RightMeans H p.1.type (put_all ws store (stored_at at p.0)) (0 + k)) (sym (moved k (offset_within (scope G) s names one p k i (inl (component, lying)))))
        (right_elsewhere G q own p.1.type (put_all ws store (stored_at at p.0)) (to + k) (0 + k) (word us (from + k)) (λ r inner type sort. none k p.0 p.1 r inner lying type sort) (B.rights p k store i component lying));
    given = λ p k i component lying. B.given p k store i component lying;
    outside = λ i within apart. copied_outside old shared 1 start size i (by i apart);
    unwritten = λ l unnamed. B.unwritten l store unnamed;
  }
    where
      by : (i : ℕ) → (i < 0 + 1) ⊎ (0 + 1 + size ≤ i) → (i < 1) ⊎ (1 + size ≤ i)
      by i (inl h) = inl (omega (arith, h))
      by i (inr h) = inr (omega (arith, h))

  pub data_given : DataMeans H [] (in_sight H) (put_all ws store) given_words
  data_given = data_settled H [] top stack store (put_all ws store) old given_words at 0 s placed distinct one offsets settled means
