-- No two cells of a process share a word: its component and its activations are one after another.
--
-- Activations are one after another after the component, and monitors after them, so one address
-- has one owner; parts of one owner that share a word are the same part (`Apart`).
use Rattle.std.proofs.Common.{◌≡◌, ◌⊎◌, inl, inr, ℕ, ◌+◌, ◌≤◌, ◌<◌, List, [], ◌∷◌, Bool, true, false, Some, refl, ap, sym, subst, ◌∙◌, arith}
use Rattle.std.specs.Prelude.{if◌then◌else◌, nat_eq}
use Rattle.std.proofs.lemmas.Bool.{eq-eqb, eqb-true, true≢false}
use Rattle.cp_model.specs.Abstract.{Name}
use Rattle.cp_model.specs.Declarations as declared
use Rattle.cp_model.specs.Locations.{ByIndex, ByName, Location, OfActivation, OfMonitor, OfProcess, Owner, Path}
use Rattle.cp_model.specs.Types.{ResolvedType}
use Rattle.cp_model.proofs.Options.{same_some}
use Rattle.cp_law_typing.specs.Needs.{result_words}
use Rattle.cp_law_typing.specs.Words.{words}
use Rattle.cp_model_program.specs.Layout.{activation_words, component_words, head_words, local, local_words, locals, member_part}
use Rattle.cp_model_program.specs.IsProgramFor.{Apart, system_of_monitor, system_of_process}
use Rattle.cp_model_machine.specs.Addresses.{Activation, Ground, activation_at, in_sight, lies, part_at, part_of_owner, scope, whole}
use Rattle.cp_model_machine.proofs.Apart.{InHead, head_inside, member_above, member_apart}
use Rattle.cp_model_machine.proofs.Bounds.{member_fits, part_fits}
use Rattle.cp_model_machine.proofs.Finding.{some_is_not_none}
use Rattle.cp_model_machine.proofs.Stacks.{Stacked, bottom_below, found_apart, found_inside, monitor_seen, own_in_whole}
use Rattle.cp_model_machine.specs.Passing.{monitor_start}
use Rattle.cp_model_machine.proofs.Owned.{FoundActivation, FoundLocal, FoundMonitor, OwnRight, activation_cell, component_cell, component_part, found_monitor, local_apart, local_cell_inside, local_cells_apart, local_inside}
use Rattle.cp_model_machine.specs.KernelOf.{is_shared}

module _ (G : Ground) (xs : List Activation) (top : ℕ) (stack : Stacked G top xs) where
  -- A word of the process is below the top.
  own_cell : (o : Owner) (x : Name) (p : Path) (n : ℕ) (u : ResolvedType) (a : ℕ) → is_shared o ≡ false → InHead (scope G) u a → part_of_owner G xs o x p ≡ Some (n, u) → n + a < top
  own_cell (OfProcess q) x p n u a m c h =
      let C = component_cell G xs top q x p n u a c h in
      omega (arith, C.1.4, bottom_below G top xs stack.stack C.1.0 (ap (system_of_process G.setup) C.0 ∙ C.1.1))
  own_cell (OfActivation q d) x p n u a m c h =
      let A = activation_cell G xs q d x p n u h in
      omega (arith, (local_cell_inside (scope G) A.activation x p n u a c A.found).1, (found_inside G top d xs A.activation stack.stack A.is).0)
  own_cell (OfMonitor m) x p n u a own c h = absurd (true≢false own)

  across : (q : ℕ) (x : Name) (path : Path) (n : ℕ) (u : ResolvedType) (r d : ℕ) (y : Name) (path2 : Path) (m : ℕ) (w : ResolvedType) (a b : ℕ) → InHead (scope G) u a → InHead (scope G) w b
      → part_of_owner G xs (OfProcess q) x path ≡ Some (n, u) → part_of_owner G xs (OfActivation r d) y path2 ≡ Some (m, w) → n + a ≡ m + b → ⊥
  across q x path n u r d y path2 m w a b c e h k z =
      let C = component_cell G xs top q x path n u a c h in
      let A = activation_cell G xs r d y path2 m w k in
      let inside = local_cell_inside (scope G) A.activation y path2 m w b e A.found in
      let behind = (found_inside G top d xs A.activation stack.stack A.is).1 C.1.0 (ap (system_of_process G.setup) C.0 ∙ C.1.1) in
      absurd (omega (arith, C.1.4, inside.0, behind, z))

  same_owner_cells : (o r : Owner) (x y : Name) (p q : Path) (n m : ℕ) (u w : ResolvedType) (i j : ℕ) → InHead (scope G) u i → InHead (scope G) w j → in_sight G o ≡ true → in_sight G r ≡ true
      → part_of_owner G xs o x p ≡ Some (n, u) → part_of_owner G xs r y q ≡ Some (m, w) → n + i ≡ m + j
      → (o ≡ r) × ((ByName x ∷ p) ≡ (ByName y ∷ q))
  same_owner_cells (OfProcess a) (OfProcess b) x y p q n m u w i j c d m1 m2 h k e =
      let C = component_cell G xs top a x p n u i c h in
      let D = component_cell G xs top b y q m w j d k in
      let owners : a ≡ b = sym C.0 ∙ D.0 in
      let systems : C.1.0 ≡ D.1.0 = same_some C.1.0 D.1.0 (sym C.1.1 ∙ (ap (system_of_process G.setup) owners ∙ D.1.1)) in
      let there : member_part (scope G) (head_words (scope G) C.1.0) (declared.reported_members (scope G) C.1.0) y q ≡ Some (m, w)
      = ap (λ s. member_part (scope G) (head_words (scope G) s) (declared.reported_members (scope G) s) y q) systems ∙ D.1.2 in
      (ap OfProcess owners, member_apart (scope G) (head_words (scope G) C.1.0) (declared.reported_members (scope G) C.1.0) x y p q n m u w i j C.1.2 there c d e)
  same_owner_cells (OfProcess a) (OfActivation b f) x y p q n m u w i j c d m1 m2 h k e = absurd (across a x p n u b f y q m w i j c d h k e)
  same_owner_cells (OfActivation b f) (OfProcess a) x y p q n m u w i j c d m1 m2 h k e = absurd (across a y q m w b f x p n u j i d c k h (sym e))
  same_owner_cells (OfActivation a f) (OfActivation b g) x y p q n m u w i j c d m1 m2 h k e =
      let A = activation_cell G xs a f x p n u h in
      let B = activation_cell G xs b g y q m w k in
      let i1 = local_cell_inside (scope G) A.activation x p n u i c A.found in
      let i2 = local_cell_inside (scope G) B.activation y q m w j d B.found in
      by A B i1 i2 (found_apart G top f g xs A.activation B.activation stack.stack A.is B.is)
    where
      by : (A : FoundActivation G xs a f x p n u) (B : FoundActivation G xs b g y q m w)
          → ((A.activation.base ≤ n + i) × (n + i < A.activation.base + activation_words (scope G) A.activation.routine))
          → ((B.activation.base ≤ m + j) × (m + j < B.activation.base + activation_words (scope G) B.activation.routine))
          → (f ≡ g) ⊎ ((A.activation.base + activation_words (scope G) A.activation.routine ≤ B.activation.base) ⊎ (B.activation.base + activation_words (scope G) B.activation.routine ≤ A.activation.base))
          → (OfActivation a f ≡ OfActivation b g) × ((ByName x ∷ p) ≡ (ByName y ∷ q))
      by A B i1 i2 (inl s) =
          let same : A.activation ≡ B.activation = same_some A.activation B.activation (sym A.is ∙ (ap (λ z. activation_at z xs) s ∙ B.is)) in
          let there : FoundLocal (scope G) A.activation y q m w = subst (λ z. FoundLocal (scope G) z y q m w) (sym same) B.found in
          ((λ z. OfActivation ((sym A.own ∙ B.own) z) (s z)), local_cells_apart (scope G) A.activation x y p q n m u w i j c d A.found there e)
      by A B i1 i2 (inr (inl s)) = absurd (omega (arith, s, i1.1, i2.0, e))
      by A B i1 i2 (inr (inr s)) = absurd (omega (arith, s, i2.1, i1.0, e))
  same_owner_cells (OfMonitor a) (OfMonitor b) x y p q n m u w i j c d m1 m2 h k e =
      let M = found_monitor G xs a x p n u h in
      let L = found_monitor G xs b y q m w k in
      by (nat_eq a b) refl M L (head_inside (scope G) u i c) (head_inside (scope G) w j d)
    where
      by : (t : Bool) → nat_eq a b ≡ t → (M : FoundMonitor G a x p n u) (L : FoundMonitor G b y q m w) → i < words (scope G) u → j < words (scope G) w → (OfMonitor a ≡ OfMonitor b) × ((ByName x ∷ p) ≡ (ByName y ∷ q))
      by true t M L below1 below2 =
          let owners : a ≡ b = eqb-true a b t in
          let systems : L.system ≡ M.system = same_some L.system M.system (sym L.is ∙ (ap (system_of_monitor G.setup) (sym owners) ∙ M.is)) in
          let starts : monitor_start G.program a ≡ monitor_start G.program b = ap (monitor_start G.program) owners in
          let there : member_part (scope G) (head_words (scope G) M.system) (declared.reported_members (scope G) M.system) y q ≡ Some (L.far, w)
          = ap (λ s. member_part (scope G) (head_words (scope G) s) (declared.reported_members (scope G) s) y q) (sym systems) ∙ L.there in
          (ap OfMonitor owners, member_apart (scope G) (head_words (scope G) M.system) (declared.reported_members (scope G) M.system) x y p q M.far L.far u w i j M.there there c d (omega (arith, e, M.place, L.place, starts)))
      by false t M L below1 below2 = blocks ((monitor_seen G a m1).0.apart a b M.system L.system M.is L.is (λ s. true≢false (sym (eq-eqb a b s) ∙ t)))
        where
          blocks : Apart (monitor_start G.program a) (component_words (scope G) M.system) (monitor_start G.program b) (component_words (scope G) L.system) → (OfMonitor a ≡ OfMonitor b) × ((ByName x ∷ p) ≡ (ByName y ∷ q))
          blocks (inl s) = absurd (omega (arith, s, e, M.place, L.place, M.fits, L.fits, below1, below2))
          blocks (inr s) = absurd (omega (arith, s, e, M.place, L.place, M.fits, L.fits, below1, below2))
  same_owner_cells (OfMonitor z) (OfProcess a) x y p q n m u w i j c d m1 m2 h k e =
      absurd (omega (arith, (found_monitor G xs z x p n u h).place, own_cell (OfProcess a) y q m w j refl d k, stack.fits, e))
  same_owner_cells (OfMonitor z) (OfActivation a f) x y p q n m u w i j c d m1 m2 h k e =
      absurd (omega (arith, (found_monitor G xs z x p n u h).place, own_cell (OfActivation a f) y q m w j refl d k, stack.fits, e))
  same_owner_cells (OfProcess a) (OfMonitor z) x y p q n m u w i j c d m1 m2 h k e =
      absurd (omega (arith, (found_monitor G xs z y q m w k).place, own_cell (OfProcess a) x p n u i refl c h, stack.fits, e))
  same_owner_cells (OfActivation a f) (OfMonitor z) x y p q n m u w i j c d m1 m2 h k e =
      absurd (omega (arith, (found_monitor G xs z y q m w k).place, own_cell (OfActivation a f) x p n u i refl c h, stack.fits, e))

  -- Two words at the heads of parts, if they are one word, are of one part.
  pub separate : (l j : Location) (n m : ℕ) (u w : ResolvedType) (a b : ℕ) → in_sight G l.owner ≡ true → in_sight G j.owner ≡ true → InHead (scope G) u a → InHead (scope G) w b
      → lies G xs l ≡ Some (n, u) → lies G xs j ≡ Some (m, w) → n + a ≡ m + b → l ≡ j
  separate l j n m u w a b m1 m2 c d h k e = by l.owner j.owner l.path j.path m1 m2 h k
    where
      by : (o r : Owner) (p q : Path) → in_sight G o ≡ true → in_sight G r ≡ true → part_at G xs o p ≡ Some (n, u) → part_at G xs r q ≡ Some (m, w)
          → ◌≡◌ {A = Location} (record { owner = o; path = p }) (record { owner = r; path = q })
      by o r [] q m1 m2 h k = absurd (some_is_not_none (n, u) (sym h))
      by o r (ByIndex i ∷ p) q m1 m2 h k = absurd (some_is_not_none (n, u) (sym h))
      by o r (ByName x ∷ p) [] m1 m2 h k = absurd (some_is_not_none (m, w) (sym k))
      by o r (ByName x ∷ p) (ByIndex i ∷ q) m1 m2 h k = absurd (some_is_not_none (m, w) (sym k))
      by o r (ByName x ∷ p) (ByName y ∷ q) m1 m2 h k =
          let s = same_owner_cells o r x y p q n m u w a b c d m1 m2 h k e in
          λ i. record { owner = s.0 i; path = s.1 i }

  -- A word of the process is below the top, and one of a monitor after the process's own words.
  pub cell_below : (l : Location) (n : ℕ) (u : ResolvedType) (a : ℕ) → in_sight G l.owner ≡ true → InHead (scope G) u a → lies G xs l ≡ Some (n, u) → (n + a < top) ⊎ (G.own ≤ n + a)
  cell_below l n u a mine c h = by l.owner l.path h
    where
      by : (o : Owner) (p : Path) → part_at G xs o p ≡ Some (n, u) → (n + a < top) ⊎ (G.own ≤ n + a)
      by o [] h = absurd (some_is_not_none (n, u) (sym h))
      by o (ByIndex i ∷ p) h = absurd (some_is_not_none (n, u) (sym h))
      by (OfProcess q) (ByName x ∷ p) h = inl (own_cell (OfProcess q) x p n u a refl c h)
      by (OfActivation q d) (ByName x ∷ p) h = inl (own_cell (OfActivation q d) x p n u a refl c h)
      by (OfMonitor m) (ByName x ∷ p) h = inr (omega (arith, (found_monitor G xs m x p n u h).place))

  pub own_below : (l : Location) (n : ℕ) (u : ResolvedType) (a : ℕ) → is_shared l.owner ≡ false → InHead (scope G) u a → lies G xs l ≡ Some (n, u) → n + a < top
  own_below l n u a own c h = by l.owner l.path own h
    where
      by : (o : Owner) (p : Path) → is_shared o ≡ false → part_at G xs o p ≡ Some (n, u) → n + a < top
      by o [] own h = absurd (some_is_not_none (n, u) (sym h))
      by o (ByIndex i ∷ p) own h = absurd (some_is_not_none (n, u) (sym h))
      by o (ByName x ∷ p) own h = own_cell o x p n u a own c h

  -- Each cell is among the words in reach.
  pub cell_inside : (l : Location) (n : ℕ) (u : ResolvedType) (a : ℕ) → in_sight G l.owner ≡ true → InHead (scope G) u a → lies G xs l ≡ Some (n, u) → n + a < whole G
  cell_inside l n u a mine c h = by l.owner l.path mine h
    where
      by : (o : Owner) (p : Path) → in_sight G o ≡ true → part_at G xs o p ≡ Some (n, u) → n + a < whole G
      by o [] m h = absurd (some_is_not_none (n, u) (sym h))
      by o (ByIndex i ∷ p) m h = absurd (some_is_not_none (n, u) (sym h))
      by (OfProcess q) (ByName x ∷ p) m h = omega (arith, own_cell (OfProcess q) x p n u a refl c h, stack.fits, own_in_whole G)
      by (OfActivation q d) (ByName x ∷ p) m h = omega (arith, own_cell (OfActivation q d) x p n u a refl c h, stack.fits, own_in_whole G)
      by (OfMonitor z) (ByName x ∷ p) m h =
          let M = found_monitor G xs z x p n u h in
          let S = monitor_seen G z m in
          omega (arith, M.place, M.fits, head_inside (scope G) u a c, S.0.inside z M.system M.is, S.1)

  -- A part of any type is also among them, or it has no words and is after them.
  pub part_below : (l : Location) (n : ℕ) (u : ResolvedType) → in_sight G l.owner ≡ true → lies G xs l ≡ Some (n, u) → n ≤ whole G
  part_below l n u mine h = by l.owner l.path mine h
    where
      by : (o : Owner) (p : Path) → in_sight G o ≡ true → part_at G xs o p ≡ Some (n, u) → n ≤ whole G
      by o [] m h = absurd (some_is_not_none (n, u) (sym h))
      by o (ByIndex i ∷ p) m h = absurd (some_is_not_none (n, u) (sym h))
      by (OfProcess q) (ByName x ∷ p) m h =
          let C = component_part G xs q x p n u h in
          let fits = member_fits (scope G) (head_words (scope G) C.1.0) (declared.reported_members (scope G) C.1.0) x p n u C.1.2 in
          omega (arith, fits, bottom_below G top xs stack.stack C.1.0 (ap (system_of_process G.setup) C.0 ∙ C.1.1), stack.fits, own_in_whole G)
      by (OfActivation q d) (ByName x ∷ p) m h =
          let A = activation_cell G xs q d x p n u h in
          let i = local_inside (scope G) (result_words A.activation.routine.result) (locals (scope G) A.activation.routine) x A.found.at A.found.variable A.found.is in
          omega (arith, A.found.place, i.1, A.found.words, part_fits (scope G) A.found.variable.type p A.found.far u A.found.there, (found_inside G top d xs A.activation stack.stack A.is).0, stack.fits, own_in_whole G)
      by (OfMonitor z) (ByName x ∷ p) m h =
          let M = found_monitor G xs z x p n u h in
          let S = monitor_seen G z m in
          omega (arith, M.place, M.fits, S.0.inside z M.system M.is, S.1)

  -- ---- words that are no parts of variables

  pub cell_no_own_right : (l : Location) (n k : ℕ) (u : ResolvedType) (a : ℕ) → in_sight G l.owner ≡ true → InHead (scope G) u a → lies G xs l ≡ Some (n, u)
      → OwnRight G k → n + a ≡ k → ⊥
  cell_no_own_right l n k u a mine c h r e = by l.owner l.path mine h r
    where
      by : (o : Owner) (p : Path) → in_sight G o ≡ true → part_at G xs o p ≡ Some (n, u) → OwnRight G k → ⊥
      by o [] m h r = absurd (some_is_not_none (n, u) (sym h))
      by o (ByIndex i ∷ p) m h r = absurd (some_is_not_none (n, u) (sym h))
      by (OfProcess q) (ByName x ∷ p) m h (inl r) =
          let C = component_cell G xs top q x p n u a c h in
          let same = same_some C.1.0 r.0 (sym C.1.1 ∙ (ap (system_of_process G.setup) (sym C.0) ∙ r.1)) in
          absurd (omega (arith, C.1.3, ap (head_words (scope G)) same, r.2, e))
      by (OfActivation q d) (ByName x ∷ p) m h (inl r) =
          let A = activation_cell G xs q d x p n u h in
          absurd (omega (arith, (local_cell_inside (scope G) A.activation x p n u a c A.found).0, (found_inside G top d xs A.activation stack.stack A.is).1 r.0 r.1, r.2, e))
      by (OfMonitor z) (ByName x ∷ p) m h (inl r) = absurd (omega (arith, (found_monitor G xs z x p n u h).place, bottom_below G top xs stack.stack r.0 r.1, stack.fits, r.2, e))
      by (OfProcess q) (ByName x ∷ p) m h (inr r) = absurd (omega (arith, own_cell (OfProcess q) x p n u a refl c h, stack.fits, r.6, e))
      by (OfActivation q d) (ByName x ∷ p) m h (inr r) = absurd (omega (arith, own_cell (OfActivation q d) x p n u a refl c h, stack.fits, r.6, e))
      by (OfMonitor z) (ByName x ∷ p) m h (inr r) = inner (nat_eq z r.0) refl (found_monitor G xs z x p n u h) (head_inside (scope G) u a c)
        where
          inner : (t : Bool) → nat_eq z r.0 ≡ t → (M : FoundMonitor G z x p n u) → a < words (scope G) u → ⊥
          inner true t M below =
              let owners : z ≡ r.0 = eqb-true z r.0 t in
              let systems : M.system ≡ r.1 = same_some M.system r.1 (sym M.is ∙ (ap (system_of_monitor G.setup) owners ∙ r.4)) in
              let above = member_above (scope G) (head_words (scope G) M.system) (declared.reported_members (scope G) M.system) x p M.far u M.there in
              omega (arith, M.place, r.6, ap (monitor_start G.program) owners, ap (head_words (scope G)) systems, above, r.5, e)
          inner false t M below = blocks ((monitor_seen G z m).0.apart z r.0 M.system r.1 M.is r.4 (λ s. true≢false (sym (eq-eqb z r.0 s) ∙ t)))
            where
              blocks : Apart (monitor_start G.program z) (component_words (scope G) M.system) (monitor_start G.program r.0) (component_words (scope G) r.1) → ⊥
              blocks (inl s) = omega (arith, s, M.place, r.6, M.fits, below, r.5, e)
              blocks (inr s) = omega (arith, s, M.place, r.6, M.fits, below, r.5, e)

  -- The places of rights.
  pub own_right_below : (n : ℕ) → OwnRight G n → (n < top) ⊎ (G.own ≤ n)
  own_right_below n (inl r) = inl (omega (arith, r.2, bottom_below G top xs stack.stack r.0 r.1))
  own_right_below n (inr r) = inr (omega (arith, r.6))

  pub own_right_inside : (n : ℕ) → OwnRight G n → n < whole G
  own_right_inside n (inl r) = omega (arith, r.2, bottom_below G top xs stack.stack r.0 r.1, stack.fits, own_in_whole G)
  own_right_inside n (inr r) = let S = monitor_seen G r.0 r.3 in omega (arith, r.6, r.5, S.0.inside r.0 r.1 r.4, S.1)

  -- A word of an activation is no right of a component.
  pub local_no_own_right : (d n : ℕ) (z : Activation) → activation_at d xs ≡ Some z → z.base ≤ n → n < z.base + activation_words (scope G) z.routine → OwnRight G n → ⊥
  local_no_own_right d n z h low high (inl r) = absurd (omega (arith, low, (found_inside G top d xs z stack.stack h).1 r.0 r.1, r.2))
  local_no_own_right d n z h low high (inr r) = absurd (omega (arith, high, (found_inside G top d xs z stack.stack h).0, stack.fits, r.6))

  -- A `var` parameter of an activation shares its word with no part of a variable.
  pub cell_no_reference : (l : Location) (n : ℕ) (u : ResolvedType) (a : ℕ) (d : ℕ) (z : Activation) (x : Name) (at : ℕ) (v : declared.Variable)
      → in_sight G l.owner ≡ true → InHead (scope G) u a → lies G xs l ≡ Some (n, u)
      → activation_at d xs ≡ Some z → local (scope G) z.routine x ≡ Some (at, v) → v.by_reference ≡ true → n + a ≡ z.base + at → ⊥
  cell_no_reference l n u a d z x at v mine c h there is by_reference e = by l.owner l.path mine h
    where
      inside : (result_words z.routine.result ≤ at) × (at + local_words (scope G) v ≤ activation_words (scope G) z.routine)
      inside = local_inside (scope G) (result_words z.routine.result) (locals (scope G) z.routine) x at v is

      one : local_words (scope G) v ≡ 1
      one = ap (λ t. if t then 1 else words (scope G) v.type) by_reference

      by : (o : Owner) (p : Path) → in_sight G o ≡ true → part_at G xs o p ≡ Some (n, u) → ⊥
      by o [] m h = absurd (some_is_not_none (n, u) (sym h))
      by o (ByIndex i ∷ p) m h = absurd (some_is_not_none (n, u) (sym h))
      by (OfProcess q) (ByName y ∷ p) m h =
          let C = component_cell G xs top q y p n u a c h in
          absurd (omega (arith, C.1.4, (found_inside G top d xs z stack.stack there).1 C.1.0 (ap (system_of_process G.setup) C.0 ∙ C.1.1), e))
      by (OfActivation q f) (ByName y ∷ p) m h =
          let A = activation_cell G xs q f y p n u h in
          let i = local_cell_inside (scope G) A.activation y p n u a c A.found in
          inner A i (found_apart G top f d xs A.activation z stack.stack A.is there)
        where
          inner : (A : FoundActivation G xs q f y p n u) → ((A.activation.base ≤ n + a) × (n + a < A.activation.base + activation_words (scope G) A.activation.routine))
              → (f ≡ d) ⊎ ((A.activation.base + activation_words (scope G) A.activation.routine ≤ z.base) ⊎ (z.base + activation_words (scope G) z.routine ≤ A.activation.base)) → ⊥
          inner A i (inl s) =
              let same : A.activation ≡ z = same_some A.activation z (sym A.is ∙ (ap (λ k. activation_at k xs) s ∙ there)) in
              let F : FoundLocal (scope G) z y p n u = subst (λ k. FoundLocal (scope G) k y p n u) same A.found in
              last F (local_apart (scope G) (result_words z.routine.result) (locals (scope G) z.routine) y x F.at at F.variable v F.is is)
            where
              last : (F : FoundLocal (scope G) z y p n u) → (y ≡ x) ⊎ ((F.at + local_words (scope G) F.variable ≤ at) ⊎ (at + local_words (scope G) v ≤ F.at)) → ⊥
              last F (inl s) =
                  let found : ◌≡◌ {A = ℕ × declared.Variable} (F.at, F.variable) (at, v) = same_some (F.at, F.variable) (at, v) (sym F.is ∙ (ap (local (scope G) z.routine) s ∙ is)) in
                  absurd (true≢false (sym by_reference ∙ (ap (λ k. k.1.by_reference) (sym found) ∙ F.passive)))
              last F (inr (inl s)) = absurd (omega (arith, s, e, F.place, F.words, part_fits (scope G) F.variable.type p F.far u F.there, head_inside (scope G) u a c))
              last F (inr (inr s)) = absurd (omega (arith, s, e, F.place, one))
          inner A i (inr (inl s)) = absurd (omega (arith, s, i.1, e))
          inner A i (inr (inr s)) = absurd (omega (arith, s, i.0, e, inside.1, one))
      by (OfMonitor m) (ByName y ∷ p) mine h =
          absurd (omega (arith, (found_monitor G xs m y p n u h).place, inside.1, one, (found_inside G top d xs z stack.stack there).0, stack.fits, e))

  -- The result of an activation shares its word with no part of a variable.
  pub cell_no_result : (l : Location) (n : ℕ) (u : ResolvedType) (a : ℕ) (d : ℕ) (z : Activation) (t : Name)
      → in_sight G l.owner ≡ true → InHead (scope G) u a → lies G xs l ≡ Some (n, u)
      → activation_at d xs ≡ Some z → z.routine.result ≡ Some t → n + a ≡ z.base → ⊥
  cell_no_result l n u a d z t mine c h there is e = by l.owner l.path mine h
    where
      one : result_words z.routine.result ≡ 1
      one = ap result_words is

      by : (o : Owner) (p : Path) → in_sight G o ≡ true → part_at G xs o p ≡ Some (n, u) → ⊥
      by o [] m h = absurd (some_is_not_none (n, u) (sym h))
      by o (ByIndex i ∷ p) m h = absurd (some_is_not_none (n, u) (sym h))
      by (OfProcess q) (ByName y ∷ p) m h =
          let C = component_cell G xs top q y p n u a c h in
          absurd (omega (arith, C.1.4, (found_inside G top d xs z stack.stack there).1 C.1.0 (ap (system_of_process G.setup) C.0 ∙ C.1.1), e))
      by (OfActivation q f) (ByName y ∷ p) m h =
          let A = activation_cell G xs q f y p n u h in
          let i = local_cell_inside (scope G) A.activation y p n u a c A.found in
          inner A i (found_apart G top f d xs A.activation z stack.stack A.is there)
        where
          inner : (A : FoundActivation G xs q f y p n u) → ((A.activation.base ≤ n + a) × (n + a < A.activation.base + activation_words (scope G) A.activation.routine))
              → (f ≡ d) ⊎ ((A.activation.base + activation_words (scope G) A.activation.routine ≤ z.base) ⊎ (z.base + activation_words (scope G) z.routine ≤ A.activation.base)) → ⊥
          inner A i (inl s) =
              let same : A.activation ≡ z = same_some A.activation z (sym A.is ∙ (ap (λ k. activation_at k xs) s ∙ there)) in
              let F : FoundLocal (scope G) z y p n u = subst (λ k. FoundLocal (scope G) k y p n u) same A.found in
              absurd (omega (arith, e, F.place, one, (local_inside (scope G) (result_words z.routine.result) (locals (scope G) z.routine) y F.at F.variable F.is).0))
          inner A i (inr (inl s)) = absurd (omega (arith, s, i.1, e))
          inner A i (inr (inr s)) = absurd (omega (arith, s, i.0, e, one))
      by (OfMonitor m) (ByName y ∷ p) mine h =
          absurd (omega (arith, (found_monitor G xs m y p n u h).place, one, (found_inside G top d xs z stack.stack there).0, stack.fits, e))

  -- Words of two activations at different depths are apart.
  pub locals_apart : (d f n m : ℕ) (z y : Activation) → activation_at d xs ≡ Some z → activation_at f xs ≡ Some y → (d ≡ f → ⊥)
      → z.base ≤ n → n < z.base + activation_words (scope G) z.routine → y.base ≤ m → m < y.base + activation_words (scope G) y.routine → n ≡ m → ⊥
  locals_apart d f n m z y h k differ a b c e same = by (found_apart G top d f xs z y stack.stack h k)
    where
      by : (d ≡ f) ⊎ ((z.base + activation_words (scope G) z.routine ≤ y.base) ⊎ (y.base + activation_words (scope G) y.routine ≤ z.base)) → ⊥
      by (inl s) = differ s
      by (inr (inl s)) = absurd (omega (arith, s, b, c, same))
      by (inr (inr s)) = absurd (omega (arith, s, a, e, same))
