-- A new activation holds its parameters, the start values of its variables and no result.
--
-- All names of a routine differ, so what is found is either a parameter, which holds what was
-- bound, or a variable, whose simple parts are leaves that are written once, after the result is
-- made unset.
use Rattle.std.proofs.Common.{◌≡◌, ◌⊎◌, inl, inr, ℕ, suc, ◌+◌, ◌≤◌, ◌<◌, ℤ, Bool, true, false, List, [], ◌∷◌, ◌++◌, length, Option, Some, None, refl, ap, sym, subst, ◌∙◌, arith}
use Rattle.std.specs.Prelude.{◌*◌, if◌then◌else◌, slice_get}
use Rattle.std.proofs.lemmas.Bool.{eq-eqb, true≢false}
use Rattle.std.specs.Str.{bytes_eq}
use Rattle.cp_model.specs.Abstract.{Name, Routine, System}
use Rattle.cp_model.specs.Assignments.{starting_writes}
use Rattle.cp_model.specs.Declarations.{Variable, declarations}
use Rattle.cp_model.specs.Environments.{local_variables, permanent_variables, result_variable}
use Rattle.cp_model.specs.Locations.{ByIndex, ByName, OfActivation, Path, root, under}
use Rattle.cp_model.specs.Names.{lookup}
use Rattle.cp_model.specs.Places.{within}
use Rattle.cp_model.specs.Stores.{Absent, Ordinal, Store, Writes, forget, put_all}
use Rattle.cp_model.specs.Types.{ArrayOf, ComponentOf, GlobalScope, Members, MoreMembers, NoMembers, NoType, Queue, RecordOf, ResolvedType, Simple}
use Rattle.cp_model.proofs.Options.{same_some}
use Rattle.cp_law_typing.specs.Declared.{Distinct, Each, RoutineVariable}
use Rattle.cp_law_typing.specs.Judgement.{has_queues}
use Rattle.cp_law_typing.specs.Needs.{result_words}
use Rattle.cp_law_typing.specs.SoundTypes.{SoundMembers, SoundType}
use Rattle.cp_law_typing.specs.StartValues.{IsIn}
use Rattle.cp_law_typing.specs.Words.{words}
use Rattle.cp_law_typing.proofs.Names.{bytes_same}
use Rattle.cp_model_program.specs.Programs.{CodeUnit}
use Rattle.cp_model_program.specs.Layout.{activation_words, distance, farther, local, local_at, local_words, member_part, natural, part}
use Rattle.cp_model_program.specs.Sites.{RoutineOf}
use Rattle.cp_model_program.specs.IsProgramFor.{UnitRepresents}
use Rattle.cp_model_program.specs.Starts.{carry_out, word}
use Rattle.cp_model_machine.specs.Means.{CellMeans, ReferenceMeans}
use Rattle.cp_model_machine.specs.Addresses.{Activation, Ground, activation_at, lies, part_at, part_of_activation, part_of_local, scope}
use Rattle.cp_model_machine.specs.PartOf.{ResultMeans}
use Rattle.cp_model_machine.proofs.Apart.{IsCell}
use Rattle.cp_model_machine.proofs.Declared.{absent_first, absent_later, distinct_first, distinct_later, result_unnamed}
use Rattle.cp_model_machine.proofs.Entering.{Opened}
use Rattle.cp_model_machine.proofs.Finding.{some_is_not_none}
use Rattle.cp_model_machine.proofs.Heres.{found_here}
use Rattle.cp_model_machine.proofs.Passing.{Has, ParameterHas, parameter_at}
use Rattle.cp_model_machine.proofs.Owned.{local_inside}
use Rattle.cp_model_machine.proofs.Apart.{cell_has_word}
use Rattle.cp_model_machine.proofs.Bounds.{part_fits}
use Rattle.cp_model_machine.proofs.Copying.{holds_simple}
use Rattle.cp_model_machine.proofs.StartLeaves.{IsSimple, found_farther, simple_part, starts_keep, starts_write, type_is}
use Rattle.cp_law_typing.proofs.Locations.{same_owner_itself}

-- ---- variables that are found

-- A local variable is found among the parameters, or after them among the variables.
pub local_either : (g : GlobalScope) (n : ℕ) (ps vs : List (Name × Variable)) (x : Name) (k : ℕ) (d : Variable) → local_at g n (ps ++ vs) x ≡ Some (k, d)
    → (local_at g n ps x ≡ Some (k, d)) ⊎ ((v : Name × Variable) × (i : ℕ) × (slice_get vs i ≡ Some v) × IsIn v vs × (v.0 ≡ x) × (v.1 ≡ d))
local_either g n [] [] x k d h = absurd (some_is_not_none _ (sym h))
local_either g n [] (w ∷ vs) x k d h = by (bytes_eq x w.0) refl h (local_either g (n + local_words g w.1) [] vs x k d)
  where
    by : (b : Bool) → bytes_eq x w.0 ≡ b → (if b then Some (n, w.1) else local_at g (n + local_words g w.1) vs x) ≡ Some (k, d)
        → (local_at g (n + local_words g w.1) vs x ≡ Some (k, d) → (local_at g (n + local_words g w.1) [] x ≡ Some (k, d)) ⊎ ((v : Name × Variable) × (i : ℕ) × (slice_get vs i ≡ Some v) × IsIn v vs × (v.0 ≡ x) × (v.1 ≡ d)))
        → (local_at g n [] x ≡ Some (k, d)) ⊎ ((v : Name × Variable) × (i : ℕ) × (slice_get (w ∷ vs) i ≡ Some v) × IsIn v (w ∷ vs) × (v.0 ≡ x) × (v.1 ≡ d))
    by true e h go = inr (w, 0, refl, inl refl, sym (bytes_same x w.0 e), ap (λ z. z.1) (same_some {A = ℕ × Variable} (n, w.1) (k, d) h))
    by false e h go = elim (go h) [
      | inl f ↦ absurd (some_is_not_none _ (sym f))
      | inr f ↦ inr (f.0, suc f.1, f.2, inr f.3, f.4, f.5)
    ]
local_either g n (p ∷ ps) vs x k d h = by (bytes_eq x p.0) h (local_either g (n + local_words g p.1) ps vs x k d)
  where
    by : (b : Bool) → (if b then Some (n, p.1) else local_at g (n + local_words g p.1) (ps ++ vs) x) ≡ Some (k, d)
        → (local_at g (n + local_words g p.1) (ps ++ vs) x ≡ Some (k, d) → (local_at g (n + local_words g p.1) ps x ≡ Some (k, d)) ⊎ ((v : Name × Variable) × (i : ℕ) × (slice_get vs i ≡ Some v) × IsIn v vs × (v.0 ≡ x) × (v.1 ≡ d)))
        → ((if b then Some (n, p.1) else local_at g (n + local_words g p.1) ps x) ≡ Some (k, d)) ⊎ ((v : Name × Variable) × (i : ℕ) × (slice_get vs i ≡ Some v) × IsIn v vs × (v.0 ≡ x) × (v.1 ≡ d))
    by true h go = inl h
    by false h go = go h

each_at : (P : Name × Variable → Type 0) (vs : List (Name × Variable)) (v : Name × Variable) → Each P vs → IsIn v vs → P v
each_at P [] v h i = absurd i
each_at P (w ∷ vs) v h (inl e) = subst P (sym e) h.0
each_at P (w ∷ vs) v h (inr i) = each_at P vs v h.1 i

-- If all names are distinct, no name of the first list is in the second.
names_apart : (x : Name) (k n : ℕ) (d : Variable) (g : GlobalScope) (ps ws : List (Name × Variable)) → Distinct (ps ++ ws) → local_at g n ps x ≡ Some (k, d) → lookup x ws ≡ None
names_apart x k n d g [] ws h e = absurd (some_is_not_none _ (sym e))
names_apart x k n d g (p ∷ ps) ws h e = by (bytes_eq x p.0) refl e (names_apart x k (n + local_words g p.1) d g ps ws h.1)
  where
    by : (b : Bool) → bytes_eq x p.0 ≡ b → (if b then Some (n, p.1) else local_at g (n + local_words g p.1) ps x) ≡ Some (k, d)
        → (local_at g (n + local_words g p.1) ps x ≡ Some (k, d) → lookup x ws ≡ None) → lookup x ws ≡ None
    by true q e go = ap (λ z. lookup z ws) (bytes_same x p.0 q) ∙ absent_later p.0 ps ws h.0
    by false q e go = go e

-- ---- parts that hold values

mutual
  -- A part of data that holds a value is simple.
  cell_is_simple : (g : GlobalScope) (t : ResolvedType) (path : Path) (m : ℕ) (u : ResolvedType) → SoundType t → has_queues t ≡ false → part g t path ≡ Some (m, u) → IsCell u → IsSimple u
  cell_is_simple g (Simple b low high start) path m u sound none e c = subst IsSimple (simple_part g (Simple b low high start) path m u tt e).2 tt
  cell_is_simple g (ArrayOf l h t) [] m u sound none e c = absurd (subst IsCell (sym (type_is 0 (ArrayOf l h t) m u e)) c)
  cell_is_simple g (ArrayOf l h t) (ByName x ∷ path) m u sound none e c = absurd (some_is_not_none _ (sym e))
  cell_is_simple g (ArrayOf l h t) (ByIndex i ∷ path) m u sound none e c = by (within l h i) e (λ k q. cell_is_simple g t path k u sound.1 none q c)
    where
      by : (b : Bool) → (if b then farther (distance l i * words g t) (part g t path) else None) ≡ Some (m, u) → ((k : ℕ) → part g t path ≡ Some (k, u) → IsSimple u) → IsSimple u
      by false e go = absurd (some_is_not_none _ (sym e))
      by true e go = let k = found_farther (distance l i * words g t) (part g t path) m u e in go k.0 k.1
  cell_is_simple g (RecordOf ms) [] m u sound none e c = absurd (subst IsCell (sym (type_is 0 (RecordOf ms) m u e)) c)
  cell_is_simple g (RecordOf ms) (ByIndex i ∷ path) m u sound none e c = absurd (some_is_not_none _ (sym e))
  cell_is_simple g (RecordOf ms) (ByName x ∷ path) m u sound none e c = member_is_simple g 0 ms x path m u sound e c
  cell_is_simple g Queue path m u sound none e c = absurd (true≢false none)
  cell_is_simple g (ComponentOf s inner) path m u sound none e c = absurd sound
  cell_is_simple g NoType path m u sound none e c = absurd sound

  member_is_simple : (g : GlobalScope) (at : ℕ) (ms : Members) (x : Name) (path : Path) (m : ℕ) (u : ResolvedType) → SoundMembers ms → member_part g at ms x path ≡ Some (m, u) → IsCell u → IsSimple u
  member_is_simple g at NoMembers x path m u sound e c = absurd (some_is_not_none _ (sym e))
  member_is_simple g at (MoreMembers y t ms) x path m u sound e c =
      by (bytes_eq x y) e (λ k q. cell_is_simple g t path k u sound.0 sound.3 q c) (λ q. member_is_simple g (at + words g t) ms x path m u sound.2 q c)
    where
      by : (b : Bool) → (if b then farther at (part g t path) else member_part g (at + words g t) ms x path) ≡ Some (m, u)
          → ((k : ℕ) → part g t path ≡ Some (k, u) → IsSimple u) → (member_part g (at + words g t) ms x path ≡ Some (m, u) → IsSimple u) → IsSimple u
      by true e here later = let k = found_farther at (part g t path) m u e in here k.0 k.1
      by false e here later = later e

-- A type whose variables hold only simple values.
abbrev pub HoldsValues : ResolvedType → Type 0
HoldsValues t = IsSimple t ⊎ (SoundType t × (has_queues t ≡ false))

part_is_simple : (g : GlobalScope) (t : ResolvedType) (path : Path) (m : ℕ) (u : ResolvedType) → HoldsValues t → part g t path ≡ Some (m, u) → IsCell u → IsSimple u
part_is_simple g t path m u (inl s) e c = subst IsSimple (simple_part g t path m u s e).2 s
part_is_simple g t path m u (inr h) e c = cell_is_simple g t path m u h.0 h.1 e c

-- ---- the activation

module _ (G : Ground) (ys : List Activation) (sys : System) (r : Routine) (u : CodeUnit) (represents : UnitRepresents G.program G.texts (scope G) u (RoutineOf sys r)) (base : ℕ) (store : Store) (ws : Writes) (new : List ℤ)
    (room : base + activation_words (scope G) r ≤ length new)
    (holds : (x : Name) (k : ℕ) (d : Variable) → local_at (scope G) (result_words r.result) (declarations (scope G) r.parameters) x ≡ Some (k, d)
    → ParameterHas (scope G) (lies G ys) d (parameter_at (OfActivation G.p (length ys)) x) (put_all ws (forget (OfActivation G.p (length ys)) store)) new (base + k))
    (names : (x : Name) → lookup x (declarations (scope G) r.parameters) ≡ None
    → put_all ws (forget (OfActivation G.p (length ys)) store) (parameter_at (OfActivation G.p (length ys)) x) ≡ forget (OfActivation G.p (length ys)) store (parameter_at (OfActivation G.p (length ys)) x))
    (plain : (x : Name) (k : ℕ) (d : Variable) → local_at (scope G) (result_words r.result) (declarations (scope G) r.parameters) x ≡ Some (k, d) → d.by_reference ≡ false → HoldsValues d.type) where
  abbrev pub new_store : Store
  new_store = put_all (starting_writes (root (OfActivation G.p (length ys))) (declarations (scope G) r.variables)) (put_all ws (forget (OfActivation G.p (length ys)) store))

  abbrev pub new_words : List ℤ
  new_words = carry_out base u.starts new

  abbrev parameters : List (Name × Variable)
  parameters = declarations (scope G) r.parameters

  abbrev variables : List (Name × Variable)
  variables = declarations (scope G) r.variables

  -- The store in which the parameters are bound.
  abbrev bound : Store
  bound = put_all ws (forget (OfActivation G.p (length ys)) store)

  both_distinct : Distinct (parameters ++ (variables ++ result_variable (scope G) r.name r.result))
  both_distinct = distinct_first (local_variables (scope G) r) (permanent_variables (scope G) sys) represents.2

  variables_distinct : Distinct variables
  variables_distinct =
      distinct_first variables (result_variable (scope G) r.name r.result) (distinct_later parameters (variables ++ result_variable (scope G) r.name r.result) both_distinct)

  no_variable : (x : Name) (k : ℕ) (d : Variable) → local_at (scope G) (result_words r.result) parameters x ≡ Some (k, d) → lookup x variables ≡ None
  no_variable x k d e =
      absent_first x variables (result_variable (scope G) r.name r.result)
      (names_apart x k (result_words r.result) d (scope G) parameters (variables ++ result_variable (scope G) r.name r.result) both_distinct e)

  parameter_kept : (x : Name) (path : Path) (k m : ℕ) (d : Variable) → local_at (scope G) (result_words r.result) parameters x ≡ Some (k, d) → m < local_words (scope G) d
      → (new_store (under (parameter_at (OfActivation G.p (length ys)) x) path) ≡ bound (under (parameter_at (OfActivation G.p (length ys)) x) path))
      × (word new_words (base + k + m) ≡ word new (base + k + m))
  parameter_kept x path k m d e less =
      let inside = local_inside (scope G) (result_words r.result) parameters x k d e in (
        starts_keep (OfActivation G.p (length ys)) x path variables _ variables_distinct (no_variable x k d e),
        represents.0.outside base new (base + k + m) room (inl (omega (arith, inside.1, less)))
            (λ t is q. absurd (omega (arith, q, inside.0, ap result_words is, one_word t))),
      )
    where
      one_word : (t : Name) → result_words (Some t) ≡ 1
      one_word t = refl

  references_mean : (x : Name) (k : ℕ) (d : Variable) → local (scope G) r x ≡ Some (k, d) → d.by_reference ≡ true
      → ReferenceMeans (lies G ys) (new_store (parameter_at (OfActivation G.p (length ys)) x)) (word new_words (base + k)) d.type
  references_mean x k d e by_reference = by (local_either (scope G) (result_words r.result) parameters variables x k d e)
    where
      by : (local_at (scope G) (result_words r.result) parameters x ≡ Some (k, d)) ⊎ ((v : Name × Variable) × (i : ℕ) × (slice_get variables i ≡ Some v) × IsIn v variables × (v.0 ≡ x) × (v.1 ≡ d))
          → ReferenceMeans (lies G ys) (new_store (parameter_at (OfActivation G.p (length ys)) x)) (word new_words (base + k)) d.type
      by (inl f) =
          let kept = parameter_kept x [] k 0 d f (subst (λ b. 0 < (if b then 1 else words (scope G) d.type)) (sym by_reference) (omega arith)) in
          let h = subst (λ b. Has b (scope G) (lies G ys) d.type (parameter_at (OfActivation G.p (length ys)) x) bound new (base + k)) by_reference (holds x k d f) in
          let place_is : base + k + 0 ≡ base + k = omega arith in
          (h.0, kept.0 ∙ h.1, h.2 ∙ ap (λ z. Some (natural z, d.type)) (sym (sym (ap (word new_words) place_is) ∙ (kept.1 ∙ ap (word new) place_is))))
      by (inr f) =
          absurd (true≢false (sym by_reference ∙ (ap (λ (v : Variable). v.by_reference) (sym f.5) ∙ (each_at (RoutineVariable (scope G)) variables f.0 represents.3 f.3).2)))

  result_means : (t : Name) → r.result ≡ Some t → ResultMeans (new_store (parameter_at (OfActivation G.p (length ys)) r.name)) (word new_words base)
  result_means t is =
      let unnamed = result_unnamed (scope G) sys r t represents.2 is in
      subst (λ z. ResultMeans z (word new_words base)) (sym (nothing unnamed)) (represents.0.result base new t room is)
    where
      nothing : lookup r.name (parameters ++ variables) ≡ None → new_store (parameter_at (OfActivation G.p (length ys)) r.name) ≡ Absent
      nothing unnamed =
          starts_keep (OfActivation G.p (length ys)) r.name [] variables _ variables_distinct (absent_later r.name parameters variables unnamed)
          ∙ (names r.name (absent_first r.name parameters variables unnamed)
          ∙ ap (λ b. if b then Absent else store (parameter_at (OfActivation G.p (length ys)) r.name)) (same_owner_itself (OfActivation G.p (length ys))))

  -- A part of a parameter or variable that holds a value.
  part_means : (x : Name) (path : Path) (k m : ℕ) (d : Variable) (t : ResolvedType) → local (scope G) r x ≡ Some (k, d) → d.by_reference ≡ false → part (scope G) d.type path ≡ Some (m, t) → IsCell t
      → CellMeans t (new_store (record { owner = OfActivation G.p (length ys); path = ByName x ∷ path })) (word new_words (base + (k + m)))
  part_means x path k m d t e by_value there c = by (local_either (scope G) (result_words r.result) parameters variables x k d e)
    where
      in_parameter : local_at (scope G) (result_words r.result) parameters x ≡ Some (k, d)
          → CellMeans t (new_store (record { owner = OfActivation G.p (length ys); path = ByName x ∷ path })) (word new_words (base + (k + m)))
      in_parameter f =
          let simple = part_is_simple (scope G) d.type path m t (plain x k d f by_value) there c in
          let h = subst (λ b. Has b (scope G) (lies G ys) d.type (parameter_at (OfActivation G.p (length ys)) x) bound new (base + k)) by_value (holds x k d f) in
          let all : local_words (scope G) d ≡ words (scope G) d.type = ap (λ b. if b then 1 else words (scope G) d.type) by_value in
          let kept = parameter_kept x path k m d f (omega (arith, all, part_fits (scope G) d.type path m t there, cell_has_word (scope G) t c)) in
          let place_is : base + k + m ≡ base + (k + m) = omega arith in
          holds_simple t (new_store (record { owner = OfActivation G.p (length ys); path = ByName x ∷ path })) (word new_words (base + (k + m))) simple
          (kept.0 ∙ (h path m t simple there ∙ ap Ordinal (sym kept.1 ∙ ap (word new_words) place_is)))

      in_variable : (v : Name × Variable) (i : ℕ) → slice_get variables i ≡ Some v → IsIn v variables → v.0 ≡ x → v.1 ≡ d
          → CellMeans t (new_store (record { owner = OfActivation G.p (length ys); path = ByName x ∷ path })) (word new_words (base + (k + m)))
      in_variable v i at is name type =
          let known = each_at (RoutineVariable (scope G)) variables v represents.3 is in
          let found : part (scope G) v.1.type path ≡ Some (m, t) = ap (λ (z : Variable). part (scope G) z.type path) type ∙ there in
          let local_is : local (scope G) r v.0 ≡ Some (k, v.1) = ap (local (scope G) r) name ∙ (e ∙ ap (λ z. Some (k, z)) (sym type)) in
          subst (λ z. CellMeans t (new_store (record { owner = OfActivation G.p (length ys); path = ByName z ∷ path })) (word new_words (base + (k + m)))) name
          (written t (cell_is_simple (scope G) v.1.type path m t known.0.0 known.1 found c) found local_is known.0.0)
        where
          written : (y : ResolvedType) → IsSimple y → part (scope G) v.1.type path ≡ Some (m, y) → local (scope G) r v.0 ≡ Some (k, v.1) → SoundType v.1.type
              → CellMeans y (new_store (record { owner = OfActivation G.p (length ys); path = ByName v.0 ∷ path })) (word new_words (base + (k + m)))
          written (Simple b low high start) s f l sound =
              starts_write (scope G) (OfActivation G.p (length ys)) v.0 v.1 path variables _ m b low high start variables_distinct is sound f
              ∙ ap Ordinal (sym (represents.0.variables base new room v i k m path b low high start at l f))
          written (ArrayOf low high y) s f l sound = absurd s
          written (RecordOf ms) s f l sound = absurd s
          written Queue s f l sound = absurd s
          written (ComponentOf y inner) s f l sound = absurd s
          written NoType s f l sound = absurd s

      by : (local_at (scope G) (result_words r.result) parameters x ≡ Some (k, d)) ⊎ ((v : Name × Variable) × (i : ℕ) × (slice_get variables i ≡ Some v) × IsIn v variables × (v.0 ≡ x) × (v.1 ≡ d))
          → CellMeans t (new_store (record { owner = OfActivation G.p (length ys); path = ByName x ∷ path })) (word new_words (base + (k + m)))
      by (inl f) = in_parameter f
      by (inr f) = in_variable f.0 f.1 f.2 f.3 f.4 f.5

  abbrev new_activation : Activation
  new_activation = record { base = base; routine = r }

  lies_here : (x : Name) (path : Path) → lies G (record { base = base; routine = r } ∷ ys) (record { owner = OfActivation G.p (length ys); path = ByName x ∷ path }) ≡ farther base (part_of_local (scope G) (local (scope G) r x) path)
  lies_here x path =
      ap (λ b. if b then part_of_activation (scope G) (activation_at (length ys) (record { base = base; routine = r } ∷ ys)) x path else None) (eq-eqb G.p G.p refl)
      ∙ ap (λ z. part_of_activation (scope G) z x path) (found_here (length ys) (record { base = base; routine = r }) ys refl)

  cells_mean : (path : Path) (n : ℕ) (t : ResolvedType) → IsCell t → lies G (record { base = base; routine = r } ∷ ys) (record { owner = OfActivation G.p (length ys); path = path }) ≡ Some (n, t)
      → CellMeans t (new_store (record { owner = OfActivation G.p (length ys); path = path })) (word new_words n)
  cells_mean [] n t c h = absurd (some_is_not_none _ (sym h))
  cells_mean (ByIndex i ∷ path) n t c h = absurd (some_is_not_none _ (sym h))
  cells_mean (ByName x ∷ path) n t c h = by (local (scope G) r x) refl (sym (lies_here x path) ∙ h)
    where
      value : (k : ℕ) (d : Variable) (b : Bool) → d.by_reference ≡ b → local (scope G) r x ≡ Some (k, d) → farther base (if b then None else farther k (part (scope G) d.type path)) ≡ Some (n, t)
          → CellMeans t (new_store (record { owner = OfActivation G.p (length ys); path = ByName x ∷ path })) (word new_words n)
      value k d true b e f = absurd (some_is_not_none _ (sym f))
      value k d false b e f =
          let far = found_farther base (farther k (part (scope G) d.type path)) n t f in
          let near = found_farther k (part (scope G) d.type path) far.0 t far.1 in
          let place_is : base + (k + near.0) ≡ n = omega (arith, far.2, near.2) in
          subst (λ z. CellMeans t (new_store (record { owner = OfActivation G.p (length ys); path = ByName x ∷ path })) (word new_words z)) place_is
          (part_means x path k near.0 d t e b near.1 c)

      by : (o : Option (ℕ × Variable)) → local (scope G) r x ≡ o → farther base (part_of_local (scope G) o path) ≡ Some (n, t)
          → CellMeans t (new_store (record { owner = OfActivation G.p (length ys); path = ByName x ∷ path })) (word new_words n)
      by None e f = absurd (some_is_not_none _ (sym f))
      by (Some v) e f = value v.0 v.1 v.1.by_reference refl e f

  pub opened : Opened G ys new_store new_words base (record { owner = OfActivation G.p (length ys); routine = r })
  opened = record {
    frame = record { references = references_mean; result = λ t is none. result_means t is };
    cells = λ l n t e c h.
        subst (λ o. CellMeans t (new_store (record { owner = o; path = l.path })) (word new_words n)) (sym e)
        (cells_mean l.path n t c (ap (λ o. part_at G (record { base = base; routine = r } ∷ ys) o l.path) (sym e) ∙ h));
  }
