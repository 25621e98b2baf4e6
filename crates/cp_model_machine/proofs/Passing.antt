-- Arguments that are passed to a new activation are what the definition binds to its parameters.
--
-- By induction on the parameters: an argument is written at a new name and beyond all that is in
-- use. So the earlier ones stay bound (`Bound`), and the later ones are evaluated as before
-- (`Stays`).
use Rattle.std.proofs.Common.{◌≡◌, ◌⊎◌, inl, inr, ℕ, ◌+◌, ◌≤◌, ◌<◌, ℤ, pos, List, [], ◌∷◌, ◌++◌, length, Bool, true, false, Option, Some, None, Result, Ok, Err, refl, ap, sym, subst, ◌∙◌, arith}
use Rattle.std.specs.Prelude.{◌&&◌, if◌then◌else◌, slice_set}
use Rattle.std.proofs.lemmas.Bool.{true≢false}
use Rattle.std.proofs.lemmas.List.{get_or-set_same, length-set}
use Rattle.cp_model.specs.Abstract as a
use Rattle.cp_model.specs.Abstract.{BaseType, Name}
use Rattle.cp_model.specs.Arguments.{argument_writes, bind, designator_of, reference_writes}
use Rattle.cp_model.specs.Assignments.{writes_of}
use Rattle.cp_model.specs.Calls.{call_in_arguments, call_in_designator, first_call, in_context, user_call}
use Rattle.cp_model.specs.Declarations as declared
use Rattle.cp_model.specs.Environments.{Environment}
use Rattle.cp_model.specs.Expressions.{place, value}
use Rattle.cp_model.specs.Leaves.{leaves}
use Rattle.cp_model.specs.Locations.{ByName, Location, Owner, Path, root, same_path, under}
use Rattle.cp_model.specs.Names.{lookup}
use Rattle.std.specs.Str.{bytes_eq}
use Rattle.cp_law_typing.proofs.Names.{bytes_eq-refl, bytes_same}
use Rattle.cp_law_typing.specs.Declared.{Distinct}
use Rattle.cp_law_typing.specs.Words.{words}
use Rattle.cp_model.specs.Operators.{Clock}
use Rattle.cp_model.specs.Outcomes as outcomes
use Rattle.cp_model.specs.Outcomes.{Fault, Gives, Outcome, and_then}
use Rattle.cp_model.specs.Places.{Place, TypedValue, ordinal_in, read, within}
use Rattle.cp_model.specs.StateViews.{fault_number}
use Rattle.cp_model.specs.Stores.{Ordinal, Reference as Refers, Store, Value as StoreValue, Writes, put, put_all}
use Rattle.cp_model.specs.Types.{GlobalScope, ResolvedType, Simple}
use Rattle.cp_model.specs.declared.state.Fault as machine
use Rattle.cp_model.specs.declared.state.Fault.TheVariants as fault
use Rattle.cp_model.proofs.Options.{same_some}
use Rattle.cp_model_program.specs.Terms.{Argument, Copy, Reference as Refer, Value}
use Rattle.cp_model_program.specs.Starts.{block, paste, word}
use Rattle.cp_model_machine.specs.Values.{place_of, value_of}
use Rattle.cp_model_program.specs.Layout.{Part, local_at, local_words, locals_words, natural, part}
use Rattle.cp_model_program.specs.Sites.{Site}
use Rattle.cp_model_program.specs.TermsFor.{Agrees, ArgumentsFor, IsPlainStructure, Knowns}
use Rattle.cp_model_machine.specs.Means.{Here, PlaceAgrees}
use Rattle.cp_model_program.specs.StatementsFor.{either}
use Rattle.cp_model_machine.specs.PrivateStates.{StepContext, PrivateState, view_of}
use Rattle.cp_model_machine.specs.Passing.{Passing, pass_all, pass_copy, pass_result, pass_word, reference_word, unless_fault}
use Rattle.cp_model_machine.proofs.Apart.{cell_has_word}
use Rattle.cp_model_machine.proofs.Bounds.{part_fits}
use Rattle.cp_model_machine.proofs.Copying.{copied_length, copied_outside, copied_word, leaf_unwritten, leaf_writes, leaf_written, read_below, simple_cell, simple_holds, structure_writes}
use Rattle.cp_model_machine.proofs.Finding.{in_context_none, or_else_none, some_is_not_none}
use Rattle.cp_model_machine.proofs.Evaluates.{ordinal_is, place_agrees, value_agrees, value_reads}
use Rattle.cp_model_machine.proofs.Layouts.{PartsLie}
use Rattle.cp_model_machine.proofs.Rooms.{refers}
use Rattle.cp_model_machine.proofs.StartLeaves.{IsSimple, first_name, simple_part}
use Rattle.cp_model_machine.proofs.Puts.{bytes_eq_turned, put_all_two}
use Rattle.cp_law_typing.proofs.Locations.{same_owner_itself}
use Rattle.cp_model_machine.proofs.Writing.{changed_other}

-- The words outside the parameters are as before.
abbrev pub SameOutside : ℕ → ℕ → List ℤ → List ℤ → Type 0
SameOutside from to ws us = (i : ℕ) → (i < from) ⊎ (to ≤ i) → word us i ≡ word ws i

-- The number of words is the same, and the words outside are as they were.
abbrev pub KeptOutside : ℕ → ℕ → List ℤ → List ℤ → Type 0
KeptOutside from to ws us = (length us ≡ length ws) × SameOutside from to ws us

abbrev pub parameter_at : Owner → Name → Location
parameter_at n x = under (root n) (ByName x ∷ [])

-- A variable of the type in the store and its words, which hold the place it refers to or the
-- values of its parts.
abbrev pub Has : Bool → GlobalScope → (Location → Option Part) → ResolvedType → Location → Store → List ℤ → ℕ → Type 0
Has by_reference g lies t l st ws at =
    either by_reference
    ((j : Location) × (st l ≡ Refers j) × (lies j ≡ Some (natural (word ws at), t)))
    ((path : Path) (m : ℕ) (u : ResolvedType) → IsSimple u → part g t path ≡ Some (m, u) → st (under l path) ≡ Ordinal (word ws (at + m)))

-- A parameter in the store, and its words in the new activation.
abbrev pub ParameterHas : GlobalScope → (Location → Option Part) → declared.Variable → Location → Store → List ℤ → ℕ → Type 0
ParameterHas g lies d l st ws at = Has d.by_reference g lies d.type l st ws at

-- The words from `to` on hold what is bound in the store. The first of these parameters is `at`
-- words after `to`.
pub record Bound (site : Site) (lies : Location → Option Part) (n : Owner) (to at : ℕ) (ps : List (Name × declared.Variable)) (ws : Writes) (old new : List ℤ) : Type 0 where
  pub length_is : length new ≡ length old
  pub outside : SameOutside (to + at) (to + (at + locals_words site.env.globals ps)) old new
  pub parameters : (x : Name) (k : ℕ) (d : declared.Variable) (st : Store) → local_at site.env.globals at ps x ≡ Some (k, d)
      → ParameterHas site.env.globals lies d (parameter_at n x) (put_all ws st) new (to + k)
  pub names : (x : Name) (path : Path) (st : Store) → lookup x ps ≡ None → put_all ws st (under (parameter_at n x) path) ≡ st (under (parameter_at n x) path)

abbrev pub PassingAgrees : (Writes → List ℤ → Type 0) → (List ℤ → Type 0) → PrivateState → Outcome Writes → Passing → Type 0
PassingAgrees Well Kept o (Gives ws) p = (p.fault ≡ None) × (p.own ≡ record o { words = p.own.words }) × Well ws p.own.words
PassingAgrees Well Kept o (Fault k) p = (f : machine.Fault) × (p.fault ≡ Some f) × (k ≡ fault_number f) × (p.own ≡ record o { words = p.own.words }) × Kept p.own.words

-- ---- writes

put_here : (n : Owner) (x : Name) (v : StoreValue) (st : Store) → put (parameter_at n x) v st (parameter_at n x) ≡ v
put_here n x v st = λ i. if same_owner_itself n i && (bytes_eq-refl x i && true) then v else st (parameter_at n x)

put_away : (n : Owner) (x y : Name) (path : Path) (v : StoreValue) (st : Store) → bytes_eq x y ≡ false → put (parameter_at n x) v st (under (parameter_at n y) path) ≡ st (under (parameter_at n y) path)
put_away n x y path v st h = λ i. if same_owner_itself n i && (h i && same_path [] path) then v else st (under (parameter_at n y) path)

-- A parameter keeps its value if its locations and its words keep theirs.
has_kept : (g : GlobalScope) (lies : Location → Option Part) (d : declared.Variable) (n : Owner) (x : Name) (st after : Store) (old new : List ℤ) (at : ℕ)
    → ((path : Path) → after (under (parameter_at n x) path) ≡ st (under (parameter_at n x) path)) → ((m : ℕ) → m < local_words g d → word new (at + m) ≡ word old (at + m))
    → ParameterHas g lies d (parameter_at n x) st old at → ParameterHas g lies d (parameter_at n x) after new at
has_kept g lies d n x st after old new at keeps same h = by d.by_reference refl h
  where
    by : (b : Bool) → d.by_reference ≡ b → Has b g lies d.type (parameter_at n x) st old at → Has b g lies d.type (parameter_at n x) after new at
    by true e h =
        let one : local_words g d ≡ 1 = ap (λ t. if t then 1 else words g d.type) e in
        let first : word new at ≡ word old at = ap (word new) (omega arith) ∙ (same 0 (omega (arith, one)) ∙ ap (word old) (omega arith)) in
        (h.0, keeps [] ∙ h.1, h.2 ∙ ap (λ z. Some (natural z, d.type)) (sym first))
    by false e h =
        λ path m u simple there.
        let all : local_words g d ≡ words g d.type = ap (λ t. if t then 1 else words g d.type) e in
        keeps path ∙ (h path m u simple there ∙ ap Ordinal (sym (same m (omega (arith, all, part_fits g d.type path m u there, cell_has_word g u (simple_cell u simple))))))

-- One parameter more, with the writes for it.
prepend : (site : Site) (lies : Location → Option Part) (n : Owner) (to at : ℕ) (p : Name × declared.Variable) (ps : List (Name × declared.Variable)) (us : Writes) (top : ℕ) (ws mid : List ℤ)
    (x : PrivateState) (O : Outcome Writes) (P : Passing)
    → Distinct (p ∷ ps) → to + (at + local_words site.env.globals p.1) ≤ top → length mid ≡ length ws → SameOutside (to + at) (to + (at + local_words site.env.globals p.1)) ws mid
    → ((st : Store) → ParameterHas site.env.globals lies p.1 (parameter_at n p.0) (put_all us st) mid (to + at))
    → ((y : Name) (path : Path) (st : Store) → bytes_eq p.0 y ≡ false → put_all us st (under (parameter_at n y) path) ≡ st (under (parameter_at n y) path))
    → PassingAgrees (λ vs new. Bound site lies n to (at + local_words site.env.globals p.1) ps vs mid new) (KeptOutside to top mid) x O P
    → PassingAgrees (λ vs new. Bound site lies n to at (p ∷ ps) vs ws new) (KeptOutside to top ws) x (and_then O (λ more. Gives (us ++ more))) P
prepend site lies n to at p ps us top ws mid x (Fault k) P distinct room len out has other h =
    (h.0, h.1, h.2, h.3, (h.4.0 ∙ len, λ i g. h.4.1 i g ∙ out i (wider i g)))
  where
    wider : (i : ℕ) → (i < to) ⊎ (top ≤ i) → (i < to + at) ⊎ (to + (at + local_words site.env.globals p.1) ≤ i)
    wider i (inl q) = inl (omega (arith, q))
    wider i (inr q) = inr (omega (arith, q, room))
prepend site lies n to at p ps us top ws mid x (Gives more) P distinct room len out has other h = (
  h.0,
  h.1,
  record {
    length_is = B.length_is ∙ len;
    outside = λ i g. B.outside i (inner i g) ∙ out i (outer i g);
    parameters = λ y k d st e. by y k d st (bytes_eq y p.0) refl e;
    names = λ y path st e. missing y path st (bytes_eq y p.0) refl e;
  },
)
  where
    B : Bound site lies n to (at + local_words site.env.globals p.1) ps more mid P.own.words
    B = h.2

    inner : (i : ℕ) → (i < to + at) ⊎ (to + (at + locals_words site.env.globals (p ∷ ps)) ≤ i)
        → (i < to + (at + local_words site.env.globals p.1)) ⊎ (to + ((at + local_words site.env.globals p.1) + locals_words site.env.globals ps) ≤ i)
    inner i (inl q) = inl (omega (arith, q))
    inner i (inr q) = inr (omega (arith, q))

    outer : (i : ℕ) → (i < to + at) ⊎ (to + (at + locals_words site.env.globals (p ∷ ps)) ≤ i) → (i < to + at) ⊎ (to + (at + local_words site.env.globals p.1) ≤ i)
    outer i (inl q) = inl q
    outer i (inr q) = inr (omega (arith, q))

    here : (st : Store) → ParameterHas site.env.globals lies p.1 (parameter_at n p.0) (put_all (us ++ more) st) P.own.words (to + at)
    here st =
        subst (λ z. ParameterHas site.env.globals lies p.1 (parameter_at n p.0) z P.own.words (to + at)) (sym (put_all_two us more st))
        (has_kept site.env.globals lies p.1 n p.0 (put_all us st) (put_all more (put_all us st)) mid P.own.words (to + at)
        (λ path. B.names p.0 path (put_all us st) distinct.0) (λ m q. B.outside (to + at + m) (inl (omega (arith, q)))) (has st))

    by : (y : Name) (k : ℕ) (d : declared.Variable) (st : Store) (b : Bool) → bytes_eq y p.0 ≡ b
        → (if b then Some (at, p.1) else local_at site.env.globals (at + local_words site.env.globals p.1) ps y) ≡ Some (k, d)
        → ParameterHas site.env.globals lies d (parameter_at n y) (put_all (us ++ more) st) P.own.words (to + k)
    by y k d st true e g =
        let found : ◌≡◌ {A = ℕ × declared.Variable} (at, p.1) (k, d) = same_some (at, p.1) (k, d) g in
        subst (λ z. ParameterHas site.env.globals lies d (parameter_at n z) (put_all (us ++ more) st) P.own.words (to + k)) (sym (bytes_same y p.0 e))
        (subst (λ (z : ℕ × declared.Variable). ParameterHas site.env.globals lies z.1 (parameter_at n p.0) (put_all (us ++ more) st) P.own.words (to + z.0)) found (here st))
    by y k d st false e g =
        subst (λ z. ParameterHas site.env.globals lies d (parameter_at n y) z P.own.words (to + k)) (sym (put_all_two us more st)) (B.parameters y k d (put_all us st) g)

    missing : (y : Name) (path : Path) (st : Store) (b : Bool) → bytes_eq y p.0 ≡ b → (if b then Some p.1 else lookup y ps) ≡ None
        → put_all (us ++ more) st (under (parameter_at n y) path) ≡ st (under (parameter_at n y) path)
    missing y path st true e g = absurd (some_is_not_none p.1 g)
    missing y path st false e g =
        ap (λ (z : Store). z (under (parameter_at n y) path)) (put_all_two us more st)
        ∙ (B.names y path (put_all us st) g ∙ other y path st (bytes_eq_turned y p.0 e))

-- One parameter more that takes one word.
prepend_word : (site : Site) (lies : Location → Option Part) (n : Owner) (to at : ℕ) (p : Name × declared.Variable) (ps : List (Name × declared.Variable)) (v : StoreValue) (m : ℤ) (top : ℕ) (ws : List ℤ)
    (x : PrivateState) (O : Outcome Writes) (P : Passing)
    → local_words site.env.globals p.1 ≡ 1 → Distinct (p ∷ ps) → to + at < top → top ≤ length ws
    → either p.1.by_reference ((j : Location) × (v ≡ Refers j) × (lies j ≡ Some (natural m, p.1.type))) (IsSimple p.1.type × (v ≡ Ordinal m))
    → PassingAgrees (λ us new. Bound site lies n to (at + local_words site.env.globals p.1) ps us (slice_set ws (to + at) m) new) (KeptOutside to top (slice_set ws (to + at) m)) x O P
    → PassingAgrees (λ us new. Bound site lies n to at (p ∷ ps) us ws new) (KeptOutside to top ws) x (and_then O (λ more. Gives (((parameter_at n p.0, v) ∷ []) ++ more))) P
prepend_word site lies n to at p ps v m top ws x O P one distinct room in_words has h =
    prepend site lies n to at p ps ((parameter_at n p.0, v) ∷ []) top ws (slice_set ws (to + at) m) x O P distinct (omega (arith, room, one)) (length-set ws (to + at) m)
    (λ i g. changed_other ws i (to + at) m (λ e. away i e g)) (λ st. by st p.1.by_reference has) (λ y path st e. put_away n p.0 y path v st e) h
  where
    away : (i : ℕ) → i ≡ to + at → (i < to + at) ⊎ (to + (at + local_words site.env.globals p.1) ≤ i) → ⊥
    away i e (inl q) = absurd (omega (arith, e, q))
    away i e (inr q) = absurd (omega (arith, e, q, one))

    held : word (slice_set ws (to + at) m) (to + at) ≡ m
    held = get_or-set_same ws (to + at) m (pos 0) (omega (arith, room, in_words))

    by : (st : Store) (b : Bool) → either b ((j : Location) × (v ≡ Refers j) × (lies j ≡ Some (natural m, p.1.type))) (IsSimple p.1.type × (v ≡ Ordinal m))
        → Has b site.env.globals lies p.1.type (parameter_at n p.0) (put (parameter_at n p.0) v st) (slice_set ws (to + at) m) (to + at)
    by st true h = (h.0, put_here n p.0 v st ∙ h.1, h.2 ∙ ap (λ z. Some (natural z, p.1.type)) (sym held))
    by st false h =
        λ path k u simple there.
        let whole = simple_part site.env.globals p.1.type path k u h.0 there in
        let place_is : to + at + k ≡ to + at = omega (arith, whole.1) in
        ap (λ z. put (parameter_at n p.0) v st (under (parameter_at n p.0) z)) whole.0
        ∙ (put_here n p.0 v st ∙ (h.1 ∙ ap Ordinal (sym (ap (word (slice_set ws (to + at) m)) place_is ∙ held))))

-- `Here` still holds if words after everything in use change: the process's own words from `to` on.
abbrev pub Stays : Environment → Clock → Store → StepContext → Knowns → (Location → Option Part) → ℕ → PrivateState → Type 0
Stays env clock store w K lies to o =
    (ws : List ℤ) → length ws ≡ length o.words → SameOutside to w.own o.words ws → Here env clock store (view_of w (record o { words = ws })) K lies

module _ (site : Site) (clock : Clock) (store : Store) (w : StepContext) (K : Knowns) (lies : Location → Option Part) (n : Owner) (to : ℕ) (o : PrivateState)
    (stays : Stays site.env clock store w K lies to o) (parts_lie : PartsLie site.env.globals lies) (there : (l : Location) (m : ℕ) (t : ResolvedType) → lies l ≡ Some (m, t) → m ≤ length o.words) where
  abbrev pub Passes : List (Name × declared.Variable) → ℕ → List ℤ → Outcome Writes → Passing → Type 0
  Passes ps at ws O P = PassingAgrees (λ us new. Bound site lies n to at ps us ws new) (KeptOutside to w.own ws) (record o { words = ws }) O P

  still_same : (ws : List ℤ) (at : ℕ) (m : ℤ) → SameOutside to w.own o.words ws → to + at < w.own → SameOutside to w.own o.words (slice_set ws (to + at) m)
  still_same ws at m h room i g = changed_other ws i (to + at) m (λ e. away i e g) ∙ h i g
    where
      away : (i : ℕ) → i ≡ to + at → (i < to) ⊎ (w.own ≤ i) → ⊥
      away i e (inl q) = absurd (omega (arith, e, q))
      away i e (inr q) = absurd (omega (arith, e, q, room))

  -- The argument is a simple value.
  value_passes : (p : Name × declared.Variable) (ps : List (Name × declared.Variable)) (b of : BaseType) (lower upper start : ℤ) (at : ℕ) (ws : List ℤ) (xs : List Argument)
      → p.1.by_reference ≡ false → p.1.type ≡ Simple b lower upper start → Distinct (p ∷ ps) → to + at < w.own → w.own ≤ length ws
      → (O : Outcome TypedValue) (r : Result ℤ machine.Fault) (more : Outcome Writes) → Agrees of O r
      → ((m : ℤ) → Passes ps (at + local_words site.env.globals p.1) (slice_set ws (to + at) m) more (pass_all w to to xs (record o { words = slice_set ws (to + at) m })))
      → Passes (p ∷ ps) at ws
      (and_then (and_then O (writes_of (parameter_at n p.0) (Simple b lower upper start))) (λ us. and_then more (λ vs. Gives (us ++ vs))))
      (unless_fault (pass_result (record o { words = ws }) r (λ m. if within lower upper m then pass_word (record o { words = ws }) (to + at) m else record { own = record o { words = ws }; fault = Some fault.Range })) (pass_all w to to xs))
  value_passes p ps b of lower upper start at ws xs passive type distinct room in_words (Fault k) (Err f) more h go = (f, refl, h, refl, (refl, λ i g. refl))
  value_passes p ps b of lower upper start at ws xs passive type distinct room in_words (Fault k) (Ok m) more h go = absurd h
  value_passes p ps b of lower upper start at ws xs passive type distinct room in_words (Gives v) (Err f) more h go = absurd h
  value_passes p ps b of lower upper start at ws xs passive type distinct room in_words (Gives v) (Ok m) more h go =
      subst (λ z. Passes (p ∷ ps) at ws (and_then (outcomes.guard (within lower upper z) 1 ((parameter_at n p.0, Ordinal z) ∷ [])) (λ us. and_then more (λ vs. Gives (us ++ vs)))) (passing m)) (sym (ordinal_is v m h.1))
      (by (within lower upper m) refl)
    where
      passing : ℤ → Passing
      passing m = unless_fault (if within lower upper m then pass_word (record o { words = ws }) (to + at) m else record { own = record o { words = ws }; fault = Some fault.Range }) (pass_all w to to xs)

      one : local_words site.env.globals p.1 ≡ 1
      one = ap (λ t. if t then 1 else words site.env.globals p.1.type) passive ∙ ap (words site.env.globals) type

      by : (t : Bool) → within lower upper m ≡ t
          → Passes (p ∷ ps) at ws (and_then (outcomes.guard t 1 ((parameter_at n p.0, Ordinal m) ∷ [])) (λ us. and_then more (λ vs. Gives (us ++ vs))))
          (unless_fault (if t then pass_word (record o { words = ws }) (to + at) m else record { own = record o { words = ws }; fault = Some fault.Range }) (pass_all w to to xs))
      by false e = (fault.Range, refl, refl, refl, (refl, λ i g. refl))
      by true e = prepend_word site lies n to at p ps (Ordinal m) m w.own ws (record o { words = ws }) more (pass_all w to to xs (record o { words = slice_set ws (to + at) m })) one distinct room in_words
          (subst (λ t. either t ((j : Location) × (Ordinal m ≡ Refers j) × (lies j ≡ Some (natural m, p.1.type))) (IsSimple p.1.type × (Ordinal m ≡ Ordinal m))) (sym passive) (subst IsSimple (sym type) tt, refl)) (go m)

  -- The argument is what a `var` parameter refers to.
  reference_passes : (p : Name × declared.Variable) (ps : List (Name × declared.Variable)) (at : ℕ) (ws : List ℤ) (xs : List Argument)
      → p.1.by_reference ≡ true → Distinct (p ∷ ps) → to + at < w.own → w.own ≤ length ws → length ws ≡ length o.words
      → (O : Outcome Place) (r : Result ℕ machine.Fault) (more : Outcome Writes) → PlaceAgrees lies p.1.type O r
      → ((m : ℤ) → Passes ps (at + local_words site.env.globals p.1) (slice_set ws (to + at) m) more (pass_all w to to xs (record o { words = slice_set ws (to + at) m })))
      → Passes (p ∷ ps) at ws
      (and_then (reference_writes (parameter_at n p.0) O) (λ us. and_then more (λ vs. Gives (us ++ vs))))
      (unless_fault (pass_result (record o { words = ws }) r (λ m. pass_word (record o { words = ws }) (to + at) (reference_word (record o { words = ws }) m))) (pass_all w to to xs))
  reference_passes p ps at ws xs by_reference distinct room in_words len (Fault k) (Err f) more h go = (f, refl, h, refl, (refl, λ i g. refl))
  reference_passes p ps at ws xs by_reference distinct room in_words len (Fault k) (Ok m) more h go = absurd h
  reference_passes p ps at ws xs by_reference distinct room in_words len (Gives v) (Err f) more h go = absurd h
  reference_passes p ps at ws xs by_reference distinct room in_words len (Gives v) (Ok m) more h go =
      subst (λ z. Passes (p ∷ ps) at ws (and_then more (λ vs. Gives ((parameter_at n p.0, Refers v.at) ∷ vs))) (pass_all w to to xs (record o { words = slice_set ws (to + at) z })))
      (sym (refers (record o { words = ws }) m (omega (arith, len, there v.at m p.1.type h.0))))
      (prepend_word site lies n to at p ps (Refers v.at) (pos m) w.own ws (record o { words = ws }) more (pass_all w to to xs (record o { words = slice_set ws (to + at) (pos m) }))
      (ap (λ t. if t then 1 else words site.env.globals p.1.type) by_reference) distinct room in_words
      (subst (λ t. either t ((j : Location) × (Refers v.at ≡ Refers j) × (lies j ≡ Some (natural (pos m), p.1.type))) (IsSimple p.1.type × (Refers v.at ≡ Ordinal (pos m)))) (sym by_reference) (v.at, refl, h.0)) (go (pos m)))

  -- The argument is an array or a record.
  copy_passes : (p : Name × declared.Variable) (ps : List (Name × declared.Variable)) (at : ℕ) (ws : List ℤ) (xs : List Argument)
      → p.1.by_reference ≡ false → IsPlainStructure p.1.type → Distinct (p ∷ ps) → to + (at + words site.env.globals p.1.type) ≤ w.own → w.own ≤ length ws
      → Here site.env clock store (view_of w (record o { words = ws })) K lies
      → (O : Outcome Place) (r : Result ℕ machine.Fault) (more : Outcome Writes) → PlaceAgrees lies p.1.type O r
      → ((from : ℕ) → Passes ps (at + local_words site.env.globals p.1) (paste (to + at) (block ws from (words site.env.globals p.1.type)) ws) more
      (pass_all w to to xs (record o { words = paste (to + at) (block ws from (words site.env.globals p.1.type)) ws })))
      → Passes (p ∷ ps) at ws
      (and_then (and_then (and_then O (λ q. Gives (read store q))) (writes_of (parameter_at n p.0) p.1.type)) (λ us. and_then more (λ vs. Gives (us ++ vs))))
      (unless_fault (pass_result (record o { words = ws }) r (λ from. pass_copy (record o { words = ws }) (to + at) (words site.env.globals p.1.type) from)) (pass_all w to to xs))
  copy_passes p ps at ws xs passive plain distinct room in_words H (Fault k) (Err f) more h go = (f, refl, h, refl, (refl, λ i g. refl))
  copy_passes p ps at ws xs passive plain distinct room in_words H (Fault k) (Ok m) more h go = absurd h
  copy_passes p ps at ws xs passive plain distinct room in_words H (Gives q) (Err f) more h go = absurd h
  copy_passes p ps at ws xs passive plain distinct room in_words H (Gives q) (Ok from) more h go =
      subst (λ O. Passes (p ∷ ps) at ws (and_then O (λ us. and_then more (λ vs. Gives (us ++ vs)))) (pass_all w to to xs (record o { words = mid })))
      (sym (ap (λ t. writes_of (parameter_at n p.0) p.1.type (read store (record q { type = t }))) h.1 ∙ structure_writes (parameter_at n p.0) q.at p.1.type p.1.type store plain.2))
      (prepend site lies n to at p ps (leaf_writes (parameter_at n p.0) (read_below store q.at) (leaves p.1.type)) w.own ws mid (record o { words = ws }) more (pass_all w to to xs (record o { words = mid }))
      distinct (omega (arith, room, size)) (copied_length ws ws (to + at) from (words site.env.globals p.1.type))
      (λ i g. copied_outside ws ws (to + at) from (words site.env.globals p.1.type) i (outer i g))
      (λ st. subst (λ b. Has b site.env.globals lies p.1.type (parameter_at n p.0) (put_all us st) mid (to + at)) (sym passive)
      (λ path m u simple there.
      leaf_written site.env.globals (parameter_at n p.0) (read_below store q.at) p.1.type st path m u plain.0 simple there ∙ ap Ordinal (sym (value_is path m u simple there))))
      (λ y path st e. leaf_unwritten (parameter_at n p.0) (read_below store q.at) p.1.type st (under (parameter_at n y) path) (λ z v leaf same.
      true≢false (sym (bytes_eq-refl p.0) ∙ (ap (λ (l : Location). bytes_eq p.0 (first_name l.path)) (sym same) ∙ e))))
      (go from))
    where
      mid : List ℤ
      mid = paste (to + at) (block ws from (words site.env.globals p.1.type)) ws

      us : Writes
      us = leaf_writes (parameter_at n p.0) (read_below store q.at) (leaves p.1.type)

      size : local_words site.env.globals p.1 ≡ words site.env.globals p.1.type
      size = ap (λ t. if t then 1 else words site.env.globals p.1.type) passive

      outer : (i : ℕ) → (i < to + at) ⊎ (to + (at + local_words site.env.globals p.1) ≤ i) → (i < to + at) ⊎ (to + at + words site.env.globals p.1.type ≤ i)
      outer i (inl g) = inl g
      outer i (inr g) = inr (omega (arith, g, size))

      value_is : (path : Path) (m : ℕ) (u : ResolvedType) → IsSimple u → part site.env.globals p.1.type path ≡ Some (m, u) → word mid (to + at + m) ≡ read_below store q.at path
      value_is path m u simple there =
          let fits : m < words site.env.globals p.1.type = omega (arith, part_fits site.env.globals p.1.type path m u there, cell_has_word site.env.globals u (simple_cell u simple)) in
          copied_word ws ws (to + at) from (words site.env.globals p.1.type) m fits (omega (arith, room, in_words))
          ∙ ap ordinal_in (sym (simple_holds u (store (under q.at path)) (word ws (from + m)) simple (H.cells (under q.at path) (from + m) u (parts_lie q.at path from m p.1.type u h.0 there))))

  -- All arguments together.
  pub passes : (ps : List (Name × declared.Variable)) (es : a.Expressions) (xs : List Argument) (at from next low high : ℕ) (ws : List ℤ)
      → ArgumentsFor site K ps es xs at from next low high → call_in_arguments site.env (a.Literal 0) es ≡ None → Distinct ps
      → to + (at + locals_words site.env.globals ps) ≤ w.own → w.own ≤ length ws → length ws ≡ length o.words → SameOutside to w.own o.words ws
      → Passes ps at ws (bind (argument_writes clock site.env store) (root n) ps es) (pass_all w to to xs (record o { words = ws }))
  passes [] a.NoExpression [] at from next low high ws h none distinct room in_words len same = (
    refl,
    refl,
    record {
      length_is = refl;
      outside = λ i g. refl;
      parameters = λ x k d st e. absurd (some_is_not_none (k, d) (sym e));
      names = λ x path st e. refl;
    },
  )
  passes (p ∷ ps) (a.MoreExpressions e es) (Value put_at lower upper c ∷ xs) at from next low high ws h none distinct room in_words len same =
      let both = or_else_none (in_context (λ y. a.MoreExpressions y es) (first_call site.env (a.Literal 0) e)) (in_context (a.MoreExpressions e) (call_in_arguments site.env (a.Literal 0) es)) none in
      let one : local_words site.env.globals p.1 ≡ 1 = ap (λ t. if t then 1 else words site.env.globals p.1.type) h.5 ∙ ap (words site.env.globals) h.6 in
      let here : to + at < w.own = omega (arith, room, one) in
      let r = value_of (view_of w (record o { words = ws })) c in
      subst (λ z. Passes (p ∷ ps) at ws
      (and_then (argument_writes clock site.env store (parameter_at n p.0) p.1 e) (λ us. and_then (bind (argument_writes clock site.env store) (root n) ps es) (λ vs. Gives (us ++ vs))))
      (unless_fault (pass_result (record o { words = ws }) r (λ m. if within lower upper m then pass_word (record o { words = ws }) (to + z) m else record { own = record o { words = ws }; fault = Some fault.Range })) (pass_all w to to xs))) (sym h.4)
      (subst (λ t. Passes (p ∷ ps) at ws
      (and_then (if t then reference_writes (parameter_at n p.0) (place' site.env e) else and_then (value clock site.env store e) (writes_of (parameter_at n p.0) p.1.type)) (λ us. and_then (bind (argument_writes clock site.env store) (root n) ps es) (λ vs. Gives (us ++ vs))))
      (unless_fault (pass_result (record o { words = ws }) r (λ m. if within lower upper m then pass_word (record o { words = ws }) (to + at) m else record { own = record o { words = ws }; fault = Some fault.Range })) (pass_all w to to xs))) (sym h.5)
      (subst (λ t. Passes (p ∷ ps) at ws
      (and_then (and_then (value clock site.env store e) (writes_of (parameter_at n p.0) t)) (λ us. and_then (bind (argument_writes clock site.env store) (root n) ps es) (λ vs. Gives (us ++ vs))))
      (unless_fault (pass_result (record o { words = ws }) r (λ m. if within lower upper m then pass_word (record o { words = ws }) (to + at) m else record { own = record o { words = ws }; fault = Some fault.Range })) (pass_all w to to xs))) (sym h.6)
      (value_passes p ps h.0 h.0 lower upper h.1 at ws xs h.5 h.6 distinct here in_words (value clock site.env store e) r (bind (argument_writes clock site.env store) (root n) ps es)
      (value_agrees site clock store (view_of w (record o { words = ws })) K lies (stays ws len same) e c h.0 from h.2 low h.3 h.9 (in_context_none (λ y. a.MoreExpressions y es) (first_call site.env (a.Literal 0) e) both.0))
      (λ m. passes ps es xs (at + local_words site.env.globals p.1) h.2 next h.3 high (slice_set ws (to + at) m) h.10 (in_context_none (a.MoreExpressions e) (call_in_arguments site.env (a.Literal 0) es) both.1) distinct.1
      (omega (arith, room)) (omega (arith, in_words, length-set ws (to + at) m)) (length-set ws (to + at) m ∙ len) (still_same ws at m same here)))))
    where
      place' : Environment → a.Expression → Outcome Place
      place' env e = place clock env store (designator_of e)
  passes (p ∷ ps) (a.MoreExpressions (a.Use d) es) (Copy put_at count s ∷ xs) at from next low high ws h none distinct room in_words len same =
      let both = or_else_none (in_context (λ y. a.MoreExpressions y es) (first_call site.env (a.Literal 0) (a.Use d))) (in_context (a.MoreExpressions (a.Use d)) (call_in_arguments site.env (a.Literal 0) es)) none in
      let used = in_context_none (λ y. a.MoreExpressions y es) (first_call site.env (a.Literal 0) (a.Use d)) both.0 in
      let found = or_else_none (in_context a.Use (call_in_designator site.env (a.Literal 0) d)) (user_call site.env d a.NoExpression (a.Literal 0)) used in
      let size : local_words site.env.globals p.1 ≡ words site.env.globals p.1.type = ap (λ t. if t then 1 else words site.env.globals p.1.type) h.3 in
      let here : to + (at + words site.env.globals p.1.type) ≤ w.own = omega (arith, room, size) in
      let H = stays ws len same in
      let r = place_of (view_of w (record o { words = ws })) s in
      subst (λ z. Passes (p ∷ ps) at ws
      (and_then (argument_writes clock site.env store (parameter_at n p.0) p.1 (a.Use d)) (λ us. and_then (bind (argument_writes clock site.env store) (root n) ps es) (λ vs. Gives (us ++ vs))))
      (unless_fault (pass_result (record o { words = ws }) r (λ m. pass_copy (record o { words = ws }) (to + z) count m)) (pass_all w to to xs))) (sym h.2)
      (subst (λ z. Passes (p ∷ ps) at ws
      (and_then (argument_writes clock site.env store (parameter_at n p.0) p.1 (a.Use d)) (λ us. and_then (bind (argument_writes clock site.env store) (root n) ps es) (λ vs. Gives (us ++ vs))))
      (unless_fault (pass_result (record o { words = ws }) r (λ m. pass_copy (record o { words = ws }) (to + at) z m)) (pass_all w to to xs))) (sym h.4)
      (subst (λ t. Passes (p ∷ ps) at ws
      (and_then (if t then reference_writes (parameter_at n p.0) (place clock site.env store d) else and_then (value clock site.env store (a.Use d)) (writes_of (parameter_at n p.0) p.1.type)) (λ us. and_then (bind (argument_writes clock site.env store) (root n) ps es) (λ vs. Gives (us ++ vs))))
      (unless_fault (pass_result (record o { words = ws }) r (λ m. pass_copy (record o { words = ws }) (to + at) (words site.env.globals p.1.type) m)) (pass_all w to to xs))) (sym h.3)
      (subst (λ O. Passes (p ∷ ps) at ws
      (and_then (and_then O (writes_of (parameter_at n p.0) p.1.type)) (λ us. and_then (bind (argument_writes clock site.env store) (root n) ps es) (λ vs. Gives (us ++ vs))))
      (unless_fault (pass_result (record o { words = ws }) r (λ m. pass_copy (record o { words = ws }) (to + at) (words site.env.globals p.1.type) m)) (pass_all w to to xs)))
      (sym (value_reads site clock store (view_of w (record o { words = ws })) K lies H d s p.1.type from h.0 low h.1 h.7 h.10))
      (copy_passes p ps at ws xs h.3 h.5 distinct here in_words H (place clock site.env store d) r (bind (argument_writes clock site.env store) (root n) ps es)
      (place_agrees site clock store (view_of w (record o { words = ws })) K lies H d s p.1.type from h.0 low h.1 h.10 (in_context_none a.Use (call_in_designator site.env (a.Literal 0) d) found.0))
      (λ m. let mid = paste (to + at) (block ws m (words site.env.globals p.1.type)) ws in
      let count_is = copied_length ws ws (to + at) m (words site.env.globals p.1.type) in
      passes ps es xs (at + local_words site.env.globals p.1) h.0 next h.1 high mid h.11 (in_context_none (a.MoreExpressions (a.Use d)) (call_in_arguments site.env (a.Literal 0) es) both.1) distinct.1
      (omega (arith, room)) (omega (arith, in_words, count_is)) (count_is ∙ len)
      (λ i g. copied_outside ws ws (to + at) m (words site.env.globals p.1.type) i (beyond at i here g) ∙ same i g))))))
    where
      beyond : (at i : ℕ) → to + (at + words site.env.globals p.1.type) ≤ w.own → (i < to) ⊎ (w.own ≤ i) → (i < to + at) ⊎ (to + at + words site.env.globals p.1.type ≤ i)
      beyond at i here (inl g) = inl (omega (arith, g))
      beyond at i here (inr g) = inr (omega (arith, g, here))
  passes (p ∷ ps) (a.MoreExpressions (a.Use d) es) (Refer to' s ∷ xs) at from next low high ws h none distinct room in_words len same =
      let both = or_else_none (in_context (λ y. a.MoreExpressions y es) (first_call site.env (a.Literal 0) (a.Use d))) (in_context (a.MoreExpressions (a.Use d)) (call_in_arguments site.env (a.Literal 0) es)) none in
      let used = in_context_none (λ y. a.MoreExpressions y es) (first_call site.env (a.Literal 0) (a.Use d)) both.0 in
      let found = or_else_none (in_context a.Use (call_in_designator site.env (a.Literal 0) d)) (user_call site.env d a.NoExpression (a.Literal 0)) used in
      let one : local_words site.env.globals p.1 ≡ 1 = ap (λ t. if t then 1 else words site.env.globals p.1.type) h.3 in
      let here : to + at < w.own = omega (arith, room, one) in
      let r = place_of (view_of w (record o { words = ws })) s in
      subst (λ z. Passes (p ∷ ps) at ws
      (and_then (argument_writes clock site.env store (parameter_at n p.0) p.1 (a.Use d)) (λ us. and_then (bind (argument_writes clock site.env store) (root n) ps es) (λ vs. Gives (us ++ vs))))
      (unless_fault (pass_result (record o { words = ws }) r (λ m. pass_word (record o { words = ws }) (to + z) (reference_word (record o { words = ws }) m))) (pass_all w to to xs))) (sym h.2)
      (subst (λ t. Passes (p ∷ ps) at ws
      (and_then (if t then reference_writes (parameter_at n p.0) (place clock site.env store d) else and_then (value clock site.env store (a.Use d)) (writes_of (parameter_at n p.0) p.1.type)) (λ us. and_then (bind (argument_writes clock site.env store) (root n) ps es) (λ vs. Gives (us ++ vs))))
      (unless_fault (pass_result (record o { words = ws }) r (λ m. pass_word (record o { words = ws }) (to + at) (reference_word (record o { words = ws }) m))) (pass_all w to to xs))) (sym h.3)
      (reference_passes p ps at ws xs h.3 distinct here in_words len (place clock site.env store d) r (bind (argument_writes clock site.env store) (root n) ps es)
      (place_agrees site clock store (view_of w (record o { words = ws })) K lies (stays ws len same) d s p.1.type from h.0 low h.1 h.7 (in_context_none a.Use (call_in_designator site.env (a.Literal 0) d) found.0))
      (λ m. passes ps es xs (at + local_words site.env.globals p.1) h.0 next h.1 high (slice_set ws (to + at) m) h.8 (in_context_none (a.MoreExpressions (a.Use d)) (call_in_arguments site.env (a.Literal 0) es) both.1) distinct.1
      (omega (arith, room)) (omega (arith, in_words, length-set ws (to + at) m)) (length-set ws (to + at) m ∙ len) (still_same ws at m same here))))
  passes _ _ _ at from next low high ws h none distinct room in_words len same = absurd h
