-- The arguments of an `init` are what the meaning binds to the parameters.
--
-- By induction on the parameters: one argument more adds one write at a new name and one word of
-- its own (`InitOffsets`), so the earlier parameters stay as they are bound.
use Rattle.std.proofs.Common.{◌≡◌, ◌⊎◌, inl, inr, ℕ, ◌+◌, ◌≤◌, ◌<◌, ℤ, pos, List, [], ◌∷◌, ◌++◌, length, Bool, true, false, Option, Some, None, Result, Ok, Err, refl, ap, sym, subst, ◌∙◌, arith}
use Rattle.std.specs.Prelude.{if◌then◌else◌, slice_set}
use Rattle.std.proofs.lemmas.Bool.{true≢false}
use Rattle.std.proofs.lemmas.List.{get_or-set_same, length-set}
use Rattle.cp_model.specs.Abstract as a
use Rattle.cp_model.specs.Abstract.{BaseType, Name, System}
use Rattle.cp_model.specs.Arguments.{bind, init_argument_writes, named_right_writes, right_writes}
use Rattle.cp_model.specs.Assignments.{writes_of}
use Rattle.cp_model.specs.Calls.{call_in_arguments, first_call, in_context}
use Rattle.cp_model.specs.Components.{Component, component_named}
use Rattle.cp_model.specs.Declarations.{Variable, declarations, is_component}
use Rattle.cp_model.specs.Expressions.{value}
use Rattle.cp_model.specs.Locations.{Location}
use Rattle.cp_model.specs.Names.{lookup}
use Rattle.cp_model.specs.Operators.{Clock}
use Rattle.cp_model.specs.Outcomes as outcomes
use Rattle.cp_model.specs.Outcomes.{Fault, Gives, Outcome, and_then}
use Rattle.cp_model.specs.Places.{TypedValue, within}
use Rattle.cp_model.specs.Stores.{Ordinal, Store, Value as StoreValue, Writes, put, put_all}
use Rattle.cp_model.specs.Types.{ComponentOf, Members, Simple}
use Rattle.cp_model.specs.declared.state.Fault as machine
use Rattle.cp_model.specs.declared.state.Fault.TheVariants as fault
use Rattle.cp_model.proofs.Options.{same_some}
use Rattle.cp_law_typing.specs.Declared.{Distinct}
use Rattle.cp_law_typing.specs.StartValues.{IsIn}
use Rattle.cp_law_typing.specs.Words.{words}
use Rattle.cp_law_typing.proofs.StartWrites.{found_in}
use Rattle.cp_model_program.specs.Terms.{Argument, Right, Target, Value}
use Rattle.cp_model_program.specs.Layout.{Part, member, right}
use Rattle.cp_model_program.specs.Sites.{Site, TargetFor}
use Rattle.cp_model_program.specs.Starts.{word}
use Rattle.cp_model_program.specs.StatementsFor.{InitArgumentsFor}
use Rattle.cp_model_program.specs.TermsFor.{Agrees, Knowns}
use Rattle.cp_model_machine.specs.PrivateStates.{StepContext, PrivateState, view_of}
use Rattle.cp_model_machine.specs.Passing.{Passing, pass_all, pass_result, pass_word, right_word, unless_fault}
use Rattle.cp_model_machine.specs.Values.{value_of}
use Rattle.cp_model_machine.specs.Means.{CellMeans}
use Rattle.cp_model_machine.specs.Addresses.{Ground, IsGiven, RightMeans, scope}
use Rattle.cp_model_machine.proofs.Apart.{IsCell}
use Rattle.cp_model_machine.proofs.Evaluates.{ordinal_is, value_agrees}
use Rattle.cp_model_machine.proofs.Finding.{in_context_none, or_else_none, some_is_not_none}
use Rattle.cp_model_machine.proofs.Holding.{put_apart}
use Rattle.cp_model_machine.proofs.InitOffsets.{Offset, offset_same, offset_within, right_of}
use Rattle.cp_model_machine.proofs.Passing.{KeptOutside, PassingAgrees, SameOutside, Stays}
use Rattle.cp_model_machine.proofs.Settling.{snoc_same, stored_at}
use Rattle.cp_law_typing.proofs.Locations.{location_itself}
use Rattle.cp_model_machine.proofs.Writing.{changed_other}

module _ (G : Ground) (sys : System) (at : Location) (c from : ℕ) (distinct : Distinct (declarations (scope G) sys.parameters))
    (one : (p : Name × Variable) → IsIn p (declarations (scope G) sys.parameters) → is_component p.1.type ≡ false → (words (scope G) p.1.type ≡ 1) × IsCell p.1.type) where
  -- The words that count from `from`, where the component's first word would be, hold what is
  -- bound in the store.
  pub record InitBound (ps : List (Name × Variable)) (ws : Writes) (old new : List ℤ) : Type 0 where
    pub length_is : length new ≡ length old
    pub outside : (i : ℕ) → ((p : Name × Variable) (k : ℕ) → IsIn p ps → Offset (scope G) sys p k → i ≡ from + k → ⊥) → word new i ≡ word old i
    pub values : (p : Name × Variable) (k : ℕ) (st : Store) → IsIn p ps → is_component p.1.type ≡ false → member (scope G) sys p.0 ≡ Some (k, p.1.type)
        → CellMeans p.1.type (put_all ws st (stored_at at p.0)) (word new (from + k))
    pub rights : (p : Name × Variable) (k : ℕ) (st : Store) → IsIn p ps → is_component p.1.type ≡ true → right (scope G) sys p.0 ≡ Some (k, p.1)
        → RightMeans G p.1.type (put_all ws st (stored_at at p.0)) (c + k) (word new (from + k))
    pub given : (p : Name × Variable) (k : ℕ) (st : Store) → IsIn p ps → is_component p.1.type ≡ true → right (scope G) sys p.0 ≡ Some (k, p.1) → IsGiven p.1.type (put_all ws st (stored_at at p.0))
    pub unwritten : (l : Location) (st : Store) → ((p : Name × Variable) → IsIn p ps → l ≡ stored_at at p.0 → ⊥) → put_all ws st l ≡ st l

  abbrev pub InitAgrees : List (Name × Variable) → ℕ → PrivateState → List ℤ → Outcome Writes → Passing → Type 0
  InitAgrees ps own x ws O P = PassingAgrees (λ us new. InitBound ps us ws new) (KeptOutside from own ws) x O P

  -- The value and the word of a parameter of any type.
  abbrev Meant : Name × Variable → ℕ → StoreValue → ℤ → Type 0
  Meant p k v m =
      ((is_component p.1.type ≡ true) × RightMeans G p.1.type v (c + k) m × IsGiven p.1.type v)
      ⊎ ((is_component p.1.type ≡ false) × CellMeans p.1.type v m)

  prepend : (p : Name × Variable) (ps : List (Name × Variable)) (k : ℕ) (v : StoreValue) (m : ℤ) (own : ℕ) (ws : List ℤ) (x : PrivateState) (O : Outcome Writes) (P : Passing)
      → Distinct (p ∷ ps) → IsIn p (declarations (scope G) sys.parameters) → Offset (scope G) sys p k → from + k < own → own ≤ length ws → Meant p k v m
      → InitAgrees ps own x (slice_set ws (from + k) m) O P
      → InitAgrees (p ∷ ps) own x ws (and_then O (λ more. Gives (((stored_at at p.0, v) ∷ []) ++ more))) P
  prepend p ps k v m own ws x (Fault j) P d there off room in_words meant h =
      (h.0, h.1, h.2, h.3, (h.4.0 ∙ length-set ws (from + k) m, λ i g. h.4.1 i g ∙ changed_other ws i (from + k) m (λ e. away i e g)))
    where
      away : (i : ℕ) → i ≡ from + k → (i < from) ⊎ (own ≤ i) → ⊥
      away i e (inl q) = absurd (omega (arith, e, q))
      away i e (inr q) = absurd (omega (arith, e, q, room))
  prepend p ps k v m own ws x (Gives more) P d there off room in_words meant h = (
    h.0,
    h.1,
    record {
      length_is = B.length_is ∙ length-set ws (from + k) m;
      outside = λ i none. B.outside i (λ q j i' o e. none q j (inr i') o e) ∙ changed_other ws i (from + k) m (λ e. none p k (inl refl) off e);
      values = λ q j st i' component lies. of_value q j st i' component lies;
      rights = λ q j st i' component lies. of_right q j st i' component lies;
      given = λ q j st i' component lies. of_given q j st i' component lies;
      unwritten = λ l st none.
          B.unwritten l (put (stored_at at p.0) v st) (λ q i' e. none q (inr i') e) ∙ put_apart (stored_at at p.0) l v st (λ e. none p (inl refl) (sym e));
    },
  )
    where
      B : InitBound ps more (slice_set ws (from + k) m) P.own.words
      B = h.2

      -- No other parameter has its name.
      other : (q : Name × Variable) → IsIn q ps → p.0 ≡ q.0 → ⊥
      other q i' e = some_is_not_none q.1 (sym (found_in ps q.0 q.1 d.1 i') ∙ (ap (λ y. lookup y ps) (sym e) ∙ d.0))

      stored : (st : Store) → put_all more (put (stored_at at p.0) v st) (stored_at at p.0) ≡ v
      stored st =
          B.unwritten (stored_at at p.0) (put (stored_at at p.0) v st) (λ q i' e. other q i' (snoc_same at.path at.path p.0 q.0 (ap (λ (l : Location). l.path) e)).1)
          ∙ ap (λ b. if b then v else st (stored_at at p.0)) (location_itself (stored_at at p.0))

      held : word P.own.words (from + k) ≡ m
      held =
          B.outside (from + k) (λ q j i' o e. other q i' (offset_same (scope G) sys distinct one p q k off (subst (Offset (scope G) sys q) (omega (arith, e)) o)))
          ∙ get_or-set_same ws (from + k) m (pos 0) (omega (arith, room, in_words))

      of_value : (q : Name × Variable) (j : ℕ) (st : Store) → (q ≡ p) ⊎ IsIn q ps → is_component q.1.type ≡ false → member (scope G) sys q.0 ≡ Some (j, q.1.type)
          → CellMeans q.1.type (put_all more (put (stored_at at p.0) v st) (stored_at at q.0)) (word P.own.words (from + j))
      of_value q j st (inr i') component lies = B.values q j (put (stored_at at p.0) v st) i' component lies
      of_value q j st (inl e) component lies =
          subst (λ (z : Name × Variable). is_component z.1.type ≡ false → member (scope G) sys z.0 ≡ Some (j, z.1.type) → CellMeans z.1.type (put_all more (put (stored_at at p.0) v st) (stored_at at z.0)) (word P.own.words (from + j))) (sym e)
          (λ component lies. inner component lies off meant) component lies
        where
          inner : is_component p.1.type ≡ false → member (scope G) sys p.0 ≡ Some (j, p.1.type) → Offset (scope G) sys p k → Meant p k v m
              → CellMeans p.1.type (put_all more (put (stored_at at p.0) v st) (stored_at at p.0)) (word P.own.words (from + j))
          inner component lies (inl o) meant = absurd (true≢false (sym o.0 ∙ component))
          inner component lies (inr o) (inl z) = absurd (true≢false (sym z.0 ∙ component))
          inner component lies (inr o) (inr z) =
              let far : k ≡ j = ap (λ y. y.0) (same_some {A = Part} (k, p.1.type) (j, p.1.type) (sym o.1 ∙ lies)) in
              subst (λ y. CellMeans p.1.type (put_all more (put (stored_at at p.0) v st) (stored_at at p.0)) (word P.own.words (from + y))) far
              (subst (λ y. CellMeans p.1.type y (word P.own.words (from + k))) (sym (stored st)) (subst (CellMeans p.1.type v) (sym held) z.1))

      of_right : (q : Name × Variable) (j : ℕ) (st : Store) → (q ≡ p) ⊎ IsIn q ps → is_component q.1.type ≡ true → right (scope G) sys q.0 ≡ Some (j, q.1)
          → RightMeans G q.1.type (put_all more (put (stored_at at p.0) v st) (stored_at at q.0)) (c + j) (word P.own.words (from + j))
      of_right q j st (inr i') component lies = B.rights q j (put (stored_at at p.0) v st) i' component lies
      of_right q j st (inl e) component lies =
          subst (λ (z : Name × Variable). is_component z.1.type ≡ true → right (scope G) sys z.0 ≡ Some (j, z.1) → RightMeans G z.1.type (put_all more (put (stored_at at p.0) v st) (stored_at at z.0)) (c + j) (word P.own.words (from + j))) (sym e)
          (λ component lies. inner component lies off meant) component lies
        where
          inner : is_component p.1.type ≡ true → right (scope G) sys p.0 ≡ Some (j, p.1) → Offset (scope G) sys p k → Meant p k v m
              → RightMeans G p.1.type (put_all more (put (stored_at at p.0) v st) (stored_at at p.0)) (c + j) (word P.own.words (from + j))
          inner component lies (inr o) meant = absurd (true≢false (sym component ∙ o.0))
          inner component lies (inl o) (inr z) = absurd (true≢false (sym component ∙ z.0))
          inner component lies (inl o) (inl z) =
              let far : k ≡ j = ap (λ y. y.0) (same_some {A = ℕ × Variable} (k, p.1) (j, p.1) (sym o.1 ∙ lies)) in
              subst (λ y. RightMeans G p.1.type (put_all more (put (stored_at at p.0) v st) (stored_at at p.0)) (c + y) (word P.own.words (from + y))) far
              (subst (λ y. RightMeans G p.1.type y (c + k) (word P.own.words (from + k))) (sym (stored st)) (subst (RightMeans G p.1.type v (c + k)) (sym held) z.1))

      of_given : (q : Name × Variable) (j : ℕ) (st : Store) → (q ≡ p) ⊎ IsIn q ps → is_component q.1.type ≡ true → right (scope G) sys q.0 ≡ Some (j, q.1)
          → IsGiven q.1.type (put_all more (put (stored_at at p.0) v st) (stored_at at q.0))
      of_given q j st (inr i') component lies = B.given q j (put (stored_at at p.0) v st) i' component lies
      of_given q j st (inl e) component lies =
          subst (λ (z : Name × Variable). is_component z.1.type ≡ true → IsGiven z.1.type (put_all more (put (stored_at at p.0) v st) (stored_at at z.0))) (sym e) (λ component. inner component meant) component
        where
          inner : is_component p.1.type ≡ true → Meant p k v m → IsGiven p.1.type (put_all more (put (stored_at at p.0) v st) (stored_at at p.0))
          inner component (inr z) = absurd (true≢false (sym component ∙ z.0))
          inner component (inl z) = subst (IsGiven p.1.type) (sym (stored st)) z.2

  module _ (site : Site) (clock : Clock) (store : Store) (w : StepContext) (K : Knowns) (lies : Location → Option Part) (o : PrivateState) (stays : Stays site.env clock store w K lies from o)
      (globals : site.env.globals ≡ scope G)
      (given : (n : Component) (t : Target) → TargetFor site.env (Some n) t → (named : Name) → component_named site.env named ≡ Some n → (ws : List ℤ) → SameOutside from w.own o.words ws → length ws ≡ length o.words → (k : ℕ) (inner : Members) (l : Location)
      → c + k ≤ length o.words → (y : Name) (u : Variable) → right (scope G) sys y ≡ Some (k, u) → u.type ≡ ComponentOf n.system inner → (v : StoreValue) × (right_writes site.env store sys.sort l n.system.sort n ≡ (l, v) ∷ []) × RightMeans G (ComponentOf n.system inner) v (c + k) (right_word (record o { words = ws }) (c + k) t) × IsGiven (ComponentOf n.system inner) v)
      (there : c + length (declarations (scope G) sys.parameters) ≤ length o.words) where
    abbrev pub Inits : List (Name × Variable) → List ℤ → Outcome Writes → Passing → Type 0
    Inits ps ws O P = InitAgrees ps w.own (record o { words = ws }) ws O P

    still_same : (ws : List ℤ) (k : ℕ) (m : ℤ) → SameOutside from w.own o.words ws → from + k < w.own → SameOutside from w.own o.words (slice_set ws (from + k) m)
    still_same ws k m h room i g = changed_other ws i (from + k) m (λ e. away i e g) ∙ h i g
      where
        away : (i : ℕ) → i ≡ from + k → (i < from) ⊎ (w.own ≤ i) → ⊥
        away i e (inl q) = absurd (omega (arith, e, q))
        away i e (inr q) = absurd (omega (arith, e, q, room))

    -- The argument is a simple value.
    value_passes : (p : Name × Variable) (ps : List (Name × Variable)) (b of : BaseType) (lower upper start : ℤ) (k : ℕ) (ws : List ℤ) (xs : List Argument)
        → p.1.type ≡ Simple b lower upper start → Distinct (p ∷ ps) → IsIn p (declarations (scope G) sys.parameters) → member (scope G) sys p.0 ≡ Some (k, p.1.type) → from + k < w.own → w.own ≤ length ws
        → (O : Outcome TypedValue) (r : Result ℤ machine.Fault) (more : Outcome Writes) → Agrees of O r
        → ((m : ℤ) → Inits ps (slice_set ws (from + k) m) more (pass_all w from c xs (record o { words = slice_set ws (from + k) m })))
        → Inits (p ∷ ps) ws
        (and_then (and_then O (writes_of (stored_at at p.0) (Simple b lower upper start))) (λ us. and_then more (λ vs. Gives (us ++ vs))))
        (unless_fault (pass_result (record o { words = ws }) r (λ m. if within lower upper m then pass_word (record o { words = ws }) (from + k) m else record { own = record o { words = ws }; fault = Some fault.Range })) (pass_all w from c xs))
    value_passes p ps b of lower upper start k ws xs type d there lying room in_words (Fault j) (Err f) more h go = (f, refl, h, refl, (refl, λ i g. refl))
    value_passes p ps b of lower upper start k ws xs type d there lying room in_words (Fault j) (Ok m) more h go = absurd h
    value_passes p ps b of lower upper start k ws xs type d there lying room in_words (Gives v) (Err f) more h go = absurd h
    value_passes p ps b of lower upper start k ws xs type d there lying room in_words (Gives v) (Ok m) more h go =
        subst (λ z. Inits (p ∷ ps) ws (and_then (outcomes.guard (within lower upper z) 1 ((stored_at at p.0, Ordinal z) ∷ [])) (λ us. and_then more (λ vs. Gives (us ++ vs)))) (passing m)) (sym (ordinal_is v m h.1))
        (by (within lower upper m))
      where
        passing : ℤ → Passing
        passing m = unless_fault (if within lower upper m then pass_word (record o { words = ws }) (from + k) m else record { own = record o { words = ws }; fault = Some fault.Range }) (pass_all w from c xs)

        no_component : is_component p.1.type ≡ false
        no_component = ap is_component type

        by : (t : Bool) → Inits (p ∷ ps) ws (and_then (outcomes.guard t 1 ((stored_at at p.0, Ordinal m) ∷ [])) (λ us. and_then more (λ vs. Gives (us ++ vs))))
            (unless_fault (if t then pass_word (record o { words = ws }) (from + k) m else record { own = record o { words = ws }; fault = Some fault.Range }) (pass_all w from c xs))
        by false = (fault.Range, refl, refl, refl, (refl, λ i g. refl))
        by true =
            prepend p ps k (Ordinal m) m w.own ws (record o { words = ws }) more (pass_all w from c xs (record o { words = slice_set ws (from + k) m })) d there
            (inr (no_component, lying, subst IsCell (sym type) tt)) room in_words (inr (no_component, subst (λ t. CellMeans t (Ordinal m) m) (sym type) refl)) (go m)

    pub passes_init : (ps : List (Name × Variable)) (es : a.Expressions) (xs : List Argument) (place next low high : ℕ) (ws : List ℤ)
        → InitArgumentsFor site K sys ps es xs place next low high → call_in_arguments site.env (a.Literal 0) es ≡ None → Distinct ps
        → ((p : Name × Variable) → IsIn p ps → IsIn p (declarations (scope G) sys.parameters))
        → from + (1 + length (declarations (scope G) sys.parameters)) ≤ w.own → w.own ≤ length ws → length ws ≡ length o.words → SameOutside from w.own o.words ws
        → Inits ps ws (bind (λ l v e. init_argument_writes sys.sort clock site.env store l v.type e) at ps es) (pass_all w from c xs (record o { words = ws }))
    passes_init [] a.NoExpression [] place next low high ws h none d all room in_words len same = (
      refl,
      refl,
      record {
        length_is = refl;
        outside = λ i none. refl;
        values = λ p k st i. absurd i;
        rights = λ p k st i. absurd i;
        given = λ p k st i. absurd i;
        unwritten = λ l st none. refl;
      },
    )
    passes_init (p ∷ ps) (a.MoreExpressions e es) (Value to lower upper x ∷ xs) place next low high ws h none d all room in_words len same =
        let both = or_else_none (in_context (λ y. a.MoreExpressions y es) (first_call site.env (a.Literal 0) e)) (in_context (a.MoreExpressions e) (call_in_arguments site.env (a.Literal 0) es)) none in
        let lying : member (scope G) sys p.0 ≡ Some (to, p.1.type) = ap (λ g. member g sys p.0) (sym globals) ∙ h.4 in
        let off : Offset (scope G) sys p to = inr (ap is_component h.5, lying, subst IsCell (sym h.5) tt) in
        let here : from + to < w.own = omega (arith, room, (offset_within (scope G) sys distinct one p to (all p (inl refl)) off).1) in
        let r = value_of (view_of w (record o { words = ws })) x in
        subst (λ t. Inits (p ∷ ps) ws
        (and_then (init_argument_writes sys.sort clock site.env store (stored_at at p.0) t e) (λ us. and_then (bind (λ l v e. init_argument_writes sys.sort clock site.env store l v.type e) at ps es) (λ vs. Gives (us ++ vs))))
        (unless_fault (pass_result (record o { words = ws }) r (λ m. if within lower upper m then pass_word (record o { words = ws }) (from + to) m else record { own = record o { words = ws }; fault = Some fault.Range })) (pass_all w from c xs))) (sym h.5)
        (value_passes p ps h.0 h.0 lower upper h.1 to ws xs h.5 d (all p (inl refl)) lying here in_words (value clock site.env store e) r
        (bind (λ l v e. init_argument_writes sys.sort clock site.env store l v.type e) at ps es)
        (value_agrees site clock store (view_of w (record o { words = ws })) K lies (stays ws len same) e x h.0 place h.2 low h.3 h.8 (in_context_none (λ y. a.MoreExpressions y es) (first_call site.env (a.Literal 0) e) both.0))
        (λ m. passes_init ps es xs h.2 next h.3 high (slice_set ws (from + to) m) h.9 (in_context_none (a.MoreExpressions e) (call_in_arguments site.env (a.Literal 0) es) both.1) d.1 (λ q i. all q (inr i))
        room (omega (arith, in_words, length-set ws (from + to) m)) (length-set ws (from + to) m ∙ len) (still_same ws to m same here)))
    passes_init (p ∷ ps) (a.MoreExpressions (a.Use (a.Plain x)) es) (Right to t ∷ xs) place next low high ws h none d all room in_words len same =
        let both = or_else_none (in_context (λ y. a.MoreExpressions y es) (first_call site.env (a.Literal 0) (a.Use (a.Plain x)))) (in_context (a.MoreExpressions (a.Use (a.Plain x))) (call_in_arguments site.env (a.Literal 0) es)) none in
        let found : right (scope G) sys p.0 ≡ Some (to, h.2) = ap (λ g. right g sys p.0) (sym globals) ∙ h.3 in
        let lying : right (scope G) sys p.0 ≡ Some (to, p.1) = found ∙ ap (λ z. Some (to, z)) (right_of (scope G) sys distinct one p to h.2 (all p (inl refl)) found) in
        let component : is_component p.1.type ≡ true = ap is_component h.4 in
        let off : Offset (scope G) sys p to = inl (component, lying) in
        let here : from + to < w.own = omega (arith, room, (offset_within (scope G) sys distinct one p to (all p (inl refl)) off).1) in
        let r = given h.0 t h.6 x h.5 ws same len to h.1 (stored_at at p.0) (omega (arith, there, (offset_within (scope G) sys distinct one p to (all p (inl refl)) off).1)) p.0 p.1 lying h.4 in
        let m = right_word (record o { words = ws }) (c + to) t in
        subst (λ y. Inits (p ∷ ps) ws
        (and_then (init_argument_writes sys.sort clock site.env store (stored_at at p.0) y (a.Use (a.Plain x))) (λ us. and_then (bind (λ l v e. init_argument_writes sys.sort clock site.env store l v.type e) at ps es) (λ vs. Gives (us ++ vs))))
        (pass_all w from c xs (record o { words = slice_set ws (from + to) m }))) (sym h.4)
        (subst (λ us. Inits (p ∷ ps) ws (and_then (bind (λ l v e. init_argument_writes sys.sort clock site.env store l v.type e) at ps es) (λ vs. Gives (us ++ vs))) (pass_all w from c xs (record o { words = slice_set ws (from + to) m })))
        (sym (ap (named_right_writes site.env store sys.sort (stored_at at p.0)) h.5 ∙ r.1))
        (prepend p ps to r.0 m w.own ws (record o { words = ws }) (bind (λ l v e. init_argument_writes sys.sort clock site.env store l v.type e) at ps es) (pass_all w from c xs (record o { words = slice_set ws (from + to) m })) d (all p (inl refl)) off here in_words
        (inl (component, subst (λ y. RightMeans G y r.0 (c + to) m) (sym h.4) r.2, subst (λ y. IsGiven y r.0) (sym h.4) r.3))
        (passes_init ps es xs place next low high (slice_set ws (from + to) m) h.8 (in_context_none (a.MoreExpressions (a.Use (a.Plain x))) (call_in_arguments site.env (a.Literal 0) es) both.1) d.1 (λ q i. all q (inr i))
        room (omega (arith, in_words, length-set ws (from + to) m)) (length-set ws (from + to) m ∙ len) (still_same ws to m same here))))
    passes_init _ _ _ place next low high ws h none d all room in_words len same = absurd h
