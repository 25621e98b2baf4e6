-- The units of a typed system type represent their texts, one after another.
use Rattle.std.proofs.Common.{◌≡◌, ◌≤◌, ◌<◌, ◌⊎◌, inl, inr, ℕ, suc, ◌+◌, List, [], ◌∷◌, ◌++◌, Option, Some, None, refl, ap, sym, subst, ◌∙◌, Bool, true, false, if◌then◌else◌, slice_get, length, arith, append_assoc}
use Rattle.std.proofs.lemmas.List.{length-append}
use Rattle.std.proofs.lemmas.Bool.{true≢false}
use Rattle.std.specs.Prelude.{nat_lt}
use Rattle.cp_model.specs.Abstract.{Class, Monitor, Name, Process, Routine, Sort, Statement, System}
use Rattle.cp_model.specs.Names.{lookup}
use Rattle.cp_model.specs.Types.{GlobalScope}
use Rattle.cp_model.specs.Declarations.{Variable, declarations}
use Rattle.cp_model.specs.Locations.{OfProcess, root}
use Rattle.cp_model.specs.Components.{Component, component_named}
use Rattle.cp_law_typing.specs.Declared.{Each, RoutineVariable}
use Rattle.cp_law_typing.specs.Needs as needs
use Rattle.cp_law_typing.specs.Needs.{some_environment}
use Rattle.cp_law_typing.specs.Words.{words, words_of_variables}
use Rattle.cp_law_typing.specs.WellTyped.{TypedRoutine}
use Rattle.cp_model_program.specs.Programs.{CodeUnit, Done, Operation, Program, Return, StartPlan}
use Rattle.cp_model_program.specs.Layout.{activation_words, component_words, has_room, locals_words, most_arguments, most_words}
use Rattle.cp_model_program.specs.Sites.{BodyOf, LeftOut, RoutineOf, UnitText}
use Rattle.cp_model_program.specs.StatementsFor.{is_function}
use Rattle.cp_model_program.specs.IsProgramFor.{UnitRepresents, end_of, own_words, system_of_unit}
use Rattle.cp_model_program.specs.Scopes.{Scope, activation_fits, component_fits, declared_type, groups_of, or_zero}
use Rattle.cp_model_program.specs.Plans.{plan_of_routine}
use Rattle.cp_model_program.specs.CodeNeeds.{Need, need_of, need_of_all}
use Rattle.cp_model_program.specs.Compile.{Compiled, body_scope, code_unit, kept_text, kept_texts, left_out, routine_scope, unit_code, with_body, with_code, with_nothing, with_routine, with_routines, with_stub, with_system, with_unit}
use Rattle.cp_model_program.proofs.ScopesRepresent.{SystemKnown, UnitsThere, standing}
use Rattle.cp_model_program.proofs.Room.{is_less, kept_get, kept_there, room_is}
use Rattle.cp_model_program.proofs.Representing.{UnitThere, takes}
use Rattle.cp_model_program.proofs.UnitNeeds.{Short, unit_needs}
use Rattle.cp_model_program.proofs.StartsRepresent.{ByValue, routine_starts}
use Rattle.cp_model_program.proofs.UnitsRepresent.{AllThere, unit_represents, words_needed}
use Rattle.cp_model_program.proofs.Beginnings.{Begins, begins_first, begins_get, begins_on, begins_same, get_less, get_seam, get_some, last_or_before}
use Rattle.cp_model_program.proofs.SoundPlans.{variables_by_value}

-- ---- Units

-- An activation has no more words than the rules count.
parameters_counted : (g : GlobalScope) (vs : List (Name × Variable)) → locals_words g vs ≡ needs.parameter_words g vs
parameters_counted g [] = refl
parameters_counted g (v ∷ vs) = ap (λ n. (if v.1.by_reference then 1 else words g v.1.type) + n) (parameters_counted g vs)

variables_counted : (g : GlobalScope) (vs : List (Name × Variable)) → Each ByValue vs → locals_words g vs ≡ words_of_variables g vs
variables_counted g [] h = refl
variables_counted g (v ∷ vs) h = by v.1.by_reference h.0.0 (variables_counted g vs h.1)
  where
    by : (b : Bool) → b ≡ false → locals_words g vs ≡ words_of_variables g vs
        → (if b then 1 else words g v.1.type) + locals_words g vs ≡ words g v.1.type + words_of_variables g vs
    by false e rest = ap (λ n. words g v.1.type + n) rest
    by true e rest = absurd (true≢false e)

locals_both : (g : GlobalScope) (ps vs : List (Name × Variable)) → locals_words g (ps ++ vs) ≡ locals_words g ps + locals_words g vs
locals_both g [] vs = omega arith
locals_both g (p ∷ ps) vs = let rest = locals_both g ps vs in omega (arith, rest)

activation_counted : (g : GlobalScope) (r : Routine) → Each (RoutineVariable g) (declarations g r.variables) → activation_words g r ≤ needs.activation_words g r
activation_counted g r typed =
    omega (
      arith,
      locals_both g (declarations g r.parameters) (declarations g r.variables),
      parameters_counted g (declarations g r.parameters),
      variables_counted g (declarations g r.variables) (variables_by_value g (declarations g r.variables) typed),
    )

module _ (g : GlobalScope) (program : Program) (whole : List UnitText) where
  -- The texts of all units are `whole`, and these are kept.
  abbrev pub texts : List UnitText
  texts = kept_texts program.units whole

  abbrev stub_need : Scope → Need
  stub_need scope = record { words = scope.words; temps = 0; frames = 0 }

  own_room : (u : CodeUnit) (t : UnitText) → UnitRepresents program texts g u t → own_words g t ≤ u.words
  own_room u (RoutineOf s r) h = h.1
  own_room u (BodyOf s) h = omega arith
  own_room u (LeftOut s) h = omega arith

  -- Each unit so far represents its text.
  abbrev pub Good : Compiled → Type 0
  Good c = (n : ℕ) (u : CodeUnit) (t : UnitText) → slice_get c.units n ≡ Some u → slice_get texts n ≡ Some t → UnitRepresents program texts g u t

  end_needs : (us : List CodeUnit) (z : Sort) → (need_of us (end_of z)).words ≡ 0
  end_needs us Process = refl
  end_needs us Monitor = refl
  end_needs us Class = refl

  -- Each unit so far needs little more than it takes by the meaning.
  abbrev pub Little : Compiled → Type 0
  Little c =
      (n : ℕ) (u : CodeUnit) (t : UnitText) → slice_get c.units n ≡ Some u → slice_get whole n ≡ Some t → (d : ℕ) → n < d → u.words ≤ takes g d t + most_arguments

  little_with : (c : Compiled) (u : CodeUnit) (t : UnitText) (os : List Operation) → Little c → slice_get whole (length c.units) ≡ Some t
      → ((d : ℕ) → length c.units < d → u.words ≤ takes g d t + most_arguments) → Little (record { operations = os; units = c.units ++ u ∷ [] })
  little_with c u t os little text own n v y there is d less = elim (last_or_before c.units u n v there) [
    | inl h ↦ little n v y h is d less
    | inr h ↦
        subst (λ z. z.words ≤ takes g d y + most_arguments) (ap (or_unit u) h.1)
        (subst (λ z. u.words ≤ takes g d z + most_arguments) (ap (or_text t) (sym text ∙ ap (slice_get whole) (sym h.0) ∙ is)) (own d (omega (arith, less, h.0))))
  ]
    where
      or_unit : CodeUnit → Option CodeUnit → CodeUnit
      or_unit z None = z
      or_unit z (Some w) = w

      or_text : UnitText → Option UnitText → UnitText
      or_text z None = z
      or_text z (Some w) = w

  pub record Within (c : Compiled) : Type 0 where
    pub operations : Begins c.operations program.operations
    pub units : Begins c.units program.units

  all_there : (scope : Scope) (before : List CodeUnit) (unit : CodeUnit) (less : unit.words < most_words) (front xs : List Operation) → Begins (front ++ xs) program.operations
      → AllThere scope program texts before unit less xs (length front)
  all_there scope before unit less front [] h = tt
  all_there scope before unit less front (x ∷ xs) h =
      let next : (front ++ x ∷ []) ++ xs ≡ front ++ x ∷ xs = append_assoc front (x ∷ []) xs in (
        ap (λ l. slice_get l (length front)) (h.is ∙ append_assoc front (x ∷ xs) h.rest) ∙ get_seam front x (xs ++ h.rest),
        subst (AllThere scope program texts before unit less xs) (length-append front (x ∷ []) ∙ one_more (length front))
            (all_there scope before unit less (front ++ x ∷ []) xs (subst (λ l. Begins l program.operations) (sym next) h)),
      )
    where
      one_more : (n : ℕ) → n + 1 ≡ suc n
      one_more n = omega arith

  kept_represents : (u : CodeUnit) (t : UnitText) → (u.words < most_words → UnitRepresents program texts g u t) → UnitRepresents program texts g u (kept_text u t)
  kept_represents u t represents = by (nat_lt u.words most_words) refl
    where
      by : (b : Bool) → nat_lt u.words most_words ≡ b → UnitRepresents program texts g u (if b then t else LeftOut (system_of_unit t))
      by true e = represents (is_less u.words most_words e)
      by false e = tt

  good_with : (c : Compiled) (u : CodeUnit) (t : UnitText) (os : List Operation) → Good c → Begins (c.units ++ u ∷ []) program.units → slice_get whole (length c.units) ≡ Some t
      → (u.words < most_words → UnitRepresents program texts g u t) → Good (record { operations = os; units = c.units ++ u ∷ [] })
  good_with c u t os good within text represents n v y there is = elim (last_or_before c.units u n v there) [
    | inl h ↦ good n v y h is
    | inr h ↦
        subst (λ z. UnitRepresents program texts g z y) (ap (or_unit u) h.1)
        (subst (UnitRepresents program texts g u) (ap (or_text t) (sym kept ∙ ap (slice_get texts) (sym h.0) ∙ is)) (kept_represents u t represents))
  ]
    where
      kept : slice_get texts (length c.units) ≡ Some (kept_text u t)
      kept = kept_get program.units whole (length c.units) u t (begins_get (c.units ++ u ∷ []) program.units within (length c.units) u (get_seam c.units u [])) text

      or_unit : CodeUnit → Option CodeUnit → CodeUnit
      or_unit z None = z
      or_unit z (Some v) = v

      or_text : UnitText → Option UnitText → UnitText
      or_text z None = z
      or_text z (Some v) = v

  pub units_later : (before after : List CodeUnit) (first : ℕ) (s : System) → Begins before after → UnitsThere g program texts before first s → UnitsThere g program texts after first s
  units_later before after first s h k = record {
    routines = λ j r is. later (first + j) (RoutineOf s r) (k.routines j r is);
    body = later (first + length s.routines) (BodyOf s) k.body;
  }
    where
      later : (n : ℕ) (t : UnitText) → UnitThere g program texts before n t → UnitThere g program texts after n t
      later n t u = record { text = u.text; room = u.room; little = u.little; unit = u.unit; there = u.there; earlier = begins_get before after h n u.unit u.earlier }

  -- a compiled unit
  pub unit_there : (c : Compiled) (n : ℕ) (t : UnitText) → Good c → Little c → Within c → n < length c.units → slice_get whole n ≡ Some t → UnitThere g program texts c.units n t
  unit_there c n t good little within less text =
      let u = get_some c.units n less in
      let there = begins_get c.units program.units within.units n u.0 u.1 in
      let kept : u.0.words < most_words → slice_get texts n ≡ Some t = kept_there program.units whole n u.0 t there text in
      record { text = kept; little = little n u.0 t u.1 text; room = λ small. own_room u.0 t (good n u.0 t u.1 (kept small)); unit = u.0; there = there; earlier = u.1 }

  pub within_first : (scope : Scope) (starts : StartPlan) (last : Operation) (s : Statement) (c : Compiled) → Within (with_unit scope starts last s c) → Within c
  within_first scope starts last s c h = by (activation_fits scope) (component_fits scope) h
    where
      by : (b d : Bool) → Within (if b then (if d then with_code scope starts last s c else with_stub scope starts c) else with_nothing c) → Within c
      by true true k = record {
        operations = begins_first c.operations (unit_code scope last s (length c.operations)).operations program.operations k.operations;
        units = begins_first c.units (code_unit (unit_code scope last s (length c.operations)).entry starts (need_of_all c.units scope.words (unit_code scope last s (length c.operations)).operations) ∷ []) program.units k.units;
      }
      by true false k = record { operations = k.operations; units = begins_first c.units (code_unit 0 starts (stub_need scope) ∷ []) program.units k.units }
      by false d k = record { operations = k.operations; units = begins_first c.units (left_out ∷ []) program.units k.units }

  -- ---- System types

  module _ (s : System) (systems : List System) (known : SystemKnown g s systems) (short : Short g systems) (firsts : List (Name × ℕ)) (start : Compiled) where
    abbrev first : ℕ
    first = length start.units

    -- The texts of its units, and the components that it names.
    pub record SystemHere : Type 0 where
      pub routines : (k : ℕ) (r : Routine) → slice_get s.routines k ≡ Some r → slice_get whole (first + k) ≡ Some (RoutineOf s r)
      pub body : slice_get whole (first + length s.routines) ≡ Some (BodyOf s)
      pub named : (n : Component) → component_named (some_environment g s None) n.name ≡ Some n
          → UnitsThere g program texts start.units (or_zero (lookup (declared_type n.name (groups_of n.is_parameter s)) firsts)) n.system

    -- After some of the routines.
    pub record After (k : ℕ) (c : Compiled) : Type 0 where
      pub good : Good c
      pub little : Little c
      pub grows : Begins start.units c.units
      pub count : length c.units ≡ first + k

    module _ (here : SystemHere) where
      own_there : (k : ℕ) (c : Compiled) → After k c → Within c → (j : ℕ) (r : Routine) → j < k → slice_get s.routines j ≡ Some r → UnitThere g program texts c.units (first + j) (RoutineOf s r)
      own_there k c so within j r less is = unit_there c (first + j) (RoutineOf s r) so.good so.little within (omega (arith, so.count, less)) (here.routines j r is)

      -- a unit that has no room is left out
      nothing_stands : (k : ℕ) (c : Compiled) (t : UnitText) → ((d : ℕ) → most_words ≤ takes g d t) → After k c → slice_get whole (length c.units) ≡ Some t → Within (with_nothing c) → After (suc k) (with_nothing c)
      nothing_stands k c t much so text within = record {
        little = little_with c left_out t c.operations so.little text (λ d less. let all = much d in omega (arith, all));
        good = good_with c left_out t c.operations so.good within.units text (λ small. absurd (omega (arith, small)));
        grows = begins_on start.units c.units (c.units ++ left_out ∷ []) so.grows (record { rest = left_out ∷ []; is = refl });
        count = length-append c.units (left_out ∷ []) ∙ omega (arith, so.count);
      }

      not_room : (n : ℕ) → has_room n ≡ false → most_words < n
      not_room n e = Prim.grind (arith, e)

      no_room : (n : ℕ) → has_room n ≡ false → n ≤ most_words → ⊥
      no_room n e h = true≢false (sym (room_is n h) ∙ e)

      routine_stub : (k : ℕ) (c : Compiled) (r : Routine) → slice_get s.routines k ≡ Some r → has_room (component_words g s) ≡ false → After k c
          → Within (with_stub (routine_scope g s firsts first r) (plan_of_routine g r) c) → After (suc k) (with_stub (routine_scope g s firsts first r) (plan_of_routine g r) c)
      routine_stub k c r is none so within =
          let typed : TypedRoutine g systems s k r = known.bodies.routines k r is in
          let unit = code_unit 0 (plan_of_routine g r) (stub_need (routine_scope g s firsts first r)) in
          let counted = activation_counted g r typed.variables in
          record {
            little = little_with c unit (RoutineOf s r) c.operations so.little (ap (slice_get whole) so.count ∙ here.routines k r is) (λ d less. omega (arith, counted));
            good = good_with c unit (RoutineOf s r) c.operations so.good within.units (ap (slice_get whole) so.count ∙ here.routines k r is) (λ less. (
              routine_starts g s r typed.distinct (variables_by_value g (declarations g r.variables) typed.variables) 0 (activation_words g r) 0 0,
              omega arith,
              typed.distinct,
              typed.variables,
              λ fits. absurd (no_room (component_words g s) none fits),
              typed.parameters,
            ));
            grows = begins_on start.units c.units (c.units ++ unit ∷ []) so.grows (record { rest = unit ∷ []; is = refl });
            count = length-append c.units (unit ∷ []) ∙ omega (arith, so.count);
          }

      routine_coded : (k : ℕ) (c : Compiled) (r : Routine) → slice_get s.routines k ≡ Some r → After k c → Within c
          → Within (with_code (routine_scope g s firsts first r) (plan_of_routine g r) (Return (is_function r.result)) r.body c)
          → After (suc k) (with_code (routine_scope g s firsts first r) (plan_of_routine g r) (Return (is_function r.result)) r.body c)
      routine_coded k c r is so before within =
          let scope = routine_scope g s firsts first r in
          let typed : TypedRoutine g systems s k r = known.bodies.routines k r is in
          let at = length c.operations in
          let e = unit_code scope (Return (is_function r.result)) r.body at in
          let need = need_of_all c.units scope.words e.operations in
          let unit = code_unit e.entry (plan_of_routine g r) need in
          let counted = activation_counted g r typed.variables in
          let context = standing g program texts c.units s systems known firsts first k (activation_words g r) (Some r) (typed.found, typed.result) (k, is)
          (own_there k c so before) (λ n named. units_later start.units c.units _ n.system so.grows (here.named n named)) in
          let code = λ (less : unit.words < most_words). unit_represents scope program texts c.units systems k
          (standing g program texts c.units s systems known firsts first k (activation_words g r) (Some r) (typed.found, typed.result) (k, is)
          (own_there k c so before) (λ n named. units_later start.units c.units _ n.system so.grows (here.named n named)))
          (plan_of_routine g r) (Return (is_function r.result)) r.body at less
          (all_there scope c.units unit less c.operations e.operations within.operations) typed.body in
          record {
            little = little_with c unit (RoutineOf s r) (c.operations ++ e.operations) so.little (ap (slice_get whole) so.count ∙ here.routines k r is)
                (λ d less. let all = unit_needs scope program texts c.units systems k context short refl (Return (is_function r.result)) r.body at refl (typed.body (root (OfProcess 0)) (OfProcess 0)) d less in omega (arith, counted, all));
            good = good_with c unit (RoutineOf s r) (c.operations ++ e.operations) so.good within.units (ap (slice_get whole) so.count ∙ here.routines k r is) (λ less. (
              routine_starts g s r typed.distinct (variables_by_value g (declarations g r.variables) typed.variables) e.entry need.words need.temps need.frames,
              words_needed c.units scope.words e.operations,
              typed.distinct,
              typed.variables,
              λ fits. code less,
              typed.parameters,
            ));
            grows = begins_on start.units c.units (c.units ++ unit ∷ []) so.grows (record { rest = unit ∷ []; is = refl });
            count = length-append c.units (unit ∷ []) ∙ omega (arith, so.count);
          }

      routine_represents : (k : ℕ) (c : Compiled) (r : Routine) → slice_get s.routines k ≡ Some r → After k c → Within (with_routine g s firsts first r c) → After (suc k) (with_routine g s firsts first r c)
      routine_represents k c r is so within = by (activation_fits (routine_scope g s firsts first r)) (component_fits (routine_scope g s firsts first r)) refl refl within
        where
          last : Operation
          last = Return (is_function r.result)

          made : Bool → Bool → Compiled
          made b d =
              if b then (if d then with_code (routine_scope g s firsts first r) (plan_of_routine g r) last r.body c else with_stub (routine_scope g s firsts first r) (plan_of_routine g r) c)
              else with_nothing c

          much : (n : ℕ) → most_words < activation_words g r → most_words ≤ takes g n (RoutineOf s r)
          much n h = let counted = activation_counted g r (known.bodies.routines k r is).variables in omega (arith, h, counted)

          by : (b d : Bool) → component_fits (routine_scope g s firsts first r) ≡ d → activation_fits (routine_scope g s firsts first r) ≡ b → Within (made b d) → After (suc k) (made b d)
          by true true e f w = routine_coded k c r is so (within_first (routine_scope g s firsts first r) (plan_of_routine g r) last r.body c within) w
          by true false e f w = routine_stub k c r is e so w
          by false d e f w = nothing_stands k c (RoutineOf s r) (λ n. much n (not_room (activation_words g r) f)) so (ap (slice_get whole) so.count ∙ here.routines k r is) w

      routine_grows : (r : Routine) (c : Compiled) → Within (with_routine g s firsts first r c) → Within c
      routine_grows r c h = within_first (routine_scope g s firsts first r) (plan_of_routine g r) (Return (is_function r.result)) r.body c h

      routines_grow : (rs : List Routine) (c : Compiled) → Within (with_routines g s firsts first rs c) → Within c
      routines_grow [] c h = h
      routines_grow (r ∷ rs) c h = routine_grows r c (routines_grow rs (with_routine g s firsts first r c) h)

      routines_represent : (rs : List Routine) (k : ℕ) (c : Compiled) → ((j : ℕ) (r : Routine) → slice_get rs j ≡ Some r → slice_get s.routines (k + j) ≡ Some r)
          → After k c → Within (with_routines g s firsts first rs c) → After (k + length rs) (with_routines g s firsts first rs c)
      routines_represent [] k c all so within = subst (λ n. After n c) (nothing_more k) so
        where
          nothing_more : (n : ℕ) → n ≡ n + 0
          nothing_more n = omega arith
      routines_represent (r ∷ rs) k c all so within =
          subst (λ n. After n (with_routines g s firsts first rs (with_routine g s firsts first r c))) (one_more k (length rs))
          (routines_represent rs (suc k) (with_routine g s firsts first r c)
          all'
          (routine_represents k c r (ap (slice_get s.routines) (nothing_more k) ∙ all 0 r refl) so (routines_grow rs (with_routine g s firsts first r c) within)) within)
        where
          one_more : (n m : ℕ) → suc n + m ≡ n + suc m
          one_more n m = omega arith

          nothing_more : (n : ℕ) → n ≡ n + 0
          nothing_more n = omega arith

          all' : (j : ℕ) (q : Routine) → slice_get rs j ≡ Some q → slice_get s.routines (suc k + j) ≡ Some q
          all' j q h = ap (slice_get s.routines) (one_more k j) ∙ all (suc j) q h

      body_stub : (c : Compiled) → has_room (component_words g s) ≡ false → After (length s.routines) c → Within (with_stub (body_scope g s firsts first) Done c)
          → After (suc (length s.routines)) (with_stub (body_scope g s firsts first) Done c)
      body_stub c none so within =
          let unit = code_unit 0 Done (stub_need (body_scope g s firsts first)) in
          record {
            little = little_with c unit (BodyOf s) c.operations so.little (ap (slice_get whole) so.count ∙ here.body) (λ d less. omega arith);
            good = good_with c unit (BodyOf s) c.operations so.good within.units (ap (slice_get whole) so.count ∙ here.body)
                (λ less. (refl, known.bodies.distinct, λ fits. absurd (no_room (component_words g s) none fits)));
            grows = begins_on start.units c.units (c.units ++ unit ∷ []) so.grows (record { rest = unit ∷ []; is = refl });
            count = length-append c.units (unit ∷ []) ∙ omega (arith, so.count);
          }

      body_coded : (c : Compiled) → After (length s.routines) c → Within c → Within (with_code (body_scope g s firsts first) Done (end_of s.sort) s.body c)
          → After (suc (length s.routines)) (with_code (body_scope g s firsts first) Done (end_of s.sort) s.body c)
      body_coded c so before within =
          let scope = body_scope g s firsts first in
          let at = length c.operations in
          let e = unit_code scope (end_of s.sort) s.body at in
          let need = need_of_all c.units scope.words e.operations in
          let unit = code_unit e.entry Done need in
          let context = standing g program texts c.units s systems known firsts first (length s.routines) 0 None tt tt
          (own_there (length s.routines) c so before) (λ n named. units_later start.units c.units _ n.system so.grows (here.named n named)) in
          let code = λ (less : unit.words < most_words). unit_represents scope program texts c.units systems (length s.routines)
          (standing g program texts c.units s systems known firsts first (length s.routines) 0 None tt tt
          (own_there (length s.routines) c so before) (λ n named. units_later start.units c.units _ n.system so.grows (here.named n named)))
          Done (end_of s.sort) s.body at less
          (all_there scope c.units unit less c.operations e.operations within.operations) (λ l o. known.bodies.body l) in
          record {
            little = little_with c unit (BodyOf s) (c.operations ++ e.operations) so.little (ap (slice_get whole) so.count ∙ here.body)
                (λ d less. let all = unit_needs scope program texts c.units systems (length s.routines) context short refl (end_of s.sort) s.body at (end_needs c.units s.sort) (known.bodies.body (root (OfProcess 0))) d less in omega (arith, all));
            good = good_with c unit (BodyOf s) (c.operations ++ e.operations) so.good within.units (ap (slice_get whole) so.count ∙ here.body)
                (λ less. (refl, known.bodies.distinct, λ fits l. code less l (OfProcess 0)));
            grows = begins_on start.units c.units (c.units ++ unit ∷ []) so.grows (record { rest = unit ∷ []; is = refl });
            count = length-append c.units (unit ∷ []) ∙ omega (arith, so.count);
          }

      body_represents : (c : Compiled) → After (length s.routines) c → Within (with_body g s firsts first c) → After (suc (length s.routines)) (with_body g s firsts first c)
      body_represents c so within = by (component_fits (body_scope g s firsts first)) refl within
        where
          made : Bool → Compiled
          made d = if d then with_code (body_scope g s firsts first) Done (end_of s.sort) s.body c else with_stub (body_scope g s firsts first) Done c

          by : (d : Bool) → component_fits (body_scope g s firsts first) ≡ d → Within (made d) → After (suc (length s.routines)) (made d)
          by true e w = body_coded c so (within_first (body_scope g s firsts first) Done (end_of s.sort) s.body c within) w
          by false e w = body_stub c e so w

      body_grows : (c : Compiled) → Within (with_body g s firsts first c) → Within c
      body_grows c h = within_first (body_scope g s firsts first) Done (end_of s.sort) s.body c h

      pub system_grows : Within (with_system g firsts s start) → Within start
      system_grows h = routines_grow s.routines start (body_grows (with_routines g s firsts first s.routines start) h)

      -- All its units represent their texts.
      pub system_represents : Good start → Little start → Within (with_system g firsts s start) → After (suc (length s.routines)) (with_system g firsts s start)
      system_represents good little within =
          body_represents (with_routines g s firsts first s.routines start)
          (subst (λ n. After n (with_routines g s firsts first s.routines start)) (nothing_before (length s.routines))
          (routines_represent s.routines 0 start (λ j r h. ap (slice_get s.routines) (nothing_before j) ∙ h)
          (record { good = good; little = little; grows = begins_same start.units; count = nothing_more first })
          (body_grows (with_routines g s firsts first s.routines start) within)))
          within
        where
          nothing_before : (n : ℕ) → 0 + n ≡ n
          nothing_before n = omega arith

          nothing_more : (n : ℕ) → n ≡ n + 0
          nothing_more n = omega arith

      pub system_there : After (suc (length s.routines)) (with_system g firsts s start) → Within (with_system g firsts s start)
          → UnitsThere g program texts (with_system g firsts s start).units first s
      system_there so within = record {
        routines = λ k r is. unit_there (with_system g firsts s start) (first + k) (RoutineOf s r) so.good so.little within (omega (arith, so.count, get_less s.routines k r is)) (here.routines k r is);
        body = unit_there (with_system g firsts s start) (first + length s.routines) (BodyOf s) so.good so.little within (omega (arith, so.count)) here.body;
      }
