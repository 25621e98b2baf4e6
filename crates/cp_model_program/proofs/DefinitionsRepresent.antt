-- The units of all system types of a text represent them, and each type's name has the first of its
-- own units.
use Rattle.std.proofs.Common.{◌≡◌, ◌≤◌, ℕ, ℤ, zero, suc, ◌+◌, ◌-◌, List, [], ◌∷◌, ◌++◌, Option, Some, None, refl, ap, sym, subst, ◌∙◌, Bool, true, false, if◌then◌else◌, slice_get, length, map, arith, append_assoc, bytes_eq}
use Rattle.std.proofs.lemmas.List.{length-append}
use Rattle.cp_model.specs.Abstract as a
use Rattle.cp_model.specs.Abstract.{BaseType, Constant, Definition, Enumeration, Name, Routine, System, TypeExpression}
use Rattle.cp_model.specs.Names.{lookup}
use Rattle.cp_model.specs.Types.{ArrayOf, ComponentOf, GlobalScope, Members, NoType, Queue, RecordOf, ResolvedType, Simple, array_type, constant_value, full_range, or_no_type, resolved_type, subrange_type}
use Rattle.cp_model.specs.Declarations.{declarations, define, define_all, reported_members, with_constant}
use Rattle.cp_model_program.specs.Programs.{Done, Program, Return}
use Rattle.cp_model_program.specs.Sites.{BodyOf, RoutineOf, UnitText}
use Rattle.cp_model_program.specs.StatementsFor.{is_function}
use Rattle.cp_model_program.specs.IsProgramFor.{end_of}
use Rattle.cp_model_program.specs.Scopes.{declared_type, groups_of, or_zero}
use Rattle.cp_model_program.specs.Plans.{plan_of_routine}
use Rattle.cp_model_program.specs.Compile.{Compiled, CompiledTypes, body_scope, definition_texts, first_of_type, kept_texts, routine_scope, system_texts, with_definition, with_definitions, with_routine, with_routines, with_system}
use Rattle.cp_model_program.specs.Known.{InOrder, NamedBefore}
use Rattle.cp_model_program.proofs.ScopesRepresent.{SystemKnown, UnitsThere}
use Rattle.cp_model_program.proofs.UnitNeeds.{Short}
use Rattle.cp_law_typing.specs.Systems.{systems_of}
use Rattle.cp_model_program.specs.Layout.{most_arguments}
use Rattle.cp_model_program.proofs.Beginnings.{Begins}
use Rattle.cp_model_program.proofs.SystemsRepresent.{Good, Little, SystemHere, Within, system_represents, system_there, units_later, within_first}

-- ---- Lists

get_map : (s : System) (rs : List Routine) (k : ℕ) (r : Routine) (zs : List UnitText) → slice_get rs k ≡ Some r → slice_get (map (RoutineOf s) rs ++ zs) k ≡ Some (RoutineOf s r)
get_map s [] k r zs h = absurd (cc)
get_map s (q ∷ qs) zero r zs h = ap (λ o. elim o [ None ↦ None | Some z ↦ Some (RoutineOf s z) ]) h
get_map s (q ∷ qs) (suc k) r zs h = get_map s qs k r zs h

get_behind : {A : Type 0} (xs zs : List A) (i : ℕ) → slice_get (xs ++ zs) (length xs + i) ≡ slice_get zs i
get_behind [] zs i = ap (slice_get zs) (nothing_before i)
  where
    nothing_before : (n : ℕ) → 0 + n ≡ n
    nothing_before n = omega arith
get_behind (x ∷ xs) zs i = ap (slice_get (x ∷ (xs ++ zs))) (one_more (length xs) i) ∙ get_behind xs zs i
  where
    one_more : (n m : ℕ) → suc n + m ≡ suc (n + m)
    one_more n m = omega arith

-- ---- Types

no_subrange : (x y : Option (BaseType × ℤ)) (q : System) (inner : Members) → subrange_type x y ≡ ComponentOf q inner → ⊥
no_subrange (Some c) (Some d) q inner h = cc
no_subrange (Some c) None q inner h = cc
no_subrange None y q inner h = cc

no_array : (r t : ResolvedType) (q : System) (inner : Members) → array_type r t ≡ ComponentOf q inner → ⊥
no_array (Simple b low high start) t q inner h = cc
no_array (ArrayOf low high r) t q inner h = cc
no_array (RecordOf ms) t q inner h = cc
no_array Queue t q inner h = cc
no_array (ComponentOf s ms) t q inner h = cc
no_array NoType t q inner h = cc

-- a type that represents a component is a name
pub component_name : (h : GlobalScope) (t : TypeExpression) (q : System) (inner : Members) → resolved_type h t ≡ ComponentOf q inner
    → (z : Name) × (t ≡ a.TypeName z) × (lookup z h.types ≡ Some (ComponentOf q inner))
component_name h (a.TypeName z) q inner is = (z, refl, go (lookup z h.types) is)
  where
    go : (o : Option ResolvedType) → or_no_type o ≡ ComponentOf q inner → o ≡ Some (ComponentOf q inner)
    go None e = absurd (cc)
    go (Some t) e = ap (λ y. Some y) e
component_name h (a.Range c d) q inner is = absurd (no_subrange (constant_value h c) (constant_value h d) q inner is)
component_name h (a.Array i e) q inner is = absurd (no_array (resolved_type h i) (resolved_type h e) q inner is)
component_name h (a.Record fs) q inner is = absurd (cc)

same_types : (h : GlobalScope) (x : Name) (o : Option (BaseType × ℤ)) → (with_constant x o h).types ≡ h.types
same_types h x None = refl
same_types h x (Some c) = refl

-- The system types of these definitions have few parameters.
abbrev pub ShortAll : GlobalScope → List Definition → Type 0
ShortAll g [] = Unit {0}
ShortAll g (a.SystemDef x s ∷ ds) = (suc (length (declarations g s.parameters)) ≤ most_arguments) × ShortAll g ds
ShortAll g (a.TypeDef x t ∷ ds) = ShortAll g ds
ShortAll g (a.EnumDef x vs ∷ ds) = ShortAll g ds
ShortAll g (a.ConstantDef x c ∷ ds) = ShortAll g ds

short_more : (g : GlobalScope) (ys : List System) (s : System) → suc (length (declarations g s.parameters)) ≤ most_arguments → Short g ys → Short g (ys ++ s ∷ [])
short_more g [] s h short zero q e = subst (λ z. suc (length (declarations g z.parameters)) ≤ most_arguments) (ap (system_or s) e) h
  where
    system_or : System → Option System → System
    system_or z None = z
    system_or z (Some w) = w
short_more g [] s h short (suc i) q e = absurd (cc)
short_more g (y ∷ ys) s h short zero q e = short 0 q e
short_more g (y ∷ ys) s h short (suc i) q e = short_more g ys s h (λ j z k. short (suc j) z k) i q e

pub short_all : (g : GlobalScope) (ds : List Definition) → Short g (systems_of ds) → ShortAll g ds
short_all g [] h = tt
short_all g (a.SystemDef x s ∷ ds) h = (h 0 s refl, short_all g ds (λ i q e. h (suc i) q e))
short_all g (a.TypeDef x t ∷ ds) h = short_all g ds h
short_all g (a.EnumDef x vs ∷ ds) h = short_all g ds h
short_all g (a.ConstantDef x c ∷ ds) h = short_all g ds h

module _ (g : GlobalScope) (program : Program) (whole : List UnitText) where
  abbrev texts : List UnitText
  texts = kept_texts program.units whole

  -- ---- Growing

  routines_first : (s : System) (firsts : List (Name × ℕ)) (first : ℕ) (rs : List Routine) (c : Compiled) → Within g program whole (with_routines g s firsts first rs c) → Within g program whole c
  routines_first s firsts first [] c h = h
  routines_first s firsts first (r ∷ rs) c h =
      within_first g program whole (routine_scope g s firsts first r) (plan_of_routine g r) (Return (is_function r.result)) r.body c
      (routines_first s firsts first rs (with_routine g s firsts first r c) h)

  pub system_first : (s : System) (firsts : List (Name × ℕ)) (c : Compiled) → Within g program whole (with_system g firsts s c) → Within g program whole c
  system_first s firsts c h =
      routines_first s firsts (length c.units) s.routines c
      (within_first g program whole (body_scope g s firsts (length c.units)) Done (end_of s.sort) s.body (with_routines g s firsts (length c.units) s.routines c) h)

  definition_first : (d : Definition) (m : CompiledTypes) → Within g program whole (with_definition g d m).compiled → Within g program whole m.compiled
  definition_first (a.SystemDef x s) m h = system_first s m.firsts m.compiled h
  definition_first (a.TypeDef x t) m h = h
  definition_first (a.EnumDef x vs) m h = h
  definition_first (a.ConstantDef x c) m h = h

  pub definitions_first : (ds : List Definition) (m : CompiledTypes) → Within g program whole (with_definitions g ds m).compiled → Within g program whole m.compiled
  definitions_first [] m h = h
  definitions_first (d ∷ ds) m h = definition_first d m (definitions_first ds (with_definition g d m) h)

  -- ---- In order

  -- The first unit of each named type is known in the scope so far.
  abbrev pub FirstsRight : GlobalScope → CompiledTypes → Type 0
  FirstsRight h m = (y : Name) (q : System) (inner : Members) → lookup y h.types ≡ Some (ComponentOf q inner)
      → UnitsThere g program texts m.compiled.units (or_zero (lookup y m.firsts)) q

  abbrev pub TextsAt : ℕ → List UnitText → Type 0
  TextsAt n ts = (i : ℕ) (t : UnitText) → slice_get ts i ≡ Some t → slice_get whole (n + i) ≡ Some t

  pub record Represent (h : GlobalScope) (m : CompiledTypes) (more : List UnitText) : Type 0 where
    pub good : Good g program whole m.compiled
    pub little : Little g program whole m.compiled
    pub firsts : FirstsRight h m
    pub texts_at : TextsAt (length m.compiled.units) more

  -- a system type whose texts come next
  pub system_here : (s : System) (h : GlobalScope) (m : CompiledTypes) (more : List UnitText) (ys : List System) (known : SystemKnown g s ys) (short : Short g ys) → NamedBefore g h s → Represent h m (system_texts s ++ more)
      → SystemHere g program whole s ys known short m.firsts m.compiled
  system_here s h m more ys known short named so = record {
    routines = λ k r is. so.texts_at k (RoutineOf s r) (ap (λ l. slice_get l k) (append_assoc (map (RoutineOf s) s.routines) (BodyOf s ∷ []) more) ∙ get_map s s.routines k r (BodyOf s ∷ more) is);
    body = so.texts_at (length s.routines) (BodyOf s)
        (ap (λ l. slice_get l (length s.routines)) (append_assoc (map (RoutineOf s) s.routines) (BodyOf s ∷ []) more)
        ∙ ap (slice_get (map (RoutineOf s) s.routines ++ (BodyOf s ∷ more))) (place s.routines)
        ∙ get_behind (map (RoutineOf s) s.routines) (BodyOf s ∷ more) 0);
    named = λ n is. let k = named n is in so.firsts (declared_type n.name (groups_of n.is_parameter s)) n.system k.0 k.1;
  }
    where
      place : (rs : List Routine) → length rs ≡ length (map (RoutineOf s) rs) + 0
      place rs = omega (arith, mapped rs)
        where
          mapped : (rs : List Routine) → length (map (RoutineOf s) rs) ≡ length rs
          mapped [] = refl
          mapped (r ∷ rs) = ap suc (mapped rs)

  texts_length : (s : System) → length (system_texts s) ≡ suc (length s.routines)
  texts_length s = length-append (map (RoutineOf s) s.routines) (BodyOf s ∷ []) ∙ omega (arith, mapped s.routines)
    where
      mapped : (rs : List Routine) → length (map (RoutineOf s) rs) ≡ length rs
      mapped [] = refl
      mapped (r ∷ rs) = ap suc (mapped rs)

  system_defined : (x : Name) (s : System) (h : GlobalScope) (m : CompiledTypes) (more : List UnitText) (ys : List System) → SystemKnown g s ys → Short g ys → NamedBefore g h s
      → Represent h m (system_texts s ++ more) → Within g program whole (with_definition g (a.SystemDef x s) m).compiled
      → Represent (define h (a.SystemDef x s)) (with_definition g (a.SystemDef x s) m) more
  system_defined x s h m more ys known short named so within =
      let here = system_here s h m more ys known short named so in
      let after = system_represents g program whole s ys known short m.firsts m.compiled here so.good so.little within in
      let there = system_there g program whole s ys known short m.firsts m.compiled here after within in
      record {
        good = after.good;
        little = after.little;
        firsts = λ y q inner. firsts after.grows there y q inner (bytes_eq y x);
        texts_at = λ i t is.
            ap (slice_get whole) (place (length (with_system g m.firsts s m.compiled).units) (length m.compiled.units) (length s.routines) i after.count)
            ∙ so.texts_at (suc (length s.routines) + i) t (ap (slice_get (system_texts s ++ more)) (ap (λ n. n + i) (sym (texts_length s))) ∙ get_behind (system_texts s) more i ∙ is);
      }
    where
      place : (a b c d : ℕ) → a ≡ b + suc c → a + d ≡ b + (suc c + d)
      place a b c d e = omega (arith, e)

      firsts : Begins m.compiled.units (with_system g m.firsts s m.compiled).units
          → UnitsThere g program texts (with_system g m.firsts s m.compiled).units (length m.compiled.units) s → (y : Name) (q : System) (inner : Members) (b : Bool)
          → (if b then Some (ComponentOf s (reported_members h s)) else lookup y h.types) ≡ Some (ComponentOf q inner)
          → UnitsThere g program texts (with_system g m.firsts s m.compiled).units (or_zero (if b then Some (length m.compiled.units) else lookup y m.firsts)) q
      firsts grows there y q inner true is = subst (UnitsThere g program texts (with_system g m.firsts s m.compiled).units (length m.compiled.units)) (ap system_in is) there
        where
          system_in : Option ResolvedType → System
          system_in (Some (ComponentOf z ms)) = z
          system_in _ = s
      firsts grows there y q inner false is =
          units_later g program whole m.compiled.units (with_system g m.firsts s m.compiled).units (or_zero (lookup y m.firsts)) q grows (so.firsts y q inner is)

  type_defined : (x : Name) (t : TypeExpression) (h : GlobalScope) (m : CompiledTypes) (more : List UnitText) → Represent h m more
      → Represent (define h (a.TypeDef x t)) (with_definition g (a.TypeDef x t) m) more
  type_defined x t h m more so = record { good = so.good; little = so.little; firsts = λ y q inner. firsts y q inner (bytes_eq y x); texts_at = so.texts_at }
    where
      firsts : (y : Name) (q : System) (inner : Members) (b : Bool) → (if b then Some (resolved_type h t) else lookup y h.types) ≡ Some (ComponentOf q inner)
          → UnitsThere g program texts m.compiled.units (or_zero (if b then Some (first_of_type m.firsts t) else lookup y m.firsts)) q
      firsts y q inner false is = so.firsts y q inner is
      firsts y q inner true is =
          let k = component_name h t q inner (ap type_in is) in
          subst (λ z. UnitsThere g program texts m.compiled.units (first_of_type m.firsts z) q) (sym k.1) (so.firsts k.0 q inner k.2)
        where
          type_in : Option ResolvedType → ResolvedType
          type_in None = resolved_type h t
          type_in (Some z) = z

  enumeration_defined : (x : Name) (vs : List Name) (h : GlobalScope) (m : CompiledTypes) (more : List UnitText) → Represent h m more
      → Represent (define h (a.EnumDef x vs)) (with_definition g (a.EnumDef x vs) m) more
  enumeration_defined x vs h m more so = record { good = so.good; little = so.little; firsts = λ y q inner. firsts y q inner (bytes_eq y x); texts_at = so.texts_at }
    where
      firsts : (y : Name) (q : System) (inner : Members) (b : Bool) → (if b then Some (full_range (Enumeration x (length vs - 1))) else lookup y h.types) ≡ Some (ComponentOf q inner)
          → UnitsThere g program texts m.compiled.units (or_zero (if b then Some 0 else lookup y m.firsts)) q
      firsts y q inner false is = so.firsts y q inner is
      firsts y q inner true is = absurd (cc)

  constant_defined : (x : Name) (c : Constant) (h : GlobalScope) (m : CompiledTypes) (more : List UnitText) → Represent h m more → Represent (define h (a.ConstantDef x c)) m more
  constant_defined x c h m more so = record {
    good = so.good;
    little = so.little;
    firsts = λ y q inner is. so.firsts y q inner (ap (lookup y) (sym (same_types h x (constant_value h c))) ∙ is);
    texts_at = so.texts_at;
  }

  pub definitions_represent : (ds : List Definition) (h : GlobalScope) (ys : List System) (m : CompiledTypes) (more : List UnitText) → InOrder g h ys ds → ShortAll g ds → Short g ys
      → Represent h m (definition_texts ds ++ more) → Within g program whole (with_definitions g ds m).compiled → Represent (define_all h ds) (with_definitions g ds m) more
  definitions_represent [] h ys m more order few short so within = so
  definitions_represent (a.SystemDef x s ∷ ds) h ys m more order few short so within =
      let step = system_defined x s h m (definition_texts ds ++ more) ys order.0 short order.1
      (record { good = so.good; little = so.little; firsts = so.firsts; texts_at = λ i t is. so.texts_at i t (ap (λ l. slice_get l i) (append_assoc (system_texts s) (definition_texts ds) more) ∙ is) })
      (definitions_first ds (with_definition g (a.SystemDef x s) m) within) in
      definitions_represent ds (define h (a.SystemDef x s)) (ys ++ s ∷ []) (with_definition g (a.SystemDef x s) m) more order.2 few.1 (short_more g ys s few.0 short) step within
  definitions_represent (a.TypeDef x t ∷ ds) h ys m more order few short so within =
      definitions_represent ds (define h (a.TypeDef x t)) ys (with_definition g (a.TypeDef x t) m) more order few short (type_defined x t h m (definition_texts ds ++ more) so) within
  definitions_represent (a.EnumDef x vs ∷ ds) h ys m more order few short so within =
      definitions_represent ds (define h (a.EnumDef x vs)) ys (with_definition g (a.EnumDef x vs) m) more order few short (enumeration_defined x vs h m (definition_texts ds ++ more) so) within
  definitions_represent (a.ConstantDef x c ∷ ds) h ys m more order few short so within =
      definitions_represent ds (define h (a.ConstantDef x c)) ys m more order few short (constant_defined x c h m (definition_texts ds ++ more) so) within
