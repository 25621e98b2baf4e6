-- The cases of names, parts and variables: what they are compiled to represents them, if this holds
-- for what they contain.
use Rattle.std.proofs.Common.{◌≡◌, ◌≤◌, inl, inr, ℕ, ◌+◌, ℤ, List, [], ◌∷◌, Option, Some, None, refl, ap, sym, subst, ◌∙◌, Bool, true, false, if◌then◌else◌, arith, bytes_eq}
use Rattle.cp_model.specs.Abstract as a
use Rattle.cp_model.specs.Abstract.{BaseType, Boolean, Integer, Name, Plain, System}
use Rattle.cp_model.specs.Types.{ArrayOf, ComponentOf, GlobalScope, Members, MoreMembers, NoMembers, NoType, Queue, RecordOf, ResolvedType, Simple, base_of_type, full_range}
use Rattle.cp_model.specs.Declarations.{Variable, declarations, is_component}
use Rattle.cp_model.specs.Environments.{Environment, IsConstant, IsUnknown, IsVariable, Meaning, meaning}
use Rattle.cp_model.specs.Locations.{ByName, Location, Owner}
use Rattle.cp_model.specs.Calls.{Callee, callee}
use Rattle.cp_model.specs.Places.{field_type, member_type}
use Rattle.cp_model.specs.Names.{lookup}
use Rattle.cp_law_typing.specs.Words.{words}
use Rattle.cp_law_typing.specs.Judgement.{AllFit, IsArray, IsOfBase, IsSimple, IsUsedAs, NamesValue, NamesVariable, OperandsFit, Place, TypedExpression, TypedPlace, TypedUse, find_member, is_structured}
use Rattle.cp_law_typing.specs.SoundTypes.{SoundType}
use Rattle.cp_law_typing.specs.StaticTypes.{called_type, element_type, expression_type, is_clock, named_value_type, own_value_type, place_type, place_type_meant, value_type_meant}
use Rattle.cp_model_program.specs.Terms.{Item, Number, Realtime, Rooted, Term}
use Rattle.cp_model_program.specs.Programs as op
use Rattle.cp_model_program.specs.Programs.{Call, CodeUnit, Program}
use Rattle.cp_model_program.specs.Layout.{farther, member_part, part}
use Rattle.cp_model_program.specs.Sites as code
use Rattle.cp_model_program.specs.Sites.{IsNoClock, Site, UnitText, first_parameter, parameters}
use Rattle.cp_model_program.specs.TermsFor.{Knowns, PlaceExpressionFor, TermFor, move_place_expression}
use Rattle.cp_model_program.specs.Scopes.{Scope, environment, part_start, root_named, target_of, unit_of}
use Rattle.cp_model_program.specs.CodedStatements.{is_result}
use Rattle.cp_model_program.specs.CodedTerms.{CodedCall, CodedPlaceExpression, CodedTerm, call_of, coded_place_expression, coded_term, element_part, ordinal_or_zero, root_or_first, term_of_name, used_term, variable_or_number}
use Rattle.cp_model_program.proofs.Environments.{environment_at, place_type_same}
use Rattle.cp_model_program.proofs.Found.{part_whole}
use Rattle.cp_model_program.proofs.NamesRepresent.{NoResult, RootFor, constant_has_no_root, names_root, structured_is_no_result, uncalled_is_no_result}
use Rattle.cp_model_program.proofs.Representing.{Chained, Representing, place_at, split}
use Rattle.cp_model_program.proofs.CallsRepresent.{answers, call_represents}

-- ---- Types

pub simple_is : (t : ResolvedType) → IsSimple t → (low : ℤ) × (high : ℤ) × (start : ℤ) × (t ≡ Simple (base_of_type t) low high start)
simple_is t s =
    let i = s.1 in
    (i.low, i.high, i.start, i.is ∙ ap (λ b. Simple b i.low i.high i.start) (sym (ap base_of_type i.is)))

pub simple_full : (b : BaseType) → IsSimple (full_range b)
simple_full b = (b, record { low = _; high = _; start = _; is = refl })

pub simple_of : (b : BaseType) (t : ResolvedType) → IsOfBase b t → IsSimple t
simple_of b t i = (b, i)

pub operands : (o : a.Operator) (t u : ResolvedType) → OperandsFit o t u → IsSimple t × IsSimple u
operands a.Add t u h = (simple_of Integer t h.0, simple_of Integer u h.1)
operands a.Subtract t u h = (simple_of Integer t h.0, simple_of Integer u h.1)
operands a.Multiply t u h = (simple_of Integer t h.0, simple_of Integer u h.1)
operands a.Divide t u h = (simple_of Integer t h.0, simple_of Integer u h.1)
operands a.Modulo t u h = (simple_of Integer t h.0, simple_of Integer u h.1)
operands a.And t u h = (simple_of Boolean t h.0, simple_of Boolean u h.1)
operands a.Or t u h = (simple_of Boolean t h.0, simple_of Boolean u h.1)
operands a.Equal t u h = (simple_of h.0 t h.1, simple_of h.0 u h.2)
operands a.Unequal t u h = (simple_of h.0 t h.1, simple_of h.0 u h.2)
operands a.Less t u h = (simple_of h.0 t h.1, simple_of h.0 u h.2)
operands a.Greater t u h = (simple_of h.0 t h.1, simple_of h.0 u h.2)
operands a.AtMost t u h = (simple_of h.0 t h.1, simple_of h.0 u h.2)
operands a.AtLeast t u h = (simple_of h.0 t h.1, simple_of h.0 u h.2)

pub simple_is_no_component : (t : ResolvedType) → IsSimple t → is_component t ≡ false
simple_is_no_component t s = ap is_component s.1.is

pub member_there : (g : GlobalScope) (x : Name) (n : ℕ) (ms : Members) (t : ResolvedType) → find_member x ms ≡ Some t
    → (member_type x ms ≡ t) × ((k : ℕ) × (member_part g n ms x [] ≡ Some (k, t)))
member_there g x n NoMembers t h = absurd (cc)
member_there g x n (MoreMembers y u ms) t h = go (bytes_eq x y) h (member_there g x (n + words g u) ms t)
  where
    whole : farther n (part g u []) ≡ Some (n + 0, u)
    whole = ap (farther n) (part_whole g u)

    go : (b : Bool) → (if b then Some u else find_member x ms) ≡ Some t
        → (find_member x ms ≡ Some t → (member_type x ms ≡ t) × ((k : ℕ) × (member_part g (n + words g u) ms x [] ≡ Some (k, t))))
        → ((if b then u else member_type x ms) ≡ t)
        × ((k : ℕ) × ((if b then farther n (part g u []) else member_part g (n + words g u) ms x []) ≡ Some (k, t)))
    go true h rest = (cc, (n + 0, whole ∙ ap (λ o. elim o [ None ↦ None | Some z ↦ Some (n + 0, z) ]) h))
    go false h rest = rest h

-- ---- The induction

module _ (scope : Scope) (program : Program) (texts : List UnitText) (systems : List System) (routines : ℕ) (before : List CodeUnit) (unit : CodeUnit) (at : Location) (o : Owner)
    (standing : Representing scope program texts before systems routines) (K : Knowns) where
  abbrev env : Environment
  env = environment_at scope at o

  abbrev p : Place
  p = place_at scope systems routines at o

  abbrev site : Site
  site = record { program = program; texts = texts; env = env; unit = unit; words = scope.words }

  abbrev Chain : List CodedCall → ℕ → ℕ → Type 0
  Chain = Chained scope program texts before unit

  -- ---- Names

  -- the root of a variable that is neither a result nor a component
  pub variable_root : (x : Name) → NamesVariable env x → NoResult scope x → is_component (place_type env (Plain x)) ≡ false
      → RootFor scope env x (place_type env (Plain x))
  variable_root x v no_result is_data =
      let t : place_type env (Plain x) ≡ v.1.type = ap place_type_meant v.2 in
      subst (RootFor scope env x) (sym t)
      (names_root scope at o x v.0 v.1 standing.running standing.by_value v.2 no_result (sym (ap is_component t) ∙ is_data))

  -- a name whose type isn't missing means a variable
  pub typed_name : (x : Name) (t : ResolvedType) → place_type env (Plain x) ≡ t → (t ≡ NoType → ⊥) → NamesVariable env x
  typed_name x t is some = go (meaning env x) refl
    where
      go : (m : Meaning) → meaning env x ≡ m → NamesVariable env x
      go (IsVariable l v) e = (l, v, e)
      go (IsConstant b n) e = absurd (some (sym is ∙ ap place_type_meant e))
      go IsUnknown e = absurd (some (sym is ∙ ap place_type_meant e))

  pub by_term : (e : a.Expression) (t u : Term) (b c : BaseType) (place next low high : ℕ) → t ≡ u → b ≡ c → TermFor site K e u c place next low high
      → TermFor site K e t b place next low high
  by_term e t u b c place next low high is same h =
      subst (λ z. TermFor site K e z b place next low high) (sym is) (subst (λ z. TermFor site K e u z place next low high) (sym same) h)

  pub name_represents : (x : Name) (place next low high : ℕ) → callee env (Plain x) ≡ None → NamesValue env x → IsSimple (named_value_type env x) → place ≡ next
      → TermFor site K (a.Use (Plain x)) (term_of_name scope x) (base_of_type (named_value_type env x)) place next low high
  name_represents x place next low high none (inl is) simple e =
      let clock : is_clock x ≡ true = ap is_clock is in
      by_term (a.Use (Plain x)) (term_of_name scope x) Realtime (base_of_type (named_value_type env x)) Integer place next low high
      (ap (λ b. if b then Realtime else variable_or_number (root_named scope x) (ordinal_or_zero (lookup x scope.globals.constants))) clock)
      (ap (λ b. base_of_type (if b then full_range Integer else value_type_meant (meaning env x))) clock)
      (none, clock, refl, e)
  name_represents x place next low high none (inr (inl c)) simple e =
      let k = constant_has_no_root scope at o x c.1.0 c.1.1 c.1.2 in
      by_term (a.Use (Plain x)) (term_of_name scope x) (Number c.1.1) (base_of_type (named_value_type env x)) c.1.0 place next low high
      (ap (λ b. if b then Realtime else variable_or_number (root_named scope x) (ordinal_or_zero (lookup x scope.globals.constants))) c.0
      ∙ ap (λ r. variable_or_number r (ordinal_or_zero (lookup x scope.globals.constants))) k.0 ∙ ap (λ z. Number (ordinal_or_zero z)) k.1)
      (ap (λ b. base_of_type (if b then full_range Integer else value_type_meant (meaning env x))) c.0 ∙ ap (λ m. base_of_type (value_type_meant m)) c.1.2)
      (none, c.0, c.1.2, e)
  name_represents x place next low high none (inr (inr v)) simple e =
      let value : named_value_type env x ≡ place_type env (Plain x) =
      ap (λ b. if b then full_range Integer else value_type_meant (meaning env x)) v.0 ∙ ap value_type_meant v.1.2 ∙ sym (ap place_type_meant v.1.2) in
      let here : IsSimple (place_type env (Plain x)) = subst IsSimple value simple in
      let r : RootFor scope env x (place_type env (Plain x)) =
      variable_root x v.1 (uncalled_is_no_result scope at o x standing.running none) (simple_is_no_component (place_type env (Plain x)) here) in
      let s = simple_is (place_type env (Plain x)) here in
      by_term (a.Use (Plain x)) (term_of_name scope x) (Item (Rooted r.0)) (base_of_type (named_value_type env x)) (base_of_type (place_type env (Plain x))) place next low high
      (ap (λ b. if b then Realtime else variable_or_number (root_named scope x) (ordinal_or_zero (lookup x scope.globals.constants))) v.0
      ∙ ap (λ z. variable_or_number z (ordinal_or_zero (lookup x scope.globals.constants))) r.1)
      (ap base_of_type value)
      (s.0, s.1, s.2, none, v.0, (e, subst (code.NamesVariable env x r.0) s.3 r.2))

  -- ---- What is proved of each part

  abbrev pub TermRepresents : a.Expression → Type 0
  TermRepresents e = (low place next high : ℕ) → TypedExpression p e → IsSimple (expression_type env e)
      → Chain (coded_term scope e low).calls place next → (coded_term scope e low).temps ≤ high
      → TermFor site K e (coded_term scope e low).term (base_of_type (expression_type env e)) place next low high

  abbrev pub PlaceExpressionRepresents : a.Designator → Type 0
  PlaceExpressionRepresents d = (low place next high : ℕ) → TypedPlace p d → is_result scope d ≡ false → is_component (place_type env d) ≡ false
      → Chain (coded_place_expression scope d low).calls place next → (coded_place_expression scope d low).temps ≤ high
      → PlaceExpressionFor site K d (coded_place_expression scope d low).place_expression (place_type env d) place next low high

  abbrev pub VariableRepresents : a.Expression → Type 0
  VariableRepresents (a.Use d) = PlaceExpressionRepresents d
  VariableRepresents _ = Unit {0}

  pub structured_has_no_result : (d : a.Designator) → is_structured (place_type env d) ≡ true → is_result scope d ≡ false
  structured_has_no_result (a.Plain x) h = structured_is_no_result scope at o x standing.running h
  structured_has_no_result (a.Part d x) h = refl
  structured_has_no_result (a.At d e) h = refl

  pub uncalled_has_no_result : (d : a.Designator) → callee env d ≡ None → is_result scope d ≡ false
  uncalled_has_no_result (a.Plain x) h = uncalled_is_no_result scope at o x standing.running h
  uncalled_has_no_result (a.Part d x) h = refl
  uncalled_has_no_result (a.At d e) h = refl

  -- ---- Uses

  pub item_represents : (d : a.Designator) (s : CodedPlaceExpression) (place next low high : ℕ) → callee env d ≡ None → IsNoClock d → IsSimple (place_type env d)
      → PlaceExpressionFor site K d s.place_expression (place_type env d) place next low high
      → TermFor site K (a.Use d) (Item s.place_expression) (base_of_type (place_type env d)) place next low high
  item_represents d s place next low high none clock simple h =
      let k = simple_is (place_type env d) simple in
      (k.0, k.1, k.2, none, clock, subst (λ t. PlaceExpressionFor site K d s.place_expression t place next low high) k.3 h)

  pub use_represents : (d : a.Designator) (low place next high : ℕ) (c : Option Callee) → callee env d ≡ c → IsUsedAs p c d
      → IsSimple (called_type scope.globals c (own_value_type env d)) → PlaceExpressionRepresents d
      → Chain (used_term scope d low (coded_place_expression scope d low) c).calls place next → (used_term scope d low (coded_place_expression scope d low) c).temps ≤ high
      → TermFor site K (a.Use d) (used_term scope d low (coded_place_expression scope d low) c).term (base_of_type (called_type scope.globals c (own_value_type env d))) place next low high
  use_represents d low place next high (Some c) means t simple place_expression chain room = (
    c,
    call_of scope (unit_of scope c) (target_of (environment scope) c.of) [] low,
    subst (λ n. code.operation_at program place ≡ Some (op.Function (call_of scope (unit_of scope c) (target_of (environment scope) c.of) [] low) low n)) chain.3 chain.1,
    call_represents scope program texts systems routines before unit at o standing d c low [] means t.0.may chain.2,
    no_parameters (declarations scope.globals c.routine.parameters) t.0.fit,
    refl,
    answers scope program texts systems routines before unit at o standing c t.1,
    omega arith,
    omega (arith, room),
  )
    where
      no_parameters : (ps : List (Name × Variable)) → AllFit env ps a.NoExpression → ps ≡ []
      no_parameters [] fit = refl
      no_parameters (q ∷ qs) fit = absurd fit
  use_represents (a.Plain x) low place next high None means t simple place_expression chain room = name_represents x place next low high means t simple chain
  use_represents (a.Part d x) low place next high None means t simple place_expression chain room =
      item_represents (a.Part d x) (coded_place_expression scope (a.Part d x) low) place next low high means tt simple
      (place_expression low place next high t refl (simple_is_no_component (place_type env (a.Part d x)) simple) chain room)
  use_represents (a.At d e) low place next high None means t simple place_expression chain room =
      item_represents (a.At d e) (coded_place_expression scope (a.At d e) low) place next low high means tt simple
      (place_expression low place next high t refl (simple_is_no_component (place_type env (a.At d e)) simple) chain room)

  -- ---- Parts

  pub plain_represents : (x : Name) → PlaceExpressionRepresents (a.Plain x)
  plain_represents x low place next high t no_result is_data chain room =
      let r : RootFor scope env x (place_type env (Plain x)) = variable_root x t no_result is_data in
      (chain, subst (λ z. code.NamesVariable env x z (place_type env (Plain x))) (sym (ap root_or_first r.1)) r.2)

  pub part_represents : (d : a.Designator) (x : Name) → PlaceExpressionRepresents d → PlaceExpressionRepresents (a.Part d x)
  part_represents d x place_expression low place next high t no_result is_data chain room =
      let field = t.1 in
      let k = member_there scope.globals x 0 field.members field.type field.found in
      let type : place_type env (a.Part d x) ≡ field.type = ap (field_type x) field.is ∙ k.0 in
      let there : part scope.globals (RecordOf field.members) (ByName x ∷ []) ≡ Some (k.1.0, field.type) = k.1.1 in
      let way : part_start (part scope.globals (place_type (environment scope) d) (ByName x ∷ [])) ≡ k.1.0 =
      ap (λ z. part_start (part scope.globals z (ByName x ∷ []))) (place_type_same scope at o d ∙ field.is) ∙ ap part_start there in (
        field.members,
        k.1.0,
        (coded_place_expression scope d low).place_expression,
        there ∙ ap (λ z. Some (k.1.0, z)) (sym type),
        ap (λ n. move_place_expression n (coded_place_expression scope d low).place_expression) way,
        subst (λ z. PlaceExpressionFor site K d (coded_place_expression scope d low).place_expression z place next low high) field.is
            (place_expression low place next high t.0 (structured_has_no_result d (ap is_structured field.is)) (ap is_component field.is) chain room),
      )

  pub element_represents : (d : a.Designator) (e : a.Expression) (s : CodedPlaceExpression) (i : CodedTerm) (of t : ResolvedType) (array : IsArray t) → of ≡ t → (place next low high : ℕ)
      → low ≤ s.temps → s.temps ≤ i.temps
      → ((middle : ℕ) → Chain s.calls place middle → PlaceExpressionFor site K d s.place_expression t place middle low s.temps)
      → ((middle : ℕ) → Chain i.calls middle next → TermFor site K e i.term (base_of_type (expression_type env e)) middle next s.temps high)
      → Chain (element_part scope.globals of s i).calls place next
      → i.temps ≤ high
      → PlaceExpressionFor site K (a.At d e) (element_part scope.globals of s i).place_expression (element_type t) place next low high
  element_represents d e s i of t array same place next low high grows more place_expression index chain room =
      subst (λ z. Chain (element_part scope.globals z s i).calls place next → PlaceExpressionFor site K (a.At d e) (element_part scope.globals z s i).place_expression (element_type t) place next low high)
      (sym (same ∙ array.is))
      (λ chain.
      let k = split scope program texts before unit s.calls i.calls place next chain in (
        base_of_type (expression_type env e),
        k.0,
        s.temps,
        sym (ap (λ z. words scope.globals (element_type z)) array.is),
        refl,
        grows,
        omega (arith, more, room),
        subst (λ z. PlaceExpressionFor site K d s.place_expression z place k.0 low s.temps) (array.is ∙ ap (λ z. ArrayOf array.low array.high (element_type z)) (sym array.is)) (place_expression k.0 k.1),
        index k.0 k.2,
      ))
      chain

  pub element_room : (d : a.Designator) (high : ℕ) (s : CodedPlaceExpression) (i : CodedTerm) (array : IsArray (place_type env d)) → place_type (environment scope) d ≡ place_type env d
      → (element_part scope.globals (place_type (environment scope) d) s i).temps ≤ high → i.temps ≤ high
  element_room d high s i array same room = subst (λ z. (element_part scope.globals z s i).temps ≤ high) (same ∙ array.is) room

  -- ---- Variables

  pub used_place : (d : a.Designator) → TypedUse p d → (place_type env d ≡ NoType → ⊥) → TypedPlace p d
  used_place (a.Plain x) t some = typed_name x (place_type env (Plain x)) refl some
  used_place (a.Part d x) t some = t
  used_place (a.At d e) t some = t

  pub used_as : (d : a.Designator) → callee env d ≡ None → TypedExpression p (a.Use d) → TypedUse p d
  used_as d none t = subst (λ c. IsUsedAs p c d) none t

  pub is_no_clock : (d : a.Designator) → TypedPlace p d → IsNoClock d
  is_no_clock (a.Plain x) t = standing.no_clock at o x t
  is_no_clock (a.Part d x) t = tt
  is_no_clock (a.At d e) t = tt

  pub sound_is_some : (t : ResolvedType) → SoundType t → (t ≡ NoType → ⊥) × (is_component t ≡ false)
  sound_is_some (Simple b lower upper start) s = ((λ h. cc), refl)
  sound_is_some (ArrayOf lower upper t) s = ((λ h. cc), refl)
  sound_is_some (RecordOf ms) s = ((λ h. cc), refl)
  sound_is_some Queue s = ((λ h. cc), refl)
  sound_is_some (ComponentOf r inner) s = absurd s
  sound_is_some NoType s = absurd s
