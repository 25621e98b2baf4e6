-- Which variables are queues: none of a routine has any, so a queue is a variable of the component itself.
use Rattle.std.proofs.Common.{◌≡◌, ℕ, List, [], ◌++◌, Bool, true, false, Option, Some, None, refl, ap, sym, subst, inl, inr, arith}
use Rattle.std.specs.Prelude.{if◌then◌else◌}
use Rattle.std.specs.Str.{bytes_eq}
use Rattle.std.proofs.lemmas.Bool.{true≢false}
use Rattle.cp_model.specs.Abstract.{At, Designator, Name, Part, Plain, Routine, System}
use Rattle.cp_model.specs.Names.{lookup}
use Rattle.cp_model.specs.Types.{ArrayOf, ComponentOf, GlobalScope, Members, MoreMembers, NoMembers, NoType, Queue, RecordOf, ResolvedType, Simple, named_type}
use Rattle.cp_model.specs.Declarations.{Variable, declarations}
use Rattle.cp_model.specs.Locations.{Location}
use Rattle.cp_model.specs.Environments.{Environment, Frame, IsConstant, IsUnknown, IsVariable, Meaning, local_variables, meaning, permanent_variables, result_variable}
use Rattle.cp_model.specs.Places.{field_type, member_type}
use Rattle.cp_law_typing.specs.Declared as declared
use Rattle.cp_law_typing.specs.Declared.{InitialVariable, IsData, IsSystem, ResultFits, RoutineParameter, RoutineVariable, SystemParameter, SystemVariable, sort_of}
use Rattle.cp_law_typing.specs.Judgement.{IsSimple, has_queues}
use Rattle.cp_law_typing.specs.SoundTypes.{SoundMembers, SoundType}
use Rattle.cp_law_typing.specs.StaticTypes.{element_type, place_type, place_type_meant}
use Rattle.cp_law_typing.specs.WellTyped.{TypedRoutine}
use Rattle.cp_law_typing.proofs.Facts.{variables_lie}
use Rattle.cp_law_gates.specs.InOrder.{OwnVariable, first_name}
use Rattle.cp_law_typing.proofs.ComponentNames.{each_found, found_either}

-- ---- Types without queues

abbrev mutual
  pub Queueless : ResolvedType → Type 0
  Queueless (Simple b low high start) = Unit {0}
  Queueless (ArrayOf low high t) = Queueless t
  Queueless (RecordOf ms) = AllQueueless ms
  Queueless Queue = ⊥
  Queueless (ComponentOf s inner) = Unit {0}
  Queueless NoType = Unit {0}

  AllQueueless : Members → Type 0
  AllQueueless NoMembers = Unit {0}
  AllQueueless (MoreMembers x t ms) = Queueless t × AllQueueless ms

mutual
  sound_queueless : (t : ResolvedType) → SoundType t → has_queues t ≡ false → Queueless t
  sound_queueless (Simple b low high start) h k = tt
  sound_queueless (ArrayOf low high t) h k = sound_queueless t h.1 k
  sound_queueless (RecordOf ms) h k = members_queueless ms h
  sound_queueless Queue h k = absurd (true≢false k)
  sound_queueless (ComponentOf s inner) h k = tt
  sound_queueless NoType h k = tt

  members_queueless : (ms : Members) → SoundMembers ms → AllQueueless ms
  members_queueless NoMembers h = tt
  members_queueless (MoreMembers x t ms) h = (sound_queueless t h.0 h.3, members_queueless ms h.2)

member_queueless : (x : Name) (ms : Members) → AllQueueless ms → Queueless (member_type x ms)
member_queueless x NoMembers h = tt
member_queueless x (MoreMembers y t ms) h = by (bytes_eq x y) (member_queueless x ms h.1)
  where
    by : (b : Bool) → Queueless (member_type x ms) → Queueless (if b then t else member_type x ms)
    by true k = h.0
    by false k = k

field_queueless : (x : Name) (t : ResolvedType) → Queueless t → Queueless (field_type x t)
field_queueless x (RecordOf ms) h = member_queueless x ms h
field_queueless x (Simple b low high start) h = tt
field_queueless x (ArrayOf low high t) h = tt
field_queueless x Queue h = tt
field_queueless x (ComponentOf s inner) h = tt
field_queueless x NoType h = tt

element_queueless : (t : ResolvedType) → Queueless t → Queueless (element_type t)
element_queueless (ArrayOf low high t) h = h
element_queueless (RecordOf ms) h = tt
element_queueless (Simple b low high start) h = tt
element_queueless Queue h = tt
element_queueless (ComponentOf s inner) h = tt
element_queueless NoType h = tt

place_queueless : (env : Environment) (d : Designator) → Queueless (place_type_meant (meaning env (first_name d))) → Queueless (place_type env d)
place_queueless env (Plain x) h = h
place_queueless env (Part d x) h = field_queueless x (place_type env d) (place_queueless env d h)
place_queueless env (At d e) h = element_queueless (place_type env d) (place_queueless env d h)

-- ---- Variables of monitors

-- A variable of a component isn't by reference, and those of its routines have no queues.
module _ (env : Environment)
    (direct : (x : Name) (v : Variable) → lookup x (permanent_variables env.globals env.system) ≡ Some v → v.by_reference ≡ false)
    (locals : (f : Frame) (x : Name) (v : Variable) → env.frame ≡ Some f → lookup x (local_variables env.globals f.routine) ≡ Some v → Queueless v.type) where
  pub queue_is_own : (d : Designator) → place_type env d ≡ Queue → OwnVariable env (meaning env (first_name d))
  queue_is_own d is = by (meaning env (first_name d)) refl
    where
      by : (m : Meaning) → meaning env (first_name d) ≡ m → OwnVariable env m
      by (IsVariable at v) e = elim (variables_lie env (first_name d) at v e) [
        | inl L ↦ absurd (subst Queueless is (place_queueless env d (subst (λ m. Queueless (place_type_meant m)) (sym e) (locals L.frame (first_name d) v L.running L.found))))
        | inr O ↦ (ap (λ (l : Location). l.owner) O.lies, direct (first_name d) v O.found)
      ]
      by (IsConstant b n) e = tt
      by IsUnknown e = tt

pub routine_queueless : (g : GlobalScope) (before : List System) (s : System) (k : ℕ) (r : Routine) → TypedRoutine g before s k r → (x : Name) (v : Variable) → lookup x (local_variables g r) ≡ Some v → Queueless v.type
routine_queueless g before s k r T x v h = elim (found_either (declarations g r.parameters) (declarations g r.variables ++ result_variable g r.name r.result) x v h) [
  | inl a ↦ (let P = each_found (λ y. RoutineParameter g (declared.is_function r.result) ([], y)) (declarations g r.parameters) x v T.parameters a in sound_queueless v.type P.0.0 P.1)
  | inr a ↦ elim (found_either (declarations g r.variables) (result_variable g r.name r.result) x v a) [
    | inl b ↦ (let P = each_found (λ y. RoutineVariable g ([], y)) (declarations g r.variables) x v T.variables b in sound_queueless v.type P.0.0 P.1)
    | inr b ↦ result r.result T.result b
  ]
]
  where
    simple_queueless : (t : ResolvedType) → IsSimple t → Queueless t
    simple_queueless t h = subst Queueless (sym h.1.is) tt

    result : (o : Option Name) → ResultFits g o → lookup x (result_variable g r.name o) ≡ Some v → Queueless v.type
    result None h e = absurd (grind arith)
    result (Some t) h e = by (bytes_eq x r.name) e
      where
        type_in : Option Variable → ResolvedType
        type_in None = NoType
        type_in (Some y) = y.type

        by : (b : Bool) → (if b then Some (record { by_reference = false; type = named_type g t }) else None) ≡ Some v → Queueless v.type
        by true e = subst Queueless (ap type_in e) (simple_queueless (named_type g t) h.0)
        by false e = absurd (grind arith)
