-- When terms, place expressions and passed arguments represent expressions, designators and
-- arguments.
--
-- The user calls of an expression are operations before the statement's own, in the order in which
-- they are made. `place` is the place of the first call that is still to be made, and `next` is
-- where the last one leads. The values of calls are in the temps from `low` up to `high`. `Known`
-- represents a call that has been made: its value is in a temp, and `K` says what the temps are
-- known to hold. In a text nothing is known, and a value that is `Known` there is a number.
use Rattle.std.specs.Prelude.{◌≡◌, ◌≤◌, ◌<◌, ℕ, ◌+◌, ℤ, pos, false, true, List, [], ◌∷◌, Some, None, Result, Ok, Err}
use Rattle.cp_model.specs.Abstract as a
use Rattle.cp_model.specs.Abstract.{BaseType, Boolean, Char, Integer, Name}
use Rattle.cp_model.specs.Types.{ArrayOf, Members, Queue, RecordOf, ResolvedType, Simple}
use Rattle.cp_model.specs.Declarations.{Variable}
use Rattle.cp_model.specs.Environments.{IsConstant, meaning}
use Rattle.cp_model.specs.Locations.{ByName}
use Rattle.cp_model.specs.Outcomes.{Fault, Gives, Outcome}
use Rattle.cp_model.specs.Stores.{Ordinal}
use Rattle.cp_model.specs.Places.{TypedValue, base_of_value, head_value, ordinal_of, truth_value}
use Rattle.cp_model.specs.Operators.{is_empty_queue, standard_function}
use Rattle.cp_model.specs.Calls.{Callee, callee}
use Rattle.cp_model.specs.StateViews.{fault_number}
use Rattle.cp_model.specs.declared.state.Fault as machine
use Rattle.cp_law_typing.specs.Judgement.{has_queues, is_structured}
use Rattle.cp_law_typing.specs.SoundTypes.{SoundType}
use Rattle.cp_law_typing.specs.StaticTypes.{is_clock}
use Rattle.cp_law_typing.specs.Words.{words}
use Rattle.cp_model_program.specs.Terms.{Argument, Binary, Copy, Element, Empty, Function, Item, Local, Made, Member, Negative, Not, Number, Realtime, Reference, Root, Rooted, PlaceExpression, Standard, Term, Through, Value}
use Rattle.cp_model_program.specs.Programs as op
use Rattle.cp_model_program.specs.Programs.{Call}
use Rattle.cp_model_program.specs.Functions.{standard}
use Rattle.cp_model_program.specs.Layout.{local_words, part}
use Rattle.cp_model_program.specs.Sites.{Answers, Calls, IsNoClock, NamesVariable, Site, first_parameter, operation_at, parameters}

-- ---- What temps are known to hold

abbrev pub Knowns : Type 1
Knowns = ℕ → ℤ → Type 0

abbrev pub nothing_known : Knowns
nothing_known t n = ⊥

-- ---- Parts of a place expression

abbrev pub move_root : ℕ → Root → Root
move_root n (Local at) = Local (at + n)
move_root n (Member at) = Member (at + n)
move_root n (Through at plus) = Through at (plus + n)

-- The place expression `n` words further on.
abbrev pub move_place_expression : ℕ → PlaceExpression → PlaceExpression
move_place_expression n (Rooted r) = Rooted (move_root n r)
move_place_expression n (Element s low high size plus e) = Element s low high size (plus + n) e

-- ---- Structured values

-- The type is sound, and holds no queue.
abbrev pub IsPlain : ResolvedType → Type 0
IsPlain t = SoundType t × (has_queues t ≡ false)

-- An array or a record that may be copied word by word.
abbrev pub IsPlainStructure : ResolvedType → Type 0
IsPlainStructure t = SoundType t × (has_queues t ≡ false) × (is_structured t ≡ true)

-- ---- Functions and operators

abbrev pub result_base : a.Operator → BaseType
result_base a.Add = Integer
result_base a.Subtract = Integer
result_base a.Multiply = Integer
result_base a.Divide = Integer
result_base a.Modulo = Integer
result_base _ = Boolean

-- The outcome is a simple value of this base type, or the same fault.
abbrev pub Agrees : BaseType → Outcome TypedValue → Result ℤ machine.Fault → Type 0
Agrees b (Gives v) (Ok n) = (base_of_value v ≡ b) × (v.values ≡ Ordinal n ∷ [])
Agrees b (Fault k) (Err f) = k ≡ fault_number f
Agrees b _ _ = ⊥

-- The function with this name takes values of the base type `of` to values of the base type `to`.
abbrev pub FunctionFor : Name → Function → BaseType → BaseType → Type 0
FunctionFor x f of to = (v : TypedValue) → base_of_value v ≡ of → Agrees to (standard_function x v) (standard f (ordinal_of v))

abbrev pub IsEmptyFunction : Name → Type 0
IsEmptyFunction x = (v : TypedValue) → standard_function x v ≡ Gives (truth_value (is_empty_queue (head_value v)))

-- ---- Terms

abbrev mutual
  pub TermFor : Site → Knowns → a.Expression → Term → BaseType → ℕ → ℕ → ℕ → ℕ → Type 0
  TermFor site K (a.Literal n) (Number m) b place next low high = (m ≡ pos n) × (b ≡ Integer) × (place ≡ next)
  TermFor site K (a.Letter n) (Number m) b place next low high = (m ≡ pos n) × (b ≡ Char) × (place ≡ next)
  TermFor site K (a.Known base n) (Number m) b place next low high = (m ≡ n) × (b ≡ base) × (place ≡ next)
  TermFor site K (a.Known base n) (Made t) b place next low high =
      (b ≡ base) × (place ≡ next) × K t n × (low ≤ t) × (t < high)
  TermFor site K (a.Use d) (Made t) b place next low high =
      (c : Callee) × (call : Call) × (operation_at site.program place ≡ Some (op.Function call t next)) × Calls site d c low call
      × (parameters site c ≡ []) × (call.arguments ≡ []) × Answers site c b × (low ≤ t) × (t < high)
  TermFor site K (a.Use d) (Item s) b place next low high =
      (lower : ℤ) × (upper : ℤ) × (start : ℤ) × (callee site.env d ≡ None) × IsNoClock d
      × PlaceExpressionFor site K d s (Simple b lower upper start) place next low high
  TermFor site K (a.Use (a.Plain x)) (Number n) b place next low high =
      (callee site.env (a.Plain x) ≡ None) × (is_clock x ≡ false) × (meaning site.env x ≡ IsConstant b n) × (place ≡ next)
  TermFor site K (a.Use (a.Plain x)) Realtime b place next low high =
      (callee site.env (a.Plain x) ≡ None) × (is_clock x ≡ true) × (b ≡ Integer) × (place ≡ next)
  TermFor site K (a.Call d es) (Made t) b place next low high =
      (c : Callee) × (call : Call) × (last : ℕ) × (middle : ℕ)
      × (operation_at site.program last ≡ Some (op.Function call t next)) × Calls site d c low call
      × ArgumentsFor site K (parameters site c) es call.arguments (first_parameter c) place last low middle
      × Answers site c b × (low ≤ middle) × (middle ≤ t) × (t < high)
  TermFor site K (a.Call (a.Plain x) (a.MoreExpressions e a.NoExpression)) (Standard f c) b place next low high =
      (of : BaseType) × (callee site.env (a.Plain x) ≡ None) × FunctionFor x f of b × TermFor site K e c of place next low high
  TermFor site K (a.Call (a.Plain x) (a.MoreExpressions (a.Use d) a.NoExpression)) (Empty s) b place next low high =
      (callee site.env (a.Plain x) ≡ None) × (callee site.env d ≡ None) × IsNoClock d × IsEmptyFunction x × (b ≡ Boolean)
      × PlaceExpressionFor site K d s Queue place next low high
  TermFor site K (a.Not e) (Not c) b place next low high =
      (of : BaseType) × (b ≡ Boolean) × TermFor site K e c of place next low high
  TermFor site K (a.Negative e) (Negative c) b place next low high =
      (of : BaseType) × (b ≡ Integer) × TermFor site K e c of place next low high
  TermFor site K (a.Positive e) c b place next low high = TermFor site K e c b place next low high
  TermFor site K (a.Binary o e f) (Binary p c d) b place next low high =
      (b1 : BaseType) × (b2 : BaseType) × (between : ℕ) × (middle : ℕ) × (p ≡ o) × (b ≡ result_base o)
      × (low ≤ middle) × (middle ≤ high)
      × TermFor site K e c b1 place between low middle × TermFor site K f d b2 between next middle high
  TermFor site K _ _ b place next low high = ⊥

  pub PlaceExpressionFor : Site → Knowns → a.Designator → PlaceExpression → ResolvedType → ℕ → ℕ → ℕ → ℕ → Type 0
  PlaceExpressionFor site K (a.Plain x) (Rooted r) t place next low high = (place ≡ next) × NamesVariable site.env x r t
  PlaceExpressionFor site K (a.Part d x) s t place next low high =
      (ms : Members) × (plus : ℕ) × (of : PlaceExpression) × (part site.env.globals (RecordOf ms) (ByName x ∷ []) ≡ Some (plus, t))
      × (s ≡ move_place_expression plus of) × PlaceExpressionFor site K d of (RecordOf ms) place next low high
  PlaceExpressionFor site K (a.At d e) (Element of lower upper size plus i) t place next low high =
      (b : BaseType) × (between : ℕ) × (middle : ℕ) × (size ≡ words site.env.globals t) × (plus ≡ 0)
      × (low ≤ middle) × (middle ≤ high)
      × PlaceExpressionFor site K d of (ArrayOf lower upper t) place between low middle × TermFor site K e i b between next middle high
  PlaceExpressionFor site K _ _ t place next low high = ⊥

  -- The arguments of a call are passed to its parameters, the first of which is at `at` in the
  -- new activation.
  pub ArgumentsFor : Site → Knowns → List (Name × Variable) → a.Expressions → List Argument → ℕ → ℕ → ℕ → ℕ → ℕ → Type 0
  ArgumentsFor site K [] a.NoExpression [] at place next low high = place ≡ next
  ArgumentsFor site K (p ∷ ps) (a.MoreExpressions e es) (Value to lower upper c ∷ xs) at place next low high =
      (b : BaseType) × (start : ℤ) × (between : ℕ) × (middle : ℕ) × (to ≡ at) × (p.1.by_reference ≡ false)
      × (p.1.type ≡ Simple b lower upper start) × (low ≤ middle) × (middle ≤ high)
      × TermFor site K e c b place between low middle
      × ArgumentsFor site K ps es xs (at + local_words site.env.globals p.1) between next middle high
  ArgumentsFor site K (p ∷ ps) (a.MoreExpressions (a.Use d) es) (Copy to size from ∷ xs) at place next low high =
      (between : ℕ) × (middle : ℕ) × (to ≡ at) × (p.1.by_reference ≡ false) × (size ≡ words site.env.globals p.1.type)
      × IsPlainStructure p.1.type × (callee site.env d ≡ None) × IsNoClock d × (low ≤ middle) × (middle ≤ high)
      × PlaceExpressionFor site K d from p.1.type place between low middle
      × ArgumentsFor site K ps es xs (at + local_words site.env.globals p.1) between next middle high
  ArgumentsFor site K (p ∷ ps) (a.MoreExpressions (a.Use d) es) (Reference to s ∷ xs) at place next low high =
      (between : ℕ) × (middle : ℕ) × (to ≡ at) × (p.1.by_reference ≡ true) × (callee site.env d ≡ None)
      × (low ≤ middle) × (middle ≤ high)
      × PlaceExpressionFor site K d s p.1.type place between low middle
      × ArgumentsFor site K ps es xs (at + local_words site.env.globals p.1) between next middle high
  ArgumentsFor site K _ _ _ at place next low high = ⊥
