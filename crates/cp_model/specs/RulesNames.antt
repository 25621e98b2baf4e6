-- Designators: where their names are, and how a name is judged by its sort.
use Rattle.std.specs.Prelude.{ℕ, suc, Bool, true, false, ◌&&◌, not, List, [], ◌∷◌, ◌++◌, Option, None, Some, nat_eq, if◌then◌else◌, length, map, is_some}
use Rattle.std.specs.Option.{unwrap_or}
use Rattle.cp_model.specs.Syntax as s
use Rattle.cp_model.specs.declared.tree.Identifier.{Identifier}
use Rattle.cp_model.specs.declared.rules.Rule.{Rule}
use Rattle.cp_model.specs.declared.rules.Rule.TheVariants.{C1, C2, C4, C5, C8, C10}
use Rattle.cp_model.specs.declared.rules.Access.{Access}
use Rattle.cp_model.specs.declared.rules.Access.TheVariants as access
use Rattle.cp_model.specs.declared.rules.Entity.{Entity}
use Rattle.cp_model.specs.declared.rules.Entity.TheVariants as entity
use Rattle.cp_model.specs.declared.rules.Structure.{Structure}
use Rattle.cp_model.specs.declared.rules.Structure.TheVariants as structure
use Rattle.cp_model.specs.declared.rules.Member.{Member}
use Rattle.cp_model.specs.declared.rules.Member.TheVariants as member
use Rattle.cp_model.specs.declared.rules.RoutineRow.{RoutineRow}
use Rattle.cp_model.specs.declared.rules.Returns.{Returns}
use Rattle.cp_model.specs.declared.rules.Returns.TheVariants as returns
use Rattle.cp_model.specs.declared.rules.ArrayPart.{ArrayPart}
use Rattle.cp_model.specs.declared.rules.NamedPart.{NamedPart}
use Rattle.cp_model.specs.declared.rules.Want.{Want}
use Rattle.cp_model.specs.declared.rules.Want.TheVariants as want
use Rattle.cp_model.specs.declared.rules.Gives.{Gives}
use Rattle.cp_model.specs.declared.rules.Gives.TheVariants as gives
use Rattle.cp_model.specs.declared.rules.Mode.{Mode}
use Rattle.cp_model.specs.declared.rules.Mode.TheVariants as mode
use Rattle.cp_model.specs.declared.rules.Standard.{Standard}
use Rattle.cp_model.specs.declared.rules.Standard.TheVariants as standard
use Rattle.cp_model.specs.RulesJudged.{Judged, Sound, Broken, Violations, violation, unless, breaks, also, then_judge, guard}
use Rattle.cp_model.specs.RulesEnvironment.{Environment, Members, integer, boolean, char, row_of, base_of, agree, is_component, routine_of, parameters_from, members_in, Text, c1_named, c4_unfinished, c9_standard, c4_c9_named}
use Rattle.cp_model.specs.Names.{lookup}

-- ---- the places of names

abbrev pub first_name : s.Designator → Identifier
first_name (s.Designate x ss) = x

abbrev pub last_of : Identifier → s.Selectors → Identifier
last_of x s.NoSelectors = x
last_of x (s.MoreSelectors (s.Field at y) ss) = last_of y ss
last_of x (s.MoreSelectors (s.Indexed is) ss) = last_of x ss

abbrev pub last_name : s.Designator → Identifier
last_name (s.Designate x ss) = last_of x ss

abbrev pub has_field : s.Selectors → Bool
has_field s.NoSelectors = false
has_field (s.MoreSelectors (s.Field at y) ss) = true
has_field (s.MoreSelectors (s.Indexed is) ss) = has_field ss

-- the place of an expression's first token
abbrev pub first_token : s.Expression → ℕ
first_token (s.Number at n) = at
first_token (s.Character at n) = at
first_token (s.Designated d) = (first_name d).at
first_token (s.Call d es) = (first_name d).at
first_token (s.Parenthesized at e) = at
first_token (s.Not at e) = at
first_token (s.Signed sign at e) = at
first_token (s.Binary a o at b) = first_token a

abbrev pub count_of : s.Expressions → ℕ
count_of s.NoExpressions = 0
count_of (s.MoreExpressions e es) = suc (count_of es)

-- ---- parts of variables

-- C2: `.` after something that is neither a record nor a component. C1: a field that the record
-- lacks; a name that isn't a routine of the component's type
abbrev pub member_named : Environment → Identifier → Access → Option Member → Judged Entity
member_named env x a None = breaks C1 x.at
member_named env x a (Some (member.Field t)) = Sound (entity.Variable t a)
member_named env x a (Some (member.Routine r)) = Sound (entity.Entry r)

abbrev pub member_among : Environment → ℕ → Identifier → Access → Option Members → Judged Entity
member_among env at x a None = breaks C2 at
member_among env at x a (Some ms) = member_named env x a (lookup x.name ms)

abbrev pub member_of : Environment → ℕ → Identifier → Entity → Judged Entity
member_of env at x (entity.Variable t a) = member_among env at x a (members_in env (row_of env t).structure)
member_of env at x e = breaks C2 at

-- C2: `[` after something that isn't an array; more indices than dimensions
abbrev pub array_in : ℕ → Access → Structure → Judged ArrayPart
array_in at a (structure.Array index element) = Sound (record { index = index; element = element; access = a })
array_in at a _ = breaks C2 at

abbrev pub c2_array : Environment → ℕ → Entity → Judged ArrayPart
c2_array env at (entity.Variable t a) = array_in at a (row_of env t).structure
c2_array env at e = breaks C2 at

-- C2: an index doesn't agree with the array's index type. The element is a part of the same variable
abbrev pub c2_index : Environment → ℕ → ArrayPart → ℕ → Judged Entity
c2_index env at part t = guard (agree env part.index t) C2 at (entity.Variable part.element part.access)

-- what a name represents before its parts are selected. If no part is, the use of the name judges
-- it
abbrev pub before_selectors : Environment → Identifier → s.Selectors → Entity → Judged Entity
before_selectors env x s.NoSelectors e = Sound e
before_selectors env x (s.MoreSelectors y ys) e = also (c4_c9_named env x e) (Sound e)

-- ---- what is judged of a designator's names, whatever is broken in it

-- C2: the first name is of another sort than is wanted. If C10 judges the place, it is C10 instead
abbrev pub first_rule : Mode → Rule
first_rule mode.Variable = C10
first_rule mode.FirstOperand = C10
first_rule m = C2

abbrev pub is_type : Judged Entity → Bool
is_type (Sound (entity.Type t)) = true
is_type (Sound entity.UnfinishedType) = true
is_type j = false

abbrev pub is_indexed_first : s.Selectors → Bool
is_indexed_first (s.MoreSelectors (s.Indexed is) ss) = true
is_indexed_first ss = false

-- C2: the name of a type before `[`
abbrev pub c2_before_index : Environment → Mode → s.Designator → Violations
c2_before_index env m (s.Designate x ss) = unless (not (is_indexed_first ss && is_type (c1_named env x))) (first_rule m) x.at

-- the member with this name
abbrev pub member_in : Text → Option Members → Option Member
member_in x None = None
member_in x (Some ms) = lookup x ms

-- C5: a routine without `entry` after a component's `.`
abbrev pub c5_without_entry : Identifier → RoutineRow → Violations
c5_without_entry x r = unless r.entry C5 x.at

abbrev pub c5_member : Environment → Identifier → Option Member → Violations
c5_member env y (Some (member.Routine r)) = c5_without_entry y (routine_of env r)
c5_member env y m = []

abbrev pub member_selected : Environment → Text → Judged Entity → Option Member
member_selected env y (Sound (entity.Variable t a)) = member_in y (members_in env (row_of env t).structure)
member_selected env y j = None

abbrev pub c5_selected : Environment → Identifier → s.Selectors → Violations
c5_selected env x (s.MoreSelectors (s.Field at y) ss) = c5_member env y (member_selected env y.name (c1_named env x))
c5_selected env x ss = []

-- a component is never a part of a variable, so its routines come right after the first name
abbrev pub c5_after_point : Environment → s.Designator → Violations
c5_after_point env (s.Designate x ss) = c5_selected env x ss

-- ---- queues

abbrev pub has_queues : Environment → Judged Entity → Bool
has_queues env (Sound (entity.Variable t a)) = (row_of env t).has_queues
has_queues env j = false

-- C8: a variable with queues named anywhere but as the argument of `delay`, `continue` or `empty`
abbrev pub c8_named : Environment → Mode → Identifier → Violations
c8_named env mode.Queue x = []
c8_named env m x = unless (not (has_queues env (c1_named env x))) C8 x.at

abbrev pub c2_c5_c8_named : Environment → Mode → s.Designator → Violations
c2_c5_c8_named env m d = c2_before_index env m d ++ c5_after_point env d ++ c8_named env m (first_name d)

-- ---- routines that are called

-- what is called: what is required of its arguments, and what it returns
pub record Callee : Type 0 where
  pub wants : List Want
  pub gives : Gives

abbrev pub wants_of : Environment → RoutineRow → List Want
wants_of env r = map want.Parameter (parameters_from env r.first r.count)

-- C2: a procedure in an expression; a wrong number of arguments. The parameter `rule` is the rule
-- for a name of another sort
abbrev pub function_gives : Rule → Identifier → Bool → Returns → Judged Gives
function_gives rule x fits returns.Nothing = breaks (if fits then rule else C2) x.at
function_gives rule x fits (returns.Value t) = guard fits C2 x.at (gives.Value t)
function_gives rule x fits (returns.Broken v) = also (unless fits C2 x.at) (Broken v [])

abbrev pub routine_callee : RoutineRow → Environment → Gives → Judged Callee
routine_callee r env g = Sound (record { wants = wants_of env r; gives = g })

abbrev pub function_called : Environment → Rule → Identifier → ℕ → RoutineRow → Judged Callee
function_called env rule x n r = then_judge (function_gives rule x (nat_eq r.count n) r.returns) (routine_callee r env)

-- C2: a function used as a statement; a wrong number of arguments
abbrev pub is_procedure : Returns → Bool
is_procedure returns.Nothing = true
is_procedure _ = false

abbrev pub procedure_called : Environment → Identifier → ℕ → RoutineRow → Judged Callee
procedure_called env x n r =
    guard (is_procedure r.returns && nat_eq r.count n) C2 x.at (record { wants = wants_of env r; gives = gives.Nothing })

-- C5: an entry routine called by its bare name
abbrev pub c5_by_name : Identifier → RoutineRow → Violations
c5_by_name x r = unless (not r.entry) C5 x.at

abbrev pub standard_wants : Standard → List Want
standard_wants standard.Abs = want.Integer ∷ []
standard_wants standard.Succ = want.Simple ∷ []
standard_wants standard.Pred = want.Simple ∷ []
standard_wants standard.Ord = want.Simple ∷ []
standard_wants standard.Chr = want.Integer ∷ []
standard_wants standard.Empty = want.QueueVariable ∷ []
standard_wants standard.Delay = want.QueueVariable ∷ []
standard_wants standard.Continue = want.QueueVariable ∷ []
standard_wants standard.Display = want.Simple ∷ []
standard_wants standard.Accept = want.CharVariable ∷ []
standard_wants standard.Realtime = []
standard_wants standard.Wait = []

abbrev pub callee : Standard → Gives → Option Callee
callee f g = Some (record { wants = standard_wants f; gives = g })

abbrev pub standard_function : Standard → Option Callee
standard_function standard.Abs = callee standard.Abs (gives.Value integer)
standard_function standard.Succ = callee standard.Succ gives.ArgumentBase
standard_function standard.Pred = callee standard.Pred gives.ArgumentBase
standard_function standard.Ord = callee standard.Ord (gives.Value integer)
standard_function standard.Chr = callee standard.Chr (gives.Value char)
standard_function standard.Empty = callee standard.Empty (gives.Value boolean)
standard_function standard.Realtime = callee standard.Realtime (gives.Value integer)
standard_function _ = None

abbrev pub standard_procedure : Standard → Option Callee
standard_procedure standard.Delay = callee standard.Delay gives.Nothing
standard_procedure standard.Continue = callee standard.Continue gives.Nothing
standard_procedure standard.Display = callee standard.Display gives.Nothing
standard_procedure standard.Accept = callee standard.Accept gives.Nothing
standard_procedure standard.Wait = callee standard.Wait gives.Nothing
standard_procedure _ = None

-- C2: a wrong number of arguments. The parameter `rule` is the rule for a name of another sort
abbrev pub standard_called : Rule → Identifier → Bool → Option Callee → Judged Callee
standard_called rule x fits None = breaks (if fits then rule else C2) x.at
standard_called rule x fits (Some c) = guard fits C2 x.at c

abbrev pub standard_fits : Standard → ℕ → Bool
standard_fits f n = nat_eq (length (standard_wants f)) n

-- the rule for a last name of another sort; the last name is the first if no field is selected
abbrev pub sort_rule_of_variable : s.Selectors → Rule
sort_rule_of_variable ss = if has_field ss then C2 else C10

abbrev pub sort_rule : Mode → s.Designator → Rule
sort_rule mode.Variable (s.Designate x ss) = sort_rule_of_variable ss
sort_rule mode.FirstOperand (s.Designate x ss) = sort_rule_of_variable ss
sort_rule m d = C2

-- a function that is called with n arguments
abbrev pub function_of : Environment → Mode → s.Designator → ℕ → Entity → Judged Callee
function_of env m d n (entity.Routine r) =
    also (c5_by_name (last_name d) (routine_of env r)) (function_called env (sort_rule m d) (last_name d) n (routine_of env r))
function_of env m d n (entity.Entry r) =
    also (c5_without_entry (last_name d) (routine_of env r)) (function_called env (sort_rule m d) (last_name d) n (routine_of env r))
function_of env m d n (entity.UnfinishedRoutine r) =
    also (violation C4 (last_name d).at ∷ []) (function_called env (sort_rule m d) (last_name d) n r)
function_of env m d n (entity.Standard f) =
    also (c9_standard env (last_name d) (entity.Standard f)) (standard_called (sort_rule m d) (last_name d) (standard_fits f n) (standard_function f))
function_of env m d n e = also (c4_unfinished (last_name d) e) (breaks (sort_rule m d) (last_name d).at)

-- a procedure that is called with n arguments
abbrev pub procedure_of : Environment → s.Designator → ℕ → Entity → Judged Callee
procedure_of env d n (entity.Routine r) = also (c5_by_name (last_name d) (routine_of env r)) (procedure_called env (last_name d) n (routine_of env r))
procedure_of env d n (entity.Entry r) = also (c5_without_entry (last_name d) (routine_of env r)) (procedure_called env (last_name d) n (routine_of env r))
procedure_of env d n (entity.UnfinishedRoutine r) = also (violation C4 (last_name d).at ∷ []) (procedure_called env (last_name d) n r)
procedure_of env d n (entity.Standard f) =
    also (c9_standard env (last_name d) (entity.Standard f)) (standard_called C2 (last_name d) (standard_fits f n) (standard_procedure f))
procedure_of env d n e = also (c4_unfinished (last_name d) e) (breaks C2 (last_name d).at)

-- what is required of the arguments of a call, whatever is broken in the call
abbrev pub wants_named : Environment → Judged Entity → List Want
wants_named env (Sound (entity.Routine r)) = wants_of env (routine_of env r)
wants_named env (Sound (entity.Entry r)) = wants_of env (routine_of env r)
wants_named env (Sound (entity.UnfinishedRoutine r)) = wants_of env r
wants_named env (Sound (entity.Standard f)) = standard_wants f
wants_named env j = []

-- ---- what isn't a routine, although one is wanted

abbrev pub is_value : Judged Entity → Bool
is_value (Sound (entity.Constant base n)) = true
is_value (Sound (entity.Variable t a)) = true
is_value j = false

-- the type of a variable, of its field, or of its element, whatever the index is, if there is such
-- a part
abbrev pub variable_type : Judged Entity → Option ℕ
variable_type (Sound (entity.Variable t a)) = Some t
variable_type j = None

abbrev pub type_of_field : Option Member → Option ℕ
type_of_field (Some (member.Field t)) = Some t
type_of_field m = None

abbrev pub field_type : Environment → Text → Option ℕ → Option ℕ
field_type env x None = None
field_type env x (Some t) = type_of_field (member_in x (members_in env (row_of env t).structure))

abbrev pub type_of_element : Structure → Option ℕ
type_of_element (structure.Array index element) = Some element
type_of_element _ = None

abbrev pub element_type : Environment → Option ℕ → Option ℕ
element_type env None = None
element_type env (Some t) = type_of_element (row_of env t).structure

abbrev pub indexed_type : Environment → Option ℕ → s.Indices → Option ℕ
indexed_type env t s.NoIndices = t
indexed_type env t (s.MoreIndices at e is) = indexed_type env (element_type env t) is

abbrev pub first_part : Judged Entity → NamedPart
first_part e = record { is_value = is_value e; is_indexed = false; of = variable_type e }

abbrev pub field_part : Option ℕ → NamedPart
field_part t = record { is_value = is_some t; is_indexed = false; of = t }

abbrev pub next_part : Environment → NamedPart → s.Selector → NamedPart
next_part env p (s.Field at x) = field_part (field_type env x.name p.of)
next_part env p (s.Indexed is) = record { is_value = p.is_value; is_indexed = true; of = indexed_type env p.of is }

-- the last name of a designator, and the indices after it
abbrev pub last_part : Environment → NamedPart → s.Selectors → NamedPart
last_part env p s.NoSelectors = p
last_part env p (s.MoreSelectors y ys) = last_part env (next_part env p y) ys

abbrev pub last_part_of : Environment → s.Designator → NamedPart
last_part_of env (s.Designate x ss) = last_part env (first_part (c1_named env x)) ss

abbrev pub is_indexed_value : NamedPart → Bool
is_indexed_value p = p.is_indexed && p.is_value

-- C2: a routine is wanted, but what is indexed is a variable, a field, a constant or a component
abbrev pub c2_indexed : Environment → Mode → s.Designator → Violations
c2_indexed env m d = unless (not (is_indexed_value (last_part_of env d))) (sort_rule m d) (last_name d).at

-- ---- what is used as a value, or as a variable

-- a routine without arguments: it is called as a function, except where C10 judges the place
abbrev pub function_alone : Environment → Mode → s.Designator → Entity → Judged Gives
function_alone env mode.Variable d e = also (c4_c9_named env (first_name d) e) (breaks C10 (first_name d).at)
function_alone env m d e = then_judge (function_of env m d 0 e) (λ c. Sound c.gives)

-- the type of the result of a call whose first argument is of type t
abbrev pub given_type : Environment → ℕ → Gives → ℕ
given_type env t (gives.Value u) = u
given_type env t gives.ArgumentBase = unwrap_or (base_of env t) t
given_type env t gives.Nothing = t

-- C2: a value is wanted and the name is of another sort; a component used as a value
abbrev pub is_used_as_component : Mode → Environment → ℕ → Bool
is_used_as_component mode.Variable env t = true
is_used_as_component m env t = not (is_component env t)

abbrev pub value_of : Environment → Mode → s.Designator → Entity → Judged ℕ
value_of env m d (entity.Constant base n) = Sound base
value_of env m d (entity.Variable t a) = guard (is_used_as_component m env t) (sort_rule m d) (last_name d).at t
value_of env m d (entity.Type t) = breaks (sort_rule m d) (last_name d).at
value_of env m d entity.UnfinishedConstant = also (c4_unfinished (last_name d) entity.UnfinishedConstant) (breaks (sort_rule m d) (last_name d).at)
value_of env m d entity.UnfinishedType = also (c4_unfinished (last_name d) entity.UnfinishedType) (breaks (sort_rule m d) (last_name d).at)
value_of env m d e = then_judge (function_alone env m d e) (λ g. Sound (given_type env integer g))

-- ---- C10, what should be a variable

-- a component variable is a variable, but to others what it holds is no part of it. A right isn't a
-- variable
abbrev pub selects_field_first : s.Selectors → Bool
selects_field_first (s.MoreSelectors (s.Field at y) ss) = true
selects_field_first ss = false

abbrev pub is_changeable : Access → Bool
is_changeable access.Passive = false
is_changeable a = true

abbrev pub is_variable : Environment → s.Selectors → Judged Entity → Bool
is_variable env ss (Sound (entity.Variable t a)) = is_changeable a && not (is_component env t && selects_field_first ss)
is_variable env ss (Sound e) = false
-- already reported
is_variable env ss (Broken v vs) = true

-- C10: neither a variable nor a `var` parameter nor a part of one
abbrev pub c10_designator : Environment → s.Designator → Violations
c10_designator env (s.Designate x ss) = unless (is_variable env ss (c1_named env x)) C10 x.at

abbrev pub c10_variable : Environment → s.Expression → Violations
c10_variable env (s.Designated d) = c10_designator env d
c10_variable env e = violation C10 (first_token e) ∷ []
