-- The operations of statements.
--
-- A list of statements is emitted from its last statement to its first, so that an operation knows
-- the place to which it leads. The operation that closes a loop comes first, at the place to which
-- the loop's body leads. It is complete once the body has been emitted.
use Rattle.std.specs.Prelude.{Bool, true, false, ℕ, zero, suc, ◌+◌, ◌*◌, ℤ, pos, ◌+ℤ◌, int_le, List, [], ◌∷◌, ◌++◌, Option, None, Some, if◌then◌else◌, nat_le, length, codes}
use Rattle.std.specs.Str.{bytes_eq}
use Rattle.cp_model.specs.Abstract as a
use Rattle.cp_model.specs.Abstract.{BaseType, Char, Name, Sort}
use Rattle.cp_model.specs.Types.{GlobalScope, ResolvedType, Simple, base_of_type, constant_value}
use Rattle.cp_model.specs.Declarations.{declarations}
use Rattle.cp_model.specs.Integers.{count_between}
use Rattle.cp_model.specs.Components.{Component, component_named, process_number}
use Rattle.cp_model.specs.Calls.{Callee, callee}
use Rattle.cp_model.specs.Expressions.{name_of}
use Rattle.cp_law_typing.specs.StaticTypes.{expression_type, place_type}
use Rattle.cp_law_typing.specs.Words.{words}
use Rattle.cp_model_program.specs.Programs as op
use Rattle.cp_model_program.specs.Programs.{Arm, Call, Counting, Dense, Operation, Sparse, Table}
use Rattle.cp_model_program.specs.Sites.{first_parameter}
use Rattle.cp_model_program.specs.StatementsFor.{is_function}
use Rattle.cp_model_program.specs.Tables.{arm_at}
use Rattle.cp_model_program.specs.Scopes.{Scope, body_of, environment, local_in, root_named, target_of, unit_of}
use Rattle.cp_model_program.specs.CodedTerms.{CodedArguments, CodedCall, CodedPlaceExpression, CodedTerm, call_of, coded_arguments, coded_place_expression, coded_term, coded_variable, init_arguments, parameters_of, root_or_first}

-- ---- Operations with their calls

-- A list of consecutive operations, and the place where they are entered.
pub record Emitted : Type 0 where
  pub operations : List Operation
  pub entry : ℕ

-- Calls from a place on, the last of which leads to `next`. The last call is the first operation of
-- the list.
abbrev pub calls_at : List CodedCall → ℕ → ℕ → Emitted
calls_at [] at next = record { operations = []; entry = next }
calls_at (c ∷ cs) at next =
    let rest = calls_at cs at next in
    record {
      operations = rest.operations ++ (op.Function c.call c.into rest.entry ∷ []);
      entry = at + length rest.operations;
    }

-- An operation and the calls that are made before it.
abbrev pub with_calls : List CodedCall → Operation → ℕ → Emitted
with_calls cs o at =
    let calls = calls_at cs (suc at) at in
    record { operations = o ∷ calls.operations; entry = calls.entry }

-- The operations `os`, followed by those of `e`, which keeps its entry.
abbrev pub behind : List Operation → Emitted → Emitted
behind os e = record { operations = os ++ e.operations; entry = e.entry }

-- ---- Assignments

abbrev pub is_result_of : Option a.Routine → Name → Bool
is_result_of None x = false
is_result_of (Some r) x = if bytes_eq x r.name then is_function r.result else false

-- The name of the running function is its result, unless a parameter or variable has that name.
abbrev pub is_result : Scope → a.Designator → Bool
is_result scope (a.Plain x) = elim (local_in scope x) [ None ↦ is_result_of scope.routine x | Some v ↦ false ]
is_result scope _ = false

abbrev pub low_of : ResolvedType → ℤ
low_of (Simple b low high start) = low
low_of _ = pos 0

abbrev pub high_of : ResolvedType → ℤ
high_of (Simple b low high start) = high
high_of _ = pos 0

abbrev pub set_result : ResolvedType → CodedTerm → ℕ → ℕ → Emitted
set_result t e at next = with_calls e.calls (op.SetResult (low_of t) (high_of t) e.term next) at

abbrev pub store : GlobalScope → ResolvedType → CodedPlaceExpression → CodedTerm → CodedPlaceExpression → ℕ → ℕ → Emitted
store g (Simple b low high start) d e s at next = with_calls (d.calls ++ e.calls) (op.Set d.place_expression low high e.term next) at
store g t d e s at next = with_calls (d.calls ++ s.calls) (op.CopyWords d.place_expression s.place_expression (words g t) next) at

-- Sets the result or a variable.
abbrev pub assign_by : Scope → a.Designator → a.Expression → ℕ → ℕ → ℕ → Bool → Emitted
assign_by scope d e low at next true =
    set_result (place_type (environment scope) d) (coded_term scope e low) at next
assign_by scope d e low at next false =
    let to = coded_place_expression scope d low in
    store scope.globals (place_type (environment scope) d) to (coded_term scope e to.temps) (coded_variable scope e to.temps) at next

-- ---- Calls and standard procedures

abbrev pub is_char : BaseType → Bool
is_char Char = true
is_char _ = false

abbrev pub runs_function : Option a.Routine → Bool
runs_function None = false
runs_function (Some r) = is_function r.result

-- The last case is `continue`.
abbrev pub standard_procedure : Scope → Name → ResolvedType → CodedTerm → CodedPlaceExpression → ℕ → ℕ → Emitted
standard_procedure scope x t e s at next =
    if bytes_eq x (codes "display") then with_calls e.calls (op.Display e.term (is_char (base_of_type t)) next) at
    else if bytes_eq x (codes "accept") then with_calls s.calls (op.Accept s.place_expression (low_of t) (high_of t) next) at
    else if bytes_eq x (codes "delay") then with_calls s.calls (op.Delay s.place_expression next) at
    else with_calls s.calls (op.Continue s.place_expression (runs_function scope.routine)) at

abbrev pub standard_statement : Scope → Name → a.Expressions → ℕ → ℕ → ℕ → Emitted
standard_statement scope x a.NoExpression low at next = with_calls [] (op.Wait next) at
standard_statement scope x (a.MoreExpressions e es) low at next =
    standard_procedure scope x (expression_type (environment scope) e) (coded_term scope e low) (coded_variable scope e low) at next

-- A standard procedure, or a user's procedure.
abbrev pub perform_by : Scope → a.Designator → a.Expressions → ℕ → ℕ → ℕ → Option Callee → Emitted
perform_by scope d es low at next None = standard_statement scope (name_of d) es low at next
perform_by scope d es low at next (Some c) =
    let xs = coded_arguments scope es (parameters_of scope c) (first_parameter c) low in
    with_calls xs.calls (op.Procedure (call_of scope (unit_of scope c) (target_of (environment scope) c.of) xs.arguments low) next) at

-- ---- Init

abbrev pub init_call : Scope → Component → CodedArguments → ℕ → Call
init_call scope n xs low = call_of scope (body_of scope n) (target_of (environment scope) (Some n)) xs.arguments low

abbrev pub init_operation : Scope → Component → Sort → CodedArguments → ℕ → ℕ → Operation
init_operation scope n a.Class xs low next = op.InitClass (init_call scope n xs low) next
init_operation scope n a.Monitor xs low next = op.InitMonitor (init_call scope n xs low) next
init_operation scope n a.Process xs low next =
    op.InitProcess (process_number (environment scope) n) xs.arguments scope.words next

abbrev pub init_by : Scope → a.Expressions → ℕ → ℕ → ℕ → Option Component → Emitted
init_by scope es low at next None = record { operations = []; entry = next }
init_by scope es low at next (Some n) =
    let xs = init_arguments scope n.system es (declarations scope.globals n.system.parameters) low in
    with_calls xs.calls (init_operation scope n n.system.sort xs low next) at

-- ---- Case

abbrev pub arms_at : GlobalScope → ℕ → List a.Constant → List Arm → List Arm
arms_at g place [] rest = rest
arms_at g place (c ∷ cs) rest =
    elim (constant_value g c) [ None ↦ arms_at g place cs rest | Some b ↦ record { label = b.1; place = place } ∷ arms_at g place cs rest ]

abbrev pub lower : ℤ → ℤ → ℤ
lower m n = if int_le m n then m else n

abbrev pub higher : ℤ → ℤ → ℤ
higher m n = if int_le m n then n else m

abbrev pub lowest : ℤ → List Arm → ℤ
lowest n [] = n
lowest n (x ∷ xs) = lowest (lower n x.label) xs

abbrev pub highest : ℤ → List Arm → ℤ
highest n [] = n
highest n (x ∷ xs) = highest (higher n x.label) xs

-- The places of consecutive numbers, from `low` on.
abbrev pub places_from : List Arm → ℤ → ℕ → List (Option ℕ)
places_from arms low zero = []
places_from arms low (suc n) = arm_at arms low ∷ places_from arms (low +ℤ pos 1) n

-- A dense table has at most four places for each label.
abbrev pub table_from : List Arm → ℤ → ℕ → Table
table_from arms low count =
    if nat_le count (4 * length arms) then Dense low (places_from arms low count) else Sparse arms

abbrev pub table_of : List Arm → Table
table_of [] = Sparse []
table_of (x ∷ xs) =
    let low = lowest x.label xs in
    table_from (x ∷ xs) low (count_between low (highest x.label xs))

pub record EmittedArms : Type 0 where
  pub arms : List Arm
  pub operations : List Operation

-- ---- For

abbrev pub counting : Scope → Name → Bool → ℕ → ℕ → ℕ → Counting
counting scope x down low body next =
    let t = place_type (environment scope) (a.Plain x) in
    record {
      variable = root_or_first (root_named scope x);
      low = low_of t;
      high = high_of t;
      down = down;
      temp = low;
      body = body;
      next = next;
    }

-- ---- Statements

-- The operations of a statement, from a place on, which lead to `next`.
abbrev mutual
  pub emitted : Scope → a.Statement → ℕ → ℕ → ℕ → Emitted
  emitted scope a.Nothing low at next = record { operations = []; entry = next }
  emitted scope (a.Seq x y) low at next =
      let second = emitted scope y low at next in
      behind second.operations (emitted scope x low (at + length second.operations) second.entry)
  emitted scope (a.Assign d e) low at next = assign_by scope d e low at next (is_result scope d)
  emitted scope (a.Perform d es) low at next = perform_by scope d es low at next (callee (environment scope) d)
  emitted scope (a.If e x y) low at next =
      let no = emitted scope y low at next in
      let yes = emitted scope x low (at + length no.operations) next in
      let both = no.operations ++ yes.operations in
      let c = coded_term scope e low in
      behind both (with_calls c.calls (op.Test c.term yes.entry no.entry) (at + length both))
  emitted scope (a.Case e arms) low at next =
      let all = emitted_arms scope arms low at next in
      let c = coded_term scope e low in
      behind all.operations (with_calls c.calls (op.Case c.term (table_of all.arms)) (at + length all.operations))
  emitted scope (a.While e x) low at next =
      let c = coded_term scope e low in
      let calls = calls_at c.calls (suc at) at in
      let body = emitted scope x low (suc at + length calls.operations) calls.entry in
      record { operations = op.Test c.term body.entry next ∷ (calls.operations ++ body.operations); entry = calls.entry }
  emitted scope (a.Repeat x e) low at next =
      let c = coded_term scope e low in
      let calls = calls_at c.calls (suc at) at in
      let body = emitted scope x low (suc at + length calls.operations) calls.entry in
      record { operations = op.Test c.term next body.entry ∷ (calls.operations ++ body.operations); entry = body.entry }
  emitted scope (a.For x down e f y) low at next =
      let body = emitted scope y (low + 2) (suc at) at in
      let c = counting scope x down low body.entry next in
      let first = coded_term scope e low in
      let last = coded_term scope f first.temps in
      behind
      (op.ForNext c ∷ body.operations)
      (with_calls (first.calls ++ last.calls) (op.For c first.term last.term) (suc at + length body.operations))
  emitted scope (a.Cycle x) low at next =
      let body = emitted scope x low (suc at) at in
      record { operations = op.Cycle body.entry ∷ body.operations; entry = at }
  emitted scope (a.Init x es) low at next = init_by scope es low at next (component_named (environment scope) x)

  pub emitted_arms : Scope → a.Arms → ℕ → ℕ → ℕ → EmittedArms
  emitted_arms scope a.NoArm low at next = record { arms = []; operations = [] }
  emitted_arms scope (a.MoreArms ls x rest) low at next =
      let others = emitted_arms scope rest low at next in
      let own = emitted scope x low (at + length others.operations) next in
      record { arms = arms_at scope.globals own.entry ls others.arms; operations = others.operations ++ own.operations }
