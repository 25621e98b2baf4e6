-- Programs as the plain data of the definitions. Chains of operands become terms that group to
-- the left, and indices become elements of elements. Numbers of plans become the plans, which parts
-- and components share in the code.
use Rattle.std.specs.Prelude.{ℕ, ◌+◌, ◌-◌, ℤ, List, [], ◌∷◌, ◌++◌, Option, Some, None, map, slice_get}
use Rattle.cp_model.specs.Abstract as a
use Rattle.cp_model.specs.Erase.{operator_of}
use Rattle.cp_model_program.specs.Terms as plain
use Rattle.cp_model_program.specs.Programs as code
use Rattle.cp_program.specs.declared.element.Slot.{Slot}
use Rattle.cp_program.specs.declared.element.Slot.TheVariants as slot_case
use Rattle.cp_program.specs.declared.element.Addend.{Addend}
use Rattle.cp_program.specs.declared.element.Addend.TheVariants as addend_case
use Rattle.cp_program.specs.declared.element.Element.{Element}
use Rattle.cp_program.specs.declared.element.ElementPart.{ElementPart}
use Rattle.cp_program.specs.declared.element.NearIndex.{NearIndex}
use Rattle.cp_program.specs.declared.term.Root.{Root}
use Rattle.cp_program.specs.declared.term.Root.TheVariants as root_case
use Rattle.cp_program.specs.declared.term.Function.{Function}
use Rattle.cp_program.specs.declared.term.Function.TheVariants as function_case
use Rattle.cp_program.specs.declared.term.Operand.{Operand}
use Rattle.cp_program.specs.declared.term.Application.{Application}
use Rattle.cp_program.specs.declared.term.Index.{Index}
use Rattle.cp_program.specs.declared.term.PlaceExpression.{PlaceExpression}
use Rattle.cp_program.specs.declared.term.Term.{Term}
use Rattle.cp_program.specs.declared.term.Application.TheOpen.{Application-F, Index-F, Operand-F, PlaceExpression-F, Term-F}
use Rattle.cp_program.specs.declared.term.Application.TheFolds.{fold-Application, fold-Index, fold-Operand, fold-PlaceExpression, fold-Term}
use Rattle.cp_program.specs.declared.operation.Target.{Target}
use Rattle.cp_program.specs.declared.operation.Target.TheVariants as target_case
use Rattle.cp_program.specs.declared.operation.Argument.{Argument}
use Rattle.cp_program.specs.declared.operation.Argument.TheVariants as argument_case
use Rattle.cp_program.specs.declared.operation.Call.{Call}
use Rattle.cp_program.specs.Labels.{arm}
use Rattle.cp_program.specs.declared.operation.Table.{Table}
use Rattle.cp_program.specs.declared.operation.Table.TheVariants as table_case
use Rattle.cp_program.specs.declared.operation.Assignment.{Assignment}
use Rattle.cp_program.specs.declared.operation.Counting.{Counting}
use Rattle.cp_program.specs.declared.operation.Then.{Then}
use Rattle.cp_program.specs.declared.operation.Then.TheVariants as then_case
use Rattle.cp_program.specs.declared.operation.Operation.{Operation}
use Rattle.cp_program.specs.declared.operation.Operation.TheVariants as operation_case
use Rattle.cp_program.specs.declared.program.StartPiece.{StartPiece}
use Rattle.cp_program.specs.declared.program.StartPiece.TheVariants as start_case
use Rattle.cp_program.specs.declared.program.CodeUnit.{CodeUnit}
use Rattle.cp_program.specs.declared.program.Monitor.{Monitor}
use Rattle.cp_program.specs.declared.program.Process.{Process}
use Rattle.cp_program.specs.declared.program.StartPlan.{StartPlan}
use Rattle.cp_program.specs.declared.program.Program.{Program}

-- ---- Terms

abbrev pub root : Root → plain.Root
root (root_case.Local at) = plain.Local at
root (root_case.Member at) = plain.Member at
root (root_case.Through parameter plus) = plain.Through parameter plus

abbrev pub function : Function → plain.Function
function function_case.Abs = plain.Abs
function function_case.Ord = plain.Ord
function function_case.Chr = plain.Chr
function (function_case.Shift by low high) = plain.Shift by low high

-- The root `n` words before another.
abbrev pub root_before : ℕ → plain.Root → plain.Root
root_before n (plain.Local at) = plain.Local (at - n)
root_before n (plain.Member at) = plain.Member (at - n)
root_before n (plain.Through parameter plus) = plain.Through parameter (plus - n)

-- The word that an index reads.
abbrev pub slot : Slot → plain.Term
slot (slot_case.Local at) = plain.Item (plain.Rooted (plain.Local at))
slot (slot_case.Member at) = plain.Item (plain.Rooted (plain.Member at))

-- A term and what is added to it.
abbrev pub with_addend : Addend → plain.Term → plain.Term
with_addend addend_case.Nothing e = e
with_addend (addend_case.Add n) e = plain.Binary a.Add e (plain.Number n)
with_addend (addend_case.Subtract n) e = plain.Binary a.Subtract e (plain.Number n)

-- An operator with one of its operands; the other one is the chain before it. A word can be the left operand.
pub data PlainApplication : Type 0 where
  After : (o : a.Operator) (right : plain.Term) → PlainApplication
  Before : (o : a.Operator) (left : plain.Root) → PlainApplication

pub record PlainIndex : Type 0 where
  pub low : ℤ
  pub high : ℤ
  pub size : ℕ
  pub plus : ℕ
  pub value : plain.Term

-- The index of a part of each element, by its value.
abbrev pub index_of : ElementPart → plain.Term → PlainIndex
index_of p e = record { low = p.bounds.low; high = p.bounds.high; size = p.size; plus = p.plus; value = e }

-- The index of the part `n` words further on.
abbrev pub index_after : ℕ → PlainIndex → PlainIndex
index_after n i = record { low = i.low; high = i.high; size = i.size; plus = i.plus + n; value = i.value }

abbrev pub near_index : NearIndex → PlainIndex
near_index i = index_of i.part (with_addend i.addend (slot i.slot))

abbrev pub element : Element → plain.PlaceExpression
element e =
    let i = near_index e.index in
    plain.Element (plain.Rooted (root_before i.plus (root e.first))) i.low i.high i.size i.plus i.value

-- The term for operands with operators between them, which group to the left.
abbrev pub applied_to : plain.Term → PlainApplication → plain.Term
applied_to e (After o right) = plain.Binary o e right
applied_to e (Before o left) = plain.Binary o (plain.Item (plain.Rooted left)) e

abbrev pub chain_of : plain.Term → List PlainApplication → plain.Term
chain_of e [] = e
chain_of e (x ∷ xs) = chain_of (applied_to e x) xs

-- The element of an element, and so on, one for each index.
abbrev pub elements_of : plain.PlaceExpression → List PlainIndex → plain.PlaceExpression
elements_of s [] = s
elements_of s (i ∷ is) = elements_of (plain.Element s i.low i.high i.size i.plus i.value) is

abbrev pub operand_layer : Operand-F PlainApplication PlainIndex plain.Term plain.PlaceExpression plain.Term → plain.Term
operand_layer (Operand-F.Number n) = plain.Number n
operand_layer (Operand-F.Made temp) = plain.Made temp
operand_layer (Operand-F.Local at) = plain.Item (plain.Rooted (plain.Local at))
operand_layer (Operand-F.Member at) = plain.Item (plain.Rooted (plain.Member at))
operand_layer (Operand-F.Through parameter plus) = plain.Item (plain.Rooted (plain.Through parameter plus))
operand_layer (Operand-F.Element e) = plain.Item (element e.value)
operand_layer (Operand-F.Item s) = plain.Item s.value
operand_layer (Operand-F.Nested t) = t.value
operand_layer (Operand-F.Not t) = plain.Not t.value
operand_layer (Operand-F.Negative t) = plain.Negative t.value
operand_layer (Operand-F.Standard f t) = plain.Standard (function f) t.value
operand_layer (Operand-F.Empty s) = plain.Empty s.value
operand_layer Operand-F.Realtime = plain.Realtime

-- A word of the activation, and one of the component.
abbrev pub local : ℕ → plain.Term
local at = plain.Item (plain.Rooted (plain.Local at))

abbrev pub member : ℕ → plain.Term
member at = plain.Item (plain.Rooted (plain.Member at))

abbrev pub application_layer : Application-F PlainApplication PlainIndex plain.Term plain.PlaceExpression plain.Term → PlainApplication
application_layer (Application-F.AddNumber n) = After a.Add (plain.Number n)
application_layer (Application-F.SubtractNumber n) = After a.Subtract (plain.Number n)
application_layer (Application-F.MultiplyNumber n) = After a.Multiply (plain.Number n)
application_layer (Application-F.DivideNumber d) = After a.Divide (plain.Number d.number)
application_layer (Application-F.ModuloNumber d) = After a.Modulo (plain.Number d.number)
application_layer (Application-F.WithNumber o n) = After (operator_of o) (plain.Number n)
application_layer (Application-F.AddLocal at) = After a.Add (local at)
application_layer (Application-F.AddMember at) = After a.Add (member at)
application_layer (Application-F.SubtractLocal at) = After a.Subtract (local at)
application_layer (Application-F.SubtractMember at) = After a.Subtract (member at)
application_layer (Application-F.MultiplyLocal at) = After a.Multiply (local at)
application_layer (Application-F.MultiplyMember at) = After a.Multiply (member at)
application_layer (Application-F.WithLocal o at) = After (operator_of o) (local at)
application_layer (Application-F.WithMember o at) = After (operator_of o) (member at)
application_layer (Application-F.WithMade o temp) = After (operator_of o) (plain.Made temp)
application_layer (Application-F.LocalMinus at) = Before a.Subtract (plain.Local at)
application_layer (Application-F.MemberMinus at) = Before a.Subtract (plain.Member at)
application_layer (Application-F.LocalBefore o at) = Before (operator_of o) (plain.Local at)
application_layer (Application-F.MemberBefore o at) = Before (operator_of o) (plain.Member at)
application_layer (Application-F.WithOperand o x) = After (operator_of o) x

abbrev pub index_layer : Index-F PlainApplication PlainIndex plain.Term plain.PlaceExpression plain.Term → PlainIndex
index_layer (Index-F.Near i) = near_index i
index_layer (Index-F.Far p value) = index_of p value

abbrev pub place_expression_layer : PlaceExpression-F PlainApplication PlainIndex plain.Term plain.PlaceExpression plain.Term → plain.PlaceExpression
place_expression_layer s = elements_of (plain.Rooted (root s.root)) s.indices.items

abbrev pub term_layer : Term-F PlainApplication PlainIndex plain.Term plain.PlaceExpression plain.Term → plain.Term
term_layer t = chain_of t.first t.rest.items

abbrev pub operand : Operand → plain.Term
operand = fold-Operand PlainApplication PlainIndex plain.Term plain.PlaceExpression plain.Term application_layer index_layer operand_layer place_expression_layer term_layer

abbrev pub application : Application → PlainApplication
application = fold-Application PlainApplication PlainIndex plain.Term plain.PlaceExpression plain.Term application_layer index_layer operand_layer place_expression_layer term_layer

abbrev pub index : Index → PlainIndex
index = fold-Index PlainApplication PlainIndex plain.Term plain.PlaceExpression plain.Term application_layer index_layer operand_layer place_expression_layer term_layer

abbrev pub place_expression : PlaceExpression → plain.PlaceExpression
place_expression = fold-PlaceExpression PlainApplication PlainIndex plain.Term plain.PlaceExpression plain.Term application_layer index_layer operand_layer place_expression_layer term_layer

abbrev pub term : Term → plain.Term
term = fold-Term PlainApplication PlainIndex plain.Term plain.PlaceExpression plain.Term application_layer index_layer operand_layer place_expression_layer term_layer

-- ---- Operations

abbrev pub target : Target → plain.Target
target target_case.Own = plain.Own
target (target_case.Class at) = plain.Class at
target (target_case.ClassRight at) = plain.ClassRight at
target (target_case.Monitor number) = plain.Monitor number
target (target_case.MonitorRight at) = plain.MonitorRight at

abbrev pub argument : Argument → plain.Argument
argument (argument_case.Value at b t) = plain.Value at b.low b.high (term t)
argument (argument_case.Copy at size from) = plain.Copy at size (place_expression from)
argument (argument_case.Reference at to) = plain.Reference at (place_expression to)
argument (argument_case.Right at of) = plain.Right at (target of)

abbrev pub call : Call → code.Call
call c = record {
  routine = c.routine;
  target = target c.target;
  arguments = map argument c.arguments.items;
  words = c.words;
  temps = c.temps;
}

abbrev pub table : Table → code.Table
table (table_case.Dense low places) = code.Dense low places.items
table (table_case.Sparse xs) = code.Sparse (map arm xs.arms.items)

abbrev pub counting : Counting → code.Counting
counting c = record {
  variable = root c.variable;
  low = c.bounds.low;
  high = c.bounds.high;
  down = c.down;
  temp = c.temp;
  body = c.body;
  next = c.next;
}

-- The assignment of a value to a place.
abbrev pub assignment : plain.PlaceExpression → plain.Term → Assignment → code.Operation
assignment to value x = code.Set to x.bounds.low x.bounds.high value x.next

-- The operation that evaluates a term.
abbrev pub evaluation : plain.Term → Then → code.Operation
evaluation value (then_case.Set to x) = assignment (place_expression to) value x
evaluation value (then_case.SetLocal at x) = assignment (plain.Rooted (plain.Local at)) value x
evaluation value (then_case.SetMember at x) = assignment (plain.Rooted (plain.Member at)) value x
evaluation value (then_case.SetElement to x) = assignment (element to) value x
evaluation value (then_case.SetResult x) = code.SetResult x.bounds.low x.bounds.high value x.next
evaluation value (then_case.Test yes' no') = code.Test value yes' no'

abbrev pub operation : Operation → code.Operation
operation (operation_case.Evaluate value then') = evaluation (term value) then'
operation (operation_case.CopyWords to from size next) = code.CopyWords (place_expression to) (place_expression from) size next
operation (operation_case.Case value t) = code.Case (term value) (table t)
operation (operation_case.For c first last) = code.For (counting c) (term first) (term last)
operation (operation_case.ForNext c) = code.ForNext (counting c)
operation (operation_case.Cycle body) = code.Cycle body
operation (operation_case.Procedure c next) = code.Procedure (call c) next
operation (operation_case.Function c into next) = code.Function (call c) into next
operation (operation_case.Return function) = code.Return function
operation (operation_case.InitClass c next) = code.InitClass (call c) next
operation (operation_case.InitMonitor c next) = code.InitMonitor (call c) next
operation (operation_case.InitProcess process arguments words next) =
    code.InitProcess process (map argument arguments.items) words next
operation operation_case.EndBody = code.EndBody
operation operation_case.End = code.End
operation (operation_case.Display value as_byte next) = code.Display (term value) as_byte next
operation (operation_case.Accept to b next) = code.Accept (place_expression to) b.low b.high next
operation (operation_case.Delay queue next) = code.Delay (place_expression queue) next
operation (operation_case.Continue queue function) = code.Continue (place_expression queue) function
operation (operation_case.Wait next) = code.Wait next

-- ---- Plans

abbrev pub plan_or_none : Option code.StartPlan → code.StartPlan
plan_or_none None = code.Done
plan_or_none (Some p) = p

-- The plan with this number among those that are known. A plan that isn't known has no pieces.
abbrev pub plan_at : List code.StartPlan → ℕ → code.StartPlan
plan_at known n = plan_or_none (slice_get known n)

abbrev pub piece_before : List code.StartPlan → StartPiece → code.StartPlan → code.StartPlan
piece_before known (start_case.Fill at count value) rest = code.Fill at count value rest
piece_before known (start_case.Repeat at size count) rest = code.Repeat at size count rest
piece_before known (start_case.Part at plan) rest = code.Part at (plan_at known plan) rest

-- The plan of these pieces, whose parts have plans among those that are known.
abbrev pub plan_of : List code.StartPlan → List StartPiece → code.StartPlan
plan_of known [] = code.Done
plan_of known (x ∷ xs) = piece_before known x (plan_of known xs)

-- The plans of a table that follow those that are known. Each knows those before it.
abbrev pub plans_from : List code.StartPlan → List StartPlan → List code.StartPlan
plans_from known [] = []
plans_from known (p ∷ ps) = plan_of known p.starts.items ∷ plans_from (known ++ plan_of known p.starts.items ∷ []) ps

abbrev pub plans_in : List StartPlan → List code.StartPlan
plans_in ps = plans_from [] ps

-- ---- Programs

abbrev pub code_unit : List code.StartPlan → CodeUnit → code.CodeUnit
code_unit plans u = record {
  start = u.start;
  starts = plan_of plans u.starts.items;
  words = u.words;
  temps = u.temps;
  frames = u.frames;
}

abbrev pub monitor : List code.StartPlan → Monitor → code.Monitor
monitor plans m = record { start = m.start; body = m.body; words = m.words; starts = plan_at plans m.plan }

abbrev pub process : List code.StartPlan → Process → code.Process
process plans p = record {
  body = p.body;
  words = p.words;
  parameters = p.parameters;
  waiting = p.waiting;
  starts = plan_at plans p.plan;
}

abbrev pub plans_of : Program → List code.StartPlan
plans_of p = plans_in p.plans.items

abbrev pub origins_of : Program → List ℕ
origins_of p = p.origins.items

abbrev pub program : Program → code.Program
program p = record {
  operations = map operation p.operations.items;
  units = map (code_unit (plans_of p)) p.units.items;
  monitors = map (monitor (plans_of p)) p.monitors.items;
  processes = map (process (plans_of p)) p.processes.items;
  shared = p.shared;
}
