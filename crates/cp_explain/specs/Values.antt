-- The values of objects, as JSON has them, and what is written for their fields.
use Rattle.std.specs.Prelude.{◌≡◌, ◌++◌, ◌∷◌, [], List, None, Option, Some, String, codes, false, string_bytes, suc, true, ℕ}
use Rattle.serde.specs.Event.{Log, Logs, field_key}
use Rattle.serde.specs.declared.name.Case.TheVariants.{AsIs}
use Rattle.serde_json.specs.Data.{Data, Items, Members, array, boolean, item, member, no_items, no_members, number, object, string, unsigned}
use Rattle.serde_json.specs.Events.{SendsValue}
use Rattle.serde_json.specs.Written.{compact_text}
use Rattle.cp_explain.specs.declared.accepted_object.AcceptedObject.{AcceptedObject}
use Rattle.cp_explain.specs.declared.accepted_object.NoteObject.{NoteObject}
use Rattle.cp_explain.specs.declared.graph_object.ComponentObject.{ComponentObject}
use Rattle.cp_explain.specs.declared.graph_object.GraphObject.{GraphObject}
use Rattle.cp_explain.specs.declared.graph_object.RightsObject.{RightsObject}
use Rattle.cp_explain.specs.declared.refusal_objects.Mark.{Mark}
use Rattle.cp_explain.specs.declared.refusal_objects.Mark.TheVariants as mark
use Rattle.cp_explain.specs.declared.refusal_objects.RefusalObject.{RefusalObject}
use Rattle.cp_explain.specs.declared.refusal_objects.ViolationObject.{ViolationObject}

-- ---- What is written for a field

-- The name of a field, and then its value.
abbrev pub WritesField : List ℕ → (Log → Log → Type 0) → Log → Log → Type 0
WritesField name value old new = (named : Log) × Logs old named (field_key name AsIs) × value named new

-- A field, or nothing if it has no value.
abbrev pub WritesSome : {A : Type 0} → List ℕ → (A → Log → Log → Type 0) → Option A → Log → Log → Type 0
WritesSome name value None old new = new ≡ old
WritesSome name value (Some x) old new = WritesField name (value x) old new

-- The field that says that a text is refused.
abbrev pub WritesMark : Mark → Log → Log → Type 0
WritesMark mark.Accepted old new = WritesField (codes "accepted") (SendsValue (boolean false)) old new
WritesMark mark.Verdict old new = WritesField (codes "verdict") (SendsValue (string (codes "refused"))) old new

-- The number of fields, of which the last has perhaps no value.
abbrev pub fields_with : {A : Type 0} → ℕ → Option A → ℕ
fields_with always None = always
fields_with always (Some x) = suc always

-- ---- Parts of values

abbrev pub count_value : ℕ → Data
count_value n = number (unsigned n)

abbrev pub text_value : {A : Type 0} → String A → Data
text_value s = string (string_bytes s)

abbrev pub items_of : {A : Type 0} → (A → Data) → List A → Items
items_of value [] = no_items
items_of value (x ∷ xs) = item (value x) (items_of value xs)

abbrev pub list_value : {A : Type 0} → (A → Data) → List A → Data
list_value value xs = array (items_of value xs)

-- A field at the end of an object, unless it has no value.
abbrev pub member_if : {A : Type 0} → List ℕ → (A → Data) → Option A → Members
member_if name value None = no_members
member_if name value (Some x) = member name (value x) no_members

-- ---- The values of objects

abbrev pub violation_value : ViolationObject → Data
violation_value v = object
    (member (codes "rule") (text_value v.rule)
    (member (codes "line") (count_value v.line)
    (member (codes "column") (count_value v.column)
    (member (codes "offset") (count_value v.offset)
    (member (codes "endLine") (count_value v.end_line)
    (member (codes "endColumn") (count_value v.end_column)
    (member (codes "message") (text_value v.message)
    (member (codes "advice") (text_value v.advice)
    (member (codes "hints") (list_value text_value v.hints.items)
    (member (codes "expected") (list_value text_value v.expected.items)
    no_members))))))))))

-- What `explain` and the commands that run a text say of a text that is refused.
abbrev pub marked : Mark → Members → Members
marked mark.Accepted rest = member (codes "accepted") (boolean false) rest
marked mark.Verdict rest = member (codes "verdict") (string (codes "refused")) rest

abbrev pub refusal_value : RefusalObject → Data
refusal_value o = object
    (member (codes "format") (count_value 1)
    (marked o.mark
    (member (codes "file") (text_value o.file)
    (member (codes "violations") (list_value violation_value o.violations.items)
    (member_if (codes "untold") count_value o.untold)))))

abbrev pub note_value : NoteObject → Data
note_value n = object
    (member (codes "line") (count_value n.line)
    (member (codes "column") (count_value n.column)
    (member (codes "offset") (count_value n.offset)
    (member (codes "message") (text_value n.message)
    (member (codes "advice") (text_value n.advice)
    no_members)))))

abbrev pub component_value : ComponentObject → Data
component_value c = object
    (member (codes "sort") (text_value c.sort)
    (member (codes "name") (text_value c.name)
    (member_if (codes "type") text_value c.of)))

abbrev pub rights_value : RightsObject → Data
rights_value r = object
    (member (codes "from") (text_value r.from)
    (member (codes "to") (list_value text_value r.to.items)
    no_members))

abbrev pub graph_value : GraphObject → Data
graph_value g = object
    (member (codes "components") (list_value component_value g.components.items)
    (member (codes "rights") (list_value rights_value g.rights.items)
    no_members))

abbrev pub accepted_value : AcceptedObject → Data
accepted_value o = object
    (member (codes "format") (count_value 1)
    (member (codes "accepted") (boolean true)
    (member (codes "file") (text_value o.file)
    (member (codes "notes") (list_value note_value o.notes.items)
    (member (codes "graph") (graph_value o.graph)
    no_members)))))

-- ---- Lines

-- The text of a value without blanks, and a line feed.
abbrev pub line_of : Data → List ℕ
line_of value = compact_text value ++ 10 ∷ []
