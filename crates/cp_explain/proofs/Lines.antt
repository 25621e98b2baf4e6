-- The lines of objects: no value of an object has a float, so its events determine its text.
use Rattle.std.proofs.Common.{◌≡◌, ◌∙◌, ◌∷◌, ◌++◌, ◌||◌, Bool, List, ℕ, None, Option, Some, [], ap, false, refl}
use Rattle.serde_json.proofs.FreeTexts.{text_of_value}
use Rattle.serde_json.specs.Data.{Data, Members}
use Rattle.serde_json.specs.Events.{SendsValue}
use Rattle.serde_json.specs.Written.{has_float, items_have_float, members_have_float}
use Rattle.cp_output.specs.Json.{IsLineOf}
use Rattle.cp_explain.specs.Values.{accepted_value, component_value, count_value, items_of, line_of, marked, member_if, note_value, refusal_value, rights_value, text_value, violation_value}
use Rattle.cp_explain.specs.declared.accepted_object.AcceptedObject.{AcceptedObject}
use Rattle.cp_explain.specs.declared.graph_object.ComponentObject.{ComponentObject}
use Rattle.cp_explain.specs.declared.graph_object.RightsObject.{RightsObject}
use Rattle.cp_explain.specs.declared.refusal_objects.Mark.{Mark}
use Rattle.cp_explain.specs.declared.refusal_objects.Mark.TheVariants as mark
use Rattle.cp_explain.specs.declared.refusal_objects.RefusalObject.{RefusalObject}
use Rattle.cp_explain.specs.declared.refusal_objects.ViolationObject.{ViolationObject}

-- ---- values without floats

either : (a b : Bool) → a ≡ false → b ≡ false → (a || b) ≡ false
either a b p q = ap (λ (x : Bool). x || b) p ∙ q

list_whole : {A : Type 0} (value : A → Data) → ((x : A) → has_float (value x) ≡ false) → (xs : List A) → items_have_float (items_of value xs) ≡ false
list_whole value each [] = refl
list_whole value each (x ∷ xs) = either (has_float (value x)) (items_have_float (items_of value xs)) (each x) (list_whole value each xs)

last_whole : {A : Type 0} (k : List ℕ) (value : A → Data) → ((x : A) → has_float (value x) ≡ false) → (o : Option A) → members_have_float (member_if k value o) ≡ false
last_whole k value each None = refl
last_whole k value each (Some x) = either (has_float (value x)) false (each x) refl

violation_whole : (v : ViolationObject) → has_float (violation_value v) ≡ false
violation_whole v =
    let hints = items_have_float (items_of text_value v.hints.items) in
    let expected = items_have_float (items_of text_value v.expected.items) in
    either hints (expected || false) (list_whole text_value (λ s. refl) v.hints.items) (either expected false (list_whole text_value (λ s. refl) v.expected.items) refl)

component_whole : (c : ComponentObject) → has_float (component_value c) ≡ false
component_whole c = last_whole _ text_value (λ s. refl) c.of

rights_whole : (r : RightsObject) → has_float (rights_value r) ≡ false
rights_whole r = either (items_have_float (items_of text_value r.to.items)) false (list_whole text_value (λ s. refl) r.to.items) refl

marked_whole : (m : Mark) (rest : Members) → members_have_float rest ≡ false → members_have_float (marked m rest) ≡ false
marked_whole mark.Accepted rest h = h
marked_whole mark.Verdict rest h = h

refusal_whole : (o : RefusalObject) → has_float (refusal_value o) ≡ false
refusal_whole o =
    let violations = items_have_float (items_of violation_value o.violations.items) in
    marked_whole o.mark _ (either violations _ (list_whole violation_value violation_whole o.violations.items) (last_whole _ count_value (λ n. refl) o.untold))

accepted_whole : (o : AcceptedObject) → has_float (accepted_value o) ≡ false
accepted_whole o =
    let notes = items_have_float (items_of note_value o.notes.items) in
    let components = items_have_float (items_of component_value o.graph.components.items) in
    let rights = items_have_float (items_of rights_value o.graph.rights.items) in
    either notes _ (list_whole note_value (λ n. refl) o.notes.items)
    (either (components || (rights || false)) false (either components _ (list_whole component_value component_whole o.graph.components.items)
    (either rights false (list_whole rights_value rights_whole o.graph.rights.items) refl)) refl)

-- ---- lines

line_is : (d : Data) (page : List ℕ) → has_float d ≡ false → IsLineOf (SendsValue d) page → page ≡ line_of d
line_is d page whole line = line.4 ∙ ap (λ (text : List ℕ). text ++ 10 ∷ []) (text_of_value d line.0 line.1 line.2 line.3 whole)

pub refusal_line : (o : RefusalObject) (page : List ℕ) → IsLineOf (SendsValue (refusal_value o)) page → page ≡ line_of (refusal_value o)
refusal_line o page line = line_is (refusal_value o) page (refusal_whole o) line

pub accepted_line : (o : AcceptedObject) (page : List ℕ) → IsLineOf (SendsValue (accepted_value o)) page → page ≡ line_of (accepted_value o)
accepted_line o page line = line_is (accepted_value o) page (accepted_whole o) line
