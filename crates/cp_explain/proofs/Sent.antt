-- What is written for lists and for a last field is what their values send.
use Rattle.std.proofs.Common.{◌≡◌, ◌∙◌, ◌∷◌, ℕ, List, [], length, None, Option, Some, String, ap, codes, refl, string_bytes, subst, suc}
use Rattle.serde.specs.Event.{Log, Logs, WritesEach, WritesSeq, map_begins, map_ends, seq_begins, seq_ends, text, unsigned}
use Rattle.serde_json.specs.Data.{Data, Members, member}
use Rattle.serde_json.specs.Events.{SendsItems, SendsMembers, SendsValue, items_len, members_len}
use Rattle.cp_explain.specs.Values.{WritesMark, WritesSome, count_value, fields_with, items_of, list_value, marked, member_if, text_value, violation_value}
use Rattle.cp_explain.specs.declared.refusal_objects.Mark.{Mark}
use Rattle.cp_explain.specs.declared.refusal_objects.Mark.TheVariants as mark
use Rattle.cp_explain.specs.declared.refusal_objects.RefusalObject.{RefusalObject}

-- The writer `w` of values of a type writes what these values of JSON send.
abbrev pub SendsAs : {A : Type 0} → (A → Log → Log → Type 0) → (A → Data) → Type 0
SendsAs {A} w value = (x : A) (old new : Log) → w x old new → SendsValue (value x) old new

-- ---- lists

len_of : {A : Type 0} (value : A → Data) (xs : List A) → length xs ≡ items_len (items_of value xs)
len_of value [] = refl
len_of value (x ∷ xs) = ap suc (len_of value xs)

items_sent : {A : Type 0} (w : A → Log → Log → Type 0) (value : A → Data) → SendsAs w value → (xs : List A) (old mid new : Log)
    → WritesEach w xs old mid → Logs mid new seq_ends → SendsItems (items_of value xs) old new
items_sent w value sends [] old mid new each ended = subst (λ (l : Log). Logs l new seq_ends) each ended
items_sent w value sends (x ∷ xs) old mid new each ended = (each.0, sends x old each.0 each.1, items_sent w value sends xs each.0 mid new each.2 ended)

pub list_sent : {A : Type 0} (w : A → Log → Log → Type 0) (value : A → Data) → SendsAs w value → (xs : List A) (old new : Log)
    → WritesSeq w xs old new → SendsValue (list_value value xs) old new
list_sent w value sends xs old new sent =
    (sent.0, subst (λ (n : ℕ). Logs old sent.0 (seq_begins (Some n))) (len_of value xs) sent.2, items_sent w value sends xs sent.0 sent.1 new sent.3 sent.4)

-- What a text writes.
abbrev pub WritesText : {A : Type 0} → String A → Log → Log → Type 0
WritesText s old new = Logs old new (text (string_bytes s))

pub texts_sent : {A : Type 0} (xs : List (String A)) (old new : Log) → WritesSeq WritesText xs old new → SendsValue (list_value text_value xs) old new
texts_sent xs old new sent = list_sent WritesText text_value (λ s a b h. h) xs old new sent

pub values_sent : {A : Type 0} (value : A → Data) (xs : List A) (old new : Log) → WritesSeq (λ x. SendsValue (value x)) xs old new → SendsValue (list_value value xs) old new
values_sent value xs old new sent = list_sent (λ x. SendsValue (value x)) value (λ x a b h. h) xs old new sent

-- ---- the last field

pub last_sent : {A : Type 0} (w : A → Log → Log → Type 0) (value : A → Data) → SendsAs w value → (k : List ℕ) (o : Option A) (old mid new : Log)
    → WritesSome k w o old mid → Logs mid new map_ends → SendsMembers (member_if k value o) old new
last_sent w value sends k None old mid new field ended = subst (λ (l : Log). Logs l new map_ends) field ended
last_sent w value sends k (Some x) old mid new field ended = (field.0, mid, field.1, sends x field.0 mid field.2, ended)

-- ---- objects of texts that are refused

pub marked_sent : (m : Mark) (rest : Members) (old mid new : Log) → WritesMark m old mid → SendsMembers rest mid new → SendsMembers (marked m rest) old new
marked_sent mark.Accepted rest old mid new field sent = (field.0, mid, field.1, field.2, sent)
marked_sent mark.Verdict rest old mid new field sent = (field.0, mid, field.1, field.2, sent)

-- The fields after the mark.
abbrev pub after_mark : RefusalObject → Members
after_mark o =
    member (codes "file") (text_value o.file)
    (member (codes "violations") (list_value violation_value o.violations.items)
    (member_if (codes "untold") count_value o.untold))

count_all : (m : Mark) (untold : Option ℕ) (file violations : Data)
    → fields_with 4 untold ≡ suc (members_len (marked m (member (codes "file") file (member (codes "violations") violations (member_if (codes "untold") count_value untold)))))
count_all mark.Accepted None file violations = refl
count_all mark.Accepted (Some n) file violations = refl
count_all mark.Verdict None file violations = refl
count_all mark.Verdict (Some n) file violations = refl

pub refusal_begun : (o : RefusalObject) (n : ℕ) (old new : Log) → n ≡ fields_with 4 o.untold → Logs old new (map_begins (Some n))
    → Logs old new (map_begins (Some (suc (members_len (marked o.mark (after_mark o))))))
refusal_begun o n old new same begun =
    subst (λ (m : ℕ). Logs old new (map_begins (Some m))) (same ∙ count_all o.mark o.untold (text_value o.file) (list_value violation_value o.violations.items)) begun

pub untold_sent : (untold : Option ℕ) (old mid new : Log) → WritesSome (codes "untold") (λ n a b. Logs a b (unsigned n)) untold old mid → Logs mid new map_ends
    → SendsMembers (member_if (codes "untold") count_value untold) old new
untold_sent untold old mid new field ended = last_sent (λ n a b. Logs a b (unsigned n)) count_value (λ x a b h. h) (codes "untold") untold old mid new field ended
