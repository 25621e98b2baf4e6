-- What an object that explains a text promises: the same judgement as `check`, also in its fields.
use Rattle.std.specs.Prelude.{◌≡◌, ◌∷◌, ℕ, List, Option, None, Some, string_bytes}
use Rattle.std.specs.Io.KnownBytes.{Appends}
use Rattle.cp_model.specs.Syntax as s
use Rattle.cp_frontend.specs.Takings.{AppendsSome, front}
use Rattle.cp_frontend.specs.Texts.{IsAccepted}
use Rattle.cp_frontend.specs.declared.refusal.Refusal.{Refusal}
use Rattle.cp_output.specs.Json.{IsJsonLine}
use Rattle.cp_output.specs.Positions.{column_at, line_at}
use Rattle.cp_explain.specs.Explained.{RefusedWith, code_of, place_of}
use Rattle.cp_explain.specs.Values.{accepted_value, line_of, refusal_value}
use Rattle.cp_explain.specs.declared.accepted_object.AcceptedObject.{AcceptedObject}
use Rattle.cp_explain.specs.declared.refusal_objects.Mark.{Mark}
use Rattle.cp_explain.specs.declared.refusal_objects.Mark.TheVariants as mark
use Rattle.cp_explain.specs.declared.refusal_objects.RefusalObject.{RefusalObject}
use Rattle.cp_explain.specs.declared.refusal_objects.ViolationObject.{ViolationObject}

-- ---- Judgements

-- The text is accepted, or refused with `e`.
abbrev pub Judges : List ℕ → Option Refusal → Type 0
Judges text None = (t : s.Tree) × IsAccepted text t
Judges text (Some e) = RefusedWith text e

-- ---- Violations

-- A violation has the rule, the line, the column and the offset of this refusal.
pub record IsViolationOf (text : List ℕ) (e : Refusal) (v : ViolationObject) : Type 0 where
  pub rule : string_bytes v.rule ≡ code_of e
  pub line : v.line ≡ line_at text (place_of e)
  pub column : v.column ≡ column_at text (place_of e)
  pub offset : v.offset ≡ place_of e

-- The first violation is this refusal.
abbrev pub FirstIs : List ℕ → Refusal → List ViolationObject → Type 0
FirstIs text e vs = (v : ViolationObject) × (rest : List ViolationObject) × (vs ≡ v ∷ rest) × IsViolationOf text e v

-- ---- Lines

-- The line of an object that says `accepted`.
abbrev pub IsAcceptedLine : List ℕ → Type 0
IsAcceptedLine page = (o : AcceptedObject) × (page ≡ line_of (accepted_value o))

-- The line of an object that says, by this mark, that the text is refused, and why.
abbrev pub IsRefusalLine : Mark → List ℕ → Refusal → List ℕ → Type 0
IsRefusalLine mark text e page = (o : RefusalObject) × (o.mark ≡ mark) × FirstIs text e o.violations.items × (page ≡ line_of (refusal_value o))

abbrev pub IsLineFor : List ℕ → Option Refusal → List ℕ → Type 0
IsLineFor text None page = IsAcceptedLine page
IsLineFor text (Some e) page = IsRefusalLine mark.Accepted text e page

-- The page is the line of an object, which judges the text.
abbrev pub IsObjectOf : List ℕ → Option Refusal → List ℕ → Type 0
IsObjectOf text e page = Judges text e × IsJsonLine page × IsLineFor text e page

-- The page is what a command that runs a text writes in place of its own object.
abbrev pub IsRefusedText : List ℕ → Refusal → List ℕ → Type 0
IsRefusedText text e page = RefusedWith text e × IsJsonLine page × IsRefusalLine mark.Verdict text e page

-- ---- What is written

-- If the text is known: the line of an object for it was written, or for the first part of it that
-- is read.
abbrev pub WroteObject : Option (List ℕ) → Option Refusal → Option (List ℕ) → Option (List ℕ) → Type 0
WroteObject text e old new = (xs : List ℕ) → text ≡ Some xs → (page : List ℕ) × IsObjectOf (front xs) e page × Appends old new page

-- The same if a write failed: only a first part of such a line was written.
abbrev pub WroteObjectPart : Option (List ℕ) → Option Refusal → Option (List ℕ) → Option (List ℕ) → Type 0
WroteObjectPart text e old new = (xs : List ℕ) → text ≡ Some xs → (page : List ℕ) × IsObjectOf (front xs) e page × AppendsSome old new page
