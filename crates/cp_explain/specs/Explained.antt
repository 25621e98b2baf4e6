-- What an explanation promises: the same judgement as `check`, and the position of a refusal in its
-- first line.
use Rattle.std.specs.Prelude.{◌≡◌, ℕ, List, [], ◌++◌, Option, None, Some, codes}
use Rattle.std.specs.Io.KnownBytes.{Appends, Keeps}
use Rattle.cp_model.specs.Syntax as s
use Rattle.cp_model.specs.Decimal.{natural}
use Rattle.cp_model.specs.RulesJudged.{number_of}
use Rattle.cp_frontend.specs.Takings.{AppendsSome, Text, concern, front}
use Rattle.cp_frontend.specs.Refusals.{scan_number}
use Rattle.cp_frontend.specs.Texts.{IsAccepted, Refuses}
use Rattle.cp_frontend.specs.declared.refusal.Refusal.{Refusal}
use Rattle.cp_frontend.specs.declared.refusal.Refusal.TheVariants as refusal
use Rattle.cp_output.specs.Positions.{column_at, line_at}

-- The letter and the number of a refusal of a text, as `check` writes them.
abbrev pub code_of : Refusal → List ℕ
code_of (refusal.Scan cause at) = codes "S" ++ natural (scan_number cause)
code_of (refusal.Unexpected at) = codes "Y1"
code_of (refusal.Unfinished at) = codes "Y2"
code_of (refusal.TooDeep at) = codes "Y3"
code_of (refusal.Check rule at) = codes "C" ++ natural (number_of rule)
code_of _ = []

abbrev pub place_of : Refusal → ℕ
place_of (refusal.Scan cause at) = at
place_of (refusal.Unexpected at) = at
place_of (refusal.Unfinished at) = at
place_of (refusal.TooDeep at) = at
place_of (refusal.Check rule at) = at
place_of _ = 0

-- The start of the first line: the file, the line, the column, and the code of the refusal.
abbrev pub heading : List ℕ → List ℕ → Refusal → List ℕ
heading file text e =
    file ++ codes ":" ++ natural (line_at text (place_of e)) ++ codes ":" ++ natural (column_at text (place_of e)) ++ codes ": " ++ code_of e ++ codes ": "

abbrev pub Begins : List ℕ → List ℕ → Type 0
Begins front page = (rest : List ℕ) × (page ≡ front ++ rest)

-- The text is refused with `e`, which is about the text. Running out of memory is no such reason.
abbrev pub RefusedWith : List ℕ → Refusal → Type 0
RefusedWith text e = Refuses text e × (concern e ≡ Text)

-- What is returned isn't a refusal, or one that is about the text.
abbrev pub IsOfText : Option Refusal → Type 0
IsOfText None = Unit {0}
IsOfText (Some e) = concern e ≡ Text

-- The text is accepted, or it is refused with `e` and the page begins with the heading for `e`.
abbrev pub Explains : List ℕ → List ℕ → Option Refusal → List ℕ → Type 0
Explains file text None page = (t : s.Tree) × IsAccepted text t
Explains file text (Some e) page = RefusedWith text e × Begins (heading file text e) page

-- ---- What is written

-- If the text is known: a page was written that explains it, or the first part of it that is read.
abbrev pub Wrote : List ℕ → Option (List ℕ) → Option Refusal → Option (List ℕ) → Option (List ℕ) → Type 0
Wrote file text e old new = (xs : List ℕ) → text ≡ Some xs → (page : List ℕ) × Explains file (front xs) e page × Appends old new page

-- The same if a write failed: only a first part of such a page was written.
abbrev pub WrotePart : List ℕ → Option (List ℕ) → Option Refusal → Option (List ℕ) → Option (List ℕ) → Type 0
WrotePart file text e old new = (xs : List ℕ) → text ≡ Some xs → (page : List ℕ) × Explains file (front xs) e page × AppendsSome old new page

-- A graph goes to the writer of results, which went from `old` to `new`. An explanation in its place
-- goes to the other writer, which went from `errors` to `errors_new`. One of them stays as it was.
abbrev pub Drew : List ℕ → Option (List ℕ) → Option Refusal → Option (List ℕ) → Option (List ℕ) → Option (List ℕ) → Option (List ℕ) → Type 0
Drew file text None old new errors errors_new = Wrote file text None old new × Keeps errors errors_new
Drew file text (Some e) old new errors errors_new = Wrote file text (Some e) errors errors_new × Keeps old new

abbrev pub DrewPart : List ℕ → Option (List ℕ) → Option Refusal → Option (List ℕ) → Option (List ℕ) → Option (List ℕ) → Option (List ℕ) → Type 0
DrewPart file text None old new errors errors_new = WrotePart file text None old new × Keeps errors errors_new
DrewPart file text (Some e) old new errors errors_new = WrotePart file text (Some e) errors errors_new × Keeps old new
