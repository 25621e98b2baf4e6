-- What a function of the code reports and returns: the earliest violation so far, and a meaning.
use Rattle.std.specs.Prelude.{◌≡◌, Bool, true, false, [], ◌∷◌, Option, None, Some, Result, Ok, Err}
use Rattle.cp_model.specs.declared.rules.Violation.{Violation}
use Rattle.cp_model.specs.RulesJudged.{Judged, Sound, Broken, Violations, earlier, least, violations_of, meaning_of, both}

-- The answer is the meaning, and the earliest violation is kept.
abbrev pub Reports : {A : Type 0} → Option Violation → Option Violation → Option A → Judged A → Type 0
Reports old new answer j = (new ≡ least old (violations_of j)) × (answer ≡ meaning_of j)

-- The meaning, or the first violation.
abbrev pub first_of : {A : Type 0} → Judged A → Result A Violation
first_of (Sound x) = Ok x
first_of (Broken v vs) = Err v

-- What `Reports` says, for an answer that is the meaning or the first violation.
abbrev pub ReportsFirst : {A : Type 0} → Option Violation → Option Violation → Result A Violation → Judged A → Type 0
ReportsFirst old new answer j = (new ≡ least old (violations_of j)) × (answer ≡ first_of j)

abbrev pub are_none : Violations → Bool
are_none [] = true
are_none (v ∷ vs) = false

-- The earliest of these violations is kept, and `sound` is whether there are none.
abbrev pub ReportsOf : Option Violation → Option Violation → Bool → Violations → Type 0
ReportsOf old new sound vs = (new ≡ least old vs) × (sound ≡ are_none vs)

-- What was reported of a part is reported of the whole.
abbrev pub with_part : Option Violation → Option Violation → Option Violation
with_part diagnostics None = diagnostics
with_part diagnostics (Some v) = earlier diagnostics v

-- An answer counts only if nothing else is broken.
abbrev pub answer_if : {A : Type 0} → Bool → Option A → Option A
answer_if true answer = answer
answer_if false answer = None

-- After two parts were judged: what is judged if both are known.
abbrev pub ReportsBoth : {A B C : Type 0} → Option Violation → Option Violation → Option A → Option B → Option C → (A → B → Judged C) → Type 0
ReportsBoth {A} {B} {C} old new a b answer k =
    (t0 t1 : Option Violation) (ja : Judged A) (jb : Judged B) → Reports t0 t1 a ja → Reports t1 old b jb → Reports t0 new answer (both ja jb k)
