-- Why a text or an input is refused, if its bytes are known.
use Rattle.std.specs.Prelude.{◌≡◌, ◌⊎◌, List, ℕ, Option, Some, Err, IfSome}
use Rattle.cp_model.specs.Syntax as s
use Rattle.cp_frontend.specs.declared.refusal.Refusal.{Refusal}
use Rattle.cp_frontend.specs.declared.refusal.Refusal.TheVariants as refusal
use Rattle.cp_frontend.specs.Cutting.{judge_input}
use Rattle.cp_frontend.specs.Texts.{IsAccepted}
use Rattle.cp_frontend.specs.Texts as texts
use Rattle.cp_frontend.specs.Takings.{IsAboutInput, concern, front}

-- Running out of memory and a failed read say nothing about the text.
abbrev pub RefusesText : List ℕ → Refusal → Type 0
RefusesText xs refusal.Read = Unit {0}
RefusesText xs e = texts.Refuses (front xs) e

abbrev pub RefusesInput : List ℕ → Refusal → Type 0
RefusesInput ys refusal.Read = Unit {0}
RefusesInput ys refusal.Memory = Unit {0}
RefusesInput ys e = judge_input (front ys) ≡ Err e

-- Why an input is refused, if it is known.
abbrev pub RefusesInputOf : Option (List ℕ) → Refusal → Type 0
RefusesInputOf input e = IsAboutInput (concern e) × IfSome input (λ ys. RefusesInput ys e)

-- The run of a text is refused because of the text or, if that is accepted, because of the input.
-- Running out of memory says nothing.
abbrev pub RefusesRun : List ℕ → Option (List ℕ) → Refusal → Type 0
RefusesRun xs input e = RefusesText xs e ⊎ (((t : s.Tree) × IsAccepted xs t) × RefusesInputOf input e)

-- Running out of memory, and a read or a write that failed. These say nothing about the text.
abbrev pub IsFault : Refusal → Type 0
IsFault refusal.Memory = Unit {0}
IsFault refusal.Read = Unit {0}
IsFault refusal.Write = Unit {0}
IsFault e = ⊥

-- A refusal before anything is written: any but a write that failed.
abbrev pub IsBeforeWriting : Refusal → Type 0
IsBeforeWriting e = e ≡ refusal.Write → ⊥

-- A known text that is accepted is refused only with a fault.
abbrev pub IsFaultOfAccepted : Option (List ℕ) → Refusal → Type 0
IsFaultOfAccepted text e = (xs : List ℕ) (t : s.Tree) → text ≡ Some xs → IsAccepted xs t → IsFault e

-- The run of a known text that is accepted is refused only with a fault or because of the input.
abbrev pub IsFaultOrOfInput : Option (List ℕ) → Option (List ℕ) → Refusal → Type 0
IsFaultOrOfInput text input e = (xs : List ℕ) (t : s.Tree) → text ≡ Some xs → IsAccepted xs t → IsFault e ⊎ RefusesInputOf input e
