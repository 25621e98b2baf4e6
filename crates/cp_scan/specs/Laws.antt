-- What a scan says about a text, in terms of `Spelling`.
use Rattle.std.specs.Prelude.{◌≡◌, ℕ, ◌≤◌, ◌<◌, List, [], ◌∷◌, length, ◌⊎◌}
use Rattle.cp_model.specs.Spelling.{Spells, SpelledUpTo, IsBadByte, IsOpenComment, IsBadCharacter, IsLargeNumber, IsLongWord}
use Rattle.cp_model.specs.Tokens.{Token}
use Rattle.cp_scan.specs.declared.refusal.Cause.{Cause}
use Rattle.cp_scan.specs.declared.refusal.Cause.TheVariants as cause
use Rattle.cp_scan.specs.declared.refusal.ScanError.{ScanError}
use Rattle.cp_scan.specs.declared.refusal.ScanError.TheVariants as error

-- The largest number of bytes that a text may have.
abbrev pub longest_text : ℕ
longest_text = 1048576

-- The cause holds at the front of the rest of a text.
abbrev pub IsCauseIn : Cause → List ℕ → Type 0
IsCauseIn cause.Byte rest = IsBadByte rest
IsCauseIn cause.Comment rest = IsOpenComment rest
IsCauseIn cause.Character rest = IsBadCharacter rest
IsCauseIn cause.Number rest = IsLargeNumber rest
IsCauseIn cause.Word rest = IsLongWord rest
IsCauseIn cause.Size rest = ⊥

-- The text is too long, or it is spelled up to this place and the cause holds there.
abbrev pub IsFirstCause : Cause → ℕ → List ℕ → Type 0
IsFirstCause cause.Size at text = (longest_text < length text) × (at ≡ longest_text)
IsFirstCause c at text = (length text ≤ longest_text) × ((rest : List ℕ) × SpelledUpTo text at rest × IsCauseIn c rest)

-- What an error says about a text. Running out of memory says nothing about it.
abbrev pub ReportsFirstCause : List ℕ → ScanError → Type 0
ReportsFirstCause text (error.Refused c at) = IsFirstCause c at text
ReportsFirstCause text error.Memory = Unit {0}

-- The error is a refusal with this cause at this place, or it is that memory ran out.
abbrev pub IsRefusalOrMemory : Cause → ℕ → ScanError → Type 0
IsRefusalOrMemory c at e = (e ≡ error.Refused c at) ⊎ (e ≡ error.Memory)

-- A text that is refused although it isn't too long has no tokens at all.
abbrev pub RulesOutTokens : List ℕ → ScanError → Type 0
RulesOutTokens text (error.Refused c at) = length text ≤ longest_text → (tokens : List Token) → Spells text tokens → ⊥
RulesOutTokens text error.Memory = Unit {0}

-- The spans of the tokens are not empty, rise and don't overlap. They start at `at` or later and
-- end by `end`.
abbrev pub RisesFrom : ℕ → List Token → ℕ → Type 0
RisesFrom at [] end = at ≤ end
RisesFrom at (t ∷ ts) end = (at ≤ t.span.from) × (t.span.from < t.span.to) × RisesFrom t.span.to ts end
