-- How a result of the code relates to the functions of `Pieces`, which never run out of memory.
use Rattle.std.specs.Prelude.{◌≡◌, ℕ, Result, Ok, Err}
use Rattle.cp_scan.specs.Pieces.{Piece, step}
use Rattle.cp_scan.specs.declared.progress.Progress.{Progress}
use Rattle.cp_scan.specs.declared.refusal.Cause.{Cause}
use Rattle.cp_scan.specs.declared.refusal.ScanError.{ScanError}
use Rattle.cp_scan.specs.declared.refusal.ScanError.TheVariants as error

abbrev pub Fails : {A : Type 0} → ScanError → Result A (Cause × ℕ) → Type 0
Fails (error.Refused cause at) outcome = outcome ≡ Err (cause, at)
Fails error.Memory outcome = Unit {0}

-- The code took this piece: it continued from `before` to `after`, or it returns the cause.
abbrev pub Takes : {A : Type 0} → Result A ScanError → Progress → Progress → Piece → Type 0
Takes (Ok done) before after piece = step piece before.at before.tokens.items ≡ Ok (after.at, after.tokens.items)
Takes (Err error) before after piece = Fails error (step piece before.at before.tokens.items)
