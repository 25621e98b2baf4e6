-- What a result of the code says about a text, given that it is the outcome of the functions of
-- `Pieces`.
use Rattle.std.proofs.Common.{◌≡◌, ℕ, ◌≤◌, List, length, Result, Ok, Err, IfOk, IfErr, MatchResult, Global, refl, sym, ap, ◌∙◌, inl, inr, arith}
use Rattle.std.specs.declared.vec.Vec.{Vec}
use Rattle.cp_model.specs.Spelling.{Spells, SpelledUpTo}
use Rattle.cp_model.specs.Tokens.{Token}
use Rattle.cp_scan.specs.declared.refusal.Cause.{Cause}
use Rattle.cp_scan.specs.declared.refusal.Cause.TheVariants as cause
use Rattle.cp_scan.specs.declared.refusal.ScanError.{ScanError}
use Rattle.cp_scan.specs.declared.refusal.ScanError.TheVariants as error
use Rattle.cp_scan.specs.Failures.{Fails}
use Rattle.cp_scan.specs.Laws.{IsCauseIn, IsFirstCause, ReportsFirstCause, RulesOutTokens, IsRefusalOrMemory, RisesFrom, longest_text}
use Rattle.cp_scan.specs.Pieces.{Outcome, tokens_of}
use Rattle.cp_scan.proofs.Complete.{spelled_found, refusal_found}
use Rattle.cp_scan.proofs.Sound.{found_spells, first_cause}
use Rattle.cp_scan.proofs.Spans.{spans_rise}

abbrev pub Answer : Type 0
Answer = Result (Vec Token Global) ScanError

as_first : (text : List ℕ) (c : Cause) (at : ℕ) → length text ≤ longest_text
    → (rest : List ℕ) × SpelledUpTo text at rest × IsCauseIn c rest → IsFirstCause c at text
as_first text cause.Byte at le h = (le, h)
as_first text cause.Comment at le h = (le, h)
as_first text cause.Character at le h = (le, h)
as_first text cause.Number at le h = (le, h)
as_first text cause.Word at le h = (le, h)
as_first text cause.Size at le h = absurd h.2

reported_first : (text : List ℕ) (e : ScanError) → length text ≤ longest_text → Fails e (tokens_of text) → ReportsFirstCause text e
reported_first text (error.Refused c at) le fails = as_first text c at le (first_cause text c at fails)
reported_first text error.Memory le fails = tt

no_tokens : (text : List ℕ) (e : ScanError) → Fails e (tokens_of text) → RulesOutTokens text e
no_tokens text (error.Refused c at) fails = λ le tokens h. let f = spelled_found text tokens h in let g = fails in cc
no_tokens text error.Memory fails = tt

only_memory : (text : List ℕ) (e : ScanError) (tokens : List Token) → Fails e (tokens_of text) → Spells text tokens → e ≡ error.Memory
only_memory text (error.Refused c at) tokens fails h = let f = spelled_found text tokens h in let g = fails in cc
only_memory text error.Memory tokens fails h = refl

first_found : (text : List ℕ) (c : Cause) (at : ℕ) → length text ≤ longest_text → IsFirstCause c at text → tokens_of text ≡ Err (c, at)
first_found text cause.Byte at le h = refusal_found text cause.Byte at h.1.0 h.1.1 h.1.2
first_found text cause.Comment at le h = refusal_found text cause.Comment at h.1.0 h.1.1 h.1.2
first_found text cause.Character at le h = refusal_found text cause.Character at h.1.0 h.1.1 h.1.2
first_found text cause.Number at le h = refusal_found text cause.Number at h.1.0 h.1.1 h.1.2
first_found text cause.Word at le h = refusal_found text cause.Word at h.1.0 h.1.1 h.1.2
first_found text cause.Size at le h = absurd (let over = h.0 in omega arith)

-- the error that an outcome is reported as
abbrev of_outcome : Outcome → ScanError
of_outcome (Ok tokens) = error.Memory
of_outcome (Err e) = error.Refused e.0 e.1

only_refusal : (text : List ℕ) (e : ScanError) (c : Cause) (at : ℕ) → Fails e (tokens_of text) → tokens_of text ≡ Err (c, at)
    → IsRefusalOrMemory c at e
only_refusal text (error.Refused d place) c at fails f = inl (ap (λ (o : Outcome). of_outcome o) (sym fails ∙ f))
only_refusal text error.Memory c at fails f = inr refl

module _ (text : List ℕ) where
  pub answer_spells : (r : Answer) → IfOk r (λ found. tokens_of text ≡ Ok found.items) → IfOk r (λ found. Spells text found.items)
  answer_spells (Ok found) e = found_spells text found.items e
  answer_spells (Err error) e = e

  pub answer_rises : (r : Answer) → IfOk r (λ found. tokens_of text ≡ Ok found.items) → IfOk r (λ found. RisesFrom 0 found.items (length text))
  answer_rises (Ok found) e = spans_rise text found.items (found_spells text found.items e)
  answer_rises (Err error) e = e

  pub answer_only : (r : Answer) → IfOk r (λ found. tokens_of text ≡ Ok found.items) → IfErr r (λ e. Fails e (tokens_of text))
      → (tokens : List Token) → Spells text tokens → MatchResult r (λ found. found.items ≡ tokens) (λ e. e ≡ error.Memory)
  answer_only (Ok found) e fails tokens h = let f = spelled_found text tokens h in cc
  answer_only (Err error) e fails tokens h = only_memory text error tokens fails h

  pub answer_first : (r : Answer) → length text ≤ longest_text → IfErr r (λ e. Fails e (tokens_of text)) → IfErr r (ReportsFirstCause text)
  answer_first (Ok found) le fails = fails
  answer_first (Err error) le fails = reported_first text error le fails

  pub answer_none : (r : Answer) → IfErr r (λ e. Fails e (tokens_of text)) → IfErr r (RulesOutTokens text)
  answer_none (Ok found) fails = fails
  answer_none (Err error) fails = no_tokens text error fails

  pub answer_refused : (r : Answer) → length text ≤ longest_text → IfOk r (λ found. tokens_of text ≡ Ok found.items)
      → IfErr r (λ e. Fails e (tokens_of text))
      → (c : Cause) (at : ℕ) → IsFirstCause c at text → MatchResult r (λ found. ⊥) (IsRefusalOrMemory c at)
  answer_refused (Ok found) le e fails c at h = let f = first_found text c at le h in cc
  answer_refused (Err error) le e fails c at h = only_refusal text error c at fails (first_found text c at le h)
