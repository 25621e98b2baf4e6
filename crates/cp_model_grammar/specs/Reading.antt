-- Reading from a list of tokens: the result of a reader, and the steps that every reader is made
-- of.
-- A reader looks at no token beyond the next one.
use Rattle.std.specs.Prelude.{◌≡◌, ℕ, zero, suc, Bool, if◌then◌else◌, List, [], ◌∷◌, ◌++◌, length, Option, Some, None, Result, Ok, Err}
use Rattle.std.specs.Borrow.{Bor}
use Rattle.cp_model.specs.Tokens.{Token}
use Rattle.cp_model.specs.Tokens.{Kind}
use Rattle.cp_model.specs.declared.token.Symbol.{Symbol}
use Rattle.cp_model_grammar.specs.declared.stop.Stop.{Stop}
use Rattle.cp_model_grammar.specs.declared.stop.Stop.TheVariants.{Memory, Wrong, Deep}
use Rattle.cp_model_grammar.specs.Kinds.{is_symbol}

-- ---- the next token

-- The kind of the next token, or `None` after the last one.
abbrev pub kind_at : List Token → Option Kind
kind_at [] = None
kind_at (t ∷ ts) = Some t.kind

abbrev pub place_at : List Token → ℕ
place_at [] = 0
place_at (t ∷ ts) = t.span.from

abbrev pub tail : List Token → List Token
tail [] = []
tail (t ∷ ts) = ts

-- ---- readers

-- What was read and the tokens after it, or why reading stopped.
abbrev pub Outcome : Type 0 → Type 0
Outcome A = Result (A × List Token) Stop

abbrev pub Reader : Type 0 → Type 0
Reader A = List Token → Outcome A

abbrev pub and_then : {A B : Type 0} → Outcome A → (A → Reader B) → Outcome B
and_then (Ok p) f = f p.0 p.1
and_then (Err e) f = Err e

infixl 10 ◌>>=◌
abbrev pub ◌>>=◌ : {A B : Type 0} → Reader A → (A → Reader B) → Reader B
p >>= f = λ ts. and_then (p ts) f

abbrev pub pure : {A : Type 0} → A → Reader A
pure a = λ ts. Ok (a, ts)

-- Stops, because no text has the next token here.
abbrev pub refuse : {A : Type 0} → Reader A
refuse = λ ts. Err (Wrong (length ts))

-- Stops, because the next token opens one level too many.
abbrev pub too_deep : {A : Type 0} → Reader A
too_deep = λ ts. Err (Deep (length ts))

-- Takes the next token and returns its place.
abbrev pub take_token : Reader ℕ
take_token = λ ts. Ok (place_at ts, tail ts)

-- Decides by the kind of the next token.
abbrev pub by_kind : {A : Type 0} → (Option Kind → Reader A) → Reader A
by_kind f = λ ts. f (kind_at ts) ts

-- Takes this symbol and returns its place.
unfoldable pub expect : Symbol → Reader ℕ
expect x = by_kind (λ k. if is_symbol x k then take_token else refuse)

-- Takes this symbol if it is the next token, and returns its place.
unfoldable pub optional_symbol : Symbol → Reader (Option ℕ)
optional_symbol x = by_kind (λ k. if is_symbol x k then (take_token >>= λ at. pure (Some at)) else pure None)

-- Reads with `f` if there is an operator, and otherwise with `q`.
abbrev pub if_some : {A B : Type 0} → Option A → Reader B → (A → Reader B) → Reader B
if_some None q f = q
if_some (Some a) q f = f a

-- Reads what opens a level with the readers one level deeper, or stops if there is no such level.
abbrev pub inside : {A B : Type 0} → Option B → (B → Reader A) → Reader A
inside None f = too_deep
inside (Some readers) f = f readers

-- ---- lists

-- Items after those in `found`, as long as `proceeds` holds for the next token. The number bounds
-- how many are read.
unfoldable pub repeat : {A : Type 0} → (Option Kind → Bool) → Reader A → ℕ → List A → Reader (List A)
repeat proceeds item zero found = pure found
repeat proceeds item (suc n) found =
    by_kind (λ k. if proceeds k then (item >>= λ x. repeat proceeds item n (found ++ x ∷ [])) else pure found)

-- Each item takes at least one token, so the number of tokens is a sufficient bound.
abbrev pub repeat_while : {A : Type 0} → (Option Kind → Bool) → Reader A → List A → Reader (List A)
repeat_while proceeds item found = λ ts. repeat proceeds item (length ts) found ts

-- One item, and more as long as `proceeds` holds for the next token.
abbrev pub one_or_more : {A : Type 0} → (Option Kind → Bool) → Reader A → Reader (List A)
one_or_more proceeds item = item >>= λ x. repeat_while proceeds item (x ∷ [])

-- One or more items, with this symbol between them.
abbrev pub separated_by : {A : Type 0} → Symbol → Reader A → Reader (List A)
separated_by x item = item >>= λ a. repeat_while (is_symbol x) (take_token >>= λ _. item) (a ∷ [])

-- ---- what a function that reads ensures

-- If memory runs out, reading may stop anywhere.
abbrev pub Fails : {Y : Type 0} → Stop → Outcome Y → Type 0
Fails Memory read = Unit {0}
Fails (Wrong n) read = read ≡ Err (Wrong n)
Fails (Deep n) read = read ≡ Err (Deep n)

-- The view of the function's result and the tokens after it are what the reader returns.
abbrev pub Gives : {X Y : Type 0} → (X → Y) → Result (X × Bor (List Token)) Stop → Outcome Y → Type 0
Gives view (Ok x) read = read ≡ Ok (view x.0, x.1.now)
Gives view (Err e) read = Fails e read
