-- How much of a reader a command takes, and what a writer gets, if their bytes are known. A text,
-- an input and an order are read to their end, or through one byte more than they may have.
use Rattle.std.specs.Prelude.{◌≤◌, ℕ, List, Option, Result, MatchResult, IfSome, length, take}
use Rattle.std.specs.Io.KnownBytes.{Appends, Consumes, Keeps}
use Rattle.cp_frontend.specs.declared.refusal.Refusal.{Refusal}
use Rattle.cp_frontend.specs.declared.refusal.Refusal.TheVariants as refusal

-- ---- What was read

-- The part of a text, an input or an order that is read.
abbrev pub front : List ℕ → List ℕ
front xs = take 1048577 xs

-- All that is to be read was read.
abbrev pub TakesFront : Option (List ℕ) → Option (List ℕ) → Type 0
TakesFront old new = IfSome old (λ xs. Consumes old new (front xs))

-- No more than is to be read was read.
abbrev pub TakesUpTo : Option (List ℕ) → Option (List ℕ) → Type 0
TakesUpTo old new = (bs : List ℕ) × (length bs ≤ 1048577) × Consumes old new bs

-- ---- Refusals

-- What a refusal is about: the text, the input, the order, the writer, or none of them, if a read
-- failed or memory ran out.
pub data Concern : Type 0 where
  Text : Concern
  Input : Concern
  Order : Concern
  Writer : Concern
  Fault : Concern

abbrev pub concern : Refusal → Concern
concern (refusal.InputByte at) = Input
concern refusal.InputSize = Input
concern (refusal.Order at) = Order
concern refusal.Write = Writer
concern refusal.Read = Fault
concern refusal.Memory = Fault
concern e = Text

-- A function that reads only a text reports a refusal about that. The same holds for an input and
-- for an order.
abbrev pub IsAboutText : Concern → Type 0
IsAboutText Text = Unit {0}
IsAboutText Fault = Unit {0}
IsAboutText _ = ⊥

abbrev pub IsAboutInput : Concern → Type 0
IsAboutInput Input = Unit {0}
IsAboutInput Fault = Unit {0}
IsAboutInput _ = ⊥

abbrev pub IsAboutOrder : Concern → Type 0
IsAboutOrder Order = Unit {0}
IsAboutOrder Fault = Unit {0}
IsAboutOrder _ = ⊥

-- ---- What a command read

-- What was read of a text when a command was refused: all of it, unless a read failed or memory ran
-- out.
abbrev pub TakesTextAt : Option (List ℕ) → Option (List ℕ) → Concern → Type 0
TakesTextAt old new Fault = TakesUpTo old new
TakesTextAt old new _ = TakesFront old new

-- What was read of an input when a run or a replay was refused: nothing if the text was refused.
abbrev pub TakesInputAt : Option (List ℕ) → Option (List ℕ) → Concern → Type 0
TakesInputAt old new Fault = TakesUpTo old new
TakesInputAt old new Text = Keeps old new
TakesInputAt old new _ = TakesFront old new

-- What was read of an order when a replay was refused: nothing if the text or the input was.
abbrev pub TakesOrderAt : Option (List ℕ) → Option (List ℕ) → Concern → Type 0
TakesOrderAt old new Fault = TakesUpTo old new
TakesOrderAt old new Text = Keeps old new
TakesOrderAt old new Input = Keeps old new
TakesOrderAt old new _ = TakesFront old new

abbrev pub TakesText : {T : Type 0} → Result T Refusal → Option (List ℕ) → Option (List ℕ) → Type 0
TakesText r old new = MatchResult r (λ _. TakesFront old new) (λ e. TakesTextAt old new (concern e))

abbrev pub TakesInput : {T : Type 0} → Result T Refusal → Option (List ℕ) → Option (List ℕ) → Type 0
TakesInput r old new = MatchResult r (λ _. TakesFront old new) (λ e. TakesInputAt old new (concern e))

abbrev pub TakesOrder : {T : Type 0} → Result T Refusal → Option (List ℕ) → Option (List ℕ) → Type 0
TakesOrder r old new = MatchResult r (λ _. TakesFront old new) (λ e. TakesOrderAt old new (concern e))

-- ---- What was written

-- A prefix of the bytes was written.
abbrev pub AppendsSome : Option (List ℕ) → Option (List ℕ) → List ℕ → Type 0
AppendsSome old new bs = (n : ℕ) × (n ≤ length bs) × Appends old new (take n bs)
