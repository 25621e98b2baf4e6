-- A text with the sequences that a terminal shows as styles.
use Rattle.std.specs.Prelude.{◌≡◌, ◌++◌, ◌∷◌, [], List, ℕ, Option, None, Some, codes}
use Rattle.cp_cli_terminal.specs.declared.style.Style.{Style}
use Rattle.cp_cli_terminal.specs.declared.style.Style.TheVariants as style

-- The sequence that begins a style: the byte 27, `[`, numbers with `;` between them, and `m`.
abbrev pub sequence_of : Style → List ℕ
sequence_of style.Plain = 27 ∷ codes "[0m"
sequence_of style.Place = 27 ∷ codes "[0;1m"
sequence_of style.Wrong = 27 ∷ codes "[0;1;31m"
sequence_of style.Doubtful = 27 ∷ codes "[0;33m"
sequence_of style.Right = 27 ∷ codes "[0;32m"
sequence_of style.Source = 27 ∷ codes "[0;2m"

-- A text with the sequences of the styles that begin at its bytes.
abbrev pub with_marks : List ℕ → List (Option Style) → List ℕ
with_marks [] marks = []
with_marks (b ∷ bs) [] = b ∷ with_marks bs []
with_marks (b ∷ bs) (None ∷ marks) = b ∷ with_marks bs marks
with_marks (b ∷ bs) (Some s ∷ marks) = sequence_of s ++ b ∷ with_marks bs marks

-- The painted text is the text with sequences before some of its bytes.
pub record IsPainted (text painted : List ℕ) : Type 0 where
  pub marks : List (Option Style)
  pub painted_is : painted ≡ with_marks text marks
