-- What is left of a walk over variables, and the text that it will report.
use Rattle.std.specs.Prelude.{ℕ, ◌+◌, ◌*◌, ◌++◌, ℤ, List, [], ◌∷◌, length}
use Rattle.cp_model.specs.Locations.{Path}
use Rattle.cp_model.specs.Report.{Text}
use Rattle.cp_model.specs.Types.{GlobalScope, Members, ResolvedType}
use Rattle.cp_law_typing.specs.Words.{words, words_of_members}
use Rattle.cp_model_machine.specs.Reports.{Visit, visit_elements, visit_members, visit_type}

-- The members of a record or component that are left, or the elements of an array that are left, by
-- their indices.
pub data Remaining : Type 0 where
  MembersRemaining : (path : Path) (ms : Members) → Remaining
  ElementsRemaining : (path : Path) (is : List ℤ) (of : ResolvedType) → Remaining

abbrev pub path_of : Remaining → Path
path_of (MembersRemaining path ms) = path
path_of (ElementsRemaining path is t) = path

-- The text of what is left. The innermost variable comes first, and begins at address `at`.
abbrev pub left_text : GlobalScope → Visit → List Remaining → ℕ → Text
left_text g v [] at = []
left_text g v (MembersRemaining path ms ∷ rest) at =
    visit_members g v path at ms ++ left_text g v rest (at + words_of_members g ms)
left_text g v (ElementsRemaining path is t ∷ rest) at =
    visit_elements (λ p a. visit_type g v p a t) (words g t) path at is ++ left_text g v rest (at + length is * words g t)

-- The number of words in what is left.
abbrev pub left_words : GlobalScope → List Remaining → ℕ
left_words g [] = 0
left_words g (MembersRemaining path ms ∷ rest) = words_of_members g ms + left_words g rest
left_words g (ElementsRemaining path is t ∷ rest) = length is * words g t + left_words g rest

-- The innermost variable has a name.
abbrev pub IsNamed : Path → Type 0
IsNamed [] = ⊥
IsNamed (s ∷ path) = Unit {0}
