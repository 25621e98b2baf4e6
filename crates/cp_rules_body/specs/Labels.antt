-- The labels of a `case` so far.
use Rattle.std.specs.Prelude.{◌≡◌, ℕ, ℤ, false, Option, Some, None, List, [], map}
use Rattle.std.specs.List.{All}
use Rattle.std.specs.Ordering.{int_cmp}
use Rattle.std.specs.declared.cmp.Ordering.TheVariants.{Less}
use Rattle.cp_model.specs.RulesEnvironment.{Environment, base_of}
use Rattle.cp_model.specs.RulesStatements.{Label, is_among}

abbrev pub Labels : Type 0
Labels = List Label

abbrev pub no_labels : Labels
no_labels = []

-- The labels of a base type with some ordinals.
abbrev pub labels_of : ℕ → List ℤ → Labels
labels_of base ns = map (λ n. (base, n)) ns

-- The same labels, in any order.
abbrev pub SameLabels : Labels → Labels → Type 0
SameLabels as' bs = (c : Label) → is_among c as' ≡ is_among c bs

-- None of the ordinals is the same or greater.
abbrev pub IsGreatest : ℤ → List ℤ → Type 0
IsGreatest n ns = All (λ m. int_cmp m n ≡ Less) ns

-- No label of this base type is greater than all these ordinals.
abbrev pub NoneGreater : ℕ → List ℤ → Labels → Type 0
NoneGreater base ns cs = (n : ℤ) → IsGreatest n ns → is_among (base, n) cs ≡ false

-- The base type of a selector, if it is known.
abbrev pub base_if : Environment → Option ℕ → Option ℕ
base_if env (Some t) = base_of env t
base_if env None = None
