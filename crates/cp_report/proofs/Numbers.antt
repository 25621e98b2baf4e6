-- The numbers of askers as text.
use Rattle.std.proofs.Common.{◌≡◌, ◌≤◌, ◌++◌, ℕ, List, [], ◌∷◌, length, refl, ap, ◌∙◌, arith}
use Rattle.std.specs.Prelude.{codes, flat_map}
use Rattle.std.proofs.lemmas.List.{append_assoc}
use Rattle.cp_model.specs.Decimal.{natural}
use Rattle.cp_model.specs.Report.{askers_text, numbers_text}
use Rattle.cp_report.specs.Lines.{number_text}

pub numbers_are : (ps : List ℕ) → flat_map number_text ps ≡ numbers_text ps
numbers_are [] = refl
numbers_are (p ∷ ps) = append_assoc (codes " ") (natural p) (flat_map number_text ps) ∙ ap (λ t. codes " " ++ (natural p ++ t)) (numbers_are ps)

pub askers_are : (ps : List ℕ) → 1 ≤ length ps → flat_map number_text ps ≡ askers_text ps
askers_are [] some = absurd (omega (arith, some))
askers_are (p ∷ ps) some = numbers_are (p ∷ ps)
