-- The result of a search is due, where the text or the input is known.
use Rattle.std.proofs.Common.{◌≡◌, ℕ, List, Ok, Option, Some, IfSome, subst}
use Rattle.cp_model.specs.Input.{cut}
use Rattle.cp_model.specs.Syntax as s
use Rattle.cp_outcome_schedule.specs.declared.findings.Findings.{Findings}
use Rattle.cp_base_config.specs.declared.search.SearchForm.{SearchForm}
use Rattle.cp_frontend.specs.Cutting.{judge_input}
use Rattle.cp_frontend.specs.Texts.{IsAccepted}
use Rattle.cp_frontend.proofs.TextRefusals.{of_known}
use Rattle.cp_execute_search.specs.Searches.{Due, IsSearchOf, IsWritten}
use Rattle.cp_execute_search.specs.declared.verdict.SearchVerdict.{SearchVerdict}

pub search_due : (servers : List ℕ) (form : SearchForm) (v : SearchVerdict) (found : Findings) (text input : Option (List ℕ)) (t : s.Tree) (bytes page : List ℕ) (Writes : List ℕ → Type 0)
    → IfSome text (λ xs. IsAccepted xs t) → IfSome input (λ ys. bytes ≡ ys) → judge_input bytes ≡ Ok tt → IsSearchOf servers t (cut bytes) v found → IsWritten form page → Writes page
    → Due servers form v found text input Writes
search_due servers form v found text input t bytes page Writes accepted same fit made formed written xs is =
    (t, of_known (λ zs. IsAccepted zs t) text xs accepted is, of_input)
  where
    of_input : (ys : List ℕ) → input ≡ Some ys → (judge_input ys ≡ Ok tt) × IsSearchOf servers t (cut ys) v found × (bs : List ℕ) × IsWritten form bs × Writes bs
    of_input ys given =
        let known = of_known (λ (bs : List ℕ). bytes ≡ bs) input ys same given in
        (subst (λ (bs : List ℕ). judge_input bs ≡ Ok tt) known fit, subst (λ (bs : List ℕ). IsSearchOf servers t (cut bs) v found) known made, page, formed, written)
