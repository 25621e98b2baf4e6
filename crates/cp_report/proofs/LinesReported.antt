-- The lines of listed components are reported one after another, by number.
use Rattle.std.proofs.Common.{◌≡◌, ◌++◌, ℕ, suc, List, [], ◌∷◌, ap, sym, ◌∙◌}
use Rattle.std.proofs.lemmas.List.{append_assoc}
use Rattle.cp_model.specs.Abstract.{Name}
use Rattle.cp_model.specs.Declarations.{Variable}
use Rattle.cp_model.specs.Report.{Text}
use Rattle.cp_compile_symbols.specs.Representing.{Represents}
use Rattle.cp_compile_symbols.specs.declared.types.Types.{Types}
use Rattle.cp_inspect.specs.Lists.{AreListed}

abbrev pub Lines : Type 0
Lines = ℕ → List (Name × Variable) → Text

-- These entries represent the components that are left, and with the lines of those components the
-- text is whole.
pub record LinesToReport (types : Types) (all : Lines) (n : ℕ) (es : List (Name × ℕ)) (out text : Text) : Type 0 where
  pub left : List (Name × Variable)
  pub listed : AreListed types es left
  pub text_is : out ++ all n left ≡ text

pub one_component : (types : Types) (one : ℕ → Name × Variable → Text) (all : Lines) (n : ℕ) (e : Name × ℕ) (es : List (Name × ℕ)) (out after text : Text)
    → ((v : Name × Variable) (vs : List (Name × Variable)) → all n (v ∷ vs) ≡ one n v ++ all (suc n) vs) → LinesToReport types all n (e ∷ es) out text
    → ((v : Name × Variable) → e.0 ≡ v.0 → Represents types e.1 v.1.type → after ≡ out ++ one n v) → LinesToReport types all (suc n) es after text
one_component types one all n e es out after text more L reports = by L.left L.listed L.text_is
  where
    by : (vs : List (Name × Variable)) → AreListed types (e ∷ es) vs → out ++ all n vs ≡ text → LinesToReport types all (suc n) es after text
    by [] h is = absurd h
    by (v ∷ vs) h is = record {
      left = vs;
      listed = h.2;
      text_is = (λ i. reports v h.0 h.1 i ++ all (suc n) vs) ∙ (append_assoc out (one n v) (all (suc n) vs) ∙ (ap (λ z. out ++ z) (sym (more v vs)) ∙ is));
    }
