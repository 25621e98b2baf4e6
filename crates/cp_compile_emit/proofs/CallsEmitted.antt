-- Calls are emitted from the last one to the first.
use Rattle.std.proofs.Common.{◌≡◌, List, [], ◌∷◌, ◌++◌, length, drop, take, ap, sym, ◌∙◌, append_assoc}
use Rattle.std.proofs.Math.Seq.{drop-append_seam, take-append_seam}
use Rattle.std.proofs.lemmas.List.{take-append-drop}

module _ {A : Type 0} (all left rest : List A) (x : A) (front : left ≡ take (length left) all) (last : left ≡ rest ++ x ∷ []) where
  parted : all ≡ rest ++ (x ∷ drop (length left) all)
  parted =
      sym (take-append-drop (length left) all)
      ∙ ap (λ xs. xs ++ drop (length left) all) (sym front ∙ last)
      ∙ append_assoc rest (x ∷ []) (drop (length left) all)

  pub front_of : rest ≡ take (length rest) all
  front_of = sym (ap (take (length rest)) parted ∙ take-append_seam rest (x ∷ drop (length left) all))

  pub back_of : drop (length rest) all ≡ x ∷ drop (length left) all
  back_of = ap (drop (length rest)) parted ∙ drop-append_seam rest (x ∷ drop (length left) all)
