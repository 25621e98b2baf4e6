-- Labels, from the last to the first.
use Rattle.std.proofs.Common.{◌≡◌, ◌∷◌, ◌++◌, ◌∙◌, ℕ, ℤ, List, [], Option, None, Some, ap, map, refl, reverse}
use Rattle.std.proofs.lemmas.List.{reverse-append}
use Rattle.cp_model.specs.Abstract as a
use Rattle.cp_model.specs.Abstract.{BaseType}
use Rattle.cp_model.specs.Types.{GlobalScope, constant_value}
use Rattle.cp_model_program.specs.CodedStatements.{arms_at}
use Rattle.cp_model_program.specs.Programs as code
use Rattle.cp_program.specs.Labels.{arm}
use Rattle.cp_program.specs.declared.arm.Arm.{Arm}

abbrev with_arm : ℕ → Option (BaseType × ℤ) → List code.Arm → List code.Arm
with_arm place o rest = elim o [ None ↦ rest | Some b ↦ record { label = b.1; place = place } ∷ rest ]

pub label_before : (g : GlobalScope) (place : ℕ) (c : a.Constant) (cs : List a.Constant) (rest : List code.Arm)
    → arms_at g place (c ∷ []) (arms_at g place cs rest) ≡ arms_at g place (c ∷ cs) rest
label_before g place c cs rest = go (constant_value g c)
  where
    go : (o : Option (BaseType × ℤ)) → with_arm place o (arms_at g place cs rest) ≡ elim o [ None ↦ arms_at g place cs rest | Some b ↦ record { label = b.1; place = place } ∷ arms_at g place cs rest ]
    go None = refl
    go (Some b) = refl

pub no_label : (g : GlobalScope) (place : ℕ) (c : a.Constant) (rest : List code.Arm) → None ≡ constant_value g c → rest ≡ arms_at g place (c ∷ []) rest
no_label g place c rest none = ap (λ o. with_arm place o rest) none

pub label_added : (g : GlobalScope) (place : ℕ) (c : a.Constant) (b : BaseType × ℤ) (old new : List Arm) (x : Arm) → Some b ≡ constant_value g c
    → new ≡ old ++ x ∷ [] → arm x ≡ record { label = b.1; place = place }
    → map arm (reverse new) ≡ arms_at g place (c ∷ []) (map arm (reverse old))
label_added g place c b old new x some more is =
    ap (λ xs. map arm (reverse xs)) more
    ∙ (ap (map arm) (reverse-append old (x ∷ []))
    ∙ (ap (λ y. y ∷ map arm (reverse old)) is ∙ ap (λ o. with_arm place o (map arm (reverse old))) some))
