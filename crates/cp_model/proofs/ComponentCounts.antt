-- As many variables are components of a sort as are counted.
use Rattle.std.specs.Prelude.{Bool, List, [], false, filter, if◌then◌else◌, length, refl, suc, true, ◌∷◌, ◌≡◌}
use Rattle.std.proofs.Common.{ap}
use Rattle.cp_model.specs.Abstract.{Name, Sort}
use Rattle.cp_model.specs.Components.{is_component_of}
use Rattle.cp_model.specs.Declarations.{Variable}
use Rattle.cp_model.specs.States.{count_components}

pub counted : (z : Sort) (vs : List (Name × Variable)) → length (filter (λ v. is_component_of z v.1.type) vs) ≡ count_components z vs
counted z [] = refl
counted z (v ∷ vs) = by (is_component_of z v.1.type) (counted z vs)
  where
    by : (b : Bool) → length (filter (λ v. is_component_of z v.1.type) vs) ≡ count_components z vs
        → length (if b then v ∷ filter (λ v. is_component_of z v.1.type) vs else filter (λ v. is_component_of z v.1.type) vs)
        ≡ (if b then suc (count_components z vs) else count_components z vs)
    by true e = ap suc e
    by false e = e
