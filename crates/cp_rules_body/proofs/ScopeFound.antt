-- A name that is at some place in a scope represents what is there.
use Rattle.std.proofs.Common.{◌≡◌, ◌∙◌, ℕ, zero, suc, List, [], ◌∷◌, Some, ap, arith, if◌then◌else◌, refl, slice_get, subst, sym}
use Rattle.std.proofs.lemmas.Option.{same_Some}
use Rattle.std.proofs.lemmas.Slice.Eq.{bytes_eq-Decides}
use Rattle.cp_model.specs.Names.{lookup}
use Rattle.cp_model.specs.RulesEnvironment.{Text}
use Rattle.cp_base_names.specs.Tables.{AreDistinct}

fewer_distinct : {A : Type 0} (e : Text × A) (es : List (Text × A)) → AreDistinct (e ∷ es) → AreDistinct es
fewer_distinct e es distinct i j f g below at_i at_j = distinct (suc i) (suc j) f g (omega (arith)) at_i at_j

pub found_at : {A : Type 0} (es : List (Text × A)) (i : ℕ) (x : Text) (v : A) → AreDistinct es → slice_get es i ≡ Some (x, v) → lookup x es ≡ Some v
found_at [] i x v distinct at = absurd (cc)
found_at {A} (e ∷ es) zero x v distinct at =
    subst (λ (d : Text × A). lookup x (d ∷ es) ≡ Some v) (sym (same_Some e (x, v) at))
    (ap (λ b. if b then Some v else lookup x es) ((bytes_eq-Decides x x).1 refl))
found_at (e ∷ es) (suc i) x v distinct at =
    ap (λ b. if b then Some e.1 else lookup x es) (distinct 0 (suc i) e (x, v) (omega (arith)) refl at)
    ∙ found_at es i x v (fewer_distinct e es distinct) at
