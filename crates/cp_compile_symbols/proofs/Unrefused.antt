-- An option that is or isn't there.
use Rattle.std.proofs.Common.{◌≡◌, Option, None, Some, true, false, is_some, refl}

pub none_if_not_some : {A : Type 0} (o : Option A) → is_some o ≡ false → o ≡ None
none_if_not_some None h = refl
none_if_not_some (Some x) h = absurd (cc)

pub some_if_some : {A : Type 0} (o : Option A) → is_some o ≡ true → (x : A) × (o ≡ Some x)
some_if_some None h = absurd (cc)
some_if_some (Some x) h = (x, refl)
