-- Conjunctions in other groups.
use Rattle.std.proofs.Common.{◌≡◌, ◌&&◌, Bool, false, refl, true}

pub grouped : (a b c : Bool) → (a && b && c) ≡ (a && (b && c))
grouped true b c = refl
grouped false b c = refl

pub and_true : (a : Bool) → a ≡ (a && true)
and_true true = refl
and_true false = refl
