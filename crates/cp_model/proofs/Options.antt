-- What a present value says of another.
use Rattle.std.proofs.Common.{◌≡◌, None, Some, ap}

pub same_some : {A : Type 0} (x y : A) → Some x ≡ Some y → x ≡ y
same_some x y h = ap (λ o. elim o [ None ↦ x | Some z ↦ z ]) h
