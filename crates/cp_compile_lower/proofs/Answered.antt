-- What several clauses say about a result.
use Rattle.std.proofs.Common.{Result, Ok, Err, IfOk, OnOk}

pub both_ok : {A E Q : Type 0} {P R : A → Type 0} (r : Result A E) → ((x : A) → P x → Q → R x) → IfOk r P → OnOk r Q → IfOk r R
both_ok (Ok x) f p q = f x p q
both_ok (Err e) f p q = p

pub all_ok : {A E Q : Type 0} {P O R : A → Type 0} (r : Result A E) → ((x : A) → P x → O x → Q → R x) → IfOk r P → IfOk r O → OnOk r Q → IfOk r R
all_ok (Ok x) f p o q = f x p o q
all_ok (Err e) f p o q = p
