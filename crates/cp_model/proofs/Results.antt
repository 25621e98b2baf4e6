-- What follows from what a clause says of a result.
use Rattle.std.specs.Prelude.{◌≡◌, false}
use Rattle.std.proofs.Common.{arith, Result, Ok, Err, IfErr, IfOk, OnErr}
use Rattle.std.specs.Result.{is_err}

pub from_ok : {T E : Type 0} {Q : Type 0} (r : Result T E) → is_err r ≡ false → IfOk r (λ x. Q) → Q
from_ok (Ok x) e h = h
from_ok (Err x) e h = absurd (Prim.grind (arith, e))

pub if_ok : {T E : Type 0} {Q P : T → Type 0} (r : Result T E) → ((x : T) → Q x → P x) → IfOk r Q → IfOk r P
if_ok (Ok x) f h = f x h
if_ok (Err e) f h = h

pub if_err : {T E : Type 0} {Q P : E → Type 0} (r : Result T E) → ((e : E) → Q e → P e) → IfErr r Q → IfErr r P
if_err (Ok x) f h = h
if_err (Err e) f h = f e h

pub on_err : {T E A : Type 0} {P : E → Type 0} (r : Result T E) → ((e : E) → A → P e) → OnErr r A → IfErr r P
on_err (Ok x) f h = h
on_err (Err e) f h = f e h

pub either : {T E : Type 0} {A : Type 0} (r : Result T E) → IfOk r (λ x. A) → IfErr r (λ e. A) → A
either (Ok x) h g = h
either (Err e) h g = g
