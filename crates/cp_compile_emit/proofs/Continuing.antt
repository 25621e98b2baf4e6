-- Origins are added behind those that are there.
use Rattle.std.proofs.Common.{◌++◌, ◌∷◌, ◌∙◌, ℕ, List, [], ap, append_assoc, sym}
use Rattle.std.proofs.lemmas.List.{append-nil}
use Rattle.cp_compile_emit.specs.Emission.{Continues}

pub continues_itself : (xs : List ℕ) → Continues xs xs
continues_itself xs = ([], sym (append-nil xs))

pub continues_more : (xs ys zs : List ℕ) → Continues xs ys → Continues ys zs → Continues xs zs
continues_more xs ys zs one two = (one.0 ++ two.0, two.1 ∙ ap (λ os. os ++ two.0) one.1 ∙ append_assoc xs one.0 two.0)

pub continues_after : (xs : List ℕ) (at : ℕ) (ys : List ℕ) → Continues (xs ++ at ∷ []) ys → Continues xs ys
continues_after xs at ys more = (at ∷ more.0, more.1 ∙ append_assoc xs (at ∷ []) more.0)
