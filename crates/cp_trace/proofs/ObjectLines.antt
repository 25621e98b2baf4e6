-- Lines of objects, joined.
use Rattle.std.proofs.Common.{◌≡◌, ◌++◌, ◌∷◌, ◌∙◌, [], List, ℕ, ap, append-nil, append_assoc, refl, sym}
use Rattle.std.specs.List.{concat}
use Rattle.std.proofs.lemmas.List.Elements.{All-append, All-cons, All-nil}
use Rattle.std.proofs.lemmas.List.Folds.{concat-append}
use Rattle.cp_output.specs.Json.{IsJsonLine}
use Rattle.cp_trace.specs.Reporting.{Adds, AreObjects}

pub no_objects : AreObjects []
no_objects = ([], refl, All-nil IsJsonLine)

one_object : (a : List ℕ) → IsJsonLine a → AreObjects a
one_object a is = (a ∷ [], sym (append-nil a), All-cons IsJsonLine a [] is (All-nil IsJsonLine))

pub objects_joined : (a b : List ℕ) → AreObjects a → AreObjects b → AreObjects (a ++ b)
objects_joined a b p q = (
  p.0 ++ q.0,
  ap (λ (xs : List ℕ). xs ++ b) p.1 ∙ ap (λ (xs : List ℕ). concat p.0 ++ xs) q.1 ∙ sym (concat-append p.0 q.0),
  All-append IsJsonLine p.0 q.0 p.2 q.2,
)

-- ---- The buffer

pub nothing_added : (a : List ℕ) → Adds AreObjects a a
nothing_added a = ([], sym (append-nil a), no_objects)

pub line_added : (a b line : List ℕ) → b ≡ a ++ line → IsJsonLine line → Adds AreObjects a b
line_added a b line added is = (line, added, one_object line is)

pub more_added : (a b c : List ℕ) → Adds AreObjects a b → Adds AreObjects b c → Adds AreObjects a c
more_added a b c p q =
    (p.0 ++ q.0, q.1 ∙ ap (λ (xs : List ℕ). xs ++ q.0) p.1 ∙ append_assoc a p.0 q.0, objects_joined p.0 q.0 p.2 q.2)
