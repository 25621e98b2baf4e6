-- The first violation stays the first if more are added after it, and is that of an object.
use Rattle.std.proofs.Common.{◌≡◌, ◌∙◌, ◌++◌, List, ap, subst, sym, ℕ}
use Rattle.cp_frontend.specs.declared.refusal.Refusal.{Refusal}
use Rattle.cp_explain.specs.Objects.{FirstIs, IsRefusalLine}
use Rattle.cp_explain.specs.Values.{line_of, refusal_value}
use Rattle.cp_explain.specs.declared.refusal_objects.Mark.{Mark}
use Rattle.cp_explain.specs.declared.refusal_objects.RefusalObject.{RefusalObject}
use Rattle.cp_explain.specs.declared.refusal_objects.ViolationObject.{ViolationObject}

pub first_kept : (text : List ℕ) (e : Refusal) (old new added : List ViolationObject) → FirstIs text e old → new ≡ old ++ added → FirstIs text e new
first_kept text e old new added first grown = (first.0, first.1 ++ added, grown ∙ ap (λ (vs : List ViolationObject). vs ++ added) first.2, first.3)

pub refusal_page : (m : Mark) (text : List ℕ) (e : Refusal) (o : RefusalObject) (vs : List ViolationObject) (page : List ℕ)
    → o.mark ≡ m → o.violations.items ≡ vs → FirstIs text e vs → page ≡ line_of (refusal_value o) → IsRefusalLine m text e page
refusal_page m text e o vs page marked same first line = (o, marked, subst (λ (us : List ViolationObject). FirstIs text e us) (sym same) first, line)
