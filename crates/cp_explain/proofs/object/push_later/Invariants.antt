use Rattle.cp_frontend.specs.declared.refusal.Refusal.{Refusal}
use Rattle.cp_explain.specs.Objects.{FirstIs}
use Rattle.cp_explain.proofs.object.push_later.Given as goal

abbrev pub invariant-loop-mistake : goal.invariant-loop-mistake
invariant-loop-mistake l = (e : Refusal) → FirstIs l.text e l.fn.all.items → FirstIs l.text e l.all.items
