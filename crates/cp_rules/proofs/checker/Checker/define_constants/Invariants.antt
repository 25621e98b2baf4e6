use Rattle.std.proofs.Common.{◌≡◌, drop}
use Rattle.cp_rules.specs.Checking.{after}
use Rattle.cp_rules.specs.Definitions.{define_constants}
use Rattle.cp_rules.proofs.checker.Checker.define_constants.Given as goal

-- the rest of the definitions leads to the same end as all of them
abbrev pub invariant-loop-d : goal.invariant-loop-d
invariant-loop-d l =
    let now = l.self in
    let before = l.fn.self in
    after now (define_constants now.env (drop l.d-index l.list)) ≡ after before (define_constants before.env l.fn.list)
