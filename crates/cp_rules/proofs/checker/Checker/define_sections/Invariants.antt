use Rattle.std.proofs.Common.{◌≡◌, drop, map}
use Rattle.cp_model.specs.View as view
use Rattle.cp_rules.specs.Checking.{after}
use Rattle.cp_rules.specs.Definitions.{define_sections}
use Rattle.cp_rules.proofs.checker.Checker.define_sections.Given as goal

-- the rest of the sections leads to the same end as all of them
abbrev pub invariant-loop-section : goal.invariant-loop-section
invariant-loop-section l =
    let now = l.self in
    let before = l.fn.self in
    after now (define_sections now.env (map view.section_of (drop l.section-index l.sections))) ≡ after before (define_sections before.env (map view.section_of l.fn.sections))
