use Rattle.std.proofs.Common.{◌≡◌, [], drop, map}
use Rattle.cp_model.specs.View as view
use Rattle.cp_rules.specs.Endings.{rest_from, reported_with, whole}
use Rattle.cp_rules.proofs.checker.Checker.define_until_broken.Given as goal

-- with the rest of the sections as much is reported as with all of them
abbrev pub invariant-loop-i : goal.invariant-loop-i
invariant-loop-i l =
    reported_with l.self (rest_from (view.tree l.tree) [] (map view.section_of (drop l.i l.tree.sections.items)))
    ≡ reported_with l.fn.self (whole (view.tree l.fn.tree))
