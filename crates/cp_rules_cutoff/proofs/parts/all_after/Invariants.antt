use Rattle.std.proofs.Common.{◌≡◌, drop, map}
use Rattle.cp_rules_cutoff.specs.After.{all_after}
use Rattle.cp_rules_cutoff.proofs.parts.all_after.Given as goal

-- what is left of the parts decides
abbrev pub invariant-loop-part : goal.invariant-loop-part
invariant-loop-part g l =
    all_after (g.X.Part.after l.place) (map g.X.Part.view (drop l.part-index l.parts))
    ≡ all_after (g.X.Part.after l.fn.place) (map g.X.Part.view l.fn.parts)
