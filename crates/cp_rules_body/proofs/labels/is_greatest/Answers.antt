use Rattle.std.proofs.Common.{◌≡◌, of_z, rules, to_z, w32}
use Rattle.cp_rules_body.proofs.LabelsReported.{greatest}
use Rattle.cp_rules_body.proofs.labels.is_greatest.Goals as goal

ordinal_is : (c : goal.After-result-1) → to_z w32 (of_z w32 c.args.ordinal) ≡ c.args.ordinal
ordinal_is c = search rules

last_is : (c : goal.After-result-1) → to_z w32 (of_z w32 c.in-Some.last.now) ≡ c.in-Some.last.now
last_is c = search rules

pub returns-in-Some : goal.returns-in-Some
returns-in-Some c sorted =
    let item = c.in-Some.ensures.item.3 in
    rw (ordinal_is c, last_is c) (greatest c.args.ascending.now c.in-Some.last.now c.args.ordinal item.0 item.1 sorted)
