use Rattle.std.proofs.Common.{◌≡◌, ◌+◌, ◌<◌, ◌++◌, [], suc, drop, length, map, subst, arith}
use Rattle.cp_model_machine.specs.Reports.{visit_members}
use Rattle.cp_inspect.specs.Lists.{declared_member}
use Rattle.cp_inspect.specs.Sinks.{held_by, visit_into}
use Rattle.cp_inspect.proofs.MembersReported.{MembersToReport, drop_first, one_reported}
use Rattle.cp_inspect.proofs.walk.Walk.variables.Goals as goal

pub loop-declared-preserved : goal.loop-declared-preserved
loop-declared-preserved c =
    λ s g ms scope represent.
    let xs = c.args.variables.now in
    let i = c.loop-declared.declared-index in
    let v = visit_into s c.args.walk_output.now in
    let held = held_by s c.loop-declared.self c.loop-declared.out.items in
    let after = held_by s c.variable.new.self c.variable.new.out.items in
    let text = held_by s c.args.self.now c.args.out.now.items ++ visit_members g v [] c.args.self.now.at ms in
    let below : i < length xs = c.loop-declared-test.true in
    let next : suc i ≡ i + 1 = omega arith in
    subst (λ n. MembersToReport g v c.args.tables.now.types (map declared_member (drop n xs)) c.variable.new.self.at after text) next
    (one_reported g v c.args.tables.now _ _ (map declared_member (drop (suc i) xs)) c.loop-declared.self.at c.variable.new.self.at held after text scope
    (subst (λ es. MembersToReport g v c.args.tables.now.types es c.loop-declared.self.at held text) (drop_first declared_member xs i _ below) (c.loop-declared.invariant s g ms scope represent))
    (c.in_ok-variable.ensures s))
