use Rattle.std.proofs.Common.{◌≡◌, ◌+◌, ◌<◌, ◌++◌, [], suc, drop, length, map, subst, arith}
use Rattle.cp_model_machine.specs.Reports.{visit_members}
use Rattle.cp_compile_symbols.specs.Representing.{entry}
use Rattle.cp_inspect.specs.Sinks.{held_by, visit_into}
use Rattle.cp_inspect.proofs.MembersReported.{MembersToReport, drop_first, one_reported}
use Rattle.cp_inspect.proofs.walk.Walk.members.Goals as goal

pub loop-member-preserved : goal.loop-member-preserved
loop-member-preserved c =
    λ s g ms scope represent.
    let xs = c.args.members.now in
    let i = c.loop-member.member-index in
    let v = visit_into s c.args.walk_output.now in
    let held = held_by s c.loop-member.self c.loop-member.out.items in
    let after = held_by s c.variable.new.self c.variable.new.out.items in
    let text = held_by s c.args.self.now c.args.out.now.items ++ visit_members g v [] c.args.self.now.at ms in
    let below : i < length xs = c.loop-member-test.true in
    let next : suc i ≡ i + 1 = omega arith in
    subst (λ n. MembersToReport g v c.args.tables.now.types (map entry (drop n xs)) c.variable.new.self.at after text) next
    (one_reported g v c.args.tables.now _ _ (map entry (drop (suc i) xs)) c.loop-member.self.at c.variable.new.self.at held after text scope
    (subst (λ es. MembersToReport g v c.args.tables.now.types es c.loop-member.self.at held text) (drop_first entry xs i _ below) (c.loop-member.invariant s g ms scope represent))
    (c.in_ok-variable.ensures s))
