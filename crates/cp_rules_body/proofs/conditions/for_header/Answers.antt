use Rattle.std.proofs.Common.{◌++◌}
use Rattle.cp_model.specs.RulesJudged.{violations_of}
use Rattle.cp_model.specs.RulesStatements as st
use Rattle.cp_model.specs.View.{expression}
use Rattle.cp_rules_body.proofs.Reports.{more_reported}
use Rattle.cp_rules_body.proofs.conditions.for_header.Goals as goal

pub returns : goal.returns
returns c =
    let env = c.args.env.now in
    let j = st.for_variable env c.args.name.now in
    let first = violations_of (st.bound env j (expression c.args.from.now)) in
    let last = violations_of (st.bound env j (expression c.args.last.now)) in
    let known = c.for_variable-t.ensures in
    more_reported c.args.diagnostics.now c.bound.new.diagnostics c.bound-2.new.diagnostics (violations_of j ++ first) last
    (more_reported c.args.diagnostics.now c.for_variable-t.new.diagnostics c.bound.new.diagnostics (violations_of j) first known.0 (c.bound.ensures j known.1).0) (c.bound-2.ensures j known.1).0
