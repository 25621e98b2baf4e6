use Rattle.std.proofs.Common.{◌≡◌, ◌++◌, map, length, ap, sym, ◌∙◌}
use Rattle.cp_model.specs.declared.rules.Mode.TheVariants as mode
use Rattle.cp_model.specs.RulesJudged.{violations_of}
use Rattle.cp_model.specs.RulesNames as n
use Rattle.cp_model.specs.RulesStatements as st
use Rattle.cp_model.specs.View.{expression, expressions_of}
use Rattle.cp_rules_body.specs.InitParts as parts
use Rattle.cp_rules_body.proofs.ExpressionsReported.{count_expressions}
use Rattle.cp_rules_body.proofs.InitReported.{parameters_reported}
use Rattle.cp_rules_body.proofs.Reports.{more_reported}
use Rattle.cp_rules_body.proofs.initialisation.item.Goals as goal

pub returns : goal.returns
returns c =
    let env = c.args.env.now in
    let x = c.args.item.now.component in
    let list = c.args.item.now.arguments.items in
    let es = expressions_of (map expression list) in
    let count : c.len.result ≡ n.count_of es = c.len.ensures ∙ sym c.deref.ensures.len ∙ ap length c.deref.ensures.value ∙ sym (count_expressions list) in
    let j = parts.component env x (n.count_of es) in
    let diagnostics = rw count at c.item_component-system.ensures.diagnostics in
    let ps = parameters_reported env c.item_component-system.result (parts.system env x) c.item_component-system.ensures.system in
    let rest = rw (ps, c.deref.ensures.value) at c.arguments.ensures in
    let arguments = st.init_arguments env (st.parameters_in env (parts.system env x)) es in
    let named = n.c8_named env mode.Value x in
    more_reported c.args.diagnostics.now c.item_component-system.new.diagnostics c.arguments.new.diagnostics (named ++ violations_of j) arguments diagnostics rest
