use Rattle.std.proofs.Common.{◌≡◌, ◌-◌, length, pos, rules, ap, ◌∙◌}
use Rattle.std.proofs.lemmas.Result.{on_ok_weaker}
use Rattle.cp_model.specs.RulesEnvironment.{simple_row}
use Rattle.cp_model.specs.RulesTypes.{add_type}
use Rattle.cp_rules.specs.Checking.{State}
use Rattle.cp_rules.proofs.Defining.{enumeration_defined}
use Rattle.cp_rules.proofs.checker.Checker.define_enumeration.Goals as goal

pub returns : goal.returns
returns c =
    let old = c.args.self.now in
    let t = c.type_count-t.result in
    let number : t ≡ length old.env.types = search rules in
    let made : c.add_type.new.self ≡ record old { env = add_type old.env (simple_row t (pos 0) (pos (length c.args.names.now - 1))) } =
    c.in_ok-add_type.ensures.1
    ∙ ap (λ row. let st : State = record old { env = add_type old.env row } in st)
    c.in_ok-row.ensures in
    on_ok_weaker c.declare_values.result
    (λ valued. enumeration_defined old c.add_type.new.self c.declare.new.self c.declare_values.new.self
    c.args.name.now c.args.names.now t number made c.in_ok-declare.ensures valued)
    c.declare_values.ensures
