use Rattle.std.proofs.Common.{◌≡◌, ◌∷◌, ◌+◌, ◌∙◌, List, [], ap, drop, map, refl, subst, sym}
use Rattle.std.proofs.lemmas.List.{at_drop_more, drop_all}
use Rattle.cp_model.specs.declared.tree.Parameters.{Parameters}
use Rattle.cp_compile_symbols.specs.Variables.{AreDeclared, declared_entry, with_declared_parameter, with_declared_parameters}
use Rattle.cp_compile_symbols.proofs.Groups.{Added, all_added, none_added, one_added}
use Rattle.cp_compile_symbols.proofs.types.Types.declare_parameters.Goals as goal

pub loop-group-init : goal.loop-group-init
loop-group-init c =
    ([], none_added AreDeclared with_declared_parameters c.args.names.now c.args.self.now (map declared_entry c.args.list.now.items) c.args.groups.now)

pub loop-group-preserved : goal.loop-group-preserved
loop-group-preserved c =
    let all = c.args.groups.now in
    let i = c.loop-group.group-index in
    let p = c.group-item.result in
    let rest = drop (i + 1) all in
    let names = c.args.names.now in
    let before = map declared_entry c.args.list.now.items in
    let now = map declared_entry c.loop-group.list.items in
    let step : drop i all ≡ p ∷ rest =
    at_drop_more (λ (ps : List Parameters). ps) all i p c.loop-group-test.true ∙ ap (λ (q : Parameters). q ∷ rest) (sym c.group-item.is) in
    let some = subst (Added AreDeclared with_declared_parameters names c.args.self.now c.loop-group.self before now c.loop-group.invariant.0 all) step c.loop-group.invariant.1 in (
      _,
      one_added AreDeclared with_declared_parameters names c.args.self.now c.loop-group.self c.declare_parameter.new.self before now
          (map declared_entry c.declare_parameter.new.list.items) c.loop-group.invariant.0 all rest p (with_declared_parameter p) (λ g vs. refl) some c.in_ok-declare_parameter.ensures,
    )

pub returns : goal.returns
returns c =
    let all = c.args.groups.now in
    all_added AreDeclared with_declared_parameters c.args.names.now c.args.self.now c.loop-group.self (map declared_entry c.args.list.now.items)
    (map declared_entry c.loop-group.list.items) c.loop-group.invariant.0 all (drop c.loop-group.group-index all)
    (drop_all c.loop-group.group-index all c.loop-group-test.false) (λ g vs. refl) c.loop-group.invariant.1
