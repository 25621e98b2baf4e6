use Rattle.std.proofs.Common.{◌≡◌, ◌∷◌, ◌+◌, ◌∙◌, Bool, List, [], true, false, ap, drop, filter, map, not, refl, subst, sym, if◌then◌else◌}
use Rattle.std.proofs.lemmas.List.{at_drop_more, drop_all}
use Rattle.cp_model.specs.Abstract.{Name}
use Rattle.cp_model.specs.Declarations.{Variable, declared_group, is_component, members_from}
use Rattle.cp_model.specs.Erase as erase
use Rattle.cp_model.specs.Types.{Members, ResolvedType, with_members}
use Rattle.cp_model.specs.declared.tree.Parameters.{Parameters}
use Rattle.cp_compile_symbols.specs.Representing.{AreMembers, entry, name_type, with_parameter, with_parameters}
use Rattle.cp_compile_symbols.proofs.Groups.{ParametersAdded, all_added, none_added, one_added}
use Rattle.cp_compile_symbols.proofs.types.Types.add_parameters.Goals as goal

abbrev own : List (Name × Variable) → List (Name × Variable)
own vs = filter (λ v. not (is_component v.1.type)) vs

-- The first group, before the others.
group_first : (r b : Bool) (t : ResolvedType) → is_component t ≡ b → (xs : List Name) (vs : List (Name × Variable)) (ms : Members)
    → members_from (own (declared_group r t xs vs)) ms ≡ (if b then members_from (own vs) ms else with_members xs t (members_from (own vs) ms))
group_first r true t is [] vs ms = refl
group_first r false t is [] vs ms = refl
group_first r true t is (x ∷ xs) vs ms = rw is (group_first r true t is xs vs ms)
group_first r false t is (x ∷ xs) vs ms = rw is (rw (group_first r false t is xs vs ms) refl)

pub loop-group-init : goal.loop-group-init
loop-group-init c =
    ([], none_added AreMembers with_parameters c.args.names.now c.args.self.now (map entry c.args.members.now.items) c.args.groups.now)

pub loop-group-preserved : goal.loop-group-preserved
loop-group-preserved c =
    let all = c.args.groups.now in
    let i = c.loop-group.group-index in
    let p = c.group-item.result in
    let rest = drop (i + 1) all in
    let names = c.args.names.now in
    let before = map entry c.args.members.now.items in
    let now = map entry c.loop-group.members.items in
    let step : drop i all ≡ p ∷ rest =
    at_drop_more (λ (ps : List Parameters). ps) all i p c.loop-group-test.true ∙ ap (λ (q : Parameters). q ∷ rest) (sym c.group-item.is) in
    let some = subst (ParametersAdded names c.args.self.now c.loop-group.self before now c.loop-group.invariant.0 all) step c.loop-group.invariant.1 in (
      _,
      one_added AreMembers with_parameters names c.args.self.now c.loop-group.self c.add_parameter.new.self before now (map entry c.add_parameter.new.members.items)
          c.loop-group.invariant.0 all rest p (with_parameter p)
          (λ g ms. group_first _ (is_component (name_type p.of.name g)) (name_type p.of.name g) refl (map erase.name p.names.items) _ ms)
          some c.in_ok-add_parameter.ensures,
    )

pub returns : goal.returns
returns c =
    let all = c.args.groups.now in
    all_added AreMembers with_parameters c.args.names.now c.args.self.now c.loop-group.self (map entry c.args.members.now.items) (map entry c.loop-group.members.items)
    c.loop-group.invariant.0 all (drop c.loop-group.group-index all) (drop_all c.loop-group.group-index all c.loop-group-test.false) (λ g ms. refl)
    c.loop-group.invariant.1
