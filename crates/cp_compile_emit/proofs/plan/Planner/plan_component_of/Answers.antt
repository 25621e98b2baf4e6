use Rattle.std.proofs.Common.{rules, ◌≡◌, ◌∙◌, ◌++◌, ◌-◌, suc, List, [], ap, arith, length, map, subst, sym, true}
use Rattle.std.proofs.lemmas.List.{append-nil}
use Rattle.cp_model.specs.Declarations.{declarations, members_from, reported_members}
use Rattle.cp_model.specs.Types.{NoMembers}
use Rattle.cp_model.proofs.Results.{if_ok}
use Rattle.cp_model_program.specs.Layout.{head_words}
use Rattle.cp_model_program.specs.Plans.{placed, plan_of_parts}
use Rattle.cp_compile_symbols.specs.declared.types.Field.{Field}
use Rattle.cp_compile_symbols.specs.declared.variables.Declared.{Declared}
use Rattle.cp_compile_symbols.specs.Representing.{AreMembers, entry}
use Rattle.cp_compile_emit.specs.Members.{member_of, own_of}
use Rattle.cp_compile_emit.specs.Planning.{types_of}
use Rattle.cp_compile_emit.proofs.Membership.{declared_members, own_declared, own_variables, rights_counted}
use Rattle.cp_compile_emit.proofs.plan.Planner.plan_component_of.Goals as goal

pub returns : goal.returns
returns c = if_ok c.plan_members.result (λ draft made g s knows parameters variables.
    let plan = rw c.deref-2.ensures.value at made in
    let types = types_of c.args.self.now in
    let members = c.add_members-2.new.members.items in
    let own = own_of types c.args.parameters.now in
    let ps = declarations g s.parameters in
    let vs = declarations g s.variables in
    let last = map member_of c.args.variables.now in
    let kept : c.deref.result.now ≡ own = c.deref.ensures.value ∙ c.in_ok-own.ensures in
    let all : map entry members ≡ map member_of own ++ (last ++ []) =
    c.in_ok-add_members-2.ensures
    ∙ (ap (λ fs. fs ++ last)
    (c.in_ok-add_members.ensures
    ∙ (ap (λ (fs : List Field). map entry fs ++ map member_of c.deref.result.now) c.new-members.ensures.items
    ∙ ap (λ (ds : List Declared). map member_of ds) kept))
    ∙ ap (λ fs. map member_of own ++ fs) (sym (append-nil last))) in
    let inner = declared_members types c.args.variables.now vs [] NoMembers variables tt in
    let whole = declared_members types own (own_variables ps) (last ++ []) (members_from vs NoMembers) (own_declared types c.args.parameters.now ps parameters) inner in
    let represent : AreMembers types (map entry members) (reported_members g s) =
    subst (λ fs. AreMembers types fs (reported_members g s)) (sym all) whole in
    let counted = rights_counted types c.args.parameters.now ps parameters in
    let listed : c.in_ok-head.head ≡ suc (length c.args.parameters.now - length c.in_ok-own.own.items) = search rules in
    let many = ap length c.in_ok-own.ensures in
    let head : c.in_ok-head.head ≡ head_words g s = omega (arith, counted, listed, many) in
    plan g (reported_members g s) knows represent ∙ ap (λ n. plan_of_parts (placed true g (reported_members g s) n)) head)
    c.plan_members.ensures
