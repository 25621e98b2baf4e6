use Rattle.std.proofs.Common.{◌≡◌, ◌∙◌, ◌++◌, List, [], ap, map, subst, sym}
use Rattle.std.proofs.lemmas.List.{append-nil}
use Rattle.cp_model.specs.Declarations.{declarations, members_from}
use Rattle.cp_model.specs.Types.{NoMembers}
use Rattle.cp_compile_symbols.specs.declared.types.Field.{Field}
use Rattle.cp_compile_symbols.specs.Representing.{AreMembers, entry}
use Rattle.cp_compile_emit.specs.Drafts.{plan_of}
use Rattle.cp_compile_emit.specs.Members.{member_of}
use Rattle.cp_compile_emit.specs.Planning.{known_of, types_of}
use Rattle.cp_compile_emit.proofs.Membership.{declared_members, routine_planned}
use Rattle.cp_compile_emit.proofs.plan.Planner.routine.Goals as goal

pub returns : goal.returns
returns c = λ g r knows parameters variables is.
    let types = types_of c.args.self.now in
    let members = c.add_members.new.members.items in
    let vs = declarations g r.variables in
    let all : map entry members ≡ map member_of c.args.variables.now ++ [] =
    c.in_ok-add_members.ensures
    ∙ (ap (λ (fs : List Field). map entry fs ++ map member_of c.args.variables.now) c.new-members.ensures.items
    ∙ sym (append-nil (map member_of c.args.variables.now))) in
    let represent : AreMembers types (map entry members) (members_from vs NoMembers) =
    subst (λ fs. AreMembers types fs (members_from vs NoMembers)) (sym all) (declared_members types c.args.variables.now vs [] NoMembers variables tt) in
    let plan = rw c.deref.ensures.value at c.in_ok-draft.ensures in
    let known = known_of c.args.self.now in
    c.into_starts.ensures known
    ∙ routine_planned g r c.args.is_function c.result_words.result c.in_ok-first.first (plan_of known c.in_ok-draft.draft) (plan_of known c.mark_result.new.draft) is
    c.result_words.ensures (c.in_ok-first.ensures g (declarations g r.parameters) knows parameters)
    (plan g (members_from vs NoMembers) knows represent) (c.in_ok-mark_result.ensures known)
