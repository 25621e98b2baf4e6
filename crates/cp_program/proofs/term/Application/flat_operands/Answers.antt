use Rattle.std.proofs.Common.{rules, ◌≡◌, ap, ◌∙◌}
use Rattle.cp_model.specs.Erase.{operator_of}
use Rattle.cp_model_program.specs.Terms as plain
use Rattle.cp_program.specs.Reaches.{view_with}
use Rattle.cp_program.specs.View as view
use Rattle.cp_program.proofs.Found.{after_known, before_known, kept, local_before, member_before, reported, with_local, with_member}
use Rattle.cp_program.proofs.term.Application.flat_operands.Goals as goal

pub returns-in_ok-fast_local-in-WithLocal : goal.returns-in_ok-fast_local-in-WithLocal
returns-in_ok-fast_local-in-WithLocal g c clock =
    let v = view_with c.args.memory.now c.args.shared.now clock in
    let n = c.in_ok-fast_local-in-WithLocal.field-0 in
    let known = reported _ n _ c.in_ok-fast_local-in-WithLocal.was (c.fast_local.ensures clock) in
    let left : kept c.args.left ≡ c.args.left = search rules in
    let right : kept n ≡ n = search rules in
    after_known v c.args.left n (operator_of c.in-WithLocal.operator) (view.local c.in-WithLocal.at) _
    (ap view.application c.in-WithLocal.is ∙ with_local c.in-WithLocal.operator c.in-WithLocal.at) known left right

pub returns-in_ok-fast_member-in-WithMember : goal.returns-in_ok-fast_member-in-WithMember
returns-in_ok-fast_member-in-WithMember g c clock =
    let v = view_with c.args.memory.now c.args.shared.now clock in
    let n = c.in_ok-fast_member-in-WithMember.field-0 in
    let known = reported _ n _ c.in_ok-fast_member-in-WithMember.was (c.fast_member.ensures clock) in
    let left : kept c.args.left ≡ c.args.left = search rules in
    let right : kept n ≡ n = search rules in
    after_known v c.args.left n (operator_of c.in-WithMember.operator) (view.member c.in-WithMember.at) _
    (ap view.application c.in-WithMember.is ∙ with_member c.in-WithMember.operator c.in-WithMember.at) known left right

pub returns-in_ok-fast_local-in-LocalBefore : goal.returns-in_ok-fast_local-in-LocalBefore
returns-in_ok-fast_local-in-LocalBefore g c clock =
    let v = view_with c.args.memory.now c.args.shared.now clock in
    let n = c.in_ok-fast_local-in-LocalBefore.field-0 in
    let known = reported _ n _ c.in_ok-fast_local-in-LocalBefore.was (c.fast_local-in-LocalBefore.ensures clock) in
    let left : kept c.args.left ≡ c.args.left = search rules in
    let right : kept n ≡ n = search rules in
    before_known v c.args.left n (operator_of c.in-LocalBefore.operator) (plain.Local c.in-LocalBefore.at) _
    (ap view.application c.in-LocalBefore.is ∙ local_before c.in-LocalBefore.operator c.in-LocalBefore.at) known left right

pub returns-in_ok-fast_member-in-MemberBefore : goal.returns-in_ok-fast_member-in-MemberBefore
returns-in_ok-fast_member-in-MemberBefore g c clock =
    let v = view_with c.args.memory.now c.args.shared.now clock in
    let n = c.in_ok-fast_member-in-MemberBefore.field-0 in
    let known = reported _ n _ c.in_ok-fast_member-in-MemberBefore.was (c.fast_member-in-MemberBefore.ensures clock) in
    let left : kept c.args.left ≡ c.args.left = search rules in
    let right : kept n ≡ n = search rules in
    before_known v c.args.left n (operator_of c.in-MemberBefore.operator) (plain.Member c.in-MemberBefore.at) _
    (ap view.application c.in-MemberBefore.is ∙ member_before c.in-MemberBefore.operator c.in-MemberBefore.at) known left right
