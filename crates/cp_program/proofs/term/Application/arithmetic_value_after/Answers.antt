use Rattle.std.proofs.Common.{rules, ◌≡◌, ap, sym, ◌∙◌}
use Rattle.cp_model.specs.Abstract as operator
use Rattle.cp_model_program.specs.Terms as plain
use Rattle.cp_program.specs.Reaches.{view_with}
use Rattle.cp_program.specs.View as view
use Rattle.cp_program.proofs.Found.{add_local, add_member, after_known, before_known, found, kept, local_minus, member_minus, multiply_local, multiply_member, subtract_local, subtract_member, reported}
use Rattle.cp_program.proofs.term.Application.arithmetic_value_after.Goals as goal

pub returns-in_ok-fast_local-in-AddLocal : goal.returns-in_ok-fast_local-in-AddLocal
returns-in_ok-fast_local-in-AddLocal g c clock =
    let v = view_with c.args.memory.now c.args.shared.now clock in
    let n = c.in_ok-fast_local-in-AddLocal.field-0 in
    let known = reported _ n _ c.in_ok-fast_local-in-AddLocal.was (c.fast_local.ensures clock) in
    let left : kept c.args.left ≡ c.args.left = search rules in
    let right : kept n ≡ n = search rules in
    let whole = ap view.application c.in-AddLocal.is ∙ add_local c.in-AddLocal.at in
    found _ _ _ (sym (after_known v c.args.left n operator.Add (view.local c.in-AddLocal.at) _ whole known left right)) c.sum-in-AddLocal.ensures

pub returns-in_ok-fast_member-in-AddMember : goal.returns-in_ok-fast_member-in-AddMember
returns-in_ok-fast_member-in-AddMember g c clock =
    let v = view_with c.args.memory.now c.args.shared.now clock in
    let n = c.in_ok-fast_member-in-AddMember.field-0 in
    let known = reported _ n _ c.in_ok-fast_member-in-AddMember.was (c.fast_member.ensures clock) in
    let left : kept c.args.left ≡ c.args.left = search rules in
    let right : kept n ≡ n = search rules in
    let whole = ap view.application c.in-AddMember.is ∙ add_member c.in-AddMember.at in
    found _ _ _ (sym (after_known v c.args.left n operator.Add (view.member c.in-AddMember.at) _ whole known left right)) c.sum-in-AddMember.ensures

pub returns-in_ok-fast_local-in-SubtractLocal : goal.returns-in_ok-fast_local-in-SubtractLocal
returns-in_ok-fast_local-in-SubtractLocal g c clock =
    let v = view_with c.args.memory.now c.args.shared.now clock in
    let n = c.in_ok-fast_local-in-SubtractLocal.field-0 in
    let known = reported _ n _ c.in_ok-fast_local-in-SubtractLocal.was (c.fast_local-in-SubtractLocal.ensures clock) in
    let left : kept c.args.left ≡ c.args.left = search rules in
    let right : kept n ≡ n = search rules in
    let whole = ap view.application c.in-SubtractLocal.is ∙ subtract_local c.in-SubtractLocal.at in
    found _ _ _ (sym (after_known v c.args.left n operator.Subtract (view.local c.in-SubtractLocal.at) _ whole known left right)) c.difference-in-SubtractLocal.ensures

pub returns-in_ok-fast_member-in-SubtractMember : goal.returns-in_ok-fast_member-in-SubtractMember
returns-in_ok-fast_member-in-SubtractMember g c clock =
    let v = view_with c.args.memory.now c.args.shared.now clock in
    let n = c.in_ok-fast_member-in-SubtractMember.field-0 in
    let known = reported _ n _ c.in_ok-fast_member-in-SubtractMember.was (c.fast_member-in-SubtractMember.ensures clock) in
    let left : kept c.args.left ≡ c.args.left = search rules in
    let right : kept n ≡ n = search rules in
    let whole = ap view.application c.in-SubtractMember.is ∙ subtract_member c.in-SubtractMember.at in
    found _ _ _ (sym (after_known v c.args.left n operator.Subtract (view.member c.in-SubtractMember.at) _ whole known left right)) c.difference-in-SubtractMember.ensures

pub returns-in_ok-fast_local-in-MultiplyLocal : goal.returns-in_ok-fast_local-in-MultiplyLocal
returns-in_ok-fast_local-in-MultiplyLocal g c clock =
    let v = view_with c.args.memory.now c.args.shared.now clock in
    let n = c.in_ok-fast_local-in-MultiplyLocal.field-0 in
    let known = reported _ n _ c.in_ok-fast_local-in-MultiplyLocal.was (c.fast_local-in-MultiplyLocal.ensures clock) in
    let left : kept c.args.left ≡ c.args.left = search rules in
    let right : kept n ≡ n = search rules in
    let whole = ap view.application c.in-MultiplyLocal.is ∙ multiply_local c.in-MultiplyLocal.at in
    found _ _ _ (sym (after_known v c.args.left n operator.Multiply (view.local c.in-MultiplyLocal.at) _ whole known left right)) c.product-in-MultiplyLocal.ensures

pub returns-in_ok-fast_member-in-MultiplyMember : goal.returns-in_ok-fast_member-in-MultiplyMember
returns-in_ok-fast_member-in-MultiplyMember g c clock =
    let v = view_with c.args.memory.now c.args.shared.now clock in
    let n = c.in_ok-fast_member-in-MultiplyMember.field-0 in
    let known = reported _ n _ c.in_ok-fast_member-in-MultiplyMember.was (c.fast_member-in-MultiplyMember.ensures clock) in
    let left : kept c.args.left ≡ c.args.left = search rules in
    let right : kept n ≡ n = search rules in
    let whole = ap view.application c.in-MultiplyMember.is ∙ multiply_member c.in-MultiplyMember.at in
    found _ _ _ (sym (after_known v c.args.left n operator.Multiply (view.member c.in-MultiplyMember.at) _ whole known left right)) c.product-in-MultiplyMember.ensures

pub returns-in_ok-fast_local-in-LocalMinus : goal.returns-in_ok-fast_local-in-LocalMinus
returns-in_ok-fast_local-in-LocalMinus g c clock =
    let v = view_with c.args.memory.now c.args.shared.now clock in
    let n = c.in_ok-fast_local-in-LocalMinus.field-0 in
    let known = reported _ n _ c.in_ok-fast_local-in-LocalMinus.was (c.fast_local-in-LocalMinus.ensures clock) in
    let left : kept c.args.left ≡ c.args.left = search rules in
    let right : kept n ≡ n = search rules in
    let whole = ap view.application c.in-LocalMinus.is ∙ local_minus c.in-LocalMinus.at in
    found _ _ _ (sym (before_known v c.args.left n operator.Subtract (plain.Local c.in-LocalMinus.at) _ whole known left right)) c.difference-in-LocalMinus.ensures

pub returns-in_ok-fast_member-in-MemberMinus : goal.returns-in_ok-fast_member-in-MemberMinus
returns-in_ok-fast_member-in-MemberMinus g c clock =
    let v = view_with c.args.memory.now c.args.shared.now clock in
    let n = c.in_ok-fast_member-in-MemberMinus.field-0 in
    let known = reported _ n _ c.in_ok-fast_member-in-MemberMinus.was (c.fast_member-in-MemberMinus.ensures clock) in
    let left : kept c.args.left ≡ c.args.left = search rules in
    let right : kept n ≡ n = search rules in
    let whole = ap view.application c.in-MemberMinus.is ∙ member_minus c.in-MemberMinus.at in
    found _ _ _ (sym (before_known v c.args.left n operator.Subtract (plain.Member c.in-MemberMinus.at) _ whole known left right)) c.difference-in-MemberMinus.ensures
