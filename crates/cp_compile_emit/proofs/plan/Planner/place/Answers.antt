use Rattle.std.proofs.Common.{rules, ◌≡◌, ◌∷◌, ◌+◌, List, drop, get_or, map, subst}
use Rattle.std.proofs.lemmas.List.{at_drop_all, at_drop_more}
use Rattle.cp_compile_symbols.specs.declared.types.Field.{Field}
use Rattle.cp_compile_symbols.specs.Representing.{entry}
use Rattle.cp_compile_emit.specs.Planning.{known_of, types_of}
use Rattle.cp_compile_emit.proofs.PartsPlanned.{PartlyPlaced, all_placed, none_placed, nothing, one_placed}
use Rattle.cp_compile_emit.proofs.plan.Planner.place.Goals as goal

pub loop-member-init : goal.loop-member-init
loop-member-init c = λ g ms knows represent.
    none_placed c.args.zeros g (types_of c.args.self.now) (known_of c.args.self.now) ms c.args.at (map entry c.args.members.now) c.in_ok-parts.parts.items
    c.in_ok-parts.ensures.items represent

pub loop-member-preserved : goal.loop-member-preserved
loop-member-preserved c = λ g ms knows represent.
    let types = types_of c.args.self.now in
    let known = known_of c.args.self.now in
    let all = c.args.members.now in
    let i = c.loop-member.member-index in
    let f = get_or all i nothing in
    let now = c.loop-member.next in
    let rest = map entry (drop (i + 1) all) in
    let step : map entry (drop i all) ≡ entry f ∷ rest = at_drop_more (λ (fs : List Field). map entry fs) all i nothing c.loop-member-test.true in
    let some =
    subst (λ fs. PartlyPlaced c.args.zeros g types known ms c.args.at now fs c.loop-member.parts.items) step (c.loop-member.invariant g ms knows represent) in
    let sum : c.in_ok-next.next ≡ now + c.in_ok-size.size = search rules in
    one_placed c.args.zeros g types known ms c.args.at now c.in_ok-next.next c.in_ok-size.size c.in_ok-plan.plan (entry f) rest c.loop-member.parts.items c.push.new.self.items
    c.in_ok-push.ensures.items sum (λ t represents. c.in_ok-size.ensures g t knows represents) (λ t represents. c.in_ok-plan.ensures g t knows represents) some

pub returns : goal.returns
returns c = λ g ms knows represent.
    let left = map entry (drop c.loop-member.member-index c.args.members.now) in
    all_placed c.args.zeros g (types_of c.args.self.now) (known_of c.args.self.now) ms c.args.at c.loop-member.next left c.loop-member.parts.items
    (at_drop_all (λ (fs : List Field). map entry fs) c.args.members.now c.loop-member.member-index c.loop-member-test.false)
    (c.loop-member.invariant g ms knows represent)
