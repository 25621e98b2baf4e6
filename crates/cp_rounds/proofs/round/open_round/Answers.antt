use Rattle.std.proofs.Common.{rules, ◌≡◌, ℕ, IfSome, List, sym, subst}
use Rattle.cp_private.specs.declared.private.Private.{Private}
use Rattle.cp_rounds_handoff.specs.Numbers.{AreNumbered}
use Rattle.cp_rounds_handoff.specs.Tasks.{AllFree, is_none}
use Rattle.cp_rounds.specs.Made.{IsReadyFor}
use Rattle.cp_rounds.specs.Runs.{IsOpened}
use Rattle.cp_rounds.proofs.AheadTurns.{ready_fewer}
use Rattle.cp_rounds.proofs.round.open_round.Goals as goal

pub invariant_of-round-clause-same : goal.invariant_of-round-clause-same
invariant_of-round-clause-same g c =
    subst (λ v. IfSome c.in_ok-token.token (λ t. t.value.value ≡ v)) (sym c.of.ensures) c.in_ok-token.ensures.start

pub invariant_of-round-clause-numbers : goal.invariant_of-round-clause-numbers
invariant_of-round-clause-numbers g c =
    let start : c.of.result.value.items ≡ c.reserve_room.new.privates.items = search rules in
    subst (λ (l : List Private). AreNumbered l) (sym start) (c.reserve_room.ensures.same.numbers c.requires.numbers)

pub invariant_of-round-clause-free : goal.invariant_of-round-clause-free
invariant_of-round-clause-free g c =
    let ys = c.reserve_room.new.privates.items in
    let bytes = c.args.run.now.turns.course.bytes in
    let start : c.of.result.value.items ≡ ys = search rules in
    subst (λ (l : List Private). AllFree g.C.Course.most l) (sym start)
    (subst (λ (b : ℕ). AllFree b ys) (sym bytes) c.in_ok-reserve_room.ensures.free)

pub returns-clause-opened : goal.returns-clause-opened
returns-clause-opened g c =
    let most = g.C.Course.most in
    let bytes = c.args.run.now.turns.course.bytes in
    let ys = c.reserve_room.new.privates.items in
    let k = c.reserve_room.new.kernel in
    let shares = c.args.shares in
    let start : c.of.result.value.items ≡ ys = search rules in
    let published = c.publish_turns.ensures in
    let ready : IsReadyFor most shares.rounds ys k =
    ready_fewer most shares.rounds c.rounds_of_room-room.result ys k c.rounds_of_room-room.ensures
    (subst (λ (b : ℕ). IsReadyFor b c.rounds_of_room-room.result ys k) (sym bytes) c.in_ok-reserve_room.ensures.ready) in
    subst (λ (l : List Private). IsOpened most c.args.round_time.wakes (is_none c.in_ok-token.token) shares.rounds c.args.privates.now.items c.args.kernel.now l
    c.publish_turns.new.privates.items k) (sym start)
    (record { same = c.reserve_room.ensures.same; ready = ready; left = published.left; here = published.here; count = published.count })
