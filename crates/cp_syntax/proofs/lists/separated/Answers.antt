use Rattle.std.proofs.Common.{◌≡◌, ◌∷◌, ◌++◌, [], map, ◌∙◌, sym}
use Rattle.std.proofs.lemmas.List.{map_push}
use Rattle.std.proofs.lemmas.Result.{err_from_is_err_and}
use Rattle.cp_syntax.proofs.Loops.{repeat_ends, repeat_stops, repeat_goes, repeat_fails, fails_as}
use Rattle.cp_syntax.proofs.lists.separated.Goals as goal

pub returns-then-not-sees : goal.returns-then-not-sees
returns-then-not-sees g c = sym c.loop-turn.invariant ∙ repeat_stops _ _ _ _ _ _ c.loop-turn-test.true (cc)

pub returns-in_err-x : goal.returns-in_err-x
returns-in_err-x g c =
    let p = err_from_is_err_and c.from_residual-in_err-x.result c.from_residual-in_err-x.ensures.1 in
    rw (p.1, p.2) (fails_as _ _ _ (repeat_fails _ _ _ _ _ _ _ c.loop-turn-test.true (cc) (rw c.after.ensures at c.in_err-x.ensures)) c.loop-turn.invariant)

pub loop-turn-preserved : goal.loop-turn-preserved
loop-turn-preserved g c =
    let one = rw c.after.ensures at c.in_ok-x.ensures in
    let e : map g.X.Node.view c.append.new.list.items ≡ map g.X.Node.view c.loop-turn.found.items ++ g.X.Node.view c.in_ok-x.x ∷ [] = rw c.in_ok-append.ensures (map_push _ c.loop-turn.found.items c.in_ok-x.x) in
    rw e (sym (repeat_goes _ _ _ _ _ _ _ _ c.loop-turn-test.true (cc) one) ∙ c.loop-turn.invariant)

pub returns : goal.returns
returns g c = sym c.loop-turn.invariant ∙ repeat_ends _ _ _ _ _ _ c.loop-turn-test.false
