use Rattle.std.proofs.Common.{rules, ◌≡◌, false, true, ap, arith, sym, ◌∙◌}
use Rattle.cp_outcome.specs.Verdicts.{sound}
use Rattle.cp_outcome.proofs.Testing.{all_sound, one_more, one_unsound}
use Rattle.cp_outcome.proofs.verdict.none_has_faulted.Goals as goal

pub loop-i-init : goal.loop-i-init
loop-i-init c = λ i below. absurd (omega (arith, below))

pub returns-then-not-is_sound : goal.returns-then-not-is_sound
returns-then-not-is_sound c =
    let below = c.loop-i-test.true in
    let count = c.processes-i-end.ensures.count in
    let tested : c.is_sound.result ≡ false = search rules in
    one_unsound c.args.machine.now c.loop-i.i (omega (arith, below, count)) (ap sound (sym c.state.ensures.part) ∙ (sym c.is_sound.ensures ∙ tested))

pub loop-i-preserved : goal.loop-i-preserved
loop-i-preserved c =
    let tested : c.is_sound.result ≡ true = search rules in
    one_more (λ p. sound) c.args.machine.now c.loop-i.i (ap sound (sym c.state.ensures.part) ∙ (sym c.is_sound.ensures ∙ tested)) c.loop-i.invariant

pub returns : goal.returns
returns c =
    let past = c.loop-i-test.false in
    let count = c.processes-i-end.ensures.count in
    all_sound c.args.machine.now c.loop-i.i (omega (arith, past, count)) c.loop-i.invariant
