use Rattle.std.proofs.Common.{rules, ◌≡◌, ◌++◌, ℕ, List, length, take, drop, sym, ap, ◌∙◌, subst}
use Rattle.std.proofs.Math.Seq.{take-append_seam}
use Rattle.cp_private.specs.declared.private.Private.{Private}
use Rattle.cp_program.specs.View as view
use Rattle.cp_law_cores.specs.Cores.{close}
use Rattle.cp_search_states.specs.SearchStates.{core_with}
use Rattle.cp_search_states.proofs.steps.close_round.Goals as goal

pub returns : goal.returns
returns c = λ inputs.
    let program = view.program c.args.program.now in
    let zs = c.args.privates.now.items in
    let n = c.args.privates.now.len in
    let W = c.end_round.new.privates in
    let k = c.args.kernel.now in
    let k3 = c.end_round.new.kernel in
    let ez : c.deref_mut.result.now ≡ zs = search rules in
    let nw : n ≡ length W = search rules in
    let ew : take n (W ++ drop (length W) zs) ≡ W = ap (λ (m : ℕ). take m (W ++ drop (length W) zs)) nw ∙ take-append_seam W (drop (length W) zs) in
    let parts = rw ez at c.end_round.ensures.parts in
    let kernel = c.end_round.ensures.kernel in
    subst (λ (ws : List Private). core_with inputs ws k3 ≡ close program (core_with inputs zs k)) (sym ew)
    (λ j. record { kernel = kernel j; parts = parts inputs j })
