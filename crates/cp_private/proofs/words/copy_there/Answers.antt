use Rattle.std.proofs.Common.{arith, ◌≡◌, ◌+◌, ◌-◌, ◌≤◌, ◌++◌, length, ap, sym, ◌∙◌}
use Rattle.cp_model_program.specs.Starts.{block, paste}
use Rattle.cp_private.proofs.Blocks.{block_left, block_right, length-block, paste_left, paste_right}
use Rattle.cp_private.proofs.words.copy_there.Goals as goal

pub returns-then-from_end-first-clause-words : goal.returns-then-from_end-first-clause-words
returns-then-from_end-first-clause-words c =
    let own = c.args.own.now in
    let shared = c.args.shared.now in
    let ns = block own c.args.from c.args.count in
    ap (λ ws. ws ++ shared) c.move_within.ensures
    ∙ (sym (paste_left ns c.args.to own shared (omega (arith, length-block c.args.count c.args.from own)))
    ∙ ap (λ xs. paste c.args.to xs (own ++ shared)) (sym (block_left c.args.count c.args.from own shared (omega (arith, c.saturating_add-from_end.ensures)))))

pub returns-then-from_end-first-2-clause-words : goal.returns-then-from_end-first-2-clause-words
returns-then-from_end-first-2-clause-words c =
    let own = c.args.own.now in
    let shared = c.args.shared.now in
    let ns = block own c.args.from c.args.count in
    ap (λ ws. own ++ ws) c.bring.ensures
    ∙ (sym (paste_right ns c.args.to own shared (omega arith))
    ∙ ap (λ xs. paste c.args.to xs (own ++ shared)) (sym (block_left c.args.count c.args.from own shared (omega (arith, c.saturating_add-from_end.ensures)))))

pub returns-then-from_end-first-3-clause-words : goal.returns-then-from_end-first-3-clause-words
returns-then-from_end-first-3-clause-words c =
    let own = c.args.own.now in
    let shared = c.args.shared.now in
    let ns = block shared (c.args.from - length own) c.args.count in
    ap (λ ws. ws ++ shared) c.bring-then-from_end-first-3.ensures
    ∙ (sym (paste_left ns c.args.to own shared (omega (arith, length-block c.args.count (c.args.from - length own) shared)))
    ∙ ap (λ xs. paste c.args.to xs (own ++ shared)) (sym (block_right c.args.count c.args.from own shared (omega arith))))
