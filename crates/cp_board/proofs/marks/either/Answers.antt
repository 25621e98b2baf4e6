use Rattle.std.proofs.Common.{sym, ap, ◌∙◌, ◌≡◌, ◌≢◌, ◌||◌, ℕ, Bool, arith, false, length, get_or, below_more, length-set, get_or-set_same, get_or-set_other}
use Rattle.std.proofs.lemmas.List.{ext_get_or}
use Rattle.cp_board.specs.declared.view.TheConstants.{MAX_STRIPES}
use Rattle.cp_board.proofs.MarkLists.{get_or-or_each, length-or_each}
use Rattle.cp_board.proofs.marks.either.Goals as goal

pub loop-j-preserved : goal.loop-j-preserved
loop-j-preserved c =
    let was = c.loop-j.invariant in
    let both = c.loop-j.both in
    let second = c.args.second.now in
    let j : ℕ = c.loop-j.j in
    let below = c.loop-j-test.true in
    let len : length both ≡ MAX_STRIPES = was.len in
    let mark : Bool = get_or both j false || get_or second j false in
    let other : (i : ℕ) → i ≢ j → _ = λ i ne. get_or-set_other both j i mark false ne in
    record {
      len = length-set both j mark ∙ len;
      before = below_more _ _
          (λ i earlier. other i (λ e. absurd (omega arith)) ∙ was.before i earlier)
          (get_or-set_same both j mark false (omega arith) ∙ ap (λ (b : Bool). b || get_or second j false) (was.after j (omega arith)));
      after = λ i later. other i (λ e. absurd (omega arith)) ∙ was.after i (omega arith);
    }

pub returns : goal.returns
returns c =
    let was = c.loop-j.invariant in
    let first = c.args.first.now in
    let second = c.args.second.now in
    let ended = c.loop-j-test.false in
    let len : length c.loop-j.both ≡ MAX_STRIPES = was.len in
    let first_len : length first ≡ MAX_STRIPES = c.told-first in
    let second_len : length second ≡ MAX_STRIPES = c.told-second in
    let or_len = length-or_each first second (omega arith) in
    ext_get_or false c.loop-j.both _ (len ∙ sym (or_len ∙ first_len)) (λ i below. was.before i (omega arith) ∙ sym (get_or-or_each first second i))
