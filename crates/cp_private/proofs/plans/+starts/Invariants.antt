use Rattle.std.proofs.Common.{◌≡◌, ◌≤◌, ◌<◌, ◌+◌, ◌*◌, ◌^◌, ◌++◌, IfSome, drop, length, take}
use Rattle.cp_model_program.specs.Starts.{carry_out}
use Rattle.cp_program.specs.View.{plan_of, plans_of}
use Rattle.cp_private.specs.Plans.{carried, carried_or_same}
use Rattle.cp_private.proofs.CarriedOut.{left_over}
use Rattle.cp_private.proofs.plans.+starts.Given as goal

-- The pieces that are left lead to the same words as all of them.
abbrev pub invariant-start_but_last-loop-piece : goal.invariant-start_but_last-loop-piece
invariant-start_but_last-loop-piece l =
    let known = take l.rest.below (plans_of l.program) in
    record {
      words : carry_out l.rest.base (plan_of known (drop l.piece-index l.others)) (l.own ++ l.shared)
          ≡ carry_out l.rest.base (plan_of known l.others) (l.fn.own ++ l.fn.shared);
      own : length l.own ≡ length l.fn.own;
      shared : length l.shared ≡ length l.fn.shared;
    }

-- What is left leads to the same words as the whole.
abbrev pub invariant-start_rest-loop-left : goal.invariant-start_rest-loop-left
invariant-start_rest-loop-left l = record {
  words : carried_or_same l.program l.left (l.own ++ l.shared) ≡ carried l.program l.fn.rest (l.fn.own ++ l.fn.shared);
  below : IfSome l.left (λ r. r.below ≤ l.fn.rest.below);
  near : IfSome l.left (λ r. r.base < 2 ^ 33);
  own : length l.own ≡ length l.fn.own;
  shared : length l.shared ≡ length l.fn.shared;
}

abbrev pub decreases-start_rest-loop-left : goal.decreases-start_rest-loop-left
decreases-start_rest-loop-left l = left_over l.left

abbrev pub decreases-start_piece : goal.decreases-start_piece
decreases-start_piece l = 3 * l.below

abbrev pub decreases-start_but_last : goal.decreases-start_but_last
decreases-start_but_last l = 3 * l.rest.below + 1

abbrev pub decreases-start_rest : goal.decreases-start_rest
decreases-start_rest l = 3 * l.rest.below + 2
