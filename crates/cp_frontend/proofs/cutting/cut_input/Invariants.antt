use Rattle.std.proofs.Common.{◌≡◌, ℕ, suc, ◌+◌}
use Rattle.cp_model.specs.Input.{cut}
use Rattle.cp_frontend.specs.Cutting.{AreInputs}
use Rattle.cp_frontend.proofs.cutting.cut_input.Given as goal

-- the parts so far, and what is left holds the later ones
abbrev pub invariant-loop-p : goal.invariant-loop-p
invariant-loop-p l = record {
  parts : AreInputs (cut l.input) l._p l.all.items;
  left : (k : ℕ) → cut l.input (l._p + suc k) ≡ cut l.left (suc k);
}
