use Rattle.std.proofs.Common.{rules, ◌≡◌, sym, subst, ◌++◌, ◌∷◌, []}
use Rattle.cp_model.specs.Input.{cut}
use Rattle.cp_frontend.specs.Cutting.{AreInputs, front_part}
use Rattle.cp_frontend.proofs.Parts.{later_parts, part_pushed}
use Rattle.cp_frontend.proofs.cutting.cut_input.Goals as goal

pub loop-p-preserved : goal.loop-p-preserved
loop-p-preserved c =
    let left = c.loop-p.left.now in
    let part = c.in_ok-from_slice.field-0 in
    let input = c.args.input.now in
    let is : part.items ≡ front_part left = search rules in
    let all : c.push.new.self.items ≡ c.loop-p.all.items ++ part ∷ [] = search rules in
    record {
      parts = subst (AreInputs (cut input) _) (sym all) (part_pushed input left c.loop-p._p c.loop-p.all.items part c.loop-p.invariant.parts is c.loop-p.invariant.left);
      left = later_parts input left c.rest-left.result.now c.loop-p._p (search rules) c.loop-p.invariant.left;
    }
