use Rattle.std.proofs.Common.{rules, ◌≡◌, ◌≤◌, ◌+◌, length, arith, sym, subst}
use Rattle.std.proofs.lemmas.Result.{err_from_is_err_and}
use Rattle.std.specs.Io.KnownBytes.{Consumes}
use Rattle.std.proofs.KnownBytes.{Consumes-trans}
use Rattle.cp_frontend.proofs.Bytes.{read_most, read_to_end}
use Rattle.cp_frontend.proofs.Takings.{more_up_to, takes_front}
use Rattle.cp_frontend.proofs.reading.read_text.Goals as goal

pub returns-then-branch-eq0-clause-bytes : goal.returns-then-branch-eq0-clause-bytes
returns-then-branch-eq0-clause-bytes g c =
    let part = c.in_ok-read_part.ensures in
    let (bs, all, read) = part.appends in
    let text = c.read_part.new.text in
    let few : length text.items ≤ 1048577 = omega (arith, text.ok.0, c.read_part.ensures.most) in
    read_to_end 1048577 _ _ text.items
    (subst (Consumes _ _) (sym all) (Consumes-trans _ _ _ _ _ c.loop-reader.invariant.read read)) few (part.end (search rules))

pub returns-then-branch-eq0-clause-front : goal.returns-then-branch-eq0-clause-front
returns-then-branch-eq0-clause-front g c =
    let (bs, all, read) = c.in_ok-read_part.ensures.appends in
    takes_front _ _ c.read_part.new.text.items (returns-then-branch-eq0-clause-bytes g c)
    (subst (Consumes _ _) (sym all) (Consumes-trans _ _ _ _ _ c.loop-reader.invariant.read read))

pub returns-clause-bytes : goal.returns-clause-bytes
returns-clause-bytes g c =
    let text = c.loop-reader.text in
    let full : length text.items ≡ 1048577 = search rules in
    read_most 1048577 _ _ text.items c.loop-reader.invariant.read full

pub returns-clause-front : goal.returns-clause-front
returns-clause-front g c = takes_front _ _ c.loop-reader.text.items (returns-clause-bytes g c) c.loop-reader.invariant.read

pub returns-in_err-read_part-clause-taken : goal.returns-in_err-read_part-clause-taken
returns-in_err-read_part-clause-taken g c =
    let p = err_from_is_err_and c.from_residual.result c.from_residual.ensures.1 in
    let (bs, most, read) = c.in_err-read_part.ensures.taken in
    let text = c.loop-reader.text in
    let few : length text.items + length bs ≤ 1048577 = omega (arith, text.ok.0, most) in
    rw p.1 (more_up_to _ _ _ text.items bs c.loop-reader.invariant.read few read)
