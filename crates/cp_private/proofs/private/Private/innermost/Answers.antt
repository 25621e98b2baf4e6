use Rattle.std.proofs.Common.{rules, ◌≡◌, suc, ◌-◌, ◌<◌, ◌∷◌, length, ap, sym, ◌∙◌, arith}
use Rattle.std.specs.Prelude.{slice_index_or}
use Rattle.cp_private.specs.States.{frame, frames_in}
use Rattle.cp_private.proofs.InUse.{frames_innermost}
use Rattle.cp_private.proofs.private.Private.innermost.Goals as goal

pub returns : goal.returns
returns c =
    let fs = c.args.self.now.frames.items in
    let depth = c.args.self.now.depth - 1 in
    let last = c.index-deref-depth.result in
    let more : c.args.self.now.depth ≡ suc depth = omega arith in
    let there : depth < length fs = omega (arith, c.args.self.now.facts) in
    let is : last ≡ slice_index_or fs depth last = search rules in (
      depth,
      more,
      ap (λ n. frames_in n fs) more ∙ (frames_innermost fs depth last there ∙ ap (λ f. frame f ∷ frames_in depth fs) (sym is)),
    )
