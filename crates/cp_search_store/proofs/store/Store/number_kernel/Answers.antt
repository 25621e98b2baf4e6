use Rattle.std.proofs.Common.{refl}
use Rattle.cp_search_store.proofs.Numbered.{extends_not}
use Rattle.cp_search_store.proofs.store.Store.number_kernel.Goals as goal

pub returns-clause-parts : goal.returns-clause-parts
returns-clause-parts c =
    let xs = c.args.self.now.parts.privates.items in
    record {
      kernels = c.in_ok-number.ensures.grows;
      parts = extends_not xs xs refl;
      width = refl;
      kernel_numbers = refl;
      part_numbers = refl;
    }
