use Rattle.std.proofs.Common.{refl}
use Rattle.cp_search_store.proofs.Numbered.{extends_not}
use Rattle.cp_search_store.proofs.store.Store.number_part.Goals as goal

pub returns-clause-parts : goal.returns-clause-parts
returns-clause-parts c =
    let ks = c.args.self.now.kernels.kernels.items in
    record {
      kernels = extends_not ks ks refl;
      parts = c.in_ok-number.ensures.grows;
      width = refl;
      kernel_numbers = refl;
      part_numbers = refl;
    }
