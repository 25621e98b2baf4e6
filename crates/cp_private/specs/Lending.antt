-- How a private state is lent.
use Rattle.std.specs.Borrow.{Fml, Lends, MutBor}
use Rattle.cp_private.specs.contracts.private.Private as private
use Rattle.cp_private.specs.contracts.private_box.PrivateBox as private_box
use Rattle.cp_private.specs.declared.private.Private.{Private}

-- A box ends as what was last written to its private state.
abbrev pub LendsPrivate : MutBor Private → MutBor Private → Fml
LendsPrivate r p = Lends private_box.the_row private.the_row r p (λ w. w)
