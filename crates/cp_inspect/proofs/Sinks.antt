-- What is in the sinks if a walk keeps the same places.
use Rattle.std.proofs.Common.{◌≡◌, refl, ap}
use Rattle.cp_model.specs.Report.{Text}
use Rattle.cp_inspect.specs.LeafCodes.{leaf_codes}
use Rattle.cp_inspect.specs.Sinks.{IntoLeaves, IntoText, Sink, held_by}
use Rattle.cp_inspect.specs.declared.walk.Walk.{Walk}

pub held_kept : (s : Sink) (old new : Walk) (out : Text) → new.leaves ≡ old.leaves → held_by s new out ≡ held_by s old out
held_kept IntoText old new out same = refl
held_kept IntoLeaves old new out same = ap (λ l. leaf_codes l.items) same
