use Rattle.std.proofs.Common.{false, List, subst, sym, ◌∙◌}
use Rattle.cp_private.specs.declared.private.Private.{Private}
use Rattle.cp_rounds.specs.Replayed.{AreWoken}
use Rattle.cp_rounds.proofs.Replays.{copies_same}
use Rattle.cp_rounds.proofs.Rooms.{same_stages}
use Rattle.cp_rounds.proofs.parts.Parts.copy.Goals as goal

pub returns : goal.returns
returns c =
    let parts = c.args.self.now in
    let ys = c.in_ok-privates.privates.items in
    let copied : AreWoken false parts.privates.items ys = subst (λ (l : List Private). AreWoken false l ys) c.deref.ensures.value c.in_ok-privates.ensures in
    copies_same parts.privates.items ys parts.kernel c.in_ok-kernel.kernel copied c.in_ok-kernel.ensures.same c.in_ok-kernel.ensures.transcripts

pub invariant_of-result : goal.invariant_of-result
invariant_of-result c =
    let parts = c.args.self.now in
    let ys = c.in_ok-privates.privates.items in
    let copied : AreWoken false parts.privates.items ys = subst (λ (l : List Private). AreWoken false l ys) c.deref.ensures.value c.in_ok-privates.ensures in
    let same = copies_same parts.privates.items ys parts.kernel c.in_ok-kernel.kernel copied c.in_ok-kernel.ensures.same c.in_ok-kernel.ensures.transcripts in
    record {
      numbers = same.numbers parts.numbers;
      count = same_stages parts.kernel c.in_ok-kernel.kernel same.kernel ∙ (parts.count ∙ sym same.count);
    }
