use Rattle.std.proofs.Common.{subst, sym}
use Rattle.cp_frontend.specs.declared.refusal.Refusal.{Refusal}
use Rattle.cp_frontend.specs.declared.refusal.Refusal.TheVariants as refusal
use Rattle.cp_explain.specs.Objects.{IsRefusedText}
use Rattle.cp_explain.specs.declared.refusal_objects.Mark.TheVariants as mark
use Rattle.cp_explain.proofs.First.{refusal_page}
use Rattle.cp_explain.proofs.refused_object.of_broken.Goals as goal

pub returns : goal.returns
returns c =
    subst (λ (r : Refusal). IsRefusedText c.args.text.now r c.in_ok-page.page.items) (sym c.from-refusal.ensures) (
      c.requires.refused,
      c.in_ok-page.ensures.form,
      refusal_page mark.Verdict c.args.text.now (refusal.Check c.args.violation.rule c.args.violation.at) c.in_ok-object.object c.in_ok-objects.objects.items c.in_ok-page.page.items
          c.in_ok-object.ensures.mark c.in_ok-object.ensures.violations c.in_ok-objects.ensures c.in_ok-page.ensures.value,
    )
