use Rattle.cp_explain.specs.declared.refusal_objects.Mark.TheVariants as mark
use Rattle.cp_explain.proofs.First.{refusal_page}
use Rattle.cp_explain.proofs.refused_object.of_refusal.Goals as goal

pub returns : goal.returns
returns c = (
  c.requires.refused,
  c.in_ok-page.ensures.form,
  refusal_page mark.Verdict c.args.text.now c.args.refusal c.in_ok-object.object c.in_ok-objects.objects.items c.in_ok-page.page.items
      c.in_ok-object.ensures.mark c.in_ok-object.ensures.violations c.in_ok-objects.ensures c.in_ok-page.ensures.value,
)
