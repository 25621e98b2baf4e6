use Rattle.std.proofs.Common.{rules, ap, is_some, ◌≡◌, ◌+◌, ◌∙◌, ℕ, Option, Some, length, refl, suc, subst}
use Rattle.cp_law_typing.specs.Words.{words_of_members}
use Rattle.cp_compile_symbols.specs.Components.{own_members}
use Rattle.cp_compile_symbols.specs.Layouts.{Counts, rights_of}
use Rattle.cp_compile.proofs.ComponentsCompiled.{component_counted, waiting_counted}
use Rattle.cp_compile.proofs.components.Owner.of.Goals as goal

pub returns : goal.returns
returns c = λ plans g types s ps vs rs represents written plan.
    let table = c.args.table.now in
    let words : table.members.words ≡ Some c.in_ok-ok_or.field-0 = search rules in
    let waiting : c.in_ok-small_sum.field-0 ≡ c.in_ok-waiting.waiting + 1 = search rules in
    let count : c.in_ok-waiting.waiting ≡ length table.parameters.items = search rules in
    let all : ℕ = suc (rights_of g ps) + words_of_members g (own_members g ps vs) in
    record {
      body = refl;
      words = subst (λ (o : Option ℕ). Counts o all) words represents.members.words ∙ component_counted g s ps vs rs written;
      waiting = waiting ∙ waiting_counted g types s ps vs rs table.parameters.items c.in_ok-waiting.waiting written represents.parameters count;
      plan = plan (ap is_some words);
    }
