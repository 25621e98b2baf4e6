use Rattle.std.proofs.Common.{rules, ◌≡◌, ℤ, ap, sym, subst, ◌∙◌, Ok, IfSome, map}
use Rattle.cp_model_machine.specs.Values.{bind, value_of}
use Rattle.cp_program.specs.declared.term.Term.{out-Term}
use Rattle.cp_program.specs.Reaches.{chain_value, view_with}
use Rattle.cp_program.specs.View as view
use Rattle.cp_program.proofs.Chains.{term_is, value_chain}
use Rattle.cp_program.proofs.Found.{found, kept, operand_local, operand_made, operand_member, operand_number, reported}
use Rattle.cp_program.proofs.term.Term.fast_value.Goals as goal
use Rattle.cp_program.proofs.term.Term.fast_value.Goals.{in-Number, in-Local+in_ok-first-in-Local, in-Member+in_ok-first-in-Member, in-Made, in_default+in_ok-first-in_default}

pub returns : goal.returns
returns g c clock =
    let v = view_with c.args.memory.now c.args.shared.now clock in
    let s = c.args.self.now in
    let xs = map view.application (out-Term s).rest.items in
    let first = c.match-self.first in
    let known : value_of v (view.operand (out-Term s).first) ≡ Ok first =
    elim c.match-self.branch [
      | in-Number w ↦
          let n = w.in-Number.n in
          let same : kept n ≡ n = search rules in
          ap (λ x. value_of v (view.operand x)) w.in-Number.is
          ∙ (ap (value_of v) (operand_number n) ∙ ap (λ (z : ℤ). Ok z) (sym same ∙ (sym w.first-is ∙ c.match-self.first-is)))
      | in-Local+in_ok-first-in-Local w ↦
          let n = w.in_ok-first-in-Local.first in
          let same : kept n ≡ n = search rules in
          ap (λ x. value_of v (view.operand x)) w.in-Local.is
          ∙ (ap (value_of v) (operand_local w.in-Local.at)
          ∙ (reported _ n _ w.in_ok-first-in-Local.was (w.fast_local.ensures clock) ∙ ap (λ (z : ℤ). Ok z) (sym same ∙ (sym w.first-is ∙ c.match-self.first-is))))
      | in-Member+in_ok-first-in-Member w ↦
          let n = w.in_ok-first-in-Member.first in
          let same : kept n ≡ n = search rules in
          ap (λ x. value_of v (view.operand x)) w.in-Member.is
          ∙ (ap (value_of v) (operand_member w.in-Member.at)
          ∙ (reported _ n _ w.in_ok-first-in-Member.was (w.fast_member.ensures clock) ∙ ap (λ (z : ℤ). Ok z) (sym same ∙ (sym w.first-is ∙ c.match-self.first-is))))
      | in-Made w ↦
          let n = w.made-first.result in
          let same : kept n ≡ n = search rules in
          ap (λ x. value_of v (view.operand x)) w.in-Made.is
          ∙ (ap (value_of v) (operand_made w.in-Made.temp)
          ∙ ap (λ (z : ℤ). Ok z) (sym w.made-first.ensures ∙ (sym same ∙ (sym w.first-is ∙ c.match-self.first-is))))
      | in_default+in_ok-first-in_default w ↦
          let n = w.in_ok-first-in_default.first in
          let same : kept n ≡ n = search rules in
          reported _ n _ w.in_ok-first-in_default.was (w.further_value.ensures clock)
          ∙ ap (λ (z : ℤ). Ok z) (sym same ∙ (sym w.first-is ∙ c.match-self.first-is))
    ] in
    let chained : IfSome c.fast_value_of_chain.result (λ n. chain_value v first (map view.application c.deref.result.now) ≡ Ok n) =
    subst (λ y. IfSome c.fast_value_of_chain.result (λ n. chain_value v y (map view.application c.deref.result.now) ≡ Ok n)) c.match-self.first-is (c.fast_value_of_chain.ensures clock) in
    found c.fast_value_of_chain.result _ _
    (ap (λ ys. chain_value v first (map view.application ys)) c.deref.ensures.value
    ∙ (ap (λ r. bind r (λ x. chain_value v x xs)) (sym known)
    ∙ (sym (value_chain v (view.operand (out-Term s).first) xs) ∙ ap (value_of v) (sym (term_is s)))))
    chained
