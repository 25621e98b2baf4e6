-- The lines of a process.
use Rattle.std.proofs.Common.{◌≡◌, ◌++◌, ◌-◌, ℕ, List, [], ◌∷◌, None, Some, ap, sym, ◌∙◌}
use Rattle.std.specs.Prelude.{codes, slice_get}
use Rattle.std.proofs.lemmas.List.{append_assoc}
use Rattle.cp_model.specs.Abstract.{Name}
use Rattle.cp_model.specs.Decimal.{natural}
use Rattle.cp_model.specs.Declarations.{globals}
use Rattle.cp_model.specs.Report.{Text}
use Rattle.cp_model.specs.States.{Setup}
use Rattle.cp_model.specs.Types.{Members}
use Rattle.cp_model_machine.specs.KernelSteps.{stage_of}
use Rattle.cp_model_machine.specs.Machines.{Machine, transcript_of}
use Rattle.cp_model_machine.specs.PrivateStates.{Activity, Ended, PrivateState}
use Rattle.cp_model_machine.specs.Reports.{head_line, lines_visit, part_lines, process_lines, stage_text, transcript_line, visit_members}
use Rattle.cp_rounds.specs.ProcessStates.{activity_at}
use Rattle.cp_rounds.specs.Views.{output_of}
use Rattle.cp_report.specs.Lines.{front_lines, title}

pub headed : (p : ℕ) (x : Name) (status out : Text) → ((out ++ title p x) ++ status) ++ 10 ∷ [] ≡ out ++ head_line p x status
headed p x status out =
    ap (λ z. z ++ 10 ∷ []) (append_assoc out (title p x) status)
    ∙ (append_assoc out (title p x ++ status) (10 ∷ [])
    ∙ ap (λ z. out ++ (z ++ 10 ∷ []))
    (append_assoc (codes "process ") (natural p ++ (codes " " ++ (x ++ codes " "))) status
    ∙ ap (λ z. codes "process " ++ z)
    (append_assoc (natural p) (codes " " ++ (x ++ codes " ")) status
    ∙ ap (λ z. natural p ++ z) (append_assoc (codes " ") (x ++ codes " ") status ∙ ap (λ z. codes " " ++ z) (append_assoc x (codes " ") status)))))

-- The two lines before the variables, one after the other.
pub front_reported : (p : ℕ) (x : Name) (status last out titled stood ended after : Text) → titled ≡ out ++ title p x → stood ≡ titled ++ status → ended ≡ stood ++ 10 ∷ []
    → after ≡ ended ++ transcript_line last → after ≡ out ++ (head_line p x status ++ transcript_line last)
front_reported p x status last out titled stood ended after a b d e =
    e
    ∙ (ap (λ z. z ++ transcript_line last) (d ∙ ap (λ z. z ++ 10 ∷ []) (b ∙ ap (λ z. z ++ status) a) ∙ headed p x status out)
    ∙ append_assoc out (head_line p x status) (transcript_line last))

module _ (setup : Setup) (m : Machine) (p : ℕ) (x : Name) (at : ℕ) (ps : Members) where
  pub process_reported : (o : PrivateState) (out mid after : Text) → slice_get m.parts (p - 1) ≡ Some o → mid ≡ out ++ front_lines setup m p x (activity_at m p) (output_of m p)
      → after ≡ mid ++ visit_members (globals setup.tree) (lines_visit o.words) [] at ps → after ≡ out ++ process_lines setup m p x at ps
  process_reported o out mid after there front members =
      let head = head_line p x (stage_text setup m.program (stage_of m.kernel.stages p) o.activity) in
      let transcript = transcript_line (transcript_of m.transcripts p ++ o.output) in
      let lines = visit_members (globals setup.tree) (lines_visit o.words) [] at ps in
      let read : front_lines setup m p x (activity_at m p) (output_of m p) ≡ front_lines setup m p x o.activity o.output =
      ap (λ q. front_lines setup m p x (elim q as (λ r. Activity) [ None ↦ Ended | Some r ↦ r.activity ]) (elim q as (λ r. List ℕ) [ None ↦ [] | Some r ↦ r.output ])) there in
      members
      ∙ (ap (λ z. z ++ lines) (front ∙ ap (λ z. out ++ z) read)
      ∙ (append_assoc out (head ++ transcript) lines
      ∙ (ap (λ z. out ++ z) (append_assoc head transcript lines)
      ∙ sym (ap (λ q. out ++ elim q [ None ↦ [] | Some r ↦ part_lines setup m p x at ps r ]) there))))
