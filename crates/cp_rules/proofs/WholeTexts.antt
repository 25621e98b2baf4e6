-- What is reported for the body of the initial process, and for a whole text.
use Rattle.std.proofs.Common.{◌≡◌, ℕ, ◌+◌, Bool, [], ◌∷◌, ◌++◌, Option, Some, None, subst, ap, sym, ◌∙◌, arith, append_assoc, append-nil}
use Rattle.std.proofs.lemmas.Bool.Decides.{nat_tests}
use Rattle.cp_model.specs.Syntax as s
use Rattle.cp_model.specs.declared.rules.Rule.TheVariants.{C13}
use Rattle.cp_model.specs.declared.rules.Position.TheVariants as position
use Rattle.cp_model.specs.declared.rules.Violation.{Violation}
use Rattle.cp_model.specs.declared.tree.Sort.TheVariants as sort
use Rattle.cp_model.specs.RulesEnvironment.{Environment}
use Rattle.cp_model.specs.RulesJudged.{Violations, earlier, least, unless}
use Rattle.cp_model.specs.RulesTypes.{cap_words, is_within}
use Rattle.cp_model.specs.RulesStatements.{statements}
use Rattle.cp_model.specs.RulesNeeds.{need_statements}
use Rattle.cp_model.specs.RulesDeclarations.{Declared, Variables, routines, variables}
use Rattle.cp_model.specs.Rules.{Accepted, c13_initial, first_violation, violations}
use Rattle.cp_rules.specs.Checking.{State, after, reporting}
use Rattle.cp_rules.specs.Declaring.{Declares}
use Rattle.cp_rules.specs.Definitions.{define_sections, define_types}
use Rattle.cp_rules.specs.Texts.{body_violations}
use Rattle.cp_rules.specs.Endings.{reported_with}
use Rattle.cp_rules_cutoff.specs.Rest.{Rest}
use Rattle.cp_rules.proofs.Earliest.{nothing_reported, part_reported}
use Rattle.cp_rules.proofs.Reporting.{reported_in, reported_more}

-- ---- the body of the initial process

within_capped : (n need words counted : ℕ) → words ≡ cap_words n → counted ≡ cap_words (cap_words (1 + words) + need) → is_within counted ≡ is_within (1 + n + need)
within_capped n need words counted h g = grind (arith, nat_tests, h, g)

broken_in : (t : Option Violation) (at words : ℕ) (vs : Violations) (x : Violation) → least None vs ≡ Some x → earlier t x ≡ least t (vs ++ c13_initial at words vs)
broken_in t at words [] x h = absurd (cc)
broken_in t at words (v ∷ vs) x h = part_reported t (v ∷ vs) x h ∙ ap (least t) (sym (append-nil (v ∷ vs)))

pub broken_body : (t : Option Violation) (env : Environment) (n : ℕ) (b : s.Body) (x : Violation) → least None (statements env b.list) ≡ Some x
    → earlier t x ≡ least t (body_violations env n b)
broken_body t env n b x h = broken_in t b.at (1 + n + need_statements env b.list) (statements env b.list) x h

pub sound_body : (env : Environment) (n words counted : ℕ) (b : s.Body) → least None (statements env b.list) ≡ None → words ≡ cap_words n
    → counted ≡ cap_words (cap_words (1 + words) + need_statements env b.list) → unless (is_within counted) C13 b.at ≡ body_violations env n b
sound_body env n words counted b h g k =
    let need : ℕ = need_statements env b.list in
    ap (λ (within : Bool). unless within C13 b.at) (within_capped n need words counted g k)
    ∙ sym (ap (λ (vs : Violations). vs ++ c13_initial b.at (1 + n + need) vs) (nothing_reported (statements env b.list) h))

-- ---- what is left of a text

module _ (r : Rest) (s0 : State) where
  abbrev types : Declared
  types = define_types s0.env r.definitions

  abbrev defined : Declared
  defined = define_sections types.env r.sections

  abbrev own : Variables
  own = variables defined.env position.InitialVariable r.variables

  abbrev all : Declared
  all = routines own.env sort.Process r.routines

  pub rest_judged : (s1 s2 s3 s4 s5 : State) (words : ℕ) → s1 ≡ after s0 (define_types s0.env r.definitions)
      → s2 ≡ after s1 (define_sections s1.env r.sections)
      → Declares s2 s3 words (variables s2.env position.InitialVariable r.variables)
      → s4 ≡ after s3 (routines s3.env sort.Process r.routines)
      → ((n : ℕ) → words ≡ cap_words n → s5 ≡ reporting s4 (body_violations s4.env n r.body)) → s5.diagnostics ≡ reported_with s0 r
  rest_judged s1 s2 s3 s4 s5 words typed sections declared routed judged =
      let vs2 : Violations = types.violations ++ defined.violations in
      let told2 : s2 ≡ reported_in defined.env s0.diagnostics vs2 =
      sections ∙ ap (λ (z : State). after z (define_sections z.env r.sections)) typed ∙ reported_more defined.env s0.diagnostics types.violations defined.violations in
      let declares : Declares (reported_in defined.env s0.diagnostics vs2) s3 words own =
      subst (λ (z : State). Declares z s3 words (variables z.env position.InitialVariable r.variables)) told2 declared in
      let vs3 : Violations = vs2 ++ own.violations in
      let vs4 : Violations = vs3 ++ all.violations in
      let told3 : s3 ≡ reported_in own.env s0.diagnostics vs3 = declares.0 ∙ reported_more own.env s0.diagnostics vs2 own.violations in
      let told4 : s4 ≡ reported_in all.env s0.diagnostics vs4 =
      routed ∙ ap (λ (z : State). after z (routines z.env sort.Process r.routines)) told3 ∙ reported_more all.env s0.diagnostics vs3 all.violations in
      let body : Violations = statements all.env r.body.list in
      ap (λ (z : State). z.diagnostics)
      (judged own.words declares.1 ∙ ap (λ (z : State). reporting z (body_violations z.env own.words r.body)) told4
      ∙ reported_more all.env s0.diagnostics vs4 (body_violations all.env own.words r.body)
      ∙ ap (reported_in all.env s0.diagnostics) (sym (append_assoc vs4 body (c13_initial r.body.at (1 + own.words + need_statements all.env r.body.list) body))))

-- ---- a whole text

pub none_reported : (t : s.Tree) → first_violation t ≡ None → Accepted t
none_reported t h = nothing_reported (violations t) h
