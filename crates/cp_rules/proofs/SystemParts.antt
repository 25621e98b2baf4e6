-- A system type: its heading is judged and left. Then its variables, routines and body are judged
-- inside, and left. Its name keeps its place, and represents the type.
use Rattle.std.proofs.Common.{◌≡◌, ◌+◌, ◌∷◌, ◌++◌, [], ℕ, false, Some, if◌then◌else◌, drop, length, take, subst, refl, ap, sym, ◌∙◌, append_assoc, arith}
use Rattle.cp_model.specs.Syntax as s
use Rattle.cp_model.specs.declared.tree.Identifier.{Identifier}
use Rattle.cp_model.specs.declared.tree.Sort.{Sort}
use Rattle.cp_model.specs.declared.tree.Sort.TheVariants as sort
use Rattle.cp_model.specs.declared.rules.Entity.TheVariants as entity
use Rattle.cp_model.specs.declared.rules.SystemRow.{SystemRow}
use Rattle.cp_model.specs.RulesJudged.{Violations, least}
use Rattle.cp_model.specs.RulesEnvironment.{Environment, Members, Names, is_process, with_names}
use Rattle.cp_model.specs.RulesNeeds.{need_statements}
use Rattle.cp_model.specs.RulesStatements.{statements}
use Rattle.cp_model.specs.RulesTypes.{cap_words}
use Rattle.cp_model.specs.RulesDeclarations as d
use Rattle.cp_model.specs.Rules.{define_system, routine_members, variable_position}
use Rattle.cp_rules.specs.Checking.{State, after, declared_name, reporting}
use Rattle.cp_rules.specs.Declaring.{Declares}
use Rattle.cp_rules.specs.Headings.{Collected, Heads, collection, nothing, with_part}
use Rattle.cp_rules.specs.Systems.{HeadsSystem, JudgesParts, added_system, heading_of, inside, parts, row_as, with_finished, words_of}
use Rattle.cp_rules.specs.declared.headings.Heading.{Heading}
use Rattle.cp_rules.proofs.Finished.{set_in}
use Rattle.cp_rules.proofs.Kept.{Begins, begins_trans, declare_each_begins, heading_left, left_names, routines_begin, variables_grow}
use Rattle.cp_rules.proofs.Reporting.{reported_in, reported_more}

module _ (old : State) (y : s.System) where
  -- ---- the heading

  pub system_headed : (s1 s2 : State) (h : Heading) (mark : ℕ) → mark ≡ length old.env.names → Heads old s1 h (heading_of old.env y)
      → s2 ≡ record s1 { env = with_names (take mark s1.env.names) s1.env } → HeadsSystem old s2 h y
  system_headed s1 s2 h mark at headed outside =
      let head : d.Heading = heading_of old.env y in (
        outside ∙ ap (λ (z : State). let st : State = record z { env = with_names (take mark z.env.names) z.env } in st) headed.0
            ∙ ap (λ n. reported_in (with_names (take n head.env.names) head.env) old.diagnostics head.violations) at
            ∙ ap (λ (e : Environment). reported_in e old.diagnostics head.violations) (heading_left old.env (Some y.sort) false y.parameters),
        headed.1,
      )

  -- ---- the parts

  pub parts_judged : (k : Collected) (s1 s2 s3 s4 : State) (words : ℕ)
      → s1 ≡ record old { env = inside old.env y k }
      → Declares s1 s2 words (d.variables s1.env (variable_position y.sort) y.variables)
      → s3 ≡ after s2 (d.routines s2.env y.sort y.routines)
      → s4 ≡ reporting s3 (statements s3.env y.body.list)
      → JudgesParts old s4 words (parts old.env y k)
  parts_judged k s1 s2 s3 s4 words within declared routed judged =
      let own : d.Variables = d.variables (inside old.env y k) (variable_position y.sort) y.variables in
      let all : d.Declared = d.routines own.env y.sort y.routines in
      let body : Violations = statements all.env y.body.list in
      let declares : Declares (record old { env = inside old.env y k }) s2 words own =
      subst (λ (z : State). Declares z s2 words (d.variables z.env (variable_position y.sort) y.variables)) within declared in
      let told3 : s3 ≡ reported_in all.env old.diagnostics (own.violations ++ all.violations) =
      routed ∙ ap (λ (z : State). after z (d.routines z.env y.sort y.routines)) declares.0 ∙ reported_more all.env old.diagnostics own.violations all.violations in (
        judged ∙ ap (λ (z : State). reporting z (statements z.env y.body.list)) told3
            ∙ reported_more all.env old.diagnostics (own.violations ++ all.violations) body,
        declares.1,
      )

-- ---- the whole

words_are : (y : Sort) (count own need words : ℕ) → words ≡ cap_words own
    → words_of y count words need ≡ cap_words (1 + count + own + (if is_process y then need else 0))
words_are sort.Process count own need words h = omega (arith, h)
words_are sort.Monitor count own need words h = omega (arith, h)
words_are sort.Class count own need words h = omega (arith, h)

module _ (old : State) (x : Identifier) (y : s.System) where
  abbrev named : d.Declared
  named = declared_name old.env x entity.UnfinishedType

  abbrev head : d.Heading
  head = heading_of named.env y

  abbrev own : d.Variables
  own = d.variables (inside named.env y (with_part nothing head)) (variable_position y.sort) y.variables

  abbrev judged : d.Variables
  judged = parts named.env y (with_part nothing head)

  abbrev row_is : SystemRow
  row_is =
      let need = need_statements judged.env y.body.list in
      let count = length head.rows in
      record {
        sort = y.sort;
        first = length old.env.parameters;
        count = count;
        words = cap_words (1 + count + own.words + (if is_process y.sort then need else 0));
        body_need = need;
        members = length judged.env.members;
      }

  parts_begin : Begins named.env.names judged.env.names
  parts_begin =
      let within : Environment = inside named.env y (with_part nothing head) in
      begins_trans named.env.names within.names judged.env.names
      (declare_each_begins _ head.bound)
      (begins_trans within.names own.env.names judged.env.names
      (variables_grow within (variable_position y.sort) y.variables).names (routines_begin own.env y.sort y.routines))

  pub system_defined : (s1 s2 s3 s4 s5 : State) (h : Heading) (row : SystemRow) (ms : Members) (outside mark first count words : ℕ)
      → outside ≡ length old.env.names → s1 ≡ after old named → mark ≡ length s1.env.names
      → HeadsSystem s1 s2 h y → first ≡ length s2.env.parameters → count ≡ length h.rows.items
      → JudgesParts s2 s3 words (parts s2.env y (collection h))
      → row ≡ row_as s3.env y first count words
      → ms ≡ routine_members (drop mark s3.env.names)
      → s4 ≡ record s3 { env = with_names (take mark s3.env.names) s3.env }
      → s5 ≡ with_finished s4 outside old.env.region row ms
      → s5 ≡ after old (define_system old.env x y)
  system_defined s1 s2 s3 s4 s5 h row ms outside mark first count words at declared inner headed firsts counts parted rowed found left finished =
      let vs1 : Violations = named.violations ++ head.violations in
      let vs2 : Violations = vs1 ++ judged.violations in
      let heads : HeadsSystem (after old named) s2 h y = subst (λ (z : State). HeadsSystem z s2 h y) declared headed in
      let told2 : s2 ≡ reported_in named.env old.diagnostics vs1 = heads.0 ∙ reported_more named.env old.diagnostics named.violations head.violations in
      let judging : JudgesParts (reported_in named.env old.diagnostics vs1) s3 words judged =
      subst (λ (k : Collected). JudgesParts (reported_in named.env old.diagnostics vs1) s3 words (parts named.env y k)) heads.1
      (subst (λ (z : State). JudgesParts z s3 words (parts z.env y (collection h))) told2 parted) in
      let told3 : s3 ≡ reported_in judged.env old.diagnostics vs2 = judging.0 ∙ reported_more judged.env old.diagnostics vs1 judged.violations in
      let first_is : first ≡ length old.env.parameters = firsts ∙ ap (λ (z : State). length z.env.parameters) told2 in
      let count_is : count ≡ length head.rows = counts ∙ ap (λ (k : Collected). length k.rows) heads.1 in
      let mark_is : mark ≡ length named.env.names = inner ∙ ap (λ (z : State). length z.env.names) declared in
      let row_reported : row ≡ row_is =
      rowed ∙ ap (λ (z : State). row_as z.env y first count words) told3
      ∙ (λ i. row_as judged.env y (first_is i) (count_is i) words)
      ∙ ap (λ (n : ℕ). let one : SystemRow = record row_is { words = n } in one)
      (words_are y.sort (length head.rows) own.words (need_statements judged.env y.body.list) words judging.1) in
      let ms_is : ms ≡ routine_members (drop (length named.env.names) judged.env.names) =
      found ∙ ap (λ (z : State). routine_members (drop mark z.env.names)) told3 ∙ ap (λ n. routine_members (drop n judged.env.names)) mark_is in
      let names : take mark judged.env.names ≡ named.env.names =
      ap (λ n. take n judged.env.names) mark_is ∙ left_names named.env.names judged.env.names parts_begin in
      let left_reported : s4 ≡ reported_in (with_names named.env.names judged.env) old.diagnostics vs2 =
      left ∙ ap (λ (z : State). let st : State = record z { env = with_names (take mark z.env.names) z.env } in st) told3
      ∙ ap (λ (ns : Names). reported_in (with_names ns judged.env) old.diagnostics vs2) names in
      let ended : Environment =
      record (added_system judged.env row_is (routine_members (drop (length named.env.names) judged.env.names))) {
        names = named.env.names;
        region = old.env.region;
      } in
      finished
      ∙ (λ i. with_finished (left_reported i) (at i) old.env.region (row_reported i) (ms_is i))
      ∙ ap (λ (v : Environment). reported_in v old.diagnostics vs2)
      (set_in old.env ended entity.UnfinishedType (entity.Type (length judged.env.types)) (x ∷ []) refl)
      ∙ ap (λ vs. record { env = (define_system old.env x y).env; diagnostics = least old.diagnostics vs }) regrouped
    where
      regroup : (as' os rs bs : Violations) → as' ++ ((os ++ rs) ++ bs) ≡ ((as' ++ os) ++ rs) ++ bs
      regroup as' os rs bs = sym (append_assoc as' (os ++ rs) bs) ∙ ap (λ vs. vs ++ bs) (sym (append_assoc as' os rs))

      regrouped : (named.violations ++ head.violations) ++ judged.violations ≡ (define_system old.env x y).violations
      regrouped =
          let all = d.routines own.env y.sort y.routines in
          regroup (named.violations ++ head.violations) own.violations all.violations (statements all.env y.body.list)
