-- A routine: its heading is judged and left. Then its variables and its body are judged inside, and
-- left. Its name keeps its place, and represents what is known of the routine.
use Rattle.std.proofs.Common.{◌≡◌, ◌+◌, ◌∷◌, ◌++◌, ℕ, List, [], Option, None, Some, Result, is_some, length, take, subst, refl, ap, sym, ◌∙◌, append_assoc, arith}
use Rattle.cp_model.specs.Syntax as s
use Rattle.cp_model.specs.declared.tree.Sort.{Sort}
use Rattle.cp_model.specs.declared.rules.Entity.TheVariants as entity
use Rattle.cp_model.specs.declared.rules.Position.TheVariants as position
use Rattle.cp_model.specs.declared.rules.RoutineRow.{RoutineRow}
use Rattle.cp_model.specs.declared.rules.Violation.{Violation}
use Rattle.cp_model.specs.RulesJudged.{Broken, Judged, Sound, Violations, least}
use Rattle.cp_model.specs.RulesEnvironment.{Environment, Names, declare, no_routine, with_names}
use Rattle.cp_model.specs.RulesNeeds.{need_statements}
use Rattle.cp_model.specs.RulesStatements.{statements}
use Rattle.cp_model.specs.RulesTypes.{cap_words}
use Rattle.cp_model.specs.RulesDeclarations as d
use Rattle.cp_base_names.specs.Tables.{with_values_from}
use Rattle.cp_rules.specs.Checking.{State, after, declared_name, reporting, with_set}
use Rattle.cp_rules.specs.Declaring.{Declares}
use Rattle.cp_rules.specs.Headings.{Collected, Heads, collection, nothing, with_part}
use Rattle.cp_rules.specs.Routines.{HeadsRoutine, JudgesBody, JudgesResult, answer_of, enter_region, first_if, heading_of, heading_violations, inside, locals, region_of, result_words, returns_of_result, row_as, with_finished, with_name}
use Rattle.cp_rules.specs.declared.headings.Heading.{Heading}
use Rattle.cp_rules.proofs.Finished.{set_in}
use Rattle.cp_rules.proofs.Kept.{Grows, begins_same, declare_each_grows, grows_trans, heading_left, left_names, variables_grow}
use Rattle.cp_rules.proofs.Reporting.{reported_in, reported_more}

module _ (old : State) (y : Sort) (r : s.Routine) where
  -- ---- the heading

  abbrev named : d.Declared
  named = declared_name old.env r.name (entity.UnfinishedRoutine no_routine)

  abbrev head : d.Heading
  head = heading_of old.env r

  abbrev entry : Violations
  entry = d.c5_entry y r.entry

  pub routine_headed : (s1 s2 s3 s4 s5 : State) (h : Heading) (answer : Option (Result ℕ Violation)) (mark : ℕ)
      → s1 ≡ after old named → mark ≡ length s1.env.names → s2 ≡ reporting s1 entry
      → Heads s2 s3 h (d.heading s2.env None (is_some r.result_type) r.parameters)
      → JudgesResult s3 s4 answer (d.result_type s3.env r.result_type)
      → s5 ≡ record s4 { env = with_names (take mark s4.env.names) s4.env }
      → HeadsRoutine old s5 h answer y r
  routine_headed s1 s2 s3 s4 s5 h answer mark declared at entered headed judged outside =
      let vs1 : Violations = named.violations ++ entry in
      let vs2 : Violations = vs1 ++ head.violations in
      let vs3 : Violations = vs2 ++ d.result_violations (answer_of old.env r) in
      let told2 : s2 ≡ reported_in named.env old.diagnostics vs1 =
      entered ∙ ap (λ (z : State). reporting z entry) declared ∙ reported_more named.env old.diagnostics named.violations entry in
      let heads : Heads (reported_in named.env old.diagnostics vs1) s3 h head =
      subst (λ (z : State). Heads z s3 h (d.heading z.env None (is_some r.result_type) r.parameters)) told2 headed in
      let told3 : s3 ≡ reported_in head.env old.diagnostics vs2 = heads.0 ∙ reported_more head.env old.diagnostics vs1 head.violations in
      let judges : JudgesResult (reported_in head.env old.diagnostics vs2) s4 answer (answer_of old.env r) =
      subst (λ (z : State). JudgesResult z s4 answer (d.result_type z.env r.result_type)) told3 judged in
      let told4 : s4 ≡ reported_in head.env old.diagnostics vs3 = judges.0 ∙ reported_more head.env old.diagnostics vs2 (d.result_violations (answer_of old.env r)) in
      let told5 : s5 ≡ with_name old y r =
      outside ∙ ap (λ (z : State). let st : State = record z { env = with_names (take mark z.env.names) z.env } in st) told4
      ∙ ap (λ (n : ℕ). reported_in (with_names (take n head.env.names) head.env) old.diagnostics vs3) (at ∙ ap (λ (z : State). length z.env.names) declared)
      ∙ ap (λ (e : Environment). reported_in e old.diagnostics vs3) (heading_left named.env None (is_some r.result_type) r.parameters) in
      (told5, heads.1, judges.1)

  -- ---- the variables and the body

  pub body_judged : (k : Collected) (s1 s2 s3 : State) (words need n : ℕ)
      → s1 ≡ record old { env = inside old.env y r k }
      → Declares s1 s2 words (locals s1.env r)
      → s3 ≡ reporting s2 (statements s2.env r.body.list)
      → need ≡ need_statements s3.env r.body.list
      → n ≡ cap_words (words + need)
      → JudgesBody old s3 n (locals (inside old.env y r k) r) r.body
  body_judged k s1 s2 s3 words need n within declared judged needed counted =
      let env : Environment = inside old.env y r k in
      let own : d.Variables = locals env r in
      let declares : Declares (record old { env = env }) s2 words own = subst (λ (z : State). Declares z s2 words (locals z.env r)) within declared in
      let told3 : s3 ≡ reported_in own.env old.diagnostics (own.violations ++ statements own.env r.body.list) =
      judged ∙ ap (λ (z : State). reporting z (statements z.env r.body.list)) declares.0
      ∙ reported_more own.env old.diagnostics own.violations (statements own.env r.body.list) in
      let need_is : need ≡ need_statements own.env r.body.list = needed ∙ ap (λ (z : State). need_statements z.env r.body.list) told3 in
      let words_is : words ≡ cap_words own.words = declares.1 in (
        told3,
        counted ∙ ap (λ m. cap_words (words + m)) need_is ∙ ap (λ m. cap_words (m + need_statements own.env r.body.list)) words_is
            ∙ capped_more own.words (need_statements own.env r.body.list),
      )
    where
      capped_more : (a b : ℕ) → cap_words (cap_words a + b) ≡ cap_words (a + b)
      capped_more a b = omega arith

  -- ---- the whole

  returns_is : (j : Option (Judged ℕ)) → returns_of_result (first_if j) ≡ d.returns_of j
  returns_is None = refl
  returns_is (Some (Sound t)) = refl
  returns_is (Some (Broken v vs)) = refl

  words_is : (j : Option (Judged ℕ)) → result_words (first_if j) ≡ d.result_words j
  words_is None = refl
  words_is (Some j) = refl

  abbrev row_is : RoutineRow
  row_is = record {
    entry = is_some r.entry;
    first = length old.env.parameters;
    count = length head.rows;
    returns = d.returns_of (answer_of old.env r);
    need = 0;
  }

  row_reported : (h : Heading) (s1 : State) (answer : Option (Result ℕ Violation)) (row : RoutineRow) (first count : ℕ)
      → HeadsRoutine old s1 h answer y r
      → first ≡ length s1.env.parameters → count ≡ length h.rows.items → row ≡ row_as first count r.entry answer → row ≡ row_is
  row_reported h s1 answer row first count headed firsts counts rows =
      let first_is : first ≡ length old.env.parameters = firsts ∙ ap (λ (z : State). length z.env.parameters) headed.0 in
      let count_is : count ≡ length head.rows = counts ∙ ap (λ (k : Collected). length k.rows) headed.1 in
      rows
      ∙ (λ i. record {
        entry = is_some r.entry;
        first = first_is i;
        count = count_is i;
        returns = returns_of_result (headed.2 i);
        need = 0;
      })
      ∙ ap (λ returned. let one : RoutineRow = record row_is { returns = returned } in one) (returns_is (answer_of old.env r))

  -- the environment in which the name represents the routine as far as it is known
  abbrev started : Environment
  started = declare r.name (entity.UnfinishedRoutine row_is) old.env

  abbrev visible : Environment
  visible = inside started y r (with_part nothing head)

  abbrev own : d.Variables
  own = locals visible r

  abbrev all : Violations
  all = heading_violations old.env y r ++ own.violations ++ statements own.env r.body.list

  abbrev need_is : ℕ
  need_is = cap_words (1 + d.result_words (answer_of old.env r) + head.words + own.words + need_statements own.env r.body.list)

  own_grows : Grows started own.env
  own_grows =
      let within : Environment = enter_region started head.rows (region_of y r) in
      let first : Grows started within = record { names = begins_same started.names; routines = refl } in
      grows_trans started visible own.env
      (grows_trans started within visible first (declare_each_grows within head.bound))
      (variables_grow visible position.RoutineVariable r.variables)

  all_words : (answer result heading collection inside counted words need : ℕ)
      → answer ≡ result → collection ≡ cap_words (0 + heading) → counted ≡ cap_words (words + need)
      → cap_words (cap_words (1 + answer + collection) + counted) ≡ cap_words (1 + result + heading + words + need)
  all_words answer result heading collection inside counted words need h k l = omega (arith, h, k, l)

  started_reported : (s1 s2 : State) (row : RoutineRow) (mark : ℕ) → s1 ≡ with_name old y r → mark ≡ length old.env.names → row ≡ row_is
      → s2 ≡ with_set s1 mark (entity.UnfinishedRoutine row) → s2 ≡ reported_in started old.diagnostics (heading_violations old.env y r)
  started_reported s1 s2 row mark headed at rowed set =
      set ∙ (λ i. with_set (headed i) (at i) (entity.UnfinishedRoutine (rowed i)))
      ∙ ap (λ (v : Environment). reported_in v old.diagnostics (heading_violations old.env y r))
      (set_in old.env named.env (entity.UnfinishedRoutine no_routine) (entity.UnfinishedRoutine row_is) (r.name ∷ []) refl)

  body_reported : (h : Heading) (s2 s3 : State) (n : ℕ)
      → s2 ≡ reported_in started old.diagnostics (heading_violations old.env y r) → collection h ≡ with_part nothing head
      → JudgesBody s2 s3 n (locals (inside s2.env y r (collection h)) r) r.body
      → (s3 ≡ reported_in own.env old.diagnostics all) × (n ≡ cap_words (own.words + need_statements own.env r.body.list))
  body_reported h s2 s3 n set kept judged =
      let diagnostics : Violations = heading_violations old.env y r in
      let rest : Violations = own.violations ++ statements own.env r.body.list in
      let own_is : locals (inside s2.env y r (collection h)) r ≡ own =
      ap (λ (z : State). locals (inside z.env y r (collection h)) r) set
      ∙ ap (λ (k : Collected). locals (inside started y r k) r) kept in
      let judges : JudgesBody (reported_in started old.diagnostics diagnostics) s3 n own r.body =
      subst (λ (z : State). JudgesBody z s3 n own r.body) set (subst (λ v. JudgesBody s2 s3 n v r.body) own_is judged) in (
        judges.0 ∙ reported_more own.env old.diagnostics diagnostics rest
            ∙ ap (reported_in own.env old.diagnostics) (sym (append_assoc diagnostics own.violations (statements own.env r.body.list))),
        judges.1,
      )

  pub routine_declared : (s1 s2 s3 s4 s5 : State) (h : Heading) (answer : Option (Result ℕ Violation)) (row : RoutineRow)
      (outside mark first count words n need : ℕ)
      → outside ≡ length old.env.names → HeadsRoutine old s1 h answer y r
      → first ≡ length s1.env.parameters → count ≡ length h.rows.items → row ≡ row_as first count r.entry answer
      → s2 ≡ with_set s1 outside (entity.UnfinishedRoutine row) → mark ≡ length s2.env.names
      → JudgesBody s2 s3 n (locals (inside s2.env y r (collection h)) r) r.body
      → s4 ≡ record s3 { env = with_names (take mark s3.env.names) s3.env }
      → words ≡ result_words answer → need ≡ cap_words (cap_words (1 + words + h.words) + n)
      → s5 ≡ with_finished s4 outside old.env.region (record row { need = need })
      → s5 ≡ after old (d.routine old.env y r)
  routine_declared s1 s2 s3 s4 s5 h answer row outside mark first count words n need at headed firsts counts rows set inner judged left result needed finished =
      let rowed : row ≡ row_is = row_reported h s1 answer row first count headed firsts counts rows in
      let set_reported = started_reported s1 s2 row outside headed.0 at rowed set in
      let diagnostics = body_reported h s2 s3 n set_reported headed.1 judged in
      let words_are : words ≡ d.result_words (answer_of old.env r) = result ∙ ap result_words headed.2 ∙ words_is (answer_of old.env r) in
      let kept : h.words ≡ cap_words (0 + head.words) = ap (λ (k : Collected). k.words) headed.1 in
      let need_reported : need ≡ need_is =
      needed ∙ all_words words (d.result_words (answer_of old.env r)) head.words h.words n n own.words (need_statements own.env r.body.list) words_are kept diagnostics.1 in
      let mark_is : mark ≡ length started.names = inner ∙ ap (λ (z : State). length z.env.names) set_reported in
      let names : take mark own.env.names ≡ started.names =
      ap (λ m. take m own.env.names) mark_is ∙ left_names started.names own.env.names own_grows.names in
      let left_reported : s4 ≡ reported_in (with_names started.names own.env) old.diagnostics all =
      left ∙ ap (λ (z : State). let st : State = record z { env = with_names (take mark z.env.names) z.env } in st) diagnostics.0
      ∙ ap (λ (ns : Names). reported_in (with_names ns own.env) old.diagnostics all) names in
      let row_now : RoutineRow = record row_is { need = need_is } in
      let row_is_now : record row { need = need } ≡ row_now = (λ i. record (rowed i) { need = need_reported i }) in
      let ended : Environment = record own.env { names = started.names; routines = old.env.routines ++ row_now ∷ []; region = old.env.region } in
      finished
      ∙ (λ i. with_finished (left_reported i) (at i) old.env.region (row_is_now i))
      ∙ (λ i. record {
        env = with_names (with_values_from (length old.env.names) (entity.Routine (length (own_grows.routines i))) started.names) (record own.env {
          routines = own_grows.routines i ++ row_now ∷ [];
          region = old.env.region;
        });
        diagnostics = least old.diagnostics all;
      })
      ∙ ap (λ (v : Environment). reported_in v old.diagnostics all)
      (set_in old.env ended (entity.UnfinishedRoutine row_is) (entity.Routine (length old.env.routines)) (r.name ∷ []) refl)

-- ---- one routine, and then the rest

pub rest_routines : (old new : State) (y : Sort) (r : s.Routine) (rs : List s.Routine) → new ≡ after old (d.routine old.env y r)
    → after new (d.routines new.env y rs) ≡ after old (d.routines old.env y (r ∷ rs))
rest_routines old new y r rs same =
    let one = d.routine old.env y r in
    let rest = d.routines one.env y rs in
    ap (λ (z : State). after z (d.routines z.env y rs)) same ∙ reported_more rest.env old.diagnostics one.violations rest.violations
