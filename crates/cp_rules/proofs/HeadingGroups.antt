-- A group of parameters: its names are visible while its type is judged. Then they are hidden. Also, what is collected of a heading group by group.
use Rattle.std.proofs.Common.{◌≡◌, ◌≤◌, ◌+◌, ◌*◌, ◌∷◌, ◌++◌, [], Bool, true, false, ℕ, List, Option, Result, length, replicate, subst, refl, ap, sym, ◌∙◌, append_assoc, append-nil, arith}
use Rattle.cp_model.specs.Syntax as s
use Rattle.cp_model.specs.declared.tree.Sort.{Sort}
use Rattle.cp_model.specs.declared.rules.Entity.{Entity}
use Rattle.cp_model.specs.declared.rules.Entity.TheVariants as entity
use Rattle.cp_model.specs.declared.rules.ParameterRow.{ParameterRow}
use Rattle.cp_model.specs.declared.rules.Rule.{Rule}
use Rattle.cp_model.specs.declared.rules.Violation.{Violation}
use Rattle.cp_model.specs.RulesEnvironment.{Environment, Names}
use Rattle.cp_model.specs.RulesEnvironment as r
use Rattle.cp_model.specs.RulesDeclarations as d
use Rattle.cp_model.specs.RulesJudged.{Broken, Judged, Sound, Violations, least, meaning_of, then_judge, violations_of}
use Rattle.cp_model.specs.RulesTypes.{cap_words, named_type}
use Rattle.cp_rules_body.proofs.Reports.{least_append}
use Rattle.cp_rules.specs.Checking.{Judges, State, after, first_of, reporting, with_set}
use Rattle.cp_rules.specs.Declaring.{entity_of_type}
use Rattle.cp_rules.specs.Headings.{Bound, Collected, bound_as, hidden_group, is_by_reference, parameter_judged, row_of_type, with_heading, with_names, with_part, words_of_parameter}
use Rattle.cp_rules.proofs.Groups.{entity_is}
use Rattle.cp_rules.proofs.Finished.{set_in}
use Rattle.cp_rules.proofs.Kept.{declare_all_is}

module _ (old : State) (of : Option Sort) (is_function : Bool) (g : s.Parameters) where
  abbrev defined : d.Declared
  defined = d.declare_all old.env d.unfinished_variable g.names

  abbrev var : Violations
  var = d.c7_c11_var (d.var_rule of is_function) g.by_reference

  abbrev judged : Judged ℕ
  judged = parameter_judged old.env of g

  abbrev hidden : Environment
  hidden = (d.declare_all old.env entity.Hidden g.names).env

  abbrev reported_after : Environment → Violations → State
  reported_after e vs = record { env = e; diagnostics = least old.diagnostics vs }

  more : (e : Environment) (vs ws : Violations) → reporting (reported_after e vs) ws ≡ reported_after e (vs ++ ws)
  more e vs ws = ap (λ t. let st : State = record { env = e; diagnostics = t } in st) (sym (least_append old.diagnostics vs ws))

  -- the type is judged the same while the names are being defined
  same_judged : then_judge (named_type defined.env g.of) (d.c7_c8_parameter defined.env of g.of.at) ≡ judged
  same_judged =
      ap (λ (e : Environment). then_judge (named_type defined.env g.of) (d.c7_c8_parameter e of g.of.at))
      (declare_all_is old.env d.unfinished_variable g.names)

  pub group_hidden : (s1 s2 s3 s4 : State) (mark : ℕ) (rule : Option Rule) (t : Result ℕ Violation)
      → mark ≡ length old.env.names → s1 ≡ after old defined → rule ≡ d.var_rule of is_function
      → s2 ≡ reporting s1 (d.c7_c11_var rule g.by_reference)
      → Judges s2 s3 t (then_judge (named_type s2.env g.of) (d.c7_c8_parameter s2.env of g.of.at))
      → s4 ≡ with_set s3 mark entity.Hidden
      → (s4 ≡ hidden_group old of is_function g) × (t ≡ first_of judged)
  group_hidden s1 s2 s3 s4 mark rule t at inside ruled var_reported judging hiding =
      let told2 : s2 ≡ reported_after defined.env (defined.violations ++ var) =
      var_reported ∙ ap (λ (z : State). reporting z (d.c7_c11_var rule g.by_reference)) inside
      ∙ ap (λ o. reporting (after old defined) (d.c7_c11_var o g.by_reference)) ruled ∙ more defined.env defined.violations var in
      let judges : Judges (reported_after defined.env (defined.violations ++ var)) s3 t judged =
      subst (λ j. Judges (reported_after defined.env (defined.violations ++ var)) s3 t j) same_judged
      (subst (λ (z : State). Judges z s3 t (then_judge (named_type z.env g.of) (d.c7_c8_parameter z.env of g.of.at))) told2 judging) in
      let all : Violations = defined.violations ++ var ++ violations_of judged in
      let told3 : s3 ≡ reported_after defined.env all = judges.0 ∙ more defined.env (defined.violations ++ var) (violations_of judged) in
      let outside : r.with_names old.env.names defined.env ≡ old.env =
      ap (r.with_names old.env.names) (declare_all_is old.env d.unfinished_variable g.names) in
      let hidden_in : (d.declare_all (r.with_names old.env.names defined.env) entity.Hidden g.names).env ≡ hidden =
      ap (λ (env : Environment). (d.declare_all env entity.Hidden g.names).env) outside in (
        hiding ∙ (λ i. with_set (told3 i) (at i) entity.Hidden)
            ∙ ap (λ (env : Environment). reported_after env all) (set_in old.env defined.env d.unfinished_variable entity.Hidden g.names refl ∙ hidden_in),
        judges.1,
      )

  -- ---- what is collected of the group

  row_is : (by_reference : Bool) (j : Judged ℕ) → row_of_type by_reference (first_of j) ≡ record { by_reference = by_reference; of = meaning_of j }
  row_is by_reference (Sound x) = refl
  row_is by_reference (Broken v vs) = refl

  words_is : (names : Names) (by_reference : Bool) (j : Judged ℕ)
      → words_of_parameter (r.with_names names old.env) by_reference (first_of j) ≡ d.parameter_words old.env by_reference j
  words_is names true j = refl
  words_is names false (Sound x) = refl
  words_is names false (Broken v vs) = refl

  abbrev by_reference : Bool
  by_reference = is_by_reference of g

  abbrev group : d.Heading
  group = d.parameter_group old.env of is_function g

  add_words : (words w each n sum : ℕ) → each ≡ w → n ≡ cap_words (length g.names * each) → sum ≡ cap_words (words + n)
      → sum ≡ cap_words (words + length g.names * w)
  add_words words w each n sum h k l =
      l ∙ ap (λ (m : ℕ). cap_words (words + m)) (k ∙ ap (λ (m : ℕ). cap_words (length g.names * m)) h) ∙ capped_sum words (length g.names * w)
    where
      capped_sum : (a b : ℕ) → cap_words (a + cap_words b) ≡ cap_words (a + b)
      capped_sum a b = omega arith

  pub group_collected : (k added : Collected) (new : State) (t : Result ℕ Violation) (e : Entity) (row : ParameterRow) (each n sum : ℕ)
      → new ≡ hidden_group old of is_function g → t ≡ first_of judged → e ≡ entity_of_type (d.parameter_entity by_reference) t
      → row ≡ row_of_type by_reference t → each ≡ words_of_parameter new.env by_reference t
      → n ≡ cap_words (length g.names * each) → sum ≡ cap_words (k.words + n) → added ≡ with_names k e row g.names
      → record added { words = sum } ≡ with_part k group
  group_collected k added new t e row each n sum hiding judging represents rows words counting summing adding =
      let e_is : e ≡ r.entity_of (d.parameter_entity by_reference) judged =
      represents ∙ ap (entity_of_type (d.parameter_entity by_reference)) judging ∙ entity_is (d.parameter_entity by_reference) judged in
      let row_is_one : row ≡ record { by_reference = by_reference; of = meaning_of judged } =
      rows ∙ ap (row_of_type by_reference) judging ∙ row_is by_reference judged in
      let each_is : each ≡ d.parameter_words old.env by_reference judged =
      words ∙ ap (λ (z : State). words_of_parameter z.env by_reference t) hiding ∙ ap (words_of_parameter hidden by_reference) judging
      ∙ ap (λ (env : Environment). words_of_parameter env by_reference (first_of judged)) (declare_all_is old.env entity.Hidden g.names)
      ∙ words_is hidden.names by_reference judged in
      let sum_is : sum ≡ cap_words (k.words + group.words) = add_words k.words _ each n sum each_is counting summing in
      ap (λ (a : Collected). let b : Collected = record a { words = sum } in b) adding
      ∙ (λ i. record {
        bound = k.bound ++ bound_as (e_is i) g.names;
        rows = k.rows ++ replicate (length g.names) (row_is_one i);
        words = sum_is i;
      })

-- ---- one group, and then the rest

module _ (old new : State) (of : Option Sort) (is_function : Bool) (g : s.Parameters) (gs : List s.Parameters) where
  abbrev one : d.Heading
  one = d.parameter_group old.env of is_function g

  abbrev rest : d.Heading
  rest = d.heading one.env of is_function gs

  abbrev whole : d.Heading
  whole = d.heading old.env of is_function (g ∷ gs)

  pub rest_judged : new ≡ hidden_group old of is_function g → with_heading new (d.heading new.env of is_function gs) ≡ with_heading old whole
  rest_judged same =
      ap (λ (z : State). with_heading z (d.heading z.env of is_function gs)) same
      ∙ ap (λ t. let st : State = record { env = rest.env; diagnostics = t } in st) (sym (least_append old.diagnostics one.violations rest.violations))

  rest_words : (words m : ℕ) → cap_words (cap_words (words + m) + rest.words) ≡ cap_words (words + (m + rest.words))
  rest_words words m = omega arith

  pub rest_collected : new ≡ hidden_group old of is_function g → (k more : Collected) → more ≡ with_part k one
      → with_part more (d.heading new.env of is_function gs) ≡ with_part k whole
  rest_collected same k more h =
      ap (λ (z : State). with_part more (d.heading z.env of is_function gs)) same
      ∙ ap (λ (m : Collected). with_part m rest) h
      ∙ (λ i. record {
        bound = append_assoc k.bound one.bound rest.bound i;
        rows = append_assoc k.rows one.rows rest.rows i;
        words = rest_words k.words one.words i;
      })

pub end_collected : (k : Collected) (h : d.Heading) → h.bound ≡ [] → h.rows ≡ [] → h.words ≡ 0 → k.words ≤ 65537 → k ≡ with_part k h
end_collected k h bound rows words within =
    λ i. record {
      bound = sym (ap (λ (b : Bound). k.bound ++ b) bound ∙ append-nil k.bound) i;
      rows = sym (ap (λ (rs : List ParameterRow). k.rows ++ rs) rows ∙ append-nil k.rows) i;
      words = same i;
    }
  where
    same : k.words ≡ cap_words (k.words + h.words)
    same = omega (arith, words, within)
