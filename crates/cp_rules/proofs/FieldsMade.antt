-- Records: what the code makes of fields from the left is what the definitions make of them.
use Rattle.std.proofs.Common.{◌≡◌, ◌+◌, ◌∷◌, ◌++◌, ◌||◌, ℕ, Bool, true, false, not, List, [], Option, None, Some, is_some, if◌then◌else◌, map, bytes_eq, refl, ap, subst, sym, ◌∙◌, append_assoc, append-nil}
use Rattle.std.proofs.lemmas.Slice.Eq.{bytes_eq-Decides}
use Rattle.cp_model.specs.Names.{lookup}
use Rattle.cp_model.specs.Syntax as s
use Rattle.cp_model.specs.View.{fields_of}
use Rattle.cp_model.specs.declared.tree.Identifier.{Identifier}
use Rattle.cp_model.specs.declared.rules.Member.{Member}
use Rattle.cp_model.specs.declared.rules.Member.TheVariants as member
use Rattle.cp_model.specs.declared.rules.Rule.TheVariants.{C1, C13}
use Rattle.cp_model.specs.RulesJudged.{Broken, Judged, Sound, Violations, also, both, guard, then_judge, unless, violations_of}
use Rattle.cp_model.specs.RulesEnvironment.{Environment, Members, Text, row_of}
use Rattle.cp_model.specs.RulesTypes as ty
use Rattle.cp_model.proofs.Judging.{first_empty, rest_empty, sound_has}
use Rattle.cp_base_names.specs.Tables.{with_new}
use Rattle.cp_rules.specs.Records as records
use Rattle.cp_base_names.specs.Tables.{with_new}
use Rattle.cp_rules.specs.Records.{first_in, is_new, with_field, with_fields}
use Rattle.cp_rules.proofs.ArraysMade.{Reported}

-- ---- names that were seen, and names of the fields so far

abbrev pub Same : List Text → Members → Type 0
Same seen ms = (y : Text) → ty.has_name y seen ≡ is_some (lookup y ms)

has_more : (y : Text) (seen : List Text) (x : Text) → ty.has_name y (seen ++ x ∷ []) ≡ ty.has_name y seen || bytes_eq y x
has_more y [] x = or_false (bytes_eq y x)
  where
    or_false : (b : Bool) → b || false ≡ b
    or_false true = refl
    or_false false = refl
has_more y (w ∷ ws) x = ap (λ b. bytes_eq y w || b) (has_more y ws x) ∙ or_assoc (bytes_eq y w)
  where
    or_assoc : (a : Bool) → a || (ty.has_name y ws || bytes_eq y x) ≡ (a || ty.has_name y ws) || bytes_eq y x
    or_assoc true = refl
    or_assoc false = refl

found_more : (y x : Text) (m : Member) (ms : Members) → is_some (lookup y (ms ++ (x, m) ∷ [])) ≡ is_some (lookup y ms) || bytes_eq y x
found_more y x m [] = go (bytes_eq y x)
  where
    go : (b : Bool) → is_some (if b then Some m else None) ≡ b
    go true = refl
    go false = refl
found_more y x m (n ∷ ns) = go (bytes_eq y n.0) (found_more y x m ns)
  where
    go : (b : Bool) → is_some (lookup y (ns ++ (x, m) ∷ [])) ≡ is_some (lookup y ns) || bytes_eq y x
        → is_some (if b then Some n.1 else lookup y (ns ++ (x, m) ∷ [])) ≡ is_some (if b then Some n.1 else lookup y ns) || bytes_eq y x
    go true h = refl
    go false h = h

same_more : (seen : List Text) (ms : Members) (x : Identifier) (t : ℕ) → Same seen ms → Same (seen ++ x.name ∷ []) (with_field ms x t)
same_more seen ms x t same y = has_more y seen x.name ∙ ap (λ b. b || bytes_eq y x.name) (same y) ∙ go (lookup x.name ms) refl
  where
    go : (o : Option Member) → lookup x.name ms ≡ o → is_some (lookup y ms) || bytes_eq y x.name ≡ is_some (lookup y (with_new x.name (member.Field t) ms o))
    go None h = sym (found_more y x.name (member.Field t) ms)
    go (Some m) h = there (bytes_eq y x.name) refl
      where
        there : (b : Bool) → bytes_eq y x.name ≡ b → is_some (lookup y ms) || b ≡ is_some (lookup y ms)
        there false g = or_false (is_some (lookup y ms))
          where
            or_false : (b : Bool) → b || false ≡ b
            or_false true = refl
            or_false false = refl
        there true g =
            let found : is_some (lookup y ms) ≡ true = ap (λ z. is_some (lookup z ms)) ((bytes_eq-Decides y x.name).0 g) ∙ ap is_some h in
            ap (λ b. b || true) found ∙ sym found

pub same_all : (seen : List Text) (ms : Members) (t : ℕ) (xs : List Identifier) → Same seen ms → Same (seen ++ map ty.name_of xs) (with_fields ms t xs).members
same_all seen ms t [] same = λ y. ap (ty.has_name y) (append-nil seen) ∙ same y
same_all seen ms t (x ∷ xs) same =
    λ y. ap (ty.has_name y) (sym (append_assoc seen (x.name ∷ []) (map ty.name_of xs)))
    ∙ same_all (seen ++ x.name ∷ []) (with_field ms x t) t xs (same_more seen ms x t same) y

pub same_violations : (seen : List Text) (ms : Members) (t : ℕ) (xs : List Identifier) → Same seen ms
    → (with_fields ms t xs).violations ≡ ty.c1_fields seen xs
same_violations seen ms t [] same = refl
same_violations seen ms t (x ∷ xs) same =
    (λ i. unless (not (sym (same x.name) i)) C1 x.at ++ same_violations (seen ++ x.name ∷ []) (with_field ms x t) t xs (same_more seen ms x t same) i)

-- ---- fields that are all new

new_field : (ms : Members) (x : Identifier) (t : ℕ) (o : Option Member) → unless (not (is_some o)) C1 x.at ≡ [] → with_new x.name (member.Field t) ms o ≡ ms ++ (x.name, member.Field t) ∷ []
new_field ms x t None h = refl
new_field ms x t (Some m) h = absurd (cc)

pub all_new : (ms : Members) (t : ℕ) (xs : List Identifier) → (with_fields ms t xs).violations ≡ []
    → (with_fields ms t xs).members ≡ ms ++ ty.field_members (ty.fields_of_type xs t)
all_new ms t [] h = sym (append-nil ms)
all_new ms t (x ∷ xs) h =
    let first = first_empty (unless (is_new ms x) C1 x.at) (with_fields (with_field ms x t) t xs).violations h in
    let rest = rest_empty (unless (is_new ms x) C1 x.at) (with_fields (with_field ms x t) t xs).violations h in
    all_new (with_field ms x t) t xs rest
    ∙ ap (λ ns. ns ++ ty.field_members (ty.fields_of_type xs t)) (new_field ms x t (lookup x.name ms) first)
    ∙ append_assoc ms ((x.name, member.Field t) ∷ []) (ty.field_members (ty.fields_of_type xs t))

-- ---- groups

also_violations : {A : Type 0} (vs : Violations) (j : Judged A) → violations_of (also vs j) ≡ vs ++ violations_of j
also_violations [] j = refl
also_violations (v ∷ vs) j = refl

appended_violations : (xs : List Identifier) (a : Judged ℕ) (b : Judged ty.FieldList)
    → violations_of (both a b (λ u fs. ty.append_fields (ty.fields_of_type xs u) fs)) ≡ violations_of a ++ violations_of b
appended_violations xs (Sound u) (Sound fs) = refl
appended_violations xs (Sound u) (Broken v vs) = refl
appended_violations xs (Broken v vs) b = refl

field_members_append : (fs gs : ty.FieldList) → ty.field_members (fs ++ gs) ≡ ty.field_members fs ++ ty.field_members gs
field_members_append [] gs = refl
field_members_append (f ∷ fs) gs = ap (λ ms. (f.0, member.Field f.1) ∷ ms) (field_members_append fs gs)

-- how the definitions judge the groups, in terms of the code
pub record GroupsReported (d : ty.Made (Judged ty.FieldList)) (ms : Members) (g : records.Grouped) : Type 0 where
  pub env : g.env ≡ d.env
  pub violations : g.violations ≡ violations_of d.of
  pub members : (fs : ty.FieldList) → d.of ≡ Sound fs → g.members ≡ ms ++ ty.field_members fs

pub groups_reported : (env : Environment) (seen : List Text) (ms : Members) (gs : List s.Variables) → Same seen ms
    → GroupsReported (ty.fields_of env seen (fields_of gs)) ms (records.groups env ms gs)
groups_reported env seen ms [] same = record {
  env = refl;
  violations = refl;
  members = λ fs h. sym (append-nil ms) ∙ ap (λ hs. ms ++ ty.field_members hs) (injected fs h);
}
  where
    injected : (fs : ty.FieldList) → (let j : Judged ty.FieldList = Sound [] in j ≡ Sound fs) → [] ≡ fs
    injected fs h = cc
groups_reported env seen ms (g ∷ gs) same =
    let xs : List Identifier = g.names in
    let one : ty.Made (Judged ℕ) = ty.type_of env g.of in
    let placed : Judged ℕ = records.type_of_group env g.of in
    let u : ℕ = records.type_or_any placed in
    let own : records.Fields = with_fields ms u xs in
    let rest : ty.Made (Judged ty.FieldList) = ty.fields_of one.env (seen ++ map ty.name_of xs) (fields_of gs) in
    let more : records.Grouped = records.groups one.env own.members gs in
    let diagnostics : GroupsReported rest own.members more = groups_reported one.env (seen ++ map ty.name_of xs) own.members gs (same_all seen ms u xs same) in
    let names : Violations = ty.c1_fields seen xs in
    let named : own.violations ≡ names = same_violations seen ms u xs same in
    let inner : Judged ty.FieldList = both placed rest.of (λ v fs. ty.append_fields (ty.fields_of_type xs v) fs) in
    let listed : violations_of (also names inner) ≡ names ++ (violations_of placed ++ violations_of rest.of) =
    also_violations names inner ∙ ap (λ vs. names ++ vs) (appended_violations xs placed rest.of) in
    record {
      env = diagnostics.env;
      violations = append_assoc own.violations (violations_of placed) more.violations
          ∙ (λ i. named i ++ (violations_of placed ++ diagnostics.violations i)) ∙ sym listed;
      members = λ fs h.
          let none : names ++ (violations_of placed ++ violations_of rest.of) ≡ [] = sym listed ∙ ap violations_of h in
          let no_names : names ≡ [] = first_empty names _ none in
          let none_in : violations_of placed ++ violations_of rest.of ≡ [] = rest_empty names _ none in
          let a = sound_has placed (first_empty (violations_of placed) (violations_of rest.of) none_in) in
          let b = sound_has rest.of (rest_empty (violations_of placed) (violations_of rest.of) none_in) in
          let whole : Sound (ty.fields_of_type xs a.0 ++ b.0) ≡ Sound fs =
          sym (λ i. also (no_names i) (both (a.1 i) (b.1 i) (λ v fs. ty.append_fields (ty.fields_of_type xs v) fs))) ∙ h in
          let fs_are : ty.fields_of_type xs a.0 ++ b.0 ≡ fs = cc in
          let u_is : u ≡ a.0 = ap records.type_or_any a.1 in
          diagnostics.members b.0 b.1
          ∙ ap (λ ns. ns ++ ty.field_members b.0) (all_new ms u xs (named ∙ no_names) ∙ ap (λ v. ms ++ ty.field_members (ty.fields_of_type xs v)) u_is)
          ∙ append_assoc ms (ty.field_members (ty.fields_of_type xs a.0)) (ty.field_members b.0)
          ∙ ap (λ ns. ms ++ ns) (sym (field_members_append (ty.fields_of_type xs a.0) b.0))
          ∙ ap (λ hs. ms ++ ty.field_members hs) fs_are;
    }

-- ---- the record

words_are : (env : Environment) (fs : ty.FieldList) → records.words_of_members env (ty.field_members fs) ≡ ty.words_of_fields env fs
words_are env [] = refl
words_are env (f ∷ fs) = ap (λ n. (row_of env f.1).words + n) (words_are env fs)

record_if_reported : (env : Environment) (at : ℕ) (fs : ty.FieldList) (within : Bool)
    → Reported (ty.made_record env (guard within C13 at fs)) [] (records.record_if env at (ty.field_members fs) within)
record_if_reported env at fs true = record {
  env = ap (λ w. let e : Environment = record env {
    types = env.types ++ record (records.row env (ty.field_members fs)) { words = ty.cap_words w } ∷ [];
    members = env.members ++ ty.field_members fs ∷ [];
  } in e) (words_are env fs);
  of = refl;
  violations = refl;
}
record_if_reported env at fs false = record { env = refl; of = refl; violations = refl }

record_sound : (env : Environment) (at : ℕ) (fs : ty.FieldList)
    → Reported (ty.made_record env (ty.c13_record env at fs)) [] (records.record_of env at (ty.field_members fs) None)
record_sound env at fs =
    subst (λ within. Reported (ty.made_record env (ty.c13_record env at fs)) [] (records.record_if env at (ty.field_members fs) within))
    (ap (λ w. ty.is_within (ty.cap_words w)) (sym (words_are env fs)))
    (record_if_reported env at fs (ty.is_within (ty.record_row env fs).words))

pub record_reported : (env : Environment) (at : ℕ) (j : Judged ty.FieldList) (ms : Members) → ((fs : ty.FieldList) → j ≡ Sound fs → ms ≡ ty.field_members fs)
    → Reported (ty.made_record env (then_judge j (ty.c13_record env at))) (violations_of j) (records.record_of env at ms (first_in (violations_of j)))
record_reported env at (Sound fs) ms members =
    subst (λ ns. Reported (ty.made_record env (ty.c13_record env at fs)) [] (records.record_of env at ns None)) (sym (members fs refl)) (record_sound env at fs)
record_reported env at (Broken v vs) ms members = record { env = refl; of = refl; violations = sym (append-nil (v ∷ vs)) }
