-- Labels, in a set and in the definitions: it only matters which labels were seen, not in which
-- order.
use Rattle.std.proofs.Common.{◌≡◌, ◌&&◌, ◌||◌, ◌++◌, ◌-◌, ◌≤◌, ◌<◌, ℕ, ℤ, Bool, true, false, cond, if◌then◌else◌, not, pos, negsuc, nat_eq, int_lt, List, [], ◌∷◌, Option, Ok, Err, is_ok, length, slice_index_or, ⊎_elim, Decides, is_lt, subst, refl, ap, sym, ◌∙◌, arith, eqb-true}
use Rattle.std.proofs.Math.Bool.{and-false, or-false, or-true, or_assoc}
use Rattle.std.proofs.lemmas.Bool.{and_parts, cases_lt, eq-eqb, true≢false}
use Rattle.std.proofs.lemmas.Cmp.{int_cmp_total, tied_back}
use Rattle.std.proofs.lemmas.List.Folds.{list_any-append, list_any_at, list_any_none}
use Rattle.std.proofs.lemmas.List.Sorted.{searchable_from_sorted}
use Rattle.std.specs.List.{list_any}
use Rattle.std.specs.List.Sorted.{IsBinarySearchResult, IsSearchInRange, IsSorted}
use Rattle.std.specs.Ordering.{is_eq, nat_cmp, int_cmp, int_eq, ordering_index, ordering_reverse, ordering_then}
use Rattle.std.specs.declared.result.Result.{Result}
use Rattle.std.specs.declared.cmp.Ordering.{Ordering}
use Rattle.std.specs.declared.cmp.Ordering.TheVariants.{Less, Equal, Greater}
use Rattle.std.proofs.lemmas.Bool.Decides.{nat_tests}
use Rattle.cp_model.specs.RulesJudged.{Judged, Sound, Broken, also, meaning_of, guard, then_judge, unless, violations_of}
use Rattle.cp_model.specs.declared.rules.Rule.TheVariants.{C2, C3}
use Rattle.cp_model.specs.RulesEnvironment.{Environment}
use Rattle.cp_model.specs.RulesStatements.{Label, arms, c2_c3_label, fits_selector, is_among, labels, more_seen, selector_base, statement, with_label}
use Rattle.cp_model.specs.RulesTypes.{constant, constant_at}
use Rattle.cp_model.specs.Syntax as s
use Rattle.cp_model.specs.declared.tree.Constant.{Constant}
use Rattle.cp_model.specs.Integers.{same_integer}
use Rattle.cp_model.proofs.SameIntegers.{equal_integers}
use Rattle.cp_rules_body.specs.Labels.{IsGreatest, NoneGreater, SameLabels, base_if, labels_of}

-- ---- comparing labels

nat_back : (a b : ℕ) → nat_eq a b ≡ nat_eq b a
nat_back a b = grind (arith, nat_tests)

same_nat : (a b : ℕ) → is_eq (nat_cmp a b) ≡ nat_eq a b
same_nat a b = grind (arith, nat_tests)

same_int : (a b : ℤ) → int_eq a b ≡ same_integer a b
same_int (pos a) (pos b) = grind (arith, nat_tests)
same_int (negsuc a) (negsuc b) = grind (arith, nat_tests)
same_int (pos a) (negsuc b) = refl
same_int (negsuc a) (pos b) = refl

int_back : (a b : ℤ) → int_eq a b ≡ same_integer b a
int_back (pos a) (pos b) = same_int (pos a) (pos b) ∙ nat_back a b
int_back (negsuc a) (negsuc b) = same_int (negsuc a) (negsuc b) ∙ nat_back a b
int_back (pos a) (negsuc b) = refl
int_back (negsuc a) (pos b) = refl

both_equal : (o p : Ordering) → is_eq (ordering_then o p) ≡ is_eq o && is_eq p
both_equal Less p = refl
both_equal Equal p = refl
both_equal Greater p = refl

abbrev is_same : Label → Label → Bool
is_same c d = nat_eq c.0 d.0 && same_integer c.1 d.1

abbrev label_eq : Label → Label → Bool
label_eq c d = is_eq (ordering_then (nat_cmp c.0 d.0) (int_cmp c.1 d.1))

same_label : (c d : Label) → label_eq c d ≡ is_same c d
same_label c d = both_equal (nat_cmp c.0 d.0) (int_cmp c.1 d.1) ∙ (λ i. same_nat c.0 d.0 i && same_int c.1 d.1 i)

label_back : (c d : Label) → label_eq c d ≡ is_same d c
label_back c d =
    both_equal (nat_cmp c.0 d.0) (int_cmp c.1 d.1) ∙ (λ i. (same_nat c.0 d.0 ∙ nat_back c.0 d.0) i && int_back c.1 d.1 i)

label_from : (c d : Label) → is_same c d ≡ true → c ≡ d
label_from c d h =
    let parts = and_parts (nat_eq c.0 d.0) (same_integer c.1 d.1) h in
    λ i. (eqb-true c.0 d.0 parts.0 i, equal_integers c.1 d.1 parts.1 i)

-- ---- one more label

among_append : (x : Label) (ls ms : List Label) → is_among x (ls ++ ms) ≡ is_among x ls || is_among x ms
among_append x [] ms = refl
among_append x (l ∷ ls) ms = ap (λ r. is_same x l || r) (among_append x ls ms) ∙ sym (or_assoc (is_same x l) (is_among x ls) (is_among x ms))

among_again : (x c : Label) (ls : List Label) → is_among c ls ≡ true → is_among x ls ≡ is_among x ls || is_same x c
among_again x c ls there = go (is_same x c) refl
  where
    go : (b : Bool) → is_same x c ≡ b → is_among x ls ≡ is_among x ls || b
    go true is = (ap (λ y. is_among y ls) (label_from x c is) ∙ there) ∙ sym (or-true (is_among x ls))
    go false is = sym (or-false (is_among x ls))

-- a label that is added is among the labels, and the others stay
among_with : (x c : Label) (ls : List Label) → is_among x (with_label ls c) ≡ is_among x ls || is_same x c
among_with x c ls = go (is_among c ls) refl
  where
    go : (b : Bool) → is_among c ls ≡ b → is_among x (if b then ls else (ls ++ c ∷ [])) ≡ is_among x ls || is_same x c
    go true is = among_again x c ls is
    go false is = among_append x ls (c ∷ []) ∙ ap (λ r. is_among x ls || r) (or-false (is_same x c))

-- ---- labels of one base type, and others

any_same : (c : Label) (ls : List Label) → list_any (label_eq c) ls ≡ is_among c ls
any_same c [] = refl
any_same c (l ∷ ls) = λ i. same_label c l i || any_same c ls i

any_ordinal : (c : Label) (base : ℕ) (ns : List ℤ) → is_among c (labels_of base ns) ≡ nat_eq c.0 base && list_any (int_eq c.1) ns
any_ordinal c base [] = sym (and-false (nat_eq c.0 base))
any_ordinal c base (n ∷ ns) =
    (λ i. (nat_eq c.0 base && sym (same_int c.1 n) i) || any_ordinal c base ns i) ∙ shared (nat_eq c.0 base) (int_eq c.1 n) (list_any (int_eq c.1) ns)
  where
    shared : (p a b : Bool) → (p && a) || (p && b) ≡ p && (a || b)
    shared p a b = grind (arith)

among_both : (c : Label) (base : ℕ) (ns : List ℤ) (ls : List Label)
    → is_among c (labels_of base ns ++ ls) ≡ (nat_eq c.0 base && list_any (int_eq c.1) ns) || list_any (label_eq c) ls
among_both c base ns ls = among_append c (labels_of base ns) ls ∙ (λ i. any_ordinal c base ns i || sym (any_same c ls) i)

-- ---- ordinals in ascending order

as_Less : (o : Ordering) → ordering_index o ≤ ordering_index Less → o ≡ Less
as_Less Less h = refl
as_Less Equal h = absurd (omega arith)
as_Less Greater h = absurd (omega arith)

lt_is : (b b' : Bool) → is_lt (cond b Less (cond b' Greater Equal)) ≡ b
lt_is true b' = refl
lt_is false true = refl
lt_is false false = refl

-- none is the same or greater if that is so of the last
pub greatest : (ns : List ℤ) (last n : ℤ) → 0 < length ns → ((d : ℤ) → last ≡ slice_index_or ns (length ns - 1) d) → IsSorted int_cmp ns
    → Decides (int_lt last n) (IsGreatest n ns)
greatest ns last n some is sorted = (
  all,
  λ above. sym (lt_is (int_lt last n) (int_lt n last)) ∙ ap (λ m. is_lt (int_cmp m n)) (is last) ∙ ap is_lt (above (length ns - 1) last (omega arith)),
)
  where
    all : int_lt last n ≡ true → IsGreatest n ns
    all below k d inside =
        let less : int_cmp last n ≡ Less = ap (λ b. cond b Less (cond (int_lt n last) Greater Equal)) below in
        let most = searchable_from_sorted int_cmp_total (λ m. m) ns n sorted k (length ns - 1) d (omega arith) (omega arith) in
        as_Less (int_cmp (slice_index_or ns k d) n) (rw (sym (is d), less) at most)

compared_back : (n m : ℤ) (o : Ordering) → int_cmp m n ≡ o → int_eq n m ≡ is_eq (ordering_reverse o)
compared_back n m o h = ap is_eq (int_cmp_total.antisymm n m ∙ ap ordering_reverse h)

none_ascending : (ns : List ℤ) (n : ℤ) → IsGreatest n ns → list_any (int_eq n) ns ≡ false
none_ascending ns n above = list_any_none (int_eq n) ns (λ k d inside. compared_back n (slice_index_or ns k d) Less (above k d inside))

-- what a binary search found
pub found : (ns : List ℤ) (n : ℤ) (r : Result ℕ ℕ) → IsSearchInRange r (length ns) → IsBinarySearchResult (λ m. int_cmp m n) ns r → is_ok r ≡ true
    → list_any (int_eq n) ns ≡ true
found ns n (Ok i) inside at h = list_any_at (int_eq n) ns i n inside (ap is_eq (tied_back int_cmp_total (slice_index_or ns i n) n (at n)))
found ns n (Err i) inside at h = absurd (true≢false (sym h))

pub not_found : (ns : List ℤ) (n : ℤ) (r : Result ℕ ℕ) → IsSorted int_cmp ns → IsBinarySearchResult (λ m. int_cmp m n) ns r → is_ok r ≡ false
    → list_any (int_eq n) ns ≡ false
not_found ns n (Ok i) sorted at h = absurd (true≢false h)
not_found ns n (Err i) sorted at h =
    let around = at (searchable_from_sorted int_cmp_total (λ m. m) ns n sorted) in
    list_any_none (int_eq n) ns (λ k d inside.
    ⊎_elim
    (λ below. compared_back n (slice_index_or ns k d) Less (around.0 k d (omega arith) below))
    (λ above. compared_back n (slice_index_or ns k d) Greater (around.1 k d above inside))
    (cases_lt k i))

-- ---- one more label, in ascending order or not

-- a label that wasn't found in ascending order is among the others or nowhere
pub among_others : (c : Label) (base : ℕ) (ns : List ℤ) (ls : List Label) → nat_eq c.0 base && list_any (int_eq c.1) ns ≡ false
    → list_any (label_eq c) ls ≡ is_among c (labels_of base ns ++ ls)
among_others c base ns ls absent = sym (among_both c base ns ls ∙ ap (λ b. b || list_any (label_eq c) ls) absent)

pub greater_is_new : (c : Label) (base : ℕ) (ns : List ℤ) (ls : List Label) → c.0 ≡ base → IsGreatest c.1 ns → NoneGreater base ns ls
    → is_among c (labels_of base ns ++ ls) ≡ false
greater_is_new c base ns ls of above none =
    let others = any_same c ls ∙ ap (λ b. is_among (b, c.1) ls) of ∙ none c.1 above in
    among_both c base ns ls
    ∙ (λ i. (nat_eq c.0 base && none_ascending ns c.1 above i) || others i)
    ∙ or-false (nat_eq c.0 base && false)
    ∙ and-false (nat_eq c.0 base)

pub seen_ascending : (c : Label) (base : ℕ) (ns : List ℤ) (ls : List Label) → c.0 ≡ base → list_any (int_eq c.1) ns ≡ true
    → is_among c (labels_of base ns ++ ls) ≡ true
seen_ascending c base ns ls of there = among_both c base ns ls ∙ (λ i. (eq-eqb c.0 base of i && there i) || list_any (label_eq c) ls)

-- a label that was seen adds nothing
pub seen_again : (c : Label) (ls : List Label) → is_among c ls ≡ true → SameLabels ls (with_label ls c)
seen_again c ls there x = among_again x c ls there ∙ sym (among_with x c ls)

pub ascending_added : (c : Label) (base : ℕ) (ns : List ℤ) (ls : List Label) → c.0 ≡ base
    → SameLabels (labels_of base (ns ++ c.1 ∷ []) ++ ls) (with_label (labels_of base ns ++ ls) c)
ascending_added c base ns ls of x =
    let is = ap (λ b. nat_eq x.0 b) (sym of) in
    among_both x base (ns ++ c.1 ∷ []) ls
    ∙ ap (λ b. (nat_eq x.0 base && b) || list_any (label_eq x) ls) (list_any-append (int_eq x.1) ns (c.1 ∷ []))
    ∙ apart (nat_eq x.0 base) (list_any (int_eq x.1) ns) (int_eq x.1 c.1) (list_any (label_eq x) ls)
    ∙ (λ i. sym (among_both x base ns ls) i || (is i && same_int x.1 c.1 i))
    ∙ sym (among_with x c (labels_of base ns ++ ls))
  where
    apart : (p a s b : Bool) → (p && (a || (s || false))) || b ≡ ((p && a) || b) || (p && s)
    apart p a s b = grind (arith)

pub other_added : (c : Label) (base : ℕ) (ns : List ℤ) (old new : List Label)
    → ((x : Label) → list_any (label_eq x) new ≡ cond (label_eq c x) true (list_any (label_eq x) old))
    → SameLabels (labels_of base ns ++ new) (with_label (labels_of base ns ++ old) c)
other_added c base ns old new added x =
    among_both x base ns new
    ∙ ap (λ b. (nat_eq x.0 base && list_any (int_eq x.1) ns) || b) (added x)
    ∙ apart (nat_eq x.0 base && list_any (int_eq x.1) ns) (label_eq c x) (list_any (label_eq x) old)
    ∙ (λ i. sym (among_both x base ns old) i || label_back c x i)
    ∙ sym (among_with x c (labels_of base ns ++ old))
  where
    apart : (p s a : Bool) → p || cond s true a ≡ (p || a) || s
    apart p s a = grind (arith)

-- a label that isn't greater is added to the others
pub none_added : (c : Label) (base : ℕ) (ns : List ℤ) (old new : List Label) → (c.0 ≡ base → IsGreatest c.1 ns → ⊥)
    → ((x : Label) → list_any (label_eq x) new ≡ cond (label_eq c x) true (list_any (label_eq x) old)) → NoneGreater base ns old → NoneGreater base ns new
none_added c base ns old new differs added none n above =
    let x : Label = (base, n) in
    let is : label_eq c x ≡ false = same_label c x ∙ other (is_same c x) refl in
    sym (any_same x new) ∙ added x ∙ (λ i. cond (is i) true (any_same x old i)) ∙ none n above
  where
    other : (b : Bool) → is_same c (base, n) ≡ b → b ≡ false
    other true h = let e = label_from c (base, n) h in absurd (differs (λ i. (e i).0) (subst (λ m. IsGreatest m ns) (λ i. (sym e i).1) above))
    other false h = refl

-- ---- the same labels

pub more_same : (as' bs : List Label) (j : Judged Label) → SameLabels as' bs → SameLabels (more_seen as' j) (more_seen bs j)
more_same as' bs (Sound c) same = λ x. among_with x c as' ∙ ap (λ r. r || is_same x c) (same x) ∙ sym (among_with x c bs)
more_same as' bs (Broken v vs) same = same

label_reported : (base : Option ℕ) (at : ℕ) (as' bs : List Label) (j : Judged Label) → SameLabels as' bs
    → then_judge j (c2_c3_label base as' at) ≡ then_judge j (c2_c3_label base bs at)
label_reported base at as' bs (Sound c) same = ap (λ r. also (unless (fits_selector base c) C2 at) (guard (not r) C3 at c)) (same c)
label_reported base at as' bs (Broken v vs) same = refl

pub labels_reported : (env : Environment) (base : Option ℕ) (as' bs : List Label) (cs : List Constant) → SameLabels as' bs
    → (labels env base as' cs).violations ≡ (labels env base bs cs).violations
labels_reported env base as' bs [] same = refl
labels_reported env base as' bs (c ∷ cs) same =
    let one = constant env c in
    let first = label_reported base (constant_at c) as' bs one same in
    let rest = labels_reported env base (more_seen as' one) (more_seen bs one) cs (more_same as' bs one same) in
    λ i. violations_of (first i) ++ rest i

pub labels_same : (env : Environment) (base : Option ℕ) (as' bs : List Label) (cs : List Constant) → SameLabels as' bs
    → SameLabels (labels env base as' cs).seen (labels env base bs cs).seen
labels_same env base as' bs [] same = same
labels_same env base as' bs (c ∷ cs) same =
    let one = constant env c in labels_same env base (more_seen as' one) (more_seen bs one) cs (more_same as' bs one same)

pub arms_reported : (env : Environment) (base : Option ℕ) (as' bs : List Label) (a : s.Arms) → SameLabels as' bs → arms env base as' a ≡ arms env base bs a
arms_reported env base as' bs s.NoArms same = refl
arms_reported env base as' bs (s.MoreArms cs x a) same =
    let first = labels_reported env base as' bs cs same in
    let rest = arms_reported env base (labels env base as' cs).seen (labels env base bs cs).seen a (labels_same env base as' bs cs same) in
    λ i. first i ++ statement env x ++ rest i

-- ---- the base type of a selector

pub base_reported : (env : Environment) (t : Option ℕ) (j : Judged ℕ) → t ≡ meaning_of j → base_if env t ≡ selector_base env j
base_reported env t (Sound x) h = ap (base_if env) h
base_reported env t (Broken v vs) h = ap (base_if env) h
