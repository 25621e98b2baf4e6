-- Where the parameters of a class are in it: each has one of the words after its mark.
--
-- The parameters that are rights and those that are variables each are one after another, a word
-- each, and together they are as many as the words. So each word is taken exactly once.
use Rattle.std.proofs.Common.{◌≡◌, ◌⊎◌, inl, inr, ℕ, zero, suc, ◌+◌, ◌-◌, ◌≤◌, ◌<◌, Bool, true, false, List, [], ◌∷◌, ◌++◌, length, Option, Some, None, refl, ap, sym, ◌∙◌, arith}
use Rattle.std.specs.Prelude.{filter, if◌then◌else◌, nat_lt, not}
use Rattle.std.proofs.lemmas.Bool.{true≢false}
use Rattle.std.specs.Str.{bytes_eq}
use Rattle.cp_model.specs.Abstract.{Name, System}
use Rattle.cp_model.specs.Declarations.{Variable, declarations, is_component, members_from, reported_members}
use Rattle.cp_model.specs.Environments.{permanent_variables}
use Rattle.cp_model.specs.Names.{lookup}
use Rattle.cp_model.specs.Types.{GlobalScope, Members, NoMembers, ResolvedType}
use Rattle.cp_model.proofs.Options.{same_some}
use Rattle.cp_law_typing.specs.Declared.{Distinct}
use Rattle.cp_law_typing.specs.StartValues.{IsIn}
use Rattle.cp_law_typing.specs.Words.{rights_in, words}
use Rattle.cp_law_typing.proofs.Names.{bytes_eq-refl, bytes_same}
use Rattle.cp_law_typing.proofs.StartWrites.{found_in}
use Rattle.cp_model_program.specs.Layout.{Part, farther, head_words, member, member_part, part, right, right_at, rights}
use Rattle.cp_model_machine.proofs.Apart.{IsCell, cell_head, member_above, member_apart}
use Rattle.cp_model_machine.proofs.Declared.{absent_later, distinct_first}
use Rattle.cp_model_machine.proofs.Finding.{part_whole, some_is_not_none}
use Rattle.cp_model_machine.proofs.StartLeaves.{first_name}

-- ---- filtered lists

in_filter : (f : Name × Variable → Bool) (vs : List (Name × Variable)) (v : Name × Variable) → IsIn v vs → f v ≡ true → IsIn v (filter f vs)
in_filter f [] v h e = absurd h
in_filter f (w ∷ vs) v h e = by (f w) refl h (in_filter f vs v)
  where
    by : (b : Bool) → f w ≡ b → (v ≡ w) ⊎ IsIn v vs → (IsIn v vs → f v ≡ true → IsIn v (filter f vs)) → IsIn v (if b then w ∷ filter f vs else filter f vs)
    by true q (inl s) go = inl s
    by false q (inl s) go = absurd (true≢false (sym e ∙ (ap f s ∙ q)))
    by true q (inr i) go = inr (go i e)
    by false q (inr i) go = go i e

pub of_filter : (f : Name × Variable → Bool) (vs : List (Name × Variable)) (v : Name × Variable) → IsIn v (filter f vs) → IsIn v vs × (f v ≡ true)
of_filter f [] v h = absurd h
of_filter f (w ∷ vs) v h = by (f w) refl h (of_filter f vs v)
  where
    by : (b : Bool) → f w ≡ b → IsIn v (if b then w ∷ filter f vs else filter f vs) → (IsIn v (filter f vs) → IsIn v vs × (f v ≡ true)) → ((v ≡ w) ⊎ IsIn v vs) × (f v ≡ true)
    by true q (inl s) go = (inl s, ap f s ∙ q)
    by true q (inr i) go = (inr (go i).0, (go i).1)
    by false q i go = (inr (go i).0, (go i).1)

no_name : (f : Name × Variable → Bool) (vs : List (Name × Variable)) (x : Name) → lookup x vs ≡ None → lookup x (filter f vs) ≡ None
no_name f [] x h = refl
no_name f (w ∷ vs) x h = by (f w) (no_name f vs x)
  where
    first : (c : Bool) → (if c then Some w.1 else lookup x vs) ≡ None → (lookup x vs ≡ None → lookup x (filter f vs) ≡ None) → (if c then Some w.1 else lookup x (filter f vs)) ≡ None
    first true h go = absurd (some_is_not_none w.1 h)
    first false h go = go h

    later : (c : Bool) → (if c then Some w.1 else lookup x vs) ≡ None → (lookup x vs ≡ None → lookup x (filter f vs) ≡ None) → lookup x (filter f vs) ≡ None
    later true h go = absurd (some_is_not_none w.1 h)
    later false h go = go h

    by : (b : Bool) → (lookup x vs ≡ None → lookup x (filter f vs) ≡ None) → lookup x (if b then w ∷ filter f vs else filter f vs) ≡ None
    by true go = first (bytes_eq x w.0) h go
    by false go = later (bytes_eq x w.0) h go

filter_distinct : (f : Name × Variable → Bool) (vs : List (Name × Variable)) → Distinct vs → Distinct (filter f vs)
filter_distinct f [] h = tt
filter_distinct f (w ∷ vs) h = by (f w) (filter_distinct f vs h.1)
  where
    by : (b : Bool) → Distinct (filter f vs) → Distinct (if b then w ∷ filter f vs else filter f vs)
    by true go = (no_name f vs w.0 h.0, go)
    by false go = go

both_lengths : (f : Name × Variable → Bool) (vs : List (Name × Variable)) → length (filter f vs) + length (filter (λ v. not (f v)) vs) ≡ length vs
both_lengths f [] = refl
both_lengths f (w ∷ vs) = by (f w) (both_lengths f vs)
  where
    by : (b : Bool) → length (filter f vs) + length (filter (λ v. not (f v)) vs) ≡ length vs
        → length (if b then w ∷ filter f vs else filter f vs) + length (if not b then w ∷ filter (λ v. not (f v)) vs else filter (λ v. not (f v)) vs) ≡ suc (length vs)
    by true e = omega (arith, e)
    by false e = omega (arith, e)

-- A name that is found later isn't the first one.
pub other_name : (w v : Name × Variable) (vs : List (Name × Variable)) → Distinct (w ∷ vs) → IsIn v vs → bytes_eq v.0 w.0 ≡ false
other_name w v vs d i = by (bytes_eq v.0 w.0) refl
  where
    by : (b : Bool) → bytes_eq v.0 w.0 ≡ b → b ≡ false
    by false e = refl
    by true e = absurd (some_is_not_none v.1 (sym (found_in vs v.0 v.1 d.1 i) ∙ (ap (λ x. lookup x vs) (bytes_same v.0 w.0 e) ∙ d.0)))

-- ---- rights

right_index : (at j : ℕ) (vs : List (Name × Variable)) → Distinct vs → j < length vs → (v : Name × Variable) × IsIn v vs × (right_at at vs v.0 ≡ Some (at + j, v.1))
right_index at j [] d h = absurd (omega (arith, h))
right_index at zero (w ∷ vs) d h =
    (w, inl refl, ap (λ b. if b then Some (at, w.1) else right_at (suc at) vs w.0) (bytes_eq-refl w.0) ∙ ap (λ k. Some (k, w.1)) (omega arith))
right_index at (suc j) (w ∷ vs) d h =
    let r = right_index (suc at) j vs d.1 (omega (arith, h)) in
    (r.0, inr r.1, ap (λ b. if b then Some (at, w.1) else right_at (suc at) vs r.0.0) (other_name w r.0 vs d r.1) ∙ (r.2 ∙ ap (λ k. Some (k, r.0.1)) (omega arith)))

-- A right is found at its own place.
pub right_is : (at : ℕ) (vs : List (Name × Variable)) (x : Name) (k : ℕ) (v : Variable) → right_at at vs x ≡ Some (k, v) → (at ≤ k) × (k < at + length vs) × IsIn (x, v) vs
right_is at [] x k v h = absurd (some_is_not_none (k, v) (sym h))
right_is at (w ∷ vs) x k v h = by (bytes_eq x w.0) refl h (right_is (suc at) vs x k v)
  where
    by : (b : Bool) → bytes_eq x w.0 ≡ b → (if b then Some (at, w.1) else right_at (suc at) vs x) ≡ Some (k, v)
        → (right_at (suc at) vs x ≡ Some (k, v) → (suc at ≤ k) × (k < suc at + length vs) × IsIn (x, v) vs) → (at ≤ k) × (k < at + suc (length vs)) × IsIn (x, v) (w ∷ vs)
    by true e h go =
        let same : ◌≡◌ {A = ℕ × Variable} (at, w.1) (k, v) = same_some (at, w.1) (k, v) h in
        let place_is : at ≡ k = ap (λ z. z.0) same in
        (omega (arith, place_is), omega (arith, place_is), inl (λ i. (bytes_same x w.0 e i, sym (ap (λ z. z.1) same) i)))
    by false e h go = let r = go h in (omega (arith, r.0), omega (arith, r.1), inr r.2)

-- No two rights share a word.
pub right_same : (at : ℕ) (vs : List (Name × Variable)) (x y : Name) (k : ℕ) (v w : Variable) → right_at at vs x ≡ Some (k, v) → right_at at vs y ≡ Some (k, w) → (x ≡ y) × (v ≡ w)
right_same at [] x y k v w h g = absurd (some_is_not_none (k, v) (sym h))
right_same at (z ∷ vs) x y k v w h g = by (bytes_eq x z.0) (bytes_eq y z.0) refl refl h g (right_same (suc at) vs x y k v w)
  where
    by : (b c : Bool) → bytes_eq x z.0 ≡ b → bytes_eq y z.0 ≡ c → (if b then Some (at, z.1) else right_at (suc at) vs x) ≡ Some (k, v) → (if c then Some (at, z.1) else right_at (suc at) vs y) ≡ Some (k, w)
        → (right_at (suc at) vs x ≡ Some (k, v) → right_at (suc at) vs y ≡ Some (k, w) → (x ≡ y) × (v ≡ w)) → (x ≡ y) × (v ≡ w)
    by true true e f h g go = (
      bytes_same x z.0 e ∙ sym (bytes_same y z.0 f),
      sym (ap (λ q. q.1) (same_some {A = ℕ × Variable} (at, z.1) (k, v) h)) ∙ ap (λ q. q.1) (same_some {A = ℕ × Variable} (at, z.1) (k, w) g),
    )
    by true false e f h g go = absurd (omega (arith, (right_is (suc at) vs y k w g).0, ap (λ q. q.0) (same_some {A = ℕ × Variable} (at, z.1) (k, v) h)))
    by false true e f h g go = absurd (omega (arith, (right_is (suc at) vs x k v h).0, ap (λ q. q.0) (same_some {A = ℕ × Variable} (at, z.1) (k, w) g)))
    by false false e f h g go = go h g

-- ---- members

-- Variables of one word are one after another.
member_index : (g : GlobalScope) (at j : ℕ) (vs : List (Name × Variable)) (rest : Members) → Distinct vs → ((v : Name × Variable) → IsIn v vs → words g v.1.type ≡ 1) → j < length vs
    → (v : Name × Variable) × IsIn v vs × (member_part g at (members_from vs rest) v.0 [] ≡ Some (at + j, v.1.type))
member_index g at j [] rest d one h = absurd (omega (arith, h))
member_index g at zero (w ∷ vs) rest d one h = (
  w,
  inl refl,
  ap (λ b. if b then farther at (part g w.1.type []) else member_part g (at + words g w.1.type) (members_from vs rest) w.0 []) (bytes_eq-refl w.0)
      ∙ ap (farther at) (part_whole g w.1.type),
)
member_index g at (suc j) (w ∷ vs) rest d one h =
    let size : words g w.1.type ≡ 1 = one w (inl refl) in
    let r = member_index g (at + words g w.1.type) j vs rest d.1 (λ v i. one v (inr i)) (omega (arith, h)) in (
      r.0,
      inr r.1,
      ap (λ b. if b then farther at (part g w.1.type []) else member_part g (at + words g w.1.type) (members_from vs rest) r.0.0 []) (other_name w r.0 vs d r.1)
          ∙ (r.2 ∙ ap (λ k. Some (k, r.0.1.type)) (omega (arith, size))),
    )

-- Variables of one word each are among the first `length vs` words from `at` on.
member_below : (g : GlobalScope) (at : ℕ) (vs : List (Name × Variable)) (rest : Members) (v : Name × Variable) (k : ℕ) (t : ResolvedType) → ((w : Name × Variable) → IsIn w vs → words g w.1.type ≡ 1) → IsIn v vs
    → member_part g at (members_from vs rest) v.0 [] ≡ Some (k, t) → (at ≤ k) × (k < at + length vs)
member_below g at [] rest v k t one i h = absurd i
member_below g at (w ∷ vs) rest v k t one i h = by (bytes_eq v.0 w.0) refl i h (λ i h. member_below g (at + words g w.1.type) vs rest v k t (λ z q. one z (inr q)) i h)
  where
    size : words g w.1.type ≡ 1
    size = one w (inl refl)

    by : (b : Bool) → bytes_eq v.0 w.0 ≡ b → (v ≡ w) ⊎ IsIn v vs
        → (if b then farther at (part g w.1.type []) else member_part g (at + words g w.1.type) (members_from vs rest) v.0 []) ≡ Some (k, t)
        → (IsIn v vs → member_part g (at + words g w.1.type) (members_from vs rest) v.0 [] ≡ Some (k, t) → (at + words g w.1.type ≤ k) × (k < at + words g w.1.type + length vs))
        → (at ≤ k) × (k < at + suc (length vs))
    by true e i h go =
        let place_is : at + 0 ≡ k = ap (λ z. z.0) (same_some {A = Part} (at + 0, w.1.type) (k, t) (sym (ap (farther at) (part_whole g w.1.type)) ∙ h)) in
        (omega (arith, place_is), omega (arith, place_is))
    by false e (inl s) h go = absurd (true≢false (sym (bytes_eq-refl w.0) ∙ (ap (λ z. bytes_eq z.0 w.0) (sym s) ∙ e)))
    by false e (inr i) h go = let r = go i h in (omega (arith, r.0, size), omega (arith, r.1, size))

-- ---- parameters

-- The offset of a parameter in the component, as a right or as a member.
abbrev pub Offset : GlobalScope → System → Name × Variable → ℕ → Type 0
Offset g s p k =
    ((is_component p.1.type ≡ true) × (right g s p.0 ≡ Some (k, p.1)))
    ⊎ ((is_component p.1.type ≡ false) × (member g s p.0 ≡ Some (k, p.1.type)) × IsCell p.1.type)

module _ (g : GlobalScope) (s : System) (distinct : Distinct (declarations g s.parameters))
    (one : (p : Name × Variable) → IsIn p (declarations g s.parameters) → is_component p.1.type ≡ false → (words g p.1.type ≡ 1) × IsCell p.1.type) where
  abbrev passed : List (Name × Variable)
  passed = declarations g s.parameters

  abbrev values : List (Name × Variable)
  values = filter (λ v. not (is_component v.1.type)) passed

  not_true : (b : Bool) → not b ≡ true → b ≡ false
  not_true true h = absurd (true≢false (sym h))
  not_true false h = refl

  one_word : (v : Name × Variable) → IsIn v values → words g v.1.type ≡ 1
  one_word v i = let k = of_filter (λ z. not (is_component z.1.type)) passed v i in (one v k.0 (not_true (is_component v.1.type) k.1)).0

  count : rights_in g s + length values ≡ length passed
  count = both_lengths (λ v. is_component v.1.type) passed

  -- Each word after the mark is that of a parameter.
  pub offset_at : (k : ℕ) → 1 ≤ k → k ≤ length passed → (p : Name × Variable) × IsIn p passed × Offset g s p k
  offset_at k low high = by (nat_lt k (head_words g s)) refl
    where
      by : (b : Bool) → nat_lt k (head_words g s) ≡ b → (p : Name × Variable) × IsIn p passed × Offset g s p k
      by true e =
          let below : k < head_words g s = Prim.grind (arith, e) in
          let r = right_index 1 (k - 1) (rights g s) (filter_distinct (λ v. is_component v.1.type) passed distinct) (omega (arith, below, low)) in
          let i = of_filter (λ v. is_component v.1.type) passed r.0 r.1 in
          (r.0, i.0, inl (i.1, r.2 ∙ ap (λ z. Some (z, r.0.1)) (omega (arith, low))))
      by false e =
          let above : head_words g s ≤ k = Prim.grind (arith, e) in
          let m = member_index g (head_words g s) (k - head_words g s) values (members_from (declarations g s.variables) NoMembers) (filter_distinct (λ v. not (is_component v.1.type)) passed distinct) one_word (omega (arith, above, high, count)) in
          let i = of_filter (λ v. not (is_component v.1.type)) passed m.0 m.1 in
          let value = not_true (is_component m.0.1.type) i.1 in
          (m.0, i.0, inr (value, m.2 ∙ ap (λ z. Some (z, m.0.1.type)) (omega (arith, above)), (one m.0 i.0 value).1))

  -- Parameters are in no other words.
  pub offset_within : (p : Name × Variable) (k : ℕ) → IsIn p passed → Offset g s p k → (1 ≤ k) × (k ≤ length passed)
  offset_within p k i (inl h) = let r = right_is 1 (rights g s) p.0 k p.1 h.1 in (r.0, omega (arith, r.1, count))
  offset_within p k i (inr h) =
      let m = member_below g (head_words g s) values (members_from (declarations g s.variables) NoMembers) p k p.1.type one_word
      (in_filter (λ v. not (is_component v.1.type)) passed p i (ap not h.0)) h.1 in
      (omega (arith, m.0), omega (arith, m.1, count))

  -- No two parameters share a word.
  pub offset_same : (p q : Name × Variable) (k : ℕ) → Offset g s p k → Offset g s q k → p.0 ≡ q.0
  offset_same p q k (inl h) (inl f) = (right_same 1 (rights g s) p.0 q.0 k p.1 q.1 h.1 f.1).0
  offset_same p q k (inl h) (inr f) =
      absurd (omega (arith, (right_is 1 (rights g s) p.0 k p.1 h.1).1, member_above g (head_words g s) (reported_members g s) q.0 [] k q.1.type f.1))
  offset_same p q k (inr h) (inl f) =
      absurd (omega (arith, (right_is 1 (rights g s) q.0 k q.1 f.1).1, member_above g (head_words g s) (reported_members g s) p.0 [] k p.1.type h.1))
  offset_same p q k (inr h) (inr f) =
      ap first_name (member_apart g (head_words g s) (reported_members g s) p.0 q.0 [] [] k k p.1.type q.1.type 0 0 h.1 f.1 (cell_head g p.1.type h.2) (cell_head g q.1.type f.2) refl)

  -- A right is that of the parameter with its name.
  pub right_of : (p : Name × Variable) (k : ℕ) (v : Variable) → IsIn p passed → right g s p.0 ≡ Some (k, v) → v ≡ p.1
  right_of p k v i h =
      let r = of_filter (λ z. is_component z.1.type) passed (p.0, v) (right_is 1 (rights g s) p.0 k v h).2 in
      same_some v p.1 (sym (found_in passed p.0 v distinct r.0) ∙ found_in passed p.0 p.1 distinct i)

-- ---- names

lookup_in : (x : Name) (vs : List (Name × Variable)) (v : Variable) → lookup x vs ≡ Some v → IsIn (x, v) vs
lookup_in x [] v h = absurd (some_is_not_none v (sym h))
lookup_in x (w ∷ vs) v h = by (bytes_eq x w.0) refl h (lookup_in x vs v)
  where
    by : (b : Bool) → bytes_eq x w.0 ≡ b → (if b then Some w.1 else lookup x vs) ≡ Some v → (lookup x vs ≡ Some v → IsIn (x, v) vs) → IsIn (x, v) (w ∷ vs)
    by true e h go = inl (λ i. (bytes_same x w.0 e i, sym (same_some w.1 v h) i))
    by false e h go = inr (go h)

no_member : (g : GlobalScope) (at : ℕ) (vs : List (Name × Variable)) (rest : Members) (x : Name) → lookup x vs ≡ None → ((n : ℕ) → member_part g n rest x [] ≡ None)
    → member_part g at (members_from vs rest) x [] ≡ None
no_member g at [] rest x h none = none at
no_member g at (w ∷ vs) rest x h none = by (bytes_eq x w.0) h (λ q. no_member g (at + words g w.1.type) vs rest x q none)
  where
    by : (b : Bool) → (if b then Some w.1 else lookup x vs) ≡ None → (lookup x vs ≡ None → member_part g (at + words g w.1.type) (members_from vs rest) x [] ≡ None)
        → (if b then farther at (part g w.1.type []) else member_part g (at + words g w.1.type) (members_from vs rest) x []) ≡ None
    by true h go = absurd (some_is_not_none w.1 h)
    by false h go = go h

-- No member has the name of a right.
pub right_is_no_member : (g : GlobalScope) (s : System) (p : Name × Variable) → Distinct (permanent_variables g s) → IsIn p (declarations g s.parameters) → is_component p.1.type ≡ true → member g s p.0 ≡ None
right_is_no_member g s p distinct i component =
    no_member g (head_words g s) (filter (λ v. not (is_component v.1.type)) (declarations g s.parameters)) (members_from (declarations g s.variables) NoMembers) p.0
    (by (lookup p.0 (filter (λ v. not (is_component v.1.type)) (declarations g s.parameters))) refl)
    (λ n. no_member g n (declarations g s.variables) NoMembers p.0 (later (declarations g s.parameters) distinct i) (λ m. refl))
  where
    own : Distinct (declarations g s.parameters)
    own = distinct_first (declarations g s.parameters) (declarations g s.variables) distinct

    by : (o : Option Variable) → lookup p.0 (filter (λ v. not (is_component v.1.type)) (declarations g s.parameters)) ≡ o → o ≡ None
    by None e = refl
    by (Some v) e =
        let k = of_filter (λ v. not (is_component v.1.type)) (declarations g s.parameters) (p.0, v) (lookup_in p.0 (filter (λ v. not (is_component v.1.type)) (declarations g s.parameters)) v e) in
        let same : v ≡ p.1 = same_some v p.1 (sym (found_in (declarations g s.parameters) p.0 v own k.0) ∙ found_in (declarations g s.parameters) p.0 p.1 own i) in
        absurd (true≢false (sym k.1 ∙ (ap (λ (z : Variable). not (is_component z.type)) same ∙ ap not component)))

    later : (vs : List (Name × Variable)) → Distinct (vs ++ declarations g s.variables) → IsIn p vs → lookup p.0 (declarations g s.variables) ≡ None
    later [] d i = absurd i
    later (w ∷ vs) d (inl e) = ap (λ (z : Name × Variable). lookup z.0 (declarations g s.variables)) e ∙ absent_later w.0 vs (declarations g s.variables) d.0
    later (w ∷ vs) d (inr i) = later vs d.1 i
