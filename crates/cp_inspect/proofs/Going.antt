-- As a walk continues, the text reported and what is left keep making up the same text.
use Rattle.std.proofs.Common.{◌≡◌, ℕ, zero, suc, ◌+◌, ◌*◌, ◌≤◌, ◌<◌, ℤ, pos, negsuc, List, [], ◌∷◌, ◌++◌, drop, length, map, take, Option, Some, None, refl, ap, sym, subst, ◌∙◌, arith}
use Rattle.std.specs.Prelude.{◌+ℤ◌, codes, reverse, slice_get}
use Rattle.std.proofs.lemmas.Int.{ints}
use Rattle.std.proofs.lemmas.List.{append_assoc}
use Rattle.cp_model.specs.Abstract.{Name}
use Rattle.cp_model.specs.Decimal.{decimal}
use Rattle.cp_model.specs.Integers.{count_between}
use Rattle.cp_model.specs.Leaves.{integers_from}
use Rattle.cp_model.specs.Locations.{ByIndex, ByName, Path}
use Rattle.cp_model.specs.Report.{Text, path_text}
use Rattle.cp_model.specs.Types.{GlobalScope, Members, MoreMembers, NoMembers, ResolvedType}
use Rattle.cp_model.proofs.Options.{same_some}
use Rattle.cp_law_typing.specs.Words.{words, words_of_members}
use Rattle.cp_model_machine.specs.Reports.{Visit, visit_elements, visit_members, visit_type}
use Rattle.cp_compile_symbols.specs.Representing.{AreMembers, Represents, row_at}
use Rattle.cp_compile_symbols.specs.declared.tables.Tables.{Tables}
use Rattle.cp_compile_symbols.specs.declared.types.TypeRow.{TypeRow}
use Rattle.cp_compile_symbols.specs.declared.types.TypeRow.TheVariants as row
use Rattle.cp_compile_symbols.specs.declared.types.Types.{Types}
use Rattle.cp_inspect.specs.Remaining.{ElementsRemaining, IsNamed, Remaining, MembersRemaining, left_text, left_words, path_of}
use Rattle.cp_inspect.specs.Walks.{AllRepresent, Continues, CursorRepresents, Enters, Advances, IsDeepest, PartsRepresent, WalkRepresents, cursor, members_in}
use Rattle.cp_inspect.specs.declared.walk.Cursor.{Cursor}
use Rattle.cp_inspect.specs.declared.walk.Walk.{Walk}
use Rattle.cp_inspect.proofs.Paths.{indexed_deeper, named_deeper, reversed, still_named, take_whole}
use Rattle.cp_inspect.proofs.Stacks.{all_kept, cursor_kept, deepest_of}

-- ---- a variable with parts

pub opened : (g : GlobalScope) (v : Visit) (types : Types) (old new : Walk) (n : ℕ) (left : Remaining) (rest : List Remaining) (out after whole : Text) (head end : ℕ)
    → new.stack.items ≡ old.stack.items ++ cursor n 0 (length old.path.items) ∷ [] → new.path.items ≡ old.path.items → new.at ≡ old.at + head → after ≡ out
    → PartsRepresent types (cursor n 0 (length old.path.items)) left → IsNamed (path_of left) → path_text (path_of left) ≡ old.path.items → WalkRepresents types old rest
    → left_text g v (left ∷ rest) (old.at + head) ≡ whole → old.at + head + left_words g (left ∷ rest) ≡ end
    → Advances g v types new after (out ++ whole) end
opened g v types old new n left rest out after whole head end stack path at same parts named text was left_is words_are = record {
  left = left ∷ rest;
  represents = subst (λ cs. AllRepresent types new.path.items cs (left ∷ rest)) (sym (ap reverse stack ∙ reversed old.stack.items (cursor n 0 (length old.path.items))))
      (subst (λ b. AllRepresent types b (cursor n 0 (length old.path.items) ∷ reverse old.stack.items) (left ∷ rest)) (sym path) (here, deepest_of types old.path.items (reverse old.stack.items) rest was, was));
  text_is = (λ i. same i ++ left_text g v (left ∷ rest) (at i)) ∙ ap (λ z. out ++ z) left_is;
  place = ap (λ z. z + left_words g (left ∷ rest)) at ∙ words_are;
}
  where
    here : CursorRepresents types old.path.items (cursor n 0 (length old.path.items)) left
    here = record { parts = parts; named = named; front = take_whole old.path.items ∙ sym text; long = ap length (sym text) }

-- ---- the next part

-- The rest of a variable is on the stack, and the path of a part is in the buffer.
pub rest_represents : (types : Types) (old mid : Walk) (c d : Cursor) (left later : Remaining) (rest : List Remaining) (step : Text) → mid.path.items ≡ take c.path old.path.items ++ step
    → mid.stack.items ≡ old.stack.items ++ d ∷ [] → d.path ≡ c.path → PartsRepresent types d later → path_of later ≡ path_of left
    → AllRepresent types old.path.items (c ∷ reverse old.stack.items) (left ∷ rest) → WalkRepresents types mid (later ∷ rest)
rest_represents types old mid c d left later rest step path stack deep parts same S =
    subst (λ cs. AllRepresent types mid.path.items cs (later ∷ rest)) (sym (ap reverse stack ∙ reversed old.stack.items d))
    (subst (λ b. AllRepresent types b (d ∷ reverse old.stack.items) (later ∷ rest)) (sym path) (here, below (reverse old.stack.items) S.1, all_kept types c.path old.path.items step (reverse old.stack.items) rest S.1 S.2))
  where
    C : CursorRepresents types (take c.path old.path.items ++ step) c left
    C = cursor_kept types c.path old.path.items step c left (omega arith) S.0

    here : CursorRepresents types (take c.path old.path.items ++ step) d later
    here = record {
      parts = parts;
      named = subst IsNamed (sym same) C.named;
      front = ap (λ n. take n (take c.path old.path.items ++ step)) deep ∙ (C.front ∙ ap path_text (sym same));
      long = deep ∙ (C.long ∙ ap (λ q. length (path_text q)) (sym same));
    }

    below : (cs : List Cursor) → IsDeepest c.path cs → IsDeepest d.path cs
    below [] h = tt
    below (e ∷ cs) h = omega (arith, h, deep)

abbrev Proceeds : Tables → Visit → Cursor → Walk → Walk → Text → Text → GlobalScope → List Remaining → Remaining → Type 0
Proceeds tables v c old new out after g rest l =
    AllRepresent tables.types old.path.items (c ∷ reverse old.stack.items) (l ∷ rest)
    → Advances g v tables.types new after (out ++ left_text g v (l ∷ rest) old.at) (old.at + left_words g (l ∷ rest))

-- A member, and then the other members.
pub member_goes : (tables : Tables) (v : Visit) (c : Cursor) (old mid new : Walk) (out after : Text) (es : List (Name × ℕ)) (x : Name) (of : ℕ)
    → Enters tables v of mid new out after → mid.path.items ≡ take c.path old.path.items ++ (codes "." ++ x) → mid.stack.items ≡ old.stack.items ++ cursor c.row (c.next + 1) c.path ∷ [] → mid.at ≡ old.at
    → members_in (row_at tables.types c.row) ≡ Some es → drop c.next es ≡ (x, of) ∷ drop (c.next + 1) es → Continues tables v c old new out after
member_goes tables v c old mid new out after es x of enters path stack at row next g left rest scope S = by left S
  where
    with_members : (p : Path) (ms : Members) → AreMembers tables.types ((x, of) ∷ drop (c.next + 1) es) ms → Proceeds tables v c old new out after g rest (MembersRemaining p ms)
    with_members p NoMembers h S = absurd h
    with_members p (MoreMembers y t ms) h S =
        let E = enters g t (p ++ ByName y ∷ []) (MembersRemaining p ms ∷ rest) scope h.1 (still_named p (ByName y))
        (named_deeper p y S.0.named ∙ ((λ i. sym S.0.front i ++ (codes "." ++ sym h.0 i)) ∙ sym path))
        (rest_represents tables.types old mid c (cursor c.row (c.next + 1) c.path) (MembersRemaining p (MoreMembers y t ms)) (MembersRemaining p ms) rest (codes "." ++ x) path stack refl (es, row, h.2) refl S) in
        record {
          left = E.left;
          represents = E.represents;
          text_is = E.text_is ∙ ap (λ z. out ++ z) (
              (λ i. visit_type g v (p ++ ByName y ∷ []) (at i) t ++ (visit_members g v p (at i + words g t) ms ++ left_text g v rest (at i + words g t + words_of_members g ms)))
              ∙ ((λ i. visit_type g v (p ++ ByName y ∷ []) old.at t ++ (visit_members g v p (old.at + words g t) ms ++ left_text g v rest (sym (join old.at (words g t) (words_of_members g ms)) i)))
              ∙ sym (append_assoc (visit_type g v (p ++ ByName y ∷ []) old.at t) (visit_members g v p (old.at + words g t) ms) (left_text g v rest (old.at + (words g t + words_of_members g ms))))));
          place = E.place ∙ (ap (λ z. z + words g t + (words_of_members g ms + left_words g rest)) at ∙ sum old.at (words g t) (words_of_members g ms) (left_words g rest));
        }
      where
        join : (a b d : ℕ) → a + (b + d) ≡ a + b + d
        join a b d = omega arith

        sum : (a b d e : ℕ) → a + b + (d + e) ≡ a + (b + d + e)
        sum a b d e = omega arith

    by : (l : Remaining) → Proceeds tables v c old new out after g rest l
    by (MembersRemaining p ms) S =
        let same = same_some S.0.parts.0 es (sym S.0.parts.1 ∙ row) in
        with_members p ms (subst (λ fs. AreMembers tables.types fs ms) (ap (drop c.next) same ∙ next) S.0.parts.2) S
    by (ElementsRemaining p is t) S = absurd (nothing (sym (ap members_in S.0.parts.3) ∙ row))
      where
        nothing : None ≡ Some es → ⊥
        nothing e = cc

-- ---- elements

following : ℤ → ℤ
following (pos a) = pos (suc a)
following (negsuc zero) = pos 0
following (negsuc (suc a)) = negsuc a

counted_on : (low : ℤ) (n : ℕ) → integers_from low (suc n) ≡ low ∷ integers_from (following low) n
unfolding following
counted_on (pos a) n = refl
counted_on (negsuc zero) n = refl
counted_on (negsuc (suc a)) n = refl

farther_on : (low : ℤ) (k : ℕ) → following low +ℤ pos k ≡ low +ℤ pos (suc k)
unfolding following
farther_on (pos a) k = Prim.grind (arith, ints)
farther_on (negsuc zero) k = Prim.grind (arith, ints)
farther_on (negsuc (suc a)) k = Prim.grind (arith, ints)

from_itself : (low : ℤ) → low ≡ low +ℤ pos 0
from_itself low = Prim.grind (arith, ints)

pub drop_counted : (n k : ℕ) (low : ℤ) → k < n → drop k (integers_from low n) ≡ (low +ℤ pos k) ∷ drop (suc k) (integers_from low n)
drop_counted zero k low h = absurd (omega (arith, h))
drop_counted (suc n) zero low h = counted_on low n ∙ ((λ i. from_itself low i ∷ integers_from (following low) n) ∙ ap (λ l. (low +ℤ pos 0) ∷ drop 1 l) (sym (counted_on low n)))
drop_counted (suc n) (suc k) low h =
    ap (drop (suc k)) (counted_on low n)
    ∙ (drop_counted n k (following low) (omega (arith, h))
    ∙ ((λ i. farther_on low k i ∷ drop (suc k) (integers_from (following low) n)) ∙ ap (λ l. (low +ℤ pos (suc k)) ∷ drop (suc (suc k)) l) (sym (counted_on low n))))

pub none_counted : (n k : ℕ) (low : ℤ) → n ≤ k → drop k (integers_from low n) ≡ []
none_counted zero k low h = by k
  where
    by : (j : ℕ) → drop j (integers_from low zero) ≡ []
    by zero = refl
    by (suc j) = refl
none_counted (suc n) zero low h = absurd (omega (arith, h))
none_counted (suc n) (suc k) low h = ap (drop (suc k)) (counted_on low n) ∙ none_counted n k (following low) (omega (arith, h))

pub length_counted : (n : ℕ) (low : ℤ) → length (integers_from low n) ≡ n
length_counted zero low = refl
length_counted (suc n) low = ap length (counted_on low n) ∙ ap suc (length_counted n (following low))

-- What a row of an array says about the elements that are left.
ElementsOf : Types → Cursor → List ℤ → ResolvedType → TypeRow → Type 0
ElementsOf types c is t (row.Array low high e) = Represents types e t × (is ≡ drop c.next (integers_from low (count_between low high)))
ElementsOf types c is t _ = Unit {0}

-- An element, and then the other elements.
pub element_goes : (tables : Tables) (v : Visit) (c : Cursor) (old mid new : Walk) (out after : Text) (low high : ℤ) (of : ℕ)
    → Enters tables v of mid new out after → mid.path.items ≡ take c.path old.path.items ++ (codes "[" ++ (decimal (low +ℤ pos c.next) ++ codes "]"))
    → mid.stack.items ≡ old.stack.items ++ cursor c.row (c.next + 1) c.path ∷ [] → mid.at ≡ old.at
    → row_at tables.types c.row ≡ Some (row.Array low high of) → c.next < count_between low high → Continues tables v c old new out after
unfolding ElementsOf
element_goes tables v c old mid new out after low high of enters path stack at there less g left rest scope S = by left S
  where
    next : drop c.next (integers_from low (count_between low high)) ≡ (low +ℤ pos c.next) ∷ drop (c.next + 1) (integers_from low (count_between low high))
    next = drop_counted (count_between low high) c.next low less ∙ ap (λ k. (low +ℤ pos c.next) ∷ drop k (integers_from low (count_between low high))) (one_more c.next)
      where
        one_more : (n : ℕ) → suc n ≡ n + 1
        one_more n = omega arith

    with_elements : (p : Path) (is : List ℤ) (t : ResolvedType) → Represents tables.types of t → is ≡ (low +ℤ pos c.next) ∷ drop (c.next + 1) (integers_from low (count_between low high))
        → Proceeds tables v c old new out after g rest (ElementsRemaining p is t)
    with_elements p is t represents is_are S =
        let is' = drop (c.next + 1) (integers_from low (count_between low high)) in
        let E = enters g t (p ++ ByIndex (low +ℤ pos c.next) ∷ []) (ElementsRemaining p is' t ∷ rest) scope represents (still_named p (ByIndex (low +ℤ pos c.next)))
        (indexed_deeper p (low +ℤ pos c.next) S.0.named ∙ ((λ j. sym S.0.front j ++ (codes "[" ++ (decimal (low +ℤ pos c.next) ++ codes "]"))) ∙ sym path))
        (rest_represents tables.types old mid c (cursor c.row (c.next + 1) c.path) (ElementsRemaining p is t) (ElementsRemaining p is' t) rest (codes "[" ++ (decimal (low +ℤ pos c.next) ++ codes "]")) path stack refl
        (low, high, of, there, represents, refl) refl S) in
        record {
          left = E.left;
          represents = E.represents;
          text_is = E.text_is ∙ ap (λ z. out ++ z) (
              (λ j. visit_type g v (p ++ ByIndex (low +ℤ pos c.next) ∷ []) (at j) t
              ++ (visit_elements (λ q a. visit_type g v q a t) (words g t) p (at j + words g t) is' ++ left_text g v rest (at j + words g t + length is' * words g t)))
              ∙ ((λ j. visit_type g v (p ++ ByIndex (low +ℤ pos c.next) ∷ []) old.at t
              ++ (visit_elements (λ q a. visit_type g v q a t) (words g t) p (old.at + words g t) is' ++ left_text g v rest (join old.at (words g t) (length is') j)))
              ∙ (sym (append_assoc (visit_type g v (p ++ ByIndex (low +ℤ pos c.next) ∷ []) old.at t) (visit_elements (λ q a. visit_type g v q a t) (words g t) p (old.at + words g t) is') (left_text g v rest (old.at + suc (length is') * words g t)))
              ∙ ap (λ l. left_text g v (ElementsRemaining p l t ∷ rest) old.at) (sym is_are))));
          place = E.place ∙ (ap (λ z. z + words g t + (length is' * words g t + left_words g rest)) at
              ∙ (sum old.at (words g t) (length is') (left_words g rest) ∙ ap (λ l. old.at + left_words g (ElementsRemaining p l t ∷ rest)) (sym is_are)));
        }
      where
        join : (a w n : ℕ) → a + w + n * w ≡ a + suc n * w
        join a w n = Prim.grind arith

        sum : (a w n e : ℕ) → a + w + (n * w + e) ≡ a + (suc n * w + e)
        sum a w n e = Prim.grind arith

    by : (l : Remaining) → Proceeds tables v c old new out after g rest l
    by (MembersRemaining p ms) S = absurd (nothing (sym S.0.parts.1 ∙ ap members_in there))
      where
        nothing : Some S.0.parts.0 ≡ None → ⊥
        nothing e = cc
    by (ElementsRemaining p is t) S =
        let same = same_some (row.Array S.0.parts.0 S.0.parts.1 S.0.parts.2) (row.Array low high of) (sym S.0.parts.3 ∙ there) in
        let of_it = subst (ElementsOf tables.types c is t) same (S.0.parts.4, S.0.parts.5) in
        with_elements p is t of_it.0 (of_it.1 ∙ next) S

-- If no element is left.
pub no_element : (tables : Tables) (v : Visit) (c : Cursor) (old : Walk) (out : Text) (low high : ℤ) (of : ℕ)
    → row_at tables.types c.row ≡ Some (row.Array low high of) → count_between low high ≤ c.next → Continues tables v c old old out out
unfolding ElementsOf
no_element tables v c old out low high of there past g left rest scope S = by left S
  where
    by : (l : Remaining) → Proceeds tables v c old old out out g rest l
    by (MembersRemaining p ms) S = absurd (nothing (sym S.0.parts.1 ∙ ap members_in there))
      where
        nothing : Some S.0.parts.0 ≡ None → ⊥
        nothing e = cc
    by (ElementsRemaining p is t) S =
        let same = same_some (row.Array S.0.parts.0 S.0.parts.1 S.0.parts.2) (row.Array low high of) (sym S.0.parts.3 ∙ there) in
        let of_it = subst (ElementsOf tables.types c is t) same (S.0.parts.4, S.0.parts.5) in
        let none = of_it.1 ∙ none_counted (count_between low high) c.next low past in
        record {
          left = rest;
          represents = S.2;
          text_is = ap (λ z. out ++ z) (ap (left_text g v rest) (no_more old.at (words g t)) ∙ ap (λ l. left_text g v (ElementsRemaining p l t ∷ rest) old.at) (sym none));
          place = none_more old.at (words g t) (left_words g rest) ∙ ap (λ l. old.at + left_words g (ElementsRemaining p l t ∷ rest)) (sym none);
        }
      where
        no_more : (a w : ℕ) → a ≡ a + 0 * w
        no_more a w = Prim.grind arith

        none_more : (a w b : ℕ) → a + b ≡ a + (0 * w + b)
        none_more a w b = Prim.grind arith

-- The item at an index comes first in what is left from there.
pub drop_got : {A B : Type 0} (f : A → B) (xs : List A) (i : ℕ) (x : A) → slice_get xs i ≡ Some x → drop i (map f xs) ≡ f x ∷ drop (suc i) (map f xs)
drop_got f [] i x h = absurd (cc)
drop_got f (y ∷ xs) zero x h = ap (λ z. f z ∷ map f xs) (same_some y x h)
drop_got f (y ∷ xs) (suc i) x h = drop_got f xs i x h

-- A simple type and a queue have no parts.
abbrev HasNoParts : Option TypeRow → Type 0
HasNoParts (Some (row.Array low high e)) = ⊥
HasNoParts (Some (row.Record fields)) = ⊥
HasNoParts (Some (row.Component k members)) = ⊥
HasNoParts _ = Unit {0}

pub no_parts : (tables : Tables) (v : Visit) (c : Cursor) (old : Walk) (out : Text) → HasNoParts (row_at tables.types c.row) → Continues tables v c old old out out
no_parts tables v c old out none g left rest scope S = by left S
  where
    no_members : (o : Option TypeRow) (es : List (Name × ℕ)) → HasNoParts o → members_in o ≡ Some es → ⊥
    no_members (Some (row.Array low high e)) es h is = h
    no_members (Some (row.Record fields)) es h is = h
    no_members (Some (row.Component k members)) es h is = h
    no_members (Some (row.Simple x)) es h is = cc
    no_members (Some row.Queue) es h is = cc
    no_members (Some row.Unknown) es h is = cc
    no_members None es h is = cc

    by : (l : Remaining) → Proceeds tables v c old old out out g rest l
    by (MembersRemaining p ms) S = absurd (no_members (row_at tables.types c.row) S.0.parts.0 none S.0.parts.1)
    by (ElementsRemaining p is t) S = absurd (subst HasNoParts S.0.parts.3 none)
