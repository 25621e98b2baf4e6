-- Two readers on two texts that agree up to and including a token. Up to that token they return the
-- same, since no reader looks further, and each result has as many levels as tokens were taken for
-- it. The second reader may have more levels to open. If the first stops at that token because it
-- lacks a level, the second goes past it and opens there the level that is one too many for the
-- first.
use Rattle.std.proofs.Common.{◌≡◌, ℕ, suc, ◌+◌, ◌≤◌, ◌⊎◌, inl, inr, Bool, true, false, cond, List, [], ◌∷◌, ◌++◌, length, Option, Some, None, Ok, Err, refl, sym, ap, subst, ◌∙◌, append_assoc, arith, length-append}
use Rattle.std.proofs.lemmas.List.{append-nil}
use Rattle.cp_model.specs.Levels.{optional_levels}
use Rattle.cp_model.specs.Tokens.{Token}
use Rattle.cp_model.specs.Tokens.{Kind}
use Rattle.cp_model.specs.declared.token.Symbol.{Symbol}
use Rattle.cp_model_grammar.specs.declared.stop.Stop.{Stop}
use Rattle.cp_model_grammar.specs.declared.stop.Stop.TheVariants.{Memory, Wrong, Deep}
use Rattle.cp_model_grammar.specs.Kinds.{is_symbol}
use Rattle.cp_model_grammar.specs.Reading.{Outcome, Reader, and_then, ◌>>=◌, pure, refuse, too_deep, take_token, by_kind, expect, optional_symbol, if_some, inside}
use Rattle.cp_model_grammar.proofs.Tokens.{no_symbol}

-- a token, what follows it in the one text and in the other, and the level that is one too many
pub record Cut : Type 0 where
  pub token : Token
  pub here : List Token
  pub there : List Token
  pub top : ℕ

-- as many levels for both readers, or more for the second
pub data Mode : Type 0 where
  Equal : Mode
  Wider : Mode

-- where a reader is called: anywhere, or before a token
pub data Start : Type 0 where
  Anywhere : Start
  Before : Start

abbrev pub At : Start → List Token → Type 0
At Anywhere ts = Unit {0}
At Before [] = ⊥
At Before (x ∷ ts) = Unit {0}

abbrev pub start_of : Option Kind → Start
start_of None = Anywhere
start_of (Some k) = Before

-- ---- a result takes tokens, and has a level for each

abbrev pub Took : {A : Type 0} → (A → List ℕ → Type 0) → A → List Token → List Token → Type 0
Took T x ts rest = (front : List Token) × (ts ≡ front ++ rest) × (levels : List ℕ) × T x levels × (length levels ≡ length front)

abbrev pub TameStop : Stop → List Token → Type 0
TameStop Memory ts = ⊥
TameStop (Wrong n) ts = n ≤ length ts
TameStop (Deep n) ts = n ≤ length ts

abbrev pub Tame : {A : Type 0} → (A → List ℕ → Type 0) → Outcome A → List Token → Type 0
Tame T (Ok x) ts = Took T x.0 ts x.1
Tame T (Err s) ts = TameStop s ts

stop_weaken : (s : Stop) (front mid ts : List Token) → ts ≡ front ++ mid → TameStop s mid → TameStop s ts
stop_weaken Memory front mid ts e h = h
stop_weaken (Wrong n) front mid ts e h = rw e (omega (arith, length-append front mid))
stop_weaken (Deep n) front mid ts e h = rw e (omega (arith, length-append front mid))

stop_shorter : (s : Stop) (ts us : List Token) → length ts ≤ length us → TameStop s ts → TameStop s us
stop_shorter Memory ts us le h = h
stop_shorter (Wrong n) ts us le h = omega arith
stop_shorter (Deep n) ts us le h = omega arith

pub tame_imply : {A : Type 0} (T U : A → List ℕ → Type 0) (o : Outcome A) (ts : List Token) → ((x : A) (l : List ℕ) → T x l → U x l) → Tame T o ts
    → Tame U o ts
tame_imply T U (Ok x) ts h g = (g.0, g.1, g.2, h x.0 g.2 g.3, g.4)
tame_imply T U (Err s) ts h g = g

module _ {A B : Type 0} (T : A → List ℕ → Type 0) (U : B → List ℕ → Type 0) where
  tame_behind : (o : Outcome B) (x : A) (l : List ℕ) (front mid ts : List Token) → ts ≡ front ++ mid → length l ≡ length front
      → Tame (λ y m. U y (l ++ m)) o mid → Tame U o ts
  tame_behind (Ok y) x l front mid ts e n h = (
    front ++ h.0,
    e ∙ ap (λ (r : List Token). front ++ r) h.1 ∙ sym (append_assoc front h.0 y.1),
    l ++ h.2,
    h.3,
    omega (arith, length-append l h.2, length-append front h.0, h.4),
  )
  tame_behind (Err s) x l front mid ts e n h = stop_weaken s front mid ts e h

  pub tame_then : (o : Outcome A) (k : A → Reader B) (ts : List Token) → Tame T o ts
      → ((x : A) (l : List ℕ) → T x l → (mid : List Token) → Tame (λ y m. U y (l ++ m)) (k x mid) mid) → Tame U (and_then o k) ts
  tame_then (Ok x) k ts h g = tame_behind (k x.0 x.1) x.0 h.2 h.0 x.1 ts h.1 h.4 (g x.0 h.2 h.3 x.1)
  tame_then (Err s) k ts h g = h

-- ---- the two texts

cancel : (t : Token) (a f g : List Token) → f ++ t ∷ a ≡ g ++ t ∷ a → f ≡ g
cancel t a [] [] e = refl
cancel t a [] (y ∷ g) e = absurd (let n : length (t ∷ a) ≡ length ((y ∷ g) ++ t ∷ a) = ap length e in omega (arith, length-append (y ∷ g) (t ∷ a)))
cancel t a (x ∷ f) [] e = absurd (let n : length ((x ∷ f) ++ t ∷ a) ≡ length (t ∷ a) = ap length e in omega (arith, length-append (x ∷ f) (t ∷ a)))
cancel t a (x ∷ f) (y ∷ g) e =
    let heads : x ≡ y = cc in
    let tails : f ++ t ∷ a ≡ g ++ t ∷ a = cc in
    let same = cancel t a f g tails in cc

-- what is left of the text contains the cut, or comes after it
split : (t : Token) (a f h mid : List Token) → f ++ t ∷ a ≡ h ++ mid → ((g : List Token) × (mid ≡ g ++ t ∷ a)) ⊎ (length mid ≤ length a)
split t a f [] mid e = inl (f, sym e)
split t a [] (y ∷ h) mid e =
    let tails : a ≡ h ++ mid = cc in inr (let n : length a ≡ length (h ++ mid) = ap length tails in omega (arith, length-append h mid))
split t a (x ∷ f) (y ∷ h) mid e = let tails : f ++ t ∷ a ≡ h ++ mid = cc in split t a f h mid tails

module _ (c : Cut) where
  -- one of the levels of the tree is the level that is one too many, at the token of the cut
  abbrev pub Opened : {A : Type 0} → (A → List ℕ → Type 0) → A → List Token → Type 0
  Opened T x rest = (levels : List ℕ) × T x levels × (before : List ℕ) × (behind : List ℕ) × (levels ≡ before ++ c.top ∷ behind)
      × (length behind + length rest ≡ length c.there)

  -- the second reader went past the token of the cut
  abbrev pub Passed : {A : Type 0} → (A → List ℕ → Type 0) → Outcome A → Type 0
  Passed T (Ok x) = Opened T x.0 x.1
  Passed T (Err s) = TameStop s c.there

  -- what a stop at the token of the cut means for the second reader
  abbrev pub LikeStop : Mode → {A : Type 0} → (A → List ℕ → Type 0) → Stop → Outcome A → Type 0
  LikeStop m T Memory o = Unit {0}
  LikeStop m T (Wrong n) o = n ≡ suc (length c.here) → o ≡ Err (Wrong (suc (length c.there)))
  LikeStop Equal T (Deep n) o = n ≡ suc (length c.here) → o ≡ Err (Deep (suc (length c.there)))
  LikeStop Wider T (Deep n) o = n ≡ suc (length c.here) → Passed T o

  abbrev pub Like : Mode → {A : Type 0} → (A → List ℕ → Type 0) → Outcome A → Outcome A → Type 0
  Like m T (Ok x) o = (g : List Token) → x.1 ≡ g ++ c.token ∷ c.here → o ≡ Ok (x.0, g ++ c.token ∷ c.there)
  Like m T (Err s) o = LikeStop m T s o

  like_short : {A : Type 0} (m : Mode) (T U : A → List ℕ → Type 0) (o o' : Outcome A) (mid : List Token) → Tame T o mid → length mid ≤ length c.here
      → Like m U o o'
  like_short m T U (Ok x) o' mid h le = λ g e. absurd
      (let n : length mid ≡ length (h.0 ++ x.1) = ap length h.1 in let k : length x.1 ≡ length (g ++ c.token ∷ c.here) = ap length e in
      omega (arith, length-append h.0 x.1, length-append g (c.token ∷ c.here)))
  like_short m T U (Err Memory) o' mid h le = tt
  like_short m T U (Err (Wrong n)) o' mid h le = λ e. absurd (omega arith)
  like_short Equal T U (Err (Deep n)) o' mid h le = λ e. absurd (omega arith)
  like_short Wider T U (Err (Deep n)) o' mid h le = λ e. absurd (omega arith)

  passed_imply : {A : Type 0} (T U : A → List ℕ → Type 0) (l : List ℕ) (o : Outcome A) → ((x : A) (m : List ℕ) → T x m → U x (l ++ m))
      → Passed T o → Passed U o
  passed_imply T U l (Ok x) h p =
      let e : l ++ p.0 ≡ (l ++ p.2) ++ c.top ∷ p.3 = ap (λ (m : List ℕ). l ++ m) p.4 ∙ sym (append_assoc l p.2 (c.top ∷ p.3)) in
      (l ++ p.0, h x.0 p.0 p.1, l ++ p.2, p.3, e, p.5)
  passed_imply T U l (Err s) h p = p

  pub like_imply : {A : Type 0} (m : Mode) (T U : A → List ℕ → Type 0) (l : List ℕ) (o o' : Outcome A) → ((x : A) (k : List ℕ) → T x k → U x (l ++ k))
      → Like m T o o' → Like m U o o'
  like_imply m T U l (Ok x) o' h g = g
  like_imply m T U l (Err Memory) o' h g = tt
  like_imply m T U l (Err (Wrong n)) o' h g = g
  like_imply Equal T U l (Err (Deep n)) o' h g = g
  like_imply Wider T U l (Err (Deep n)) o' h g = λ e. passed_imply T U l o' h (g e)

  -- ---- one reader after another

  module _ {A B : Type 0} (T : A → List ℕ → Type 0) (U : B → List ℕ → Type 0) where
    passed_then : (o : Outcome A) (k : A → Reader B) → Passed T o
        → ((x : A) (l : List ℕ) → T x l → (mid : List Token) → Tame (λ y m. U y (l ++ m)) (k x mid) mid) → Passed U (and_then o k)
    passed_then (Err s) k h g = h
    passed_then (Ok x) k h g = go (k x.0 x.1) (g x.0 h.0 h.1 x.1)
      where
        go : (o : Outcome B) → Tame (λ y m. U y (h.0 ++ m)) o x.1 → Passed U o
        go (Err s) p = stop_shorter s x.1 c.there (omega (arith, h.5)) p
        go (Ok y) p =
            let e : h.0 ++ p.2 ≡ h.2 ++ c.top ∷ (h.3 ++ p.2) = ap (λ (l : List ℕ). l ++ p.2) h.4 ∙ append_assoc h.2 (c.top ∷ h.3) p.2 in
            let n : length x.1 ≡ length (p.0 ++ y.1) = ap length p.1 in
            (h.0 ++ p.2, p.3, h.2, h.3 ++ p.2, e, omega (arith, length-append h.3 p.2, length-append p.0 y.1, n, p.4, h.5))

    stop_then : (m : Mode) (s : Stop) (o' : Outcome A) (k' : A → Reader B) → LikeStop m T s o'
        → ((x : A) (l : List ℕ) → T x l → (mid : List Token) → Tame (λ y m. U y (l ++ m)) (k' x mid) mid) → LikeStop m U s (and_then o' k')
    stop_then m Memory o' k' h g = tt
    stop_then m (Wrong n) o' k' h g = λ e. ap (λ o. and_then o k') (h e)
    stop_then Equal (Deep n) o' k' h g = λ e. ap (λ o. and_then o k') (h e)
    stop_then Wider (Deep n) o' k' h g = λ e. passed_then o' k' (h e) g

    pub like_then : (m : Mode) (o o' : Outcome A) (k k' : A → Reader B) (f : List Token) → Tame T o (f ++ c.token ∷ c.here) → Like m T o o'
        → ((x : A) (l : List ℕ) → T x l → (mid : List Token) → Tame (λ y m. U y (l ++ m)) (k x mid) mid)
        → ((x : A) (l : List ℕ) → T x l → (mid : List Token) → Tame (λ y m. U y (l ++ m)) (k' x mid) mid)
        → ((x : A) (l : List ℕ) → T x l → (g : List Token) → length l + length g ≡ length f
        → Like m (λ y m. U y (l ++ m)) (k x (g ++ c.token ∷ c.here)) (k' x (g ++ c.token ∷ c.there)))
        → Like m U (and_then o k) (and_then o' k')
    like_then m (Err s) o' k k' f h p tame tame' next = stop_then m s o' k' p tame'
    like_then m (Ok x) o' k k' f h p tame tame' next = cut (split c.token c.here f h.0 x.1 h.1)
      where
        cut : ((g : List Token) × (x.1 ≡ g ++ c.token ∷ c.here)) ⊎ (length x.1 ≤ length c.here) → Like m U (k x.0 x.1) (and_then o' k')
        cut (inr short) = like_short m (λ y m. U y (h.2 ++ m)) U (k x.0 x.1) (and_then o' k') x.1 (tame x.0 h.2 h.3 x.1) short
        cut (inl g) =
            let n : length h.2 + length g.0 ≡ length f =
            (let i : length (f ++ c.token ∷ c.here) ≡ length (h.0 ++ x.1) = ap length h.1 in let j : length x.1 ≡ length (g.0 ++ c.token ∷ c.here) =
            ap length g.1 in
            omega (arith, length-append h.0 x.1, length-append g.0 (c.token ∷ c.here), length-append f (c.token ∷ c.here), h.4)) in
            let one = like_imply m (λ y m. U y (h.2 ++ m)) U h.2 (k x.0 (g.0 ++ c.token ∷ c.here)) (k' x.0 (g.0 ++ c.token ∷ c.there)) (λ y m u. u)
            (next x.0 h.2 h.3 g.0 n) in
            rw (p g.0 g.1) (subst (λ (r : List Token). Like m U (k x.0 r) (k' x.0 (g.0 ++ c.token ∷ c.there))) (sym g.1) one)

-- ---- steady readers

-- T relates a result and its levels
pub record Steady (c : Cut) (m : Mode) (w : Start) {A : Type 0} (T : A → List ℕ → Type 0) (p q : Reader A) : Type 0 where
  pub tame : (ts : List Token) → At w ts → Tame T (p ts) ts
  pub tame' : (ts : List Token) → At w ts → Tame T (q ts) ts
  pub like : (f : List Token) → Like c m T (p (f ++ c.token ∷ c.here)) (q (f ++ c.token ∷ c.there))

-- these levels, and no others
abbrev pub Has : {A : Type 0} → (A → List ℕ) → A → List ℕ → Type 0
Has g x l = l ≡ g x

pub at_cut : (w : Start) (f : List Token) (t : Token) (a : List Token) → At w (f ++ t ∷ a)
at_cut Anywhere f t a = tt
at_cut Before [] t a = tt
at_cut Before (x ∷ f) t a = tt

pub imply : {c : Cut} {m : Mode} {w : Start} {A : Type 0} {T : A → List ℕ → Type 0} {p q : Reader A} (U : A → List ℕ → Type 0) → Steady c m w T p q
    → ((x : A) (l : List ℕ) → T x l → U x l) → Steady c m w U p q
imply {c} {m} {w} {A} {T} {p} {q} U s h = record {
  tame = λ ts k. tame_imply T U (p ts) ts h (s.tame ts k);
  tame' = λ ts k. tame_imply T U (q ts) ts h (s.tame' ts k);
  like = λ f. like_imply c m T U [] (p (f ++ c.token ∷ c.here)) (q (f ++ c.token ∷ c.there)) h (s.like f);
}

pub before : {c : Cut} {m : Mode} {A : Type 0} {T : A → List ℕ → Type 0} {p q : Reader A} → Steady c m Anywhere T p q → Steady c m Before T p q
before s = record { tame = λ ts k. s.tame ts tt; tame' = λ ts k. s.tame' ts tt; like = s.like }

pub then_any : {c : Cut} {m : Mode} {w : Start} {A B : Type 0} {T : A → List ℕ → Type 0} {U : B → List ℕ → Type 0} {p q : Reader A} {k k' : A
    → Reader B} → Steady c m w T p q
    → ((x : A) (l : List ℕ) → T x l → Steady c m Anywhere (λ y j. U y (l ++ j)) (k x) (k' x)) → Steady c m w U (p >>= k) (q >>= k')
then_any {c} {m} {w} {A} {B} {T} {U} {p} {q} {k} {k'} s next = record {
  tame = λ ts at. tame_then T U (p ts) k ts (s.tame ts at) (λ x l h mid. (next x l h).tame mid tt);
  tame' = λ ts at. tame_then T U (q ts) k' ts (s.tame' ts at) (λ x l h mid. (next x l h).tame' mid tt);
  like = λ f. like_then c T U m (p (f ++ c.token ∷ c.here)) (q (f ++ c.token ∷ c.there)) k k' f
      (s.tame (f ++ c.token ∷ c.here) (at_cut w f c.token c.here)) (s.like f)
      (λ x l h mid. (next x l h).tame mid tt) (λ x l h mid. (next x l h).tame' mid tt) (λ x l h r e. (next x l h).like r);
}

pub then : {c : Cut} {m : Mode} {w : Start} {A B : Type 0} {g : A → List ℕ} {U : B → List ℕ → Type 0} {p q : Reader A} {k k' : A → Reader B}
    → Steady c m w (Has g) p q
    → ((x : A) → Steady c m Anywhere (λ y l. U y (g x ++ l)) (k x) (k' x)) → Steady c m w U (p >>= k) (q >>= k')
then {c} {m} {w} {A} {B} {g} {U} {p} {q} {k} {k'} s next =
    then_any s (λ x l h. subst (λ (l : List ℕ). Steady c m Anywhere (λ y j. U y (l ++ j)) (k x) (k' x)) (sym h) (next x))

-- ---- the steps

pub pure_steady : {c : Cut} {m : Mode} {A : Type 0} {T : A → List ℕ → Type 0} (x : A) → T x [] → Steady c m Anywhere T (pure x) (pure x)
pure_steady {c} {m} {A} {T} x h = record {
  tame = λ ts k. ([], refl, [], h, refl);
  tame' = λ ts k. ([], refl, [], h, refl);
  like = λ f g e. ap (λ (r : List Token). Ok (x, r ++ c.token ∷ c.there)) (cancel c.token c.here f g e);
}

pub finish : {c : Cut} {m : Mode} {w : Start} {A B : Type 0} {g : A → List ℕ} {U : B → List ℕ → Type 0} {p q : Reader A} (h : A → B)
    → Steady c m w (Has g) p q
    → ((x : A) → U (h x) (g x)) → Steady c m w U (p >>= λ x. pure (h x)) (q >>= λ x. pure (h x))
finish {c} {m} {w} {A} {B} {g} {U} {p} {q} h s u =
    then s (λ x. pure_steady (h x) (subst (U (h x)) (sym (append-nil (g x))) (u x)))

pub refuse_steady : {c : Cut} {m : Mode} {w : Start} {A : Type 0} {T : A → List ℕ → Type 0} → Steady c m w T (refuse {A = A}) refuse
refuse_steady {c} {m} {w} {A} {T} = record {
  tame = λ ts k. omega arith;
  tame' = λ ts k. omega arith;
  like = λ f e. (let n : length f ≡ 0 = omega (arith, length-append f (c.token ∷ c.here)) in
      let k : length (f ++ c.token ∷ c.there) ≡ suc (length c.there) = omega (arith, length-append f (c.token ∷ c.there)) in
      ap (λ n. Err (Wrong n)) k);
}

take_tame : (n : ℕ) (ts : List Token) → At Before ts → Tame (Has (λ at. n ∷ [])) (take_token ts) ts
take_tame n [] k = absurd k
take_tame n (x ∷ ts) k = (x ∷ [], refl, n ∷ [], refl, refl)

take_like : (c : Cut) (m : Mode) (n : ℕ) (f : List Token)
    → Like c m (Has (λ at. n ∷ [])) (take_token (f ++ c.token ∷ c.here)) (take_token (f ++ c.token ∷ c.there))
take_like c m n [] g e = absurd (let n : length c.here ≡ length (g ++ c.token ∷ c.here) = ap length e in
    omega (arith, length-append g (c.token ∷ c.here)))
take_like c m n (x ∷ f) g e = ap (λ (h : List Token). Ok (x.span.from, h ++ c.token ∷ c.there)) (cancel c.token c.here f g e)

-- a token that opens this level, or none
pub take_steady : {c : Cut} {m : Mode} (n : ℕ) → Steady c m Before (Has (λ at. n ∷ [])) take_token take_token
take_steady {c} {m} n = record { tame = take_tame n; tame' = take_tame n; like = take_like c m n }

pub kind_steady : {c : Cut} {m : Mode} {A : Type 0} {T : A → List ℕ → Type 0} {p q : Option Kind → Reader A}
    → ((k : Option Kind) → Steady c m (start_of k) T (p k) (q k)) → Steady c m Anywhere T (by_kind p) (by_kind q)
kind_steady {c} {m} {A} {T} {p} {q} s = record { tame = tame; tame' = tame'; like = like }
  where
    tame : (ts : List Token) → At Anywhere ts → Tame T (by_kind p ts) ts
    tame [] k = (s None).tame [] tt
    tame (x ∷ ts) k = (s (Some x.kind)).tame (x ∷ ts) tt

    tame' : (ts : List Token) → At Anywhere ts → Tame T (by_kind q ts) ts
    tame' [] k = (s None).tame' [] tt
    tame' (x ∷ ts) k = (s (Some x.kind)).tame' (x ∷ ts) tt

    like : (f : List Token) → Like c m T (by_kind p (f ++ c.token ∷ c.here)) (by_kind q (f ++ c.token ∷ c.there))
    like [] = (s (Some c.token.kind)).like []
    like (x ∷ f) = (s (Some x.kind)).like (x ∷ f)

pub kind_before : {c : Cut} {m : Mode} {A : Type 0} {T : A → List ℕ → Type 0} (p q : Option Kind → Reader A)
    → ((k : Kind) → Steady c m Before T (p (Some k)) (q (Some k))) → Steady c m Before T (by_kind p) (by_kind q)
kind_before {c} {m} {A} {T} p q s = record { tame = tame; tame' = tame'; like = like }
  where
    tame : (ts : List Token) → At Before ts → Tame T (by_kind p ts) ts
    tame [] k = absurd k
    tame (x ∷ ts) k = (s x.kind).tame (x ∷ ts) tt

    tame' : (ts : List Token) → At Before ts → Tame T (by_kind q ts) ts
    tame' [] k = absurd k
    tame' (x ∷ ts) k = (s x.kind).tame' (x ∷ ts) tt

    like : (f : List Token) → Like c m T (by_kind p (f ++ c.token ∷ c.here)) (by_kind q (f ++ c.token ∷ c.there))
    like [] = (s c.token.kind).like []
    like (x ∷ f) = (s x.kind).like (x ∷ f)

pub symbol_steady : {c : Cut} {m : Mode} {A : Type 0} {T : A → List ℕ → Type 0} (x : Symbol) (h h' : Bool → Reader A)
    → Steady c m Before T (h true) (h' true) → Steady c m Anywhere T (h false) (h' false)
    → Steady c m Anywhere T (by_kind (λ k. h (is_symbol x k))) (by_kind (λ k. h' (is_symbol x k)))
symbol_steady {c} {m} {A} {T} x h h' s r = kind_steady go
  where
    by : (b : Bool) → Steady c m Before T (h b) (h' b)
    by true = s
    by false = before r

    go : (k : Option Kind) → Steady c m (start_of k) T (h (is_symbol x k)) (h' (is_symbol x k))
    go None = rw (no_symbol x) r
    go (Some k) = by (is_symbol x (Some k))

pub if_some_steady : {c : Cut} {m : Mode} {w : Start} {A B : Type 0} {T : B → List ℕ → Type 0} (o : Option A) {p p' : Reader B} {k k' : A → Reader B}
    → Steady c m w T p p' → ((x : A) → Steady c m w T (k x) (k' x))
    → Steady c m w T (if_some o p k) (if_some o p' k')
if_some_steady None s n = s
if_some_steady (Some x) s n = n x

pub expect_steady : {c : Cut} {m : Mode} (x : Symbol) → Steady c m Anywhere (Has (λ at. 0 ∷ [])) (expect x) (expect x)
unfolding expect
expect_steady x = symbol_steady x (λ b. cond b take_token refuse) (λ b. cond b take_token refuse) (take_steady 0) refuse_steady

pub optional_steady : {c : Cut} {m : Mode} (x : Symbol) → Steady c m Anywhere (Has optional_levels) (optional_symbol x) (optional_symbol x)
unfolding optional_symbol
optional_steady x = symbol_steady x (λ b. cond b (take_token >>= λ at. pure (Some at)) (pure None))
    (λ b. cond b (take_token >>= λ at. pure (Some at)) (pure None))
    (finish (λ at. Some at) (take_steady 0) (λ at. refl)) (pure_steady None refl)

-- ---- levels

-- the readers one level deeper, by what relates them. If the first has none, that level is the one
-- that is too many.
abbrev pub SteadyInner : Cut → {B : Type 0} → (Mode → ℕ → B → B → Type 0) → Mode → ℕ → Option B → Option B → Type 0
SteadyInner c R Equal depth None None = Unit {0}
SteadyInner c R Wider depth None None = ⊥
SteadyInner c R Equal depth None (Some f) = ⊥
SteadyInner c R Wider depth None (Some f) = (suc depth ≡ c.top) × R Equal (suc depth) f f
SteadyInner c R m depth (Some f) None = ⊥
SteadyInner c R m depth (Some f) (Some f') = R m (suc depth) f f'

too_deep_steady : {c : Cut} {A : Type 0} {T : A → List ℕ → Type 0} → Steady c Equal Before T (too_deep {A = A}) too_deep
too_deep_steady {c} {A} {T} = record {
  tame = λ ts k. omega arith;
  tame' = λ ts k. omega arith;
  like = λ f e. (let n : length f ≡ 0 = omega (arith, length-append f (c.token ∷ c.here)) in
      let k : length (f ++ c.token ∷ c.there) ≡ suc (length c.there) = omega (arith, length-append f (c.token ∷ c.there)) in
      ap (λ n. Err (Deep n)) k);
}

module _ {c : Cut} {A B : Type 0} (T : A → List ℕ → Type 0) (R : Mode → ℕ → B → B → Type 0) (depth : ℕ) (h : B → ℕ → Reader A)
    (next : (m : Mode) (f f' : B) → R m (suc depth) f f' → (at : ℕ) → Steady c m Anywhere (λ y l. T y (suc depth ∷ l)) (h f at) (h f' at)) where
  within : (m : Mode) (f f' : B) → R m (suc depth) f f' → Steady c m Before T (take_token >>= h f) (take_token >>= h f')
  within m f f' r = then (take_steady (suc depth)) (λ at. next m f f' r at)

  opened_here : (f : B) → suc depth ≡ c.top → R Equal (suc depth) f f → Passed c T ((take_token >>= h f) (c.token ∷ c.there))
  opened_here f top r = go (h f c.token.span.from c.there) ((next Equal f f r c.token.span.from).tame c.there tt)
    where
      go : (o : Outcome A) → Tame (λ y l. T y (suc depth ∷ l)) o c.there → Passed c T o
      go (Err s) p = p
      go (Ok y) p =
          let n : length c.there ≡ length (p.0 ++ y.1) = ap length p.1 in
          (suc depth ∷ p.2, p.3, [], p.2, ap (λ (n : ℕ). n ∷ p.2) top, omega (arith, length-append p.0 y.1, n, p.4))

  too_many : (f : B) → suc depth ≡ c.top → R Equal (suc depth) f f → (g : List Token) → length (g ++ c.token ∷ c.here) ≡ suc (length c.here)
      → Passed c T ((take_token >>= h f) (g ++ c.token ∷ c.there))
  too_many f top r [] e = opened_here f top r
  too_many f top r (x ∷ g) e = absurd (omega (arith, length-append g (c.token ∷ c.here)))

  -- what opens a level begins with the token that opens it
  pub opening_steady : (m : Mode) (i i' : Option B) → SteadyInner c R m depth i i'
      → Steady c m Before T (inside i (λ f. take_token >>= h f)) (inside i' (λ f. take_token >>= h f))
  opening_steady Equal None None s = too_deep_steady
  opening_steady Wider None None s = absurd s
  opening_steady Equal None (Some f) s = absurd s
  opening_steady Wider None (Some f) s = record {
    tame = λ ts k. omega arith;
    tame' = (within Equal f f s.1).tame';
    like = too_many f s.0 s.1;
  }
  opening_steady m (Some f) None s = absurd s
  opening_steady m (Some f) (Some f') s = within m f f' s
