-- What a reader that succeeds ensures.
use Rattle.std.proofs.Common.{◌≡◌, ℕ, zero, suc, Bool, true, false, cond, List, [], ◌∷◌, ◌++◌, length, Option, Some, None, Ok, Err, refl, sym, subst}
use Rattle.cp_model.specs.Languages.{Language, never, symbol, symbol_at, optional, each, each_behind, separated_list}
use Rattle.cp_model.specs.Tokens.{Token}
use Rattle.cp_model.specs.Tokens.{Kind}
use Rattle.cp_model.specs.declared.token.Symbol.{Symbol}
use Rattle.cp_model_grammar.specs.Kinds.{is_symbol}
use Rattle.cp_model_grammar.specs.Reading.{Outcome, Reader, and_then, ◌>>=◌, pure, refuse, take_token, kind_at, place_at, tail, expect, optional_symbol, inside, repeat, repeat_while, one_or_more, separated_by}
use Rattle.cp_model_grammar.proofs.Tokens.{head_symbol}

abbrev pub Ensures : {A : Type 0} → Outcome A → (A → List Token → Type 0) → Type 0
Ensures (Ok x) Q = Q x.0 x.1
Ensures (Err e) Q = Unit {0}

-- the tokens that a reader takes are in the language of its result
abbrev pub Sound : {A : Type 0} → Reader A → (A → Language) → Type 0
Sound p f = (ts : List Token) → Ensures (p ts) (λ x rest. f x ts rest)

pub ensures_then : {A B : Type 0} (o : Outcome A) (f : A → Reader B) (Q : A → List Token → Type 0) (R : B → List Token → Type 0)
    → Ensures o Q → ((x : A) (mid : List Token) → Q x mid → Ensures (f x mid) R) → Ensures (and_then o f) R
ensures_then (Ok x) f Q R h k = k x.0 x.1 h
ensures_then (Err e) f Q R h k = tt

pub ensures_weaker : {A : Type 0} (o : Outcome A) (Q R : A → List Token → Type 0) → Ensures o Q → ((x : A) (mid : List Token) → Q x mid → R x mid)
    → Ensures o R
ensures_weaker (Ok x) Q R h k = k x.0 x.1 h
ensures_weaker (Err e) Q R h k = tt

-- ---- symbols

expect_if : (x : Symbol) (ts : List Token) (b : Bool) → is_symbol x (kind_at ts) ≡ b
    → Ensures (cond b take_token refuse ts) (λ at rest. symbol_at x at ts rest)
expect_if x ts true e = head_symbol ts x e
expect_if x ts false e = tt

pub expect_sound : (x : Symbol) → Sound (expect x) (symbol_at x)
unfolding expect
expect_sound x ts = expect_if x ts (is_symbol x (kind_at ts)) refl

optional_if : (x : Symbol) (ts : List Token) (b : Bool) → is_symbol x (kind_at ts) ≡ b
    → Ensures (cond b (take_token >>= λ at. pure (Some at)) (pure None) ts) (λ at rest. optional x at ts rest)
optional_if x ts true e = head_symbol ts x e
optional_if x ts false e = refl

pub optional_sound : (x : Symbol) → Sound (optional_symbol x) (optional x)
unfolding optional_symbol
optional_sound x ts = optional_if x ts (is_symbol x (kind_at ts)) refl

-- ---- levels

-- the readers one level deeper are sound, and there are none if no level may be opened
abbrev pub SoundInner : {B : Type 0} → (ℕ → B → Type 0) → ℕ → Option B → Type 0
SoundInner P zero None = Unit {0}
SoundInner P (suc room) (Some f) = P room f
SoundInner P zero (Some f) = ⊥
SoundInner P (suc room) None = ⊥

module _ {A B : Type 0} (P : ℕ → B → Type 0) (Q : ℕ → A → List Token → Type 0) (g : B → Reader A) (ts : List Token) where
  pub inside_sound : ((room : ℕ) (f : B) → P room f → Ensures (g f ts) (Q (suc room)))
      → (room : ℕ) (i : Option B) → SoundInner P room i → Ensures (inside i g ts) (Q room)
  inside_sound h zero None ok = tt
  inside_sound h zero (Some f) ok = absurd ok
  inside_sound h (suc room) None ok = absurd ok
  inside_sound h (suc room) (Some f) ok = h room f ok

-- ---- lists

-- a further item preserves what holds for the items so far and the tokens after them
module _ {A : Type 0} (proceeds : Option Kind → Bool) (item : Reader A) (Holds : List A → List Token → Type 0)
    (ok : (xs : List A) (ts : List Token) → Holds xs ts → proceeds (kind_at ts) ≡ true → Ensures (item ts) (λ x rest. Holds (xs ++ x ∷ []) rest)) where
  pub repeat_sound : (n : ℕ) (xs : List A) (ts : List Token) → Holds xs ts → Ensures (repeat proceeds item n xs ts) Holds
  unfolding repeat
  repeat_sound zero xs ts h = h
  repeat_sound (suc n) xs ts h = turn (proceeds (kind_at ts)) refl (repeat_sound n)
    where
      turn : (b : Bool) → proceeds (kind_at ts) ≡ b → ((xs : List A) (ts : List Token) → Holds xs ts → Ensures (repeat proceeds item n xs ts) Holds)
          → Ensures (cond b (item >>= λ x. repeat proceeds item n (xs ++ x ∷ [])) (pure xs) ts) Holds
      turn false e again = h
      turn true e again = ensures_then (item ts) (λ x. repeat proceeds item n (xs ++ x ∷ [])) (λ x rest. Holds (xs ++ x ∷ []) rest) _ (ok xs ts h e)
          (λ x mid g. again (xs ++ x ∷ []) mid g)

module _ {A : Type 0} (f : A → Language) (x : Symbol) where
  behind_push : (items : List A) (a : A) (ts mid next rest : List Token) → each_behind x f items ts mid → symbol x mid next → f a next rest
      → each_behind x f (items ++ a ∷ []) ts rest
  behind_push [] a ts mid next rest h k g = (next, subst (λ (t : List Token). symbol x t next) (sym h) k, (rest, g, refl))
  behind_push (y ∷ ys) a ts mid next rest h k g = (h.0, h.1, (h.2.0, h.2.1, behind_push ys a h.2.0 mid next rest h.2.2 k g))

  pub separated_push : (items : List A) (a : A) (ts mid next rest : List Token) → separated_list x f items ts mid → symbol x mid next → f a next rest
      → separated_list x f (items ++ a ∷ []) ts rest
  separated_push [] a ts mid next rest h k g = absurd h
  separated_push (y ∷ ys) a ts mid next rest h k g = (h.0, h.1, behind_push ys a h.0 mid next rest h.2 k g)

  pub separated_sound : (item : Reader A) → Sound item f → Sound (separated_by x item) (separated_list x f)
  separated_sound item ok ts = ensures_then (item ts) (λ a. repeat_while (is_symbol x) (take_token >>= λ _. item) (a ∷ [])) (λ a rest. f a ts rest) _
      (ok ts)
      (λ a mid h. repeat_sound (is_symbol x) (take_token >>= λ _. item) (λ items rest. separated_list x f items ts rest)
      (λ items at g c. ensures_weaker (item (tail at)) (λ a rest. f a (tail at) rest) _ (ok (tail at))
      (λ a rest one. separated_push items a ts at (tail at) rest g (place_at at, head_symbol at x c) one))
      (length mid) (a ∷ []) mid (mid, h, refl))

-- one or more
abbrev pub some : {A : Type 0} → (A → Language) → List A → Language
some f [] = never
some f (a ∷ items) = each f (a ∷ items)

module _ {A : Type 0} (f : A → Language) where
  pub each_push : (items : List A) (a : A) (ts mid rest : List Token) → each f items ts mid → f a mid rest → each f (items ++ a ∷ []) ts rest
  each_push [] a ts mid rest h g = (rest, subst (λ (t : List Token). f a t rest) (sym h) g, refl)
  each_push (y ∷ ys) a ts mid rest h g = (h.0, h.1, each_push ys a h.0 mid rest h.2 g)

  pub some_push : (items : List A) (a : A) (ts mid rest : List Token) → some f items ts mid → f a mid rest → some f (items ++ a ∷ []) ts rest
  some_push [] a ts mid rest h g = absurd h
  some_push (y ∷ ys) a ts mid rest h g = each_push (y ∷ ys) a ts mid rest h g

  pub each_sound : (proceeds : Option Kind → Bool) (item : Reader A)
      → ((ts : List Token) → proceeds (kind_at ts) ≡ true → Ensures (item ts) (λ a rest. f a ts rest))
      → Sound (repeat_while proceeds item []) (each f)
  each_sound proceeds item ok ts = repeat_sound proceeds item (λ items rest. each f items ts rest)
      (λ items at g c. ensures_weaker (item at) (λ a rest. f a at rest) _ (ok at c) (λ a rest one. each_push items a ts at rest g one))
      (length ts) [] ts refl

  pub some_sound : (proceeds : Option Kind → Bool) (item : Reader A) → Sound item f → Sound (one_or_more proceeds item) (some f)
  some_sound proceeds item ok ts = ensures_then (item ts) (λ a. repeat_while proceeds item (a ∷ [])) (λ a rest. f a ts rest) _ (ok ts)
      (λ a mid h. repeat_sound proceeds item (λ items rest. some f items ts rest)
      (λ items at g c. ensures_weaker (item at) (λ a rest. f a at rest) _ (ok at) (λ a rest one. some_push items a ts at rest g one))
      (length mid) (a ∷ []) mid (mid, h, refl))
