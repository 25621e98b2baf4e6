-- What was read before a reader stopped can be completed: there are tokens that make it whole.
use Rattle.std.proofs.Common.{◌≡◌, ℕ, zero, suc, ◌⊎◌, inl, inr, Bool, true, false, cond, List, [], ◌∷◌, ◌++◌, length, Option, Some, None, Ok, Err, refl, sym, ap, subst, ◌∙◌, append_assoc}
use Rattle.cp_model.specs.Languages.{Language, token, symbol, symbol_at, ◌⋅◌, optional, each, separated_list}
use Rattle.cp_model.specs.Tokens.{Token}
use Rattle.cp_model.specs.Tokens.{Kind}
use Rattle.cp_model.specs.Tokens as kind
use Rattle.cp_model.specs.declared.token.Symbol.{Symbol}
use Rattle.cp_model_grammar.specs.declared.stop.Stop.TheVariants.{Memory, Wrong, Deep}
use Rattle.cp_model_grammar.specs.Kinds.{is_symbol}
use Rattle.cp_model_grammar.specs.Reading.{Outcome, Reader, and_then, ◌>>=◌, pure, refuse, take_token, by_kind, kind_at, expect, optional_symbol, inside, repeat, repeat_while, one_or_more, separated_by}
use Rattle.cp_model_grammar.proofs.Tokens.{is_symbol_is}
use Rattle.cp_model_grammar.proofs.Ensures.{some, separated_push, each_push, some_push}

-- ---- what can be completed

-- some tokens are in the language
abbrev pub Inhabited : {A : Type 0} → (A → Language) → Type 0
Inhabited {A} N = (more : List Token) × (y : A) × ((rest : List Token) → N y (more ++ rest) rest)

-- all but the last n of the tokens begin something in the language
abbrev pub Completion : {A : Type 0} → (A → Language) → ℕ → List Token → Type 0
Completion {A} N n ts = (front : List Token) × (behind : List Token) × (ts ≡ front ++ behind) × (length behind ≡ n)
    × (more : List Token) × (y : A) × ((rest : List Token) → N y (front ++ (more ++ rest)) rest)

abbrev pub ViableAt : {A : Type 0} → (A → Language) → Outcome A → List Token → Type 0
ViableAt N (Ok x) ts = (front : List Token) × (ts ≡ front ++ x.1) × ((rest : List Token) → N x.0 (front ++ rest) rest)
ViableAt N (Err Memory) ts = Unit {0}
ViableAt N (Err (Wrong n)) ts = Completion N n ts
ViableAt N (Err (Deep n)) ts = Completion N n ts

pub record Viable {A : Type 0} (p : Reader A) (N : A → Language) : Type 0 where
  pub some : Inhabited N
  pub at : (ts : List Token) → ViableAt N (p ts) ts

-- what follows x makes it a y
abbrev pub Behind : {A B : Type 0} → (A → Language) → A → (B → Language) → B → Language
Behind L x N y mid rest = (ts : List Token) → L x ts mid → N y ts rest

pub from_start : {A : Type 0} (N : A → Language) → Inhabited N → (ts : List Token) → Completion N (length ts) ts
from_start N s ts = ([], ts, refl, refl, s.0, s.1, s.2)

module _ {A B : Type 0} (L : A → Language) (N : B → Language) where
  gone_on : (x : A) (y : B) (front more : List Token) → ((rest : List Token) → L x (front ++ rest) rest)
      → ((rest : List Token) → Behind L x N y (more ++ rest) rest)
      → (rest : List Token) → N y ((front ++ more) ++ rest) rest
  gone_on x y front more l m rest =
      subst (λ (ts : List Token). N y ts rest) (sym (append_assoc front more rest)) (m rest (front ++ (more ++ rest)) (l (more ++ rest)))

  completed : (x : A) (n : ℕ) (front mid ts : List Token) → ts ≡ front ++ mid → ((rest : List Token) → L x (front ++ rest) rest)
      → Completion (Behind L x N) n mid → Completion N n ts
  completed x n front mid ts e l c =
      let whole : ts ≡ (front ++ c.0) ++ c.1 = e ∙ ap (λ (r : List Token). front ++ r) c.2 ∙ sym (append_assoc front c.0 c.1) in (
        front ++ c.0,
        c.1,
        whole,
        c.3,
        c.4,
        c.5,
        λ rest.
            subst (λ (ts : List Token). N c.5 ts rest) (sym (append_assoc front c.0 (c.4 ++ rest)))
            (c.6 rest (front ++ (c.0 ++ (c.4 ++ rest))) (l (c.0 ++ (c.4 ++ rest)))),
      )

  pub then_ok : (o : Outcome B) (x : A) (front mid ts : List Token) → ts ≡ front ++ mid → ((rest : List Token) → L x (front ++ rest) rest)
      → ViableAt (Behind L x N) o mid → ViableAt N o ts
  then_ok (Ok y) x front mid ts e l h =
      (front ++ h.0, e ∙ ap (λ (r : List Token). front ++ r) h.1 ∙ sym (append_assoc front h.0 y.1), gone_on x y.0 front h.0 l h.2)
  then_ok (Err Memory) x front mid ts e l h = tt
  then_ok (Err (Wrong n)) x front mid ts e l h = completed x n front mid ts e l h
  then_ok (Err (Deep n)) x front mid ts e l h = completed x n front mid ts e l h

  pub stopped_then : (n : ℕ) (ts : List Token) → Completion L n ts → ((x : A) → Inhabited (Behind L x N)) → Completion N n ts
  stopped_then n ts c s =
      let g = s c.5 in (
        c.0,
        c.1,
        c.2,
        c.3,
        c.4 ++ g.0,
        g.1,
        λ rest.
            subst (λ (r : List Token). N g.1 (c.0 ++ r) rest) (sym (append_assoc c.4 g.0 rest))
            (g.2 rest (c.0 ++ (c.4 ++ (g.0 ++ rest))) (c.6 (g.0 ++ rest))),
      )

  pub then_at : (o : Outcome A) (k : A → Reader B) (ts : List Token) → ViableAt L o ts → ((x : A) → Viable (k x) (Behind L x N))
      → ViableAt N (and_then o k) ts
  then_at (Ok x) k ts h next = then_ok (k x.0 x.1) x.0 h.0 x.1 ts h.1 h.2 ((next x.0).at x.1)
  then_at (Err Memory) k ts h next = tt
  then_at (Err (Wrong n)) k ts h next = stopped_then n ts h (λ x. (next x).some)
  then_at (Err (Deep n)) k ts h next = stopped_then n ts h (λ x. (next x).some)

  pub some_then : Inhabited L → ((x : A) → Inhabited (Behind L x N)) → Inhabited N
  some_then s next = let g = next s.1 in (s.0 ++ g.0, g.1, gone_on s.1 g.1 s.0 g.0 s.2 g.2)

pub then : {A B : Type 0} {L : A → Language} {N : B → Language} {p : Reader A} {k : A → Reader B} → Viable p L
    → ((x : A) → Viable (k x) (Behind L x N)) → Viable (p >>= k) N
then {A} {B} {L} {N} {p} {k} v next = record { some = some_then L N v.some (λ x. (next x).some); at = λ ts. then_at L N (p ts) k ts (v.at ts) next }

pub pure_viable : {A : Type 0} {N : A → Language} (y : A) → ((ts : List Token) → N y ts ts) → Viable (pure y) N
pure_viable y h = record { some = ([], y, h); at = λ ts. ([], refl, h) }

pub finish : {A B : Type 0} {L : A → Language} {N : B → Language} {p : Reader A} (h : A → B) → Viable p L
    → ((x : A) (ts rest : List Token) → L x ts rest → N (h x) ts rest) → Viable (p >>= λ x. pure (h x)) N
finish h v u = then v (λ x. pure_viable (h x) (λ mid ts l. u x ts mid l))

pub imply_at : {A : Type 0} (N M : A → Language) (o : Outcome A) (ts : List Token) → ((y : A) (ts rest : List Token) → N y ts rest → M y ts rest)
    → ViableAt N o ts → ViableAt M o ts
imply_at N M (Ok x) ts h v = (v.0, v.1, λ rest. h x.0 (v.0 ++ rest) rest (v.2 rest))
imply_at N M (Err Memory) ts h v = tt
imply_at N M (Err (Wrong n)) ts h v = (v.0, v.1, v.2, v.3, v.4, v.5, λ rest. h v.5 (v.0 ++ (v.4 ++ rest)) rest (v.6 rest))
imply_at N M (Err (Deep n)) ts h v = (v.0, v.1, v.2, v.3, v.4, v.5, λ rest. h v.5 (v.0 ++ (v.4 ++ rest)) rest (v.6 rest))

pub imply : {A : Type 0} {N : A → Language} {p : Reader A} (M : A → Language) → Viable p N
    → ((y : A) (ts rest : List Token) → N y ts rest → M y ts rest) → Viable p M
imply {A} {N} {p} M v h = record {
  some = (v.some.0, v.some.1, λ rest. h v.some.1 (v.some.0 ++ rest) rest (v.some.2 rest));
  at =
      λ ts. imply_at N M (p ts) ts h (v.at ts);
}

-- ---- the steps

pub kind_viable : {A : Type 0} {N : A → Language} (p : Option Kind → Reader A) → Inhabited N
    → ((ts : List Token) (k : Option Kind) → kind_at ts ≡ k → ViableAt N (p k ts) ts) → Viable (by_kind p) N
kind_viable p s h = record { some = s; at = λ ts. h ts (kind_at ts) refl }

taken : (k : Kind) (ts : List Token) → kind_at ts ≡ Some k → ViableAt (token k) (take_token ts) ts
taken k [] e = absurd cc
taken k (t ∷ ts) e = let same : t.kind ≡ k = cc in
    (t ∷ [], refl, λ rest. (t.span.to, ap (λ (x : Kind). record { kind = x; span = t.span } ∷ rest) same))

-- a token of this kind at the head, and what is read after it
pub take_at : {A : Type 0} (N : A → Language) (k : Kind) (h : ℕ → Reader A) (ts : List Token) → kind_at ts ≡ Some k
    → ((at : ℕ) → Viable (h at) (Behind (token k) at N)) → ViableAt N ((take_token >>= h) ts) ts
take_at N k h ts e next = then_at (token k) N (take_token ts) h ts (taken k ts e) next

pub symbol_viable : {A : Type 0} {N : A → Language} (x : Symbol) (h : Bool → Reader A) → Inhabited N
    → ((ts : List Token) → kind_at ts ≡ Some (kind.Symbol x) → ViableAt N (h true ts) ts)
    → ((ts : List Token) → ViableAt N (h false ts) ts) → Viable (by_kind (λ k. h (is_symbol x k))) N
symbol_viable {A} {N} x h s there other = record { some = s; at = λ ts. go ts (is_symbol x (kind_at ts)) refl }
  where
    go : (ts : List Token) (b : Bool) → is_symbol x (kind_at ts) ≡ b → ViableAt N (h b ts) ts
    go ts true e = there ts (is_symbol_is x (kind_at ts) e)
    go ts false e = other ts

abbrev pub of_kind : Kind → Token
of_kind k = record { kind = k; span = record { from = 0; to = 0 } }

pub some_token : (k : Kind) → Inhabited (token k)
some_token k = (of_kind k ∷ [], 0, λ rest. (0, refl))

pub expect_viable : (x : Symbol) → Viable (expect x) (symbol_at x)
unfolding expect
expect_viable x = symbol_viable x (λ b. cond b take_token refuse) (some_token (kind.Symbol x)) (taken (kind.Symbol x))
    (from_start (symbol_at x) (some_token (kind.Symbol x)))

pub optional_viable : (x : Symbol) → Viable (optional_symbol x) (optional x)
unfolding optional_symbol
optional_viable x = symbol_viable x (λ b. cond b (take_token >>= λ at. pure (Some at)) (pure None)) ([], None, λ rest. refl)
    (λ ts e. take_at (optional x) (kind.Symbol x) (λ at. pure (Some at)) ts e (λ at. pure_viable (Some at) (λ mid ts h. h)))
    (λ ts. ([], refl, λ rest. refl))

-- ---- levels

abbrev pub ViableInner : {B : Type 0} → (ℕ → B → Type 0) → ℕ → Option B → Type 0
ViableInner P zero None = Unit {0}
ViableInner P (suc room) (Some f) = P room f
ViableInner P zero (Some f) = ⊥
ViableInner P (suc room) None = ⊥

-- the reader stops at once because it has no level left, or can be completed
abbrev pub DeepOr : {A : Type 0} → (A → Language) → Outcome A → List Token → Type 0
DeepOr N o ts = (o ≡ Err (Deep (length ts))) ⊎ ViableAt N o ts

module _ {A B : Type 0} (P : ℕ → B → Type 0) (N : ℕ → A → Language) (g : B → Reader A) (ts : List Token) where
  pub inside_or : ((room : ℕ) (f : B) → P room f → ViableAt (N (suc room)) (g f ts) ts) → (room : ℕ) (i : Option B) → ViableInner P room i
      → DeepOr (N room) (inside i g ts) ts
  inside_or h zero None ok = inl refl
  inside_or h zero (Some f) ok = absurd ok
  inside_or h (suc room) None ok = absurd ok
  inside_or h (suc room) (Some f) ok = inr (h room f ok)

pub or_some : {A : Type 0} (N : A → Language) (o : Outcome A) (ts : List Token) → Inhabited N → DeepOr N o ts → ViableAt N o ts
or_some N o ts s (inl e) = rw e (from_start N s ts)
or_some N o ts s (inr v) = v

pub or_then : {A B : Type 0} (L : A → Language) (N : B → Language) (o : Outcome A) (k : A → Reader B) (ts : List Token) → Inhabited N → DeepOr L o ts
    → ((x : A) → Viable (k x) (Behind L x N)) → ViableAt N (and_then o k) ts
or_then L N o k ts s (inl e) next = rw e (from_start N s ts)
or_then L N o k ts s (inr v) next = then_at L N o k ts v next

-- ---- lists

module _ {A : Type 0} (proceeds : Option Kind → Bool) (item : Reader A) (L : A → Language) (F : List A → Language)
    (push : (xs : List A) (x : A) (ts mid rest : List Token) → F xs ts mid → L x mid rest → F (xs ++ x ∷ []) ts rest)
    (ok : (ts : List Token) → proceeds (kind_at ts) ≡ true → ViableAt L (item ts) ts) where
  -- what is read after the items so far
  abbrev pub Further : List A → List A → Language
  Further xs ys mid rest = (ts : List Token) → F xs ts mid → F ys ts rest

  further_some : (xs : List A) → Inhabited (Further xs)
  further_some xs = ([], xs, λ rest ts h. h)

  repeat_at : (n : ℕ) (xs : List A) (ts : List Token) → ViableAt (Further xs) (repeat proceeds item n xs ts) ts
  unfolding repeat
  repeat_at zero xs ts = ([], refl, λ rest ts h. h)
  repeat_at (suc n) xs ts = turn (proceeds (kind_at ts)) refl (repeat_at n)
    where
      turn : (b : Bool) → proceeds (kind_at ts) ≡ b → ((xs : List A) (ts : List Token) → ViableAt (Further xs) (repeat proceeds item n xs ts) ts)
          → ViableAt (Further xs) (cond b (item >>= λ x. repeat proceeds item n (xs ++ x ∷ [])) (pure xs) ts) ts
      turn false e again = ([], refl, λ rest ts h. h)
      turn true e again = then_at L (Further xs) (item ts) (λ x. repeat proceeds item n (xs ++ x ∷ [])) ts (ok ts e) (λ x.
          imply {N = Further (xs ++ x ∷ [])} (Behind L x (Further xs)) (record { some = further_some (xs ++ x ∷ []); at = again (xs ++ x ∷ []) })
          (λ ys mid rest f ts l start h. f start (push xs x start ts mid h l)))

  pub repeated_viable : (xs : List A) → Viable (repeat_while proceeds item xs) (Further xs)
  repeated_viable xs = record { some = further_some xs; at = λ ts. repeat_at (length ts) xs ts }

module _ {A : Type 0} (f : A → Language) where
  pub separated_viable : (x : Symbol) {item : Reader A} → Viable item f → Viable (separated_by x item) (separated_list x f)
  separated_viable x {item} v = then v (λ a.
      imply (Behind f a (separated_list x f)) (repeated_viable (is_symbol x) (take_token >>= λ _. item) (λ a. symbol x ⋅ f a) (separated_list x f)
      (λ xs a ts mid rest h l. separated_push f x xs a ts mid l.0 rest h l.1 l.2)
      (λ ts e. take_at (λ a. symbol x ⋅ f a) (kind.Symbol x) (λ _. item) ts (is_symbol_is x (kind_at ts) e)
      (λ at. imply (Behind (symbol_at x) at (λ a. symbol x ⋅ f a)) v (λ a mid rest l ts t. (mid, (at, t), l))))
      (a ∷ []))
      (λ ys mid rest g ts h. g ts (mid, h, refl)))

  pub each_viable : (proceeds : Option Kind → Bool) (item : Reader A) → ((ts : List Token) → proceeds (kind_at ts) ≡ true → ViableAt f (item ts) ts)
      → Viable (repeat_while proceeds item []) (each f)
  each_viable proceeds item ok = imply (each f) (repeated_viable proceeds item f (each f)
      (λ xs a ts mid rest h l. each_push f xs a ts mid rest h l) ok []) (λ ys mid rest g. g mid refl)

  pub some_viable : (proceeds : Option Kind → Bool) {item : Reader A} → Viable item f → Viable (one_or_more proceeds item) (some f)
  some_viable proceeds {item} v = then v (λ a.
      imply (Behind f a (some f)) (repeated_viable proceeds item f (some f) (λ xs a ts mid rest h l. some_push f xs a ts mid rest h l)
      (λ ts e. v.at ts) (a ∷ [])) (λ ys mid rest g ts h. g ts (mid, h, refl)))
