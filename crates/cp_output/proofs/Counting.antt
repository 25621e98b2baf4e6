-- A position counts the lines and bytes before its place. By the first byte: either the bytes have
-- no line feed, or they are whole lines and the start of one more.
use Rattle.std.specs.Prelude.{◌≡◌, refl, ◌⊎◌, ℕ, suc, ◌+◌, Bool, true, false, List, [], ◌∷◌, ◌++◌, length, nat_eq, take}
use Rattle.std.proofs.Common.{ap, arith, inl, inr}
use Rattle.std.proofs.lemmas.Bool.{eqb-true}
use Rattle.cp_output.specs.Positions.{Counts, column_at, column_from, line_at, line_feeds}

abbrev pub NoFeed : ℕ → List ℕ → Type 0
NoFeed n bs = (line_feeds bs ≡ 0) × (column_from n bs ≡ n + length bs)

pub record Feed (n : ℕ) (bs : List ℕ) : Type 0 where
  pub front : List ℕ
  pub rest : List ℕ
  pub all : bs ≡ (front ++ 10 ∷ []) ++ rest
  pub same_line : line_feeds rest ≡ 0
  pub feeds : line_feeds bs ≡ line_feeds (front ++ 10 ∷ [])
  pub column : column_from n bs ≡ suc (length rest)

after_feed : (n b : ℕ) (bs : List ℕ) → nat_eq b 10 ≡ true → NoFeed 1 bs ⊎ Feed 1 bs → NoFeed n (b ∷ bs) ⊎ Feed n (b ∷ bs)
after_feed n b bs e (inl h) = inr (record {
  front = [];
  rest = bs;
  all = ap (λ x. x ∷ bs) (eqb-true b 10 e);
  same_line = h.0;
  feeds = rw e (ap suc h.0);
  column = rw e (omega (arith, h.1));
})
after_feed n b bs e (inr f) = inr (record {
  front = b ∷ f.front;
  rest = f.rest;
  all = ap (λ xs. b ∷ xs) f.all;
  same_line = f.same_line;
  feeds = rw e (ap suc f.feeds);
  column = rw e f.column;
})

after_other : (n b : ℕ) (bs : List ℕ) → nat_eq b 10 ≡ false → NoFeed (suc n) bs ⊎ Feed (suc n) bs → NoFeed n (b ∷ bs) ⊎ Feed n (b ∷ bs)
after_other n b bs e (inl h) = inl (rw e h.0, rw e (omega (arith, h.1)))
after_other n b bs e (inr f) = inr (record {
  front = b ∷ f.front;
  rest = f.rest;
  all = ap (λ xs. b ∷ xs) f.all;
  same_line = f.same_line;
  feeds = rw e f.feeds;
  column = rw e f.column;
})

by_first : (n b : ℕ) (bs : List ℕ) (c : Bool) → nat_eq b 10 ≡ c → NoFeed 1 bs ⊎ Feed 1 bs → NoFeed (suc n) bs ⊎ Feed (suc n) bs
    → NoFeed n (b ∷ bs) ⊎ Feed n (b ∷ bs)
by_first n b bs true e first next = after_feed n b bs e first
by_first n b bs false e first next = after_other n b bs e next

split : (n : ℕ) (bs : List ℕ) → NoFeed n bs ⊎ Feed n bs
split n [] = inl (refl, omega arith)
split n (b ∷ bs) = by_first n b bs (nat_eq b 10) refl (split 1 bs) (split (suc n) bs)

counted : (text : List ℕ) (at : ℕ) → NoFeed 1 (take at text) ⊎ Feed 1 (take at text) → Counts text at (line_at text at) (column_at text at)
counted text at (inl h) = record {
  lines = [];
  rest = take at text;
  before = refl;
  whole = inl refl;
  same_line = h.0;
  line_is = ap suc h.0;
  column_is = omega (arith, h.1);
}
counted text at (inr f) = record {
  lines = f.front ++ 10 ∷ [];
  rest = f.rest;
  before = f.all;
  whole = inr (f.front, refl);
  same_line = f.same_line;
  line_is = ap suc f.feeds;
  column_is = f.column;
}

pub positions : (text : List ℕ) (at : ℕ) → Counts text at (line_at text at) (column_at text at)
positions text at = counted text at (split 1 (take at text))
