-- A list of the grammar is read, if each of its items is.
use Rattle.std.proofs.Common.{◌≡◌, ℕ, zero, suc, ◌<◌, ◌≤◌, Bool, true, false, List, [], ◌∷◌, ◌++◌, length, Option, Some, Ok, refl, sym, ap, ◌∙◌, append_assoc, arith}
use Rattle.std.proofs.lemmas.List.{append-nil}
use Rattle.cp_model.specs.Languages.{Language, each, each_behind, separated_list}
use Rattle.cp_model.specs.Tokens.{Token}
use Rattle.cp_model.specs.Tokens.{Kind}
use Rattle.cp_model.specs.Tokens as kind
use Rattle.cp_model.specs.declared.token.Symbol.{Symbol}
use Rattle.cp_model_grammar.specs.Kinds.{is_symbol}
use Rattle.cp_model_grammar.specs.Reading.{Reader, and_then, ◌>>=◌, take_token, kind_at, repeat, repeat_while, one_or_more, separated_by}
use Rattle.cp_model_grammar.proofs.Tokens.{is_symbol_refl, kind_of_symbol, symbol_shrinks}
use Rattle.cp_model_grammar.proofs.Ensures.{some}

-- ---- the steps of reading a list

module _ {A : Type 0} (proceeds : Option Kind → Bool) (item : Reader A) where
  pub repeat_stops : (n : ℕ) (found : List A) (ts : List Token) → proceeds (kind_at ts) ≡ false → repeat proceeds item n found ts ≡ Ok (found, ts)
  unfolding repeat
  repeat_stops zero found ts stop = refl
  repeat_stops (suc n) found ts stop = rw stop refl

  pub repeat_goes : (n : ℕ) (found : List A) (ts rest : List Token) (x : A) → proceeds (kind_at ts) ≡ true → item ts ≡ Ok (x, rest)
      → repeat proceeds item (suc n) found ts ≡ repeat proceeds item n (found ++ x ∷ []) rest
  unfolding repeat
  repeat_goes n found ts rest x go one = rw (go, one) refl

-- ---- a list consists of no more tokens than there are

module _ {A : Type 0} (f : A → Language) where
  behind_shrinks : (x : Symbol) → ((a : A) (ts rest : List Token) → f a ts rest → length rest ≤ length ts) → (items : List A) (ts rest : List Token)
      → each_behind x f items ts rest → length rest ≤ length ts
  behind_shrinks x shrinks [] ts rest h = rw h (omega arith)
  behind_shrinks x shrinks (a ∷ items) ts rest h =
      omega (arith, symbol_shrinks x ts h.0 h.1, shrinks a h.0 h.2.0 h.2.1, behind_shrinks x shrinks items h.2.0 rest h.2.2)

  pub separated_shrinks : (x : Symbol) → ((a : A) (ts rest : List Token) → f a ts rest → length rest ≤ length ts)
      → (items : List A) (ts rest : List Token) → separated_list x f items ts rest → length rest ≤ length ts
  separated_shrinks x shrinks [] ts rest h = absurd h
  separated_shrinks x shrinks (a ∷ items) ts rest h = omega (arith, shrinks a ts h.0 h.1, behind_shrinks x shrinks items h.0 rest h.2)

  pub each_shrinks : ((a : A) (ts rest : List Token) → f a ts rest → length rest ≤ length ts) → (items : List A) (ts rest : List Token)
      → each f items ts rest → length rest ≤ length ts
  each_shrinks shrinks [] ts rest h = rw h (omega arith)
  each_shrinks shrinks (a ∷ items) ts rest h = omega (arith, shrinks a ts h.0 h.1, each_shrinks shrinks items h.0 rest h.2)

-- ---- lists of items

abbrev pub Each : {A : Type 0} → (A → Type 0) → List A → Type 0
Each P [] = Unit {0}
Each P (a ∷ items) = P a × Each P items

pub each_imply : {A : Type 0} (P Q : A → Type 0) → ((a : A) → P a → Q a) → (items : List A) → Each P items → Each Q items
each_imply P Q h [] e = tt
each_imply P Q h (a ∷ items) e = (h a e.0, each_imply P Q h items e.1)

pub each_of : {A : Type 0} (P : A → Type 0) → ((a : A) → P a) → (items : List A) → Each P items
each_of P h [] = tt
each_of P h (a ∷ items) = (h a, each_of P h items)

-- what may follow an item depends on the kind of the token after it
module _ {A : Type 0} (f : A → Language) (item : Reader A) (Follows : A → Option Kind → Type 0) where
  abbrev pub ItemReads : A → Type 0
  ItemReads a = (ts rest : List Token) → f a ts rest → Follows a (kind_at rest) → item ts ≡ Ok (a, rest)

  module _ (x : Symbol) (between : (a : A) → Follows a (Some (kind.Symbol x)))
      (shrinks : (a : A) (ts rest : List Token) → f a ts rest → length rest ≤ length ts) where
    behind_follows : (items : List A) (ts rest : List Token) → each_behind x f items ts rest → (a : A) → Follows a (kind_at rest)
        → Follows a (kind_at ts)
    behind_follows [] ts rest h a ok = rw h ok
    behind_follows (y ∷ ys) ts rest h a ok = rw (kind_of_symbol x ts h.0 h.1) (between a)

    behind_reads : (items : List A) → Each ItemReads items → (ts rest : List Token) (n : ℕ) (found : List A) → each_behind x f items ts rest
        → ((a : A) → Follows a (kind_at rest)) → is_symbol x (kind_at rest) ≡ false → length ts ≤ n
        → repeat (is_symbol x) (take_token >>= λ _. item) n found ts ≡ Ok (found ++ items, rest)
    behind_reads [] all ts rest n found h ends stop le =
        rw h (repeat_stops (is_symbol x) (take_token >>= λ _. item) n found rest stop ∙ ap (λ (l : List A). Ok (l, rest)) (sym (append-nil found)))
    behind_reads (a ∷ items) all ts rest zero found h ends stop le = absurd (omega (arith, symbol_shrinks x ts h.0 h.1))
    behind_reads (a ∷ items) all ts rest (suc n) found h ends stop le =
        let one = all.0 h.0 h.2.0 h.2.1 (behind_follows items h.2.0 rest h.2.2 a (ends a)) in
        let taken : and_then (take_token ts) (λ _. item) ≡ Ok (a, h.2.0) = rw h.1.1.1 one in
        let go : is_symbol x (kind_at ts) ≡ true = rw (kind_of_symbol x ts h.0 h.1) (is_symbol_refl x) in
        let less : length h.2.0 ≤ n = omega (arith, symbol_shrinks x ts h.0 h.1, shrinks a h.0 h.2.0 h.2.1) in
        repeat_goes (is_symbol x) (take_token >>= λ _. item) n found ts h.2.0 a go taken
        ∙ behind_reads items all.1 h.2.0 rest n (found ++ a ∷ []) h.2.2 ends stop less
        ∙ ap (λ (l : List A). Ok (l, rest)) (append_assoc found (a ∷ []) items)

    pub separated_reads : (items : List A) → Each ItemReads items → (ts rest : List Token) → separated_list x f items ts rest
        → ((a : A) → Follows a (kind_at rest)) → is_symbol x (kind_at rest) ≡ false → separated_by x item ts ≡ Ok (items, rest)
    separated_reads [] all ts rest h ends stop = absurd h
    separated_reads (a ∷ items) all ts rest h ends stop =
        rw (all.0 ts h.0 h.1 (behind_follows items h.0 rest h.2 a (ends a)))
        (behind_reads items all.1 h.0 rest (length h.0) (a ∷ []) h.2 ends stop (omega arith))

  module _ (proceeds : Option Kind → Bool) (begins : (a : A) (ts rest : List Token) → f a ts rest → proceeds (kind_at ts) ≡ true)
      (between : (a : A) (k : Option Kind) → proceeds k ≡ true → Follows a k)
      (shrinks : (a : A) (ts rest : List Token) → f a ts rest → length rest < length ts) where
    each_follows : (items : List A) (ts rest : List Token) → each f items ts rest → (a : A) → Follows a (kind_at rest) → Follows a (kind_at ts)
    each_follows [] ts rest h a ok = rw h ok
    each_follows (y ∷ ys) ts rest h a ok = between a (kind_at ts) (begins y ts h.0 h.1)

    each_reads_from : (items : List A) → Each ItemReads items → (ts rest : List Token) (n : ℕ) (found : List A) → each f items ts rest
        → ((a : A) → Follows a (kind_at rest)) → proceeds (kind_at rest) ≡ false → length ts ≤ n
        → repeat proceeds item n found ts ≡ Ok (found ++ items, rest)
    each_reads_from [] all ts rest n found h ends stop le =
        rw h (repeat_stops proceeds item n found rest stop ∙ ap (λ (l : List A). Ok (l, rest)) (sym (append-nil found)))
    each_reads_from (a ∷ items) all ts rest zero found h ends stop le = absurd (omega (arith, shrinks a ts h.0 h.1))
    each_reads_from (a ∷ items) all ts rest (suc n) found h ends stop le =
        let one = all.0 ts h.0 h.1 (each_follows items h.0 rest h.2 a (ends a)) in
        let less : length h.0 ≤ n = omega (arith, shrinks a ts h.0 h.1) in
        repeat_goes proceeds item n found ts h.0 a (begins a ts h.0 h.1) one
        ∙ each_reads_from items all.1 h.0 rest n (found ++ a ∷ []) h.2 ends stop less
        ∙ ap (λ (l : List A). Ok (l, rest)) (append_assoc found (a ∷ []) items)

    pub each_reads : (items : List A) → Each ItemReads items → (ts rest : List Token) → each f items ts rest
        → ((a : A) → Follows a (kind_at rest)) → proceeds (kind_at rest) ≡ false → repeat_while proceeds item [] ts ≡ Ok (items, rest)
    each_reads items all ts rest h ends stop = each_reads_from items all ts rest (length ts) [] h ends stop (omega arith)

    pub some_reads : (items : List A) → Each ItemReads items → (ts rest : List Token) → some f items ts rest
        → ((a : A) → Follows a (kind_at rest)) → proceeds (kind_at rest) ≡ false → one_or_more proceeds item ts ≡ Ok (items, rest)
    some_reads [] all ts rest h ends stop = absurd h
    some_reads (a ∷ items) all ts rest h ends stop =
        rw (all.0 ts h.0 h.1 (each_follows items h.0 rest h.2 a (ends a)))
        (each_reads_from items all.1 h.0 rest (length h.0) (a ∷ []) h.2 ends stop (omega arith))
