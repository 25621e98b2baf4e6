-- Where a text is refused: at the first token that no text has there, or at the token that opens
-- one level too many.
use Rattle.std.proofs.Common.{◌≡◌, ℕ, suc, ◌+◌, ◌-◌, ◌≤◌, take, drop, length-drop, inl, inr, List, [], ◌∷◌, ◌++◌, length, get_or, Ok, Err, refl, sym, ap, ◌∙◌, append_assoc, arith, length-append}
use Rattle.std.proofs.lemmas.List.{take-append-drop}
use Rattle.cp_model.specs.Syntax as s
use Rattle.cp_model.specs.Grammar.{Begins, text}
use Rattle.cp_model.specs.Levels.{text_levels}
use Rattle.cp_model.specs.Tokens.{Token}
use Rattle.cp_model.specs.Tokens as kind
use Rattle.cp_model_grammar.specs.declared.stop.Stop.{Stop}
use Rattle.cp_model_grammar.specs.declared.stop.Stop.TheVariants.{Memory, Wrong, Deep}
use Rattle.cp_model_grammar.specs.Reading.{Outcome}
use Rattle.cp_model_grammar.specs.Text.{text_at}
use Rattle.cp_model_grammar.specs.Laws.{StopsInside, FrontBeginsAText, WrongIsFirst, DeepIsFirst, DeepOpensTheNext, DeepBeginsADeeperText, LevelsAreOfTokens}
use Rattle.cp_model_grammar.proofs.Steady.{Cut, Passed, Tame}
use Rattle.cp_model_grammar.proofs.TextSteady.{text_steady, text_wider}
use Rattle.cp_model_grammar.proofs.TextComplete.{text_is_complete}
use Rattle.cp_model_grammar.proofs.TextSound.{text_is_sound}
use Rattle.cp_model_grammar.proofs.TextViable.{front_begins_a_text}
use Rattle.cp_model_grammar.proofs.Wider.{text_grammar_wider}

-- a cut of which nothing is required
any_cut : Cut
any_cut = record { token = record { kind = kind.Number 0; span = record { from = 0; to = 0 } }; here = []; there = []; top = 0 }

not_both : {A : Type 0} (o : Outcome A) (x : A × List Token) (e : Stop) → o ≡ Ok x → o ≡ Err e → ⊥
not_both o x e h g = cc

-- the tokens up to and including the cut, and what follows
joined : (front : List Token) (t : Token) (more : List Token) → (front ++ t ∷ []) ++ more ≡ front ++ t ∷ more
joined front t more = append_assoc front (t ∷ []) more

module _ (room limit : ℕ) (front : List Token) (t : Token) (more : List Token) (tree : s.Tree)
    (h : text limit tree ((front ++ t ∷ []) ++ more) []) where
  -- the continuation is read within as many levels or more
  read_wider : (wide : ℕ) → limit ≤ wide → text_at wide (front ++ t ∷ more) ≡ Ok (tree, [])
  read_wider wide le = text_is_complete wide (front ++ t ∷ more) tree
      (text_grammar_wider limit wide le tree (front ++ t ∷ more) [] (rw (joined front t more) at h))

pub wrong_is_first : WrongIsFirst
wrong_is_first room front t behind h begins =
    let limit = begins.0 in let more = begins.1 in let tree = begins.2 in
    let c : Cut = record { token = t; here = behind; there = more; top = suc room } in
    let like = (text_wider c room (suc (limit + room)) (omega arith) refl).like front in
    let fails = rw h at like in
    not_both (text_at (suc (limit + room)) (front ++ t ∷ more)) (tree, []) (Wrong (suc (length more)))
    (read_wider room limit front t more tree begins.3 (suc (limit + room)) (omega arith)) (fails refl)

pub deep_is_first : DeepIsFirst
deep_is_first room front t behind h more tree within =
    let c : Cut = record { token = t; here = behind; there = more; top = suc room } in
    let like = (text_steady c room).like front in
    let fails = rw h at like in
    not_both (text_at room (front ++ t ∷ more)) (tree, []) (Deep (suc (length more)))
    (read_wider room room front t more tree within room (omega arith)) (fails refl)

-- the entry after some others
entry_behind : (before behind : List ℕ) (n : ℕ) → get_or (before ++ n ∷ behind) (length before) 0 ≡ n
entry_behind [] behind n = refl
entry_behind (x ∷ before) behind n = entry_behind before behind n

-- a tree that takes all tokens has a level for each of them
tame_levels : (ts : List Token) (tree : s.Tree) (o : Outcome s.Tree) → o ≡ Ok (tree, []) → Tame (λ t l. l ≡ text_levels t) o ts
    → length (text_levels tree) ≡ length ts
tame_levels ts tree o e tame =
    let took = rw e at tame in
    let same : length took.2 ≡ length (text_levels tree) = ap length took.3 in
    let all : length ts ≡ length (took.0 ++ []) = ap length took.1 in
    omega (arith, same, all, took.4, length-append took.0 [])

pub levels_are_of_tokens : LevelsAreOfTokens
levels_are_of_tokens room ts tree h = tame_levels ts tree (text_at room ts) (text_is_complete room ts tree h) ((text_steady any_cut room).tame ts tt)

opens_at : (top : ℕ) (front more : List Token) (t : Token) (tree : s.Tree) (o : Outcome s.Tree) → o ≡ Ok (tree, [])
    → length (text_levels tree) ≡ length (front ++ t ∷ more)
    → Passed (record { token = t; here = []; there = more; top = top }) (λ t l. l ≡ text_levels t) o
    → get_or (text_levels tree) (length front) 0 ≡ top
opens_at top front more t tree o e n opened =
    let p = rw e at opened in
    let levels : text_levels tree ≡ p.2 ++ top ∷ p.3 = sym p.1 ∙ p.4 in
    let size : length (text_levels tree) ≡ length (p.2 ++ top ∷ p.3) = ap length levels in
    let before : length front ≡ length p.2 = omega (arith, size, n, p.5, length-append p.2 (top ∷ p.3), length-append front (t ∷ more)) in
    rw (levels, before) (entry_behind p.2 p.3 top)

pub deep_opens_the_next : DeepOpensTheNext
deep_opens_the_next room front t behind h limit more tree any =
    let c : Cut = record { token = t; here = behind; there = more; top = suc room } in
    let wide = suc (limit + room) in
    let read = read_wider room limit front t more tree any wide (omega arith) in
    let like = (text_wider c room (suc (limit + room)) (omega arith) refl).like front in
    let stops = rw h at like in
    let n = tame_levels (front ++ t ∷ more) tree (text_at wide (front ++ t ∷ more)) read
    ((text_steady c wide).tame (front ++ t ∷ more) tt) in
    opens_at (suc room) front more t tree (text_at wide (front ++ t ∷ more)) read n (stops refl)

pub stops_inside : StopsInside
stops_inside room ts n (inl h) = rw h at ((text_steady any_cut room).tame ts tt)
stops_inside room ts n (inr h) = rw h at ((text_steady any_cut room).tame ts tt)

-- A list can be split so that the second part has n tokens.
parted : (n : ℕ) (ts : List Token) → n ≤ length ts → (first : List Token) × (second : List Token) × (ts ≡ first ++ second) × (length second ≡ n)
parted n ts le =
    let k = length ts - n in
    (take k ts, drop k ts, sym (take-append-drop k ts), omega (arith, length-drop k ts))

-- With one level more, the token that was too deep is read, and reading stops only after it.
module _ (room : ℕ) (front : List Token) (t : Token) (behind : List Token) where
  abbrev up_to : List Token
  up_to = front ++ t ∷ []

  -- the tokens up to a later one begin a text
  later_begins : (n : ℕ) → n ≤ length behind
      → ((us vs : List Token) → front ++ t ∷ behind ≡ us ++ vs → length vs ≡ n
      → (more : List Token) × (tree : s.Tree) × text (suc room) tree (us ++ more) [])
      → Begins up_to
  later_begins n le begun =
      let p = parted n behind le in
      let whole : front ++ t ∷ behind ≡ (up_to ++ p.0) ++ p.1 =
      ap (λ (ts : List Token). front ++ t ∷ ts) p.2 ∙ sym (append_assoc front (t ∷ []) (p.0 ++ p.1)) ∙ sym (append_assoc up_to p.0 p.1) in
      let b = begun (up_to ++ p.0) p.1 whole p.3 in
      (suc room, p.0 ++ b.0, b.1, rw (append_assoc up_to p.0 b.0) at b.2)

  deeper_begins : FrontBeginsAText → (o : Outcome s.Tree) → text_at (suc room) (front ++ t ∷ behind) ≡ o
      → Passed (record { token = t; here = behind; there = behind; top = suc room }) (λ t l. l ≡ text_levels t) o → Begins up_to
  deeper_begins begun (Ok x) e h =
      (suc room, behind, x.0, rw (← joined front t behind) at (text_is_sound (suc room) (front ++ t ∷ behind) x.1 x.0 e))
  deeper_begins begun (Err (Wrong n)) e h = later_begins n h (λ us vs w k.
      begun (suc room) us vs (omega arith) (inl (rw (w, ← k) at e)))
  deeper_begins begun (Err (Deep n)) e h = later_begins n h (λ us vs w k.
      begun (suc room) us vs (omega arith) (inr (rw (w, ← k) at e)))
  deeper_begins begun (Err Memory) e h = absurd h

pub deep_begins_a_deeper_text : DeepBeginsADeeperText
deep_begins_a_deeper_text room front t behind h =
    let c : Cut = record { token = t; here = behind; there = behind; top = suc room } in
    let like = (text_wider c room (suc room) (omega arith) refl).like front in
    let passes = rw h at like in
    deeper_begins room front t behind front_begins_a_text (text_at (suc room) (front ++ t ∷ behind)) refl (passes refl)
