-- Where reading stopped, and why the tokens then have no tree.
use Rattle.std.proofs.Common.{◌≡◌, ℕ, suc, ◌-◌, ◌<◌, ◌≤◌, ◌⊎◌, inl, inr, List, [], ◌∷◌, ◌++◌, length, get_or, take, drop, Ok, Err, refl, sym, ap, ◌∙◌, drop-cons, length-drop, arith}
use Rattle.std.proofs.lemmas.List.{take-append-drop, append-nil}
use Rattle.cp_model.specs.Grammar.{nesting_limit, BeginsWithin}
use Rattle.cp_model.specs.Tokens.{Token}
use Rattle.cp_model_grammar.specs.Laws.{TextIsComplete, StopsInside, FrontBeginsAText, WrongIsFirst, DeepIsFirst, DeepOpensTheNext, DeepBeginsADeeperText}
use Rattle.cp_model_grammar.specs.Reading.{Fails}
use Rattle.cp_model_grammar.specs.Text.{text_at}
use Rattle.cp_model_grammar.specs.declared.stop.Stop.{Stop}
use Rattle.cp_model_grammar.specs.declared.stop.Stop.TheVariants.{Memory, Wrong, Deep}
use Rattle.cp_syntax.specs.Refusals.{TokenAt, NoTokenAt, HasNoTree, NoTextHas, OpensTooDeep, Refused, Reports}
use Rattle.cp_syntax.specs.declared.refusal.SyntaxError.{SyntaxError}
use Rattle.cp_syntax.specs.declared.refusal.SyntaxError.TheVariants as error

pub token_at : (ts : List Token) (left index : ℕ) (t : Token) → left ≤ length ts → index ≡ length ts - left → index < length ts
    → t ≡ get_or ts index t → TokenAt ts left t.span.from
token_at ts left index t fits e within is =
    let behind : drop index ts ≡ get_or ts index t ∷ drop (suc index) ts = drop-cons ts index t within in
    let counted : length (drop (suc index) ts) ≡ length ts - suc index = length-drop (suc index) ts in
    record {
      front = take index ts;
      token = t;
      behind = drop (suc index) ts;
      represents = sym (take-append-drop index ts) ∙ ap (λ w. take index ts ++ w) (behind ∙ ap (λ w. w ∷ drop (suc index) ts) (sym is));
      counted = omega (arith, counted);
      begins = refl;
    }

-- for either reason, reading stops with `left` tokens left
abbrev StopsAt : List Token → ℕ → Type 0
StopsAt ts left = (text_at nesting_limit ts ≡ Err (Wrong left)) ⊎ (text_at nesting_limit ts ≡ Err (Deep left))

-- the laws of the reading functions
module _ (complete : TextIsComplete) (inside : StopsInside) (begun : FrontBeginsAText) (wrong : WrongIsFirst) (deep : DeepIsFirst)
    (opens : DeepOpensTheNext) (deeper : DeepBeginsADeeperText) (ts : List Token) (len : ℕ) where
  no_tree : (s : Stop) → text_at nesting_limit ts ≡ Err s → HasNoTree ts
  no_tree s stopped t reads = let read : text_at nesting_limit ts ≡ Ok (t, []) = complete nesting_limit ts t reads in cc

  no_text : (left at : ℕ) (k : TokenAt ts left at) → text_at nesting_limit ts ≡ Err (Wrong left) → NoTextHas k
  no_text left at k stopped = wrong nesting_limit k.front k.token k.behind (rw (k.represents, k.counted) at stopped)

  too_deep : (left at : ℕ) (k : TokenAt ts left at) → text_at nesting_limit ts ≡ Err (Deep left) → OpensTooDeep k
  too_deep left at k stopped =
      let there : text_at nesting_limit (k.front ++ k.token ∷ k.behind) ≡ Err (Deep (suc (length k.behind))) = rw (k.represents, k.counted) at stopped in
      record {
        begins = deeper nesting_limit k.front k.token k.behind there;
        within = λ (more, t, reads). deep nesting_limit k.front k.token k.behind there more t reads;
        beyond = opens nesting_limit k.front k.token k.behind there;
      }

  before : (left at : ℕ) (k : TokenAt ts left at) → StopsAt ts left → BeginsWithin k.front
  before left at k stopped = begun nesting_limit k.front (k.token ∷ k.behind) (omega arith) (rw (k.represents, k.counted) at stopped)

  at_end : (left : ℕ) → NoTokenAt ts left → StopsAt ts left → BeginsWithin ts
  at_end left (inl none) stopped =
      let last : StopsAt ts 0 = rw none at stopped in
      let there : StopsAt (ts ++ []) 0 = rw (append-nil ts) last in
      begun nesting_limit ts [] (omega arith) there
  at_end left (inr more) stopped = let fits : left ≤ length ts = inside nesting_limit ts left stopped in absurd (omega arith)

  pub refused : (s : Stop) (e : SyntaxError) → Fails s (text_at nesting_limit ts) → Reports ts len s e → Refused ts len e
  refused Memory error.Memory stopped reported = tt
  refused (Wrong left) (error.Unexpected at) stopped reported =
      (no_tree (Wrong left) stopped, (left, reported, before left at reported (inl stopped), no_text left at reported stopped))
  refused (Wrong left) (error.Unfinished at) stopped reported = (no_tree (Wrong left) stopped, at_end left reported.0 (inl stopped), reported.1)
  refused (Deep left) (error.TooDeep at) stopped reported =
      (no_tree (Deep left) stopped, (left, reported, before left at reported (inr stopped), too_deep left at reported stopped))
  refused (Deep left) (error.Unfinished at) stopped reported = (no_tree (Deep left) stopped, at_end left reported.0 (inr stopped), reported.1)
  refused Memory (error.Unexpected at) stopped reported = absurd reported
  refused Memory (error.Unfinished at) stopped reported = absurd reported
  refused Memory (error.TooDeep at) stopped reported = absurd reported
  refused (Wrong left) (error.TooDeep at) stopped reported = absurd reported
  refused (Wrong left) error.Memory stopped reported = absurd reported
  refused (Deep left) (error.Unexpected at) stopped reported = absurd reported
  refused (Deep left) error.Memory stopped reported = absurd reported
