-- Why a text is refused, and what is read of a text within the limit.
use Rattle.std.proofs.Common.{◌≡◌, ◌≤◌, refl, ℕ, zero, suc, Bool, true, false, List, [], ◌∷◌, length, take, Option, None, Some, Result, Ok, Err, IfOk, IfErr, IfSome, inl, inr, ap, ◌∙◌, subst, arith}
use Rattle.std.proofs.lemmas.Bool.Decides.{nat_tests}
use Rattle.std.specs.Prelude.{if◌then◌else◌, nat_le}
use Rattle.cp_frontend.specs.declared.refusal.Refusal.{Refusal}
use Rattle.cp_frontend.specs.declared.refusal.Refusal.TheVariants as refusal
use Rattle.cp_frontend.specs.Cutting.{judge_input, judged_from}
use Rattle.cp_frontend.specs.KnownRefusals.{RefusesInput, RefusesInputOf, RefusesRun, RefusesText}
use Rattle.cp_model.specs.Syntax as s
use Rattle.cp_model.specs.View as view
use Rattle.cp_model.specs.Rules.{Accepted}
use Rattle.cp_frontend.specs.declared.checking.AcceptedTree.{AcceptedTree}
use Rattle.cp_model.specs.Spelling.{Spells}
use Rattle.cp_model.specs.Tokens.{Token}
use Rattle.cp_model.proofs.Options.{same_some}
use Rattle.cp_scan.specs.Laws.{longest_text}
use Rattle.cp_syntax.specs.Refusals.{Refused}
use Rattle.cp_syntax.specs.declared.refusal.SyntaxError.{SyntaxError}
use Rattle.cp_syntax.specs.declared.refusal.SyntaxError.TheVariants as syntax
use Rattle.cp_frontend.specs.Refusals.{of_syntax}
use Rattle.cp_frontend.specs.Takings.{IsAboutInput, IsAboutText, concern, front}
use Rattle.cp_frontend.specs.Texts.{IsAccepted, Refuses}

pub refuses_tokens : (text : List ℕ) (tokens : List Token) (e : SyntaxError) → length text ≤ longest_text → Spells text tokens → Refused tokens (length text) e
    → Refuses text (of_syntax e)
refuses_tokens text tokens (syntax.Unexpected at) within spelled refused = (within, tokens, spelled, refused)
refuses_tokens text tokens (syntax.Unfinished at) within spelled refused = (within, tokens, spelled, refused)
refuses_tokens text tokens (syntax.TooDeep at) within spelled refused = (within, tokens, spelled, refused)
refuses_tokens text tokens syntax.Memory within spelled refused = tt

-- If the first n + 1 elements of a list number at most n, they are the whole list.
pub take_all : (n : ℕ) (xs : List ℕ) → length (take (suc n) xs) ≤ n → take (suc n) xs ≡ xs
take_all n [] h = refl
take_all zero (x ∷ xs) h = absurd (Prim.omega (arith, h))
take_all (suc n) (x ∷ xs) h = ap (λ (ys : List ℕ). x ∷ ys) (take_all n xs (Prim.omega (arith, h)))

-- ---- known bytes

pub of_known : (P : List ℕ → Type 0) (known : Option (List ℕ)) (xs : List ℕ) → IfSome known P → known ≡ Some xs → P xs
of_known P None xs h e = absurd (Prim.grind (arith, e))
of_known P (Some ys) xs h e = subst P (same_some ys xs e) h

-- What was read of a text within the limit is the text.
pub whole : (bytes xs : List ℕ) → bytes ≡ front xs → length bytes ≤ 1048576 → bytes ≡ xs
whole bytes xs e h = e ∙ take_all 1048576 xs (subst (λ (ys : List ℕ). length ys ≤ 1048576) e h)

refuses_text : (xs : List ℕ) (e : Refusal) → Refuses (front xs) e → RefusesText xs e
refuses_text xs refusal.Read h = tt
refuses_text xs (refusal.Scan c at) h = h
refuses_text xs (refusal.Unexpected at) h = h
refuses_text xs (refusal.Unfinished at) h = h
refuses_text xs (refusal.TooDeep at) h = h
refuses_text xs (refusal.Check rule at) h = h
refuses_text xs (refusal.InputByte at) h = h
refuses_text xs (refusal.Order at) h = h
refuses_text xs refusal.InputSize h = h
refuses_text xs refusal.Memory h = h
refuses_text xs refusal.Write h = h

pub refused_known : {A : Type 0} (r : Result A Refusal) (known : Option (List ℕ)) (bytes : List ℕ) → IfSome known (λ xs. bytes ≡ front xs)
    → IfErr r (Refuses bytes) → IfErr r (λ e. IfSome known (λ xs. RefusesText xs e))
refused_known (Ok p) known bytes k h = tt
refused_known (Err e) None bytes k h = tt
refused_known (Err e) (Some xs) bytes k h = refuses_text xs e (subst (λ (ys : List ℕ). Refuses ys e) k h)

pub accepted_known : (r : Result AcceptedTree Refusal) (known : Option (List ℕ)) (bytes : List ℕ) → IfSome known (λ xs. bytes ≡ front xs)
    → IfOk r (λ t. IsAccepted bytes (view.tree t.tree)) → IfOk r (λ t. IfSome known (λ xs. IsAccepted xs (view.tree t.tree)))
accepted_known (Err e) known bytes k h = tt
accepted_known (Ok t) None bytes k h = tt
accepted_known (Ok t) (Some xs) bytes k h = subst (λ (ys : List ℕ). IsAccepted ys (view.tree t.tree)) (whole bytes xs k h.text.within) h

pub known_accepted : (r : Result AcceptedTree Refusal) (bytes : List ℕ) → IfOk r (λ t. IsAccepted bytes (view.tree t.tree)) → IfOk r (λ t. Accepted (view.tree t.tree))
known_accepted (Err e) bytes h = h
known_accepted (Ok t) bytes h = h.accepted

-- ---- known inputs

error_is : (r : Result (Unit {0}) Refusal) (a b : Refusal) → r ≡ Err a → r ≡ Err b → a ≡ b
error_is r a b p q = Prim.grind (arith, p, q)

judged_within : (bytes : List ℕ) → judge_input bytes ≡ Ok tt → length bytes ≤ 1048576
judged_within bytes e = by (nat_le (length bytes) 1048576) refl e
  where
    by : (b : Bool) → nat_le (length bytes) 1048576 ≡ b → (if b then judged_from 0 bytes else Err refusal.InputSize) ≡ Ok tt → length bytes ≤ 1048576
    by true f e = Prim.grind (arith, nat_tests, f)
    by false f e = absurd (Prim.grind (arith, e))

pub input_known : (known : Option (List ℕ)) (bytes : List ℕ) → IfSome known (λ xs. bytes ≡ front xs) → judge_input bytes ≡ Ok tt
    → IfSome known (λ ys. bytes ≡ ys)
input_known None bytes k e = tt
input_known (Some ys) bytes k e = whole bytes ys k (judged_within bytes e)

judged_from_is_about_input : (at : ℕ) (bytes : List ℕ) (e : Refusal) → judged_from at bytes ≡ Err e → IsAboutInput (concern e)
judged_from_is_about_input at [] e h = absurd (Prim.grind (arith, h))
judged_from_is_about_input at (b ∷ bs) e h = by (nat_le b 127) (judged_from_is_about_input (suc at) bs e) h
  where
    by : (t : Bool) → (judged_from (suc at) bs ≡ Err e → IsAboutInput (concern e)) → (if t then judged_from (suc at) bs else Err (refusal.InputByte at)) ≡ Err e → IsAboutInput (concern e)
    by true later h = later h
    by false later h = subst (λ (r : Refusal). IsAboutInput (concern r)) (error_is (Err (refusal.InputByte at)) (refusal.InputByte at) e refl h) tt

-- An input is refused only for its bytes or for its length.
judged_is_about_input : (bytes : List ℕ) (e : Refusal) → judge_input bytes ≡ Err e → IsAboutInput (concern e)
judged_is_about_input bytes e h = by (nat_le (length bytes) 1048576) h
  where
    by : (b : Bool) → (if b then judged_from 0 bytes else Err refusal.InputSize) ≡ Err e → IsAboutInput (concern e)
    by true h = judged_from_is_about_input 0 bytes e h
    by false h = subst (λ (r : Refusal). IsAboutInput (concern r)) (error_is (Err refusal.InputSize) refusal.InputSize e refl h) tt

refuses_input : (ys : List ℕ) (e : Refusal) → judge_input (front ys) ≡ Err e → RefusesInput ys e
refuses_input ys refusal.Read h = tt
refuses_input ys refusal.Memory h = tt
refuses_input ys (refusal.Scan c at) h = h
refuses_input ys (refusal.Unexpected at) h = h
refuses_input ys (refusal.Unfinished at) h = h
refuses_input ys (refusal.TooDeep at) h = h
refuses_input ys (refusal.Check rule at) h = h
refuses_input ys (refusal.InputByte at) h = h
refuses_input ys (refusal.Order at) h = h
refuses_input ys refusal.InputSize h = h
refuses_input ys refusal.Write h = h

-- Why an input that was read is refused.
pub refuses_input_of : (known : Option (List ℕ)) (bytes : List ℕ) (e : Refusal) → IfSome known (λ ys. bytes ≡ front ys) → judge_input bytes ≡ Err e → RefusesInputOf known e
refuses_input_of None bytes e k h = (judged_is_about_input bytes e h, tt)
refuses_input_of (Some ys) bytes e k h = (judged_is_about_input bytes e h, refuses_input ys e (subst (λ (bs : List ℕ). judge_input bs ≡ Err e) k h))

-- ---- which refusals a text has

pub refuses_is_about_text : (text : List ℕ) (e : Refusal) → Refuses text e → IsAboutText (concern e)
refuses_is_about_text text refusal.Read h = tt
refuses_is_about_text text refusal.Memory h = tt
refuses_is_about_text text refusal.Write h = h
refuses_is_about_text text (refusal.Scan c at) h = tt
refuses_is_about_text text (refusal.Unexpected at) h = tt
refuses_is_about_text text (refusal.Unfinished at) h = tt
refuses_is_about_text text (refusal.TooDeep at) h = tt
refuses_is_about_text text (refusal.Check rule at) h = tt
refuses_is_about_text text (refusal.InputByte at) h = h
refuses_is_about_text text (refusal.Order at) h = h
refuses_is_about_text text refusal.InputSize h = h

pub refused_is_about_text : {A : Type 0} (r : Result A Refusal) (text : List ℕ) → IfErr r (Refuses text) → IfErr r (λ e. IsAboutText (concern e))
refused_is_about_text (Ok p) text h = tt
refused_is_about_text (Err e) text h = refuses_is_about_text text e h

-- ---- why a run is refused

pub run_refused_text : (text input : Option (List ℕ)) (e : Refusal) → IfSome text (λ xs. RefusesText xs e) → IfSome text (λ xs. RefusesRun xs input e)
run_refused_text None input e h = tt
run_refused_text (Some xs) input e h = inl h

pub run_refused_input : (text input : Option (List ℕ)) (t : s.Tree) (e : Refusal) → IfSome text (λ xs. IsAccepted xs t) → RefusesInputOf input e
    → IfSome text (λ xs. RefusesRun xs input e)
run_refused_input None input t e is h = tt
run_refused_input (Some xs) input t e is h = inr ((t, is), h)
