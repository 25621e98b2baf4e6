-- An accepted text is refused only with a fault.
use Rattle.std.proofs.Common.{◌≡◌, ◌≤◌, ℕ, List, length, Option, None, Some, Err, IfSome, ap, sym, ◌∙◌, subst, arith, inl}
use Rattle.std.proofs.lemmas.List.{take_all}
use Rattle.cp_model.specs.Syntax as s
use Rattle.cp_model.specs.Grammar.{Reads, nesting_limit}
use Rattle.cp_model.specs.Rules.{Accepted, first_violation}
use Rattle.cp_model.specs.RulesJudged.{least}
use Rattle.cp_model.specs.Spelling.{Spells}
use Rattle.cp_model.specs.declared.rules.Violation.{Violation}
use Rattle.cp_model.specs.Tokens.{Token}
use Rattle.cp_scan.specs.Laws.{IsFirstCause, longest_text}
use Rattle.cp_scan.specs.Pieces.{tokens_of}
use Rattle.cp_scan.specs.declared.refusal.Cause.{Cause}
use Rattle.cp_scan.specs.declared.refusal.Cause.TheVariants as cause
use Rattle.cp_scan.proofs.Complete.{spelled_found, refusal_found}
use Rattle.cp_model_grammar.proofs.TextComplete.{tree_is_unique}
use Rattle.cp_syntax.specs.Refusals.{HasNoTree}
use Rattle.cp_frontend.specs.declared.refusal.Refusal.{Refusal}
use Rattle.cp_frontend.specs.declared.refusal.Refusal.TheVariants as refusal
use Rattle.cp_frontend.specs.KnownRefusals.{IsFault, IsFaultOfAccepted, IsFaultOrOfInput, RefusesText}
use Rattle.cp_frontend.specs.Takings.{front}
use Rattle.cp_frontend.specs.Texts.{IsAccepted, IsTextOf, Refuses}
use Rattle.cp_frontend.proofs.TextRefusals.{of_known}

-- ---- a text has one list of tokens and one tree

one_list : (xs : List ℕ) (a b : List Token) → Spells xs a → Spells xs b → a ≡ b
one_list xs a b h g = let e = spelled_found xs a h in let f = spelled_found xs b g in cc

one_tree : (xs : List ℕ) (t u : s.Tree) → IsTextOf xs t → IsTextOf xs u → t ≡ u
one_tree xs t u h g =
    tree_is_unique nesting_limit h.tokens t u h.reads
    (subst (λ (ts : List Token). Reads ts u) (one_list xs g.tokens h.tokens g.spelled h.spelled) g.reads)

-- ---- no cause of a refusal occurs in an accepted text

not_found : (xs : List ℕ) (tokens : List Token) (c : Cause) (at : ℕ) → Spells xs tokens → tokens_of xs ≡ Err (c, at) → ⊥
not_found xs tokens c at h f = let e = spelled_found xs tokens h in cc

not_scanned : (xs : List ℕ) (tokens : List Token) (c : Cause) (at : ℕ) → length xs ≤ longest_text → Spells xs tokens → IsFirstCause c at xs → ⊥
not_scanned xs tokens cause.Byte at le h f = not_found xs tokens cause.Byte at h (refusal_found xs cause.Byte at f.1.0 f.1.1 f.1.2)
not_scanned xs tokens cause.Comment at le h f = not_found xs tokens cause.Comment at h (refusal_found xs cause.Comment at f.1.0 f.1.1 f.1.2)
not_scanned xs tokens cause.Character at le h f = not_found xs tokens cause.Character at h (refusal_found xs cause.Character at f.1.0 f.1.1 f.1.2)
not_scanned xs tokens cause.Number at le h f = not_found xs tokens cause.Number at h (refusal_found xs cause.Number at f.1.0 f.1.1 f.1.2)
not_scanned xs tokens cause.Word at le h f = not_found xs tokens cause.Word at h (refusal_found xs cause.Word at f.1.0 f.1.1 f.1.2)
not_scanned xs tokens cause.Size at le h f = Prim.omega (arith, le, f.0)

not_parsed : (xs : List ℕ) (t : s.Tree) (tokens : List Token) → IsTextOf xs t → Spells xs tokens → HasNoTree tokens → ⊥
not_parsed xs t tokens is h none = none t (subst (λ (ts : List Token). Reads ts t) (one_list xs is.tokens tokens is.spelled h) is.reads)

not_reported : (t : s.Tree) (v : Violation) → Accepted t → first_violation t ≡ Some v → ⊥
not_reported t v accepted e = clash (sym (ap (λ (vs : List Violation). least None vs) accepted) ∙ e)
  where
    clash : None ≡ Some v → ⊥
    clash e = Prim.grind (arith, e)

-- ---- refusals of an accepted text

is_fault : (xs : List ℕ) (t : s.Tree) (e : Refusal) → IsAccepted xs t → Refuses xs e → IsFault e
is_fault xs t refusal.Memory is h = tt
is_fault xs t refusal.Read is h = tt
is_fault xs t refusal.Write is h = tt
is_fault xs t (refusal.Scan c at) is h = not_scanned xs is.text.tokens c at is.text.within is.text.spelled h
is_fault xs t (refusal.Unexpected at) is h = not_parsed xs t h.1 is.text h.2 h.3.0
is_fault xs t (refusal.Unfinished at) is h = not_parsed xs t h.1 is.text h.2 h.3.0
is_fault xs t (refusal.TooDeep at) is h = not_parsed xs t h.1 is.text h.2 h.3.0
is_fault xs t (refusal.Check rule at) is h =
    not_reported t (record { rule = rule; at = at }) is.accepted (subst (λ (u : s.Tree). first_violation u ≡ Some (record { rule = rule; at = at })) (one_tree xs h.0 t h.1 is.text) h.2)
is_fault xs t (refusal.InputByte at) is h = h
is_fault xs t (refusal.Order at) is h = h
is_fault xs t refusal.InputSize is h = h

-- The part that is read of a text within the limit is the whole text.
front_of : (xs : List ℕ) → length xs ≤ longest_text → front xs ≡ xs
front_of xs h = take_all 1048577 xs (Prim.omega (arith, h))

front_fault : (xs : List ℕ) (t : s.Tree) (e : Refusal) → IsAccepted xs t → Refuses (front xs) e → IsFault e
front_fault xs t e is h = is_fault (front xs) t e (subst (λ (ys : List ℕ). IsAccepted ys t) (sym (front_of xs is.text.within)) is) h

-- A failed read says nothing about the text, and is a fault.
text_fault : (xs : List ℕ) (t : s.Tree) (e : Refusal) → IsAccepted xs t → RefusesText xs e → IsFault e
text_fault xs t refusal.Read is h = tt
text_fault xs t refusal.Write is h = tt
text_fault xs t refusal.Memory is h = tt
text_fault xs t (refusal.Scan c at) is h = front_fault xs t (refusal.Scan c at) is h
text_fault xs t (refusal.Unexpected at) is h = front_fault xs t (refusal.Unexpected at) is h
text_fault xs t (refusal.Unfinished at) is h = front_fault xs t (refusal.Unfinished at) is h
text_fault xs t (refusal.TooDeep at) is h = front_fault xs t (refusal.TooDeep at) is h
text_fault xs t (refusal.Check rule at) is h = front_fault xs t (refusal.Check rule at) is h
text_fault xs t (refusal.InputByte at) is h = h
text_fault xs t (refusal.Order at) is h = h
text_fault xs t refusal.InputSize is h = h

-- ---- known texts and inputs

pub known_fault : (known : Option (List ℕ)) (e : Refusal) → IfSome known (λ xs. RefusesText xs e) → IsFaultOfAccepted known e
known_fault known e h xs t same is = text_fault xs t e is (of_known (λ zs. RefusesText zs e) known xs h same)

pub known_text_fault : (text input : Option (List ℕ)) (e : Refusal) → IfSome text (λ xs. RefusesText xs e) → IsFaultOrOfInput text input e
known_text_fault text input e h xs t same is = inl (known_fault text e h xs t same is)

pub write_fault : (e : Refusal) → e ≡ refusal.Write → IsFault e
write_fault e w = subst (λ (r : Refusal). IsFault r) (sym w) tt

pub memory_fault : (e : Refusal) → e ≡ refusal.Memory → IsFault e
memory_fault e m = subst (λ (r : Refusal). IsFault r) (sym m) tt
