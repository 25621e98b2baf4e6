-- Distinct names: parts of a list of distinct names, in any order, are distinct too.
use Rattle.std.proofs.Common.{◌≡◌, Bool, true, false, ◌||◌, List, [], ◌∷◌, ◌++◌, Option, Some, None, refl, ap, ap₂, sym, subst, ◌∙◌, append_assoc, append-nil, bytes_eq, codes}
use Rattle.std.proofs.lemmas.Bool.{true≢false, or_from, or_right}
use Rattle.cp_model.specs.Abstract.{Name}
use Rattle.cp_model.specs.RulesEnvironment.{Names, Text}
use Rattle.cp_model.specs.RulesTypes.{has_name}
use Rattle.cp_model.specs.Types.{GlobalScope}
use Rattle.cp_model.specs.Declarations.{Variable}
use Rattle.cp_model.specs.Environments.{result_variable}
use Rattle.cp_law_typing.specs.Declared.{Distinct}
use Rattle.cp_law_typing.specs.StaticTypes.{is_clock}
use Rattle.cp_law_typing.specs.WellTyped.{NoClock}
use Rattle.cp_law_typing.proofs.Names.{AllDistinct, bytes_eq-refl, bytes_same, has-append, has_first, keys, lookup_has, lookup_none}
use Rattle.cp_law_typing.proofs.TableMeanings.{Types}
use Rattle.cp_law_typing.proofs.LayerNames.{VariablesAs}

-- no name occurs in both lists
abbrev pub Apart : List Text → List Text → Type 0
Apart xs ys = (x : Text) → has_name x xs ≡ true → has_name x ys ≡ false

pub has_second : (x : Text) (xs ys : List Text) → has_name x ys ≡ true → has_name x (xs ++ ys) ≡ true
has_second x xs ys h = has-append x xs ys ∙ or_right (has_name x xs) (has_name x ys) h

none_in : (b c : Bool) → (b || c) ≡ false → (b ≡ false) × (c ≡ false)
none_in true c h = absurd (true≢false h)
none_in false c h = (refl, h)

pub not_either : (x : Text) (xs ys : List Text) → has_name x (xs ++ ys) ≡ false → (has_name x xs ≡ false) × (has_name x ys ≡ false)
not_either x xs ys h = none_in (has_name x xs) (has_name x ys) (sym (has-append x xs ys) ∙ h)

not_both : (b : Bool) → (b ≡ true → ⊥) → b ≡ false
not_both true h = absurd (h refl)
not_both false h = refl

pub distinct_first : (xs ys : List Text) → AllDistinct (xs ++ ys) → AllDistinct xs
distinct_first [] ys d = tt
distinct_first (x ∷ xs) ys d = ((not_either x xs ys d.0).0, distinct_first xs ys d.1)

pub distinct_last : (xs ys : List Text) → AllDistinct (xs ++ ys) → AllDistinct ys
distinct_last [] ys d = d
distinct_last (x ∷ xs) ys d = distinct_last xs ys d.1

pub distinct_apart : (xs ys : List Text) → AllDistinct (xs ++ ys) → Apart xs ys
distinct_apart [] ys d z h = absurd (true≢false (sym h))
distinct_apart (x ∷ xs) ys d z h = go (bytes_eq z x) refl h (distinct_apart xs ys d.1 z)
  where
    go : (b : Bool) → bytes_eq z x ≡ b → (b || has_name z xs) ≡ true → (has_name z xs ≡ true → has_name z ys ≡ false) → has_name z ys ≡ false
    go true is k rest = ap (λ w. has_name w ys) (bytes_same z x is) ∙ (not_either x xs ys d.0).1
    go false is k rest = rest k

pub distinct_both : (xs ys : List Text) → AllDistinct xs → AllDistinct ys → Apart xs ys → AllDistinct (xs ++ ys)
distinct_both [] ys d e h = e
distinct_both (x ∷ xs) ys d e h = (
  has-append x xs ys ∙ or_from (has_name x xs) (has_name x ys) d.0 (h x (ap (λ b. b || has_name x xs) (bytes_eq-refl x))),
  distinct_both xs ys d.1 e (λ z k. h z (or_right (bytes_eq z x) (has_name z xs) k)),
)

pub apart_back : (xs ys : List Text) → Apart xs ys → Apart ys xs
apart_back xs ys h x k = not_both (has_name x xs) (λ there. true≢false (sym k ∙ h x there))

pub apart_second : (xs ys zs : List Text) → Apart xs (ys ++ zs) → Apart xs zs
apart_second xs ys zs h x k = (not_either x ys zs (h x k)).1

-- ---- variables

pub distinct_variables : (ds : List (Text × Variable)) → AllDistinct (keys ds) → Distinct ds
distinct_variables [] d = tt
distinct_variables (v ∷ vs) d = (lookup_none v.0 vs d.0, distinct_variables vs d.1)

-- If the name of the clock isn't among the names, no variable is the clock.
pub no_clock : (vs : List (Text × Variable)) → has_name (codes "realtime") (keys vs) ≡ false → NoClock vs
no_clock vs none x v found = go (is_clock x) refl
  where
    go : (b : Bool) → is_clock x ≡ b → is_clock x ≡ false
    go false is = is
    go true is = absurd (true≢false (sym (lookup_has x vs v found) ∙ ap (λ z. has_name z (keys vs)) (bytes_same x (codes "realtime") is) ∙ none))

pub keys_same : (q : Bool) (rs : Types) (vs : Names) (ds : List (Text × Variable)) → VariablesAs q rs vs ds → keys vs ≡ keys ds
keys_same q rs [] [] h = refl
keys_same q rs (v ∷ vs) (d ∷ ds) h = ap₂ (λ x l. x ∷ l) h.0 (keys_same q rs vs ds h.2)
keys_same q rs [] (d ∷ ds) h = absurd h
keys_same q rs (v ∷ vs) [] h = absurd h

-- The names, in order: the outer ones, the parameters, variables and routines of a component, and a
-- routine's own name, parameters and variables.
module _ (outer ps vs rs : List Text) (f : Text) (qs ws : List Text) (d : AllDistinct (outer ++ (ps ++ (vs ++ (rs ++ (f ∷ (qs ++ ws))))))) where
  abbrev own : List Text
  own = f ∷ (qs ++ ws)

  inside : AllDistinct ((ps ++ vs) ++ (rs ++ own))
  inside = subst AllDistinct (sym (append_assoc ps vs (rs ++ own))) (distinct_last outer _ d)

  locals_apart : Apart own (ps ++ vs)
  locals_apart = apart_back (ps ++ vs) own (apart_second (ps ++ vs) rs own (distinct_apart (ps ++ vs) (rs ++ own) inside))

  own_distinct : AllDistinct own
  own_distinct = distinct_last rs own (distinct_last (ps ++ vs) (rs ++ own) inside)

  abbrev result_name : Option Name → List Text
  result_name None = []
  result_name (Some t) = f ∷ []

  result_apart : (o : Option Name) → Apart (qs ++ ws) (result_name o)
  result_apart None = λ x h. refl
  result_apart (Some t) = apart_back (f ∷ []) (qs ++ ws) (distinct_apart (f ∷ []) (qs ++ ws) own_distinct)

  result_distinct : (o : Option Name) → AllDistinct (result_name o)
  result_distinct None = tt
  result_distinct (Some t) = (refl, tt)

  -- each of these names is one of the routine's own
  among : (o : Option Name) (x : Text) → has_name x ((qs ++ ws) ++ result_name o) ≡ true → has_name x own ≡ true
  among None x h = has_second x (f ∷ []) (qs ++ ws) (ap (has_name x) (sym (append-nil (qs ++ ws))) ∙ h)
  among (Some t) x h = go (has_name x (qs ++ ws)) refl (sym (has-append x (qs ++ ws) (f ∷ [])) ∙ h)
    where
      go : (b : Bool) → has_name x (qs ++ ws) ≡ b → (b || has_name x (f ∷ [])) ≡ true → has_name x own ≡ true
      go true is k = has_second x (f ∷ []) (qs ++ ws) is
      go false is k = has_first x (f ∷ []) (qs ++ ws) k

  -- an outer name isn't one of the routine's own
  not_own : (x : Text) → has_name x outer ≡ true → has_name x own ≡ false
  not_own x h =
      (not_either x rs own (not_either x vs (rs ++ own) (not_either x ps (vs ++ (rs ++ own)) (distinct_apart outer (ps ++ (vs ++ (rs ++ own))) d x h)).1).1).1

  result_keys : (g : GlobalScope) (o : Option Name) → result_name o ≡ keys (result_variable g f o)
  result_keys g None = refl
  result_keys g (Some t) = refl

  -- the names of the routine's own variables, including its result, and those of the component
  pub local_names_distinct : (g : GlobalScope) (o : Option Name) → AllDistinct ((qs ++ (ws ++ keys (result_variable g f o))) ++ (ps ++ vs))
  local_names_distinct g o =
      subst (λ l. AllDistinct (l ++ (ps ++ vs))) (append_assoc qs ws (result_name o) ∙ ap (λ l. qs ++ (ws ++ l)) (result_keys g o))
      (distinct_both ((qs ++ ws) ++ result_name o) (ps ++ vs)
      (distinct_both (qs ++ ws) (result_name o) (distinct_last (f ∷ []) (qs ++ ws) own_distinct) (result_distinct o) (result_apart o))
      (distinct_first (ps ++ vs) (rs ++ own) inside) (λ x h. locals_apart x (among o x h)))

  pub outer_no_local : (x : Text) → has_name x outer ≡ true → (g : GlobalScope) (o : Option Name) → has_name x (qs ++ (ws ++ keys (result_variable g f o))) ≡ false
  outer_no_local x h g o =
      subst (λ l. has_name x l ≡ false) (append_assoc qs ws (result_name o) ∙ ap (λ l. qs ++ (ws ++ l)) (result_keys g o))
      (not_both (has_name x ((qs ++ ws) ++ result_name o)) (λ there. true≢false (sym (among o x there) ∙ not_own x h)))
