-- The iterations of the loop that reads a list, and its end.
use Rattle.std.proofs.Common.{◌≡◌, ℕ, zero, suc, ◌+◌, ◌-◌, ◌<◌, ◌≤◌, Bool, true, false, List, [], ◌∷◌, ◌++◌, Option, Ok, refl, sym, ap, ◌∙◌, arith}
use Rattle.cp_model.specs.Tokens.{Token}
use Rattle.cp_model.specs.Tokens.{Kind}
use Rattle.cp_model_grammar.specs.declared.stop.Stop.{Stop}
use Rattle.cp_model_grammar.specs.declared.stop.Stop.TheVariants.{Memory, Wrong, Deep}
use Rattle.cp_model_grammar.specs.Reading.{Reader, Outcome, and_then, kind_at, repeat, Fails}

pub fails_then : {A B : Type 0} (s : Stop) (o : Outcome A) (f : A → Reader B) → Fails s o → Fails s (and_then o f)
fails_then Memory o f h = tt
fails_then (Wrong n) o f h = ap (λ r. and_then r f) h
fails_then (Deep n) o f h = ap (λ r. and_then r f) h

pub fails_as : {A : Type 0} (s : Stop) (o q : Outcome A) → Fails s o → o ≡ q → Fails s q
fails_as Memory o q h e = tt
fails_as (Wrong n) o q h e = sym e ∙ h
fails_as (Deep n) o q h e = sym e ∙ h

module _ {A : Type 0} (proceeds : Option Kind → Bool) (item : Reader A) (found : List A) (ts : List Token) (end at : ℕ) where
  pub repeat_ends : end ≤ at → repeat proceeds item (end - at) found ts ≡ Ok (found, ts)
  unfolding repeat
  repeat_ends done = let none : end - at ≡ 0 = omega arith in rw none refl

  pub repeat_stops : at < end → proceeds (kind_at ts) ≡ false → repeat proceeds item (end - at) found ts ≡ Ok (found, ts)
  unfolding repeat
  repeat_stops more stop = let k : end - at ≡ suc (end - (at + 1)) = omega arith in rw (k, stop) refl

  pub repeat_goes : (x : A) (left : List Token) → at < end → proceeds (kind_at ts) ≡ true → item ts ≡ Ok (x, left)
      → repeat proceeds item (end - at) found ts ≡ repeat proceeds item (end - (at + 1)) (found ++ x ∷ []) left
  unfolding repeat
  repeat_goes x left more go one = let k : end - at ≡ suc (end - (at + 1)) = omega arith in rw (k, go, one) refl

  pub repeat_fails : (s : Stop) → at < end → proceeds (kind_at ts) ≡ true → Fails s (item ts) → Fails s (repeat proceeds item (end - at) found ts)
  unfolding repeat
  repeat_fails s more go fails =
      let k : end - at ≡ suc (end - (at + 1)) = omega arith in
      let next : A → Reader (List A) = λ x. repeat proceeds item (end - (at + 1)) (found ++ x ∷ []) in
      fails_as s (and_then (item ts) next) _ (fails_then s (item ts) next fails) (sym (rw (k, go) refl))

-- no item begins with the next token, whatever the bound
pub repeat_rests : {A : Type 0} (proceeds : Option Kind → Bool) (item : Reader A) (found : List A) (ts : List Token) (n : ℕ)
    → proceeds (kind_at ts) ≡ false → repeat proceeds item n found ts ≡ Ok (found, ts)
unfolding repeat
repeat_rests proceeds item found ts zero stop = refl
repeat_rests proceeds item found ts (suc n) stop = rw stop refl
