-- What a routine returns.
use Rattle.std.proofs.Common.{◌≡◌, ℕ, ℤ, Bool, true, false, List, Option, None, Some, Ok, Err, refl, ap, sym}
use Rattle.std.specs.Prelude.{if◌then◌else◌}
use Rattle.cp_model.specs.Integers.{same_integer}
use Rattle.cp_model.specs.declared.state.Fault.{Fault}
use Rattle.cp_model.specs.declared.state.Fault.TheVariants as fault
use Rattle.cp_model_program.specs.Starts.{unset, word}
use Rattle.cp_model_machine.specs.PrivateStates.{Acting, Effect, Frame, PrivateState, fault_in, set_word}
use Rattle.cp_model_machine.specs.Calling.{leave, return_with}
use Rattle.cp_private.specs.Calls.{returning, value_to_return}

module _ (o changed : PrivateState) (f : Frame) (fs : List Frame) (e : Effect) where
  abbrev after : Option ℤ → Acting
  after v = (leave (returning changed f v) f fs, e)

  pub returned : (function : Bool) (v : Option ℤ) → Ok v ≡ value_to_return o function → return_with o changed f fs function e ≡ after v
  returned false v is = let same : v ≡ None = cc in ap after (sym same)
  returned true v is = by (same_integer (word o.words o.base) unset) is
    where
      by : (b : Bool) → Ok v ≡ (if b then Err fault.NoResult else Ok (Some (word o.words o.base)))
          → (if b then fault_in o fault.NoResult else after (Some (word o.words o.base))) ≡ after v
      by true h = absurd (cc)
      by false h = let same : v ≡ Some (word o.words o.base) = cc in ap after (sym same)

  pub unreturned : (function : Bool) (x : Fault) → Err x ≡ value_to_return o function → return_with o changed f fs function e ≡ fault_in o x
  unreturned false x is = absurd (cc)
  unreturned true x is = by (same_integer (word o.words o.base) unset) is
    where
      by : (b : Bool) → Err x ≡ (if b then Err fault.NoResult else Ok (Some (word o.words o.base)))
          → (if b then fault_in o fault.NoResult else after (Some (word o.words o.base))) ≡ fault_in o x
      by true h = let same : x ≡ fault.NoResult = cc in ap (fault_in o) (sym same)
      by false h = absurd (cc)

-- Who receives a value runs as before.
pub receiving : (o : PrivateState) (f : Frame) (v : Option ℤ) → (returning o f v).activity ≡ o.activity
receiving o f None = refl
receiving o f (Some n) = refl

-- A word may be written before or after the return.
pub written_after : (o : PrivateState) (f : Frame) (fs : List Frame) (at : ℕ) (n : ℤ) (v : Option ℤ)
    → set_word (leave (returning o f v) f fs) at n ≡ leave (returning (set_word o at n) f v) f fs
written_after o f fs at n None = refl
written_after o f fs at n (Some m) = refl
