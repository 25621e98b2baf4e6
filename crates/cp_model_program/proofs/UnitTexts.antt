-- Each unit is the code of a system type of the text, or of the initial process.
use Rattle.std.proofs.Common.{◌≡◌, ◌⊎◌, inl, inr, ℕ, zero, suc, List, [], ◌∷◌, ◌++◌, Option, Some, None, ap, sym, subst, slice_get}
use Rattle.std.specs.Prelude.{map}
use Rattle.cp_model.specs.Abstract as a
use Rattle.cp_model.specs.Abstract.{Definition, Routine, System}
use Rattle.cp_model.specs.States.{Setup}
use Rattle.cp_law_typing.specs.Systems.{systems_of}
use Rattle.cp_model_program.specs.Sites.{BodyOf, RoutineOf, UnitText}
use Rattle.cp_model_program.specs.IsProgramFor.{IsInText, system_of_unit}
use Rattle.cp_model_program.specs.Compile.{all_texts, compile, definition_texts, system_texts, unit_texts}
use Rattle.cp_model_program.proofs.Room.{kept_from}

in_either : (xs ys : List UnitText) (n : ℕ) (t : UnitText) → slice_get (xs ++ ys) n ≡ Some t → (slice_get xs n ≡ Some t) ⊎ ((m : ℕ) × (slice_get ys m ≡ Some t))
in_either [] ys n t h = inr (n, h)
in_either (x ∷ xs) ys zero t h = inl h
in_either (x ∷ xs) ys (suc n) t h = in_either xs ys n t h

abbrev system_or : System → Option UnitText → System
system_or s None = s
system_or s (Some t) = system_of_unit t

of_routines : (s : System) (rs : List Routine) (n : ℕ) (t : UnitText) → slice_get (map (RoutineOf s) rs ++ (BodyOf s ∷ [])) n ≡ Some t → s ≡ system_of_unit t
of_routines s [] zero t h = ap (system_or s) h
of_routines s [] (suc n) t h = absurd (cc)
of_routines s (r ∷ rs) zero t h = ap (system_or s) h
of_routines s (r ∷ rs) (suc n) t h = of_routines s rs n t h

of_definitions : (ds : List Definition) (n : ℕ) (t : UnitText) → slice_get (definition_texts ds) n ≡ Some t → (i : ℕ) × (slice_get (systems_of ds) i ≡ Some (system_of_unit t))
of_definitions [] n t h = absurd (cc)
of_definitions (a.SystemDef x s ∷ ds) n t h =
    elim (in_either (system_texts s) (definition_texts ds) n t h) [
      | inl e ↦ (0, ap Some (of_routines s s.routines n t e))
      | inr e ↦ let k = of_definitions ds e.0 t e.1 in (suc k.0, k.1)
    ]
of_definitions (a.TypeDef x y ∷ ds) n t h = of_definitions ds n t h
of_definitions (a.EnumDef x vs ∷ ds) n t h = of_definitions ds n t h
of_definitions (a.ConstantDef x c ∷ ds) n t h = of_definitions ds n t h

pub in_whole : (setup : Setup) (n : ℕ) (t : UnitText) → slice_get (all_texts setup.tree) n ≡ Some t → IsInText setup (system_of_unit t)
in_whole setup n t h = by (in_either (definition_texts setup.tree.definitions) (system_texts setup.tree.initial) n t h)
  where
    by : (slice_get (definition_texts setup.tree.definitions) n ≡ Some t) ⊎ ((m : ℕ) × (slice_get (system_texts setup.tree.initial) m ≡ Some t)) → IsInText setup (system_of_unit t)
    by (inl e) = inr (of_definitions setup.tree.definitions n t e)
    by (inr e) = inl (sym (of_routines setup.tree.initial setup.tree.initial.routines e.0 t e.1))

pub in_text : (setup : Setup) (n : ℕ) (t : UnitText) → slice_get (unit_texts setup.tree) n ≡ Some t → IsInText setup (system_of_unit t)
in_text setup n t h =
    let k = kept_from (compile setup.tree).units (all_texts setup.tree) n t h in subst (IsInText setup) k.2 (in_whole setup n k.0 k.1)
