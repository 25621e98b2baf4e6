-- When judging ends early.
use Rattle.std.proofs.Common.{◌≡◌, ◌&&◌, ◌+◌, ◌∷◌, ◌∙◌, ◌<◌, [], ℕ, Bor, None, Option, Some, ap, drop, length, slice_get, sym, true}
use Rattle.std.proofs.lemmas.List.{at_drop_more}
use Rattle.std.proofs.lemmas.Option.{get_or_from_slice_get, slice_get-get_or, slice_get_within}
use Rattle.std.specs.Prelude.{option_map}
use Rattle.cp_model.specs.declared.rules.Entity.{Entity}
use Rattle.cp_model.specs.declared.rules.Entity.TheVariants as entity
use Rattle.cp_model.specs.declared.rules.Violation.{Violation}
use Rattle.cp_model.specs.RulesEnvironment.{Names, Text}
use Rattle.cp_model.specs.RulesJudged.{least}
use Rattle.cp_rules_cutoff.specs.Later.{entity_later, environment_later, names_later}
use Rattle.cp_rules_cutoff.specs.Rest.{Rest, rest_after, rest_violations}
use Rattle.cp_base_names.specs.Tables.{entry_view}
use Rattle.cp_rules.specs.Checking.{State}
use Rattle.cp_rules.specs.Endings.{reported_with}
use Rattle.cp_rules_cutoff.proofs.NothingEarlier.{rest_reported}

-- ---- the visible names

-- the name with this number, and the names after it
pub names_from : (w : Violation) (names : Names) (n : ℕ) (found : Option (Bor Text × Entity)) (e : Bor Text × Entity)
    → option_map entry_view found ≡ slice_get names n → found ≡ Some e
    → names_later w (drop n names) ≡ (entity_later w e.1 && names_later w (drop (n + 1) names))
names_from w names n found e got is =
    let at : slice_get names n ≡ Some (entry_view e) = sym got ∙ ap (option_map entry_view) is in
    at_drop_more (names_later w) names n (entry_view e) (slice_get_within names n (entry_view e) at)
    ∙ ap (λ (x : Text × Entity). names_later w (x ∷ drop (n + 1) names)) (get_or_from_slice_get names n (entry_view e) (entry_view e) at)

-- a name is at each number below their count
pub no_name : (names : Names) (n : ℕ) (found : Option (Bor Text × Entity)) → n < length names
    → option_map entry_view found ≡ slice_get names n → found ≡ None → ⊥
no_name names n found within got is =
    let at : slice_get names n ≡ None = sym got ∙ ap (option_map entry_view) is in
    cc (slice_get-get_or names n ([], entity.Hidden) within)

-- ---- the end

pub decided : (s : State) (w : Violation) (r : Rest) → s.diagnostics ≡ Some w → environment_later w s.env ≡ true → rest_after w.at r ≡ true
    → reported_with s r ≡ s.diagnostics
decided s w r diagnostics later after =
    ap (λ (t : Option Violation). least t (rest_violations s.env r)) diagnostics ∙ rest_reported w s.env r later after ∙ sym diagnostics
