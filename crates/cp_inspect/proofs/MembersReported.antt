-- Members of a component are reported one after another.
use Rattle.std.proofs.Common.{◌≡◌, ℕ, zero, suc, ◌+◌, ◌<◌, ◌++◌, List, [], ◌∷◌, drop, length, map, refl, ◌∙◌, arith}
use Rattle.std.specs.Prelude.{slice_index_or}
use Rattle.std.proofs.lemmas.List.{append_assoc}
use Rattle.cp_model.specs.Abstract.{Name}
use Rattle.cp_model.specs.Locations.{ByName}
use Rattle.cp_model.specs.Report.{Text}
use Rattle.cp_model.specs.Types.{GlobalScope, Members, MoreMembers, NoMembers}
use Rattle.cp_law_typing.specs.Words.{words}
use Rattle.cp_model_machine.specs.Reports.{Visit, visit_members, visit_type}
use Rattle.cp_compile_symbols.specs.Representing.{AreMembers, ScopeRepresents}
use Rattle.cp_compile_symbols.specs.declared.tables.Tables.{Tables}
use Rattle.cp_compile_symbols.specs.declared.types.Types.{Types}
use Rattle.cp_inspect.specs.Walks.{Visits}

-- These entries represent the members that are left, and with those members the text is whole.
pub record MembersToReport (g : GlobalScope) (v : Visit) (types : Types) (es : List (Name × ℕ)) (at : ℕ) (out text : Text) : Type 0 where
  pub left : Members
  pub represent : AreMembers types es left
  pub text_is : out ++ visit_members g v [] at left ≡ text

pub one_reported : (g : GlobalScope) (v : Visit) (tables : Tables) (x : Name) (n : ℕ) (es : List (Name × ℕ)) (at end : ℕ) (out after text : Text) → ScopeRepresents tables.names tables.types g
    → MembersToReport g v tables.types ((x, n) ∷ es) at out text → Visits tables v x n at end out after → MembersToReport g v tables.types es end after text
one_reported g v tables x n es at end out after text scope M visits = by M.left M.represent M.text_is
  where
    by : (ms : Members) → AreMembers tables.types ((x, n) ∷ es) ms → out ++ visit_members g v [] at ms ≡ text → MembersToReport g v tables.types es end after text
    by NoMembers h e = absurd h
    by (MoreMembers y t ms) h e =
        let V = visits g t scope h.1 in
        record {
          left = ms;
          represent = h.2;
          text_is =
              (λ i. V.0 i ++ visit_members g v [] (V.1 i) ms)
              ∙ (append_assoc out (visit_type g v (ByName x ∷ []) at t) (visit_members g v [] (at + words g t) ms)
              ∙ ((λ i. out ++ (visit_type g v (ByName (h.0 i) ∷ []) at t ++ visit_members g v [] (at + words g t) ms)) ∙ e));
        }

-- The item at an index comes first in what is left from there.
pub drop_first : {A B : Type 0} (f : A → B) (xs : List A) (i : ℕ) (d : A) → i < length xs → map f (drop i xs) ≡ f (slice_index_or xs i d) ∷ map f (drop (suc i) xs)
drop_first f [] i d h = absurd (omega (arith, h))
drop_first f (x ∷ xs) zero d h = refl
drop_first f (x ∷ xs) (suc i) d h = drop_first f xs i d (omega (arith, h))
