-- A whole variable is visited: it is entered, and nothing is left.
use Rattle.std.proofs.Common.{◌≡◌, ℕ, ◌+◌, ◌++◌, List, [], ◌∷◌, refl, ap, sym, subst, ◌∙◌, arith}
use Rattle.std.proofs.lemmas.List.{append-nil}
use Rattle.std.specs.Prelude.{reverse}
use Rattle.cp_model.specs.Abstract.{Name}
use Rattle.cp_model.specs.Locations.{ByName}
use Rattle.cp_model.specs.Report.{Text}
use Rattle.cp_law_typing.specs.Words.{words}
use Rattle.cp_model_machine.specs.Reports.{Visit, visit_type}
use Rattle.cp_model.specs.Types.{GlobalScope}
use Rattle.cp_compile_symbols.specs.Representing.{ScopeRepresents}
use Rattle.cp_compile_symbols.specs.declared.tables.Tables.{Tables}
use Rattle.cp_compile_symbols.specs.declared.types.Types.{Types}
use Rattle.cp_inspect.specs.Remaining.{Remaining, left_text, left_words}
use Rattle.cp_inspect.specs.Walks.{AllRepresent, Continues, Enters, Finishes, Advances, Visits}
use Rattle.cp_inspect.specs.declared.walk.Cursor.{Cursor}
use Rattle.cp_inspect.proofs.Paths.{reversed}
use Rattle.cp_inspect.specs.declared.walk.Walk.{Walk}

pub visited : (tables : Tables) (v : Visit) (x : Name) (n at : ℕ) (start mid end : Walk) (out between after : Text) → start.stack.items ≡ [] → start.path.items ≡ x → start.at ≡ at
    → Enters tables v n start mid out between → Finishes tables v mid end between after → Visits tables v x n at end.at out after
visited tables v x n at start mid end out between after none named place enters finishes g t scope represents =
    let E = enters g t (ByName x ∷ []) [] scope represents tt (append-nil x ∙ sym named) (subst (λ cs. AllRepresent tables.types start.path.items (reverse cs) []) (sym none) tt) in
    let F = finishes g E.left scope E.represents in (
      F.0 ∙ (E.text_is ∙ (ap (λ z. out ++ z) (append-nil (visit_type g v (ByName x ∷ []) start.at t)) ∙ ap (λ k. out ++ visit_type g v (ByName x ∷ []) k t) place)),
      F.1 ∙ (E.place ∙ (no_more (start.at + words g t) ∙ ap (λ k. k + words g t) place)),
    )
  where
    no_more : (k : ℕ) → k + 0 ≡ k
    no_more k = omega arith

-- The innermost variable, taken from the stack.
pub record Taken (types : Types) (buffer : Text) (c : Cursor) (stack : List Cursor) (all : List Remaining) : Type 0 where
  pub left : Remaining
  pub rest : List Remaining
  pub is : all ≡ left ∷ rest
  pub represents : AllRepresent types buffer (c ∷ reverse stack) (left ∷ rest)

taken : (types : Types) (buffer : Text) (c : Cursor) (stack : List Cursor) (all : List Remaining) → AllRepresent types buffer (c ∷ reverse stack) all → Taken types buffer c stack all
taken types buffer c stack [] S = absurd S
taken types buffer c stack (left ∷ rest) S = record { left = left; rest = rest; is = refl; represents = S }

-- What continues from a walk also continues from the walk before the innermost variable was taken.
pub went_on : (g : GlobalScope) (v : Visit) (tables : Tables) (c : Cursor) (w mid new : Walk) (out between after : Text) (text : Text) (end : ℕ)
    → w.stack.items ≡ mid.stack.items ++ c ∷ [] → mid.path.items ≡ w.path.items → mid.at ≡ w.at → between ≡ out → ScopeRepresents tables.names tables.types g
    → Advances g v tables.types w out text end → Continues tables v c mid new between after → Advances g v tables.types new after text end
went_on g v tables c w mid new out between after text end split path at same scope I continues =
    let represents = subst (λ cs. AllRepresent tables.types w.path.items cs I.left) (ap reverse split ∙ reversed mid.stack.items c) I.represents in
    let T = taken tables.types w.path.items c mid.stack.items I.left represents in
    let E = continues g T.left T.rest scope (subst (λ b. AllRepresent tables.types b (c ∷ reverse mid.stack.items) (T.left ∷ T.rest)) (sym path) T.represents) in
    record {
      left = E.left;
      represents = E.represents;
      text_is = E.text_is ∙ ((λ i. same i ++ left_text g v (sym T.is i) (at i)) ∙ I.text_is);
      place = E.place ∙ ((λ i. at i + left_words g (sym T.is i)) ∙ I.place);
    }

-- Nothing is left if the stack is empty.
pub nothing_left : (g : GlobalScope) (v : Visit) (types : Types) (w new : Walk) (out after text : Text) (end : ℕ) → w.stack.items ≡ [] → new.at ≡ w.at → after ≡ out
    → Advances g v types w out text end → (after ≡ text) × (new.at ≡ end)
nothing_left g v types w new out after text end none at same I = by I.left (subst (λ cs. AllRepresent types w.path.items (reverse cs) I.left) none I.represents) I.text_is I.place
  where
    no_more : (k : ℕ) → k ≡ k + 0
    no_more k = omega arith

    by : (rest : List Remaining) → AllRepresent types w.path.items [] rest → out ++ left_text g v rest w.at ≡ text → w.at + left_words g rest ≡ end → (after ≡ text) × (new.at ≡ end)
    by [] S text_is place = (same ∙ (sym (append-nil out) ∙ text_is), at ∙ (no_more w.at ∙ place))
    by (left ∷ rest) S text_is place = absurd S
