-- Pieces before others in a plan come last in the list of a draft.
use Rattle.std.proofs.Common.{◌≡◌, ◌∙◌, ℕ, ℤ, List, [], ◌∷◌, ◌++◌, None, Some, ap, refl, sym}
use Rattle.std.proofs.lemmas.List.{reverse-append}
use Rattle.cp_model_program.specs.Plans.{fill_before, pieces_before}
use Rattle.cp_model_program.specs.Programs as code
use Rattle.cp_program.specs.declared.program.StartPiece.{StartPiece}
use Rattle.cp_program.specs.declared.program.StartPiece.TheVariants as start
use Rattle.cp_program.specs.View as view
use Rattle.cp_compile_emit.specs.Drafts.{Joins, starts_of}

pub one_more : (known : List code.StartPlan) (xs ys : List StartPiece) (x : StartPiece) → ys ≡ xs ++ x ∷ []
    → starts_of known ys ≡ view.piece_before known x (starts_of known xs)
one_more known xs ys x is = ap (starts_of known) is ∙ ap (view.plan_of known) (reverse-append xs (x ∷ []))

pub one_joined : (known : List code.StartPlan) (before now last : List StartPiece) (next both : StartPiece) (at count : ℕ) (value : ℤ) → before ≡ last ++ next ∷ []
    → Joins at count value next (Some both) → now ≡ last ++ both ∷ [] → starts_of known now ≡ fill_before at count value (starts_of known before)
one_joined known before now last next both at count value was joins is =
    one_more known last now both is ∙ sym (joins known (starts_of known last)) ∙ ap (fill_before at count value) (sym (one_more known last before next was))

pub one_filled : (known : List code.StartPlan) (before now last : List StartPiece) (next : StartPiece) (at count : ℕ) (value : ℤ) → before ≡ last ++ next ∷ []
    → Joins at count value next None → now ≡ before ++ start.Fill at count value ∷ [] → starts_of known now ≡ fill_before at count value (starts_of known before)
one_filled known before now last next at count value was joins is =
    one_more known before now (start.Fill at count value) is
    ∙ ap (code.Fill at count value) (one_more known last before next was)
    ∙ sym (joins known (starts_of known last)) ∙ ap (fill_before at count value) (sym (one_more known last before next was))

-- The pieces of a plan are put before others one by one.
pub piece_first : (at : ℕ) (known : List code.StartPlan) (x : StartPiece) (more rest : code.StartPlan)
    → pieces_before at (view.piece_before known x code.Done) (pieces_before at more rest) ≡ pieces_before at (view.piece_before known x more) rest
piece_first at known (start.Fill behind count value) more rest = refl
piece_first at known (start.Repeat behind size count) more rest = refl
piece_first at known (start.Part behind plan) more rest = refl
