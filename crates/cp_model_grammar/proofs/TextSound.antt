-- What is read as a whole text is one.
use Rattle.std.proofs.Common.{ℕ, List, [], ◌∷◌, Option}
use Rattle.cp_model.specs.Syntax as s
use Rattle.cp_model.specs.Grammar.{text}
use Rattle.cp_model.specs.Tokens.{Token}
use Rattle.cp_model.specs.declared.token.Symbol.TheVariants as symbol
use Rattle.cp_model_grammar.specs.Reading.{Reader, kind_at}
use Rattle.cp_model_grammar.specs.Types.{type_at}
use Rattle.cp_model_grammar.specs.Statements.{Deeper, deeper_at}
use Rattle.cp_model_grammar.specs.Text.{at_end, tree_of, text_of}
use Rattle.cp_model_grammar.specs.Laws.{TextIsSound}
use Rattle.cp_model_grammar.proofs.Ensures.{Ensures, Sound, ensures_then, expect_sound, SoundInner}
use Rattle.cp_model_grammar.proofs.TypesSound.{SoundType, type_sound}
use Rattle.cp_model_grammar.proofs.StatementsSound.{SoundDeeper, deeper_sound}
use Rattle.cp_model_grammar.proofs.DeclarationsSound.{variables_sound, body_sound, routines_sound, sections_sound}

module _ (limit : ℕ) (p : Reader s.TypeExpression) (ok : SoundType limit p) (deeper : Option Deeper) (okd : SoundInner SoundDeeper limit deeper) where
  tree_sound : Sound (tree_of p deeper) (text limit)
  unfolding tree_of
  tree_sound ts = ensures_then _ _ _ _ (sections_sound limit p ok deeper okd ts) (λ ss t1 h1.
      ensures_then _ _ _ _ (variables_sound limit p ok t1) (λ vs t2 h2.
      ensures_then _ _ _ _ (routines_sound limit p ok deeper okd t2) (λ rs t3 h3.
      ensures_then _ _ _ _ (body_sound limit deeper okd t3) (λ b t4 h4.
      ensures_then _ _ _ _ (expect_sound symbol.Dot t4) (λ p5 t5 h5.
      let made : text limit (record { sections = ss; variables = vs; routines = rs; body = b }) ts t5 =
      (t1, h1, (t2, h2, (t3, h3, (t4, h4, (p5, h5))))) in made)))))

  at_end_sound : (t : s.Tree) (ts mid : List Token) → text limit t ts mid → Ensures (at_end t (kind_at mid) mid) (λ t rest. text limit t ts [])
  at_end_sound t ts [] h = h
  at_end_sound t ts (x ∷ mid) h = tt

  text_of_sound : (ts : List Token) → Ensures (text_of p deeper ts) (λ t rest. text limit t ts [])
  unfolding text_of
  text_of_sound ts = ensures_then _ _ _ _ (tree_sound ts) (λ t mid h. at_end_sound t ts mid h)

pub text_is_sound : TextIsSound
text_is_sound room ts rest t h = rw h at (text_of_sound room (type_at room) (type_sound room) (deeper_at room) (deeper_sound room) ts)
