-- What was read of a text before reading stopped begins a text.
use Rattle.std.proofs.Common.{◌≡◌, ℕ, zero, suc, inl, inr, List, [], ◌∷◌, ◌++◌, length, Option, Some, None, refl, ap, subst, ◌∙◌, arith, length-append}
use Rattle.std.proofs.lemmas.List.{append-nil}
use Rattle.cp_model.specs.Languages.{Language}
use Rattle.cp_model.specs.Syntax as s
use Rattle.cp_model.specs.Grammar.{text}
use Rattle.cp_model.specs.Tokens.{Token}
use Rattle.cp_model.specs.Tokens.{Kind}
use Rattle.cp_model.specs.declared.token.Symbol.TheVariants as symbol
use Rattle.cp_model_grammar.specs.Reading.{Reader, kind_at}
use Rattle.cp_model_grammar.specs.Statements.{Deeper, deeper_at}
use Rattle.cp_model_grammar.specs.Text.{at_end, tree_of, text_of}
use Rattle.cp_model_grammar.specs.Laws.{FrontBeginsAText}
use Rattle.cp_model_grammar.proofs.Viable.{Completion, ViableAt, Viable, Behind, from_start, then, finish, kind_viable, expect_viable, ViableInner}
use Rattle.cp_model_grammar.proofs.TypesViable.{ViableType, type_viable}
use Rattle.cp_model_grammar.proofs.StatementsViable.{ViableDeeper, deeper_viable}
use Rattle.cp_model_grammar.proofs.DeclarationsViable.{some_body, variables_viable, body_viable, routines_viable, sections_viable}

module _ (room : ℕ) {p : Reader s.TypeExpression} (v : ViableType (suc room) p) (d : Option Deeper)
    (okd : ViableInner ViableDeeper (suc room) d) where
  tree_viable : Viable (tree_of p d) (text (suc room))
  unfolding tree_of
  tree_viable = then (sections_viable (suc room) (some_body room) d okd v)
      (λ ss. then (variables_viable (suc room) v) (λ vs. then (routines_viable (suc room) (some_body room) d okd v) (λ rs.
      then (body_viable (suc room) (some_body room) d okd)
      (λ b. finish (λ _. record { sections = ss; variables = vs; routines = rs; body = b }) (expect_viable symbol.Dot)
      (λ q m3 rest h m2 h3 m1 h2 m0 h1 ts h0. (m0, h0, (m1, h1, (m2, h2, (m3, h3, (q, h))))))))))

  -- after a whole tree
  abbrev Nothing : s.Tree → s.Tree → Language
  Nothing t = Behind (text (suc room)) t (text (suc room))

  end_viable : (t : s.Tree) (ts : List Token) (k : Option Kind) → kind_at ts ≡ k → ViableAt (Nothing t) (at_end t k ts) ts
  end_viable t ts None e = ([], refl, λ rest ts h. h)
  end_viable t ts (Some k) e = from_start (Nothing t) ([], t, λ rest ts h. h) ts

  text_of_viable : Viable (text_of p d) (text (suc room))
  unfolding text_of
  text_of_viable = then tree_viable (λ t. kind_viable (at_end t) ([], t, λ rest ts h. h) (end_viable t))

-- two fronts with equally many tokens after them are the same
same_front : (f g a b : List Token) → f ++ a ≡ g ++ b → length b ≡ length a → g ≡ f
same_front [] [] a b e n = refl
same_front [] (y ∷ g) a b e n = absurd (let m : length a ≡ length ((y ∷ g) ++ b) = ap length e in omega (arith, m, n, length-append (y ∷ g) b))
same_front (x ∷ f) [] a b e n = absurd (let m : length ((x ∷ f) ++ a) ≡ length b = ap length e in omega (arith, m, n, length-append (x ∷ f) a))
same_front (x ∷ f) (y ∷ g) a b e n =
    let heads : x ≡ y = cc in
    let tails : f ++ a ≡ g ++ b = cc in
    let same = same_front f g a b tails n in cc

module _ (room : ℕ) (front behind : List Token) where
  begun : Completion (text room) (length behind) (front ++ behind) → (more : List Token) × (tree : s.Tree) × text room tree (front ++ more) []
  begun c =
      let same = same_front front c.0 behind c.1 c.2 c.3 in (
        c.4,
        c.5,
        subst (λ (ts : List Token). text room c.5 ts [])
            (ap (λ (r : List Token). c.0 ++ r) (append-nil c.4) ∙ ap (λ (f : List Token). f ++ c.4) same) (c.6 []),
      )

pub front_begins_a_text : FrontBeginsAText
front_begins_a_text zero front behind some stops = absurd (omega arith)
front_begins_a_text (suc room) front behind some (inl h) =
    begun (suc room) front behind (rw h at ((text_of_viable room (type_viable (suc room)) (deeper_at (suc room)) (deeper_viable (suc room))).at
    (front ++ behind)))
front_begins_a_text (suc room) front behind some (inr h) =
    begun (suc room) front behind (rw h at ((text_of_viable room (type_viable (suc room)) (deeper_at (suc room)) (deeper_viable (suc room))).at
    (front ++ behind)))
