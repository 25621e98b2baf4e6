-- What is read as a statement is allowed by the grammar.
use Rattle.std.proofs.Common.{◌≡◌, ℕ, zero, suc, Bool, true, false, List, [], ◌∷◌, Option, Some, refl, sym, ◌∙◌}
use Rattle.cp_model.specs.Languages.{Language, symbol, ◌⋅◌, each_behind, separated_list}
use Rattle.cp_model.specs.Syntax as s
use Rattle.cp_model.specs.View.{LabelledStatement, expressions_of, statements_of, arms_of}
use Rattle.cp_model.specs.GrammarExpressions.{constant, expression, designator}
use Rattle.cp_model.specs.GrammarStatements.{ends_open, direction_symbol, init_item, statement, statements, more_statements, arms, more_arms}
use Rattle.cp_model.specs.Grammar.{body}
use Rattle.cp_model.specs.Tokens.{Token}
use Rattle.cp_model.specs.Tokens.{Kind}
use Rattle.cp_model.specs.Tokens as kind
use Rattle.cp_model.specs.declared.token.Symbol.{Symbol}
use Rattle.cp_model.specs.declared.token.Symbol.TheVariants as symbol
use Rattle.cp_model_grammar.specs.Kinds.{is_symbol}
use Rattle.cp_model_grammar.specs.Reading.{Reader, pure, kind_at, place_at, tail, separated_by}
use Rattle.cp_model_grammar.specs.Expressions.{factor_of, inner_at}
use Rattle.cp_model_grammar.specs.Statements.{Deeper, direction_by, direction_of, statements_from, arm_of, else_part, block_of, compound_of, if_of, case_of, while_of, repeat_of, for_of, cycle_of, assign_or_perform, designated_of, init_item_of, init_of, statement_by, statement_of, deeper_at, statement_at}
use Rattle.cp_model_grammar.specs.Laws.{StatementsAreSound}
use Rattle.cp_model_grammar.proofs.Tokens.{head, head_symbol}
use Rattle.cp_model_grammar.proofs.Ensures.{Ensures, Sound, ensures_then, ensures_weaker, expect_sound, SoundInner, inside_sound, separated_sound}
use Rattle.cp_model_grammar.proofs.NamesSound.{identifier_sound, constants_sound}
use Rattle.cp_model_grammar.proofs.ExpressionsSound.{SoundFactor, expression_of_sound, designator_sound, optional_arguments_sound, factor_of_sound, inner_sound, expression_sound}

-- if an `else` follows, the statement is closed
abbrev pub IsRead : ℕ → s.Statement → List Token → List Token → Type 0
IsRead room x ts rest = statement room x ts rest × (is_symbol symbol.Else (kind_at rest) ≡ true → ends_open x ≡ false)

abbrev pub SoundStatement : ℕ → Reader s.Statement → Type 0
SoundStatement room p = (ts : List Token) → Ensures (p ts) (λ x rest. IsRead room x ts rest)

abbrev pub SoundDeeper : ℕ → Deeper → Type 0
SoundDeeper room d = Sound d.expression (expression room) × SoundStatement room d.statement

-- ---- lists

behind_statements : (room : ℕ) (xs : List s.Statement) (ts rest : List Token) → each_behind symbol.Semicolon (statement room) xs ts rest
    → more_statements room (statements_of xs) ts rest
behind_statements room [] ts rest h = h
behind_statements room (x ∷ xs) ts rest h = (h.0, h.1, (h.2.0, h.2.1, behind_statements room xs h.2.0 rest h.2.2))

pub separated_statements : (room : ℕ) (xs : List s.Statement) (ts rest : List Token) → separated_list symbol.Semicolon (statement room) xs ts rest
    → statements room (statements_of xs) ts rest
separated_statements room [] ts rest h = h
separated_statements room (x ∷ xs) ts rest h = (h.0, h.1, behind_statements room xs h.0 rest h.2)

abbrev pub arm : ℕ → LabelledStatement → Language
arm room a = separated_list symbol.Comma constant a.labels ⋅ symbol symbol.Colon ⋅ statement room a.body

behind_arms : (room : ℕ) (xs : List LabelledStatement) (ts rest : List Token) → each_behind symbol.Semicolon (arm room) xs ts rest
    → more_arms room (arms_of xs) ts rest
behind_arms room [] ts rest h = h
behind_arms room (x ∷ xs) ts rest h = let a = h.2.1 in (h.0, h.1, (a.0, a.1, (a.2.0, a.2.1, (h.2.0, a.2.2, behind_arms room xs h.2.0 rest h.2.2))))

pub separated_arms : (room : ℕ) (xs : List LabelledStatement) (ts rest : List Token) → separated_list symbol.Semicolon (arm room) xs ts rest
    → arms room (arms_of xs) ts rest
separated_arms room [] ts rest h = h
separated_arms room (x ∷ xs) ts rest h = let a = h.1 in (a.0, a.1, (a.2.0, a.2.1, (h.0, a.2.2, behind_arms room xs h.0 rest h.2)))

module _ (room : ℕ) (p : Reader s.Statement) (ok : SoundStatement room p) where
  sound_alone : Sound p (statement room)
  sound_alone ts = ensures_weaker (p ts) (λ x rest. IsRead room x ts rest) _ (ok ts) (λ x rest h. h.0)

  statements_sound : (ts : List Token) → Ensures (statements_from p ts) (λ xs rest. statements room (statements_of xs) ts rest)
  unfolding statements_from
  statements_sound ts = ensures_weaker _ _ _ (separated_sound (statement room) symbol.Semicolon p sound_alone ts)
      (λ xs rest h. separated_statements room xs ts rest h)

  arm_sound : Sound (arm_of p) (arm room)
  unfolding arm_of
  arm_sound ts = ensures_then _ _ _ _ (constants_sound ts) (λ labels mid h.
      ensures_then _ _ _ _ (expect_sound symbol.Colon mid) (λ at last c.
      ensures_then _ _ _ _ (sound_alone last) (λ x rest g.
      let made : arm room (record { labels = labels; body = x }) ts rest = (mid, h, (last, (at, c), g)) in made)))

  arms_sound : (ts : List Token) → Ensures (separated_by symbol.Semicolon (arm_of p) ts) (λ xs rest. arms room (arms_of xs) ts rest)
  arms_sound ts = ensures_weaker _ _ _ (separated_sound (arm room) symbol.Semicolon (arm_of p) arm_sound ts)
      (λ xs rest h. separated_arms room xs ts rest h)

-- ---- what opens a level

direction_by_sound : (ts : List Token) (k : Option Kind) → kind_at ts ≡ k
    → Ensures (direction_by k ts) (λ d rest. symbol (direction_symbol d) ts rest)
direction_by_sound ts (Some (kind.Symbol symbol.To)) k = (place_at ts, head ts (kind.Symbol symbol.To) k)
direction_by_sound ts (Some (kind.Symbol symbol.Downto)) k = (place_at ts, head ts (kind.Symbol symbol.Downto) k)
direction_by_sound ts _ k = tt

direction_sound : (ts : List Token) → Ensures (direction_of ts) (λ d rest. symbol (direction_symbol d) ts rest)
unfolding direction_of
direction_sound ts = direction_by_sound ts (kind_at ts) refl

-- the symbol at the head
first : (x : Symbol) (ts : List Token) → kind_at ts ≡ Some (kind.Symbol x) → symbol x ts (tail ts)
first x ts k = (place_at ts, head ts (kind.Symbol x) k)

else_sound : (room : ℕ) (p : Reader s.Statement) → SoundStatement room p
    → (ts mid last behind : List Token) (c : s.Expression) (x : s.Statement) (b : Bool)
    → kind_at ts ≡ Some (kind.Symbol symbol.If) → expression room c (tail ts) mid → symbol symbol.Then mid last → IsRead room x last behind
    → is_symbol symbol.Else (kind_at behind) ≡ b → Ensures (else_part p c x b behind) (λ x rest. IsRead (suc room) x ts rest)
unfolding else_part
else_sound room p ok ts mid last behind c x false k h t g e =
    ((tail ts, first symbol.If ts k, (mid, h, (last, t, g.0))), λ y. absurd (let z : true ≡ false = sym y ∙ e in cc))
else_sound room p ok ts mid last behind c x true k h t g e =
    ensures_then (p (tail behind)) (λ y. pure (s.IfElse c x y)) (λ y rest. IsRead room y (tail behind) rest) _ (ok (tail behind))
    (λ y rest r. (
      (
        g.1 e,
        (
          tail ts,
          first symbol.If ts k,
          (mid, h, (last, t, (behind, g.0, (tail behind, (place_at behind, head_symbol behind symbol.Else e), r.0)))),
        ),
      ),
      r.1,
    ))

pub compound_from_body : (room : ℕ) (b : s.Body) (ts rest : List Token) → body room b ts rest → statement room (s.Compound b.list) ts rest
compound_from_body zero b ts rest h = h
compound_from_body (suc room) b ts rest h = (h.0, (b.at, h.1), h.2)

module _ (room : ℕ) (deeper : Option Deeper) (ok : SoundInner SoundDeeper room deeper) where
  pub block_sound : (ts : List Token) → kind_at ts ≡ Some (kind.Symbol symbol.Begin) → Ensures (block_of deeper ts) (λ b rest. body room b ts rest)
  unfolding block_of
  block_sound ts k = inside_sound SoundDeeper (λ room b rest. body room b ts rest) _ ts (λ room d ok.
      ensures_then _ _ _ _ (statements_sound room d.statement ok.1 (tail ts)) (λ l mid h.
      ensures_then _ _ _ _ (expect_sound symbol.End mid) (λ at rest c.
      let made : body (suc room) (record { at = place_at ts; list = statements_of l }) ts rest =
      (tail ts, head ts (kind.Symbol symbol.Begin) k, (mid, h, (at, c))) in made))) room deeper ok

  compound_sound : (ts : List Token) → kind_at ts ≡ Some (kind.Symbol symbol.Begin)
      → Ensures (compound_of deeper ts) (λ x rest. IsRead room x ts rest)
  unfolding compound_of
  compound_sound ts k = ensures_then _ _ _ _ (block_sound ts k) (λ b rest h.
      let made : IsRead room (s.Compound b.list) ts rest = (compound_from_body room b ts rest h, λ e. refl) in made)

  if_sound : (ts : List Token) → kind_at ts ≡ Some (kind.Symbol symbol.If) → Ensures (if_of deeper ts) (λ x rest. IsRead room x ts rest)
  unfolding if_of
  if_sound ts k = inside_sound SoundDeeper (λ room x rest. IsRead room x ts rest) _ ts (λ room d ok.
      ensures_then _ _ _ _ (ok.0 (tail ts)) (λ c mid h.
      ensures_then _ _ _ _ (expect_sound symbol.Then mid) (λ at last t.
      ensures_then _ _ (λ x rest. IsRead room x last rest) _ (ok.1 last) (λ x behind g.
      else_sound room d.statement ok.1 ts mid last behind c x (is_symbol symbol.Else (kind_at behind)) k h (at, t) g refl)))) room deeper ok

  case_sound : (ts : List Token) → kind_at ts ≡ Some (kind.Symbol symbol.Case) → Ensures (case_of deeper ts) (λ x rest. IsRead room x ts rest)
  unfolding case_of
  case_sound ts k = inside_sound SoundDeeper (λ room x rest. IsRead room x ts rest) _ ts (λ room d ok.
      ensures_then _ _ _ _ (ok.0 (tail ts)) (λ e mid h.
      ensures_then _ _ _ _ (expect_sound symbol.Of mid) (λ at last t.
      ensures_then _ _ _ _ (arms_sound room d.statement ok.1 last) (λ xs behind g.
      ensures_then _ _ _ _ (expect_sound symbol.End behind) (λ end rest c.
      let made : IsRead (suc room) (s.Case e (arms_of xs)) ts rest =
      ((tail ts, first symbol.Case ts k, (mid, h, (last, (at, t), (behind, g, (end, c))))), λ e. refl) in made))))) room deeper ok

  while_sound : (ts : List Token) → kind_at ts ≡ Some (kind.Symbol symbol.While) → Ensures (while_of deeper ts) (λ x rest. IsRead room x ts rest)
  unfolding while_of
  while_sound ts k = inside_sound SoundDeeper (λ room x rest. IsRead room x ts rest) _ ts (λ room d ok.
      ensures_then _ _ _ _ (ok.0 (tail ts)) (λ c mid h.
      ensures_then _ _ _ _ (expect_sound symbol.Do mid) (λ at last t.
      ensures_then _ _ (λ x rest. IsRead room x last rest) _ (ok.1 last) (λ x rest g.
      let made : IsRead (suc room) (s.While c x) ts rest = ((tail ts, first symbol.While ts k, (mid, h, (last, (at, t), g.0))), g.1) in
      made)))) room deeper ok

  repeat_sound : (ts : List Token) → kind_at ts ≡ Some (kind.Symbol symbol.Repeat) → Ensures (repeat_of deeper ts) (λ x rest. IsRead room x ts rest)
  unfolding repeat_of
  repeat_sound ts k = inside_sound SoundDeeper (λ room x rest. IsRead room x ts rest) _ ts (λ room d ok.
      ensures_then _ _ _ _ (statements_sound room d.statement ok.1 (tail ts)) (λ l mid h.
      ensures_then _ _ _ _ (expect_sound symbol.Until mid) (λ at last t.
      ensures_then _ _ _ _ (ok.0 last) (λ c rest g.
      let made : IsRead (suc room) (s.Repeat (statements_of l) c) ts rest =
      ((tail ts, first symbol.Repeat ts k, (mid, h, (last, (at, t), g))), λ e. refl) in made)))) room deeper ok

  for_sound : (ts : List Token) → kind_at ts ≡ Some (kind.Symbol symbol.For) → Ensures (for_of deeper ts) (λ x rest. IsRead room x ts rest)
  unfolding for_of
  for_sound ts k = inside_sound SoundDeeper (λ room x rest. IsRead room x ts rest) _ ts (λ room d ok.
      ensures_then _ _ _ _ (identifier_sound (tail ts)) (λ v t1 h1.
      ensures_then _ _ _ _ (expect_sound symbol.Assign t1) (λ at t2 h2.
      ensures_then _ _ _ _ (ok.0 t2) (λ a t3 h3.
      ensures_then _ _ _ _ (direction_sound t3) (λ way t4 h4.
      ensures_then _ _ _ _ (ok.0 t4) (λ b t5 h5.
      ensures_then _ _ _ _ (expect_sound symbol.Do t5) (λ place t6 h6.
      ensures_then _ _ (λ x rest. IsRead room x t6 rest) _ (ok.1 t6) (λ x rest g.
      let made : IsRead (suc room) (s.For v a way b x) ts rest =
      ((tail ts, first symbol.For ts k, (t1, h1, (t2, (at, h2), (t3, h3, (t4, h4, (t5, h5, (t6, (place, h6), g.0))))))), g.1) in
      made)))))))) room deeper ok

  cycle_sound : (ts : List Token) → kind_at ts ≡ Some (kind.Symbol symbol.Cycle) → Ensures (cycle_of deeper ts) (λ x rest. IsRead room x ts rest)
  unfolding cycle_of
  cycle_sound ts k = inside_sound SoundDeeper (λ room x rest. IsRead room x ts rest) _ ts (λ room d ok.
      ensures_then _ _ _ _ (statements_sound room d.statement ok.1 (tail ts)) (λ l mid h.
      ensures_then _ _ _ _ (expect_sound symbol.End mid) (λ at rest c.
      let made : IsRead (suc room) (s.Cycle (statements_of l)) ts rest = ((tail ts, first symbol.Cycle ts k, (mid, h, (at, c))), λ e. refl) in
      made))) room deeper ok

-- ---- what begins with a name, and `init`

module _ (room : ℕ) (inner : Option (Reader s.Expression)) (ok : SoundInner SoundFactor room inner) where
  assign_sound : (d : s.Designator) (ts mid : List Token) (b : Bool) → is_symbol symbol.Assign (kind_at mid) ≡ b → designator room d ts mid
      → Ensures (assign_or_perform inner d b mid) (λ x rest. IsRead room x ts rest)
  unfolding assign_or_perform
  assign_sound d ts mid true k h = ensures_then _ _ _ _ (expression_of_sound room (factor_of inner) (factor_of_sound room inner ok) (tail mid))
      (λ e rest g.
      let made : IsRead room (s.Assign d (place_at mid) e) ts rest = ((mid, h, (tail mid, head_symbol mid symbol.Assign k, g)), λ e. refl) in made)
  assign_sound d ts mid false k h = ensures_then _ _ _ _ (optional_arguments_sound room inner ok mid) (λ es rest g.
      let made : IsRead room (s.Perform d (expressions_of es)) ts rest = ((mid, h, g), λ e. refl) in made)

  designated_sound : (ts : List Token) → Ensures (designated_of inner ts) (λ x rest. IsRead room x ts rest)
  unfolding designated_of
  designated_sound ts = ensures_then _ _ _ _ (designator_sound room inner ok ts)
      (λ d mid h. assign_sound d ts mid (is_symbol symbol.Assign (kind_at mid)) refl h)

  init_item_sound : Sound (init_item_of inner) (init_item room)
  unfolding init_item_of
  init_item_sound ts = ensures_then _ _ _ _ (identifier_sound ts) (λ x mid h.
      ensures_then _ _ _ _ (optional_arguments_sound room inner ok mid) (λ es rest g.
      let made : init_item room (record { component = x; arguments = expressions_of es }) ts rest = (mid, h, g) in made))

  init_sound : (ts : List Token) → kind_at ts ≡ Some (kind.Symbol symbol.Init) → Ensures (init_of inner ts) (λ x rest. IsRead room x ts rest)
  unfolding init_of
  init_sound ts k = ensures_then _ _ _ _ (separated_sound (init_item room) symbol.Comma (init_item_of inner) init_item_sound (tail ts)) (λ is rest h.
      let made : IsRead room (s.Init (place_at ts) is) ts rest = ((tail ts, head ts (kind.Symbol symbol.Init) k, h), λ e. refl) in made)

  module _ (deeper : Option Deeper) (okd : SoundInner SoundDeeper room deeper) where
    statement_by_sound : (ts : List Token) (k : Option Kind) → kind_at ts ≡ k
        → Ensures (statement_by inner deeper k ts) (λ x rest. IsRead room x ts rest)
    unfolding statement_by
    statement_by_sound ts (Some (kind.Name name)) k = designated_sound ts
    statement_by_sound ts (Some (kind.Symbol symbol.Begin)) k = compound_sound room deeper okd ts k
    statement_by_sound ts (Some (kind.Symbol symbol.If)) k = if_sound room deeper okd ts k
    statement_by_sound ts (Some (kind.Symbol symbol.Case)) k = case_sound room deeper okd ts k
    statement_by_sound ts (Some (kind.Symbol symbol.While)) k = while_sound room deeper okd ts k
    statement_by_sound ts (Some (kind.Symbol symbol.Repeat)) k = repeat_sound room deeper okd ts k
    statement_by_sound ts (Some (kind.Symbol symbol.For)) k = for_sound room deeper okd ts k
    statement_by_sound ts (Some (kind.Symbol symbol.Cycle)) k = cycle_sound room deeper okd ts k
    statement_by_sound ts (Some (kind.Symbol symbol.Init)) k = init_sound ts k
    statement_by_sound ts _ k = (refl, λ e. refl)

    statement_of_sound : SoundStatement room (statement_of inner deeper)
    unfolding statement_of
    statement_of_sound ts = statement_by_sound ts (kind_at ts) refl

pub deeper_sound : (room : ℕ) → SoundInner SoundDeeper room (deeper_at room)
unfolding deeper_at
deeper_sound zero = tt
deeper_sound (suc room) = (expression_sound room, statement_of_sound room (inner_at room) (inner_sound room) (deeper_at room) (deeper_sound room))

pub statement_sound : (room : ℕ) → SoundStatement room (statement_at room)
statement_sound room = statement_of_sound room (inner_at room) (inner_sound room) (deeper_at room) (deeper_sound room)

pub statements_are_sound : StatementsAreSound
statements_are_sound room ts rest x h = (rw h at (statement_sound room ts)).0
