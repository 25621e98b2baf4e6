-- The first call of an expression is the operation at its place, and its value leads to the next
-- call.
use Rattle.std.proofs.Common.{◌≡◌, ℕ, ◌+◌, ◌≤◌, ◌<◌, inl, inr, List, [], ◌∷◌, None, refl, ap, sym, subst, ◌∙◌, arith}
use Rattle.cp_model.specs.Abstract as a
use Rattle.cp_model.specs.Abstract.{BaseType, Name}
use Rattle.cp_model.specs.Calls.{Found, call_in_arguments, call_in_designator, first_call, in_context, or_else, user_call}
use Rattle.cp_model.specs.Declarations as declared
use Rattle.cp_model.specs.Types.{ArrayOf, Queue, RecordOf, ResolvedType, Simple}
use Rattle.cp_model_program.specs.Terms.{Argument, Binary, Copy, Element, Empty, Item, Made, Negative, Not, Number, Realtime, Reference, Rooted, PlaceExpression, Standard, Term, Value}
use Rattle.cp_model_program.specs.Layout.{local_words}
use Rattle.cp_model_program.specs.Sites.{Site, first_parameter, operation_at, parameters}
use Rattle.cp_model_program.specs.TermsFor.{ArgumentsFor, Knowns, PlaceExpressionFor, TermFor}
use Rattle.cp_model_machine.proofs.Finding.{user_call_found, user_call_none}
use Rattle.cp_model_machine.proofs.CallsKept.{Keeps, arguments_kept, place_expression_kept, term_kept}
use Rattle.cp_model_machine.proofs.NextCalls.{Advance, AllMade, Calling, Learns, call_follows, follows_on, next_in, next_left, next_right}
use Rattle.cp_model_machine.proofs.Indexed.{IsIndexed, callee_holds_none, indexed_is_no_call, indexed_is_no_clock}

-- Learning the value of one temp keeps what is known of a range above it.
pub learnt_above : (K L : Knowns) (kept temp low high : ℕ) → temp < low → Learns K L kept temp → Keeps K L low high
learnt_above K L kept temp low high p k s m u w h = k s m (inr (omega (arith, p, u))) h

pub learnt_below : (K L : Knowns) (kept temp low high : ℕ) → high ≤ kept → Learns K L kept temp → Keeps K L low high
learnt_below K L kept temp low high p k s m u w h = k s m (inl (omega (arith, p, w))) h

module _ (site : Site) (K : Knowns) where
  abbrev pub TermAdvances : a.Expression → Term → BaseType → ℕ → ℕ → ℕ → ℕ → Type 1
  TermAdvances e c b at next low high =
      Advance site K (λ v. first_call site.env v e) (λ L x after. TermFor site L x c b after next low high) (λ z. TermFor site K e c b z z low high) at next low high

  abbrev pub PlaceExpressionAdvances : a.Designator → PlaceExpression → ResolvedType → ℕ → ℕ → ℕ → ℕ → Type 1
  PlaceExpressionAdvances d s t at next low high =
      Advance site K (λ v. call_in_designator site.env v d) (λ L x after. PlaceExpressionFor site L x s t after next low high × IsIndexed x) (λ z. PlaceExpressionFor site K d s t z z low high) at next low high

  abbrev pub ArgumentsAdvance : List (Name × declared.Variable) → a.Expressions → List Argument → ℕ → ℕ → ℕ → ℕ → ℕ → Type 1
  ArgumentsAdvance ps es xs to at next low high =
      Advance site K (λ v. call_in_arguments site.env v es) (λ L x after. ArgumentsFor site L ps x xs to after next low high) (λ z. ArgumentsFor site K ps es xs to z z low high) at next low high

  -- A part that is the last one with calls, after a part whose calls have been made.
  pub moved_to : {A : Type 0} (find : a.Expression → Found A) (For : Knowns → A → ℕ → Type 0) (Still : ℕ → Type 0) (at between next low high : ℕ)
      → at ≡ between → Advance site K find For Still between next low high → Advance site K find For Still at next low high
  moved_to find For Still at between next low high p = subst (λ z. Advance site K find For Still z next low high) (sym p)

  mutual
    pub term_next : (e : a.Expression) (c : Term) (b : BaseType) (at next low high : ℕ) → TermFor site K e c b at next low high
        → TermAdvances e c b at next low high
    term_next (a.Literal n) (Number m) b at next low high h = AllMade h.2 (λ v. refl) (λ z. (h.0, h.1, refl))
    term_next (a.Letter n) (Number m) b at next low high h = AllMade h.2 (λ v. refl) (λ z. (h.0, h.1, refl))
    term_next (a.Known base n) (Number m) b at next low high h = AllMade h.2 (λ v. refl) (λ z. (h.0, h.1, refl))
    term_next (a.Known base n) (Made t) b at next low high h = AllMade h.1 (λ v. refl) (λ z. (h.0, refl, h.2, h.3, h.4))
    term_next (a.Use d) (Made t) b at next low high h =
        Calling record {
          user = record { callee = h.0; arguments = a.NoExpression; environment = site.env };
          temp = t;
          after = next;
          base = b;
          fill = λ v. v;
          found = λ v. (λ i. or_else (in_context a.Use (callee_holds_none site.env d h.0 h.3.means v i)) (user_call site.env d a.NoExpression v))
              ∙ user_call_found site.env d a.NoExpression v h.0 h.3.means;
          ready = record {
            call = h.1;
            op = h.2;
            named = d;
            calls = h.3;
            from = at;
            low = low;
            high = low;
            arguments = subst (λ ps. ArgumentsFor site K ps a.NoExpression h.1.arguments (first_parameter h.0) at at low low) (sym h.4)
                (subst (λ xs. ArgumentsFor site K [] a.NoExpression xs (first_parameter h.0) at at low low) (sym h.5) refl);
            made = refl;
            answers = h.6;
            where_is = refl;
          };
          keeps = omega arith;
          lower = h.7;
          upper = h.8;
          follows = inl refl;
          answered = λ n L k g. (refl, refl, g, h.7, h.8);
        }
    term_next (a.Use d) (Item s) b at next low high h =
        elim (place_expression_next d s (Simple b h.0 h.1 h.2) at next low high h.5) [
          | AllMade p q r ↦ AllMade p (λ v. (λ i. or_else (in_context a.Use (q v i)) (user_call site.env d a.NoExpression v)) ∙ user_call_none site.env d a.NoExpression v h.3)
              (λ z. (h.0, h.1, h.2, h.3, h.4, r z))
          | Calling N ↦ Calling (next_left site K _ (λ v. user_call site.env d a.NoExpression v) _ at low high
              (next_in site K a.Use _ _ _ at low high low high (omega arith) (omega arith) N
              (λ r. r) (λ L x after k g. (h.0, h.1, h.2, indexed_is_no_call site.env x g.1, indexed_is_no_clock x g.1, g.0))))
        ]
    term_next (a.Use (a.Plain x)) (Number n) b at next low high h =
        AllMade h.3 (λ v. user_call_none site.env (a.Plain x) a.NoExpression v h.0) (λ z. (h.0, h.1, h.2, refl))
    term_next (a.Use (a.Plain x)) Realtime b at next low high h =
        AllMade h.3 (λ v. user_call_none site.env (a.Plain x) a.NoExpression v h.0) (λ z. (h.0, h.1, h.2, refl))
    term_next (a.Call d es) (Made t) b at next low high h =
        elim (arguments_next (parameters site h.0) es h.1.arguments (first_parameter h.0) at h.2 low h.3 h.6) [
          | AllMade p q r ↦ Calling record {
            user = record { callee = h.0; arguments = es; environment = site.env };
            temp = t;
            after = next;
            base = b;
            fill = λ v. v;
            found = λ v. (λ i. or_else (in_context (a.Call d) (q v i)) (user_call site.env d es v)) ∙ user_call_found site.env d es v h.0 h.5.means;
            ready = record {
              call = h.1;
              op = ap (operation_at site.program) p ∙ h.4;
              named = d;
              calls = h.5;
              from = at;
              low = low;
              high = h.3;
              arguments = r at;
              made = q (a.Literal 0);
              answers = h.7;
              where_is = refl;
            };
            keeps = omega arith;
            lower = omega (arith, h.8, h.9);
            upper = h.10;
            follows = inl refl;
            answered = λ n L k g. (refl, refl, g, omega (arith, h.8, h.9), h.10);
          }
          | Calling N ↦ Calling (next_left site K _ (λ v. user_call site.env d es v) _ at low high
              (next_in site K (a.Call d) _ _ _ at low h.3 low high (omega arith) (omega (arith, h.9, h.10)) N
              (call_follows site h.1 t next h.2 h.3 N.temp N.after h.4 N.upper h.9) (λ L x after k g. (h.0, h.1, h.2, h.3, h.4, h.5, g, h.7, h.8, h.9, h.10))))
        ]
    term_next (a.Call (a.Plain x) (a.MoreExpressions e a.NoExpression)) (Standard f c) b at next low high h =
        elim (term_next e c h.0 at next low high h.3) [
          | AllMade p q r ↦ AllMade p
              (λ v. (λ i. or_else (in_context (a.Call (a.Plain x)) (or_else (in_context (λ y. a.MoreExpressions y a.NoExpression) (q v i)) None)) (user_call site.env (a.Plain x) (a.MoreExpressions e a.NoExpression) v))
              ∙ user_call_none site.env (a.Plain x) (a.MoreExpressions e a.NoExpression) v h.1)
              (λ z. (h.0, h.1, h.2, r z))
          | Calling N ↦ Calling (next_left site K _ (λ v. user_call site.env (a.Plain x) (a.MoreExpressions e a.NoExpression) v) _ at low high
              (next_in site K (a.Call (a.Plain x)) _ (λ L y after. (z : a.Expression) × (y ≡ a.MoreExpressions z a.NoExpression) × TermFor site L z c h.0 after next low high) _ at low high low high (omega arith) (omega arith)
              (next_left site K _ (λ v. None) _ at low high
              (next_in site K (λ y. a.MoreExpressions y a.NoExpression) _ _ _ at low high low high (omega arith) (omega arith) N (λ r. r) (λ L y after k g. (y, refl, g))))
              (λ r. r) (λ L y after k g. subst (λ z. TermFor site L (a.Call (a.Plain x) z) (Standard f c) b after next low high) (sym g.1) (h.0, h.1, h.2, g.2))))
        ]
    term_next (a.Call (a.Plain x) (a.MoreExpressions (a.Use d) a.NoExpression)) (Empty s) b at next low high h =
        elim (place_expression_next d s Queue at next low high h.5) [
          | AllMade p q r ↦ AllMade p
              (λ v. (λ i. or_else (in_context (a.Call (a.Plain x)) (or_else (in_context (λ y. a.MoreExpressions y a.NoExpression) (or_else (in_context a.Use (q v i)) (user_call site.env d a.NoExpression v))) None)) (user_call site.env (a.Plain x) (a.MoreExpressions (a.Use d) a.NoExpression) v))
              ∙ ((λ i. or_else (in_context (a.Call (a.Plain x)) (or_else (in_context (λ y. a.MoreExpressions y a.NoExpression) (user_call_none site.env d a.NoExpression v h.1 i)) None)) (user_call site.env (a.Plain x) (a.MoreExpressions (a.Use d) a.NoExpression) v))
              ∙ user_call_none site.env (a.Plain x) (a.MoreExpressions (a.Use d) a.NoExpression) v h.0))
              (λ z. (h.0, h.1, h.2, h.3, h.4, r z))
          | Calling N ↦ Calling (next_left site K _ (λ v. user_call site.env (a.Plain x) (a.MoreExpressions (a.Use d) a.NoExpression) v) _ at low high
              (next_in site K (a.Call (a.Plain x)) _ (λ L y after. (z : a.Designator) × (y ≡ a.MoreExpressions (a.Use z) a.NoExpression) × PlaceExpressionFor site L z s Queue after next low high × IsIndexed z) _ at low high low high (omega arith) (omega arith)
              (next_left site K _ (λ v. None) _ at low high
              (next_in site K (λ y. a.MoreExpressions y a.NoExpression) _ (λ L y after. (z : a.Designator) × (y ≡ a.Use z) × PlaceExpressionFor site L z s Queue after next low high × IsIndexed z) _ at low high low high (omega arith) (omega arith)
              (next_left site K _ (λ v. user_call site.env d a.NoExpression v) _ at low high
              (next_in site K a.Use _ _ _ at low high low high (omega arith) (omega arith) N (λ r. r) (λ L y after k g. (y, refl, g.0, g.1))))
              (λ r. r) (λ L y after k g. (g.0, ap (λ z. a.MoreExpressions z a.NoExpression) g.1, g.2, g.3))))
              (λ r. r) (λ L y after k g. subst (λ z. TermFor site L (a.Call (a.Plain x) z) (Empty s) b after next low high) (sym g.1)
              (h.0, indexed_is_no_call site.env g.0 g.3, indexed_is_no_clock g.0 g.3, h.3, h.4, g.2))))
        ]
    term_next (a.Not e) (Not c) b at next low high h =
        elim (term_next e c h.0 at next low high h.2) [
          | AllMade p q r ↦ AllMade p (λ v. ap (in_context a.Not) (q v)) (λ z. (h.0, h.1, r z))
          | Calling N ↦ Calling (next_in site K a.Not _ _ _ at low high low high (omega arith) (omega arith) N (λ r. r) (λ L x after k g. (h.0, h.1, g)))
        ]
    term_next (a.Negative e) (Negative c) b at next low high h =
        elim (term_next e c h.0 at next low high h.2) [
          | AllMade p q r ↦ AllMade p (λ v. ap (in_context a.Negative) (q v)) (λ z. (h.0, h.1, r z))
          | Calling N ↦ Calling (next_in site K a.Negative _ _ _ at low high low high (omega arith) (omega arith) N (λ r. r) (λ L x after k g. (h.0, h.1, g)))
        ]
    term_next (a.Positive e) c b at next low high h =
        elim (term_next e c b at next low high h) [
          | AllMade p q r ↦ AllMade p (λ v. ap (in_context a.Positive) (q v)) r
          | Calling N ↦ Calling (next_in site K a.Positive _ _ _ at low high low high (omega arith) (omega arith) N (λ r. r) (λ L x after k g. g))
        ]
    term_next (a.Binary o e f) (Binary p c d) b at next low high h =
        elim (term_next e c h.0 at h.2 low h.3 h.8) [
          | Calling N ↦ Calling (next_left site K _ (λ v. in_context (a.Binary o e) (first_call site.env v f)) _ at low high
              (next_in site K (λ y. a.Binary o y f) _ _ _ at low h.3 low high (omega arith) h.7 N
              (follows_on site K _ _ _ N.temp N.after h.2 next h.3 high N.upper (term_next f d h.1 h.2 next h.3 high h.9)) (λ L y after k g. (
                h.0,
                h.1,
                h.2,
                h.3,
                h.4,
                h.5,
                h.6,
                h.7,
                g,
                term_kept site K L f d h.1 h.2 next h.3 high (learnt_above K L N.ready.low N.temp h.3 high N.upper k) h.9,
              ))))
          | AllMade p q r ↦ elim (term_next f d h.1 h.2 next h.3 high h.9) [
            | AllMade p2 q2 r2 ↦ AllMade (p ∙ p2)
                (λ v i. or_else (in_context (λ y. a.Binary o y f) (q v i)) (in_context (a.Binary o e) (q2 v i)))
                (λ z. (h.0, h.1, z, h.3, h.4, h.5, h.6, h.7, r z, r2 z))
            | Calling N ↦ moved_to _ _ _ at h.2 next low high p (Calling (next_right site K (λ v. in_context (λ y. a.Binary o y f) (first_call site.env v e)) _ _ h.2 low high
                (λ v. ap (in_context (λ y. a.Binary o y f)) (q v))
                (next_in site K (a.Binary o e) _ _ _ h.2 h.3 high low high h.6 (omega arith) N
                (λ r. r) (λ L y after k g. (
                  h.0,
                  h.1,
                  after,
                  h.3,
                  h.4,
                  h.5,
                  h.6,
                  h.7,
                  term_kept site K L e c h.0 after after low h.3 (learnt_below K L N.ready.low N.temp low h.3 N.keeps k) (r after),
                  g,
                )))))
          ]
        ]
    term_next _ _ b at next low high h = absurd h

    pub place_expression_next : (d : a.Designator) (s : PlaceExpression) (t : ResolvedType) (at next low high : ℕ) → PlaceExpressionFor site K d s t at next low high
        → PlaceExpressionAdvances d s t at next low high
    place_expression_next (a.Plain x) (Rooted r) t at next low high h = AllMade h.0 (λ v. refl) (λ z. (refl, h.1))
    place_expression_next (a.Part d x) s t at next low high h =
        elim (place_expression_next d h.2 (RecordOf h.0) at next low high h.5) [
          | AllMade p q r ↦ AllMade p (λ v. ap (in_context (λ y. a.Part y x)) (q v)) (λ z. (h.0, h.1, h.2, h.3, h.4, r z))
          | Calling N ↦ Calling (next_in site K (λ y. a.Part y x) _ _ _ at low high low high (omega arith) (omega arith) N
              (λ r. r) (λ L y after k g. ((h.0, h.1, h.2, h.3, h.4, g.0), g.1)))
        ]
    place_expression_next (a.At d e) (Element of lower upper words plus i) t at next low high h =
        elim (place_expression_next d of (ArrayOf lower upper t) at h.1 low h.2 h.7) [
          | Calling N ↦ Calling (next_left site K _ (λ v. in_context (a.At d) (first_call site.env v e)) _ at low high
              (next_in site K (λ y. a.At y e) _ _ _ at low h.2 low high (omega arith) h.6 N
              (follows_on site K _ _ _ N.temp N.after h.1 next h.2 high N.upper (term_next e i h.0 h.1 next h.2 high h.8)) (λ L y after k g. (
                (
                  h.0,
                  h.1,
                  h.2,
                  h.3,
                  h.4,
                  h.5,
                  h.6,
                  g.0,
                  term_kept site K L e i h.0 h.1 next h.2 high (learnt_above K L N.ready.low N.temp h.2 high N.upper k) h.8,
                ),
                tt,
              ))))
          | AllMade p q r ↦ elim (term_next e i h.0 h.1 next h.2 high h.8) [
            | AllMade p2 q2 r2 ↦ AllMade (p ∙ p2)
                (λ v j. or_else (in_context (λ y. a.At y e) (q v j)) (in_context (a.At d) (q2 v j)))
                (λ z. (h.0, z, h.2, h.3, h.4, h.5, h.6, r z, r2 z))
            | Calling N ↦ moved_to _ _ _ at h.1 next low high p (Calling (next_right site K (λ v. in_context (λ y. a.At y e) (call_in_designator site.env v d)) _ _ h.1 low high
                (λ v. ap (in_context (λ y. a.At y e)) (q v))
                (next_in site K (a.At d) _ _ _ h.1 h.2 high low high h.5 (omega arith) N
                (λ r. r) (λ L y after k g. (
                  (
                    h.0,
                    after,
                    h.2,
                    h.3,
                    h.4,
                    h.5,
                    h.6,
                    place_expression_kept site K L d of (ArrayOf lower upper t) after after low h.2 (learnt_below K L N.ready.low N.temp low h.2 N.keeps k) (r after),
                    g,
                  ),
                  tt,
                )))))
          ]
        ]
    place_expression_next _ _ t at next low high h = absurd h

    pub arguments_next : (ps : List (Name × declared.Variable)) (es : a.Expressions) (xs : List Argument) (to at next low high : ℕ)
        → ArgumentsFor site K ps es xs to at next low high → ArgumentsAdvance ps es xs to at next low high
    arguments_next [] a.NoExpression [] to at next low high h = AllMade h (λ v. refl) (λ z. refl)
    arguments_next (p ∷ ps) (a.MoreExpressions e es) (Value place lower upper c ∷ xs) to at next low high h =
        elim (term_next e c h.0 at h.2 low h.3 h.9) [
          | Calling N ↦ Calling (next_left site K _ (λ v. in_context (a.MoreExpressions e) (call_in_arguments site.env v es)) _ at low high
              (next_in site K (λ y. a.MoreExpressions y es) _ _ _ at low h.3 low high (omega arith) h.8 N
              (follows_on site K _ _ _ N.temp N.after h.2 next h.3 high N.upper (arguments_next ps es xs (to + local_words site.env.globals p.1) h.2 next h.3 high h.10)) (λ L y after k g. (
                h.0,
                h.1,
                h.2,
                h.3,
                h.4,
                h.5,
                h.6,
                h.7,
                h.8,
                g,
                arguments_kept site K L ps es xs (to + local_words site.env.globals p.1) h.2 next h.3 high (learnt_above K L N.ready.low N.temp h.3 high N.upper k) h.10,
              ))))
          | AllMade m q r ↦ elim (arguments_next ps es xs (to + local_words site.env.globals p.1) h.2 next h.3 high h.10) [
            | AllMade m2 q2 r2 ↦ AllMade (m ∙ m2)
                (λ v i. or_else (in_context (λ y. a.MoreExpressions y es) (q v i)) (in_context (a.MoreExpressions e) (q2 v i)))
                (λ z. (h.0, h.1, z, h.3, h.4, h.5, h.6, h.7, h.8, r z, r2 z))
            | Calling N ↦ moved_to _ _ _ at h.2 next low high m (Calling (next_right site K (λ v. in_context (λ y. a.MoreExpressions y es) (first_call site.env v e)) _ _ h.2 low high
                (λ v. ap (in_context (λ y. a.MoreExpressions y es)) (q v))
                (next_in site K (a.MoreExpressions e) _ _ _ h.2 h.3 high low high h.7 (omega arith) N
                (λ r. r) (λ L y after k g. (
                  h.0,
                  h.1,
                  after,
                  h.3,
                  h.4,
                  h.5,
                  h.6,
                  h.7,
                  h.8,
                  term_kept site K L e c h.0 after after low h.3 (learnt_below K L N.ready.low N.temp low h.3 N.keeps k) (r after),
                  g,
                )))))
          ]
        ]
    arguments_next (p ∷ ps) (a.MoreExpressions (a.Use d) es) (Copy place words from ∷ xs) to at next low high h =
        elim (place_expression_next d from p.1.type at h.0 low h.1 h.10) [
          | Calling N ↦ Calling (next_left site K _ (λ v. in_context (a.MoreExpressions (a.Use d)) (call_in_arguments site.env v es)) _ at low high
              (next_in site K (λ y. a.MoreExpressions y es) _ (λ L y after. (z : a.Designator) × (y ≡ a.Use z) × PlaceExpressionFor site L z from p.1.type after h.0 low h.1 × IsIndexed z) _ at low h.1 low high (omega arith) h.9
              (next_left site K _ (λ v. user_call site.env d a.NoExpression v) _ at low h.1
              (next_in site K a.Use _ _ _ at low h.1 low h.1 (omega arith) (omega arith) N (λ r. r) (λ L y after k g. (y, refl, g.0, g.1))))
              (follows_on site K _ _ _ N.temp N.after h.0 next h.1 high N.upper (arguments_next ps es xs (to + local_words site.env.globals p.1) h.0 next h.1 high h.11)) (λ L y after k g. subst (λ z. ArgumentsFor site L (p ∷ ps) (a.MoreExpressions z es) (Copy place words from ∷ xs) to after next low high) (sym g.1) (
                h.0,
                h.1,
                h.2,
                h.3,
                h.4,
                h.5,
                indexed_is_no_call site.env g.0 g.3,
                indexed_is_no_clock g.0 g.3,
                h.8,
                h.9,
                g.2,
                arguments_kept site K L ps es xs (to + local_words site.env.globals p.1) h.0 next h.1 high (learnt_above K L N.ready.low N.temp h.1 high N.upper k) h.11,
              ))))
          | AllMade m q r ↦ elim (arguments_next ps es xs (to + local_words site.env.globals p.1) h.0 next h.1 high h.11) [
            | AllMade m2 q2 r2 ↦ AllMade (m ∙ m2)
                (λ v. (λ i. or_else (in_context (λ y. a.MoreExpressions y es) (or_else (in_context a.Use (q v i)) (user_call site.env d a.NoExpression v))) (in_context (a.MoreExpressions (a.Use d)) (q2 v i)))
                ∙ ap (λ z. or_else (in_context (λ y. a.MoreExpressions y es) z) None) (user_call_none site.env d a.NoExpression v h.6))
                (λ z. (z, h.1, h.2, h.3, h.4, h.5, h.6, h.7, h.8, h.9, r z, r2 z))
            | Calling N ↦ moved_to _ _ _ at h.0 next low high m (Calling (next_right site K (λ v. in_context (λ y. a.MoreExpressions y es) (first_call site.env v (a.Use d))) _ _ h.0 low high
                (λ v. ap (λ z. in_context (λ y. a.MoreExpressions y es) (or_else (in_context a.Use z) (user_call site.env d a.NoExpression v))) (q v)
                ∙ ap (in_context (λ y. a.MoreExpressions y es)) (user_call_none site.env d a.NoExpression v h.6))
                (next_in site K (a.MoreExpressions (a.Use d)) _ _ _ h.0 h.1 high low high h.8 (omega arith) N
                (λ r. r) (λ L y after k g. (
                  after,
                  h.1,
                  h.2,
                  h.3,
                  h.4,
                  h.5,
                  h.6,
                  h.7,
                  h.8,
                  h.9,
                  place_expression_kept site K L d from p.1.type after after low h.1 (learnt_below K L N.ready.low N.temp low h.1 N.keeps k) (r after),
                  g,
                )))))
          ]
        ]
    arguments_next (p ∷ ps) (a.MoreExpressions (a.Use d) es) (Reference place s ∷ xs) to at next low high h =
        elim (place_expression_next d s p.1.type at h.0 low h.1 h.7) [
          | Calling N ↦ Calling (next_left site K _ (λ v. in_context (a.MoreExpressions (a.Use d)) (call_in_arguments site.env v es)) _ at low high
              (next_in site K (λ y. a.MoreExpressions y es) _ (λ L y after. (z : a.Designator) × (y ≡ a.Use z) × PlaceExpressionFor site L z s p.1.type after h.0 low h.1 × IsIndexed z) _ at low h.1 low high (omega arith) h.6
              (next_left site K _ (λ v. user_call site.env d a.NoExpression v) _ at low h.1
              (next_in site K a.Use _ _ _ at low h.1 low h.1 (omega arith) (omega arith) N (λ r. r) (λ L y after k g. (y, refl, g.0, g.1))))
              (follows_on site K _ _ _ N.temp N.after h.0 next h.1 high N.upper (arguments_next ps es xs (to + local_words site.env.globals p.1) h.0 next h.1 high h.8)) (λ L y after k g. subst (λ z. ArgumentsFor site L (p ∷ ps) (a.MoreExpressions z es) (Reference place s ∷ xs) to after next low high) (sym g.1) (
                h.0,
                h.1,
                h.2,
                h.3,
                indexed_is_no_call site.env g.0 g.3,
                h.5,
                h.6,
                g.2,
                arguments_kept site K L ps es xs (to + local_words site.env.globals p.1) h.0 next h.1 high (learnt_above K L N.ready.low N.temp h.1 high N.upper k) h.8,
              ))))
          | AllMade m q r ↦ elim (arguments_next ps es xs (to + local_words site.env.globals p.1) h.0 next h.1 high h.8) [
            | AllMade m2 q2 r2 ↦ AllMade (m ∙ m2)
                (λ v. (λ i. or_else (in_context (λ y. a.MoreExpressions y es) (or_else (in_context a.Use (q v i)) (user_call site.env d a.NoExpression v))) (in_context (a.MoreExpressions (a.Use d)) (q2 v i)))
                ∙ ap (λ z. or_else (in_context (λ y. a.MoreExpressions y es) z) None) (user_call_none site.env d a.NoExpression v h.4))
                (λ z. (z, h.1, h.2, h.3, h.4, h.5, h.6, r z, r2 z))
            | Calling N ↦ moved_to _ _ _ at h.0 next low high m (Calling (next_right site K (λ v. in_context (λ y. a.MoreExpressions y es) (first_call site.env v (a.Use d))) _ _ h.0 low high
                (λ v. ap (λ z. in_context (λ y. a.MoreExpressions y es) (or_else (in_context a.Use z) (user_call site.env d a.NoExpression v))) (q v)
                ∙ ap (in_context (λ y. a.MoreExpressions y es)) (user_call_none site.env d a.NoExpression v h.4))
                (next_in site K (a.MoreExpressions (a.Use d)) _ _ _ h.0 h.1 high low high h.5 (omega arith) N
                (λ r. r) (λ L y after k g. (
                  after,
                  h.1,
                  h.2,
                  h.3,
                  h.4,
                  h.5,
                  h.6,
                  place_expression_kept site K L d s p.1.type after after low h.1 (learnt_below K L N.ready.low N.temp low h.1 N.keeps k) (r after),
                  g,
                )))))
          ]
        ]
    arguments_next _ _ _ to at next low high h = absurd h
