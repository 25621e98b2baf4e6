-- A variable with parts is entered.
use Rattle.std.proofs.Common.{◌≡◌, ℕ, ◌+◌, ◌*◌, ℤ, [], ◌∷◌, ◌++◌, length, map, Option, Some, None, refl, ap, sym, subst, ◌∙◌, arith}
use Rattle.std.specs.Prelude.{Vec}
use Rattle.std.specs.Borrow.{Bor}
use Rattle.std.specs.Global.{Global}
use Rattle.cp_model.specs.Abstract as a
use Rattle.cp_model.specs.Abstract.{Class, Monitor, Process}
use Rattle.cp_model.specs.Erase as erase
use Rattle.cp_model.specs.Integers.{count_between}
use Rattle.cp_model.specs.Leaves.{integers_from}
use Rattle.cp_model.specs.Report.{Text}
use Rattle.cp_model.specs.Types.{ArrayOf, GlobalScope}
use Rattle.cp_model.specs.View as view
use Rattle.cp_model.specs.declared.tree.System.{System}
use Rattle.cp_law_typing.specs.Words.{component_words, rights_in, words, words_of_members}
use Rattle.cp_model_program.specs.Layout.{head_words}
use Rattle.cp_model_machine.specs.Reports.{Visit, of_class_text, visit_members, visit_type}
use Rattle.cp_compile_symbols.specs.Representing.{ScopeRepresents, entry, row_at, system_at}
use Rattle.cp_compile_symbols.specs.declared.tables.Tables.{Tables}
use Rattle.cp_compile_symbols.specs.declared.types.Field.{Field}
use Rattle.cp_compile_symbols.specs.declared.types.TypeRow.TheVariants as row
use Rattle.cp_inspect.specs.Remaining.{ElementsRemaining, MembersRemaining, left_text, left_words}
use Rattle.cp_inspect.specs.Walks.{Enters, Advances, HeadIs, HeadOf, cursor, members_in}
use Rattle.cp_inspect.specs.declared.walk.Walk.{Walk}
use Rattle.cp_inspect.proofs.Going.{length_counted, opened}
use Rattle.cp_inspect.proofs.Rows.{IsComponent, array_is, component_is, record_is}

no_more : (n : ℕ) → n + 0 ≡ n
no_more n = omega arith

join : (a b d : ℕ) → a + (b + d) ≡ a + b + d
join a b d = omega arith

module _ (tables : Tables) (v : Visit) (n : ℕ) (old new : Walk) (out after : Text) (same : after ≡ out) where
  pub array_enters : (low high : ℤ) (e : ℕ) → row_at tables.types n ≡ Some (row.Array low high e) → new.stack.items ≡ old.stack.items ++ cursor n 0 (length old.path.items) ∷ []
      → new.path.items ≡ old.path.items → new.at ≡ old.at → Enters tables v n old new out after
  array_enters low high e there stack path at g t p rest scope represents named text was =
      let A = array_is tables.types n t low high e there represents in
      let is = integers_from low (count_between low high) in
      let long = length_counted (count_between low high) low in
      let size = ap (words g) A.is in
      opened g v tables.types old new n (ElementsRemaining p is A.of) rest out after (visit_type g v p old.at t ++ left_text g v rest (old.at + words g t)) 0 (old.at + words g t + left_words g rest)
      stack path (at ∙ sym (no_more old.at)) same (low, high, e, there, A.element, refl) named text was
      ((λ i. visit_type g v p (no_more old.at i) (ArrayOf low high A.of) ++ left_text g v rest (no_more old.at i + long i * words g A.of))
      ∙ (λ i. visit_type g v p old.at (sym A.is i) ++ left_text g v rest (old.at + words g (sym A.is i))))
      ((λ i. no_more old.at i + (long i * words g A.of + left_words g rest)) ∙ (join old.at (words g (ArrayOf low high A.of)) (left_words g rest) ∙ ap (λ k. old.at + k + left_words g rest) (sym size)))

  pub record_enters : (fields : Vec Field Global) → row_at tables.types n ≡ Some (row.Record fields) → new.stack.items ≡ old.stack.items ++ cursor n 0 (length old.path.items) ∷ []
      → new.path.items ≡ old.path.items → new.at ≡ old.at → Enters tables v n old new out after
  record_enters fields there stack path at g t p rest scope represents named text was =
      let R = record_is tables.types n t fields there represents in
      let size = ap (words g) R.is in
      opened g v tables.types old new n (MembersRemaining p R.members) rest out after (visit_type g v p old.at t ++ left_text g v rest (old.at + words g t)) 0 (old.at + words g t + left_words g rest)
      stack path (at ∙ sym (no_more old.at)) same (map entry fields.items, ap members_in there, R.represent) named text was
      ((λ i. visit_members g v p (no_more old.at i) R.members ++ left_text g v rest (no_more old.at i + words_of_members g R.members))
      ∙ (λ i. visit_type g v p old.at (sym R.is i) ++ left_text g v rest (old.at + words g (sym R.is i))))
      ((λ i. no_more old.at i + (words_of_members g R.members + left_words g rest)) ∙ (join old.at (words_of_members g R.members) (left_words g rest) ∙ ap (λ k. old.at + k + left_words g rest) (sym size)))

  abbrev Heads : ℕ → Option ℕ → Type 0
  Heads k head =
      (g : GlobalScope) (y : Bor System) → ScopeRepresents tables.names tables.types g → system_at tables.types k ≡ Some y → HeadIs g (erase.system (view.system y.now)) head

  -- A class, whose members come after its head.
  pub class_enters : (k head : ℕ) (members : Vec Field Global) → row_at tables.types n ≡ Some (row.Component k members) → Heads k (Some head)
      → new.stack.items ≡ old.stack.items ++ cursor n 0 (length old.path.items) ∷ [] → new.path.items ≡ old.path.items → new.at ≡ old.at + head → Enters tables v n old new out after
  class_enters k head members there heads stack path at g t p rest scope represents named text was =
      let C = component_is tables.types n t k members there represents in
      by (component_is tables.types n t k members there represents) (erase.system (view.system C.system.now)).sort refl (heads g C.system scope C.there)
    where
      by : (C : IsComponent tables.types k (map entry members.items) t) (z : a.Sort) → (erase.system (view.system C.system.now)).sort ≡ z → HeadOf g (erase.system (view.system C.system.now)) z (Some head)
          → Advances g v tables.types new after (out ++ (visit_type g v p old.at t ++ left_text g v rest (old.at + words g t))) (old.at + words g t + left_words g rest)
      by C Monitor sort h = absurd (nothing h)
        where
          nothing : Some head ≡ None → ⊥
          nothing e = cc
      by C Process sort h = absurd (nothing h)
        where
          nothing : Some head ≡ None → ⊥
          nothing e = cc
      by C Class sort h =
          let s = erase.system (view.system C.system.now) in
          let ms = C.members in
          let front : head ≡ head_words g s = ap (λ o. elim o [ None ↦ head | Some m ↦ m ]) h in
          let all : old.at + head_words g s + words_of_members g ms ≡ old.at + (1 + rights_in g s + words_of_members g ms) = omega arith in
          opened g v tables.types old new n (MembersRemaining p ms) rest out after (visit_type g v p old.at t ++ left_text g v rest (old.at + words g t)) head (old.at + words g t + left_words g rest)
          stack path at same (map entry members.items, ap members_in there, C.represent) named text was
          ((λ i. visit_members g v p (old.at + front i) ms ++ left_text g v rest (old.at + front i + words_of_members g ms))
          ∙ ((λ i. visit_members g v p (old.at + head_words g s) ms ++ left_text g v rest (all i))
          ∙ ((λ i. of_class_text (sym sort i) (visit_members g v p (old.at + head_words g s) ms) ++ left_text g v rest (old.at + component_words (sym sort i) (1 + rights_in g s + words_of_members g ms)))
          ∙ (λ i. visit_type g v p old.at (sym C.is i) ++ left_text g v rest (old.at + words g (sym C.is i))))))
          ((λ i. old.at + front i + (words_of_members g ms + left_words g rest))
          ∙ (join (old.at + head_words g s) (words_of_members g ms) (left_words g rest)
          ∙ ((λ i. all i + left_words g rest)
          ∙ ((λ i. old.at + component_words (sym sort i) (1 + rights_in g s + words_of_members g ms) + left_words g rest) ∙ (λ i. old.at + words g (sym C.is i) + left_words g rest)))))

  -- A process or monitor has its words elsewhere.
  pub elsewhere_enters : (k : ℕ) (members : Vec Field Global) → row_at tables.types n ≡ Some (row.Component k members) → Heads k None → Enters tables v n old old out out
  elsewhere_enters k members there heads g t p rest scope represents named text was =
      let C = component_is tables.types n t k members there represents in
      by (component_is tables.types n t k members there represents) (erase.system (view.system C.system.now)).sort refl (heads g C.system scope C.there)
    where
      goes : (z : a.Sort) (x : Text) (w : ℕ) → of_class_text z x ≡ [] → component_words z w ≡ 0
          → Advances g v tables.types old out (out ++ (of_class_text z x ++ left_text g v rest (old.at + component_words z w))) (old.at + component_words z w + left_words g rest)
      goes z x w none empty = record {
        left = rest;
        represents = was;
        text_is = ap (λ y. out ++ y) ((λ i. left_text g v rest (sym (no_more old.at) i)) ∙ (λ i. sym none i ++ left_text g v rest (old.at + sym empty i)));
        place = (λ i. sym (no_more old.at) i + left_words g rest) ∙ (λ i. old.at + sym empty i + left_words g rest);
      }

      whole : (C : IsComponent tables.types k (map entry members.items) t) (z : a.Sort) → (erase.system (view.system C.system.now)).sort ≡ z
          → ((x : Text) → of_class_text z x ≡ []) → ((w : ℕ) → component_words z w ≡ 0)
          → Advances g v tables.types old out (out ++ (visit_type g v p old.at t ++ left_text g v rest (old.at + words g t))) (old.at + words g t + left_words g rest)
      whole C z sort none empty =
          let s = erase.system (view.system C.system.now) in
          let x = visit_members g v p (old.at + head_words g s) C.members in
          let w = 1 + rights_in g s + words_of_members g C.members in
          subst (λ y. Advances g v tables.types old out (out ++ (visit_type g v p old.at y ++ left_text g v rest (old.at + words g y))) (old.at + words g y + left_words g rest)) (sym C.is)
          (subst (λ y. Advances g v tables.types old out (out ++ (of_class_text y x ++ left_text g v rest (old.at + component_words y w))) (old.at + component_words y w + left_words g rest)) (sym sort)
          (goes z x w (none x) (empty w)))

      by : (C : IsComponent tables.types k (map entry members.items) t) (z : a.Sort) → (erase.system (view.system C.system.now)).sort ≡ z → HeadOf g (erase.system (view.system C.system.now)) z None
          → Advances g v tables.types old out (out ++ (visit_type g v p old.at t ++ left_text g v rest (old.at + words g t))) (old.at + words g t + left_words g rest)
      by C Monitor sort h = whole C Monitor sort (λ x. refl) (λ w. refl)
      by C Process sort h = whole C Process sort (λ x. refl) (λ w. refl)
      by C Class sort h = absurd (nothing h)
        where
          nothing : None ≡ Some (head_words g (erase.system (view.system C.system.now))) → ⊥
          nothing e = cc
