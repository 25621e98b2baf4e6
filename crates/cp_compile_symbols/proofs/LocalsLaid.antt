-- Parameters and variables are laid out one after another.
use Rattle.std.proofs.Common.{◌≡◌, ◌+◌, ◌∷◌, Bool, true, false, ℕ, List, [], Option, None, Some, arith, refl, subst, sym, if◌then◌else◌}
use Rattle.std.specs.Str.{bytes_eq}
use Rattle.cp_model.specs.Abstract.{Name}
use Rattle.cp_model.specs.Declarations.{Variable}
use Rattle.cp_model.specs.Names.{lookup}
use Rattle.cp_model.specs.Types.{GlobalScope}
use Rattle.cp_model_program.specs.Layout.{local_at, local_words, locals_words}
use Rattle.cp_compile_symbols.specs.declared.locals.Local.{Local}
use Rattle.cp_compile_symbols.specs.declared.locals.Locals.{Locals}
use Rattle.cp_compile_symbols.specs.declared.types.Types.{Types}
use Rattle.cp_compile_symbols.specs.Layouts.{Counts}
use Rattle.cp_compile_symbols.specs.Locals.{LocalIs, LocalsLie}
use Rattle.cp_compile_symbols.specs.Representing.{Represents}
use Rattle.cp_compile_symbols.specs.Tables.{Behind, or_last}
use Rattle.cp_compile_symbols.specs.Variables.{AreDeclared, Entry}

-- Where a variable is: as recorded if it is laid out already, and otherwise among those that
-- remain.
abbrev pub LocalFound : Types → Option Local → Option (ℕ × Variable) → Option (ℕ × Variable) → Type 0
LocalFound types None wanted left = wanted ≡ left
LocalFound types (Some p) wanted left = LocalIs types (Some p) wanted

-- The remaining variables are after those that are laid out.
pub record PartlyLaid (g : GlobalScope) (types : Types) (at : ℕ) (vs : List (Name × Variable)) (left : List Entry) (l : Locals) : Type 0 where
  pub here : ℕ
  pub others : List (Name × Variable)
  pub represent : AreDeclared types left others
  pub counts : Counts l.words here
  pub words : here + locals_words g others ≡ at + locals_words g vs
  pub names : (x : Name) → LocalFound types (lookup x l.names) (local_at g at vs x) (local_at g here others x)

pub all_laid : (g : GlobalScope) (types : Types) (at : ℕ) (vs : List (Name × Variable)) (left : List Entry) (l : Locals) → left ≡ []
    → PartlyLaid g types at vs left l → LocalsLie g types at vs l
all_laid g types at vs left l none partly = go partly.others (subst (λ fs. AreDeclared types fs partly.others) none partly.represent) partly.words partly.names
  where
    go : (others : List (Name × Variable)) → AreDeclared types [] others → partly.here + locals_words g others ≡ at + locals_words g vs
        → ((x : Name) → LocalFound types (lookup x l.names) (local_at g at vs x) (local_at g partly.here others x)) → LocalsLie g types at vs l
    go (v ∷ rest) represent words names = absurd represent
    go [] represent words names = record {
      words = subst (Counts l.words) (omega (arith, words)) partly.counts;
      names = λ x. found (lookup x l.names) _ (names x);
    }
      where
        found : (p : Option Local) (q : Option (ℕ × Variable)) → LocalFound types p q None → LocalIs types p q
        found None q h = subst (LocalIs types None) (sym h) tt
        found (Some p) q h = h

pub none_laid : (g : GlobalScope) (types : Types) (at : ℕ) (vs : List (Name × Variable)) (fs : List Entry) (l : Locals) → l.names ≡ [] → Counts l.words at
    → AreDeclared types fs vs → PartlyLaid g types at vs fs l
none_laid g types at vs fs l none counts represent = record {
  here = at;
  others = vs;
  represent = represent;
  counts = counts;
  words = refl;
  names = λ x. rw none refl;
}

-- One variable more.
pub one_laid : (g : GlobalScope) (types : Types) (at : ℕ) (vs : List (Name × Variable)) (d : Entry) (fs : List Entry) (l m : Locals) (p : Local) (size : Option ℕ)
    → ((v : Variable) → d.1.0 ≡ v.by_reference → Represents types d.1.1 v.type → Counts size (local_words g v))
    → ((i j : ℕ) → Counts l.words i → Counts size j → Counts m.words (i + j))
    → p.at ≡ l.words → p.by_reference ≡ d.1.0 → p.of ≡ d.1.1 → Behind d.0 p l.names m.names → PartlyLaid g types at vs (d ∷ fs) l → PartlyLaid g types at vs fs m
one_laid g types at vs d fs l m p size sized added at_is way_is of_is behind partly = go partly.others partly.represent partly.words partly.names
  where
    go : (others : List (Name × Variable)) → AreDeclared types (d ∷ fs) others → partly.here + locals_words g others ≡ at + locals_words g vs
        → ((z : Name) → LocalFound types (lookup z l.names) (local_at g at vs z) (local_at g partly.here others z)) → PartlyLaid g types at vs fs m
    go [] represent total names = absurd represent
    go (v ∷ rest) represent total names = record {
      here = partly.here + local_words g v.1;
      others = rest;
      represent = represent.3;
      counts = added partly.here (local_words g v.1) partly.counts (sized v.1 represent.1 represent.2);
      words = omega (arith, total);
      names = λ z.
          subst (λ o. LocalFound types o (local_at g at vs z) (local_at g (partly.here + local_words g v.1) rest z)) (sym (behind z))
          (found z (lookup z l.names) (bytes_eq z d.0) (subst (λ w. LocalFound types (lookup z l.names) (local_at g at vs z)
          (if bytes_eq z w then Some (partly.here, v.1) else local_at g (partly.here + local_words g v.1) rest z)) (sym represent.0) (names z)));
    }
      where
        is_local : Counts p.at partly.here × (p.by_reference ≡ v.1.by_reference) × Represents types p.of v.1.type
        is_local = (subst (λ o. Counts o partly.here) (sym at_is) partly.counts, rw way_is represent.1, subst (λ k. Represents types k v.1.type) (sym of_is) represent.2)

        found : (z : Name) (o : Option Local) (b : Bool)
            → LocalFound types o (local_at g at vs z) (if b then Some (partly.here, v.1) else local_at g (partly.here + local_words g v.1) rest z)
            → LocalFound types (or_last o b p) (local_at g at vs z) (local_at g (partly.here + local_words g v.1) rest z)
        found z (Some q) b h = h
        found z None true h = subst (LocalIs types (Some p)) (sym h) is_local
        found z None false h = h
