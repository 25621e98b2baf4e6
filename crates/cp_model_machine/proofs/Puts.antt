-- Writes one after another, with names that differ.
use Rattle.std.proofs.Common.{◌≡◌, [], ◌∷◌, ◌++◌, Bool, true, false, refl, ap, sym, ◌∙◌}
use Rattle.std.proofs.lemmas.Bool.{true≢false}
use Rattle.std.specs.Str.{bytes_eq}
use Rattle.cp_model.specs.Abstract.{Name}
use Rattle.cp_model.specs.Stores.{Store, Writes, put, put_all}
use Rattle.cp_law_typing.proofs.Names.{bytes_eq-refl, bytes_same}

pub put_all_two : (ws us : Writes) (st : Store) → put_all (ws ++ us) st ≡ put_all us (put_all ws st)
put_all_two [] us st = refl
put_all_two (w ∷ ws) us st = put_all_two ws us (put w.0 w.1 st)

pub bytes_eq_turned : (x y : Name) → bytes_eq x y ≡ false → bytes_eq y x ≡ false
bytes_eq_turned x y h = by (bytes_eq y x) refl
  where
    by : (b : Bool) → bytes_eq y x ≡ b → b ≡ false
    by true e = absurd (true≢false (sym (ap (λ z. bytes_eq z y) (sym (bytes_same y x e)) ∙ bytes_eq-refl y) ∙ h))
    by false e = refl
