-- What a name means.
use Rattle.std.proofs.Common.{◌≡◌, ◌+◌, ◌++◌, ◌∙◌, ℕ, zero, suc, true, false, List, [], ◌∷◌, None, Some, length, ap, sym, arith}
use Rattle.std.specs.List.{range_with_len}
use Rattle.std.specs.Option.{option_or}
use Rattle.std.specs.Prelude.{codes, if◌then◌else◌, option_map}
use Rattle.cp_model.specs.Abstract.{Name}
use Rattle.cp_inspect.specs.Names.{is_same_name, process_named}
use Rattle.cp_cli_inputs.specs.Numbers.{numbers_meant}

pub range_more : (a n : ℕ) → range_with_len a (suc n) ≡ range_with_len a n ++ (a + n) ∷ []
range_more a zero = let e : a ≡ a + 0 = omega arith in ap (λ k. k ∷ []) e
range_more a (suc n) =
    let e : a + 1 + n ≡ a + suc n = omega arith in
    ap (λ ks. a ∷ ks) (range_more (a + 1) n) ∙ ap (λ k. a ∷ (range_with_len (a + 1) n ++ k ∷ [])) e

pub meant_one : (x : Name) (processes : List Name) (p : ℕ) → process_named x processes ≡ Some p → numbers_meant x processes ≡ Some (p ∷ [])
meant_one x processes p is =
    ap (λ o. option_or (option_map (λ q. q ∷ []) o) (if is_same_name x (codes "all") then Some (range_with_len 1 (length processes + 1)) else None)) is

pub meant_all : (x : Name) (processes : List Name) → process_named x processes ≡ None → is_same_name x (codes "all") ≡ true
    → numbers_meant x processes ≡ Some (range_with_len 1 (length processes + 1))
meant_all x processes none is =
    ap (λ o. option_or (option_map (λ q. q ∷ []) o) (if is_same_name x (codes "all") then Some (range_with_len 1 (length processes + 1)) else None)) none
    ∙ ap (λ b. if b then Some (range_with_len 1 (length processes + 1)) else None) is

pub meant_none : (x : Name) (processes : List Name) → process_named x processes ≡ None → is_same_name x (codes "all") ≡ false → numbers_meant x processes ≡ None
meant_none x processes none is =
    ap (λ o. option_or (option_map (λ q. q ∷ []) o) (if is_same_name x (codes "all") then Some (range_with_len 1 (length processes + 1)) else None)) none
    ∙ ap (λ b. if b then Some (range_with_len 1 (length processes + 1)) else None) is
