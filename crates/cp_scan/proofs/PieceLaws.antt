-- The piece at the front of a text is the one that the definition has there. If there is none, its
-- cause holds there.
use Rattle.std.proofs.Common.{◌≡◌, ℕ, List, ◌∷◌, ◌++◌, length, Option, Some, None, Ok, inl, inr}
use Rattle.cp_model.specs.Characters.{is_blank, is_digit, is_letter, is_quote, is_apostrophe}
use Rattle.cp_model.specs.Spelling.{IsPiece}
use Rattle.cp_model.specs.Tokens.{Kind}
use Rattle.cp_model.specs.Tokens as kind
use Rattle.cp_scan.specs.Pieces.{piece}
use Rattle.cp_scan.proofs.CharacterLaws.{character_again, character_holds}
use Rattle.cp_scan.proofs.Fronts.{front, Holds, by_test}
use Rattle.cp_scan.proofs.MarkLaws.{mark_again, mark_holds}
use Rattle.cp_scan.proofs.NumberLaws.{number_again, number_holds}
use Rattle.cp_scan.proofs.SeparatorLaws.{separator_again, blank_holds, comment_holds}
use Rattle.cp_scan.proofs.WordLaws.{word_again, word_holds}

pub piece_again : (k : Option Kind) (bytes rest : List ℕ) → IsPiece k bytes rest → front (bytes ++ rest) ≡ Ok (k, length bytes)
piece_again None bytes rest h = separator_again bytes rest h
piece_again (Some (kind.Number n)) bytes rest h = number_again n bytes rest h
piece_again (Some (kind.Character n)) bytes rest h = character_again n bytes rest h
piece_again (Some (kind.Name letters)) bytes rest h = word_again (kind.Name letters) bytes rest h
piece_again (Some (kind.Symbol x)) bytes rest (inl word) = word_again (kind.Symbol x) bytes rest word
piece_again (Some (kind.Symbol x)) bytes rest (inr mark) = mark_again x bytes rest mark.0 mark.1

pub piece_holds : (b : ℕ) (rest : List ℕ) → Holds (b ∷ rest) (piece b rest)
unfolding piece
piece_holds b rest =
    by_test (b ∷ rest) (is_blank b) _ _ (blank_holds b rest) (λ no_blank.
    by_test (b ∷ rest) (is_quote b) _ _ (comment_holds b rest) (λ no_quote.
    by_test (b ∷ rest) (is_apostrophe b) _ _ (character_holds b rest) (λ no_apostrophe.
    by_test (b ∷ rest) (is_digit b) _ _ (number_holds b rest) (λ no_digit.
    by_test (b ∷ rest) (is_letter b) _ _ (word_holds b rest) (λ no_letter.
    mark_holds b rest no_blank no_quote no_apostrophe no_digit no_letter)))))
