-- What explains a text is about it.
use Rattle.std.proofs.Common.{ℕ, List, Option, None, Some}
use Rattle.cp_frontend.specs.declared.refusal.Refusal.{Refusal}
use Rattle.cp_explain.specs.Explained.{Explains, IsOfText}
use Rattle.cp_explain.specs.Objects.{IsObjectOf}

pub of_page : (file text : List ℕ) (e : Option Refusal) (page : List ℕ) → Explains file text e page → IsOfText e
of_page file text None page h = tt
of_page file text (Some e) page h = h.0.1

pub of_object : (text : List ℕ) (e : Option Refusal) (page : List ℕ) → IsObjectOf text e page → IsOfText e
of_object text None page h = tt
of_object text (Some e) page h = h.0.1
