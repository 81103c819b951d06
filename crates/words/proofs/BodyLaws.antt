-- Laws of the words of a body, put piece by piece.
use Rattle.std.proofs.Common.{◌≡◌, refl, ap, ◌∙◌, [], ◌∷◌, ℕ, zero, suc, ◌+◌, ◌*◌, arith, length, length-append}
use Rattle.terms.specs.declared.Body.{Body}
use Rattle.words.specs.Lengths.{transaction_length, body_length}
use Rattle.words.specs.Bodies.{used_of, triple_words, used_words, body_words}

module _ (b : Body) where
  pub length_used : (n : ℕ) → length (used_words b n) ≡ n * transaction_length
  unfolding used_words
  length_used zero = refl
  length_used (suc n) = let h = length_used n in length-append (used_words b n) (triple_words (used_of b n)) ∙ omega arith

  pub length-body : length (body_words b) ≡ body_length
  unfolding body_words
  length-body = length-append (b.previous ∷ b.count ∷ []) (used_words b 4) ∙ ap (λ (k : ℕ). 2 + k) (length_used 4)
