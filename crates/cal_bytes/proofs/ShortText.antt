-- Lemmas on the padding of numbers, and on appending pieces to a short text.
use Rattle.std.proofs.Common.{◌≡◌, ℕ, ◌≤◌, List, [], ◌∷◌, ◌++◌, take, replicate, ap, sym, ◌∙◌}
use Rattle.std.proofs.lemmas.List.{append-nil, append_assoc, take-replicate}
use Rattle.std.proofs.lemmas.List.Concat.{flat_map-append}
use Rattle.cal_bytes.specs.rules.Bytes.{joined}

-- if `n` is at most 8, the first `n` bytes of eight copies of `byte` are `n` copies of `byte`
pub taken : (n byte : ℕ) → n ≤ 8 → take n (replicate 8 byte) ≡ replicate n byte
taken n byte h = take-replicate n 8 byte h

-- `text` is `front` followed by `pieces` in order
pub record Pushed (front text : List ℕ) (pieces : List (List ℕ)) : Type 0 where
  pub is : text ≡ front ++ joined pieces

-- if `text` is `front` followed by `piece`, then `Pushed` holds for this piece alone
pub pushed_first : (front text piece : List ℕ) → text ≡ front ++ piece → Pushed front text (piece ∷ [])
pushed_first front text piece is = record { is = is ∙ ap (λ rest. front ++ rest) (sym (append-nil piece)) }

-- if `Pushed` holds for `text` and `pieces`, and `next` is `text` followed by `piece`, then `Pushed` holds for `next`
-- and the pieces with `piece` at the end
pub pushed_more : (front text next piece : List ℕ) (pieces : List (List ℕ)) → Pushed front text pieces → next ≡ text ++ piece → Pushed front next (pieces ++ piece ∷ [])
pushed_more front text next piece pieces before more = record {
  is = more ∙ ap (λ so_far. so_far ++ piece) before.is ∙ append_assoc front (joined pieces) piece
      ∙ ap (λ rest. front ++ rest) (sym (flat_map-append (λ p. p) pieces (piece ∷ []) ∙ ap (λ last. joined pieces ++ last) (append-nil piece)));
}
