use Rattle.std.proofs.Common.{arith, List, ap, length, ℕ, ◌++◌, ◌<◌, ◌≡◌, get_or, take, ◌+◌, ◌≤◌}
use Rattle.cal_bytes.proofs.short_text.push_all.Goals as goal
use Rattle.std.proofs.lemmas.List.{length-append}
use Rattle.std.proofs.lemmas.List.Folds.{length-flat_map-take}
use Rattle.std.specs.List.{flat_map}

-- if the texts of all items together fit into `cap` bytes after `front`, then the text of item `i` fits after `front`
-- and the texts of the items before it
next_fits : {A : Type 0} (f : A → List ℕ) (xs : List A) (i cap : ℕ) (d : A) (front text : List ℕ) → text ≡ front ++ flat_map f (take i xs) → i < length xs → length front + length (flat_map f xs) ≤ cap → length text + length (f (get_or xs i d)) ≤ cap
next_fits f xs i cap d front text is h fits = omega (arith, length-flat_map-take f xs i d h, ap length is, length-append front (flat_map f (take i xs)))

pub push-requires : goal.push-requires
push-requires c = next_fits (λ piece. piece.now) c.args.pieces.now c.loop-piece.piece-index 512 _ c.args.text.now.items c.loop-piece.text.items c.loop-piece.invariant (omega arith) c.requires
