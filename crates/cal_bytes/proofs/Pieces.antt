-- Lemmas on writing a text in pieces: if every piece is written, all of the text is written, and if writing a piece
-- fails, a prefix of the text is written. `Writes` says that a call has written all of a text if it succeeded, and a
-- prefix of the text if it failed.
use Rattle.std.proofs.Common.{◌≡◌, ℕ, List, [], ◌++◌, take, drop, Option, Result, Ok, Err, refl, sym, ap, ◌∙◌, append_assoc, subst}
use Rattle.std.proofs.KnownBytes.{Appends-nil, Appends-trans}
use Rattle.std.proofs.lemmas.List.{append-nil, take-append-drop}
use Rattle.std.specs.Prelude.{IsErr}
use Rattle.std.proofs.lemmas.Bool.{false≢true}
use Rattle.std.specs.Io.KnownBytes.{Appends}
use Rattle.cal_bytes.specs.rules.Writes.{AppendsFront, Writes, Leaves}

-- if a call appended `xs`, and `ys` is equal to `xs`, it appended `ys`
appends_respelled : (a b : Option (List ℕ)) (xs ys : List ℕ) → xs ≡ ys → Appends a b xs → Appends a b ys
appends_respelled a b xs ys e h = subst (Appends a b) e h

-- before the first piece, all of the text is still to be written
pub start : (a : Option (List ℕ)) (text : List ℕ) → Leaves a a text text
start a text = record { front = []; whole = refl; written = Appends-nil a }

-- if `piece` and `rest` are still to be written, and a call writes `piece`, then `rest` is still to be written
pub step : (a b c : Option (List ℕ)) (piece rest text : List ℕ) → Leaves a b (piece ++ rest) text → Appends b c piece → Leaves a c rest text
step a b c piece rest text l h = record {
  front = l.front ++ piece;
  whole = l.whole ∙ sym (append_assoc l.front piece rest);
  written = Appends-trans a b c l.front piece l.written h;
}

-- if `piece` and `rest` are still to be written, and a call writes a prefix of `piece`, then a prefix of the whole text
-- was written
pub stop : (a b c : Option (List ℕ)) (piece rest text : List ℕ) → Leaves a b (piece ++ rest) text → AppendsFront b c piece → AppendsFront a c text
stop a b c piece rest text l h = record {
  front = l.front ++ h.front;
  rest = h.rest ++ rest;
  whole = l.whole ∙ ap (λ p. l.front ++ (p ++ rest)) h.whole ∙ ap (λ q. l.front ++ q) (append_assoc h.front h.rest rest) ∙ sym (append_assoc l.front h.front (h.rest ++ rest));
  written = Appends-trans a b c l.front h.front l.written h.written;
}

-- if nothing is left to be written, all of the text was written
pub done : (a b : Option (List ℕ)) (text : List ℕ) → Leaves a b [] text → Appends a b text
done a b text l = appends_respelled a b l.front text (sym (l.whole ∙ append-nil l.front)) l.written

-- if `x` is still to be written, and `y` is equal to `x`, then `y` is still to be written
pub respell : (a b : Option (List ℕ)) (x y text : List ℕ) → Leaves a b x text → x ≡ y → Leaves a b y text
respell a b x y text l e = subst (λ (z : List ℕ). Leaves a b z text) e l

-- if `rest` is still to be written, and a call writes its first `n` bytes, then the bytes after them are still to be
-- written
pub step_taken : (a b c : Option (List ℕ)) (n : ℕ) (rest text : List ℕ) → Leaves a b rest text → Appends b c (take n rest) → Leaves a c (drop n rest) text
step_taken a b c n rest text l h = step a b c (take n rest) (drop n rest) text (respell a b rest (take n rest ++ drop n rest) text l (sym (take-append-drop n rest))) h

-- if `piece` is all that is left to be written, and `Writes` holds for `piece` and the result of a call, then `Writes`
-- holds for the whole text and this result
pub finish : {T E : Type 0} (a b c : Option (List ℕ)) (piece text : List ℕ) (r : Result T E) → Leaves a b piece text → Writes b c r piece → Writes a c r text
finish a b c piece text (Ok x) l h = done a c text (step a b c piece [] text (respell a b piece (piece ++ []) text l (sym (append-nil piece))) h)
finish a b c piece text (Err e) l h = stop a b c piece [] text (respell a b piece (piece ++ []) text l (sym (append-nil piece))) h

-- if the result is an error and a prefix of the text was written, then `Writes` holds for the text
pub writes_err : {T E : Type 0} (a c : Option (List ℕ)) (r : Result T E) (text : List ℕ) → IsErr r → AppendsFront a c text → Writes a c r text
writes_err a c (Ok x) text e h = absurd (false≢true e)
writes_err a c (Err e') text e h = h
