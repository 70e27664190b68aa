-- Lemmas on texts that several calls write: two calls one after the other, or the calls of a loop. `Puts` says what a
-- call that writes a text does to the sink, and what it returns.
use Rattle.std.proofs.Common.{◌≡◌, ℕ, List, [], ◌++◌, Result, Ok, Err, false, sym, ◌∙◌, subst}
use Rattle.std.proofs.KnownBytes.{Appends-nil}
use Rattle.std.proofs.lemmas.Bool.{false≢true}
use Rattle.std.proofs.lemmas.List.{append-nil}
use Rattle.std.specs.Prelude.{IsErr, IsOk}
use Rattle.cal_bytes.specs.rules.Writes.{Leaves}
use Rattle.cal_bytes.specs.rules.Puts.{Puts}
use Rattle.cal_bytes.specs.declared.bytes.Sink.{Ghosts}
use Rattle.cal_bytes.proofs.Pieces.{start, step, stop, finish, writes_err, respell}

-- No call has failed, and `rest`, the end of `text`, is still to be written.
pub record PutsUpTo {W : Type 0} (sink : Ghosts W) (old new : W) (rest text : List ℕ) : Type 0 where
  pub works : sink.is_failed new ≡ false
  pub leaves : Leaves (sink.written old) (sink.written new) rest text

module _ {W : Type 0} {sink : Ghosts W} where
  -- ## Two consecutive calls

  -- if the first of two calls fails, then `Puts` holds for both texts together, with any error as the result
  pub first_fails : {T E T' E' : Type 0} (a b : W) (first : Result T' E') (r : Result T E) (x y : List ℕ) → Puts sink a b first x → IsErr first → IsErr r → Puts sink a b r (x ++ y)
  first_fails a b (Ok u) r x y p failed is_err = absurd (false≢true failed)
  first_fails a b (Err e) r x y p failed is_err = record {
    failed = p.failed ∙ sym is_err;
    bytes = writes_err _ _ r (x ++ y) is_err (stop _ _ _ x y (x ++ y) (start _ (x ++ y)) p.bytes);
  }

  -- if the first of two calls succeeds, then `Puts` holds for both texts together, with the result of the second call
  pub second_ends : {T E T' E' : Type 0} (a b c : W) (first : Result T' E') (r : Result T E) (x y : List ℕ) → Puts sink a b first x → IsOk first → Puts sink b c r y → Puts sink a c r (x ++ y)
  second_ends a b c (Err e) r x y p worked q = absurd (false≢true worked)
  second_ends a b c (Ok u) r x y p worked q = record {
    failed = q.failed;
    bytes = finish _ _ _ y (x ++ y) r (step _ _ _ x y (x ++ y) (start _ (x ++ y)) p.bytes) q.bytes;
  }

  -- if `Puts` holds for the text `x`, and `y` is equal to `x`, then `Puts` holds for `y`
  pub text_respelled : {T E : Type 0} {a b : W} {r : Result T E} {x y : List ℕ} → Puts sink a b r x → x ≡ y → Puts sink a b r y
  text_respelled {a = a} {b = b} {r = r} p e = subst (λ (text : List ℕ). Puts sink a b r text) e p

  -- if `Puts` holds for the text `x`, it holds for `x` followed by the empty text
  pub last_ends : {T E : Type 0} (a b : W) (r : Result T E) (x : List ℕ) → Puts sink a b r x → Puts sink a b r (x ++ [])
  last_ends a b r x p = text_respelled p (sym (append-nil x))

  -- if no call has failed, then doing nothing is a successful call that writes the empty text
  pub puts_nothing : {T E : Type 0} {x : T} {a : W} → sink.is_failed a ≡ false → Puts {E = E} sink a a (Ok x) []
  puts_nothing {a = a} works = record { failed = works; bytes = Appends-nil (sink.written a) }

  -- ## Calls in a loop

  -- before the first call, all of the text is still to be written
  pub put_none : {a : W} {text : List ℕ} → sink.is_failed a ≡ false → PutsUpTo sink a a text text
  put_none {a = a} {text = text} works = record { works = works; leaves = start (sink.written a) text }

  -- if `x` is still to be written, and `y` is equal to `x`, then `y` is still to be written
  pub left_respelled : {a b : W} {x y text : List ℕ} → PutsUpTo sink a b x text → x ≡ y → PutsUpTo sink a b y text
  left_respelled {a = a} {b = b} {text = text} before e = subst (λ (left : List ℕ). PutsUpTo sink a b left text) e before

  -- if a call writes the next piece, then what follows this piece is still to be written
  pub put_next : {T E : Type 0} {u : T} {a b c : W} {left piece rest text : List ℕ} → left ≡ piece ++ rest → PutsUpTo sink a b left text → Puts {E = E} sink b c (Ok u) piece → PutsUpTo sink a c rest text
  put_next {piece = piece} {rest = rest} {text = text} split before p = record {
    works = p.failed;
    leaves = step _ _ _ piece rest text (respell _ _ _ _ text before.leaves split) p.bytes;
  }

  -- if a call fails to write the next piece, then `Puts` holds for the whole text, with any error as the result
  pub put_cut : {T E T' E' : Type 0} {e : E'} {a b c : W} {left piece text : List ℕ} {r : Result T E} (rest : List ℕ) → left ≡ piece ++ rest → IsErr r → PutsUpTo sink a b left text → Puts {T = T'} sink b c (Err e) piece → Puts sink a c r text
  put_cut {piece = piece} {text = text} {r = r} rest split is_err before p = record {
    failed = p.failed ∙ sym is_err;
    bytes = writes_err _ _ r text is_err (stop _ _ _ piece rest text (respell _ _ _ _ text before.leaves split) p.bytes);
  }

-- the lemmas that apply to consecutive calls
pub ruleset puts = (first_fails, second_ends, last_ends)
