-- A lemma on what is written if standard output fails.
use Rattle.std.proofs.Common.{◌≡◌, ◌∙◌, ℕ, Bool, true, List, Option, Result, Ok, Err, ap, is_err, subst, sym}
use Rattle.cal_bytes.specs.rules.Writes.{AppendsFront, Writes}
use Rattle.cal_answers.specs.rules.Printed.{Printed}
use Rattle.cal_answers.specs.rules.Run.{Prints, WritesUnless, err_text, status_unless}

-- `WritesUnless` holds if `failed` says whether a call failed, and the call wrote all of the text, or a prefix of it if
-- it failed
writes_unless : {T E : Type 0} (written : Result T E) (failed : Bool) (old new : Option (List ℕ)) (text : List ℕ)
    → failed ≡ is_err written → Writes old new written text → WritesUnless failed old new text
writes_unless (Ok done) failed old new text is writes = subst (λ (b : Bool). WritesUnless b old new text) (sym is) writes
writes_unless (Err fault) failed old new text is writes = subst (λ (b : Bool). WritesUnless b old new text) (sym is) writes

pub cut_off : {S T E F : Type 0} (is_due : Bool) (status : ℕ) (printed : Printed) (written : Result S E) (lines : Result T F) (fault : E) (text more : List ℕ) (is_cut is_err_cut : Bool) (out out' err err' : Option (List ℕ))
    → status ≡ status_unless is_due true 1 → written ≡ Err fault → text ≡ printed.out → more ≡ err_text true printed.err
    → is_cut ≡ is_err written → Writes out out' written text → is_err_cut ≡ is_err lines → Writes err err' lines more
    → Prints is_due printed status is_cut is_err_cut out out' err err'
cut_off is_due status printed written lines fault text more is_cut is_err_cut out out' err err' ended is whole all failed writes err_failed err_writes =
    subst (λ (b : Bool). Prints is_due printed status b is_err_cut out out' err err') (sym (failed ∙ ap is_err is))
    (record {
      ended = ended;
      answer = subst (λ (t : List ℕ). AppendsFront out out' t) whole (subst (λ (r : Result _ _). Writes out out' r text) is writes);
      lines = subst (λ (t : List ℕ). WritesUnless is_err_cut err err' t) all (writes_unless lines is_err_cut err err' more err_failed err_writes);
    })
