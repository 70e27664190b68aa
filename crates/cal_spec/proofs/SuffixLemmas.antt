-- Parsing a printed zone returns the same zone.
use Rattle.std.proofs.Common.{◌≡◌, ℕ, ℤ, ◌<◌, ◌≤◌, true, false, ◌&&◌, List, [], ◌∷◌, length, Some, refl, ap, arith, leb-true}
use Rattle.std.specs.Prelude.{nat_le}
use Rattle.std.specs.Char.{is_ascii_alphabetic}
use Rattle.std.specs.List.{list_all, list_any}
use Rattle.std.proofs.lemmas.Bool.{and_parts}
use Rattle.std.proofs.lemmas.Bool.Decides.{nat_tests}
use Rattle.cal_civil.specs.rules.OffsetText.{offset_text}
use Rattle.cal_civil.specs.rules.OffsetWord.{IsOffsetWord, begins_with_sign, is_sign}
use Rattle.cal_civil.specs.rules.ZoneName.{begins_with_letter, is_zone_byte, is_zone_name}
use Rattle.cal_civil.proofs.OffsetWordLemmas.{is_offset_byte, offset-bytes, offset-only, printed-word}
use Rattle.cal_bytes.specs.rules.Separators.{is_blank}
use Rattle.cal_spec.specs.rules.ZoneSuffix.{IsSuffix, ZoneSuffix, at_offset, of_name, suffix_text}
use Rattle.cal_spec.specs.computed.ParsedSuffix.{suffix_of}
use Rattle.cal_bytes.proofs.General.{clear_of}

-- `+` and `-` are not letters
sign_letter : (b : ℕ) → is_sign b ≡ true → is_ascii_alphabetic b ≡ false
sign_letter b h = grind (arith, nat_tests)

pub no_letter : (word : List ℕ) → begins_with_sign word ≡ true → begins_with_letter word ≡ false
no_letter [] h = absurd (cc)
no_letter (b ∷ bs) h = sign_letter b h

-- a word that begins with `+` or `-` is not the name of a zone
pub no_name : (word : List ℕ) → begins_with_sign word ≡ true → is_zone_name word ≡ false
unfolding is_zone_name
no_name word h = rw (no_letter word h) refl

-- parsing the word of a UTC offset returns this offset
pub offset_suffix : (word : List ℕ) (seconds : ℤ) → IsOffsetWord word seconds → suffix_of word ≡ Some (at_offset seconds)
unfolding suffix_of
offset_suffix word seconds h = rw (no_name word (offset-bytes word seconds h).2, offset-only word seconds h) refl

zone_no_blank : (b : ℕ) → is_zone_byte b ≡ true → is_blank b ≡ false
zone_no_blank b h = grind (arith, nat_tests)

offset_no_blank : (b : ℕ) → is_offset_byte b ≡ true → is_blank b ≡ false
offset_no_blank b h = grind (arith, nat_tests)

pub letter_some : (name : List ℕ) → begins_with_letter name ≡ true → 0 < length name
letter_some [] h = absurd (cc)
letter_some (b ∷ bs) h = omega arith

pub record IsSuffixWord (suffix : ZoneSuffix) : Type 0 where
  pub clear : list_any is_blank (suffix_text suffix) ≡ false
  pub some : 0 < length (suffix_text suffix)
  pub short : length (suffix_text suffix) ≤ 255
  pub back : suffix_of (suffix_text suffix) ≡ Some suffix

pub suffix_word : (suffix : ZoneSuffix) → IsSuffix suffix → IsSuffixWord suffix
unfolding suffix_of is_zone_name
suffix_word (of_name name) h =
    let long = and_parts (begins_with_letter name && list_all is_zone_byte name) (nat_le (length name) 255) h.0 in
    let parts = and_parts (begins_with_letter name) (list_all is_zone_byte name) long.0 in
    record {
      clear = clear_of is_zone_byte is_blank name zone_no_blank parts.1;
      some = letter_some name parts.0;
      short = leb-true (length name) 255 long.1;
      back = rw h.0 (ap (λ n. Some (of_name n)) h.1);
    }
suffix_word (at_offset seconds) h =
    let word = printed-word seconds h in
    let bytes = offset-bytes (offset_text seconds) seconds word in
    record {
      clear = clear_of is_offset_byte is_blank (offset_text seconds) offset_no_blank bytes.0;
      some = omega (arith, bytes.1);
      short = omega (arith, bytes.1);
      back = offset_suffix (offset_text seconds) seconds word;
    }
