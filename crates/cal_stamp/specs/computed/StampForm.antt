-- How the form of a timestamp is found: systemd.time(7), Parsing Timestamps.
use Rattle.std.specs.Prelude.{ℕ, ◌==◌, ◌&&◌, if◌then◌else◌, ℤ, pos, neg_ℤ, List, [], ◌∷◌, codes, Option, None, Some}
use Rattle.std.specs.List.{list_any, before_last, after_last}
use Rattle.std.specs.Str.{bytes_eq}
use Rattle.cal_bytes.specs.rules.Trim.{trim_matches}
use Rattle.cal_bytes.specs.rules.Separators.{is_blank, words}
use Rattle.cal_stamp.specs.rules.StampRule.{Form, civil, counted, earlier, from_today, later, nothing, present}

-- the text before the last blank, if the word after that blank is `word`
abbrev pub before_word : List ℕ → List ℕ → Option (List ℕ)
before_word word text =
    if list_any is_blank text && bytes_eq (after_last is_blank text) word then Some (before_last is_blank text) else None

-- how many days after today the named day is: 0 for `today`, -1 for `yesterday`, 1 for `tomorrow`; `None` for any other
-- word
unfoldable pub day_shift : List ℕ → Option ℤ
day_shift word =
    if bytes_eq word (codes "today") then Some (pos 0)
    else (if bytes_eq word (codes "yesterday") then Some (neg_ℤ (pos 1))
    else (if bytes_eq word (codes "tomorrow") then Some (pos 1) else None))

abbrev pub form_by_day : Option ℤ → List ℕ → List (List ℕ) → Form
form_by_day None w ws = civil (w ∷ ws)
form_by_day (Some shift) w ws = from_today shift ws

abbrev pub form_of_words : List (List ℕ) → Form
form_of_words [] = civil []
form_of_words (w ∷ ws) = form_by_day (day_shift w) w ws

-- the form of a text that doesn't end with a blank followed by `left`; the first argument is the part before the last
-- blank if `ago` follows this blank, and `None` otherwise
abbrev pub form_by_ago : Option (List ℕ) → List ℕ → Form
form_by_ago None text = form_of_words (words text)
form_by_ago (Some span) text = earlier span

-- the form of a text; the first argument is the part before the last blank if `left` follows this blank, and `None`
-- otherwise
abbrev pub form_by_left : Option (List ℕ) → List ℕ → Form
form_by_left None text = form_by_ago (before_word (codes "ago") text) text
form_by_left (Some span) text = later span

-- The form of a text that isn't empty or `now`, and doesn't begin with `+`, `-` or `@`. If the text ends with a blank
-- and `left` or `ago`, this last word decides. Otherwise the first word decides.
unfoldable pub form_by_end : List ℕ → Form
form_by_end text = form_by_left (before_word (codes "left") text) text

-- the first form that matches, for a text that has no leading or trailing blanks
abbrev pub form_of_solid : List ℕ → Form
form_of_solid [] = nothing
form_of_solid (b ∷ bs) =
    if bytes_eq (b ∷ bs) (codes "now") then present
    else (if b == 43 then later bs
    else (if b == 45 then earlier bs
    else (if b == 64 then counted bs
    else form_by_end (b ∷ bs))))

-- the first form that matches a text
unfoldable pub form_of : List ℕ → Form
form_of text = form_of_solid (trim_matches is_blank text)
