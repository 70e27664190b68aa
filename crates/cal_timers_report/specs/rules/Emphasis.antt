-- The escape sequences of bold and red text (ECMA-48, Select Graphic Rendition).
use Rattle.std.specs.Prelude.{ℕ, List, [], ◌∷◌, ◌++◌, codes, if◌then◌else◌}
use Rattle.cal_timers_report.specs.declared.style.Style.{Style}
use Rattle.cal_timers_report.specs.declared.style.Emphasis.{Emphasis}
use Rattle.cal_timers_report.specs.declared.style.Emphasis.TheVariants.{Heading, Error}

-- the escape sequence `ESC [ parameters m`, which sets how the text after it is shown
abbrev pub rendition : List ℕ → List ℕ
rendition parameters = 27 ∷ (codes "[" ++ (parameters ++ codes "m"))

-- bold for headings; bold and red for errors
abbrev pub emphasis_begin : Emphasis → List ℕ
emphasis_begin Heading = rendition (codes "1")
emphasis_begin Error = rendition (codes "1;31")

-- what begins emphasized text: nothing if the style isn't bold
abbrev pub begin_text : Style → Emphasis → List ℕ
begin_text style emphasis = if style.is_bold then emphasis_begin emphasis else []

-- what ends emphasized text
abbrev pub end_text : Style → List ℕ
end_text style = if style.is_bold then rendition (codes "0") else []
