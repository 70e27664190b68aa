-- What a request asks about, texts or a timer file, with each string as the list of its bytes.
use Rattle.std.specs.Prelude.{ℕ, List, [], map, slice_index_or}
use Rattle.std.specs.String.{string_bytes}
use Rattle.std.specs.Option.{option_map_or}
use Rattle.cal_request.specs.rules.Request.{Request}
use Rattle.cal_request.specs.rules.Verb.{text_verb}
use Rattle.cal_request.specs.declared.verb.Verb.{Verb}
use Rattle.cal_request.specs.declared.request_kind.RequestKind as declared_kind
use Rattle.cal_request.specs.declared.request_kind.RequestKind.TheVariants as kinds
use Rattle.cal_request.specs.declared.verb.TextVerb.{TextVerb}

-- the texts of a verb, or the path of a timer file
pub data RequestKind : Type 0 where
  for_texts : TextVerb → List (List ℕ) → RequestKind
  for_file : List ℕ → RequestKind

-- the path of the timer file, which is the only text of a request for the verb `timer`
abbrev pub timer_path : List (List ℕ) → List ℕ
timer_path texts = slice_index_or texts 0 []

-- the kind of a request with this verb and these texts
abbrev pub kind_by : Verb → List (List ℕ) → RequestKind
kind_by verb texts = option_map_or (λ taking. for_texts taking texts) (text_verb verb) (for_file (timer_path texts))

abbrev pub kind_of : Request → RequestKind
kind_of asked = kind_by asked.verb asked.texts

abbrev pub shown_kind : declared_kind.RequestKind → RequestKind
shown_kind (kinds.Texts verb texts) = for_texts verb (map string_bytes texts.now)
shown_kind (kinds.Timer path) = for_file path.now
