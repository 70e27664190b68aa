-- Lemmas on writing the members of documents.
use Rattle.std.proofs.Common.{◌≡◌, ℕ, List, [], ◌∷◌, ◌++◌, map, ap, ◌∙◌, string_bytes}
use Rattle.std.specs.Prelude.{String}
use Rattle.std.specs.declared.alloc.Global.{Global}
use Rattle.json.specs.Json.{string}
use Rattle.json.specs.Token.{Token, key}
use Rattle.json.specs.Tree.{json_tokens}
use Rattle.cal_timers_report.specs.rules.JsonParts.{list_of}

-- a member whose value is an array of these texts, if the array was written for an equal list
pub texts_put : (before : List Token) (name : List ℕ) (after : List Token) (written texts : List (String Global)) → written ≡ texts
    → after ≡ (before ++ key name ∷ []) ++ json_tokens (list_of string (map string_bytes written))
    → after ≡ (before ++ key name ∷ []) ++ json_tokens (list_of string (map string_bytes texts))
texts_put before name after written texts same put =
    put ∙ ap (λ list. (before ++ key name ∷ []) ++ json_tokens (list_of string (map string_bytes list))) same
